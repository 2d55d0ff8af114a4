-- Where names lead in a tree, and in one in which they lead there too.
use Rattle.std.proofs.Common.{◌≡◌, ℕ, List, [], ◌∷◌, ◌++◌, Option, None, Some, refl, ap, ◌∙◌}
use Rattle.std.specs.Option.{option_and_then, option_map}
use Rattle.std.proofs.lemmas.Option.{same_Some}
use Rattle.nr_tree.specs.Rules.{node_of_handle}
use Rattle.nr_tree.specs.Tree.{Tree}
use Rattle.nr_tree.specs.declared.node.Content.{Content}
use Rattle.nr_tree.specs.declared.node.Node.{Node}
use Rattle.nr_pair_laws.specs.FilesAt.{content_along, content_at, handle_along, handle_in}

-- a path in two parts
pub along_append : (t : Tree) (dir : List ℕ) (before after : List (List ℕ))
    → handle_along t dir (before ++ after) ≡ option_and_then (λ (h : List ℕ). handle_along t h after) (handle_along t dir before)
along_append t dir [] after = refl
along_append t dir (name ∷ before) after = by (handle_in t dir name) (λ h. along_append t h before after)
  where
    by : (o : Option (List ℕ)) → ((h : List ℕ) → handle_along t h (before ++ after) ≡ option_and_then (λ (k : List ℕ). handle_along t k after) (handle_along t h before))
        → option_and_then (λ (h : List ℕ). handle_along t h (before ++ after)) o ≡ option_and_then (λ (h : List ℕ). handle_along t h after) (option_and_then (λ (h : List ℕ). handle_along t h before) o)
    by None rest = refl
    by (Some h) rest = rest h

-- one name more
pub along_name : (t : Tree) (dir : List ℕ) (before : List (List ℕ)) (name h g : List ℕ) → handle_along t dir before ≡ Some h → handle_in t h name ≡ Some g
    → handle_along t dir (before ++ name ∷ []) ≡ Some g
along_name t dir before name h g is found =
    along_append t dir before (name ∷ [])
    ∙ ap (λ (o : Option (List ℕ)). option_and_then (λ (k : List ℕ). handle_along t k (name ∷ [])) o) is
    ∙ ap (λ (o : Option (List ℕ)). option_and_then (λ (k : List ℕ). handle_along t k []) o) found

-- each name that leads somewhere leads there in the second tree too
abbrev pub Grows : Tree → Tree → Type 0
Grows t u = (dir name h : List ℕ) → handle_in t dir name ≡ Some h → handle_in u dir name ≡ Some h

pub along_grows : (t u : Tree) → Grows t u → (dir : List ℕ) (names : List (List ℕ)) (h : List ℕ) → handle_along t dir names ≡ Some h → handle_along u dir names ≡ Some h
along_grows t u grows dir [] h e = e
along_grows t u grows dir (name ∷ names) h e = by (handle_in t dir name) refl e (λ k. along_grows t u grows k names h)
  where
    by : (o : Option (List ℕ)) → handle_in t dir name ≡ o → option_and_then (λ (k : List ℕ). handle_along t k names) o ≡ Some h
        → ((k : List ℕ) → handle_along t k names ≡ Some h → handle_along u k names ≡ Some h) → option_and_then (λ (k : List ℕ). handle_along u k names) (handle_in u dir name) ≡ Some h
    by None is none rest = absurd cc
    by (Some k) is there rest = ap (λ (o : Option (List ℕ)). option_and_then (λ (g : List ℕ). handle_along u g names) o) (grows dir name k is) ∙ rest k there

-- each name leads to the same
abbrev pub SameNames : Tree → Tree → Type 0
SameNames t u = (dir name : List ℕ) → handle_in u dir name ≡ handle_in t dir name

pub along_same : (t u : Tree) → SameNames t u → (dir : List ℕ) (names : List (List ℕ)) → handle_along u dir names ≡ handle_along t dir names
along_same t u same dir [] = refl
along_same t u same dir (name ∷ names) =
    ap (λ (o : Option (List ℕ)). option_and_then (λ (k : List ℕ). handle_along u k names) o) (same dir name) ∙ by (handle_in t dir name) (λ k. along_same t u same k names)
  where
    by : (o : Option (List ℕ)) → ((k : List ℕ) → handle_along u k names ≡ handle_along t k names)
        → option_and_then (λ (k : List ℕ). handle_along u k names) o ≡ option_and_then (λ (k : List ℕ). handle_along t k names) o
    by None rest = refl
    by (Some k) rest = rest k

-- the content at the end of a path that leads to this handle
pub content_found : (t : Tree) (dir : List ℕ) (names : List (List ℕ)) (h : List ℕ) → handle_along t dir names ≡ Some h → content_along t dir names ≡ content_at t h
content_found t dir names h is = ap (λ (o : Option (List ℕ)). option_and_then (content_at t) o) is

-- the node that has a content
pub content_node : (t : Tree) (h : List ℕ) (c : Content) → content_at t h ≡ Some c → (v : Node) × ((node_of_handle t h ≡ Some v) × (v.content ≡ c))
content_node t h c e = by (node_of_handle t h) refl e
  where
    by : (o : Option Node) → node_of_handle t h ≡ o → option_map (λ (node : Node). node.content) o ≡ Some c → (v : Node) × ((node_of_handle t h ≡ Some v) × (v.content ≡ c))
    by None is none = absurd cc
    by (Some v) is some = (v, (is, same_Some v.content c some))
