-- Entries that lead to live nodes, and those that are left of a directory's.
use Rattle.std.proofs.Common.{◌≡◌, ℕ, zero, suc, ◌+◌, ◌<◌, ◌≤◌, true, false, List, [], ◌∷◌, length, drop, Option, None, Some, refl, ap, sym, ◌∙◌, subst, arith}
use Rattle.std.proofs.lemmas.List.{length-drop}
use Rattle.std.specs.Prelude.{slice_get}
use Rattle.std.specs.Option.{option_map_or}
use Rattle.std.specs.FinMap.{get}
use Rattle.nr_tree.specs.Entries.{Entry, Entries, Each}
use Rattle.nr_tree.specs.Sane.{IsSane, skeleton}
use Rattle.nr_tree.specs.Tree.{Tree, entries_in, entries_of}
use Rattle.nr_tree.specs.Rules.{node_of_handle, number_of_handle}
use Rattle.nr_tree.specs.declared.node.Node.{Node}
use Rattle.nr_tree.specs.declared.node.Content.{Content}
use Rattle.nr_tree.specs.declared.node.Content.TheVariants.{Directory}
use Rattle.nr_tree.proofs.PassedRules.{got}
use Rattle.nr_ops_list.specs.private.Sizes.{size_in, size_of_name_in, AreLive}
use Rattle.nr_ops_list.specs.declared.listings.Detail.{Detail}
use Rattle.nr_ops_list.specs.declared.listings.Detail.TheVariants.{Names, Nodes}

-- the entries of a directory that a handle names
pub entries_live : (t : Tree) (h : List ℕ) (v : Node) (d : Entries) → IsSane t → node_of_handle t h ≡ Some v → v.content ≡ Directory d → AreLive t d.list
entries_live t h v d sane named is =
    let there : get t.nodes (number_of_handle h) ≡ Some v = got t h v named in
    let all : (skeleton t).entries (number_of_handle h) ≡ d.list = ap (λ (o : Option Node). option_map_or entries_in o []) there ∙ ap (λ (k : Content). entries_of k) is in
    subst (AreLive t) all (sane.skeleton.names_live (number_of_handle h))

live_size : (o : Option Node) → option_map_or (λ (node : Node). true) o false ≡ true → ◌≡◌ {A = ℕ} (option_map_or (λ (node : Node). 104) o 8) 104
live_size None live = absurd cc
live_size (Some v) live = refl

pub size_is : (t : Tree) (d : Detail) (e : Entry) → option_map_or (λ (node : Node). true) (get t.nodes e.number) false ≡ true → size_of_name_in d e.name ≡ size_in t d e
size_is t Names e live = refl
size_is t Nodes e live = omega (arith, live_size (get t.nodes e.number) live)

each_drop : (P : Entry → Type 0) (es : List Entry) (n : ℕ) → Each P es → Each P (drop n es)
each_drop P [] zero all = all
each_drop P [] (suc n) all = all
each_drop P (e ∷ es) zero all = all
each_drop P (e ∷ es) (suc n) all = each_drop P es n all.1

next_of : (xs : List Entry) (i : ℕ) (e : Entry) (rest : List Entry) → drop i xs ≡ e ∷ rest → (slice_get xs i ≡ Some e) × (drop (i + 1) xs ≡ rest)
next_of [] zero e rest is = absurd cc
next_of [] (suc i) e rest is = absurd cc
next_of (x ∷ xs) zero e rest is = (cc, cc)
next_of (x ∷ xs) (suc i) e rest is =
    let k : (slice_get xs i ≡ Some e) × (drop (i + 1) xs ≡ rest) = next_of xs i e rest is in
    let more : suc i + 1 ≡ suc (i + 1) = omega arith in
    (k.0, ap (λ (n : ℕ). drop n (x ∷ xs)) more ∙ k.1)

-- these are the entries from a place on, and they lead to live nodes
pub record AreFrom (t : Tree) (list : List Entry) (place : ℕ) (left : List Entry) : Type 0 where
  pub here : drop place list ≡ left
  pub live : AreLive t left

pub from_begins : (t : Tree) (list left : List Entry) (place : ℕ) → AreLive t list → left ≡ drop place list → AreFrom t list (place + 0) left
from_begins t list left place live is =
    let same : place ≡ place + 0 = omega arith in
    subst (λ (n : ℕ). AreFrom t list n left) same (record { here = sym is; live = subst (AreLive t) (sym is) (each_drop _ list place live) })

pub none_left : (t : Tree) (list left : List Entry) (place : ℕ) → AreFrom t list place left → left ≡ [] → length list ≤ place
none_left t list left place h none = omega (arith, length-drop place list, ap (λ (l : List Entry). length l) (h.here ∙ none))

pub some_size : (d : Detail) (name : List ℕ) → 0 < size_of_name_in d name
some_size Names name = omega arith
some_size Nodes name = omega arith

module _ (t : Tree) (list left new : List Entry) (place : ℕ) (e : Entry) (h : AreFrom t list place left) (is : left ≡ e ∷ new) where
  pub entry_here : slice_get list place ≡ Some e
  entry_here = (next_of list place e new (h.here ∙ is)).0

  pub is_within : place < length list
  is_within = omega (arith, length-drop place list, ap (λ (l : List Entry). length l) (h.here ∙ is))

  all_live : AreLive t (e ∷ new)
  all_live = subst (AreLive t) is h.live

  pub size_here : (d : Detail) → size_of_name_in d e.name ≡ size_in t d e
  size_here d = size_is t d e all_live.0

  from_next : AreFrom t list (place + 1) new
  from_next = record { here = (next_of list place e new (h.here ∙ is)).1; live = all_live.1 }

pub from_next_at : (t : Tree) (list left new : List Entry) (place count : ℕ) (e : Entry) → AreFrom t list (place + count) left → left ≡ e ∷ new → AreFrom t list (place + (count + 1)) new
from_next_at t list left new place count e h is =
    let same : place + count + 1 ≡ place + (count + 1) = omega arith in
    subst (λ (n : ℕ). AreFrom t list n new) same (from_next t list left new (place + count) e h is)
