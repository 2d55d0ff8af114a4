-- Where names lead, and what files hold, after a node was changed.
use Rattle.std.proofs.Common.{◌≡◌, ℕ, ◌-◌, ◌<◌, Bool, true, false, cond, eqb, List, [], length, replicate, Option, None, Some, refl, ap, sym, ◌∙◌, subst, arith, ne_eqb}
use Rattle.std.specs.Option.{option_and_then, option_map}
use Rattle.std.specs.Ordering.{nat_cmp, eq_by_cmp}
use Rattle.std.specs.FinMap.{get}
use Rattle.nr_nfs_base.specs.declared.time.Time.{Time}
use Rattle.nr_tree.specs.Bytes.{with_bytes_at, with_length}
use Rattle.nr_tree.specs.Changes.{node_with_bytes, node_with_size, on_bytes, tree_with_bytes, tree_with_piece, tree_with_size}
use Rattle.nr_tree.specs.Entries.{Entry, entry_of_name}
use Rattle.nr_tree.specs.Rules.{handle_of, is_dot, is_dot_dot, node_of_handle, number_of_handle}
use Rattle.nr_tree.specs.Tree.{Tree, entries_in, entries_of, nodes_with_change}
use Rattle.nr_tree.specs.declared.node.Content.{Content}
use Rattle.nr_tree.specs.declared.node.Content.TheVariants.{Regular, Directory, Block, Character, Link, Socket, Fifo}
use Rattle.nr_tree.specs.declared.node.Node.{Node}
use Rattle.nr_tree.proofs.NodeMaps.{get_changed, same_number}
use Rattle.nr_ops_list.specs.Lookup.{number_of_name}
use Rattle.nr_pair_laws.specs.FilesAt.{content_at}
use Rattle.nr_pair_laws.proofs.Paths.{SameNames, content_node}

abbrev pub changed : Tree → ℕ → (Node → Node) → Tree
changed t n change = record t { nodes = nodes_with_change t.nodes n change }

-- the node of each handle after a change of one node
pub node_changed : (t : Tree) (n : ℕ) (change : Node → Node) (h : List ℕ)
    → node_of_handle (changed t n change) h ≡ cond (eq_by_cmp nat_cmp (number_of_handle h) n) (option_map change (node_of_handle t h)) (node_of_handle t h)
node_changed t n change h = by (eqb (length h) 8)
  where
    q : ℕ
    q = number_of_handle h

    here : (b : Bool) → eq_by_cmp nat_cmp q n ≡ b → cond b (option_map change (get t.nodes n)) (get t.nodes q) ≡ cond b (option_map change (get t.nodes q)) (get t.nodes q)
    here true e = ap (λ (k : ℕ). option_map change (get t.nodes k)) (sym (same_number q n e))
    here false e = refl

    none : (b : Bool) → None ≡ cond b (option_map change None) None
    none true = refl
    none false = refl

    by : (b : Bool) → cond b (get (nodes_with_change t.nodes n change) q) None ≡ cond (eq_by_cmp nat_cmp q n) (option_map change (cond b (get t.nodes q) None)) (cond b (get t.nodes q) None)
    by true = get_changed t.nodes n change q ∙ here (eq_by_cmp nat_cmp q n) refl
    by false = none (eq_by_cmp nat_cmp q n)

-- ---- Names

-- A node whose parent and entries stay has the same names.
same_numbers : (d : ℕ) (name : List ℕ) (v w : Node) → w.parent ≡ v.parent → entries_in w ≡ entries_in v → number_of_name d name w ≡ number_of_name d name v
same_numbers d name v w parent entries =
    λ i. cond (is_dot name) (Some d) (cond (is_dot_dot name) (Some (parent i)) (option_map (λ (e : Entry). e.number) (entry_of_name name (entries i))))

found_in : (f : Node → Option ℕ) (change : Node → Node) → ((v : Node) → f (change v) ≡ f v) → (b : Bool) (o : Option Node)
    → option_and_then f (cond b (option_map change o) o) ≡ option_and_then f o
found_in f change same true None = refl
found_in f change same true (Some v) = same v
found_in f change same false o = refl

pub names_stay : (t : Tree) (n : ℕ) (change : Node → Node) → ((v : Node) → (change v).parent ≡ v.parent) → ((v : Node) → entries_in (change v) ≡ entries_in v) → SameNames t (changed t n change)
names_stay t n change parent entries dir name =
    let d = number_of_handle dir in
    ap (λ (o : Option Node). option_map handle_of (option_and_then (λ (v : Node). number_of_name d name v) o)) (node_changed t n change dir)
    ∙ ap (λ (o : Option ℕ). option_map handle_of o)
    (found_in (λ (v : Node). number_of_name d name v) change (λ v. same_numbers d name v (change v) (parent v) (entries v)) (eq_by_cmp nat_cmp d n) (node_of_handle t dir))

pub same_entries : (change : List ℕ → List ℕ) (c : Content) → entries_of (on_bytes change c) ≡ entries_of c
same_entries change (Regular bytes) = refl
same_entries change (Directory entries) = refl
same_entries change (Block device) = refl
same_entries change (Character device) = refl
same_entries change (Link path) = refl
same_entries change Socket = refl
same_entries change Fifo = refl

-- ---- Content

pub same_test : (n : ℕ) → eq_by_cmp nat_cmp n n ≡ true
same_test n = grind (arith)

-- the content that a handle's own node has after a change
pub content_changed : (t : Tree) (change : Node → Node) (h : List ℕ) (v : Node) → node_of_handle t h ≡ Some v → content_at (changed t (number_of_handle h) change) h ≡ Some (change v).content
content_changed t change h v is =
    ap (λ (o : Option Node). option_map (λ (node : Node). node.content) o)
    (node_changed t (number_of_handle h) change h
    ∙ ap (λ (b : Bool). cond b (option_map change (node_of_handle t h)) (node_of_handle t h)) (same_test (number_of_handle h))
    ∙ ap (λ (o : Option Node). option_map change o) is)

some_bytes : (t : Tree) (now : Time) (n offset : ℕ) (piece : List ℕ) → 0 < length piece → tree_with_bytes t now n offset piece ≡ changed t n (node_with_bytes now offset piece)
some_bytes t now n offset piece some =
    ap (λ (b : Bool). cond b t (tree_with_piece t now n offset piece)) (ne_eqb (length piece) 0 (λ e. omega (arith, e, some)))

-- a piece is written over the bytes of a file, and each name leads to the same
pub written_content : (t : Tree) (now : Time) (h bytes : List ℕ) (offset : ℕ) (piece : List ℕ) → content_at t h ≡ Some (Regular bytes) → 0 < length piece
    → content_at (tree_with_bytes t now (number_of_handle h) offset piece) h ≡ Some (Regular (with_bytes_at bytes offset piece))
written_content t now h bytes offset piece is some =
    let v = content_node t h (Regular bytes) is in
    ap (λ (u : Tree). content_at u h) (some_bytes t now (number_of_handle h) offset piece some)
    ∙ content_changed t (node_with_bytes now offset piece) h v.0 v.1.0
    ∙ ap (λ (c : Content). Some (on_bytes (λ (b : List ℕ). with_bytes_at b offset piece) c)) v.1.1

pub written_names : (t : Tree) (now : Time) (n offset : ℕ) (piece : List ℕ) → 0 < length piece → SameNames t (tree_with_bytes t now n offset piece)
written_names t now n offset piece some =
    subst (λ (u : Tree). SameNames t u) (sym (some_bytes t now n offset piece some))
    (names_stay t n (node_with_bytes now offset piece) (λ v. refl) (λ v. same_entries (λ (b : List ℕ). with_bytes_at b offset piece) v.content))

-- ---- A size

none_left : (bytes : List ℕ) → with_length bytes 0 ≡ []
none_left bytes = let none : 0 - length bytes ≡ 0 = omega arith in ap (λ (n : ℕ). replicate {A = ℕ} n 0) none

pub emptied_content : (t : Tree) (now : Time) (h bytes : List ℕ) → content_at t h ≡ Some (Regular bytes) → content_at (tree_with_size t now (number_of_handle h) 0) h ≡ Some (Regular [])
emptied_content t now h bytes is =
    let v = content_node t h (Regular bytes) is in
    content_changed t (node_with_size now 0) h v.0 v.1.0
    ∙ ap (λ (c : Content). Some (on_bytes (λ (b : List ℕ). with_length b 0) c)) v.1.1
    ∙ ap (λ (b : List ℕ). Some (Regular b)) (none_left bytes)

pub emptied_names : (t : Tree) (now : Time) (n : ℕ) → SameNames t (tree_with_size t now n 0)
emptied_names t now n = names_stay t n (node_with_size now 0) (λ v. refl) (λ v. same_entries (λ (b : List ℕ). with_length b 0) v.content)
