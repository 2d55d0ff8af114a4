-- A change makes the next number and each next cookie at most one larger.
use Rattle.std.proofs.Common.{◌≡◌, ℕ, ◌+◌, ◌<◌, ◌≤◌, ◌==◌, Bool, true, false, ◌&&◌, ◌||◌, nat_le, eqb, ltb, cond, List, length, Option, None, Some, refl, sym, ◌∙◌, subst, arith}
use Rattle.std.specs.Prelude.{is_none}
use Rattle.std.proofs.lemmas.Bool.{and_parts, ltb-true}
use Rattle.std.specs.Option.{option_map_or}
use Rattle.std.specs.Ordering.{nat_cmp, eq_by_cmp}
use Rattle.std.specs.Cmp.{nat_cmp_total}
use Rattle.std.specs.FinMap.{FinMap, get, insert, remove, get-insert, get-remove}
use Rattle.nr_nfs_base.specs.declared.status.Status.{Status}
use Rattle.nr_nfs_base.specs.declared.status.Status.TheVariants.{Stale, Badhandle}
use Rattle.nr_nfs_base.specs.declared.time.Time.{Time}
use Rattle.nr_tree.specs.Entries.{Entry, entries_with, entries_without}
use Rattle.nr_tree.specs.Tree.{Tree, value_at, nodes_with_change, is_dir}
use Rattle.nr_tree.specs.Changes.{on_entries, on_bytes, next_cookie_of, node_with_entry, node_without_entry, node_with_link, node_without_link, node_with_new_name, node_with_size, node_with_bytes, node_with_metadata, tree_with_piece, tree_with_bytes, tree_with_size, tree_with_metadata, tree_with_node, nodes_with_name_dropped, tree_without_entry, tree_with_link, entry_at, tree_without_target, tree_with_entry_moved, tree_with_new_name}
use Rattle.nr_tree.specs.Steps.{IsBelow}
use Rattle.nr_tree.specs.Rules.{◌⇒◌, after, number_of_handle, node_of_handle, was_given, handle_rule}
use Rattle.nr_tree.specs.declared.node.Metadata.{Metadata}
use Rattle.nr_tree.specs.declared.node.Node.{Node}
use Rattle.nr_tree.specs.declared.node.Content.{Content}
use Rattle.nr_tree.specs.declared.node.Content.TheVariants.{Regular, Directory, Block, Character, Link, Socket, Fifo}

abbrev Nodes : Type 0
Nodes = FinMap nat_cmp Node

-- ===== nodes

-- the next cookie of a node is below a limit
abbrev IsLow : ℕ → Node → Type 0
IsLow limit node = next_cookie_of node.content < limit

-- one more entry
cookie_with : (name : List ℕ) (n : ℕ) (c : Content) → next_cookie_of (on_entries (λ d. entries_with d name n) c) ≤ next_cookie_of c + 1
cookie_with name n (Regular bytes) = omega arith
cookie_with name n (Directory entries) = omega arith
cookie_with name n (Block device) = omega arith
cookie_with name n (Character device) = omega arith
cookie_with name n (Link path) = omega arith
cookie_with name n Socket = omega arith
cookie_with name n Fifo = omega arith

low_with_entry : (limit : ℕ) (now : Time) (name : List ℕ) (n : ℕ) (b : Bool) (v : Node) → IsLow limit v → IsLow (limit + 1) (node_with_entry now name n b v)
low_with_entry limit now name n b v low = omega (arith, low, cookie_with name n v.content)

-- one entry less
cookie_without : (name : List ℕ) (c : Content) → next_cookie_of (on_entries (λ d. entries_without d name) c) ≡ next_cookie_of c
cookie_without name (Regular bytes) = refl
cookie_without name (Directory entries) = refl
cookie_without name (Block device) = refl
cookie_without name (Character device) = refl
cookie_without name (Link path) = refl
cookie_without name Socket = refl
cookie_without name Fifo = refl

low_without_entry : (limit : ℕ) (now : Time) (name : List ℕ) (b : Bool) (v : Node) → IsLow limit v → IsLow limit (node_without_entry now name b v)
low_without_entry limit now name b v low = omega (arith, low, cookie_without name v.content)

-- other bytes
cookie_on_bytes : (change : List ℕ → List ℕ) (c : Content) → next_cookie_of (on_bytes change c) ≡ next_cookie_of c
cookie_on_bytes change (Regular bytes) = refl
cookie_on_bytes change (Directory entries) = refl
cookie_on_bytes change (Block device) = refl
cookie_on_bytes change (Character device) = refl
cookie_on_bytes change (Link path) = refl
cookie_on_bytes change Socket = refl
cookie_on_bytes change Fifo = refl

low_on_bytes : (limit : ℕ) (change : List ℕ → List ℕ) (c : Content) → next_cookie_of c < limit → next_cookie_of (on_bytes change c) < limit
low_on_bytes limit change c low = omega (arith, low, cookie_on_bytes change c)

-- ===== maps

-- the next cookie of each node is below a limit
abbrev AllLow : ℕ → Nodes → Type 0
AllLow limit nodes = (n : ℕ) (node : Node) → get nodes n ≡ Some node → IsLow limit node

all_low_mono : (limit more : ℕ) (nodes : Nodes) → limit ≤ more → AllLow limit nodes → AllLow more nodes
all_low_mono limit more nodes le all n node e = let low : IsLow limit node = all n node e in omega (arith, le, low)

insert_at : (limit : ℕ) (b : Bool) (w node : Node) (o : Option Node) → cond b (Some w) o ≡ Some node → IsLow limit w → (o ≡ Some node → IsLow limit node) → IsLow limit node
insert_at limit true w node o e low k = let same : w ≡ node = cc in subst (IsLow limit) same low
insert_at limit false w node o e low k = k e

all_low_insert : (limit : ℕ) (nodes : Nodes) (k : ℕ) (w : Node) → AllLow limit nodes → IsLow limit w → AllLow limit (insert nodes k w)
all_low_insert limit nodes k w all low n node e =
    insert_at limit (eq_by_cmp nat_cmp n k) w node (get nodes n) (sym (get-insert nat_cmp_total nodes k w n) ∙ e) low (all n node)

remove_at : (limit : ℕ) (b : Bool) (node : Node) (o : Option Node) → cond b None o ≡ Some node → (o ≡ Some node → IsLow limit node) → IsLow limit node
remove_at limit true node o e k = absurd cc
remove_at limit false node o e k = k e

all_low_remove : (limit : ℕ) (nodes : Nodes) (k : ℕ) → AllLow limit nodes → AllLow limit (remove nodes k)
all_low_remove limit nodes k all n node e = remove_at limit (eq_by_cmp nat_cmp n k) node (get nodes n) (sym (get-remove nat_cmp_total nodes k n) ∙ e) (all n node)

-- a change of one node, by which the limit may rise
raise_by : (limit more : ℕ) (nodes : Nodes) (k : ℕ) (change : Node → Node) (o : Option Node) → get nodes k ≡ o → limit ≤ more → AllLow limit nodes → ((v : Node) → IsLow limit v → IsLow more (change v))
    → AllLow more (option_map_or (λ node. insert nodes k (change node)) o nodes)
raise_by limit more nodes k change None e le all step = all_low_mono limit more nodes le all
raise_by limit more nodes k change (Some v) e le all step = all_low_insert more nodes k (change v) (all_low_mono limit more nodes le all) (step v (all k v e))

all_low_raise : (limit more : ℕ) (nodes : Nodes) (k : ℕ) (change : Node → Node) → limit ≤ more → AllLow limit nodes → ((v : Node) → IsLow limit v → IsLow more (change v))
    → AllLow more (nodes_with_change nodes k change)
all_low_raise limit more nodes k change le all step = raise_by limit more nodes k change (get nodes k) refl le all step

-- a change of one node, by which no cookie rises
all_low_change : (limit : ℕ) (nodes : Nodes) (k : ℕ) (change : Node → Node) → AllLow limit nodes → ((v : Node) → IsLow limit v → IsLow limit (change v))
    → AllLow limit (nodes_with_change nodes k change)
all_low_change limit nodes k change all step = all_low_raise limit limit nodes k change (omega arith) all step

all_low_entry : (limit : ℕ) (nodes : Nodes) (d : ℕ) (now : Time) (name : List ℕ) (n : ℕ) (b : Bool) → AllLow limit nodes → AllLow (limit + 1) (nodes_with_change nodes d (node_with_entry now name n b))
all_low_entry limit nodes d now name n b all = all_low_raise limit (limit + 1) nodes d (node_with_entry now name n b) (omega arith) all (λ v low. low_with_entry limit now name n b v low)

all_low_no_entry : (limit : ℕ) (nodes : Nodes) (d : ℕ) (now : Time) (name : List ℕ) (b : Bool) → AllLow limit nodes → AllLow limit (nodes_with_change nodes d (node_without_entry now name b))
all_low_no_entry limit nodes d now name b all = all_low_change limit nodes d (node_without_entry now name b) all (λ v low. low_without_entry limit now name b v low)

-- a node whose entry is gone
dropped_as : (limit : ℕ) (nodes : Nodes) (now : Time) (h : ℕ) (v : Node) (b : Bool) → AllLow limit nodes → IsLow limit v → AllLow limit (cond b (remove nodes h) (insert nodes h (node_without_link now v)))
dropped_as limit nodes now h v true all low = all_low_remove limit nodes h all
dropped_as limit nodes now h v false all low = all_low_insert limit nodes h (node_without_link now v) all low

dropped_by : (limit : ℕ) (nodes : Nodes) (now : Time) (h : ℕ) (o : Option Node) → get nodes h ≡ o → AllLow limit nodes
    → AllLow limit (option_map_or (λ node. cond (is_dir node || nat_le node.metadata.links 1) (remove nodes h) (insert nodes h (node_without_link now node))) o nodes)
dropped_by limit nodes now h None e all = all
dropped_by limit nodes now h (Some v) e all = dropped_as limit nodes now h v (is_dir v || nat_le v.metadata.links 1) all (all h v e)

all_low_dropped : (limit : ℕ) (nodes : Nodes) (now : Time) (h : ℕ) → AllLow limit nodes → AllLow limit (nodes_with_name_dropped nodes now h)
all_low_dropped limit nodes now h all = dropped_by limit nodes now h (get nodes h) refl all

-- ===== trees

pub below_mono : (limit more : ℕ) (t : Tree) → limit ≤ more → IsBelow limit t → IsBelow more t
below_mono limit more t le below = record { next = omega (arith, le, below.next); cookies = all_low_mono limit more t.nodes le below.cookies }

pub below_next : (limit : ℕ) (t : Tree) → IsBelow limit t → IsBelow (limit + 1) t
below_next limit t below = below_mono limit (limit + 1) t (omega arith) below

-- the tree after a call, a refused one or not
pub below_after : (limit : ℕ) (t u : Tree) (o : Option Status) → IsBelow limit t → (o ≡ None → IsBelow (limit + 1) u) → IsBelow (limit + 1) (after o t u)
below_after limit t u None below done = done refl
below_after limit t u (Some s) below done = below_next limit t below

given_by : (b : Bool) (t : Tree) (h : List ℕ) → was_given t h ≡ b → cond b (is_none (node_of_handle t h) ⇒ Stale) (Some Badhandle) ≡ None → 1 < t.next
given_by true t h given p =
    let some : (ltb 0 (number_of_handle h) && ltb (number_of_handle h) t.next) ≡ true = (and_parts (eqb (length h) 8) _ given).1 in
    let parts : (ltb 0 (number_of_handle h) ≡ true) × (ltb (number_of_handle h) t.next ≡ true) = and_parts (ltb 0 (number_of_handle h)) _ some in
    omega (arith, ltb-true 0 (number_of_handle h) parts.0, ltb-true (number_of_handle h) t.next parts.1)
given_by false t h given p = absurd cc

-- if a handle names a node, the numbers 0 and 1 were given
pub below_handled : (limit : ℕ) (t : Tree) (h : List ℕ) → handle_rule t h ≡ None → IsBelow limit t → 2 < limit
below_handled limit t h p below = let some : 1 < t.next = given_by (was_given t h) t h refl p in omega (arith, some, below.next)

-- WRITE
below_piece : (limit : ℕ) (t : Tree) (now : Time) (n offset : ℕ) (piece : List ℕ) → IsBelow limit t → IsBelow limit (tree_with_piece t now n offset piece)
below_piece limit t now n offset piece below = record {
  next = below.next;
  cookies = all_low_change limit t.nodes n (node_with_bytes now offset piece) below.cookies (λ v low. low_on_bytes limit _ v.content low);
}

bytes_by : (limit : ℕ) (t done : Tree) (b : Bool) → IsBelow limit t → IsBelow limit done → IsBelow limit (cond b t done)
bytes_by limit t done true below good = below
bytes_by limit t done false below good = good

pub below_tree_with_bytes : (limit : ℕ) (t : Tree) (now : Time) (n offset : ℕ) (piece : List ℕ) → IsBelow limit t → IsBelow limit (tree_with_bytes t now n offset piece)
below_tree_with_bytes limit t now n offset piece below = bytes_by limit t (tree_with_piece t now n offset piece) (length piece == 0) below (below_piece limit t now n offset piece below)

-- SETATTR, CREATE of a file that is there
pub below_tree_with_size : (limit : ℕ) (t : Tree) (now : Time) (n size : ℕ) → IsBelow limit t → IsBelow limit (tree_with_size t now n size)
below_tree_with_size limit t now n size below = record {
  next = below.next;
  cookies = all_low_change limit t.nodes n (node_with_size now size) below.cookies (λ v low. low_on_bytes limit _ v.content low);
}

pub below_tree_with_metadata : (limit : ℕ) (t : Tree) (n : ℕ) (metadata : Metadata) → IsBelow limit t → IsBelow limit (tree_with_metadata t n metadata)
below_tree_with_metadata limit t n metadata below = record {
  next = below.next;
  cookies = all_low_change limit t.nodes n (node_with_metadata metadata) below.cookies (λ v low. low);
}

-- CREATE, MKDIR, SYMLINK, MKNOD
pub below_tree_with_node : (limit : ℕ) (t : Tree) (now : Time) (d : ℕ) (name : List ℕ) (node : Node) → next_cookie_of node.content < limit → IsBelow limit t → IsBelow (limit + 1) (tree_with_node t now d name node)
below_tree_with_node limit t now d name node low below = record {
  next = omega (arith, below.next);
  cookies = all_low_entry limit (insert t.nodes t.next node) d now name t.next (is_dir node) (all_low_insert limit t.nodes t.next node below.cookies low);
}

-- LINK
pub below_tree_with_link : (limit : ℕ) (t : Tree) (now : Time) (d : ℕ) (name : List ℕ) (h : ℕ) → IsBelow limit t → IsBelow (limit + 1) (tree_with_link t now d name h)
below_tree_with_link limit t now d name h below = record {
  next = omega (arith, below.next);
  cookies = all_low_entry limit (nodes_with_change t.nodes h (node_with_link now d)) d now name h false (all_low_change limit t.nodes h (node_with_link now d) below.cookies (λ v low. low));
}

-- REMOVE, RMDIR
pub below_tree_without_entry : (limit : ℕ) (t : Tree) (now : Time) (d : ℕ) (name : List ℕ) (h : ℕ) → IsBelow limit t → IsBelow limit (tree_without_entry t now d name h)
below_tree_without_entry limit t now d name h below = record {
  next = below.next;
  cookies = all_low_dropped limit (nodes_with_change t.nodes d (node_without_entry now name (value_at is_dir false t.nodes h))) now h
      (all_low_no_entry limit t.nodes d now name (value_at is_dir false t.nodes h) below.cookies);
}

-- RENAME
target_by : (limit : ℕ) (t : Tree) (now : Time) (d : ℕ) (name : List ℕ) (o : Option Entry) → IsBelow limit t → IsBelow limit (option_map_or (λ e. tree_without_entry t now d name e.number) o t)
target_by limit t now d name None below = below
target_by limit t now d name (Some e) below = below_tree_without_entry limit t now d name e.number below

below_target : (limit : ℕ) (t : Tree) (now : Time) (d : ℕ) (name : List ℕ) → IsBelow limit t → IsBelow limit (tree_without_target t now d name)
below_target limit t now d name below = target_by limit t now d name (entry_at t d name) below

below_entry_moved : (limit : ℕ) (t : Tree) (now : Time) (from : ℕ) (name : List ℕ) (to : ℕ) (name_to : List ℕ) (h : ℕ) → IsBelow limit t → IsBelow (limit + 1) (tree_with_entry_moved t now from name to name_to h)
below_entry_moved limit t now from name to name_to h below =
    let b : Bool = value_at is_dir false t.nodes h in
    let out : Nodes = nodes_with_change t.nodes from (node_without_entry now name b) in
    let put : Nodes = nodes_with_change out to (node_with_entry now name_to h b) in
    record {
      next = omega (arith, below.next);
      cookies = all_low_change (limit + 1) put h (node_with_new_name now to) (all_low_entry limit out to now name_to h b (all_low_no_entry limit t.nodes from now name b below.cookies)) (λ v low. low);
    }

pub below_tree_with_new_name : (limit : ℕ) (t : Tree) (now : Time) (from : ℕ) (name : List ℕ) (to : ℕ) (name_to : List ℕ) (h : ℕ) → IsBelow limit t → IsBelow (limit + 1) (tree_with_new_name t now from name to name_to h)
below_tree_with_new_name limit t now from name to name_to h below = below_entry_moved limit (tree_without_target t now to name_to) now from name to name_to h (below_target limit t now to name_to below)
