-- What a sane tree promises before a RENAME, and what the code makes of it.
use Rattle.std.proofs.Common.{◌≡◌, ℕ, ◌-◌, ◌<◌, ◌≤◌, ◌^◌, Bool, true, false, List, [], Option, None, Some, IfSome, refl, ap, sym, ◌∙◌, subst, arith}
use Rattle.std.specs.Prelude.{is_some}
use Rattle.std.specs.Option.{option_map, option_map_or}
use Rattle.std.specs.Ordering.{nat_cmp}
use Rattle.std.specs.FinMap.{FinMap, get}
use Rattle.nr_nfs_base.specs.declared.time.Time.{Time}
use Rattle.nr_tree.specs.Entries.{Entry, entry_of_name, list_without, entries_without}
use Rattle.nr_tree.specs.DirectoryGraph.{one_if, links_max}
use Rattle.nr_tree.specs.Tree.{Tree, value_at, nodes_with_change, is_dir, is_directory, entries_in}
use Rattle.nr_tree.specs.Sane.{IsSane, skeleton}
use Rattle.nr_tree.specs.private.Room.{HasRoomFor, HasEntryIn, HasEntryFor, IsSource}
use Rattle.nr_tree.specs.Steps.{IsBounded, IsFreeTarget, CanRename, is_dir_at, entries_at, links_at}
use Rattle.nr_tree.specs.Changes.{next_cookie_of, on_entries, node_with_entry, node_without_entry, node_with_new_name, nodes_with_name_dropped, entry_at, tree_without_entry, tree_with_entry_moved, tree_with_new_name}
use Rattle.nr_tree.specs.declared.node.Node.{Node}
use Rattle.nr_tree.specs.declared.node.Content.{Content}
use Rattle.nr_tree.specs.declared.node.Content.TheVariants.{Regular, Directory, Block, Character, Link, Socket, Fifo}
use Rattle.nr_tree.proofs.SkeletonChanges.{value_at_at, same_kind, one_less}
use Rattle.nr_tree.proofs.EntryRemoved.{has_entries}
use Rattle.nr_tree.proofs.Contents.{directory_at}
use Rattle.nr_tree.proofs.Removals.{removal}
use Rattle.nr_tree.proofs.Renames.{two_links, not_gone, still_found, sane_tree_with_new_name}
use Rattle.nr_tree.proofs.RemovalReady.{IsRemovable}
use Rattle.nr_tree.proofs.StepLemmas.{number_found, has_room, may_leave}

has_entry_by : (name : List ℕ) (v : Node) (c : Content) → v.content ≡ c → is_directory c ≡ true → is_some (entry_of_name name (entries_in v)) ≡ true → next_cookie_of v.content < 2 ^ 63 → HasEntryIn name v.content
has_entry_by name v (Directory d) e t found below =
    let here : is_some (entry_of_name name d.list) ≡ true = rw (e) at found in
    let cookie : d.next_cookie < 2 ^ 63 = rw (e) at below in
    rw (e) (here, cookie)
has_entry_by name v (Regular bytes) e t found below = absurd cc
has_entry_by name v (Block device) e t found below = absurd cc
has_entry_by name v (Character device) e t found below = absurd cc
has_entry_by name v (Link path) e t found below = absurd cc
has_entry_by name v Socket e t found below = absurd cc
has_entry_by name v Fifo e t found below = absurd cc

same_cookie : (name : List ℕ) (c : Content) → next_cookie_of (on_entries (λ d. entries_without d name) c) ≡ next_cookie_of c
same_cookie name (Directory d) = refl
same_cookie name (Regular bytes) = refl
same_cookie name (Block device) = refl
same_cookie name (Character device) = refl
same_cookie name (Link path) = refl
same_cookie name Socket = refl
same_cookie name Fifo = refl

at_most_one : (b : Bool) → one_if b ≤ 1
at_most_one true = omega arith
at_most_one false = omega arith

counted_by : (k l : ℕ) (was : Bool) → k ≡ l → 2 ≤ k → k ≤ links_max → (one_if was ≤ l) × (l < 2 ^ 31)
counted_by k l was same two few = (omega (arith, same, two, at_most_one was), omega (arith, same, few))

counted_left : (k l : ℕ) (b was : Bool) → k ≡ l → 2 ≤ k → k ≤ links_max → (one_if was ≤ l - one_if b) × (l - one_if b < 2 ^ 31)
counted_left k l b was same two few = (omega (arith, same, two, at_most_one was, at_most_one b), omega (arith, same, few))

module _ (t : Tree) (from : ℕ) (name : List ℕ) (to : ℕ) (name_to : List ℕ) (h : ℕ) (sane : IsSane t) (can : CanRename t from name to name_to h) where
  found : (e : Entry) × (entry_at t from name ≡ Some e) × (e.number ≡ h)
  found = number_found (entry_at t from name) h can.entry

  is : is_dir_at t from ≡ true
  is = has_entries (skeleton t) from name found.0 sane.skeleton found.1

  pub source : IfSome (get t.nodes from) (IsSource name)
  source =
      let v : (v : Node) × (get t.nodes from ≡ Some v) × (is_dir v ≡ true) = directory_at t.nodes from is in
      let two : 2 ≤ links_at t from = two_links (skeleton t) from sane.skeleton is in
      let links : links_at t from ≡ v.0.metadata.links = value_at_at (λ (node : Node). node.metadata.links) 0 t.nodes from v.0 v.1 in
      let here : is_some (entry_of_name name (entries_in v.0)) ≡ true = ap is_some (ap (entry_of_name name) (sym (value_at_at entries_in [] t.nodes from v.0 v.1)) ∙ found.1) in
      subst (λ (o : Option Node). IfSome o (IsSource name)) (sym v.1) (v.2, omega (arith, two, links), here)

  pub free_room : IsBounded t → entry_at t to name_to ≡ None → IfSome (get t.nodes to) (λ n. HasRoomFor name_to n)
  free_room bounded none = has_room t to name_to sane bounded can.dir (record { free = none; not_empty = can.not_empty; not_too_long = can.not_too_long })

  pub sane_rename : (now : Time) → IsSane (tree_with_new_name t now from name to name_to h)
  sane_rename now =
      subst (λ (k : ℕ). IsSane (tree_with_new_name t now from name to name_to k)) found.2
      (sane_tree_with_new_name t now from name to name_to found.0 sane found.1 (subst (λ (k : ℕ). CanRename t from name to name_to k) (sym found.2) can))

  module _ (g : Entry) (target : entry_at t to name_to ≡ Some g) where
    go : (g.number ≡ h → ⊥) × (is_dir_at t g.number ≡ true → entries_at t g.number ≡ [])
    go = subst (IsFreeTarget (skeleton t) h) target can.target

    leaves : IsRemovable t to g.number
    leaves = may_leave t to name_to g sane target go.1

    pub to_stays : to ≡ g.number → ⊥
    to_stays z = leaves.apart (sym z)

    pub from_stays : from ≡ g.number → ⊥
    from_stays = not_gone (skeleton t) from g.number name found.0 is found.1 go.1

    pub counted : IfSome (get t.nodes g.number) (λ n. 0 < n.metadata.links)
    counted = leaves.linked

    pub has_entry : (was : Bool) → IsBounded t → IfSome (get t.nodes to) (HasEntryFor name_to was)
    has_entry was bounded =
        let v : (v : Node) × (get t.nodes to ≡ Some v) × (is_dir v ≡ true) = directory_at t.nodes to can.dir in
        let links : links_at t to ≡ v.0.metadata.links = value_at_at (λ (node : Node). node.metadata.links) 0 t.nodes to v.0 v.1 in
        let here : is_some (entry_of_name name_to (entries_in v.0)) ≡ true = ap is_some (ap (entry_of_name name_to) (sym (value_at_at entries_in [] t.nodes to v.0 v.1)) ∙ target) in
        let k : (one_if was ≤ v.0.metadata.links) × (v.0.metadata.links < 2 ^ 31) =
        counted_by (links_at t to) v.0.metadata.links was links (two_links (skeleton t) to sane.skeleton can.dir) (sane.skeleton.links_limit to (sane.skeleton.dirs_live to can.dir)) in
        subst (λ (o : Option Node). IfSome o (HasEntryFor name_to was)) (sym v.1) (has_entry_by name_to v.0 v.0.content refl v.2 here (bounded.cookies to v.0 v.1), k.0, k.1)

    pub has_entry_left : (now : Time) (b was : Bool) → IsBounded t → to ≡ from → IfSome (get t.nodes to) (λ n. HasEntryFor name_to was (node_without_entry now name b n))
    has_entry_left now b was bounded z =
        let v : (v : Node) × (get t.nodes to ≡ Some v) × (is_dir v ≡ true) = directory_at t.nodes to can.dir in
        let w : Node = node_without_entry now name b v.0 in
        let links : links_at t to ≡ v.0.metadata.links = value_at_at (λ (node : Node). node.metadata.links) 0 t.nodes to v.0 v.1 in
        let es : value_at entries_in [] t.nodes to ≡ entries_in v.0 = value_at_at entries_in [] t.nodes to v.0 v.1 in
        let old : entry_of_name name (entries_in v.0) ≡ Some found.0 = ap (entry_of_name name) (sym es) ∙ ap (λ (d : ℕ). entry_of_name name (entries_at t d)) z ∙ found.1 in
        let other : entry_of_name name_to (entries_in v.0) ≡ Some g = ap (entry_of_name name_to) (sym es) ∙ target in
        let stays : entry_of_name name_to (list_without name (entries_in v.0)) ≡ Some g = still_found name_to name (entries_in v.0) g found.0 other old (λ y. go.0 (sym y ∙ found.2)) in
        let here : is_some (entry_of_name name_to (entries_in w)) ≡ true = ap is_some (ap (entry_of_name name_to) (one_less now name b v.0 v.0.content refl v.2) ∙ stays) in
        let cookie : next_cookie_of w.content ≡ next_cookie_of v.0.content = same_cookie name v.0.content in
        let low : next_cookie_of v.0.content < 2 ^ 63 = bounded.cookies to v.0 v.1 in
        subst (λ (o : Option Node). IfSome o (λ n. HasEntryFor name_to was (node_without_entry now name b n))) (sym v.1)
        (let k : (one_if was ≤ v.0.metadata.links - one_if b) × (v.0.metadata.links - one_if b < 2 ^ 31) =
        counted_left (links_at t to) v.0.metadata.links b was links (two_links (skeleton t) to sane.skeleton can.dir) (sane.skeleton.links_limit to (sane.skeleton.dirs_live to can.dir)) in
        (has_entry_by name_to w w.content refl (same_kind (λ d. entries_without d name) v.0.content ∙ v.2) here (subst (λ (k : ℕ). k < 2 ^ 63) (sym cookie) low), k.0, k.1))

    kind_stays : (now : Time) → value_at is_dir false (tree_without_entry t now to name_to g.number).nodes h ≡ value_at is_dir false t.nodes h
    kind_stays now = ((removal t now to name_to g sane target go.1).left.other h (λ z. go.0 (sym z))).1

    pub over_is : (now : Time) (nodes : FinMap nat_cmp Node)
        → nodes ≡ nodes_with_change (nodes_with_change (nodes_with_change (nodes_with_name_dropped (nodes_with_change t.nodes to (node_without_entry now name_to (value_at is_dir false t.nodes g.number))) now g.number) from (node_without_entry now name (value_at is_dir false t.nodes h))) to (node_with_entry now name_to h (value_at is_dir false t.nodes h))) h (node_with_new_name now to)
        → record t { nodes = nodes } ≡ tree_with_new_name t now from name to name_to h
    over_is now nodes made =
        ap (λ (m : FinMap nat_cmp Node). record t { nodes = m }) made
        ∙ ap (λ (b : Bool). record t { nodes = nodes_with_change (nodes_with_change (nodes_with_change (tree_without_entry t now to name_to g.number).nodes from (node_without_entry now name b)) to (node_with_entry now name_to h b)) h (node_with_new_name now to) }) (sym (kind_stays now))
        ∙ sym (ap (λ (o : Option Entry). tree_with_entry_moved (option_map_or (λ (e : Entry). tree_without_entry t now to name_to e.number) o t) now from name to name_to h) target)

  pub free_is : entry_at t to name_to ≡ None → (now : Time) (nodes : FinMap nat_cmp Node)
      → nodes ≡ nodes_with_change (nodes_with_change (nodes_with_change t.nodes from (node_without_entry now name (value_at is_dir false t.nodes h))) to (node_with_entry now name_to h (value_at is_dir false t.nodes h))) h (node_with_new_name now to)
      → record t { nodes = nodes } ≡ tree_with_new_name t now from name to name_to h
  free_is none now nodes made =
      ap (λ (m : FinMap nat_cmp Node). record t { nodes = m }) made
      ∙ sym (ap (λ (o : Option Entry). tree_with_entry_moved (option_map_or (λ (e : Entry). tree_without_entry t now to name_to e.number) o t) now from name to name_to h) none)

-- ===== for the code, which knows the number of the target

module _ (t : Tree) (from : ℕ) (name : List ℕ) (to : ℕ) (name_to : List ℕ) (h : ℕ) (sane : IsSane t) (can : CanRename t from name to name_to h)
    (n : ℕ) (hit : option_map (λ (e : Entry). e.number) (entry_at t to name_to) ≡ Some n) where
  target_entry : (g : Entry) × (entry_at t to name_to ≡ Some g) × (g.number ≡ n)
  target_entry = number_found (entry_at t to name_to) n hit

  pub target_counted : IfSome (get t.nodes n) (λ v. 0 < v.metadata.links)
  target_counted = subst (λ (k : ℕ). IfSome (get t.nodes k) (λ v. 0 < v.metadata.links)) target_entry.2 (counted t from name to name_to h sane can target_entry.0 target_entry.1)

  pub target_to : to ≡ n → ⊥
  target_to = subst (λ (k : ℕ). to ≡ k → ⊥) target_entry.2 (to_stays t from name to name_to h sane can target_entry.0 target_entry.1)

  pub target_from : from ≡ n → ⊥
  target_from = subst (λ (k : ℕ). from ≡ k → ⊥) target_entry.2 (from_stays t from name to name_to h sane can target_entry.0 target_entry.1)

  pub target_there : (was : Bool) → IsBounded t → IfSome (get t.nodes to) (HasEntryFor name_to was)
  target_there was bounded = has_entry t from name to name_to h sane can target_entry.0 target_entry.1 was bounded

  pub target_left : (now : Time) (b was : Bool) → IsBounded t → to ≡ from → IfSome (get t.nodes to) (λ m. HasEntryFor name_to was (node_without_entry now name b m))
  target_left now b was bounded z = has_entry_left t from name to name_to h sane can target_entry.0 target_entry.1 now b was bounded z

  pub target_over : (now : Time) (b : Bool) (nodes : FinMap nat_cmp Node) → b ≡ value_at is_dir false t.nodes h
      → nodes ≡ nodes_with_change (nodes_with_change (nodes_with_change (nodes_with_name_dropped (nodes_with_change t.nodes to (node_without_entry now name_to (value_at is_dir false t.nodes n))) now n) from (node_without_entry now name b)) to (node_with_entry now name_to h b)) h (node_with_new_name now to)
      → record t { nodes = nodes } ≡ tree_with_new_name t now from name to name_to h
  target_over now b nodes kind made =
      over_is t from name to name_to h sane can target_entry.0 target_entry.1 now nodes
      (made
      ∙ (λ i. nodes_with_change (nodes_with_change (nodes_with_change (nodes_with_name_dropped (nodes_with_change t.nodes to (node_without_entry now name_to (value_at is_dir false t.nodes (sym target_entry.2 i)))) now (sym target_entry.2 i)) from (node_without_entry now name (kind i))) to (node_with_entry now name_to h (kind i))) h (node_with_new_name now to)))

pub no_number : (o : Option Entry) → option_map (λ (e : Entry). e.number) o ≡ None → o ≡ None
no_number None e = refl
no_number (Some x) e = absurd cc
