-- After a change that was done a name leads to the new node, or to nothing.
use Rattle.std.proofs.Common.{◌≡◌, ℕ, ◌<◌, ◌^◌, Bool, true, false, cond, eqb, not, ◌||◌, List, [], length, take, Option, None, Some, Result, Ok, Err, refl, sym, ap, subst, ◌∙◌}
use Rattle.std.specs.Prelude.{is_none, is_some, nat_le, nat_lt}
use Rattle.std.specs.Option.{option_and_then, option_map, option_map_or}
use Rattle.std.specs.Cmp.{nat_cmp_total}
use Rattle.std.specs.Ordering.{nat_cmp}
use Rattle.std.specs.FinMap.{FinMap, get, get-insert, get-remove, insert, remove}
use Rattle.nr_rpc.specs.declared.cred.Cred.TheVariants as creds
use Rattle.nr_nfs_base.specs.Limits.{link_target_max}
use Rattle.nr_nfs_base.specs.declared.caller.Caller.{Caller}
use Rattle.nr_nfs_base.specs.declared.procedure.NfsProcedure.TheVariants as nfs
use Rattle.nr_nfs_base.specs.declared.set_attributes.SetAttributes.{SetAttributes}
use Rattle.nr_nfs_base.specs.declared.status.Status.{Status}
use Rattle.nr_nfs_base.specs.declared.status.Status.TheVariants.{Exist, Inval, Isdir, Noent, Notdir}
use Rattle.nr_nfs_base.specs.declared.time.Time.{Time}
use Rattle.nr_nfs_args.specs.declared.create.MkdirArgs.{MkdirArgs}
use Rattle.nr_nfs_args.specs.declared.remove.RemoveArgs.{RemoveArgs}
use Rattle.nr_nfs_args.specs.declared.special.SymlinkArgs.{SymlinkArgs}
use Rattle.nr_tree.specs.Changes.{node_with_entry, node_without_entry, node_without_link, nodes_with_name_dropped, tree_with_node, tree_without_entry}
use Rattle.nr_tree.specs.Entries.{Entry, NamesAreValid, entry_of_name}
use Rattle.nr_tree.specs.Replies.{wcc_data}
use Rattle.nr_tree.specs.Rules.{after, change_rules, first, handle_of, is_dot, is_dot_dot, is_dot_name, node_of_handle, number_of_handle, on}
use Rattle.nr_tree.specs.Sane.{IsSane, IsValidContent}
use Rattle.nr_tree.specs.Steps.{CanAddNode, is_dir_at}
use Rattle.nr_tree.specs.Tree.{Tree, entries_in, entries_of, is_dir, is_directory, nodes_with_change, value_at}
use Rattle.nr_tree.specs.declared.node.Content.{Content}
use Rattle.nr_tree.specs.declared.node.Content.TheVariants.{Block, Character, Directory, Fifo, Link, Regular, Socket}
use Rattle.nr_tree.specs.declared.node.Node.{Node}
use Rattle.nr_tree.specs.declared.rules.Space.{Space}
use Rattle.nr_tree.proofs.Contents.{gone_without}
use Rattle.nr_tree.proofs.NodeMaps.{get_changed, other_key}
use Rattle.nr_tree.proofs.PassedRules.{AllClear, all_clear, clear, got, handled, on_some, there}
use Rattle.nr_tree.proofs.SkeletonChanges.{one_less}
use Rattle.nr_tree.proofs.StepLemmas.{not_next}
use Rattle.nr_ops_dir.specs.Creation.{create_ok, empty_directory, mkdir_reply, mkdir_rules, mkdir_tree, new_directory, new_link, new_name_rules, symlink_reply, symlink_rules, symlink_tree}
use Rattle.nr_ops_dir.specs.Entries.{entry_rules, is_taken, number_of_entry}
use Rattle.nr_ops_dir.specs.Removal.{remove_of as removal_rules, remove_reply, remove_rules, remove_tree, tree_without_name}
use Rattle.nr_ops_dir.proofs.CanMake.{can_make_directory, can_make_link}
use Rattle.nr_ops_dir.proofs.NamesAfter.{named_after_addition}
use Rattle.nr_ops_list.specs.Lookup.{number_of_name}
use Rattle.nr_plain.specs.Journal.{state_of, tree_at}
use Rattle.nr_plain.specs.Setup.{caller_of, space_of, time_of}
use Rattle.nr_plain.proofs.SaneTrees.{tree_sane}
use Rattle.nr_client.specs.declared.client_end.ClientEnd.{ClientEnd}
use Rattle.nr_client.specs.declared.client_end.ClientEnd.TheVariants as client
use Rattle.nr_client.specs.Requests.{machine}
use Rattle.nr_pair_laws.specs.FilesAt.{handle_in}
use Rattle.nr_pair_laws.specs.ReadResults.{encoded_arguments, results_there}
use Rattle.nr_pair_laws.proofs.Changed.{same_test}
use Rattle.nr_pair_laws.proofs.Created.{entry_leads, handle_node}
use Rattle.nr_pair_laws.proofs.Results.{answer_done}
use Rattle.nr_text_laws.specs.CommandTexts.{mkdir_of, parent_of, remove_of, silent, symlink_of, within_target}
use Rattle.nr_text_laws.specs.NamesAfter.{HasNode, MadeDirectoriesAreThere, MadeLinksAreThere, RemovedNamesAreGone}
use Rattle.nr_text_laws.proofs.Finding.{value_on}
use Rattle.nr_text_laws.proofs.MadeOf.{value_made}
use Rattle.nr_text_laws.proofs.Replies.{none_of}

either : (a b : Bool) → (a || b) ≡ false → (a ≡ false) × (b ≡ false)
either false b e = (refl, e)
either true b e = absurd cc

eight_by : (b : Bool) (o : Option Node) (v : Node) → cond b o None ≡ Some v → b ≡ true
eight_by true o v e = refl
eight_by false o v e = absurd cc

eight : (t : Tree) (dir : List ℕ) (v : Node) → node_of_handle t dir ≡ Some v → eqb (length dir) 8 ≡ true
eight t dir v is = eight_by (eqb (length dir) 8) _ v is

-- ---- A node more

-- a name that a new node may have: its directory has a handle of eight bytes, and it is neither . nor ..
new_name : (t : Tree) (c : Caller) (dir name : List ℕ) (a : SetAttributes) → first (new_name_rules t c dir name a) ≡ None → (eqb (length dir) 8 ≡ true) × (is_dot_name name ≡ false)
new_name t c dir name a none =
    let all : AllClear (new_name_rules t c dir name a) = all_clear (new_name_rules t c dir name a) none in
    let entry : AllClear (entry_rules t c dir name) = all_clear (entry_rules t c dir name) all.0 in
    let v = handled t dir entry.0 in
    (eight t dir v.0 v.1, (either (is_dot_name name) (is_some (number_of_entry t (number_of_handle dir) name)) (clear (is_taken t (number_of_handle dir) name) Exist all.1.0)).0)

new_node : (t : Tree) (now : Time) (dir name : List ℕ) (node : Node) → IsSane t → t.next < 2 ^ 64 → CanAddNode t (number_of_handle dir) name node → eqb (length dir) 8 ≡ true → is_dot_name name ≡ false
    → HasNode (tree_with_node t now (number_of_handle dir) name node) (dir, name) node.content
new_node t now dir name node sane below can long dots = record {
  number = t.next;
  leads = entry_leads u dir name t.next long dots (named_after_addition t now d name node sane can);
  holds = ap (λ (o : Option Node). option_map (λ (v : Node). v.content) o) (handle_node u t.next below ∙ stands);
}
  where
    d : ℕ
    d = number_of_handle dir

    u : Tree
    u = tree_with_node t now (number_of_handle dir) name node

    change : Node → Node
    change = node_with_entry now name t.next (is_dir node)

    stands : get (tree_with_node t now (number_of_handle dir) name node).nodes t.next ≡ Some node
    stands =
        get_changed (insert t.nodes t.next node) d change t.next
        ∙ ap (λ (b : Bool). cond b (option_map change (get (insert t.nodes t.next node) d)) (get (insert t.nodes t.next node) t.next)) (other_key t.next d (λ e. not_next t d sane can.directory (sym e)))
        ∙ get-insert nat_cmp_total t.nodes t.next node t.next
        ∙ ap (λ (b : Bool). cond b (Some node) (get t.nodes t.next)) (same_test t.next)

made_directory : (t : Tree) (c : Caller) (space : Space) (now : Time) (a : MkdirArgs) (text : List ℕ) → IsSane t → t.next < 2 ^ 64 → silent (mkdir_reply t c space now a) ≡ Ok text
    → HasNode (mkdir_tree t c space now a) (a.dir, a.name) empty_directory
made_directory t c space now a text sane below is =
    let d = value_made none_of (mkdir_reply t c space now a) text is in
    let none = (answer_done (first (mkdir_rules t c space a)) (λ s. wcc_data t t a.dir) (create_ok t (mkdir_tree t c space now a) a.dir a.name) d.0 d.1.0).0 in
    let all : AllClear (mkdir_rules t c space a) = all_clear (mkdir_rules t c space a) none in
    let name = new_name t c a.dir a.name a.attributes all.0 in
    subst (λ (u : Tree). HasNode u (a.dir, a.name) empty_directory)
    (sym (ap (λ (o : Option Status). after o t (tree_with_node t now (number_of_handle a.dir) a.name (new_directory c now a))) none))
    (new_node t now a.dir a.name (new_directory c now a) sane below (can_make_directory t c space now a none) name.0 name.1)

made_link : (t : Tree) (c : Caller) (space : Space) (now : Time) (a : SymlinkArgs) (text : List ℕ) → IsSane t → t.next < 2 ^ 64 → silent (symlink_reply t c space now a) ≡ Ok text
    → HasNode (symlink_tree t c space now a) (a.dir, a.name) (Link a.path)
made_link t c space now a text sane below is =
    let d = value_made none_of (symlink_reply t c space now a) text is in
    let none = (answer_done (first (symlink_rules t c space a)) (λ s. wcc_data t t a.dir) (create_ok t (symlink_tree t c space now a) a.dir a.name) d.0 d.1.0).0 in
    let all : AllClear (symlink_rules t c space a) = all_clear (symlink_rules t c space a) none in
    let name = new_name t c a.dir a.name a.attributes all.0 in
    subst (λ (u : Tree). HasNode u (a.dir, a.name) (Link a.path))
    (sym (ap (λ (o : Option Status). after o t (tree_with_node t now (number_of_handle a.dir) a.name (new_link c now a))) none))
    (new_node t now a.dir a.name (new_link c now a) sane below (can_make_link t c space now a none) name.0 name.1)

-- ---- A name less

-- a node that isn't the one whose name is dropped stays as it is
dropped_other : (nodes : FinMap nat_cmp Node) (now : Time) (h q : ℕ) → (q ≡ h → ⊥) → get (nodes_with_name_dropped nodes now h) q ≡ get nodes q
dropped_other nodes now h q other = by (get nodes h)
  where
    on_test : (b : Bool) (x : Node) → get (cond b (remove nodes h) (insert nodes h (node_without_link now x))) q ≡ get nodes q
    on_test true x = get-remove nat_cmp_total nodes h q ∙ ap (λ (b : Bool). cond b None (get nodes q)) (other_key q h other)
    on_test false x = get-insert nat_cmp_total nodes h (node_without_link now x) q ∙ ap (λ (b : Bool). cond b (Some (node_without_link now x)) (get nodes q)) (other_key q h other)

    by : (o : Option Node) → get (option_map_or (λ (x : Node). cond (is_dir x || nat_le x.metadata.links 1) (remove nodes h) (insert nodes h (node_without_link now x))) o nodes) q ≡ get nodes q
    by None = refl
    by (Some x) = on_test (is_dir x || nat_le x.metadata.links 1) x

not_false : (b : Bool) → not b ≡ false → b ≡ true
not_false true e = refl
not_false false e = absurd cc

names_valid : (c : Content) → is_directory c ≡ true → IsValidContent c → NamesAreValid (entries_of c)
names_valid (Directory entries) is valid = valid.1
names_valid (Regular bytes) is valid = absurd cc
names_valid (Block device) is valid = absurd cc
names_valid (Character device) is valid = absurd cc
names_valid (Link path) is valid = absurd cc
names_valid Socket is valid = absurd cc
names_valid Fifo is valid = absurd cc

-- a name that no entry has leads to nothing
no_entry : (d : ℕ) (name : List ℕ) (v : Node) → is_dot_name name ≡ false → entry_of_name name (entries_in v) ≡ None → number_of_name d name v ≡ None
no_entry d name v dots none =
    let both = either (is_dot name) (is_dot_dot name) dots in
    ap (λ (b : Bool). cond b (Some d) (cond (is_dot_dot name) (Some v.parent) (option_map (λ (e : Entry). e.number) (entry_of_name name (entries_in v))))) both.0
    ∙ ap (λ (b : Bool). cond b (Some v.parent) (option_map (λ (e : Entry). e.number) (entry_of_name name (entries_in v)))) both.1
    ∙ ap (λ (o : Option Entry). option_map (λ (e : Entry). e.number) o) none

removed : (t : Tree) (c : Caller) (space : Space) (now : Time) (a : RemoveArgs) (text : List ℕ) → IsSane t → silent (remove_reply t c space now a) ≡ Ok text → handle_in (remove_tree t c space now a) a.dir a.name ≡ None
removed t c space now a text sane is =
    let r = value_made none_of (remove_reply t c space now a) text is in
    let none = (answer_done (first (remove_rules t c space a)) (λ s. wcc_data t t a.dir) (wcc_data t (remove_tree t c space now a) a.dir) r.0 r.1.0).0 in
    let all : AllClear (remove_rules t c space a) = all_clear (remove_rules t c space a) none in
    let entry : AllClear (entry_rules t c a.dir a.name) = all_clear (entry_rules t c a.dir a.name) all.0 in
    let dots = clear (is_dot_name a.name) Inval all.1.0 in
    let d : ℕ = number_of_handle a.dir in
    let n = there (number_of_entry t d a.name) (clear (is_none (number_of_entry t d a.name)) Noent all.1.1.0) in
    let rules : AllClear (removal_rules t space n.0) = on_some (number_of_entry t d a.name) n.0 (removal_rules t space) n.1 all.1.1.1 in
    let file : is_dir_at t n.0 ≡ false = clear (is_dir_at t n.0) Isdir rules.0 in
    let v = handled t a.dir entry.0 in
    let here : get t.nodes d ≡ Some v.0 = got t a.dir v.0 v.1 in
    let of_dir : AllClear (change_rules c v.0) =
    all_clear (change_rules c v.0) (ap (λ (o : Option Node). first (on o (change_rules c))) (sym here) ∙ entry.1.1.0) in
    let is_a_dir : is_dir v.0 ≡ true = not_false (is_dir v.0) (clear (not (is_dir v.0)) Notdir of_dir.0) in
    let dir_at : is_dir_at t d ≡ true = ap (λ (o : Option Node). option_map_or is_dir o false) here ∙ is_a_dir in
    let other : d ≡ n.0 → ⊥ = (λ same. let wrong : true ≡ false = sym dir_at ∙ ap (λ (k : ℕ). is_dir_at t k) same ∙ file in cc) in
    let change : Node → Node = node_without_entry now a.name (value_at is_dir false t.nodes n.0) in
    let stands : get (tree_without_entry t now d a.name n.0).nodes d ≡ Some (change v.0) =
    dropped_other (nodes_with_change t.nodes d change) now n.0 d other ∙ get_changed t.nodes d change d ∙ ap (λ (b : Bool). cond b (option_map change (get t.nodes d)) (get t.nodes d)) (same_test d)
    ∙ ap (λ (o : Option Node). option_map change o) here in
    let gone : entry_of_name a.name (entries_in (change v.0)) ≡ None =
    ap (λ (l : List Entry). entry_of_name a.name l) (one_less now a.name (value_at is_dir false t.nodes n.0) v.0 v.0.content refl is_a_dir)
    ∙ gone_without a.name (entries_in v.0) (names_valid v.0.content is_a_dir (sane.contents d v.0 here)) in
    let tree : remove_tree t c space now a ≡ tree_without_entry t now d a.name n.0 =
    ap (λ (o : Option Status). after o t (tree_without_name t now a.dir a.name)) none ∙ ap (λ (o : Option ℕ). option_map_or (λ (k : ℕ). tree_without_entry t now d a.name k) o t) n.1 in
    ap (λ (u : Tree). handle_in u a.dir a.name) tree
    ∙ ap (λ (b : Bool). option_map handle_of (option_and_then (λ (x : Node). number_of_name d a.name x) (cond b (get (tree_without_entry t now d a.name n.0).nodes d) None))) (eight t a.dir v.0 v.1)
    ∙ ap (λ (o : Option Node). option_map handle_of (option_and_then (λ (x : Node). number_of_name d a.name x) o)) stands
    ∙ ap (λ (o : Option ℕ). option_map handle_of o) (no_entry d a.name (change v.0) dots gone)

-- ---- The commands

within : (b : Bool) (r : Result (List ℕ) ClientEnd) (text : List ℕ) → cond b (Err (client.Budget link_target_max)) r ≡ Ok text → r ≡ Ok text
within true r text is = absurd (let wrong : ◌≡◌ {A = Result (List ℕ) ClientEnd} (Err (client.Budget link_target_max)) (Ok text) = is in cc)
within false r text is = is

pub made_directories_are_there_lem : MadeDirectoriesAreThere
made_directories_are_there_lem s J from uid gid export path text c sane fits =
    let k = c.of_trees.last in
    let m = c.of_trees.moment in
    let at = value_on (parent_of s.parameters.export export path (caller_of (creds.Sys 0 machine uid gid [])) (λ i. tree_at s J (c.of_trees.places i)))
    (λ at. silent (results_there s J k m uid gid nfs.Mkdir (mkdir_of at))) text (sym c.of_trees.is) in
    record {
      at = at.0;
      is_found = at.1.0;
      holds = subst (λ (u : Tree). HasNode u at.0 empty_directory) (sym (c.changed at.0 text at.1.0 refl))
          (made_directory (tree_at s J k) (caller_of (creds.Sys 0 machine uid gid [])) (space_of s.parameters (state_of s (take k J)) (encoded_arguments nfs.Mkdir (mkdir_of at.0))) (time_of m) (mkdir_of at.0) text
          (tree_sane s J k sane) (fits k) at.1.1);
    }

pub made_links_are_there_lem : MadeLinksAreThere
made_links_are_there_lem s J from uid gid export path target text c sane fits =
    let k = c.of_trees.last in
    let m = c.of_trees.moment in
    let at = value_on (parent_of s.parameters.export export path (caller_of (creds.Sys 0 machine uid gid [])) (λ i. tree_at s J (c.of_trees.places i)))
    (λ at. within_target target (silent (results_there s J k m uid gid nfs.Symlink (symlink_of target at)))) text (sym c.of_trees.is) in
    record {
      at = at.0;
      is_found = at.1.0;
      holds = subst (λ (u : Tree). HasNode u at.0 (Link target)) (sym (c.changed at.0 text at.1.0 refl))
          (made_link (tree_at s J k) (caller_of (creds.Sys 0 machine uid gid [])) (space_of s.parameters (state_of s (take k J)) (encoded_arguments nfs.Symlink (symlink_of target at.0))) (time_of m) (symlink_of target at.0) text
          (tree_sane s J k sane) (fits k) (within (nat_lt link_target_max (length target)) (silent (results_there s J k m uid gid nfs.Symlink (symlink_of target at.0))) text at.1.1));
    }

pub removed_names_are_gone_lem : RemovedNamesAreGone
removed_names_are_gone_lem s J from uid gid export path text c sane =
    let k = c.of_trees.last in
    let m = c.of_trees.moment in
    let at = value_on (parent_of s.parameters.export export path (caller_of (creds.Sys 0 machine uid gid [])) (λ i. tree_at s J (c.of_trees.places i)))
    (λ at. silent (results_there s J k m uid gid nfs.Remove (remove_of at))) text (sym c.of_trees.is) in
    record {
      at = at.0;
      is_found = at.1.0;
      holds = ap (λ (u : Tree). handle_in u at.0.0 at.0.1) (c.changed at.0 text at.1.0 refl)
          ∙ removed (tree_at s J k) (caller_of (creds.Sys 0 machine uid gid [])) (space_of s.parameters (state_of s (take k J)) (encoded_arguments nfs.Remove (remove_of at.0))) (time_of m) (remove_of at.0) text (tree_sane s J k sane) at.1.1;
    }
