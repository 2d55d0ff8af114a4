-- What a name leads to after a change.
use Rattle.std.proofs.Common.{◌≡◌, ℕ, ◌+◌, Bool, true, false, cond, List, [], ◌∷◌, ◌++◌, Option, None, Some, Result, Ok, Err, IfOk, refl, ap, sym, ◌∙◌}
use Rattle.std.specs.Option.{option_map, option_map_or}
use Rattle.std.specs.Cmp.Lexicographic.{nat_list_eq_equiv}
use Rattle.std.specs.Ordering.{nat_cmp}
use Rattle.std.specs.FinMap.{FinMap, get, insert}
use Rattle.nr_nfs_base.specs.declared.time.Time.{Time}
use Rattle.nr_nfs_base.specs.declared.caller.Caller.{Caller}
use Rattle.nr_nfs_base.specs.declared.status.Status.{Status}
use Rattle.nr_nfs_base.specs.declared.status_union.StatusUnion.{StatusUnion}
use Rattle.nr_nfs_base.specs.declared.status_union.StatusUnion.TheVariants.{Done, Failed}
use Rattle.nr_nfs_base.specs.declared.weak_cache.WccData.{WccData}
use Rattle.nr_nfs_args.specs.declared.create.CreateHow.{CreateHow}
use Rattle.nr_nfs_args.specs.declared.create.CreateArgs.{CreateArgs}
use Rattle.nr_nfs_res.specs.declared.create.CreateOk.{CreateOk}
use Rattle.nr_tree.specs.declared.node.Node.{Node}
use Rattle.nr_tree.specs.declared.node.Content.{Content}
use Rattle.nr_tree.specs.declared.node.Content.TheVariants.{Regular, Directory, Block, Character, Link, Socket, Fifo}
use Rattle.nr_tree.specs.Entries.{Entry, is_name, entry_of_name}
use Rattle.nr_tree.specs.DirectoryGraph.{DirectoryGraph}
use Rattle.nr_tree.specs.Tree.{Tree, value_at, nodes_with_change, is_dir, entries_in, entries_of}
use Rattle.nr_tree.specs.Sane.{IsSane}
use Rattle.nr_tree.specs.Steps.{CanAddNode, entries_at}
use Rattle.nr_tree.specs.Changes.{on_bytes, node_with_size, tree_with_node, tree_with_size}
use Rattle.nr_tree.specs.Rules.{number_of_handle, handle_of, first, after, answer}
use Rattle.nr_tree.specs.Replies.{wcc_data, attributes_of_number}
use Rattle.nr_tree.proofs.Lists.{set_here_lem, set_other}
use Rattle.nr_tree.proofs.SkeletonChanges.{value_at_insert, value_at_metadata, with_change_at, new_entry, skeleton_of_node_with_entry}
use Rattle.nr_tree.proofs.Contents.{directory_at, found_none}
use Rattle.nr_tree.proofs.StepLemmas.{not_next}
use Rattle.nr_tree.specs.declared.rules.Space.{Space}
use Rattle.nr_ops_dir.specs.Entries.{number_of_entry}
use Rattle.nr_ops_dir.specs.Creation.{create_ok}
use Rattle.nr_ops_dir.specs.Create.{size_to_set, tree_with_existing_file, tree_with_file, create_rules, create_reply}

-- what a reply says if the name has a node
pub create_ok_is : (old new : Tree) (h name : List ℕ) (n : ℕ) → number_of_entry new (number_of_handle h) name ≡ Some n
    → create_ok old new h name ≡ record { object = Some (handle_of n); attributes = attributes_of_number new n; dir_wcc = wcc_data old new h }
create_ok_is old new h name n e =
    ap (λ (o : Option ℕ). record { object = option_map handle_of o; attributes = option_map_or (attributes_of_number new) o None; dir_wcc = wcc_data old new h }) e

last_found : (name : List ℕ) (es : List Entry) (e : Entry) → entry_of_name name es ≡ None → is_name name e ≡ true → entry_of_name name (es ++ e ∷ []) ≡ Some e
last_found name [] e z t = ap (λ (b : Bool). cond b (Some e) None) t
last_found name (x ∷ es) e z t =
    let p : (is_name name x ≡ false) × (entry_of_name name es ≡ None) = found_none (is_name name x) x (entry_of_name name es) z in
    ap (λ (b : Bool). cond b (Some x) (entry_of_name name (es ++ e ∷ []))) p.0 ∙ last_found name es e p.1 t

-- a new node is found under its name
pub named_after_addition : (t : Tree) (now : Time) (d : ℕ) (name : List ℕ) (node : Node) → IsSane t → CanAddNode t d name node → number_of_entry (tree_with_node t now d name node) d name ≡ Some t.next
named_after_addition t now d name node sane can =
    let nodes : FinMap nat_cmp Node = insert t.nodes t.next node in
    let ne : d ≡ t.next → ⊥ = not_next t d sane can.directory in
    let is : value_at is_dir false nodes d ≡ true =
    ap (λ (f : ℕ → Bool). f d) (value_at_insert is_dir false t.nodes t.next node) ∙ set_other t.next (is_dir node) (value_at is_dir false t.nodes) d ne ∙ can.directory in
    let v : (v : Node) × (get nodes d ≡ Some v) × (is_dir v ≡ true) = directory_at nodes d is in
    let es : value_at entries_in [] nodes d ≡ entries_at t d =
    ap (λ (f : ℕ → List Entry). f d) (value_at_insert entries_in [] t.nodes t.next node) ∙ set_other t.next (entries_in node) (value_at entries_in [] t.nodes) d ne in
    let e : Entry = new_entry v.0 name t.next in
    let after : value_at entries_in [] (tree_with_node t now d name node).nodes d ≡ value_at entries_in [] nodes d ++ e ∷ [] =
    ap (λ (k : DirectoryGraph). k.entries d) (skeleton_of_node_with_entry (t.next + 1) nodes d v.0 now name t.next (is_dir node) v.1 v.2)
    ∙ set_here_lem d (value_at entries_in [] nodes d ++ e ∷ []) (value_at entries_in [] nodes) in
    ap (λ (l : List Entry). option_map (λ (x : Entry). x.number) (entry_of_name name l)) (after ∙ ap (λ (l : List Entry). l ++ e ∷ []) es)
    ∙ ap (option_map (λ (x : Entry). x.number)) (last_found name (entries_at t d) e can.free.free (nat_list_eq_equiv.refl name))

same_entries : (change : List ℕ → List ℕ) (c : Content) → entries_of (on_bytes change c) ≡ entries_of c
same_entries change (Regular bytes) = refl
same_entries change (Directory entries) = refl
same_entries change (Block device) = refl
same_entries change (Character device) = refl
same_entries change (Link path) = refl
same_entries change Socket = refl
same_entries change Fifo = refl

same_after_size : (nodes : FinMap nat_cmp Node) (now : Time) (n size : ℕ) (o : Option Node) → get nodes n ≡ o → value_at entries_in [] (nodes_with_change nodes n (node_with_size now size)) ≡ value_at entries_in [] nodes
same_after_size nodes now n size None e = ap (λ (p : Option Node). value_at entries_in [] (option_map_or (λ node. insert nodes n (node_with_size now size node)) p nodes)) e
same_after_size nodes now n size (Some v) e =
    ap (value_at entries_in []) (with_change_at nodes n v (node_with_size now size) e) ∙ value_at_metadata entries_in [] nodes n v (node_with_size now size v) e (same_entries _ v.content)

-- names have the nodes that they had before
pub named_after_size : (t : Tree) (now : Time) (n size d : ℕ) (name : List ℕ) → number_of_entry (tree_with_size t now n size) d name ≡ number_of_entry t d name
named_after_size t now n size d name =
    ap (λ (f : ℕ → List Entry). option_map (λ (x : Entry). x.number) (entry_of_name name (f d))) (same_after_size t.nodes now n size (get t.nodes n) refl)

by_size : (t : Tree) (now : Time) (n d : ℕ) (name : List ℕ) (o : Option ℕ) → number_of_entry (option_map_or (λ size. tree_with_size t now n size) o t) d name ≡ number_of_entry t d name
by_size t now n d name None = refl
by_size t now n d name (Some size) = named_after_size t now n size d name

pub named_after_create : (t : Tree) (now : Time) (how : CreateHow) (n d : ℕ) (name : List ℕ) → number_of_entry (tree_with_existing_file t now how n) d name ≡ number_of_entry t d name
named_after_create t now how n d name = by_size t now n d name (size_to_set how)

-- the reply of a CREATE of a file that is there
pub existing_reply : {E : Type 0} (t : Tree) (c : Caller) (space : Space) (now : Time) (args : CreateArgs) (n : ℕ) (dir : List ℕ) (r : Result (StatusUnion CreateOk WccData Status) E)
    → first (create_rules t c space args) ≡ None → number_of_entry t (number_of_handle args.dir) args.name ≡ Some n → dir ≡ args.dir
    → IfOk r (λ x. x ≡ Done (record {
      object = Some (handle_of n);
      attributes = attributes_of_number (tree_with_existing_file t now args.how n) n;
      dir_wcc = wcc_data t (tree_with_existing_file t now args.how n) dir;
    }))
    → IfOk r (λ x. x ≡ create_reply t c space now args)
existing_reply t c space now args n dir (Err e) none found same p = tt
existing_reply t c space now args n dir (Ok x) none found same p =
    let u : Tree = tree_with_existing_file t now args.how n in
    p
    ∙ ap (λ (h : List ℕ). Done (record { object = Some (handle_of n); attributes = attributes_of_number u n; dir_wcc = wcc_data t u h })) same
    ∙ sym (ap Done (create_ok_is t u args.dir args.name n (named_after_create t now args.how n (number_of_handle args.dir) args.name ∙ found)))
    ∙ sym (ap (λ (o : Option ℕ). Done (create_ok t (tree_with_file t c now args o) args.dir args.name)) found)
    ∙ sym (ap (λ (o : Option Status). answer o (λ s. Failed s (wcc_data t t args.dir))
    (Done (create_ok t (after o t (tree_with_file t c now args (number_of_entry t (number_of_handle args.dir) args.name))) args.dir args.name))) none)
