-- Where names lead, and what the file holds, after a CREATE that sets the size 0.
use Rattle.std.proofs.Common.{◌≡◌, ℕ, ◌<◌, ◌^◌, Bool, true, false, cond, eqb, not, ◌||◌, List, [], ◌∷◌, ◌++◌, length, Option, None, Some, refl, ap, sym, ◌∙◌, subst, arith}
use Rattle.std.specs.Option.{option_and_then, option_map, option_map_or}
use Rattle.std.specs.Cmp.{nat_cmp_total}
use Rattle.std.specs.Ordering.{nat_cmp, eq_by_cmp}
use Rattle.std.specs.FinMap.{FinMap, get, get-insert, insert}
use Rattle.std.proofs.lemmas.Nat.{from_be_bytes-to_be_bytes_8}
use Rattle.nr_nfs_base.specs.declared.caller.Caller.{Caller}
use Rattle.nr_nfs_base.specs.declared.set_attributes.SetAttributes.{SetAttributes}
use Rattle.nr_nfs_base.specs.declared.set_attributes.SetTime.TheVariants as times
use Rattle.nr_nfs_base.specs.declared.status.Status.{Status}
use Rattle.nr_nfs_base.specs.declared.status.Status.TheVariants.{Exist}
use Rattle.nr_nfs_base.specs.declared.time.Time.{Time}
use Rattle.nr_nfs_args.specs.declared.create.CreateArgs.{CreateArgs}
use Rattle.nr_nfs_args.specs.declared.create.CreateHow.TheVariants as hows
use Rattle.nr_tree.specs.Changes.{entry_at, node_with_entry, on_entries, tree_with_node, tree_with_size}
use Rattle.nr_tree.specs.Entries.{Entries, Entry, entries_with, entry_of_name, is_name, next_entry}
use Rattle.nr_tree.specs.Rules.{after, first, handle_of, is_dot, is_dot_dot, is_dot_name, node_of_handle, number_of_handle, on}
use Rattle.nr_tree.specs.Sane.{IsSane}
use Rattle.nr_tree.specs.Steps.{CanAddNode, entries_at, is_live_at}
use Rattle.nr_tree.specs.Tree.{Tree, entries_in, entries_of, is_dir, is_regular, is_regular_content}
use Rattle.nr_tree.specs.declared.node.Content.{Content}
use Rattle.nr_tree.specs.declared.node.Content.TheVariants.{Regular, Directory, Block, Character, Link, Socket, Fifo}
use Rattle.nr_tree.specs.declared.node.Node.{Node}
use Rattle.nr_tree.specs.declared.rules.Space.{Space}
use Rattle.nr_tree.proofs.Contents.{Named, node_at}
use Rattle.nr_tree.proofs.Lists.{Each_found}
use Rattle.nr_tree.proofs.NodeMaps.{get_changed, other_key, same_number}
use Rattle.nr_tree.proofs.PassedRules.{AllClear, all_clear, clear, handled}
use Rattle.nr_tree.proofs.StepLemmas.{next_free, not_next, number_found}
use Rattle.nr_ops_dir.specs.Create.{create_rules, create_tree, existing_file_rules, file_rules, new_file, tree_with_file}
use Rattle.nr_ops_dir.specs.Entries.{entry_rules, number_of_entry}
use Rattle.nr_ops_dir.proofs.CanCreate.{can_make_file}
use Rattle.nr_ops_dir.proofs.NamesAfter.{named_after_addition, named_after_size}
use Rattle.nr_ops_list.specs.Lookup.{number_of_name}
use Rattle.nr_plain.proofs.Lengths.{length_handle}
use Rattle.nr_pair_laws.specs.FilesAt.{content_at, handle_in}
use Rattle.nr_pair_laws.proofs.Changed.{emptied_content, emptied_names, node_changed, same_test}
use Rattle.nr_pair_laws.proofs.Paths.{Grows}

-- ---- Handles and entries

-- the node that the handle of a number names
pub handle_node : (t : Tree) (n : ℕ) → n < 2 ^ 64 → node_of_handle t (handle_of n) ≡ get t.nodes n
handle_node t n fits =
    let eight : eqb (length (handle_of n)) 8 ≡ true = ap (λ (k : ℕ). eqb k 8) (length_handle n) in
    ap (λ (b : Bool). cond b (get t.nodes (number_of_handle (handle_of n))) None) eight
    ∙ ap (λ (k : ℕ). get t.nodes k) (from_be_bytes-to_be_bytes_8 n fits)

either : (a b : Bool) → (a || b) ≡ false → (a ≡ false) × (b ≡ false)
either false b e = (refl, e)
either true b e = absurd cc

-- a name other than . and .. leads to the node of its entry
pub entry_leads : (u : Tree) (dir name : List ℕ) (n : ℕ) → eqb (length dir) 8 ≡ true → is_dot_name name ≡ false → number_of_entry u (number_of_handle dir) name ≡ Some n
    → handle_in u dir name ≡ Some (handle_of n)
entry_leads u dir name n eight dots found =
    ap (λ (b : Bool). option_map handle_of (option_and_then (λ (v : Node). number_of_name d name v) (cond b (get u.nodes d) None))) eight
    ∙ by (get u.nodes d) found
  where
    d : ℕ
    d = number_of_handle dir

    no_dots : (is_dot name ≡ false) × (is_dot_dot name ≡ false)
    no_dots = either (is_dot name) (is_dot_dot name) dots

    by : (o : Option Node) → option_map (λ (e : Entry). e.number) (entry_of_name name (option_map_or entries_in o [])) ≡ Some n
        → option_map handle_of (option_and_then (λ (v : Node). number_of_name d name v) o) ≡ Some (handle_of n)
    by None none = absurd cc
    by (Some v) is =
        ap (λ (b : Bool). option_map handle_of (cond b (Some d) (cond (is_dot_dot name) (Some v.parent) (option_map (λ (e : Entry). e.number) (entry_of_name name (entries_in v)))))) no_dots.0
        ∙ ap (λ (b : Bool). option_map handle_of (cond b (Some v.parent) (option_map (λ (e : Entry). e.number) (entry_of_name name (entries_in v))))) no_dots.1
        ∙ ap (λ (o : Option ℕ). option_map handle_of o) is

-- ---- One entry more

entry_stays : (name : List ℕ) (es : List Entry) (x : Entry) (k : ℕ) → option_map (λ (e : Entry). e.number) (entry_of_name name es) ≡ Some k
    → option_map (λ (e : Entry). e.number) (entry_of_name name (es ++ x ∷ [])) ≡ Some k
entry_stays name [] x k none = absurd cc
entry_stays name (y ∷ es) x k is = by (is_name name y) is (entry_stays name es x k)
  where
    by : (b : Bool) → option_map (λ (e : Entry). e.number) (cond b (Some y) (entry_of_name name es)) ≡ Some k
        → (option_map (λ (e : Entry). e.number) (entry_of_name name es) ≡ Some k → option_map (λ (e : Entry). e.number) (entry_of_name name (es ++ x ∷ [])) ≡ Some k)
        → option_map (λ (e : Entry). e.number) (cond b (Some y) (entry_of_name name (es ++ x ∷ []))) ≡ Some k
    by true here rest = here
    by false there rest = rest there

content_stays : (name other : List ℕ) (n k : ℕ) (c : Content) → option_map (λ (e : Entry). e.number) (entry_of_name name (entries_of c)) ≡ Some k
    → option_map (λ (e : Entry). e.number) (entry_of_name name (entries_of (on_entries (λ (d : Entries). entries_with d other n) c))) ≡ Some k
content_stays name other n k (Regular bytes) is = is
content_stays name other n k (Directory entries) is = entry_stays name entries.list (next_entry entries other n) k is
content_stays name other n k (Block device) is = is
content_stays name other n k (Character device) is = is
content_stays name other n k (Link path) is = is
content_stays name other n k Socket is = is
content_stays name other n k Fifo is = is

number_stays : (d : ℕ) (name other : List ℕ) (now : Time) (n : ℕ) (sub : Bool) (v : Node) (k : ℕ) → number_of_name d name v ≡ Some k
    → number_of_name d name (node_with_entry now other n sub v) ≡ Some k
number_stays d name other now n sub v k is = by (is_dot name) (is_dot_dot name) is
  where
    by : (a b : Bool) → cond a (Some d) (cond b (Some v.parent) (option_map (λ (e : Entry). e.number) (entry_of_name name (entries_in v)))) ≡ Some k
        → cond a (Some d) (cond b (Some v.parent) (option_map (λ (e : Entry). e.number) (entry_of_name name (entries_of (on_entries (λ (x : Entries). entries_with x other n) v.content))))) ≡ Some k
    by true b is = is
    by false true is = is
    by false false is = content_stays name other n k v.content is

-- a node that was there is there beside a new one
insert_keeps : (m : FinMap nat_cmp Node) (k q : ℕ) (x v : Node) → get m k ≡ None → get m q ≡ Some v → get (insert m k x) q ≡ Some v
insert_keeps m k q x v free is = get-insert nat_cmp_total m k x q ∙ by (eq_by_cmp nat_cmp q k) refl
  where
    by : (b : Bool) → eq_by_cmp nat_cmp q k ≡ b → cond b (Some x) (get m q) ≡ Some v
    by true same = let none : get m q ≡ None = ap (λ (n : ℕ). get m n) (same_number q k same) ∙ free in absurd (let wrong : None ≡ Some v = sym none ∙ is in cc)
    by false other = is

-- the tree with a new node that no entry names
abbrev with_node : Tree → Node → Tree
with_node t node = record t { nodes = insert t.nodes t.next node }

still_there : (t : Tree) (node : Node) (dir : List ℕ) (v : Node) → get t.nodes t.next ≡ None → node_of_handle t dir ≡ Some v → node_of_handle (with_node t node) dir ≡ Some v
still_there t node dir v free is = at (eqb (length dir) 8) is
  where
    at : (b : Bool) → cond b (get t.nodes (number_of_handle dir)) None ≡ Some v → cond b (get (insert t.nodes t.next node) (number_of_handle dir)) None ≡ Some v
    at true e = insert_keeps t.nodes t.next (number_of_handle dir) node v free e
    at false e = absurd cc

moved : (other name : List ℕ) (now : Time) (q n : ℕ) (sub : Bool) (h : List ℕ) (b : Bool) (v : Node) (o : Option ℕ) → number_of_name q other v ≡ o → option_map handle_of o ≡ Some h
    → option_map handle_of (option_and_then (λ (x : Node). number_of_name q other x) (cond b (Some (node_with_entry now name n sub v)) (Some v))) ≡ Some h
moved other name now q n sub h b v None e none = absurd cc
moved other name now q n sub h true v (Some k) e some = ap (λ (p : Option ℕ). option_map handle_of p) (number_stays q other name now n sub v k e) ∙ some
moved other name now q n sub h false v (Some k) e some = ap (λ (p : Option ℕ). option_map handle_of p) e ∙ some

-- each name that led somewhere leads there after a node was added
added_grows : (t : Tree) (now : Time) (d : ℕ) (name : List ℕ) (node : Node) → get t.nodes t.next ≡ None → Grows t (tree_with_node t now d name node)
added_grows t now d name node free dir other h is = by (node_of_handle t dir) refl is
  where
    by : (o : Option Node) → node_of_handle t dir ≡ o → option_map handle_of (option_and_then (λ (x : Node). number_of_name (number_of_handle dir) other x) o) ≡ Some h
        → handle_in (tree_with_node t now d name node) dir other ≡ Some h
    by None e none = absurd cc
    by (Some v) e some =
        ap (λ (o : Option Node). option_map handle_of (option_and_then (λ (x : Node). number_of_name (number_of_handle dir) other x) o))
        (node_changed (with_node t node) d (node_with_entry now name t.next (is_dir node)) dir
        ∙ ap (λ (o : Option Node). cond (eq_by_cmp nat_cmp (number_of_handle dir) d) (option_map (node_with_entry now name t.next (is_dir node)) o) o) (still_there t node dir v free e))
        ∙ moved other name now (number_of_handle dir) t.next (is_dir node) h (eq_by_cmp nat_cmp (number_of_handle dir) d) v (number_of_name (number_of_handle dir) other v) refl some

-- ---- CREATE

-- The name leads to a file without bytes, and each name that led somewhere leads there.
pub record IsCreated (t u : Tree) (dir name : List ℕ) : Type 0 where
  pub number : ℕ
  pub named : number_of_entry u (number_of_handle dir) name ≡ Some number
  pub leads : handle_in u dir name ≡ Some (handle_of number)
  pub empty : content_at u (handle_of number) ≡ Some (Regular [])
  pub grows : Grows t u

-- mode 0644 (in octal), and no bytes
abbrev pub empty_file : SetAttributes
empty_file = record { mode = Some 420; uid = None; gid = None; size = Some 0; atime = times.Leave; mtime = times.Leave }

abbrev pub create_args : (dir name : List ℕ) → CreateArgs
create_args dir name = record { dir = dir; name = name; how = hows.Unchecked empty_file }

-- a file as it is made, and the tree with it
abbrev made_node : Caller → Time → (dir : List ℕ) → Node
made_node c now dir = new_file c now (number_of_handle dir) (hows.Unchecked empty_file)

abbrev made_tree : Tree → Caller → Time → (dir name : List ℕ) → Tree
made_tree t c now dir name = tree_with_node t now (number_of_handle dir) name (made_node c now dir)

regular_content : (c : Content) → is_regular_content c ≡ true → (bytes : List ℕ) × (c ≡ Regular bytes)
regular_content (Regular bytes) is = (bytes, refl)
regular_content (Directory entries) is = absurd cc
regular_content (Block device) is = absurd cc
regular_content (Character device) is = absurd cc
regular_content (Link path) is = absurd cc
regular_content Socket is = absurd cc
regular_content Fifo is = absurd cc

not_false : (b : Bool) → not b ≡ false → b ≡ true
not_false true e = refl
not_false false e = absurd cc

eight_by : (b : Bool) (o : Option Node) (v : Node) → cond b o None ≡ Some v → b ≡ true
eight_by true o v e = refl
eight_by false o v e = absurd cc

module _ (t : Tree) (c : Caller) (space : Space) (now : Time) (dir name : List ℕ) (sane : IsSane t) (below : t.next < 2 ^ 64) (none : first (create_rules t c space (create_args dir name)) ≡ None) where
  all : AllClear (create_rules t c space (create_args dir name))
  all = all_clear (create_rules t c space (create_args dir name)) none

  entry : AllClear (entry_rules t c dir name)
  entry = all_clear (entry_rules t c dir name) all.0

  eight : eqb (length dir) 8 ≡ true
  eight = let v = handled t dir entry.0 in eight_by (eqb (length dir) 8) (get t.nodes (number_of_handle dir)) v.0 v.1

  no_dots : is_dot_name name ≡ false
  no_dots = clear (is_dot_name name) Exist all.1.0

  can : number_of_entry t (number_of_handle dir) name ≡ None → CanAddNode t (number_of_handle dir) name (made_node c now dir)
  can free = can_make_file t c space now (create_args dir name) none free

  new_named : number_of_entry t (number_of_handle dir) name ≡ None → number_of_entry (made_tree t c now dir name) (number_of_handle dir) name ≡ Some t.next
  new_named free = named_after_addition t now (number_of_handle dir) name (made_node c now dir) sane (can free)

  there : number_of_entry t (number_of_handle dir) name ≡ None → get (made_tree t c now dir name).nodes t.next ≡ Some (made_node c now dir)
  there free =
      get_changed (insert t.nodes t.next (made_node c now dir)) (number_of_handle dir) (node_with_entry now name t.next (is_dir (made_node c now dir))) t.next
      ∙ ap (λ (b : Bool). cond b (option_map (node_with_entry now name t.next (is_dir (made_node c now dir))) (get (insert t.nodes t.next (made_node c now dir)) (number_of_handle dir))) (get (insert t.nodes t.next (made_node c now dir)) t.next))
      (other_key t.next (number_of_handle dir) (λ e. not_next t (number_of_handle dir) sane (can free).directory (sym e)))
      ∙ get-insert nat_cmp_total t.nodes t.next (made_node c now dir) t.next
      ∙ ap (λ (b : Bool). cond b (Some (made_node c now dir)) (get t.nodes t.next)) (same_test t.next)

  new_case : number_of_entry t (number_of_handle dir) name ≡ None → IsCreated t (made_tree t c now dir name) dir name
  new_case free = record {
    number = t.next;
    named = new_named free;
    leads = entry_leads (made_tree t c now dir name) dir name t.next eight no_dots (new_named free);
    empty = ap (λ (o : Option Node). option_map (λ (v : Node). v.content) o) (handle_node (made_tree t c now dir name) t.next below ∙ there free);
    grows = added_grows t now (number_of_handle dir) name (made_node c now dir) (next_free t sane);
  }

  module _ (n : ℕ) (found : number_of_entry t (number_of_handle dir) name ≡ Some n) where
    old_named : number_of_entry (tree_with_size t now n 0) (number_of_handle dir) name ≡ Some n
    old_named = named_after_size t now n 0 (number_of_handle dir) name ∙ found

    live : is_live_at t n ≡ true
    live =
        let x : (x : Entry) × (entry_at t (number_of_handle dir) name ≡ Some x) × (x.number ≡ n) = number_found (entry_at t (number_of_handle dir) name) n found in
        ap (is_live_at t) (sym x.2) ∙ Each_found (λ (y : Entry). is_live_at t y.number ≡ true) name (entries_at t (number_of_handle dir)) x.0 x.1 (sane.skeleton.names_live (number_of_handle dir))

    fits : n < 2 ^ 64
    fits = let less = (sane.skeleton.numbers n live).1 in omega (arith, less, below)

    holds : (bytes : List ℕ) × (content_at t (handle_of n) ≡ Some (Regular bytes))
    holds =
        let v : Named t.nodes n = node_at t.nodes n live in
        let rules : first (existing_file_rules c (hows.Unchecked empty_file) v.0) ≡ None =
        ap (λ (o : Option Node). first (on o (existing_file_rules c (hows.Unchecked empty_file)))) (sym v.1)
        ∙ ap (λ (o : Option ℕ). first (file_rules t c (hows.Unchecked empty_file) o)) (sym found) ∙ all.1.1.0 in
        let regular : is_regular v.0 ≡ true = not_false (is_regular v.0) (clear (not (is_regular v.0)) Exist (all_clear (existing_file_rules c (hows.Unchecked empty_file) v.0) rules).0) in
        let bytes : (bytes : List ℕ) × (v.0.content ≡ Regular bytes) = regular_content v.0.content regular in
        (bytes.0, ap (λ (o : Option Node). option_map (λ (w : Node). w.content) o) (handle_node t n fits ∙ v.1) ∙ ap (λ (k : Content). Some k) bytes.1)

    found_case : IsCreated t (tree_with_size t now n 0) dir name
    found_case = record {
      number = n;
      named = old_named;
      leads = entry_leads (tree_with_size t now n 0) dir name n eight no_dots old_named;
      empty = subst (λ (k : ℕ). content_at (tree_with_size t now k 0) (handle_of n) ≡ Some (Regular [])) (from_be_bytes-to_be_bytes_8 n fits) (emptied_content t now (handle_of n) holds.0 holds.1);
      grows = λ other_dir other h is. emptied_names t now n other_dir other ∙ is;
    }

  pub created : IsCreated t (create_tree t c space now (create_args dir name)) dir name
  created =
      subst (λ (u : Tree). IsCreated t u dir name)
      (sym (ap (λ (o : Option Status). after o t (tree_with_file t c now (create_args dir name) (number_of_entry t (number_of_handle dir) name))) none))
      (by (number_of_entry t (number_of_handle dir) name) refl)
    where
      by : (o : Option ℕ) → number_of_entry t (number_of_handle dir) name ≡ o → IsCreated t (tree_with_file t c now (create_args dir name) o) dir name
      by None is = new_case is
      by (Some n) is = found_case n is
