-- Each procedure leaves the modes, users and groups of a tree words, if those that it sets are; and each entry of a journal sets words.
use Rattle.std.proofs.Common.{◌≡◌, ℕ, zero, suc, ◌<◌, ◌^◌, ◌%◌, Bool, true, false, cond, eqb, List, [], ◌∷◌, ◌++◌, length, take, Option, None, Some, Result, Ok, Err, refl, sym, subst, ◌∙◌, arith}
use Rattle.std.specs.Prelude.{nat_le, ◌||◌, replicate, unwrap_or}
use Rattle.std.specs.Option.{option_map_or}
use Rattle.std.specs.Ordering.{nat_cmp, eq_by_cmp}
use Rattle.std.specs.Cmp.{nat_cmp_total}
use Rattle.std.specs.FinMap.{FinMap, empty, get, insert, remove, get-empty, get-insert, get-remove}
use Rattle.nr_xdr.specs.Item.{IsBytes}
use Rattle.nr_nfs_base.specs.declared.caller.Caller.{Caller}
use Rattle.nr_nfs_base.specs.declared.procedure.NfsProcedure.{NfsProcedure}
use Rattle.nr_nfs_base.specs.declared.procedure.NfsProcedure.TheVariants as nfs
use Rattle.nr_nfs_base.specs.declared.set_attributes.SetAttributes.{SetAttributes}
use Rattle.nr_nfs_base.specs.declared.status.Status.{Status}
use Rattle.nr_nfs_base.specs.declared.time.Time.{Time}
use Rattle.nr_nfs_args.specs.Arguments.{NfsArguments}
use Rattle.nr_nfs_args.specs.declared.attributes.SetattrArgs.{SetattrArgs}
use Rattle.nr_nfs_args.specs.declared.create.CreateArgs.{CreateArgs}
use Rattle.nr_nfs_args.specs.declared.create.MkdirArgs.{MkdirArgs}
use Rattle.nr_nfs_args.specs.declared.remove.RenameArgs.{RenameArgs}
use Rattle.nr_nfs_args.specs.declared.special.MknodArgs.{MknodArgs}
use Rattle.nr_nfs_args.specs.declared.special.SymlinkArgs.{SymlinkArgs}
use Rattle.nr_tree.specs.Changes.{node_with_entry, node_without_entry, node_with_link, node_without_link, node_with_new_name, node_with_size, node_with_bytes, node_with_metadata, nodes_with_name_dropped, tree_with_piece, tree_with_bytes, tree_with_size, tree_with_node, tree_without_entry, tree_with_link, entry_at, tree_without_target, tree_with_entry_moved, tree_with_new_name}
use Rattle.nr_tree.specs.Entries.{Entry as DirectoryEntry}
use Rattle.nr_tree.specs.Roots.{root_node}
use Rattle.nr_tree.specs.Rules.{after, first, mode_count, node_of_handle, number_of_handle}
use Rattle.nr_tree.specs.Tree.{Tree, is_dir, nodes_with_change, value_at}
use Rattle.nr_tree.specs.declared.node.Content.{Content}
use Rattle.nr_tree.specs.declared.node.Content.TheVariants.{Link, Regular}
use Rattle.nr_tree.specs.declared.node.Metadata.{Metadata}
use Rattle.nr_tree.specs.declared.node.Node.{Node}
use Rattle.nr_tree.specs.declared.rules.Space.{Space}
use Rattle.nr_ops_file.specs.Attributes.{metadata_after, setattr_done, setattr_rules, tree_with_attributes, tree_with_size_given}
use Rattle.nr_ops_file.specs.Bytes.{piece_written, write_rules}
use Rattle.nr_ops_dir.specs.Create.{create_rules, create_tree, given_attributes, new_file, size_to_set, tree_with_file}
use Rattle.nr_ops_dir.specs.Creation.{directory_mode, empty_directory, file_mode, link_mode, mkdir_rules, mkdir_tree, mknod_rules, mknod_tree, new_directory, new_link, new_node, new_special, special_attributes, special_content, symlink_rules, symlink_tree}
use Rattle.nr_ops_dir.specs.Entries.{number_of_entry}
use Rattle.nr_ops_dir.specs.Links.{link_rules}
use Rattle.nr_ops_dir.specs.Removal.{remove_rules, rmdir_rules, tree_without_name}
use Rattle.nr_ops_dir.specs.Renaming.{is_same_node, rename_rules, rename_tree, tree_with_move}
use Rattle.nr_plain.specs.Journal.{first_state, next_state, nfs_procedure_of, state_after, tree_by_arguments, tree_by_procedure}
use Rattle.nr_plain.specs.History.{AreOfCalls}
use Rattle.nr_plain.specs.Programs.{nfs_tree}
use Rattle.nr_plain.specs.Setup.{Parameters, Setup, State, caller_of, space_of, time_of}
use Rattle.nr_nfs_base.specs.Codec.{read_all}
use Rattle.nr_nfs_args.specs.Arguments.{nfs_arguments_codec}
use Rattle.nr_reduce.specs.declared.mark.Entry.{Entry}
use Rattle.nr_text_laws.specs.Fitting.{HasWords, IsInWords, RootsAreInWords}
use Rattle.nr_text_laws.proofs.GivenWords.{GivesWords, IsOfWords, IsWorded, create_gives, mkdir_gives, mknod_gives, setattr_gives, symlink_gives, worded}

-- ---- Nodes

abbrev Nodes : Type 0
Nodes = FinMap nat_cmp Node

abbrev InWords : Nodes → Type 0
InWords nodes = (n : ℕ) (node : Node) → get nodes n ≡ Some node → HasWords node.metadata

insert_at : (b : Bool) (w node : Node) (o : Option Node) → cond b (Some w) o ≡ Some node → HasWords w.metadata → (o ≡ Some node → HasWords node.metadata) → HasWords node.metadata
insert_at true w node o e own k = let same : w ≡ node = cc in subst (λ (x : Node). HasWords x.metadata) same own
insert_at false w node o e own k = k e

inserted : (nodes : Nodes) (k : ℕ) (w : Node) → HasWords w.metadata → InWords nodes → InWords (insert nodes k w)
inserted nodes k w own h n node e = insert_at (eq_by_cmp nat_cmp n k) w node (get nodes n) (sym (get-insert nat_cmp_total nodes k w n) ∙ e) own (h n node)

remove_at : (b : Bool) (node : Node) (o : Option Node) → cond b None o ≡ Some node → (o ≡ Some node → HasWords node.metadata) → HasWords node.metadata
remove_at true node o e k = absurd cc
remove_at false node o e k = k e

removed : (nodes : Nodes) (k : ℕ) → InWords nodes → InWords (remove nodes k)
removed nodes k h n node e = remove_at (eq_by_cmp nat_cmp n k) node (get nodes n) (sym (get-remove nat_cmp_total nodes k n) ∙ e) (h n node)

changed : (nodes : Nodes) (k : ℕ) (change : Node → Node) → ((v : Node) → get nodes k ≡ Some v → HasWords v.metadata → HasWords (change v).metadata) → InWords nodes → InWords (nodes_with_change nodes k change)
changed nodes k change keeps h = by (get nodes k) refl
  where
    by : (o : Option Node) → get nodes k ≡ o → InWords (option_map_or (λ (node : Node). insert nodes k (change node)) o nodes)
    by None e = h
    by (Some v) e = inserted nodes k (change v) (keeps v e (h k v e)) h

-- the words of a node stay if its mode, its user and its group stay
stay : (old new : Metadata) → new.mode ≡ old.mode → new.uid ≡ old.uid → new.gid ≡ old.gid → HasWords old → HasWords new
stay old new m u g h = record { mode = subst (λ (n : ℕ). n < 2 ^ 32) (sym m) h.mode; uid = subst (λ (n : ℕ). n < 2 ^ 32) (sym u) h.uid; gid = subst (λ (n : ℕ). n < 2 ^ 32) (sym g) h.gid }

-- ---- Trees

size_set : (t : Tree) (now : Time) (n size : ℕ) → IsInWords t → IsInWords (tree_with_size t now n size)
size_set t now n size h = changed t.nodes n (node_with_size now size) (λ v e k. stay v.metadata (node_with_size now size v).metadata refl refl refl k) h

written_by : (b : Bool) (t : Tree) (now : Time) (n offset : ℕ) (piece : List ℕ) → IsInWords t → IsInWords (cond b t (tree_with_piece t now n offset piece))
written_by true t now n offset piece h = h
written_by false t now n offset piece h = changed t.nodes n (node_with_bytes now offset piece) (λ v e k. stay v.metadata (node_with_bytes now offset piece v).metadata refl refl refl k) h

node_added : (t : Tree) (now : Time) (d : ℕ) (name : List ℕ) (node : Node) → HasWords node.metadata → IsInWords t → IsInWords (tree_with_node t now d name node)
node_added t now d name node own h =
    changed (insert t.nodes t.next node) d (node_with_entry now name t.next (is_dir node)) (λ v e k. stay v.metadata (node_with_entry now name t.next (is_dir node) v).metadata refl refl refl k)
    (inserted t.nodes t.next node own h)

name_dropped : (nodes : Nodes) (now : Time) (k : ℕ) → InWords nodes → InWords (nodes_with_name_dropped nodes now k)
name_dropped nodes now k h = by (get nodes k) refl
  where
    either : (b : Bool) (v : Node) → HasWords v.metadata → InWords (cond b (remove nodes k) (insert nodes k (node_without_link now v)))
    either true v own = removed nodes k h
    either false v own = inserted nodes k (node_without_link now v) (stay v.metadata (node_without_link now v).metadata refl refl refl own) h

    by : (o : Option Node) → get nodes k ≡ o → InWords (option_map_or (λ (node : Node). cond (is_dir node || nat_le node.metadata.links 1) (remove nodes k) (insert nodes k (node_without_link now node))) o nodes)
    by None e = h
    by (Some v) e = either (is_dir v || nat_le v.metadata.links 1) v (h k v e)

entry_removed : (t : Tree) (now : Time) (d : ℕ) (name : List ℕ) (k : ℕ) → IsInWords t → IsInWords (tree_without_entry t now d name k)
entry_removed t now d name k h =
    let sub = value_at is_dir false t.nodes k in
    name_dropped (nodes_with_change t.nodes d (node_without_entry now name sub)) now k
    (changed t.nodes d (node_without_entry now name sub) (λ v e w. stay v.metadata (node_without_entry now name sub v).metadata refl refl refl w) h)

link_added : (t : Tree) (now : Time) (d : ℕ) (name : List ℕ) (k : ℕ) → IsInWords t → IsInWords (tree_with_link t now d name k)
link_added t now d name k h =
    changed (nodes_with_change t.nodes k (node_with_link now d)) d (node_with_entry now name k false) (λ v e w. stay v.metadata (node_with_entry now name k false v).metadata refl refl refl w)
    (changed t.nodes k (node_with_link now d) (λ v e w. stay v.metadata (node_with_link now d v).metadata refl refl refl w) h)

target_gone : (t : Tree) (now : Time) (d : ℕ) (name : List ℕ) → IsInWords t → IsInWords (tree_without_target t now d name)
target_gone t now d name h = by (entry_at t d name)
  where
    by : (o : Option DirectoryEntry) → IsInWords (option_map_or (λ (e : DirectoryEntry). tree_without_entry t now d name e.number) o t)
    by None = h
    by (Some e) = entry_removed t now d name e.number h

entry_moved : (t : Tree) (now : Time) (from : ℕ) (name : List ℕ) (to : ℕ) (name_to : List ℕ) (k : ℕ) → IsInWords t → IsInWords (tree_with_entry_moved t now from name to name_to k)
entry_moved t now from name to name_to k h =
    let sub = value_at is_dir false t.nodes k in
    let one = nodes_with_change t.nodes from (node_without_entry now name sub) in
    let two = nodes_with_change one to (node_with_entry now name_to k sub) in
    changed two k (node_with_new_name now to) (λ v e w. stay v.metadata (node_with_new_name now to v).metadata refl refl refl w)
    (changed one to (node_with_entry now name_to k sub) (λ v e w. stay v.metadata (node_with_entry now name_to k sub v).metadata refl refl refl w)
    (changed t.nodes from (node_without_entry now name sub) (λ v e w. stay v.metadata (node_without_entry now name sub v).metadata refl refl refl w) h))

-- ---- Attributes that are given

below_count : (m : ℕ) → m % mode_count < 2 ^ 32
below_count m = omega arith

given : (o : Option ℕ) (present : ℕ) → present < 2 ^ 32 → ((n : ℕ) → o ≡ Some n → n < 2 ^ 32) → unwrap_or o present < 2 ^ 32
given None present low words = low
given (Some n) present low words = words n refl

mode_given : (o : Option ℕ) (present : ℕ) → present < 2 ^ 32 → option_map_or (λ (mode : ℕ). mode % mode_count) o present < 2 ^ 32
mode_given None present low = low
mode_given (Some n) present low = below_count n

new_words : (c : Caller) (now : Time) (d mode : ℕ) (a : SetAttributes) (content : Content) → IsOfWords c → GivesWords a → HasWords (new_node c now d mode a content).metadata
new_words c now d mode a content user gives = record { mode = below_count (unwrap_or a.mode mode); uid = given a.uid c.uid user.uid gives.uid; gid = given a.gid c.gid user.gid gives.gid }

-- ---- Procedures

kept : (o : Option Status) (old new : Tree) → IsInWords old → IsInWords new → IsInWords (after o old new)
kept None old new h k = k
kept (Some status) old new h k = h

size_given : (t : Tree) (now : Time) (n : ℕ) (o : Option ℕ) → IsInWords t → IsInWords (option_map_or (λ (size : ℕ). tree_with_size t now n size) o t)
size_given t now n None h = h
size_given t now n (Some size) h = size_set t now n size h

at_number : (b : Bool) (o : Option Node) (node : Node) → cond b o None ≡ Some node → o ≡ Some node
at_number true o node e = e
at_number false o node e = absurd cc

attributes_set : (t : Tree) (now : Time) (a : SetattrArgs) (o : Option Node) → node_of_handle t a.object ≡ o → GivesWords a.attributes → IsInWords t
    → IsInWords (option_map_or (λ (node : Node). tree_with_attributes t now (number_of_handle a.object) a.attributes node.metadata) o t)
attributes_set t now a None e gives h = h
attributes_set t now a (Some v) e gives h =
    let n = number_of_handle a.object in
    let u = tree_with_size_given t now n a.attributes.size in
    let old : HasWords v.metadata = h n v (at_number (eqb (length a.object) 8) (get t.nodes n) v e) in
    changed u.nodes n (node_with_metadata (metadata_after now a.attributes v.metadata)) (λ w f b. record {
      mode = mode_given a.attributes.mode v.metadata.mode old.mode;
      uid = given a.attributes.uid v.metadata.uid old.uid gives.uid;
      gid = given a.attributes.gid v.metadata.gid old.gid gives.gid;
    }) (size_given t now n a.attributes.size h)

name_gone : (t : Tree) (now : Time) (handle name : List ℕ) → IsInWords t → IsInWords (tree_without_name t now handle name)
name_gone t now handle name h = by (number_of_entry t (number_of_handle handle) name)
  where
    by : (o : Option ℕ) → IsInWords (option_map_or (λ (n : ℕ). tree_without_entry t now (number_of_handle handle) name n) o t)
    by None = h
    by (Some n) = entry_removed t now (number_of_handle handle) name n h

moved_by : (b : Bool) (t : Tree) (now : Time) (a : RenameArgs) (n : ℕ) → IsInWords t → IsInWords (cond b t (tree_with_new_name t now (number_of_handle a.from_dir) a.from_name (number_of_handle a.to_dir) a.to_name n))
moved_by true t now a n h = h
moved_by false t now a n h =
    let to = number_of_handle a.to_dir in
    entry_moved (tree_without_target t now to a.to_name) now (number_of_handle a.from_dir) a.from_name to a.to_name n (target_gone t now to a.to_name h)

module _ (t : Tree) (c : Caller) (space : Space) (now : Time) (user : IsOfWords c) (h : IsInWords t) where
  create_words : (a : CreateArgs) → GivesWords (given_attributes a.how) → IsInWords (create_tree t c space now a)
  create_words a gives = kept (first (create_rules t c space a)) t (tree_with_file t c now a (number_of_entry t (number_of_handle a.dir) a.name)) h (by (number_of_entry t (number_of_handle a.dir) a.name))
    where
      by : (o : Option ℕ) → IsInWords (tree_with_file t c now a o)
      by None =
          let d = number_of_handle a.dir in
          let content : Content = Regular (replicate (unwrap_or (given_attributes a.how).size 0) 0) in
          node_added t now d a.name (new_file c now d a.how)
          (stay (new_node c now d file_mode (given_attributes a.how) content).metadata (new_file c now d a.how).metadata refl refl refl (new_words c now d file_mode (given_attributes a.how) content user gives)) h
      by (Some n) = size_given t now n (size_to_set a.how) h

  mkdir_words : (a : MkdirArgs) → GivesWords a.attributes → IsInWords (mkdir_tree t c space now a)
  mkdir_words a gives =
      let d = number_of_handle a.dir in
      kept (first (mkdir_rules t c space a)) t (tree_with_node t now d a.name (new_directory c now a)) h
      (node_added t now d a.name (new_directory c now a) (new_words c now d directory_mode a.attributes empty_directory user gives) h)

  symlink_words : (a : SymlinkArgs) → GivesWords a.attributes → IsInWords (symlink_tree t c space now a)
  symlink_words a gives =
      let d = number_of_handle a.dir in
      kept (first (symlink_rules t c space a)) t (tree_with_node t now d a.name (new_link c now a)) h
      (node_added t now d a.name (new_link c now a) (new_words c now d link_mode a.attributes (Link a.path) user gives) h)

  mknod_words : (a : MknodArgs) → GivesWords (special_attributes a.what) → IsInWords (mknod_tree t c space now a)
  mknod_words a gives =
      kept (first (mknod_rules t c space a)) t
      (option_map_or (λ (content : Content). tree_with_node t now (number_of_handle a.dir) a.name (new_special c now a content)) (special_content a.what) t) h (by (special_content a.what))
    where
      by : (o : Option Content) → IsInWords (option_map_or (λ (content : Content). tree_with_node t now (number_of_handle a.dir) a.name (new_special c now a content)) o t)
      by None = h
      by (Some content) =
          node_added t now (number_of_handle a.dir) a.name (new_special c now a content) (new_words c now (number_of_handle a.dir) file_mode (special_attributes a.what) content user gives) h

  rename_words : (a : RenameArgs) → IsInWords (rename_tree t c space now a)
  rename_words a =
      let o = number_of_entry t (number_of_handle a.from_dir) a.from_name in
      kept (first (rename_rules t c space a)) t (option_map_or (tree_with_move t now a) o t) h (by o)
    where
      by : (o : Option ℕ) → IsInWords (option_map_or (tree_with_move t now a) o t)
      by None = h
      by (Some n) = moved_by (is_same_node (number_of_entry t (number_of_handle a.to_dir) a.to_name) n) t now a n h

  procedure_words : (args : List ℕ) (p : NfsProcedure) (a : NfsArguments p) → IsBytes args → read_all (nfs_arguments_codec p) args ≡ Ok a → IsInWords (nfs_tree t c space now p a)
  procedure_words args nfs.Null a bytes e = h
  procedure_words args nfs.Getattr a bytes e = h
  procedure_words args nfs.Setattr a bytes e =
      kept (first (setattr_rules t c space a)) t (setattr_done t now a) h (attributes_set t now a (node_of_handle t a.object) refl (setattr_gives args a bytes e) h)
  procedure_words args nfs.Lookup a bytes e = h
  procedure_words args nfs.Access a bytes e = h
  procedure_words args nfs.Readlink a bytes e = h
  procedure_words args nfs.Read a bytes e = h
  procedure_words args nfs.Write a bytes e =
      let n = number_of_handle a.file in
      kept (first (write_rules t c space a)) t (tree_with_bytes t now n a.offset (piece_written a)) h (written_by _ t now n a.offset (piece_written a) h)
  procedure_words args nfs.Create a bytes e = create_words a (create_gives args a bytes e)
  procedure_words args nfs.Mkdir a bytes e = mkdir_words a (mkdir_gives args a bytes e)
  procedure_words args nfs.Symlink a bytes e = symlink_words a (symlink_gives args a bytes e)
  procedure_words args nfs.Mknod a bytes e = mknod_words a (mknod_gives args a bytes e)
  procedure_words args nfs.Remove a bytes e = kept (first (remove_rules t c space a)) t (tree_without_name t now a.dir a.name) h (name_gone t now a.dir a.name h)
  procedure_words args nfs.Rmdir a bytes e = kept (first (rmdir_rules t c space a)) t (tree_without_name t now a.dir a.name) h (name_gone t now a.dir a.name h)
  procedure_words args nfs.Rename a bytes e = rename_words a
  procedure_words args nfs.Link a bytes e =
      let d = number_of_handle a.dir in
      let n = number_of_handle a.file in
      kept (first (link_rules t c space a)) t (tree_with_link t now d a.name n) h (link_added t now d a.name n h)
  procedure_words args nfs.Readdir a bytes e = h
  procedure_words args nfs.Readdirplus a bytes e = h
  procedure_words args nfs.Fsstat a bytes e = h
  procedure_words args nfs.Fsinfo a bytes e = h
  procedure_words args nfs.Pathconf a bytes e = h
  procedure_words args nfs.Commit a bytes e = h

-- ---- The journal

arguments_words : (prm : Parameters) (st : State) (e : Entry) (p : NfsProcedure) (r : Result (NfsArguments p) ℕ) → read_all (nfs_arguments_codec p) e.args ≡ r → IsWorded e → IsInWords st.tree → IsInWords (tree_by_arguments prm st e p r)
arguments_words prm st e p (Ok a) read is h = procedure_words st.tree (caller_of e.cred) (space_of prm st e.args) (time_of e.moment) is.user h e.args p a is.bytes read
arguments_words prm st e p (Err at) read is h = h

number_words : (prm : Parameters) (st : State) (e : Entry) (o : Option NfsProcedure) → IsWorded e → IsInWords st.tree → IsInWords (tree_by_procedure prm st e o)
number_words prm st e None is h = h
number_words prm st e (Some p) is h = arguments_words prm st e p (read_all (nfs_arguments_codec p) e.args) refl is h

entry_words : (prm : Parameters) (st : State) (e : Entry) → IsWorded e → IsInWords st.tree → IsInWords (next_state prm st e).tree
unfolding next_state
entry_words prm st e is h = number_words prm st e (nfs_procedure_of e.proc) is h

after_words : (s : Setup) (J more : List Entry) (k : ℕ) (st : State) → AreOfCalls s J more → IsInWords st.tree → IsInWords (state_after s.parameters st (take k more)).tree
after_words s J more zero st calls h = h
after_words s J [] (suc k) st calls h = h
after_words s J (e ∷ more) (suc k) st (one, rest) h = after_words s (J ++ e ∷ []) more k (next_state s.parameters st e) rest (entry_words s.parameters st e (worded s J e one) h)

pub words_at : (s : Setup) (J : List Entry) (k : ℕ) → AreOfCalls s [] J → IsInWords s.tree → IsInWords (state_after s.parameters (first_state s) (take k J)).tree
words_at s J k calls h = after_words s [] J k (first_state s) calls h

pub roots_are_in_words_lem : RootsAreInWords
roots_are_in_words_lem now n node e =
    insert_at (eq_by_cmp nat_cmp n 1) (root_node now) node (get empty n) (sym (get-insert nat_cmp_total empty 1 (root_node now) n) ∙ e) (record { mode = omega arith; uid = omega arith; gid = omega arith })
    (λ none. let wrong : None ≡ Some node = sym (get-empty nat_cmp n) ∙ none in absurd cc)
