-- Each procedure leaves a tree in bytes, if the names, the data and the paths of its arguments are bytes. The tree of a drill is in bytes.
use Rattle.std.specs.Prelude.{◌≡◌, ℕ, zero, suc, ◌+◌, ◌-◌, ◌/◌, ◌%◌, ◌<◌, ◌≤◌, nat_le, ◌||◌, Bool, true, false, List, [], ◌∷◌, ◌++◌, length, take, drop, replicate, Option, None, Some, unwrap_or}
use Rattle.std.specs.Option.{option_map_or}
use Rattle.std.specs.Ordering.{nat_cmp, eq_by_cmp}
use Rattle.std.specs.Cmp.{nat_cmp_total}
use Rattle.std.specs.FinMap.{FinMap, get, insert, remove, get-insert, get-remove}
use Rattle.std.proofs.Common.{cond, refl, sym, subst, ◌∙◌, ◌⊎◌, inl, inr, arith}
use Rattle.std.proofs.lemmas.Bool.{cases_lt}
use Rattle.nr_xdr.specs.Item.{IsBytes}
use Rattle.nr_xdr.proofs.WordBytes.{IsBytes_take, IsBytes_drop}
use Rattle.nr_nfs_base.specs.Limits.{transfer_max}
use Rattle.nr_nfs_base.specs.declared.caller.Caller.{Caller}
use Rattle.nr_nfs_base.specs.declared.status.Status.{Status}
use Rattle.nr_nfs_base.specs.declared.time.Time.{Time}
use Rattle.nr_nfs_args.specs.declared.attributes.SetattrArgs.{SetattrArgs}
use Rattle.nr_nfs_args.specs.declared.bytes.WriteArgs.{WriteArgs}
use Rattle.nr_nfs_args.specs.declared.create.CreateArgs.{CreateArgs}
use Rattle.nr_nfs_args.specs.declared.create.MkdirArgs.{MkdirArgs}
use Rattle.nr_nfs_args.specs.declared.remove.LinkArgs.{LinkArgs}
use Rattle.nr_nfs_args.specs.declared.remove.RemoveArgs.{RemoveArgs}
use Rattle.nr_nfs_args.specs.declared.remove.RenameArgs.{RenameArgs}
use Rattle.nr_nfs_args.specs.declared.remove.RmdirArgs.{RmdirArgs}
use Rattle.nr_nfs_args.specs.declared.special.MknodArgs.{MknodArgs}
use Rattle.nr_nfs_args.specs.declared.special.MknodData.{MknodData}
use Rattle.nr_nfs_args.specs.declared.special.MknodData.TheVariants as data_of
use Rattle.nr_nfs_args.specs.declared.special.SymlinkArgs.{SymlinkArgs}
use Rattle.nr_tree.specs.Entries.{Entry, Entries, Each, entries_with, entries_without, is_name, list_without}
use Rattle.nr_tree.specs.Bytes.{with_length, with_bytes_at}
use Rattle.nr_tree.specs.Tree.{Tree, is_dir, nodes_with_change, value_at}
use Rattle.nr_tree.specs.Changes.{on_entries, on_bytes, node_with_entry, node_without_entry, node_with_link, node_without_link, node_with_new_name, node_with_size, node_with_bytes, node_with_metadata, nodes_with_name_dropped, tree_with_piece, tree_with_bytes, tree_with_size, tree_with_node, tree_without_entry, tree_with_link, entry_at, tree_without_target, tree_with_entry_moved, tree_with_new_name}
use Rattle.nr_tree.specs.Rules.{after, first, number_of_handle, node_of_handle}
use Rattle.nr_tree.specs.Drill.{hello, link, many, file_name, many_entries, IsDrill}
use Rattle.nr_tree.specs.declared.node.Node.{Node}
use Rattle.nr_tree.specs.declared.node.Content.{Content}
use Rattle.nr_tree.specs.declared.node.Content.TheVariants.{Regular, Directory, Block, Character, Link, Socket, Fifo}
use Rattle.nr_tree.specs.declared.rules.Space.{Space}
use Rattle.nr_ops_file.specs.Attributes.{setattr_rules, metadata_after, tree_with_size_given, tree_with_attributes, setattr_done, setattr_tree}
use Rattle.nr_ops_file.specs.Bytes.{piece_written, write_rules, write_tree}
use Rattle.nr_ops_dir.specs.Entries.{number_of_entry}
use Rattle.nr_ops_dir.specs.Create.{given_attributes, create_rules, create_tree, new_file, size_to_set, tree_with_file}
use Rattle.nr_ops_dir.specs.Creation.{mkdir_rules, mkdir_tree, new_directory, symlink_rules, symlink_tree, new_link, special_content, mknod_rules, mknod_tree, new_special}
use Rattle.nr_ops_dir.specs.Links.{link_rules, link_tree}
use Rattle.nr_ops_dir.specs.Removal.{tree_without_name, remove_rules, remove_tree, rmdir_rules, rmdir_tree}
use Rattle.nr_ops_dir.specs.Renaming.{is_same_node, rename_rules, tree_with_move, rename_tree}
use Rattle.nr_script.proofs.ByteLists.{no_bytes_lem, bytes_more, bytes_both, zeros_bytes, decided}
use Rattle.nr_byte_laws.specs.InBytes.{HoldsBytes, IsInBytes}

-- ===== nodes

abbrev Nodes : Type 0
Nodes = FinMap nat_cmp Node

abbrev NodesInBytes : Nodes → Type 0
NodesInBytes nodes = (n : ℕ) (node : Node) → get nodes n ≡ Some node → HoldsBytes node.content

-- a change of a node that leaves it in bytes
abbrev KeepsBytes : (Node → Node) → Type 0
KeepsBytes change = (v : Node) → HoldsBytes v.content → HoldsBytes (change v).content

insert_at : (b : Bool) (w node : Node) (o : Option Node) → cond b (Some w) o ≡ Some node → HoldsBytes w.content → (o ≡ Some node → HoldsBytes node.content) → HoldsBytes node.content
insert_at true w node o e own k = let same : w ≡ node = cc in subst (λ (x : Node). HoldsBytes x.content) same own
insert_at false w node o e own k = k e

inserted : (nodes : Nodes) (k : ℕ) (w : Node) → HoldsBytes w.content → NodesInBytes nodes → NodesInBytes (insert nodes k w)
inserted nodes k w own h n node e = insert_at (eq_by_cmp nat_cmp n k) w node (get nodes n) (sym (get-insert nat_cmp_total nodes k w n) ∙ e) own (h n node)

remove_at : (b : Bool) (node : Node) (o : Option Node) → cond b None o ≡ Some node → (o ≡ Some node → HoldsBytes node.content) → HoldsBytes node.content
remove_at true node o e k = absurd cc
remove_at false node o e k = k e

removed : (nodes : Nodes) (k : ℕ) → NodesInBytes nodes → NodesInBytes (remove nodes k)
removed nodes k h n node e = remove_at (eq_by_cmp nat_cmp n k) node (get nodes n) (sym (get-remove nat_cmp_total nodes k n) ∙ e) (h n node)

changed : (nodes : Nodes) (k : ℕ) (change : Node → Node) → KeepsBytes change → NodesInBytes nodes → NodesInBytes (nodes_with_change nodes k change)
changed nodes k change keeps h = by (get nodes k) refl
  where
    by : (o : Option Node) → get nodes k ≡ o → NodesInBytes (option_map_or (λ (node : Node). insert nodes k (change node)) o nodes)
    by None e = h
    by (Some v) e = inserted nodes k (change v) (keeps v (h k v e)) h

-- ===== entries

abbrev pub NamesInBytes : List Entry → Type 0
NamesInBytes es = Each (λ (e : Entry). IsBytes e.name) es

pub names_last : (es : List Entry) (e : Entry) → NamesInBytes es → IsBytes e.name → NamesInBytes (es ++ e ∷ [])
names_last [] e h own = (own, tt)
names_last (x ∷ es) e h own = (h.0, names_last es e h.1 own)

names_by : (b : Bool) (e : Entry) (es rest : List Entry) → NamesInBytes (e ∷ es) → NamesInBytes rest → NamesInBytes (cond b es (e ∷ rest))
names_by true e es rest h k = h.1
names_by false e es rest h k = (h.0, k)

names_without : (name : List ℕ) (es : List Entry) → NamesInBytes es → NamesInBytes (list_without name es)
names_without name [] h = tt
names_without name (e ∷ es) h = names_by (is_name name e) e es (list_without name es) h (names_without name es h.1)

entries_kept : (change : Entries → Entries) → ((d : Entries) → NamesInBytes d.list → NamesInBytes (change d).list) → (c : Content) → HoldsBytes c → HoldsBytes (on_entries change c)
entries_kept change keeps (Regular bytes) h = h
entries_kept change keeps (Directory entries) h = keeps entries h
entries_kept change keeps (Block device) h = h
entries_kept change keeps (Character device) h = h
entries_kept change keeps (Link path) h = h
entries_kept change keeps Socket h = h
entries_kept change keeps Fifo h = h

entry_added : (now : Time) (name : List ℕ) (n : ℕ) (sub : Bool) → IsBytes name → KeepsBytes (node_with_entry now name n sub)
entry_added now name n sub own v h = entries_kept (λ (d : Entries). entries_with d name n) (λ d k. names_last d.list _ k own) v.content h

entry_gone : (now : Time) (name : List ℕ) (sub : Bool) → KeepsBytes (node_without_entry now name sub)
entry_gone now name sub v h = entries_kept (λ (d : Entries). entries_without d name) (λ d k. names_without name d.list k) v.content h

-- ===== data of files

length_bytes : (bytes : List ℕ) (len : ℕ) → IsBytes bytes → IsBytes (with_length bytes len)
length_bytes bytes len h = bytes_both (take len bytes) (replicate (len - length bytes) 0) (IsBytes_take len bytes h) (zeros_bytes (len - length bytes))

piece_bytes : (bytes : List ℕ) (offset : ℕ) (piece : List ℕ) → IsBytes piece → IsBytes bytes → IsBytes (with_bytes_at bytes offset piece)
piece_bytes bytes offset piece own h =
    bytes_both (with_length bytes offset) (piece ++ drop (offset + length piece) bytes) (length_bytes bytes offset h)
    (bytes_both piece (drop (offset + length piece) bytes) own (IsBytes_drop (offset + length piece) bytes h))

data_kept : (change : List ℕ → List ℕ) → ((bytes : List ℕ) → IsBytes bytes → IsBytes (change bytes)) → (c : Content) → HoldsBytes c → HoldsBytes (on_bytes change c)
data_kept change keeps (Regular bytes) h = keeps bytes h
data_kept change keeps (Directory entries) h = h
data_kept change keeps (Block device) h = h
data_kept change keeps (Character device) h = h
data_kept change keeps (Link path) h = h
data_kept change keeps Socket h = h
data_kept change keeps Fifo h = h

-- ===== trees

size_set : (t : Tree) (now : Time) (n size : ℕ) → IsInBytes t → IsInBytes (tree_with_size t now n size)
size_set t now n size h = changed t.nodes n (node_with_size now size) (λ v k. data_kept (λ (bytes : List ℕ). with_length bytes size) (λ bytes b. length_bytes bytes size b) v.content k) h

written_by : (b : Bool) (t : Tree) (now : Time) (n offset : ℕ) (piece : List ℕ) → IsBytes piece → IsInBytes t → IsInBytes (cond b t (tree_with_piece t now n offset piece))
written_by true t now n offset piece own h = h
written_by false t now n offset piece own h =
    changed t.nodes n (node_with_bytes now offset piece) (λ v k. data_kept (λ (bytes : List ℕ). with_bytes_at bytes offset piece) (λ bytes b. piece_bytes bytes offset piece own b) v.content k) h

node_added : (t : Tree) (now : Time) (d : ℕ) (name : List ℕ) (node : Node) → IsBytes name → HoldsBytes node.content → IsInBytes t → IsInBytes (tree_with_node t now d name node)
node_added t now d name node own content h =
    changed (insert t.nodes t.next node) d (node_with_entry now name t.next (is_dir node)) (entry_added now name t.next (is_dir node) own) (inserted t.nodes t.next node content h)

name_dropped : (nodes : Nodes) (now : Time) (k : ℕ) → NodesInBytes nodes → NodesInBytes (nodes_with_name_dropped nodes now k)
name_dropped nodes now k h = by (get nodes k) refl
  where
    either : (b : Bool) (v : Node) → HoldsBytes v.content → NodesInBytes (cond b (remove nodes k) (insert nodes k (node_without_link now v)))
    either true v own = removed nodes k h
    either false v own = inserted nodes k (node_without_link now v) own h

    by : (o : Option Node) → get nodes k ≡ o → NodesInBytes (option_map_or (λ (node : Node). cond (is_dir node || nat_le node.metadata.links 1) (remove nodes k) (insert nodes k (node_without_link now node))) o nodes)
    by None e = h
    by (Some v) e = either (is_dir v || nat_le v.metadata.links 1) v (h k v e)

entry_removed : (t : Tree) (now : Time) (d : ℕ) (name : List ℕ) (k : ℕ) → IsInBytes t → IsInBytes (tree_without_entry t now d name k)
entry_removed t now d name k h =
    let sub = value_at is_dir false t.nodes k in
    name_dropped (nodes_with_change t.nodes d (node_without_entry now name sub)) now k (changed t.nodes d (node_without_entry now name sub) (entry_gone now name sub) h)

link_added : (t : Tree) (now : Time) (d : ℕ) (name : List ℕ) (k : ℕ) → IsBytes name → IsInBytes t → IsInBytes (tree_with_link t now d name k)
link_added t now d name k own h =
    changed (nodes_with_change t.nodes k (node_with_link now d)) d (node_with_entry now name k false) (entry_added now name k false own)
    (changed t.nodes k (node_with_link now d) (λ v b. b) h)

target_gone : (t : Tree) (now : Time) (d : ℕ) (name : List ℕ) → IsInBytes t → IsInBytes (tree_without_target t now d name)
target_gone t now d name h = by (entry_at t d name)
  where
    by : (o : Option Entry) → IsInBytes (option_map_or (λ (e : Entry). tree_without_entry t now d name e.number) o t)
    by None = h
    by (Some e) = entry_removed t now d name e.number h

entry_moved : (t : Tree) (now : Time) (from : ℕ) (name : List ℕ) (to : ℕ) (name_to : List ℕ) (k : ℕ) → IsBytes name_to → IsInBytes t → IsInBytes (tree_with_entry_moved t now from name to name_to k)
entry_moved t now from name to name_to k own h =
    let sub = value_at is_dir false t.nodes k in
    let one = nodes_with_change t.nodes from (node_without_entry now name sub) in
    let two = nodes_with_change one to (node_with_entry now name_to k sub) in
    changed two k (node_with_new_name now to) (λ v b. b)
    (changed one to (node_with_entry now name_to k sub) (entry_added now name_to k sub own) (changed t.nodes from (node_without_entry now name sub) (entry_gone now name sub) h))

-- ===== procedures

kept : (o : Option Status) (old new : Tree) → IsInBytes old → IsInBytes new → IsInBytes (after o old new)
kept None old new h k = k
kept (Some status) old new h k = h

size_given : (t : Tree) (now : Time) (n : ℕ) (o : Option ℕ) → IsInBytes t → IsInBytes (option_map_or (λ (size : ℕ). tree_with_size t now n size) o t)
size_given t now n None h = h
size_given t now n (Some size) h = size_set t now n size h

attributes_set : (t : Tree) (now : Time) (a : SetattrArgs) (o : Option Node) → IsInBytes t → IsInBytes (option_map_or (λ (node : Node). tree_with_attributes t now (number_of_handle a.object) a.attributes node.metadata) o t)
attributes_set t now a None h = h
attributes_set t now a (Some v) h =
    let n = number_of_handle a.object in
    let u = tree_with_size_given t now n a.attributes.size in
    changed u.nodes n (node_with_metadata (metadata_after now a.attributes v.metadata)) (λ w b. b) (size_given t now n a.attributes.size h)

pub setattr_bytes : (t : Tree) (c : Caller) (space : Space) (now : Time) (a : SetattrArgs) → IsInBytes t → IsInBytes (setattr_tree t c space now a)
setattr_bytes t c space now a h = kept (first (setattr_rules t c space a)) t (setattr_done t now a) h (attributes_set t now a (node_of_handle t a.object) h)

pub write_bytes : (t : Tree) (c : Caller) (space : Space) (now : Time) (a : WriteArgs) → IsBytes a.bytes → IsInBytes t → IsInBytes (write_tree t c space now a)
write_bytes t c space now a own h =
    let n = number_of_handle a.file in
    kept (first (write_rules t c space a)) t (tree_with_bytes t now n a.offset (piece_written a)) h (written_by _ t now n a.offset (piece_written a) (IsBytes_take transfer_max a.bytes own) h)

pub create_bytes : (t : Tree) (c : Caller) (space : Space) (now : Time) (a : CreateArgs) → IsBytes a.name → IsInBytes t → IsInBytes (create_tree t c space now a)
create_bytes t c space now a own h =
    let d = number_of_handle a.dir in
    let o = number_of_entry t d a.name in
    kept (first (create_rules t c space a)) t (tree_with_file t c now a o) h (by o)
  where
    by : (o : Option ℕ) → IsInBytes (tree_with_file t c now a o)
    by None = node_added t now (number_of_handle a.dir) a.name (new_file c now (number_of_handle a.dir) a.how) own (zeros_bytes (unwrap_or (given_attributes a.how).size 0)) h
    by (Some n) = size_given t now n (size_to_set a.how) h

pub mkdir_bytes : (t : Tree) (c : Caller) (space : Space) (now : Time) (a : MkdirArgs) → IsBytes a.name → IsInBytes t → IsInBytes (mkdir_tree t c space now a)
mkdir_bytes t c space now a own h =
    let d = number_of_handle a.dir in
    let node = new_directory c now a in
    kept (first (mkdir_rules t c space a)) t (tree_with_node t now d a.name node) h (node_added t now d a.name node own tt h)

pub symlink_bytes : (t : Tree) (c : Caller) (space : Space) (now : Time) (a : SymlinkArgs) → IsBytes a.name → IsBytes a.path → IsInBytes t → IsInBytes (symlink_tree t c space now a)
symlink_bytes t c space now a own path h =
    let d = number_of_handle a.dir in
    let node = new_link c now a in
    kept (first (symlink_rules t c space a)) t (tree_with_node t now d a.name node) h (node_added t now d a.name node own path h)

special_bytes : (what : MknodData) (content : Content) → special_content what ≡ Some content → HoldsBytes content
special_bytes data_of.Reg content e = absurd cc
special_bytes data_of.Dir content e = absurd cc
special_bytes (data_of.Blk d) content e = let same : Block d.device ≡ content = cc in subst HoldsBytes same tt
special_bytes (data_of.Chr d) content e = let same : Character d.device ≡ content = cc in subst HoldsBytes same tt
special_bytes data_of.Lnk content e = absurd cc
special_bytes (data_of.Sock a) content e = let same : Socket ≡ content = cc in subst HoldsBytes same tt
special_bytes (data_of.Fifo a) content e = let same : Fifo ≡ content = cc in subst HoldsBytes same tt

pub mknod_bytes : (t : Tree) (c : Caller) (space : Space) (now : Time) (a : MknodArgs) → IsBytes a.name → IsInBytes t → IsInBytes (mknod_tree t c space now a)
mknod_bytes t c space now a own h =
    kept (first (mknod_rules t c space a)) t
    (option_map_or (λ (content : Content). tree_with_node t now (number_of_handle a.dir) a.name (new_special c now a content)) (special_content a.what) t) h
    (by (special_content a.what) refl)
  where
    by : (o : Option Content) → special_content a.what ≡ o → IsInBytes (option_map_or (λ (content : Content). tree_with_node t now (number_of_handle a.dir) a.name (new_special c now a content)) o t)
    by None e = h
    by (Some content) e = node_added t now (number_of_handle a.dir) a.name (new_special c now a content) own (special_bytes a.what content e) h

name_gone : (t : Tree) (now : Time) (handle name : List ℕ) → IsInBytes t → IsInBytes (tree_without_name t now handle name)
name_gone t now handle name h = by (number_of_entry t (number_of_handle handle) name)
  where
    by : (o : Option ℕ) → IsInBytes (option_map_or (λ (n : ℕ). tree_without_entry t now (number_of_handle handle) name n) o t)
    by None = h
    by (Some n) = entry_removed t now (number_of_handle handle) name n h

pub remove_bytes : (t : Tree) (c : Caller) (space : Space) (now : Time) (a : RemoveArgs) → IsInBytes t → IsInBytes (remove_tree t c space now a)
remove_bytes t c space now a h = kept (first (remove_rules t c space a)) t (tree_without_name t now a.dir a.name) h (name_gone t now a.dir a.name h)

pub rmdir_bytes : (t : Tree) (c : Caller) (space : Space) (now : Time) (a : RmdirArgs) → IsInBytes t → IsInBytes (rmdir_tree t c space now a)
rmdir_bytes t c space now a h = kept (first (rmdir_rules t c space a)) t (tree_without_name t now a.dir a.name) h (name_gone t now a.dir a.name h)

moved_by : (b : Bool) (t : Tree) (now : Time) (a : RenameArgs) (n : ℕ) → IsBytes a.to_name → IsInBytes t →
    IsInBytes (cond b t (tree_with_new_name t now (number_of_handle a.from_dir) a.from_name (number_of_handle a.to_dir) a.to_name n))
moved_by true t now a n own h = h
moved_by false t now a n own h =
    let to = number_of_handle a.to_dir in
    entry_moved (tree_without_target t now to a.to_name) now (number_of_handle a.from_dir) a.from_name to a.to_name n own (target_gone t now to a.to_name h)

pub rename_bytes : (t : Tree) (c : Caller) (space : Space) (now : Time) (a : RenameArgs) → IsBytes a.to_name → IsInBytes t → IsInBytes (rename_tree t c space now a)
rename_bytes t c space now a own h =
    let o = number_of_entry t (number_of_handle a.from_dir) a.from_name in
    kept (first (rename_rules t c space a)) t (option_map_or (tree_with_move t now a) o t) h (by o)
  where
    by : (o : Option ℕ) → IsInBytes (option_map_or (tree_with_move t now a) o t)
    by None = h
    by (Some n) = moved_by (is_same_node (number_of_entry t (number_of_handle a.to_dir) a.to_name) n) t now a n own h

pub link_bytes : (t : Tree) (c : Caller) (space : Space) (now : Time) (a : LinkArgs) → IsBytes a.name → IsInBytes t → IsInBytes (link_tree t c space now a)
link_bytes t c space now a own h =
    let d = number_of_handle a.dir in
    let n = number_of_handle a.file in
    kept (first (link_rules t c space a)) t (tree_with_link t now d a.name n) h (link_added t now d a.name n own h)

-- ===== the tree of a drill

hello_bytes : IsBytes hello
hello_bytes = decided hello refl

link_name_bytes : IsBytes link
link_name_bytes = decided link refl

many_bytes : IsBytes many
many_bytes = decided many refl

file_name_bytes : (i : ℕ) → i < 100 → IsBytes (file_name i)
file_name_bytes i lt =
    bytes_more 102 ((48 + i / 10) ∷ (48 + i % 10) ∷ []) (omega arith)
    (bytes_more (48 + i / 10) ((48 + i % 10) ∷ []) (omega (arith, lt)) (bytes_more (48 + i % 10) [] (omega arith) no_bytes_lem))

many_names : (n : ℕ) → n ≤ 100 → NamesInBytes (many_entries n)
many_names zero le = tt
many_names (suc i) le = names_last (many_entries i) _ (many_names i (omega (arith, le))) (file_name_bytes i (omega (arith, le)))

here : (o : Option Node) (v node : Node) → o ≡ Some v → o ≡ Some node → HoldsBytes v.content → HoldsBytes node.content
here o v node is e h = let same : v ≡ node = cc in subst (λ (x : Node). HoldsBytes x.content) same h

nowhere : (o : Option Node) (node : Node) → o ≡ None → o ≡ Some node → HoldsBytes node.content
nowhere o node none e = absurd cc

pub drill_in_bytes : (t : Tree) → IsDrill t → IsInBytes t
drill_in_bytes t is zero node e = nowhere (get t.nodes 0) node (is.nothing_else 0 (inl refl)) e
drill_in_bytes t is (suc zero) node e = here (get t.nodes 1) _ node is.root e (hello_bytes, (link_name_bytes, (many_bytes, tt)))
drill_in_bytes t is (suc (suc zero)) node e = here (get t.nodes 2) _ node is.hello_file e hello_bytes
drill_in_bytes t is (suc (suc (suc zero))) node e = here (get t.nodes 3) _ node is.link_node e hello_bytes
drill_in_bytes t is (suc (suc (suc (suc zero)))) node e = here (get t.nodes 4) _ node is.many_directory e (many_names 100 (omega arith))
drill_in_bytes t is (suc (suc (suc (suc (suc n))))) node e = by (cases_lt n 100)
  where
    all : ℕ
    all = suc (suc (suc (suc (suc n))))

    by : (n < 100) ⊎ (100 ≤ n) → HoldsBytes node.content
    by (inl lt) = here (get t.nodes all) _ node (is.files all (omega arith) (omega (arith, lt))) e no_bytes_lem
    by (inr le) = nowhere (get t.nodes all) node (is.nothing_else all (inr (omega (arith, le)))) e
