-- The results of each procedure are encoded in bytes, if the tree is in bytes.
use Rattle.std.specs.Prelude.{◌≡◌, ℕ, ◌==◌, nat_lt, nat_eq, min, Bool, true, false, List, [], ◌∷◌, ◌++◌, length, map, drop, Option, None, Some, unwrap_or}
use Rattle.std.specs.Option.{option_map, option_map_or}
use Rattle.std.specs.List.{AllByRecursion}
use Rattle.std.specs.Cmp.Lexicographic.{pointwise}
use Rattle.std.specs.FinMap.{get}
use Rattle.std.proofs.Common.{cond, refl, subst}
use Rattle.nr_xdr.specs.Item.{IsBytes, hyper as hyper_of_number}
use Rattle.nr_xdr.proofs.WordBytes.{IsBytes_take, IsBytes_drop}
use Rattle.nr_nfs_base.specs.Attributes.{special_data_codec, attributes_codec}
use Rattle.nr_nfs_base.specs.Codec.{Codec, word, hyper, boolean, opaque, void, ◌⊗◌, ◌&◌, structure, enumeration, optional, linked_list_items, linked_list, array}
use Rattle.nr_nfs_base.specs.FileType.{file_type_codec}
use Rattle.nr_nfs_base.specs.Fronts.{read_ok_front, readlink_ok_front}
use Rattle.nr_nfs_base.specs.Limits.{transfer_max}
use Rattle.nr_nfs_base.specs.Names.{handle_codec, text_codec}
use Rattle.nr_nfs_base.specs.Stable.{stable_how_codec}
use Rattle.nr_nfs_base.specs.Status.{status_number, statuses}
use Rattle.nr_nfs_base.specs.MountStatus.{mount_status_number, mount_statuses}
use Rattle.nr_nfs_base.specs.StatusUnion.{status_union_codec}
use Rattle.nr_nfs_base.specs.Time.{time_codec}
use Rattle.nr_nfs_base.specs.Verifier.{verifier_codec}
use Rattle.nr_nfs_base.specs.WeakCache.{wcc_attributes_codec, wcc_data_codec}
use Rattle.nr_nfs_base.specs.declared.caller.Caller.{Caller}
use Rattle.nr_nfs_base.specs.declared.mount_status.MountStatus.TheVariants.{Noent}
use Rattle.nr_nfs_base.specs.declared.procedure.MountProcedure.{MountProcedure}
use Rattle.nr_nfs_base.specs.declared.procedure.MountProcedure.TheVariants as mount
use Rattle.nr_nfs_base.specs.declared.procedure.NfsProcedure.{NfsProcedure}
use Rattle.nr_nfs_base.specs.declared.procedure.NfsProcedure.TheVariants as nfs
use Rattle.nr_nfs_base.specs.declared.status.Status.{Status}
use Rattle.nr_nfs_base.specs.declared.status_union.StatusUnion.{StatusUnion}
use Rattle.nr_nfs_base.specs.declared.status_union.StatusUnion.TheVariants.{Done, Failed}
use Rattle.nr_nfs_base.specs.declared.time.Time.{Time}
use Rattle.nr_nfs_args.specs.Arguments.{NfsArguments, MountArguments}
use Rattle.nr_nfs_res.specs.Attributes.{access_ok_codec}
use Rattle.nr_nfs_res.specs.Bytes.{read_ok_codec, write_ok_codec, commit_ok_codec}
use Rattle.nr_nfs_res.specs.Create.{create_ok_codec}
use Rattle.nr_nfs_res.specs.FileSystem.{fsstat_ok_codec, fsinfo_ok_codec, pathconf_ok_codec}
use Rattle.nr_nfs_res.specs.Lookup.{lookup_ok_codec, readlink_ok_codec}
use Rattle.nr_nfs_res.specs.Mount.{mount_ok_codec, umnt_res_codec, umntall_res_codec}
use Rattle.nr_nfs_res.specs.Null.{null_res_codec}
use Rattle.nr_nfs_res.specs.Readdir.{entry_codec, entry_plus_codec, listing_codec, readdir_ok_codec, readdirplus_ok_codec}
use Rattle.nr_nfs_res.specs.Remove.{rename_wcc_codec, link_wcc_codec}
use Rattle.nr_nfs_res.specs.Results.{nfs_result, nfs_results_codec, mount_results_codec}
use Rattle.nr_nfs_res.specs.declared.bytes.ReadOk.{ReadOk}
use Rattle.nr_nfs_res.specs.declared.create.CreateOk.{CreateOk}
use Rattle.nr_nfs_res.specs.declared.lookup.LookupOk.{LookupOk}
use Rattle.nr_nfs_res.specs.declared.lookup.ReadlinkOk.{ReadlinkOk}
use Rattle.nr_nfs_res.specs.declared.readdir.Entry.{Entry as ListedEntry}
use Rattle.nr_nfs_res.specs.declared.readdir.EntryPlus.{EntryPlus}
use Rattle.nr_nfs_res.specs.declared.readdir.Listing.{Listing}
use Rattle.nr_tree.specs.Entries.{Entry}
use Rattle.nr_tree.specs.Listing.{entries_after}
use Rattle.nr_tree.specs.Tree.{Tree, bytes_of, entries_of, entries_in}
use Rattle.nr_tree.specs.Rules.{first, answer, handle_of, number_of_handle, node_of_handle}
use Rattle.nr_tree.specs.declared.node.Node.{Node}
use Rattle.nr_tree.specs.declared.node.Content.{Content}
use Rattle.nr_tree.specs.declared.node.Content.TheVariants.{Regular, Directory, Block, Character, Link, Socket, Fifo}
use Rattle.nr_tree.specs.declared.rules.Space.{Space}
use Rattle.nr_tree.proofs.PassedRules.{got}
use Rattle.nr_ops_file.specs.Bytes.{bytes_at, read_rules, read_done}
use Rattle.nr_ops_file.specs.Links.{readlink_rules, readlink_done}
use Rattle.nr_ops_list.specs.Lookup.{found_by, lookup_rules, lookup_ok}
use Rattle.nr_ops_list.specs.Readdir.{entries_behind, longest, listed, readdir_ok, readdir_fits, readdir_left, readdir_taken, readdir_rules, listed_plus, readdirplus_ok, readdirplus_fits, readdirplus_left, readdirplus_taken, readdirplus_rules}
use Rattle.nr_ops_dir.specs.Entries.{number_of_entry}
use Rattle.nr_ops_dir.specs.Create.{create_rules, create_tree}
use Rattle.nr_ops_dir.specs.Creation.{create_ok, mkdir_rules, mkdir_tree, symlink_rules, symlink_tree, mknod_rules, mknod_tree}
use Rattle.nr_plain.specs.Programs.{nfs_results, mounted, mount_results}
use Rattle.nr_laws.proofs.Basics.{each_append}
use Rattle.nr_script.proofs.ByteLists.{no_bytes_lem, hyper_bytes, OfBytes, AreOfBytes}
use Rattle.nr_byte_laws.specs.InBytes.{HoldsBytes, IsInBytes}
use Rattle.nr_byte_laws.proofs.TreeBytes.{NamesInBytes, names_last}

-- ===== values that have numbers alone

record HasNumbers {A : Type 0} (c : Codec A) : Type 0 where
  each : (v : A) → AreOfBytes (c.items v)

word_numbers : HasNumbers word
unfolding word
word_numbers = record { each = λ v. (tt, tt) }

hyper_numbers : HasNumbers hyper
unfolding hyper
hyper_numbers = record { each = λ v. (tt, tt) }

boolean_numbers : HasNumbers boolean
unfolding boolean
boolean_numbers = record { each = λ v. (tt, tt) }

void_numbers : HasNumbers void
void_numbers = record { each = λ v. tt }

infixr 20 ◌⊞◌
◌⊞◌ : {A B : Type 0} {a : Codec A} {b : Codec B} → HasNumbers a → HasNumbers b → HasNumbers (a ⊗ b)
◌⊞◌ {A} {B} {a} {b} x y = record { each = λ v. each_append OfBytes (a.items v.0) (b.items v.1) (x.each v.0) (y.each v.1) }

structure_numbers : {A B : Type 0} (make : A → B) (parts : B → A) (c : Codec A) → HasNumbers c → HasNumbers (structure make parts c)
structure_numbers make parts c h = record { each = λ v. h.each (parts v) }

enumeration_numbers : {A : Type 0} (number : A → ℕ) (all : List A) → HasNumbers (enumeration number all)
unfolding enumeration
enumeration_numbers number all = record { each = λ v. word_numbers.each (number v) }

optional_items : {A : Type 0} (c : Codec A) (o : Option A) → ((v : A) → o ≡ Some v → AreOfBytes (c.items v)) → AreOfBytes ((optional c).items o)
unfolding optional boolean
optional_items c None h = (tt, tt)
optional_items c (Some v) h = (tt, h v refl)

optional_numbers : {A : Type 0} (c : Codec A) → HasNumbers c → HasNumbers (optional c)
optional_numbers c h = record { each = λ o. optional_items c o (λ v e. h.each v) }

time_numbers : HasNumbers time_codec
unfolding time_codec
time_numbers = structure_numbers _ _ _ (word_numbers ⊞ word_numbers)

file_type_numbers : HasNumbers file_type_codec
unfolding file_type_codec
file_type_numbers = enumeration_numbers _ _

stable_how_numbers : HasNumbers stable_how_codec
unfolding stable_how_codec
stable_how_numbers = enumeration_numbers _ _

verifier_numbers : HasNumbers verifier_codec
unfolding verifier_codec
verifier_numbers = structure_numbers _ _ _ hyper_numbers

special_data_numbers : HasNumbers special_data_codec
unfolding special_data_codec
special_data_numbers = structure_numbers _ _ _ (word_numbers ⊞ word_numbers)

attributes_numbers : HasNumbers attributes_codec
unfolding attributes_codec
attributes_numbers =
    structure_numbers _ _ _
    (file_type_numbers ⊞ word_numbers ⊞ word_numbers ⊞ word_numbers ⊞ word_numbers ⊞ hyper_numbers
    ⊞ hyper_numbers ⊞ special_data_numbers ⊞ hyper_numbers ⊞ hyper_numbers ⊞ time_numbers ⊞ time_numbers
    ⊞ time_numbers)

some_attributes_numbers : HasNumbers (optional attributes_codec)
some_attributes_numbers = optional_numbers attributes_codec attributes_numbers

wcc_attributes_numbers : HasNumbers wcc_attributes_codec
unfolding wcc_attributes_codec
wcc_attributes_numbers = structure_numbers _ _ _ (hyper_numbers ⊞ time_numbers ⊞ time_numbers)

wcc_data_numbers : HasNumbers wcc_data_codec
unfolding wcc_data_codec
wcc_data_numbers = structure_numbers _ _ _ (optional_numbers wcc_attributes_codec wcc_attributes_numbers ⊞ some_attributes_numbers)

access_ok_numbers : HasNumbers access_ok_codec
unfolding access_ok_codec
access_ok_numbers = structure_numbers _ _ _ (some_attributes_numbers ⊞ word_numbers)

write_ok_numbers : HasNumbers write_ok_codec
unfolding write_ok_codec
write_ok_numbers = structure_numbers _ _ _ (wcc_data_numbers ⊞ word_numbers ⊞ stable_how_numbers ⊞ verifier_numbers)

commit_ok_numbers : HasNumbers commit_ok_codec
unfolding commit_ok_codec
commit_ok_numbers = structure_numbers _ _ _ (wcc_data_numbers ⊞ verifier_numbers)

rename_wcc_numbers : HasNumbers rename_wcc_codec
unfolding rename_wcc_codec
rename_wcc_numbers = structure_numbers _ _ _ (wcc_data_numbers ⊞ wcc_data_numbers)

link_wcc_numbers : HasNumbers link_wcc_codec
unfolding link_wcc_codec
link_wcc_numbers = structure_numbers _ _ _ (some_attributes_numbers ⊞ wcc_data_numbers)

fsstat_ok_numbers : HasNumbers fsstat_ok_codec
unfolding fsstat_ok_codec
fsstat_ok_numbers =
    structure_numbers _ _ _
    (some_attributes_numbers ⊞ hyper_numbers ⊞ hyper_numbers ⊞ hyper_numbers ⊞ hyper_numbers ⊞ hyper_numbers ⊞ hyper_numbers ⊞ word_numbers)

fsinfo_ok_numbers : HasNumbers fsinfo_ok_codec
unfolding fsinfo_ok_codec
fsinfo_ok_numbers =
    structure_numbers _ _ _
    (some_attributes_numbers ⊞ word_numbers ⊞ word_numbers ⊞ word_numbers ⊞ word_numbers ⊞ word_numbers ⊞ word_numbers ⊞ word_numbers
    ⊞ hyper_numbers ⊞ time_numbers ⊞ word_numbers)

pathconf_ok_numbers : HasNumbers pathconf_ok_codec
unfolding pathconf_ok_codec
pathconf_ok_numbers =
    structure_numbers _ _ _
    (some_attributes_numbers ⊞ word_numbers ⊞ word_numbers ⊞ boolean_numbers ⊞ boolean_numbers ⊞ boolean_numbers ⊞ boolean_numbers)

null_res_numbers : HasNumbers null_res_codec
unfolding null_res_codec
null_res_numbers = structure_numbers _ _ _ void_numbers

umnt_res_numbers : HasNumbers umnt_res_codec
unfolding umnt_res_codec
umnt_res_numbers = structure_numbers _ _ _ void_numbers

umntall_res_numbers : HasNumbers umntall_res_codec
unfolding umntall_res_codec
umntall_res_numbers = structure_numbers _ _ _ void_numbers

-- ===== unions over a status

-- what is known of the values after the status 0
abbrev IfDone : {D F S : Type 0} → (D → Type 0) → StatusUnion D F S → Type 0
IfDone P (Done d) = P d
IfDone P (Failed s f) = Unit {0}

union_items : {D F S : Type 0} (number : S → ℕ) (all : List S) (done : Codec D) (failed : Codec F) → HasNumbers failed → (v : StatusUnion D F S) → IfDone (λ (d : D). AreOfBytes (done.items d)) v →
    AreOfBytes ((status_union_codec number all done failed).items v)
unfolding status_union_codec enumeration word
union_items number all done failed f (Done d) h = (tt, h)
union_items number all done failed f (Failed s x) h = (tt, f.each x)

numbers_done : {D F S : Type 0} (done : Codec D) → HasNumbers done → (v : StatusUnion D F S) → IfDone (λ (d : D). AreOfBytes (done.items d)) v
numbers_done done h (Done d) = h.each d
numbers_done done h (Failed s f) = tt

result_numbers : {D F : Type 0} (done : Codec D) (failed : Codec F) → HasNumbers done → HasNumbers failed → HasNumbers (nfs_result done failed)
result_numbers done failed h f = record { each = λ v. union_items status_number statuses done failed f v (numbers_done done h v) }

-- the results of a call that no rule refuses
answered_items : {D F : Type 0} (done : Codec D) (failed : Codec F) → HasNumbers failed → (o : Option Status) (part : F) (v : D) → AreOfBytes (done.items v) →
    AreOfBytes ((nfs_result done failed).items (answer o (λ (s : Status). Failed s part) (Done v)))
answered_items done failed f None part v h = union_items status_number statuses done failed f (Done v) h
answered_items done failed f (Some s) part v h = union_items status_number statuses done failed f (Failed s part) tt

-- ===== handles, data and names

pub handle_bytes : (n : ℕ) → IsBytes (handle_of n)
unfolding hyper_of_number
handle_bytes n = hyper_bytes n

handle_items : (h : List ℕ) → IsBytes h → AreOfBytes (handle_codec.items h)
unfolding opaque
handle_items h b = (b, tt)

text_items : (bytes : List ℕ) → IsBytes bytes → AreOfBytes (text_codec.items bytes)
unfolding opaque
text_items bytes b = (b, tt)

mapped_handle : (o : Option ℕ) (h : List ℕ) → option_map handle_of o ≡ Some h → AreOfBytes (handle_codec.items h)
mapped_handle None h e = absurd cc
mapped_handle (Some n) h e = let same : handle_of n ≡ h = cc in handle_items h (subst IsBytes same (handle_bytes n))

live_handle : (o : Option Node) (n : ℕ) (h : List ℕ) → option_map (λ (node : Node). handle_of n) o ≡ Some h → AreOfBytes (handle_codec.items h)
live_handle None n h e = absurd cc
live_handle (Some v) n h e = mapped_handle (Some n) h e

content_bytes : (c : Content) → HoldsBytes c → IsBytes (bytes_of c)
content_bytes (Regular bytes) h = h
content_bytes (Directory entries) h = no_bytes_lem
content_bytes (Block device) h = no_bytes_lem
content_bytes (Character device) h = no_bytes_lem
content_bytes (Link path) h = h
content_bytes Socket h = no_bytes_lem
content_bytes Fifo h = no_bytes_lem

content_names : (c : Content) → HoldsBytes c → NamesInBytes (entries_of c)
content_names (Regular bytes) h = tt
content_names (Directory entries) h = h
content_names (Block device) h = tt
content_names (Character device) h = tt
content_names (Link path) h = tt
content_names Socket h = tt
content_names Fifo h = tt

data_bytes : (t : Tree) (handle : List ℕ) → IsInBytes t → IsBytes (bytes_at t handle)
data_bytes t handle h = by (node_of_handle t handle) refl
  where
    by : (o : Option Node) → node_of_handle t handle ≡ o → IsBytes (option_map_or (λ (node : Node). bytes_of node.content) o [])
    by None e = no_bytes_lem
    by (Some v) e = content_bytes v.content (h (number_of_handle handle) v (got t handle v e))

after_by : (b : Bool) (e : Entry) (rest : List Entry) → IsBytes e.name → NamesInBytes rest → NamesInBytes (cond b (e ∷ rest) rest)
after_by true e rest own h = (own, h)
after_by false e rest own h = h

names_after : (cookie : ℕ) (es : List Entry) → NamesInBytes es → NamesInBytes (entries_after cookie es)
names_after cookie [] h = tt
names_after cookie (e ∷ es) h = after_by (nat_lt cookie e.cookie) e (entries_after cookie es) h.0 (names_after cookie es h.1)

names_behind : (t : Tree) (handle : List ℕ) (cookie : ℕ) → IsInBytes t → NamesInBytes (entries_behind t handle cookie)
names_behind t handle cookie h = by (node_of_handle t handle) refl
  where
    by : (o : Option Node) → node_of_handle t handle ≡ o → NamesInBytes (option_map_or (λ (dir : Node). entries_after cookie (entries_in dir)) o [])
    by None e = tt
    by (Some v) e = names_after cookie (entries_in v) (content_names v.content (h (number_of_handle handle) v (got t handle v e)))

either : (b : Bool) (xs ys : List Entry) → NamesInBytes xs → NamesInBytes ys → NamesInBytes (cond b xs ys)
either true xs ys h k = h
either false xs ys h k = k

names_longest : (fits : List Entry → Bool) (taken left : List Entry) → NamesInBytes taken → NamesInBytes left → NamesInBytes (longest fits taken left)
names_longest fits taken [] h k = h
names_longest fits taken (e ∷ es) h k =
    either (fits (taken ++ e ∷ [])) (longest fits (taken ++ e ∷ []) es) taken (names_longest fits (taken ++ e ∷ []) es (names_last taken e h k.0) k.1) h

-- ===== results with handles, data or names

lookup_items : (v : LookupOk) → IsBytes v.object → AreOfBytes (lookup_ok_codec.items v)
unfolding lookup_ok_codec
lookup_items v b =
    each_append OfBytes (handle_codec.items v.object) ((optional attributes_codec ⊗ optional attributes_codec).items (v.attributes & v.dir_attributes)) (handle_items v.object b)
    ((some_attributes_numbers ⊞ some_attributes_numbers).each (v.attributes & v.dir_attributes))

readlink_items : (v : ReadlinkOk) → IsBytes v.path → AreOfBytes (readlink_ok_codec.items v)
unfolding readlink_ok_codec
readlink_items v b = each_append OfBytes (readlink_ok_front.items v.attributes) (text_codec.items v.path) (some_attributes_numbers.each v.attributes) (text_items v.path b)

read_items : (v : ReadOk) → IsBytes v.bytes → AreOfBytes (read_ok_codec.items v)
unfolding read_ok_codec
read_items v b =
    each_append OfBytes (read_ok_front.items (v.attributes & v.count & v.eof)) (text_codec.items v.bytes)
    ((some_attributes_numbers ⊞ word_numbers ⊞ boolean_numbers).each (v.attributes & v.count & v.eof)) (text_items v.bytes b)

create_items : (v : CreateOk) → ((h : List ℕ) → v.object ≡ Some h → AreOfBytes (handle_codec.items h)) → AreOfBytes (create_ok_codec.items v)
unfolding create_ok_codec
create_items v b =
    each_append OfBytes ((optional handle_codec).items v.object) ((optional attributes_codec ⊗ wcc_data_codec).items (v.attributes & v.dir_wcc)) (optional_items handle_codec v.object b)
    ((some_attributes_numbers ⊞ wcc_data_numbers).each (v.attributes & v.dir_wcc))

some_items : {A : Type 0} (c : Codec A) (v : A) → AreOfBytes (c.items v) → AreOfBytes ((optional c).items (Some v))
unfolding optional boolean
some_items c v h = (tt, h)

list_items : {A : Type 0} (c : Codec A) (vs : List A) → AllByRecursion (λ (v : A). AreOfBytes (c.items v)) vs → AreOfBytes (linked_list_items c vs)
list_items c [] h = optional_items c None (λ v e. absurd cc)
list_items c (v ∷ vs) h = each_append OfBytes ((optional c).items (Some v)) (linked_list_items c vs) (some_items c v h.0) (list_items c vs h.1)

listing_items : {E : Type 0} (c : Codec E) (v : Listing E) → AllByRecursion (λ (e : E). AreOfBytes (c.items e)) v.entries → AreOfBytes ((listing_codec c).items v)
unfolding listing_codec linked_list
listing_items c v h =
    each_append OfBytes ((optional attributes_codec).items v.dir_attributes) ((verifier_codec ⊗ (linked_list c) ⊗ boolean).items (v.verifier & v.entries & v.eof)) (some_attributes_numbers.each v.dir_attributes)
    (each_append OfBytes (verifier_codec.items v.verifier) (((linked_list c) ⊗ boolean).items (v.entries & v.eof)) (verifier_numbers.each v.verifier)
    (each_append OfBytes (linked_list_items c v.entries) (boolean.items v.eof) (list_items c v.entries h) (boolean_numbers.each v.eof)))

entry_items : (v : ListedEntry) → IsBytes v.name → AreOfBytes (entry_codec.items v)
unfolding entry_codec
entry_items v b =
    each_append OfBytes (hyper.items v.fileid) ((text_codec ⊗ hyper).items (v.name & v.cookie)) (hyper_numbers.each v.fileid)
    (each_append OfBytes (text_codec.items v.name) (hyper.items v.cookie) (text_items v.name b) (hyper_numbers.each v.cookie))

entry_plus_items : (v : EntryPlus) → IsBytes v.name → ((h : List ℕ) → v.handle ≡ Some h → AreOfBytes (handle_codec.items h)) → AreOfBytes (entry_plus_codec.items v)
unfolding entry_plus_codec
entry_plus_items v b g =
    each_append OfBytes (hyper.items v.fileid) ((text_codec ⊗ hyper ⊗ optional attributes_codec ⊗ optional handle_codec).items (v.name & v.cookie & v.attributes & v.handle)) (hyper_numbers.each v.fileid)
    (each_append OfBytes (text_codec.items v.name) ((hyper ⊗ optional attributes_codec ⊗ optional handle_codec).items (v.cookie & v.attributes & v.handle)) (text_items v.name b)
    (each_append OfBytes (hyper.items v.cookie) ((optional attributes_codec ⊗ optional handle_codec).items (v.attributes & v.handle)) (hyper_numbers.each v.cookie)
    (each_append OfBytes ((optional attributes_codec).items v.attributes) ((optional handle_codec).items v.handle) (some_attributes_numbers.each v.attributes) (optional_items handle_codec v.handle g))))

listed_items : (es : List Entry) → NamesInBytes es → AllByRecursion (λ (v : ListedEntry). AreOfBytes (entry_codec.items v)) (map listed es)
listed_items [] h = tt
listed_items (e ∷ es) h = (entry_items (listed e) h.0, listed_items es h.1)

listed_plus_items : (t : Tree) (es : List Entry) → NamesInBytes es → AllByRecursion (λ (v : EntryPlus). AreOfBytes (entry_plus_codec.items v)) (map (listed_plus t) es)
listed_plus_items t [] h = tt
listed_plus_items t (e ∷ es) h = (entry_plus_items (listed_plus t e) h.0 (λ handle is. live_handle (get t.nodes e.number) e.number handle is), listed_plus_items t es h.1)

-- ===== by the procedure

created_items : (old new : Tree) (handle name : List ℕ) → AreOfBytes (create_ok_codec.items (create_ok old new handle name))
created_items old new handle name = create_items (create_ok old new handle name) (λ h e. mapped_handle (number_of_entry new (number_of_handle handle) name) h e)

module _ (t : Tree) (c : Caller) (space : Space) (now : Time) (is : IsInBytes t) where
  pub nfs_items : (p : NfsProcedure) (a : NfsArguments p) → AreOfBytes ((nfs_results_codec p).items (nfs_results t c space now p a))
  nfs_items nfs.Null a = null_res_numbers.each (record {})
  nfs_items nfs.Getattr a = (result_numbers attributes_codec void attributes_numbers void_numbers).each (nfs_results t c space now nfs.Getattr a)
  nfs_items nfs.Setattr a = (result_numbers wcc_data_codec wcc_data_codec wcc_data_numbers wcc_data_numbers).each (nfs_results t c space now nfs.Setattr a)
  nfs_items nfs.Lookup a =
      answered_items lookup_ok_codec (optional attributes_codec) some_attributes_numbers (first (lookup_rules t c a)) _ (lookup_ok t a.dir (unwrap_or (found_by t a) 0))
      (lookup_items (lookup_ok t a.dir (unwrap_or (found_by t a) 0)) (handle_bytes (unwrap_or (found_by t a) 0)))
  nfs_items nfs.Access a = (result_numbers access_ok_codec (optional attributes_codec) access_ok_numbers some_attributes_numbers).each (nfs_results t c space now nfs.Access a)
  nfs_items nfs.Readlink a =
      answered_items readlink_ok_codec (optional attributes_codec) some_attributes_numbers (first (readlink_rules t a)) _ (readlink_done t a)
      (readlink_items (readlink_done t a) (data_bytes t a.symlink is))
  nfs_items nfs.Read a =
      answered_items read_ok_codec (optional attributes_codec) some_attributes_numbers (first (read_rules t c a)) _ (read_done t a)
      (read_items (read_done t a) (IsBytes_take (min a.count transfer_max) (drop a.offset (bytes_at t a.file)) (IsBytes_drop a.offset (bytes_at t a.file) (data_bytes t a.file is))))
  nfs_items nfs.Write a = (result_numbers write_ok_codec wcc_data_codec write_ok_numbers wcc_data_numbers).each (nfs_results t c space now nfs.Write a)
  nfs_items nfs.Create a =
      answered_items create_ok_codec wcc_data_codec wcc_data_numbers (first (create_rules t c space a)) _ (create_ok t (create_tree t c space now a) a.dir a.name) (created_items t (create_tree t c space now a) a.dir a.name)
  nfs_items nfs.Mkdir a =
      answered_items create_ok_codec wcc_data_codec wcc_data_numbers (first (mkdir_rules t c space a)) _ (create_ok t (mkdir_tree t c space now a) a.dir a.name) (created_items t (mkdir_tree t c space now a) a.dir a.name)
  nfs_items nfs.Symlink a =
      answered_items create_ok_codec wcc_data_codec wcc_data_numbers (first (symlink_rules t c space a)) _ (create_ok t (symlink_tree t c space now a) a.dir a.name) (created_items t (symlink_tree t c space now a) a.dir a.name)
  nfs_items nfs.Mknod a =
      answered_items create_ok_codec wcc_data_codec wcc_data_numbers (first (mknod_rules t c space a)) _ (create_ok t (mknod_tree t c space now a) a.dir a.name) (created_items t (mknod_tree t c space now a) a.dir a.name)
  nfs_items nfs.Remove a = (result_numbers wcc_data_codec wcc_data_codec wcc_data_numbers wcc_data_numbers).each (nfs_results t c space now nfs.Remove a)
  nfs_items nfs.Rmdir a = (result_numbers wcc_data_codec wcc_data_codec wcc_data_numbers wcc_data_numbers).each (nfs_results t c space now nfs.Rmdir a)
  nfs_items nfs.Rename a = (result_numbers rename_wcc_codec rename_wcc_codec rename_wcc_numbers rename_wcc_numbers).each (nfs_results t c space now nfs.Rename a)
  nfs_items nfs.Link a = (result_numbers link_wcc_codec link_wcc_codec link_wcc_numbers link_wcc_numbers).each (nfs_results t c space now nfs.Link a)
  nfs_items nfs.Readdir a =
      let taken = readdir_taken t a in
      let all = readdir_ok t a.dir taken (length taken == length (readdir_left t a)) in
      answered_items readdir_ok_codec (optional attributes_codec) some_attributes_numbers (first (readdir_rules t c a)) _ all
      (listing_items entry_codec all (listed_items taken (names_longest (readdir_fits t a) [] (readdir_left t a) tt (names_behind t a.dir a.cookie is))))
  nfs_items nfs.Readdirplus a =
      let taken = readdirplus_taken t a in
      let all = readdirplus_ok t a.dir taken (length taken == length (readdirplus_left t a)) in
      answered_items readdirplus_ok_codec (optional attributes_codec) some_attributes_numbers (first (readdirplus_rules t c a)) _ all
      (listing_items entry_plus_codec all (listed_plus_items t taken (names_longest (readdirplus_fits t a) [] (readdirplus_left t a) tt (names_behind t a.dir a.cookie is))))
  nfs_items nfs.Fsstat a = (result_numbers fsstat_ok_codec (optional attributes_codec) fsstat_ok_numbers some_attributes_numbers).each (nfs_results t c space now nfs.Fsstat a)
  nfs_items nfs.Fsinfo a = (result_numbers fsinfo_ok_codec (optional attributes_codec) fsinfo_ok_numbers some_attributes_numbers).each (nfs_results t c space now nfs.Fsinfo a)
  nfs_items nfs.Pathconf a = (result_numbers pathconf_ok_codec (optional attributes_codec) pathconf_ok_numbers some_attributes_numbers).each (nfs_results t c space now nfs.Pathconf a)
  nfs_items nfs.Commit a = (result_numbers commit_ok_codec wcc_data_codec commit_ok_numbers wcc_data_numbers).each (nfs_results t c space now nfs.Commit a)

-- ===== MOUNT

mounted_items : AreOfBytes (mount_ok_codec.items mounted)
unfolding mount_ok_codec array word
mounted_items = each_append OfBytes (handle_codec.items mounted.handle) ((array word).items mounted.flavors) (handle_items mounted.handle (handle_bytes 1)) (tt, (tt, (tt, tt)))

mount_found : (b : Bool) → AreOfBytes ((mount_results_codec mount.Mnt).items (cond b (Done mounted) (Failed Noent tt)))
mount_found true = union_items mount_status_number mount_statuses mount_ok_codec void void_numbers (Done mounted) mounted_items
mount_found false = union_items mount_status_number mount_statuses mount_ok_codec void void_numbers (Failed Noent tt) tt

pub mount_items : (export : List ℕ) (p : MountProcedure) (a : MountArguments p) → AreOfBytes ((mount_results_codec p).items (mount_results export p a))
mount_items export mount.Null a = null_res_numbers.each (record {})
mount_items export mount.Mnt a = mount_found (pointwise nat_eq a.dirpath export)
mount_items export mount.Umnt a = umnt_res_numbers.each (record {})
mount_items export mount.Umntall a = umntall_res_numbers.each (record {})
