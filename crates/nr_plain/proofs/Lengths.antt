-- How many bytes the parts of results have.
use Rattle.std.proofs.Common.{◌≡◌, ℕ, ◌+◌, ◌≤◌, List, [], ◌∷◌, ◌++◌, length, Option, None, Some, refl, arith}
use Rattle.nr_xdr.specs.Item.{pad_len, hyper}
use Rattle.nr_xdr.specs.Items.{encodings}
use Rattle.nr_xdr.proofs.WordBytes.{length_hyper}
use Rattle.nr_nfs_base.specs.Codec.{Codec, optional, enumeration, array, word as word_codec, hyper as hyper_codec, boolean, opaque}
use Rattle.nr_nfs_base.specs.Attributes.{attributes_codec}
use Rattle.nr_nfs_base.specs.Names.{handle_codec, text_codec}
use Rattle.nr_nfs_base.specs.Stable.{stable_how_codec}
use Rattle.nr_nfs_base.specs.StatusUnion.{status_union_codec}
use Rattle.nr_nfs_base.specs.Time.{time_codec}
use Rattle.nr_nfs_base.specs.Verifier.{verifier_codec}
use Rattle.nr_nfs_base.specs.WeakCache.{wcc_attributes_codec, wcc_data_codec}
use Rattle.nr_nfs_base.specs.declared.attributes.Attributes.{Attributes}
use Rattle.nr_nfs_base.specs.declared.mount_status.MountStatus.{MountStatus}
use Rattle.nr_nfs_base.specs.declared.status.Status.{Status}
use Rattle.nr_nfs_base.specs.declared.status_union.StatusUnion.{StatusUnion}
use Rattle.nr_nfs_base.specs.declared.status_union.StatusUnion.TheVariants.{Done, Failed}
use Rattle.nr_nfs_base.specs.declared.weak_cache.WccAttributes.{WccAttributes}
use Rattle.nr_nfs_base.specs.declared.weak_cache.WccData.{WccData}
use Rattle.nr_nfs_res.specs.Attributes.{access_ok_codec}
use Rattle.nr_nfs_res.specs.Bytes.{commit_ok_codec, read_ok_codec, write_ok_codec}
use Rattle.nr_nfs_res.specs.Create.{create_ok_codec}
use Rattle.nr_nfs_res.specs.FileSystem.{fsinfo_ok_codec, fsstat_ok_codec, pathconf_ok_codec}
use Rattle.nr_nfs_res.specs.Lookup.{lookup_ok_codec, readlink_ok_codec}
use Rattle.nr_nfs_res.specs.Mount.{mount_ok_codec}
use Rattle.nr_nfs_res.specs.Remove.{link_wcc_codec, rename_wcc_codec}
use Rattle.nr_nfs_res.specs.Results.{nfs_result, mnt_res_codec}
use Rattle.nr_nfs_res.specs.declared.attributes.AccessOk.{AccessOk}
use Rattle.nr_nfs_res.specs.declared.bytes.CommitOk.{CommitOk}
use Rattle.nr_nfs_res.specs.declared.bytes.ReadOk.{ReadOk}
use Rattle.nr_nfs_res.specs.declared.bytes.WriteOk.{WriteOk}
use Rattle.nr_nfs_res.specs.declared.create.CreateOk.{CreateOk}
use Rattle.nr_nfs_res.specs.declared.file_system.FsinfoOk.{FsinfoOk}
use Rattle.nr_nfs_res.specs.declared.file_system.FsstatOk.{FsstatOk}
use Rattle.nr_nfs_res.specs.declared.file_system.PathconfOk.{PathconfOk}
use Rattle.nr_nfs_res.specs.declared.lookup.LookupOk.{LookupOk}
use Rattle.nr_nfs_res.specs.declared.lookup.ReadlinkOk.{ReadlinkOk}
use Rattle.nr_nfs_res.specs.declared.mount.MountOk.{MountOk}
use Rattle.nr_nfs_res.specs.declared.remove.LinkWcc.{LinkWcc}
use Rattle.nr_nfs_res.specs.declared.remove.RenameWcc.{RenameWcc}
use Rattle.nr_tree.specs.Rules.{answer, handle_of}
use Rattle.nr_ops_list.proofs.Sizes.{items_size, items_size_append, length_encodings, attributes_size}
use Rattle.nr_nfs_base.specs.Limits.{handle_max}
use Rattle.nr_plain.specs.ReplySizes.{HandleFits}

-- ===== attributes and handles

pub some_attributes : (o : Option Attributes) → items_size ((optional attributes_codec).items o) ≤ 88
unfolding optional boolean
some_attributes None = omega arith
some_attributes (Some a) = omega (arith, attributes_size a)

wcc_attributes_size : (a : WccAttributes) → items_size (wcc_attributes_codec.items a) ≡ 24
unfolding wcc_attributes_codec time_codec word_codec hyper_codec
wcc_attributes_size a = refl

some_wcc_attributes : (o : Option WccAttributes) → items_size ((optional wcc_attributes_codec).items o) ≤ 28
unfolding optional boolean
some_wcc_attributes None = omega arith
some_wcc_attributes (Some a) = omega (arith, wcc_attributes_size a)

pub wcc_size : (w : WccData) → items_size (wcc_data_codec.items w) ≤ 116
unfolding wcc_data_codec
wcc_size w =
    omega (
      arith,
      items_size_append ((optional wcc_attributes_codec).items w.before) ((optional attributes_codec).items w.after),
      some_wcc_attributes w.before,
      some_attributes w.after,
    )

-- n bytes with their pad are no more than m bytes with theirs, if n is at most m
pub padded_rises : (n m : ℕ) → n ≤ m → n + pad_len n ≤ m + pad_len m
unfolding pad_len
padded_rises n m le = omega (arith, le)

opaque_size : (max : ℕ) (bytes : List ℕ) → items_size ((opaque max).items bytes) ≡ 4 + (length bytes + pad_len (length bytes))
unfolding opaque
opaque_size max bytes = omega arith

short_handle : (n : ℕ) → n ≤ handle_max → n + pad_len n ≤ handle_max
unfolding pad_len
short_handle n le = omega (arith, le)

handle_size : (h : List ℕ) → length h ≤ handle_max → items_size (handle_codec.items h) ≤ 68
handle_size h le = omega (arith, opaque_size handle_max h, short_handle (length h) le)

some_handle : (o : Option (List ℕ)) → HandleFits o → items_size ((optional handle_codec).items o) ≤ 72
unfolding optional boolean
some_handle None fits = omega arith
some_handle (Some h) fits = omega (arith, handle_size h fits)

pub length_handle : (n : ℕ) → length (handle_of n) ≡ 8
unfolding hyper
length_handle n = length_hyper n

-- ===== parts of results on success

pub lookup_size : (d : LookupOk) → length d.object ≤ handle_max → items_size (lookup_ok_codec.items d) ≤ 244
unfolding lookup_ok_codec
lookup_size d le =
    omega (
      arith,
      items_size_append (handle_codec.items d.object) ((optional attributes_codec).items d.attributes ++ (optional attributes_codec).items d.dir_attributes),
      items_size_append ((optional attributes_codec).items d.attributes) ((optional attributes_codec).items d.dir_attributes),
      handle_size d.object le,
      some_attributes d.attributes,
      some_attributes d.dir_attributes,
    )

pub access_size : (d : AccessOk) → items_size (access_ok_codec.items d) ≤ 92
unfolding access_ok_codec word_codec
access_size d = omega (arith, items_size_append ((optional attributes_codec).items d.attributes) (word_codec.items d.access), some_attributes d.attributes)

pub readlink_size : (d : ReadlinkOk) → items_size (readlink_ok_codec.items d) ≤ 92 + (length d.path + pad_len (length d.path))
unfolding readlink_ok_codec
readlink_size d =
    omega (arith, items_size_append ((optional attributes_codec).items d.attributes) (text_codec.items d.path), some_attributes d.attributes, opaque_size 4294967295 d.path)

pub read_size : (d : ReadOk) → items_size (read_ok_codec.items d) ≤ 100 + (length d.bytes + pad_len (length d.bytes))
unfolding read_ok_codec word_codec boolean
read_size d =
    omega (
      arith,
      items_size_append ((optional attributes_codec).items d.attributes ++ (word_codec.items d.count ++ boolean.items d.eof)) (text_codec.items d.bytes),
      items_size_append ((optional attributes_codec).items d.attributes) (word_codec.items d.count ++ boolean.items d.eof),
      some_attributes d.attributes,
      opaque_size 4294967295 d.bytes,
    )

pub write_size : (d : WriteOk) → items_size (write_ok_codec.items d) ≤ 132
unfolding write_ok_codec stable_how_codec enumeration verifier_codec word_codec hyper_codec
write_size d =
    omega (arith, items_size_append (wcc_data_codec.items d.wcc) (word_codec.items d.count ++ (stable_how_codec.items d.committed ++ verifier_codec.items d.verifier)), wcc_size d.wcc)

pub commit_size : (d : CommitOk) → items_size (commit_ok_codec.items d) ≤ 124
unfolding commit_ok_codec verifier_codec hyper_codec
commit_size d = omega (arith, items_size_append (wcc_data_codec.items d.wcc) (verifier_codec.items d.verifier), wcc_size d.wcc)

pub create_size : (d : CreateOk) → HandleFits d.object → items_size (create_ok_codec.items d) ≤ 276
unfolding create_ok_codec
create_size d fits =
    omega (
      arith,
      items_size_append ((optional handle_codec).items d.object) ((optional attributes_codec).items d.attributes ++ wcc_data_codec.items d.dir_wcc),
      items_size_append ((optional attributes_codec).items d.attributes) (wcc_data_codec.items d.dir_wcc),
      some_handle d.object fits,
      some_attributes d.attributes,
      wcc_size d.dir_wcc,
    )

pub rename_size : (d : RenameWcc) → items_size (rename_wcc_codec.items d) ≤ 232
unfolding rename_wcc_codec
rename_size d =
    omega (arith, items_size_append (wcc_data_codec.items d.from_dir) (wcc_data_codec.items d.to_dir), wcc_size d.from_dir, wcc_size d.to_dir)

pub link_size : (d : LinkWcc) → items_size (link_wcc_codec.items d) ≤ 204
unfolding link_wcc_codec
link_size d =
    omega (arith, items_size_append ((optional attributes_codec).items d.attributes) (wcc_data_codec.items d.dir_wcc), some_attributes d.attributes, wcc_size d.dir_wcc)

fsstat_items : (d : FsstatOk) → items_size (fsstat_ok_codec.items d) ≡ items_size ((optional attributes_codec).items d.attributes) + 52
unfolding fsstat_ok_codec word_codec hyper_codec
fsstat_items d = items_size_append ((optional attributes_codec).items d.attributes) _

pub fsstat_size : (d : FsstatOk) → items_size (fsstat_ok_codec.items d) ≤ 140
fsstat_size d = omega (arith, fsstat_items d, some_attributes d.attributes)

fsinfo_items : (d : FsinfoOk) → items_size (fsinfo_ok_codec.items d) ≡ items_size ((optional attributes_codec).items d.attributes) + 48
unfolding fsinfo_ok_codec word_codec hyper_codec time_codec
fsinfo_items d = items_size_append ((optional attributes_codec).items d.attributes) _

pub fsinfo_size : (d : FsinfoOk) → items_size (fsinfo_ok_codec.items d) ≤ 136
fsinfo_size d = omega (arith, fsinfo_items d, some_attributes d.attributes)

pathconf_items : (d : PathconfOk) → items_size (pathconf_ok_codec.items d) ≡ items_size ((optional attributes_codec).items d.attributes) + 24
unfolding pathconf_ok_codec word_codec boolean
pathconf_items d = items_size_append ((optional attributes_codec).items d.attributes) _

pub pathconf_size : (d : PathconfOk) → items_size (pathconf_ok_codec.items d) ≤ 112
pathconf_size d = omega (arith, pathconf_items d, some_attributes d.attributes)

mount_items : (h : List ℕ) → items_size (mount_ok_codec.items (record { handle = h; flavors = 1 ∷ 0 ∷ [] })) ≡ items_size (handle_codec.items h) + 12
unfolding mount_ok_codec array word_codec
mount_items h = items_size_append (handle_codec.items h) _

-- with the two flavors of this server
pub mount_size : (h : List ℕ) → length h ≤ handle_max → items_size (mount_ok_codec.items (record { handle = h; flavors = 1 ∷ 0 ∷ [] })) ≤ 80
mount_size h le = omega (arith, mount_items h, handle_size h le)

-- ===== results: a status, and one part

pub done_size : {D F : Type 0} (done : Codec D) (failed : Codec F) (d : D) → length (encodings ((nfs_result done failed).items (Done d))) ≡ 4 + items_size (done.items d)
unfolding status_union_codec enumeration word_codec
done_size done failed d = length_encodings ((nfs_result done failed).items (Done d))

pub failed_size : {D F : Type 0} (done : Codec D) (failed : Codec F) (s : Status) (f : F) → length (encodings ((nfs_result done failed).items (Failed s f))) ≡ 4 + items_size (failed.items f)
unfolding status_union_codec enumeration word_codec
failed_size done failed s f = length_encodings ((nfs_result done failed).items (Failed s f))

-- if no rule refuses, the part on success is to fit
pub answer_fits : {D F : Type 0} (done : Codec D) (failed : Codec F) (o : Option Status) (f : F) (d : D) (n : ℕ) → 4 + items_size (failed.items f) ≤ n
    → (o ≡ None → 4 + items_size (done.items d) ≤ n) → length (encodings ((nfs_result done failed).items (answer o (λ s. Failed s f) (Done d)))) ≤ n
answer_fits done failed None f d n of_failed of_done = omega (arith, done_size done failed d, of_done refl)
answer_fits done failed (Some s) f d n of_failed of_done = omega (arith, failed_size done failed s f, of_failed)

-- whatever the rules are
pub union_fits : {D F : Type 0} (done : Codec D) (failed : Codec F) (r : StatusUnion D F Status) (n : ℕ) → ((f : F) → 4 + items_size (failed.items f) ≤ n)
    → ((d : D) → 4 + items_size (done.items d) ≤ n) → length (encodings ((nfs_result done failed).items r)) ≤ n
union_fits done failed (Done d) n of_failed of_done = omega (arith, done_size done failed d, of_done d)
union_fits done failed (Failed s f) n of_failed of_done = omega (arith, failed_size done failed s f, of_failed f)

pub mounted_size : (d : MountOk) → length (encodings (mnt_res_codec.items (Done d))) ≡ 4 + items_size (mount_ok_codec.items d)
unfolding status_union_codec enumeration word_codec
mounted_size d = length_encodings (mnt_res_codec.items (Done d))

pub not_mounted_size : (s : MountStatus) (f : Unit {0}) → length (encodings (mnt_res_codec.items (Failed s f))) ≡ 4
unfolding status_union_codec enumeration word_codec
not_mounted_size s f = length_encodings (mnt_res_codec.items (Failed s f))
