-- What is read of the encoded parts of results, and of the arguments of READ and WRITE.
use Rattle.std.proofs.Common.{◌≡◌, ℕ, ◌<◌, ◌≤◌, ◌^◌, List, [], ◌∷◌, ◌++◌, length, Option, None, Some, refl, sym, ap, subst, ◌∙◌, arith}
use Rattle.std.specs.List.{AllByRecursion}
use Rattle.nr_xdr.specs.Item.{Item}
use Rattle.nr_nfs_base.specs.Attributes.{attributes_codec, special_data_codec}
use Rattle.nr_nfs_base.specs.Codec.{Codec, ◌⊗◌, array, boolean, hyper as hyper_codec, linked_list, opaque, optional, structure, void, word as word_codec}
use Rattle.nr_nfs_base.specs.FileType.{each_file_type, file_type_codec, file_type_number, file_types}
use Rattle.nr_nfs_base.specs.Fronts.{read_args_front, read_ok_front, write_args_front}
use Rattle.nr_nfs_base.specs.Limits.{handle_max}
use Rattle.nr_nfs_base.specs.Names.{handle_codec, text_codec}
use Rattle.nr_nfs_base.specs.Stable.{each_stable_how, stable_how_codec, stable_how_number, stable_hows}
use Rattle.nr_nfs_base.specs.Time.{time_codec}
use Rattle.nr_nfs_base.specs.Verifier.{verifier_codec}
use Rattle.nr_nfs_base.specs.WeakCache.{wcc_attributes_codec, wcc_data_codec}
use Rattle.nr_nfs_base.specs.declared.attributes.Attributes.{Attributes}
use Rattle.nr_nfs_base.specs.declared.attributes.SpecialData.{SpecialData}
use Rattle.nr_nfs_base.specs.declared.file_type.FileType.{FileType}
use Rattle.nr_nfs_base.specs.declared.file_type.FileType.TheVariants as types
use Rattle.nr_nfs_base.specs.declared.stable.StableHow.{StableHow}
use Rattle.nr_nfs_base.specs.declared.stable.StableHow.TheVariants as stable
use Rattle.nr_nfs_base.specs.declared.time.Time.{Time}
use Rattle.nr_nfs_base.specs.declared.verifier.Verifier.{Verifier}
use Rattle.nr_nfs_base.specs.declared.weak_cache.WccAttributes.{WccAttributes}
use Rattle.nr_nfs_base.specs.declared.weak_cache.WccData.{WccData}
use Rattle.nr_nfs_args.specs.Bytes.{read_args_codec, write_args_codec}
use Rattle.nr_nfs_args.specs.declared.bytes.ReadArgs.{ReadArgs}
use Rattle.nr_nfs_args.specs.declared.bytes.WriteArgs.{WriteArgs}
use Rattle.nr_nfs_res.specs.Bytes.{read_ok_codec, write_ok_codec}
use Rattle.nr_nfs_res.specs.Create.{create_ok_codec}
use Rattle.nr_nfs_res.specs.Lookup.{lookup_ok_codec, readlink_ok_codec}
use Rattle.nr_nfs_res.specs.Mount.{mount_ok_codec, mount_ok_lawful}
use Rattle.nr_nfs_res.specs.Readdir.{ReaddirOk, entry_codec, listing_codec, readdir_ok_codec}
use Rattle.nr_nfs_res.specs.declared.bytes.ReadOk.{ReadOk}
use Rattle.nr_nfs_res.specs.declared.bytes.WriteOk.{WriteOk}
use Rattle.nr_nfs_res.specs.declared.create.CreateOk.{CreateOk}
use Rattle.nr_nfs_res.specs.declared.lookup.LookupOk.{LookupOk}
use Rattle.nr_nfs_res.specs.declared.lookup.ReadlinkOk.{ReadlinkOk}
use Rattle.nr_nfs_res.specs.declared.mount.MountOk.{MountOk}
use Rattle.nr_nfs_res.specs.declared.readdir.Entry.{Entry}
use Rattle.nr_reply_laws.proofs.Decoding.{Any, IsRead, IsSomeWith, boolean_is, enumeration_is, hyper_any, lawful_read, list_is, none_is, opaque_is, optional_any, pair_is, some_is, structure_is, weaker, word_any, word_is}

pair_any : {A B : Type 0} (a : Codec A) (b : Codec B) (xs ys : List Item) → IsRead a xs Any → IsRead b ys Any → IsRead (a ⊗ b) (xs ++ ys) Any
pair_any {A} {B} a b xs ys of_a of_b = weaker (a ⊗ b) (xs ++ ys) (λ (v : A × B). Any v.0 × Any v.1) Any (λ v is. tt) (pair_is a b xs ys Any Any of_a of_b)

structure_any : {A B : Type 0} (make : A → B) (parts : B → A) (c : Codec A) (xs : List Item) → IsRead c xs Any → IsRead (structure make parts c) xs Any
structure_any make parts c xs of_c = structure_is make parts c xs Any Any (λ v is. tt) of_c

any : {A : Type 0} (c : Codec A) (xs : List Item) (P : A → Type 0) → IsRead c xs P → IsRead c xs Any
any c xs P of_c = weaker c xs P Any (λ v is. tt) of_c

-- ---- Attributes

file_type_fits : (v : FileType) → file_type_number v < 2 ^ 32
file_type_fits types.Reg = omega arith
file_type_fits types.Dir = omega arith
file_type_fits types.Blk = omega arith
file_type_fits types.Chr = omega arith
file_type_fits types.Lnk = omega arith
file_type_fits types.Sock = omega arith
file_type_fits types.Fifo = omega arith

file_type_any : (v : FileType) → IsRead file_type_codec (file_type_codec.items v) Any
unfolding file_type_codec
file_type_any v = any _ _ _ (enumeration_is file_type_number file_types v each_file_type (file_type_fits v))

time_any : (v : Time) → IsRead time_codec (time_codec.items v) Any
unfolding time_codec
time_any v = structure_any _ _ _ _ (pair_any word_codec word_codec _ _ (word_any v.seconds) (word_any v.nanoseconds))

special_data_any : (v : SpecialData) → IsRead special_data_codec (special_data_codec.items v) Any
unfolding special_data_codec
special_data_any v = structure_any _ _ _ _ (pair_any word_codec word_codec _ _ (word_any v.major) (word_any v.minor))

pub attributes_any : (v : Attributes) → IsRead attributes_codec (attributes_codec.items v) Any
unfolding attributes_codec
attributes_any v =
    structure_any _ _ _ _
    (pair_any file_type_codec _ _ _ (file_type_any v.file_type)
    (pair_any word_codec _ _ _ (word_any v.mode)
    (pair_any word_codec _ _ _ (word_any v.nlink)
    (pair_any word_codec _ _ _ (word_any v.uid)
    (pair_any word_codec _ _ _ (word_any v.gid)
    (pair_any hyper_codec _ _ _ (hyper_any v.size)
    (pair_any hyper_codec _ _ _ (hyper_any v.used)
    (pair_any special_data_codec _ _ _ (special_data_any v.rdev)
    (pair_any hyper_codec _ _ _ (hyper_any v.fsid)
    (pair_any hyper_codec _ _ _ (hyper_any v.fileid)
    (pair_any time_codec _ _ _ (time_any v.atime)
    (pair_any time_codec time_codec _ _ (time_any v.mtime) (time_any v.ctime)))))))))))))

pub some_attributes : (o : Option Attributes) → IsRead (optional attributes_codec) ((optional attributes_codec).items o) Any
some_attributes o = optional_any attributes_codec attributes_any o

wcc_attributes_any : (v : WccAttributes) → IsRead wcc_attributes_codec (wcc_attributes_codec.items v) Any
unfolding wcc_attributes_codec
wcc_attributes_any v = structure_any _ _ _ _ (pair_any hyper_codec _ _ _ (hyper_any v.size) (pair_any time_codec time_codec _ _ (time_any v.mtime) (time_any v.ctime)))

pub wcc_any : (v : WccData) → IsRead wcc_data_codec (wcc_data_codec.items v) Any
unfolding wcc_data_codec
wcc_any v = structure_any _ _ _ _ (pair_any (optional wcc_attributes_codec) (optional attributes_codec) _ _ (optional_any wcc_attributes_codec wcc_attributes_any v.before) (some_attributes v.after))

verifier_any : (v : Verifier) → IsRead verifier_codec (verifier_codec.items v) Any
unfolding verifier_codec
verifier_any v = structure_any _ _ _ _ (hyper_any v.number)

stable_fits : (v : StableHow) → stable_how_number v < 2 ^ 32
stable_fits stable.Unstable = omega arith
stable_fits stable.DataSync = omega arith
stable_fits stable.FileSync = omega arith

stable_any : (v : StableHow) → IsRead stable_how_codec (stable_how_codec.items v) Any
unfolding stable_how_codec
stable_any v = any _ _ _ (enumeration_is stable_how_number stable_hows v each_stable_how (stable_fits v))

pub void_any : IsRead void [] Any
void_any = record { at = λ place rest. record { value = tt; after = place; is = refl; holds = tt } }

handle_is : (h : List ℕ) → length h ≤ handle_max → IsRead handle_codec (handle_codec.items h) (λ b. b ≡ h)
handle_is h short = opaque_is handle_max h short (omega (arith, short))

text_is : (bytes : List ℕ) → length bytes < 2 ^ 32 → IsRead text_codec (text_codec.items bytes) (λ b. b ≡ bytes)
text_is bytes short = opaque_is 4294967295 bytes (omega (arith, short)) short

-- ---- Results on success

pub lookup_ok_is : (v : LookupOk) → length v.object ≤ handle_max → IsRead lookup_ok_codec (lookup_ok_codec.items v) (λ w. w.object ≡ v.object)
unfolding lookup_ok_codec
lookup_ok_is v short =
    structure_is _ _ _ _ _ _ (λ w is. is.0)
    (pair_is handle_codec (optional attributes_codec ⊗ optional attributes_codec) _ _ _ _ (handle_is v.object short)
    (pair_any (optional attributes_codec) (optional attributes_codec) _ _ (some_attributes v.attributes) (some_attributes v.dir_attributes)))

pub readlink_ok_any : (v : ReadlinkOk) → length v.path < 2 ^ 32 → IsRead readlink_ok_codec (readlink_ok_codec.items v) Any
unfolding readlink_ok_codec
readlink_ok_any v short = structure_any _ _ _ _ (pair_any (optional attributes_codec) text_codec _ _ (some_attributes v.attributes) (any _ _ _ (text_is v.path short)))

pub read_ok_is : (v : ReadOk) → length v.bytes < 2 ^ 32 → IsRead read_ok_codec (read_ok_codec.items v) (λ w. (w.bytes ≡ v.bytes) × (w.eof ≡ v.eof))
unfolding read_ok_codec
read_ok_is v short =
    structure_is _ _ _ _ _ _ (λ w is. (is.1, is.0.1.1))
    (pair_is read_ok_front text_codec _ _ _ _
    (pair_is (optional attributes_codec) (word_codec ⊗ boolean) _ _ _ _ (some_attributes v.attributes) (pair_is word_codec boolean _ _ _ _ (word_any v.count) (boolean_is v.eof)))
    (text_is v.bytes short))

pub write_ok_is : (v : WriteOk) → v.count < 2 ^ 32 → IsRead write_ok_codec (write_ok_codec.items v) (λ w. w.count ≡ v.count)
unfolding write_ok_codec
write_ok_is v fits =
    structure_is _ _ _ _ _ _ (λ w is. is.1.0)
    (pair_is wcc_data_codec (word_codec ⊗ stable_how_codec ⊗ verifier_codec) _ _ _ _ (wcc_any v.wcc)
    (pair_is word_codec (stable_how_codec ⊗ verifier_codec) _ _ _ _ (word_is v.count fits) (pair_any stable_how_codec verifier_codec _ _ (stable_any v.committed) (verifier_any v.verifier))))

create_from : (v : CreateOk) (P : Option (List ℕ) → Type 0) → IsRead (optional handle_codec) ((optional handle_codec).items v.object) P → IsRead create_ok_codec (create_ok_codec.items v) (λ w. P w.object)
unfolding create_ok_codec
create_from v P of_object =
    structure_is _ _ _ _ _ _ (λ w is. is.0)
    (pair_is (optional handle_codec) (optional attributes_codec ⊗ wcc_data_codec) _ _ _ _ of_object (pair_any (optional attributes_codec) wcc_data_codec _ _ (some_attributes v.attributes) (wcc_any v.dir_wcc)))

some_handle : (h : List ℕ) → length h ≤ handle_max → IsRead (optional handle_codec) ((optional handle_codec).items (Some h)) (λ o. o ≡ Some h)
some_handle h short =
    weaker (optional handle_codec) _ (IsSomeWith (λ b. b ≡ h)) (λ o. o ≡ Some h) (λ o is. is.1.0 ∙ ap (λ (b : List ℕ). Some b) is.1.1) (some_is handle_codec h (λ b. b ≡ h) (handle_is h short))

pub create_ok_some : (v : CreateOk) (h : List ℕ) → v.object ≡ Some h → length h ≤ handle_max → IsRead create_ok_codec (create_ok_codec.items v) (λ w. w.object ≡ Some h)
create_ok_some v h is short = create_from v (λ o. o ≡ Some h) (subst (λ (o : Option (List ℕ)). IsRead (optional handle_codec) ((optional handle_codec).items o) (λ p. p ≡ Some h)) (sym is) (some_handle h short))

pub create_ok_none : (v : CreateOk) → v.object ≡ None → IsRead create_ok_codec (create_ok_codec.items v) Any
create_ok_none v is =
    any _ _ _ (create_from v (λ o. o ≡ None) (subst (λ (o : Option (List ℕ)). IsRead (optional handle_codec) ((optional handle_codec).items o) (λ p. p ≡ None)) (sym is) (none_is handle_codec)))

entry_any : (v : Entry) → length v.name < 2 ^ 32 → IsRead entry_codec (entry_codec.items v) Any
unfolding entry_codec
entry_any v short = structure_any _ _ _ _ (pair_any hyper_codec (text_codec ⊗ hyper_codec) _ _ (hyper_any v.fileid) (pair_any text_codec hyper_codec _ _ (any _ _ _ (text_is v.name short)) (hyper_any v.cookie)))

entries_any : (es : List Entry) → AllByRecursion (λ (e : Entry). length e.name < 2 ^ 32) es → AllByRecursion (λ e. IsRead entry_codec (entry_codec.items e) Any) es
entries_any [] all = tt
entries_any (e ∷ es) all = (entry_any e all.0, entries_any es all.1)

pub readdir_ok_is : (v : ReaddirOk) → AllByRecursion (λ (e : Entry). length e.name < 2 ^ 32) v.entries → IsRead readdir_ok_codec (readdir_ok_codec.items v) (λ w. (length w.entries ≡ length v.entries) × (w.eof ≡ v.eof))
unfolding listing_codec
readdir_ok_is v short =
    structure_is _ _ _ _ _ _ (λ w is. (is.1.1.0, is.1.1.1))
    (pair_is (optional attributes_codec) (verifier_codec ⊗ linked_list entry_codec ⊗ boolean) _ _ _ _ (some_attributes v.dir_attributes)
    (pair_is verifier_codec (linked_list entry_codec ⊗ boolean) _ _ _ _ (verifier_any v.verifier)
    (pair_is (linked_list entry_codec) boolean _ _ _ _ (list_is entry_codec Any v.entries (entries_any v.entries short)) (boolean_is v.eof))))

pub mount_ok_is : (h : List ℕ) → length h ≤ handle_max → IsRead mount_ok_codec (mount_ok_codec.items (record { handle = h; flavors = 1 ∷ 0 ∷ [] })) (λ w. w.handle ≡ h)
unfolding mount_ok_codec opaque array word_codec
mount_ok_is h short =
    weaker mount_ok_codec _ _ _ (λ w is. ap (λ (m : MountOk). m.handle) is)
    (lawful_read mount_ok_codec (record { handle = h; flavors = 1 ∷ 0 ∷ [] }) mount_ok_lawful (short, (tt, (tt, (tt, tt)))) (omega (arith, short), (omega arith, (omega arith, (omega arith, tt)))))

-- ---- Arguments

pub read_args_is : (v : ReadArgs) → length v.file ≤ handle_max → v.count < 2 ^ 32 → IsRead read_args_codec (read_args_codec.items v) (λ w. w.count ≡ v.count)
unfolding read_args_codec
read_args_is v short fits =
    structure_is _ _ _ _ _ _ (λ w is. is.1)
    (pair_is read_args_front word_codec _ _ _ _ (pair_any handle_codec hyper_codec _ _ (any _ _ _ (handle_is v.file short)) (hyper_any v.offset)) (word_is v.count fits))

pub write_args_is : (v : WriteArgs) → length v.file ≤ handle_max → length v.bytes < 2 ^ 32 → IsRead write_args_codec (write_args_codec.items v) (λ w. w.bytes ≡ v.bytes)
unfolding write_args_codec
write_args_is v short fits =
    structure_is _ _ _ _ _ _ (λ w is. is.1)
    (pair_is write_args_front text_codec _ _ _ _
    (pair_any handle_codec (hyper_codec ⊗ word_codec ⊗ stable_how_codec) _ _ (any _ _ _ (handle_is v.file short))
    (pair_any hyper_codec (word_codec ⊗ stable_how_codec) _ _ (hyper_any v.offset) (pair_any word_codec stable_how_codec _ _ (word_any v.count) (stable_any v.stable))))
    (text_is v.bytes fits))
