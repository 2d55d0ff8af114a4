-- Arguments of the calls that create links and special files.
use Rattle.nr_nfs_base.specs.declared.file_type.FileType.TheVariants as types
use Rattle.std.proofs.Common.{refl, ap}
use Rattle.std.specs.Prelude.{◌≡◌, ℕ, Bool, true, false, List, [], Result, Ok}
use Rattle.nr_nfs_args.specs.declared.special.DeviceData.{DeviceData}
use Rattle.nr_nfs_args.specs.declared.special.MknodArgs.{MknodArgs}
use Rattle.nr_nfs_args.specs.declared.special.MknodData.{MknodData}
use Rattle.nr_nfs_args.specs.declared.special.MknodData.TheVariants.{Reg, Dir, Blk, Chr, Lnk, Sock, Fifo}
use Rattle.nr_nfs_args.specs.declared.special.SymlinkArgs.{SymlinkArgs}
use Rattle.nr_nfs_base.specs.Attributes.{special_data_codec, special_data_lawful}
use Rattle.nr_nfs_base.specs.Codec.{Codec, Lawful, ◌⊗◌, ◌&◌, structure, Arms, discriminated_union, arm_value}
use Rattle.nr_nfs_base.specs.FileType.{file_type_codec, file_type_lawful}
use Rattle.nr_nfs_base.specs.Fronts.{symlink_args_front, symlink_args_front_lawful}
use Rattle.nr_nfs_base.specs.Laws.{◌⊠◌, structure_lawful, discriminated_union_lawful, arm_takes, bare_takes}
use Rattle.nr_nfs_base.specs.Names.{handle_codec, handle_lawful, text_codec, text_lawful}
use Rattle.nr_nfs_base.specs.SetAttributes.{set_attributes_codec, set_attributes_lawful}
use Rattle.nr_nfs_base.specs.declared.file_type.FileType.{FileType}
use Rattle.nr_nfs_base.specs.declared.set_attributes.SetAttributes.{SetAttributes}
use Rattle.nr_xdr.specs.Item.{Item, IsBytes}
use Rattle.nr_xdr.specs.Items.{TakesAll}
use Rattle.nr_xdr.specs.Reading.{Cursor}

-- the arguments of SYMLINK (RFC 1813 section 3.3.10)
unfoldable pub symlink_args_codec : Codec SymlinkArgs
symlink_args_codec =
    structure (λ p. record { dir = p.0.0; name = p.0.1.0; attributes = p.0.1.1; path = p.1 })
    (λ v. (v.dir & v.name & v.attributes) & v.path)
    (symlink_args_front ⊗ text_codec)

pub symlink_args_lawful : Lawful symlink_args_codec
unfolding symlink_args_codec
symlink_args_lawful =
    structure_lawful _ _ _ (λ _. refl) (λ _. refl)
    (symlink_args_front_lawful ⊠ text_lawful)

-- the data of a device (RFC 1813 section 3.3.11, devicedata3)
unfoldable pub device_data_codec : Codec DeviceData
device_data_codec =
    structure (λ p. record { attributes = p.0; device = p.1 })
    (λ v. v.attributes & v.device)
    (set_attributes_codec ⊗ special_data_codec)

pub device_data_lawful : Lawful device_data_codec
unfolding device_data_codec
device_data_lawful =
    structure_lawful _ _ _ (λ _. refl) (λ _. refl)
    (set_attributes_lawful ⊠ special_data_lawful)

-- what MKNOD creates (RFC 1813 section 3.3.11, mknoddata3)
abbrev pub mknod_data_tag : MknodData → FileType
mknod_data_tag Reg = types.Reg
mknod_data_tag Dir = types.Dir
mknod_data_tag (Blk v) = types.Blk
mknod_data_tag (Chr v) = types.Chr
mknod_data_tag Lnk = types.Lnk
mknod_data_tag (Sock v) = types.Sock
mknod_data_tag (Fifo v) = types.Fifo

abbrev pub mknod_data_items : MknodData → List Item
mknod_data_items Reg = []
mknod_data_items Dir = []
mknod_data_items (Blk v) = device_data_codec.items v
mknod_data_items (Chr v) = device_data_codec.items v
mknod_data_items Lnk = []
mknod_data_items (Sock v) = set_attributes_codec.items v
mknod_data_items (Fifo v) = set_attributes_codec.items v

abbrev pub mknod_data_fits : MknodData → Type 0
mknod_data_fits Reg = Unit {0}
mknod_data_fits Dir = Unit {0}
mknod_data_fits (Blk v) = device_data_codec.fits v
mknod_data_fits (Chr v) = device_data_codec.fits v
mknod_data_fits Lnk = Unit {0}
mknod_data_fits (Sock v) = set_attributes_codec.fits v
mknod_data_fits (Fifo v) = set_attributes_codec.fits v

-- the arms with the data of a device, and those with attributes alone
abbrev pub device_arm : Bool → DeviceData → MknodData
device_arm true v = Blk v
device_arm false v = Chr v

abbrev pub pipe_arm : Bool → SetAttributes → MknodData
pipe_arm true v = Sock v
pipe_arm false v = Fifo v

abbrev pub mknod_data_read : FileType → Cursor → Result (MknodData × Cursor) ℕ
mknod_data_read types.Reg at = Ok (Reg, at)
mknod_data_read types.Dir at = Ok (Dir, at)
mknod_data_read types.Blk at = arm_value Blk (device_data_codec.read at)
mknod_data_read types.Chr at = arm_value Chr (device_data_codec.read at)
mknod_data_read types.Lnk at = Ok (Lnk, at)
mknod_data_read types.Sock at = arm_value Sock (set_attributes_codec.read at)
mknod_data_read types.Fifo at = arm_value Fifo (set_attributes_codec.read at)

abbrev pub mknod_data_arms : Arms FileType MknodData
mknod_data_arms = record {
  tag_of = mknod_data_tag;
  items = mknod_data_items;
  fits = mknod_data_fits;
  read = mknod_data_read;
}

unfoldable pub mknod_data_codec : Codec MknodData
mknod_data_codec = discriminated_union file_type_codec mknod_data_arms

-- what is read after the tag is a value of that tag
abbrev mknod_data_claim : FileType → Cursor → MknodData → Cursor → Type 0
mknod_data_claim tag old v new = (mknod_data_tag v ≡ tag) × (mknod_data_fits v × TakesAll old new (mknod_data_items v))

mknod_data_takes : (tag : FileType) (old : Cursor) (v : MknodData) (new : Cursor) → IsBytes old.rest → mknod_data_read tag old ≡ Ok (v, new)
    → mknod_data_claim tag old v new
mknod_data_takes types.Reg old v new fits e =
    bare_takes Reg (mknod_data_claim types.Reg old) old v new e (refl, (tt, refl))
mknod_data_takes types.Dir old v new fits e =
    bare_takes Dir (mknod_data_claim types.Dir old) old v new e (refl, (tt, refl))
mknod_data_takes types.Blk old v new fits e =
    arm_takes device_data_codec device_data_lawful Blk (mknod_data_claim types.Blk old) old v new fits e (λ w after t. (refl, t))
mknod_data_takes types.Chr old v new fits e =
    arm_takes device_data_codec device_data_lawful Chr (mknod_data_claim types.Chr old) old v new fits e (λ w after t. (refl, t))
mknod_data_takes types.Lnk old v new fits e =
    bare_takes Lnk (mknod_data_claim types.Lnk old) old v new e (refl, (tt, refl))
mknod_data_takes types.Sock old v new fits e =
    arm_takes set_attributes_codec set_attributes_lawful Sock (mknod_data_claim types.Sock old) old v new fits e (λ w after t. (refl, t))
mknod_data_takes types.Fifo old v new fits e =
    arm_takes set_attributes_codec set_attributes_lawful Fifo (mknod_data_claim types.Fifo old) old v new fits e (λ w after t. (refl, t))

mknod_data_again : (v : MknodData) (old new : Cursor) → mknod_data_fits v → TakesAll old new (mknod_data_items v)
    → mknod_data_read (mknod_data_tag v) old ≡ Ok (v, new)
mknod_data_again Reg old new fits t = ap (λ (c : Cursor). Ok (Reg, c)) t
mknod_data_again Dir old new fits t = ap (λ (c : Cursor). Ok (Dir, c)) t
mknod_data_again (Blk v) old new fits t = rw ((device_data_lawful).encoded_is_read old v new fits t) refl
mknod_data_again (Chr v) old new fits t = rw ((device_data_lawful).encoded_is_read old v new fits t) refl
mknod_data_again Lnk old new fits t = ap (λ (c : Cursor). Ok (Lnk, c)) t
mknod_data_again (Sock v) old new fits t = rw ((set_attributes_lawful).encoded_is_read old v new fits t) refl
mknod_data_again (Fifo v) old new fits t = rw ((set_attributes_lawful).encoded_is_read old v new fits t) refl

pub mknod_data_lawful : Lawful mknod_data_codec
unfolding mknod_data_codec
mknod_data_lawful =
    discriminated_union_lawful file_type_codec mknod_data_arms file_type_lawful (record { read_is_encoded = mknod_data_takes; encoded_is_read = mknod_data_again })

-- the arguments of MKNOD (RFC 1813 section 3.3.11)
unfoldable pub mknod_args_codec : Codec MknodArgs
mknod_args_codec =
    structure (λ p. record { dir = p.0; name = p.1.0; what = p.1.1 })
    (λ v. v.dir & v.name & v.what)
    (handle_codec ⊗ text_codec ⊗ mknod_data_codec)

pub mknod_args_lawful : Lawful mknod_args_codec
unfolding mknod_args_codec
mknod_args_lawful =
    structure_lawful _ _ _ (λ _. refl) (λ _. refl)
    (handle_lawful ⊠ text_lawful ⊠ mknod_data_lawful)
