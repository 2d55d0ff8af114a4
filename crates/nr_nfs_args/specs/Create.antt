-- Arguments of the calls that create files.
use Rattle.nr_nfs_args.specs.declared.create_mode.CreateMode.TheVariants as modes
use Rattle.std.proofs.Common.{refl}
use Rattle.std.specs.Prelude.{◌≡◌, ℕ, Bool, true, false, List, Result, Ok}
use Rattle.nr_nfs_args.specs.CreateMode.{create_mode_codec, create_mode_lawful}
use Rattle.nr_nfs_args.specs.declared.create.CreateArgs.{CreateArgs}
use Rattle.nr_nfs_args.specs.declared.create.CreateHow.{CreateHow}
use Rattle.nr_nfs_args.specs.declared.create.CreateHow.TheVariants.{Unchecked, Guarded, Exclusive}
use Rattle.nr_nfs_args.specs.declared.create.MkdirArgs.{MkdirArgs}
use Rattle.nr_nfs_args.specs.declared.create_mode.CreateMode.{CreateMode}
use Rattle.nr_nfs_base.specs.Codec.{Codec, Lawful, ◌⊗◌, ◌&◌, structure, Arms, discriminated_union, arm_value}
use Rattle.nr_nfs_base.specs.Laws.{◌⊠◌, structure_lawful, discriminated_union_lawful, arm_takes}
use Rattle.nr_nfs_base.specs.Names.{handle_codec, handle_lawful, text_codec, text_lawful}
use Rattle.nr_nfs_base.specs.SetAttributes.{set_attributes_codec, set_attributes_lawful}
use Rattle.nr_nfs_base.specs.Verifier.{verifier_codec, verifier_lawful}
use Rattle.nr_nfs_base.specs.declared.set_attributes.SetAttributes.{SetAttributes}
use Rattle.nr_xdr.specs.Item.{Item, IsBytes}
use Rattle.nr_xdr.specs.Items.{TakesAll}
use Rattle.nr_xdr.specs.Reading.{Cursor}

-- how a file is created (RFC 1813 section 3.3.8, createhow3)
abbrev pub create_how_tag : CreateHow → CreateMode
create_how_tag (Unchecked v) = modes.Unchecked
create_how_tag (Guarded v) = modes.Guarded
create_how_tag (Exclusive v) = modes.Exclusive

abbrev pub create_how_items : CreateHow → List Item
create_how_items (Unchecked v) = set_attributes_codec.items v
create_how_items (Guarded v) = set_attributes_codec.items v
create_how_items (Exclusive v) = verifier_codec.items v

abbrev pub create_how_fits : CreateHow → Type 0
create_how_fits (Unchecked v) = set_attributes_codec.fits v
create_how_fits (Guarded v) = set_attributes_codec.fits v
create_how_fits (Exclusive v) = verifier_codec.fits v

-- the arms with attributes
abbrev pub attributes_arm : Bool → SetAttributes → CreateHow
attributes_arm true v = Guarded v
attributes_arm false v = Unchecked v

abbrev pub create_how_read : CreateMode → Cursor → Result (CreateHow × Cursor) ℕ
create_how_read modes.Unchecked at = arm_value Unchecked (set_attributes_codec.read at)
create_how_read modes.Guarded at = arm_value Guarded (set_attributes_codec.read at)
create_how_read modes.Exclusive at = arm_value Exclusive (verifier_codec.read at)

abbrev pub create_how_arms : Arms CreateMode CreateHow
create_how_arms = record {
  tag_of = create_how_tag;
  items = create_how_items;
  fits = create_how_fits;
  read = create_how_read;
}

unfoldable pub create_how_codec : Codec CreateHow
create_how_codec = discriminated_union create_mode_codec create_how_arms

-- what is read after the tag is a value of that tag
abbrev create_how_claim : CreateMode → Cursor → CreateHow → Cursor → Type 0
create_how_claim tag old v new = (create_how_tag v ≡ tag) × (create_how_fits v × TakesAll old new (create_how_items v))

create_how_takes : (tag : CreateMode) (old : Cursor) (v : CreateHow) (new : Cursor) → IsBytes old.rest → create_how_read tag old ≡ Ok (v, new)
    → create_how_claim tag old v new
create_how_takes modes.Unchecked old v new fits e =
    arm_takes set_attributes_codec set_attributes_lawful Unchecked (create_how_claim modes.Unchecked old) old v new fits e (λ w after t. (refl, t))
create_how_takes modes.Guarded old v new fits e =
    arm_takes set_attributes_codec set_attributes_lawful Guarded (create_how_claim modes.Guarded old) old v new fits e (λ w after t. (refl, t))
create_how_takes modes.Exclusive old v new fits e =
    arm_takes verifier_codec verifier_lawful Exclusive (create_how_claim modes.Exclusive old) old v new fits e (λ w after t. (refl, t))

create_how_again : (v : CreateHow) (old new : Cursor) → create_how_fits v → TakesAll old new (create_how_items v)
    → create_how_read (create_how_tag v) old ≡ Ok (v, new)
create_how_again (Unchecked v) old new fits t = rw ((set_attributes_lawful).encoded_is_read old v new fits t) refl
create_how_again (Guarded v) old new fits t = rw ((set_attributes_lawful).encoded_is_read old v new fits t) refl
create_how_again (Exclusive v) old new fits t = rw ((verifier_lawful).encoded_is_read old v new fits t) refl

pub create_how_lawful : Lawful create_how_codec
unfolding create_how_codec
create_how_lawful =
    discriminated_union_lawful create_mode_codec create_how_arms create_mode_lawful (record { read_is_encoded = create_how_takes; encoded_is_read = create_how_again })

-- the arguments of CREATE (RFC 1813 section 3.3.8)
unfoldable pub create_args_codec : Codec CreateArgs
create_args_codec =
    structure (λ p. record { dir = p.0; name = p.1.0; how = p.1.1 })
    (λ v. v.dir & v.name & v.how)
    (handle_codec ⊗ text_codec ⊗ create_how_codec)

pub create_args_lawful : Lawful create_args_codec
unfolding create_args_codec
create_args_lawful =
    structure_lawful _ _ _ (λ _. refl) (λ _. refl)
    (handle_lawful ⊠ text_lawful ⊠ create_how_lawful)

-- the arguments of MKDIR (RFC 1813 section 3.3.9)
unfoldable pub mkdir_args_codec : Codec MkdirArgs
mkdir_args_codec =
    structure (λ p. record { dir = p.0; name = p.1.0; attributes = p.1.1 })
    (λ v. v.dir & v.name & v.attributes)
    (handle_codec ⊗ text_codec ⊗ set_attributes_codec)

pub mkdir_args_lawful : Lawful mkdir_args_codec
unfolding mkdir_args_codec
mkdir_args_lawful =
    structure_lawful _ _ _ (λ _. refl) (λ _. refl)
    (handle_lawful ⊠ text_lawful ⊠ set_attributes_lawful)
