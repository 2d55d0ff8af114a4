-- Attributes to set.
use Rattle.std.proofs.Common.{refl, ap}
use Rattle.std.specs.Prelude.{◌≡◌, ℕ, List, [], ◌∷◌, Some, Result, Ok}
use Rattle.nr_nfs_base.specs.Codec.{Codec, Lawful, word, hyper, ◌⊗◌, ◌&◌, structure, value_with_number, enumeration, Arms, discriminated_union, arm_value, optional}
use Rattle.nr_nfs_base.specs.Laws.{word_lawful, hyper_lawful, ◌⊠◌, structure_lawful, enumeration_lawful, discriminated_union_lawful, arm_takes, bare_takes, optional_lawful}
use Rattle.nr_nfs_base.specs.Time.{time_codec, time_lawful}
use Rattle.nr_nfs_base.specs.declared.set_attributes.SetAttributes.{SetAttributes}
use Rattle.nr_nfs_base.specs.declared.set_attributes.SetTime.{SetTime}
use Rattle.nr_nfs_base.specs.declared.set_attributes.SetTime.TheVariants.{Leave, ServerTime, ClientTime}
use Rattle.nr_nfs_base.specs.declared.set_attributes.TimeHow.{TimeHow}
use Rattle.nr_nfs_base.specs.declared.set_attributes.TimeHow.TheVariants.{DontChange, SetToServerTime, SetToClientTime}
use Rattle.nr_xdr.specs.Item.{Item, IsBytes}
use Rattle.nr_xdr.specs.Items.{TakesAll}
use Rattle.nr_xdr.specs.Reading.{Cursor}

-- how a time is to be set (RFC 1813 section 2.5, time_how)
abbrev pub time_how_number : TimeHow → ℕ
time_how_number DontChange = 0
time_how_number SetToServerTime = 1
time_how_number SetToClientTime = 2

abbrev pub time_hows : List TimeHow
time_hows = DontChange ∷ SetToServerTime ∷ SetToClientTime ∷ []

pub each_time_how : (v : TimeHow) → value_with_number time_how_number time_hows (time_how_number v) ≡ Some v
each_time_how DontChange = refl
each_time_how SetToServerTime = refl
each_time_how SetToClientTime = refl

unfoldable pub time_how_codec : Codec TimeHow
time_how_codec = enumeration time_how_number time_hows

pub time_how_lawful : Lawful time_how_codec
unfolding time_how_codec
time_how_lawful = enumeration_lawful time_how_number time_hows each_time_how

-- what a time is to be set to (RFC 1813 section 2.5, set_atime and set_mtime)
abbrev pub set_time_tag : SetTime → TimeHow
set_time_tag Leave = DontChange
set_time_tag ServerTime = SetToServerTime
set_time_tag (ClientTime v) = SetToClientTime

abbrev pub set_time_items : SetTime → List Item
set_time_items Leave = []
set_time_items ServerTime = []
set_time_items (ClientTime v) = time_codec.items v

abbrev pub set_time_fits : SetTime → Type 0
set_time_fits Leave = Unit {0}
set_time_fits ServerTime = Unit {0}
set_time_fits (ClientTime v) = time_codec.fits v

abbrev pub set_time_read : TimeHow → Cursor → Result (SetTime × Cursor) ℕ
set_time_read DontChange at = Ok (Leave, at)
set_time_read SetToServerTime at = Ok (ServerTime, at)
set_time_read SetToClientTime at = arm_value ClientTime (time_codec.read at)

abbrev pub set_time_arms : Arms TimeHow SetTime
set_time_arms = record {
  tag_of = set_time_tag;
  items = set_time_items;
  fits = set_time_fits;
  read = set_time_read;
}

unfoldable pub set_time_codec : Codec SetTime
set_time_codec = discriminated_union time_how_codec set_time_arms

-- what is read after the tag is a value of that tag
abbrev set_time_claim : TimeHow → Cursor → SetTime → Cursor → Type 0
set_time_claim tag old v new = (set_time_tag v ≡ tag) × (set_time_fits v × TakesAll old new (set_time_items v))

set_time_takes : (tag : TimeHow) (old : Cursor) (v : SetTime) (new : Cursor) → IsBytes old.rest → set_time_read tag old ≡ Ok (v, new)
    → set_time_claim tag old v new
set_time_takes DontChange old v new fits e =
    bare_takes Leave (set_time_claim DontChange old) old v new e (refl, (tt, refl))
set_time_takes SetToServerTime old v new fits e =
    bare_takes ServerTime (set_time_claim SetToServerTime old) old v new e (refl, (tt, refl))
set_time_takes SetToClientTime old v new fits e =
    arm_takes time_codec time_lawful ClientTime (set_time_claim SetToClientTime old) old v new fits e (λ w after t. (refl, t))

set_time_again : (v : SetTime) (old new : Cursor) → set_time_fits v → TakesAll old new (set_time_items v)
    → set_time_read (set_time_tag v) old ≡ Ok (v, new)
set_time_again Leave old new fits t = ap (λ (c : Cursor). Ok (Leave, c)) t
set_time_again ServerTime old new fits t = ap (λ (c : Cursor). Ok (ServerTime, c)) t
set_time_again (ClientTime v) old new fits t = rw ((time_lawful).encoded_is_read old v new fits t) refl

pub set_time_lawful : Lawful set_time_codec
unfolding set_time_codec
set_time_lawful =
    discriminated_union_lawful time_how_codec set_time_arms time_how_lawful (record { read_is_encoded = set_time_takes; encoded_is_read = set_time_again })

-- the attributes that a call sets (RFC 1813 section 2.5, sattr3)
unfoldable pub set_attributes_codec : Codec SetAttributes
set_attributes_codec =
    structure (λ p. record {
      mode = p.0;
      uid = p.1.0;
      gid = p.1.1.0;
      size = p.1.1.1.0;
      atime = p.1.1.1.1.0;
      mtime = p.1.1.1.1.1;
    })
    (λ v. v.mode & v.uid & v.gid & v.size & v.atime & v.mtime)
    ((optional word) ⊗ (optional word) ⊗ (optional word) ⊗ (optional hyper) ⊗ set_time_codec
    ⊗ set_time_codec)

pub set_attributes_lawful : Lawful set_attributes_codec
unfolding set_attributes_codec
set_attributes_lawful =
    structure_lawful _ _ _ (λ _. refl) (λ _. refl)
    ((optional_lawful _ word_lawful) ⊠ (optional_lawful _ word_lawful) ⊠ (optional_lawful _ word_lawful)
    ⊠ (optional_lawful _ hyper_lawful) ⊠ set_time_lawful ⊠ set_time_lawful)
