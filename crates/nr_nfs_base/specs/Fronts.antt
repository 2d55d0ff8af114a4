-- The fields before some field of a value: before the data of WRITE and READ, the paths of SYMLINK and READLINK, and the
-- counts of READ, READDIR and READDIRPLUS. The codecs of these values are made of these fronts.
use Rattle.std.proofs.Common.{refl}
use Rattle.std.specs.Prelude.{◌≡◌, ℕ, Bool, List, [], ◌∷◌, Option, Some}
use Rattle.nr_nfs_base.specs.Attributes.{attributes_codec, attributes_lawful}
use Rattle.nr_nfs_base.specs.Codec.{Codec, Lawful, word, hyper, boolean, ◌⊗◌, optional, value_with_number, enumeration}
use Rattle.nr_nfs_base.specs.Laws.{word_lawful, hyper_lawful, boolean_lawful, ◌⊠◌, optional_lawful, enumeration_lawful}
use Rattle.nr_nfs_base.specs.Names.{handle_codec, handle_lawful, text_codec, text_lawful}
use Rattle.nr_nfs_base.specs.SetAttributes.{set_attributes_codec, set_attributes_lawful}
use Rattle.nr_nfs_base.specs.Stable.{stable_how_codec, stable_how_lawful}
use Rattle.nr_nfs_base.specs.Verifier.{verifier_codec, verifier_lawful}
use Rattle.nr_nfs_base.specs.declared.attributes.Attributes.{Attributes}
use Rattle.nr_nfs_base.specs.declared.fronts.Success.{Success}
use Rattle.nr_nfs_base.specs.declared.set_attributes.SetAttributes.{SetAttributes}
use Rattle.nr_nfs_base.specs.declared.stable.StableHow.{StableHow}
use Rattle.nr_nfs_base.specs.declared.verifier.Verifier.{Verifier}

-- before the data of WRITE: the file, the offset, the count, and how stable the data must be (RFC 1813 section 3.3.7)
abbrev pub write_args_front : Codec (List ℕ × (ℕ × (ℕ × StableHow)))
write_args_front = handle_codec ⊗ hyper ⊗ word ⊗ stable_how_codec

pub write_args_front_lawful : Lawful write_args_front
write_args_front_lawful = handle_lawful ⊠ hyper_lawful ⊠ word_lawful ⊠ stable_how_lawful

-- before the path of SYMLINK: the directory, the name, and the attributes to set (RFC 1813 section 3.3.10)
abbrev pub symlink_args_front : Codec (List ℕ × (List ℕ × SetAttributes))
symlink_args_front = handle_codec ⊗ text_codec ⊗ set_attributes_codec

pub symlink_args_front_lawful : Lawful symlink_args_front
symlink_args_front_lawful = handle_lawful ⊠ text_lawful ⊠ set_attributes_lawful

-- before the count of READ: the file and the offset (RFC 1813 section 3.3.6)
abbrev pub read_args_front : Codec (List ℕ × ℕ)
read_args_front = handle_codec ⊗ hyper

pub read_args_front_lawful : Lawful read_args_front
read_args_front_lawful = handle_lawful ⊠ hyper_lawful

-- before the count of READDIR: the directory, the cookie and the verifier (RFC 1813 section 3.3.16)
abbrev pub readdir_args_front : Codec (List ℕ × (ℕ × Verifier))
readdir_args_front = handle_codec ⊗ hyper ⊗ verifier_codec

pub readdir_args_front_lawful : Lawful readdir_args_front
readdir_args_front_lawful = handle_lawful ⊠ hyper_lawful ⊠ verifier_lawful

-- before the maxcount of READDIRPLUS: the directory, the cookie, the verifier and the dircount (RFC 1813 section 3.3.17)
abbrev pub readdirplus_args_front : Codec (List ℕ × (ℕ × (Verifier × ℕ)))
readdirplus_args_front = handle_codec ⊗ hyper ⊗ verifier_codec ⊗ word

pub readdirplus_args_front_lawful : Lawful readdirplus_args_front
readdirplus_args_front_lawful = handle_lawful ⊠ hyper_lawful ⊠ verifier_lawful ⊠ word_lawful

-- before the data of READ, after the status: the attributes, the count, and whether the file ends there (RFC 1813
-- section 3.3.6)
abbrev pub read_ok_front : Codec (Option Attributes × (ℕ × Bool))
read_ok_front = optional attributes_codec ⊗ word ⊗ boolean

pub read_ok_front_lawful : Lawful read_ok_front
read_ok_front_lawful = optional_lawful _ attributes_lawful ⊠ word_lawful ⊠ boolean_lawful

-- before the path of READLINK, after the status: the attributes (RFC 1813 section 3.3.5)
abbrev pub readlink_ok_front : Codec (Option Attributes)
readlink_ok_front = optional attributes_codec

pub readlink_ok_front_lawful : Lawful readlink_ok_front
readlink_ok_front_lawful = optional_lawful _ attributes_lawful

-- the status of a call that succeeded, which is 0 (RFC 1813 section 2.5, NFS3_OK of nfsstat3)
abbrev pub success : Success
success = record {}

abbrev pub success_number : Success → ℕ
success_number s = 0

abbrev pub successes : List Success
successes = success ∷ []

pub each_success : (s : Success) → value_with_number success_number successes (success_number s) ≡ Some s
each_success s = refl

unfoldable pub success_codec : Codec Success
success_codec = enumeration success_number successes

pub success_lawful : Lawful success_codec
unfolding success_codec
success_lawful = enumeration_lawful success_number successes each_success

-- before the data of READ in the results of a call that succeeded
abbrev pub read_res_front : Codec (Success × (Option Attributes × (ℕ × Bool)))
read_res_front = success_codec ⊗ read_ok_front

-- before the path of READLINK in the results of a call that succeeded
abbrev pub readlink_res_front : Codec (Success × Option Attributes)
readlink_res_front = success_codec ⊗ readlink_ok_front
