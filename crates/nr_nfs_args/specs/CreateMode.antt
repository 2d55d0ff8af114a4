-- How a file is created.
use Rattle.std.proofs.Common.{refl}
use Rattle.std.specs.Prelude.{◌≡◌, ℕ, List, [], ◌∷◌, Some}
use Rattle.nr_nfs_args.specs.declared.create_mode.CreateMode.{CreateMode}
use Rattle.nr_nfs_args.specs.declared.create_mode.CreateMode.TheVariants.{Unchecked, Guarded, Exclusive}
use Rattle.nr_nfs_base.specs.Codec.{Codec, Lawful, value_with_number, enumeration}
use Rattle.nr_nfs_base.specs.Laws.{enumeration_lawful}

-- how a file is created (RFC 1813 section 3.3.8, createmode3)
abbrev pub create_mode_number : CreateMode → ℕ
create_mode_number Unchecked = 0
create_mode_number Guarded = 1
create_mode_number Exclusive = 2

abbrev pub create_modes : List CreateMode
create_modes = Unchecked ∷ Guarded ∷ Exclusive ∷ []

pub each_create_mode : (v : CreateMode) → value_with_number create_mode_number create_modes (create_mode_number v) ≡ Some v
each_create_mode Unchecked = refl
each_create_mode Guarded = refl
each_create_mode Exclusive = refl

unfoldable pub create_mode_codec : Codec CreateMode
create_mode_codec = enumeration create_mode_number create_modes

pub create_mode_lawful : Lawful create_mode_codec
unfolding create_mode_codec
create_mode_lawful = enumeration_lawful create_mode_number create_modes each_create_mode
