-- Types of files.
use Rattle.std.proofs.Common.{refl}
use Rattle.std.specs.Prelude.{◌≡◌, ℕ, List, [], ◌∷◌, Some}
use Rattle.nr_nfs_base.specs.Codec.{Codec, Lawful, value_with_number, enumeration}
use Rattle.nr_nfs_base.specs.Laws.{enumeration_lawful}
use Rattle.nr_nfs_base.specs.declared.file_type.FileType.{FileType}
use Rattle.nr_nfs_base.specs.declared.file_type.FileType.TheVariants.{Reg, Dir, Blk, Chr, Lnk, Sock, Fifo}

-- the type of a file, and its number (RFC 1813 section 2.5, ftype3)
abbrev pub file_type_number : FileType → ℕ
file_type_number Reg = 1
file_type_number Dir = 2
file_type_number Blk = 3
file_type_number Chr = 4
file_type_number Lnk = 5
file_type_number Sock = 6
file_type_number Fifo = 7

abbrev pub file_types : List FileType
file_types = Reg ∷ Dir ∷ Blk ∷ Chr ∷ Lnk ∷ Sock ∷ Fifo ∷ []

pub each_file_type : (v : FileType) → value_with_number file_type_number file_types (file_type_number v) ≡ Some v
each_file_type Reg = refl
each_file_type Dir = refl
each_file_type Blk = refl
each_file_type Chr = refl
each_file_type Lnk = refl
each_file_type Sock = refl
each_file_type Fifo = refl

unfoldable pub file_type_codec : Codec FileType
file_type_codec = enumeration file_type_number file_types

pub file_type_lawful : Lawful file_type_codec
unfolding file_type_codec
file_type_lawful = enumeration_lawful file_type_number file_types each_file_type
