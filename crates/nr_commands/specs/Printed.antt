-- What each command prints.
use Rattle.std.specs.Prelude.{ℕ, ◌+◌, ◌/◌, ◌%◌, List, [], ◌∷◌, ◌++◌, codes}
use Rattle.std.specs.Fmt.{decimal}
use Rattle.std.specs.List.{flat_map}
use Rattle.hex.specs.Hex.{encode_lower}
use Rattle.nr_nfs_base.specs.declared.attributes.Attributes.{Attributes}
use Rattle.nr_nfs_base.specs.declared.file_type.FileType.{FileType}
use Rattle.nr_nfs_base.specs.declared.file_type.FileType.TheVariants as types

-- `mount`: "handle", and the bytes of the file handle in hexadecimal digits
abbrev pub handle_text : List ℕ → List ℕ
handle_text handle = codes "handle " ++ encode_lower handle ++ codes "\n"

-- `ls`: the names, one a line
abbrev pub names_text : List (List ℕ) → List ℕ
names_text names = flat_map (λ name. name ++ codes "\n") names

-- `readlink`: the path, on a line
abbrev pub path_text : List ℕ → List ℕ
path_text path = path ++ codes "\n"

-- ---- `stat`: TYPE MODE NLINK UID GID SIZE FILEID, on a line

abbrev pub type_text : FileType → List ℕ
type_text types.Reg = codes "reg"
type_text types.Dir = codes "dir"
type_text types.Blk = codes "blk"
type_text types.Chr = codes "chr"
type_text types.Lnk = codes "lnk"
type_text types.Sock = codes "sock"
type_text types.Fifo = codes "fifo"

-- the last octal digit of a number, as a character
abbrev pub octal_digit : ℕ → ℕ
octal_digit number = 48 + number % 8

-- the mode modulo 4096, in four octal digits
abbrev pub mode_text : ℕ → List ℕ
mode_text mode = octal_digit (mode / 512) ∷ octal_digit (mode / 64) ∷ octal_digit (mode / 8) ∷ octal_digit mode ∷ []

-- numbers in decimal digits, with a space before each
unfoldable pub owner_text : (nlink uid gid : ℕ) → List ℕ
owner_text nlink uid gid = codes " " ++ decimal nlink ++ codes " " ++ decimal uid ++ codes " " ++ decimal gid

unfoldable pub size_text : (size fileid : ℕ) → List ℕ
size_text size fileid = codes " " ++ decimal size ++ codes " " ++ decimal fileid ++ codes "\n"

abbrev pub attributes_text : Attributes → List ℕ
attributes_text a = type_text a.file_type ++ codes " " ++ mode_text a.mode ++ owner_text a.nlink a.uid a.gid ++ size_text a.size a.fileid
