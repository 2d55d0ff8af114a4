-- The items of XDR (RFC 4506), and the bytes that encode them.
use Rattle.std.specs.Prelude.{◌≡◌, ℕ, ◌-◌, ◌%◌, ◌^◌, ◌<◌, Bool, true, false, List, ◌++◌, length, replicate, get_or}
use Rattle.std.specs.Int.{w32, w64, to_be_bytes, from_be_bytes}

-- each number of the list is a byte
abbrev pub IsBytes : List ℕ → Type 0
IsBytes bytes = (i : ℕ) → get_or bytes i 0 < 256

-- four bytes, the highest first (RFC 4506 section 4.2), and the number that they stand for
unfoldable pub word : ℕ → List ℕ
word n = to_be_bytes w32 n

unfoldable pub word_of : List ℕ → ℕ
word_of bytes = from_be_bytes w32 bytes

-- eight bytes, the highest first (RFC 4506 section 4.5), and the number that they stand for
unfoldable pub hyper : ℕ → List ℕ
hyper n = to_be_bytes w64 n

unfoldable pub hyper_of : List ℕ → ℕ
hyper_of bytes = from_be_bytes w64 bytes

-- how many pad bytes fill n bytes up to a multiple of four (RFC 4506 section 3)
unfoldable pub pad_len : ℕ → ℕ
pad_len n = (4 - n % 4) % 4

-- An item: an unsigned integer (RFC 4506 section 4.2), an unsigned hyper integer (4.5), a boolean (4.4),
-- opaque data of variable length (4.10) and of fixed length (4.9).
pub data Item : Type 0 where
  Unsigned : (n : ℕ) → Item
  Hyper : (n : ℕ) → Item
  Boolean : (b : Bool) → Item
  Opaque : (bytes : List ℕ) → Item
  Fixed : (bytes : List ℕ) → Item

-- the item has an encoding
abbrev pub Fits : Item → Type 0
Fits (Unsigned n) = n < 2 ^ 32
Fits (Hyper n) = n < 2 ^ 64
Fits (Boolean b) = Unit {0}
Fits (Opaque bytes) = length bytes < 2 ^ 32
Fits (Fixed bytes) = Unit {0}

-- how many pad bytes the item has
abbrev pub padding : Item → ℕ
padding (Unsigned n) = 0
padding (Hyper n) = 0
padding (Boolean b) = 0
padding (Opaque bytes) = pad_len (length bytes)
padding (Fixed bytes) = pad_len (length bytes)

abbrev pub bit : Bool → ℕ
bit true = 1
bit false = 0

-- the item's bytes, with these pad bytes
abbrev pub padded : Item → List ℕ → List ℕ
padded (Unsigned n) pad = word n
padded (Hyper n) pad = hyper n
padded (Boolean b) pad = word (bit b)
padded (Opaque bytes) pad = word (length bytes) ++ (bytes ++ pad)
padded (Fixed bytes) pad = bytes ++ pad

-- the item's one encoding: each pad byte is zero (RFC 4506 section 3)
abbrev pub encoding : Item → List ℕ
encoding item = padded item (replicate (padding item) 0)

-- the bytes are read as the item: they are its encoding but for the pad bytes, which may have any value
pub record Reads (item : Item) (bytes : List ℕ) : Type 0 where
  pub fits : Fits item
  pub pad : List ℕ
  pub pad_is : length pad ≡ padding item
  pub bytes_are : bytes ≡ padded item pad

-- both items are of one XDR type
abbrev pub AreOfOneType : Item → Item → Type 0
AreOfOneType (Unsigned m) (Unsigned n) = Unit {0}
AreOfOneType (Hyper m) (Hyper n) = Unit {0}
AreOfOneType (Boolean b) (Boolean c) = Unit {0}
AreOfOneType (Opaque x) (Opaque y) = Unit {0}
AreOfOneType (Fixed x) (Fixed y) = length x ≡ length y
AreOfOneType _ _ = ⊥
