-- Numbers and bits of the link's fields, beyond the words of nr_xdr. The highest byte comes first.
use Rattle.std.specs.Prelude.{ℕ, ◌/◌, ◌%◌, Bool, ◌==◌, List, take, drop}
use Rattle.std.specs.Int.{w16, to_be_bytes, from_be_bytes}
use Rattle.nr_xdr.specs.Item.{hyper_of}

-- the two bytes of a number, and the number of two bytes
unfoldable pub half_word : ℕ → List ℕ
half_word n = to_be_bytes w16 n

unfoldable pub half_word_of : List ℕ → ℕ
half_word_of bytes = from_be_bytes w16 bytes

-- the number of the two, and of the eight, bytes from this offset on
abbrev pub half_word_at : ℕ → List ℕ → ℕ
half_word_at place bytes = half_word_of (take 2 (drop place bytes))

abbrev pub hyper_at : ℕ → List ℕ → ℕ
hyper_at place bytes = hyper_of (take 8 (drop place bytes))

-- whether the bit of this value is set in the number
abbrev pub has_bit : ℕ → ℕ → Bool
has_bit value n = n / value % 2 == 1
