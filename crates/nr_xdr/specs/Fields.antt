-- A number at an offset of some bytes.
use Rattle.std.specs.Prelude.{ℕ, List, take, drop}
use Rattle.nr_xdr.specs.Item.{word_of}

-- the number of the four bytes from this offset on (RFC 4506 section 4.2)
abbrev pub word_at : ℕ → List ℕ → ℕ
word_at place bytes = word_of (take 4 (drop place bytes))
