-- Numbers in decimal digits.
use Rattle.std.specs.Prelude.{ℕ, ◌==◌, false, ◌+◌, ◌-◌, ◌*◌, ◌&&◌, nat_le, if◌then◌else◌, List, [], ◌∷◌, Option, Some, None, Bool}

-- '0' to '9'
abbrev pub is_digit : ℕ → Bool
is_digit byte = nat_le 48 byte && nat_le byte 57

-- the number that these digits write after those of another number
unfoldable pub value_after : ℕ → List ℕ → Option ℕ
value_after value [] = Some value
value_after value (byte ∷ bytes) = if is_digit byte then value_after (value * 10 + (byte - 48)) bytes else None

-- a number, if it is in the range
abbrev pub within : ℕ → ℕ → Option ℕ → Option ℕ
within low high None = None
within low high (Some value) = if nat_le low value && nat_le value high then Some value else None

-- the number that a text of decimal digits, at least one, writes, if it is in the range
abbrev pub number_within : ℕ → ℕ → List ℕ → Option ℕ
number_within low high [] = None
number_within low high (byte ∷ bytes) = within low high (value_after 0 (byte ∷ bytes))

-- a zero before another byte
abbrev pub has_leading_zero : List ℕ → Bool
has_leading_zero (first ∷ second ∷ others) = first == 48
has_leading_zero _ = false

-- the same of a text without a leading zero
abbrev pub numeral_within : ℕ → ℕ → List ℕ → Option ℕ
numeral_within low high text = if has_leading_zero text then None else number_within low high text
