-- The words of a line, and the numbers and bytes that words spell.
use Rattle.std.specs.Prelude.{ℕ, ◌^◌, ◌<◌, Bool, false, not, ◌==◌, ◌&&◌, nat_le, if◌then◌else◌, List, [], ◌∷◌, codes, Option, None, Some, Result, Ok, Err}
use Rattle.std.specs.List.{list_all, slice_split}
use Rattle.std.specs.Str.{bytes_eq}
use Rattle.std.specs.Str.Parse.{digits_value}
use Rattle.hex.specs.Hex.{decode_of}
use Rattle.nr_texts.specs.Limits.{number_max}

-- what follows from a value, if one is read
infixl 10 ◌>>=◌
abbrev pub ◌>>=◌ : {A B : Type 0} → Option A → (A → Option B) → Option B
(Some x) >>= f = f x
None >>= f = None

-- what ends a line, and what separates its words
abbrev pub newline : ℕ
newline = 10

abbrev pub space : ℕ
space = 32

-- the parts of a text between the occurrences of a character
abbrev pub parts : ℕ → List ℕ → List (List ℕ)
parts character text = slice_split (λ c. c == character) text

-- the values of the parts, if each can be read
abbrev pub each_read : {A : Type 0} → (List ℕ → Option A) → List (List ℕ) → Option (List A)
each_read read [] = Some []
each_read read (part ∷ others) = do
  x ← read part
  xs ← each_read read others
  Some (x ∷ xs)

-- decimal digits without a sign, and without a leading zero: 0 alone begins with one
abbrev pub zero_digit : ℕ
zero_digit = 48

abbrev pub nine_digit : ℕ
nine_digit = 57

abbrev pub is_digit : ℕ → Bool
is_digit c = nat_le zero_digit c && nat_le c nine_digit

abbrev pub is_numeral : List ℕ → Bool
is_numeral [] = false
is_numeral (c ∷ []) = is_digit c
is_numeral (c ∷ d ∷ others) = not (c == zero_digit) && list_all is_digit (c ∷ d ∷ others)

-- the number of a numeral
unfoldable pub numeral_value : List ℕ → ℕ
numeral_value word = digits_value 10 word

-- a number from low to high
unfoldable pub number_within : ℕ → ℕ → List ℕ → Option ℕ
number_within low high word =
    if is_numeral word && (nat_le low (numeral_value word) && nat_le (numeral_value word) high) then Some (numeral_value word) else None

-- a number of 32 bits
abbrev pub IsWord : ℕ → Type 0
IsWord n = n < 2 ^ 32

abbrev pub number_in : List ℕ → Option ℕ
number_in word = number_within 0 number_max word

-- one byte or more, in hexadecimal of either case
abbrev pub decoded : {E : Type 0} → Result (List ℕ) E → Option (List ℕ)
decoded (Ok bytes) = Some bytes
decoded (Err fault) = None

unfoldable pub bytes_in : List ℕ → Option (List ℕ)
bytes_in [] = None
bytes_in (digit ∷ others) = decoded (decode_of (digit ∷ others))

-- the same, or `-` for no bytes
unfoldable pub arguments_in : List ℕ → Option (List ℕ)
arguments_in word = if bytes_eq word (codes "-") then Some [] else bytes_in word

-- one number alone, or two
abbrev pub one_number : List (List ℕ) → Option ℕ
one_number (word ∷ []) = number_in word
one_number words = None

abbrev pub two_numbers : List (List ℕ) → Option (ℕ × ℕ)
two_numbers (first ∷ second ∷ []) = number_in first >>= λ n. number_in second >>= λ m. Some (n, m)
two_numbers words = None
