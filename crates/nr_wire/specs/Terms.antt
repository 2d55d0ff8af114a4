-- What the private data of a hello says (RFC 5044 section 7.1). All of it is own: the bytes `NR01` and a version; a byte of flags; the
-- maximum length of the Sends that the side writes, and of those that it takes, in units, each less one; and with a flag the number of the
-- client, in eight bytes. What follows is ignored, as is any other private data.
use Rattle.std.specs.Prelude.{◌≡◌, ℕ, ◌+◌, ◌-◌, ◌*◌, ◌^◌, ◌<◌, ◌≤◌, min, Bool, not, ◌&&◌, ◌==◌, nat_eq, nat_le, if◌then◌else◌, List, [], ◌∷◌, ◌++◌, codes, length, slice_index, Option, None, Some}
use Rattle.std.specs.List.{starts_with}
use Rattle.nr_xdr.specs.Item.{bit, hyper}
use Rattle.nr_wire.specs.declared.terms.Terms.{Terms}
use Rattle.nr_wire.specs.Constants.{TERMS_LEN, NUMBERED_TERMS_LEN, TERMS_VERSION, TERMS_NUMBER, TERMS_INVALIDATE, UNITS_MAX}
use Rattle.nr_wire.specs.Fields.{hyper_at, has_bit}

-- the bytes that open it, with the version
unfoldable pub terms_key : List ℕ
terms_key = codes "NR01" ++ TERMS_VERSION ∷ []

-- A number of units as a byte, and the units of a byte: from 1 to UNITS_MAX, whatever the number and the byte are.
abbrev pub units_byte : ℕ → ℕ
units_byte units = min (units - 1) (UNITS_MAX - 1)

abbrev pub units_of_byte : ℕ → ℕ
units_of_byte byte = min byte (UNITS_MAX - 1) + 1

abbrev pub terms_flags : (number : ℕ) → (invalidates : Bool) → ℕ
terms_flags number invalidates = TERMS_NUMBER * bit (not (number == 0)) + TERMS_INVALIDATE * bit invalidates

abbrev pub number_encoding : ℕ → List ℕ
number_encoding number = if number == 0 then [] else hyper number

-- the private data of a side with these units, for Sends in both directions, and with this number of a client, or 0
unfoldable pub terms_encoding : (units number : ℕ) → (invalidates : Bool) → List ℕ
terms_encoding units number invalidates =
    terms_key ++ (terms_flags number invalidates ∷ units_byte units ∷ units_byte units ∷ []) ++ number_encoding number

-- the flags of private data, and the number of a client that it says, or 0
abbrev pub flags_in : List ℕ → ℕ
flags_in private = slice_index private 5

abbrev pub number_in : List ℕ → ℕ
number_in private = if has_bit TERMS_NUMBER (flags_in private) && nat_le NUMBERED_TERMS_LEN (length private) then hyper_at TERMS_LEN private else 0

-- what private data says, if it is of this project
unfoldable pub terms_in : List ℕ → Option Terms
terms_in private =
    if nat_le TERMS_LEN (length private) && starts_with nat_eq private terms_key
    then Some (record {
      sends = units_of_byte (slice_index private 6);
      receives = units_of_byte (slice_index private 7);
      number = number_in private;
      invalidates = has_bit TERMS_INVALIDATE (flags_in private);
    })
    else None

-- What a side with 1 to UNITS_MAX units says is read so, whatever follows.
abbrev pub TermsAreRead : Type 0
TermsAreRead = (units number : ℕ) (invalidates : Bool) (more : List ℕ) → 1 ≤ units → units ≤ UNITS_MAX → number < 2 ^ 64 →
    terms_in (terms_encoding units number invalidates ++ more) ≡ Some (record { sends = units; receives = units; number = number; invalidates = invalidates })
