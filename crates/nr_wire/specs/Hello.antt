-- The first frame of a connection in either direction: the MPA request and reply frames (RFC 5044 section 7.1).
use Rattle.std.specs.Prelude.{ℕ, ◌+◌, Bool, not, ◌||◌, ◌==◌, nat_eq, nat_lt, if◌then◌else◌, List, ◌∷◌, ◌++◌, length, take, drop, slice_index, Option, None, Some, Result, Ok, Err, ◌≡◌, ◌≤◌, false}
use Rattle.std.specs.List.{starts_with}
use Rattle.std.specs.Prelude.{codes}
use Rattle.nr_wire.specs.Constants.{HELLO_LEN, HELLO_REVISION, PRIVATE_MAX, FLAG_MARKERS, FLAG_CRC, FLAG_REJECT, REASON_KEY, REASON_FLAGS, REASON_REVISION, REASON_PRIVATE}
use Rattle.nr_wire.specs.declared.hello.Side.{Side}
use Rattle.nr_wire.specs.declared.hello.Side.TheVariants.{Initiator, Responder}
use Rattle.nr_wire.specs.Fields.{half_word, half_word_at, has_bit}

-- the other side of a link
abbrev pub peer : Side → Side
peer Initiator = Responder
peer Responder = Initiator

-- a hello as a value, without its address
pub record Hello : Type 0 where
  pub side : Side
  pub flags : ℕ
  pub private : List ℕ

-- the 16 bytes that open it, in a request and in a reply
unfoldable pub key : Side → List ℕ
key Initiator = codes "MPA ID Req Frame"
key Responder = codes "MPA ID Rep Frame"

-- the bytes of a hello: key, flags, revision, the length of the private data, the private data
unfoldable pub hello_encoding : Hello → List ℕ
hello_encoding hello = key hello.side ++ (hello.flags ∷ HELLO_REVISION ∷ half_word (length hello.private)) ++ hello.private

-- the fields after the key
abbrev pub flags_of : List ℕ → ℕ
flags_of head = slice_index head 16

abbrev pub revision_of : List ℕ → ℕ
revision_of head = slice_index head 17

abbrev pub private_len : List ℕ → ℕ
private_len head = half_word_at 18 head

-- whether the flags refuse the link: they ask for markers or a CRC, which it doesn't do, or a reply rejects the connection
abbrev pub is_refused_by : Side → ℕ → Bool
is_refused_by Initiator flags = has_bit FLAG_MARKERS flags || has_bit FLAG_CRC flags
is_refused_by Responder flags = has_bit FLAG_MARKERS flags || has_bit FLAG_CRC flags || has_bit FLAG_REJECT flags

-- a hello that isn't refused
abbrev pub IsAccepted : Hello → Type 0
IsAccepted hello = (is_refused_by hello.side hello.flags ≡ false) × (length hello.private ≤ PRIVATE_MAX)

-- why a hello of this side with these first 20 bytes is refused: the first reason that applies, in this order
unfoldable pub hello_reason : Side → List ℕ → Option ℕ
hello_reason side head =
    if not (starts_with nat_eq head (key side)) then Some REASON_KEY
    else (if is_refused_by side (flags_of head) then Some REASON_FLAGS
    else (if not (revision_of head == HELLO_REVISION) then Some REASON_REVISION
    else (if nat_lt PRIVATE_MAX (private_len head) then Some REASON_PRIVATE
    else None)))

-- a value, unless there is a reason against it
abbrev pub value_unless : {V : Type 0} → Option ℕ → V → Result V ℕ
value_unless None value = Ok value
value_unless (Some reason) value = Err reason

-- the hello that a complete frame of this side holds, or why it is refused
unfoldable pub hello_of : Side → List ℕ → Result Hello ℕ
hello_of side frame =
    value_unless (hello_reason side (take HELLO_LEN frame)) (record { side = side; flags = flags_of frame; private = drop HELLO_LEN frame })

-- the length of the frame: a refused hello is its first 20 bytes, whatever its private length says
abbrev pub hello_size : Option ℕ → ℕ → ℕ
hello_size None private = HELLO_LEN + private
hello_size (Some reason) private = HELLO_LEN

unfoldable pub hello_len : Side → List ℕ → ℕ
hello_len side bytes = hello_size (hello_reason side (take HELLO_LEN bytes)) (private_len bytes)
