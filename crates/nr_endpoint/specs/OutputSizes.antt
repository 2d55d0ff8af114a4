-- How many bytes the output of a side has at most. Each bound follows from the limits of a link.
use Rattle.std.specs.Prelude.{ℕ, ◌+◌, ◌-◌, ◌*◌, ◌/◌, ◌≤◌, length}
use Rattle.nr_wire.specs.Constants.{CRC_LEN, HELLO_LEN, LENGTH_LEN, NUMBERED_TERMS_LEN, UNITS_MAX, UNTAGGED_LEN}
use Rattle.nr_link.specs.Limits.{segment_max, send_unit}
use Rattle.nr_endpoint.specs.SendQueue.{SendQueue, ends_left}

-- An FPDU beside its segment's payload: the length field, the segment's header, the pad and the CRC (RFC 5044 section 4).
abbrev pub framing_max : ℕ
framing_max = LENGTH_LEN + UNTAGGED_LEN + 3 + CRC_LEN

-- the FPDU of a segment that is written
abbrev pub frame_max : ℕ
frame_max = framing_max + segment_max

-- the FPDUs of n bytes that are cut into segments, if n isn't 0
abbrev pub frames_max : ℕ → ℕ
frames_max n = frame_max * ((n + (segment_max - 1)) / segment_max)

-- the FPDUs of a Send, which has at most UNITS_MAX units
abbrev pub send_frames_max : ℕ
send_frames_max = frames_max (send_unit * UNITS_MAX)

-- the FPDU of a Read Request, which has a payload of 28 bytes (RFC 5040 section 4.4)
abbrev pub request_max : ℕ
request_max = framing_max + 28

-- a hello, whose private data says terms with the number of a client
abbrev pub hello_max : ℕ
hello_max = HELLO_LEN + NUMBERED_TERMS_LEN

-- From each offset on, the bytes of the FPDUs that weren't written, and `spare` more, are at most `for_send` for each Send that ends
-- after it, `for_response` for each Read Response, and `others`.
abbrev pub QueueWithin : (for_send for_response others spare : ℕ) → SendQueue → Type 0
QueueWithin for_send for_response others spare q = (n : ℕ) →
    length q.fpdus - n + spare ≤ for_send * length (ends_left n q.send_ends) + for_response * length (ends_left n q.response_ends) + others
