-- What carries bytes that are cut into segments, and the room that they take.
use Rattle.std.specs.Prelude.{ℕ, ◌+◌, ◌*◌, ◌^◌, ◌<◌, ◌≤◌, Bool, if◌then◌else◌, List, [], ◌∷◌, length, Option, None, Some}
use Rattle.nr_wire.specs.Constants.{OPCODE_SEND, OPCODE_SEND_INVALIDATE, OPCODE_WRITE, OPCODE_READ_RESPONSE, QUEUE_SEND}
use Rattle.nr_wire.specs.Segment.{Segment}
use Rattle.nr_wire.specs.Segment.Segment.{Tagged, Untagged}
use Rattle.nr_link.specs.Output.{segment_count}
use Rattle.nr_endpoint.specs.declared.framing.RemoteWrite.{RemoteWrite}
use Rattle.nr_endpoint.specs.declared.framing.Operation.{Operation}
use Rattle.nr_endpoint.specs.declared.framing.Operation.TheVariants as carriers

abbrev pub operation_segment : Operation → Bool → ℕ → List ℕ → Segment
operation_segment (carriers.Send msn) last offset payload = Untagged last OPCODE_SEND 0 QUEUE_SEND msn offset payload
operation_segment (carriers.SendInvalidate msn stag) last offset payload = Untagged last OPCODE_SEND_INVALIDATE (if last then stag else 0) QUEUE_SEND msn offset payload
operation_segment (carriers.Write stag to) last offset payload = Tagged last OPCODE_WRITE stag (to + offset) payload
operation_segment (carriers.Response stag to) last offset payload = Tagged last OPCODE_READ_RESPONSE stag (to + offset) payload

-- the Send with a number, with Invalidate if there is an STag
abbrev pub sender : Option ℕ → ℕ → Operation
sender None msn = carriers.Send msn
sender (Some stag) msn = carriers.SendInvalidate msn stag

-- its opcode, and the word of its last segment (RFC 5040 sections 4.6 and 4.7)
abbrev pub send_opcode : Option ℕ → ℕ
send_opcode None = OPCODE_SEND
send_opcode (Some stag) = OPCODE_SEND_INVALIDATE

abbrev pub send_word : Option ℕ → ℕ
send_word None = 0
send_word (Some stag) = stag

-- this number of bytes can be carried: their offsets fit
abbrev pub FitsOperation : Operation → ℕ → Type 0
FitsOperation (carriers.Send msn) n = n < 2 ^ 32
FitsOperation (carriers.SendInvalidate msn stag) n = n < 2 ^ 32
FitsOperation (carriers.Write stag to) n = to + n ≤ 2 ^ 64
FitsOperation (carriers.Response stag to) n = to + n ≤ 2 ^ 64

-- the segment at this offset can be carried
abbrev pub FitsAt : Operation → ℕ → Type 0
FitsAt (carriers.Send msn) offset = offset < 2 ^ 32
FitsAt (carriers.SendInvalidate msn stag) offset = offset < 2 ^ 32
FitsAt (carriers.Write stag to) offset = to + offset < 2 ^ 64
FitsAt (carriers.Response stag to) offset = to + offset < 2 ^ 64

-- the room that the FPDUs of some bytes take at most, if each has at most `framing` bytes beside its payload
abbrev pub cut_room : (framing : ℕ) → List ℕ → ℕ
cut_room framing bytes = length bytes + framing * segment_count bytes

abbrev pub writes_room : (framing : ℕ) → List RemoteWrite → ℕ
writes_room framing [] = 0
writes_room framing (w ∷ writes) = cut_room framing w.bytes.now + writes_room framing writes
