-- Why a segment ends a side, one kind of segment at a time: for the code. nr_link has the complete list.
use Rattle.std.specs.Prelude.{◌≡◌, ◌<◌, ◌≤◌, ◌^◌, ℕ, ◌+◌, Bool, true, false, not, ◌&&◌, ◌||◌, ◌==◌, nat_lt, nat_le, List, length, Option, None, Some}
use Rattle.nr_wire.specs.Constants.{OPCODE_READ_REQUEST, OPCODE_READ_RESPONSE, OPCODE_TERMINATE}
use Rattle.nr_wire.specs.Segment.{Segment}
use Rattle.nr_wire.specs.Segment.Segment.{Tagged, Untagged}
use Rattle.nr_regions.specs.declared.denied.Denied.{Denied}
use Rattle.nr_regions.specs.RegisteredMemory.{denial, right_for}
use Rattle.nr_link.specs.declared.end.End.{End}
use Rattle.nr_link.specs.declared.end.End.TheVariants as ends
use Rattle.nr_link.specs.Limits.{open_reads_max}
use Rattle.nr_link.specs.Reasons.{REASON_MSN, REASON_OFFSET, REASON_FORM, REASON_RESPONSE, REASON_REQUESTS, REASON_SHORT, REASON_LONG}
use Rattle.nr_link.specs.ReceiveState.{begun_bytes, read_request_in}
use Rattle.nr_link.specs.SegmentFaults.{next_msn, next_offset, is_begun, is_malformed, is_expected}
use Rattle.nr_link.specs.Ending.{kind_of}
use Rattle.nr_endpoint.specs.LinkState.{LinkState}
use Rattle.nr_endpoint.specs.Judging.{expected_response, fetch_access, next_frame, with_segment_by}
use Rattle.nr_xdr.specs.Fields.{word_at}

-- the segment belongs to a message of a queue
abbrev pub IsUntagged : Segment → Type 0
IsUntagged (Tagged last opcode stag to payload) = ⊥
IsUntagged (Untagged last opcode w queue msn offset payload) = Unit {0}

-- a reason if a test holds, else what follows
abbrev pub bad_if : ℕ → ℕ → Bool → Option End → Option End
bad_if at reason true others = Some (ends.Bad at reason)
bad_if at reason false others = others

abbrev pub denied_if : ℕ → ℕ → Option Denied → Option End → Option End
denied_if stag to None others = others
denied_if stag to (Some why) others = Some (ends.Denied stag to why)

abbrev pub no_buffer_if : ℕ → Bool → Option End → Option End
no_buffer_if msn true others = Some (ends.NoBuffer msn)
no_buffer_if msn false others = others

abbrev pub or_end : Option End → Option End → Option End
or_end None others = others
or_end (Some end) others = Some end

unfoldable pub tagged_end : LinkState → Bool → (opcode stag to : ℕ) → List ℕ → Option End
tagged_end s last opcode stag to payload =
    denied_if stag to (denial s.memory (record { right = right_for (kind_of opcode); stag = stag; to = to; len = length payload }))
    (bad_if s.place REASON_RESPONSE (opcode == OPCODE_READ_RESPONSE && not (is_expected (expected_response s.reads) last stag to (length payload))) None)

-- after the next frame, if it holds this tagged segment
abbrev pub with_next_tagged : LinkState → (bytes : List ℕ) → Bool → (opcode stag to : ℕ) → List ℕ → LinkState
with_next_tagged s bytes last opcode stag to payload =
    with_segment_by (next_frame s bytes) (Tagged last opcode stag to payload) (tagged_end s last opcode stag to payload) s

unfoldable pub message_end : LinkState → (queue msn offset : ℕ) → Option End
message_end s queue msn offset =
    bad_if s.place REASON_MSN (not (msn == next_msn s.receive_queue.received queue))
    (bad_if s.place REASON_OFFSET (not (offset == next_offset s.receive_queue.received queue)) None)

abbrev pub send_len : LinkState → List ℕ → ℕ
send_len s payload = length (begun_bytes s.receive_queue.received.begun) + length payload

unfoldable pub send_end : LinkState → Bool → ℕ → List ℕ → Option End
send_end s last msn payload =
    no_buffer_if msn (not (is_begun s.receive_queue.received.begun || nat_lt 0 s.receive_queue.free))
    (bad_if s.place REASON_LONG (last && nat_lt s.message_max (send_len s payload))
    (bad_if s.place REASON_SHORT (last && nat_lt (send_len s payload) 16) None))

unfoldable pub request_end : LinkState → Bool → List ℕ → Option End
request_end s last payload =
    bad_if s.place REASON_FORM (is_malformed OPCODE_READ_REQUEST last payload)
    (denied_if (read_request_in payload).stag (read_request_in payload).to (denial s.memory (fetch_access (read_request_in payload)))
    (bad_if s.place REASON_REQUESTS (nat_le open_reads_max (length s.send_queue.response_ends)) None))

unfoldable pub terminate_end : LinkState → Bool → List ℕ → Option End
terminate_end s last payload =
    bad_if s.place REASON_FORM (is_malformed OPCODE_TERMINATE last payload) (Some (ends.Terminated (word_at 0 payload)))

-- what holds of a Read Request, and of a segment of a Send, that doesn't end the side
pub record RequestIsFine (s : LinkState) (payload : List ℕ) : Type 0 where
  pub size : length payload ≡ 28
  pub within : (read_request_in payload).sink_to + (read_request_in payload).size ≤ 2 ^ 64
  pub allowed : denial s.memory (fetch_access (read_request_in payload)) ≡ None
  pub few : length s.send_queue.response_ends < open_reads_max

pub record SendIsFine (s : LinkState) (last : Bool) (payload : List ℕ) : Type 0 where
  pub receive : is_begun s.receive_queue.received.begun ≡ false → 0 < s.receive_queue.free
  pub fits : last ≡ true → send_len s payload ≤ s.message_max
  pub enough : last ≡ true → 16 ≤ send_len s payload
