-- A message of any length is sent in segments, and received from them (RFC 5041 sections 5.2 and 7; RFC 5044 section 4).
use Rattle.std.specs.Prelude.{◌≡◌, ℕ, ◌+◌, ◌*◌, ◌^◌, ◌≤◌, ◌<◌, Bool, true, ◌==◌, if◌then◌else◌, List, [], ◌∷◌, ◌++◌, length, map, Option, None, Some, IfSome, Ok, option_to_list}
use Rattle.std.specs.List.{flat_map, range_with_len}
use Rattle.nr_regions.specs.declared.denied.Denied.{Denied}
use Rattle.nr_wire.specs.Constants.{OPCODE_SEND, OPCODE_SEND_INVALIDATE, QUEUE_SEND}
use Rattle.nr_wire.specs.Segment.{Segment, encoding, segment_of}
use Rattle.nr_wire.specs.Segment.Segment.{Untagged}
use Rattle.nr_link.specs.Limits.{segment_max}
use Rattle.nr_link.specs.Output.{segment_count, segment_payload, msn_word, send_by}
use Rattle.nr_link.specs.ReceiveState.{ReceiveState, received_after, message_completed, stag_invalidated}
use Rattle.nr_link.specs.SegmentFaults.{Readiness, segment_reason}

-- the opcode of a message that names an STag, or none, and the word of each of its segments (RFC 5040 section 4)
abbrev pub send_opcode : Option ℕ → ℕ
send_opcode None = OPCODE_SEND
send_opcode (Some stag) = OPCODE_SEND_INVALIDATE

abbrev pub send_word : Option ℕ → (last : Bool) → ℕ
send_word None last = 0
send_word (Some stag) last = if last then stag else 0

-- The segment of such a message with this index: its payload at its offset, with the L bit on the last alone.
abbrev pub named_segment : (named : Option ℕ) → (msn : ℕ) → List ℕ → ℕ → Segment
named_segment named msn message i =
    Untagged (i + 1 == segment_count message) (send_opcode named) (send_word named (i + 1 == segment_count message)) QUEUE_SEND (msn_word msn) (segment_max * i)
    (segment_payload message i)

abbrev pub named_segments : (named : Option ℕ) → (msn : ℕ) → List ℕ → List Segment
named_segments named msn message = map (named_segment named msn message) (range_with_len 0 (segment_count message))

-- of a Send that names none
abbrev pub message_segment : (msn : ℕ) → List ℕ → ℕ → Segment
message_segment msn message i = named_segment None msn message i

abbrev pub message_segments : (msn : ℕ) → List ℕ → List Segment
message_segments msn message = named_segments None msn message

-- What is written for a Send are these segments, in order.
abbrev pub SendIsItsSegments : Type 0
SendIsItsSegments = (named : Option ℕ) (msn : ℕ) (message : List ℕ) → send_by named msn message ≡ flat_map encoding (named_segments named msn message)

-- Each has at most segment_max bytes of the message, and is read as it was written, if offsets in the message and STags are words.
abbrev pub SegmentsReadBack : Type 0
SegmentsReadBack = (named : Option ℕ) (msn : ℕ) (message : List ℕ) (i : ℕ) → i < segment_count message → length message ≤ 2 ^ 32 → IfSome named (λ stag. stag < 2 ^ 32) →
    (length (segment_payload message i) ≤ segment_max) × (segment_of (encoding (named_segment named msn message i)) ≡ Ok (named_segment named msn message i))

-- The last one alone names the STag.
abbrev pub LastSegmentNames : Type 0
LastSegmentNames = (named : Option ℕ) (msn : ℕ) (message : List ℕ) (i : ℕ) →
    stag_invalidated (named_segment named msn message i) ≡ (if i + 1 == segment_count message then named else None)

-- what a side has received after some segments, and the messages that they complete
abbrev pub received_after_all : ReceiveState → List Segment → ReceiveState
received_after_all h [] = h
received_after_all h (s ∷ segments) = received_after_all (received_after h s) segments

abbrev pub messages_completed : ReceiveState → List Segment → List (List ℕ)
messages_completed h [] = []
messages_completed h (s ∷ segments) = option_to_list (message_completed h s) ++ messages_completed (received_after h s) segments

-- A side that has no Send begun has received exactly the message after its segments.
pub record IsReceived (h : ReceiveState) (segments : List Segment) (message : List ℕ) : Type 0 where
  pub messages : messages_completed h segments ≡ message ∷ []
  pub state : received_after_all h segments ≡ record { sends = h.sends + 1; begun = None; requests = h.requests }

abbrev pub MessageIsReceived : Type 0
MessageIsReceived = (h : ReceiveState) (named : Option ℕ) (msn : ℕ) (message : List ℕ) → h.begun ≡ None → IsReceived h (named_segments named msn message) message

-- So messages that are sent one after the other are received in order, whichever of them name an STag.
abbrev pub segments_of_messages : (msn : ℕ) → List (Option ℕ × List ℕ) → List Segment
segments_of_messages msn [] = []
segments_of_messages msn (message ∷ messages) = named_segments message.0 msn message.1 ++ segments_of_messages (msn + 1) messages

abbrev pub MessagesAreReceived : Type 0
MessagesAreReceived = (h : ReceiveState) (msn : ℕ) (messages : List (Option ℕ × List ℕ)) → h.begun ≡ None →
    messages_completed h (segments_of_messages msn messages) ≡ map (λ message. message.1) messages

-- None of some segments breaks a rule of the link, each by what was received before it.
abbrev pub BreakNoRule : Readiness Denied → List Segment → Type 0
BreakNoRule r [] = Unit {0}
BreakNoRule r (s ∷ segments) = (segment_reason r s ≡ None) × BreakNoRule (record r { received = received_after r.received s }) segments

-- So it is of the segments of a message with the next number that is no longer than a message may be, if a receive is there.
abbrev pub SegmentsBreakNoRule : Type 0
SegmentsBreakNoRule = (r : Readiness Denied) (named : Option ℕ) (message : List ℕ) → r.received.begun ≡ None → r.has_receive ≡ true → r.missing ≡ None → 16 ≤ length message → length message ≤ r.message_max →
    BreakNoRule r (named_segments named (r.received.sends + 1) message)
