-- What a frame that breaks no rule of the link makes of a server: pending calls, reads, calls that are ready, error messages.
use Rattle.std.specs.Prelude.{ℕ, ◌-◌, Bool, not, ◌&&◌, ◌==◌, if◌then◌else◌, List, [], ◌∷◌, ◌++◌, length, take, drop, Option, None, Some, Result, Ok, Err}
use Rattle.std.specs.List.{filter, find}
use Rattle.nr_wire.specs.Constants.{OPCODE_READ_RESPONSE}
use Rattle.nr_wire.specs.Segment.{Segment}
use Rattle.nr_wire.specs.Segment.Segment.{Tagged, Untagged}
use Rattle.nr_reduce.specs.Chunks.{is_read_chunk_of_item}
use Rattle.nr_reduce.specs.Holds.{chunk_error, version_error}
use Rattle.nr_link.specs.Frames.{Frame}
use Rattle.nr_link.specs.ReceiveState.{message_completed}
use Rattle.nr_link.specs.Ending.{tagged_access, frame_segment}
use Rattle.nr_reduce.specs.OfferedRegions.{Region}
use Rattle.nr_reduce.specs.ServerState.{PendingCall, PendingRead, ReadyCall, ServerState, credit_word}
use Rattle.nr_reduce.specs.ServerReads.{open_reads, regions_of, reads_of, is_read, is_read_at}
use Rattle.nr_reduce.specs.ServerMessages.{chunk_bytes, pending_payload, CallVerdict, by_payload, Verdict, verdict}
use Rattle.nr_reduce.specs.ServerMessages.CallVerdict.{Refuses, IsReady}
use Rattle.nr_reduce.specs.ServerMessages.Verdict.{EndsLink, OtherVersion, BadChunks, MakesPending}
use Rattle.nr_xdr.specs.Fields.{word_at}

-- The pending calls, reads and regions after a frame, the calls that it makes ready, the error messages that are due for it, how
-- many of the reads that were open still are, and a reason to end.
pub record FrameEffect : Type 0 where
  pub calls : List PendingCall
  pub reads : List PendingRead
  pub regions : List Region
  pub ready : List ReadyCall
  pub errors : List (List ℕ)
  pub kept : ℕ
  pub refusal : Option ℕ

abbrev pub no_effect : ServerState → FrameEffect
no_effect k = record {
  calls = k.calls;
  reads = k.reads;
  regions = k.regions;
  ready = [];
  errors = [];
  kept = length (open_reads k);
  refusal = None;
}

abbrev pub with_verdict : CallVerdict → FrameEffect → FrameEffect
with_verdict (Refuses reason) s = record s { refusal = Some reason }
with_verdict (IsReady r) s = record s { ready = r ∷ [] }

-- a call is complete once nothing is left to be read for it
abbrev pub ready_if_whole : ServerState → ℕ → PendingCall → FrameEffect → FrameEffect
ready_if_whole k place c s = if is_read s.reads c.number then with_verdict (by_payload c (pending_payload k place c)) s else s

-- a Send that makes a call pending
abbrev pub with_pending_call : ServerState → ℕ → PendingCall → FrameEffect → FrameEffect
with_pending_call k place c s =
    let regions : List Region = k.regions ++ regions_of k place c in
    ready_if_whole k place c (record s { calls = k.calls ++ c ∷ []; reads = k.reads ++ reads_of regions c; regions = regions })

abbrev pub message_effect : ServerState → ℕ → List ℕ → Verdict → FrameEffect
message_effect k place message (EndsLink reason) = record (no_effect k) { refusal = Some reason }
message_effect k place message OtherVersion =
    record (no_effect k) { errors = version_error (word_at 0 message) (word_at 4 message) (credit_word k) ∷ [] }
message_effect k place message BadChunks = record (no_effect k) { errors = chunk_error (word_at 0 message) (credit_word k) ∷ [] }
message_effect k place message (MakesPending c) = with_pending_call k place c (no_effect k)

-- A call whose stream is read and whose read chunk isn't its item's is refused: its reads that wait are dropped.
abbrev pub with_refused_call : ServerState → PendingCall → FrameEffect → FrameEffect
with_refused_call k c s = record s {
  calls = filter (λ other. not (other.number == c.number)) s.calls;
  reads = take s.kept s.reads ++ filter (λ r. not (r.number == c.number)) (drop s.kept s.reads);
  errors = chunk_error c.xid (credit_word k) ∷ [];
}

-- whether a read was the last one of its call's stream
abbrev pub is_stream_read : PendingCall → PendingRead → List PendingRead → Bool
is_stream_read c r reads = r.position == 0 && is_read_at reads c.number 0

abbrev pub read_effect : ServerState → ℕ → PendingRead → Option PendingCall → FrameEffect → FrameEffect
read_effect k place r None s = s
read_effect k place r (Some c) s =
    if is_stream_read c r s.reads && not (is_read_chunk_of_item (chunk_bytes k place c 0) c.lists.read) then with_refused_call k c s
    else ready_if_whole k place c s

abbrev pub call_of_number : ServerState → ℕ → Option PendingCall
call_of_number k number = find (λ c. c.number == number) k.calls

abbrev pub response_effect : ServerState → ℕ → List PendingRead → FrameEffect
response_effect k place [] = no_effect k
response_effect k place (r ∷ reads) =
    read_effect k place r (call_of_number k r.number) (record (no_effect k) { reads = reads; kept = length (open_reads k) - 1 })

-- the last segment of a Read Response closes the oldest read
abbrev pub tagged_effect : ServerState → ℕ → ℕ → Bool → FrameEffect
tagged_effect k place opcode last = if opcode == OPCODE_READ_RESPONSE && last then response_effect k place k.reads else no_effect k

abbrev pub by_message : ServerState → ℕ → Option (List ℕ) → FrameEffect
by_message k place None = no_effect k
by_message k place (Some message) = message_effect k place message (verdict k message)

-- with the access of this frame's own segment
abbrev pub with_access : ServerState → Frame → Segment → ServerState
with_access k f segment = record k { accesses_received = k.accesses_received ++ tagged_access f segment }

abbrev pub effect_by : ServerState → Frame → Segment → FrameEffect
effect_by k f (Tagged last opcode stag to payload) = tagged_effect (with_access k f (Tagged last opcode stag to payload)) f.end opcode last
effect_by k f (Untagged last opcode w queue msn offset payload) =
    by_message k f.end (message_completed k.received (Untagged last opcode w queue msn offset payload))

abbrev pub effect_in : ServerState → Frame → Result Segment ℕ → FrameEffect
effect_in k f (Ok segment) = effect_by k f segment
effect_in k f (Err reason) = no_effect k

unfoldable pub frame_effect : ServerState → Frame → FrameEffect
frame_effect k f = effect_in k f (frame_segment f)
