-- What the code keeps, as the definitions of a run see it.
use Rattle.std.specs.Prelude.{◌≡◌, ◌≢◌, ℕ, ◌+◌, ◌≤◌, ◌&&◌, Bool, true, false, List, [], length, take, drop, Option, None, Some, IfSome, IsOk, ◌⊎◌}
use Rattle.nr_header.specs.declared.header.ChunkLists.{ChunkLists}
use Rattle.nr_header.specs.declared.header.Body.{Body}
use Rattle.nr_header.specs.declared.header.Body.TheVariants.{Msg, Nomsg}
use Rattle.nr_header.specs.Reading.{header_of}
use Rattle.nr_header.specs.ReadInto.{lists_in}
use Rattle.nr_header.specs.Constants.{PAYLOAD_MAX}
use Rattle.nr_header.specs.WithinLimits.{ListsWithin, read_total}
use Rattle.nr_link.specs.Reasons.{REASON_KIND, REASON_CALL}
use Rattle.nr_xdr.specs.Fields.{word_at}
use Rattle.nr_reduce.specs.ServerState.{PendingCall, ServerState, is_pending}
use Rattle.nr_header.specs.declared.header.ReadSegment.{ReadSegment}
use Rattle.nr_reduce.specs.Chunks.{is_read_chunk_of_item}
use Rattle.nr_reduce.specs.ServerMessages.{verdict, by_body, by_need, has_position, no_stream}
use Rattle.nr_reduce.specs.ServerMessages.Verdict.{EndsLink, OtherVersion, BadChunks, MakesPending}
use Rattle.nr_reduce.specs.ServerState.{PendingRead}
use Rattle.nr_responder.specs.declared.call.Pending.{Pending}
use Rattle.nr_responder.specs.declared.call.ReadEntry.{ReadEntry}
use Rattle.nr_responder.specs.declared.call.OpenSink.{OpenSink}
use Rattle.nr_responder.specs.Fetching.{SinkRegion}
use Rattle.nr_rpc.specs.Reading.{call_of, target_of}
use Rattle.nr_reduce.specs.Items.{call_item}
use Rattle.nr_responder.specs.declared.heads.StreamHead.{StreamHead}
use Rattle.nr_responder.specs.declared.judging.Judged.{Judged}
use Rattle.nr_responder.specs.declared.judging.Judged.TheVariants as judged

-- a stream, if it is in its message
abbrev pub inline_of : Bool → List ℕ → Option (List ℕ)
inline_of true stream = Some stream
inline_of false stream = None

abbrev pub call_view : Pending → PendingCall
call_view c = record { number = c.number; xid = c.xid; lists = lists_in (take c.len c.buf); inline = inline_of c.inline (drop c.stream_at (take c.len c.buf)) }

abbrev pub read_view : ReadEntry → PendingRead
read_view r = record { number = r.number; position = r.position; sink = r.sink; at = r.at; size = r.size; stag = r.stag; to = r.to }

abbrev pub sink_view : OpenSink → SinkRegion
sink_view s = record { number = s.number; position = s.position; stag = s.registration.stag; len = s.registration.len }

-- a call without a read list is pending with its stream
pub record IsCall (k : ServerState) (message : List ℕ) (lists : ChunkLists) (stream_at : ℕ) : Type 0 where
  pub no_reads : lists.read ≡ []
  pub own : is_pending k (word_at 0 message) ≡ false
  pub pending : verdict k message ≡ MakesPending (record { number = k.received.sends + 1; xid = word_at 0 message; lists = lists; inline = Some (drop stream_at message) })

abbrev pub call_with : (number xid : ℕ) → ChunkLists → Option (List ℕ) → PendingCall
call_with number xid lists inline = record { number = number; xid = xid; lists = lists; inline = inline }

-- a call with a read list: it is pending with its stream, if that is in its message, or its sinks need more STags than are left
pub record IsOfReads (k : ServerState) (message : List ℕ) (lists : ChunkLists) (stream_at : ℕ) (inline : Bool) : Type 0 where
  pub some : lists.read ≢ []
  pub own : is_pending k (word_at 0 message) ≡ false
  pub needs : verdict k message ≡ by_need k (call_with (k.received.sends + 1) (word_at 0 message) lists (inline_of inline (drop stream_at message)))

abbrev pub Judges : ServerState → List ℕ → Judged → Type 0
Judges k message judged.Kind = verdict k message ≡ EndsLink REASON_KIND
Judges k message judged.Open = verdict k message ≡ EndsLink REASON_CALL
Judges k message judged.OtherVersion = verdict k message ≡ OtherVersion
Judges k message judged.BadChunks = verdict k message ≡ BadChunks
Judges k message (judged.Call stream_at) = IsCall k message (lists_in message) stream_at
Judges k message (judged.Reads stream_at inline head) = IsOfReads k message (lists_in message) stream_at inline

-- a message that can be read, with lists that are within the limits
pub record HasLists (message : List ℕ) : Type 0 where
  pub read : IsOk (header_of message)
  pub within : ListsWithin (lists_in message)

-- the lists of a message that makes a call
abbrev pub PutsLists : List ℕ → ChunkLists → Judged → Type 0
PutsLists message lists judged.Kind = Unit {0}
PutsLists message lists judged.Open = Unit {0}
PutsLists message lists judged.OtherVersion = Unit {0}
PutsLists message lists judged.BadChunks = Unit {0}
PutsLists message lists (judged.Call stream_at) = lists ≡ lists_in message
PutsLists message lists (judged.Reads stream_at inline head) = lists ≡ lists_in message

-- the head of a stream, and its item
abbrev pub IsHeadOf : StreamHead → List ℕ → Type 0
IsHeadOf head stream = (head.target ≡ target_of (call_of stream)) × (head.item ≡ call_item stream)

-- the head of a call's stream, if that stands in its message and was read
abbrev pub HasHead : List ℕ → Judged → Type 0
HasHead message judged.Kind = Unit {0}
HasHead message judged.Open = Unit {0}
HasHead message judged.OtherVersion = Unit {0}
HasHead message judged.BadChunks = Unit {0}
HasHead message (judged.Call stream_at) = Unit {0}
HasHead message (judged.Reads stream_at inline head) = IfSome head (λ h. (inline ≡ true) × IsHeadOf h (drop stream_at message))

-- the lists and the stream of a call lie within its message
abbrev pub HasStream : List ℕ → Judged → Type 0
HasStream message judged.Kind = Unit {0}
HasStream message judged.Open = Unit {0}
HasStream message judged.OtherVersion = Unit {0}
HasStream message judged.BadChunks = Unit {0}
HasStream message (judged.Call stream_at) = (stream_at ≤ length message) × HasLists message
HasStream message (judged.Reads stream_at inline head) = (stream_at ≤ length message) × (HasLists message × (read_total (lists_in message).read ≤ PAYLOAD_MAX))

-- whether the read chunk of a list is that of the item of a stream, if that is known; and whether a list can bring a stream
abbrev pub fits_stream : Option (List ℕ) → List ReadSegment → Bool
fits_stream None read = true
fits_stream (Some stream) read = is_read_chunk_of_item stream read

abbrev pub brings_stream : List ReadSegment → Bool
brings_stream read = has_position read && fits_stream (no_stream read) read

abbrev pub reads_if : Bool → ℕ → Bool → Option StreamHead → Judged
reads_if true stream_at inline head = judged.Reads stream_at inline head
reads_if false stream_at inline head = judged.BadChunks

-- what is made of the body of a message whose xid isn't pending, with these lists
abbrev pub JudgesBody : List ℕ → Body → ChunkLists → Judged → Type 0
JudgesBody message body lists judged.Kind = ⊥
JudgesBody message body lists judged.Open = ⊥
JudgesBody message body lists judged.OtherVersion = ⊥
JudgesBody message body lists judged.BadChunks = (k : ServerState) (xid : ℕ) → by_body k xid message body ≡ BadChunks
JudgesBody message body lists (judged.Call stream_at) = (body ≡ Msg lists stream_at) × (lists.read ≡ [])
JudgesBody message body lists (judged.Reads stream_at inline head) =
    (lists.read ≢ []) × (((k : ServerState) (xid : ℕ) → by_body k xid message body ≡ by_need k (call_with (k.received.sends + 1) xid lists (inline_of inline (drop stream_at message))))
    × ((body ≡ Msg lists stream_at) ⊎ ((body ≡ Nomsg lists) × (stream_at ≡ length message))))
