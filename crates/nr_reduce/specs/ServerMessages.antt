-- What a server makes of a message of its client (RFC 8166 sections 4.2 to 4.5), and of a call whose chunks are read.
use Rattle.std.specs.Prelude.{ℕ, ◌+◌, Bool, not, ◌||◌, ◌==◌, nat_lt, if◌then◌else◌, List, [], length, drop, Option, None, Some, Result, Ok, Err}
use Rattle.std.specs.List.{list_any}
use Rattle.nr_header.specs.Constants.{VERSION, DONE, ERROR}
use Rattle.nr_header.specs.declared.fault.HeaderFault.{HeaderFault}
use Rattle.nr_header.specs.declared.header.ReadSegment.{ReadSegment}
use Rattle.nr_header.specs.declared.header.ChunkLists.{ChunkLists}
use Rattle.nr_header.specs.declared.header.Body.{Body}
use Rattle.nr_header.specs.declared.header.Body.TheVariants.{Msg, Nomsg, ErrVers, ErrChunk}
use Rattle.nr_header.specs.declared.header.Header.{Header}
use Rattle.nr_header.specs.Reading.{header_of}
use Rattle.nr_rpc.specs.declared.head.CallHead.{CallHead}
use Rattle.nr_rpc.specs.Reading.{call_of, head_xid}
use Rattle.nr_reduce.specs.Limits.{numbers_end}
use Rattle.nr_link.specs.Reasons.{REASON_KIND, REASON_HEAD, REASON_XID, REASON_CALL, REASON_STAGS}
use Rattle.nr_reduce.specs.Chunks.{total_at, is_read_chunk_of_item, call_conveyed}
use Rattle.nr_reduce.specs.ServerState.{PendingCall, ReadyCall, ServerState, next_stag, is_pending, memory_at}
use Rattle.nr_reduce.specs.ServerReads.{chunks_of, sink_of}
use Rattle.nr_xdr.specs.Fields.{word_at}

-- the bytes of a call's read chunk; one without bytes has no region
abbrev pub chunk_bytes : ServerState → ℕ → PendingCall → ℕ → List ℕ
chunk_bytes k place c position = memory_at k place (sink_of k.regions c.number position)

unfoldable pub pending_payload : ServerState → ℕ → PendingCall → Option (List ℕ)
pending_payload k place c = call_conveyed c.inline c.lists.read (chunk_bytes k place c)

-- What the server makes of a call once its chunks are read: a reason to end, or it is ready to be executed. Its payload has to be
-- an RPC call (RFC 5531 section 9) with the xid of the header.
pub data CallVerdict : Type 0 where
  Refuses : (reason : ℕ) → CallVerdict
  IsReady : (ready : ReadyCall) → CallVerdict

abbrev pub by_head : PendingCall → List ℕ → Result CallHead ℕ → CallVerdict
by_head c payload (Ok head) =
    if head_xid head == c.xid then IsReady (record { number = c.number; xid = c.xid; payload = payload }) else Refuses REASON_XID
by_head c payload (Err at) = Refuses REASON_HEAD

abbrev pub by_payload : PendingCall → Option (List ℕ) → CallVerdict
by_payload c None = Refuses REASON_HEAD
by_payload c (Some payload) = by_head c payload (call_of payload)

-- What the server makes of a message: a reason to end; ERR_VERS; ERR_CHUNK; or a pending call.
pub data Verdict : Type 0 where
  EndsLink : (reason : ℕ) → Verdict
  OtherVersion : Verdict
  BadChunks : Verdict
  MakesPending : (call : PendingCall) → Verdict

abbrev pub by_need : ServerState → PendingCall → Verdict
by_need k c = if nat_lt numbers_end (next_stag k + length (chunks_of c.lists)) then EndsLink REASON_STAGS else MakesPending c

-- A call whose stream is in the message, or has to be read. Its read chunk has to be the item's, which is judged once the stream is
-- there.
abbrev pub by_stream : ServerState → ChunkLists → ℕ → Option (List ℕ) → Verdict
by_stream k lists xid None = by_need k (record { number = k.received.sends + 1; xid = xid; lists = lists; inline = None })
by_stream k lists xid (Some stream) =
    if is_read_chunk_of_item stream lists.read then by_need k (record { number = k.received.sends + 1; xid = xid; lists = lists; inline = Some stream }) else BadChunks

-- RDMA_NOMSG has its stream in the read chunk at position 0, which may have no bytes (RFC 8166 section 3.5.3)
abbrev pub has_position : List ReadSegment → Bool
has_position read = list_any (λ r. r.position == 0) read

abbrev pub no_stream : List ReadSegment → Option (List ℕ)
no_stream read = if total_at 0 read == 0 then Some [] else None

abbrev pub by_body : ServerState → ℕ → List ℕ → Body → Verdict
by_body k xid message (Msg lists stream_at) = by_stream k lists xid (Some (drop stream_at message))
by_body k xid message (Nomsg lists) = if has_position lists.read then by_stream k lists xid (no_stream lists.read) else BadChunks
by_body k xid message (ErrVers version low high) = BadChunks
by_body k xid message (ErrChunk version) = BadChunks

abbrev pub by_header : ServerState → List ℕ → Result Header HeaderFault → Verdict
by_header k message (Ok header) = by_body k header.xid message header.body
by_header k message (Err fault) = BadChunks

-- The verdict on a message, in this order: another version, a kind that a client doesn't send, an xid that is pending, the header
-- and its lists, the read chunk, the STags that its reads need.
unfoldable pub verdict : ServerState → List ℕ → Verdict
verdict k message =
    if not (word_at 4 message == VERSION) then OtherVersion
    else (if word_at 12 message == DONE || word_at 12 message == ERROR then EndsLink REASON_KIND
    else (if is_pending k (word_at 0 message) then EndsLink REASON_CALL
    else by_header k message (header_of message)))
