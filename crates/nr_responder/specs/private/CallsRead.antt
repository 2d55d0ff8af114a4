-- What a Send with a read list makes of a responder: the sinks of its call are registered, and its reads open or wait (RFC 8166 section
-- 3.4.5).
use Rattle.std.specs.Prelude.{◌≡◌, ℕ, List, [], ◌∷◌, ◌++◌, length, map, take, Option, Some, Result, Ok, Err, Bool, not, ◌==◌, replicate, if◌then◌else◌, None}
use Rattle.nr_reduce.specs.ServerMessages.{CallVerdict, by_payload}
use Rattle.nr_reduce.specs.ServerMessages.CallVerdict.{Refuses, IsReady}
use Rattle.std.specs.List.{AllByRecursion, filter, list_any}
use Rattle.nr_header.specs.declared.header.ReadSegment.{ReadSegment}
use Rattle.nr_regions.specs.RegisteredMemory.{RegisteredMemory, after_register}
use Rattle.nr_link.specs.Limits.{open_reads_max}
use Rattle.nr_header.specs.declared.header.ChunkLists.{ChunkLists}
use Rattle.nr_endpoint.specs.LinkState.{LinkState, LinkSide}
use Rattle.nr_reduce.specs.Chunks.{call_conveyed}
use Rattle.nr_reduce.specs.OfferedRegions.{Region}
use Rattle.nr_reduce.specs.ServerState.{PendingCall, PendingRead}
use Rattle.nr_reduce.specs.ServerReads.{chunks_of, regions_from, reads_from, read_of}
use Rattle.nr_reduce.specs.Chunks.{positions, total_at}
use Rattle.nr_responder.specs.declared.call.ReadEntry.{ReadEntry}
use Rattle.nr_responder.specs.Fetching.{open_sinks}
use Rattle.nr_responder.specs.ResponderState.{ResponderSide}
use Rattle.nr_responder.specs.Keeping.{later_responses}
use Rattle.nr_responder.specs.private.Reading.{opening, with_requests}
use Rattle.nr_responder.specs.Views.{read_view}

abbrev pub registered : List Region → RegisteredMemory → RegisteredMemory
registered [] m = m
registered (r ∷ regions) m = registered regions (after_register m r.right r.bytes)

-- the sinks of a read list, whatever the other lists
abbrev pub lists_of : List ReadSegment → ChunkLists
lists_of read = record { read = read; write = []; reply = None }

abbrev pub sinks_from : (number next : ℕ) → List ReadSegment → List ℕ → List Region
sinks_from number next read chunks = regions_from number 0 next (lists_of read) chunks

abbrev pub with_registered : List Region → LinkSide → LinkSide
with_registered regions l = record { awaited = l.awaited; rest = l.rest; state = record l.state { memory = registered regions l.state.memory } }

-- the sinks of a call, under the next STags, whatever offset its Send has in the stream
abbrev pub sinks_of : LinkState → PendingCall → List Region
sinks_of s c = regions_from c.number 0 s.memory.next c.lists (chunks_of c.lists)

-- the reads after those that are there
abbrev pub reads_with : ResponderSide → PendingCall → List PendingRead
reads_with v c = v.fetching.reads ++ reads_from (sinks_of v.link.state c) c.number [] c.lists.read

-- those of them that open
abbrev pub opened_with : ResponderSide → PendingCall → List PendingRead
opened_with v c = opening (length (take open_reads_max v.fetching.reads)) (reads_with v c)

abbrev pub reading_call : ResponderSide → PendingCall → ResponderSide
reading_call v c = record {
  link = record {
    awaited = v.link.awaited;
    rest = v.link.rest;
    state = record v.link.state {
      send_queue = with_requests (opened_with v c) v.link.state.send_queue;
      reads = v.link.state.reads ++ later_responses (opened_with v c);
      memory = registered (sinks_of v.link.state c) v.link.state.memory;
    };
  };
  calls = v.calls ++ c ∷ [];
  ready = v.ready;
  credits = v.credits;
  fetching = record {
    reads = reads_with v c;
    sinks = v.fetching.sinks ++ open_sinks (sinks_of v.link.state c);
    payloads = v.fetching.payloads;
  };
}

-- ---- A call whose read list has no bytes

abbrev pub HasNoBytes : List ReadSegment → Type 0
HasNoBytes read = AllByRecursion (λ r. r.length ≡ 0) read

-- its payload: each of its chunks is empty
abbrev pub payload_at_once : PendingCall → Option (List ℕ)
payload_at_once c = call_conveyed c.inline c.lists.read (λ position. [])

-- a call that is ready with this payload
abbrev pub ready_with_payload : PendingCall → List ℕ → CallVerdict
ready_with_payload c payload = IsReady (record { number = c.number; xid = c.xid; payload = payload })

-- such a call whose payload is the stream of its Send
pub record IsStreamAlone (c : PendingCall) : Type 0 where
  pub payload : List ℕ
  pub inline : c.inline ≡ Some payload
  pub judged : by_payload c (payload_at_once c) ≡ ready_with_payload c payload

-- the verdict on a call whose payload was judged so
abbrev pub verdict_of : PendingCall → Result (List ℕ) ℕ → CallVerdict
verdict_of c (Ok payload) = ready_with_payload c payload
verdict_of c (Err reason) = Refuses reason

-- the verdict on a call with this payload, if the link ends for a reason or not
abbrev pub verdict_by : PendingCall → List ℕ → Option ℕ → CallVerdict
verdict_by c payload None = ready_with_payload c payload
verdict_by c payload (Some reason) = Refuses reason

-- ---- A read list, entry by entry

abbrev pub has_bytes_at : List ReadSegment → ℕ → Bool
has_bytes_at read p = not (total_at p read == 0)

-- the positions of its chunks that have bytes, in the order of their first entries
abbrev pub chunk_positions : List ReadSegment → List ℕ
chunk_positions read = filter (has_bytes_at read) (positions read)

-- the position of an entry after others, if it is the first of a chunk that has bytes
abbrev pub chunk_here : (before : List ReadSegment) → ReadSegment → List ReadSegment → List ℕ
chunk_here before r read = if list_any (λ q. q.position == r.position) before then [] else (if total_at r.position read == 0 then [] else r.position ∷ [])

-- the read of an entry after others, if it has bytes
abbrev pub read_here : List Region → (number : ℕ) → (before : List ReadSegment) → ReadSegment → List PendingRead
read_here regions number before r = if r.length == 0 then [] else read_of regions number (total_at r.position before) r ∷ []

-- the read of an entry after others is put last, if the entry has bytes
abbrev pub AddsRead : List Region → (number : ℕ) → (before : List ReadSegment) → ReadSegment → (old new : List ReadEntry) → Type 0
AddsRead regions number before r old new = map read_view new ≡ map read_view old ++ read_here regions number before r

-- the bytes of the sink of a chunk, as it is registered
abbrev pub sink_buffer : List ReadSegment → ℕ → List ℕ
sink_buffer read p = replicate (total_at p read) 0
