-- What the code makes of the reads of a call that begin.
use Rattle.std.specs.Prelude.{◌≡◌, ◌≢◌, ℕ, ◌+◌, ◌<◌, ◌≤◌, ◌==◌, true, List, [], ◌∷◌, ◌++◌, length, map, min, find, None, Some}
use Rattle.std.specs.List.{list_all}
use Rattle.std.specs.FinMap.{get}
use Rattle.nr_regions.specs.RegisteredMemory.{Outside, outside_len}
use Rattle.nr_header.specs.declared.header.ReadSegment.{ReadSegment}
use Rattle.nr_link.specs.Limits.{open_reads_max}
use Rattle.nr_endpoint.specs.LinkState.{LinkSide}
use Rattle.nr_endpoint.specs.EndpointState.{EndpointState}
use Rattle.nr_endpoint.specs.Receives.{IsReceive}
use Rattle.nr_reduce.specs.declared.item.Item.{Item}
use Rattle.nr_reduce.specs.Chunks.{item_position}
use Rattle.nr_reduce.specs.ServerState.{PendingRead}
use Rattle.nr_reduce.specs.ServerReads.{reads_from}
use Rattle.nr_responder.specs.declared.call.Pending.{Pending}
use Rattle.nr_responder.specs.declared.call.ReadEntry.{ReadEntry}
use Rattle.nr_responder.specs.declared.call.OpenSink.{OpenSink}
use Rattle.nr_responder.specs.Fetching.{open_sinks, is_sink}
use Rattle.nr_responder.specs.private.CallsRead.{sinks_from, with_registered}
use Rattle.nr_responder.specs.private.Reading.{opening, with_opened}
use Rattle.nr_responder.specs.declared.server_end.ServerEnd.{ServerEnd}
use Rattle.nr_responder.specs.Sound.{HasOutside, InBuffer, ServerEndInvariantWith, WindowsAreRead}
use Rattle.nr_responder.specs.Views.{call_view, read_view, sink_view}

-- some reads, and those of a read list whose first sink has the STag `next`
abbrev pub reads_more : List ReadEntry → (number next : ℕ) → List ReadSegment → List ℕ → List PendingRead
reads_more old number next read chunks = map read_view old ++ reads_from (sinks_from number next read chunks) number [] read

-- the reads are there, and those are opened that may open
pub record OpensReads (number next : ℕ) (read : List ReadSegment) (chunks : List ℕ) (old new : List ReadEntry) (before after : LinkSide) : Type 0 where
  pub reads : map read_view new ≡ reads_more old number next read chunks
  pub link : after ≡ with_opened (opening (min (length old) open_reads_max) (map read_view new)) before

-- and the sinks are registered
pub record BeginsReads (number : ℕ) (read : List ReadSegment) (chunks : List ℕ) (old new : List ReadEntry) (sinks later : List OpenSink) (before after : LinkSide) : Type 0 where
  pub reads : map read_view new ≡ reads_more old number before.state.memory.next read chunks
  pub sinks_are : map sink_view later ≡ map sink_view sinks ++ open_sinks (sinks_from number before.state.memory.next read chunks)
  pub link : after ≡ with_registered (sinks_from number before.state.memory.next read chunks) (with_opened (opening (min (length old) open_reads_max) (map read_view new)) before)

-- a call with the room of its payload
abbrev pub with_room : Pending → ℕ → Pending
with_room c room = record c { room = Some room }

-- A call that came in a receive that the end, which hasn't ended, still holds beside those of its calls and of its queue. It has no room and no bytes
-- around a sink so far, and this is its read list.
pub record IsNewCall (r : ServerEnd) (c : Pending) (read : List ReadSegment) : Type 0 where
  pub sound : ServerEndInvariantWith 1 r
  pub windows : WindowsAreRead r.calls.items r.reads.items
  pub live : r.endpoint.link.state.ended ≡ None
  pub buffer : InBuffer c
  pub receive : IsReceive r.endpoint.link.state.receive_queue.receive_length c.buf
  pub empty : (c.around ≡ 0) × (c.room ≡ None)
  pub list : read ≡ (call_view c).lists.read

-- ---- A call whose payload is completed in the buffer of its sink

abbrev pub with_around : Pending → ℕ → Pending
with_around c around = record c { around = around }

-- Its stream stands in its message, all entries of its read list have the position of the stream's item, at which its region begins, and it
-- has no sink so far.
pub record FitsWindow (sinks : List OpenSink) (read : List ReadSegment) (chunks : List ℕ) (call : Pending) (start : ℕ) : Type 0 where
  pub inline : call.inline ≡ true
  pub item : Item
  pub item_is : call.item ≡ Some (Some item)
  pub start_is : item.pos ≡ start
  pub chunks_are : chunks ≡ start ∷ []
  pub position : item_position read ≡ Some start
  pub each : list_all (λ r. r.position == start) read ≡ true
  pub some : start ≢ 0
  pub within : call.stream_at + start ≤ call.len
  pub none : find (is_sink call.number start) (map sink_view sinks) ≡ None

-- a region more is registered, with bytes of its buffer outside of it
pub record BeginsOutside (before after : EndpointState) (start around : ℕ) : Type 0 where
  pub more : (n : ℕ) → HasOutside before n → HasOutside after (n + around)
  pub kept : (stag : ℕ) → stag < before.link.state.memory.next → get after.outside stag ≡ get before.outside stag
  pub outside : Outside
  pub there : get after.outside before.link.state.memory.next ≡ Some outside
  pub front : length outside.front ≡ start
  pub size : outside_len outside ≡ around
