-- What a responder keeps of its own, whatever the marks.
use Rattle.std.specs.Prelude.{◌≡◌, ◌≢◌, ◌⊎◌, ℕ, ◌+◌, ◌*◌, ◌<◌, ◌≤◌, true, false, is_some, List, [], length, map, sum_by, find, Option, None, Some, IfSome, All, slice_get, take, drop, vec_capacity}
use Rattle.std.specs.VecDeque.{deque_capacity}
use Rattle.std.specs.List.{AllByRecursion}
use Rattle.std.specs.Ordering.{nat_cmp}
use Rattle.std.specs.FinMap.{FinMap, get}
use Rattle.nr_regions.specs.RegisteredMemory.{AreHeldFrom, Claim, Outside, held_region, outside_held, outside_len}
use Rattle.nr_regions.specs.Table.{IsTotal}
use Rattle.nr_rpc.specs.Reading.{call_of, target_of}
use Rattle.nr_reduce.specs.declared.item.Item.{Item}
use Rattle.nr_reduce.specs.Items.{call_item}
use Rattle.nr_reduce.specs.Chunks.{call_stream, item_position}
use Rattle.nr_header.specs.Constants.{PAYLOAD_MAX}
use Rattle.nr_reduce.specs.ServerReads.{is_read}
use Rattle.nr_reduce.specs.ServerState.{PendingCall}
use Rattle.nr_endpoint.specs.EndpointState.{EndpointState}
use Rattle.nr_responder.specs.declared.call.Ready.{Ready}
use Rattle.nr_responder.specs.declared.call.ReadEntry.{ReadEntry}
use Rattle.nr_responder.specs.declared.call.OpenSink.{OpenSink}
use Rattle.nr_endpoint.specs.Receives.{IsReceive}
use Rattle.nr_endpoint.specs.LinkState.{LinkState, LinkSide}
use Rattle.nr_wire.specs.Constants.{UNITS_MAX}
use Rattle.nr_link.specs.Agreement.{IsSendLimit}
use Rattle.nr_link.specs.Limits.{send_unit}
use Rattle.nr_responder.specs.declared.call.Pending.{Pending}
use Rattle.nr_responder.specs.declared.server_end.ServerEnd.{ServerEnd}
use Rattle.nr_responder.specs.Fetching.{Fetching, SinkRegion, is_sink}
use Rattle.nr_responder.specs.ResponderState.{ResponderSide, ResponderState, unsent}
use Rattle.nr_responder.specs.HeldBytes.{share, sinks_share}
use Rattle.nr_responder.specs.Rooms.{payload_room}
use Rattle.nr_responder.specs.Views.{call_view, read_view, sink_view, HasLists}

-- the xids of calls that are ready, and the payloads that were read
abbrev pub xids_of : List Ready → List ℕ
xids_of ready = map (λ q. q.xid) ready

abbrev pub payloads_of : List Ready → List (Option (List ℕ))
payloads_of ready = map (λ q. q.payload) ready

abbrev pub fetching_of : List ReadEntry → List OpenSink → List Ready → Fetching
fetching_of reads sinks ready = record { reads = map read_view reads; sinks = map sink_view sinks; payloads = payloads_of ready }

abbrev pub state_of : ServerEnd → ResponderSide
state_of r = record {
  link = r.endpoint.link;
  calls = map call_view r.calls.items;
  ready = xids_of r.ready.items;
  credits = r.credits;
  fetching = fetching_of r.reads.items r.sinks.items r.ready.items;
}

-- the bytes of the buffers of payloads: of calls that are read, and of those that are ready; and the bytes of buffers outside their regions
abbrev pub room_len : Option ℕ → ℕ
room_len None = 0
room_len (Some room) = room

abbrev pub payload_len : Option (List ℕ) → ℕ
payload_len None = 0
payload_len (Some payload) = length payload

abbrev pub rooms_of : List Pending → List Ready → FinMap nat_cmp Outside → ℕ
rooms_of calls ready outside = sum_by (λ c. room_len c.room) calls + sum_by (λ q. payload_len q.payload) ready + outside_held outside

abbrev pub with_staging : ServerEnd → ResponderState
with_staging r = record { side = state_of r; staging = r.endpoint.staging; rooms = rooms_of r.calls.items r.ready.items r.endpoint.outside }

-- A pending call's message lies in its receive buffer, it has lists that are within the limits, and what its head asks for and its item are those of its
-- stream.
pub record InBuffer (c : Pending) : Type 0 where
  pub buf : length c.buf ≤ send_unit * UNITS_MAX
  pub len : c.len ≤ length c.buf
  pub at : c.stream_at ≤ c.len
  pub lists : HasLists (take c.len c.buf)
  pub target : IfSome c.target (λ t. t ≡ target_of (call_of (drop c.stream_at (take c.len c.buf))))
  pub item : IfSome c.item (λ i. (c.inline ≡ true) × (i ≡ call_item (drop c.stream_at (take c.len c.buf))))

-- the same of a call whose receive has n bytes
abbrev pub InReceive : ℕ → Pending → Type 0
InReceive n c = IsReceive n c.buf × InBuffer c

-- a link that has queued something, or ended
pub record SameInput (l m : LinkSide) : Type 0 where
  pub queue : m.state.receive_queue ≡ l.state.receive_queue
  pub place : m.state.place ≡ l.state.place
  pub awaited : m.awaited ≡ l.awaited
  pub rest : (m.rest ≡ l.rest) ⊎ (m.rest ≡ [])
  pub last : m.state.last ≡ l.state.last
  pub client : m.state.client ≡ l.state.client

-- A receive is lent for each call that is pending, for each Send that hasn't left, and for n more; there is room for a call and for
-- a buffer of each receive; and each receive has the same number of bytes, those of one unit to UNITS_MAX of them.
pub record QueuesInvariant (n : ℕ) (s : LinkState) (calls : List Pending) (ready : List Ready) (used : List (List ℕ)) (calls_room ready_room used_room : ℕ) : Type 0 where
  pub unsent_is : length used ≡ unsent s
  pub lent : length used + length calls + n ≤ s.receive_queue.lent
  pub few : length ready ≤ length calls
  pub limit : IsSendLimit s.receive_queue.receive_length
  pub bufs : All (InReceive s.receive_queue.receive_length) calls
  pub used_bufs : All (IsReceive s.receive_queue.receive_length) used
  pub calls_fit : s.receive_queue.receives ≤ calls_room
  pub ready_fit : s.receive_queue.receives ≤ ready_room
  pub used_fit : s.receive_queue.receives ≤ used_room

-- the room for the payload of a call: for its stream, if that stands in its message, for this many bytes that are read, and for a pad
abbrev pub room_for : PendingCall → (read : ℕ) → ℕ
room_for c read = length (call_stream c.inline (λ position. [])) + read + 3

-- a call has the room for what its sinks bring
abbrev pub IsRoom : List SinkRegion → PendingCall → Option ℕ → Type 0
IsRoom sinks c None = ⊥
IsRoom sinks c (Some room) = room_for c (sinks_share c.number sinks) ≤ room

-- The payload of a call is completed in the buffer of its sink. Its stream stands in its message; the region begins at the position of the
-- stream's item; and the bytes outside are as many as the stream's and a pad's.
pub record HasWindow (around : FinMap nat_cmp Outside) (sinks : List OpenSink) (c : Pending) : Type 0 where
  pub inline : c.inline ≡ true
  pub item : Item
  pub item_is : c.item ≡ Some (Some item)
  pub position : item_position (call_view c).lists.read ≡ Some item.pos
  pub within : c.stream_at + item.pos ≤ c.len
  pub sink : SinkRegion
  pub found : find (is_sink c.number item.pos) (map sink_view sinks) ≡ Some sink
  pub outside : Outside
  pub there : get around sink.stag ≡ Some outside
  pub front : length outside.front ≡ item.pos
  pub size : outside_len outside ≡ c.around
  pub around_is : c.stream_at + c.around ≡ c.len + 3

-- a call has the room of its payload, of its own or in the buffer of its sink
pub record HasSpace (around : FinMap nat_cmp Outside) (sinks : List OpenSink) (c : Pending) : Type 0 where
  pub room : c.around ≡ 0 → IsRoom (map sink_view sinks) (call_view c) c.room
  pub window : c.around ≢ 0 → HasWindow around sinks c

-- A call of which something is left to be read has that room; and no read at position 0, if it is in the buffer of its sink.
pub record HasRoom (around : FinMap nat_cmp Outside) (sinks : List OpenSink) (reads : List ReadEntry) (c : Pending) : Type 0 where
  pub space : is_read (map read_view reads) c.number ≡ false → HasSpace around sinks c
  pub apart : c.around ≢ 0 → AllByRecursion (λ r. r.number ≡ c.number → r.position ≢ 0) (map read_view reads)
  pub few : room_len c.room + c.around ≤ payload_room

abbrev pub claims_of : List OpenSink → List Claim
claims_of sinks = map (λ s. s.registration) sinks

-- the bytes of buffers outside their regions are at most n
pub record HasOutside (e : EndpointState) (n : ℕ) : Type 0 where
  pub total : ℕ
  pub sum : IsTotal outside_len e.link.state.memory.next total e.outside
  pub most : total ≤ n

-- the bytes outside of each region that is still held are as they were
abbrev pub KeepsOutside : (before after : EndpointState) → Type 0
KeepsOutside before after = (stag : ℕ) → is_some (held_region after.link.state.memory stag) ≡ true →
    (is_some (held_region before.link.state.memory stag) ≡ true) × (get after.outside stag ≡ get before.outside stag)

-- how many bytes the buffers of sinks have for the payloads of calls
abbrev pub around_of : List Pending → ℕ
around_of calls = sum_by (λ c. c.around) calls

-- The sinks that are open are held, and none is longer than a payload; each call that is read has the room of its payload; and no other bytes
-- are outside of regions.
pub record AreFetched (e : EndpointState) (calls : List Pending) (reads : List ReadEntry) (sinks : List OpenSink) : Type 0 where
  pub held : AreHeldFrom e.link.state.memory 0 (claims_of sinks)
  pub short : All (λ s. s.registration.len ≤ PAYLOAD_MAX) sinks
  pub rooms : All (HasRoom e.outside sinks reads) calls
  pub outside : HasOutside e (around_of calls)

abbrev pub ServerEndInvariantWith : ℕ → ServerEnd → Type 0
ServerEndInvariantWith n r =
    QueuesInvariant n r.endpoint.link.state r.calls.items r.ready.items r.used.items (vec_capacity r.calls) (deque_capacity r.ready) (deque_capacity r.used)
    × AreFetched r.endpoint r.calls.items r.reads.items r.sinks.items

abbrev pub ServerEndInvariant : ServerEnd → Type 0
ServerEndInvariant r = ServerEndInvariantWith 0 r

-- ---- A call of which nothing is left to be read has no bytes outside of a region

-- how many bytes the buffers of sinks have for the payloads of calls whose Send has a number, and how many these calls are
abbrev pub around_share : ℕ → List Pending → ℕ
around_share n calls = share (λ c. c.number) (λ c. c.around) n calls

abbrev pub calls_share : ℕ → List Pending → ℕ
calls_share n calls = share (λ c. c.number) (λ c. 1) n calls

-- If nothing is left to be read for the calls of a number, they have no bytes outside of a region; nor if two calls have that number.
pub record WindowsAreRead (calls : List Pending) (reads : List ReadEntry) : Type 0 where
  pub read : (n : ℕ) → is_read (map read_view reads) n ≡ true → around_share n calls ≡ 0
  pub own : (n : ℕ) → 1 < calls_share n calls → around_share n calls ≡ 0

-- the same, but for the number of the call whose read is done
pub record OthersAreRead (done : ℕ) (calls : List Pending) (reads : List ReadEntry) : Type 0 where
  pub read : (n : ℕ) → n ≢ done → is_read (map read_view reads) n ≡ true → around_share n calls ≡ 0
  pub own : (n : ℕ) → 1 < calls_share n calls → around_share n calls ≡ 0

-- while the side lives: a read that is done may end it before its call is ready
abbrev pub WindowsInvariant : ServerEnd → Type 0
WindowsInvariant r = r.endpoint.link.state.ended ≡ None → WindowsAreRead r.calls.items r.reads.items

-- the call is the first that waits to be executed
abbrev pub IsNext : ResponderSide → ℕ → Type 0
IsNext v xid = slice_get v.ready 0 ≡ Some xid
