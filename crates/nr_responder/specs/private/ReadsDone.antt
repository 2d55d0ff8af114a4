-- What a read that is done makes of a responder (RFC 8166 section 3.4.5): its call waits for more, is ready, is refused, or ends the link.
use Rattle.std.specs.Prelude.{◌≡◌, ◌≢◌, ℕ, ◌-◌, ◌==◌, ◌≤◌, ◌&&◌, Bool, not, true, false, List, [], ◌∷◌, ◌++◌, length, take, drop, find, Option, None, Some, slice_get, ◌⊎◌}
use Rattle.std.specs.List.{filter, list_any, remove}
use Rattle.nr_link.specs.Limits.{open_reads_max}
use Rattle.nr_endpoint.specs.SendQueue.{with_send}
use Rattle.nr_endpoint.specs.LinkState.{LinkState, LinkSide}
use Rattle.nr_endpoint.specs.Calls.{after_call}
use Rattle.nr_endpoint.specs.Calls.Call.{Stop, OutOfMemory}
use Rattle.nr_reduce.specs.Chunks.{is_read_chunk_of_item, call_conveyed}
use Rattle.nr_reduce.specs.Holds.{chunk_error}
use Rattle.nr_reduce.specs.ServerState.{PendingCall, PendingRead}
use Rattle.nr_reduce.specs.ServerReads.{is_read}
use Rattle.nr_reduce.specs.ServerFrames.{is_stream_read}
use Rattle.nr_reduce.specs.ServerMessages.{by_payload}
use Rattle.nr_reduce.specs.ServerMessages.CallVerdict.{Refuses, IsReady}
use Rattle.nr_responder.specs.Fetching.{SinkRegion, Fetching}
use Rattle.nr_responder.specs.ResponderState.{ResponderSide}
use Rattle.nr_responder.specs.Keeping.{later_responses}
use Rattle.nr_responder.specs.private.Reading.{sink_bytes, over_sinks, left_sinks, released, opening, with_requests}

-- the side of the link once sinks that are over were released, and reads opened
abbrev pub side_after_done : LinkState → List PendingRead → List SinkRegion → LinkState
side_after_done t reads over = record t { send_queue = with_requests reads t.send_queue; reads = t.reads ++ later_responses reads; memory = released over t.memory }

abbrev pub with_sent : LinkState → List ℕ → LinkState
with_sent t message = record t { send_queue = with_send message t.send_queue }

-- With these calls and reads, of which n are open, and with these calls more that are ready and their payloads; `state` is the side of
-- the link before sinks are released and reads open.
abbrev pub reading_on : ResponderSide → LinkState → List PendingCall → List PendingRead → (kept : ℕ) → List ℕ → List (Option (List ℕ)) → ResponderSide
reading_on v state calls reads kept xids payloads = record {
  link = record { awaited = v.link.awaited; rest = v.link.rest; state = side_after_done state (opening kept reads) (over_sinks calls reads v.fetching.sinks) };
  calls = calls;
  ready = v.ready ++ xids;
  credits = v.credits;
  fetching = record { reads = reads; sinks = left_sinks calls reads v.fetching.sinks; payloads = v.fetching.payloads ++ payloads };
}

-- a side that ended, whatever it still fetched
abbrev pub ended_as : ResponderSide → LinkSide → Fetching → ResponderSide
ended_as v link fetching = record { link = link; calls = v.calls; ready = v.ready; credits = v.credits; fetching = fetching }

-- how many of the reads that were open still are
abbrev pub still_open : PendingRead → List PendingRead → ℕ
still_open r rest = length (take open_reads_max (r ∷ rest)) - 1

-- what the sink of a call at a position holds, and its payload
abbrev pub sink_at : ResponderSide → PendingCall → ℕ → List ℕ
sink_at v c position = sink_bytes v.link.state.memory v.fetching.sinks c.number position

abbrev pub read_payload : ResponderSide → PendingCall → Option (List ℕ)
read_payload v c = call_conveyed c.inline c.lists.read (sink_at v c)

-- whether the stream of a call is there by this read, and its read chunk isn't the item's
abbrev pub has_bad_chunk : ResponderSide → PendingCall → PendingRead → List PendingRead → Bool
has_bad_chunk v c r rest = is_stream_read c r rest && not (is_read_chunk_of_item (sink_at v c 0) c.lists.read)

abbrev pub call_of_read : ResponderSide → PendingRead → Option PendingCall
call_of_read v r = find (λ c. c.number == r.number) v.calls

-- the call of the read isn't refused
pub record IsFine (v : ResponderSide) (r : PendingRead) (rest : List PendingRead) (c : PendingCall) : Type 0 where
  pub found : call_of_read v r ≡ Some c
  pub fine : has_bad_chunk v c r rest ≡ false

-- and nothing is left to be read for it
pub record IsComplete (v : ResponderSide) (r : PendingRead) (rest : List PendingRead) (c : PendingCall) : Type 0 where
  pub fine : IsFine v r rest c
  pub read : is_read rest c.number ≡ true

-- its call was answered or refused before, or waits for more
pub data NothingReady (v : ResponderSide) (r : PendingRead) (rest : List PendingRead) : Type 0 where
  Gone : call_of_read v r ≡ None → NothingReady v r rest
  Waits : (c : PendingCall) → IsFine v r rest c → is_read rest c.number ≡ false → NothingReady v r rest

-- the call whose payload is complete
pub record MakesReady (v : ResponderSide) (r : PendingRead) (rest : List PendingRead) : Type 0 where
  pub call : PendingCall
  pub complete : IsComplete v r rest call
  pub payload : List ℕ
  pub judged : by_payload call (read_payload v call) ≡ IsReady (record { number = call.number; xid = call.xid; payload = payload })

-- a call whose payload ends the link
pub record EndsLink (v : ResponderSide) (r : PendingRead) (rest : List PendingRead) (reason : ℕ) : Type 0 where
  pub call : PendingCall
  pub complete : IsComplete v r rest call
  pub judged : by_payload call (read_payload v call) ≡ Refuses reason

-- a call whose read chunk isn't its item's
pub record RefusesCall (v : ResponderSide) (r : PendingRead) (rest : List PendingRead) : Type 0 where
  pub call : PendingCall
  pub found : call_of_read v r ≡ Some call
  pub bad : has_bad_chunk v call r rest ≡ true

-- the calls without it, and the reads: its reads that wait are dropped
abbrev pub calls_without : ℕ → List PendingCall → List PendingCall
calls_without number calls = filter (λ other. not (other.number == number)) calls

abbrev pub reads_without : ℕ → (kept : ℕ) → List PendingRead → List PendingRead
reads_without number kept reads = take kept reads ++ filter (λ r. not (r.number == number)) (drop kept reads)

-- what was made of the oldest read, which is done
pub data ReadHandled (v : ResponderSide) (r : PendingRead) (rest : List PendingRead) (after : ResponderSide) : Type 0 where
  GoesOn : NothingReady v r rest → after ≡ reading_on v v.link.state v.calls rest (still_open r rest) [] [] → ReadHandled v r rest after
  Readies : (m : MakesReady v r rest) → after ≡ reading_on v v.link.state v.calls rest (still_open r rest) (m.call.xid ∷ []) (Some m.payload ∷ []) → ReadHandled v r rest after
  Stops : (reason : ℕ) → 5 ≤ reason → EndsLink v r rest reason → (fetching : Fetching) → fetching.sinks ≡ v.fetching.sinks → length fetching.reads ≤ length rest → after ≡ ended_as v (after_call v.link (Stop reason)) fetching → ReadHandled v r rest after
  Refused : (c : RefusesCall v r rest) →
      after ≡ reading_on v (with_sent v.link.state (chunk_error c.call.xid v.credits.word)) (calls_without c.call.number v.calls) (reads_without c.call.number (still_open r rest) rest) (still_open r rest) [] [] →
      ReadHandled v r rest after

-- the server has output of its own for the read: Read Requests, a Terminate, or an error message
pub data ReadTakes (v : ResponderSide) (r : PendingRead) (rest : List PendingRead) : Type 0 where
  Requests : NothingReady v r rest ⊎ MakesReady v r rest → opening (still_open r rest) rest ≢ [] → ReadTakes v r rest
  Terminates : (reason : ℕ) → 5 ≤ reason → EndsLink v r rest reason → ReadTakes v r rest
  Answers : RefusesCall v r rest → ReadTakes v r rest

-- or memory ran out
pub record ReadRanOut (v : ResponderSide) (r : PendingRead) (rest : List PendingRead) (after : ResponderSide) : Type 0 where
  pub takes : ReadTakes v r rest
  pub fetching : Fetching
  pub sinks : fetching.sinks ≡ v.fetching.sinks
  pub fewer : length fetching.reads ≤ length rest
  pub is_out : after ≡ ended_as v (after_call v.link OutOfMemory) fetching

-- no server of a run has these calls: each call that is ready is pending, and no other call has its number
pub data Impossible (v : ResponderSide) (r : PendingRead) : Type 0 where
  Crowded : list_any (λ c. c.number == r.number) v.calls ≡ true → length v.calls ≤ length v.ready → Impossible v r
  Shared : (at : ℕ) (c : PendingCall) → slice_get v.calls at ≡ Some c → c.number ≡ r.number → list_any (λ c. c.number == r.number) (remove v.calls at) ≡ true → Impossible v r

abbrev pub HandlesRead : ResponderSide → PendingRead → List PendingRead → ResponderSide → Type 0
HandlesRead v r rest after = Impossible v r ⊎ (ReadHandled v r rest after ⊎ ReadRanOut v r rest after)
