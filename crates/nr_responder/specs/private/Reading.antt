-- Reads of a responder and the sink regions that they fill (RFC 8166 section 3.4.5).
use Rattle.std.specs.Prelude.{ℕ, ◌==◌, Bool, not, if◌then◌else◌, List, [], ◌∷◌, ◌++◌, take, drop, find, Option, None, Some}
use Rattle.std.specs.List.{filter, list_any}
use Rattle.nr_regions.specs.RegisteredMemory.{RegisteredMemory, bytes_in, held_region, after_release}
use Rattle.nr_link.specs.Limits.{open_reads_max}
use Rattle.nr_endpoint.specs.SendQueue.{SendQueue, with_request, with_send}
use Rattle.nr_endpoint.specs.declared.requests.RemoteRead.{RemoteRead}
use Rattle.nr_endpoint.specs.LinkState.{LinkSide}
use Rattle.nr_responder.specs.Keeping.{later_responses}
use Rattle.nr_reduce.specs.ServerState.{PendingCall, PendingRead}
use Rattle.nr_responder.specs.Fetching.{SinkRegion, is_sink}
use Rattle.nr_reduce.specs.ServerReads.{is_read, is_read_at}

-- the bytes of the sink of a call at a position, or none
abbrev pub bytes_of_sink : RegisteredMemory → Option SinkRegion → List ℕ
bytes_of_sink m None = []
bytes_of_sink m (Some s) = bytes_in (held_region m s.stag)

abbrev pub sink_bytes : RegisteredMemory → List SinkRegion → (number position : ℕ) → List ℕ
sink_bytes m sinks number position = bytes_of_sink m (find (is_sink number position) sinks)

-- The sink of a pending call is over once nothing of the call is left to be read; another, once nothing is left for its position.
abbrev pub is_sink_over : List PendingCall → List PendingRead → SinkRegion → Bool
is_sink_over calls reads s = if list_any (λ c. c.number == s.number) calls then is_read reads s.number else is_read_at reads s.number s.position

abbrev pub over_sinks : List PendingCall → List PendingRead → List SinkRegion → List SinkRegion
over_sinks calls reads sinks = filter (is_sink_over calls reads) sinks

abbrev pub left_sinks : List PendingCall → List PendingRead → List SinkRegion → List SinkRegion
left_sinks calls reads sinks = filter (λ s. not (is_sink_over calls reads s)) sinks

abbrev pub released : List SinkRegion → RegisteredMemory → RegisteredMemory
released [] m = m
released (s ∷ sinks) m = released sinks (after_release m s.stag)

-- the reads that open if this many are open, and the Read Requests for them
abbrev pub opening : ℕ → List PendingRead → List PendingRead
opening kept reads = drop kept (take open_reads_max reads)

abbrev pub with_requests : List PendingRead → SendQueue → SendQueue
with_requests [] q = q
with_requests (r ∷ reads) q = with_requests reads (with_request r.sink r.at r.size r.stag r.to q)

abbrev pub remote_of : PendingRead → RemoteRead
remote_of r = record { sink = r.sink; at = r.at; len = r.size; stag = r.stag; to = r.to }

-- with reads opened, and with sinks released
abbrev pub with_opened : List PendingRead → LinkSide → LinkSide
with_opened reads l = record {
  awaited = l.awaited;
  rest = l.rest;
  state = record l.state { send_queue = with_requests reads l.state.send_queue; reads = l.state.reads ++ later_responses reads };
}

abbrev pub with_opened_after : (message : List ℕ) → List PendingRead → LinkSide → LinkSide
with_opened_after message reads l = record {
  awaited = l.awaited;
  rest = l.rest;
  state = record l.state { send_queue = with_requests reads (with_send message l.state.send_queue); reads = l.state.reads ++ later_responses reads };
}

abbrev pub with_released : List SinkRegion → LinkSide → LinkSide
with_released sinks l = record { awaited = l.awaited; rest = l.rest; state = record l.state { memory = released sinks l.state.memory } }
