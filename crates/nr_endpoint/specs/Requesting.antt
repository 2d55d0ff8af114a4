-- Several Read Requests at once, all or none, after a Send if there is one (RFC 5040 section 4.4).
use Rattle.std.specs.Prelude.{ℕ, ◌+◌, ◌^◌, ◌<◌, List, [], ◌∷◌, ◌++◌, map}
use Rattle.nr_link.specs.Output.{read_request}
use Rattle.nr_link.specs.SegmentFaults.{ExpectedResponse}
use Rattle.nr_endpoint.specs.declared.requests.RemoteRead.{RemoteRead}
use Rattle.nr_endpoint.specs.SendQueue.{SendQueue, next_number, with_send}
use Rattle.nr_endpoint.specs.LinkState.{LinkState}
use Rattle.nr_endpoint.specs.Calls.{Call, unless_ended}
use Rattle.nr_endpoint.specs.Calls.Call.{Send, ReadRemote}

-- the offsets in the own region stay below 2^64
abbrev pub FitsSink : RemoteRead → Type 0
FitsSink r = r.at + r.len < 2 ^ 64

abbrev pub read_call : RemoteRead → Call
read_call r = ReadRemote r.sink r.at r.stag r.to r.len

abbrev pub read_calls : List RemoteRead → List Call
read_calls reads = map read_call reads

abbrev pub send_read_calls : List ℕ → List RemoteRead → List Call
send_read_calls message reads = Send message ∷ read_calls reads

-- the Read Request of each, numbered from the one after the last
abbrev pub requests_output : ℕ → List RemoteRead → List ℕ
requests_output last [] = []
requests_output last (r ∷ reads) = read_request (next_number last) r.sink r.at r.len r.stag r.to ++ requests_output (next_number last) reads

abbrev pub last_request_after : ℕ → List RemoteRead → ℕ
last_request_after last [] = last
last_request_after last (r ∷ reads) = last_request_after (next_number last) reads

abbrev pub with_read_requests : List RemoteRead → SendQueue → SendQueue
with_read_requests reads q = record q {
  fpdus = q.fpdus ++ requests_output q.last_request reads;
  last_request = last_request_after q.last_request reads;
}

-- the response of each is expected, from its first byte on
abbrev pub response_of : RemoteRead → ExpectedResponse
response_of r = record { sink = r.sink; at = r.at; left = r.len }

abbrev pub after_reads : List RemoteRead → LinkState → LinkState
after_reads reads s = unless_ended s (record s {
  send_queue = with_read_requests reads s.send_queue;
  reads = s.reads ++ map response_of reads;
})

abbrev pub after_send_reads : List ℕ → List RemoteRead → LinkState → LinkState
after_send_reads message reads s = unless_ended s (record s {
  send_queue = with_read_requests reads (with_send message s.send_queue);
  reads = s.reads ++ map response_of reads;
})
