use Rattle.std.proofs.Common.{◌≡◌, ◌≤◌, ◌+◌, ◌*◌, ◌++◌, length, drop}
use Rattle.nr_endpoint.specs.Requesting.{last_request_after, requests_output}
use Rattle.nr_endpoint.proofs.requests.append_requests.Given as goal

abbrev pub invariant-loop-read : goal.invariant-loop-read
invariant-loop-read l = record {
  bytes : l.out.items ++ requests_output l.msn (drop l.read-index l.reads) ≡ l.initial.out.items ++ requests_output l.last l.reads;
  last : last_request_after l.msn (drop l.read-index l.reads) ≡ last_request_after l.last l.reads;
  spare : 55 * length l.reads ≤ l.out.spare + 55 * l.read-index;
  kept : l.out.kept ≡ l.initial.out.kept;
}
