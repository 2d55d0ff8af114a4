use Rattle.std.proofs.Common.{◌≡◌, ◌+◌, ◌++◌, length, map, drop}
use Rattle.nr_endpoint.specs.Views.{expected}
use Rattle.nr_endpoint.specs.Requesting.{response_of}
use Rattle.nr_endpoint.proofs.reads.open_all.Given as goal

abbrev pub invariant-loop-read : goal.invariant-loop-read
invariant-loop-read l = record {
  count : length l.reads.items ≡ length l.initial.reads.items + l.read-index;
  opened : map expected l.reads.items ++ map response_of (drop l.read-index l.more) ≡ map expected l.initial.reads.items ++ map response_of l.more;
}
