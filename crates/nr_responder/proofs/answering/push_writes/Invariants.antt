use Rattle.std.proofs.Common.{◌≡◌, ◌++◌, drop, All}
use Rattle.nr_endpoint.specs.Offering.{FitsRegion, writes_output}
use Rattle.nr_reduce.specs.Holds.{writes_into}
use Rattle.nr_responder.proofs.answering.push_writes.Given as goal

abbrev pub invariant-segments : goal.invariant-segments
invariant-segments l = record {
  output : writes_output l.writes.items ++ writes_into (drop l.segment-index l.fn.chunk) l.left ≡ writes_output l.fn.writes.items ++ writes_into l.fn.chunk l.fn.bytes;
  fits : All FitsRegion l.writes.items;
}
