use Rattle.std.proofs.Common.{◌≡◌, length}
use Rattle.nr_header.specs.Reading.{segments_at}
use Rattle.nr_header.proofs.Loop.{SegmentsSoFar}
use Rattle.nr_header.proofs.lists.segments.Given as goal

abbrev pub invariant-loop : goal.invariant-loop
invariant-loop l = record {
  room : length l.items ≡ l.counter;
  so_far : SegmentsSoFar l.items l.count l.counter l.reader (segments_at l.count l.initial.reader);
}
