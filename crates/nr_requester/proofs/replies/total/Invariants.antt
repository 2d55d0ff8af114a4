use Rattle.std.proofs.Common.{◌≡◌, ◌*◌, ◌≤◌, take}
use Rattle.std.specs.Prelude.{sum_by}
use Rattle.nr_header.specs.declared.header.RdmaSegment.{RdmaSegment}
use Rattle.nr_requester.proofs.replies.total.Given as goal

abbrev pub invariant-loop-segment : goal.invariant-loop-segment
invariant-loop-segment l = record {
  so_far : l.total ≡ sum_by (λ (s : RdmaSegment). s.length) (take l.segment-index l.chunk);
  bounded : l.total ≤ l.segment-index * 4294967296;
}
