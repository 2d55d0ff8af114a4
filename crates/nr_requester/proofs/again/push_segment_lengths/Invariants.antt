use Rattle.std.proofs.Common.{◌≡◌, ◌++◌, drop, length}
use Rattle.nr_reduce.specs.PlansByLists.{segment_lengths}
use Rattle.nr_requester.proofs.again.push_segment_lengths.Given as goal

abbrev pub invariant-loop-index : goal.invariant-loop-index
invariant-loop-index l = record {
  end : l.index-end ≡ length l.segments;
  all : l.lengths.items ++ segment_lengths (drop l.index l.segments) ≡ l.initial.lengths.items ++ segment_lengths l.segments;
}
