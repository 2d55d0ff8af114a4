use Rattle.std.proofs.Common.{◌≡◌, ◌++◌, drop}
use Rattle.nr_reduce.specs.Chunks.{filled_chunk}
use Rattle.nr_reduce.proofs.replying.push_filled.Given as goal

abbrev pub invariant-loop-segment : goal.invariant-loop-segment
invariant-loop-segment l = l.segments.items ++ filled_chunk (drop l.segment-index l.chunk) l.left ≡ l.initial.segments.items ++ filled_chunk l.chunk l.len
