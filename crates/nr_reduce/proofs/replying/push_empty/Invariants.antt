use Rattle.std.proofs.Common.{◌≡◌, ◌++◌, drop}
use Rattle.nr_reduce.specs.Holds.{empty_chunks}
use Rattle.nr_reduce.proofs.replying.push_empty.Given as goal

abbrev pub invariant-loop-chunk : goal.invariant-loop-chunk
invariant-loop-chunk l = l.chunks.items ++ empty_chunks (drop l.chunk-index l.offered) ≡ l.initial.chunks.items ++ empty_chunks l.offered
