use Rattle.std.proofs.Common.{◌≡◌, ◌++◌, drop, length}
use Rattle.nr_reduce.specs.CallOutlines.{lengths_of}
use Rattle.nr_reduce.proofs.planning.push_lengths.Given as goal

abbrev pub invariant-loop-index : goal.invariant-loop-index
invariant-loop-index l = record {
  end : l.index-end ≡ length (lengths_of l.lengths);
  all : l.list.items ++ drop l.index (lengths_of l.lengths) ≡ l.initial.list.items ++ lengths_of l.lengths;
}
