use Rattle.std.proofs.Common.{◌≡◌, ◌++◌, drop, length}
use Rattle.nr_reduce.specs.PlansByLists.{entry_lengths}
use Rattle.nr_requester.proofs.again.push_entry_lengths.Given as goal

abbrev pub invariant-loop-index : goal.invariant-loop-index
invariant-loop-index l = record {
  end : l.index-end ≡ length l.entries;
  all : l.lengths.items ++ entry_lengths (drop l.index l.entries) ≡ l.initial.lengths.items ++ entry_lengths l.entries;
}
