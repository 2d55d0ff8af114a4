use Rattle.nr_shared.specs.Sharing.{SharedRests}
use Rattle.nr_bench.proofs.shared.read_numbers.Given as goal

abbrev pub invariant-numbers : goal.invariant-numbers
invariant-numbers g l = SharedRests l.shared l.reader.pass

abbrev pub decreases-numbers : goal.decreases-numbers
decreases-numbers g l = l.left
