use Rattle.std.proofs.Common.{◌-◌, length}
use Rattle.std.specs.List.{All}
use Rattle.nr_shared.specs.Sharing.{SharedRests}
use Rattle.nr_bench.proofs.shared.readers_of.Given as goal

abbrev pub invariant-readers : goal.invariant-readers
invariant-readers g l = SharedRests l.shared l.pass × All (λ r. SharedRests l.shared r.pass) l.readers.items

abbrev pub decreases-readers : goal.decreases-readers
decreases-readers g l = l.threads - length l.readers.items
