use Rattle.std.proofs.Common.{sym, subst}
use Rattle.nr_shared.specs.Sharing.{SharedRests}
use Rattle.nr_bench.proofs.shared.read_numbers.Goals.{in-Own, in-Other, in-None}
use Rattle.nr_bench.proofs.shared.read_numbers.Goals as goal

pub numbers-preserved : goal.numbers-preserved
numbers-preserved g c = elim c.match-read_number.branch [
  | in-Own w ↦ subst (λ r. SharedRests c.args.shared.now r.pass) (sym w.reader-is) c.read_number.ensures
  | in-Other w ↦ subst (λ r. SharedRests c.args.shared.now r.pass) (sym w.reader-is) c.read_number.ensures
  | in-None w ↦ subst (λ r. SharedRests c.args.shared.now r.pass) (sym w.reader-is) c.read_number.ensures
]
