use Rattle.std.proofs.Common.{◌≡◌, ◌-◌, length}
use Rattle.nr_rpc.specs.Reading.{numbers_at}
use Rattle.nr_xdr.proofs.Fronts.{with_front}
use Rattle.nr_rpc.proofs.sys.numbers.Given as goal

abbrev pub invariant-loop : goal.invariant-loop
invariant-loop l = (length l.gids ≡ l.counter) × (with_front l.gids (numbers_at (l.count - l.counter) l.reader) ≡ numbers_at l.count l.initial.reader)
