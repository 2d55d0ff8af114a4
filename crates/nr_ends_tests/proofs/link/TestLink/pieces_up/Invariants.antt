use Rattle.std.specs.Prelude.{◌≡◌}
use Rattle.nr_ends_tests.proofs.link.TestLink.pieces_up.Given as goal

abbrev pub invariant-pieces : goal.invariant-pieces
invariant-pieces g l = l.self ≡ l.fn.self
