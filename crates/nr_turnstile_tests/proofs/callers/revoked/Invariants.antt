use Rattle.nr_shared.specs.Callers.{HasOpenCall}
use Rattle.nr_shared.specs.Sharing.{SharedRests}
use Rattle.nr_turnstile_tests.proofs.callers.revoked.Given as goal

abbrev pub invariant-loop : goal.invariant-loop
invariant-loop g l = SharedRests l.fn.shared l.pass × HasOpenCall l.pass.main l.kept
