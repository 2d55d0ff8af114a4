use Rattle.std.proofs.Common.{◌≡◌}
use Rattle.nr_turnstile.specs.Passes.{seen_by}
use Rattle.nr_shared.specs.Sharing.{SharedRests}
use Rattle.nr_shared.specs.Waiting.{LacksCredit}
use Rattle.nr_shared.proofs.shared.SharedRequester.submit.Given as goal

abbrev pub invariant-loop : goal.invariant-loop
invariant-loop g l = SharedRests l.fn.self l.pass
    × ((seen_by l.pass.source ≡ seen_by l.initial.pass.source) × LacksCredit {O = g.row.O.Denot} l.initial.pass.main l.pass.main l.initial.unsent_call l.unsent_call l.initial.unsent_form l.unsent_form)
