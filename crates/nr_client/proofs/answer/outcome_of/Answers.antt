use Rattle.std.proofs.Common.{inr, refl}
use Rattle.nr_client.proofs.CallsMade.{answered_as, given_up_as}
use Rattle.nr_client.proofs.Outcomes.{same_asked}
use Rattle.nr_client.proofs.answer.outcome_of.Goals as goal

pub returns-in-Err-clause-err : goal.returns-in-Err-clause-err
returns-in-Err-clause-err g c asked is = inr (refl, refl)

pub returns-in-Err-call-clause-err : goal.returns-in-Err-call-clause-err
returns-in-Err-call-clause-err g c asked is =
    given_up_as g.L.Calls.relations c.in-Ok.call asked c.in-Err-call.end (g.L.Calls.at c.args.link.now) (g.L.Calls.at c.call.new.self) (same_asked c.in-Ok.call asked c.in-Ok.is is) c.in-Err-call.ensures.err

pub returns-in-Ok-call-clause-ok : goal.returns-in-Ok-call-clause-ok
returns-in-Ok-call-clause-ok g c asked is =
    answered_as g.L.Calls.relations c.in-Ok.call asked c.in-Ok-call.outcome (g.L.Calls.at c.args.link.now) (g.L.Calls.at c.call.new.self) (same_asked c.in-Ok.call asked c.in-Ok.is is) c.in-Ok-call.ensures.ok
