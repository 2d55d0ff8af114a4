use Rattle.std.proofs.Common.{sym, subst, ◌∙◌}
use Rattle.nr_link.specs.Agreement.{IsSendLimit}
use Rattle.nr_responder.specs.Sound.{state_of}
use Rattle.nr_responder.proofs.Counts.{agreed_limits, agreed_of_run}
use Rattle.nr_responder.proofs.server_end.ServerEnd.agreed.Goals as goal

pub returns-clause-limits : goal.returns-clause-limits
returns-clause-limits c = λ some.
    let limits = agreed_limits (state_of c.args.self.now) some in
    (subst IsSendLimit (sym c.agreed.ensures.up) limits.0, subst IsSendLimit (sym c.agreed.ensures.down) limits.1)

pub returns-clause-of_run : goal.returns-clause-of_run
returns-clause-of_run c = λ other opened link run h.
    let of_run = agreed_of_run opened link run (state_of c.args.self.now) other h in
    (c.agreed.ensures.up ∙ of_run.0, c.agreed.ensures.down ∙ of_run.1)
