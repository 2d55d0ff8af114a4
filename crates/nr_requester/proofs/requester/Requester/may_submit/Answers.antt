use Rattle.std.proofs.Common.{sym, ◌∙◌, arith}
use Rattle.nr_requester.proofs.MaySubmit.{blocked_waits}
use Rattle.nr_requester.proofs.requester.Requester.may_submit.Goals as goal

pub returns-clause-waits : goal.returns-clause-waits
returns-clause-waits c blocked =
    let sends = c.list_facts.ensures.sends in
    blocked_waits c.args.self.now.state c.facts.ensures.granted.0 (omega (arith, sends)) (sym c.may_submit_now.ensures ∙ blocked)
