use Rattle.std.proofs.Common.{sym}
use Rattle.nr_client.proofs.CallerSteps.{call_err, call_ok, known, rests_on, seen_by_call, tickets_of_call}
use Rattle.nr_client.proofs.shared_link.SharedLinkCalls.call.Goals as goal

pub invariant_of-self : goal.invariant_of-self
invariant_of-self g c =
    rests_on g.D.Dialer.ended c.self.inside.shared c.self.inside.pass c.call.new.pass c.self.invariant c.call.ensures.rests c.call.ensures.source
    (seen_by_call g.I.LinkSource.link g.I.Source.left g.I.Source.given g.I.Source.faults g.D.Dialer.asked g.D.Dialer.ended g.D.Dialer.faults c.self.inside.pass c.call.new.pass c.args.call c.call.result c.call.ensures.called)

pub returns-clause-ok : goal.returns-clause-ok
returns-clause-ok g c =
    rw (sym c.self.view_is) (call_ok g.I.LinkSource.link g.I.Source.left g.I.Source.given g.I.Source.faults g.D.Dialer.asked g.D.Dialer.ended g.D.Dialer.faults c.self.inside.pass c.call.new.pass c.args.call c.call.result c.outcome_of.result c.outcome_of.ensures.ok c.outcome_of.ensures.err c.call.ensures.called c.call.ensures.source c.call.ensures.rests.law)

pub returns-clause-err : goal.returns-clause-err
returns-clause-err g c =
    rw (sym c.self.view_is) (call_err g.I.LinkSource.link g.I.Source.left g.I.Source.given g.I.Source.faults g.D.Dialer.asked g.D.Dialer.ended g.D.Dialer.faults c.self.inside.pass c.call.new.pass c.args.call c.call.result c.outcome_of.result c.outcome_of.ensures.ok c.outcome_of.ensures.err c.call.ensures.called c.call.ensures.source c.call.ensures.rests.law)

pub returns-clause-tickets : goal.returns-clause-tickets
returns-clause-tickets g c =
    rw (sym c.self.view_is) (tickets_of_call g.I.LinkSource.link g.I.Source.left g.I.Source.given g.I.Source.faults g.D.Dialer.asked g.D.Dialer.ended g.D.Dialer.faults c.self.inside.pass c.call.new.pass c.args.call c.call.result (known g.I.LinkSource.link g.I.Source.left g.I.Source.given g.I.Source.faults g.D.Dialer.asked g.D.Dialer.ended g.D.Dialer.faults c.self.inside.shared c.self.inside.pass c.self.invariant.rests) c.call.ensures.called c.call.ensures.source c.call.ensures.rests.law)
