use Rattle.std.proofs.Common.{sym}
use Rattle.nr_client.proofs.CallerSteps.{known, rests_on, seen_by_submit, submit_err, submit_ok, ticket_of_submit, tickets_of_submit}
use Rattle.nr_client.proofs.shared_link.SharedLinkCalls.submit.Goals as goal

pub invariant_of-self : goal.invariant_of-self
invariant_of-self g c =
    rests_on g.D.Dialer.ended c.self.inside.shared c.self.inside.pass c.submit.new.pass c.self.invariant c.submit.ensures.rests c.submit.ensures.source
    (seen_by_submit g.I.LinkSource.link g.I.Source.left g.I.Source.given g.I.Source.faults g.D.Dialer.asked g.D.Dialer.ended g.D.Dialer.faults c.self.inside.pass c.submit.new.pass c.args.call c.submit.result c.submit.ensures.submitted)

pub returns-clause-ok : goal.returns-clause-ok
returns-clause-ok g c =
    rw (sym c.self.view_is) (submit_ok g.I.LinkSource.link g.I.Source.left g.I.Source.given g.I.Source.faults g.D.Dialer.asked g.D.Dialer.ended g.D.Dialer.faults c.self.inside.pass c.submit.new.pass c.args.call c.submit.result c.submit.ensures.submitted c.submit.ensures.source c.submit.ensures.rests.law)

pub returns-clause-err : goal.returns-clause-err
returns-clause-err g c =
    rw (sym c.self.view_is) (submit_err g.I.LinkSource.link g.I.Source.left g.I.Source.given g.I.Source.faults g.D.Dialer.asked g.D.Dialer.ended g.D.Dialer.faults c.self.inside.pass c.submit.new.pass c.args.call c.submit.result c.submit.ensures.submitted c.submit.ensures.source c.submit.ensures.rests.law)

pub returns-clause-opens : goal.returns-clause-opens
returns-clause-opens g c =
    rw (sym c.self.view_is) (ticket_of_submit g.I.LinkSource.link g.I.Source.left g.I.Source.given g.I.Source.faults g.D.Dialer.asked g.D.Dialer.ended g.D.Dialer.faults c.self.inside.pass c.submit.new.pass c.args.call c.submit.result (known g.I.LinkSource.link g.I.Source.left g.I.Source.given g.I.Source.faults g.D.Dialer.asked g.D.Dialer.ended g.D.Dialer.faults c.self.inside.shared c.self.inside.pass c.self.invariant.rests) c.submit.ensures.submitted c.submit.ensures.source c.submit.ensures.rests.law)

pub returns-clause-keeps : goal.returns-clause-keeps
returns-clause-keeps g c =
    rw (sym c.self.view_is) (tickets_of_submit g.I.LinkSource.link g.I.Source.left g.I.Source.given g.I.Source.faults g.D.Dialer.asked g.D.Dialer.ended g.D.Dialer.faults c.self.inside.pass c.submit.new.pass c.args.call c.submit.result (known g.I.LinkSource.link g.I.Source.left g.I.Source.given g.I.Source.faults g.D.Dialer.asked g.D.Dialer.ended g.D.Dialer.faults c.self.inside.shared c.self.inside.pass c.self.invariant.rests) c.submit.ensures.submitted c.submit.ensures.source c.submit.ensures.rests.law)
