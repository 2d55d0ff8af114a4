use Rattle.std.proofs.Common.{false, sym, true}
use Rattle.nr_turnstile.specs.Passes.{seen_by}
use Rattle.nr_client.specs.CallerViews.{caller_view}
use Rattle.nr_client.proofs.CallerSteps.{known, looked_by, rests_on, says_credit}
use Rattle.nr_client.proofs.CallerTickets.{tickets_of_look}
use Rattle.nr_client.proofs.shared_link.SharedLinkCalls.has_credit.Goals as goal

pub invariant_of-self : goal.invariant_of-self
invariant_of-self g c =
    rests_on g.D.Dialer.ended c.self.inside.shared c.self.inside.pass c.has_credit.new.pass c.self.invariant c.has_credit.ensures.rests c.has_credit.ensures.source c.has_credit.ensures.added.seen

pub returns-clause-looks : goal.returns-clause-looks
returns-clause-looks g c = rw (sym c.self.view_is) (looked_by g.I.LinkSource.link g.I.Source.left g.I.Source.given g.I.Source.faults g.D.Dialer.asked g.D.Dialer.ended g.D.Dialer.faults c.self.inside.pass c.has_credit.new.pass c.has_credit.ensures.added c.has_credit.ensures.keeps c.has_credit.ensures.source c.has_credit.ensures.rests.law)

pub returns-clause-tickets : goal.returns-clause-tickets
returns-clause-tickets g c =
    rw (sym c.self.view_is) (tickets_of_look (caller_view g.I.LinkSource.link g.I.Source.left g.I.Source.given g.I.Source.faults g.D.Dialer.asked g.D.Dialer.ended g.D.Dialer.faults c.self.inside.pass) (caller_view g.I.LinkSource.link g.I.Source.left g.I.Source.given g.I.Source.faults g.D.Dialer.asked g.D.Dialer.ended g.D.Dialer.faults c.has_credit.new.pass) (known g.I.LinkSource.link g.I.Source.left g.I.Source.given g.I.Source.faults g.D.Dialer.asked g.D.Dialer.ended g.D.Dialer.faults c.self.inside.shared c.self.inside.pass c.self.invariant.rests)
    (looked_by g.I.LinkSource.link g.I.Source.left g.I.Source.given g.I.Source.faults g.D.Dialer.asked g.D.Dialer.ended g.D.Dialer.faults c.self.inside.pass c.has_credit.new.pass c.has_credit.ensures.added c.has_credit.ensures.keeps c.has_credit.ensures.source c.has_credit.ensures.rests.law))

pub returns-clause-yes : goal.returns-clause-yes
returns-clause-yes g c is = says_credit (seen_by c.has_credit.new.pass.main) c.has_credit.result true is c.has_credit.ensures.credit c.has_credit.ensures.credit_out_of_memory

pub returns-clause-no : goal.returns-clause-no
returns-clause-no g c is = says_credit (seen_by c.has_credit.new.pass.main) c.has_credit.result false is c.has_credit.ensures.credit c.has_credit.ensures.credit_out_of_memory
