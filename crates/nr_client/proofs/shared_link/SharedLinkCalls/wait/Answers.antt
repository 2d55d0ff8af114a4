use Rattle.std.proofs.Common.{◌≡◌, is_some, sym, subst, true}
use Rattle.nr_client.specs.CallerViews.{caller_view, open_call_of}
use Rattle.nr_client.specs.SharedParts.{SharedParts}
use Rattle.nr_client.proofs.CallerSteps.{has_open_call, known, rests_on, seen_by_wait, ticket_of_wait, wait_err, wait_ok}
use Rattle.nr_client.proofs.shared_link.SharedLinkCalls.wait.Goals as goal

pub wait-requires-clause-has_call : goal.wait-requires-clause-has_call
wait-requires-clause-has_call g c =
    has_open_call g.I.LinkSource.link g.I.Source.left g.I.Source.given g.I.Source.faults g.D.Dialer.asked g.D.Dialer.ended g.D.Dialer.faults c.self.inside.pass c.args.ticket c.self.invariant.rests.caller.lies
    (subst (λ (l : SharedParts g.row.I.Denot g.row.O.Denot g.row.D.Denot). is_some (open_call_of (caller_view g.I.LinkSource.link g.I.Source.left g.I.Source.given g.I.Source.faults g.D.Dialer.asked g.D.Dialer.ended g.D.Dialer.faults l.pass) c.args.ticket) ≡ true) (sym c.self.view_is) c.requires)

pub invariant_of-self : goal.invariant_of-self
invariant_of-self g c =
    rests_on g.D.Dialer.ended c.self.inside.shared c.self.inside.pass c.wait.new.pass c.self.invariant c.wait.ensures.rests c.wait.ensures.source
    (seen_by_wait g.I.LinkSource.link g.I.Source.left g.I.Source.given g.I.Source.faults g.D.Dialer.asked g.D.Dialer.ended g.D.Dialer.faults c.self.inside.pass c.wait.new.pass c.args.ticket c.wait.result
    (subst (λ (l : SharedParts g.row.I.Denot g.row.O.Denot g.row.D.Denot). is_some (open_call_of (caller_view g.I.LinkSource.link g.I.Source.left g.I.Source.given g.I.Source.faults g.D.Dialer.asked g.D.Dialer.ended g.D.Dialer.faults l.pass) c.args.ticket) ≡ true) (sym c.self.view_is) c.requires) c.wait.ensures.waited)

pub returns-clause-ok : goal.returns-clause-ok
returns-clause-ok g c =
    rw (sym c.self.view_is) (wait_ok g.I.LinkSource.link g.I.Source.left g.I.Source.given g.I.Source.faults g.D.Dialer.asked g.D.Dialer.ended g.D.Dialer.faults c.self.inside.pass c.wait.new.pass c.args.ticket c.wait.result c.outcome_of.result c.outcome_of.ensures.ok c.outcome_of.ensures.err
    (subst (λ (l : SharedParts g.row.I.Denot g.row.O.Denot g.row.D.Denot). is_some (open_call_of (caller_view g.I.LinkSource.link g.I.Source.left g.I.Source.given g.I.Source.faults g.D.Dialer.asked g.D.Dialer.ended g.D.Dialer.faults l.pass) c.args.ticket) ≡ true) (sym c.self.view_is) c.requires) c.wait.ensures.waited c.wait.ensures.source c.wait.ensures.rests.law)

pub returns-clause-err : goal.returns-clause-err
returns-clause-err g c =
    rw (sym c.self.view_is) (wait_err g.I.LinkSource.link g.I.Source.left g.I.Source.given g.I.Source.faults g.D.Dialer.asked g.D.Dialer.ended g.D.Dialer.faults c.self.inside.pass c.wait.new.pass c.args.ticket c.wait.result c.outcome_of.result c.outcome_of.ensures.ok c.outcome_of.ensures.err
    (subst (λ (l : SharedParts g.row.I.Denot g.row.O.Denot g.row.D.Denot). is_some (open_call_of (caller_view g.I.LinkSource.link g.I.Source.left g.I.Source.given g.I.Source.faults g.D.Dialer.asked g.D.Dialer.ended g.D.Dialer.faults l.pass) c.args.ticket) ≡ true) (sym c.self.view_is) c.requires) c.wait.ensures.waited c.wait.ensures.source c.wait.ensures.rests.law)

pub returns-clause-tickets : goal.returns-clause-tickets
returns-clause-tickets g c =
    rw (sym c.self.view_is) (ticket_of_wait g.I.LinkSource.link g.I.Source.left g.I.Source.given g.I.Source.faults g.D.Dialer.asked g.D.Dialer.ended g.D.Dialer.faults c.self.inside.pass c.wait.new.pass c.args.ticket c.wait.result (known g.I.LinkSource.link g.I.Source.left g.I.Source.given g.I.Source.faults g.D.Dialer.asked g.D.Dialer.ended g.D.Dialer.faults c.self.inside.shared c.self.inside.pass c.self.invariant.rests)
    (subst (λ (l : SharedParts g.row.I.Denot g.row.O.Denot g.row.D.Denot). is_some (open_call_of (caller_view g.I.LinkSource.link g.I.Source.left g.I.Source.given g.I.Source.faults g.D.Dialer.asked g.D.Dialer.ended g.D.Dialer.faults l.pass) c.args.ticket) ≡ true) (sym c.self.view_is) c.requires) c.wait.ensures.waited c.wait.ensures.source c.wait.ensures.rests.law)
