use Rattle.std.proofs.Common.{◌≡◌, is_some, sym, subst, true}
use Rattle.nr_client.specs.CallerViews.{caller_view, open_call_of}
use Rattle.nr_client.specs.SharedParts.{SharedParts}
use Rattle.nr_client.proofs.CallerSteps.{dropped_by, has_open_call, known, rests_on, seen_by_forget}
use Rattle.nr_client.proofs.CallerTickets.{ticket_of_dropped}
use Rattle.nr_client.proofs.shared_link.SharedLinkCalls.forget.Goals as goal

pub forget-requires-clause-has_call : goal.forget-requires-clause-has_call
forget-requires-clause-has_call g c =
    has_open_call g.I.LinkSource.link g.I.Source.left g.I.Source.given g.I.Source.faults g.D.Dialer.asked g.D.Dialer.ended g.D.Dialer.faults c.self.inside.pass c.args.ticket c.self.invariant.rests.caller.lies
    (subst (λ (l : SharedParts g.row.I.Denot g.row.O.Denot g.row.D.Denot). is_some (open_call_of (caller_view g.I.LinkSource.link g.I.Source.left g.I.Source.given g.I.Source.faults g.D.Dialer.asked g.D.Dialer.ended g.D.Dialer.faults l.pass) c.args.ticket) ≡ true) (sym c.self.view_is) c.requires)

pub invariant_of-self : goal.invariant_of-self
invariant_of-self g c =
    rests_on g.D.Dialer.ended c.self.inside.shared c.self.inside.pass c.forget.new.pass c.self.invariant c.forget.ensures.rests c.forget.ensures.source
    (seen_by_forget g.I.LinkSource.link g.I.Source.left g.I.Source.given g.I.Source.faults g.D.Dialer.asked g.D.Dialer.ended g.D.Dialer.faults c.self.inside.pass c.forget.new.pass c.args.ticket
    (subst (λ (l : SharedParts g.row.I.Denot g.row.O.Denot g.row.D.Denot). is_some (open_call_of (caller_view g.I.LinkSource.link g.I.Source.left g.I.Source.given g.I.Source.faults g.D.Dialer.asked g.D.Dialer.ended g.D.Dialer.faults l.pass) c.args.ticket) ≡ true) (sym c.self.view_is) c.requires) c.forget.ensures.forgotten)

pub returns-clause-forgets : goal.returns-clause-forgets
returns-clause-forgets g c =
    rw (sym c.self.view_is) (dropped_by g.I.LinkSource.link g.I.Source.left g.I.Source.given g.I.Source.faults g.D.Dialer.asked g.D.Dialer.ended g.D.Dialer.faults c.self.inside.pass c.forget.new.pass c.args.ticket
    (subst (λ (l : SharedParts g.row.I.Denot g.row.O.Denot g.row.D.Denot). is_some (open_call_of (caller_view g.I.LinkSource.link g.I.Source.left g.I.Source.given g.I.Source.faults g.D.Dialer.asked g.D.Dialer.ended g.D.Dialer.faults l.pass) c.args.ticket) ≡ true) (sym c.self.view_is) c.requires) c.forget.ensures.forgotten c.forget.ensures.source c.forget.ensures.rests.law)

pub returns-clause-tickets : goal.returns-clause-tickets
returns-clause-tickets g c =
    rw (sym c.self.view_is) (ticket_of_dropped (caller_view g.I.LinkSource.link g.I.Source.left g.I.Source.given g.I.Source.faults g.D.Dialer.asked g.D.Dialer.ended g.D.Dialer.faults c.self.inside.pass) (caller_view g.I.LinkSource.link g.I.Source.left g.I.Source.given g.I.Source.faults g.D.Dialer.asked g.D.Dialer.ended g.D.Dialer.faults c.forget.new.pass) c.args.ticket (known g.I.LinkSource.link g.I.Source.left g.I.Source.given g.I.Source.faults g.D.Dialer.asked g.D.Dialer.ended g.D.Dialer.faults c.self.inside.shared c.self.inside.pass c.self.invariant.rests)
    (dropped_by g.I.LinkSource.link g.I.Source.left g.I.Source.given g.I.Source.faults g.D.Dialer.asked g.D.Dialer.ended g.D.Dialer.faults c.self.inside.pass c.forget.new.pass c.args.ticket
    (subst (λ (l : SharedParts g.row.I.Denot g.row.O.Denot g.row.D.Denot). is_some (open_call_of (caller_view g.I.LinkSource.link g.I.Source.left g.I.Source.given g.I.Source.faults g.D.Dialer.asked g.D.Dialer.ended g.D.Dialer.faults l.pass) c.args.ticket) ≡ true) (sym c.self.view_is) c.requires) c.forget.ensures.forgotten c.forget.ensures.source c.forget.ensures.rests.law))
