use Rattle.std.proofs.Common.{refl, ap, subst, arith}
use Rattle.nr_link.specs.Agreement.{IsSendLimit}
use Rattle.nr_requester.specs.RequesterState.{RequesterFeeding, RequesterSide}
use Rattle.nr_requester.specs.OpenCalls.{IsFresh}
use Rattle.nr_requester.specs.Views.{requester_view}
use Rattle.nr_requester.proofs.Tickets.{AreApart, are_apart, are_fresh, apart_found}
use Rattle.nr_requester.proofs.requester.Requester.facts.Goals as goal

pub returns-clause-apart : goal.returns-clause-apart
returns-clause-apart c = λ xid has.
    let i = c.self.inside in
    let view : RequesterFeeding = requester_view i.endpoint.link i.sent i.wished i.sends i.next_xid i.grant i.outstanding.items i.answered.items i.local_releases in
    apart_found c.args.self.now.state xid (subst (λ (h : RequesterSide). AreApart h.state) c.self.view_is (are_apart view.state i.next_xid i.outstanding.items refl c.self.invariant.0.rising c.self.invariant.0.apart)) has

pub returns-clause-fresh : goal.returns-clause-fresh
returns-clause-fresh c = λ xid le.
    let i = c.self.inside in
    let next = ap (λ (h : RequesterSide). h.state.next_xid) c.self.view_is in
    subst (λ (h : RequesterSide). IsFresh h.state xid) c.self.view_is (are_fresh i.next_xid xid i.outstanding.items i.answered.items c.self.invariant.0.rising c.self.invariant.0.apart (omega (arith, le, next)))

pub returns-clause-agreed : goal.returns-clause-agreed
returns-clause-agreed c =
    subst (λ (h : RequesterSide). IsSendLimit h.state.side.agreed.up × IsSendLimit h.state.side.agreed.down) c.self.view_is (c.self.invariant.1.0.link.up, c.self.invariant.1.0.link.down)
