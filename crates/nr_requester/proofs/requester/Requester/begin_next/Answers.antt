use Rattle.std.proofs.Common.{◌≡◌, ℕ, List, map, ap, subst, arith}
use Rattle.nr_requester.specs.declared.outstanding.OutstandingCall.{OutstandingCall}
use Rattle.nr_requester.specs.RequesterState.{RequesterSide}
use Rattle.nr_requester.specs.Reopening.{stags_for_calls}
use Rattle.nr_requester.specs.Views.{stored_view}
use Rattle.nr_requester.specs.private.Resuming.{IsNextLink, RiseBy}
use Rattle.nr_requester.proofs.NextBegun.{begun_sound, begun_view, begun_within, left_calls}
use Rattle.nr_requester.proofs.NextTickets.{stored_rise}
use Rattle.nr_requester.proofs.requester.Requester.begin_next.Goals as goal

pub next_link-requires-clause-calls : goal.next_link-requires-clause-calls
next_link-requires-clause-calls c = (
  c.self.inside.next_xid,
  left_calls c.self.inside.endpoint c.self.inside.receive_length c.self.inside.next_xid c.self.inside.grant _ c.self.inside.sends c.self.inside.outstanding.items c.as_slice.result.now c.self.inside.answered.items c.as_slice.ensures.value c.self.invariant.0 c.self.invariant.1.0,
)

pub next_link-requires-clause-first : goal.next_link-requires-clause-first
next_link-requires-clause-first c = c.self.invariant.1.0.link.stag

pub next_link-requires-clause-stags : goal.next_link-requires-clause-stags
next_link-requires-clause-stags c =
    let fits = c.requires in
    let next = ap (λ (h : RequesterSide). h.state.side.memory.next) c.self.view_is in
    let need = ap (λ (h : RequesterSide). stags_for_calls h.state.outstanding) c.self.view_is in
    let slice = ap (λ (cs : List OutstandingCall). stags_for_calls (map stored_view cs)) c.as_slice.ensures.value in
    omega (arith, fits, next, need, slice)

pub move_calls-requires : goal.move_calls-requires
move_calls-requires c =
    let i = c.self.inside in
    let left = left_calls i.endpoint i.receive_length i.next_xid i.grant _ i.sends i.outstanding.items c.as_slice.result.now i.answered.items c.as_slice.ensures.value c.self.invariant.0 c.self.invariant.1.0 in
    let n : IsNextLink i.wished i.endpoint.link.state i.next_xid c.in_ok-endpoint.endpoint i.outstanding.items c.in_ok-endpoint.made.items =
    subst (λ (cs : List OutstandingCall). IsNextLink i.wished i.endpoint.link.state i.next_xid c.in_ok-endpoint.endpoint cs c.in_ok-endpoint.made.items) c.as_slice.ensures.value (c.in_ok-endpoint.ensures i.next_xid left) in
    n.count

pub invariant_of-self : goal.invariant_of-self
invariant_of-self c =
    let i = c.self.inside in
    let left = left_calls i.endpoint i.receive_length i.next_xid i.grant _ i.sends i.outstanding.items c.as_slice.result.now i.answered.items c.as_slice.ensures.value c.self.invariant.0 c.self.invariant.1.0 in
    let n : IsNextLink i.wished i.endpoint.link.state i.next_xid c.in_ok-endpoint.endpoint i.outstanding.items c.in_ok-endpoint.made.items =
    subst (λ (cs : List OutstandingCall). IsNextLink i.wished i.endpoint.link.state i.next_xid c.in_ok-endpoint.endpoint cs c.in_ok-endpoint.made.items) c.as_slice.ensures.value (c.in_ok-endpoint.ensures i.next_xid left) in
    let len = c.self.invariant.1.0.link.receive_length in (
      begun_sound i.endpoint.link c.in_ok-endpoint.endpoint i.wished i.receive_length i.next_xid i.grant _ i.outstanding.items c.in_ok-endpoint.made.items c.move_calls.new.made.items i.answered.items len n c.move_calls.ensures c.self.invariant.0,
      begun_within i.endpoint c.in_ok-endpoint.endpoint i.wished i.receive_length i.sent i.sends i.next_xid i.outstanding.items c.in_ok-endpoint.made.items c.move_calls.new.made.items i.answered.items len n c.move_calls.ensures c.self.invariant.1,
    )

pub returns-clause-state : goal.returns-clause-state
returns-clause-state c =
    let i = c.self.inside in
    let left = left_calls i.endpoint i.receive_length i.next_xid i.grant _ i.sends i.outstanding.items c.as_slice.result.now i.answered.items c.as_slice.ensures.value c.self.invariant.0 c.self.invariant.1.0 in
    let n : IsNextLink i.wished i.endpoint.link.state i.next_xid c.in_ok-endpoint.endpoint i.outstanding.items c.in_ok-endpoint.made.items =
    subst (λ (cs : List OutstandingCall). IsNextLink i.wished i.endpoint.link.state i.next_xid c.in_ok-endpoint.endpoint cs c.in_ok-endpoint.made.items) c.as_slice.ensures.value (c.in_ok-endpoint.ensures i.next_xid left) in
    begun_view c.args.self.now i.endpoint.link c.in_ok-endpoint.endpoint i.sent i.wished i.sends i.next_xid i.next_xid i.grant i.local_releases i.outstanding.items c.in_ok-endpoint.made.items c.move_calls.new.made.items i.answered.items i.endpoint.staging i.marks c.self.view_is n c.move_calls.ensures

pub returns-clause-rising : goal.returns-clause-rising
returns-clause-rising c = subst (λ (h : RequesterSide). RiseBy h.state.outstanding) c.self.view_is (stored_rise c.self.inside.next_xid c.self.inside.outstanding.items c.self.invariant.0.rising)

pub returns-in_err-endpoint-clause-rising : goal.returns-in_err-endpoint-clause-rising
returns-in_err-endpoint-clause-rising c = subst (λ (h : RequesterSide). RiseBy h.state.outstanding) c.self.view_is (stored_rise c.self.inside.next_xid c.self.inside.outstanding.items c.self.invariant.0.rising)
