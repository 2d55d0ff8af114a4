use Rattle.std.proofs.Common.{Ok, Err, refl, sym, ap, subst, ◌∙◌}
use Rattle.std.specs.Prelude.{vec_capacity}
use Rattle.nr_requester.specs.RequesterState.{RequesterFeeding, RequesterSide, feeding_of, KeepsStaging}
use Rattle.nr_requester.specs.Fed.{IsStep}
use Rattle.nr_requester.specs.Views.{requester_view, side_view}
use Rattle.nr_requester.proofs.Staging.{staged_step, told_rest}
use Rattle.nr_requester.proofs.StepSides.{FedOne, err_step, err_sound, ok_step, ok_state, ok_ready, ok_sound}
use Rattle.nr_requester.proofs.FedBounds.{fed_bounded}
use Rattle.nr_requester.proofs.StepBounds.{err_bounded}
use Rattle.nr_requester.proofs.Tickets.{AreApart, are_apart, step_keeps}
use Rattle.nr_requester.proofs.requester.Requester.step.Goals as goal

pub invariant_of-self : goal.invariant_of-self
invariant_of-self c =
    let lives = ap (λ (h : RequesterSide). h.state.side.ended) c.self.view_is ∙ c.requires.live in
    let f : FedOne c.self.inside.endpoint.link c.feed_one.new.self.link c.args.left.now (Err c.in_default.field-0) =
    record { ended = c.in_default.ensures.ended; state = c.in_default.ensures.state; memory = c.in_default.ensures.memory; whole = λ m going. (c.in_default.ensures.frame m going).0; queues = λ m going. (c.in_default.ensures.frame m going).1 } in (
      err_sound c.self.inside.endpoint.link c.feed_one.new.self.link c.self.inside.receive_length c.self.inside.next_xid c.self.inside.grant (vec_capacity c.self.inside.answered) c.self.inside.outstanding.items c.self.inside.answered.items c.args.left.now (Err c.in_default.field-0) c.in_default.field-0 f (sym c.in_default.ensures.ended) lives c.self.invariant.0,
      err_bounded c.self.inside.receive_length c.self.inside.sent c.self.inside.sends c.self.inside.next_xid c.self.inside.grant (vec_capacity c.self.inside.answered) c.self.inside.outstanding.items c.self.inside.answered.items c.self.inside.endpoint c.feed_one.new.self c.args.left.now (Err c.in_default.field-0) c.in_default.field-0 f (sym c.in_default.ensures.ended) lives c.self.invariant.0 c.feed_one.ensures.staging.len c.feed_one.ensures.outside c.self.invariant.1,
    )

pub returns-in_default-clause-step : goal.returns-in_default-clause-step
returns-in_default-clause-step c =
    let lives = ap (λ (h : RequesterSide). h.state.side.ended) c.self.view_is ∙ c.requires.live in
    let f : FedOne c.self.inside.endpoint.link c.feed_one.new.self.link c.args.left.now (Err c.in_default.field-0) =
    record { ended = c.in_default.ensures.ended; state = c.in_default.ensures.state; memory = c.in_default.ensures.memory; whole = λ m going. (c.in_default.ensures.frame m going).0; queues = λ m going. (c.in_default.ensures.frame m going).1 } in
    subst (λ (h : RequesterSide). IsStep (feeding_of h) c.args.left.now (requester_view c.feed_one.new.self.link c.self.inside.sent c.self.inside.wished c.self.inside.sends c.self.inside.next_xid c.self.inside.grant c.self.inside.outstanding.items c.self.inside.answered.items c.self.inside.local_releases)) c.self.view_is
    (err_step c.self.inside.endpoint.link c.feed_one.new.self.link c.self.inside.receive_length c.self.inside.sent c.self.inside.wished c.self.inside.sends c.self.inside.next_xid c.self.inside.grant c.self.inside.local_releases (vec_capacity c.self.inside.answered) c.self.inside.outstanding.items c.self.inside.answered.items c.args.left.now (Err c.in_default.field-0) c.in_default.field-0 f (sym c.in_default.ensures.ended) lives c.self.invariant.0)

pub take_event-requires : goal.take_event-requires
take_event-requires c =
    let lives = ap (λ (h : RequesterSide). h.state.side.ended) c.self.view_is ∙ c.requires.live in
    let f : FedOne c.self.inside.endpoint.link c.feed_one.new.self.link c.args.left.now (Ok c.in-Ok.taken) =
    record { ended = c.in-Ok.ensures.ended; state = c.in-Ok.ensures.state; memory = c.in-Ok.ensures.memory; whole = λ m going. (c.in-Ok.ensures.frame m going).0; queues = λ m going. (c.in-Ok.ensures.frame m going).1 } in
    record {
      ready = ok_ready c.self.inside.endpoint.link c.feed_one.new.self.link c.self.inside.receive_length c.self.inside.next_xid c.self.inside.grant (vec_capacity c.self.inside.answered) c.in-Ok.taken c.self.inside.outstanding.items c.self.inside.answered.items c.args.left.now f lives c.self.invariant.0
          (fed_bounded c.self.inside.receive_length c.self.inside.sent c.self.inside.sends c.self.inside.next_xid c.self.inside.outstanding.items c.self.inside.answered.items c.self.inside.endpoint c.feed_one.new.self c.feed_one.ensures.staging.len c.feed_one.ensures.outside c.self.invariant.1 c.args.left.now lives c.self.invariant.0.none_waits c.self.invariant.0.no_reads (ok_state c.self.inside.endpoint.link c.feed_one.new.self.link c.args.left.now c.in-Ok.taken f).0).0.link.receive_length;
    }

pub invariant_of-self-2 : goal.invariant_of-self-2
invariant_of-self-2 c =
    let lives = ap (λ (h : RequesterSide). h.state.side.ended) c.self.view_is ∙ c.requires.live in
    let f : FedOne c.self.inside.endpoint.link c.feed_one.new.self.link c.args.left.now (Ok c.in-Ok.taken) =
    record { ended = c.in-Ok.ensures.ended; state = c.in-Ok.ensures.state; memory = c.in-Ok.ensures.memory; whole = λ m going. (c.in-Ok.ensures.frame m going).0; queues = λ m going. (c.in-Ok.ensures.frame m going).1 } in (
      ok_sound c.self.inside.endpoint.link c.feed_one.new.self.link c.take_event.new.endpoint.link c.self.inside.receive_length c.self.inside.next_xid c.self.inside.grant c.take_event.new.grant (vec_capacity c.self.inside.answered) (vec_capacity c.take_event.new.answered) c.in-Ok.taken c.self.inside.outstanding.items c.take_event.new.outstanding.items c.self.inside.answered.items c.take_event.new.answered.items c.args.left.now f lives c.self.invariant.0
          (c.take_event.ensures.sound c.self.inside.receive_length c.self.inside.next_xid) c.take_event.ensures.granted c.take_event.ensures.fewer c.take_event.ensures.quiet,
      c.take_event.ensures.bounded c.self.inside.receive_length c.self.inside.sends c.self.inside.next_xid
          (fed_bounded c.self.inside.receive_length c.self.inside.sent c.self.inside.sends c.self.inside.next_xid c.self.inside.outstanding.items c.self.inside.answered.items c.self.inside.endpoint c.feed_one.new.self c.feed_one.ensures.staging.len c.feed_one.ensures.outside c.self.invariant.1 c.args.left.now lives c.self.invariant.0.none_waits c.self.invariant.0.no_reads (ok_state c.self.inside.endpoint.link c.feed_one.new.self.link c.args.left.now c.in-Ok.taken f).0),
    )

pub returns-clause-step : goal.returns-clause-step
returns-clause-step c =
    let lives = ap (λ (h : RequesterSide). h.state.side.ended) c.self.view_is ∙ c.requires.live in
    let f : FedOne c.self.inside.endpoint.link c.feed_one.new.self.link c.args.left.now (Ok c.in-Ok.taken) =
    record { ended = c.in-Ok.ensures.ended; state = c.in-Ok.ensures.state; memory = c.in-Ok.ensures.memory; whole = λ m going. (c.in-Ok.ensures.frame m going).0; queues = λ m going. (c.in-Ok.ensures.frame m going).1 } in
    subst (λ (h : RequesterSide). IsStep (feeding_of h) c.args.left.now (requester_view c.take_event.new.endpoint.link c.self.inside.sent c.self.inside.wished c.self.inside.sends c.self.inside.next_xid c.take_event.new.grant c.take_event.new.outstanding.items c.take_event.new.answered.items c.take_event.new.releases)) c.self.view_is
    (ok_step c.self.inside.endpoint.link c.feed_one.new.self.link c.take_event.new.endpoint.link c.self.inside.receive_length c.self.inside.sent c.self.inside.wished c.self.inside.sends c.self.inside.next_xid c.self.inside.grant c.self.inside.local_releases c.take_event.new.grant c.take_event.new.releases (vec_capacity c.self.inside.answered) c.in-Ok.taken c.self.inside.outstanding.items c.take_event.new.outstanding.items c.self.inside.answered.items c.take_event.new.answered.items c.args.left.now f lives c.self.invariant.0
    (c.take_event.ensures.deliveries c.self.inside.wished c.self.inside.sends c.self.inside.next_xid))

pub returns-in_default-clause-tickets : goal.returns-in_default-clause-tickets
returns-in_default-clause-tickets c =
    let i = c.self.inside in
    let view : RequesterFeeding = requester_view i.endpoint.link i.sent i.wished i.sends i.next_xid i.grant i.outstanding.items i.answered.items i.local_releases in
    let quiet = ap (λ (h : RequesterSide). h.state.side.receive_queue.deliveries) (sym c.self.view_is) ∙ c.self.invariant.0.none_waits in
    let k = subst (λ (h : RequesterSide). AreApart h.state) c.self.view_is (are_apart view.state i.next_xid i.outstanding.items refl c.self.invariant.0.rising c.self.invariant.0.apart) in
    step_keeps (feeding_of c.args.self.now) _ c.args.left.now quiet k (returns-in_default-clause-step c)

pub returns-clause-tickets : goal.returns-clause-tickets
returns-clause-tickets c =
    let i = c.self.inside in
    let view : RequesterFeeding = requester_view i.endpoint.link i.sent i.wished i.sends i.next_xid i.grant i.outstanding.items i.answered.items i.local_releases in
    let quiet = ap (λ (h : RequesterSide). h.state.side.receive_queue.deliveries) (sym c.self.view_is) ∙ c.self.invariant.0.none_waits in
    let k = subst (λ (h : RequesterSide). AreApart h.state) c.self.view_is (are_apart view.state i.next_xid i.outstanding.items refl c.self.invariant.0.rising c.self.invariant.0.apart) in
    step_keeps (feeding_of c.args.self.now) _ c.args.left.now quiet k (returns-clause-step c)

pub returns-in_default-clause-staging : goal.returns-in_default-clause-staging
returns-in_default-clause-staging c =
    let i = c.self.inside in
    subst (λ (h : RequesterSide). KeepsStaging h (side_view c.feed_one.new.self.staging i.marks (requester_view c.feed_one.new.self.link i.sent i.wished i.sends i.next_xid i.grant i.outstanding.items i.answered.items i.local_releases)) c.args.left.now) c.self.view_is
    (record { others = c.in_default.ensures.staging.others; len = c.in_default.ensures.staging.len })

pub returns-clause-staging : goal.returns-clause-staging
returns-clause-staging c =
    let i = c.self.inside in
    let t = c.take_event.new in
    let rest = told_rest (requester_view c.feed_one.new.self.link i.sent i.wished i.sends i.next_xid i.grant i.outstanding.items i.answered.items i.local_releases) (requester_view t.endpoint.link i.sent i.wished i.sends i.next_xid t.grant t.outstanding.items t.answered.items t.releases) (c.take_event.ensures.deliveries i.wished i.sends i.next_xid) in
    subst (λ (h : RequesterSide). KeepsStaging h (side_view t.endpoint.staging i.marks (requester_view t.endpoint.link i.sent i.wished i.sends i.next_xid t.grant t.outstanding.items t.answered.items t.releases)) c.args.left.now) c.self.view_is
    (staged_step i.endpoint c.feed_one.new.self c.args.left.now (side_view i.endpoint.staging i.marks (requester_view i.endpoint.link i.sent i.wished i.sends i.next_xid i.grant i.outstanding.items i.answered.items i.local_releases))
    (side_view t.endpoint.staging i.marks (requester_view t.endpoint.link i.sent i.wished i.sends i.next_xid t.grant t.outstanding.items t.answered.items t.releases)) refl refl refl rest c.take_event.ensures.staging c.in-Ok.ensures.staging)
