use Rattle.nr_requester.proofs.Views.{drain_counts, drain_taken}
use Rattle.nr_requester.proofs.HeldRegions.{drain_sound}
use Rattle.nr_requester.proofs.Within.{drained_within, few_left, drained_sent}
use Rattle.std.proofs.Common.{ap, sym, ◌∙◌}
use Rattle.nr_requester.specs.RequesterState.{RequesterSide}
use Rattle.nr_requester.proofs.CallsKeep.{drained_keeps, drained_stops}
use Rattle.nr_requester.specs.Fed.{fed_bytes}
use Rattle.nr_requester.proofs.Tickets.{kept_as, drain_keeps, fed_drained}
use Rattle.nr_requester.proofs.requester.Requester.drain_into.Goals as goal

pub returns-clause-taken : goal.returns-clause-taken
returns-clause-taken c d =
    let t = d.drain_into-drained.ensures.taken in
    let x = drain_taken d.args.self.now d.self.inside.endpoint.link d.drain_into-drained.new.self.link d.self.inside.sent d.sent_by_now-self-inside.result d.self.inside.wished d.self.inside.sends d.self.inside.next_xid d.self.inside.grant d.self.inside.local_releases t.0
    d.self.inside.outstanding.items d.self.inside.answered.items _ _ d.drain_into-drained.result d.self.inside.endpoint.staging d.drain_into-drained.new.self.staging d.self.inside.marks d.marks_if-self-inside.result d.self.view_is d.self.invariant.0.xid t.1 t.2 t.3 d.sent_by_now-self-inside.ensures t.5 d.drain_into-drained.ensures.staging
    (drain_counts d.self.inside.endpoint.link d.drain_into-drained.new.self.link t.0 d.output_len-before.result d.output_len.result d.self.inside.marks d.marks_if-self-inside.result t.1 t.3 d.output_len-before.ensures d.output_len.ensures d.marks_if-self-inside.ensures) in
    (t.0, x.0, x.1, x.2, x.3, x.4, x.5, drained_keeps d.args.self.now _ t.0 d.self.inside.next_xid x.0 (ap (λ (h : RequesterSide). h.state.next_xid) (sym d.self.view_is)) d.self.invariant.0.xid x.2, drained_stops d.args.self.now _ t.0 x.2)

pub invariant_of-self : goal.invariant_of-self
invariant_of-self g c =
    let t = c.drain_into-drained.ensures.taken in (
      drain_sound c.self.inside.endpoint.link c.drain_into-drained.new.self.link c.self.inside.receive_length t.0 c.self.inside.next_xid c.self.inside.grant _ c.self.inside.outstanding.items c.self.inside.answered.items c.self.invariant.0 t.3,
      (drained_within c.self.inside.endpoint c.drain_into-drained.new.self c.self.inside.receive_length c.self.inside.sends c.self.inside.next_xid t.0 c.self.inside.outstanding.items c.self.inside.answered.items c.self.invariant.1.0 c.drain_into-drained.ensures.staging c.drain_into-drained.ensures.outside t.3, drained_sent c.self.inside.endpoint.link c.drain_into-drained.new.self.link c.self.inside.sent c.sent_by_now-self-inside.result t.0 t.3 c.sent_by_now-self-inside.ensures (few_left c.self.inside.endpoint.link c.self.inside.sends c.self.inside.next_xid c.self.inside.outstanding.items c.self.invariant.1.0.order c.self.invariant.1.0.counts c.self.invariant.0.xid) c.self.invariant.1.1),
    )

pub returns-clause-tickets : goal.returns-clause-tickets
returns-clause-tickets c d =
    let t = d.drain_into-drained.ensures.taken in
    let x = drain_taken d.args.self.now d.self.inside.endpoint.link d.drain_into-drained.new.self.link d.self.inside.sent d.sent_by_now-self-inside.result d.self.inside.wished d.self.inside.sends d.self.inside.next_xid d.self.inside.grant d.self.inside.local_releases t.0
    d.self.inside.outstanding.items d.self.inside.answered.items _ _ d.drain_into-drained.result d.self.inside.endpoint.staging d.drain_into-drained.new.self.staging d.self.inside.marks d.marks_if-self-inside.result d.self.view_is d.self.invariant.0.xid t.1 t.2 t.3 d.sent_by_now-self-inside.ensures t.5 d.drain_into-drained.ensures.staging
    (drain_counts d.self.inside.endpoint.link d.drain_into-drained.new.self.link t.0 d.output_len-before.result d.output_len.result d.self.inside.marks d.marks_if-self-inside.result t.1 t.3 d.output_len-before.ensures d.output_len.ensures d.marks_if-self-inside.ensures) in
    kept_as d.args.self.now _ _ x.2 (drain_keeps d.args.self.now t.0)

pub returns-clause-fed : goal.returns-clause-fed
returns-clause-fed c d =
    let t = d.drain_into-drained.ensures.taken in
    let x = drain_taken d.args.self.now d.self.inside.endpoint.link d.drain_into-drained.new.self.link d.self.inside.sent d.sent_by_now-self-inside.result d.self.inside.wished d.self.inside.sends d.self.inside.next_xid d.self.inside.grant d.self.inside.local_releases t.0
    d.self.inside.outstanding.items d.self.inside.answered.items _ _ d.drain_into-drained.result d.self.inside.endpoint.staging d.drain_into-drained.new.self.staging d.self.inside.marks d.marks_if-self-inside.result d.self.view_is d.self.invariant.0.xid t.1 t.2 t.3 d.sent_by_now-self-inside.ensures t.5 d.drain_into-drained.ensures.staging
    (drain_counts d.self.inside.endpoint.link d.drain_into-drained.new.self.link t.0 d.output_len-before.result d.output_len.result d.self.inside.marks d.marks_if-self-inside.result t.1 t.3 d.output_len-before.ensures d.output_len.ensures d.marks_if-self-inside.ensures) in
    ap fed_bytes x.2 ∙ fed_drained d.args.self.now t.0
