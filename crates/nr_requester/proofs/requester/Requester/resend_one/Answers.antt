use Rattle.std.proofs.Common.{◌≡◌, ◌<◌, List, None, length, refl, sym, ap, subst, ◌∙◌, arith}
use Rattle.nr_requester.specs.RequesterState.{RequesterSide}
use Rattle.nr_requester.specs.private.Resuming.{first_message}
use Rattle.nr_requester.proofs.ResendSteps.{some_first, resent_link, resent_side, resent_view, resent_sound, resent_within, resent_left}
use Rattle.nr_requester.proofs.requester.Requester.resend_one.Goals as goal

pub invariant_of-self : goal.invariant_of-self
invariant_of-self c =
    let i = c.self.inside in
    let q = i.endpoint.link.state.send_queue in
    let lives : i.endpoint.link.state.ended ≡ None = ap (λ (h : RequesterSide). h.state.side.ended) c.self.view_is ∙ c.requires.live in
    let count = ap (λ (h : RequesterSide). length h.state.side.send_queue.held) c.self.view_is in
    let some : 0 < length q.held = (let has = c.requires.some in omega (arith, has, count)) in
    let is : c.send_held.new.self.link ≡ resent_side (first_message q.held) i.endpoint.link = resent_link i.endpoint.link c.send_held.new.self.link (first_message q.held) lives (c.send_held.ensures.state _ _ (some_first q.held some)) in (
      resent_sound i.endpoint.link c.send_held.new.self.link (first_message q.held) i.receive_length i.next_xid i.grant _ i.outstanding.items i.answered.items is c.self.invariant.0,
      (
        resent_within i.endpoint c.send_held.new.self i.receive_length i.sends i.next_xid i.outstanding.items i.answered.items lives some c.send_held.ensures.staging c.send_held.ensures.outside is c.self.invariant.1.0,
        resent_left i.endpoint.link c.send_held.new.self.link (first_message q.held) i.sent is c.self.invariant.1.1,
      ),
    )

pub returns : goal.returns
returns c =
    let i = c.self.inside in
    let q = i.endpoint.link.state.send_queue in
    let lives : i.endpoint.link.state.ended ≡ None = ap (λ (h : RequesterSide). h.state.side.ended) c.self.view_is ∙ c.requires.live in
    let count = ap (λ (h : RequesterSide). length h.state.side.send_queue.held) c.self.view_is in
    let some : 0 < length q.held = (let has = c.requires.some in omega (arith, has, count)) in
    let is : c.send_held.new.self.link ≡ resent_side (first_message q.held) i.endpoint.link = resent_link i.endpoint.link c.send_held.new.self.link (first_message q.held) lives (c.send_held.ensures.state _ _ (some_first q.held some)) in
    resent_view c.args.self.now i.endpoint.link c.send_held.new.self.link i.sent i.wished i.sends i.next_xid i.grant i.local_releases i.outstanding.items i.answered.items (first_message q.held) (first_message c.args.self.now.state.side.send_queue.held) i.endpoint.staging c.send_held.new.self.staging i.marks c.marks_if-self-inside.result
    c.self.view_is is (ap (λ (h : RequesterSide). first_message h.state.side.send_queue.held) c.self.view_is) c.send_held.ensures.staging c.marks_if-self-inside.ensures
