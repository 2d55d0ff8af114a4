use Rattle.std.proofs.Common.{◌≡◌, ℕ, ◌&&◌, arith, length, not, sym, ap, ◌∙◌, eqb}
use Rattle.nr_requester.specs.MaySubmit.{is_far}
use Rattle.nr_requester.specs.RequesterState.{RequesterSide}
use Rattle.nr_requester.specs.Sending.{least_stored}
use Rattle.nr_requester.proofs.MaySubmit.{far_is, none_is}
use Rattle.nr_requester.proofs.requester.Requester.is_free.Goals as goal

pub returns-then-sends_held-eq0 : goal.returns-then-sends_held-eq0
returns-then-sends_held-eq0 c =
    let r = c.args.self.now.state in
    let view = ap (λ (h : RequesterSide). length h.state.side.send_queue.held) c.self.view_is in
    let counted = c.sends_held.ensures in
    let held : length r.side.send_queue.held ≡ 0 = omega (arith, view, counted, c.if-sends_held-eq0.true) in
    none_is c.beyond_window.result c.is_none.result c.is_none.ensures
    ∙ far_is r.side.terms.number r.next_xid (least_stored r.outstanding) c.beyond_window.result c.beyond_window.ensures
    ∙ sym (ap (λ (n : ℕ). eqb n 0 && not (is_far r.side.terms.number r.next_xid (least_stored r.outstanding))) held)
