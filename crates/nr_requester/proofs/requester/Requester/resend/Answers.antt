use Rattle.std.proofs.Common.{◌≡◌, length, true, false, sym, ap, ◌∙◌, arith}
use Rattle.nr_requester.specs.RequesterState.{RequesterSide}
use Rattle.nr_requester.specs.Resends.{with_resends}
use Rattle.nr_requester.specs.private.Resuming.{first_message}
use Rattle.nr_requester.proofs.ResendSteps.{resend_fewer, resend_keeps_rest, resends_none, resends_on, waits_if}
use Rattle.nr_requester.proofs.requester.Requester.resend.Goals as goal

pub resends-smaller : goal.resends-smaller
resends-smaller c =
    let h = c.resends.self in
    let may = sym c.may_resend.ensures ∙ c.resends-test.true in
    let after = ap (λ (x : RequesterSide). length x.state.side.send_queue.held) c.resend_one.ensures in
    let fewer = resend_fewer h (first_message h.state.side.send_queue.held) (waits_if h may) in
    omega (arith, after, fewer)

pub resends-preserved : goal.resends-preserved
resends-preserved c =
    let h = c.resends.self in
    let may = sym c.may_resend.ensures ∙ c.resends-test.true in
    record {
      same = ap with_resends c.resend_one.ensures ∙ resends_on h may ∙ c.resends.invariant.same;
      lives = ap (λ (x : RequesterSide). x.state.side.ended) c.resend_one.ensures ∙ (resend_keeps_rest h (first_message h.state.side.send_queue.held)).ended ∙ c.resends.invariant.lives;
    }

pub returns : goal.returns
returns c = sym (resends_none c.resends.self (sym c.may_resend.ensures ∙ c.resends-test.false)) ∙ c.resends.invariant.same
