use Rattle.std.proofs.Common.{ℕ, ◌≤◌, ap, sym, subst, ◌∙◌}
use Rattle.nr_rpc.specs.declared.head.CallTarget.{CallTarget}
use Rattle.nr_rpc.specs.Call.{call_head, call_of_target}
use Rattle.nr_reduce.specs.CallOutlines.{OutlineAnswers, parts_payload}
use Rattle.nr_reduce.specs.Plans.{plan_of}
use Rattle.nr_requester.specs.RequesterState.{RequesterSide}
use Rattle.nr_requester.specs.HeldBytes.{receive_max}
use Rattle.nr_requester.specs.Sending.{head_under}
use Rattle.nr_requester.proofs.Answered.{outlined_by}
use Rattle.nr_requester.proofs.requester.Requester.planned.Goals as goal

pub written_parts-parts-requires-clause-head : goal.written_parts-parts-requires-clause-head
written_parts-parts-requires-clause-head c =
    c.requires.head
    ∙ ap (λ (h : RequesterSide). head_under h.state.next_xid c.args.call.now) (sym c.self.view_is)
    ∙ ap (λ (t : CallTarget). call_head (call_of_target t c.args.call.now.cred)) (sym c.target_under.ensures)

pub returns-clause-outline : goal.returns-clause-outline
returns-clause-outline c =
    let next = ap (λ (h : RequesterSide). h.state.next_xid) c.self.view_is in
    outlined_by c.args.self.now.state c.args.call.now c.args.form.now c.self.inside.next_xid c.target_under.result c.args.head.now c.as_slice.result.now (parts_payload c.written_parts-parts.result) c.outline_of.result (sym next) c.self.invariant.0.xid
    c.target_under.ensures c.as_slice.ensures c.requires.head c.written_parts-parts.ensures.payload
    (subst (λ (n : ℕ). OutlineAnswers (parts_payload c.written_parts-parts.result) c.outline_of.result (plan_of (parts_payload c.written_parts-parts.result) c.args.form.now n c.args.self.now.state.side.agreed.down)) (c.agreed-up.ensures.up ∙ ap (λ (h : RequesterSide). h.state.side.agreed.up) c.self.view_is)
    (subst (λ (n : ℕ). OutlineAnswers (parts_payload c.written_parts-parts.result) c.outline_of.result (plan_of (parts_payload c.written_parts-parts.result) c.args.form.now c.agreed-up.result.0 n)) (c.agreed-up.ensures.down ∙ ap (λ (h : RequesterSide). h.state.side.agreed.down) c.self.view_is) c.outline_of.ensures))

pub returns-clause-short : goal.returns-clause-short
returns-clause-short c = subst (λ (h : RequesterSide). h.state.side.agreed.up ≤ receive_max) c.self.view_is c.self.invariant.1.0.link.up.1
