use Rattle.std.proofs.Common.{ℕ, ◌++◌, ◌∙◌}
use Rattle.nr_reduce.specs.declared.call.Call.{Call}
use Rattle.nr_reduce.specs.declared.call.Refused.{Refused}
use Rattle.nr_reduce.specs.CallOutlines.{outline_plan}
use Rattle.nr_requester.proofs.Views.{if_ok, if_err}
use Rattle.nr_requester.proofs.Within.{call_small}
use Rattle.nr_requester.proofs.Answered.{is_plan_lem, again_lem, live_answer, accepted_answer, refused_answer, too_large_answer}
use Rattle.nr_requester.proofs.requester.Requester.submit_written.Goals as goal

pub returns-in-Ok-clause-accepted : goal.returns-in-Ok-clause-accepted
returns-in-Ok-clause-accepted c =
    if_ok c.accept.result
    (λ (xid : ℕ) w. accepted_answer c.args.self.now.state c.args.call c.args.form.now (outline_plan (c.args.head.now ++ c.args.call.args) c.in-Ok.outline) xid c.requires.live c.in-Ok.ensures.outline w.0)
    c.accept.ensures.accepted

pub returns-in-Ok-clause-refused : goal.returns-in-Ok-clause-refused
returns-in-Ok-clause-refused c =
    if_err c.accept.result
    (λ (e : Call × Refused) w. refused_answer c.args.self.now.state c.args.call c.args.form.now (outline_plan (c.args.head.now ++ c.args.call.args) c.in-Ok.outline) c.requires.live c.in-Ok.ensures.outline e.1 w)
    c.accept.ensures.refused

pub returns-in-Err-clause-refused : goal.returns-in-Err-clause-refused
returns-in-Err-clause-refused c =
    λ other. live_answer c.args.self.now.state c.args.call c.args.form.now c.requires.live
    ∙ too_large_answer c.args.self.now.state c.args.call c.args.form.now (record { need = c.in-Err.field-0.need; room = c.in-Err.field-0.room }) c.in-Err.ensures.outline

pub accept-requires-clause-small : goal.accept-requires-clause-small
accept-requires-clause-small c =
    call_small c.args.self.now.state.next_xid c.args.call c.args.form.now c.args.self.now.state.side.agreed.up c.args.self.now.state.side.agreed.down (outline_plan (c.args.head.now ++ c.args.call.args) c.in-Ok.outline) c.in-Ok.ensures.outline c.requires.cred

pub accept-requires-clause-planned : goal.accept-requires-clause-planned
accept-requires-clause-planned c =
    is_plan_lem c.args.self.now.state c.args.call c.args.form.now (outline_plan (c.args.head.now ++ c.args.call.args) c.in-Ok.outline) c.planned.ensures.short c.in-Ok.ensures.outline

pub accept-requires-clause-again : goal.accept-requires-clause-again
accept-requires-clause-again c =
    again_lem c.args.self.now.state c.args.call c.args.form.now (outline_plan (c.args.head.now ++ c.args.call.args) c.in-Ok.outline) c.planned.ensures.short c.in-Ok.ensures.outline
