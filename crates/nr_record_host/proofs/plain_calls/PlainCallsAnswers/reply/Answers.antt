use Rattle.std.proofs.Common.{ap, subst}
use Rattle.std.specs.Prelude.{is_ok}
use Rattle.nr_rpc.specs.Reading.{call_of}
use Rattle.nr_plain.specs.Stands.{IsCause}
use Rattle.nr_plain.specs.declared.fault.Fault.{Fault}
use Rattle.nr_plain.specs.History.{pass_view}
use Rattle.nr_record_loop.specs.declared.answering.NoReply.TheVariants as reasons
use Rattle.nr_record_host.proofs.PlainCalls.{did_more, did_none}
use Rattle.nr_record_host.proofs.plain_calls.PlainCallsAnswers.reply.Goals as goal

pub returns-in-Ok-clause-ok : goal.returns-in-Ok-clause-ok
returns-in-Ok-clause-ok g c first xs did =
    did_more (g.C.Clock.gave c.args.self.now.clock.now) (g.C.Clock.gave c.now-moment.new.self) (pass_view c.args.self.now.pass.now) (pass_view c.execute.new.pass) c.now-moment.result
    c.now-moment.ensures.gave (g.C.Clock.gave first.clock.now) (pass_view first.pass.now) xs did c.args.call.now c.in-Ok.reply.payload c.in-Ok.reply.place c.in-Ok.ensures.executed

pub returns-in-Err-NotCall-clause-err : goal.returns-in-Err-NotCall-clause-err
returns-in-Err-NotCall-clause-err g c = (
  ap is_ok (subst (λ (e : Fault). IsCause e (call_of c.args.call.now)) c.in-Err-NotCall.field-0-is c.in-Err-NotCall.ensures.cause),
  λ first xs did. did_none (g.C.Clock.gave c.args.self.now.clock.now) (g.C.Clock.gave c.now-moment.new.self) (pass_view c.args.self.now.pass.now) (pass_view c.execute.new.pass) c.now-moment.result
      c.now-moment.ensures.gave (g.C.Clock.gave first.clock.now) (pass_view first.pass.now) xs did c.in-Err-NotCall.ensures.err c.args.call.now reasons.NotCall tt,
)

pub returns-in-Err-Memory-clause-err : goal.returns-in-Err-Memory-clause-err
returns-in-Err-Memory-clause-err g c = (
  tt,
  λ first xs did. did_none (g.C.Clock.gave c.args.self.now.clock.now) (g.C.Clock.gave c.now-moment.new.self) (pass_view c.args.self.now.pass.now) (pass_view c.execute.new.pass) c.now-moment.result
      c.now-moment.ensures.gave (g.C.Clock.gave first.clock.now) (pass_view first.pass.now) xs did c.in-Err-Memory.ensures.err c.args.call.now reasons.Memory tt,
)

pub unreachable-requires : goal.unreachable-requires
unreachable-requires g c = subst (λ (e : Fault). IsCause e (call_of c.args.call.now)) c.in-Err-Old.field-0-is c.in-Err-Old.ensures.cause
