use Rattle.std.proofs.Common.{Ok, inl, subst}
use Rattle.nr_record_loop.specs.declared.answering.NoReply.TheVariants as reasons
use Rattle.nr_gate.specs.private.Forwarded.{FailsSo, IsAsked, kept_end}
use Rattle.nr_gate.specs.declared.asking.RecordCall.{RecordCall}
use Rattle.nr_gate.specs.declared.forwarding.Failure.{Failure}
use Rattle.nr_gate.proofs.Steps.{asks_none, gates_none, gates_one, mismatched}
use Rattle.nr_gate.proofs.forwarding.ForwardedCallsAnswers.reply.Goals as goal

pub returns-in-Err-clause-err : goal.returns-in-Err-clause-err
returns-in-Err-clause-err g c =
    let e = kept_end c.args.self.now.ended in
    let p = c.args.self.now.pass.now.main in
    let none = c.in-Err.ensures in (
      (asks_none e e p p c.args.call.now c.in-Err.reason none).0,
      λ first xs did. (asks_none e e first.pass.now.main p c.args.call.now c.in-Err.reason none).1 xs did,
    )

pub returns-in-Ok-clause-ok : goal.returns-in-Ok-clause-ok
returns-in-Ok-clause-ok g c first xs did =
    let asked = subst (λ (r : RecordCall). IsAsked (Ok r) c.args.call.now) c.in-Ok-Version2.field-0-is c.in-Ok-Version2.ensures in
    let e = kept_end c.args.self.now.ended in
    gates_one e e first.pass.now.main c.args.self.now.pass.now.main c.forward.new.pass.main xs c.args.call.now c.in-Ok.reply (inl (c.in-Ok.ensures.ok c.args.call.now asked.0)) did

pub returns-in-Ok-Other-clause-ok : goal.returns-in-Ok-Other-clause-ok
returns-in-Ok-Other-clause-ok g c =
    let asked = subst (λ (r : RecordCall). IsAsked (Ok r) c.args.call.now) c.in-Ok-Other.field-0-is c.in-Ok-Other.ensures in
    mismatched (λ s. s.pass.now.main) c.args.self.now c.args.call.now c.in-Ok-Other.xid c.mismatch.result asked c.mismatch.ensures.ok

pub returns-in-Err-Memory-clause-err : goal.returns-in-Err-Memory-clause-err
returns-in-Err-Memory-clause-err g c =
    let asked = subst (λ (r : RecordCall). IsAsked (Ok r) c.args.call.now) c.in-Ok-Version2.field-0-is c.in-Ok-Version2.ensures in
    let e = kept_end c.args.self.now.ended in
    let failed = subst (λ (f : Failure). FailsSo f c.args.self.now.pass.now.main c.forward.new.pass.main c.args.call.now) c.in-Err-Memory.field-0-is (c.in-Err-Memory.ensures.err c.args.call.now asked.0) in
    (tt, λ first xs did. gates_none e e first.pass.now.main c.args.self.now.pass.now.main c.forward.new.pass.main xs c.args.call.now reasons.Memory failed did)

pub returns-in-Err-Ended-clause-err : goal.returns-in-Err-Ended-clause-err
returns-in-Err-Ended-clause-err g c =
    let asked = subst (λ (r : RecordCall). IsAsked (Ok r) c.args.call.now) c.in-Ok-Version2.field-0-is c.in-Ok-Version2.ensures in
    let failed = subst (λ (f : Failure). FailsSo f c.args.self.now.pass.now.main c.forward.new.pass.main c.args.call.now) c.in-Err-Ended.field-0-is (c.in-Err-Ended.ensures.err c.args.call.now asked.0) in (
      tt,
      λ first xs did. gates_none (kept_end c.args.self.now.ended) c.in-Err-Ended.end first.pass.now.main c.args.self.now.pass.now.main c.forward.new.pass.main xs c.args.call.now reasons.Other failed did,
    )
