use Rattle.std.proofs.Common.{sym, subst}
use Rattle.nr_gate.specs.declared.forwarding.Failure.{Failure}
use Rattle.nr_gate.specs.private.Forwarded.{FailsSo}
use Rattle.nr_gate.proofs.Steps.{no_outcome, no_reply, replied}
use Rattle.nr_gate.proofs.forwarding.forward.Goals as goal

pub returns-in-Err-clause-err : goal.returns-in-Err-clause-err
returns-in-Err-clause-err g c bytes asks =
    subst (λ (f : Failure). FailsSo f c.args.pass.now.main c.call.new.pass.main bytes) (sym c.failure_of.ensures)
    (no_outcome c.args.pass.now.main c.call.new.pass.main bytes c.args.xid c.args.asked asks c.in-Err.end c.in-Err.ensures.called)

pub returns-in-Ok-reply_of-clause-ok : goal.returns-in-Ok-reply_of-clause-ok
returns-in-Ok-reply_of-clause-ok g c bytes asks =
    replied c.args.pass.now.main c.call.new.pass.main bytes c.args.xid c.args.asked asks c.in-Ok.done c.in-Ok-reply_of.reply c.in-Ok.ensures.called c.in-Ok-reply_of.ensures.ok

pub returns-in-Err-reply_of-clause-err : goal.returns-in-Err-reply_of-clause-err
returns-in-Err-reply_of-clause-err g c bytes asks =
    no_reply c.args.pass.now.main c.call.new.pass.main bytes c.args.xid c.args.asked asks c.in-Ok.done c.in-Err-reply_of.failure c.in-Ok.ensures.called c.in-Err-reply_of.ensures.err
