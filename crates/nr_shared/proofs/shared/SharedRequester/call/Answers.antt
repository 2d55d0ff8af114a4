use Rattle.std.proofs.Common.{inl, inr}
use Rattle.nr_shared.proofs.Submitting.{no_answer, own_answer, sent_open_call}
use Rattle.nr_shared.proofs.shared.SharedRequester.call.Goals as goal

pub wait-requires-clause-has_call : goal.wait-requires-clause-has_call
wait-requires-clause-has_call g c = sent_open_call c.args.pass.now.main c.submit.new.pass.main c.args.call c.args.form c.in-Ok.ticket c.in-Ok.ensures.rests.caller.lies c.in-Ok.ensures.submitted

pub returns-in-Err-clause-called : goal.returns-in-Err-clause-called
returns-in-Err-clause-called g c = inl c.in-Err.ensures.submitted

pub returns-in-Ok-wait-clause-called : goal.returns-in-Ok-wait-clause-called
returns-in-Ok-wait-clause-called g c =
    own_answer c.args.pass.now.main c.submit.new.pass.main c.wait.new.pass.main c.args.call c.args.form c.in-Ok.ticket c.in-Ok-wait.done c.requires.rests.caller.lies c.in-Ok.ensures.submitted c.in-Ok-wait.ensures.waited

pub returns-in-Err-wait-clause-called : goal.returns-in-Err-wait-clause-called
returns-in-Err-wait-clause-called g c =
    inr (no_answer c.args.pass.now.main c.submit.new.pass.main c.wait.new.pass.main c.args.call c.args.form c.in-Ok.ticket c.in-Err-wait.end c.requires.rests.caller.lies c.in-Ok.ensures.submitted c.in-Err-wait.ensures.waited)
