use Rattle.std.proofs.Common.{subst}
use Rattle.nr_reduce.specs.declared.call.Call.{Call}
use Rattle.nr_reduce.specs.declared.call.Form.{Form}
use Rattle.nr_reduce.specs.declared.call.Submission.TheVariants as submissions
use Rattle.nr_reduce.specs.declared.mark.Mark.TheVariants as marks
use Rattle.nr_requester.specs.ReopenedLinks.{KeepsOn}
use Rattle.nr_world.proofs.calls.submit_copy.Goals as goal

pub returns-in-Ok-submit-clause-stands : goal.returns-in-Ok-submit-clause-stands
returns-in-Ok-submit-clause-stands c =
    subst (λ (f : Form). KeepsOn c.args.client.now (λ link. marks.Submit link c.args.call.now f (submissions.Accepted c.in-Ok-submit.ticket)) c.submit.new.self) c.in-Ok.ensures
    (subst (λ (x : Call). KeepsOn c.args.client.now (λ link. marks.Submit link x c.in-Ok.form (submissions.Accepted c.in-Ok-submit.ticket)) c.submit.new.self) c.in-Ok-copy_call.ensures c.in-Ok-submit.ensures.keeps)
