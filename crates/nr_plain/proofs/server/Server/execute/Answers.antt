use Rattle.std.proofs.Common.{refl}
use Rattle.std.proofs.lemmas.Result.{IfOk-weaker}
use Rattle.nr_plain.proofs.Executed.{executed}
use Rattle.nr_plain.proofs.NumberedAnswers.{unnumbered_executes}
use Rattle.nr_plain.proofs.server.Server.execute.Goals as goal

pub returns-clause-executed : goal.returns-clause-executed
returns-clause-executed c =
    IfOk-weaker c.execute_now.result _ _ (λ r x s J is. executed s J c.args.self.now c.execute_now.new.self c.args.now c.args.payload.now r.payload r.place is x) c.execute_now.ensures.executed

pub returns-clause-numbered : goal.returns-clause-numbered
returns-clause-numbered c =
    IfOk-weaker c.execute_now.result _ _
    (λ r x s T is. (unnumbered_executes c.args.now c.args.payload.now r.payload r.place c.args.self.now c.execute_now.new.self x s T 0 is refl).stands) c.execute_now.ensures.executed
