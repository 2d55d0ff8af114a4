use Rattle.std.proofs.lemmas.Result.{IfErr-weaker, IfOk-weaker}
use Rattle.nr_plain.specs.History.{pass_view}
use Rattle.nr_plain.proofs.TurnAnswers.{unnumbered_cause, unnumbered_executes}
use Rattle.nr_plain.proofs.turns.execute.Goals as goal

pub returns-clause-executed : goal.returns-clause-executed
returns-clause-executed g c =
    IfOk-weaker c.execute_for.result _ _
    (λ r done. unnumbered_executes (pass_view c.args.pass.now) (pass_view c.execute_for.new.pass) c.args.now c.args.payload.now r.payload r.place done) c.execute_for.ensures.answered

pub returns-clause-cause : goal.returns-clause-cause
returns-clause-cause g c =
    IfErr-weaker c.execute_for.result _ _ (λ e why. unnumbered_cause (pass_view c.args.pass.now) (pass_view c.execute_for.new.pass) c.args.payload.now e why) c.execute_for.ensures.cause
