use Rattle.std.proofs.Common.{IfOk, subst}
use Rattle.nr_script.specs.Script.{ScriptLines}
use Rattle.nr_top.specs.declared.drill.ScriptSource.TheVariants as sources
use Rattle.nr_top.specs.Ends.{IsPrinted}
use Rattle.nr_top.proofs.drill.make_and_run.Goals as goal

pub returns : goal.returns
returns c =
    subst (λ (s : ScriptLines). IfOk c.run_script.result (λ text. IsPrinted c.args.log (sources.Seed c.args.seed c.args.clients c.args.calls) s text)) c.in_ok-script.ensures c.run_script.ensures
