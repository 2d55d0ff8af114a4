use Rattle.std.proofs.lemmas.Result.{IfOk-weaker}
use Rattle.nr_words.proofs.program.gate.Goals as goal

pub returns : goal.returns
returns c = IfOk-weaker c.add_positional.result _ _ (λ more adds. adds _ c.named-command.ensures) c.add_positional.ensures
