use Rattle.std.proofs.lemmas.Result.{IfOk-weaker}
use Rattle.nr_words.proofs.program.get.Goals as goal

pub returns : goal.returns
returns c = IfOk-weaker c.add_number.result _ _ (λ more adds. adds _ c.in_ok-command.ensures) c.add_number.ensures
