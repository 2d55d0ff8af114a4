use Rattle.std.proofs.lemmas.Result.{IfOk-weaker}
use Rattle.nr_words.proofs.program.add_path.Goals as goal

pub returns : goal.returns
returns c = IfOk-weaker c.add.result _ _ (λ more adds. adds _ c.with_path.ensures) c.add.ensures
