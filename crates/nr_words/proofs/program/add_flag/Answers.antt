use Rattle.std.proofs.lemmas.Result.{IfOk-weaker}
use Rattle.nr_words.proofs.Programs.{one_rule}
use Rattle.nr_words.proofs.program.add_flag.Goals as goal

pub returns : goal.returns
returns c = IfOk-weaker c.arg.result _ _ (λ more adds app a. one_rule a c.flag.ensures.rule c.flag.ensures.local adds) c.arg.ensures
