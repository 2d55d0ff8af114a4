use Rattle.std.proofs.lemmas.Result.{IfOk-weaker, IfOk-at_ok}
use Rattle.nr_words.proofs.Programs.{one_more}
use Rattle.nr_words.proofs.program.add.Goals as goal

pub returns : goal.returns
returns c = IfOk-weaker c.subcommand.result _ _ (λ more adds sub builds app a. one_more a (IfOk-at_ok _ c.in_ok-command.was builds) adds) c.subcommand.ensures
