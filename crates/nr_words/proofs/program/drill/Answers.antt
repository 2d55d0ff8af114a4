use Rattle.std.proofs.lemmas.Result.{IfOk-weaker}
use Rattle.nr_words.proofs.program.drill.Goals as goal

pub returns : goal.returns
returns c =
    let s1 = c.in_ok-command.ensures _ c.named.ensures in
    let s2 = c.in_ok-command-2.ensures _ s1 in
    let s3 = c.in_ok-command-3.ensures _ s2 in
    IfOk-weaker c.add_flag.result _ _ (λ more adds. adds _ s3) c.add_flag.ensures
