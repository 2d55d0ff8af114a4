use Rattle.std.proofs.lemmas.Result.{IfOk-weaker}
use Rattle.nr_words.proofs.program.client.Goals as goal

pub returns : goal.returns
returns c =
    let s1 = c.in_ok-command.ensures _ c.named.ensures in
    let s2 = c.in_ok-command-2.ensures _ s1 in
    IfOk-weaker c.add_client_options.result _ _ (λ more adds. adds _ s2) c.add_client_options.ensures
