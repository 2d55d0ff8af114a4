use Rattle.std.proofs.lemmas.Result.{IfOk-weaker}
use Rattle.nr_words.proofs.program.add_client_options.Goals as goal

pub returns : goal.returns
returns c =
    IfOk-weaker c.add_number-5.result _ _
    (λ more adds app a.
    let s1 = c.in_ok-command.ensures _ a in
    let s2 = c.in_ok-command-2.ensures _ s1 in
    let s3 = c.in_ok-command-3.ensures _ s2 in
    let s4 = c.in_ok-command-4.ensures _ s3 in
    let s5 = c.in_ok-command-5.ensures _ s4 in
    adds _ s5)
    c.add_number-5.ensures
