use Rattle.std.proofs.lemmas.Result.{IfOk-weaker}
use Rattle.nr_words.specs.Program.{program_app}
use Rattle.nr_words.proofs.program.program.Goals as goal

pub returns : goal.returns
unfolding program_app
returns c =
    let s1 = c.in_ok-program.ensures _ c.serve.ensures _ c.plain.ensures in
    let s2 = c.in_ok-program-2.ensures _ c.gate.ensures _ s1 in
    let s3 = c.in_ok-program-3.ensures _ c.client-mount.ensures _ s2 in
    let s4 = c.in_ok-program-4.ensures _ s3 in
    let s5 = c.in_ok-program-5.ensures _ c.get.ensures _ s4 in
    let s6 = c.in_ok-program-6.ensures _ c.link.ensures _ s5 in
    IfOk-weaker c.add-6.result _ _ (λ r h. h _ c.drill.ensures _ s6) c.add-6.ensures
