use Rattle.std.proofs.Common.{◌<◌, Bool, cond, [], ◌++◌, length, sym, ap, ◌∙◌, arith}
use Rattle.std.proofs.lemmas.Bool.{ne_eqb}
use Rattle.std.proofs.lemmas.Grind.{common_steps}
use Rattle.nr_link.specs.Output.{write}
use Rattle.nr_endpoint.specs.Offering.{writes_output}
use Rattle.nr_responder.proofs.Writes.{output_push}
use Rattle.nr_responder.proofs.answering.push_some.Goals as goal

pub returns-clause-output : goal.returns-clause-output
returns-clause-output c =
    let some : 0 < length c.args.bytes.now = grind (arith, common_steps, c.is_empty.ensures, c.if-is_empty.false) in
    ap writes_output c.in_ok-push.ensures.items
    ∙ output_push c.args.writes.now.items _
    ∙ ap (λ (b : Bool). writes_output c.args.writes.now.items ++ cond b [] (write c.args.segment.handle c.args.segment.offset c.args.bytes.now)) (sym (ne_eqb (length c.args.bytes.now) 0 (λ e. omega (arith, e, some))))
