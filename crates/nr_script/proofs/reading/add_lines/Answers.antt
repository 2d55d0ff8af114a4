use Rattle.std.proofs.Common.{◌≡◌, ◌∷◌, ◌<◌, ◌∙◌, length, true, false, cond, Some, None, ap, rules, arith}
use Rattle.nr_texts.specs.Words.{parts, newline}
use Rattle.nr_texts.proofs.Pieces.{cut_some, shorter_some}
use Rattle.nr_script.proofs.Steps.{bad, more}
use Rattle.nr_script.proofs.reading.add_lines.Goals as goal

pub returns-then-not-branch : goal.returns-then-not-branch
returns-then-not-branch c =
    let is : c.cut.result.1 ≡ Some c.in-Some.next = search rules in
    let cutting : parts newline c.loop-next.rest.now ≡ c.cut.result.0.now ∷ parts newline c.in-Some.next.now = cut_some newline (parts newline c.loop-next.rest.now) c.cut.result.0.now c.cut.result.1 c.in-Some.next c.cut.ensures.parts is in
    let refused : c.in_ok-add_line.field-0 ≡ false = grind (arith, c.if-not-branch.true) in
    c.loop-next.invariant.1
    ∙ bad c.loop-next.number (Some c.loop-next.draft) (parts newline c.loop-next.rest.now) c.cut.result.0.now c.in-Some.next.now cutting
    (c.in_ok-add_line.ensures ∙ ap (λ b. cond b (Some (Some c.add_line.new.draft)) None) refused)

pub loop-next-preserved : goal.loop-next-preserved
loop-next-preserved c =
    let is : c.cut.result.1 ≡ Some c.in-Some.next = search rules in
    let cutting : parts newline c.loop-next.rest.now ≡ c.cut.result.0.now ∷ parts newline c.in-Some.next.now = cut_some newline (parts newline c.loop-next.rest.now) c.cut.result.0.now c.cut.result.1 c.in-Some.next c.cut.ensures.parts is in
    let shorter : length c.in-Some.next.now < length c.loop-next.rest.now = shorter_some c.cut.result.1 c.in-Some.next (length c.loop-next.rest.now) c.cut.ensures.shorter is in
    let taken : c.in_ok-add_line.field-0 ≡ true = grind (arith, c.if-not-branch.false) in (
      omega (arith, c.loop-next.invariant.0, shorter),
      c.loop-next.invariant.1
          ∙ more c.loop-next.number (Some c.loop-next.draft) (Some c.add_line.new.draft) (parts newline c.loop-next.rest.now) c.cut.result.0.now c.in-Some.next.now cutting
          (c.in_ok-add_line.ensures ∙ ap (λ b. cond b (Some (Some c.add_line.new.draft)) None) taken),
    )
