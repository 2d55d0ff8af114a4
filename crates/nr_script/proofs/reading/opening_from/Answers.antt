use Rattle.std.proofs.Common.{◌≡◌, ◌∷◌, ◌<◌, ◌∙◌, length, Some, None, refl, rules, arith}
use Rattle.nr_texts.specs.Words.{parts, newline}
use Rattle.nr_script.specs.Script.{with_text, script_of}
use Rattle.nr_script.specs.private.Steps.{opened}
use Rattle.nr_texts.proofs.Pieces.{cut_some, shorter_some}
use Rattle.nr_script.proofs.Steps.{more, opens, skips}
use Rattle.nr_script.proofs.TypedScripts.{opened_clients}
use Rattle.nr_script.proofs.reading.opening_from.Goals as goal

pub loop-next-init : goal.loop-next-init
unfolding script_of
loop-next-init c = (omega arith, refl)

pub returns-in-Some-Some : goal.returns-in-Some-Some
returns-in-Some-Some c =
    let is : c.cut.result.1 ≡ Some c.in-Some.next = search rules in
    let cutting : parts newline c.loop-next.rest.now ≡ c.cut.result.0.now ∷ parts newline c.in-Some.next.now = cut_some newline (parts newline c.loop-next.rest.now) c.cut.result.0.now c.cut.result.1 c.in-Some.next c.cut.ensures.parts is in
    let shorter : length c.in-Some.next.now < length c.loop-next.rest.now = shorter_some c.cut.result.1 c.in-Some.next (length c.loop-next.rest.now) c.cut.ensures.shorter is in
    let read : c.in_ok-first_line.field-0 ≡ Some (Some c.in-Some-Some.opening) = search rules in
    let some : with_text None c.cut.result.0.now ≡ Some (Some (opened c.in-Some-Some.opening)) = opens (with_text None c.cut.result.0.now) c.in_ok-first_line.field-0 c.in-Some-Some.opening c.in_ok-first_line.ensures read in
    record {
      says = c.loop-next.invariant.1 ∙ more c.loop-next.number None (Some (opened c.in-Some-Some.opening)) (parts newline c.loop-next.rest.now) c.cut.result.0.now c.in-Some.next.now cutting some;
      few_clients = opened_clients c.cut.result.0.now c.in-Some-Some.opening some;
      short = omega (arith, c.loop-next.invariant.0, shorter);
    }

pub loop-next-preserved : goal.loop-next-preserved
loop-next-preserved c =
    let is : c.cut.result.1 ≡ Some c.in-Some.next = search rules in
    let cutting : parts newline c.loop-next.rest.now ≡ c.cut.result.0.now ∷ parts newline c.in-Some.next.now = cut_some newline (parts newline c.loop-next.rest.now) c.cut.result.0.now c.cut.result.1 c.in-Some.next c.cut.ensures.parts is in
    let shorter : length c.in-Some.next.now < length c.loop-next.rest.now = shorter_some c.cut.result.1 c.in-Some.next (length c.loop-next.rest.now) c.cut.ensures.shorter is in
    let read : c.in_ok-first_line.field-0 ≡ Some None = search rules in
    let some : with_text None c.cut.result.0.now ≡ Some None = skips (with_text None c.cut.result.0.now) c.in_ok-first_line.field-0 c.in_ok-first_line.ensures read in (
      omega (arith, c.loop-next.invariant.0, shorter),
      c.loop-next.invariant.1 ∙ more c.loop-next.number None None (parts newline c.loop-next.rest.now) c.cut.result.0.now c.in-Some.next.now cutting some,
    )
