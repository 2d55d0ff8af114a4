use Rattle.std.proofs.Common.{◌≡◌, ◌∙◌, Some, sym, rules}
use Rattle.nr_texts.specs.Pieces.{texts}
use Rattle.nr_capture.proofs.ReadCaptures.{mark_writable}
use Rattle.nr_capture.proofs.reading.add_line.Goals as goal

pub push-requires-clause-writable : goal.push-requires-clause-writable
push-requires-clause-writable c =
    let is : c.in_ok-mark.field-0 ≡ Some c.in-Some.mark = search rules in
    mark_writable (texts c.as_slice.result.now) c.in-Some.mark (sym c.in_ok-mark.ensures ∙ is)
