use Rattle.std.proofs.Common.{◌≡◌, ◌∙◌, Some, sym, rules}
use Rattle.nr_texts.specs.Pieces.{texts}
use Rattle.nr_capture.proofs.ReadCaptures.{opening_writable}
use Rattle.nr_capture.proofs.reading.first_line.Goals as goal

pub new-requires : goal.new-requires
new-requires c =
    let is : c.opening_in.result ≡ Some c.in-Some.opening = search rules in
    opening_writable (texts c.as_slice.result.now) c.in-Some.opening (sym c.opening_in.ensures ∙ is)
