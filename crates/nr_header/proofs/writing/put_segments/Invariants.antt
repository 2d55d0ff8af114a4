use Rattle.std.proofs.Common.{◌≡◌, ◌++◌, [], drop}
use Rattle.nr_xdr.specs.Items.{encodings}
use Rattle.nr_header.specs.Header.{segments_items}
use Rattle.nr_header.proofs.writing.put_segments.Given as goal

abbrev pub invariant-loop-segment : goal.invariant-loop-segment
invariant-loop-segment l = l.writer ++ encodings (segments_items (drop l.segment-index l.segments) []) ≡ l.fn.writer ++ encodings (segments_items l.segments [])
