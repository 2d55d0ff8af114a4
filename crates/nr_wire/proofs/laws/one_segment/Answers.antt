use Rattle.nr_wire.proofs.Segments.{segment_of_iff}
use Rattle.nr_wire.proofs.laws.one_segment.Goals as goal

pub returns : goal.returns
returns c = segment_of_iff
