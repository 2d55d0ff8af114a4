use Rattle.nr_wire.proofs.Frames.{fpdu_holds}
use Rattle.nr_wire.proofs.segment.next_segment_inner.Goals as goal

pub segment_of-requires-clause-control : goal.segment_of-requires-clause-control
segment_of-requires-clause-control c = rw c.split_at.ensures.front (fpdu_holds _ c.in-Some.ensures.frame.0).0

pub segment_of-requires-clause-whole : goal.segment_of-requires-clause-whole
segment_of-requires-clause-whole c = rw c.split_at.ensures.front (fpdu_holds _ c.in-Some.ensures.frame.0).1
