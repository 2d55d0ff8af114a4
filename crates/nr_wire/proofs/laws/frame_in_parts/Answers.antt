use Rattle.std.proofs.Common.{append_assoc}
use Rattle.nr_wire.specs.Segment.{encoding, payload_in, segment_header, segment_tail, ulpdu_size}
use Rattle.nr_wire.proofs.laws.frame_in_parts.Goals as goal

pub returns : goal.returns
unfolding encoding
returns c = λ segment. append_assoc (segment_header segment) (payload_in segment) (segment_tail (ulpdu_size segment))
