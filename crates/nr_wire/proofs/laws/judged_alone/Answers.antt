use Rattle.nr_wire.proofs.FrontFrame.{hello_in_frame, segment_in_frame_lem}
use Rattle.nr_wire.proofs.laws.judged_alone.Goals as goal

pub returns-clause-hello : goal.returns-clause-hello
returns-clause-hello c = hello_in_frame

pub returns-clause-segment : goal.returns-clause-segment
returns-clause-segment c = segment_in_frame_lem
