use Rattle.nr_wire.proofs.Frames.{frame_found, none_iff}
use Rattle.nr_wire.proofs.stream.whole_frame.Goals as goal

pub returns-clause-frame : goal.returns-clause-frame
returns-clause-frame c = frame_found c.args.awaited c.args.bytes.now c.whole_frame_inner.result c.whole_frame_inner.ensures.exact

pub returns-clause-partial : goal.returns-clause-partial
returns-clause-partial c = none_iff c.args.awaited c.args.bytes.now c.whole_frame_inner.result c.whole_frame_inner.ensures.exact
