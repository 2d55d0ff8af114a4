use Rattle.std.proofs.Common.{true, false, sym, ◌∙◌}
use Rattle.nr_wire.specs.View.{segment as plain, result_view}
use Rattle.nr_endpoint.proofs.WholeFrames.{taken_lem}
use Rattle.nr_endpoint.proofs.frames.segment_in_frame.Goals as goal

pub returns-then-is_not_taken-clause-exact : goal.returns-then-is_not_taken-clause-exact
returns-then-is_not_taken-clause-exact c =
    taken_lem true c.args.invalidates c.args.frame.now (result_view plain c.whole_segment-read.result) c.whole_segment-read.ensures.exact (sym c.is_not_taken.ensures ∙ c.if-is_not_taken.true)

pub returns-clause-exact : goal.returns-clause-exact
returns-clause-exact c =
    taken_lem false c.args.invalidates c.args.frame.now (result_view plain c.whole_segment-read.result) c.whole_segment-read.ensures.exact (sym c.is_not_taken.ensures ∙ c.if-is_not_taken.false)
