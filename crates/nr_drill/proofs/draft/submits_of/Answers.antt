use Rattle.std.proofs.Common.{arith}
use Rattle.nr_reduce.specs.declared.mark.Mark.TheVariants as marks
use Rattle.nr_drill.proofs.Counting.{counted, not_counted}
use Rattle.nr_drill.proofs.draft.submits_of.Goals.{then-is_submit_of, else-is_submit_of}
use Rattle.nr_drill.proofs.draft.submits_of.Goals as goal

pub loop-at-preserved : goal.loop-at-preserved
loop-at-preserved c = elim c.if-is_submit_of.branch [
  | then-is_submit_of w ↦ counted c.args.clients.now c.args.client c.loop-at.at c.args.marks.now (marks.Drop 0) c.loop-at.count c.if-is_submit_of.count c.is_submit_of.result (omega arith) (c.is_submit_of.ensures (marks.Drop 0)) w.if-is_submit_of.true w.count-is c.loop-at.invariant
  | else-is_submit_of w ↦ not_counted c.args.clients.now c.args.client c.loop-at.at c.args.marks.now (marks.Drop 0) c.loop-at.count c.if-is_submit_of.count c.is_submit_of.result (omega arith) (c.is_submit_of.ensures (marks.Drop 0)) w.if-is_submit_of.false w.count-is c.loop-at.invariant
]
