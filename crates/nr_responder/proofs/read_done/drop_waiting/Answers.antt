use Rattle.std.proofs.Common.{◌∙◌, arith}
use Rattle.nr_responder.proofs.read_done.drop_waiting.Goals as goal

pub reads-preserved : goal.reads-preserved
reads-preserved c = record {
  left = c.drop_at-at.ensures.left ∙ c.reads.invariant.left;
  count = (let one = c.drop_at-at.ensures.count in let count = c.reads.invariant.count in omega (arith, one, count));
}
