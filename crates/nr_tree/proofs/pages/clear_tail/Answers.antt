use Rattle.std.proofs.Common.{refl}
use Rattle.nr_tree.proofs.PageLemmas.{tail_cleared}
use Rattle.nr_tree.proofs.pages.clear_tail.Goals as goal

pub returns : goal.returns
returns c = tail_cleared _ _ c.args.from _ c.zero_bytes.result.now refl c.zero_bytes.ensures c.put_or_remove.ensures.over c.put_or_remove.ensures.set
