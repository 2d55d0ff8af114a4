use Rattle.nr_tree.proofs.Walks.{within_is, not_within_is}
use Rattle.nr_tree.proofs.tree.Tree.is_within.Goals as goal

pub returns-clause-below : goal.returns-clause-below
returns-clause-below c = within_is c.args.self.now c.args.dir c.args.top c.facts.ensures c.requires.directory c.is_within_inner.result c.is_within_inner.ensures

pub returns-clause-apart : goal.returns-clause-apart
returns-clause-apart c = not_within_is c.args.self.now c.args.dir c.args.top c.facts.ensures c.requires.directory c.is_within_inner.result c.is_within_inner.ensures
