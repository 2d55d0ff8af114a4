use Rattle.nr_tree.proofs.Walks.{walk_finds_ancestors}
use Rattle.nr_tree.proofs.ancestry.walks_find_ancestors.Goals as goal

pub returns : goal.returns
returns c = walk_finds_ancestors
