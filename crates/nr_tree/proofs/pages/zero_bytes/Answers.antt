use Rattle.nr_tree.proofs.PageLemmas.{first_zeros}
use Rattle.nr_tree.proofs.pages.zero_bytes.Goals as goal

pub returns : goal.returns
returns c = first_zeros _ c.args.len c.requires
