use Rattle.std.proofs.Common.{ap, ◌∙◌}
use Rattle.nr_tree.specs.Steps.{links_at}
use Rattle.nr_tree.specs.Tree.{Tree}
use Rattle.nr_ops_file.proofs.Sizes.{links_with_size}
use Rattle.nr_ops_file.proofs.attributes.set_size.Goals as goal

pub returns-in-Some-clause-links : goal.returns-in-Some-clause-links
returns-in-Some-clause-links c =
    ap (λ (t : Tree). links_at t c.args.number) c.set_size.ensures.tree ∙ links_with_size c.args.tree.now c.args.now c.args.number c.in-Some.size
