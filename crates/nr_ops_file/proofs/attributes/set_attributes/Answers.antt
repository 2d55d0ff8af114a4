use Rattle.std.proofs.Common.{◌∙◌}
use Rattle.nr_tree.specs.Changes.{tree_with_metadata}
use Rattle.nr_ops_file.proofs.attributes.set_attributes.Goals as goal

pub returns : goal.returns
returns c = c.set_metadata.ensures.tree ∙ λ i. tree_with_metadata (c.set_size.ensures.tree i) c.args.number (c.metadata_after.ensures i)
