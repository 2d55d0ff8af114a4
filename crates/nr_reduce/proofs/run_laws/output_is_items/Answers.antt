use Rattle.nr_reduce.proofs.OutputItems.{client_output_items}
use Rattle.nr_reduce.proofs.run_laws.output_is_items.Goals as goal

pub returns : goal.returns
returns c = client_output_items
