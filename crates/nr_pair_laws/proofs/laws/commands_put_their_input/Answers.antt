use Rattle.nr_pair_laws.proofs.Putting.{puts_input}
use Rattle.nr_pair_laws.proofs.laws.commands_put_their_input.Goals as goal

pub returns : goal.returns
returns c = puts_input
