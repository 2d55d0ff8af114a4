use Rattle.nr_pair_laws.proofs.Getting.{gets_read_the_file_lem}
use Rattle.nr_pair_laws.proofs.laws.commands_get_the_file.Goals as goal

pub returns : goal.returns
returns c = gets_read_the_file_lem
