use Rattle.nr_plain.proofs.PlainServers.{server_is_plain}
use Rattle.nr_plain.proofs.laws.server_is_plain.Goals as goal

pub returns : goal.returns
returns c = server_is_plain
