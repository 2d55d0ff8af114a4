use Rattle.nr_shared_laws.proofs.Sessions.{represented_links_go_on}
use Rattle.nr_shared_laws.proofs.laws.represented_links_go_on.Goals as goal

pub returns : goal.returns
returns c = represented_links_go_on
