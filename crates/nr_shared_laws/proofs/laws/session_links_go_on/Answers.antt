use Rattle.nr_shared_laws.proofs.Sessions.{session_links_go_on}
use Rattle.nr_shared_laws.proofs.laws.session_links_go_on.Goals as goal

pub returns : goal.returns
returns c = session_links_go_on
