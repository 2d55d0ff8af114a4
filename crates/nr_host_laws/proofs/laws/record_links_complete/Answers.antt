use Rattle.nr_host_laws.proofs.LinksComplete.{record_links_complete}
use Rattle.nr_host_laws.proofs.laws.record_links_complete.Goals as goal

pub returns : goal.returns
returns c = record_links_complete
