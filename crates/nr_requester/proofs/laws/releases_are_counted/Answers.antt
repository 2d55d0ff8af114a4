use Rattle.nr_requester.proofs.CountedReleases.{named_is_not_counted}
use Rattle.nr_requester.proofs.laws.releases_are_counted.Goals as goal

pub returns : goal.returns
returns c = named_is_not_counted
