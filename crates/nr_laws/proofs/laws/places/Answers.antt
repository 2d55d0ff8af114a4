use Rattle.nr_laws.proofs.Following.{places_follow}
use Rattle.nr_laws.proofs.laws.places.Goals as goal

pub returns : goal.returns
returns c = places_follow
