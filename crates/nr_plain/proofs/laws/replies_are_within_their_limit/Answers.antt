use Rattle.nr_plain.proofs.AtPlaces.{within_limit_at}
use Rattle.nr_plain.proofs.laws.replies_are_within_their_limit.Goals as goal

pub returns : goal.returns
returns c = within_limit_at
