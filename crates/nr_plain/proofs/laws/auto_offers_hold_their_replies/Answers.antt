use Rattle.nr_plain.proofs.AtPlaces.{auto_held_at}
use Rattle.nr_plain.proofs.laws.auto_offers_hold_their_replies.Goals as goal

pub returns : goal.returns
returns c = auto_held_at
