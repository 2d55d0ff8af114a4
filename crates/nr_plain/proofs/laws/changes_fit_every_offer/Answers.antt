use Rattle.nr_plain.proofs.Changes.{changes_short, changes_held}
use Rattle.nr_plain.proofs.Placed.{changes_held_at}
use Rattle.nr_plain.proofs.laws.changes_fit_every_offer.Goals as goal

pub returns-clause-short : goal.returns-clause-short
returns-clause-short c = changes_short

pub returns-clause-holds : goal.returns-clause-holds
returns-clause-holds c = changes_held

pub returns-clause-placed : goal.returns-clause-placed
returns-clause-placed c = changes_held_at
