use Rattle.nr_regions.proofs.Holding.{keeps_release}
use Rattle.nr_regions.proofs.regions.Regions.release.Goals as goal

pub returns-clause-keeps : goal.returns-clause-keeps
returns-clause-keeps c = λ claim ne h. rw c.release_part.ensures.dead (keeps_release c.args.self.now.memory c.args.registration.stag claim ne h)
