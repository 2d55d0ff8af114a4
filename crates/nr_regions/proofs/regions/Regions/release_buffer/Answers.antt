use Rattle.std.proofs.Common.{ap, is_some}
use Rattle.nr_regions.proofs.Holding.{keeps_release}
use Rattle.nr_regions.proofs.regions.Regions.release_buffer.Goals as goal

pub returns-clause-around : goal.returns-clause-around
returns-clause-around c = ap is_some c.release_part.ensures.around

pub returns-clause-keeps : goal.returns-clause-keeps
returns-clause-keeps c = λ claim ne h. rw c.release_part.ensures.dead (keeps_release c.args.self.now.memory c.args.registration.stag claim ne h)
