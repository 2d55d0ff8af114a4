use Rattle.std.proofs.Common.{arith}
use Rattle.nr_endpoint.proofs.FreshRegions.{released_memory, released_outside}
use Rattle.nr_endpoint.proofs.link.fresh_regions.Goals as goal

pub returns-in-Ok-clause-memory : goal.returns-in-Ok-clause-memory
returns-in-Ok-clause-memory c =
    released_memory c.new-regions.result.memory c.register.new.self.memory c.release.new.self.memory 4294967295 c.args.first_stag _ _ c.in-Ok.registration c.new-regions.ensures.memory c.in-Ok.ensures.ok.0 c.in-Ok.ensures.ok.1 c.release.ensures.dead
    (omega (arith, c.requires.most, c.from.ensures, c.if-first_stag-from.false))

pub returns-in-Ok-clause-outside : goal.returns-in-Ok-clause-outside
returns-in-Ok-clause-outside c =
    released_outside c.new-regions.result.memory c.new-regions.result.outside c.register.new.self.outside c.release.new.self.outside _ c.in-Ok.registration _ c.new-regions.ensures.outside c.in-Ok.ensures.ok.0 c.in-Ok.ensures.outside c.release.ensures.outside
