use Rattle.nr_regions.proofs.Holding.{keeps_invalidate}
use Rattle.nr_regions.proofs.regions.Regions.invalidate.Goals as goal

pub returns-clause-keeps : goal.returns-clause-keeps
returns-clause-keeps c = keeps_invalidate c.invalidate_inner.result c.args.self.now.memory c.invalidate_inner.new.self.memory c.args.stag c.invalidate_inner.ensures.ok c.invalidate_inner.ensures.err
