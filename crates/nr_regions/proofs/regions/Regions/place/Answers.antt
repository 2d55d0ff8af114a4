use Rattle.nr_regions.proofs.Holding.{keeps_place}
use Rattle.nr_regions.proofs.regions.Regions.place.Goals as goal

pub returns-clause-keeps : goal.returns-clause-keeps
returns-clause-keeps c =
    keeps_place c.place_inner.result c.args.self.now.memory c.place_inner.new.self.memory c.args.kind c.args.stag c.args.to c.args.bytes.now c.place_inner.ensures.exact c.place_inner.ensures.ok c.place_inner.ensures.err
