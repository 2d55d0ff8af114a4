use Rattle.nr_regions.specs.Table.{region_of, outside_of, is_dead_of}
use Rattle.nr_regions.proofs.Tables.{mapped_same}
use Rattle.nr_regions.proofs.table.make_room.Goals as goal

pub returns-clause-same : goal.returns-clause-same
returns-clause-same c = mapped_same region_of c.args.regions.now c.reserve.new.self c.reserve.ensures.entries.2

pub returns-clause-outside : goal.returns-clause-outside
returns-clause-outside c = mapped_same outside_of c.args.regions.now c.reserve.new.self c.reserve.ensures.entries.2

pub returns-clause-dead : goal.returns-clause-dead
returns-clause-dead c = mapped_same is_dead_of c.args.regions.now c.reserve.new.self c.reserve.ensures.entries.2
