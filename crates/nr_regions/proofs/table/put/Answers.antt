use Rattle.nr_regions.specs.Table.{region_of, outside_of, is_dead_of}
use Rattle.nr_regions.proofs.Tables.{mapped_put}
use Rattle.nr_regions.proofs.table.put.Goals as goal

pub returns-clause-ok : goal.returns-clause-ok
returns-clause-ok c =
    mapped_put region_of c.args.regions.now c.insert.new.self c.args.stag c.args.region (record { each = c.in_ok-insert.ensures.updates.0 })

pub returns-clause-ok_outside : goal.returns-clause-ok_outside
returns-clause-ok_outside c =
    mapped_put outside_of c.args.regions.now c.insert.new.self c.args.stag c.args.region (record { each = c.in_ok-insert.ensures.updates.0 })

pub returns-clause-ok_dead : goal.returns-clause-ok_dead
returns-clause-ok_dead c =
    mapped_put is_dead_of c.args.regions.now c.insert.new.self c.args.stag c.args.region (record { each = c.in_ok-insert.ensures.updates.0 })
