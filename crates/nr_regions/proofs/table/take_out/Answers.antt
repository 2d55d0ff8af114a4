use Rattle.std.proofs.Common.{sym, ap, ◌∙◌, option_map}
use Rattle.nr_regions.specs.Table.{region_of, outside_of, is_dead_of}
use Rattle.nr_regions.proofs.Tables.{get_mapped, mapped_take_out}
use Rattle.nr_regions.proofs.table.take_out.Goals as goal

pub returns-clause-region : goal.returns-clause-region
returns-clause-region c = ap (option_map region_of) c.remove.ensures.value ∙ sym (get_mapped region_of c.args.regions.now c.args.stag)

pub returns-clause-outside : goal.returns-clause-outside
returns-clause-outside c = ap (option_map outside_of) c.remove.ensures.value ∙ sym (get_mapped outside_of c.args.regions.now c.args.stag)

pub returns-clause-left : goal.returns-clause-left
returns-clause-left c =
    mapped_take_out region_of c.args.regions.now c.remove.new.self c.args.stag (record { each = c.remove.ensures.updates.0 })

pub returns-clause-left_outside : goal.returns-clause-left_outside
returns-clause-left_outside c =
    mapped_take_out outside_of c.args.regions.now c.remove.new.self c.args.stag (record { each = c.remove.ensures.updates.0 })

pub returns-clause-left_dead : goal.returns-clause-left_dead
returns-clause-left_dead c =
    mapped_take_out is_dead_of c.args.regions.now c.remove.new.self c.args.stag (record { each = c.remove.ensures.updates.0 })
