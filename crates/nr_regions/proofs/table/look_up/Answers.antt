use Rattle.std.proofs.Common.{sym, ap, ◌∙◌, option_map}
use Rattle.nr_regions.specs.Table.{region_of, is_dead_of}
use Rattle.nr_regions.proofs.Tables.{get_mapped}
use Rattle.nr_regions.proofs.table.look_up.Goals as goal

pub returns-clause-region : goal.returns-clause-region
returns-clause-region c = ap (option_map region_of) c.get.ensures.value ∙ sym (get_mapped region_of c.args.regions.now c.args.stag)

pub returns-clause-dead : goal.returns-clause-dead
returns-clause-dead c = ap (option_map is_dead_of) c.get.ensures.value ∙ sym (get_mapped is_dead_of c.args.regions.now c.args.stag)
