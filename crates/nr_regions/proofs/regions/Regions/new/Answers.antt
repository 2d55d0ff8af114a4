use Rattle.std.proofs.Common.{sym, subst, arith}
use Rattle.std.specs.Ordering.{nat_cmp}
use Rattle.std.specs.FinMap.{FinMap}
use Rattle.nr_regions.specs.RegisteredMemory.{Region, Outside, outside_len}
use Rattle.nr_regions.specs.Table.{IsTotal, region_len}
use Rattle.nr_regions.proofs.Totals.{sound_initial}
use Rattle.nr_regions.proofs.regions.Regions.new.Goals as goal

pub invariant_of-result : goal.invariant_of-result
invariant_of-result c = (
  subst (λ (held : FinMap nat_cmp Region). IsTotal region_len c.from.result 0 held) (sym c.no_regions.ensures.regions)
      (sound_initial region_len c.from.result (omega (arith, c.from.ensures, c.ranges.first_stag))),
  subst (λ (held : FinMap nat_cmp Outside). IsTotal outside_len c.from.result 0 held) (sym c.no_regions.ensures.outside)
      (sound_initial outside_len c.from.result (omega (arith, c.from.ensures, c.ranges.first_stag))),
)
