use Rattle.std.proofs.Common.{◌≡◌, OnOk, sym, subst}
use Rattle.std.specs.Ordering.{nat_cmp}
use Rattle.std.specs.FinMap.{FinMap}
use Rattle.nr_regions.specs.RegisteredMemory.{Outside, Region, RegionTable, RegisteredMemory, after_invalidate, outside_len}
use Rattle.nr_regions.specs.Table.{table, dead_flags, IsTotal, region_len}
use Rattle.nr_regions.proofs.Totals.{died_memory}
use Rattle.nr_regions.proofs.regions.Regions.invalidate_inner.Goals as goal

pub invariant_of-self : goal.invariant_of-self
invariant_of-self c = (
  subst (λ (held : FinMap nat_cmp Region). IsTotal region_len c.self.inside.next c.self.inside.bytes held) (sym c.mark_dead.ensures.same) c.self.invariant.0,
  subst (λ (held : FinMap nat_cmp Outside). IsTotal outside_len c.self.inside.next c.self.inside.bytes_outside held) (sym c.mark_dead.ensures.outside) c.self.invariant.1,
)

pub returns-clause-ok : goal.returns-clause-ok
returns-clause-ok c =
    subst (λ (t : RegionTable). OnOk c.mark_dead.result (◌≡◌ {A = RegisteredMemory} (record { next = c.self.inside.next; held = table c.mark_dead.new.regions; dead = dead_flags c.mark_dead.new.regions }) (after_invalidate t.memory c.args.stag)))
    c.self.view_is
    (died_memory c.mark_dead.result c.self.inside.next (dead_flags c.self.inside.held) (dead_flags c.mark_dead.new.regions) (table c.self.inside.held) (table c.mark_dead.new.regions) c.args.stag
    c.mark_dead.ensures.exact c.mark_dead.ensures.ok c.mark_dead.ensures.same)
