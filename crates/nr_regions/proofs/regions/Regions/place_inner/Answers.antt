use Rattle.std.proofs.Common.{◌≡◌, OnOk, sym, subst}
use Rattle.std.specs.Ordering.{nat_cmp}
use Rattle.std.specs.FinMap.{FinMap}
use Rattle.nr_regions.specs.RegisteredMemory.{Outside, RegionTable, RegisteredMemory, after_place, outside_len}
use Rattle.nr_regions.specs.Table.{table, dead_flags, IsTotal}
use Rattle.nr_regions.proofs.Totals.{sound_placed, placed_memory}
use Rattle.nr_regions.proofs.regions.Regions.place_inner.Goals as goal

pub invariant_of-self : goal.invariant_of-self
invariant_of-self c = (
  sound_placed c.write_allowed.result c.self.inside.next c.self.inside.bytes (dead_flags c.self.inside.held) (table c.self.inside.held) (table c.write_allowed.new.regions) c.args.stag c.args.to c.args.bytes.now
      c.self.invariant.0 c.write_allowed.ensures.found c.write_allowed.ensures.within c.write_allowed.ensures.bytes c.write_allowed.ensures.err,
  subst (λ (held : FinMap nat_cmp Outside). IsTotal outside_len c.self.inside.next c.self.inside.bytes_outside held) (sym c.write_allowed.ensures.outside) c.self.invariant.1,
)

pub returns-clause-ok : goal.returns-clause-ok
returns-clause-ok c =
    subst (λ (t : RegionTable). OnOk c.write_allowed.result (◌≡◌ {A = RegisteredMemory} (record { next = c.self.inside.next; held = table c.write_allowed.new.regions; dead = dead_flags c.write_allowed.new.regions }) (after_place t.memory c.args.stag c.args.to c.args.bytes.now)))
    c.self.view_is
    (placed_memory c.write_allowed.result c.self.inside.next (dead_flags c.self.inside.held) (dead_flags c.write_allowed.new.regions) (table c.self.inside.held) (table c.write_allowed.new.regions) c.args.stag c.args.to c.args.bytes.now
    c.write_allowed.ensures.found c.write_allowed.ensures.bytes c.write_allowed.ensures.dead)
