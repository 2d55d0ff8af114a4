use Rattle.std.proofs.Common.{arith, sym, ap, ◌∙◌, option_map}
use Rattle.nr_regions.specs.RegisteredMemory.{outside_len}
use Rattle.nr_regions.specs.Table.{table, outsides, outside_of, region_len}
use Rattle.nr_regions.proofs.Totals.{sound_counts, sound_release, held_there}
use Rattle.nr_regions.proofs.regions.Regions.release_part.Goals as goal

pub overflow_sub-self : goal.overflow_sub-self
overflow_sub-self c =
    let there = held_there (table c.self.inside.held) c.self.inside.next _ c.args.self.now c.args.registration c.requires c.self.view_is in
    omega (arith, c.from.ensures, c.len.ensures, c.requires.len, sound_counts region_len c.self.inside.next c.self.inside.bytes (table c.self.inside.held) c.args.registration.stag c.requires.region c.self.invariant.0 there)

pub overflow_sub-self-in-Some : goal.overflow_sub-self-in-Some
overflow_sub-self-in-Some c =
    let there = sym c.take_out.ensures.outside ∙ ap (option_map outside_of) c.in-Some.is in
    omega (arith, c.outside_len.ensures, sound_counts outside_len c.self.inside.next c.self.inside.bytes_outside (outsides c.self.inside.held) c.stag.result _ c.self.invariant.1 there)

pub invariant_of-self : goal.invariant_of-self
invariant_of-self c =
    let there = held_there (table c.self.inside.held) c.self.inside.next _ c.args.self.now c.args.registration c.requires c.self.view_is in (
      rw (c.take_out.ensures.left, c.stag.ensures, c.from.ensures, c.len.ensures, ← c.requires.len)
          (sound_release region_len c.self.inside.next c.self.inside.bytes (table c.self.inside.held) c.args.registration.stag c.requires.region c.self.invariant.0 there),
      rw (c.take_out.ensures.left_outside, c.outside_len.ensures)
          (sound_release outside_len c.self.inside.next c.self.inside.bytes_outside (outsides c.self.inside.held) c.stag.result _ c.self.invariant.1 (sym c.take_out.ensures.outside ∙ ap (option_map outside_of) c.in-Some.is)),
    )
