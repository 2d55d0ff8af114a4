use Rattle.std.proofs.Common.{arith}
use Rattle.nr_regions.specs.RegisteredMemory.{outside_len}
use Rattle.nr_regions.specs.Table.{table, outsides, region_len}
use Rattle.nr_regions.proofs.Totals.{sound_register}
use Rattle.nr_regions.proofs.regions.Regions.register_part.Goals as goal

pub invariant_of-self-in-Ok : goal.invariant_of-self-in-Ok
invariant_of-self-in-Ok c = (
  rw (c.in-Ok.ensures.ok, c.from-in-Ok.ensures, c.len-len.ensures)
      (sound_register region_len c.self.inside.next c.self.inside.bytes (table c.self.inside.held) (record { right = c.args.right; buf = c.args.window.bytes }) c.self.invariant.0 (omega (arith, c.if-self-from.false, c.from.ensures))
      (omega (arith, c.len-len.ensures, c.len-len.type_inv))),
  rw (c.in-Ok.ensures.ok_outside, c.outside_len-outside.ensures)
      (sound_register outside_len c.self.inside.next c.self.inside.bytes_outside (outsides c.self.inside.held) c.args.window.outside c.self.invariant.1 (omega (arith, c.if-self-from.false, c.from.ensures))
      (omega (arith, c.outside_len-outside.ensures, c.outside_len-outside.type_inv))),
)
