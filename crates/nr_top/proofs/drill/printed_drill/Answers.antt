use Rattle.std.proofs.Common.{refl}
use Rattle.nr_script.specs.Generator.{made_script}
use Rattle.nr_top.proofs.drill.printed_drill.Goals as goal

pub returns-in-Ok : goal.returns-in-Ok
returns-in-Ok g c =
    rw (c.in-Seed.is) (record { script = made_script c.in-Seed.seed c.in-Seed.clients c.in-Seed.calls; given = (refl, refl); prints = c.in-Ok.ensures })
