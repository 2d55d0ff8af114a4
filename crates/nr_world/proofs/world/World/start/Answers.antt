use Rattle.std.proofs.Common.{refl}
use Rattle.nr_world.proofs.OpenLinks.{start_stands}
use Rattle.nr_world.proofs.world.World.start.Goals as goal

pub returns-in-Ok : goal.returns-in-Ok
returns-in-Ok c =
    let (tree, sane, server) = c.in-Ok.ensures in
    (tree, sane, start_stands tree c.args.opening _ c.in-Ok.server refl c.new.ensures.items c.new-in-Ok.ensures.items c.new-in-Ok-2.ensures refl c.in_ok-push_creds.ensures c.new-in-Ok-3.ensures server)
