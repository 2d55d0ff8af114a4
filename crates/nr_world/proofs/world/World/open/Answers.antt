use Rattle.std.proofs.Common.{refl}
use Rattle.nr_world.proofs.world.World.open.Goals as goal

pub returns-in-Ok : goal.returns-in-Ok
returns-in-Ok c =
    let (tree, sane, has) = c.in_ok-world.ensures in
    (tree, sane, c.in-Ok.ensures c.args.opening refl tree has)
