use Rattle.std.proofs.Common.{arith}
use Rattle.nr_rpc.proofs.FittingCredentials.{sys_fit}
use Rattle.nr_rpc.proofs.cred.sys_fits.Goals as goal

pub returns : goal.returns
returns c =
    sys_fit c.args.stamp c.args.machine.now c.args.uid c.args.gid c.args.gids.now (omega (arith, c.ranges.stamp)) c.requires.machine (omega (arith, c.ranges.uid)) (omega (arith, c.ranges.gid))
    c.requires.gids (λ i. omega (arith, c.type_inv.gids i))
