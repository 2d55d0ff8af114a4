use Rattle.std.proofs.Common.{◌≡◌, take}
use Rattle.nr_world.proofs.copying.copy_gids.Given as goal

abbrev pub invariant-gids : goal.invariant-gids
invariant-gids l = l.copy ≡ take l.gid-index l.of
