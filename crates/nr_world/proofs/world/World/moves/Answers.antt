use Rattle.std.proofs.Common.{refl}
use Rattle.nr_drill.specs.Drill.{after_moves}
use Rattle.nr_drill.proofs.Followed.{moves_adds}
use Rattle.nr_world.proofs.SameServer.{moves_clock}
use Rattle.nr_world.proofs.Stands.{on_ok, world_works}
use Rattle.nr_world.proofs.world.World.moves.Goals as goal

pub returns-clause-stands : goal.returns-clause-stands
returns-clause-stands c = on_ok c.moves.result _ _ c.moves.ensures (world_works after_moves (λ s link d. (moves_adds s link d, moves_clock s link d)) c.args.client c.args.self.now _ c.index_mut.result.now c.moves.new.self
    c.index_mut.ensures.value c.requires (record { first_line = refl; links = refl; owners = refl; seconds = refl; creds = refl }))
