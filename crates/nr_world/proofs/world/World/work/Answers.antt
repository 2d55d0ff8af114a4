use Rattle.std.proofs.Common.{refl}
use Rattle.nr_drill.specs.Drill.{after_work}
use Rattle.nr_drill.proofs.Followed.{work_adds}
use Rattle.nr_world.proofs.SameServer.{work_clock}
use Rattle.nr_world.proofs.Stands.{on_ok, world_works}
use Rattle.nr_world.proofs.world.World.work.Goals as goal

pub returns : goal.returns
returns c = on_ok c.work.result _ _ c.work.ensures (world_works after_work (λ s link d. (work_adds s link d, work_clock s link d)) c.args.client c.args.self.now _ c.index_mut.result.now c.work.new.self
    c.index_mut.ensures.value c.requires (record { first_line = refl; links = refl; owners = refl; seconds = refl; creds = refl }))
