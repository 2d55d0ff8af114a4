use Rattle.std.proofs.Common.{ℕ, refl}
use Rattle.nr_drill.specs.Drill.{Setting, Drill, after_down}
use Rattle.nr_drill.proofs.Followed.{down_adds}
use Rattle.nr_world.proofs.SameServer.{down_leaves}
use Rattle.nr_world.proofs.Stands.{on_ok, world_goes}
use Rattle.nr_world.proofs.world.World.down.Goals as goal

pub returns : goal.returns
returns c = on_ok c.down.result _ _ c.down.ensures (world_goes (λ (s : Setting) (link : ℕ) (d : Drill). after_down s link c.args.most d) (λ s link d. (down_adds s link c.args.most d, down_leaves s link c.args.most d)) c.args.client c.args.self.now _ c.index_mut.result.now c.down.new.self
    c.index_mut.ensures.value c.requires (record { first_line = refl; links = refl; owners = refl; seconds = refl; creds = refl }) refl)
