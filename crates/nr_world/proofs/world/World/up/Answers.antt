use Rattle.std.proofs.Common.{ℕ, refl}
use Rattle.nr_drill.specs.Drill.{Setting, Drill, after_up}
use Rattle.nr_drill.proofs.Followed.{up_adds}
use Rattle.nr_world.proofs.SameServer.{up_leaves}
use Rattle.nr_world.proofs.Stands.{on_ok, world_goes}
use Rattle.nr_world.proofs.world.World.up.Goals as goal

pub returns : goal.returns
returns c = on_ok c.up.result _ _ c.up.ensures (world_goes (λ (s : Setting) (link : ℕ) (d : Drill). after_up s link c.args.most d) (λ s link d. (up_adds s link c.args.most d, up_leaves s link c.args.most d)) c.args.client c.args.self.now _ c.index_mut.result.now c.up.new.self
    c.index_mut.ensures.value c.requires (record { first_line = refl; links = refl; owners = refl; seconds = refl; creds = refl }) refl)
