use Rattle.std.proofs.Common.{ℕ, refl}
use Rattle.nr_drill.specs.Drill.{Setting, Drill, after_forget}
use Rattle.nr_drill.proofs.Followed.{forget_adds}
use Rattle.nr_world.proofs.SameServer.{forget_leaves}
use Rattle.nr_world.proofs.Stands.{on_ok, world_goes}
use Rattle.nr_world.proofs.world.World.forget.Goals as goal

pub returns : goal.returns
returns c = on_ok c.forget.result _ _ c.forget.ensures (world_goes (λ (s : Setting) (link : ℕ) (d : Drill). after_forget s link c.args.number d) (λ s link d. (forget_adds s link c.args.number d, forget_leaves s link c.args.number d)) c.args.client c.args.self.now _ c.index_mut.result.now c.forget.new.self
    c.index_mut.ensures.value c.requires (record { first_line = refl; links = refl; owners = refl; seconds = refl; creds = refl }) refl)
