use Rattle.std.proofs.Common.{ℕ, refl}
use Rattle.nr_drill.specs.Drill.{Setting, Drill, after_revoke}
use Rattle.nr_drill.proofs.Followed.{revoke_adds}
use Rattle.nr_world.proofs.SameServer.{revoke_leaves}
use Rattle.nr_world.proofs.Stands.{on_ok, world_goes}
use Rattle.nr_world.proofs.world.World.revoke.Goals as goal

pub returns : goal.returns
returns c = on_ok c.revoke.result _ _ c.revoke.ensures (world_goes (λ (s : Setting) (link : ℕ) (d : Drill). after_revoke s link c.args.number d) (λ s link d. (revoke_adds s link c.args.number d, revoke_leaves s link c.args.number d)) c.args.client c.args.self.now _ c.index_mut.result.now c.revoke.new.self
    c.index_mut.ensures.value c.requires (record { first_line = refl; links = refl; owners = refl; seconds = refl; creds = refl }) refl)
