use Rattle.std.proofs.Common.{ℕ, refl}
use Rattle.nr_drill.specs.Drill.{Setting, Drill, after_drop}
use Rattle.nr_drill.proofs.Followed.{drop_adds}
use Rattle.nr_world.proofs.SameServer.{drop_leaves}
use Rattle.nr_world.proofs.Stands.{on_ok, world_goes}
use Rattle.nr_world.proofs.world.World.drop_link.Goals as goal

pub returns-clause-stands : goal.returns-clause-stands
returns-clause-stands c = on_ok c.drop_link.result _ _ c.drop_link.ensures (world_goes (λ (s : Setting) (link : ℕ) (d : Drill). after_drop link d) (λ s link d. (drop_adds link d, drop_leaves s link d)) c.args.client c.args.self.now _ c.index_mut.result.now c.drop_link.new.self
    c.index_mut.ensures.value c.requires (record { first_line = refl; links = refl; owners = refl; seconds = refl; creds = refl }) refl)
