use Rattle.std.proofs.Common.{ℕ, refl, sym, subst}
use Rattle.nr_drill.specs.Drill.{Setting, Drill, after_grant}
use Rattle.nr_drill.proofs.Followed.{grant_adds}
use Rattle.nr_world.specs.DrillLinkState.{DrillLinkState}
use Rattle.nr_reduce.specs.Served.{CreditsInRange}
use Rattle.nr_world.proofs.SameServer.{grant_leaves}
use Rattle.nr_world.proofs.Stands.{on_ok, world_goes}
use Rattle.nr_world.proofs.world.World.grant.Goals as goal

pub grant-requires-clause-some : goal.grant-requires-clause-some
grant-requires-clause-some c = (c.requires.credits c.index_mut.result.now).0

pub grant-requires-clause-few : goal.grant-requires-clause-few
grant-requires-clause-few c =
    (subst (λ (v : DrillLinkState). CreditsInRange v.server.credits.receives c.args.credits) (sym c.index_mut.ensures.value) (c.requires.credits c.index_mut.result.now)).1

pub returns : goal.returns
returns c = on_ok c.grant.result _ _ c.grant.ensures (world_goes (λ (s : Setting) (link : ℕ) (d : Drill). after_grant link c.args.credits d) (λ s link d. (grant_adds link c.args.credits d, grant_leaves s link c.args.credits d)) c.args.client c.args.self.now _ c.index_mut.result.now c.grant.new.self
    c.index_mut.ensures.value c.requires.client (record { first_line = refl; links = refl; owners = refl; seconds = refl; creds = refl }) refl)
