use Rattle.std.proofs.Common.{ℕ, refl, sym, subst}
use Rattle.nr_reduce.specs.declared.call.Call.{Call}
use Rattle.nr_rpc.specs.Credential.{CanWriteCred}
use Rattle.nr_drill.specs.Drill.{Setting, Drill, after_submit}
use Rattle.nr_drill.proofs.Followed.{submit_adds}
use Rattle.nr_world.proofs.SameServer.{submit_leaves}
use Rattle.nr_world.proofs.Stands.{on_ok, world_goes, submit_goes}
use Rattle.nr_world.proofs.world.World.submit.Goals as goal

pub returns-in-Ok : goal.returns-in-Ok
returns-in-Ok c = on_ok c.submit.result _ _ c.submit.ensures (λ goes. submit_goes c.args.client c.args.self.now _ c.in-Ok.call c.args.form.now c.in_ok-form.form c.args.procedure c.args.args.now c.in-Ok.ensures c.in_ok-form.ensures
    (world_goes (λ (s : Setting) (link : ℕ) (d : Drill). after_submit s link c.in-Ok.call c.in_ok-form.form d) (λ s link d. (submit_adds s link c.in-Ok.call c.in_ok-form.form d, submit_leaves s link c.in-Ok.call c.in_ok-form.form d)) c.args.client c.args.self.now _ c.index_mut.result.now c.submit.new.self
    c.index_mut.ensures.value c.requires.client (record { first_line = refl; links = refl; owners = refl; seconds = refl; creds = refl }) refl goes))

pub submit-requires : goal.submit-requires
submit-requires c = subst (λ (x : Call). CanWriteCred x.cred) (sym c.in-Ok.ensures) c.requires.cred
