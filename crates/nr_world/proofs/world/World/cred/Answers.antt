use Rattle.std.specs.Prelude.{◌-◌, slice_set}
use Rattle.std.proofs.Common.{rules, ◌<◌, arith, length, refl, ap}
use Rattle.nr_rpc.specs.declared.cred.Cred.{Cred}
use Rattle.nr_script.specs.declared.script.Line.TheVariants as lines
use Rattle.nr_world.proofs.LineSteps.{client_of, cred_makes, cred_fits}
use Rattle.nr_world.proofs.world.World.cred.Goals as goal

pub index_mut-requires : goal.index_mut-requires
index_mut-requires c =
    let is = (client_of c.args.self.now (lines.Cred c.args.client c.args.cred.now) (lines.Cred c.args.client c.args.cred.now) c.args.client refl refl c.requires).creds in
    let lt : c.args.client - 1 < length c.args.self.now.creds.items = omega (arith, is.0, is.1) in
    search rules

pub returns : goal.returns
returns c = cred_makes c.args.client c.args.cred.now c.args.self.now _ (cred_fits c.args.self.now c.args.client c.args.cred.now c.requires) (record { first_line = refl; links = refl; owners = refl; marks = refl; server = refl }) refl
    (ap (λ (x : Cred). slice_set c.args.self.now.creds.items (c.args.client - 1) x) c.in_ok-self.ensures)
