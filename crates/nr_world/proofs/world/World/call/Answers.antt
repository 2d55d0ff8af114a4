use Rattle.std.specs.Prelude.{◌-◌}
use Rattle.std.proofs.Common.{◌≡◌, ◌<◌, arith, length, ◌∙◌, get_or}
use Rattle.nr_rpc.specs.declared.cred.Cred.TheVariants as creds
use Rattle.std.proofs.lemmas.List.{get_or_default}
use Rattle.nr_world.proofs.world.World.call.Goals as goal

pub returns : goal.returns
returns c =
    let lt : c.args.client - 1 < length c.args.self.now.creds.items = omega (arith, c.requires.0, c.requires.1) in
    let cred : c.in_ok-cred.cred ≡ get_or c.args.self.now.creds.items (c.args.client - 1) creds.None =
    c.in_ok-cred.ensures ∙ c.index.ensures ∙ get_or_default c.args.self.now.creds.items (c.args.client - 1) c.index.result.now creds.None lt in
    let args = c.in-Ok.ensures in
    cc
