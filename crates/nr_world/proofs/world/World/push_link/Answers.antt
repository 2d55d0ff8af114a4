use Rattle.std.proofs.Common.{refl}
use Rattle.nr_world.proofs.OpenLinks.{opens_one}
use Rattle.nr_world.proofs.world.World.push_link.Goals as goal

pub returns-in-Ok : goal.returns-in-Ok
returns-in-Ok c = opens_one c.args.client c.args.self.now _ c.in_ok-link.link c.in_ok-link.ensures
    (record { first_line = refl; links = c.in-Ok.ensures.items; owners = c.in_ok-push.ensures.items; server = refl; seconds = refl; creds = refl })
