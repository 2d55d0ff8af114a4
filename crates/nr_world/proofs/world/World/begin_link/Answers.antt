use Rattle.std.proofs.Common.{◌≡◌, ◌+◌, arith, length, length-append, ap, refl, ◌∙◌}
use Rattle.nr_world.proofs.BeginsLinks.{begins_link}
use Rattle.nr_world.proofs.Stands.{on_ok}
use Rattle.nr_world.proofs.world.World.begin_link.Goals as goal

pub returns : goal.returns
returns c =
    let all : c.len-number.result ≡ length c.push.new.self.items = omega (arith, c.len-number.ensures) in
    let number : c.len-number.result ≡ length c.args.self.now.owners.items + 1 =
    all ∙ ap length c.in_ok-push.ensures.items ∙ length-append c.args.self.now.owners.items _ in
    on_ok c.reopen.result _ _ c.reopen.ensures (λ reopens. begins_link c.args.client c.args.self.now _ c.index_mut.result.now c.reopen.new.self c.len-number.result c.index_mut.ensures.value c.requires number
    (record { first_line = refl; links = refl; owners = c.in_ok-push.ensures.items; server = refl; seconds = refl; creds = refl }) reopens)
