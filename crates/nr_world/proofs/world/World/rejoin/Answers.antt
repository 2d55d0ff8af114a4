use Rattle.std.specs.Prelude.{is_some}
use Rattle.std.proofs.Common.{rules, ◌≡◌, true, false, None, subst, sym, ℕ, ◌≤◌}
use Rattle.nr_world.proofs.RejoinSteps.{rejoin_ended, rejoin_dropped, rejoin_drops}
use Rattle.nr_world.proofs.Stands.{on_ok}
use Rattle.nr_world.proofs.world.World.rejoin.Goals as goal

pub returns-then-is_some : goal.returns-then-is_some
returns-then-is_some c =
    let ended : is_some c.client_end.result ≡ true = search rules in
    rejoin_ended c.args.client c.args.self.now c.index.result.now c.client_end.result c.index.ensures c.requires c.client_end.ensures ended

pub begin_link-requires : goal.begin_link-requires
begin_link-requires c = c.requires

pub returns-then-is_dropped : goal.returns-then-is_dropped
returns-then-is_dropped c =
    let live : c.client_end.result ≡ None = search rules in
    let gone : c.is_dropped.result ≡ true = search rules in
    on_ok c.begin_link.result _ _ c.begin_link.ensures (rejoin_dropped c.args.client c.args.self.now c.begin_link.new.self c.index.result.now c.index-2.result.now c.client_end.result c.is_dropped.result c.index.ensures c.index-2.ensures c.requires c.client_end.ensures live
    c.is_dropped.ensures gone)

pub begin_link-requires-2 : goal.begin_link-requires-2
begin_link-requires-2 c = (c.requires.0, subst (λ (n : ℕ). c.args.client ≤ n) (sym c.in_ok-drop_link.ensures.count) c.requires.1)

pub returns : goal.returns
returns c =
    let live : c.client_end.result ≡ None = search rules in
    let stands : c.is_dropped.result ≡ false = search rules in
    on_ok c.begin_link-2.result _ _ c.begin_link-2.ensures (rejoin_drops c.args.client c.args.self.now c.drop_link.new.self c.begin_link-2.new.self c.index.result.now c.index-2.result.now c.client_end.result c.is_dropped.result c.index.ensures c.index-2.ensures c.requires c.client_end.ensures live
    c.is_dropped.ensures stands c.in_ok-drop_link.ensures.stands)
