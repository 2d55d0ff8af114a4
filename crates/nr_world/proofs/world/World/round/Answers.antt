use Rattle.std.proofs.Common.{◌≡◌, ◌<◌, arith, length, ◌∙◌}
use Rattle.nr_world.proofs.Rounds.{round_begin, round_on, round_end}
use Rattle.nr_world.proofs.world.World.round.Goals as goal

pub loop-at-init : goal.loop-at-init
loop-at-init c =
    let count : length c.args.self.now.links.items ≡ c.len-at-end.result = omega (arith, c.len-at-end.ensures) in
    (count, round_begin c.args.self.now)

pub loop-at-preserved : goal.loop-at-preserved
loop-at-preserved c =
    let lt : c.loop-at.at < length c.loop-at.self.links.items = omega (arith, c.loop-at.invariant.0, c.loop-at-test.true) in
    (c.in_ok-moves.ensures.count ∙ c.loop-at.invariant.0, round_on c.args.self.now c.loop-at.self c.moves.new.self c.loop-at.at lt c.loop-at.invariant.1 c.in_ok-moves.ensures.stands)

pub returns : goal.returns
returns c = round_end c.args.self.now c.loop-at.self c.loop-at.at (omega (arith, c.loop-at.invariant.0, c.loop-at-test.false)) c.loop-at.invariant.1
