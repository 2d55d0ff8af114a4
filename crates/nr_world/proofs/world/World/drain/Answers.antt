use Rattle.std.proofs.Common.{rules, ◌≡◌, true, false}
use Rattle.nr_world.proofs.LineSteps.{rounds_begin, rounds_on, rounds_end}
use Rattle.nr_world.proofs.world.World.drain.Goals as goal

pub loop-round-init : goal.loop-round-init
loop-round-init c = rounds_begin c.args.self.now

pub loop-round-preserved : goal.loop-round-preserved
loop-round-preserved c =
    let answer : c.is_still.result ≡ false = search rules in
    rounds_on c.args.self.now c.loop-round.self c.round.new.self c.is_still.result answer c.loop-round.invariant c.is_still.ensures c.in_ok-round.ensures

pub returns-then-is_still : goal.returns-then-is_still
returns-then-is_still c =
    let answer : c.is_still.result ≡ true = search rules in
    rounds_end c.args.self.now c.loop-round.self c.is_still.result answer c.loop-round.invariant c.is_still.ensures
