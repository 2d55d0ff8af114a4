use Rattle.std.proofs.Common.{length, ◌-◌}
use Rattle.nr_requester.proofs.Staging.{TakenTo}
use Rattle.nr_requester.proofs.requester.Requester.take_frames.Given as goal

abbrev pub invariant-pieces : goal.invariant-pieces
invariant-pieces l = TakenTo l.fn.self l.fn.piece l.self l.at

abbrev pub decreases-pieces : goal.decreases-pieces
decreases-pieces l = length l.fn.piece - l.at
