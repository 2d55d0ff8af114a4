use Rattle.std.proofs.Common.{length}
use Rattle.nr_endpoint.proofs.Pieces.{IsFedTo}
use Rattle.nr_endpoint.proofs.endpoint.Endpoint.feed.Given as goal

abbrev pub invariant-loop-left : goal.invariant-loop-left
invariant-loop-left l = IsFedTo l.fn.self l.fn.piece l.self l.left

abbrev pub decreases-loop-left : goal.decreases-loop-left
decreases-loop-left l = length l.left
