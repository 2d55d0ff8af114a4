use Rattle.std.proofs.Common.{length, map}
use Rattle.nr_world.specs.Views.{held_view}
use Rattle.nr_world.proofs.NotedCalls.{NotedSome}
use Rattle.nr_world.proofs.resending.add_resends.Given as goal

abbrev pub invariant-calls : goal.invariant-calls
invariant-calls l = NotedSome l.link l.waiting (map held_view l.fn.held.items) (map held_view l.held.items) l.fn.marks l.marks

abbrev pub decreases-calls : goal.decreases-calls
decreases-calls l = length l.held.items
