use Rattle.std.proofs.Common.{◌≡◌, map, take}
use Rattle.nr_world.specs.Views.{call_view, held_view}
use Rattle.nr_world.proofs.resending.held_calls.Given as goal

abbrev pub invariant-calls : goal.invariant-calls
invariant-calls l = map held_view l.held.items ≡ map call_view (take l.call-index l.awaited)
