use Rattle.std.proofs.Common.{◌≡◌}
use Rattle.nr_client.specs.private.InputWindows.{TakesMore}
use Rattle.nr_client.proofs.InputWindows.{left_to_read}
use Rattle.nr_client.proofs.input_window.InputWindow.fill.Given as goal

abbrev pub invariant-loop-self : goal.invariant-loop-self
invariant-loop-self g l =
    TakesMore l.wanted (g.N.Source.left l.initial.input) (g.N.Source.given l.initial.input) (g.N.Source.left l.input) (g.N.Source.given l.input) l.initial.self l.self
    × (g.N.Source.faults l.input ≡ g.N.Source.faults l.initial.input)

abbrev pub decreases-loop-self : goal.decreases-loop-self
decreases-loop-self g l = left_to_read l.wanted l.self
