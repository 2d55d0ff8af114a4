use Rattle.std.proofs.Common.{◌≡◌, ◌-◌}
use Rattle.nr_outside.specs.Whole.{input_max}
use Rattle.nr_client.specs.private.FileSteps.{StreamsOn}
use Rattle.nr_client.specs.private.InputWindows.{IsReadyAt}
use Rattle.nr_client.proofs.write_file.write_pieces.Given as goal

abbrev pub invariant-pieces : goal.invariant-pieces
invariant-pieces g l =
    IsReadyAt l.at (g.N.Source.left l.input) l.window
    × StreamsOn g.L.Calls.relations l.uid l.gid l.file 0 l.at l.initial.window l.window (g.L.Calls.at l.initial.link) (g.L.Calls.at l.link) (g.N.Source.left l.initial.input) (g.N.Source.given l.initial.input) (g.N.Source.left l.input) (g.N.Source.given l.input)
    × (g.N.Source.faults l.input ≡ g.N.Source.faults l.initial.input)
    × (g.L.Calls.relations.faults (g.L.Calls.at l.link) ≡ g.L.Calls.relations.faults (g.L.Calls.at l.initial.link))

abbrev pub decreases-pieces : goal.decreases-pieces
decreases-pieces g l = input_max - l.at
