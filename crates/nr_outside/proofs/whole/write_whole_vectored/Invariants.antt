use Rattle.std.proofs.Common.{◌≡◌, ◌-◌, ◌≤◌, ◌++◌, length, take}
use Rattle.std.specs.Io.KnownBytes.{Appends}
use Rattle.nr_outside.proofs.whole.write_whole_vectored.Given as goal

abbrev pub invariant-loop-at : goal.invariant-loop-at
invariant-loop-at g l =
    (l.at ≤ length (l.head ++ l.body))
    × Appends (g.K.Sink.taken l.initial.sink) (g.K.Sink.taken l.sink) (take l.at (l.head ++ l.body))
    × (g.K.Sink.faults l.sink ≡ g.K.Sink.faults l.initial.sink)

abbrev pub decreases-loop-at : goal.decreases-loop-at
decreases-loop-at g l = length (l.head ++ l.body) - l.at
