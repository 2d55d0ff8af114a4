use Rattle.std.proofs.Common.{◌≡◌, ◌-◌, ◌≤◌, length, take, drop}
use Rattle.std.specs.Io.KnownBytes.{Appends}
use Rattle.nr_endpoint.proofs.output.write_run.Given as goal

abbrev pub invariant-loop-count : goal.invariant-loop-count
invariant-loop-count g l = record {
  count : l.count ≤ length l.initial.run.items;
  left : l.run.items ≡ drop l.count l.initial.run.items;
  spare : l.run.spare ≡ l.initial.run.spare;
  took : Appends (g.K.Sink.taken l.initial.sink) (g.K.Sink.taken l.sink) (take l.count l.initial.run.items);
  faults : g.K.Sink.faults l.sink ≡ g.K.Sink.faults l.initial.sink;
}

abbrev pub decreases-loop-count : goal.decreases-loop-count
decreases-loop-count g l = length l.initial.run.items - l.count
