use Rattle.std.proofs.Common.{◌≡◌, ◌-◌, ◌≤◌, length, take, drop}
use Rattle.std.specs.Io.KnownBytes.{Appends}
use Rattle.nr_endpoint.proofs.output.Pieces.write_out.Given as goal

abbrev pub invariant-loop-total : goal.invariant-loop-total
invariant-loop-total g l = record {
  count : l.total ≤ length l.initial.self;
  left : l.self ≡ drop l.total l.initial.self;
  took : Appends (g.K.Sink.taken l.initial.sink) (g.K.Sink.taken l.sink) (take l.total l.initial.self);
  faults : g.K.Sink.faults l.sink ≡ g.K.Sink.faults l.initial.sink;
}

abbrev pub decreases-loop-total : goal.decreases-loop-total
decreases-loop-total g l = length l.initial.self - l.total
