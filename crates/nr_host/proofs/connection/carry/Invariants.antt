use Rattle.nr_turnstile.specs.Passes.{Rests}
use Rattle.nr_plain.specs.History.{pass_view}
use Rattle.std.proofs.Common.{◌≡◌, ◌-◌, ◌*◌, ◌≤◌, false, None, length}
use Rattle.nr_endpoint.specs.FedBytes.{fed_bytes}
use Rattle.nr_responder.specs.ResponderState.{end_of}
use Rattle.nr_links.specs.Limits.{piece_max, read_max}
use Rattle.nr_host.specs.Steps.{CarriesTo, outside, sink_state}
use Rattle.nr_host.proofs.connection.carry.Given as goal
use Rattle.nr_host.specs.declared.connection_limits.ConnectionLimits.{ConnectionLimits}

abbrev pub invariant-loop-read : goal.invariant-loop-read
invariant-loop-read g l =
    Rests l.shared l.pass
    × (end_of l.responder.side ≡ None)
    × (l.read ≤ read_max)
    × (length l.buf ≡ piece_max)
    × (fed_bytes l.responder.side.link ≤ piece_max * l.read)
    × (g.I.Source.faults l.source ≡ g.I.Source.faults l.initial.source)
    × (g.O.Sink.faults l.sink ≡ g.O.Sink.faults l.initial.sink)
    × (l.failed ≡ false)
    × ((limits : ConnectionLimits) → CarriesTo limits (outside (g.I.Source.left l.initial.source) (g.I.Source.given l.initial.source) (sink_state (g.O.Sink.taken l.initial.sink) (g.O.Sink.faults l.initial.sink) false) (g.C.Clock.gave l.initial.clock) (pass_view l.initial.pass))
    (outside (g.I.Source.left l.initial.source) (g.I.Source.given l.initial.source) (sink_state (g.O.Sink.taken l.initial.sink) (g.O.Sink.faults l.initial.sink) false) (g.C.Clock.gave l.initial.clock) (pass_view l.initial.pass)) l.initial.responder.side 0
    → CarriesTo limits (outside (g.I.Source.left l.initial.source) (g.I.Source.given l.initial.source) (sink_state (g.O.Sink.taken l.initial.sink) (g.O.Sink.faults l.initial.sink) false) (g.C.Clock.gave l.initial.clock) (pass_view l.initial.pass))
    (outside (g.I.Source.left l.source) (g.I.Source.given l.source) (sink_state (g.O.Sink.taken l.sink) (g.O.Sink.faults l.sink) false) (g.C.Clock.gave l.clock) (pass_view l.pass)) l.responder.side l.read)

abbrev pub decreases-loop-read : goal.decreases-loop-read
decreases-loop-read g l = read_max - l.read
