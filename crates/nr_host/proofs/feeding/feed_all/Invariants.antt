use Rattle.nr_turnstile.specs.Passes.{Rests}
use Rattle.nr_plain.specs.History.{pass_view}
use Rattle.std.proofs.Common.{◌≡◌, ◌+◌, ◌*◌, ◌≤◌, false, None, length}
use Rattle.nr_endpoint.specs.FedBytes.{fed_bytes}
use Rattle.nr_responder.specs.ResponderState.{end_of}
use Rattle.nr_links.specs.Limits.{piece_max}
use Rattle.nr_host.specs.Steps.{FaultsAt, FeedsTo, sink_state}
use Rattle.nr_host.proofs.feeding.feed_all.Given as goal

abbrev pub invariant-loop-left : goal.invariant-loop-left
invariant-loop-left g l =
    Rests l.shared l.pass
    × (end_of l.responder.side ≡ None)
    × (length l.left ≤ length l.piece)
    × (fed_bytes l.responder.side.link + piece_max * length l.left ≤ fed_bytes l.initial.responder.side.link + piece_max * length l.piece)
    × (g.O.Sink.faults l.initial.sink ≤ g.O.Sink.faults l.sink)
    × FaultsAt l.failed (g.O.Sink.faults l.initial.sink) (g.O.Sink.faults l.sink)
    × FeedsTo l.piece l.left (sink_state (g.O.Sink.taken l.initial.sink) (g.O.Sink.faults l.initial.sink) false) (sink_state (g.O.Sink.taken l.sink) (g.O.Sink.faults l.sink) l.failed)
    (g.C.Clock.gave l.initial.clock) (g.C.Clock.gave l.clock)
    (pass_view l.initial.pass) (pass_view l.pass) l.initial.responder.side l.responder.side

abbrev pub decreases-loop-left : goal.decreases-loop-left
decreases-loop-left g l = length l.left
