use Rattle.std.proofs.Common.{◌≡◌, ◌≢◌, ◌-◌, Some, length}
use Rattle.nr_link.specs.declared.end.End.TheVariants as ends
use Rattle.nr_requester.specs.OpenCalls.{KeepsTickets}
use Rattle.nr_links.specs.Limits.{read_max}
use Rattle.nr_client.specs.Steps.{Fits, GoesOn}
use Rattle.nr_client.specs.Transfers.{link_bytes}
use Rattle.nr_client.proofs.calling.wait_for_answer.Given as goal

abbrev pub invariant-loop-requester : goal.invariant-loop-requester
invariant-loop-requester g l =
    Fits l.requester l.read (length l.buf)
    × KeepsTickets l.initial.requester.state l.requester.state
    × (g.I.Source.faults l.source ≡ g.I.Source.faults l.initial.source)
    × (g.O.Sink.faults l.sink ≡ g.O.Sink.faults l.initial.sink)
    × (l.initial.requester.state.side.ended ≢ Some ends.Memory → l.requester.state.side.ended ≢ Some ends.Memory)
    × GoesOn (link_bytes (g.I.Source.left l.initial.source) (g.I.Source.given l.initial.source) (g.O.Sink.taken l.initial.sink) l.initial.read)
    (link_bytes (g.I.Source.left l.source) (g.I.Source.given l.source) (g.O.Sink.taken l.sink) l.read) l.initial.requester l.requester

abbrev pub decreases-loop-requester : goal.decreases-loop-requester
decreases-loop-requester g l = read_max - l.read
