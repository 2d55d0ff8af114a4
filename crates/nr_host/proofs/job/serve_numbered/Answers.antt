use Rattle.std.proofs.Common.{false, sym}
use Rattle.nr_plain.specs.History.{pass_view}
use Rattle.nr_host.specs.Steps.{outside, sink_state}
use Rattle.nr_host.proofs.FirstByte.{link_same}
use Rattle.nr_host.proofs.job.serve_numbered.Goals as goal

pub returns-clause-served : goal.returns-clause-served
returns-clause-served g c =
    let left = g.I.Source.left in let given = g.I.Source.given in let taken = g.O.Sink.taken in let faults = g.O.Sink.faults in
    let gave = g.C.Clock.gave in
    let s = c.serve_link-source in
    let source = c.new-source.ensures in let sink = c.new-sink.ensures in
    let source' = sym c.into_inner.ensures.source in let sink' = sym c.into_inner-2.ensures.sink in
    link_same c.args.limits c.args.records _ _ _ _ s.result.1
    (λ i. outside (left (source i)) (given (source i)) (sink_state (taken (sink i)) (faults (sink i)) false) (gave c.args.clock.now) (pass_view c.args.pass.now))
    (λ i. outside (left (source' i)) (given (source' i)) (sink_state (taken (sink' i)) (faults (sink' i)) false) (gave s.new.clock) (pass_view s.new.pass))
    s.ensures.served
