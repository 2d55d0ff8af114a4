use Rattle.std.proofs.Common.{sym}
use Rattle.nr_record_loop.specs.Connections.{loop_at}
use Rattle.nr_gate.proofs.Links.{gated_same}
use Rattle.nr_gate.proofs.job.gate_numbered.Goals as goal

pub returns-clause-gated : goal.returns-clause-gated
returns-clause-gated g c =
    let left = g.I.Source.left in let given = g.I.Source.given in let taken = g.O.Sink.taken in
    let e = c.gate_connection-end in
    let source = c.new-source.ensures in let sink = c.new-sink.ensures in
    let source' = sym c.into_inner.ensures.source in let sink' = sym c.into_inner-2.ensures.sink in
    gated_same _ _ _ _ e.result
    (λ i. loop_at (left (source i)) (given (source i)) (taken (sink i)) c.args.pass.now.main)
    (λ i. loop_at (left (source' i)) (given (source' i)) (taken (sink' i)) e.new.pass.main)
    e.ensures.gated
