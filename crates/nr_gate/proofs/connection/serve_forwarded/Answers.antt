use Rattle.std.proofs.Common.{refl, sym, ap, ◌∙◌, subst}
use Rattle.nr_record_loop.specs.Connections.{SinkCount, SourceCount, loop_at}
use Rattle.nr_record_loop.specs.declared.loop_end.LoopEnd.{LoopEnd}
use Rattle.nr_gate.specs.Gating.{IsGated, loop_end}
use Rattle.nr_gate.specs.declared.gate_end.GateEnd.{GateEnd}
use Rattle.nr_gate.proofs.Ends.{gated, same_loop}
use Rattle.nr_gate.proofs.connection.serve_forwarded.Goals as goal

pub serve_calls-end-requires-clause-nothing : goal.serve_calls-end-requires-clause-nothing
serve_calls-end-requires-clause-nothing g c = refl

pub returns-clause-gated : goal.returns-clause-gated
returns-clause-gated g c =
    subst (λ (e : GateEnd). IsGated (loop_at (g.I.Source.left c.args.source.now) (g.I.Source.given c.args.source.now) (g.O.Sink.taken c.args.sink.now) c.args.answers.now.pass.now.main)
    (loop_at (g.I.Source.left c.serve_calls-end.new.source) (g.I.Source.given c.serve_calls-end.new.source) (g.O.Sink.taken c.serve_calls-end.new.sink) c.serve_calls-end.new.answers.pass.now.main) e) (sym c.end_of.ensures)
    (gated (λ p. p.pass.now.main) (λ p. p.ended) (g.I.Source.left c.args.source.now) (g.I.Source.given c.args.source.now) (g.O.Sink.taken c.args.sink.now)
    (g.I.Source.left c.serve_calls-end.new.source) (g.I.Source.given c.serve_calls-end.new.source) (g.O.Sink.taken c.serve_calls-end.new.sink)
    c.args.answers.now c.serve_calls-end.new.answers c.serve_calls-end.result c.serve_calls-end.ensures.served)

pub returns-clause-source_count : goal.returns-clause-source_count
returns-clause-source_count g c =
    subst (λ (l : LoopEnd). SourceCount l (g.I.Source.faults c.args.source.now) (g.I.Source.faults c.serve_calls-end.new.source))
    (sym (ap loop_end c.end_of.ensures ∙ same_loop (λ p. p.pass.now.main) (λ p. p.ended) (g.I.Source.left c.args.source.now) (g.I.Source.given c.args.source.now) (g.O.Sink.taken c.args.sink.now)
    (g.I.Source.left c.serve_calls-end.new.source) (g.I.Source.given c.serve_calls-end.new.source) (g.O.Sink.taken c.serve_calls-end.new.sink)
    c.args.answers.now c.serve_calls-end.new.answers c.serve_calls-end.result c.serve_calls-end.ensures.served)) c.serve_calls-end.ensures.source_count

pub returns-clause-sink_count : goal.returns-clause-sink_count
returns-clause-sink_count g c =
    subst (λ (l : LoopEnd). SinkCount l (g.O.Sink.faults c.args.sink.now) (g.O.Sink.faults c.serve_calls-end.new.sink))
    (sym (ap loop_end c.end_of.ensures ∙ same_loop (λ p. p.pass.now.main) (λ p. p.ended) (g.I.Source.left c.args.source.now) (g.I.Source.given c.args.source.now) (g.O.Sink.taken c.args.sink.now)
    (g.I.Source.left c.serve_calls-end.new.source) (g.I.Source.given c.serve_calls-end.new.source) (g.O.Sink.taken c.serve_calls-end.new.sink)
    c.args.answers.now c.serve_calls-end.new.answers c.serve_calls-end.result c.serve_calls-end.ensures.served)) c.serve_calls-end.ensures.sink_count

pub returns-clause-remote : goal.returns-clause-remote
returns-clause-remote g c = (c.serve_calls-end.ensures.same c.args.answers.now (refl, (refl, refl))).0

pub returns-clause-pass : goal.returns-clause-pass
returns-clause-pass g c = (c.serve_calls-end.ensures.same c.args.answers.now (refl, (refl, refl))).1.0

pub returns-clause-remote_source : goal.returns-clause-remote_source
returns-clause-remote_source g c = (c.serve_calls-end.ensures.same c.args.answers.now (refl, (refl, refl))).1.1
