use Rattle.std.proofs.Common.{ℕ, List, inl, subst, ◌∙◌}
use Rattle.nr_outside.specs.Streams.{sink_at}
use Rattle.nr_commands.specs.Endings.{end_text}
use Rattle.nr_top.specs.Ends.{Reported}
use Rattle.nr_top.proofs.client.report_end.Goals as goal

pub returns-in-Ok : goal.returns-in-Ok
returns-in-Ok g c =
    inl (subst (λ (n : ℕ). Reported n (end_text c.args.end) c.write_error.result (sink_at (g.E.Sink.taken c.args.err.now) (g.E.Sink.faults c.args.err.now)) (sink_at (g.E.Sink.taken c.write_error.new.err) (g.E.Sink.faults c.write_error.new.err))) c.status_of.ensures
    (subst (λ (t : List ℕ). Reported c.status_of.result t c.write_error.result (sink_at (g.E.Sink.taken c.args.err.now) (g.E.Sink.faults c.args.err.now)) (sink_at (g.E.Sink.taken c.write_error.new.err) (g.E.Sink.faults c.write_error.new.err))) (c.as_bytes.ensures.value ∙ c.in-Ok.ensures) c.write_error.ensures))
