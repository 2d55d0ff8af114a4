use Rattle.std.proofs.Common.{◌≡◌, ◌∙◌, false, sym}
use Rattle.std.specs.Option.{ForSome}
use Rattle.nr_plain.specs.History.{pass_view}
use Rattle.nr_host.specs.Steps.{sink_state}
use Rattle.nr_host.proofs.FirstByte.{served_looked}
use Rattle.nr_host.proofs.link.serve_looked.Goals as goal

-- src/link.rt:57:1
pub returns-clause-served : goal.returns-clause-served
returns-clause-served g c =
    let held = c.serve_by_byte-end.new.source.held in
    let left = g.I.Source.left in
    let given = g.I.Source.given in
    let same : ForSome held (λ b. (b ≡ c.args.byte) × ((left c.into_inner.result ≡ left c.args.source) × (given c.into_inner.result ≡ given c.args.source))) =
    λ b is. (let (byte, (l, h)) = c.into_inner.ensures.same b is in (byte ∙ sym c.requires.byte, (l ∙ sym c.requires.left, h ∙ sym c.requires.given))) in (
      held,
      (
        same,
        served_looked left given c.args.limits c.args.byte c.new-source.result.inner c.args.source c.serve_by_byte-end.new.source.inner c.into_inner.result c.new-source.result.held held
            (sink_state (g.O.Sink.taken c.args.sink.now) (g.O.Sink.faults c.args.sink.now) false) (sink_state (g.O.Sink.taken c.serve_by_byte-end.new.sink) (g.O.Sink.faults c.serve_by_byte-end.new.sink) false)
            (g.C.Clock.gave c.args.clock.now) (g.C.Clock.gave c.serve_by_byte-end.new.clock) (pass_view c.args.pass.now) (pass_view c.serve_by_byte-end.new.pass) c.serve_by_byte-end.result
            c.new-source.ensures.inner c.new-source.ensures.held c.into_inner.ensures.inner c.serve_by_byte-end.ensures.served,
      ),
    )
