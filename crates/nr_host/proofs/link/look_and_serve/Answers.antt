use Rattle.std.proofs.Common.{◌≡◌, ◌∙◌, ℕ, false, Option, Some, subst, sym}
use Rattle.std.specs.Prelude.{IfNone}
use Rattle.std.specs.Io.KnownBytes.{IsAtEnd, Keeps}
use Rattle.nr_links.specs.Peeked.{given_without, left_with}
use Rattle.nr_plain.specs.History.{pass_view}
use Rattle.nr_host.specs.Steps.{outside, sink_state}
use Rattle.nr_host.proofs.FirstByte.{closes_at_once, fails_at_once, is_held, kind_closed, kind_failed, kind_is, link_on, looked, still_held}
use Rattle.nr_host.proofs.link.look_and_serve.Goals as goal

pub returns-in-Err-clause-served : goal.returns-in-Err-clause-served
returns-in-Err-clause-served g c =
    let left = g.I.Source.left c.args.source in
    let given = g.I.Source.given c.args.source in
    let held = c.look.new.self.held in
    let source = c.into_inner-in-Err.result in
    let (kept, told) = looked g.I.Source.left g.I.Source.given c.args.source source c.new-peeked.result c.look.new.self c.new-peeked.ensures c.into_inner-in-Err.ensures
    c.look.ensures.left c.look.ensures.given in
    let left' = left_with held (g.I.Source.left source) in
    let given' = given_without held (g.I.Source.given source) in
    record {
      held = held;
      held_is = is_held held left given (g.I.Source.left source) (g.I.Source.given source) kept told;
      serves = fails_at_once c.args.limits left given left' given' (g.O.Sink.taken c.args.sink.now) (g.O.Sink.faults c.args.sink.now) (g.C.Clock.gave c.args.clock.now) (pass_view c.args.pass.now) kept told;
      kind = kind_failed left left' kept;
    }

pub returns-in-Ok-None-clause-served : goal.returns-in-Ok-None-clause-served
returns-in-Ok-None-clause-served g c =
    let left = g.I.Source.left c.args.source in
    let given = g.I.Source.given c.args.source in
    let held = c.look.new.self.held in
    let source = c.into_inner.result in
    let (kept, told) = looked g.I.Source.left g.I.Source.given c.args.source source c.new-peeked.result c.look.new.self c.new-peeked.ensures c.into_inner.ensures
    c.look.ensures.left c.look.ensures.given in
    let left' = left_with held (g.I.Source.left source) in
    let given' = given_without held (g.I.Source.given source) in
    let none : IsAtEnd (left_with held (g.I.Source.left c.look.new.self.inner)) =
    subst (λ (b : Option ℕ). IfNone b (IsAtEnd (left_with held (g.I.Source.left c.look.new.self.inner)))) c.in-Ok-None.field-0-is c.in-Ok-None.ensures.end in
    let over : IsAtEnd left' = subst (λ s. IsAtEnd (left_with held (g.I.Source.left s))) (sym c.into_inner.ensures) none in
    record {
      held = held;
      held_is = is_held held left given (g.I.Source.left source) (g.I.Source.given source) kept told;
      serves = closes_at_once c.args.limits left given left' given' (g.O.Sink.taken c.args.sink.now) (g.O.Sink.faults c.args.sink.now) (g.C.Clock.gave c.args.clock.now) (pass_view c.args.pass.now) kept told over;
      kind = kind_closed left left' kept over;
    }

pub returns-clause-served : goal.returns-clause-served
returns-clause-served g c =
    let left = g.I.Source.left c.args.source in
    let given = g.I.Source.given c.args.source in
    let held = c.look.new.self.held in
    let source = c.into_inner-source.result in
    let (kept, told) = looked g.I.Source.left g.I.Source.given c.args.source source c.new-peeked.result c.look.new.self c.new-peeked.ensures c.into_inner-source.ensures
    c.look.ensures.left c.look.ensures.given in
    let left' = left_with held (g.I.Source.left source) in
    let given' = given_without held (g.I.Source.given source) in
    let byte = c.in-Ok-Some.byte in
    let is : held ≡ Some byte = c.in-Ok-Some.ensures.held ∙ c.in-Ok-Some.field-0-is in
    let kept' : Keeps left (left_with (Some byte) (g.I.Source.left source)) = subst (λ (h : Option ℕ). Keeps left (left_with h (g.I.Source.left source))) is kept in
    let told' : Keeps given (given_without (Some byte) (g.I.Source.given source)) = subst (λ (h : Option ℕ). Keeps given (given_without h (g.I.Source.given source))) is told in
    let r = c.serve_looked.result in
    let (last, (same, served)) = c.serve_looked.ensures.served in
    let after = outside (left_with last (g.I.Source.left r.0)) (given_without last (g.I.Source.given r.0)) (sink_state (g.O.Sink.taken c.serve_looked.new.sink) (g.O.Sink.faults c.serve_looked.new.sink) false) (g.C.Clock.gave c.serve_looked.new.clock) (pass_view c.serve_looked.new.pass) in
    record {
      held = last;
      held_is = still_held last byte left given (g.I.Source.left source) (g.I.Source.given source) (g.I.Source.left r.0) (g.I.Source.given r.0)
          (is_held (Some byte) left given (g.I.Source.left source) (g.I.Source.given source) kept' told') same;
      serves = link_on left given (left_with (Some byte) (g.I.Source.left source)) (given_without (Some byte) (g.I.Source.given source)) (sink_state (g.O.Sink.taken c.args.sink.now) (g.O.Sink.faults c.args.sink.now) false)
          (g.C.Clock.gave c.args.clock.now) (pass_view c.args.pass.now) kept' told' c.args.limits after r.1 served.0;
      kind = kind_is byte held left (g.I.Source.left source) (left_with last (g.I.Source.left r.0)) r.1 is kept served.1;
    }
