use Rattle.std.proofs.Common.{◌≡◌, ◌++◌, drop, ap, sym, ◌∙◌}
use Rattle.nr_endpoint.specs.private.Outputs.{OutputView}
use Rattle.nr_endpoint.proofs.WrittenOut.{on_ok_then, both_left, both_taken, front_left, front_taken}
use Rattle.nr_endpoint.proofs.output.Output.write_out.Goals as goal

pub returns-then-is_err-clause-left : goal.returns-then-is_err-clause-left
returns-then-is_err-clause-left g c =
    let seen : c.self.inside.pieces ++ c.self.inside.run.items ≡ c.args.self.now.items = ap (λ (f : OutputView). f.items) c.self.view_is in
    front_left c.self.inside.pieces c.self.inside.run.items _ _ c.write_out-first.ensures.count c.write_out-first.ensures.left ∙ ap (drop c.write_out-first.result.0) seen

pub returns-then-is_err-clause-took : goal.returns-then-is_err-clause-took
returns-then-is_err-clause-took g c =
    let seen : c.self.inside.pieces ++ c.self.inside.run.items ≡ c.args.self.now.items = ap (λ (f : OutputView). f.items) c.self.view_is in
    rw (← seen) (front_taken c.self.inside.pieces c.self.inside.run.items _ _ _ c.write_out-first.ensures.count c.write_out-first.ensures.took)

pub returns-clause-left : goal.returns-clause-left
returns-clause-left g c =
    let seen : c.self.inside.pieces ++ c.self.inside.run.items ≡ c.args.self.now.items = ap (λ (f : OutputView). f.items) c.self.view_is in
    let all = on_ok_then c.write_out-first.result.1 _ (sym c.is_err.ensures.value ∙ c.if-is_err.false) c.write_out-first.ensures.all in
    rw (← seen) (both_left c.self.inside.pieces c.self.inside.run.items _ _ _ _ all c.write_out-first.ensures.left c.write_run-rest.ensures.left)

pub returns-clause-took : goal.returns-clause-took
returns-clause-took g c =
    let seen : c.self.inside.pieces ++ c.self.inside.run.items ≡ c.args.self.now.items = ap (λ (f : OutputView). f.items) c.self.view_is in
    let all = on_ok_then c.write_out-first.result.1 _ (sym c.is_err.ensures.value ∙ c.if-is_err.false) c.write_out-first.ensures.all in
    rw (← seen) (both_taken c.self.inside.pieces c.self.inside.run.items _ _ _ _ _ all c.write_out-first.ensures.took c.write_run-rest.ensures.took)
