use Rattle.std.proofs.Common.{ap, sym, refl, Bool, cond, ◌∙◌}
use Rattle.std.specs.Prelude.{slice_set}
use Rattle.nr_drill.proofs.Lookups.{found, missing}
use Rattle.nr_drill.proofs.draft.set_state.Goals as goal

pub returns-then-is_open_at : goal.returns-then-is_open_at
returns-then-is_open_at c =
    found c.args.calls.now.items c.args.at c.args.at c.in-Some.report.now _ _ refl c.in-Some.ensures.item.3.0 c.in-Some.ensures.item.1
    (ap (λ (b : Bool). slice_set c.args.calls.now.items c.args.at (cond b (record c.in-Some.report.now { state = c.args.state }) c.in-Some.report.now)) (sym c.if-is_open_at.true ∙ c.is_open_at.ensures))

pub returns-else-is_open_at : goal.returns-else-is_open_at
returns-else-is_open_at c =
    found c.args.calls.now.items c.args.at c.args.at c.in-Some.report.now _ _ refl c.in-Some.ensures.item.3.0 c.in-Some.ensures.item.1
    (ap (λ (b : Bool). slice_set c.args.calls.now.items c.args.at (cond b (record c.in-Some.report.now { state = c.args.state }) c.in-Some.report.now)) (sym c.if-is_open_at.false ∙ c.is_open_at.ensures))

pub returns-in_default : goal.returns-in_default
returns-in_default c = missing c.args.calls.now.items c.args.at c.args.at _ _ refl c.in_default.ensures.item.3 refl
