use Rattle.std.proofs.Common.{ℕ, List, length, ◌-◌, ◌++◌, ◌∷◌, [], ap, refl, subst, ◌∙◌}
use Rattle.std.specs.Prelude.{slice_set}
use Rattle.nr_drill.specs.declared.report.CallReport.{CallReport}
use Rattle.nr_drill.specs.private.Drafts.{AddsLine}
use Rattle.nr_drill.proofs.Lookups.{found, missing}
use Rattle.nr_drill.proofs.draft.Draft.add_line.Goals as goal

pub returns-in_ok-push : goal.returns-in_ok-push
returns-in_ok-push c =
    found c.args.self.now.tables.items c.index.result (c.args.client - 1) c.in-Some.table.now _ _ c.index.ensures c.in-Some.ensures.item.3.0 c.in-Some.ensures.item.1
    (record {
      changed = c.add_line.new.self;
      adds = subst (λ (rs : List CallReport). AddsLine (length rs) c.args.answer c.in-Some.table.now c.add_line.new.self) c.as_slice-at.ensures.value c.in_ok-number.ensures.adds;
      tables = ap (λ (i : ℕ). slice_set c.args.self.now.tables.items i c.add_line.new.self) c.index.ensures;
      calls = c.in_ok-push.ensures.items ∙ (λ i. c.args.self.now.calls.items ++ record { client = c.args.client; number = c.in_ok-number.ensures.number i; state = c.submitted_state.ensures i } ∷ []);
      journal = refl;
    })

pub returns-in_default : goal.returns-in_default
returns-in_default c = missing c.args.self.now.tables.items c.index.result (c.args.client - 1) _ _ c.index.ensures c.in_default.ensures.item.3 tt
