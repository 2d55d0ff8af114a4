use Rattle.std.proofs.Common.{List, length, map, refl, ap, ◌∙◌}
use Rattle.std.proofs.lemmas.List.{length-map}
use Rattle.nr_drill.specs.declared.report.CallReport.{CallReport}
use Rattle.nr_drill.specs.private.Drafts.{at_last_by}
use Rattle.nr_drill.proofs.TellingMarks.{all_of, are_calls}
use Rattle.nr_drill.proofs.reporting.calls_of.Goals as goal

pub returns : goal.returns
returns c = λ s numbered.
    are_calls s c.args.clients.now (length c.args.ends.now) c.args.marks.now c.args.ends.now c.in_ok-calls.field-0 _ _ (c.in_ok-calls.ensures s numbered)
    (all_of c.in_ok-calls.field-0.calls.len c.settle.new.calls _
    (ap (λ (cs : List CallReport). length cs) c.settle.ensures ∙ length-map c.as_mut_slice.result.now (at_last_by c.args.ends.now) ∙ c.as_mut_slice.ensures.len)
    ∙ c.settle.ensures ∙ ap (map (at_last_by c.args.ends.now)) c.as_mut_slice.ensures.value) refl
