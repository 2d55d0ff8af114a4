-- What is printed of a run follows from its report.
use Rattle.std.proofs.Common.{◌≡◌, ℕ, suc, List, [], ◌∷◌, length, refl, ap, ◌∙◌}
use Rattle.nr_reduce.specs.declared.mark.TaggedEntry.{TaggedEntry}
use Rattle.nr_reduce.specs.NumberedJournal.{entries_alone}
use Rattle.nr_script.specs.Script.{ScriptLines}
use Rattle.nr_drill.specs.declared.report.Report.{Report}
use Rattle.nr_drill.specs.Drill.{SerialServer}
use Rattle.nr_drill.specs.Follows.{last_setting}
use Rattle.nr_drill.specs.Headline.{Reports}
use Rattle.nr_drill.specs.Shown.{shown, text_of, summary, sums_of}
use Rattle.nr_drill.specs.Laws.{ReportsRun}

pub length_alone : (T : List TaggedEntry) → length (entries_alone T) ≡ length T
length_alone [] = refl
length_alone (t ∷ T) = ap (λ (n : ℕ). suc n) (length_alone T)

pub reports_tell : (server : SerialServer) (script : ScriptLines) (report : Report) → (r : Reports server script report) → ReportsRun (last_setting r.drill.follows) r.drill.follows.last.last_links report
unfolding shown summary
reports_tell server script report r =
    let len = ap length r.journal ∙ length_alone _ in
    record {
      text = λ i. text_of (r.calls i) (r.links i) (len i);
      sums = λ i. sums_of (r.calls i) (len i);
    }
