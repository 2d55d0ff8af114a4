use Rattle.std.proofs.Common.{ℕ, List, ◌++◌, take, sym, ap, ◌∙◌, append_assoc, arith}
use Rattle.std.specs.List.{flat_map}
use Rattle.std.specs.String.{string_bytes}
use Rattle.nr_reduce.specs.declared.mark.Mark.{Mark}
use Rattle.nr_marks.specs.Views.{mark_seen}
use Rattle.nr_capture.specs.Captured.{captured_mark}
use Rattle.nr_capture.specs.Texts.{line_text}
use Rattle.nr_capture.proofs.RunLines.{run_lines, one_more}
use Rattle.nr_capture.proofs.runs.push_run.Goals as goal

pub loop-at-preserved : goal.loop-at-preserved
loop-at-preserved c =
    let mark : Mark = mark_seen c.mark.result in
    c.in_ok-push_seen.ensures
    ∙ ap (λ (t : List ℕ). t ++ flat_map line_text (captured_mark mark)) c.loop-at.invariant
    ∙ append_assoc (string_bytes c.args.text.now) (run_lines (take c.loop-at.at c.args.marks.now)) (flat_map line_text (captured_mark mark))
    ∙ ap (λ (t : List ℕ). string_bytes c.args.text.now ++ t) (sym (one_more c.args.marks.now c.loop-at.at mark (omega arith) (c.mark.ensures mark)))
