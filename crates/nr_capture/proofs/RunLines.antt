-- The capture of a run, mark by mark.
use Rattle.std.specs.List.{flat_map}
use Rattle.std.proofs.Common.{◌≡◌, ℕ, ◌+◌, ◌<◌, List, [], ◌∷◌, ◌++◌, length, get_or, take, sym, ap, ◌∙◌, append-nil}
use Rattle.std.proofs.lemmas.List.{take_more}
use Rattle.std.proofs.lemmas.List.Concat.{flat_map-append}
use Rattle.nr_reduce.specs.declared.mark.Mark.{Mark}
use Rattle.nr_capture.specs.declared.capture.CapturedMark.{CapturedMark}
use Rattle.nr_capture.specs.Captured.{captured_mark}
use Rattle.nr_capture.specs.Texts.{line_text}

-- the lines of a run
abbrev pub run_lines : List Mark → List ℕ
run_lines run = flat_map line_text (flat_map captured_mark run)

pub one_more : (run : List Mark) (at : ℕ) (mark : Mark) → at < length run → mark ≡ get_or run at mark →
    run_lines (take (at + 1) run) ≡ run_lines (take at run) ++ flat_map line_text (captured_mark mark)
one_more run at mark lt is =
    let before : List Mark = take at run in
    let more : take (at + 1) run ≡ before ++ mark ∷ [] = take_more run at mark lt ∙ ap (λ (m : Mark). before ++ m ∷ []) (sym is) in
    ap run_lines more
    ∙ ap (flat_map line_text) (flat_map-append captured_mark before (mark ∷ []))
    ∙ flat_map-append line_text (flat_map captured_mark before) (flat_map captured_mark (mark ∷ []))
    ∙ ap (λ (l : List CapturedMark). run_lines before ++ flat_map line_text l) (append-nil (captured_mark mark))
