use Rattle.std.proofs.Common.{◌≡◌, ◌++◌, take}
use Rattle.std.specs.List.{flat_map}
use Rattle.std.specs.String.{string_bytes}
use Rattle.nr_capture.specs.Captured.{captured_mark}
use Rattle.nr_capture.specs.Texts.{line_text}
use Rattle.nr_capture.proofs.runs.push_run.Given as goal

abbrev pub invariant-loop-at : goal.invariant-loop-at
invariant-loop-at l = string_bytes l.text ≡ string_bytes l.initial.text ++ flat_map line_text (flat_map captured_mark (take l.at l.marks))
