use Rattle.std.proofs.Common.{◌≡◌, ◌++◌, take}
use Rattle.std.specs.List.{flat_map}
use Rattle.std.specs.String.{string_bytes}
use Rattle.nr_drill.specs.Shown.{call_text}
use Rattle.nr_drill.proofs.printing.push_calls.Given as goal

abbrev pub invariant-loop-report : goal.invariant-loop-report
invariant-loop-report l = string_bytes l.text ≡ string_bytes l.initial.text ++ flat_map call_text (take l.report-index l.calls)
