use Rattle.std.proofs.Common.{◌≡◌, ◌≤◌, ◌+◌, length, Some}
use Rattle.nr_texts.specs.Words.{newline, parts}
use Rattle.nr_script.specs.Script.{script_from}
use Rattle.nr_script.proofs.reading.add_lines.Given as goal

abbrev pub invariant-loop-next : goal.invariant-loop-next
invariant-loop-next l = (l.number + length l.rest ≤ l.first + length l.text) × (script_from l.first (Some l.fn.draft) (parts newline l.text) ≡ script_from l.number (Some l.draft) (parts newline l.rest))

abbrev pub decreases-loop-next : goal.decreases-loop-next
decreases-loop-next l = length l.rest
