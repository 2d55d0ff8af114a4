use Rattle.std.proofs.Common.{◌≡◌, ◌≤◌, ◌+◌, length, None}
use Rattle.nr_texts.specs.Words.{newline, parts}
use Rattle.nr_script.specs.Script.{script_from, script_of}
use Rattle.nr_script.proofs.reading.opening_from.Given as goal

abbrev pub invariant-loop-next : goal.invariant-loop-next
invariant-loop-next l = (l.number + length l.rest ≤ length l.text + 1) × (script_of l.text ≡ script_from l.number None (parts newline l.rest))

abbrev pub decreases-loop-next : goal.decreases-loop-next
decreases-loop-next l = length l.rest
