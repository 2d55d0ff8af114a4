use Rattle.std.proofs.Common.{◌≡◌, ◌≤◌, ◌+◌, length}
use Rattle.nr_texts.specs.Words.{newline, parts}
use Rattle.nr_capture.specs.Capture.{marks_from}
use Rattle.nr_capture.proofs.reading.add_lines.Given as goal

abbrev pub invariant-loop-next : goal.invariant-loop-next
invariant-loop-next l = (l.number + length l.rest ≤ l.first + length l.text) × (marks_from l.first l.fn.capture (parts newline l.text) ≡ marks_from l.number l.capture (parts newline l.rest))

abbrev pub decreases-loop-next : goal.decreases-loop-next
decreases-loop-next l = length l.rest
