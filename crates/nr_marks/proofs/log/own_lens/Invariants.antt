use Rattle.std.proofs.Common.{◌≤◌, take}
use Rattle.std.specs.Prelude.{sum_by}
use Rattle.nr_marks.specs.KeptMarks.{own_len}
use Rattle.nr_marks.proofs.log.own_lens.Given as goal

abbrev pub invariant-loop-entry : goal.invariant-loop-entry
invariant-loop-entry l = l.sum ≤ sum_by own_len (take l.entry-index l.entries)
