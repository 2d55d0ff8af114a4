use Rattle.nr_drill.specs.Shown.{end_text}
use Rattle.nr_drill.proofs.printing.push_end.Goals as goal

pub returns-in-Terminated : goal.returns-in-Terminated
unfolding end_text
returns-in-Terminated c = rw c.in-Terminated.is (rw (c.from-in-Terminated.ensures) at c.push_number-in-Terminated.ensures)
