use Rattle.nr_top.proofs.drill.text_of_report.Goals as goal

pub returns-then-log : goal.returns-then-log
returns-then-log c = rw c.if-log.true c.write_run.ensures

pub returns-in-Input : goal.returns-in-Input
returns-in-Input c = rw (c.if-log.false, c.in-Input.is) c.shown.ensures

pub returns-in-Seed : goal.returns-in-Seed
returns-in-Seed c = rw (c.if-log.false, c.in-Seed.is) c.summary.ensures
