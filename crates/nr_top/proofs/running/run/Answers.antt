use Rattle.nr_top.proofs.running.run.Goals as goal

pub returns-in-Ok : goal.returns-in-Ok
returns-in-Ok g c = (c.read_words.result, (c.read_words.ensures.is, rw c.in-Ok.is c.dispatch.ensures))
