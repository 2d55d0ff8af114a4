use Rattle.nr_reduce.proofs.CallForms.{no_facts}
use Rattle.nr_reduce.proofs.parts.facts_of.Goals as goal

pub returns-in-None-clause-exact : goal.returns-in-None-clause-exact
returns-in-None-clause-exact c = no_facts c.args.payload.now c.in-None.ensures
