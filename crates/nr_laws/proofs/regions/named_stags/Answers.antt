use Rattle.nr_laws.proofs.NamedStagsDead.{named_stags_are_dead}
use Rattle.nr_laws.proofs.NamedStagsJudged.{named_stags_are_judged}
use Rattle.nr_laws.proofs.regions.named_stags.Goals as goal

pub returns-clause-dead : goal.returns-clause-dead
returns-clause-dead c = named_stags_are_dead

pub returns-clause-judged : goal.returns-clause-judged
returns-clause-judged c = named_stags_are_judged
