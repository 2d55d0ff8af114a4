use Rattle.nr_plain.proofs.Moments.{at_every_moment}
use Rattle.nr_plain.proofs.journal_laws.unchanging_replies_do_not_depend_on_the_moment.Goals as goal

pub returns : goal.returns
returns c = at_every_moment
