use Rattle.nr_words.proofs.Possible.{line_possible}
use Rattle.nr_words.proofs.laws.lines_are_possible.Goals as goal

pub returns : goal.returns
returns c = line_possible
