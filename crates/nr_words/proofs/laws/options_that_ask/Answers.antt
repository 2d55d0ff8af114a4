use Rattle.nr_words.proofs.Requests.{help_shown, version_shown}
use Rattle.nr_words.proofs.laws.options_that_ask.Goals as goal

pub returns : goal.returns
returns c = record { help = help_shown; version = version_shown }
