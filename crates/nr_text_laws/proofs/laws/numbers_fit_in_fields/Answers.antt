use Rattle.nr_text_laws.proofs.Fitting.{attributes_of_calls_fit_lem, entries_of_calls_fit_lem}
use Rattle.nr_text_laws.proofs.Words.{roots_are_in_words_lem}
use Rattle.nr_text_laws.proofs.laws.numbers_fit_in_fields.Goals as goal

pub returns-clause-attributes : goal.returns-clause-attributes
returns-clause-attributes c = attributes_of_calls_fit_lem

pub returns-clause-entries : goal.returns-clause-entries
returns-clause-entries c = entries_of_calls_fit_lem

pub returns-clause-roots : goal.returns-clause-roots
returns-clause-roots c = roots_are_in_words_lem
