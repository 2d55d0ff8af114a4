use Rattle.nr_pair_laws.proofs.Numbers.{numbers_of_calls_fit_lem, roots_are_below_lem}
use Rattle.nr_pair_laws.proofs.laws.numbers_fit_in_handles.Goals as goal

pub returns-clause-of_calls : goal.returns-clause-of_calls
returns-clause-of_calls c = numbers_of_calls_fit_lem

pub returns-clause-of_roots : goal.returns-clause-of_roots
returns-clause-of_roots c = roots_are_below_lem
