use Rattle.nr_link.proofs.Agreements.{agreements_bounded, defaults_without_terms}
use Rattle.nr_link.proofs.laws.agreements_bounded.Goals as goal

pub returns-clause-bounded : goal.returns-clause-bounded
returns-clause-bounded c = agreements_bounded

pub returns-clause-defaults : goal.returns-clause-defaults
returns-clause-defaults c = defaults_without_terms
