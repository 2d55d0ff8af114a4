use Rattle.nr_pair_laws.proofs.AnyInputs.{pairs_over_any_input_are_typed_lem}
use Rattle.nr_pair_laws.proofs.Pairs.{pairs_are_served_lem, pairs_are_typed_lem}
use Rattle.nr_pair_laws.proofs.laws.pairs_are_served.Goals as goal

pub returns-clause-served : goal.returns-clause-served
returns-clause-served c = pairs_are_served_lem

pub returns-clause-typed : goal.returns-clause-typed
returns-clause-typed c = pairs_are_typed_lem

pub returns-clause-typed_over_any_input : goal.returns-clause-typed_over_any_input
returns-clause-typed_over_any_input c = pairs_over_any_input_are_typed_lem
