use Rattle.nr_wire.proofs.Feedings.{feeding_after-append, feeding_after_step-rest, feeding_after-partial, feeding-ended}
use Rattle.nr_wire.proofs.laws.however_cut.Goals as goal

pub returns-clause-pieces : goal.returns-clause-pieces
returns-clause-pieces g c = λ ended advanced f x y. feeding_after-append ended advanced f x y

pub returns-clause-steps : goal.returns-clause-steps
returns-clause-steps g c = λ ended advanced f piece p. feeding_after_step-rest ended advanced f piece p

pub returns-clause-partial : goal.returns-clause-partial
returns-clause-partial g c = λ ended advanced f x. feeding_after-partial ended advanced f x

pub returns-clause-end_stays : goal.returns-clause-end_stays
returns-clause-end_stays g c = λ ended advanced f x e none. feeding-ended ended advanced f x e none
