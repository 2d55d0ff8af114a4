use Rattle.nr_reduce.specs.PlainJournal.{any_that_adds}
use Rattle.nr_reduce.proofs.Placing.{places_rise}
use Rattle.nr_reduce.proofs.run_laws.places_rise.Goals as goal

pub returns : goal.returns
returns c = λ adds. places_rise (any_that_adds adds)
