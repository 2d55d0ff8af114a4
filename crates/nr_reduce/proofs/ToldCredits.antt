-- The credits that a server is told to grant are in range.
use Rattle.std.specs.Prelude.{ℕ, List}
use Rattle.nr_reduce.specs.declared.mark.Mark.{Mark}
use Rattle.nr_reduce.specs.declared.mark.LinkParameters.{LinkParameters}
use Rattle.nr_reduce.specs.declared.mark.Told.{Told}
use Rattle.nr_reduce.specs.declared.mark.Told.TheVariants.{Granted, Old}
use Rattle.nr_reduce.specs.Served.{IsTold, ToldInRange}

pub told_in_range : (opened : LinkParameters) (link : ℕ) (before : List Mark) (what : Told) → IsTold opened link before what → ToldInRange opened what
told_in_range opened link before (Granted credits) h = h
told_in_range opened link before (Old xid at) h = tt
