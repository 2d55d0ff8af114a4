-- The laws of a matched link of a run, so far.
use Rattle.std.specs.Prelude.{ℕ, List}
use Rattle.nr_reduce.specs.declared.mark.Mark.{Mark}
use Rattle.nr_reduce.specs.declared.mark.LinkParameters.{LinkParameters}
use Rattle.nr_reduce.specs.Asked.{AskedSoFar}
use Rattle.nr_reduce.specs.Served.{ServedSoFar}
use Rattle.nr_reduce.specs.Matched.{Matched}

-- Both sides keep their laws so far, and what each received is what the other sent.
pub record MatchedSoFar (opened : LinkParameters) (link : ℕ) (run : List Mark) : Type 0 where
  pub asked : AskedSoFar opened link run
  pub served : ServedSoFar opened link run
  pub matched : Matched link run
