-- The laws of a link of a run, so far and in full.
use Rattle.std.specs.Prelude.{ℕ, List}
use Rattle.nr_reduce.specs.declared.mark.Mark.{Mark}
use Rattle.nr_reduce.specs.declared.mark.LinkParameters.{LinkParameters}
use Rattle.nr_reduce.specs.Asked.{Asked, AskedSoFar}
use Rattle.nr_reduce.specs.Served.{Served, ServedSoFar}
use Rattle.nr_reduce.specs.Matched.{Matched}
use Rattle.nr_reduce.specs.Credits.{KeepsGrant}

-- Without what must yet follow. What holds of a run so far holds of its first marks so far.
pub record SoFar (opened : LinkParameters) (link : ℕ) (run : List Mark) : Type 0 where
  pub asked : AskedSoFar opened link run
  pub served : ServedSoFar opened link run
  pub matched : Matched link run
  pub grant : KeepsGrant opened link run

-- with what must yet follow
pub record InFull (opened : LinkParameters) (link : ℕ) (run : List Mark) : Type 0 where
  pub asked : Asked opened link run
  pub served : Served opened link run
  pub matched : Matched link run
  pub grant : KeepsGrant opened link run
