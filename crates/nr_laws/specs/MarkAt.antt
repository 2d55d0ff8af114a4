-- The position of a mark in a run.
use Rattle.std.specs.Prelude.{◌≡◌, List, ◌∷◌, ◌++◌}
use Rattle.nr_reduce.specs.declared.mark.Mark.{Mark}

-- the mark stands in the run, after exactly the marks `before`
pub record MarkAt (run before : List Mark) (mark : Mark) : Type 0 where
  pub after : List Mark
  pub is : run ≡ before ++ mark ∷ after
