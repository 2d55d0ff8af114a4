-- A fact of each mark of a run, given the marks before it.
use Rattle.std.specs.Prelude.{List, [], ◌∷◌, ◌++◌}
use Rattle.nr_reduce.specs.declared.mark.Mark.{Mark}

abbrev pub AtEachMark : (List Mark → Mark → Type 0) → List Mark → List Mark → Type 0
AtEachMark P before [] = Unit {0}
AtEachMark P before (mark ∷ run) = P before mark × AtEachMark P (before ++ mark ∷ []) run
