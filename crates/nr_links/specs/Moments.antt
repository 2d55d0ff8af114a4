-- The moments that a clock gave.
use Rattle.std.specs.Prelude.{◌≡◌, ⊤, List, [], ◌∷◌, ◌++◌, Option, None, Some}
use Rattle.nr_outside.specs.declared.moment.Moment.{Moment}

-- This moment was given. What was given may become unknown, and does not become known again.
abbrev pub Gives : Option (List Moment) → Option (List Moment) → Moment → Type 0
Gives before None moment = ⊤
Gives before (Some after) moment = (moments : List Moment) × (before ≡ Some moments) × (after ≡ moments ++ moment ∷ [])
