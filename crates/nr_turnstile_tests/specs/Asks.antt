-- Questions and their answers: 0 asks, and n + 1 answers the question at place n.
use Rattle.std.specs.Prelude.{◌≡◌, ℕ, zero, suc, List, [], ◌∷◌, ◌++◌, Option, None, Some}
use Rattle.nr_turnstile.specs.declared.turnstile.Pass.{Pass}
use Rattle.nr_turnstile.specs.Rule.{Lies, IsOpen}
use Rattle.nr_turnstile.specs.Passes.{seen_by, mine_of}

abbrev pub closing : ℕ → Option ℕ
closing zero = None
closing (suc n) = Some n

module _ {D : Type 0} where
  -- the question at this place is the pass's own and has no answer
  abbrev pub IsAsked : Pass D ℕ → ℕ → Type 0
  IsAsked p n = Lies (seen_by p) (mine_of p) × IsOpen closing (seen_by p) (mine_of p) n

  -- the history ends with the answer to the question at this place, and had no answer to it before
  abbrev pub IsAnswered : Pass D ℕ → ℕ → Type 0
  IsAnswered p n = (before : List ℕ) × (mine : List ℕ) × (seen_by p ≡ before ++ suc n ∷ []) × IsOpen closing before mine n
