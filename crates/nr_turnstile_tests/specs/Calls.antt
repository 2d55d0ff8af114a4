-- What a call says to its pass.
use Rattle.std.specs.Prelude.{◌≡◌, ℕ, List, [], ◌∷◌, ◌++◌, length}
use Rattle.nr_turnstile.specs.declared.turnstile.Pass.{Pass}
use Rattle.nr_turnstile.specs.Rule.{Begins}
use Rattle.nr_turnstile.specs.Passes.{seen_by, mine_of}

module _ {M : Type 0} where
  -- the history begins with all that p had seen, and ends with x at place n, which is the pass's own
  abbrev pub Adds : Pass M ℕ → Pass M ℕ → ℕ → ℕ → Type 0
  Adds p q x n = (between : List ℕ) × (seen_by q ≡ (seen_by p ++ between) ++ x ∷ []) × (n ≡ length (seen_by p ++ between)) × (mine_of q ≡ mine_of p ++ n ∷ [])

  -- the history was seen
  abbrev pub Looks : Pass M ℕ → Pass M ℕ → Type 0
  Looks p q = Begins (seen_by p) (seen_by q) × (mine_of q ≡ mine_of p)
