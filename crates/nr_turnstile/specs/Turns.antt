-- What clauses say of a turn.
use Rattle.std.specs.Prelude.{◌≡◌, ℕ, [], ◌∷◌}
use Rattle.nr_turnstile.specs.declared.turn.Turn.{Turn}
use Rattle.nr_turnstile.specs.declared.turnstile.Turnstile.{Turnstile}
use Rattle.nr_turnstile.specs.declared.turnstile.Pass.{Pass}
use Rattle.nr_turnstile.specs.Passes.{Holds}

module _ {M E : Type 0} where
  abbrev pub turnstile_of : Turn M E → Turnstile M E
  turnstile_of t = t.turnstile.now

  abbrev pub pass_of : Turn M E → Pass M E
  pass_of t = t.pass.now

  -- which borrow of the pass the turn ends
  abbrev pub borrow_of : Turn M E → ℕ
  borrow_of t = t.pass.ghost_name

  -- the turn has the value y
  abbrev pub Has : Turn M E → M → Type 0
  Has t y = Holds t.turnstile.now t.pass.now y

  -- the value y, which the turn has, is lent
  abbrev pub Lends : Turn M E → M → Type 0
  Lends t y = t.pass.now.seat.me.1 ≡ (0, y) ∷ []

  -- s and t are one turn at two moments
  abbrev pub IsSameTurn : Turn M E → Turn M E → Type 0
  IsSameTurn s t = (turnstile_of t ≡ turnstile_of s) × (borrow_of t ≡ borrow_of s)
