-- A pass of one turnstile in the value of another. The history of the second names the first.
use Rattle.std.specs.Prelude.{◌≡◌, ℕ, List, Option, None}
use mathlib.Core.Option.{some}
use lib.ListN.{get_elem?}
use Rattle.std.specs.declared.snapshot.Snapshot.{Snapshot}
use Rattle.atomic_table.specs.Seated.{TableId}
use Rattle.nr_turnstile.specs.declared.turnstile.Turnstile.{Turnstile}
use Rattle.nr_turnstile.specs.declared.turnstile.Pass.{Pass}
use Rattle.nr_turnstile.specs.Passes.{IsOutside, home_of, id_of, seen_by}

-- a pass of the first turnstile, whose value is an M, at a moment
abbrev pub Noted : Type 0 → Type 0
Noted M = Snapshot (Pass M ℕ)

module _ {M : Type 0} where
  -- each entry is a pass of the turnstile that the inner pass is of, which is outside
  abbrev pub RepresentsNotes : Pass M ℕ → List (Noted M) → Type 0
  RepresentsNotes inner h = IsOutside inner × ((k : ℕ) (s : Noted M) → get_elem? h k ≡ some s → home_of s.value ≡ home_of inner)

  abbrev pub closes_none : Noted M → Option ℕ
  closes_none e = None

module _ {F M : Type 0} where
  -- the history that p has seen begins with a pass of the turnstile with this identity
  abbrev pub IsOverHome : TableId → Pass F (Noted M) → Type 0
  IsOverHome z p = (s : Noted M) × (get_elem? (seen_by p) 0 ≡ some s) × (home_of s.value ≡ z)

  -- the history that p has seen begins with a pass of this turnstile
  abbrev pub IsOver : Turnstile M ℕ → Pass F (Noted M) → Type 0
  IsOver t p = IsOverHome (id_of t) p
