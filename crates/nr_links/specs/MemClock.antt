-- A clock in memory.
use Rattle.std.specs.Prelude.{ℕ, ◌-◌, nat_lt, zero, suc, if◌then◌else◌, List, [], ◌++◌, ◌∷◌, length, slice_index_or, min, Option, None, Some}
use Rattle.nr_outside.specs.Faults.{last_count, next_count}
use Rattle.nr_outside.specs.declared.moment.Moment.{Moment}

-- its moments, at least one, and how many it gave
pub record MemClockState : Type 0 where
  pub moments : List Moment
  pub count : ℕ

-- the moment at an index of the list, or the last one
abbrev pub moment_at : List Moment → ℕ → Moment
moment_at moments index = slice_index_or moments (min index (length moments - 1)) (record { seconds = 0; nanos = 0 })

-- the first n moments that it gives
abbrev pub first_moments : List Moment → ℕ → List Moment
first_moments moments zero = []
first_moments moments (suc n) = first_moments moments n ++ moment_at moments n ∷ []

-- the clock after one more
abbrev pub after_moment : MemClockState → MemClockState
after_moment c = record c { count = next_count c.count }

-- what it gave, until its counter is at its last value
abbrev pub given_by : MemClockState → Option (List Moment)
given_by c = if nat_lt c.count last_count then Some (first_moments c.moments c.count) else None
