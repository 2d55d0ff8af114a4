-- A number after the fields before it.
use Rattle.std.specs.Prelude.{ℕ, Option, None, Some, Result, Ok, Err}
use Rattle.nr_xdr.specs.declared.fault.ItemFault.{ItemFault}
use Rattle.nr_xdr.specs.Reading.{Cursor, unsigned_at}

-- one step after another
abbrev pub and_then : {A : Type 0} → Option Cursor → (Cursor → Option A) → Option A
and_then None f = None
and_then (Some c) f = f c

-- a number that is read
abbrev pub value_of : Result (ℕ × Cursor) ItemFault → Option ℕ
value_of (Ok n) = Some n.0
value_of (Err e) = None

unfoldable pub number_after : Option Cursor → Option ℕ
number_after front = and_then front (λ at. value_of (unsigned_at at))
