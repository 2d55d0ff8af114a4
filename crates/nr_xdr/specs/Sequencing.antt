-- Sequences of readings: each gives a value with the cursor after it, or the offset of the first item that fails.
use Rattle.std.specs.Prelude.{ℕ, Result, Ok, Err}
use Rattle.nr_xdr.specs.declared.fault.ItemFault.{ItemFault}
use Rattle.nr_xdr.specs.Reading.{Cursor, unsigned_at, place_of}

infixl 10 ◌>>=◌
abbrev pub ◌>>=◌ : {A B : Type 0} → Result A ℕ → (A → Result B ℕ) → Result B ℕ
(Ok x) >>= f = f x
(Err at) >>= f = Err at

-- an item, or the offset at which it fails
abbrev pub or_place : {A : Type 0} → Result A ItemFault → Result A ℕ
or_place (Ok x) = Ok x
or_place (Err e) = Err (place_of e)

abbrev pub number_at : Cursor → Result (ℕ × Cursor) ℕ
number_at c = or_place (unsigned_at c)
