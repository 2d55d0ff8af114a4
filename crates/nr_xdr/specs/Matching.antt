-- Whether the answer of a reader of several items is what a definition reads (Sequencing): a value and the cursor after it,
-- or the offset of the first item that fails.
use Rattle.std.specs.Prelude.{◌≡◌, ℕ, Result, Ok, Err}
use Rattle.nr_xdr.specs.declared.decode.DecodeError.{DecodeError}
use Rattle.nr_xdr.specs.Reading.{Cursor}

-- the value, seen by view, with the reader at new
abbrev pub MatchesRead : {X Y : Type 0} → (X → Y) → Result X DecodeError → Cursor → Result (Y × Cursor) ℕ → Type 0
MatchesRead view (Ok x) new read = read ≡ Ok (view x, new)
MatchesRead view (Err error) new read = read ≡ Err error.at

-- the same of a step without a value
abbrev pub MatchesStep : Result Unit DecodeError → Cursor → Result Cursor ℕ → Type 0
MatchesStep (Ok x) new read = read ≡ Ok new
MatchesStep (Err error) new read = read ≡ Err error.at

-- the same of a value without a cursor
abbrev pub MatchesValue : {X Y : Type 0} → (X → Y) → Result X DecodeError → Result Y ℕ → Type 0
MatchesValue view (Ok x) read = read ≡ Ok (view x)
MatchesValue view (Err error) read = read ≡ Err error.at
