-- What is read from a source and written to a sink. Clauses about bytes apply only if the bytes are known; fault counts are always
-- known.
use Rattle.std.specs.Prelude.{◌≡◌, ℕ, ◌<◌, ◌≤◌, List, length, take, Option, IfSome}
use Rattle.std.specs.Io.KnownBytes.{Appends, Keeps, IsAtEnd}
use Rattle.nr_outside.specs.Content.{HandsOut}
use Rattle.nr_outside.specs.Faults.{Rises}

-- a source: the bytes left and those handed out, if they are known, and its fault count
pub record SourceAt : Type 0 where
  pub left : Option (List ℕ)
  pub given : Option (List ℕ)
  pub faults : ℕ

abbrev pub source_at : Option (List ℕ) → Option (List ℕ) → ℕ → SourceAt
source_at left given faults = record { left = left; given = given; faults = faults }

-- a sink: the bytes taken, if they are known, and its fault count
pub record SinkAt : Type 0 where
  pub taken : Option (List ℕ)
  pub faults : ℕ

abbrev pub sink_at : Option (List ℕ) → ℕ → SinkAt
sink_at taken faults = record { taken = taken; faults = faults }

-- the source was read to its end, and this is all of it, at most `limit` bytes
pub record ReadsAll (limit : ℕ) (old new : SourceAt) (text : List ℕ) : Type 0 where
  pub handed : HandsOut old.left old.given new.left new.given text
  pub all : IfSome old.left (λ left. text ≡ left)
  pub end : IsAtEnd new.left
  pub within : length text ≤ limit
  pub unfailing : new.faults ≡ old.faults

-- at most `limit` bytes were read
abbrev pub ReadsWithin : ℕ → SourceAt → SourceAt → Type 0
ReadsWithin limit old new = (bytes : List ℕ) × HandsOut old.left old.given new.left new.given bytes × (length bytes ≤ limit)

-- more than `limit` bytes were read
abbrev pub ReadsBeyond : ℕ → SourceAt → SourceAt → Type 0
ReadsBeyond limit old new = (bytes : List ℕ) × HandsOut old.left old.given new.left new.given bytes × (limit < length bytes)

-- nothing was written
pub record WritesNone (old new : SinkAt) : Type 0 where
  pub keeps : Keeps old.taken new.taken
  pub unfailing : new.faults ≡ old.faults

-- this was written, and nothing else
pub record Writes (old new : SinkAt) (text : List ℕ) : Type 0 where
  pub appends : Appends old.taken new.taken text
  pub unfailing : new.faults ≡ old.faults

-- a proper prefix of this was written, and then the count rose
pub record WritesSome (old new : SinkAt) (text : List ℕ) : Type 0 where
  pub len : ℕ
  pub short : len < length text
  pub appends : Appends old.taken new.taken (take len text)
  pub rose : Rises old.faults new.faults
