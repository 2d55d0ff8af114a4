-- The steps of writing a file.
use Rattle.std.specs.Prelude.{◌≡◌, ℕ, ◌+◌, ◌≤◌, ◌⊎◌, List, ◌++◌, length, Option, Result, Ok, Err}
use Rattle.nr_outside.specs.Content.{HandsOut}
use Rattle.nr_reduce.specs.declared.call.Outcome.{Outcome}
use Rattle.nr_client.specs.declared.client_end.ClientEnd.{ClientEnd}
use Rattle.nr_client.specs.Following.{MakesCallsOver, UnansweredOver}
use Rattle.nr_client.specs.Results.{Gives}
use Rattle.nr_client.specs.Relations.{CallRelations}
use Rattle.nr_client.specs.Writing.{WritesFileOver, file_write, piece_at, write_call, write_result, writing}
use Rattle.nr_client.specs.Writing.FileWrite.{Created}
use Rattle.nr_client.specs.private.InputWindows.{MayFollow, WindowState}

-- a WRITE of these bytes was answered
pub record WritesOn {V : Type 0} (rel : CallRelations V) (uid gid : ℕ) (file : List ℕ) (bytes : List ℕ) (at at' : ℕ) (b b' : V) : Type 0 where
  pub outcome : Outcome
  pub count : ℕ
  pub answered : rel.answers b b' (write_call uid gid file at bytes) outcome
  pub reads : write_result (length bytes) outcome ≡ Ok count
  pub offset : at' ≡ at + count

-- It has no answer; or its answer has no count.
abbrev pub FailsToWrite : {V : Type 0} → CallRelations V → (uid gid : ℕ) → List ℕ → List ℕ → ℕ → (b b' : V) → ClientEnd → Type 0
FailsToWrite rel uid gid file bytes at b b' end =
    UnansweredOver rel (write_call uid gid file at bytes) b b' end
    ⊎ ((outcome : Outcome) × (rel.answers b b' (write_call uid gid file at bytes) outcome × Gives {A = ℕ} (Err end) (write_result (length bytes) outcome)))

-- the file was created, and this number of bytes written
pub record WriteSoFar {V : Type 0} (rel : CallRelations V) (uid gid : ℕ) (dir name input : List ℕ) (b c : V) (file : List ℕ) (at : ℕ) : Type 0 where
  pub outcomes : List Outcome
  pub made : MakesCallsOver rel (writing uid gid dir name input) outcomes b c
  pub state : file_write input outcomes ≡ Created file at

-- The first bytes of an input were written to a file, and the next are in the window. Whatever may follow them, the calls are those of all.
pub record StreamsSoFar {V : Type 0} (rel : CallRelations V) (uid gid : ℕ) (dir name : List ℕ) (b c : V) (left given left' given' : Option (List ℕ)) (file : List ℕ) (at : ℕ) (w : WindowState) : Type 0 where
  pub written : List ℕ
  pub hands_out : HandsOut left given left' given' (written ++ w.kept)
  pub offset : length written ≡ at
  pub begins : (rest : List ℕ) → MayFollow w.ended rest → length (piece_at ((written ++ w.kept) ++ rest) 0) ≤ length (written ++ w.kept)
  pub calls : (rest : List ℕ) → MayFollow w.ended rest → WriteSoFar rel uid gid dir name ((written ++ w.kept) ++ rest) b c file at

-- More was written so, whatever was written before.
abbrev pub StreamsOn : {V : Type 0} → CallRelations V → (uid gid : ℕ) (file : List ℕ) (at at' : ℕ) (w w' : WindowState) (c d : V) (left given left' given' : Option (List ℕ)) → Type 0
StreamsOn {V} rel uid gid file at at' w w' c d left given left' given' =
    (dir name : List ℕ) (b : V) (first first_given : Option (List ℕ)) → StreamsSoFar rel uid gid dir name b c first first_given left given file at w
    → StreamsSoFar rel uid gid dir name b d first first_given left' given' file at' w'

-- The file was written, whatever was written before.
abbrev pub StreamsTo : {V : Type 0} → CallRelations V → (uid gid : ℕ) (file : List ℕ) (at : ℕ) (w : WindowState) (c d : V) (left given left' given' : Option (List ℕ)) → Result (Unit {0}) ClientEnd → Type 0
StreamsTo {V} rel uid gid file at w c d left given left' given' result =
    (dir name : List ℕ) (b : V) (first first_given : Option (List ℕ)) → StreamsSoFar rel uid gid dir name b c first first_given left given file at w
    → WritesFileOver rel uid gid dir name b d first first_given left' given' result
