-- A record connection that was served completely.
use Rattle.std.specs.Prelude.{◌≡◌, ⊤, ℕ, true, List, [], is_ok}
use Rattle.std.specs.Io.KnownBytes.{IsAtEnd}
use Rattle.nr_rpc.specs.Reading.{call_of}
use Rattle.nr_plain.specs.History.{Answered}
use Rattle.nr_record_host.specs.RecordRuns.{Around, Serves, calls, written}
use Rattle.nr_record_host.specs.declared.record_end.RecordEnd.{RecordEnd}
use Rattle.nr_record_host.specs.declared.record_end.RecordEnd.TheVariants as ends

-- the record begins with the head of a call (RFC 5531 section 9)
abbrev pub HasCallHead : List ℕ → Type 0
HasCallHead bytes = is_ok (call_of bytes) ≡ true

-- all of these records were read, executed in their order and answered, and no byte is left
pub record AnswersRecords (before after : Around) (records : List (List ℕ)) : Type 0 where
  pub bytes : List ℕ
  pub exchanges : List Answered
  pub all : calls exchanges ≡ records
  pub serves : Serves before after bytes exchanges [] (written exchanges)
  pub left : IsAtEnd after.left

-- the connection did so and ended with Closed, or memory ran out
abbrev pub IsComplete : (before after : Around) → List (List ℕ) → RecordEnd → Type 0
IsComplete before after records ends.Closed = AnswersRecords before after records
IsComplete before after records ends.Memory = ⊤
IsComplete before after records end = ⊥
