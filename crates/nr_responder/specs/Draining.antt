-- What a drain makes of a responder.
use Rattle.std.specs.Prelude.{◌≡◌, ℕ, ◌≤◌, List, [], ◌∷◌, ◌++◌, length, take, Option}
use Rattle.std.specs.Io.KnownBytes.{Appends}
use Rattle.nr_wire.specs.declared.hello.Side.TheVariants.{Responder}
use Rattle.nr_reduce.specs.declared.mark.LinkParameters.{LinkParameters}
use Rattle.nr_reduce.specs.declared.mark.Mark.{Mark}
use Rattle.nr_reduce.specs.declared.mark.Mark.TheVariants as marks
use Rattle.nr_responder.specs.ResponderState.{ResponderSide, may_write, after_drain}
use Rattle.nr_responder.specs.Standing.{ResponderRepresents}

-- A sink took n bytes of what may be written, from the front; the receive of each message whose answer left is posted again; and it stands
-- on by a Wrote of these bytes.
pub record Drains (before after : ResponderSide) (sink sink_after : Option (List ℕ)) (n : ℕ) : Type 0 where
  pub within : n ≤ length (may_write before)
  pub taken : Appends sink sink_after (take n (may_write before))
  pub state : after ≡ after_drain before n
  pub stands : (opened : LinkParameters) (link : ℕ) (run : List Mark) → ResponderRepresents opened link run before → ResponderRepresents opened link (run ++ marks.Wrote link Responder (take n (may_write before)) ∷ []) after
