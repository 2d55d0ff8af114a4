-- An end of a link as a machine over its events.
use Rattle.std.specs.Prelude.{ℕ, List, [], ◌∷◌, ◌++◌, Option, None, Some}
use Rattle.nr_link.specs.declared.end.End.{End}
use Rattle.nr_reduce.specs.Events.{RunEvent, events}

-- The rules of an end, by its state before an event: why the event ends it, what output is due for the event, and its state after
-- it. An event that ends it has the final output instead, and no later event counts.
pub record EndMachine (S : Type 0) : Type 0 where
  pub end_at : S → RunEvent → Option End
  pub output_at : S → RunEvent → List ℕ
  pub state_after : S → RunEvent → S
  pub final_output : End → List ℕ

-- the state of an end, and why it ended, once it has
pub record EndState (S : Type 0) : Type 0 where
  pub state : S
  pub ended : Option End

-- an end that hasn't ended
abbrev pub live : {S : Type 0} → S → EndState S
live s = record { state = s; ended = None }

module _ {S : Type 0} (rules : EndMachine S) where
  abbrev pub next_end_state_by : S → RunEvent → Option End → EndState S
  next_end_state_by s event None = record { state = rules.state_after s event; ended = None }
  next_end_state_by s event (Some end) = record { state = s; ended = Some end }

  abbrev pub next_end_state_in : S → RunEvent → Option End → EndState S
  next_end_state_in s event None = next_end_state_by s event (rules.end_at s event)
  next_end_state_in s event (Some end) = record { state = s; ended = Some end }

  abbrev pub next_end_state : EndState S → RunEvent → EndState S
  next_end_state r event = next_end_state_in r.state event r.ended

  abbrev pub output_for_by : S → RunEvent → Option End → List ℕ
  output_for_by s event None = rules.output_at s event
  output_for_by s event (Some end) = rules.final_output end

  abbrev pub output_for_in : S → RunEvent → Option End → List ℕ
  output_for_in s event None = output_for_by s event (rules.end_at s event)
  output_for_in s event (Some end) = []

  abbrev pub output_for : EndState S → RunEvent → List ℕ
  output_for r event = output_for_in r.state event r.ended

  -- after some events, and all output that is due for them
  abbrev pub end_state_after : EndState S → List RunEvent → EndState S
  end_state_after r [] = r
  end_state_after r (event ∷ events) = end_state_after (next_end_state r event) events

  abbrev pub output_for_all : EndState S → List RunEvent → List ℕ
  output_for_all r [] = []
  output_for_all r (event ∷ events) = output_for r event ++ output_for_all (next_end_state r event) events
