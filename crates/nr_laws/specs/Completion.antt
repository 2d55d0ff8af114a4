-- Calls complete on a link that stays (RFC 8166 section 4.5: each call is answered by one message).
use Rattle.std.specs.Prelude.{◌≡◌, ℕ, false, List, [], None, Contains}
use Rattle.nr_wire.specs.declared.hello.Side.TheVariants.{Initiator, Responder}
use Rattle.nr_reduce.specs.declared.call.Outcome.{Outcome}
use Rattle.nr_reduce.specs.declared.mark.Mark.{Mark}
use Rattle.nr_reduce.specs.declared.mark.LinkParameters.{LinkParameters}
use Rattle.nr_reduce.specs.History.{AcceptedCall, CompletedCall, accepted_calls, completed_calls, bytes_sent, bytes_received, is_abandoned}
use Rattle.nr_reduce.specs.Run.{client, end_of_side}
use Rattle.nr_reduce.specs.Credits.{calls_outstanding}
use Rattle.nr_reduce.specs.OutcomesDue.{outcomes_due}
use Rattle.nr_reduce.specs.Asked.{Asked}
use Rattle.nr_reduce.specs.Served.{Served, next_call}
use Rattle.nr_reduce.specs.Matched.{Matched}
use Rattle.nr_laws.specs.Typed.{IsTyped}

-- Nothing is in transit on a link, and nothing waits to be executed: each side received all that the other sent, and each complete call is
-- executed. That each side wrote all its output is part of its law in full.
pub record NothingInTransit (opened : LinkParameters) (link : ℕ) (run : List Mark) : Type 0 where
  pub up : bytes_received link Responder run ≡ bytes_sent link Initiator run
  pub down : bytes_received link Initiator run ≡ bytes_sent link Responder run
  pub executed : next_call opened link run ≡ None

-- nor has a side ended
pub record IsQuiescent (opened : LinkParameters) (link : ℕ) (run : List Mark) : Type 0 where
  pub client_stays : end_of_side opened link Initiator run ≡ None
  pub server_stays : end_of_side opened link Responder run ≡ None
  pub nothing_waits : NothingInTransit opened link run

-- an accepted call that wasn't given up
pub record IsAwaitedStill (link : ℕ) (run : List Mark) (a : AcceptedCall) : Type 0 where
  pub accepted : Contains (accepted_calls link run) a
  pub kept : is_abandoned link a.xid run ≡ false

-- some outcome of this xid is among these
abbrev pub HasOutcome : List CompletedCall → ℕ → Type 0
HasOutcome calls xid = (outcome : Outcome) × Contains calls (record { xid = xid; outcome = outcome })

-- No call is outstanding, and none waits to be sent again: a message of each accepted call was received. It brought an outcome of each that wasn't
-- given up; and once all outcomes that are due are handed over, each of these has its Done.
pub record HaveCompleted (opened : LinkParameters) (link : ℕ) (run : List Mark) : Type 0 where
  pub none_outstanding : calls_outstanding opened link run ≡ 0
  pub none_waits : (client opened link run).state.waiting ≡ []
  pub has_outcome : (a : AcceptedCall) → IsAwaitedStill link run a → HasOutcome (client opened link run).state.outcomes a.xid
  pub has_done : outcomes_due opened link run ≡ [] → (a : AcceptedCall) → IsAwaitedStill link run a → HasOutcome (completed_calls link run) a.xid

abbrev pub CallsComplete : Type 0
CallsComplete = (opened : LinkParameters) (link : ℕ) (run : List Mark) → IsTyped run → Asked opened link run → Served opened link run → Matched link run → IsQuiescent opened link run → HaveCompleted opened link run
