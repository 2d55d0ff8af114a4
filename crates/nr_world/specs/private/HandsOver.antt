-- What it does to hand over an outcome.
use Rattle.std.specs.Prelude.{◌≡◌, ℕ, List, take, None, Some}
use Rattle.std.specs.List.{AllByRecursion, remove}
use Rattle.nr_reduce.specs.declared.call.Call.{Call}
use Rattle.nr_reduce.specs.declared.call.Outcome.{Outcome}
use Rattle.nr_reduce.specs.declared.mark.Mark.{Mark}
use Rattle.nr_requester.specs.declared.answer.Buffers.{Buffers}
use Rattle.nr_requester.specs.RequesterState.{RequesterState, RequesterSide}
use Rattle.nr_requester.specs.AfterCalls.{after_forget}
use Rattle.nr_requester.specs.OpenCalls.{found_answer}
use Rattle.nr_requester.specs.ReopenedLinks.{KeepsOn}
use Rattle.nr_drill.specs.Drill.{after_done}
use Rattle.nr_world.specs.DrillLinkState.{AwaitedLine, DrillLinkState}
use Rattle.nr_world.specs.Steps.{Goes}
use Rattle.nr_reduce.specs.declared.mark.Mark.TheVariants as marks

-- the outcome of an xid, which had come, was taken
pub record TakesOutcome (before : RequesterSide) (xid : ℕ) (outcome : Outcome) (after : RequesterSide) : Type 0 where
  pub call : Call
  pub buffers : Buffers
  pub came : found_answer xid before.state ≡ Some (record { xid = xid; call = call; buffers = buffers; outcome = outcome })
  pub state : after ≡ after_forget before xid
  pub stands : KeepsOn before (λ link. marks.Done link xid outcome) after

-- no outcome of these calls waits
abbrev pub HaveNoOutcome : RequesterState → List AwaitedLine → Type 0
HaveNoOutcome r lines = AllByRecursion (λ (line : AwaitedLine). found_answer line.xid r ≡ None) lines

-- The outcome of the awaited call at a place was handed over: it was the first that was due, if no outcome of the calls before it waited.
pub record HandsAt (at : ℕ) (before after : DrillLinkState) (run run' : List Mark) : Type 0 where
  pub goes : HaveNoOutcome before.client.state (take at before.awaited) → Goes after_done before after run run'
  pub left : after.awaited ≡ remove before.awaited at
  pub none : (xid : ℕ) → found_answer xid before.client.state ≡ None → found_answer xid after.client.state ≡ None
