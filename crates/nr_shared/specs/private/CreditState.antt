-- Whether a call can be submitted under a turn.
use Rattle.std.specs.Prelude.{◌≡◌, ⊤, true}
use Rattle.nr_turnstile.specs.declared.turn.Turn.{Turn}
use Rattle.nr_turnstile.specs.Passes.{seen_by}
use Rattle.nr_turnstile.specs.Turns.{Has, pass_of}
use Rattle.nr_requester.specs.MaySubmit.{may_submit}
use Rattle.nr_shared.specs.declared.entry.Entry.{Entry}
use Rattle.nr_shared.specs.declared.caller_turns.CreditState.{CreditState}
use Rattle.nr_shared.specs.declared.caller_turns.CreditState.TheVariants as credit_states
use Rattle.nr_shared.specs.declared.requester_with_sink.RequesterWithSink.{RequesterWithSink}
use Rattle.nr_shared.specs.Ending.{LinkEnded}

-- the value that the turn has may submit a call
abbrev pub LeavesCredit : {O C : Type 0} → Turn (RequesterWithSink O C) Entry → Type 0
LeavesCredit {O} {C} t = (y : RequesterWithSink O C) → Has t y → may_submit y.requester.state ≡ true

abbrev pub IsCreditState : {O C : Type 0} → Turn (RequesterWithSink O C) Entry → CreditState → Type 0
IsCreditState t credit_states.Left = LeavesCredit t
IsCreditState t credit_states.NoCredit = ⊤
IsCreditState t (credit_states.Ended end) = LinkEnded end (seen_by (pass_of t))
