-- After a drain.
use Rattle.std.specs.Prelude.{◌≡◌, true, false, ◌⊎◌, None}
use Rattle.nr_turnstile.specs.declared.turn.Turn.{Turn}
use Rattle.nr_turnstile.specs.Turns.{Has}
use Rattle.nr_shared.specs.declared.entry.Entry.{Entry}
use Rattle.nr_shared.specs.declared.requester_with_sink.RequesterWithSink.{RequesterWithSink}

-- a write failed, there is no link, or no output is pending
abbrev pub IsFlushed : {O C : Type 0} → RequesterWithSink O C → Type 0
IsFlushed m = (m.write_failed ≡ true) ⊎ ((m.sink ≡ None) ⊎ (m.pending ≡ false))

-- the value that the turn has is so
abbrev pub HasFlushed : {O C : Type 0} → Turn (RequesterWithSink O C) Entry → Type 0
HasFlushed {O} {C} t = (y : RequesterWithSink O C) → Has t y → IsFlushed y
