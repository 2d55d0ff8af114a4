-- What a take makes of the value that a turn has.
use Rattle.std.specs.Prelude.{◌≡◌, ⊤, ℕ, List, [], ◌∷◌, ◌++◌, Option}
use Rattle.nr_reduce.specs.declared.call.Call.{Call}
use Rattle.nr_requester.specs.declared.taking.Take.{Take}
use Rattle.nr_requester.specs.declared.taking.Take.TheVariants as takes
use Rattle.nr_shared.specs.declared.entry.Entry.{Entry}
use Rattle.nr_shared.specs.declared.entry.Entry.TheVariants as entries
use Rattle.nr_shared.specs.declared.requester_with_sink.RequesterWithSink.{RequesterWithSink}
use Rattle.nr_shared.specs.Ending.{HasEnded}
use Rattle.nr_shared.specs.HandedBack.{HavePlaced, IsAwaitedStill, IsLostWith, lost_entry}
use Rattle.nr_shared.specs.Standing.{Stands}
use Rattle.nr_reduce.specs.declared.call.Form.{Form}

-- The value, which stood for this history, in which the call stands at this place, stands for it with the entry of the take.
abbrev pub TakenBy : {O C : Type 0} → (O → ℕ) → (O → Option (List ℕ)) → (O → ℕ) → (Call → Form → Type 0) → List Entry → (xid k : ℕ) → Call → Take → RequesterWithSink O C → Type 0
TakenBy link taken faults allows history xid k call (takes.Done done) m = Stands link taken faults allows m (history ++ entries.Done xid done.outcome k ∷ []) × ((done.call ≡ call) × HavePlaced xid done.buffers history)
TakenBy link taken faults allows history xid k call (takes.NotYet ticket) m = Stands link taken faults allows m history × ((ticket ≡ xid) × IsAwaitedStill xid history)
TakenBy link taken faults allows history xid k call (takes.Failed c buffers end) m =
    Stands link taken faults allows m (history ++ lost_entry end xid buffers k ∷ []) × ((c ≡ call) × (HasEnded end history × IsLostWith xid buffers history))

-- the answer was there
abbrev pub IsDone : Take → Type 0
IsDone (takes.Done done) = ⊤
IsDone take = ⊥
