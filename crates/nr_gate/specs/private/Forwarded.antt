-- What a record asks for, and what its call makes of the pass.
use Rattle.std.specs.Prelude.{◌≡◌, ⊤, ℕ, false, List, Option, None, Some, Result, Ok, Err, is_ok}
use Rattle.nr_rpc.specs.Credential.{CanWriteCred}
use Rattle.nr_rpc.specs.Reading.{call_of}
use Rattle.nr_rpc.specs.declared.head.CallHead.TheVariants as calls
use Rattle.nr_reduce.specs.declared.call.Outcome.{Outcome}
use Rattle.nr_reduce.specs.declared.call.Outcome.TheVariants as outcomes
use Rattle.nr_turnstile.specs.declared.turnstile.Pass.{Pass}
use Rattle.nr_record_loop.specs.declared.answering.NoReply.{NoReply}
use Rattle.nr_record_loop.specs.declared.answering.NoReply.TheVariants as reasons
use Rattle.nr_record_loop.specs.declared.loop_end.LoopEnd.{LoopEnd}
use Rattle.nr_record_loop.specs.declared.loop_end.LoopEnd.TheVariants as loops
use Rattle.nr_shared.specs.declared.call_end.CallEnd.{CallEnd}
use Rattle.nr_shared.specs.declared.call_end.CallEnd.TheVariants as call_ends
use Rattle.nr_shared.specs.declared.entry.Entry.{Entry}
use Rattle.nr_shared.specs.declared.requester_with_sink.RequesterWithSink.{RequesterWithSink}
use Rattle.nr_gate.specs.Forwarding.{Asks, with_xid}
use Rattle.nr_gate.specs.Gating.{EndsRemotely, IsUnfit, RunsOut}
use Rattle.nr_gate.specs.declared.asking.RecordCall.{RecordCall}
use Rattle.nr_gate.specs.declared.asking.RecordCall.TheVariants as records
use Rattle.nr_gate.specs.declared.forwarding.Failure.{Failure}
use Rattle.nr_gate.specs.declared.forwarding.Failure.TheVariants as failures
use Rattle.nr_gate.specs.declared.gate_end.GateEnd.{GateEnd}
use Rattle.nr_gate.specs.declared.gate_end.GateEnd.TheVariants as ends

-- what a record asks for, or why it asks for nothing
abbrev pub IsAsked : Result RecordCall NoReply → List ℕ → Type 0
IsAsked (Ok (records.Version2 xid asked)) bytes = Asks bytes xid asked × CanWriteCred asked.cred
IsAsked (Ok (records.Other xid)) bytes = (rpcvers : ℕ) × (call_of bytes ≡ Ok (calls.Other xid rpcvers))
IsAsked (Err reasons.NotCall) bytes = is_ok (call_of bytes) ≡ false
IsAsked (Err reasons.Memory) bytes = ⊤
IsAsked (Err reasons.Other) bytes = ⊥

-- the end that is kept; none is like one that no call makes
abbrev pub kept_end : Option GateEnd → GateEnd
kept_end None = ends.Closed
kept_end (Some end) = end

-- why a call that was made has no reply
abbrev pub FailsSo : {O C : Type 0} → Failure → (p q : Pass (RequesterWithSink O C) Entry) → (bytes : List ℕ) → Type 0
FailsSo failures.Memory p q bytes = RunsOut p q bytes
FailsSo (failures.Ended end) p q bytes = EndsRemotely end p q bytes

-- the reply of an outcome, with this xid
abbrev pub RepliesWith : Outcome → (xid : ℕ) → List ℕ → Type 0
RepliesWith outcome xid reply = (payload : List ℕ) × ((outcome ≡ outcomes.Reply payload) × (reply ≡ with_xid xid payload))

-- why an outcome gives no reply
abbrev pub HasNone : Outcome → Failure → Type 0
HasNone outcome failures.Memory = (payload : List ℕ) × ((outcome ≡ outcomes.Reply payload) × IsUnfit payload)
HasNone outcome (failures.Ended ends.Chunk) = outcome ≡ outcomes.Chunk
HasNone outcome (failures.Ended (ends.Version low high)) = outcome ≡ outcomes.Version low high
HasNone outcome (failures.Ended end) = ⊥

-- the failure that an end of the remote call makes
abbrev pub failure_at : CallEnd → Failure
failure_at call_ends.Memory = failures.Memory
failure_at end = failures.Ended (ends.Remote end)

-- the end of a connection, by that of the loop and the end that is kept
abbrev pub gate_end : LoopEnd → Option GateEnd → GateEnd
gate_end loops.Closed ended = ends.Closed
gate_end (loops.Cut at) ended = ends.Cut at
gate_end loops.LinkRead ended = ends.LinkRead
gate_end loops.LinkWrite ended = ends.LinkWrite
gate_end (loops.Bad at reason) ended = ends.Bad at reason
gate_end (loops.Budget read) ended = ends.Budget read
gate_end loops.Memory ended = ends.Memory
gate_end loops.Unanswered ended = kept_end ended
