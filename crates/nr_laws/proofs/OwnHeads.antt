-- The own payload of a call has its call head, and so its target.
use Rattle.std.proofs.Common.{◌≡◌, ℕ, ◌^◌, ◌<◌, Ok}
use Rattle.nr_rpc.specs.declared.head.CallHead.TheVariants as calls
use Rattle.nr_rpc.specs.Credential.{CanWriteCred}
use Rattle.nr_rpc.specs.Reading.{call_of}
use Rattle.nr_rpc.proofs.Calls.{call_written}
use Rattle.nr_reduce.specs.declared.call.Call.{Call}
use Rattle.nr_reduce.specs.ClientState.{call_payload}
use Rattle.nr_laws.specs.Typed.{IsTypedCall}

pub record OwnHead (xid : ℕ) (call : Call) : Type 0 where
  pub args_at : ℕ
  pub is : call_of (call_payload xid call) ≡ Ok (calls.Version2 xid call.prog call.vers call.proc call.cred args_at)

pub own_head_lem : (xid : ℕ) (call : Call) → xid < 2 ^ 32 → IsTypedCall call → CanWriteCred call.cred → OwnHead xid call
unfolding call_payload
own_head_lem xid call small typed can = record { args_at = _; is = call_written (calls.Version2 xid call.prog call.vers call.proc call.cred 0) call.args can (small, typed.0, typed.1, typed.2, typed.3) }
