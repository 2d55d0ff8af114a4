-- A call as a gateway forwards it (RFC 5531 section 9): with another xid, its credential as it was read, and the verifier AUTH_NONE.
use Rattle.std.specs.Prelude.{◌≡◌, ℕ, List, ◌++◌, drop, Result, Ok, Err}
use Rattle.nr_xdr.specs.Item.{word}
use Rattle.nr_rpc.specs.Call.{call_encoding}
use Rattle.nr_rpc.specs.Reading.{call_of}
use Rattle.nr_rpc.specs.declared.head.CallHead.{CallHead}
use Rattle.nr_rpc.specs.declared.head.CallHead.TheVariants as calls
use Rattle.nr_reduce.specs.declared.call.Call.{Call}

-- by the head that was read: what is no call of RPC version 2 is not forwarded
abbrev pub forwarded_by : ℕ → List ℕ → Result CallHead ℕ → List ℕ
forwarded_by x q (Ok (calls.Version2 xid prog vers proc cred args_at)) = call_encoding (calls.Version2 x prog vers proc cred args_at) (drop args_at q)
forwarded_by x q (Ok (calls.Other xid rpcvers)) = q
forwarded_by x q (Err at) = q

abbrev pub forwarded : ℕ → List ℕ → List ℕ
forwarded x q = forwarded_by x q (call_of q)

-- a reply with another xid, which is its first word
abbrev pub with_xid : ℕ → List ℕ → List ℕ
with_xid x reply = word x ++ drop 4 reply

-- The record is a call of RPC version 2 with this xid, and this is what it asks for: program, version, procedure, its
-- credential as it was read, and its arguments.
pub record Asks (q : List ℕ) (xid : ℕ) (asked : Call) : Type 0 where
  pub args_at : ℕ
  pub head : call_of q ≡ Ok (calls.Version2 xid asked.prog asked.vers asked.proc asked.cred args_at)
  pub args : asked.args ≡ drop args_at q
