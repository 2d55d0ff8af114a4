-- The payload of a call is bytes if its credential and its arguments are.
use Rattle.std.proofs.Common.{ℕ, List, [], ◌∷◌, map}
use Rattle.nr_xdr.specs.Item.{IsBytes}
use Rattle.nr_xdr.specs.Item.Item.{Unsigned}
use Rattle.nr_rpc.specs.declared.cred.Cred.{Cred}
use Rattle.nr_rpc.specs.declared.cred.Cred.TheVariants as creds
use Rattle.nr_rpc.specs.declared.head.CallHead.TheVariants.{Version2}
use Rattle.nr_rpc.specs.Credential.{auth_of, no_verifier, sys_items}
use Rattle.nr_rpc.specs.Call.{call_head, version2_items}
use Rattle.nr_reduce.specs.declared.call.Call.{Call}
use Rattle.nr_reduce.specs.ClientState.{call_payload}
use Rattle.nr_laws.proofs.Bytes.{bytes_both}
use Rattle.nr_script.specs.Script.{IsTypedCred}
use Rattle.nr_script.proofs.ByteLists.{AreOfBytes, items_bytes, no_bytes_lem}

unsigned_all : (ns : List ℕ) → AreOfBytes (map Unsigned ns)
unsigned_all [] = tt
unsigned_all (n ∷ ns) = (tt, unsigned_all ns)

auth_bytes_lem : (cred : Cred) → IsTypedCred cred → IsBytes (auth_of cred).body
auth_bytes_lem creds.None h = no_bytes_lem
auth_bytes_lem (creds.Sys stamp machine uid gid gids) h = items_bytes (sys_items stamp machine uid gid gids) (tt, (h.0, (tt, (tt, (tt, unsigned_all gids)))))
auth_bytes_lem (creds.Other flavor) h = no_bytes_lem

pub payload_is_bytes : (xid : ℕ) (call : Call) → IsTypedCred call.cred → IsBytes call.args → IsBytes (call_payload xid call)
unfolding call_payload
payload_is_bytes xid call cred args =
    bytes_both (call_head (Version2 xid call.prog call.vers call.proc call.cred 0)) call.args
    (items_bytes (version2_items xid call.prog call.vers call.proc (auth_of call.cred) no_verifier)
    (tt, (tt, (tt, (tt, (tt, (tt, (tt, (auth_bytes_lem call.cred cred, (tt, (no_bytes_lem, tt)))))))))))
    args
