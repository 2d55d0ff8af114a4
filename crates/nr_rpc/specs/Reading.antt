-- What is read at a cursor, or the offset of the first item that fails (RFC 5531 section 9).
use Rattle.std.specs.Prelude.{◌≡◌, ℕ, zero, suc, List, [], ◌∷◌, length, Option, Some, None, unwrap_or, Result, Ok, Err, nat_lt, ◌==◌, if◌then◌else◌}
use Rattle.nr_xdr.specs.Reading.{Cursor, opaque_at}
use Rattle.nr_xdr.specs.Sequencing.{◌>>=◌, or_place, number_at}
use Rattle.nr_rpc.specs.Constants.{AUTH_BODY_MAX, MACHINE_MAX, GIDS_MAX, RPC_VERSION, CALL, REPLY, MSG_ACCEPTED, MSG_DENIED, PROG_MISMATCH, RPC_MISMATCH, AUTH_ERROR, AUTH_NONE, AUTH_SYS}
use Rattle.nr_rpc.specs.declared.fault.HeadFault.{HeadFault}
use Rattle.nr_rpc.specs.declared.fault.HeadFault.TheVariants as faults
use Rattle.nr_rpc.specs.declared.cred.Cred.{Cred}
use Rattle.nr_rpc.specs.declared.cred.Cred.TheVariants as creds
use Rattle.nr_rpc.specs.declared.head.CallHead.{CallHead}
use Rattle.nr_rpc.specs.declared.head.CallHead.TheVariants as calls
use Rattle.nr_rpc.specs.declared.head.ReplyHead.{ReplyHead}
use Rattle.nr_rpc.specs.declared.head.ReplyHead.TheVariants as replies
use Rattle.nr_rpc.specs.declared.item.RawAuth.{RawAuth}
use Rattle.nr_rpc.specs.declared.sys.SysBody.{SysBody}
use Rattle.nr_rpc.specs.declared.call.CallStart.{CallStart}
use Rattle.nr_rpc.specs.declared.call.CallStart.TheVariants as starts
use Rattle.nr_rpc.specs.declared.head.CallTarget.{CallTarget}
use Rattle.nr_rpc.specs.Credential.{Auth}

-- this number and no other: a word of another value fails at its own offset
unfoldable pub expect_at : ℕ → Cursor → Result Cursor ℕ
expect_at wanted c = do
  n ← number_at c
  if n.0 == wanted then Ok n.1 else Err c.place

-- a flavor and a body
unfoldable pub auth_at : Cursor → Result (Auth × Cursor) ℕ
auth_at c = do
  flavor ← number_at c
  body ← or_place (opaque_at AUTH_BODY_MAX flavor.1)
  Ok (record { flavor = flavor.0; body = body.0 }, body.1)

-- two numbers, one after the other
unfoldable pub pair_at : Cursor → Result ((ℕ × ℕ) × Cursor) ℕ
pair_at c = do
  first ← number_at c
  second ← number_at first.1
  Ok ((first.0, second.0), second.1)

-- this many numbers
unfoldable pub numbers_at : ℕ → Cursor → Result (List ℕ × Cursor) ℕ
numbers_at zero c = Ok ([], c)
numbers_at (suc n) c = do
  first ← number_at c
  others ← numbers_at n first.1
  Ok (first.0 ∷ others.0, others.1)

-- the further groups, after their count
unfoldable pub gids_at : Cursor → Result (List ℕ × Cursor) ℕ
gids_at c = do
  count ← number_at c
  if nat_lt GIDS_MAX count.0 then Err c.place else numbers_at count.0 count.1

-- a user, its group and the further groups
unfoldable pub user_at : Cursor → Result (((ℕ × ℕ) × List ℕ) × Cursor) ℕ
user_at c = do
  ids ← pair_at c
  gids ← gids_at ids.1
  Ok ((ids.0, gids.0), gids.1)

-- the body of AUTH_SYS (RFC 5531 appendix A)
unfoldable pub sys_at : Cursor → Result (Cred × Cursor) ℕ
sys_at c = do
  stamp ← number_at c
  machine ← or_place (opaque_at MACHINE_MAX stamp.1)
  user ← user_at machine.1
  Ok (creds.Sys stamp.0 machine.0 user.0.0.0 user.0.0.1 user.0.1, user.1)

-- the value that was read, if nothing follows it
abbrev pub whole_value : {A : Type 0} → Result (A × Cursor) ℕ → Option A
whole_value (Ok x) = if length x.1.rest == 0 then Some x.0 else None
whole_value (Err at) = None

-- the credential of a flavor and a body
unfoldable pub cred_of : Auth → Cred
cred_of auth =
    if auth.flavor == AUTH_NONE then creds.None
    else (if auth.flavor == AUTH_SYS then unwrap_or (whole_value (sys_at (record { place = 0; rest = auth.body }))) (creds.Other auth.flavor)
    else creds.Other auth.flavor)

-- a program; its version and a procedure
unfoldable pub procedure_at : Cursor → Result ((ℕ × (ℕ × ℕ)) × Cursor) ℕ
procedure_at c = do
  prog ← number_at c
  version ← pair_at prog.1
  Ok ((prog.0, version.0), version.1)

-- a call of version 2, from the program on
unfoldable pub version2_at : ℕ → Cursor → Result (CallHead × Cursor) ℕ
version2_at xid c = do
  called ← procedure_at c
  cred ← auth_at called.1
  verifier ← auth_at cred.1
  Ok (calls.Version2 xid called.0.0 called.0.1.0 called.0.1.1 (cred_of cred.0) verifier.1.place, verifier.1)

unfoldable pub call_at : Cursor → Result (CallHead × Cursor) ℕ
call_at c = do
  xid ← number_at c
  kind ← expect_at CALL xid.1
  rpcvers ← number_at kind
  if rpcvers.0 == RPC_VERSION then version2_at xid.0 rpcvers.1 else Ok (calls.Other xid.0 rpcvers.0, rpcvers.1)

-- the lowest and the highest version
unfoldable pub versions_at : (ℕ → ℕ → ReplyHead) → Cursor → Result (ReplyHead × Cursor) ℕ
versions_at head c = do
  versions ← pair_at c
  Ok (head versions.0.0 versions.0.1, versions.1)

-- the reply to a call that was accepted, from the verifier on
unfoldable pub accepted_at : ℕ → Cursor → Result (ReplyHead × Cursor) ℕ
accepted_at xid c = do
  verifier ← auth_at c
  stat ← number_at verifier.1
  if stat.0 == PROG_MISMATCH then versions_at (replies.ProgMismatch xid) stat.1
      else Ok (replies.Accepted xid stat.0 stat.1.place, stat.1)

-- the reply to a call that was denied, from its status on: a status of another value fails at its own offset
unfoldable pub denied_at : ℕ → Cursor → Result (ReplyHead × Cursor) ℕ
denied_at xid c = do
  stat ← number_at c
  if stat.0 == RPC_MISMATCH then versions_at (replies.RpcMismatch xid) stat.1
      else (if stat.0 == AUTH_ERROR then (number_at stat.1 >>= λ why. Ok (replies.AuthError xid why.0, why.1)) else Err c.place)

unfoldable pub reply_at : Cursor → Result (ReplyHead × Cursor) ℕ
reply_at c = do
  xid ← number_at c
  kind ← expect_at REPLY xid.1
  status ← number_at kind
  if status.0 == MSG_ACCEPTED then accepted_at xid.0 status.1
      else (if status.0 == MSG_DENIED then denied_at xid.0 status.1 else Err kind.place)

-- the head alone
abbrev pub head_of : {A : Type 0} → Result (A × Cursor) ℕ → Result A ℕ
head_of (Ok x) = Ok x.0
head_of (Err at) = Err at

-- the call head with which the bytes begin, or the offset of the first item that fails
unfoldable pub call_of : List ℕ → Result CallHead ℕ
call_of bytes = head_of (call_at (record { place = 0; rest = bytes }))

-- the reply head with which the bytes begin, or the offset of the first item that fails
unfoldable pub reply_of : List ℕ → Result ReplyHead ℕ
reply_of bytes = head_of (reply_at (record { place = 0; rest = bytes }))

-- the answer is what reading gives, unless memory ran out
abbrev pub GivesCall : Result CallHead HeadFault → Result CallHead ℕ → Type 0
GivesCall (Ok head) read = read ≡ Ok head
GivesCall (Err (faults.NotCall at)) read = read ≡ Err at
GivesCall (Err (faults.NotReply at)) read = ⊥
GivesCall (Err faults.Memory) read = Unit {0}

-- the answer is what reading gives, and never out of memory
abbrev pub GivesReply : Result ReplyHead HeadFault → Result ReplyHead ℕ → Type 0
GivesReply (Ok head) read = read ≡ Ok head
GivesReply (Err (faults.NotCall at)) read = ⊥
GivesReply (Err (faults.NotReply at)) read = read ≡ Err at
GivesReply (Err faults.Memory) read = ⊥

-- the values that borrow their bytes from the input, as the values that own them
abbrev pub auth_of_raw : RawAuth → Auth
auth_of_raw auth = record { flavor = auth.flavor; body = auth.body.now }

abbrev pub cred_of_body : SysBody → Cred
cred_of_body sys = creds.Sys sys.stamp sys.machine.now sys.uid sys.gid sys.gids

abbrev pub head_of_start : CallStart → CallHead
head_of_start (starts.Version2 xid prog vers proc cred args_at) = calls.Version2 xid prog vers proc (cred_of (auth_of_raw cred)) args_at
head_of_start (starts.Other xid rpcvers) = calls.Other xid rpcvers

-- the program, the version and the procedure of a call, and the offset of its arguments
abbrev pub target_of : Result CallHead ℕ → Option CallTarget
target_of (Ok (calls.Version2 xid prog vers proc cred args_at)) = Some (record { xid = xid; prog = prog; vers = vers; proc = proc; args_at = args_at })
target_of (Ok (calls.Other xid rpcvers)) = None
target_of (Err at) = None

-- the transaction ID (XID) of a call head, and of the call head that was read, if one was
abbrev pub head_xid : CallHead → ℕ
head_xid (calls.Version2 xid prog vers proc cred args_at) = xid
head_xid (calls.Other xid rpcvers) = xid

abbrev pub xid_of_call : Result CallHead ℕ → Option ℕ
xid_of_call (Ok head) = Some (head_xid head)
xid_of_call (Err at) = None
