-- What the reply to a call is read as: the results of its procedure, or why there are none.
use Rattle.std.specs.Prelude.{◌≡◌, ℕ, ◌==◌, ⊤, if◌then◌else◌, List, drop, Result, Ok, Err}
use Rattle.nr_xdr.specs.Sequencing.{◌>>=◌}
use Rattle.nr_rpc.specs.declared.head.ReplyHead.{ReplyHead}
use Rattle.nr_rpc.specs.declared.head.ReplyHead.TheVariants as heads
use Rattle.nr_rpc.specs.Reading.{reply_of}
use Rattle.nr_nfs_base.specs.Codec.{Codec, value_at_end}
use Rattle.nr_nfs_base.specs.declared.status.Status.{Status}
use Rattle.nr_nfs_base.specs.declared.mount_status.MountStatus.{MountStatus}
use Rattle.nr_nfs_base.specs.declared.status_union.StatusUnion.{StatusUnion}
use Rattle.nr_nfs_base.specs.declared.status_union.StatusUnion.TheVariants.{Done, Failed}
use Rattle.nr_reduce.specs.declared.call.Outcome.{Outcome}
use Rattle.nr_reduce.specs.declared.call.Outcome.TheVariants as outcomes
use Rattle.nr_client.specs.declared.client_end.ClientEnd.{ClientEnd}
use Rattle.nr_client.specs.declared.client_end.ClientEnd.TheVariants as client
use Rattle.nr_client.specs.declared.client_end.RpcKind.TheVariants as kinds

-- the reason of a reply that can't be read
abbrev pub not_read : ℕ
not_read = 24

-- Results that begin at this offset of a reply: all bytes from there on are read as such; else the offset in the reply of the first item that
-- fails, or of the first byte left over.
abbrev pub results_in : {A : Type 0} → Codec A → List ℕ → ℕ → Result A ℕ
results_in codec payload at = codec.read (record { place = at; rest = drop at payload }) >>= value_at_end

abbrev pub results_or : {A : Type 0} → Result A ℕ → Result A ClientEnd
results_or (Ok value) = Ok value
results_or (Err at) = Err (client.BadReply at not_read)

-- by the head of the reply (RFC 5531 section 9): accept status 0 is SUCCESS and 2 is PROG_MISMATCH; of a denied call the reject status is 0
-- for RPC_MISMATCH and 1 for AUTH_ERROR
abbrev pub result_by_head : {A : Type 0} → Codec A → List ℕ → ReplyHead → Result A ClientEnd
result_by_head codec payload (heads.Accepted xid stat results_at) =
    if stat == 0 then results_or (results_in codec payload results_at) else Err (client.Rpc kinds.Accept stat)
result_by_head codec payload (heads.ProgMismatch xid low high) = Err (client.Rpc kinds.Accept 2)
result_by_head codec payload (heads.RpcMismatch xid low high) = Err (client.Rpc kinds.Reject 0)
result_by_head codec payload (heads.AuthError xid stat) = Err (client.Rpc kinds.Reject 1)

abbrev pub result_by_reading : {A : Type 0} → Codec A → List ℕ → Result ReplyHead ℕ → Result A ClientEnd
result_by_reading codec payload (Ok head) = result_by_head codec payload head
result_by_reading codec payload (Err at) = Err (client.BadReply at not_read)

abbrev pub result_of_reply : {A : Type 0} → Codec A → List ℕ → Result A ClientEnd
result_of_reply codec payload = result_by_reading codec payload (reply_of payload)

-- where the results begin in the reply to a call that was executed, or why it has none
abbrev pub results_start : Result ReplyHead ℕ → Result ℕ ClientEnd
results_start (Ok (heads.Accepted xid stat results_at)) = if stat == 0 then Ok results_at else Err (client.Rpc kinds.Accept stat)
results_start (Ok (heads.ProgMismatch xid low high)) = Err (client.Rpc kinds.Accept 2)
results_start (Ok (heads.RpcMismatch xid low high)) = Err (client.Rpc kinds.Reject 0)
results_start (Ok (heads.AuthError xid stat)) = Err (client.Rpc kinds.Reject 1)
results_start (Err at) = Err (client.BadReply at not_read)

-- of an outcome: the results with this codec, or why there are none
abbrev pub result_of_outcome : {A : Type 0} → Codec A → Outcome → Result A ClientEnd
result_of_outcome codec (outcomes.Reply payload) = result_of_reply codec payload
result_of_outcome codec outcomes.Chunk = Err client.Chunk
result_of_outcome codec (outcomes.Version low high) = Err (client.Version low high)

-- ---- Results that begin with a status

abbrev pub nfs_done : {D F : Type 0} → Result (StatusUnion D F Status) ClientEnd → Result D ClientEnd
nfs_done (Ok (Done results)) = Ok results
nfs_done (Ok (Failed status part)) = Err (client.Nfs status)
nfs_done (Err end) = Err end

abbrev pub mount_done : {D F : Type 0} → Result (StatusUnion D F MountStatus) ClientEnd → Result D ClientEnd
mount_done (Ok (Done results)) = Ok results
mount_done (Ok (Failed status part)) = Err (client.Mount status)
mount_done (Err end) = Err end

-- the answer is what the outcome is read as, unless memory ran out
abbrev pub Gives : {A : Type 0} → Result A ClientEnd → Result A ClientEnd → Type 0
Gives (Ok value) read = read ≡ Ok value
Gives (Err client.Memory) read = ⊤
Gives (Err end) read = read ≡ Err end

-- an end that the reply to a call gives, or of which memory ran out
abbrev pub IsOfReply : ClientEnd → Type 0
IsOfReply (client.Link end) = ⊥
IsOfReply client.DialFault = ⊥
IsOfReply (client.BadPath at) = ⊥
IsOfReply client.InputFault = ⊥
IsOfReply client.OutputFault = ⊥
IsOfReply (client.Budget count) = ⊥
IsOfReply end = ⊤

-- an end of a call: that of its reply, or it has no answer
abbrev pub IsOfCall : ClientEnd → Type 0
IsOfCall (client.Link end) = ⊤
IsOfCall end = IsOfReply end

-- an end at which no fault count of the link rises
abbrev pub KeepsCounts : ClientEnd → Type 0
KeepsCounts (client.Link end) = ⊥
KeepsCounts end = ⊤
