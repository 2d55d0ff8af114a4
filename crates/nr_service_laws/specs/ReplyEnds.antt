-- An end that is read of the outcome of a call of a command.
use Rattle.std.specs.Prelude.{◌≡◌, ◌≢◌, ⊤, ℕ, ◌≤◌, ◌+◌, ◌⊎◌, List, [], ◌∷◌, ◌++◌, length, Ok, Err}
use Rattle.nr_xdr.specs.Fields.{word_at}
use Rattle.nr_rpc.specs.declared.head.ReplyHead.{ReplyHead}
use Rattle.nr_rpc.specs.declared.head.ReplyHead.TheVariants as heads
use Rattle.nr_rpc.specs.Reading.{reply_of}
use Rattle.nr_nfs_base.specs.MountStatus.{mount_status_number}
use Rattle.nr_nfs_base.specs.Status.{status_number}
use Rattle.nr_reduce.specs.declared.call.Call.{Call}
use Rattle.nr_reduce.specs.declared.call.Outcome.{Outcome}
use Rattle.nr_reduce.specs.declared.call.Outcome.TheVariants as outcomes
use Rattle.nr_client.specs.declared.client_end.ClientEnd.{ClientEnd}
use Rattle.nr_client.specs.declared.client_end.ClientEnd.TheVariants as client
use Rattle.nr_client.specs.declared.client_end.RpcKind.{RpcKind}
use Rattle.nr_client.specs.declared.client_end.RpcKind.TheVariants as kinds
use Rattle.nr_client.specs.Following.{Next}
use Rattle.nr_client.specs.Following.Next.{Calls, Returns}
use Rattle.nr_client.specs.Listing.{entries_max, list_next, no_progress}
use Rattle.nr_client.specs.Reading.{read_call, read_result}
use Rattle.nr_client.specs.Requests.{create_result, getattr_call, getattr_result, lookup_call, mkdir_call, mnt_call, mnt_result, readlink_call, readlink_result, remove_call, remove_result, symlink_call}
use Rattle.nr_client.specs.Results.{not_read}
use Rattle.nr_client.specs.Walking.{object_result}
use Rattle.nr_client.specs.Writing.{create_call, created_file, write_call, write_result}
use Rattle.nr_service_laws.specs.Exchanges.{Exchange}
use Rattle.nr_service_laws.specs.Exchanges.Exchange.{Answered, HandedOver, Submitted}

-- ---- Calls that were answered

-- by these exchanges this outcome was handed over for this xid
abbrev pub IsHandedOver : List Exchange → ℕ → Outcome → Type 0
IsHandedOver [] xid outcome = ⊥
IsHandedOver (HandedOver number o ∷ made) xid outcome = ((number ≡ xid) × (o ≡ outcome)) ⊎ IsHandedOver made xid outcome
IsHandedOver (exchange ∷ made) xid outcome = IsHandedOver made xid outcome

-- this call was submitted, and this outcome of it was handed over
abbrev pub IsAnsweredBy : List Exchange → Call → Outcome → Type 0
IsAnsweredBy [] call outcome = ⊥
IsAnsweredBy (Answered c o ∷ made) call outcome = ((c ≡ call) × (o ≡ outcome)) ⊎ IsAnsweredBy made call outcome
IsAnsweredBy (Submitted xid c ∷ made) call outcome = ((c ≡ call) × IsHandedOver made xid outcome) ⊎ IsAnsweredBy made call outcome
IsAnsweredBy (exchange ∷ made) call outcome = IsAnsweredBy made call outcome

-- ---- What a reply says

-- the head refuses the call, in this way, with this status (RFC 5531 section 9)
abbrev pub Refuses : ReplyHead → RpcKind → ℕ → Type 0
Refuses (heads.Accepted xid stat results_at) kind code = (stat ≢ 0) × ((kind ≡ kinds.Accept) × (code ≡ stat))
Refuses (heads.ProgMismatch xid low high) kind code = (kind ≡ kinds.Accept) × (code ≡ 2)
Refuses (heads.RpcMismatch xid low high) kind code = (kind ≡ kinds.Reject) × (code ≡ 0)
Refuses (heads.AuthError xid stat) kind code = (kind ≡ kinds.Reject) × (code ≡ 1)

-- the call was accepted with SUCCESS, and its results begin with this status
pub record HasStatus (payload : List ℕ) (status : ℕ) : Type 0 where
  pub xid : ℕ
  pub results_at : ℕ
  pub head : reply_of payload ≡ Ok (heads.Accepted xid 0 results_at)
  pub long : results_at + 4 ≤ length payload
  pub begins : word_at results_at payload ≡ status

-- What a reply says that ends a command so: its head refuses the call; its results have a status other than 0; it can't be read, or there is nothing in
-- it to go on with; or it lists more than the maximum.
abbrev pub SaysInReply : List ℕ → ClientEnd → Type 0
SaysInReply payload (client.Rpc kind code) = (head : ReplyHead) × ((reply_of payload ≡ Ok head) × Refuses head kind code)
SaysInReply payload (client.Mount status) = HasStatus payload (mount_status_number status)
SaysInReply payload (client.Nfs status) = HasStatus payload (status_number status)
SaysInReply payload (client.BadReply at reason) = (reason ≡ not_read) ⊎ (reason ≡ no_progress)
SaysInReply payload (client.Budget count) = count ≡ entries_max
SaysInReply payload end = ⊥

-- an outcome that is no reply ends a command as ERR_CHUNK or ERR_VERS (RFC 8166 section 4.5)
abbrev pub SaysInOutcome : Outcome → ClientEnd → Type 0
SaysInOutcome (outcomes.Reply payload) end = SaysInReply payload end
SaysInOutcome outcomes.Chunk end = end ≡ client.Chunk
SaysInOutcome (outcomes.Version low high) end = end ≡ client.Version low high

-- ---- How an outcome is read

-- R is so of each call that a request makes with these outcomes, and of the outcome that it has.
abbrev pub AreAnswers : (Call → Outcome → Type 0) → {A : Type 0} → (List Outcome → Next A) → List Outcome → Type 0
AreAnswers R request [] = ⊤
AreAnswers R request (o ∷ later) = ((call : Call) × ((request [] ≡ Calls call) × R call o)) × AreAnswers R (λ os. request (o ∷ os)) later

-- The result of a call, as this outcome of it is read, is this end. A READDIR goes on after the replies before it.
pub data EndsCall (made : List Exchange) (uid gid : ℕ) (call : Call) (outcome : Outcome) (end : ClientEnd) : Type 0 where
  EndsMnt : (export : List ℕ) → call ≡ mnt_call uid gid export → mnt_result outcome ≡ Err end → EndsCall made uid gid call outcome end
  EndsLookup : (dir name : List ℕ) → call ≡ lookup_call uid gid dir name → object_result outcome ≡ Err end → EndsCall made uid gid call outcome end
  EndsGetattr : (file : List ℕ) → call ≡ getattr_call uid gid file → getattr_result outcome ≡ Err end → EndsCall made uid gid call outcome end
  EndsReadlink : (file : List ℕ) → call ≡ readlink_call uid gid file → readlink_result outcome ≡ Err end → EndsCall made uid gid call outcome end
  EndsMkdir : (dir name : List ℕ) → call ≡ mkdir_call uid gid dir name → create_result outcome ≡ Err end → EndsCall made uid gid call outcome end
  EndsSymlink : (dir name path : List ℕ) → call ≡ symlink_call uid gid dir name path → create_result outcome ≡ Err end → EndsCall made uid gid call outcome end
  EndsRemove : (dir name : List ℕ) → call ≡ remove_call uid gid dir name → remove_result outcome ≡ Err end → EndsCall made uid gid call outcome end
  EndsCreate : (dir name : List ℕ) → call ≡ create_call uid gid dir name → created_file outcome ≡ Err end → EndsCall made uid gid call outcome end
  EndsRead : (file : List ℕ) (offset count : ℕ) → call ≡ read_call uid gid file offset count → read_result count outcome ≡ Err end → EndsCall made uid gid call outcome end
  EndsWrite : (file : List ℕ) (offset : ℕ) (bytes : List ℕ) → call ≡ write_call uid gid file offset bytes → write_result (length bytes) outcome ≡ Err end → EndsCall made uid gid call outcome end
  EndsReaddir : (dir : List ℕ) (earlier : List Outcome) → AreAnswers (IsAnsweredBy made) (list_next uid gid dir) earlier → list_next uid gid dir earlier ≡ Calls call
      → list_next uid gid dir (earlier ++ outcome ∷ []) ≡ Returns (Err end) → EndsCall made uid gid call outcome end

-- A call of a command was answered with an outcome that is read as this end, and that says so.
pub record EndsByOutcome (made : List Exchange) (uid gid : ℕ) (end : ClientEnd) : Type 0 where
  pub call : Call
  pub outcome : Outcome
  pub answered : IsAnsweredBy made call outcome
  pub reads : EndsCall made uid gid call outcome end
  pub says : SaysInOutcome outcome end
