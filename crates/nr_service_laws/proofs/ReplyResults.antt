-- What is read of replies is no end for ERR_CHUNK or for another version.
use Rattle.std.proofs.Common.{ℕ, Bool, true, false, cond, List, Result, Ok, Err, subst}
use Rattle.std.specs.Prelude.{◌==◌}
use Rattle.nr_rpc.specs.declared.head.ReplyHead.{ReplyHead}
use Rattle.nr_rpc.specs.declared.head.ReplyHead.TheVariants as heads
use Rattle.nr_rpc.specs.Reading.{reply_of}
use Rattle.nr_nfs_base.specs.Codec.{Codec}
use Rattle.nr_nfs_base.specs.declared.status.Status.{Status}
use Rattle.nr_nfs_base.specs.declared.mount_status.MountStatus.{MountStatus}
use Rattle.nr_nfs_base.specs.declared.status_union.StatusUnion.{StatusUnion}
use Rattle.nr_nfs_base.specs.declared.status_union.StatusUnion.TheVariants.{Done, Failed}
use Rattle.nr_reduce.specs.declared.call.Outcome.{Outcome}
use Rattle.nr_reduce.specs.declared.call.Outcome.TheVariants as outcomes
use Rattle.nr_client.specs.declared.client_end.ClientEnd.{ClientEnd}
use Rattle.nr_client.specs.declared.client_end.ClientEnd.TheVariants as client
use Rattle.nr_client.specs.Results.{Gives, mount_done, nfs_done, result_by_head, result_by_reading, result_of_outcome, results_in, results_or}
use Rattle.nr_service_laws.specs.CommandEnds.{ResultCanFollowReplies, IsReplyOutcome}

pub either_fine : {A : Type 0} (b : Bool) (x y : Result A ClientEnd) → ResultCanFollowReplies x → ResultCanFollowReplies y → ResultCanFollowReplies (cond b x y)
either_fine true x y f g = f
either_fine false x y f g = g

pub gives_fine : {A : Type 0} (given read : Result A ClientEnd) → Gives given read → ResultCanFollowReplies read → ResultCanFollowReplies given
gives_fine (Ok value) read gives fine = tt
gives_fine {A} (Err client.DialFault) read gives fine = subst (λ (r : Result A ClientEnd). ResultCanFollowReplies r) gives fine
gives_fine (Err (client.Link end)) read gives fine = tt
gives_fine (Err (client.Rpc kind code)) read gives fine = tt
gives_fine (Err (client.Mount status)) read gives fine = tt
gives_fine (Err (client.Nfs status)) read gives fine = tt
gives_fine {A} (Err client.Chunk) read gives fine = subst (λ (r : Result A ClientEnd). ResultCanFollowReplies r) gives fine
gives_fine {A} (Err (client.Version low high)) read gives fine = subst (λ (r : Result A ClientEnd). ResultCanFollowReplies r) gives fine
gives_fine (Err (client.BadReply at reason)) read gives fine = tt
gives_fine (Err (client.BadPath at)) read gives fine = tt
gives_fine (Err client.InputFault) read gives fine = tt
gives_fine (Err client.OutputFault) read gives fine = tt
gives_fine (Err (client.Budget count)) read gives fine = tt
gives_fine (Err client.Memory) read gives fine = tt

-- a way to read outcomes gives no such end of replies
abbrev pub ReadsReplies : {A : Type 0} → (Outcome → Result A ClientEnd) → Type 0
ReadsReplies reads = (outcome : Outcome) → IsReplyOutcome outcome → ResultCanFollowReplies (reads outcome)

results_fine : {A : Type 0} (r : Result A ℕ) → ResultCanFollowReplies (results_or r)
results_fine (Ok value) = tt
results_fine (Err at) = tt

head_fine : {A : Type 0} (codec : Codec A) (payload : List ℕ) (head : ReplyHead) → ResultCanFollowReplies (result_by_head codec payload head)
head_fine codec payload (heads.Accepted xid stat results_at) =
    either_fine (stat == 0) (results_or (results_in codec payload results_at)) (Err (client.Rpc Rattle.nr_client.specs.declared.client_end.RpcKind.TheVariants.Accept stat))
    (results_fine (results_in codec payload results_at)) tt
head_fine codec payload (heads.ProgMismatch xid low high) = tt
head_fine codec payload (heads.RpcMismatch xid low high) = tt
head_fine codec payload (heads.AuthError xid stat) = tt

reading_fine : {A : Type 0} (codec : Codec A) (payload : List ℕ) (r : Result ReplyHead ℕ) → ResultCanFollowReplies (result_by_reading codec payload r)
reading_fine codec payload (Ok head) = head_fine codec payload head
reading_fine codec payload (Err at) = tt

pub outcome_fine : {A : Type 0} (codec : Codec A) → ReadsReplies (result_of_outcome codec)
outcome_fine codec (outcomes.Reply payload) is = reading_fine codec payload (reply_of payload)
outcome_fine codec outcomes.Chunk is = absurd is
outcome_fine codec (outcomes.Version low high) is = absurd is

pub nfs_fine : {D F : Type 0} (r : Result (StatusUnion D F Status) ClientEnd) → ResultCanFollowReplies r → ResultCanFollowReplies (nfs_done r)
nfs_fine (Ok (Done results)) fine = tt
nfs_fine (Ok (Failed status part)) fine = tt
nfs_fine (Err end) fine = fine

pub mount_fine : {D F : Type 0} (r : Result (StatusUnion D F MountStatus) ClientEnd) → ResultCanFollowReplies r → ResultCanFollowReplies (mount_done r)
mount_fine (Ok (Done results)) fine = tt
mount_fine (Ok (Failed status part)) fine = tt
mount_fine (Err end) fine = fine
