-- The head of each reply has the xid of its call.
use Rattle.std.proofs.Common.{◌≡◌, ◌≢◌, ℕ, ◌<◌, ◌^◌, Bool, true, false, cond, eqb, List, [], drop, Option, None, Some, Result, Ok, Err, refl, ap, ◌∙◌, subst, arith}
use Rattle.nr_xdr.specs.Item.{IsBytes}
use Rattle.nr_xdr.specs.Items.{encodings}
use Rattle.nr_rpc.specs.Reading.{call_of, reply_of, head_xid, xid_of_call}
use Rattle.nr_rpc.specs.Reply.{CanWriteReply, ReplyFits, reply_encoding, reply_again}
use Rattle.nr_rpc.specs.Call.{BeginsCall}
use Rattle.nr_rpc.specs.declared.cred.Cred.{Cred}
use Rattle.nr_rpc.specs.declared.cred.Cred.TheVariants as creds
use Rattle.nr_rpc.specs.declared.head.CallHead.{CallHead}
use Rattle.nr_rpc.specs.declared.head.CallHead.TheVariants as calls
use Rattle.nr_rpc.specs.declared.head.ReplyHead.{ReplyHead}
use Rattle.nr_rpc.specs.declared.head.ReplyHead.TheVariants as replies
use Rattle.nr_rpc.proofs.Calls.{call_begins}
use Rattle.nr_rpc.proofs.Replies.{reply_written}
use Rattle.nr_nfs_base.specs.Codec.{read_all}
use Rattle.nr_nfs_base.specs.declared.procedure.MountProcedure.{MountProcedure}
use Rattle.nr_nfs_base.specs.declared.procedure.NfsProcedure.{NfsProcedure}
use Rattle.nr_nfs_args.specs.Arguments.{NfsArguments, MountArguments, nfs_arguments_codec, mount_arguments_codec}
use Rattle.nr_nfs_res.specs.Results.{nfs_results_codec, mount_results_codec}
use Rattle.nr_reduce.specs.ClientMessages.{reply_xid}
use Rattle.nr_reduce.specs.declared.mark.Entry.{Entry}
use Rattle.nr_outside.specs.declared.moment.Moment.{Moment}
use Rattle.nr_plain.specs.Setup.{Parameters, State, caller_of, time_of, space_of}
use Rattle.nr_plain.specs.Programs.{nfs_results, mount_results}
use Rattle.nr_plain.specs.Journal.{nfs_procedure_of}
use Rattle.nr_plain.specs.Replies.{Answer, refusal, accepted, nfs_by_arguments, nfs_by_procedure, mount_by_arguments, mount_by_procedure, mount_procedure_of, nfs_call, mount_call, program_call, cred_refusal, call_by_cred, answer_to, answer_by, plain_answer}
use Rattle.nr_reduce.specs.KeepsReplyLimits.{xid_of_reply}

-- ===== what is written of a head is read with its xid

same_again : (head : ReplyHead) → reply_xid (reply_again head) ≡ reply_xid head
same_again (replies.Accepted xid stat results_at) = refl
same_again (replies.ProgMismatch xid low high) = refl
same_again (replies.RpcMismatch xid low high) = refl
same_again (replies.AuthError xid stat) = refl

written : (head : ReplyHead) (results : List ℕ) → CanWriteReply head → ReplyFits head → xid_of_reply (reply_of (reply_encoding head results)) ≡ Some (reply_xid head)
written head results can fits = ap xid_of_reply (reply_written head results can fits) ∙ ap (λ (n : ℕ). Some n) (same_again head)

-- ===== each answer

abbrev Begins : ℕ → Answer → Type 0
Begins xid a = xid_of_reply (reply_of a.reply) ≡ Some xid

pub either : (P : Answer → Type 0) (b : Bool) (x y : Answer) → P x → P y → P (cond b x y)
either P true x y p q = p
either P false x y p q = q

module _ (xid : ℕ) (fits : xid < 2 ^ 32) where
  done : (results : List ℕ) → xid_of_reply (reply_of (reply_encoding (accepted xid 0) results)) ≡ Some xid
  done results = written (accepted xid 0) results (λ e. absurd cc) (fits, omega arith)

  refused : (stat : ℕ) → stat ≢ 2 → stat < 2 ^ 32 → Begins xid (refusal (accepted xid stat))
  refused stat apart lt = written (accepted xid stat) [] apart (fits, lt)

  other_program : Begins xid (refusal (accepted xid 1))
  other_program = refused 1 (λ e. absurd cc) (omega arith)

  other_procedure : Begins xid (refusal (accepted xid 3))
  other_procedure = refused 3 (λ e. absurd cc) (omega arith)

  no_arguments : Begins xid (refusal (accepted xid 4))
  no_arguments = refused 4 (λ e. absurd cc) (omega arith)

  other_version : Begins xid (refusal (replies.ProgMismatch xid 3 3))
  other_version = written (replies.ProgMismatch xid 3 3) [] tt (fits, omega arith, omega arith)

  denied : (stat : ℕ) → stat < 2 ^ 32 → Begins xid (refusal (replies.AuthError xid stat))
  denied stat lt = written (replies.AuthError xid stat) [] tt (fits, lt)

  module _ (s : Parameters) (st : State) (e : Entry) where
    nfs_read : (p : NfsProcedure) (r : Result (NfsArguments p) ℕ) → Begins xid (nfs_by_arguments s st xid e p r)
    nfs_read p (Ok a) = done (encodings ((nfs_results_codec p).items (nfs_results st.tree (caller_of e.cred) (space_of s st e.args) (time_of e.moment) p a)))
    nfs_read p (Err at) = no_arguments

    nfs_found : (o : Option NfsProcedure) → Begins xid (nfs_by_procedure s st xid e o)
    nfs_found None = other_procedure
    nfs_found (Some p) = nfs_read p (read_all (nfs_arguments_codec p) e.args)

    mount_read : (p : MountProcedure) (r : Result (MountArguments p) ℕ) → Begins xid (mount_by_arguments s xid p r)
    mount_read p (Ok a) = done (encodings ((mount_results_codec p).items (mount_results s.export p a)))
    mount_read p (Err at) = no_arguments

    mount_found : (o : Option MountProcedure) → Begins xid (mount_by_procedure s xid e.args o)
    mount_found None = other_procedure
    mount_found (Some p) = mount_read p (read_all (mount_arguments_codec p) e.args)

    nfs_begins : (vers : ℕ) → Begins xid (nfs_call s st xid vers e)
    unfolding nfs_call
    nfs_begins vers = either (Begins xid) (eqb vers 3) (nfs_by_procedure s st xid e (nfs_procedure_of e.proc)) (refusal (replies.ProgMismatch xid 3 3)) (nfs_found (nfs_procedure_of e.proc)) other_version

    mount_begins : (vers : ℕ) → Begins xid (mount_call s xid vers e)
    unfolding mount_call
    mount_begins vers = either (Begins xid) (eqb vers 3) (mount_by_procedure s xid e.args (mount_procedure_of e.proc)) (refusal (replies.ProgMismatch xid 3 3)) (mount_found (mount_procedure_of e.proc)) other_version

    program_begins : (prog vers : ℕ) → Begins xid (program_call s st xid prog vers e)
    program_begins prog vers =
        either (Begins xid) (eqb prog 100003) (nfs_call s st xid vers e) (cond (eqb prog 100005) (mount_call s xid vers e) (refusal (accepted xid 1))) (nfs_begins vers)
        (either (Begins xid) (eqb prog 100005) (mount_call s xid vers e) (refusal (accepted xid 1)) (mount_begins vers) other_program)

  by_cred : (cred : Cred) (a : Answer) → Begins xid a → Begins xid (call_by_cred (cred_refusal cred) xid a)
  by_cred creds.None a begins = begins
  by_cred (creds.Sys stamp machine uid gid gids) a begins = begins
  by_cred (creds.Other flavor) a begins = by (eqb flavor 1)
    where
      by : (b : Bool) → Begins xid (refusal (replies.AuthError xid (cond b 1 5)))
      by true = denied 1 (omega arith)
      by false = denied 5 (omega arith)

-- ===== the call

xid_fits_by : (payload : List ℕ) (head : CallHead) → BeginsCall head payload → head_xid head < 2 ^ 32
xid_fits_by payload (calls.Version2 xid prog vers proc cred args_at) (front, behind, (auth, verifier, auth_within, verifier_within, reads, (first, rest, xid_read, others, parts), place), e) = xid_read.fits
xid_fits_by payload (calls.Other xid rpcvers) (front, behind, (apart, (first, rest, xid_read, others, parts)), e) = xid_read.fits

pub xid_fits : (payload : List ℕ) (head : CallHead) → IsBytes payload → call_of payload ≡ Ok head → head_xid head < 2 ^ 32
xid_fits payload head bytes e = xid_fits_by payload head (call_begins payload head bytes e)

answer_begins : (s : Parameters) (st : State) (m : Moment) (payload : List ℕ) (head : CallHead) → head_xid head < 2 ^ 32 → Begins (head_xid head) (answer_to s st m payload head)
answer_begins s st m payload (calls.Version2 xid prog vers proc cred args_at) fits =
    let e : Entry = record { moment = m; cred = cred; proc = proc; args = drop args_at payload } in
    by_cred xid fits cred (program_call s st xid prog vers e) (program_begins xid fits s st e prog vers)
answer_begins s st m payload (calls.Other xid rpcvers) fits = written (replies.RpcMismatch xid 2 2) [] tt (fits, omega arith, omega arith)

pub same_answer : (a b : Answer) → Some a ≡ Some b → a ≡ b
same_answer a b e = cc

pub begins_with_xid : (s : Parameters) (st : State) (m : Moment) (payload : List ℕ) (a : Answer) → IsBytes payload → plain_answer s st m payload ≡ Some a → xid_of_reply (reply_of a.reply) ≡ xid_of_call (call_of payload)
begins_with_xid s st m payload a bytes e = by (call_of payload) refl e
  where
    by : (r : Result CallHead ℕ) → call_of payload ≡ r → answer_by s st m payload r ≡ Some a → xid_of_reply (reply_of a.reply) ≡ xid_of_call r
    by (Ok head) is found =
        subst (λ (b : Answer). xid_of_reply (reply_of b.reply) ≡ Some (head_xid head)) (same_answer (answer_to s st m payload head) a found)
        (answer_begins s st m payload head (xid_fits payload head bytes is))
    by (Err at) is found = absurd cc
