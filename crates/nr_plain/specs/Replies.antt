-- What the plain server answers to a call over a journal, and what the journal gets by that (RFC 5531 section 9). In order: another
-- version of RPC; a credential that is refused; another program; another version of it; another procedure; arguments that are none; the
-- procedure.
use Rattle.std.specs.Prelude.{ℕ, ◌==◌, Bool, if◌then◌else◌, List, [], ◌∷◌, drop, take, Option, None, Some, Result, Ok, Err}
use Rattle.std.specs.Option.{option_map}
use Rattle.nr_xdr.specs.Items.{encodings}
use Rattle.nr_rpc.specs.Constants.{AUTH_SYS, RPC_VERSION}
use Rattle.nr_rpc.specs.Reading.{call_of}
use Rattle.nr_rpc.specs.Reply.{reply_encoding}
use Rattle.nr_rpc.specs.declared.cred.Cred.{Cred}
use Rattle.nr_rpc.specs.declared.cred.Cred.TheVariants as creds
use Rattle.nr_rpc.specs.declared.head.CallHead.{CallHead}
use Rattle.nr_rpc.specs.declared.head.CallHead.TheVariants as calls
use Rattle.nr_rpc.specs.declared.head.ReplyHead.{ReplyHead}
use Rattle.nr_rpc.specs.declared.head.ReplyHead.TheVariants as replies
use Rattle.nr_nfs_base.specs.Codec.{Codec, read_all, value_with_number}
use Rattle.nr_nfs_base.specs.Procedures.{nfs_program, nfs_version, mount_program, mount_version, mount_procedure_number, mount_procedures}
use Rattle.nr_nfs_base.specs.declared.procedure.MountProcedure.{MountProcedure}
use Rattle.nr_nfs_base.specs.declared.procedure.NfsProcedure.{NfsProcedure}
use Rattle.nr_nfs_args.specs.Arguments.{NfsArguments, MountArguments, nfs_arguments_codec, mount_arguments_codec}
use Rattle.nr_nfs_res.specs.Results.{NfsResults, nfs_results_codec, mount_results_codec}
use Rattle.nr_outside.specs.declared.moment.Moment.{Moment}
use Rattle.nr_reduce.specs.declared.mark.Entry.{Entry}
use Rattle.nr_plain.specs.Setup.{Parameters, Setup, State, caller_of, time_of, space_of}
use Rattle.nr_plain.specs.Programs.{nfs_results, is_change, mount_results}
use Rattle.nr_plain.specs.Journal.{nfs_procedure_of, state_of}

-- a reply, and the entries that the call adds to the journal: one or none
pub record Answer : Type 0 where
  pub reply : List ℕ
  pub entries : List Entry

-- ===== the numbers of RFC 5531 section 9: accept_stat and auth_stat

abbrev pub SUCCESS : ℕ
SUCCESS = 0

abbrev pub PROG_UNAVAIL : ℕ
PROG_UNAVAIL = 1

abbrev pub PROC_UNAVAIL : ℕ
PROC_UNAVAIL = 3

abbrev pub GARBAGE_ARGS : ℕ
GARBAGE_ARGS = 4

abbrev pub AUTH_BADCRED : ℕ
AUTH_BADCRED = 1

abbrev pub AUTH_TOOWEAK : ℕ
AUTH_TOOWEAK = 5

-- ===== replies

-- a call that reaches no procedure
abbrev pub refusal : ReplyHead → Answer
refusal head = record { reply = reply_encoding head []; entries = [] }

abbrev pub accepted : ℕ → ℕ → ReplyHead
accepted xid stat = replies.Accepted xid stat 0

abbrev pub results_reply : {R : Type 0} → ℕ → Codec R → R → List ℕ
results_reply xid codec results = reply_encoding (accepted xid SUCCESS) (encodings (codec.items results))

-- ===== NFS

abbrev pub entries_if : Bool → Entry → List Entry
entries_if b e = if b then e ∷ [] else []

abbrev pub nfs_answer : ℕ → Entry → (p : NfsProcedure) → NfsResults p → Answer
nfs_answer xid e p results = record { reply = results_reply xid (nfs_results_codec p) results; entries = entries_if (is_change p results) e }

-- the entry is that of the call, if it changes something
abbrev pub nfs_by_arguments : Parameters → State → ℕ → Entry → (p : NfsProcedure) → Result (NfsArguments p) ℕ → Answer
nfs_by_arguments s st xid e p (Ok a) = nfs_answer xid e p (nfs_results st.tree (caller_of e.cred) (space_of s st e.args) (time_of e.moment) p a)
nfs_by_arguments s st xid e p (Err at) = refusal (accepted xid GARBAGE_ARGS)

abbrev pub nfs_by_procedure : Parameters → State → ℕ → Entry → Option NfsProcedure → Answer
nfs_by_procedure s st xid e None = refusal (accepted xid PROC_UNAVAIL)
nfs_by_procedure s st xid e (Some p) = nfs_by_arguments s st xid e p (read_all (nfs_arguments_codec p) e.args)

-- ===== MOUNT

abbrev pub mount_by_arguments : Parameters → ℕ → (p : MountProcedure) → Result (MountArguments p) ℕ → Answer
mount_by_arguments s xid p (Ok a) = record { reply = results_reply xid (mount_results_codec p) (mount_results s.export p a); entries = [] }
mount_by_arguments s xid p (Err at) = refusal (accepted xid GARBAGE_ARGS)

abbrev pub mount_by_procedure : Parameters → ℕ → List ℕ → Option MountProcedure → Answer
mount_by_procedure s xid args None = refusal (accepted xid PROC_UNAVAIL)
mount_by_procedure s xid args (Some p) = mount_by_arguments s xid p (read_all (mount_arguments_codec p) args)

abbrev pub mount_procedure_of : ℕ → Option MountProcedure
mount_procedure_of n = value_with_number mount_procedure_number mount_procedures n

-- ===== a call

-- AUTH_NONE and AUTH_SYS are accepted; AUTH_SYS whose body can't be read, and other flavors, aren't
abbrev pub cred_refusal : Cred → Option ℕ
cred_refusal creds.None = None
cred_refusal (creds.Sys stamp machine uid gid gids) = None
cred_refusal (creds.Other flavor) = Some (if flavor == AUTH_SYS then AUTH_BADCRED else AUTH_TOOWEAK)

unfoldable pub nfs_call : Parameters → State → ℕ → ℕ → Entry → Answer
nfs_call s st xid vers e = if vers == nfs_version then nfs_by_procedure s st xid e (nfs_procedure_of e.proc) else refusal (replies.ProgMismatch xid nfs_version nfs_version)

unfoldable pub mount_call : Parameters → ℕ → ℕ → Entry → Answer
mount_call s xid vers e = if vers == mount_version then mount_by_procedure s xid e.args (mount_procedure_of e.proc) else refusal (replies.ProgMismatch xid mount_version mount_version)

abbrev pub program_call : Parameters → State → ℕ → ℕ → ℕ → Entry → Answer
program_call s st xid prog vers e =
    if prog == nfs_program then nfs_call s st xid vers e
    else (if prog == mount_program then mount_call s xid vers e
    else refusal (accepted xid PROG_UNAVAIL))

abbrev pub call_by_cred : Option ℕ → ℕ → Answer → Answer
call_by_cred None xid answer = answer
call_by_cred (Some stat) xid answer = refusal (replies.AuthError xid stat)

abbrev pub answer_to : Parameters → State → Moment → List ℕ → CallHead → Answer
answer_to s st m payload (calls.Version2 xid prog vers proc cred args_at) =
    call_by_cred (cred_refusal cred) xid (program_call s st xid prog vers (record { moment = m; cred = cred; proc = proc; args = drop args_at payload }))
answer_to s st m payload (calls.Other xid rpcvers) = refusal (replies.RpcMismatch xid RPC_VERSION RPC_VERSION)

-- none to a payload that begins with no call head
abbrev pub answer_by : Parameters → State → Moment → List ℕ → Result CallHead ℕ → Option Answer
answer_by s st m payload (Ok head) = Some (answer_to s st m payload head)
answer_by s st m payload (Err at) = None

abbrev pub plain_answer : Parameters → State → Moment → List ℕ → Option Answer
plain_answer s st m payload = answer_by s st m payload (call_of payload)

-- the reply of the plain server over the first k entries of a journal
abbrev pub plain_reply : Setup → List Entry → ℕ → Moment → List ℕ → Option (List ℕ)
plain_reply s J k m payload = option_map (λ (a : Answer). a.reply) (plain_answer s.parameters (state_of s (take k J)) m payload)
