-- For the code: what a call of a procedure comes to, by the tree and what the code has of the call.
use Rattle.std.specs.Prelude.{◌≡◌, ℕ, ◌≤◌, Bool, false, List, length, Result, Ok, Err}
use Rattle.nr_nfs_base.specs.Codec.{Codec, read_all}
use Rattle.nr_nfs_base.specs.declared.procedure.NfsProcedure.{NfsProcedure}
use Rattle.nr_nfs_base.specs.declared.procedure.MountProcedure.{MountProcedure}
use Rattle.nr_rpc.specs.declared.head.CallHead.{CallHead}
use Rattle.nr_rpc.specs.declared.head.CallHead.TheVariants as calls
use Rattle.nr_nfs_args.specs.Arguments.{NfsArguments, nfs_arguments_codec, mount_arguments_codec}
use Rattle.nr_nfs_res.specs.Results.{nfs_results_codec, mount_results_codec}
use Rattle.nr_nfs_base.specs.declared.caller.Caller.{Caller}
use Rattle.nr_nfs_base.specs.declared.time.Time.{Time}
use Rattle.nr_tree.specs.Tree.{Tree}
use Rattle.nr_tree.specs.declared.rules.Space.{Space}
use Rattle.nr_plain.specs.Programs.{nfs_results, nfs_tree, is_change, mount_results}
use Rattle.nr_plain.specs.Replies.{Answer, results_reply, refusal, accepted, program_call, cred_refusal, call_by_cred, GARBAGE_ARGS}
use Rattle.nr_plain.specs.Stands.{PlainServerState, state_kept}
use Rattle.nr_plain.specs.declared.call.Call.{Call}
use Rattle.nr_plain.specs.declared.call.Change.{Change}
use Rattle.nr_plain.specs.declared.call.Request.{Request}
use Rattle.nr_reduce.specs.declared.mark.Entry.{Entry}

-- ===== any procedure, by its codecs, its results and the tree after it: what a call comes to whose arguments are read as these, or can't be

-- the reply
abbrev pub reply_with : {A R : Type 0} → ℕ → Codec R → (A → R) → Result A ℕ → List ℕ
reply_with xid codec results (Ok a) = results_reply xid codec (results a)
reply_with xid codec results (Err at) = (refusal (accepted xid GARBAGE_ARGS)).reply

-- whether it is an entry of the journal, by the test of its results
abbrev pub is_entry_with : {A R : Type 0} → (R → Bool) → (A → R) → Result A ℕ → Bool
is_entry_with changes results (Ok a) = changes (results a)
is_entry_with changes results (Err at) = false

-- the tree after it
abbrev pub tree_with : {A : Type 0} → Tree → (A → Tree) → Result A ℕ → Tree
tree_with t changed (Ok a) = changed a
tree_with t changed (Err at) = t

-- the code's answer is the reply, and says whether the call is an entry
abbrev pub IsChangeWith : {A R : Type 0} → ℕ → Codec R → (R → Bool) → (A → R) → Result A ℕ → Change → Type 0
IsChangeWith xid codec changes results r change = (change.reply ≡ reply_with xid codec results r) × (change.is_entry ≡ is_entry_with changes results r)

-- ===== the procedures of NFS

abbrev pub reply_from : ℕ → Tree → Caller → Space → Time → (p : NfsProcedure) → Result (NfsArguments p) ℕ → List ℕ
reply_from xid t c space now p r = reply_with xid (nfs_results_codec p) (nfs_results t c space now p) r

abbrev pub changes_from : Tree → Caller → Space → Time → (p : NfsProcedure) → Result (NfsArguments p) ℕ → Bool
changes_from t c space now p r = is_entry_with (is_change p) (nfs_results t c space now p) r

abbrev pub tree_from : Tree → Caller → Space → Time → (p : NfsProcedure) → Result (NfsArguments p) ℕ → Tree
tree_from t c space now p r = tree_with t (nfs_tree t c space now p) r

-- the same of a call
abbrev pub reply_of : Tree → Call → NfsProcedure → List ℕ
reply_of t call p = reply_from call.xid t call.caller.now call.space call.time p (read_all (nfs_arguments_codec p) call.arguments.now)

abbrev pub changes_of : Tree → Call → NfsProcedure → Bool
changes_of t call p = changes_from t call.caller.now call.space call.time p (read_all (nfs_arguments_codec p) call.arguments.now)

abbrev pub tree_of : Tree → Call → NfsProcedure → Tree
tree_of t call p = tree_from t call.caller.now call.space call.time p (read_all (nfs_arguments_codec p) call.arguments.now)

-- what the code answers to a call
abbrev pub IsChange : Tree → Call → NfsProcedure → Change → Type 0
IsChange t call p r = (r.reply ≡ reply_of t call p) × (r.is_entry ≡ changes_of t call p)

-- the entry of the journal for this request, if it is a change
abbrev pub entry_of : Request → Entry
entry_of r = record { moment = r.moment; cred = r.cred.now; proc = r.proc; args = r.arguments.now }

-- what a server answers to a call of RPC version 2, of this program and version: a refusal if it does not accept the credential
abbrev pub version2_answer : PlainServerState → Request → (prog vers : ℕ) → Answer
version2_answer kept r prog vers = call_by_cred (cred_refusal r.cred.now) r.xid (program_call kept.parameters (state_kept kept) r.xid prog vers (entry_of r))

-- the reply of a procedure of MOUNT
abbrev pub mount_reply : ℕ → List ℕ → MountProcedure → List ℕ → List ℕ
mount_reply xid export p args = reply_with xid (mount_results_codec p) (mount_results export p) (read_all (mount_arguments_codec p) args)

-- a head ends within the payload
abbrev pub IsHeadWithin : List ℕ → CallHead → Type 0
IsHeadWithin payload (calls.Version2 xid prog vers proc cred args_at) = args_at ≤ length payload
IsHeadWithin payload (calls.Other xid rpcvers) = Unit {0}
