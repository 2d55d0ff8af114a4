-- What a call adds to the journal, by the call and its reply alone: what a layer above sees of a plain server.
use Rattle.std.specs.Prelude.{ℕ, ◌==◌, nat_eq, Bool, not, ◌&&◌, if◌then◌else◌, List, [], take, drop, Option, None, Some, Result, Ok, Err}
use Rattle.std.specs.Cmp.Lexicographic.{pointwise}
use Rattle.nr_xdr.specs.Item.{word}
use Rattle.nr_rpc.specs.Constants.{MSG_ACCEPTED}
use Rattle.nr_rpc.specs.Reading.{call_of}
use Rattle.nr_rpc.specs.declared.head.CallHead.{CallHead}
use Rattle.nr_rpc.specs.declared.head.CallHead.TheVariants as calls
use Rattle.nr_nfs_base.specs.Procedures.{nfs_program, nfs_version}
use Rattle.nr_nfs_base.specs.declared.procedure.NfsProcedure.{NfsProcedure}
use Rattle.nr_outside.specs.declared.moment.Moment.{Moment}
use Rattle.nr_reduce.specs.declared.mark.Entry.{Entry}
use Rattle.nr_plain.specs.Programs.{only_reads}
use Rattle.nr_plain.specs.Journal.{nfs_procedure_of}
use Rattle.nr_plain.specs.Replies.{SUCCESS, entries_if, cred_refusal}

-- ===== a reply of status 0

-- Offsets of words in a reply with an empty verifier. The xid, the message type, the reply status, the verifier's flavor and the length of its
-- body come before the accept status (RFC 5531 section 9), and the results begin after it, with their status (RFC 1813 section 3.3).
abbrev pub reply_stat_at : ℕ
reply_stat_at = 8

abbrev pub accept_stat_at : ℕ
accept_stat_at = 20

abbrev pub status_at : ℕ
status_at = 24

-- the status of results on success (RFC 1813 section 2.6, NFS3_OK)
abbrev pub NFS3_OK : ℕ
NFS3_OK = 0

abbrev pub has_word : ℕ → ℕ → List ℕ → Bool
has_word at n bytes = pointwise nat_eq (take 4 (drop at bytes)) (word n)

abbrev pub has_succeeded : List ℕ → Bool
has_succeeded reply =
    has_word reply_stat_at MSG_ACCEPTED reply && (has_word accept_stat_at SUCCESS reply && has_word status_at NFS3_OK reply)

-- ===== the entries

-- one of the procedures that change the tree, and status 0
abbrev pub entries_by_procedure : Option NfsProcedure → List ℕ → Entry → List Entry
entries_by_procedure None reply e = []
entries_by_procedure (Some p) reply e = entries_if (not (only_reads p) && has_succeeded reply) e

-- of NFS version 3
abbrev pub entries_by_program : ℕ → ℕ → List ℕ → Entry → List Entry
entries_by_program prog vers reply e =
    if prog == nfs_program && vers == nfs_version then entries_by_procedure (nfs_procedure_of e.proc) reply e else []

-- of a credential that is accepted
abbrev pub entries_by_cred : Option ℕ → List Entry → List Entry
entries_by_cred None es = es
entries_by_cred (Some stat) es = []

-- of a call of RPC version 2
abbrev pub entries_by_head : Moment → List ℕ → List ℕ → CallHead → List Entry
entries_by_head m payload reply (calls.Version2 xid prog vers proc cred args_at) =
    entries_by_cred (cred_refusal cred) (entries_by_program prog vers reply (record { moment = m; cred = cred; proc = proc; args = drop args_at payload }))
entries_by_head m payload reply (calls.Other xid rpcvers) = []

abbrev pub entries_by_call : Moment → List ℕ → List ℕ → Result CallHead ℕ → List Entry
entries_by_call m payload reply (Ok head) = entries_by_head m payload reply head
entries_by_call m payload reply (Err at) = []

-- the entry of a call to which this is the reply: one if it is a change that succeeded, else none
abbrev pub entries_of_call : Moment → List ℕ → List ℕ → List Entry
entries_of_call m payload reply = entries_by_call m payload reply (call_of payload)
