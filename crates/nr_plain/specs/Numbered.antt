-- The calls of clients that have a number: what a call is by the journal, and what the server makes of it. Each change of such a client takes
-- effect once (own; RFC 1813 section 4.5 says why a server needs it).
use Rattle.std.specs.Prelude.{◌≡◌, ◌≢◌, ⊤, ℕ, ◌+◌, ◌<◌, Bool, false, not, ◌&&◌, ◌==◌, if◌then◌else◌, List, [], ◌∷◌, ◌++◌, length, Option, None, Some, Result, Ok, Err, IsOk, All}
use Rattle.nr_outside.specs.declared.moment.Moment.{Moment}
use Rattle.nr_xdr.specs.Item.{IsBytes}
use Rattle.nr_rpc.specs.Call.{CallFits, CanWriteCall}
use Rattle.nr_rpc.specs.Reading.{call_of}
use Rattle.nr_rpc.specs.declared.head.CallHead.{CallHead}
use Rattle.nr_rpc.specs.declared.head.CallHead.TheVariants as calls
use Rattle.nr_nfs_base.specs.Procedures.{nfs_program, nfs_version}
use Rattle.nr_nfs_base.specs.declared.procedure.NfsProcedure.{NfsProcedure}
use Rattle.nr_reduce.specs.declared.mark.Entry.{Entry}
use Rattle.nr_cache.specs.Entries.{KeptEntry, Finding, entries_of, found_for, top_of, window}
use Rattle.nr_cache.specs.Entries.Finding.{KeptCall, OldCall, NewCall}
use Rattle.nr_cache.specs.Caches.{RemembersAll}
use Rattle.nr_plain.specs.Setup.{Parameters, Setup, State}
use Rattle.nr_plain.specs.Programs.{only_reads}
use Rattle.nr_plain.specs.Journal.{first_state, next_state, nfs_procedure_of}
use Rattle.nr_plain.specs.Replies.{Answer, call_by_cred, cred_refusal, program_call, plain_reply}
use Rattle.nr_plain.specs.ReplyLaws.{plain_server}
use Rattle.nr_plain.specs.Stands.{PlainServerState, RepresentsJournal}
use Rattle.nr_plain.specs.History.{AddsOne, entries_added, xid_in}
use Rattle.nr_reduce.specs.NumberedJournal.{HasNoEntryTwice, Standing, IsExecutedBy, IsReplyOf, added_by, entries_alone, standing_for}
use Rattle.nr_reduce.specs.NumberedJournal.Standing.{Old, Kept, New}
use Rattle.nr_reduce.specs.declared.mark.TaggedEntry.{TaggedEntry}
use Rattle.nr_plain.specs.declared.fault.Fault.{Fault}
use Rattle.nr_plain.specs.declared.fault.Fault.TheVariants as faults

-- ---- The replies of a journal

-- what the plain server answers to the call of an entry
abbrev pub answer_of_entry : Parameters → State → (xid : ℕ) → Entry → Answer
answer_of_entry s st xid e = call_by_cred (cred_refusal e.cred) xid (program_call s st xid nfs_program nfs_version e)

-- The replies of the entries of numbered clients, each with its place: that of the plain server, over the entries before it.
abbrev pub kept_entry : Parameters → State → (place : ℕ) → TaggedEntry → List KeptEntry
kept_entry s st place t =
    if t.client == 0 then [] else record { client = t.client; xid = t.xid; place = place; reply = (answer_of_entry s st t.xid t.entry).reply } ∷ []

abbrev pub kept_from : Parameters → State → (place : ℕ) → List TaggedEntry → List KeptEntry
kept_from s st place [] = []
kept_from s st place (t ∷ T) = kept_entry s st place t ++ kept_from s (next_state s st t.entry) (place + 1) T

abbrev pub kept_replies : Setup → List TaggedEntry → List KeptEntry
kept_replies s T = kept_from s.parameters (first_state s) 0 T

-- What a call is by a journal: kept, old or new. One of a client without a number is new.
abbrev pub finding : Setup → List TaggedEntry → (client xid : ℕ) → Finding
finding s T client xid = if client == 0 then NewCall else found_for (kept_replies s T) client xid

-- ---- The call of an entry

-- the head of the call that is made of an entry
abbrev pub head_of_entry : (xid : ℕ) → Entry → CallHead
head_of_entry xid e = calls.Version2 xid nfs_program nfs_version e.proc e.cred 0

-- The call can be encoded: its numbers are words, and its credential is within its limits (RFC 5531 section 9).
abbrev pub HasCall : TaggedEntry → Type 0
HasCall t = CanWriteCall (head_of_entry t.xid t.entry) × CallFits (head_of_entry t.xid t.entry)

-- So it is of each entry that a call adds whose payload is bytes.
abbrev pub EntriesHaveCalls : Type 0
EntriesHaveCalls = (client : ℕ) (m : Moment) (payload reply : List ℕ) → IsBytes payload → All HasCall (entries_added client m payload reply)

-- ---- What a call is, as a run says it

-- A call is found to be what it is by the entries of a run. If it is kept, the place is the same, and the reply is the one that its entry has in a run.
abbrev pub FoundAs : Setup → List TaggedEntry → Standing → Finding → Type 0
FoundAs s T (Old top) found = found ≡ OldCall top
FoundAs s T (Kept place) found = (reply : List ℕ) × (found ≡ KeptCall place reply) × (All HasCall T → (m : Moment) × IsReplyOf (plain_server s) T place m reply)
FoundAs s T New found = found ≡ NewCall

abbrev pub FindingIsStanding : Type 0
FindingIsStanding = (s : Setup) (T : List TaggedEntry) (client xid : ℕ) → FoundAs s T (standing_for T client xid) (finding s T client xid)

-- ---- What a server makes of it

-- a server stands for a journal, and remembers the replies of its numbered clients
pub record RepresentsTagged (s : Setup) (T : List TaggedEntry) (kept : PlainServerState) : Type 0 where
  pub journal : RepresentsJournal s (entries_alone T) kept
  pub remembers : RemembersAll (kept_replies s T) kept.cache

-- Two servers are the same but for the room that was made for the replies of a client: they stand for the same journals, and remember the same
-- replies.
pub record IsSameButRoom (before after : PlainServerState) : Type 0 where
  pub rest : record after { cache = before.cache } ≡ before
  pub replies : (E : List KeptEntry) → RemembersAll E before.cache → RemembersAll E after.cache

-- a call that a server answered
pub record NumberedCall : Type 0 where
  pub client : ℕ
  pub moment : Moment
  pub payload : List ℕ
  pub reply : List ℕ

-- what a call adds to the journal: its entry, if it is new and has one
abbrev pub added_if : Finding → List TaggedEntry → List TaggedEntry
added_if (OldCall top) entries = []
added_if (KeptCall place reply) entries = []
added_if NewCall entries = entries

abbrev pub added_for : Setup → List TaggedEntry → NumberedCall → List TaggedEntry
added_for s T c = added_if (finding s T c.client (xid_in c.payload)) (entries_added c.client c.moment c.payload c.reply)

-- The answer to a call after the entries T. A new call has the reply of the plain server at the end of the journal. A kept one has the place and the
-- reply of its entry, and the server is as before. An old one has no reply.
abbrev pub IsAnswerBy : Setup → List TaggedEntry → Moment → (payload reply : List ℕ) → (place : ℕ) → (before after : PlainServerState) → Finding → Type 0
IsAnswerBy s T m payload reply place before after (OldCall top) = ⊥
IsAnswerBy s T m payload reply place before after (KeptCall at given) = (place ≡ at) × (reply ≡ given) × (after ≡ before)
IsAnswerBy s T m payload reply place before after NewCall = (plain_reply s (entries_alone T) place m payload ≡ Some reply) × (place ≡ length T)

-- a call was answered after the entries T, and then the server stands for the journal with what the call added
pub record AnswersFor (s : Setup) (T : List TaggedEntry) (client : ℕ) (m : Moment) (payload reply : List ℕ) (place : ℕ) (before after : PlainServerState) : Type 0 where
  pub answer : IsAnswerBy s T m payload reply place before after (finding s T client (xid_in payload))
  pub stands : RepresentsTagged s (T ++ added_for s T (record { client = client; moment = m; payload = payload; reply = reply })) after

-- Why a call gets no reply: it has no call head, or it is old, by the largest xid of its client; out of memory has no cause.
abbrev pub IsNumberedCause : Setup → List TaggedEntry → (client : ℕ) → (payload : List ℕ) → Fault → Type 0
IsNumberedCause s T client payload (faults.NotCall at) = call_of payload ≡ Err at
IsNumberedCause s T client payload faults.Memory = ⊤
IsNumberedCause s T client payload (faults.Old top) = IsOk (call_of payload) × (finding s T client (xid_in payload) ≡ OldCall top)

-- The server as such a fault leaves it: as before, but that memory may have run out after room was made for the replies of a client.
abbrev pub LeavesServer : Fault → (before after : PlainServerState) → Type 0
LeavesServer (faults.NotCall at) before after = after ≡ before
LeavesServer faults.Memory before after = IsSameButRoom before after
LeavesServer (faults.Old top) before after = after ≡ before

-- ---- What a call was answered, as a run says it

-- A call that was answered after the entries T is executed as a run asks: a new one at the moment `now`, a kept one has the moment of its entry. What it
-- adds is what it adds in a run, and the calls of all entries can still be encoded.
pub record AnsweredAsRun (s : Setup) (T : List TaggedEntry) (client : ℕ) (now : Moment) (payload reply : List ℕ) (place : ℕ) : Type 0 where
  pub moment : Moment
  pub executed : IsExecutedBy (plain_server s) T (standing_for T client (xid_in payload)) moment payload place reply
  pub moment_is : standing_for T client (xid_in payload) ≡ New → moment ≡ now
  pub added : added_for s T (record { client = client; moment = now; payload = payload; reply = reply }) ≡ added_by (standing_for T client (xid_in payload)) (entries_added client now payload reply)
  pub have_calls : All HasCall (T ++ added_for s T (record { client = client; moment = now; payload = payload; reply = reply }))

abbrev pub AnswersAreThoseOfRuns : Type 0
AnswersAreThoseOfRuns = (s : Setup) (T : List TaggedEntry) (client : ℕ) (now : Moment) (payload reply : List ℕ) (place : ℕ) (before after : PlainServerState) →
    All HasCall T → IsBytes payload → AnswersFor s T client now payload reply place before after → AnsweredAsRun s T client now payload reply place

-- a call that is found old is old in a run
abbrev pub OldCallsAreOld : Type 0
OldCallsAreOld = (s : Setup) (T : List TaggedEntry) (client xid top : ℕ) → finding s T client xid ≡ OldCall top → standing_for T client xid ≡ Old top

-- ---- Procedures that change the tree

-- a call of NFS version 3 whose procedure changes the tree (RFC 1813 section 3.3)
abbrev pub is_changing : Option NfsProcedure → Bool
is_changing None = false
is_changing (Some p) = not (only_reads p)

abbrev pub may_change_by : CallHead → Bool
may_change_by (calls.Version2 xid prog vers proc cred args_at) = prog == nfs_program && (vers == nfs_version && is_changing (nfs_procedure_of proc))
may_change_by (calls.Other xid rpcvers) = false

abbrev pub may_change : Result CallHead ℕ → Bool
may_change (Ok head) = may_change_by head
may_change (Err at) = false

-- ---- Each change once

-- the journal after some calls
abbrev pub journal_after : Setup → List TaggedEntry → List NumberedCall → List TaggedEntry
journal_after s T [] = T
journal_after s T (c ∷ calls) = journal_after s (T ++ added_for s T c) calls

-- No two entries are of one call of a client with a number, over every list of calls, whatever they are and whatever their replies say: so over those
-- that a server answered, one after the other.
abbrev pub ChangesOnce : Type 0
ChangesOnce = (s : Setup) (calls : List NumberedCall) → HasNoEntryTwice (journal_after s [] calls)

-- ---- The reply of a kept call

-- the largest xid of a client's entries, 0 without any
abbrev pub top_in : Setup → List TaggedEntry → (client : ℕ) → ℕ
top_in s T client = top_of (entries_of client (kept_replies s T))

-- After a new call of a client with a number, which gets this reply of the plain server and adds an entry, its xid is kept, with its place and this
-- reply, until it is 64 below the largest xid of its client, whatever is added later.
abbrev pub FirstRepliesAreKept : Type 0
FirstRepliesAreKept =
    (s : Setup) (T later : List TaggedEntry) (c : NumberedCall) → c.client ≢ 0 → finding s T c.client (xid_in c.payload) ≡ NewCall
    → plain_reply s (entries_alone T) (length T) c.moment c.payload ≡ Some c.reply → AddsOne c.moment c.payload c.reply
    → top_in s (T ++ added_for s T c ++ later) c.client < xid_in c.payload + window
    → finding s (T ++ added_for s T c ++ later) c.client (xid_in c.payload) ≡ KeptCall (length T) c.reply
