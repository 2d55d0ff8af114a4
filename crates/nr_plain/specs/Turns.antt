-- What a server in a turnstile stands for, and what a call of a client makes of its history under one turn.
use Rattle.std.specs.Prelude.{◌≡◌, ◌≢◌, ⊤, ℕ, suc, List, [], ◌++◌, length, Err, IsOk, All}
use Rattle.nr_outside.specs.declared.moment.Moment.{Moment}
use Rattle.nr_rpc.specs.Reading.{call_of}
use Rattle.nr_turnstile.specs.Rule.{Begins, places_from}
use Rattle.nr_reduce.specs.declared.mark.TaggedEntry.{TaggedEntry}
use Rattle.nr_reduce.specs.NumberedJournal.{HasNoEntryTwice, Standing, IsExecutedBy, added_by, entries_alone, standing_for}
use Rattle.nr_reduce.specs.NumberedJournal.Standing.{Old, New}
use Rattle.nr_plain.specs.Stands.{PlainServerState}
use Rattle.nr_plain.specs.Numbered.{HasCall, RepresentsTagged}
use Rattle.nr_plain.specs.ReplyLaws.{plain_server}
use Rattle.nr_plain.specs.History.{HasNoCallTwice, Opening, AreOfCalls, PassView, entries_added, history, setup_in, xid_in}
use Rattle.nr_plain.specs.declared.history_entry.HistoryEntry.{HistoryEntry}
use Rattle.nr_plain.specs.declared.fault.Fault.{Fault}
use Rattle.nr_plain.specs.declared.fault.Fault.TheVariants as faults

-- A server that was opened so stands for these entries. Each is that of a call, which can be encoded. No two are of one call of a client that has a
-- number.
pub record StandsAfter (first : Opening) (T : List TaggedEntry) (kept : PlainServerState) : Type 0 where
  pub represents : RepresentsTagged (setup_in first) T kept
  pub of_calls : AreOfCalls (setup_in first) [] (entries_alone T)
  pub have_calls : All HasCall T
  pub once : HasNoEntryTwice T

abbrev pub StandsFor : PlainServerState → List HistoryEntry → Type 0
StandsFor kept h = (first : Opening) × ((T : List TaggedEntry) × ((h ≡ history first T) × StandsAfter first T kept))

-- ===== a call of a client

-- what a call adds to the entries T: its entry, if it is new and has one
abbrev pub added_to : List TaggedEntry → (client : ℕ) → Moment → (payload reply : List ℕ) → List TaggedEntry
added_to T client m payload reply = added_by (standing_for T client (xid_in payload)) (entries_added client m payload reply)

-- A call of a client was answered under one turn of a pass, which had seen the entries T. Other passes may have added entries before it. The call is
-- executed as in a run: a new one at the moment `now`; a kept one has the moment, the place and the reply of its entry. What it adds is the last of
-- the history, and the pass's own. All entries that were added, by others and by this call, are those of calls. No call of a client with a number has
-- two entries then, whoever sent it.
pub record AnswersAt (first : Opening) (T : List TaggedEntry) (before after : PassView) (client : ℕ) (now moment : Moment) (payload reply : List ℕ) (place : ℕ) : Type 0 where
  pub others : List TaggedEntry
  pub begins : Begins before.seen (history first (T ++ others))
  pub executed : IsExecutedBy (plain_server (setup_in first)) (T ++ others) (standing_for (T ++ others) client (xid_in payload)) moment payload place reply
  pub moment_is : standing_for (T ++ others) client (xid_in payload) ≡ New → moment ≡ now
  pub seen : after.seen ≡ history first ((T ++ others) ++ added_to (T ++ others) client now payload reply)
  pub once : HasNoCallTwice after.seen
  pub of_calls : AreOfCalls (setup_in first) (entries_alone T) (entries_alone (others ++ added_to (T ++ others) client now payload reply))
  pub mine_is : after.mine ≡ before.mine ++ places_from (suc (length (T ++ others))) (length (added_to (T ++ others) client now payload reply))

abbrev pub Answers : (before after : PassView) → (client : ℕ) → (now : Moment) → (payload reply : List ℕ) → (place : ℕ) → Type 0
Answers before after client now payload reply place =
    (moment : Moment) × ((first : Opening) (T : List TaggedEntry) → before.seen ≡ history first T → AnswersAt first T before after client now moment payload reply place)

-- A call was found old under one turn: its xid is too far below the largest one of its client. Nothing was added to what others had added by then.
pub record FindsOldAt (first : Opening) (T : List TaggedEntry) (before after : PassView) (client xid top : ℕ) : Type 0 where
  pub others : List TaggedEntry
  pub begins : Begins before.seen after.seen
  pub old : standing_for (T ++ others) client xid ≡ Old top
  pub seen : after.seen ≡ history first (T ++ others)
  pub once : HasNoCallTwice after.seen
  pub of_calls : AreOfCalls (setup_in first) (entries_alone T) (entries_alone others)
  pub mine_is : after.mine ≡ before.mine

-- Why a call gets no reply: it has no call head; or it is old, which no call of a client without a number is; out of memory has no cause.
abbrev pub IsCauseFor : (before after : PassView) → (client : ℕ) → (payload : List ℕ) → Fault → Type 0
IsCauseFor before after client payload (faults.NotCall at) = call_of payload ≡ Err at
IsCauseFor before after client payload faults.Memory = ⊤
IsCauseFor before after client payload (faults.Old top) =
    IsOk (call_of payload) × (client ≢ 0) × ((first : Opening) (T : List TaggedEntry) → before.seen ≡ history first T → FindsOldAt first T before after client (xid_in payload) top)
