-- The plain server of a drill has a reply to each call that waits, since what waits begins with the head of a call. It replies in bytes over a
-- tree in bytes.
use Rattle.std.specs.Prelude.{option_map, ◌==◌, if◌then◌else◌, map}
use Rattle.std.specs.List.{AllByRecursion}
use Rattle.std.proofs.Common.{ℕ, List, [], ◌∷◌, ◌++◌, length, take, Result, refl, sym, ap, subst, zero, suc, ◌≡◌, Bool, true, false, drop, Option, None, Some}
use Rattle.nr_rpc.specs.declared.head.CallHead.{CallHead}
use Rattle.nr_reduce.specs.declared.mark.Mark.{Mark}
use Rattle.nr_reduce.specs.declared.mark.Mark.TheVariants as marks
use Rattle.nr_reduce.specs.AtEachMark.{AtEachMark}
use Rattle.nr_laws.proofs.Basics.{each_append}
use Rattle.nr_reduce.proofs.Calls.{executed_head}
use Rattle.nr_plain.specs.Setup.{Setup}
use Rattle.nr_plain.specs.Replies.{Answer, answer_to, answer_by, plain_reply}
use Rattle.nr_plain.specs.Journal.{state_of}
use Rattle.nr_texts.specs.declared.opening.Opening.{Opening}
use Rattle.nr_drill.specs.Drill.{plain_of, now, SerialServer, Setting, GivenReply, given, kept_reply, reply_by, standing_of, reply_given, journal_of}
use Rattle.nr_drill.specs.Follows.{setting_of}
use Rattle.nr_drill.specs.DrillSetup.{drill_setup, server_of}
use Rattle.nr_drill.specs.Drains.{AnswersCalls, AnswersInBytes}
use Rattle.nr_byte_laws.specs.InBytes.{EntryInBytes, IsInBytes}
use Rattle.nr_drill.specs.InBytes.{RepliedInBytes, ExecutedMark, ExecutedInBytes}
use Rattle.nr_drill.specs.Laws.{PlainServersAnswer, PlainServersAnswerInBytes, PlainRunsReplyInBytes}
use Rattle.nr_drill.proofs.ByteDrills.{byte_replied, script_bytes}
use Rattle.nr_byte_laws.proofs.PlainBytes.{plain_reply_bytes, entries_bytes}
use Rattle.nr_xdr.specs.Item.{IsBytes}
use Rattle.nr_outside.specs.declared.moment.Moment.{Moment}
use Rattle.nr_reduce.specs.declared.mark.Entry.{Entry}
use Rattle.nr_reduce.specs.declared.mark.TaggedEntry.{TaggedEntry}
use Rattle.nr_reduce.specs.NumberedJournal.{Standing, entries_alone, tagged, standing_for, number_heard, added_by, tagged_by, tagged_from, tagged_journal, call_of_entry}
use Rattle.nr_reduce.specs.NumberedJournal.Standing.{Old, Kept, New}
use Rattle.nr_plain.specs.Added.{entries_of_call}

pub plain_answers_calls : (setup : Setup) (opening : Opening) → AnswersCalls (setting_of (server_of setup) opening)
plain_answers_calls setup opening opened link d call next =
    let h = executed_head (opened link) link d.marks call.xid call.payload (record { call = call; is_next = next; own = refl; conveyed = refl }) in
    let J = entries_alone (journal_of (setting_of (server_of setup) opening) d.marks) in
    let st = state_of setup (take (length J) J) in (
      (answer_to setup.parameters st (now d) call.payload h.0).reply,
      ap (λ (r : Result CallHead ℕ). option_map (λ (a : Answer). a.reply) (answer_by setup.parameters st (now d) call.payload r)) h.1.0,
    )

-- ===== in bytes

abbrev TaggedInBytes : TaggedEntry → Type 0
TaggedInBytes t = EntryInBytes t.entry

tagged_in_bytes : (client xid : ℕ) (e : Entry) → EntryInBytes e → TaggedInBytes (tagged client xid e)
tagged_in_bytes client xid e h = by (client == 0)
  where
    by : (b : Bool) → TaggedInBytes (if b then record { entry = e; client = 0; xid = 0 } else record { entry = e; client = client; xid = xid })
    by true = h
    by false = h

all_tagged : (client xid : ℕ) (es : List Entry) → AllByRecursion EntryInBytes es → AllByRecursion TaggedInBytes (map (tagged client xid) es)
all_tagged client xid [] h = tt
all_tagged client xid (e ∷ es) h = (tagged_in_bytes client xid e h.0, all_tagged client xid es h.1)

added_in_bytes : (is : Standing) (es : List TaggedEntry) → AllByRecursion TaggedInBytes es → AllByRecursion TaggedInBytes (added_by is es)
added_in_bytes (Old top) es h = tt
added_in_bytes (Kept place) es h = tt
added_in_bytes New es h = h

-- what a mark adds
mark_entries : (setup : Setup) (number : ℕ → ℕ) (T : List TaggedEntry) (before : List Mark) (mark : Mark) → ExecutedMark before mark → AllByRecursion TaggedInBytes (tagged_by (plain_of (server_of setup)) number T mark)
mark_entries setup number T before (marks.Submit l call form answer) h = tt
mark_entries setup number T before (marks.Wrote l side bytes) h = tt
mark_entries setup number T before (marks.Fed l side bytes) h = tt
mark_entries setup number T before (marks.Execute l xid moment payload place reply) h =
    let es = entries_of_call moment payload reply in
    added_in_bytes (standing_for T (number l) xid) (map (tagged (number l) xid) es) (all_tagged (number l) xid es (entries_bytes moment payload reply h))
mark_entries setup number T before (marks.Done l xid outcome) h = tt
mark_entries setup number T before (marks.Lost l xid) h = tt
mark_entries setup number T before (marks.Forget l xid) h = tt
mark_entries setup number T before (marks.Revoke l xid bytes) h = tt
mark_entries setup number T before (marks.Drop l) h = tt
mark_entries setup number T before (marks.Told l what) h = tt

all_entries : (setup : Setup) (number : ℕ → ℕ) (T : List TaggedEntry) (before run : List Mark) → AllByRecursion TaggedInBytes T → AtEachMark ExecutedMark before run →
    AllByRecursion TaggedInBytes (tagged_from (plain_of (server_of setup)) number T run)
all_entries setup number T before [] t h = t
all_entries setup number T before (mark ∷ run) t h =
    let more = tagged_by (plain_of (server_of setup)) number T mark in
    all_entries setup number (T ++ more) (before ++ mark ∷ []) run (each_append TaggedInBytes T more t (mark_entries setup number T before mark h.0)) h.1

journal_bytes : (setup : Setup) (s : Setting) (run : List Mark) → s.server ≡ server_of setup → ExecutedInBytes run → AllByRecursion TaggedInBytes (journal_of s run)
unfolding journal_of tagged_journal
journal_bytes setup s run is h =
    subst (λ (server : SerialServer). AllByRecursion TaggedInBytes (tagged_from (plain_of server) (number_heard run) [] run)) (sym is) (all_entries setup (number_heard run) [] [] run tt h)

alone_in_bytes : (T : List TaggedEntry) → AllByRecursion TaggedInBytes T → AllByRecursion EntryInBytes (entries_alone T)
alone_in_bytes [] h = tt
alone_in_bytes (t ∷ T) h = (h.0, alone_in_bytes T h.1)

take_in_bytes : (n : ℕ) (T : List TaggedEntry) → AllByRecursion TaggedInBytes T → AllByRecursion TaggedInBytes (take n T)
take_in_bytes zero T h = tt
take_in_bytes (suc n) [] h = tt
take_in_bytes (suc n) (t ∷ T) h = (h.0, take_in_bytes n T h.1)

-- the reply of a given one
abbrev reply_in : Option GivenReply → Option (List ℕ)
reply_in None = None
reply_in (Some g) = Some g.reply

given_is : (moment : Moment) (place : ℕ) (reply : Option (List ℕ)) (g : GivenReply) → given moment place reply ≡ Some g → reply ≡ Some g.reply
given_is moment place None g e = absurd cc
given_is moment place (Some reply) g e = ap reply_in e

answers_in_bytes : (setup : Setup) (opening : Opening) → IsInBytes setup.tree → AnswersInBytes (setting_of (server_of setup) opening)
unfolding reply_given
answers_in_bytes setup opening is opened link d typed executed call g next e = by (standing_of s link d call) e
  where
    s : Setting
    s = record { server = server_of setup; opened = opened }

    T : List TaggedEntry
    T = journal_of s d.marks

    bytes : AllByRecursion TaggedInBytes T
    bytes = journal_bytes setup s d.marks refl executed

    kept : (place : ℕ) (later : List TaggedEntry) → kept_reply (server_of setup) place (take place T) later ≡ Some g → IsBytes g.reply
    kept place [] e = absurd cc
    kept place (t ∷ later) e =
        let J = entries_alone (take place T) in
        plain_reply_bytes setup J (length J) t.entry.moment (call_of_entry t.xid t.entry) g.reply is (alone_in_bytes (take place T) (take_in_bytes place T bytes))
        (given_is t.entry.moment place (plain_reply setup J (length J) t.entry.moment (call_of_entry t.xid t.entry)) g e)

    by : (is : Standing) → reply_by (server_of setup) T (now d) call.payload is ≡ Some g → IsBytes g.reply
    by (Old top) e = absurd cc
    by (Kept place) e = kept place (drop place T) e
    by New e =
        let J = entries_alone T in
        plain_reply_bytes setup J (length J) (now d) call.payload g.reply is (alone_in_bytes T bytes) (given_is (now d) (length T) (plain_reply setup J (length J) (now d) call.payload) g e)

pub plain_answers : PlainServersAnswer
plain_answers tree opening = plain_answers_calls (drill_setup tree opening) opening

pub plain_answers_in_bytes : PlainServersAnswerInBytes
plain_answers_in_bytes tree opening is = answers_in_bytes (drill_setup tree opening) opening is

-- ===== the replies of a run

pub plain_runs_reply_in_bytes : PlainRunsReplyInBytes
plain_runs_reply_in_bytes tree script run in_bytes is follows =
    let server = server_of (drill_setup tree script.opening) in
    subst RepliedInBytes (sym follows.marks_are) (byte_replied follows.last (script_bytes server script run is (plain_answers_in_bytes tree script.opening in_bytes) follows))
