-- The one journal of a drill: each new call is executed at its end, with the reply of the server there; a kept one has the reply of its entry; an old one
-- is not executed.
use Rattle.std.specs.Prelude.{◌-◌, map}
use Rattle.std.specs.List.{AllByRecursion}
use Rattle.std.proofs.Common.{◌≡◌, ◌≢◌, ℕ, zero, suc, ◌+◌, List, [], ◌∷◌, ◌++◌, length, take, drop, Option, None, Some, refl, sym, ap, subst, ◌∙◌, append_assoc}
use Rattle.std.proofs.lemmas.List.{take-append-drop}
use Rattle.nr_wire.specs.declared.hello.Side.TheVariants.{Initiator, Responder}
use Rattle.nr_outside.specs.declared.moment.Moment.{Moment}
use Rattle.nr_link.specs.Frames.{frames_of}
use Rattle.nr_reduce.specs.declared.mark.Mark.{Mark}
use Rattle.nr_reduce.specs.declared.mark.Mark.TheVariants as marks
use Rattle.nr_reduce.specs.declared.mark.Told.TheVariants.{Granted}
use Rattle.nr_reduce.specs.declared.mark.Told.TheVariants as told
use Rattle.nr_reduce.specs.declared.mark.TaggedEntry.{TaggedEntry}
use Rattle.nr_reduce.specs.AtEachMark.{AtEachMark}
use Rattle.nr_reduce.specs.PlainJournal.{PlainServer}
use Rattle.nr_reduce.specs.NumberedJournal.{Standing, JournaledByNumber, NumberedMark, IsExecutedBy, IsOld, entries_alone, tagged_by, tagged_from, tagged_journal, call_of_entry, number_heard, standing_for, tagged, added_by}
use Rattle.nr_reduce.specs.NumberedJournal.Standing.{Old, Kept, New}
use Rattle.nr_reduce.specs.History.{bytes_received}
use Rattle.nr_reduce.specs.ServerState.{ReadyCall}
use Rattle.nr_reduce.specs.Served.{last_frame_at}
use Rattle.nr_reduce.proofs.Standing.{AtEachMark_more}
use Rattle.nr_drill.specs.Drill.{SerialServer, Setting, Drill, GivenReply, plain_of, given, kept_reply, reply_by, journal_of, now, standing_of, reply_given, waiting_call}
use Rattle.nr_drill.proofs.AddedMarks.{QuietRules, MarkRules}
use Rattle.nr_drill.proofs.Opening.{number_more}

-- ===== what a call is answered with is what the journal says

new_given : (server : SerialServer) (T : List TaggedEntry) (moment : Moment) (payload : List ℕ) (g : GivenReply) (r : Option (List ℕ)) → server.reply_to (entries_alone T) moment payload ≡ r → given moment (length T) r ≡ Some g →
    IsExecutedBy (plain_of server) T New g.moment payload g.place g.reply
new_given server T moment payload g None is e = absurd cc
new_given server T moment payload g (Some reply) is e =
    let own : record { moment = moment; place = length T; reply = reply } ≡ g = cc in
    subst (λ (x : GivenReply). IsExecutedBy (plain_of server) T New x.moment payload x.place x.reply) own (refl, is)

-- the place of an entry is that of the entries before it
place_is : (T : List TaggedEntry) (place : ℕ) (t : TaggedEntry) (later : List TaggedEntry) → drop place T ≡ t ∷ later → place ≡ length (take place T)
place_is [] zero t later e = absurd cc
place_is [] (suc place) t later e = absurd cc
place_is (x ∷ T) zero t later e = refl
place_is (x ∷ T) (suc place) t later e = ap (λ (n : ℕ). suc n) (place_is T place t later e)

kept_given : (server : SerialServer) (T : List TaggedEntry) (place : ℕ) (payload : List ℕ) (g : GivenReply) (rest : List TaggedEntry) → drop place T ≡ rest → kept_reply server place (take place T) rest ≡ Some g →
    IsExecutedBy (plain_of server) T (Kept place) g.moment payload g.place g.reply
kept_given server T place payload g [] is e = absurd cc
kept_given server T place payload g (t ∷ later) is e = by (server.reply_to (entries_alone (take place T)) t.entry.moment (call_of_entry t.xid t.entry)) refl e
  where
    by : (r : Option (List ℕ)) → server.reply_to (entries_alone (take place T)) t.entry.moment (call_of_entry t.xid t.entry) ≡ r → given t.entry.moment place r ≡ Some g → IsExecutedBy (plain_of server) T (Kept place) g.moment payload g.place g.reply
    by None replied e = absurd cc
    by (Some reply) replied e =
        let own : record { moment = t.entry.moment; place = place; reply = reply } ≡ g = cc in
        subst (λ (x : GivenReply). IsExecutedBy (plain_of server) T (Kept place) x.moment payload x.place x.reply) own (
          refl,
          record {
            earlier = take place T;
            own = t;
            later = later;
            is_cut = sym (take-append-drop place T) ∙ ap (λ (rest : List TaggedEntry). take place T ++ rest) is;
            is_place = place_is T place t later is;
            moment_is = refl;
            replied = replied;
          },
        )

given_by : (server : SerialServer) (T : List TaggedEntry) (moment : Moment) (payload : List ℕ) (is : Standing) (g : GivenReply) → reply_by server T moment payload is ≡ Some g → IsExecutedBy (plain_of server) T is g.moment payload g.place g.reply
given_by server T moment payload (Old top) g e = absurd cc
given_by server T moment payload (Kept place) g e = kept_given server T place payload g (drop place T) refl e
given_by server T moment payload New g e = new_given server T moment payload g (server.reply_to (entries_alone T) moment payload) refl e

-- ===== each mark, by the numbers that were heard so far

abbrev pub HasHeard : ℕ → List Mark → Type 0
HasHeard link run = frames_of Initiator (bytes_received link Responder run) ≢ []

abbrev pub JournalSoFar : SerialServer → List Mark → List TaggedEntry
JournalSoFar server run = tagged_journal (plain_of server) (number_heard run) run

-- a call that is executed on a link whose server has heard its client, or that is told to be old there
abbrev pub StandingMark : SerialServer → List Mark → Mark → Type 0
StandingMark server before (marks.Execute l xid moment payload place reply) =
    HasHeard l before → IsExecutedBy (plain_of server) (JournalSoFar server before) (standing_for (JournalSoFar server before) (number_heard before l) xid) moment payload place reply
StandingMark server before (marks.Told l (told.Old xid at)) = HasHeard l before → IsOld (standing_for (JournalSoFar server before) (number_heard before l) xid)
StandingMark server before mark = Unit {0}

old_is : (is : Standing) (top : ℕ) → is ≡ Old top → IsOld is
old_is (Old top) other e = tt
old_is (Kept place) other e = absurd cc
old_is New other e = absurd cc

pub standing_quiet : (s : Setting) (link : ℕ) → QuietRules (StandingMark s.server) s link
standing_quiet s link = record { wrote = λ run side bytes. tt; fed = λ run side bytes. tt; done = λ run xid outcome. tt; resent = λ run w rest is. tt }

executes_so : (s : Setting) (link : ℕ) (d : Drill) (call : ReadyCall) (g : GivenReply) → waiting_call s link d.marks ≡ Some call → reply_given s link d call ≡ Some g →
    StandingMark s.server d.marks (marks.Execute link call.xid g.moment call.payload g.place g.reply)
unfolding reply_given standing_of journal_of
executes_so s link d call g next is = λ heard. given_by s.server (JournalSoFar s.server d.marks) (now d) call.payload (standing_for (JournalSoFar s.server d.marks) (number_heard d.marks link) call.xid) g is

told_so : (s : Setting) (link : ℕ) (d : Drill) (call : ReadyCall) (top : ℕ) → waiting_call s link d.marks ≡ Some call → standing_of s link d call ≡ Old top →
    StandingMark s.server d.marks (marks.Told link (told.Old call.xid (last_frame_at link d.marks)))
unfolding standing_of journal_of
told_so s link d call top next is = λ heard. old_is (standing_for (JournalSoFar s.server d.marks) (number_heard d.marks link) call.xid) top is

pub standing_rules : (s : Setting) (link : ℕ) → MarkRules (StandingMark s.server) s link
standing_rules s link = record {
  quiet = standing_quiet s link;
  executes = executes_so s link;
  told_old = told_so s link;
  forgot = λ run xid. tt;
  revoked = λ run xid bytes. tt;
}

-- ===== by the numbers of the run

-- the link of each call that is executed, or told to be old, has been heard by then
abbrev pub HeardMark : List Mark → Mark → Type 0
HeardMark before (marks.Execute l xid moment payload place reply) = HasHeard l before
HeardMark before (marks.Told l (told.Old xid at)) = HasHeard l before
HeardMark before mark = Unit {0}

-- a link of an executed call
abbrev ExecutedOn : (ℕ → Type 0) → Mark → Type 0
ExecutedOn P (marks.Execute l xid moment payload place reply) = P l
ExecutedOn P mark = Unit {0}

added_same : (plain : PlainServer) (m n : ℕ → ℕ) (T : List TaggedEntry) (mark : Mark) → ExecutedOn (λ l. m l ≡ n l) mark → tagged_by plain m T mark ≡ tagged_by plain n T mark
added_same plain m n T (marks.Execute l xid moment payload place reply) same =
    ap (λ (c : ℕ). added_by (standing_for T c xid) (map (tagged c xid) (plain.adds moment payload reply))) same
added_same plain m n T (marks.Submit l call form answer) same = refl
added_same plain m n T (marks.Wrote l side bytes) same = refl
added_same plain m n T (marks.Fed l side bytes) same = refl
added_same plain m n T (marks.Done l xid outcome) same = refl
added_same plain m n T (marks.Lost l xid) same = refl
added_same plain m n T (marks.Forget l xid) same = refl
added_same plain m n T (marks.Revoke l xid bytes) same = refl
added_same plain m n T (marks.Drop l) same = refl
added_same plain m n T (marks.Told l what) same = refl

journal_same : (plain : PlainServer) (m n : ℕ → ℕ) (T : List TaggedEntry) (run : List Mark) → AllByRecursion (ExecutedOn (λ l. m l ≡ n l)) run → tagged_from plain m T run ≡ tagged_from plain n T run
journal_same plain m n T [] same = refl
journal_same plain m n T (mark ∷ run) same =
    ap (λ (es : List TaggedEntry). tagged_from plain m (T ++ es) run) (added_same plain m n T mark same.0) ∙ journal_same plain m n (T ++ tagged_by plain n T mark) run same.1

-- each link that was heard by then has the number that it has in the end
heard_executed : (before later : List Mark) (mark : Mark) (more : List Mark) → HeardMark before mark → ExecutedOn (λ l. number_heard (before ++ later) l ≡ number_heard ((before ++ later) ++ more) l) mark
heard_executed before later (marks.Execute l xid moment payload place reply) more heard =
    number_more l before later heard ∙ sym (number_more l before (later ++ more) heard) ∙ ap (λ (run : List Mark). number_heard run l) (sym (append_assoc before later more))
heard_executed before later (marks.Submit l call form answer) more heard = tt
heard_executed before later (marks.Wrote l side bytes) more heard = tt
heard_executed before later (marks.Fed l side bytes) more heard = tt
heard_executed before later (marks.Done l xid outcome) more heard = tt
heard_executed before later (marks.Lost l xid) more heard = tt
heard_executed before later (marks.Forget l xid) more heard = tt
heard_executed before later (marks.Revoke l xid bytes) more heard = tt
heard_executed before later (marks.Drop l) more heard = tt
heard_executed before later (marks.Told l what) more heard = tt

all_executed : (before run more : List Mark) → AtEachMark HeardMark before run → AllByRecursion (ExecutedOn (λ l. number_heard (before ++ run) l ≡ number_heard ((before ++ run) ++ more) l)) run
all_executed before [] more h = tt
all_executed before (mark ∷ run) more h = (
  heard_executed before (mark ∷ run) mark more h.0,
  subst (λ (all : List Mark). AllByRecursion (ExecutedOn (λ l. number_heard all l ≡ number_heard (all ++ more) l)) run) (append_assoc before (mark ∷ []) run) (all_executed (before ++ mark ∷ []) run more h.1),
)

-- so the journal after the first marks is that by the numbers of the run
pub first_journal : (plain : PlainServer) (run more : List Mark) → AtEachMark HeardMark [] run → tagged_journal plain (number_heard run) run ≡ tagged_journal plain (number_heard (run ++ more)) run
unfolding tagged_journal
first_journal plain run more h = journal_same plain (number_heard run) (number_heard (run ++ more)) [] run (all_executed [] run more h)

tagged_one : (plain : PlainServer) (number : ℕ → ℕ) (T : List TaggedEntry) (run : List Mark) (mark : Mark) → tagged_from plain number T (run ++ mark ∷ []) ≡ tagged_from plain number T run ++ tagged_by plain number (tagged_from plain number T run) mark
tagged_one plain number T [] mark = refl
tagged_one plain number T (m ∷ run) mark = tagged_one plain number (T ++ tagged_by plain number T m) run mark

journal_one : (plain : PlainServer) (number : ℕ → ℕ) (run : List Mark) (mark : Mark) → tagged_journal plain number (run ++ mark ∷ []) ≡ tagged_journal plain number run ++ tagged_by plain number (tagged_journal plain number run) mark
unfolding tagged_journal
journal_one plain number run mark = tagged_one plain number [] run mark

-- the journal after a mark
pub journal_more : (s : Setting) (before : List Mark) (mark : Mark) → AtEachMark HeardMark [] before →
    journal_of s (before ++ mark ∷ []) ≡ JournalSoFar s.server before ++ tagged_by (plain_of s.server) (number_heard (before ++ mark ∷ [])) (JournalSoFar s.server before) mark
unfolding journal_of
journal_more s before mark heard =
    let number = number_heard (before ++ mark ∷ []) in
    journal_one (plain_of s.server) number before mark
    ∙ ap (λ (T : List TaggedEntry). T ++ tagged_by (plain_of s.server) number T mark) (sym (first_journal (plain_of s.server) before (mark ∷ []) heard))

one_numbered : (server : SerialServer) (before more : List Mark) (mark : Mark) → AtEachMark HeardMark [] before → HeardMark before mark → StandingMark server before mark → NumberedMark (plain_of server) (number_heard (before ++ more)) before mark
one_numbered server before more (marks.Execute l xid moment payload place reply) heard here stands =
    let same = first_journal (plain_of server) before more heard in
    let number = sym (number_more l before more here) in
    subst (λ (T : List TaggedEntry). IsExecutedBy (plain_of server) T (standing_for T (number_heard (before ++ more) l) xid) moment payload place reply) same
    (subst (λ (n : ℕ). IsExecutedBy (plain_of server) (JournalSoFar server before) (standing_for (JournalSoFar server before) n xid) moment payload place reply) number (stands here))
one_numbered server before more (marks.Told l (told.Old xid at)) heard here stands =
    let same = first_journal (plain_of server) before more heard in
    let number = sym (number_more l before more here) in
    subst (λ (T : List TaggedEntry). IsOld (standing_for T (number_heard (before ++ more) l) xid)) same
    (subst (λ (n : ℕ). IsOld (standing_for (JournalSoFar server before) n xid)) number (stands here))
one_numbered server before more (marks.Told l (Granted credits)) heard here stands = tt
one_numbered server before more (marks.Submit l call form answer) heard here stands = tt
one_numbered server before more (marks.Wrote l side bytes) heard here stands = tt
one_numbered server before more (marks.Fed l side bytes) heard here stands = tt
one_numbered server before more (marks.Done l xid outcome) heard here stands = tt
one_numbered server before more (marks.Lost l xid) heard here stands = tt
one_numbered server before more (marks.Forget l xid) heard here stands = tt
one_numbered server before more (marks.Revoke l xid bytes) heard here stands = tt
one_numbered server before more (marks.Drop l) heard here stands = tt

numbered_from : (server : SerialServer) (before run : List Mark) → AtEachMark HeardMark [] before → AtEachMark HeardMark before run → AtEachMark (StandingMark server) before run →
    AtEachMark (NumberedMark (plain_of server) (number_heard (before ++ run))) before run
numbered_from server before [] first heard stands = tt
numbered_from server before (mark ∷ run) first heard stands = (
  one_numbered server before (mark ∷ run) mark first heard.0 stands.0,
  subst (λ (all : List Mark). AtEachMark (NumberedMark (plain_of server) (number_heard all)) (before ++ mark ∷ []) run) (append_assoc before (mark ∷ []) run)
      (numbered_from server (before ++ mark ∷ []) run (AtEachMark_more HeardMark [] before mark first heard.0) heard.1 stands.1),
)

pub journaled_by_number : (s : Setting) (run : List Mark) → AtEachMark HeardMark [] run → AtEachMark (StandingMark s.server) [] run → JournaledByNumber (plain_of s.server) (number_heard run) (journal_of s run) run
unfolding journal_of
journaled_by_number s run heard stands = record { is = refl; each = numbered_from s.server [] run tt heard stands }
