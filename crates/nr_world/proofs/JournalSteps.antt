-- The one journal of a drill goes on from mark to mark.
use Rattle.std.proofs.Common.{◌≡◌, ◌≢◌, List, [], ◌∷◌, ◌++◌, map, refl, ap, sym, subst, ◌∙◌, append-nil, append_assoc, ℕ}
use Rattle.nr_wire.specs.declared.hello.Side.TheVariants.{Initiator, Responder}
use Rattle.nr_link.specs.Frames.{frames_of}
use Rattle.nr_reduce.specs.AtEachMark.{AtEachMark}
use Rattle.nr_reduce.specs.History.{bytes_received}
use Rattle.nr_reduce.specs.NumberedJournal.{Standing, added_by, number_heard, standing_for, tagged, tagged_by, tagged_from, tagged_journal}
use Rattle.nr_reduce.specs.NumberedJournal.Standing.{Old, Kept, New}
use Rattle.nr_reduce.specs.PlainJournal.{PlainServer}
use Rattle.nr_reduce.specs.declared.mark.Mark.{Mark}
use Rattle.nr_reduce.specs.declared.mark.TaggedEntry.{TaggedEntry}
use Rattle.nr_reduce.specs.declared.mark.Told.TheVariants.{Granted}
use Rattle.nr_reduce.proofs.Standing.{AtEachMark_more}
use Rattle.nr_plain.specs.History.{entries_added, xid_in}
use Rattle.nr_plain.specs.Setup.{Setup}
use Rattle.nr_drill.specs.Drill.{Drill, plain_of, with_mark}
use Rattle.nr_drill.specs.DrillSetup.{server_of}
use Rattle.nr_drill.proofs.NumberedJournals.{HeardMark, first_journal}
use Rattle.nr_drill.proofs.Opening.{number_more}
use Rattle.nr_world.specs.declared.server.Execution.{Execution}
use Rattle.nr_world.specs.DrillServers.{DrillServerState, StandsForEntries, at_second}
use Rattle.nr_world.specs.Steps.{HearsFirst, ServerStands, journal_over}
use Rattle.nr_world.proofs.SameServer.{IsQuietMark, Leaves}
use Rattle.nr_reduce.specs.declared.mark.Mark.TheVariants as marks
use Rattle.nr_reduce.specs.declared.mark.Told.TheVariants as told

heard_mark : (before : List Mark) (mark : Mark) → HearsFirst before mark → HeardMark before mark
heard_mark before (marks.Execute l xid moment payload place reply) h = h
heard_mark before (marks.Told l (told.Old xid at)) h = h
heard_mark before (marks.Told l (Granted credits)) h = tt
heard_mark before (marks.Submit l call form answer) h = tt
heard_mark before (marks.Wrote l side bytes) h = tt
heard_mark before (marks.Fed l side bytes) h = tt
heard_mark before (marks.Done l xid outcome) h = tt
heard_mark before (marks.Lost l xid) h = tt
heard_mark before (marks.Forget l xid) h = tt
heard_mark before (marks.Revoke l xid bytes) h = tt
heard_mark before (marks.Drop l) h = tt

heard_all : (before run : List Mark) → AtEachMark HearsFirst before run → AtEachMark HeardMark before run
heard_all before [] h = tt
heard_all before (mark ∷ run) h = (heard_mark before mark h.0, heard_all (before ++ mark ∷ []) run h.1)

tagged_more : (plain : PlainServer) (number : ℕ → ℕ) (T : List TaggedEntry) (run : List Mark) (mark : Mark) → tagged_from plain number T (run ++ mark ∷ []) ≡ tagged_from plain number T run ++ tagged_by plain number (tagged_from plain number T run) mark
tagged_more plain number T [] mark = refl
tagged_more plain number T (m ∷ run) mark = tagged_more plain number (T ++ tagged_by plain number T m) run mark

-- what a mark adds to the journal of a drill
abbrev pub added_to : Setup → List Mark → Mark → List TaggedEntry
added_to setup run mark = tagged_by (plain_of (server_of setup)) (number_heard (run ++ mark ∷ [])) (journal_over setup run) mark

pub journal_mark : (setup : Setup) (run : List Mark) (mark : Mark) → AtEachMark HearsFirst [] run → journal_over setup (run ++ mark ∷ []) ≡ journal_over setup run ++ added_to setup run mark
unfolding tagged_journal
journal_mark setup run mark heard =
    let plain : PlainServer = plain_of (server_of setup) in
    let number : ℕ → ℕ = number_heard (run ++ mark ∷ []) in
    tagged_more plain number [] run mark
    ∙ sym (ap (λ (T : List TaggedEntry). T ++ tagged_by plain number T mark) (first_journal plain run (mark ∷ []) (heard_all [] run heard)))

-- ---- Marks that execute no call

quiet_hears : (before : List Mark) (mark : Mark) → IsQuietMark before mark → HearsFirst before mark
quiet_hears before (marks.Execute l xid moment payload place reply) q = absurd q
quiet_hears before (marks.Told l (told.Old xid at)) q = absurd q
quiet_hears before (marks.Told l (Granted credits)) q = tt
quiet_hears before (marks.Submit l call form answer) q = tt
quiet_hears before (marks.Wrote l side bytes) q = tt
quiet_hears before (marks.Fed l side bytes) q = tt
quiet_hears before (marks.Done l xid outcome) q = tt
quiet_hears before (marks.Lost l xid) q = tt
quiet_hears before (marks.Forget l xid) q = tt
quiet_hears before (marks.Revoke l xid bytes) q = tt
quiet_hears before (marks.Drop l) q = tt

quiet_adds : (plain : PlainServer) (number : ℕ → ℕ) (T : List TaggedEntry) (before : List Mark) (mark : Mark) → IsQuietMark before mark → tagged_by plain number T mark ≡ []
quiet_adds plain number T before (marks.Execute l xid moment payload place reply) q = absurd q
quiet_adds plain number T before (marks.Told l what) q = refl
quiet_adds plain number T before (marks.Submit l call form answer) q = refl
quiet_adds plain number T before (marks.Wrote l side bytes) q = refl
quiet_adds plain number T before (marks.Fed l side bytes) q = refl
quiet_adds plain number T before (marks.Done l xid outcome) q = refl
quiet_adds plain number T before (marks.Lost l xid) q = refl
quiet_adds plain number T before (marks.Forget l xid) q = refl
quiet_adds plain number T before (marks.Revoke l xid bytes) q = refl
quiet_adds plain number T before (marks.Drop l) q = refl

abbrev GoesOn : Setup → List Mark → List Mark → Type 0
GoesOn setup run run2 = (journal_over setup run2 ≡ journal_over setup run) × AtEachMark HearsFirst [] run2

all_quiet : (setup : Setup) (run added : List Mark) → AtEachMark HearsFirst [] run → AtEachMark IsQuietMark run added → GoesOn setup run (run ++ added)
all_quiet setup run [] heard quiet = subst (λ (all : List Mark). GoesOn setup run all) (sym (append-nil run)) (refl, heard)
all_quiet setup run (mark ∷ added) heard quiet =
    let next : List Mark = run ++ mark ∷ [] in
    let one : journal_over setup next ≡ journal_over setup run =
    journal_mark setup run mark heard
    ∙ ap (λ (es : List TaggedEntry). journal_over setup run ++ es) (quiet_adds (plain_of (server_of setup)) (number_heard next) (journal_over setup run) run mark quiet.0)
    ∙ append-nil (journal_over setup run) in
    let rest : GoesOn setup next (next ++ added) = all_quiet setup next added (AtEachMark_more HearsFirst [] run mark heard (quiet_hears run mark quiet.0)) quiet.1 in
    subst (λ (all : List Mark). GoesOn setup run all) (append_assoc run (mark ∷ []) added) (rest.0 ∙ one, rest.1)

-- the server stands for the drill after a step that executes none
pub stays : (setup : Setup) (old new : Drill) (kept : DrillServerState) → Leaves old new → ServerStands setup old kept → ServerStands setup new kept
stays setup old new kept x stood =
    let on : GoesOn setup old.marks new.marks = subst (λ (all : List Mark). GoesOn setup old.marks all) (sym x.marks.is) (all_quiet setup old.marks x.marks.added stood.heard x.marks.each) in
    record { entries = subst (λ (T : List TaggedEntry). StandsForEntries setup T kept) (sym on.0) stood.entries; heard = on.1 }

-- ---- A call that is executed, or found old

pub stands_on : (setup : Setup) (d : Drill) (mark : Mark) (kept kept2 : DrillServerState) → ServerStands setup d kept → HearsFirst d.marks mark →
    StandsForEntries setup (journal_over setup d.marks ++ added_to setup d.marks mark) kept2 → ServerStands setup (with_mark mark d) kept2
stands_on setup d mark kept kept2 stood hears entries = record {
  entries = subst (λ (T : List TaggedEntry). StandsForEntries setup T kept2) (sym (journal_mark setup d.marks mark stood.heard)) entries;
  heard = AtEachMark_more HearsFirst [] d.marks mark stood.heard hears;
}

added_by_standing : (is : Standing) (some other : List TaggedEntry) → (is ≡ New → some ≡ other) → added_by is some ≡ added_by is other
added_by_standing (Old top) some other h = refl
added_by_standing (Kept place) some other h = refl
added_by_standing New some other h = h refl

-- what an executed call adds: only a new one has an entry, which was made now
pub added_now : (setup : Setup) (run : List Mark) (link client now : ℕ) (xid : ℕ) (payload : List ℕ) (e : Execution) → client ≡ number_heard run link → frames_of Initiator (bytes_received link Responder run) ≢ [] → xid ≡ xid_in payload →
    (standing_for (journal_over setup run) client (xid_in payload) ≡ New → e.second ≡ now) →
    added_to setup run (marks.Execute link xid (at_second e.second) payload e.place e.reply) ≡ added_by (standing_for (journal_over setup run) client (xid_in payload)) (entries_added client (at_second now) payload e.reply)
added_now setup run link client now xid payload e number heard own moment =
    let T : List TaggedEntry = journal_over setup run in
    let mark : Mark = marks.Execute link xid (at_second e.second) payload e.place e.reply in
    let heard_as : number_heard (run ++ mark ∷ []) link ≡ client = number_more link run (mark ∷ []) heard ∙ sym number in
    (λ i. added_by (standing_for T (heard_as i) (own i)) (map (tagged (heard_as i) (own i)) ((plain_of (server_of setup)).adds (at_second e.second) payload e.reply)))
    ∙ added_by_standing (standing_for T client (xid_in payload)) (entries_added client (at_second e.second) payload e.reply) (entries_added client (at_second now) payload e.reply)
    (λ new. ap (λ (n : ℕ). entries_added client (at_second n) payload e.reply) (moment new))
