-- What the marks of a drill's run are for a report: of which client each is, which calls are sent again, and what each execution adds to the journal.
use Rattle.std.specs.Prelude.{◌-◌, ◌==◌, slice_index_or, map}
use Rattle.std.specs.List.{AllByRecursion, range_with_len}
use Rattle.std.proofs.Common.{◌≡◌, ℕ, zero, suc, ◌+◌, ◌<◌, arith, Bool, List, [], ◌∷◌, ◌++◌, length, refl, sym, ap, subst, ◌∙◌, append-nil, length-append}
use Rattle.std.proofs.lemmas.Bool.{eq-eqb}
use Rattle.nr_outside.specs.declared.moment.Moment.{Moment}
use Rattle.nr_reduce.specs.declared.mark.Entry.{Entry}
use Rattle.nr_reduce.specs.declared.mark.Mark.{Mark}
use Rattle.nr_reduce.specs.declared.mark.Mark.TheVariants as marks
use Rattle.nr_reduce.specs.declared.mark.TaggedEntry.{TaggedEntry}
use Rattle.nr_reduce.specs.AtEachMark.{AtEachMark}
use Rattle.nr_reduce.specs.NumberedJournal.{Standing, IsExecutedBy, added_by, entries_alone, number_heard, standing_for, tagged, tagged_by}
use Rattle.nr_reduce.specs.NumberedJournal.Standing.{Old, Kept, New}
use Rattle.nr_reduce.proofs.SoFarLaws.{AtEachMark_each}
use Rattle.nr_reduce.proofs.Standing.{AtEachMark_more}
use Rattle.nr_laws.specs.Typed.{TypedMark, IsTyped}
use Rattle.nr_plain.specs.Added.{entries_of_call}
use Rattle.nr_script.specs.Script.{ScriptLines, IsScript}
use Rattle.nr_drill.specs.Drill.{SerialServer, link_of, Setting, Drill, IsLink, plain_of, client_of, journal_of}
use Rattle.nr_drill.specs.Follows.{last_setting}
use Rattle.nr_drill.specs.Headline.{IsDrillRun}
use Rattle.nr_drill.specs.InBytes.{RepliedMark, RepliedInBytes}
use Rattle.nr_drill.specs.LinkEnds.{AreClients}
use Rattle.nr_drill.specs.private.Drafts.{AreNumbered, HasNextXid, NumberedMark, client_in, entries_given, entries_if, entries_so_far}
use Rattle.nr_drill.proofs.Followed.{apart}
use Rattle.nr_drill.proofs.Journals.{tagged_alone, both_alone, length_alone}
use Rattle.nr_drill.proofs.NumberedJournals.{HeardMark, JournalSoFar, StandingMark, journal_more}
use Rattle.nr_drill.proofs.NumberedRuns.{follows_stands}
use Rattle.nr_drill.proofs.Opening.{number_more}
use Rattle.nr_drill.proofs.BegunLinks.{lines_hold}
use Rattle.nr_drill.proofs.BegunOrder.{InOrder, links_in_order}
use Rattle.nr_drill.proofs.Actions.{IsLastOf}
use Rattle.nr_drill.proofs.EndingDrains.{Owned, owned_map, last_owned}
use Rattle.nr_drill.proofs.CountedCalls.{AreCounted, calls_are_counted}
use Rattle.nr_drill.proofs.NextXids.{IsOfLatest}

-- ===== what an execution adds to the journal

-- a new call is executed at the journal's end, and a kept one before it
entered : (server : SerialServer) (T : List TaggedEntry) (n xid : ℕ) (moment : Moment) (payload : List ℕ) (place : ℕ) (reply : List ℕ) (is : Standing) → server.adds ≡ entries_of_call → IsExecutedBy (plain_of server) T is moment payload place reply →
    entries_alone (T ++ added_by is (map (tagged n xid) (server.adds moment payload reply))) ≡ entries_alone T ++ entries_if (place == length (entries_alone T)) moment payload reply
entered server T n xid moment payload place reply (Old top) adds h = absurd h
entered server T n xid moment payload place reply (Kept at) adds h =
    let all = length_alone T in
    let cut = ap (λ (es : List TaggedEntry). length es) h.1.is_cut in
    let sum = length-append h.1.earlier (h.1.own ∷ h.1.later) in
    let here = h.1.is_place in
    let before : place < length (entries_alone T) = omega (arith, all, cut, sum, here) in
    ap entries_alone (append-nil T) ∙ sym (append-nil (entries_alone T))
    ∙ ap (λ (b : Bool). entries_alone T ++ entries_if b moment payload reply) (sym (apart place (length (entries_alone T)) (λ same. (let lt = before in omega (arith, lt, same)))))
entered server T n xid moment payload place reply New adds h =
    both_alone T (map (tagged n xid) (server.adds moment payload reply))
    ∙ ap (λ (es : List Entry). entries_alone T ++ es) (tagged_alone n xid (server.adds moment payload reply) ∙ (λ i. adds i moment payload reply))
    ∙ ap (λ (b : Bool). entries_alone T ++ entries_if b moment payload reply) (sym (eq-eqb place (length (entries_alone T)) (h.0 ∙ sym (length_alone T))))

abbrev Enters : Setting → List Mark → Mark → Type 0
Enters s before mark = entries_so_far s (before ++ mark ∷ []) ≡ entries_so_far s before ++ entries_given (length (entries_so_far s before)) mark

module _ (s : Setting) (adds : s.server.adds ≡ entries_of_call) (before : List Mark) (heard : AtEachMark HeardMark [] before) where
  abbrev so_far : List TaggedEntry
  so_far = JournalSoFar s.server before

  -- a mark that executes nothing
  none_entered : (mark : Mark) → tagged_by (plain_of s.server) (number_heard (before ++ mark ∷ [])) so_far mark ≡ [] → entries_given (length (entries_so_far s before)) mark ≡ [] → Enters s before mark
  unfolding journal_of
  none_entered mark none given =
      ap entries_alone (journal_more s before mark heard ∙ ap (λ (U : List TaggedEntry). so_far ++ U) none ∙ append-nil so_far) ∙ sym (append-nil (entries_alone so_far)) ∙ ap (λ (es : List Entry). entries_alone so_far ++ es) (sym given)

  enters : (mark : Mark) → HeardMark before mark → StandingMark s.server before mark → Enters s before mark
  unfolding journal_of
  enters (marks.Execute l xid moment payload place reply) here stands =
      let mark = marks.Execute l xid moment payload place reply in
      ap entries_alone (journal_more s before mark heard)
      ∙ ap (λ (n : ℕ). entries_alone (so_far ++ added_by (standing_for so_far n xid) (map (tagged n xid) (s.server.adds moment payload reply)))) (number_more l before (mark ∷ []) here)
      ∙ entered s.server so_far (number_heard before l) xid moment payload place reply (standing_for so_far (number_heard before l) xid) adds (stands here)
  enters (marks.Submit l call form answer) here stands = none_entered (marks.Submit l call form answer) refl refl
  enters (marks.Wrote l side bytes) here stands = none_entered (marks.Wrote l side bytes) refl refl
  enters (marks.Fed l side bytes) here stands = none_entered (marks.Fed l side bytes) refl refl
  enters (marks.Done l xid outcome) here stands = none_entered (marks.Done l xid outcome) refl refl
  enters (marks.Lost l xid) here stands = none_entered (marks.Lost l xid) refl refl
  enters (marks.Forget l xid) here stands = none_entered (marks.Forget l xid) refl refl
  enters (marks.Revoke l xid bytes) here stands = none_entered (marks.Revoke l xid bytes) refl refl
  enters (marks.Drop l) here stands = none_entered (marks.Drop l) refl refl
  enters (marks.Told l what) here stands = none_entered (marks.Told l what) refl refl

each_enters : (s : Setting) → s.server.adds ≡ entries_of_call → (before run : List Mark) → AtEachMark HeardMark [] before → AtEachMark HeardMark before run → AtEachMark (StandingMark s.server) before run → AtEachMark (Enters s) before run
each_enters s adds before [] first heard stands = tt
each_enters s adds before (mark ∷ run) first heard stands =
    (enters s adds before first mark heard.0 stands.0, each_enters s adds (before ++ mark ∷ []) run (AtEachMark_more HeardMark [] before mark first heard.0) heard.1 stands.1)

-- ===== replies are bytes

typed_reply : (before : List Mark) (mark : Mark) → TypedMark before mark → RepliedMark before mark
typed_reply before (marks.Execute l xid moment payload place reply) h = h
typed_reply before (marks.Submit l call form answer) h = tt
typed_reply before (marks.Wrote l side bytes) h = tt
typed_reply before (marks.Fed l side bytes) h = tt
typed_reply before (marks.Done l xid outcome) h = tt
typed_reply before (marks.Lost l xid) h = tt
typed_reply before (marks.Forget l xid) h = tt
typed_reply before (marks.Revoke l xid bytes) h = tt
typed_reply before (marks.Drop l) h = tt
typed_reply before (marks.Told l what) h = tt

pub typed_replies : (run : List Mark) → IsTyped run → RepliedInBytes run
typed_replies run h = AtEachMark_each TypedMark RepliedMark [] run typed_reply h

-- ===== the clients of links

index_owner : (f : ℕ → ℕ) (from n i x : ℕ) → x ≡ from + i → i < n → slice_index_or (map f (range_with_len from n)) i 0 ≡ f x
index_owner f from zero i x is lt = absurd (omega (arith, lt))
index_owner f from (suc n) zero x is lt = (let same : from ≡ x = omega (arith, is) in ap f same)
index_owner f from (suc n) (suc i) x is lt = index_owner f (from + 1) n i x (omega (arith, is)) (omega (arith, lt))

owner_is : (s : Setting) (d : Drill) (clients : List ℕ) (link : ℕ) → AreClients s d clients → IsLink d link → client_in clients link ≡ client_of s link
owner_is s d clients link are within =
    ap (λ (cs : List ℕ). slice_index_or cs (link - 1) 0) are
    ∙ index_owner (client_of s) 1 (length d.opened) (link - 1) link (let low = within.0 in omega (arith, low)) (let low = within.0 in let high = within.1 in omega (arith, low, high))

-- ===== the marks of a run

numbered_from : (t : Setting) (count : ℕ) (d : Drill) (clients : List ℕ) (before run : List Mark) → AreClients t d clients → InOrder t count d → AllByRecursion (λ (mark : Mark). IsLink d (link_of mark)) run → AtEachMark (HasNextXid t) before run →
    AtEachMark (IsOfLatest t) before run → AtEachMark (Enters t) before run → AtEachMark (NumberedMark t clients count) before run
numbered_from t count d clients before [] are order within next latest enter = tt
numbered_from t count d clients before (mark ∷ run) are order within next latest enter = (
  record {
    owner = owner_is t d clients (link_of mark) are within.0;
    above = (order.owners (link_of mark) within.0).0;
    within = (order.owners (link_of mark) within.0).1;
    latest = latest.0;
    xid = next.0;
    entries = enter.0;
  },
  numbered_from t count d clients (before ++ mark ∷ []) run are order within.1 next.1 latest.1 enter.1,
)

pub drill_numbered : (server : SerialServer) (script : ScriptLines) (run : List Mark) → IsScript script → (drill : IsDrillRun server script run) → server.adds ≡ entries_of_call → (clients : List ℕ) →
    AreClients (last_setting drill.follows) drill.follows.last clients → AreNumbered (last_setting drill.follows) clients script.opening.clients run
drill_numbered server script run is drill adds clients are =
    let replied = typed_replies run drill.typed in
    let follows = drill.follows in
    let t : Setting = last_setting follows in
    let held = lines_hold server script is run replied follows in
    let counts : AreCounted t script.opening.clients follows.last = calls_are_counted server script is run replied follows in
    let stands = follows_stands server script run is replied follows in
    let back = sym follows.marks_are in
    numbered_from t script.opening.clients follows.last clients [] run are (links_in_order server script is run replied follows)
    (subst (AllByRecursion (λ (mark : Mark). IsLink follows.last (link_of mark))) back held.frame.within)
    (subst (AtEachMark (HasNextXid t) []) back counts.each) (subst (AtEachMark (IsOfLatest t) []) back counts.latest) (each_enters t adds [] run tt stands.0 stands.1)

-- the last links of as many clients as the script has
pub drill_links : (server : SerialServer) (script : ScriptLines) (run : List Mark) → IsScript script → (drill : IsDrillRun server script run) → length drill.follows.last.last_links ≡ script.opening.clients
drill_links server script run is drill = (lines_hold server script is run (typed_replies run drill.typed) drill.follows).frame.count

pub drill_owned : (server : SerialServer) (script : ScriptLines) (run : List Mark) → IsScript script → (drill : IsDrillRun server script run) → Owned (λ (c : ℕ) (link : ℕ). client_of (last_setting drill.follows) link ≡ c) 1 drill.follows.last.last_links
drill_owned server script run is drill =
    let held = lines_hold server script is run (typed_replies run drill.typed) drill.follows in
    let d = drill.follows.last in
    owned_map (λ (c : ℕ) (link : ℕ). IsLastOf script.opening.clients c link d) (λ (c : ℕ) (link : ℕ). client_of (last_setting drill.follows) link ≡ c) 1 d.last_links (λ c link last. (held.frame.owned c link last).1)
    (last_owned script.opening.clients d held.frame.count)
