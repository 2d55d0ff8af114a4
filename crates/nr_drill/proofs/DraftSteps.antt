-- What each mark makes of a draft stands for the marks so far.
use Rattle.std.proofs.Common.{◌≡◌, ◌≢◌, ℕ, zero, suc, ◌+◌, ◌-◌, ◌<◌, ◌≤◌, arith, Bool, true, false, eqb, eqb-true, eq-eqb, List, [], ◌∷◌, ◌++◌, length, take, drop, get_or, set, Option, None, Some, ◌⊎◌, inl, inr, refl, sym, ap, subst, ◌∙◌, append-nil}
use Rattle.std.specs.Prelude.{replicate, slice_get, slice_index_or, MatchOption, ◌==◌}
use Rattle.std.proofs.lemmas.List.{length-set}
use Rattle.nr_outside.specs.declared.moment.Moment.{Moment}
use Rattle.std.proofs.Math.Seq.{drop-cons}
use Rattle.std.proofs.lemmas.List.{take-append-drop, take_more, length-replicate}
use Rattle.nr_reduce.specs.declared.call.Call.{Call}
use Rattle.nr_reduce.specs.declared.call.Form.{Form}
use Rattle.nr_reduce.specs.declared.call.Outcome.{Outcome}
use Rattle.nr_reduce.specs.declared.call.Submission.{Submission}
use Rattle.nr_reduce.specs.declared.mark.Mark.{Mark}
use Rattle.nr_reduce.specs.declared.mark.Mark.TheVariants as marks
use Rattle.nr_reduce.specs.History.{executed_at, executed_calls}
use Rattle.nr_reduce.proofs.Placing.{AtEachMark_at}
use Rattle.nr_reduce.specs.NumberedJournal.{tagged_journal}
use Rattle.nr_drill.specs.declared.report.CallState.TheVariants as states
use Rattle.nr_drill.specs.declared.report.CallReport.{CallReport}
use Rattle.nr_drill.specs.declared.call_table.CallTable.{CallTable}
use Rattle.nr_drill.specs.declared.call_table.Execution.{Execution}
use Rattle.nr_drill.specs.declared.draft.Draft.{Draft}
use Rattle.nr_drill.specs.Drill.{Setting, link_of, client_of, is_sent_again, journal_of}
use Rattle.nr_drill.specs.Reports.{submitted_state, number_of, last_place, done_state, with_call_line, reports_after}
use Rattle.nr_drill.specs.private.Drafts.{AreEmpty, AreNumbered, Executed, IsDraft, IsTable, Noted, NotedOf, NumberedMark, Same, Submitted, SubmittedIf, entries_if, entries_so_far, is_again, is_earlier, is_earlier_in, new_at, new_calls, place_on, state_done, submits_of}
use Rattle.nr_drill.proofs.DraftLists.{IsClosed, in_more, get_set_other, get_set_same, reports_one}
use Rattle.nr_drill.proofs.DraftTables.{IsIdle, idle_table, table_at, same, ended, done_agrees, earlier_is, submit_idle, again_table, own_line, other_line, own_place, other_place}

-- ===== a mark more

module _ (s : Setting) (clients : List ℕ) (count : ℕ) (all before after : List Mark) (old new : Draft) (h : IsDraft s clients count all before old) where
  -- the tables after that of one client was changed
  table_after : (l : ℕ) (table changed : CallTable) → 1 ≤ l → slice_get old.tables.items (l - 1) ≡ Some table → new.tables.items ≡ set old.tables.items (l - 1) changed
      → (c : ℕ) (t : CallTable) → 1 ≤ c → slice_get new.tables.items (c - 1) ≡ Some t → ((l ≡ c) × (t ≡ changed)) ⊎ ((l ≢ c) × (slice_get old.tables.items (c - 1) ≡ Some t))
  table_after l table changed above found is c t low at = by (eqb l c) refl (subst (λ (ts : List CallTable). slice_get ts (c - 1) ≡ Some t) is at)
    where
      by : (b : Bool) → eqb l c ≡ b → slice_get (set old.tables.items (l - 1) changed) (c - 1) ≡ Some t → ((l ≡ c) × (t ≡ changed)) ⊎ ((l ≢ c) × (slice_get old.tables.items (c - 1) ≡ Some t))
      by true e at =
          let same : l ≡ c = eqb-true l c e in
          inl (same, get_set_same old.tables.items (l - 1) table changed t found (subst (λ (n : ℕ). slice_get (set old.tables.items (l - 1) changed) (n - 1) ≡ Some t) (sym same) at))
      by false e at =
          let differ : l ≢ c = (λ same. let t = eq-eqb l c same in absurd cc) in
          inr (differ, sym (get_set_other old.tables.items (l - 1) (c - 1) changed (λ same. differ (omega (arith, same, above, low)))) ∙ at)

  -- a call that is sent again
  sent_again : (l : ℕ) (call : Call) (form : Form) (answer : Submission) → NumberedMark s clients count before (marks.Submit l call form answer) → is_sent_again s l answer ≡ true → Same old new →
      IsDraft s clients count all (before ++ marks.Submit l call form answer ∷ []) new
  sent_again l call form answer n again e = record {
    room = ap (λ (ts : List CallTable). length ts) e.tables ∙ h.room;
    calls = e.calls ∙ h.calls ∙ sym (ap (λ (b : Bool). with_call_line b (client_of s l) answer (reports_after s before)) again) ∙ sym (reports_one s before (marks.Submit l call form answer));
    journal = e.journal ∙ h.journal ∙ sym (n.entries ∙ append-nil (entries_so_far s before));
    within = λ j r at. h.within j r (subst (λ (cs : List CallReport). slice_get cs j ≡ Some r) e.calls at);
    tables = λ c low high t at. subst (λ (cs : List CallReport). IsTable s clients all (before ++ marks.Submit l call form answer ∷ []) c cs t) (sym e.calls)
        (table_of c t (h.tables c low high t (subst (λ (ts : List CallTable). slice_get ts (c - 1) ≡ Some t) e.tables at)) (eqb (client_of s l) c) refl);
  }
    where
      table_of : (c : ℕ) (t : CallTable) → IsTable s clients all before c old.calls.items t → (b : Bool) → eqb (client_of s l) c ≡ b → IsTable s clients all (before ++ marks.Submit l call form answer ∷ []) c old.calls.items t
      table_of c t k true own =
          let same : client_of s l ≡ c = eqb-true (client_of s l) c own in
          subst (λ (x : ℕ). IsTable s clients all (before ++ marks.Submit l call form answer ∷ []) x old.calls.items t) same
          (again_table s clients all before l call form answer n.owner old.calls.items t again (subst (λ (x : ℕ). IsTable s clients all before x old.calls.items t) (sym same) k))
      table_of c t k false own =
          idle_table s clients all before c (marks.Submit l call form answer) old.calls.items t
          (submit_idle s c l call form answer (λ same. absurd (let wrong : true ≡ false = sym (eq-eqb (client_of s l) c same) ∙ own in cc))) k

  -- a new one
  submitted : (l : ℕ) (call : Call) (form : Form) (answer : Submission) (table : CallTable) → NumberedMark s clients count before (marks.Submit l call form answer) → is_sent_again s l answer ≡ false
      → slice_get old.tables.items (client_of s l - 1) ≡ Some table → Submitted (client_of s l) answer old new table → IsDraft s clients count all (before ++ marks.Submit l call form answer ∷ []) new
  submitted l call form answer table n fresh found u =
      let c = client_of s l in
      let own = h.tables c n.above n.within table found in
      let number : table.lines + 1 ≡ number_of c (reports_after s before) = own.lines ∙ ap (number_of c) h.calls in
      record {
        room = ap (λ (ts : List CallTable). length ts) u.tables ∙ length-set old.tables.items (c - 1) u.changed ∙ h.room;
        calls = u.calls ∙ (λ i. h.calls i ++ record { client = c; number = number i; state = submitted_state answer } ∷ [])
            ∙ sym (ap (λ (b : Bool). with_call_line b c answer (reports_after s before)) fresh) ∙ sym (reports_one s before (marks.Submit l call form answer));
        journal = u.journal ∙ h.journal ∙ sym (n.entries ∙ append-nil (entries_so_far s before));
        within = λ j q at. clients_in (record { client = c; number = table.lines + 1; state = submitted_state answer }) q j refl (in_more old.calls.items (record { client = c; number = table.lines + 1; state = submitted_state answer }) q j
            (subst (λ (cs : List CallReport). slice_get cs j ≡ Some q) u.calls at));
        tables = λ k low high t at. subst (λ (cs : List CallReport). IsTable s clients all (before ++ marks.Submit l call form answer ∷ []) k cs t) (sym u.calls)
            (table_of own k t high low (table_after c table u.changed n.above found u.tables k t low at));
      }
    where
      clients_in : (r q : CallReport) (j : ℕ) → r.client ≡ client_of s l → (slice_get old.calls.items j ≡ Some q) ⊎ ((j ≡ length old.calls.items) × (q ≡ r)) → (1 ≤ q.client) × (q.client ≤ count)
      clients_in r q j client (inl at) = h.within j q at
      clients_in r q j client (inr is) = subst (λ (n : ℕ). (1 ≤ n) × (n ≤ count)) (sym (ap (λ (x : CallReport). x.client) is.1 ∙ client)) (n.above, n.within)

      table_of : IsTable s clients all before (client_of s l) old.calls.items table → (k : ℕ) (t : CallTable) → k ≤ count → 1 ≤ k
          → ((client_of s l ≡ k) × (t ≡ u.changed)) ⊎ ((client_of s l ≢ k) × (slice_get old.tables.items (k - 1) ≡ Some t))
          → IsTable s clients all (before ++ marks.Submit l call form answer ∷ []) k (old.calls.items ++ record { client = client_of s l; number = table.lines + 1; state = submitted_state answer } ∷ []) t
      table_of own k t high low (inl here) =
          let line : CallReport = record { client = client_of s l; number = table.lines + 1; state = submitted_state answer } in
          let mine = own_line s clients all before l call form answer n.owner old.calls.items line refl refl table u.changed fresh n.xid u.adds own in
          subst (λ (x : ℕ). IsTable s clients all (before ++ marks.Submit l call form answer ∷ []) x (old.calls.items ++ line ∷ []) t) here.0
          (subst (λ (x : CallTable). IsTable s clients all (before ++ marks.Submit l call form answer ∷ []) (client_of s l) (old.calls.items ++ line ∷ []) x) (sym here.1) mine)
      table_of own k t high low (inr there) =
          other_line s clients all before l call form answer n.owner old.calls.items (record { client = client_of s l; number = table.lines + 1; state = submitted_state answer }) refl refl k t there.0 (h.tables k low high t there.1)

  executed : (l xid : ℕ) (moment : Moment) (payload : List ℕ) (place : ℕ) (reply : List ℕ) (table : CallTable) → NumberedMark s clients count before (marks.Execute l xid moment payload place reply)
      → slice_get old.tables.items (client_of s l - 1) ≡ Some table → Executed (client_of s l) l xid place moment payload reply old new table → IsDraft s clients count all (before ++ marks.Execute l xid moment payload place reply ∷ []) new
  executed l xid moment payload place reply table n found u =
      let c = client_of s l in
      let own = h.tables c n.above n.within table found in
      record {
        room = ap (λ (ts : List CallTable). length ts) u.tables ∙ length-set old.tables.items (c - 1) u.changed ∙ h.room;
        calls = u.calls ∙ h.calls ∙ sym (reports_one s before (marks.Execute l xid moment payload place reply));
        journal = u.journal ∙ (λ i. h.journal i ++ entries_if (place == length (h.journal i)) moment payload reply) ∙ sym n.entries;
        within = λ j q at. h.within j q (subst (λ (cs : List CallReport). slice_get cs j ≡ Some q) u.calls at);
        tables = λ k low high t at. subst (λ (cs : List CallReport). IsTable s clients all (before ++ marks.Execute l xid moment payload place reply ∷ []) k cs t) (sym u.calls)
            (table_of own k t high low (table_after c table u.changed n.above found u.tables k t low at));
      }
    where
      table_of : IsTable s clients all before (client_of s l) old.calls.items table → (k : ℕ) (t : CallTable) → k ≤ count → 1 ≤ k
          → ((client_of s l ≡ k) × (t ≡ u.changed)) ⊎ ((client_of s l ≢ k) × (slice_get old.tables.items (k - 1) ≡ Some t))
          → IsTable s clients all (before ++ marks.Execute l xid moment payload place reply ∷ []) k old.calls.items t
      table_of own k t high low (inl here) =
          let mine = own_place s clients all before l xid moment payload place reply old.calls.items table u.changed n.latest u.adds own in
          subst (λ (x : ℕ). IsTable s clients all (before ++ marks.Execute l xid moment payload place reply ∷ []) x old.calls.items t) here.0
          (subst (λ (x : CallTable). IsTable s clients all (before ++ marks.Execute l xid moment payload place reply ∷ []) (client_of s l) old.calls.items x) (sym here.1) mine)
      table_of own k t high low (inr there) = other_place s clients all before l xid moment payload place reply old.calls.items k t there.0 (h.tables k low high t there.1)

-- ===== each mark

done_closed : (s : Setting) (l xid : ℕ) (outcome : Outcome) (before : List Mark) → IsClosed (done_state s l xid outcome before)
unfolding done_state
done_closed s l xid outcome before x = refl

-- a mark that neither submits nor executes a call
quiet_idle : {s : Setting} {c : ℕ} {mark : Mark} → new_at s c mark ≡ [] → ((link : ℕ) → executed_at link mark ≡ []) → IsIdle s c mark
quiet_idle none idle = record { accepts = none; executes = λ link own. idle link }

-- whether a draft says that a call is sent again
told_again : (client : ℕ) (answer : Submission) (d : Draft) (t : CallTable) → slice_get d.tables.items (client - 1) ≡ Some t → is_again client answer d ≡ is_earlier answer (length t.reports.items)
unfolding is_again
told_again client answer d t found = ap (is_earlier_in answer) found

-- what a mark of its own client makes of a draft
own_step : (s : Setting) (clients : List ℕ) (count : ℕ) (all before after : List Mark) (mark : Mark) (old new : Draft) → all ≡ before ++ mark ∷ after → NumberedMark s clients count before mark → NotedOf (client_of s (link_of mark)) mark old new
    → IsDraft s clients count all before old → IsDraft s clients count all (before ++ mark ∷ []) new
own_step s clients count all before after (marks.Submit l call form answer) old new is n noted h = by (is_sent_again s l answer) refl (subst (λ (b : Bool). SubmittedIf b (client_of s l) answer old new) told noted)
  where
    found : (t : CallTable) × (slice_get old.tables.items (client_of s l - 1) ≡ Some t)
    found = table_at s clients count all before after (marks.Submit l call form answer) is old new h (client_of s l) n.above n.within

    told : is_again (client_of s l) answer old ≡ is_sent_again s l answer
    told = told_again (client_of s l) answer old found.0 found.1 ∙ earlier_is s before l call form answer (length found.0.reports.items) n.xid (h.tables (client_of s l) n.above n.within found.0 found.1).accepted

    by : (b : Bool) → is_sent_again s l answer ≡ b → SubmittedIf (is_sent_again s l answer) (client_of s l) answer old new → IsDraft s clients count all (before ++ marks.Submit l call form answer ∷ []) new
    by true again u = sent_again s clients count all before after old new h l call form answer n again (subst (λ (b : Bool). SubmittedIf b (client_of s l) answer old new) again u)
    by false fresh u =
        submitted s clients count all before after old new h l call form answer found.0 n fresh found.1
        (subst (λ (o : Option CallTable). MatchOption o (Unit {0}) (Submitted (client_of s l) answer old new)) found.1 (subst (λ (b : Bool). SubmittedIf b (client_of s l) answer old new) fresh u))
own_step s clients count all before after (marks.Execute l xid moment payload place reply) old new is n noted h =
    let found = table_at s clients count all before after (marks.Execute l xid moment payload place reply) is old new h (client_of s l) n.above n.within in
    executed s clients count all before after old new h l xid moment payload place reply found.0 n found.1
    (subst (λ (o : Option CallTable). MatchOption o (Unit {0}) (Executed (client_of s l) l xid place moment payload reply old new)) found.1 noted)
own_step s clients count all before after (marks.Done l xid outcome) old new is n noted h =
    ended s clients count all before after (marks.Done l xid outcome) is old new h n (client_of s l) xid (state_done (client_of s l) l xid outcome old) (done_state s l xid outcome before) n.above n.within
    (done_closed s l xid outcome before) (λ k. quiet_idle refl (λ link. refl)) refl refl
    (λ j r at own opened. done_agrees s clients count all before after (marks.Done l xid outcome) is old new h (client_of s l) l xid j outcome r n.above n.within refl n.latest at own opened) noted
own_step s clients count all before after (marks.Lost l xid) old new is n noted h =
    ended s clients count all before after (marks.Lost l xid) is old new h n (client_of s l) xid states.Lost states.Lost n.above n.within (λ x. refl) (λ k. quiet_idle refl (λ link. refl)) refl refl (λ j r at own opened. refl) noted
own_step s clients count all before after (marks.Forget l xid) old new is n noted h =
    ended s clients count all before after (marks.Forget l xid) is old new h n (client_of s l) xid states.Forgotten states.Forgotten n.above n.within (λ x. refl) (λ k. quiet_idle refl (λ link. refl)) refl refl (λ j r at own opened. refl) noted
own_step s clients count all before after (marks.Revoke l xid bytes) old new is n noted h =
    ended s clients count all before after (marks.Revoke l xid bytes) is old new h n (client_of s l) xid (states.Revoked bytes) (states.Revoked bytes) n.above n.within (λ x. refl) (λ k. quiet_idle refl (λ link. refl)) refl refl (λ j r at own opened. refl) noted
own_step s clients count all before after (marks.Wrote l side bytes) old new is n noted h =
    same s clients count all before after (marks.Wrote l side bytes) is old new h n (λ k. quiet_idle refl (λ link. refl)) refl refl noted
own_step s clients count all before after (marks.Fed l side bytes) old new is n noted h =
    same s clients count all before after (marks.Fed l side bytes) is old new h n (λ k. quiet_idle refl (λ link. refl)) refl refl noted
own_step s clients count all before after (marks.Drop l) old new is n noted h =
    same s clients count all before after (marks.Drop l) is old new h n (λ k. quiet_idle refl (λ link. refl)) refl refl noted
own_step s clients count all before after (marks.Told l what) old new is n noted h =
    same s clients count all before after (marks.Told l what) is old new h n (λ k. quiet_idle refl (λ link. refl)) refl refl noted

pub step : (s : Setting) (clients : List ℕ) (count : ℕ) (all before after : List Mark) (mark : Mark) (old new : Draft) → all ≡ before ++ mark ∷ after → NumberedMark s clients count before mark → Noted clients mark old new
    → IsDraft s clients count all before old → IsDraft s clients count all (before ++ mark ∷ []) new
step s clients count all before after mark old new is n noted h = own_step s clients count all before after mark old new is n (subst (λ (c : ℕ). NotedOf c mark old new) n.owner noted) h

-- each mark of a run
numbered_at : (s : Setting) (clients : List ℕ) (count : ℕ) (before after : List Mark) (mark : Mark) → AreNumbered s clients count (before ++ mark ∷ after) → NumberedMark s clients count before mark
numbered_at s clients count before after mark h = AtEachMark_at (NumberedMark s clients count) [] before mark after h

pub next : (s : Setting) (clients : List ℕ) (count i : ℕ) (all : List Mark) (mark : Mark) (old new : Draft) → i < length all → mark ≡ get_or all i mark → AreNumbered s clients count all → Noted clients mark old new →
    IsDraft s clients count all (take i all) old → IsDraft s clients count all (take (i + 1) all) new
next s clients count i all mark old new lt at numbered noted h =
    let split : all ≡ take i all ++ mark ∷ drop (suc i) all =
    sym (take-append-drop i all) ∙ ap (λ (r : List Mark). take i all ++ r) (drop-cons all i mark lt ∙ ap (λ (m : Mark). m ∷ drop (suc i) all) (sym at)) in
    let more : take (i + 1) all ≡ take i all ++ mark ∷ [] = take_more all i mark lt ∙ ap (λ (m : Mark). take i all ++ m ∷ []) (sym at) in
    subst (λ (r : List Mark). IsDraft s clients count all r new) (sym more)
    (step s clients count all (take i all) (drop (suc i) all) mark old new split (numbered_at s clients count (take i all) (drop (suc i) all) mark (subst (AreNumbered s clients count) split numbered)) noted h)

-- ===== before the first mark

pub empty : (s : Setting) (clients : List ℕ) (count : ℕ) (all : List Mark) (d : Draft) → AreEmpty clients count all d.tables.items → d.calls.items ≡ [] → d.journal.items ≡ [] → IsDraft s clients count all [] d
unfolding reports_after new_calls last_place executed_calls journal_of tagged_journal
empty s clients count all d tables calls entries = record {
  room = tables.room;
  calls = calls;
  journal = entries;
  within = λ j r at. absurd (none_at j r (subst (λ (cs : List CallReport). slice_get cs j ≡ Some r) calls at));
  tables = λ client low high t at.
      (let e = tables.each client low high t at in record {
        lines = ap (λ (n : ℕ). n + 1) e.0 ∙ ap (number_of client) (sym calls);
        accepted = ap (λ (xs : List ℕ). length xs) e.1;
        few = subst (λ (xs : List ℕ). length xs ≤ submits_of clients client []) (sym e.1) (omega arith);
        open_at = λ j xid r here own opened. absurd (none_at j r (subst (λ (cs : List CallReport). slice_get cs j ≡ Some r) calls here));
        places = λ xid above within link own latest. ap (λ (ps : List (Option Execution)). place_on link (slice_index_or ps (xid - 1) None)) e.2 ∙ ap (place_on link) (none_of (submits_of clients client all) (xid - 1));
        room = ap (λ (ps : List (Option Execution)). length ps) e.2 ∙ length-replicate (submits_of clients client all) None;
      });
}
  where
    none_at : (j : ℕ) (r : CallReport) → slice_get [] j ≡ Some r → ⊥
    none_at j r e = absurd cc

    none_of : (n i : ℕ) → ◌≡◌ {A = Option Execution} (get_or (replicate n None) i None) None
    none_of zero i = refl
    none_of (suc n) zero = refl
    none_of (suc n) (suc i) = none_of n i
