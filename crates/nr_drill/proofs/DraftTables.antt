-- What a mark says of calls stands in the table of the calls' client.
use Rattle.std.proofs.Common.{◌≡◌, ◌≢◌, ℕ, zero, suc, ◌+◌, ◌-◌, ◌<◌, ◌≤◌, arith, Bool, true, false, cond, eqb, eqb-true, eq-eqb, ◌&&◌, List, [], ◌∷◌, ◌++◌, length, map, get_or, set, Option, None, Some, ◌⊎◌, inl, inr, refl, sym, ap, subst, ◌∙◌, append-nil, length-append}
use Rattle.std.specs.Prelude.{slice_get, slice_index_or, fold, nat_le, not, if◌then◌else◌}
use Rattle.std.proofs.lemmas.List.Sums.{sum_by-append, sum_by-cons}
use Rattle.std.proofs.lemmas.List.{get_or-set_same, get_or-set_other, length-set}
use Rattle.std.proofs.lemmas.Option.{slice_get_within}
use Rattle.std.proofs.lemmas.Bool.{le-leb, lt-leb}
use Rattle.nr_outside.specs.declared.moment.Moment.{Moment}
use Rattle.nr_reduce.specs.declared.call.Call.{Call}
use Rattle.nr_reduce.specs.declared.call.Form.{Form}
use Rattle.nr_reduce.specs.declared.call.Outcome.{Outcome}
use Rattle.nr_reduce.specs.declared.call.Submission.{Submission}
use Rattle.nr_reduce.specs.declared.call.Submission.TheVariants as submissions
use Rattle.nr_reduce.specs.declared.mark.Entry.{Entry}
use Rattle.nr_reduce.specs.declared.mark.Mark.{Mark}
use Rattle.nr_reduce.specs.declared.mark.Mark.TheVariants as marks
use Rattle.nr_reduce.specs.History.{ExecutedCall, executed_at, executed_calls}
use Rattle.nr_drill.specs.declared.report.CallState.{CallState}
use Rattle.nr_drill.specs.declared.report.CallState.TheVariants as states
use Rattle.nr_drill.specs.declared.report.CallReport.{CallReport}
use Rattle.nr_drill.specs.declared.call_table.CallTable.{CallTable}
use Rattle.nr_drill.specs.declared.call_table.Execution.{Execution}
use Rattle.nr_drill.specs.declared.draft.Draft.{Draft}
use Rattle.nr_drill.specs.Drill.{Setting, client_of, is_sent_again, journal_of}
use Rattle.nr_drill.proofs.BegunOrder.{le_or}
use Rattle.nr_drill.proofs.Journals.{length_alone}
use Rattle.nr_drill.specs.Reports.{submitted_state, becomes, place_shown, place_if, is_open_as, number_of, last_place, done_state, reports_with, reports_after}
use Rattle.nr_drill.specs.private.Drafts.{AddsLine, AddsPlace, Ended, HasNextXid, IsDraft, IsLatest, IsNumbered, IsTable, NumberedMark, Same, client_in, entries_given, entries_so_far, in_table, index_of, index_of_answer, is_earlier, is_submit_of, new_at, new_calls, place_of, place_on, state_done, submits_of, with_place}
use Rattle.nr_drill.proofs.DraftLists.{in_more, get_last, in_map, reports_one, new_one, executed_one, last_one, none_last, back_empty, latest_before, becomes_client, IsClosed, becomes_open, count_becomes, ends_are}

-- ===== tables

-- a mark with which a client accepts no new call, and executes none
pub record IsIdle (s : Setting) (client : ℕ) (mark : Mark) : Type 0 where
  pub accepts : new_at s client mark ≡ []
  pub executes : (link : ℕ) → client_of s link ≡ client → executed_at link mark ≡ []

submits_more : (clients : List ℕ) (client : ℕ) (run : List Mark) (mark : Mark) → submits_of clients client (run ++ mark ∷ []) ≡ submits_of clients client run + cond (is_submit_of clients client mark) 1 0
submits_more clients client run mark =
    let f : Mark → ℕ = λ (m : Mark). cond (is_submit_of clients client m) 1 0 in
    let sum = sum_by-append f run (mark ∷ []) in
    let one = sum_by-cons f mark [] in
    omega (arith, sum, one)

module _ (s : Setting) (clients : List ℕ) (all before : List Mark) (client : ℕ) (mark : Mark) where
  idle_new : new_at s client mark ≡ [] → length (new_calls s client (before ++ mark ∷ [])) ≡ length (new_calls s client before)
  idle_new none = ap (λ (xs : List ℕ). length xs) (new_one s client before mark ∙ ap (λ (xs : List ℕ). new_calls s client before ++ xs) none ∙ append-nil (new_calls s client before))

  idle_last : (link xid : ℕ) → executed_at link mark ≡ [] → last_place link xid (before ++ mark ∷ []) ≡ last_place link xid before
  idle_last link xid none = last_one link xid before mark ∙ ap (λ (es : List ExecutedCall). fold (place_if xid) (last_place link xid before) es) none

  more_submits : (n : ℕ) → n ≤ submits_of clients client before → n ≤ submits_of clients client (before ++ mark ∷ [])
  more_submits n le = (let more = submits_more clients client before mark in omega (arith, le, more))

  -- a table after a mark that is idle on its client's links
  pub idle_table : (calls : List CallReport) (t : CallTable) → IsIdle s client mark → IsTable s clients all before client calls t → IsTable s clients all (before ++ mark ∷ []) client calls t
  idle_table calls t idle h = record {
    lines = h.lines;
    accepted = h.accepted ∙ sym (idle_new idle.accepts);
    few = more_submits (length t.reports.items) h.few;
    open_at = h.open_at;
    places = λ xid low high link own latest. h.places xid low high link own (latest_before s link before mark latest) ∙ sym (idle_last link xid (idle.executes link own));
    room = h.room;
  }

-- ===== drafts

get_some : {X : Type 0} (xs : List X) (i : ℕ) → i < length xs → (x : X) × (slice_get xs i ≡ Some x)
get_some [] i lt = absurd (omega (arith, lt))
get_some (x ∷ xs) zero lt = (x, refl)
get_some (x ∷ xs) (suc i) lt = get_some xs i (omega (arith, lt))

get_more : {X : Type 0} (xs ys : List X) (z : X) (j : ℕ) → slice_get xs j ≡ Some z → slice_get (xs ++ ys) j ≡ Some z
get_more [] ys z j e = absurd cc
get_more (x ∷ xs) ys z zero e = e
get_more (x ∷ xs) ys z (suc j) e = get_more xs ys z j e

ended_table : (s : Setting) (clients : List ℕ) (all before : List Mark) (client own xid : ℕ) (state : CallState) (mark : Mark) (calls : List CallReport) (t : CallTable) → IsClosed state → IsIdle s client mark
    → IsTable s clients all before client calls t → IsTable s clients all (before ++ mark ∷ []) client (map (becomes own xid state) calls) t
ended_table s clients all before client own xid state mark calls t closed idle h =
    let k = idle_table s clients all before client mark calls t idle h in record {
      lines = h.lines ∙ sym (count_becomes own xid state client calls);
      accepted = k.accepted;
      few = k.few;
      open_at = λ j x r at owner is.
          (let found = in_map (becomes own xid state) calls j r at in
          h.open_at j x found.0 found.1 (sym (becomes_client own xid state found.0) ∙ ap (λ (q : CallReport). q.client) found.2 ∙ owner)
          (becomes_open own xid state found.0 x closed (ap (λ (q : CallReport). is_open_as x q.state) found.2 ∙ is)));
      places = k.places;
      room = k.room;
    }

module _ (s : Setting) (clients : List ℕ) (count : ℕ) (all before after : List Mark) (mark : Mark) (is : all ≡ before ++ mark ∷ after) (old new : Draft) (h : IsDraft s clients count all before old) where
  pub table_at : (client : ℕ) → 1 ≤ client → client ≤ count → (t : CallTable) × (slice_get old.tables.items (client - 1) ≡ Some t)
  table_at client low high = get_some old.tables.items (client - 1) (let e = h.room in omega (arith, e, low, high))

  -- the index of an open call's report
  indexed : (client xid j : ℕ) (r : CallReport) → 1 ≤ client → client ≤ count → slice_get old.calls.items j ≡ Some r → r.client ≡ client → is_open_as xid r.state ≡ true → index_of client xid old ≡ Some j
  unfolding index_of
  indexed client xid j r low high at own opened =
      let found = table_at client low high in
      ap (in_table (λ (t : CallTable). slice_get t.reports.items (xid - 1))) found.1 ∙ ((h.tables client low high found.0 found.1).open_at j xid r at own opened).1

  -- the place of an open call's last execution on a link
  placed : (client link xid j : ℕ) (r : CallReport) → 1 ≤ client → client ≤ count → client_of s link ≡ client → IsLatest s link before → slice_get old.calls.items j ≡ Some r → r.client ≡ client → is_open_as xid r.state ≡ true →
      place_of client link xid old ≡ last_place link xid before
  unfolding place_of
  placed client link xid j r low high owner latest at own opened =
      let found = table_at client low high in
      let t = h.tables client low high found.0 found.1 in
      let here = t.open_at j xid r at own opened in
      let within = slice_get_within found.0.reports.items (xid - 1) j here.1 in
      let few = t.few in
      let more = all_submits client in
      ap (in_table (λ (t : CallTable). place_on link (slice_index_or t.places.items (xid - 1) None))) found.1 ∙ t.places xid here.0 (omega (arith, within, few, more)) link owner latest
    where
      all_submits : (client : ℕ) → submits_of clients client before ≤ submits_of clients client all
      all_submits client =
          let sum = sum_by-append (λ (m : Mark). cond (is_submit_of clients client m) 1 0) before (mark ∷ after) in
          let same = ap (submits_of clients client) is in
          omega (arith, sum, same)

  no_entry : NumberedMark s clients count before mark → entries_given (length (entries_so_far s before)) mark ≡ [] → entries_so_far s (before ++ mark ∷ []) ≡ entries_so_far s before
  no_entry n none = n.entries ∙ ap (λ (es : List Entry). entries_so_far s before ++ es) none ∙ append-nil (entries_so_far s before)

  pub same : NumberedMark s clients count before mark → ((client : ℕ) → IsIdle s client mark) → entries_given (length (entries_so_far s before)) mark ≡ [] → reports_with s before mark (reports_after s before) ≡ reports_after s before → Same old new →
      IsDraft s clients count all (before ++ mark ∷ []) new
  same n idle none reports e = record {
    room = ap (λ (ts : List CallTable). length ts) e.tables ∙ h.room;
    calls = e.calls ∙ h.calls ∙ sym reports ∙ sym (reports_one s before mark);
    journal = e.journal ∙ h.journal ∙ sym (no_entry n none);
    within = λ j r at. h.within j r (subst (λ (cs : List CallReport). slice_get cs j ≡ Some r) e.calls at);
    tables = λ client low high t at. subst (λ (cs : List CallReport). IsTable s clients all (before ++ mark ∷ []) client cs t) (sym e.calls)
        (idle_table s clients all before client mark old.calls.items t (idle client) (h.tables client low high t (subst (λ (ts : List CallTable). slice_get ts (client - 1) ≡ Some t) e.tables at)));
  }

  pub ended : NumberedMark s clients count before mark → (client xid : ℕ) (state def : CallState) → 1 ≤ client → client ≤ count → IsClosed def → ((c : ℕ) → IsIdle s c mark) → entries_given (length (entries_so_far s before)) mark ≡ []
      → reports_with s before mark (reports_after s before) ≡ map (becomes client xid def) (reports_after s before)
      → ((j : ℕ) (r : CallReport) → slice_get old.calls.items j ≡ Some r → r.client ≡ client → is_open_as xid r.state ≡ true → state ≡ def)
      → Ended client xid state old new → IsDraft s clients count all (before ++ mark ∷ []) new
  ended n client xid state def low high closed idle none reports agree e =
      let calls : new.calls.items ≡ map (becomes client xid def) old.calls.items = ends_are client xid state def old.calls.items new.calls.items (index_of client xid old) e.calls
      (λ j r at own opened. (indexed client xid j r low high at own opened, agree j r at own opened)) in
      record {
        room = ap (λ (ts : List CallTable). length ts) e.tables ∙ h.room;
        calls = calls ∙ ap (map (becomes client xid def)) h.calls ∙ sym reports ∙ sym (reports_one s before mark);
        journal = e.journal ∙ h.journal ∙ sym (no_entry n none);
        within = λ j r at.
            (let found = in_map (becomes client xid def) old.calls.items j r (subst (λ (cs : List CallReport). slice_get cs j ≡ Some r) calls at) in
            let same_client : found.0.client ≡ r.client = sym (becomes_client client xid def found.0) ∙ ap (λ (q : CallReport). q.client) found.2 in
            subst (λ (n : ℕ). (1 ≤ n) × (n ≤ count)) same_client (h.within j found.0 found.1));
        tables = λ c c_low c_high t at. subst (λ (cs : List CallReport). IsTable s clients all (before ++ mark ∷ []) c cs t) (sym calls)
            (ended_table s clients all before c client xid def mark old.calls.items t closed (idle c) (h.tables c c_low c_high t (subst (λ (ts : List CallTable). slice_get ts (c - 1) ≡ Some t) e.tables at)));
      }

  pub done_agrees : (client link xid j : ℕ) (outcome : Outcome) (r : CallReport) → 1 ≤ client → client ≤ count → client_of s link ≡ client → IsLatest s link before → slice_get old.calls.items j ≡ Some r → r.client ≡ client → is_open_as xid r.state ≡ true
      → state_done client link xid outcome old ≡ done_state s link xid outcome before
  unfolding state_done done_state
  done_agrees client link xid j outcome r low high owner latest at own opened =
      let place = placed client link xid j r low high owner latest at own opened in
      let entries : length old.journal.items ≡ length (journal_of s before) = ap (λ (es : List Entry). length es) h.journal ∙ length_alone (journal_of s before) in
      λ i. states.Done (place_shown (entries i) (place i) outcome) outcome

-- ===== a call line more

number_more : (own : ℕ) (calls : List CallReport) (r : CallReport) → eqb r.client own ≡ true → number_of own (calls ++ r ∷ []) ≡ number_of own calls + 1
number_more own calls r e =
    let sum = sum_by-append (λ (x : CallReport). cond (eqb x.client own) 1 0) calls (r ∷ []) in
    let one : ◌≡◌ {A = ℕ} (cond (eqb r.client own) 1 0) 1 = ap (λ (b : Bool). cond b 1 0) e in
    omega (arith, sum, one)

number_kept : (own : ℕ) (calls : List CallReport) (r : CallReport) → eqb r.client own ≡ false → number_of own (calls ++ r ∷ []) ≡ number_of own calls
number_kept own calls r e =
    let sum = sum_by-append (λ (x : CallReport). cond (eqb x.client own) 1 0) calls (r ∷ []) in
    let one : ◌≡◌ {A = ℕ} (cond (eqb r.client own) 1 0) 0 = ap (λ (b : Bool). cond b 1 0) e in
    omega (arith, sum, one)

positive : (n : ℕ) → eqb n 0 ≡ false → 1 ≤ n
positive zero e = absurd cc
positive (suc n) e = omega arith

pub itself : (l : ℕ) → eqb l l ≡ true
itself l = eq-eqb l l refl

apart : (l link : ℕ) → l ≢ link → eqb l link ≡ false
apart l link ne = by (eqb l link) refl
  where
    by : (b : Bool) → eqb l link ≡ b → eqb l link ≡ false
    by true e = absurd (ne (eqb-true l link e))
    by false e = e

-- what is said of a submitted call is open under the accepted xid alone
open_answer : (xid : ℕ) (answer : Submission) → is_open_as xid (submitted_state answer) ≡ true → answer ≡ submissions.Accepted xid
open_answer xid (submissions.Accepted own) e = ap submissions.Accepted (eqb-true own xid e)
open_answer xid (submissions.Refused why) e = absurd cc
open_answer xid submissions.Dropped e = absurd cc

-- ===== whether a call is sent again

earlier_by : (again : Bool) (xid count : ℕ) → IsNumbered again xid count → nat_le xid count ≡ again
earlier_by true xid count is = le-leb xid count is
earlier_by false xid count is = lt-leb xid count (omega (arith, is))

-- a draft tells which calls are sent again
pub earlier_is : (s : Setting) (before : List Mark) (l : ℕ) (call : Call) (form : Form) (answer : Submission) (count : ℕ) → HasNextXid s before (marks.Submit l call form answer) → count ≡ length (new_calls s (client_of s l) before) →
    is_earlier answer count ≡ is_sent_again s l answer
earlier_is s before l call form (submissions.Accepted xid) count next is =
    ap (λ (n : ℕ). nat_le xid n) is ∙ earlier_by (is_sent_again s l (submissions.Accepted xid)) xid (length (new_calls s (client_of s l) before)) next
earlier_is s before l call form (submissions.Refused why) count next is = refl
earlier_is s before l call form submissions.Dropped count next is = refl

-- what a mark adds to the new calls of its own client
abbrev new_len : Bool → Submission → ℕ
new_len true answer = 0
new_len false answer = length (index_of_answer 0 answer)

new_if : (s : Setting) (l : ℕ) (call : Call) (form : Form) (answer : Submission) (again : Bool) → is_sent_again s l answer ≡ again → length (new_at s (client_of s l) (marks.Submit l call form answer)) ≡ new_len again answer
new_if s l call form (submissions.Accepted xid) again is = (λ i. length (if itself (client_of s l) i && not (is i) then xid ∷ [] else [])) ∙ by again
  where
    by : (b : Bool) → length (if true && not b then xid ∷ [] else []) ≡ new_len b (submissions.Accepted xid)
    by true = refl
    by false = refl
new_if s l call form (submissions.Refused why) again is = by again
  where
    by : (b : Bool) → ◌≡◌ {A = ℕ} 0 (new_len b (submissions.Refused why))
    by true = refl
    by false = refl
new_if s l call form submissions.Dropped again is = by again
  where
    by : (b : Bool) → ◌≡◌ {A = ℕ} 0 (new_len b submissions.Dropped)
    by true = refl
    by false = refl

answer_len : (at other : ℕ) (answer : Submission) → length (index_of_answer at answer) ≡ length (index_of_answer other answer)
answer_len at other (submissions.Accepted xid) = refl
answer_len at other (submissions.Refused why) = refl
answer_len at other submissions.Dropped = refl

answer_few : (at : ℕ) (answer : Submission) → length (index_of_answer at answer) ≤ 1
answer_few at (submissions.Accepted xid) = omega arith
answer_few at (submissions.Refused why) = omega arith
answer_few at submissions.Dropped = omega arith

-- the xid of a new call is the next one
next_is : (s : Setting) (before : List Mark) (l : ℕ) (call : Call) (form : Form) (answer : Submission) (xid : ℕ) → HasNextXid s before (marks.Submit l call form answer) → is_sent_again s l answer ≡ false → answer ≡ submissions.Accepted xid →
    xid ≡ length (new_calls s (client_of s l) before) + 1
next_is s before l call form (submissions.Accepted own) xid next new e =
    let same : own ≡ xid = cc in
    let count = length (new_calls s (client_of s l) before) in
    subst (λ (n : ℕ). n ≡ count + 1) same (subst (λ (b : Bool). IsNumbered b own count) new next)
next_is s before l call form (submissions.Refused why) xid next new e = absurd cc
next_is s before l call form submissions.Dropped xid next new e = absurd cc

-- a mark of another client
other_new : (s : Setting) (c l : ℕ) (call : Call) (form : Form) (answer : Submission) → client_of s l ≢ c → new_at s c (marks.Submit l call form answer) ≡ []
other_new s c l call form (submissions.Accepted xid) ne = ap (λ (b : Bool). if b && not (is_sent_again s l (submissions.Accepted xid)) then xid ∷ [] else []) (apart (client_of s l) c ne)
other_new s c l call form (submissions.Refused why) ne = refl
other_new s c l call form submissions.Dropped ne = refl

pub submit_idle : (s : Setting) (c l : ℕ) (call : Call) (form : Form) (answer : Submission) → client_of s l ≢ c → IsIdle s c (marks.Submit l call form answer)
submit_idle s c l call form answer ne = record {
  accepts = other_new s c l call form answer ne;
  executes = λ link own. refl;
}

module _ (s : Setting) (clients : List ℕ) (all before : List Mark) (l : ℕ) (call : Call) (form : Form) (answer : Submission) (owner : client_in clients l ≡ client_of s l) where
  abbrev own : ℕ
  own = client_of s l

  abbrev mark : Mark
  mark = marks.Submit l call form answer

  one_submit : submits_of clients own (before ++ mark ∷ []) ≡ submits_of clients own before + 1
  one_submit =
      let more = submits_more clients own before mark in
      let one : ◌≡◌ {A = ℕ} (cond (eqb (client_in clients l) own) 1 0) 1 = ap (λ (n : ℕ). cond (eqb n own) 1 0) owner ∙ ap (λ (b : Bool). cond b 1 0) (itself own) in
      omega (arith, more, one)

  new_count : (again : Bool) → is_sent_again s l answer ≡ again → length (new_calls s own (before ++ mark ∷ [])) ≡ length (new_calls s own before) + new_len again answer
  new_count again is =
      ap (λ (xs : List ℕ). length xs) (new_one s own before mark) ∙ length-append (new_calls s own before) (new_at s own mark)
      ∙ ap (λ (n : ℕ). length (new_calls s own before) + n) (new_if s l call form answer again is)

  -- of a call that is sent again, the table of its client stays
  pub again_table : (calls : List CallReport) (t : CallTable) → is_sent_again s l answer ≡ true → IsTable s clients all before own calls t → IsTable s clients all (before ++ mark ∷ []) own calls t
  again_table calls t again h = record {
    lines = h.lines;
    accepted = (let count = new_count true again in let old = h.accepted in omega (arith, count, old));
    few = more_submits s clients all before own mark (length t.reports.items) h.few;
    open_at = h.open_at;
    places = λ xid low high link mine latest. h.places xid low high link mine (latest_before s link before mark latest) ∙ sym (idle_last s clients all before own mark link xid refl);
    room = h.room;
  }

  module _ (calls : List CallReport) (r : CallReport) (client : r.client ≡ own) (state : r.state ≡ submitted_state answer) where
    -- the table of the call's own client
    pub own_line : (t changed : CallTable) → is_sent_again s l answer ≡ false → HasNextXid s before mark → AddsLine (length calls) answer t changed → IsTable s clients all before own calls t
        → IsTable s clients all (before ++ mark ∷ []) own (calls ++ r ∷ []) changed
    own_line t changed new next adds h = record {
      lines = ap (λ (n : ℕ). n + 1) (adds.lines ∙ h.lines) ∙ sym (number_more own calls r (ap (λ (n : ℕ). eqb n own) client ∙ itself own));
      accepted = (let count = new_count false new in let more = reports_len in let old = h.accepted in omega (arith, count, more, old));
      few = (let more = reports_len in let some = answer_few 0 answer in let old = h.few in let one = one_submit in omega (arith, more, some, old, one));
      open_at = λ j xid q at mine opened. opens j xid q mine opened (in_more calls r q j at);
      places = λ xid low high link mine latest. ap (λ (ps : List (Option Execution)). place_on link (slice_index_or ps (xid - 1) None)) adds.places
          ∙ h.places xid low high link mine (latest_before s link before mark latest) ∙ sym (idle_last s clients all before own mark link xid refl);
      room = ap (λ (ps : List (Option Execution)). length ps) adds.places ∙ h.room;
    }
      where
        reports_len : length changed.reports.items ≡ length t.reports.items + length (index_of_answer 0 answer)
        reports_len = ap (λ (xs : List ℕ). length xs) adds.reports ∙ length-append t.reports.items (index_of_answer (length calls) answer) ∙ ap (λ (n : ℕ). length t.reports.items + n) (answer_len (length calls) 0 answer)

        opens : (j xid : ℕ) (q : CallReport) → q.client ≡ own → is_open_as xid q.state ≡ true → (slice_get calls j ≡ Some q) ⊎ ((j ≡ length calls) × (q ≡ r)) → (1 ≤ xid) × (slice_get changed.reports.items (xid - 1) ≡ Some j)
        opens j xid q mine opened (inl at) =
            let old = h.open_at j xid q at mine opened in
            (old.0, subst (λ (xs : List ℕ). slice_get xs (xid - 1) ≡ Some j) (sym adds.reports) (get_more t.reports.items (index_of_answer (length calls) answer) j (xid - 1) old.1))
        opens j xid q mine opened (inr line) =
            let is : answer ≡ submissions.Accepted xid = open_answer xid answer (sym (ap (is_open_as xid) (ap (λ (x : CallReport). x.state) line.1 ∙ state)) ∙ opened) in
            let number : xid ≡ length (new_calls s own before) + 1 = next_is s before l call form answer xid next new is in
            let place : xid - 1 ≡ length t.reports.items = (let count = h.accepted in omega (arith, number, count)) in
            let reports : changed.reports.items ≡ t.reports.items ++ length calls ∷ [] = adds.reports ∙ ap (λ (a : Submission). t.reports.items ++ index_of_answer (length calls) a) is in (
              omega (arith, number),
              (λ i. slice_get (reports i) (place i)) ∙ get_last t.reports.items (length calls) ∙ ap Some (sym line.0),
            )

    -- the table of another client
    pub other_line : (c : ℕ) (t : CallTable) → own ≢ c → IsTable s clients all before c calls t → IsTable s clients all (before ++ mark ∷ []) c (calls ++ r ∷ []) t
    other_line c t ne h =
        let k = idle_table s clients all before c mark calls t (submit_idle s c l call form answer ne) h in
        record {
          lines = h.lines ∙ sym (number_kept c calls r (ap (λ (n : ℕ). eqb n c) client ∙ apart own c ne));
          accepted = k.accepted;
          few = k.few;
          open_at = λ j xid q at mine opened. opens j xid q mine opened (in_more calls r q j at);
          places = k.places;
          room = k.room;
        }
      where
        opens : (j xid : ℕ) (q : CallReport) → q.client ≡ c → is_open_as xid q.state ≡ true → (slice_get calls j ≡ Some q) ⊎ ((j ≡ length calls) × (q ≡ r)) → (1 ≤ xid) × (slice_get t.reports.items (xid - 1) ≡ Some j)
        opens j xid q mine opened (inl at) = h.open_at j xid q at mine opened
        opens j xid q mine opened (inr line) = absurd (ne (sym client ∙ sym (ap (λ (x : CallReport). x.client) line.1) ∙ mine))

-- ===== an execution more

module _ (s : Setting) (clients : List ℕ) (all before : List Mark) (l xid : ℕ) (moment : Moment) (payload : List ℕ) (place : ℕ) (reply : List ℕ) (calls : List CallReport) where
  abbrev executed_mark : Mark
  executed_mark = marks.Execute l xid moment payload place reply

  abbrev own_call : ExecutedCall
  own_call = record { xid = xid; moment = moment; payload = payload; place = place; reply = reply }

  executes_own : executed_at l executed_mark ≡ own_call ∷ []
  executes_own = ap (λ (b : Bool). cond b (record { xid = xid; moment = moment; payload = payload; place = place; reply = reply } ∷ []) []) (itself l)

  executes_none : (link : ℕ) → l ≢ link → executed_at link executed_mark ≡ []
  executes_none link ne = ap (λ (b : Bool). cond b (record { xid = xid; moment = moment; payload = payload; place = place; reply = reply } ∷ []) []) (apart l link ne)

  pub own_place : (t changed : CallTable) → IsLatest s l before → AddsPlace xid (record { link = l; place = place }) t changed → IsTable s clients all before (client_of s l) calls t →
      IsTable s clients all (before ++ executed_mark ∷ []) (client_of s l) calls changed
  own_place t changed newest adds h = record {
    lines = ap (λ (n : ℕ). n + 1) adds.lines ∙ h.lines;
    accepted = ap (λ (xs : List ℕ). length xs) adds.reports ∙ h.accepted ∙ sym (idle_new s clients all before (client_of s l) executed_mark refl);
    few = more_submits s clients all before (client_of s l) executed_mark (length changed.reports.items) (subst (λ (xs : List ℕ). length xs ≤ submits_of clients (client_of s l) before) (sym adds.reports) h.few);
    open_at = λ j x r at mine opened.
        (let old = h.open_at j x r at mine opened in (old.0, subst (λ (xs : List ℕ). slice_get xs (x - 1) ≡ Some j) (sym adds.reports) old.1));
    places = λ x low high link mine latest.
        ap (λ (ps : List (Option Execution)). place_on link (slice_index_or ps (x - 1) None)) adds.places ∙ at x low high link mine latest (eqb l link) refl (eqb xid x) refl;
    room = ap (λ (ps : List (Option Execution)). length ps) adds.places ∙ count (eqb xid 0) ∙ h.room;
  }
    where
      e : Execution
      e = record { link = l; place = place }

      count : (b : Bool) → length (cond b t.places.items (set t.places.items (xid - 1) (Some e))) ≡ length t.places.items
      count true = refl
      count false = length-set t.places.items (xid - 1) (Some e)

      was : (x : ℕ) → 1 ≤ x → x ≤ submits_of clients (client_of s l) all → (link : ℕ) → client_of s link ≡ client_of s l → IsLatest s link (before ++ executed_mark ∷ []) →
          place_on link (get_or t.places.items (x - 1) None) ≡ last_place link x before
      was x low high link mine latest = h.places x low high link mine (latest_before s link before executed_mark latest)

      -- an execution on another link leaves the places of this one
      left : (x link : ℕ) → l ≢ link → last_place link x (before ++ executed_mark ∷ []) ≡ last_place link x before
      left x link ne = idle_last s clients all before (client_of s l) executed_mark link x (executes_none link ne)

      here : (x : ℕ) → last_place l x (before ++ executed_mark ∷ []) ≡ place_if x (last_place l x before) own_call
      here x = last_one l x before executed_mark ∙ ap (λ (es : List ExecutedCall). fold (place_if x) (last_place l x before) es) executes_own

      differs : true ≡ false → ⊥
      differs wrong = absurd cc

      kept : (x : ℕ) → 1 ≤ x → (xid ≢ x) ⊎ (xid ≡ 0) → get_or (with_place xid e t.places.items) (x - 1) None ≡ get_or t.places.items (x - 1) None
      kept x low other = zero_or (eqb xid 0) refl other
        where
          zero_or : (z : Bool) → eqb xid 0 ≡ z → (xid ≢ x) ⊎ (xid ≡ 0) → get_or (cond z t.places.items (set t.places.items (xid - 1) (Some e))) (x - 1) None ≡ get_or t.places.items (x - 1) None
          zero_or true z o = refl
          zero_or false z (inr none) = absurd (differs (sym (eq-eqb xid 0 none) ∙ z))
          zero_or false z (inl ne) = get_or-set_other t.places.items (xid - 1) (x - 1) (Some e) None (λ same. ne (let p = positive xid z in omega (arith, same, low, p)))

      set_here : (x : ℕ) → 1 ≤ x → x ≤ submits_of clients (client_of s l) all → xid ≡ x → get_or (with_place xid e t.places.items) (x - 1) None ≡ Some e
      set_here x low high same = zero_or (eqb xid 0) refl
        where
          zero_or : (z : Bool) → eqb xid 0 ≡ z → get_or (cond z t.places.items (set t.places.items (xid - 1) (Some e))) (x - 1) None ≡ Some e
          zero_or true z = absurd (let none = eqb-true xid 0 z in omega (arith, none, same, low))
          zero_or false z =
              ap (λ (n : ℕ). get_or (set t.places.items (n - 1) (Some e)) (x - 1) None) same ∙ get_or-set_same t.places.items (x - 1) (Some e) None (let n = h.room in omega (arith, n, low, high))

      -- no link after the one that executes is older
      at : (x : ℕ) → 1 ≤ x → x ≤ submits_of clients (client_of s l) all → (link : ℕ) → client_of s link ≡ client_of s l → IsLatest s link (before ++ executed_mark ∷ []) → (a : Bool) → eqb l link ≡ a → (b : Bool) → eqb xid x ≡ b →
          place_on link (get_or (with_place xid e t.places.items) (x - 1) None) ≡ last_place link x (before ++ executed_mark ∷ [])
      at x low high link mine latest true own true same =
          let on : l ≡ link = eqb-true l link own in
          let x_is : xid ≡ x = eqb-true xid x same in
          ap (place_on link) (set_here x low high x_is) ∙ ap (λ (b : Bool). cond b (Some place) None) own
          ∙ sym (ap (λ (k : ℕ). last_place k x (before ++ executed_mark ∷ [])) (sym on) ∙ here x ∙ ap (λ (b : Bool). cond b (Some place) (last_place l x before)) same)
      at x low high link mine latest true own false other =
          let on : l ≡ link = eqb-true l link own in
          let ne : xid ≢ x = (λ same. differs (sym (eq-eqb xid x same) ∙ other)) in
          ap (place_on link) (kept x low (inl ne)) ∙ was x low high link mine latest
          ∙ sym (ap (λ (k : ℕ). last_place k x (before ++ executed_mark ∷ [])) (sym on) ∙ here x ∙ ap (λ (b : Bool). cond b (Some place) (last_place l x before)) other ∙ ap (λ (k : ℕ). last_place k x before) on)
      at x low high link mine latest false own false other =
          let ne : xid ≢ x = (λ same. differs (sym (eq-eqb xid x same) ∙ other)) in
          ap (place_on link) (kept x low (inl ne)) ∙ was x low high link mine latest ∙ sym (left x link (λ same. differs (sym (eq-eqb l link same) ∙ own)))
      at x low high link mine latest false own true same =
          let ne : l ≢ link = (λ on. differs (sym (eq-eqb l link on) ∙ own)) in
          let x_is : xid ≡ x = eqb-true xid x same in
          ap (place_on link) (set_here x low high x_is) ∙ ap (λ (b : Bool). cond b (Some place) None) own ∙ sym (left x link ne ∙ none_last link x before (none (le_or l link)))
        where
          none : (l ≤ link) ⊎ (link < l) → executed_calls link before ≡ []
          none (inl le) = (let ne : l ≢ link = (λ on. differs (sym (eq-eqb l link on) ∙ own)) in newest link mine (omega (arith, le, ne)))
          none (inr lt) = absurd (some (front_full (sym (executed_one l before executed_mark) ∙ latest l (sym mine) lt)))
            where
              front_full : executed_calls l before ++ executed_at l executed_mark ≡ [] → own_call ∷ [] ≡ []
              front_full empty = sym executes_own ∙ back_empty (executed_calls l before) (executed_at l executed_mark) empty

              some : own_call ∷ [] ≡ [] → ⊥
              some wrong = absurd cc

  pub other_place : (c : ℕ) (t : CallTable) → client_of s l ≢ c → IsTable s clients all before c calls t → IsTable s clients all (before ++ executed_mark ∷ []) c calls t
  other_place c t ne h =
      idle_table s clients all before c executed_mark calls t
      (record { accepts = refl; executes = λ link own. executes_none link (λ same. ne (ap (client_of s) same ∙ own)) }) h
