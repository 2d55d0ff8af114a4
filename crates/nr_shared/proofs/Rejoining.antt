-- The value stands on with a lost link that is left, and with the next one.
use Rattle.std.proofs.Common.{◌≡◌, ◌≢◌, ⊎_elim, ℕ, suc, ◌+◌, ◌<◌, ◌≤◌, arith, eqb, ltb, cond, Bool, true, false, not, ◌||◌, ◌&&◌, if◌then◌else◌, List, [], ◌∷◌, ◌++◌, length, length-append, map, Option, Some, None, is_some, refl, sym, ap, subst, ◌∙◌, append-nil}
use Rattle.std.specs.List.{AllByRecursion, filter, find, list_any}
use Rattle.std.specs.Io.KnownBytes.{Appends}
use Rattle.std.proofs.KnownBytes.{Appends-nil}
use Rattle.std.proofs.lemmas.Bool.{eq-eqb, ltb-false, ne_eqb, le-ltb}
use Rattle.nr_link.specs.declared.end.End.{End}
use Rattle.nr_link.specs.declared.end.End.TheVariants as ends
use Rattle.nr_reduce.specs.declared.call.Call.{Call}
use Rattle.nr_reduce.specs.declared.call.Form.{Form}
use Rattle.nr_reduce.specs.declared.mark.LinkParameters.{LinkParameters}
use Rattle.nr_reduce.specs.declared.mark.Mark.{Mark}
use Rattle.nr_reduce.specs.declared.mark.ResumedCall.{ResumedCall}
use Rattle.nr_wire.specs.declared.hello.Side.TheVariants.{Initiator}
use Rattle.nr_reduce.specs.Asked.{as_accepted, client_calls}
use Rattle.nr_reduce.specs.Events.{events}
use Rattle.nr_reduce.specs.History.{accepted_calls}
use Rattle.nr_reduce.specs.KeptCalls.{KeptCall}
use Rattle.nr_reduce.specs.Run.{client}
use Rattle.nr_reduce.specs.KeptClient.{resumed_kept}
use Rattle.nr_reduce.specs.Plans.{regions_needed}
use Rattle.nr_reduce.specs.Reopening.{reopened}
use Rattle.nr_requester.specs.declared.answer.AnsweredCall.{AnsweredCall}
use Rattle.nr_requester.specs.EarlierLinks.{KeepsEarlierBeside}
use Rattle.nr_requester.specs.Fed.{fed_bytes}
use Rattle.nr_requester.specs.KeptAnswers.{HandsBack, IsAsked, KeepsAnswers, StillHolds, completed_of, is_due}
use Rattle.nr_requester.specs.OpenCalls.{KeepsTickets, found_answer}
use Rattle.nr_requester.specs.RequesterState.{RequesterSide, RequesterState, StoredCall, kept_call}
use Rattle.nr_requester.specs.ReopenedLinks.{HasOwnCalls, KeepsEarlier, RequesterKeeps, earlier_own, next_own, own_answers}
use Rattle.nr_requester.specs.Reopening.{HasNoMark, NextIsOpened, OpensNext, ReopenStands, after_reopen, calls_again, reopen_refusal, reopen_refusal_by}
use Rattle.nr_requester.proofs.CallsGoOn.{all_answered, calls_go_on}
use Rattle.nr_requester.proofs.EarlierBeside.{earlier_reopens}
use Rattle.nr_requester.proofs.NoMarks.{no_marks_law}
use Rattle.nr_shared.specs.declared.entry.Entry.{Entry}
use Rattle.nr_shared.specs.declared.entry.Entry.TheVariants as entries
use Rattle.nr_shared.specs.declared.entry.InitialSink.{InitialSink}
use Rattle.nr_shared.specs.declared.entry.InitialState.{InitialState}
use Rattle.nr_shared.specs.declared.entry.Stop.{Stop}
use Rattle.nr_shared.specs.declared.entry.Stop.TheVariants as causes
use Rattle.nr_shared.specs.declared.requester_with_sink.RequesterWithSink.{RequesterWithSink}
use Rattle.nr_shared.specs.Draining.{initial_sink}
use Rattle.nr_shared.specs.Histories.{PresentLink, bytes_fed, closes_of, is_feeding, is_lost_by, last_feeding, present, present_after, rejoins, stopped_by_dial, tries_in, tries_of}
use Rattle.nr_shared.specs.LinkRuns.{LinkRun, OpenedLink, call_link, carries, is_of, last_carrier, links_of, next_link}
use Rattle.nr_shared.specs.LinkStanding.{IsLeft, IsLiveOn}
use Rattle.nr_shared.specs.Output.{IsTryLeft, MayFeed, MayRejoin}
use Rattle.nr_shared.specs.private.Needs.{GoesOn}
use Rattle.nr_shared.specs.Standing.{IsNumbered, IsWithin, KeepsSinkIf, KeepsSinkOf, RejoinsWithin, RepresentsHistory, RepresentsHistoryIf, Stands, is_out_of_memory, one_if, stops_told, tries_max}
use Rattle.nr_shared.proofs.Calls.{calls_kept, closes_end}
use Rattle.nr_shared.proofs.Chains.{chained_end}
use Rattle.nr_shared.proofs.Histories.{allowed_end, fed_same, initial_end, present_end}
use Rattle.nr_shared.proofs.LinkRuns.{apart_from, left_is, links_end, numbers_of}
use Rattle.nr_shared.proofs.Output.{follow_end, full_same, output_same}
use Rattle.nr_shared.proofs.Ends.{fits_initial, outstanding_is}
use Rattle.nr_shared.proofs.Pieces.{lost_memory}
use Rattle.nr_shared.proofs.Steps.{false_true, fits_one_less, still_numbered}

-- ---- Which answers belong to a link

true_false : true ≡ false → ⊥
true_false e = absurd cc

-- the link of a call is the one at hand, or was left
carrier_not : (P : OpenedLink → Type 0) (at : OpenedLink) (left : List OpenedLink) (xid : ℕ) → P at → AllByRecursion P left → P (last_carrier at left xid)
carrier_not P at [] xid one all = one
carrier_not P at (e ∷ left) xid one all = by (carries at.opened xid) (carrier_not P e left xid all.0 all.1)
  where
    by : (b : Bool) → P (last_carrier e left xid) → P (if b then at else last_carrier e left xid)
    by true rest = one
    by false rest = rest

-- two rules that agree on each answer that is kept
same_answers : (p q : ℕ → Bool) (answers : List AnsweredCall) → AllByRecursion (λ (a : AnsweredCall). p a.xid ≡ q a.xid) answers → filter (λ (a : AnsweredCall). p a.xid) answers ≡ filter (λ (a : AnsweredCall). q a.xid) answers
same_answers p q [] all = refl
same_answers p q (a ∷ answers) all = λ i. cond (all.0 i) (a ∷ same_answers p q answers all.1 i) (same_answers p q answers all.1 i)

keeps_by : (p q : ℕ → Bool) (earlier : ℕ) (opened : LinkParameters) (link : ℕ) (h : RequesterSide) (run : List Mark) → own_answers p h.state ≡ own_answers q h.state → HasOwnCalls q h.state → RequesterKeeps p earlier opened link h run → RequesterKeeps q earlier opened link h run
keeps_by p q earlier opened link h run same calls keeps = record {
  keeps = keeps.keeps;
  calls = calls;
  answers = subst (λ (answers : List AnsweredCall). KeepsAnswers opened (events link Initiator run) (is_due link run) (map as_accepted opened.resumed ++ accepted_calls link run) (record h.state { answered = answers })) same keeps.answers;
  counted = keeps.counted;
  resent = keeps.resent;
}

earlier_by : (p q : ℕ → Bool) (opened : LinkParameters) (link : ℕ) (h : RequesterSide) (run : List Mark) → own_answers p h.state ≡ own_answers q h.state
    → AllByRecursion (λ (c : StoredCall). q c.xid ≡ false) h.state.outstanding → ((xid : ℕ) → h.state.next_xid ≤ xid → q xid ≡ false) → KeepsEarlier p opened link h run → KeepsEarlier q opened link h run
earlier_by p q opened link h run same outstanding to_come keeps = record {
  outstanding = outstanding;
  to_come = to_come;
  outcomes = ap (λ (answers : List AnsweredCall). map completed_of answers) (sym same) ∙ keeps.outcomes;
  hands_back = subst (AllByRecursion (HandsBack opened (events link Initiator run))) same keeps.hands_back;
  holds = subst (AllByRecursion (StillHolds (client opened link run).state.next_xid (client opened link run).state)) same keeps.holds;
  accesses = keeps.accesses;
  calls = subst (AllByRecursion (λ (a : AnsweredCall). IsAsked (client_calls opened link run) a.xid a.call)) same keeps.calls;
}

-- ---- The calls that the next link carries

-- a rule of xids holds of each call that is sent again, if it does of each of these
resumed_xids : (P : ℕ → Type 0) (send stag : ℕ) (calls : List ResumedCall) → AllByRecursion (λ (k : KeptCall). P k.xid) (resumed_kept send stag calls) → AllByRecursion (λ (r : ResumedCall). P r.xid) calls
resumed_xids P send stag [] all = tt
resumed_xids P send stag (r ∷ calls) all = (all.0, resumed_xids P (send + 1) (stag + regions_needed r.plan) calls all.1)

xids_resumed : (P : ℕ → Type 0) (send stag : ℕ) (calls : List ResumedCall) → AllByRecursion (λ (r : ResumedCall). P r.xid) calls → AllByRecursion (λ (k : KeptCall). P k.xid) (resumed_kept send stag calls)
xids_resumed P send stag [] all = tt
xids_resumed P send stag (r ∷ calls) all = (all.0, xids_resumed P (send + 1) (stag + regions_needed r.plan) calls all.1)

kept_xids : (P : ℕ → Type 0) (cs : List StoredCall) → AllByRecursion (λ (c : StoredCall). P c.xid) cs → AllByRecursion (λ (k : KeptCall). P k.xid) (map (kept_call 0) cs)
kept_xids P [] all = tt
kept_xids P (c ∷ cs) all = (all.0, kept_xids P cs all.1)

xids_kept : (P : ℕ → Type 0) (cs : List StoredCall) → AllByRecursion (λ (k : KeptCall). P k.xid) (map (kept_call 0) cs) → AllByRecursion (λ (c : StoredCall). P c.xid) cs
xids_kept P [] all = tt
xids_kept P (c ∷ cs) all = (all.0, xids_kept P cs all.1)

or_true : (b : Bool) → b || true ≡ true
or_true true = refl
or_true false = refl

-- each call is found among itself
each_any : (calls : List ResumedCall) → AllByRecursion (λ (r : ResumedCall). list_any (λ (x : ResumedCall). eqb x.xid r.xid) calls ≡ true) calls
each_any [] = tt
each_any (r ∷ calls) = (
  ap (λ (b : Bool). b || list_any (λ (x : ResumedCall). eqb x.xid r.xid) calls) (eq-eqb r.xid r.xid refl),
  more calls (each_any calls),
)
  where
    more : (cs : List ResumedCall) → AllByRecursion (λ (c : ResumedCall). list_any (λ (x : ResumedCall). eqb x.xid c.xid) calls ≡ true) cs → AllByRecursion (λ (c : ResumedCall). list_any (λ (x : ResumedCall). eqb x.xid c.xid) (r ∷ calls) ≡ true) cs
    more [] all = tt
    more (c ∷ cs) all = (ap (λ (b : Bool). eqb r.xid c.xid || b) all.0 ∙ or_true (eqb r.xid c.xid), more cs all.1)

none_any : (xid : ℕ) (calls : List ResumedCall) → AllByRecursion (λ (r : ResumedCall). r.xid ≢ xid) calls → list_any (λ (r : ResumedCall). eqb r.xid xid) calls ≡ false
none_any xid [] all = refl
none_any xid (r ∷ calls) all = λ i. ne_eqb r.xid xid all.0 i || none_any xid calls all.1 i

module _ (next : LinkParameters) (r s : RequesterState) (outstanding : s.outstanding ≡ (calls_again r).calls) (opens : OpensNext next r (calls_again r)) where
  these : map (kept_call 0) s.outstanding ≡ resumed_kept 0 next.first_stag next.resumed
  these = ap (λ (cs : List StoredCall). map (kept_call 0) cs) outstanding ∙ opens.calls

  -- it carries each call that is outstanding, and each that still comes
  outstanding_carried : AllByRecursion (λ (c : StoredCall). carries next c.xid ≡ true) s.outstanding
  outstanding_carried = xids_kept (λ (xid : ℕ). carries next xid ≡ true) s.outstanding
      (subst (AllByRecursion (λ (k : KeptCall). carries next k.xid ≡ true)) (sym these)
      (xids_resumed (λ (xid : ℕ). carries next xid ≡ true) 0 next.first_stag next.resumed (each next.resumed (each_any next.resumed))))
    where
      each : (cs : List ResumedCall) → AllByRecursion (λ (c : ResumedCall). list_any (λ (x : ResumedCall). eqb x.xid c.xid) next.resumed ≡ true) cs → AllByRecursion (λ (c : ResumedCall). carries next c.xid ≡ true) cs
      each [] all = tt
      each (c ∷ cs) all = (ap (λ (b : Bool). b || not (ltb c.xid next.first_xid)) all.0, each cs all.1)

  coming_carried : (xid : ℕ) → r.next_xid ≤ xid → carries next xid ≡ true
  coming_carried xid le =
      let above : next.first_xid ≤ xid = subst (λ (n : ℕ). n ≤ xid) opens.xid le in
      ap (λ (b : Bool). list_any (λ (x : ResumedCall). eqb x.xid xid) next.resumed || not b) (le-ltb xid next.first_xid above) ∙ or_true (list_any (λ (x : ResumedCall). eqb x.xid xid) next.resumed)

  -- and none whose answer is kept
  answered_not : (is : HasOwnCalls (next_own r) s) → s.next_xid ≡ r.next_xid → (xid : ℕ) → next_own r xid ≡ false → carries next xid ≡ false
  answered_not own same xid kept =
      let apart : AllByRecursion (λ (c : ResumedCall). c.xid ≢ xid) next.resumed = resumed_xids (λ (x : ℕ). x ≢ xid) 0 next.first_stag next.resumed
      (subst (AllByRecursion (λ (k : KeptCall). k.xid ≢ xid)) these (kept_xids (λ (x : ℕ). x ≢ xid) s.outstanding (each s.outstanding own.outstanding))) in
      λ i. none_any xid next.resumed apart i || not (below i)
    where
      each : (cs : List StoredCall) → AllByRecursion (λ (c : StoredCall). next_own r c.xid ≡ true) cs → AllByRecursion (λ (c : StoredCall). c.xid ≢ xid) cs
      each [] all = tt
      each (c ∷ cs) all = ((λ is. absurd (true_false (sym all.0 ∙ (ap (next_own r) is ∙ kept)))), each cs all.1)

      below : ltb xid next.first_xid ≡ true
      below = by (ltb xid next.first_xid) refl where
        by : (b : Bool) → ltb xid next.first_xid ≡ b → ltb xid next.first_xid ≡ true
        by true is = is
        by false is =
            let above : next.first_xid ≤ xid = ltb-false xid next.first_xid is in
            let next_r : r.next_xid ≤ xid = subst (λ (n : ℕ). n ≤ xid) (sym opens.xid) above in
            absurd (true_false (sym (own.to_come xid (subst (λ (n : ℕ). n ≤ xid) (sym same) next_r)) ∙ kept))

-- ---- The next link

reopened_outstanding : (r s : RequesterSide) (staging : List ℕ) → s ≡ after_reopen r staging → s.state.outstanding ≡ (calls_again r.state).calls
unfolding after_reopen
reopened_outstanding r s staging is = ap (λ (x : RequesterSide). x.state.outstanding) is

reopened_next : (r s : RequesterSide) (staging : List ℕ) → s ≡ after_reopen r staging → s.state.next_xid ≡ r.state.next_xid
unfolding after_reopen
reopened_next r s staging is = ap (λ (x : RequesterSide). x.state.next_xid) is

reopened_answered : (r s : RequesterSide) (staging : List ℕ) → s ≡ after_reopen r staging → s.state.answered ≡ r.state.answered
unfolding after_reopen
reopened_answered r s staging is = ap (λ (x : RequesterSide). x.state.answered) is

reopened_ended : (r s : RequesterSide) (staging : List ℕ) → s ≡ after_reopen r staging → s.state.side.ended ≡ None
unfolding after_reopen
reopened_ended r s staging is = ap (λ (x : RequesterSide). x.state.side.ended) is

reopened_terms : (r s : RequesterSide) (staging : List ℕ) → s ≡ after_reopen r staging → s.state.side.terms ≡ r.state.side.terms
unfolding after_reopen
reopened_terms r s staging is = ap (λ (x : RequesterSide). x.state.side.terms) is

-- what a reopened requester says of each first link
pub record Reopens (r s : RequesterSide) : Type 0 where
  pub staging : List ℕ
  pub after : s ≡ after_reopen r staging
  pub stands : ReopenStands r s
  pub opens : NextIsOpened r

module _ (r s : RequesterSide) (re : Reopens r s) (live : r.state.side.ended ≡ None) (next : ℕ) (l : LinkRun) (on : IsLiveOn l r) (unused : HasNoMark next l.run) (apart : next ≢ l.at.link) (apart_left : AllByRecursion (λ (e : OpenedLink). next ≢ e.link) l.left) where
  abbrev after : LinkRun
  after = next_link next l

  abbrev new : LinkParameters
  new = reopened l.at.opened l.at.link l.run

  both : RequesterKeeps (next_own r.state) r.marks new next s l.run × KeepsEarlier (earlier_own (is_of l l.at.link) r.state) l.at.opened l.at.link s l.run
  both = re.stands (is_of l l.at.link) on.earlier l.at.opened l.at.link next l.run on.opens on.law.asked on.keeps unused

  opens_next : OpensNext new r.state (calls_again r.state)
  opens_next = calls_go_on (is_of l l.at.link) on.earlier l.at.opened l.at.link r l.run on.opens on.law.asked on.keeps live

  -- no answer that is kept is one of a call that the next link carries
  abbrev Uncarried : AnsweredCall → Type 0
  Uncarried a = (carries new a.xid ≡ false) × (is_some (found_answer a.xid r.state) ≡ true)

  uncarried : AllByRecursion Uncarried s.state.answered
  uncarried = subst (AllByRecursion Uncarried) (sym (reopened_answered r s re.staging re.after)) (each r.state.answered (all_answered r.state.answered)) where
    each : (answers : List AnsweredCall) → AllByRecursion (λ (a : AnsweredCall). is_some (find (λ (x : AnsweredCall). eqb x.xid a.xid) r.state.answered) ≡ true) answers → AllByRecursion Uncarried answers
    each [] all = tt
    each (a ∷ answers) all = (
      (answered_not new r.state s.state (reopened_outstanding r s re.staging re.after) opens_next both.0.calls (reopened_next r s re.staging re.after) a.xid (ap not all.0), all.0),
      each answers all.1,
    )

  -- a call that the next link carries belongs to it, and any other to the link to which it belonged
  carried_of : (link xid : ℕ) → carries new xid ≡ true → is_of after link xid ≡ eqb next link
  carried_of link xid is = ap (λ (b : Bool). eqb (if b then after.at else call_link l xid).link link) is

  other_of : (link xid : ℕ) → carries new xid ≡ false → is_of after link xid ≡ is_of l link xid
  other_of link xid is = ap (λ (b : Bool). eqb (if b then after.at else call_link l xid).link link) is

  -- ---- The next link

  own_calls : HasOwnCalls (is_of after next) s.state
  own_calls = record {
    outstanding = each s.state.outstanding (outstanding_carried new r.state s.state (reopened_outstanding r s re.staging re.after) opens_next);
    to_come = λ xid le. carried_of next xid (coming_carried new r.state s.state (reopened_outstanding r s re.staging re.after) opens_next xid (subst (λ (n : ℕ). n ≤ xid) (reopened_next r s re.staging re.after) le)) ∙ eq-eqb next next refl;
  } where
    each : (cs : List StoredCall) → AllByRecursion (λ (c : StoredCall). carries new c.xid ≡ true) cs → AllByRecursion (λ (c : StoredCall). is_of after next c.xid ≡ true) cs
    each [] all = tt
    each (c ∷ cs) all = (carried_of next c.xid all.0 ∙ eq-eqb next next refl, each cs all.1)

  -- the number of the next link is none of the link of a call
  next_other : (xid : ℕ) → is_of l next xid ≡ false
  next_other xid = ne_eqb (call_link l xid).link next (λ same. carrier_not (λ (e : OpenedLink). next ≢ e.link) l.at l.left xid apart apart_left (sym same))

  own_same : own_answers (next_own r.state) s.state ≡ own_answers (is_of after next) s.state
  own_same = same_answers (next_own r.state) (is_of after next) s.state.answered (each s.state.answered uncarried) where
    each : (answers : List AnsweredCall) → AllByRecursion Uncarried answers → AllByRecursion (λ (a : AnsweredCall). next_own r.state a.xid ≡ is_of after next a.xid) answers
    each [] all = tt
    each (a ∷ answers) all = (ap not all.0.1 ∙ sym (other_of next a.xid all.0.0 ∙ next_other a.xid), each answers all.1)

  -- ---- A link that was left

  module _ (link : ℕ) (other : next ≢ link) where
    left_outstanding : AllByRecursion (λ (c : StoredCall). is_of after link c.xid ≡ false) s.state.outstanding
    left_outstanding = each s.state.outstanding (outstanding_carried new r.state s.state (reopened_outstanding r s re.staging re.after) opens_next) where
      each : (cs : List StoredCall) → AllByRecursion (λ (c : StoredCall). carries new c.xid ≡ true) cs → AllByRecursion (λ (c : StoredCall). is_of after link c.xid ≡ false) cs
      each [] all = tt
      each (c ∷ cs) all = (carried_of link c.xid all.0 ∙ ne_eqb next link other, each cs all.1)

    left_coming : (xid : ℕ) → s.state.next_xid ≤ xid → is_of after link xid ≡ false
    left_coming xid le = carried_of link xid (coming_carried new r.state s.state (reopened_outstanding r s re.staging re.after) opens_next xid (subst (λ (n : ℕ). n ≤ xid) (reopened_next r s re.staging re.after) le)) ∙ ne_eqb next link other

    left_same : (p : ℕ → Bool) → ((xid : ℕ) → is_some (found_answer xid r.state) ≡ true → p xid ≡ is_of l link xid) → own_answers p s.state ≡ own_answers (is_of after link) s.state
    left_same p agrees = same_answers p (is_of after link) s.state.answered (each s.state.answered uncarried) where
      each : (answers : List AnsweredCall) → AllByRecursion Uncarried answers → AllByRecursion (λ (a : AnsweredCall). p a.xid ≡ is_of after link a.xid) answers
      each [] all = tt
      each (a ∷ answers) all = (agrees a.xid all.0.1 ∙ sym (other_of link a.xid all.0.0), each answers all.1)

    still_left : (p : ℕ → Bool) (opened : LinkParameters) → ((xid : ℕ) → is_some (found_answer xid r.state) ≡ true → p xid ≡ is_of l link xid) → KeepsEarlier p opened link s l.run → KeepsEarlier (is_of after link) opened link s l.run
    still_left p opened agrees keeps = earlier_by p (is_of after link) opened link s l.run (left_same p agrees) left_outstanding left_coming keeps

  and_true : (b : Bool) → b && true ≡ b
  and_true true = refl
  and_true false = refl

  beside : KeepsEarlierBeside r s
  beside = subst (KeepsEarlierBeside r) (sym re.after) (earlier_reopens r re.staging)

  last_left : IsLeft after s l.at
  last_left = record {
    keeps = still_left l.at.link apart (earlier_own (is_of l l.at.link) r.state) l.at.opened (λ xid found. ap (λ (b : Bool). is_of l l.at.link xid && b) found ∙ and_true (is_of l l.at.link xid)) both.1;
    opens = on.opens;
    law = on.law;
  }

  one_left : (e : OpenedLink) → next ≢ e.link → IsLeft l r e → IsLeft after s e
  one_left e other left = record {
    keeps = still_left e.link other (is_of l e.link) e.opened (λ xid found. refl)
        (subst (KeepsEarlier (is_of l e.link) e.opened e.link s) (append-nil l.run) (beside (is_of l e.link) e.opened e.link l.run [] left.keeps tt));
    opens = left.opens;
    law = left.law;
  }

  all_left : (es : List OpenedLink) → AllByRecursion (λ (e : OpenedLink). next ≢ e.link) es → AllByRecursion (IsLeft l r) es → AllByRecursion (IsLeft after s) es
  all_left [] others all = tt
  all_left (e ∷ es) others all = (one_left e others.0 all.0, all_left es others.1 all.1)

  pub next_live : IsLiveOn after s
  next_live =
      let opened = re.opens (is_of l l.at.link) on.earlier l.at.opened l.at.link l.run on.opens on.in_range on.law.asked on.keeps in
      let law = no_marks_law new next l.run unused in
      record {
        earlier = r.marks;
        keeps = keeps_by (next_own r.state) (is_of after next) r.marks new next s l.run own_same own_calls both.0;
        opens = opened.0;
        in_range = opened.1;
        law = record { asked = law.0; granted = law.1 };
        left = (last_left, all_left l.left apart_left on.left);
      }

-- ---- The value

refused_by : (r : RequesterState) (o : Option End) → reopen_refusal_by r o ≡ None → o ≡ None
refused_by r None is = refl
refused_by r (Some end) is = absurd cc

refusal_live : (r : RequesterState) → reopen_refusal r ≡ None → r.side.ended ≡ None
unfolding reopen_refusal
refusal_live r is = refused_by r r.side.ended is

dialled_memory : (i : Option InitialSink) → is_out_of_memory (stopped_by_dial i) ≡ false
dialled_memory None = refl
dialled_memory (Some i) = refl

lost_told : (failed : Bool) (o : Option Stop) → is_lost_by failed o ≡ true → stops_told o ≤ 1
lost_told failed None lost = omega arith
lost_told failed (Some causes.LinkRead) lost = omega arith
lost_told failed (Some causes.Closed) lost = omega arith
lost_told failed (Some causes.Budget) lost = absurd (false_true lost)
lost_told failed (Some causes.Memory) lost = absurd (false_true lost)
lost_told failed (Some causes.DialFault) lost = absurd (false_true lost)
lost_told failed (Some (causes.Spent left need)) lost = absurd (false_true lost)
lost_told failed (Some causes.NotReopened) lost = absurd (false_true lost)

at_most_one : (b : Bool) → one_if b ≤ 1
at_most_one true = omega arith
at_most_one false = omega arith

-- a try is left, so there are fewer than the most
tries_few : (o : Option ℕ) (n : ℕ) → IsTryLeft o n → RejoinsWithin o n → RejoinsWithin o (suc n) × (suc n ≤ tries_max)
tries_few None n left within = absurd left
tries_few (Some tries) n left within = let few = within.1 in (((omega (arith, left)), few), omega (arith, left, few))

-- the links follow
rejoined : (c : InitialState) (r s : RequesterSide) (h : List Entry) (sink : Option InitialSink) (last : ℕ) → Reopens r s → r.state.side.ended ≡ None → RepresentsHistoryIf false c r h → RepresentsHistoryIf false c s (h ++ entries.Rejoin sink last ∷ [])
rejoined c r s h sink last re live represents = (
  (λ bad. none_memory (sym (reopened_ended r s re.staging re.after) ∙ bad)),
  λ n opened numbers before fits.
      (let e : Entry = entries.Rejoin sink last in
      let l = links_of opened numbers before n h in
      let count : length l.left ≡ rejoins h = left_is opened numbers before n h in
      let more : rejoins (h ++ e ∷ []) ≡ suc (rejoins h) = ap (λ (p : PresentLink). length p.left) (present_end h e) in
      let next : ℕ = suc (length l.left) in
      let within : next ≤ rejoins (h ++ e ∷ []) = omega (arith, count, more) in
      let keeps = numbers_of opened numbers before n (rejoins (h ++ e ∷ [])) h fits.new in
      let unused = keeps.unused next (omega arith) within in
      let other : numbers next ≢ l.at.link = λ same. fits.new.apart (length l.left) next (omega arith) within (sym keeps.numbered.0 ∙ sym same) in
      subst (λ (x : LinkRun). IsLiveOn x s) (sym (links_end opened numbers before n h e))
      (next_live r s re live (numbers next) l (represents.1 n opened numbers before (fits_one_less c opened numbers before h e fits)) unused other
      (apart_from numbers (rejoins (h ++ e ∷ [])) (numbers next) next l.left fits.new.apart refl (omega arith) within keeps.numbered.1))),
)
  where
    none_memory : None ≡ Some ends.Memory → ⊥
    none_memory e = absurd cc

within_rejoin : {fed_before : ℕ} (r s : RequesterSide) (pending failed : Bool) (stopped stopped' : Option Stop) (h : List Entry) (e : Entry) → is_lost_by failed stopped ≡ true → bytes_fed (h ++ e ∷ []) ≡ bytes_fed h → rejoins (h ++ e ∷ []) ≡ suc (rejoins h) → suc (rejoins h) ≤ tries_max
    → KeepsTickets r.state s.state → s.state.next_xid ≡ r.state.next_xid → fed_bytes s ≡ 0 → IsWithin fed_before r pending failed stopped h → IsWithin fed_before s true false stopped' (h ++ e ∷ [])
within_rejoin r s pending failed stopped stopped' h e lost same left few keeps next fed w =
    let len : length (h ++ e ∷ []) ≡ length h + 1 = length-append h (e ∷ []) in
    let bytes : length (bytes_fed (h ++ e ∷ [])) ≡ length (bytes_fed h) = ap length same in
    let length_bound = w.length_bound in
    let told = lost_told failed stopped lost in
    let one = at_most_one failed in
    record {
      open_xids = w.open_xids;
      is_open_xid = λ x there. w.is_open_xid x (sym (ap is_some (keeps x)) ∙ there);
      length_bound = omega (arith, len, bytes, length_bound, next, left, told, one);
      few = omega (arith, few, left);
      xids = (let k = w.xids in omega (arith, k, next));
      bytes = (let b = w.bytes in omega (arith, b, bytes));
      before = w.before;
      fed = omega (arith, fed);
    }

module _ {O : Type 0} (link : O → ℕ) (taken : O → Option (List ℕ)) (faults : O → ℕ) where
  -- the sink of the next link is as it was dialled
  new_sink : (o : Option O) (p : PresentLink) → p.sink ≡ initial_sink link taken faults o → p.written ≡ [] → p.write_failed ≡ false → KeepsSinkOf link taken faults o p
  new_sink o p sink written failed = subst (λ (i : Option InitialSink). KeepsSinkIf link taken faults o i p) (sym sink) (by o) where
    by : (o : Option O) → KeepsSinkIf link taken faults o (initial_sink link taken faults o) p
    by None = tt
    by (Some s) = record {
      number = refl;
      took = subst (Appends (taken s) (taken s)) (sym written) (Appends-nil (taken s));
      never_falls = omega arith;
      failed = λ is. absurd (true_false (sym is ∙ failed));
      counted = λ is. refl;
    }

module _ {O C : Type 0} (link : O → ℕ) (taken : O → Option (List ℕ)) (faults : O → ℕ) (allows : Call → Form → Type 0) where
  -- what the history says of tries is what the value has
  pub tries_are : (m : RequesterWithSink O C) (h : List Entry) (st : Stands link taken faults allows m h) → tries_of h ≡ st.initial.tries
  tries_are m h st = ap tries_in st.is_initial

  -- a link that the value says is lost, and may be dialled again, may be left
  pub may_rejoin : (m : RequesterWithSink O C) (h : List Entry) → m.requester.state.side.ended ≡ None → is_lost_by m.write_failed m.stopped ≡ true → IsTryLeft m.tries m.rejoined → 0 < length m.requester.state.outstanding → Stands link taken faults allows m h → MayRejoin h
  may_rejoin m h live lost left some st = record {
    lost = (λ i. is_lost_by (sym st.write_failed i) (sym st.stopped i)) ∙ lost;
    live = λ opened numbers before fits.
        (let on = (subst (λ (b : Bool). RepresentsHistoryIf b st.initial m.requester h) out st.represents).1 0 opened numbers before (fits_initial h st.initial opened numbers before st.is_initial fits) in
        sym on.keeps.keeps.kept.keeps.ended ∙ live);
    try_left = subst (λ (o : Option ℕ). IsTryLeft o (rejoins h)) (st.tries ∙ sym (tries_are m h st)) (subst (IsTryLeft m.tries) st.rejoined left);
    outstanding = outstanding_is link taken faults allows m h out some st;
  } where
    out : is_out_of_memory m.stopped ≡ false
    out = lost_memory m.write_failed m.stopped lost

  -- what a reopened requester's owner has then
  pub record Joins (m m' : RequesterWithSink O C) : Type 0 where
    pub tries : m'.tries ≡ m.tries
    pub rejoined : m'.rejoined ≡ m.rejoined + 1
    pub count : m'.entries ≡ m.entries + 1
    pub pending : m'.pending ≡ true
    pub failed : m'.write_failed ≡ false
    pub stopped : m'.stopped ≡ stopped_by_dial (initial_sink link taken faults m'.sink)
    pub free : reopen_refusal m.requester.state ≡ None
    pub reopens : Reopens m.requester m'.requester
    pub keeps : KeepsTickets m.requester.state m'.requester.state
    pub fed : fed_bytes m'.requester ≡ 0

  -- the lost link is left
  pub leaves : (m m' : RequesterWithSink O C) (h : List Entry) (last : ℕ) → Joins m m' → last_feeding h ≡ Some last → MayRejoin h → Stands link taken faults allows m h
      → Stands link taken faults allows m' (h ++ entries.Rejoin (initial_sink link taken faults m'.sink) last ∷ [])
  leaves m m' h last j is_last may st =
      let sink : Option InitialSink = initial_sink link taken faults m'.sink in
      let e : Entry = entries.Rejoin sink last in
      let c = st.initial in
      let here : present (h ++ e ∷ []) ≡ present_after (present h) e = present_end h e in
      let more : rejoins (h ++ e ∷ []) ≡ suc (rejoins h) = ap (λ (p : PresentLink). length p.left) here in
      let live = refusal_live m.requester.state j.free in
      let lost : is_lost_by m.write_failed m.stopped ≡ true = (λ i. is_lost_by (st.write_failed i) (st.stopped i)) ∙ may.lost in
      let out : is_out_of_memory m.stopped ≡ false = lost_memory m.write_failed m.stopped lost in
      let left : IsTryLeft c.tries (rejoins h) = subst (λ (o : Option ℕ). IsTryLeft o (rejoins h)) (tries_are m h st) may.try_left in
      let few = tries_few c.tries (rejoins h) left st.within_tries in
      let re = j.reopens in
      record {
        initial = c;
        is_initial = initial_end h e c st.is_initial;
        entries = (let n = st.entries in let len = length-append h (e ∷ []) in let count = j.count in omega (arith, n, len, count));
        represents = subst (λ (o : Option Stop). RepresentsHistory c m'.requester o (h ++ e ∷ [])) (sym j.stopped)
            (subst (λ (b : Bool). RepresentsHistoryIf b c m'.requester (h ++ e ∷ [])) (sym (dialled_memory sink))
            (rejoined c m.requester m'.requester h sink last re live (subst (λ (b : Bool). RepresentsHistoryIf b c m.requester h) out st.represents)));
        calls = calls_kept m.requester.state m'.requester.state h e (λ xid. refl) j.keeps st.calls;
        sink = new_sink link taken faults m'.sink (present (h ++ e ∷ [])) (ap (λ (p : PresentLink). p.sink) here) (ap (λ (p : PresentLink). p.written) here) (ap (λ (p : PresentLink). p.write_failed) here);
        tries = j.tries ∙ st.tries;
        rejoined = (let one = j.rejoined in let was = st.rejoined in omega (arith, one, was, more));
        within_tries = subst (RejoinsWithin c.tries) (sym more) few.0;
        numbered = still_numbered c.tries m.requester.state m'.requester.state (reopened_terms m.requester m'.requester re.staging re.after) st.numbered;
        write_failed = j.failed ∙ sym (ap (λ (p : PresentLink). p.write_failed) here);
        stopped = j.stopped ∙ sym (ap (λ (p : PresentLink). p.stopped) here);
        in_order = chained_end closes_of is_feeding 0 None h e st.in_order (λ is. sym is_last);
        allowed = allowed_end allows h e st.allowed tt;
        closes_calls = closes_end h e tt st.closes_calls;
        output = output_same h e refl st.output;
        in_full = full_same h e refl st.in_full;
        may_follow = follow_end h e may st.may_follow;
        pending = λ is. absurd (true_false (sym j.pending ∙ is));
        within = subst (λ b. IsWithin (fed_bytes c.requester) m'.requester b m'.write_failed m'.stopped (h ++ e ∷ [])) (sym j.pending)
            (subst (λ b. IsWithin (fed_bytes c.requester) m'.requester true b m'.stopped (h ++ e ∷ [])) (sym j.failed)
            (within_rejoin m.requester m'.requester m.pending m.write_failed m.stopped m'.stopped h e lost (fed_same h e refl) more few.1 j.keeps (reopened_next m.requester m'.requester re.staging re.after) j.fed st.within));
      }

  -- a link that isn't lost, over which more is fed, may be read
  pub may_feed : (m : RequesterWithSink O C) (h : List Entry) → GoesOn m → is_lost_by m.write_failed m.stopped ≡ false → 0 < length m.requester.state.outstanding → Stands link taken faults allows m h → MayFeed h
  may_feed m h goes whole some st = (sym st.stopped ∙ none, outstanding_is link taken faults allows m h (ap is_out_of_memory none) some st) where
    none : m.stopped ≡ None
    none = ⊎_elim (λ (e : m.stopped ≡ None). e) (λ (lost : is_lost_by m.write_failed m.stopped ≡ true). absurd (true_false (sym lost ∙ whole))) goes.no_other

  -- the requester of a lost link that may be left has a client number
  pub has_number : (m : RequesterWithSink O C) (h : List Entry) → MayRejoin h → Stands link taken faults allows m h → 0 < m.requester.state.side.terms.number
  has_number m h may st = by st.initial.tries (subst (λ (o : Option ℕ). IsTryLeft o (rejoins h)) (tries_are m h st) may.try_left) st.numbered where
    by : (o : Option ℕ) → IsTryLeft o (rejoins h) → IsNumbered o m.requester.state → 0 < m.requester.state.side.terms.number
    by (Some tries) left number = number
    by None left number = absurd left

  -- it was left less than so often
  pub rejoined_few : (m : RequesterWithSink O C) (h : List Entry) → Stands link taken faults allows m h → m.rejoined ≤ tries_max
  rejoined_few m h st = (let few = st.within.few in let is = st.rejoined in omega (arith, few, is))
