-- With the marks of both sides the links of a session go on from one another, and its changes have their entries.
use Rattle.std.proofs.Common.{◌≡◌, ◌⊎◌, ⊎_elim, inl, inr, ℕ, ◌<◌, ◌^◌, eqb, cond, ◌&&◌, ◌||◌, not, Bool, true, false, List, [], ◌∷◌, ◌++◌, map, None, refl, sym, ap, subst, ◌∙◌}
use Rattle.std.specs.Prelude.{Contains}
use Rattle.std.specs.List.{AllByRecursion, filter, flat_map, list_any}
use Rattle.std.proofs.lemmas.Bool.{eqb-true, eq-eqb}
use Rattle.std.proofs.lemmas.List.Elements.{All-contains, All-from_recursion}
use Rattle.nr_wire.specs.declared.hello.Side.{Side}
use Rattle.nr_wire.specs.declared.hello.Side.TheVariants.{Initiator}
use Rattle.nr_link.specs.declared.agreement.SideTerms.{SideTerms}
use Rattle.nr_reduce.specs.declared.call.Outcome.{Outcome}
use Rattle.nr_reduce.specs.declared.call.Outcome.TheVariants as outcomes
use Rattle.nr_reduce.specs.declared.call.Submission.TheVariants as submissions
use Rattle.nr_reduce.specs.declared.mark.LinkParameters.{LinkParameters}
use Rattle.nr_reduce.specs.declared.mark.Mark.{Mark}
use Rattle.nr_reduce.specs.declared.mark.Mark.TheVariants as marks
use Rattle.nr_reduce.specs.declared.mark.ResumedCall.{ResumedCall}
use Rattle.nr_reduce.specs.Asked.{AskedMark, AskedSoFar, IsCompleted}
use Rattle.nr_reduce.specs.AtEachMark.{AtEachMark}
use Rattle.nr_reduce.specs.ClientState.{ClientState}
use Rattle.nr_reduce.specs.EndRules.{EndState}
use Rattle.nr_reduce.specs.Events.{RunEvent, events}
use Rattle.nr_reduce.specs.Events.RunEvent.{CallExecuted, CallSubmitted, FrameReceived, MemoryRevoked, QueueWritten, ServerTold}
use Rattle.nr_reduce.specs.History.{AcceptedCall, accepted_calls, is_abandoned, same_side}
use Rattle.nr_reduce.specs.Matched.{IsPrefixOf}
use Rattle.nr_reduce.specs.NumberedJournal.{number_heard}
use Rattle.nr_reduce.specs.Reopening.{HasAnswer, IsLate, calls_kept, last_agreement, reopened, resumed_again, resumed_of}
use Rattle.nr_reduce.specs.Run.{client}
use Rattle.nr_reduce.proofs.Placing.{AtEachMark_at}
use Rattle.nr_laws.specs.MarkAt.{MarkAt}
use Rattle.nr_laws.specs.OnceEach.{BegunLink, EachChangeOnce, GoesOn, HasEntry, IsAskedFor, IsEarlier, IsLinkOf, IsNextLink, MatchedWithEarlier, OpenedWithEarlier}
use Rattle.nr_laws.specs.PlainLinks.{server_with}
use Rattle.nr_laws.proofs.CompletedChanges.{changes_take_effect_once}
use Rattle.nr_laws.proofs.OutstandingSubmits.{IsSubmitted, accepted_submitted}
use Rattle.nr_shared.specs.LinkRuns.{LinkRun, OpenedLink}
use Rattle.nr_shared_laws.specs.Sessions.{AreEarlier, HasLink, IsAmong, IsSession, opened_among, opened_by}
use Rattle.nr_shared_laws.specs.BothSides.{BothSidesGoOn, IsBothSides, IsOfCall, SessionChangesTakeEffectOnce, has_link, is_client_mark, up_to}
use Rattle.nr_shared_laws.proofs.Beginnings.{goes_after, goes_further, own_made, stands_before, stands_in}
use Rattle.nr_shared_laws.proofs.ClientSides.{abandoned_same, accepted_same, asked_in_both, client_same, events_same, is_mark_of}
use Rattle.nr_shared_laws.proofs.GoingOn.{client_kept}
use Rattle.nr_shared_laws.proofs.Once.{either, pick}
use Rattle.nr_shared_laws.proofs.Sessions.{in_session, numbered_among}

-- ---- What a run says of the client of a link, if its client's marks are those of another one

pub record IsSeenAs (link : ℕ) (run own : List Mark) : Type 0 where
  pub events_are : events link Initiator run ≡ events link Initiator own
  pub client_is : (opened : LinkParameters) → client opened link run ≡ client opened link own
  pub accepted : accepted_calls link run ≡ accepted_calls link own
  pub abandoned : (xid : ℕ) → is_abandoned link xid run ≡ is_abandoned link xid own

reopened_as : (opened : LinkParameters) (link : ℕ) (run own : List Mark) → IsSeenAs link run own → reopened opened link run ≡ reopened opened link own
unfolding reopened calls_kept
reopened_as opened link run own v =
    λ i. record opened {
      first_xid = (v.client_is opened i).state.next_xid;
      first_stag = (v.client_is opened i).state.stag;
      resumed = filter (λ (r : ResumedCall). not (v.abandoned r.xid i)) (flat_map (resumed_of (v.accepted i)) (v.client_is opened i).state.outstanding ++ map resumed_again (v.client_is opened i).state.waiting);
      agreed = last_agreement (v.client_is opened i).state;
    }

answer_as : (opened : LinkParameters) (link xid : ℕ) (run own : List Mark) → IsSeenAs link run own → HasAnswer opened link own xid → HasAnswer opened link run xid
answer_as opened link xid run own v has = record { completed = has.completed; is_received = subst (λ (c : EndState ClientState). Contains c.state.outcomes has.completed) (sym (v.client_is opened)) has.is_received; own = has.own }

late_as : (opened : LinkParameters) (link : ℕ) (run own : List Mark) → IsSeenAs link run own → (late : List RunEvent) → AllByRecursion (IsLate opened link own) late → AllByRecursion (IsLate opened link run) late
late_as opened link run own v [] all = tt
late_as opened link run own v (MemoryRevoked place xid ∷ late) all = (answer_as opened link xid run own v all.0, late_as opened link run own v late all.1)
late_as opened link run own v (FrameReceived frame ∷ late) all = absurd all.0
late_as opened link run own v (CallSubmitted place call ∷ late) all = absurd all.0
late_as opened link run own v (CallExecuted call ∷ late) all = absurd all.0
late_as opened link run own v (QueueWritten taken ∷ late) all = absurd all.0
late_as opened link run own v (ServerTold what ∷ late) all = absurd all.0

-- ---- A link of a session

or_true : (b c : Bool) → c ≡ true → (b || c) ≡ true
or_true true c is = refl
or_true false c is = is

members : (xs : List OpenedLink) → AllByRecursion (λ (e : OpenedLink). IsAmong xs e.link) xs
members [] = tt
members (x ∷ xs) = ((λ i. eq-eqb x.link x.link refl i || list_any (λ (e : OpenedLink). eqb e.link x.link) xs), wider xs (members xs)) where
  wider : (es : List OpenedLink) → AllByRecursion (λ (e : OpenedLink). IsAmong xs e.link) es → AllByRecursion (λ (e : OpenedLink). IsAmong (x ∷ xs) e.link) es
  wider [] all = tt
  wider (e ∷ es) all = (or_true (eqb x.link e.link) (list_any (λ (f : OpenedLink). eqb f.link e.link) xs) all.0, wider es all.1)

itself_earlier : (opened : ℕ → LinkParameters) (run : List Mark) (link : ℕ) → IsEarlier opened run link link
itself_earlier opened run link = record { began = []; links = []; goes_on = refl }

other_link : (l : LinkRun) (k link : ℕ) → HasLink l link → has_link l k ≡ false → eqb k link ≡ false
other_link l k link there none = by (eqb k link) refl where
  by : (b : Bool) → eqb k link ≡ b → eqb k link ≡ false
  by true same = absurd (let wrong : true ≡ false = sym there ∙ (ap (has_link l) (sym (eqb-true k link same)) ∙ none) in cc)
  by false other = other

other_side : (l : LinkRun) (k link : ℕ) (side : Side) → HasLink l link → (has_link l k && same_side side Initiator) ≡ false → (eqb k link && same_side side Initiator) ≡ false
other_side l k link side there none = by (eqb k link) refl where
  by : (b : Bool) → eqb k link ≡ b → (eqb k link && same_side side Initiator) ≡ false
  by true same =
      let has : has_link l k ≡ true = ap (has_link l) (eqb-true k link same) ∙ there in
      (λ i. same i && same_side side Initiator) ∙ (sym (λ i. has i && same_side side Initiator) ∙ none)
  by false other = λ i. other i && same_side side Initiator

-- a mark that isn't one of the session's client is not of the client of this link
not_own : (l : LinkRun) (link : ℕ) → HasLink l link → (m : Mark) → is_client_mark l m ≡ false → is_mark_of link m ≡ false
not_own l link there (marks.Wrote k side bytes) none = other_side l k link side there none
not_own l link there (marks.Fed k side bytes) none = other_side l k link side there none
not_own l link there (marks.Submit k call form answer) none = other_link l k link there none
not_own l link there (marks.Execute k xid moment payload place reply) none = refl
not_own l link there (marks.Done k xid outcome) none = other_link l k link there none
not_own l link there (marks.Lost k xid) none = other_link l k link there none
not_own l link there (marks.Forget k xid) none = other_link l k link there none
not_own l link there (marks.Revoke k xid bytes) none = other_link l k link there none
not_own l link there (marks.Drop k) none = refl
not_own l link there (marks.Told k what) none = refl

seen_as : (l : LinkRun) (link : ℕ) → HasLink l link → (run own : List Mark) → filter (is_client_mark l) run ≡ own → IsSeenAs link run own
seen_as l link there run own is =
    let p = is_client_mark l in
    let others = not_own l link there in
    subst (λ (made : List Mark). IsSeenAs link run made) is
    (record { events_are = events_same p link others run; client_is = λ opened. client_same p link others opened run; accepted = accepted_same p link others run; abandoned = λ xid. abandoned_same p link others xid run })

-- ---- The links with the marks of both sides

module _ (l : LinkRun) (both : List Mark) (s : IsSession l) (sides : IsBothSides l both) where
  abbrev cut_at : List Mark → List Mark
  cut_at made = up_to (is_client_mark l) made both

  abbrev in_both : BegunLink → BegunLink
  in_both b = record { link = b.link; began = cut_at b.began }

  view_at : (link : ℕ) → HasLink l link → (made more : List Mark) → l.run ≡ made ++ more → IsSeenAs link (cut_at made) made
  view_at link there made more is = seen_as l link there (cut_at made) made (own_made (is_client_mark l) made both more (sides.client_side ∙ is))

  next_both : (old next : BegunLink) → HasLink l old.link → HasLink l next.link → IsNextLink (opened_by l) l.run old next → IsNextLink (opened_by l) both (in_both old) (in_both next)
  next_both old next has_old has_next n =
      let r = n.reopened in
      let v = view_at old.link has_old next.began r.after r.is_cut in
      let w = seen_as l old.link has_old both l.run sides.client_side in
      let gap = goes_further (is_client_mark l) old.began n.gap both in
      let rest = goes_after (is_client_mark l) next.began both in
      record {
        gap = gap.0;
        later = ap cut_at n.later ∙ gap.1;
        reopened = record {
          after = rest.0;
          is_cut = rest.1;
          numbered = r.numbered;
          stays = subst (λ (c : EndState ClientState). c.ended ≡ None) (sym (v.client_is (opened_by l old.link))) r.stays;
          late = r.late;
          left = w.events_are ∙ (r.left ∙ ap (λ (es : List RunEvent). es ++ r.late) (sym v.events_are));
          harmless = late_as (opened_by l old.link) old.link (cut_at next.began) next.began v r.late r.harmless;
          given_up = λ xid is. ⊎_elim
              (λ (e : is_abandoned old.link xid next.began ≡ true). inl (v.abandoned xid ∙ e))
              (λ (has : HasAnswer (opened_by l old.link) old.link next.began xid). inr (answer_as (opened_by l old.link) old.link xid (cut_at next.began) next.began v has))
              (r.given_up xid (sym (w.abandoned xid) ∙ is));
          next = r.next ∙ sym (reopened_as (opened_by l old.link) old.link (cut_at next.began) next.began v);
          stags = r.stags;
        };
        fresh = ((view_at next.link has_next next.began r.after r.is_cut).events_are ∙ n.fresh.0, sides.begins next.link next.began r.after has_next r.is_cut n.fresh.0);
      }

  goes_both : (first : ℕ) (link : BegunLink) (links : List BegunLink) → GoesOn (opened_by l) l.run first link links → HasLink l link.link → GoesOn (opened_by l) both first (in_both link) (map in_both links)
  goes_both first link [] goes there = goes
  goes_both first link (old ∷ links) goes there =
      let has : HasLink l old.link = numbered_among l.at.opened (l.at ∷ l.left) old.link goes.0.reopened.numbered in (next_both old link has there goes.0, goes_both first old links goes.1 has)

  pub earlier_both : (first link : ℕ) → IsEarlier (opened_by l) l.run first link → HasLink l link → IsEarlier (opened_by l) both first link
  earlier_both first link e there = record { began = cut_at e.began; links = map in_both e.links; goes_on = goes_both first (record { link = link; began = e.began }) e.links e.goes_on there }

  all_both : (xs : List OpenedLink) → AllByRecursion (λ (e : OpenedLink). HasLink l e.link) xs → AreEarlier (opened_by l) l.run xs → AreEarlier (opened_by l) both xs
  all_both [] has all = tt
  all_both (x ∷ xs) has all = (each (x ∷ xs) all.0, all_both xs has.1 all.1) where
    each : (es : List OpenedLink) → AllByRecursion (λ (e : OpenedLink). IsEarlier (opened_by l) l.run e.link x.link) es → AllByRecursion (λ (e : OpenedLink). IsEarlier (opened_by l) both e.link x.link) es
    each [] h = tt
    each (e ∷ es) h = (earlier_both e.link x.link h.0 has.0, each es h.1)

  pub are_earlier_both : AreEarlier (opened_by l) both (l.at ∷ l.left)
  are_earlier_both = all_both (l.at ∷ l.left) (members (l.at ∷ l.left)) s.earlier

  has_earlier : (link earlier : ℕ) → HasLink l link → IsEarlier (opened_by l) both earlier link → HasLink l earlier
  has_earlier link earlier there e = in_session l.at.opened (l.at ∷ l.left) both earlier (record { link = link; began = e.began }) e.links e.goes_on there

  asked_both : (link : ℕ) → HasLink l link → AskedSoFar (opened_by l link) link both
  asked_both link there =
      asked_in_both (is_client_mark l) link (not_own l link there) IsPrefixOf (opened_by l link) both
      (subst (λ (run : List Mark). AtEachMark (AskedMark IsPrefixOf (opened_by l link) link) [] run) (sym sides.client_side) (s.asked_with link there link (itself_earlier (opened_by l) l.run link)))

  pub opened_both : (link : ℕ) → HasLink l link → OpenedWithEarlier (opened_by l) both link
  opened_both link there earlier e = s.opened_with earlier (has_earlier link earlier there e) earlier (itself_earlier (opened_by l) l.run earlier)

  pub matched_both : (link : ℕ) → HasLink l link → MatchedWithEarlier (opened_by l) both link
  matched_both link there earlier e = let has = has_earlier link earlier there e in record { asked = asked_both earlier has; served = sides.served earlier has; matched = sides.matched earlier has }

pub both_sides_go_on : BothSidesGoOn
both_sides_go_on l both s sides = (
  record {
    earlier = are_earlier_both l both s sides;
    opened_with = opened_both l both s sides;
    asked_with = λ link there earlier e. (matched_both l both s sides link there earlier e).asked;
  },
  matched_both l both s sides,
)

-- ---- The number of the client

number_on : (opened : ℕ → LinkParameters) (run : List Mark) (first : ℕ) (link : BegunLink) (links : List BegunLink) → GoesOn opened run first link links → (opened link.link).client.number ≡ (opened first).client.number
number_on opened run first link [] goes = ap (λ (k : ℕ). (opened k).client.number) goes
number_on opened run first link (old ∷ links) goes =
    ap (λ (o : LinkParameters). o.client.number) goes.0.reopened.next ∙ (ap (λ (c : SideTerms). c.number) (client_kept (opened old.link) old.link link.began) ∙ number_on opened run first old links goes.1)

number_of : (l : LinkRun) → IsSession l → (link : ℕ) → HasLink l link → (opened_by l link).client.number ≡ l.at.opened.client.number
number_of l s link there = pick (λ (k : ℕ). (opened_by l k).client.number ≡ l.at.opened.client.number) (l.at ∷ l.left) link (each (l.at ∷ l.left) s.earlier.0) there where
  last : (opened_by l l.at.link).client.number ≡ l.at.opened.client.number
  last = λ i. (cond (eq-eqb l.at.link l.at.link refl i) l.at.opened (opened_among l.at.opened l.left l.at.link)).client.number

  each : (es : List OpenedLink) → AllByRecursion (λ (e : OpenedLink). IsEarlier (opened_by l) l.run e.link l.at.link) es → AllByRecursion (λ (e : OpenedLink). (opened_by l e.link).client.number ≡ l.at.opened.client.number) es
  each [] h = tt
  each (e ∷ es) h = (sym (number_on (opened_by l) l.run e.link (record { link = l.at.link; began = h.0.began }) h.0.links h.0.goes_on) ∙ last, each es h.1)

-- ---- The call of an outcome

of_call : (l : LinkRun) → IsSession l → (link : ℕ) (before : List Mark) (xid : ℕ) (outcome : Outcome) → HasLink l link → MarkAt l.run before (marks.Done link xid outcome) → IsOfCall l link xid
of_call l s link before xid outcome there at =
    let itself = itself_earlier (opened_by l) l.run link in
    let law : AtEachMark (AskedMark IsPrefixOf (opened_by l link) link) [] (before ++ marks.Done link xid outcome ∷ at.after) =
    subst (λ (run : List Mark). AtEachMark (AskedMark IsPrefixOf (opened_by l link) link) [] run) at.is (s.asked_with link there link itself) in
    let done : IsCompleted (opened_by l link) link before xid outcome = AtEachMark_at (AskedMark IsPrefixOf (opened_by l link) link) [] before (marks.Done link xid outcome) at.after law refl in
    let w = done.awaited in
    let a : AcceptedCall = w.asked in
    let submit : IsSubmitted link before a = All-contains (IsSubmitted link before) (accepted_calls link before) a (All-from_recursion (IsSubmitted link before) (accepted_calls link before) (accepted_submitted link before)) w.is_asked in
    let first : Mark = marks.Submit link a.call a.form (submissions.Accepted a.xid) in
    let own : MarkAt l.run submit.before first = stands_before l.run before submit.before first (marks.Done link xid outcome) at submit.at in
    record {
      call = a.call;
      form = a.form;
      asked = record { first = link; earlier = itself; before = submit.before; at = subst (λ (n : ℕ). MarkAt l.run submit.before (marks.Submit link a.call a.form (submissions.Accepted n))) w.own own };
    }

-- ---- Each change once

pub session_changes_take_effect_once : SessionChangesTakeEffectOnce
session_changes_take_effect_once reply_to adds l both T s sides alone numbered fits typed journaled keeps =
    let every : EachChangeOnce (server_with reply_to adds) T (opened_by l) both = changes_take_effect_once reply_to adds (opened_by l) T both typed journaled keeps in
    record {
      once = every.once;
      of_call = of_call l s;
      completed = λ link before xid call form moment payload reply there asked at conveyed some.
          (let number : (opened_by l link).client.number ≡ l.at.opened.client.number = number_of l s link there in
          let done = stands_in (is_client_mark l) both before (marks.Done link xid (outcomes.Reply reply)) at.after (sides.client_side ∙ at.is) in
          let submit = stands_in (is_client_mark l) both asked.before (marks.Submit asked.first call form (submissions.Accepted xid)) asked.at.after (sides.client_side ∙ asked.at.is) in
          let one : IsLinkOf (opened_by l) both (number_heard both link) link = λ other heard same. either (opened_by l) both (l.at ∷ l.left) link other (are_earlier_both l both s sides) there (alone link other there heard same) in
          let there_asked : IsAskedFor (opened_by l) link both xid call form = record { first = asked.first; earlier = earlier_both l both s sides asked.first link asked.earlier there; before = submit.0; at = submit.1 } in
          subst (λ (n : ℕ). HasEntry (server_with reply_to adds) T n xid payload reply) number
          (every.completed link done.0 xid call form moment payload reply one (opened_both l both s sides link there) (matched_both l both s sides link there) (λ none. numbered (sym number ∙ none))
          (subst (λ (n : ℕ). n < 2 ^ 64) (sym number) fits) there_asked done.1 conveyed some));
    }
