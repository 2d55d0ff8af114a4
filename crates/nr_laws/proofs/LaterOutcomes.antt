-- The outcome of a call is handed over once: a call whose outcome came isn't sent again, so no later link has one of it.
use Rattle.std.proofs.Common.{◌≡◌, ◌≢◌, ℕ, ◌<◌, ◌≤◌, Bool, not, eqb, List, [], ◌∷◌, ◌++◌, map, Option, None, Some, refl, sym, ap, subst, ◌∙◌, arith, append_assoc, ◌⊎◌, inl, inr}
use Rattle.std.specs.Prelude.{Contains}
use Rattle.std.specs.List.{AllByRecursion, filter, find, flat_map}
use Rattle.std.proofs.lemmas.List.Elements.{All-contains, All-from_recursion}
use Rattle.nr_wire.specs.declared.hello.Side.TheVariants.{Initiator}
use Rattle.nr_reduce.specs.declared.call.Call.{Call}
use Rattle.nr_reduce.specs.declared.call.Form.{Form}
use Rattle.nr_reduce.specs.declared.call.Outcome.{Outcome}
use Rattle.nr_reduce.specs.declared.call.Submission.TheVariants as submissions
use Rattle.nr_reduce.specs.declared.mark.LinkParameters.{LinkParameters}
use Rattle.nr_reduce.specs.declared.mark.Mark.{Mark}
use Rattle.nr_reduce.specs.declared.mark.Mark.TheVariants as marks
use Rattle.nr_reduce.specs.declared.mark.ResumedCall.{ResumedCall}
use Rattle.nr_reduce.specs.Asked.{AskedMark, AskedSoFar, IsAccepted, IsCompleted}
use Rattle.nr_reduce.specs.ClientState.{ClientState, OutstandingCall, WaitingCall}
use Rattle.nr_reduce.specs.History.{AcceptedCall, CompletedCall, accepted_calls, is_abandoned}
use Rattle.nr_reduce.specs.Matched.{IsPrefixOf}
use Rattle.nr_reduce.specs.Reopening.{resumed_as, resumed_of, resumed_again, calls_kept}
use Rattle.nr_reduce.specs.Run.{client}
use Rattle.nr_reduce.specs.SubmitAnswer.{next_sent_xid}
use Rattle.nr_reduce.proofs.LeftClients.{client_left}
use Rattle.nr_reduce.proofs.OutcomesStay.{outcomes_stay}
use Rattle.nr_reduce.proofs.Steps.{AtEachMark_first}
use Rattle.nr_laws.specs.MarkAt.{MarkAt}
use Rattle.nr_laws.specs.OnceEach.{BegunLink, IsNextLink, GoesOn, IsEarlier, NoOutcomeTwice}
use Rattle.nr_laws.specs.Typed.{TypedMark, IsTyped}
use Rattle.nr_laws.proofs.AtMostOnce.{no_call_twice}
use Rattle.nr_laws.proofs.EarlierLinks.{LinkKeeps, next_opening, xid_below, each_earlier}
use Rattle.nr_laws.proofs.LaterMarks.{mark_later}
use Rattle.nr_laws.proofs.OnceByXid.{at_mark}
use Rattle.nr_laws.proofs.Ordered.{Order, order}
use Rattle.nr_laws.proofs.Ordered.Order.{Here, Behind, Before}
use Rattle.nr_laws.proofs.OutstandingSubmits.{HasSubmit, IsSubmitted, accepted_submitted}
use Rattle.nr_laws.proofs.ResumedCalls.{IsOneOf, WasOutstanding, one_filter, one_append, new_or_again, kept_of}
use Rattle.nr_laws.proofs.RisingCalls.{IsGone, rises_of, waits_above, outcome_gone}

-- ---- What isn't sent again

-- no outstanding call has the xid
not_out : (accepted : List AcceptedCall) (os : List OutstandingCall) (xid : ℕ) (call : Call) (form : Form) → AllByRecursion (λ (o : OutstandingCall). o.xid ≢ xid) os → IsOneOf (flat_map (resumed_of accepted) os) xid call form → ⊥
not_out accepted [] xid call form h one = absurd one
not_out accepted (o ∷ os) xid call form h one = by (not_out accepted os xid call form h.1) (one_append (resumed_of accepted o) (flat_map (resumed_of accepted) os) xid call form one)
  where
    own : (x : Option AcceptedCall) → IsOneOf (resumed_as o x) xid call form → ⊥
    own None wrong = absurd wrong
    own (Some a) (inl this) = h.0 this.xid_is
    own (Some a) (inr wrong) = absurd wrong

    by : (IsOneOf (flat_map (resumed_of accepted) os) xid call form → ⊥) → IsOneOf (resumed_of accepted o) xid call form ⊎ IsOneOf (flat_map (resumed_of accepted) os) xid call form → ⊥
    by later (inl here) = own (find (λ (a : AcceptedCall). eqb a.xid o.xid) accepted) here
    by later (inr there) = later there

-- those that wait have larger xids
not_waiting : (ws : List WaitingCall) (xid next : ℕ) (call : Call) (form : Form) → xid < next → AllByRecursion (λ (w : WaitingCall). next ≤ w.xid) ws → IsOneOf (map resumed_again ws) xid call form → ⊥
not_waiting [] xid next call form lt h one = absurd one
not_waiting (w ∷ ws) xid next call form lt h (inl this) = (let le = h.0 in let same = this.xid_is in omega (arith, lt, le, same))
not_waiting (w ∷ ws) xid next call form lt h (inr one) = not_waiting ws xid next call form lt h.1 one

pub not_kept : (opened : LinkParameters) (link : ℕ) (run : List Mark) (xid : ℕ) (call : Call) (form : Form) → IsGone (client opened link run).state.outstanding (next_sent_xid (client opened link run).state) xid
    → AllByRecursion (λ (w : WaitingCall). next_sent_xid (client opened link run).state ≤ w.xid) (client opened link run).state.waiting → IsOneOf (calls_kept opened link run) xid call form → ⊥
unfolding calls_kept
not_kept opened link run xid call form gone waits one =
    by (one_append (flat_map (resumed_of (accepted_calls link run)) k.outstanding) (map resumed_again k.waiting) xid call form
    (one_filter (λ r. not (is_abandoned link r.xid run)) (flat_map (resumed_of (accepted_calls link run)) k.outstanding ++ map resumed_again k.waiting) xid call form one))
  where
    k : ClientState
    k = (client opened link run).state

    by : IsOneOf (flat_map (resumed_of (accepted_calls link run)) k.outstanding) xid call form ⊎ IsOneOf (map resumed_again k.waiting) xid call form → ⊥
    by (inl out) = not_out (accepted_calls link run) k.outstanding xid call form gone.1 out
    by (inr waiting) = not_waiting k.waiting xid (next_sent_xid k) call form gone.0 waits waiting

-- ---- On no later link

module _ (opened : ℕ → LinkParameters) (run : List Mark) (typed : IsTyped run) where
  -- what a link submitted as a call that is sent again
  pub again_on : (link : ℕ) (cut rest : List Mark) (xid : ℕ) (call : Call) (form : Form) → run ≡ cut ++ rest → AskedSoFar (opened link) link run → xid < (opened link).first_xid
      → WasOutstanding link cut xid call form → (other : Call) × ((way : Form) × IsOneOf (opened link).resumed xid other way)
  again_on link cut rest xid call form is asked below was = by (new_or_again (opened link) link own.before call own.form xid accepted)
    where
      own : HasSubmit link cut xid call
      own = was.own

      at : MarkAt cut own.before (marks.Submit link call own.form (submissions.Accepted xid))
      at = own.at

      there : run ≡ own.before ++ marks.Submit link call own.form (submissions.Accepted xid) ∷ (at.after ++ rest)
      there = is ∙ ap (λ (r : List Mark). r ++ rest) at.is ∙ append_assoc own.before (marks.Submit link call own.form (submissions.Accepted xid) ∷ at.after) rest

      accepted : IsAccepted (opened link) link own.before call own.form xid
      accepted = at_mark (AskedMark IsPrefixOf (opened link) link) run own.before (marks.Submit link call own.form (submissions.Accepted xid)) (at.after ++ rest) there asked refl

      by : ((opened link).first_xid ≤ xid) ⊎ IsOneOf (opened link).resumed xid call own.form → (other : Call) × ((way : Form) × IsOneOf (opened link).resumed xid other way)
      by (inl new) = absurd (omega (arith, new, below))
      by (inr again) = (call, (own.form, again))

  module _ (first : ℕ) (front back : List Mark) (call : Call) (form : Form) (xid : ℕ) (here : run ≡ front ++ marks.Submit first call form (submissions.Accepted xid) ∷ back)
      (outcome : Outcome) (came : Contains (client (opened first) first run).state.outcomes (record { xid = xid; outcome = outcome })) where
    not_resumed : (link old : BegunLink) (links : List BegunLink) → AllByRecursion (LinkKeeps opened run) (old ∷ links) → GoesOn opened run first link (old ∷ links) → (other : Call) (way : Form) → IsOneOf (opened link.link).resumed xid other way → ⊥
    not_resumed link old [] (keeps, none) (n, e) other way one =
        let cut : List Mark = link.began in
        let r = n.reopened in
        let c : CompletedCall = record { xid = xid; outcome = outcome } in
        let near : Contains (client (opened old.link) old.link run).state.outcomes c = subst (λ (l : ℕ). Contains (client (opened l) l run).state.outcomes c) (sym e) came in
        let then : Contains (client (opened old.link) old.link cut).state.outcomes c =
        subst (λ (cs : List CompletedCall). Contains cs c) (client_left (opened old.link) (opened link.link) old.link run cut r).1 near in
        let asked : AskedSoFar (opened old.link) old.link cut = AtEachMark_first (AskedMark IsPrefixOf (opened old.link) old.link) [] cut r.after (subst (AskedSoFar (opened old.link) old.link) r.is_cut keeps.asked) in
        let typed_cut : IsTyped cut = AtEachMark_first TypedMark [] cut r.after (subst IsTyped r.is_cut typed) in
        not_kept (opened old.link) old.link cut xid other way (outcome_gone (opened old.link) old.link cut c keeps.opens typed_cut asked then)
        (waits_above (accepted_calls old.link cut) (client (opened old.link) old.link cut).state (rises_of (opened old.link) old.link cut keeps.opens typed_cut asked))
        (subst (λ (rs : List ResumedCall). IsOneOf rs xid other way) (next_opening opened run old link n).1 one)
    not_resumed link old (older ∷ links) (keeps, others) (n, g) other way one =
        by (λ another form again. not_resumed old older links others g another form again)
        (kept_of (opened old.link) old.link link.began xid other way (subst (λ (rs : List ResumedCall). IsOneOf rs xid other way) (next_opening opened run old link n).1 one))
      where
        below : xid < (opened old.link).first_xid
        below = xid_below opened run first front back call form xid here old older links others g

        by : ((another : Call) (form : Form) → IsOneOf (opened old.link).resumed xid another form → ⊥) → WasOutstanding old.link link.began xid other way ⊎ IsOneOf (opened old.link).resumed xid other way → ⊥
        by earlier (inl was) = (let again = again_on old.link link.began n.reopened.after xid other way n.reopened.is_cut keeps.asked below was in earlier again.0 again.1.0 again.1.1)
        by earlier (inr waits) = earlier other way waits

-- ---- Two outcomes

-- a call whose outcome is handed over was submitted on that link
record SubmittedFor (link : ℕ) (run : List Mark) (xid : ℕ) : Type 0 where
  call : Call
  form : Form
  before : List Mark
  at : MarkAt run before (marks.Submit link call form (submissions.Accepted xid))

submitted_for : (opened : LinkParameters) (link : ℕ) (run before after : List Mark) (xid : ℕ) (outcome : Outcome) → AskedSoFar opened link run → run ≡ before ++ marks.Done link xid outcome ∷ after → SubmittedFor link run xid
submitted_for opened link run before after xid outcome asked is =
    let done : IsCompleted opened link before xid outcome = at_mark (AskedMark IsPrefixOf opened link) run before (marks.Done link xid outcome) after is asked refl in
    let w = done.awaited in
    let a : AcceptedCall = w.asked in
    let s : IsSubmitted link before a = All-contains (IsSubmitted link before) (accepted_calls link before) a (All-from_recursion (IsSubmitted link before) (accepted_calls link before) (accepted_submitted link before)) w.is_asked in
    let there = mark_later run before (marks.Done link xid outcome) after s.before (marks.Submit link a.call a.form (submissions.Accepted a.xid)) is s.at in
    record { call = a.call; form = a.form; before = s.before; at = subst (λ (n : ℕ). MarkAt run s.before (marks.Submit link a.call a.form (submissions.Accepted n))) w.own there }

one_outcome : (opened : LinkParameters) (link : ℕ) (run before other after others : List Mark) (xid : ℕ) (outcome other_outcome : Outcome) → AskedSoFar opened link run
    → run ≡ before ++ marks.Done link xid outcome ∷ after → run ≡ other ++ marks.Done link xid other_outcome ∷ others → before ≡ other
one_outcome opened link run before other after others xid outcome other_outcome asked here there = by (order before first after other second others (sym here ∙ there))
  where
    first : Mark
    first = marks.Done link xid outcome

    second : Mark
    second = marks.Done link xid other_outcome

    by : Order before first after other second others → before ≡ other
    by (Here same mark) = same
    by (Behind between is then) = absurd (no_call_twice opened link run before between xid xid outcome other_outcome asked (record { after = others; is = there ∙ ap (λ (r : List Mark). r ++ second ∷ others) is }) refl)
    by (Before between is then) = absurd (no_call_twice opened link run other between xid xid other_outcome outcome asked (record { after = after; is = here ∙ ap (λ (r : List Mark). r ++ first ∷ after) is }) refl)

pub no_outcome_twice : NoOutcomeTwice
no_outcome_twice opened link other run before other_before xid outcome other_outcome typed e opens asked one two = by e.links e.goes_on
  where
    last : BegunLink
    last = record { link = other; began = e.began }

    itself : IsEarlier opened run other other
    itself = record { began = []; links = []; goes_on = refl }

    -- a later link would have sent it again
    not_later : (old : BegunLink) (links : List BegunLink) → GoesOn opened run link last (old ∷ links) → ⊥
    not_later old links g = sent (new_or_again (opened other) other s.before s.call s.form xid accepted)
      where
        first_asked : AskedSoFar (opened link) link run
        first_asked = asked link (record { began = e.began; links = old ∷ links; goes_on = g })

        keeps : AllByRecursion (LinkKeeps opened run) (old ∷ links)
        keeps = each_earlier opened run link last (old ∷ links) (LinkKeeps opened run) g
            (λ earlier part h. (let is : IsEarlier opened run earlier.link other = record { began = e.began; links = part; goes_on = h } in record { opens = opens earlier.link is; asked = asked earlier.link is }))

        f : SubmittedFor link run xid
        f = submitted_for (opened link) link run before one.after xid outcome first_asked one.is

        f_at : MarkAt run f.before (marks.Submit link f.call f.form (submissions.Accepted xid))
        f_at = f.at

        s : SubmittedFor other run xid
        s = submitted_for (opened other) other run other_before two.after xid other_outcome (asked other itself) two.is

        s_at : MarkAt run s.before (marks.Submit other s.call s.form (submissions.Accepted xid))
        s_at = s.at

        accepted : IsAccepted (opened other) other s.before s.call s.form xid
        accepted = at_mark (AskedMark IsPrefixOf (opened other) other) run s.before (marks.Submit other s.call s.form (submissions.Accepted xid)) s_at.after s_at.is (asked other itself) refl

        done : IsCompleted (opened link) link before xid outcome
        done = at_mark (AskedMark IsPrefixOf (opened link) link) run before (marks.Done link xid outcome) one.after one.is first_asked refl

        came : Contains (client (opened link) link run).state.outcomes (record { xid = xid; outcome = outcome })
        came = subst (λ (r : List Mark). Contains (client (opened link) link r).state.outcomes (record { xid = xid; outcome = outcome })) (sym one.is)
            (outcomes_stay (opened link) link before (marks.Done link xid outcome ∷ one.after) (record { xid = xid; outcome = outcome }) done.is_received)

        sent : ((opened other).first_xid ≤ xid) ⊎ IsOneOf (opened other).resumed xid s.call s.form → ⊥
        sent (inl new) = (let below = xid_below opened run link f.before f_at.after f.call f.form xid f_at.is last old links keeps g in omega (arith, new, below))
        sent (inr again) = not_resumed opened run typed link f.before f_at.after f.call f.form xid f_at.is outcome came last old links keeps g s.call s.form again

    by : (links : List BegunLink) → GoesOn opened run link last links → (link ≡ other) × (before ≡ other_before)
    by [] same = (
      sym same,
      one_outcome (opened link) link run before other_before one.after two.after xid outcome other_outcome (subst (λ (l : ℕ). AskedSoFar (opened l) l run) same (asked other itself)) one.is
          (subst (λ (l : ℕ). run ≡ other_before ++ marks.Done l xid other_outcome ∷ two.after) same two.is),
    )
    by (old ∷ links) g = absurd (not_later old links g)
