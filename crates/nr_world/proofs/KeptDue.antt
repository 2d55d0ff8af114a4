-- The calls that a client's next link is opened with are those of the link that are due: of the others the outcome came and was handed over, or they
-- were given up. And no answer waits.
use Rattle.std.specs.Prelude.{not, ◌||◌, ◌⊎◌}
use Rattle.std.specs.List.{AllByRecursion, filter, flat_map, list_any}
use Rattle.std.proofs.Common.{◌≡◌, ℕ, ◌+◌, ◌≤◌, arith, Bool, true, false, cond, eqb, eqb-true, inl, inr, List, [], ◌∷◌, ◌++◌, map, Option, None, Some, refl, ap, sym, subst, ◌∙◌, append-nil, append_assoc}
use Rattle.std.proofs.lemmas.Bool.{eq-eqb}
use Rattle.std.proofs.lemmas.List.{map-append}
use Rattle.nr_reduce.specs.declared.call.Call.{Call}
use Rattle.nr_reduce.specs.declared.call.Form.{Form}
use Rattle.nr_reduce.specs.declared.mark.LinkParameters.{LinkParameters}
use Rattle.nr_reduce.specs.declared.mark.Mark.{Mark}
use Rattle.nr_reduce.specs.declared.mark.ResumedCall.{ResumedCall}
use Rattle.nr_reduce.specs.Asked.{AskedMark, IsAccepted, as_accepted}
use Rattle.nr_reduce.specs.ClientState.{ClientState, OutstandingCall, WaitingCall}
use Rattle.nr_reduce.specs.History.{AcceptedCall, CompletedCall, accepted_at, accepted_calls, is_abandoned}
use Rattle.nr_reduce.specs.KeptCalls.{numbered_from}
use Rattle.nr_reduce.specs.Matched.{IsPrefixOf}
use Rattle.nr_reduce.specs.OutcomesDue.{is_completed}
use Rattle.nr_reduce.specs.Reopening.{calls_kept, reopened, resumed_again, resumed_as, resumed_of}
use Rattle.nr_reduce.specs.Run.{client}
use Rattle.nr_reduce.specs.SubmitAnswer.{first_xid_or, next_sent_xid}
use Rattle.nr_reduce.proofs.OutcomesApart.{calls_uncompleted}
use Rattle.nr_reduce.proofs.Standing.{itself}
use Rattle.nr_reduce.proofs.Waiting.{accepted_one}
use Rattle.nr_reduce.proofs.XidsFollow.{xids_waiting}
use Rattle.nr_laws.specs.Typed.{TypedMark}
use Rattle.nr_laws.proofs.DistinctKeys.{or_left_lem, or_right_lem}
use Rattle.nr_laws.proofs.OnceByXid.{at_mark, before_mark}
use Rattle.nr_laws.proofs.OutstandingSubmits.{HasSubmit, outstanding_submitted}
use Rattle.nr_laws.proofs.ReopenedLinks.{no_call_is_left_over}
use Rattle.nr_laws.proofs.RisingCalls.{AreBelow, IsRising, RisesAt, call_under, rises_of, rising_from, xids_out}
use Rattle.nr_requester.specs.KeptAnswers.{completed_of, is_due}
use Rattle.nr_requester.specs.RequesterState.{RequesterSide}
use Rattle.nr_requester.specs.declared.answer.AnsweredCall.{AnsweredCall}
use Rattle.nr_requester.proofs.DueAnswers.{Among, to_among}
use Rattle.nr_requester.proofs.OpenTickets.{HasAccepted}
use Rattle.nr_requester.proofs.OutcomesAccepted.{outcomes_accepted}
use Rattle.nr_drill.proofs.OpenCalls.{some_due}
use Rattle.nr_world.specs.LinkStands.{StandsForClient, as_waiting, call_ids, due_calls, waiting_calls}
use Rattle.nr_world.specs.Steps.{MayLeave}
use Rattle.nr_world.proofs.FreshLinks.{next_calls, resumed_call}
use Rattle.nr_world.proofs.Requesters.{kept_outcomes}
use Rattle.nr_reduce.specs.declared.call.Submission.TheVariants as submissions
use Rattle.nr_reduce.specs.declared.mark.Mark.TheVariants as marks

-- ---- Lists of calls

among_left : (xs ys : List AcceptedCall) (a : AcceptedCall) → Among a xs → Among a (xs ++ ys)
among_left [] ys a h = absurd h
among_left (x ∷ xs) ys a (inl is) = inl is
among_left (x ∷ xs) ys a (inr later) = inr (among_left xs ys a later)

among_right : (xs ys : List AcceptedCall) (a : AcceptedCall) → Among a ys → Among a (xs ++ ys)
among_right [] ys a h = h
among_right (x ∷ xs) ys a h = inr (among_right xs ys a h)

among_parts : (xs ys : List AcceptedCall) (a : AcceptedCall) → Among a (xs ++ ys) → Among a xs ⊎ Among a ys
among_parts [] ys a h = inr h
among_parts (x ∷ xs) ys a (inl is) = inl (inl is)
among_parts (x ∷ xs) ys a (inr later) = elim (among_parts xs ys a later) [ inl h ↦ inl (inr h) | inr h ↦ inr h ]

module _ (p : AcceptedCall → Bool) where
  among_filter : (xs : List AcceptedCall) (a : AcceptedCall) → Among a xs → p a ≡ true → Among a (filter p xs)
  among_filter [] a h e = absurd h
  among_filter (x ∷ xs) a (inl is) e = subst (λ (b : Bool). Among a (cond b (x ∷ filter p xs) (filter p xs))) (sym (ap p is ∙ e)) (inl is)
  among_filter (x ∷ xs) a (inr later) e = by (p x) (among_filter xs a later e)
    where
      by : (b : Bool) → Among a (filter p xs) → Among a (cond b (x ∷ filter p xs) (filter p xs))
      by true rest = inr rest
      by false rest = rest

  of_filter : (xs : List AcceptedCall) (a : AcceptedCall) → Among a (filter p xs) → Among a xs × (p a ≡ true)
  of_filter [] a h = absurd h
  of_filter (x ∷ xs) a h = by (p x) refl (of_filter xs a) h
    where
      by : (b : Bool) → p x ≡ b → (Among a (filter p xs) → Among a xs × (p a ≡ true)) → Among a (cond b (x ∷ filter p xs) (filter p xs)) → Among a (x ∷ xs) × (p a ≡ true)
      by true is rest (inl own) = (inl own, ap p (sym own) ∙ is)
      by true is rest (inr more) = (let r = rest more in (inr r.0, r.1))
      by false is rest more = (let r = rest more in (inr r.0, r.1))

-- ---- Calls whose xids rise

abbrev AreRising : ℕ → List AcceptedCall → ℕ → Type 0
AreRising first calls next = IsRising first (call_ids calls) next

rising_append : (first mid next : ℕ) (xs ys : List AcceptedCall) → AreRising first xs mid → AreRising mid ys next → AreRising first (xs ++ ys) next
rising_append first mid next [] ys h more = rising_from mid first next (call_ids ys) h more
rising_append first mid next (x ∷ xs) ys h more = (h.0, rising_append (x.xid + 1) mid next xs ys h.1 more)

rising_filter : (first next : ℕ) (p : AcceptedCall → Bool) (xs : List AcceptedCall) → AreRising first xs next → AreRising first (filter p xs) next
rising_filter first next p [] h = h
rising_filter first next p (x ∷ xs) h = by (p x) (rising_filter (x.xid + 1) next p xs h.1)
  where
    by : (b : Bool) → AreRising (x.xid + 1) (filter p xs) next → AreRising first (cond b (x ∷ filter p xs) (filter p xs)) next
    by true rest = (h.0, rest)
    by false rest = (let least = h.0 in rising_from (x.xid + 1) first next (call_ids (filter p xs)) (omega (arith, least)) rest)

-- none is below the first
least_xid : (first next : ℕ) (xs : List AcceptedCall) (a : AcceptedCall) → AreRising first xs next → Among a xs → first ≤ a.xid
least_xid first next [] a h among = absurd among
least_xid first next (x ∷ xs) a h (inl is) = (let least = h.0 in let same = ap (λ (c : AcceptedCall). c.xid) is in omega (arith, least, same))
least_xid first next (x ∷ xs) a h (inr later) = (let least = h.0 in let rest = least_xid (x.xid + 1) next xs a h.1 later in omega (arith, least, rest))

-- one call each
same_call : (first next : ℕ) (xs : List AcceptedCall) (a b : AcceptedCall) → AreRising first xs next → Among a xs → Among b xs → a.xid ≡ b.xid → a ≡ b
same_call first next [] a b h one other same = absurd one
same_call first next (x ∷ xs) a b h (inl is) (inl also) same = sym is ∙ also
same_call first next (x ∷ xs) a b h (inl is) (inr later) same =
    absurd (let least = least_xid (x.xid + 1) next xs b h.1 later in let own = ap (λ (c : AcceptedCall). c.xid) is in omega (arith, least, own, same))
same_call first next (x ∷ xs) a b h (inr later) (inl is) same =
    absurd (let least = least_xid (x.xid + 1) next xs a h.1 later in let own = ap (λ (c : AcceptedCall). c.xid) is in omega (arith, least, own, same))
same_call first next (x ∷ xs) a b h (inr one) (inr other) same = same_call (x.xid + 1) next xs a b h.1 one other same

-- two such lists with the same elements are one
abbrev Within : List AcceptedCall → List AcceptedCall → Type 0
Within xs ys = (a : AcceptedCall) → Among a xs → Among a ys

within_rest : (next : ℕ) (x y : AcceptedCall) (xs ys : List AcceptedCall) → x ≡ y → AreRising (x.xid + 1) xs next → Within (x ∷ xs) (y ∷ ys) → Within xs ys
within_rest next x y xs ys is h within a among = by (within a (inr among))
  where
    by : Among a (y ∷ ys) → Among a ys
    by (inl own) =
        absurd (let least = least_xid (x.xid + 1) next xs a h among in let same = ap (λ (c : AcceptedCall). c.xid) (is ∙ own) in omega (arith, least, same))
    by (inr later) = later

same_lists : (first other next end : ℕ) (xs ys : List AcceptedCall) → AreRising first xs next → AreRising other ys end → Within xs ys → Within ys xs → xs ≡ ys
same_lists first other next end [] [] h k to from = refl
same_lists first other next end [] (y ∷ ys) h k to from = absurd (from y (inl refl))
same_lists first other next end (x ∷ xs) [] h k to from = absurd (to x (inl refl))
same_lists first other next end (x ∷ xs) (y ∷ ys) h k to from = by (same_lists (x.xid + 1) (y.xid + 1) next end xs ys h.1 k.1) (to x (inl refl)) (from y (inl refl))
  where
    same : (Within xs ys → Within ys xs → xs ≡ ys) → x ≡ y → x ∷ xs ≡ y ∷ ys
    same rest is =
        let tails : xs ≡ ys = rest (within_rest next x y xs ys is h.1 to) (within_rest end y x ys xs (sym is) k.1 from) in
        λ i. is i ∷ tails i

    by : (Within xs ys → Within ys xs → xs ≡ ys) → (y ≡ x) ⊎ Among x ys → (x ≡ y) ⊎ Among y xs → x ∷ xs ≡ y ∷ ys
    by rest (inl is) among = same rest (sym is)
    by rest (inr later) (inl is) = same rest is
    by rest (inr later) (inr also) = absurd (let above = least_xid (y.xid + 1) end ys x k.1 later in let below = least_xid (x.xid + 1) next xs y h.1 also in omega (arith, above, below))

-- ---- The calls of a link

-- a call is above those that were accepted before it
abbrev IsSorted : List AcceptedCall → Type 0
IsSorted calls = (next : ℕ) → AreBelow next calls → AreRising 0 calls next

below_front : (n : ℕ) (xs ys : List AcceptedCall) → AreBelow n (xs ++ ys) → AreBelow n xs × AreBelow n ys
below_front n [] ys h = (tt, h)
below_front n (x ∷ xs) ys h = (let rest = below_front n xs ys h.1 in ((h.0, rest.0), rest.1))

sorted_last : (calls : List AcceptedCall) (a : AcceptedCall) → AreBelow a.xid calls → IsSorted calls → IsSorted (calls ++ a ∷ [])
sorted_last calls a below h next all =
    let last = (below_front next calls (a ∷ []) all).1.0 in
    rising_append 0 a.xid next calls (a ∷ []) (h a.xid below) (omega arith, omega (arith, last))

module _ (o : LinkParameters) (link : ℕ) (run : List Mark) (m : MayLeave o link run) where
  abbrev k : ClientState
  k = (client o link run).state

  abbrev accepted : List AcceptedCall
  accepted = accepted_calls link run

  abbrev waits : List AcceptedCall
  waits = waiting_calls o link run

  abbrev kept_on : AcceptedCall → Bool
  kept_on a = not (is_abandoned link a.xid run)

  abbrev due : AcceptedCall → Bool
  due a = is_due link run a.xid

  -- the call that is accepted at a mark is above the others
  accepted_above : (before rest : List Mark) (call : Call) (form : Form) (xid : ℕ) → run ≡ before ++ marks.Submit link call form (submissions.Accepted xid) ∷ rest → AreBelow xid (accepted_calls link before)
  accepted_above before rest call form xid cut =
      let submit : Mark = marks.Submit link call form (submissions.Accepted xid) in
      let is : IsAccepted o link before call form xid = at_mark (AskedMark IsPrefixOf o link) run before submit rest cut m.asked refl in
      let rises : RisesAt (accepted_calls link before) (client o link before).state =
      rises_of o link before m.opens (before_mark TypedMark run before submit rest cut m.typed) (before_mark (AskedMark IsPrefixOf o link) run before submit rest cut m.asked) in
      subst (λ (n : ℕ). AreBelow n (accepted_calls link before)) (sym is.next) rises.below

  sorted_mark : (before rest : List Mark) (mark : Mark) → run ≡ before ++ mark ∷ rest → IsSorted (accepted_calls link before) → IsSorted (accepted_calls link before ++ accepted_at link mark)
  sorted_mark before rest (marks.Submit l call form (submissions.Accepted xid)) cut h = by (eqb l link) refl
    where
      by : (b : Bool) → eqb l link ≡ b → IsSorted (accepted_calls link before ++ cond b (record { xid = xid; call = call; form = form } ∷ []) [])
      by true is =
          let own : run ≡ before ++ marks.Submit link call form (submissions.Accepted xid) ∷ rest = cut ∙ ap (λ (n : ℕ). before ++ marks.Submit n call form (submissions.Accepted xid) ∷ rest) (eqb-true l link is) in
          sorted_last (accepted_calls link before) (record { xid = xid; call = call; form = form }) (accepted_above before rest call form xid own) h
      by false is = subst IsSorted (sym (append-nil (accepted_calls link before))) h
  sorted_mark before rest (marks.Submit l call form (submissions.Refused why)) cut h = by (eqb l link)
    where
      by : (b : Bool) → IsSorted (accepted_calls link before ++ cond {A = List AcceptedCall} b [] [])
      by true = subst IsSorted (sym (append-nil (accepted_calls link before))) h
      by false = subst IsSorted (sym (append-nil (accepted_calls link before))) h
  sorted_mark before rest (marks.Submit l call form submissions.Dropped) cut h = by (eqb l link)
    where
      by : (b : Bool) → IsSorted (accepted_calls link before ++ cond {A = List AcceptedCall} b [] [])
      by true = subst IsSorted (sym (append-nil (accepted_calls link before))) h
      by false = subst IsSorted (sym (append-nil (accepted_calls link before))) h
  sorted_mark before rest (marks.Wrote l side bytes) cut h = subst IsSorted (sym (append-nil (accepted_calls link before))) h
  sorted_mark before rest (marks.Fed l side bytes) cut h = subst IsSorted (sym (append-nil (accepted_calls link before))) h
  sorted_mark before rest (marks.Execute l xid moment payload place reply) cut h = subst IsSorted (sym (append-nil (accepted_calls link before))) h
  sorted_mark before rest (marks.Done l xid outcome) cut h = subst IsSorted (sym (append-nil (accepted_calls link before))) h
  sorted_mark before rest (marks.Lost l xid) cut h = subst IsSorted (sym (append-nil (accepted_calls link before))) h
  sorted_mark before rest (marks.Forget l xid) cut h = subst IsSorted (sym (append-nil (accepted_calls link before))) h
  sorted_mark before rest (marks.Revoke l xid bytes) cut h = subst IsSorted (sym (append-nil (accepted_calls link before))) h
  sorted_mark before rest (marks.Drop l) cut h = subst IsSorted (sym (append-nil (accepted_calls link before))) h
  sorted_mark before rest (marks.Told l what) cut h = subst IsSorted (sym (append-nil (accepted_calls link before))) h

  sorted_from : (before rest : List Mark) → run ≡ before ++ rest → IsSorted (accepted_calls link before) → IsSorted accepted
  sorted_from before [] cut h = subst (λ (r : List Mark). IsSorted (accepted_calls link r)) (sym (cut ∙ append-nil before)) h
  sorted_from before (mark ∷ rest) cut h =
      sorted_from (before ++ mark ∷ []) rest (cut ∙ sym (append_assoc before (mark ∷ []) rest)) (subst IsSorted (sym (accepted_one link before mark)) (sorted_mark before rest mark cut h))

  sorted_none : IsSorted (accepted_calls link [])
  unfolding accepted_calls
  sorted_none next below = omega arith

  rises : RisesAt accepted k
  rises = rises_of o link run m.opens m.typed m.asked

  accepted_rise : AreRising 0 accepted (next_sent_xid k)
  accepted_rise = sorted_from [] run refl sorted_none (next_sent_xid k) rises.below

  -- those that wait are above them
  waits_from : (n : ℕ) (ws : List WaitingCall) → IsRising n (xids_waiting ws) k.next_xid → AreRising n (map as_waiting ws) k.next_xid
  waits_from n [] h = h
  waits_from n (w ∷ ws) h = (h.0, waits_from (w.xid + 1) ws h.1)

  waits_rise : AreRising (next_sent_xid k) waits k.next_xid
  waits_rise = by k.waiting (back 1 k.outstanding rises.rising)
    where
      back : (first : ℕ) (os : List OutstandingCall) → IsRising first (xids_out os ++ xids_waiting k.waiting) k.next_xid → (n : ℕ) × IsRising n (xids_waiting k.waiting) k.next_xid
      back first [] rest = (first, rest)
      back first (c ∷ os) rest = back (c.xid + 1) os rest.1

      by : (ws : List WaitingCall) → (n : ℕ) × IsRising n (xids_waiting ws) k.next_xid → AreRising (first_xid_or k.next_xid ws) (map as_waiting ws) k.next_xid
      by [] rest = omega arith
      by (w ∷ ws) rest = (omega arith, waits_from (w.xid + 1) ws rest.1.1)

  link_rises : AreRising 0 (accepted ++ waits) k.next_xid
  link_rises = rising_append 0 (next_sent_xid k) k.next_xid accepted waits accepted_rise waits_rise

  -- ---- The calls that are kept

  -- an outstanding call as it is sent again
  abbrev sent_again : List OutstandingCall → List AcceptedCall
  sent_again os = map resumed_call (flat_map (resumed_of accepted) os)

  filter_map : (rs : List ResumedCall) → map resumed_call (filter (λ (r : ResumedCall). not (is_abandoned link r.xid run)) rs) ≡ filter kept_on (map resumed_call rs)
  filter_map [] = refl
  filter_map (r ∷ rs) = by (not (is_abandoned link r.xid run)) (filter_map rs)
    where
      rest : List ResumedCall
      rest = filter (λ (x : ResumedCall). not (is_abandoned link x.xid run)) rs

      by : (b : Bool) → map resumed_call rest ≡ filter kept_on (map resumed_call rs) → map resumed_call (cond b (r ∷ rest) rest) ≡ cond b (resumed_call r ∷ filter kept_on (map resumed_call rs)) (filter kept_on (map resumed_call rs))
      by true e = λ i. resumed_call r ∷ e i
      by false e = e

  waits_again : (ws : List WaitingCall) → map resumed_call (map resumed_again ws) ≡ map as_waiting ws
  waits_again [] = refl
  waits_again (w ∷ ws) = λ i. as_waiting w ∷ waits_again ws i

  kept_are : next_calls (reopened o link run) ≡ filter kept_on (sent_again k.outstanding ++ waits)
  unfolding reopened calls_kept
  kept_are =
      filter_map (flat_map (resumed_of accepted) k.outstanding ++ map resumed_again k.waiting)
      ∙ ap (filter kept_on) (map-append resumed_call (flat_map (resumed_of accepted) k.outstanding) (map resumed_again k.waiting) ∙ ap (λ (cs : List AcceptedCall). sent_again k.outstanding ++ cs) (waits_again k.waiting))

  -- their xids rise
  one_rises : (first : ℕ) (c : OutstandingCall) (x : Option AcceptedCall) (rest : List AcceptedCall) → first ≤ c.xid → AreRising (c.xid + 1) rest k.next_xid → AreRising first (map resumed_call (resumed_as c x) ++ rest) k.next_xid
  one_rises first c None rest least h = rising_from (c.xid + 1) first k.next_xid (call_ids rest) (omega (arith, least)) h
  one_rises first c (Some x) rest least h = (least, h)

  sent_rise : (first : ℕ) (os : List OutstandingCall) → IsRising first (xids_out os ++ xids_waiting k.waiting) k.next_xid → AreRising first (sent_again os ++ waits) k.next_xid
  sent_rise first [] h = waits_from first k.waiting h
  sent_rise first (c ∷ os) h =
      let own : List AcceptedCall = map resumed_call (resumed_of accepted c) in
      let split : sent_again (c ∷ os) ++ waits ≡ own ++ (sent_again os ++ waits) =
      ap (λ (cs : List AcceptedCall). cs ++ waits) (map-append resumed_call (resumed_of accepted c) (flat_map (resumed_of accepted) os)) ∙ append_assoc own (sent_again os) waits in
      subst (λ (cs : List AcceptedCall). AreRising first cs k.next_xid) (sym split) (one_rises first c (call_under c.xid accepted) (sent_again os ++ waits) h.0 (sent_rise (c.xid + 1) os h.1))

  kept_rise : AreRising 1 (filter kept_on (sent_again k.outstanding ++ waits)) k.next_xid
  kept_rise = rising_filter 1 k.next_xid kept_on (sent_again k.outstanding ++ waits) (sent_rise 1 k.outstanding rises.rising)

  -- ---- Each is a call of the link that isn't completed

  record IsOfLink (c : OutstandingCall) : Type 0 where
    form : Form
    there : Among (record { xid = c.xid; call = c.call; form = form }) accepted
    uncompleted : is_completed link c.xid run ≡ false

  accepted_there : (before after : List Mark) (call : Call) (form : Form) (xid : ℕ) → Among (record { xid = xid; call = call; form = form }) (accepted_calls link (before ++ marks.Submit link call form (submissions.Accepted xid) ∷ after))
  unfolding accepted_calls
  accepted_there [] after call form xid =
      subst (λ (b : Bool). Among (record { xid = xid; call = call; form = form }) (cond b (record { xid = xid; call = call; form = form } ∷ []) [] ++ accepted_calls link after)) (sym (itself link)) (inl refl)
  accepted_there (mark ∷ before) after call form xid =
      among_right (accepted_at link mark) (accepted_calls link (before ++ marks.Submit link call form (submissions.Accepted xid) ∷ after)) (record { xid = xid; call = call; form = form }) (accepted_there before after call form xid)

  of_link : (c : OutstandingCall) → HasSubmit link run c.xid c.call → is_completed link c.xid run ≡ false → IsOfLink c
  of_link c own none = record {
    form = own.form;
    there =
        subst (λ (r : List Mark). Among (record { xid = c.xid; call = c.call; form = own.form }) (accepted_calls link r)) (sym own.at.is)
        (accepted_there own.before own.at.after c.call own.form c.xid);
    uncompleted = none;
  }

  all_of_link : (os : List OutstandingCall) → AllByRecursion (λ (c : OutstandingCall). HasSubmit link run c.xid c.call) os → AllByRecursion (λ (c : OutstandingCall). is_completed link c.xid run ≡ false) os → AllByRecursion IsOfLink os
  all_of_link [] own none = tt
  all_of_link (c ∷ os) own none = (of_link c own.0 none.0, all_of_link os own.1 none.1)

  parts : (xs ys : List OutstandingCall) → AllByRecursion (λ (c : OutstandingCall). is_completed link c.xid run ≡ false) (xs ++ ys) →
      AllByRecursion (λ (c : OutstandingCall). is_completed link c.xid run ≡ false) xs × AllByRecursion (λ (c : OutstandingCall). is_completed link c.xid run ≡ false) ys
  parts [] ys h = (tt, h)
  parts (x ∷ xs) ys h = (let rest = parts xs ys h.1 in ((h.0, rest.0), rest.1))

  uncompleted : AllByRecursion (λ (c : OutstandingCall). is_completed link c.xid run ≡ false) k.outstanding × AllByRecursion (λ (c : OutstandingCall). is_completed link c.xid run ≡ false) (numbered_from k.sends k.waiting)
  uncompleted = parts k.outstanding (numbered_from k.sends k.waiting) (calls_uncompleted o link run m.opens m.asked)

  found : (calls : List AcceptedCall) (xid : ℕ) (x : AcceptedCall) → call_under xid calls ≡ Some x → Among x calls × (x.xid ≡ xid)
  found [] xid x e = absurd cc
  found (c ∷ calls) xid x e = by (eqb c.xid xid) refl e (found calls xid x)
    where
      by : (b : Bool) → eqb c.xid xid ≡ b → cond b (Some c) (call_under xid calls) ≡ Some x → (call_under xid calls ≡ Some x → Among x calls × (x.xid ≡ xid)) → Among x (c ∷ calls) × (x.xid ≡ xid)
      by true is e later = (let same : c ≡ x = cc in (inl same, ap (λ (y : AcceptedCall). y.xid) (sym same) ∙ eqb-true c.xid xid is))
      by false is e later = (let f = later e in (inr f.0, f.1))

  abbrev IsCall : AcceptedCall → List AcceptedCall → Type 0
  IsCall a calls = Among a calls × (is_completed link a.xid run ≡ false)

  one_again : (c : OutstandingCall) (a : AcceptedCall) → IsOfLink c → (x : Option AcceptedCall) → call_under c.xid accepted ≡ x → Among a (map resumed_call (resumed_as c x)) → IsCall a accepted
  one_again c a h None is among = absurd among
  one_again c a h (Some x) is (inr none) = absurd none
  one_again c a h (Some x) is (inl own) =
      let f = found accepted c.xid x is in
      let same : x ≡ record { xid = c.xid; call = c.call; form = h.form } = same_call 0 (next_sent_xid k) accepted x (record { xid = c.xid; call = c.call; form = h.form }) accepted_rise f.0 h.there f.1 in
      let is_a : record { xid = c.xid; call = c.call; form = h.form } ≡ a = ap (λ (y : AcceptedCall). record { xid = c.xid; call = c.call; form = y.form }) (sym same) ∙ own in
      (subst (λ (y : AcceptedCall). Among y accepted) is_a h.there, subst (λ (y : AcceptedCall). is_completed link y.xid run ≡ false) own h.uncompleted)

  sent_is : (os : List OutstandingCall) (a : AcceptedCall) → AllByRecursion IsOfLink os → Among a (sent_again os) → IsCall a accepted
  sent_is [] a h among = absurd among
  sent_is (c ∷ os) a h among =
      by (sent_is os a h.1) (among_parts (map resumed_call (resumed_of accepted c)) (sent_again os) a (subst (λ (cs : List AcceptedCall). Among a cs) (map-append resumed_call (resumed_of accepted c) (flat_map (resumed_of accepted) os)) among))
    where
      by : (Among a (sent_again os) → IsCall a accepted) → Among a (map resumed_call (resumed_of accepted c)) ⊎ Among a (sent_again os) → IsCall a accepted
      by rest (inl one) = one_again c a h.0 (call_under c.xid accepted) refl one
      by rest (inr later) = rest later

  waits_is : (send : ℕ) (ws : List WaitingCall) (a : AcceptedCall) → AllByRecursion (λ (c : OutstandingCall). is_completed link c.xid run ≡ false) (numbered_from send ws) → Among a (map as_waiting ws) → is_completed link a.xid run ≡ false
  waits_is send [] a none among = absurd among
  waits_is send (w ∷ ws) a none (inl own) = subst (λ (y : AcceptedCall). is_completed link y.xid run ≡ false) own none.0
  waits_is send (w ∷ ws) a none (inr later) = waits_is (send + 1) ws a none.1 later

  kept_call : (a : AcceptedCall) → Among a (sent_again k.outstanding ++ waits) → IsCall a (accepted ++ waits)
  kept_call a among = by (among_parts (sent_again k.outstanding) waits a among)
    where
      by : Among a (sent_again k.outstanding) ⊎ Among a waits → IsCall a (accepted ++ waits)
      by (inl sent) = (let is = sent_is k.outstanding a (all_of_link k.outstanding (outstanding_submitted o link run) uncompleted.0) sent in (among_left accepted waits a is.0, is.1))
      by (inr waiting) = (among_right accepted waits a waiting, waits_is k.sends k.waiting a uncompleted.1 waiting)

  due_if : (given_up completed : Bool) → not given_up ≡ true → completed ≡ false → not (given_up || completed) ≡ true
  due_if true completed e f = absurd cc
  due_if false completed e f = ap not f

  kept_due : Within (filter kept_on (sent_again k.outstanding ++ waits)) (filter due (accepted ++ waits))
  kept_due a among =
      let kept = of_filter kept_on (sent_again k.outstanding ++ waits) a among in
      let call = kept_call a kept.0 in
      among_filter due (accepted ++ waits) a call.0 (due_if (is_abandoned link a.xid run) (is_completed link a.xid run) kept.1 call.1)

  -- ---- Each call of the link that is due is kept

  any_among : (calls : List AcceptedCall) (a : AcceptedCall) → Among a calls → list_any (λ (x : AcceptedCall). eqb x.xid a.xid) calls ≡ true
  any_among [] a h = absurd h
  any_among (x ∷ calls) a (inl is) = or_left_lem (eqb x.xid a.xid) (list_any (λ (y : AcceptedCall). eqb y.xid a.xid) calls) (eq-eqb x.xid a.xid (ap (λ (y : AcceptedCall). y.xid) is))
  any_among (x ∷ calls) a (inr later) = or_right_lem (eqb x.xid a.xid) (list_any (λ (y : AcceptedCall). eqb y.xid a.xid) calls) (any_among calls a later)

  resumed_there : (rs : List ResumedCall) (xid : ℕ) → list_any (λ (r : ResumedCall). eqb r.xid xid) rs ≡ true → (c : AcceptedCall) × (Among c (map resumed_call rs) × (c.xid ≡ xid))
  resumed_there [] xid e = absurd cc
  resumed_there (r ∷ rs) xid e = by (eqb r.xid xid) refl e (resumed_there rs xid)
    where
      by : (b : Bool) → eqb r.xid xid ≡ b → (b || list_any (λ (x : ResumedCall). eqb x.xid xid) rs) ≡ true → (list_any (λ (x : ResumedCall). eqb x.xid xid) rs ≡ true → (c : AcceptedCall) × (Among c (map resumed_call rs) × (c.xid ≡ xid))) →
          (c : AcceptedCall) × (Among c (map resumed_call (r ∷ rs)) × (c.xid ≡ xid))
      by true is e later = (resumed_call r, (inl refl, eqb-true r.xid xid is))
      by false is e later = (let f = later e in (f.0, (inr f.1.0, f.1.1)))

  neither : (a b : Bool) → not (a || b) ≡ true → (a ≡ false) × (b ≡ false)
  neither true b e = absurd cc
  neither false true e = absurd cc
  neither false false e = (refl, refl)

  -- an accepted call whose outcome came would have it due
  has_none : (a : AcceptedCall) → Among a accepted → due a ≡ true → list_any (λ (c : CompletedCall). eqb c.xid a.xid) k.outcomes ≡ true → ⊥
  has_none a among is came =
      let open_still = neither (is_abandoned link a.xid run) (is_completed link a.xid run) is in
      some_due o link run a.xid (any_among accepted a among) came open_still.1 open_still.0 m.none_due

  accepted_kept : (a : AcceptedCall) → Among a accepted → due a ≡ true → Among a (filter kept_on (sent_again k.outstanding ++ waits))
  accepted_kept a among is = by (list_any (λ (c : CompletedCall). eqb c.xid a.xid) k.outcomes) refl
      (no_call_is_left_over o link run a.xid m.stays (neither (is_abandoned link a.xid run) (is_completed link a.xid run) is).0
      (any_among (map as_accepted o.resumed ++ accepted) a (among_right (map as_accepted o.resumed) accepted a among)))
    where
      by : (b : Bool) → list_any (λ (c : CompletedCall). eqb c.xid a.xid) k.outcomes ≡ b → (b || list_any (λ (r : ResumedCall). eqb r.xid a.xid) (reopened o link run).resumed) ≡ true → Among a (filter kept_on (sent_again k.outstanding ++ waits))
      by true came e = absurd (has_none a among is came)
      by false came e =
          let next = resumed_there (reopened o link run).resumed a.xid e in
          let kept : Among next.0 (filter kept_on (sent_again k.outstanding ++ waits)) = subst (λ (cs : List AcceptedCall). Among next.0 cs) kept_are next.1.0 in
          let there = (of_filter due (accepted ++ waits) next.0 (kept_due next.0 kept)).0 in
          subst (λ (c : AcceptedCall). Among c (filter kept_on (sent_again k.outstanding ++ waits))) (same_call 0 k.next_xid (accepted ++ waits) next.0 a link_rises there (among_left accepted waits a among) next.1.1) kept

  due_kept : Within (filter due (accepted ++ waits)) (filter kept_on (sent_again k.outstanding ++ waits))
  due_kept a among = by (among_parts accepted waits a (of_filter due (accepted ++ waits) a among).0)
    where
      is : due a ≡ true
      is = (of_filter due (accepted ++ waits) a among).1

      by : Among a accepted ⊎ Among a waits → Among a (filter kept_on (sent_again k.outstanding ++ waits))
      by (inl one) = accepted_kept a one is
      by (inr waiting) =
          among_filter kept_on (sent_again k.outstanding ++ waits) a (among_right (sent_again k.outstanding) waits a waiting) (ap not (neither (is_abandoned link a.xid run) (is_completed link a.xid run) is).0)

  pub kept_are_due : next_calls (reopened o link run) ≡ due_calls o link run
  unfolding due_calls
  kept_are_due =
      kept_are
      ∙ same_lists 1 0 k.next_xid k.next_xid (filter kept_on (sent_again k.outstanding ++ waits)) (filter due (accepted ++ waits)) kept_rise (rising_filter 0 k.next_xid due (accepted ++ waits) link_rises) kept_due due_kept

  -- ---- No answer waits

  none_left : (cs : List CompletedCall) → AllByRecursion (λ (c : CompletedCall). is_due link run c.xid ≡ false) cs → filter (λ (c : CompletedCall). is_due link run c.xid) cs ≡ []
  none_left [] h = refl
  none_left (c ∷ cs) h = ap (λ (b : Bool). cond b (c ∷ filter (λ (x : CompletedCall). is_due link run x.xid) cs) (filter (λ (x : CompletedCall). is_due link run x.xid) cs)) h.0 ∙ none_left cs h.1

  outcome_any : (cs : List CompletedCall) (c : CompletedCall) → Among c cs → list_any (λ (x : CompletedCall). eqb x.xid c.xid) cs ≡ true
  outcome_any [] c h = absurd h
  outcome_any (x ∷ cs) c (inl is) = or_left_lem (eqb x.xid c.xid) (list_any (λ (y : CompletedCall). eqb y.xid c.xid) cs) (eq-eqb x.xid c.xid (ap (λ (y : CompletedCall). y.xid) is))
  outcome_any (x ∷ cs) c (inr later) = or_right_lem (eqb x.xid c.xid) (list_any (λ (y : CompletedCall). eqb y.xid c.xid) cs) (outcome_any cs c later)

  not_due : (c : CompletedCall) → HasAccepted link run c.xid → Among c k.outcomes → is_due link run c.xid ≡ false
  not_due c there among = by (is_due link run c.xid) refl
    where
      own : there.0.xid ≡ c.xid
      own = there.1.1

      by : (b : Bool) → is_due link run c.xid ≡ b → b ≡ false
      by true is =
          absurd (has_none there.0 (to_among there.0 accepted there.1.0) (ap (λ (n : ℕ). is_due link run n) own ∙ is)
          (ap (λ (n : ℕ). list_any (λ (x : CompletedCall). eqb x.xid n) k.outcomes) own ∙ outcome_any k.outcomes c among))
      by false is = refl

  all_not_due : (cs : List CompletedCall) → ((c : CompletedCall) → Among c cs → Among c k.outcomes) → AllByRecursion (λ (c : CompletedCall). HasAccepted link run c.xid) cs → AllByRecursion (λ (c : CompletedCall). is_due link run c.xid ≡ false) cs
  all_not_due [] within there = tt
  all_not_due (c ∷ cs) within there = (not_due c there.0 (within c (inl refl)), all_not_due cs (λ x among. within x (inr among)) there.1)

  none_answered : (answers : List AnsweredCall) → map completed_of answers ≡ [] → answers ≡ []
  none_answered [] e = refl
  none_answered (a ∷ answers) e = absurd cc

  outcomes_settled : filter (λ (c : CompletedCall). is_due link run c.xid) k.outcomes ≡ []
  outcomes_settled = none_left k.outcomes (all_not_due k.outcomes (λ c among. among) (outcomes_accepted o link run))

pub no_answers : (o : LinkParameters) (link : ℕ) (h : RequesterSide) (run : List Mark) → MayLeave o link run → StandsForClient o link h run → h.state.answered ≡ []
no_answers o link h run m stands = none_answered o link run m h.state.answered (kept_outcomes o link h run stands ∙ outcomes_settled o link run m)
