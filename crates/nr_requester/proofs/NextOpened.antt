-- The next link of a requester that can leave its link is opened in range.
use Rattle.std.proofs.Common.{◌≡◌, ℕ, suc, ◌+◌, ◌-◌, ◌<◌, ◌≤◌, Bool, true, false, cond, not, eqb, ltb, List, [], ◌∷◌, ◌++◌, length, map, Option, None, Some, refl, sym, ap, subst, ◌∙◌, arith}
use Rattle.std.specs.List.{AllByRecursion, filter, find, flat_map}
use Rattle.std.proofs.lemmas.Bool.{ltb-false}
use Rattle.nr_link.specs.declared.agreement.Agreement.{Agreement}
use Rattle.nr_link.specs.declared.end.End.{End}
use Rattle.nr_reduce.specs.declared.call.Refused.{Refused}
use Rattle.nr_reduce.specs.declared.call.Refused.TheVariants as refusals
use Rattle.nr_reduce.specs.declared.mark.LinkParameters.{LinkParameters}
use Rattle.nr_reduce.specs.declared.mark.Mark.{Mark}
use Rattle.nr_reduce.specs.declared.mark.ResumedCall.{ResumedCall}
use Rattle.nr_reduce.specs.Limits.{numbers_end}
use Rattle.nr_reduce.specs.Asked.{AskedSoFar, IsPlannedAs}
use Rattle.nr_reduce.specs.ClientState.{ClientState, OutstandingCall, WaitingCall}
use Rattle.nr_reduce.specs.History.{AcceptedCall, accepted_calls, is_abandoned}
use Rattle.nr_reduce.specs.KeptCalls.{KeptCall}
use Rattle.nr_reduce.specs.KeptClient.{AreRising, CanResume}
use Rattle.nr_reduce.specs.KeptReopening.{AreSentAgain}
use Rattle.nr_reduce.specs.Opening.{AreResumed, IsOpened, IsResumed}
use Rattle.nr_reduce.specs.Reopening.{calls_kept, reopened, resumed_again, resumed_as, resumed_of}
use Rattle.nr_reduce.specs.Run.{client}
use Rattle.nr_reduce.specs.StandingLaws.{xid_after, xid_of_send}
use Rattle.nr_reduce.proofs.FoundCalls.{IsFound, calls_found}
use Rattle.nr_reduce.proofs.OwnStags.{client_known}
use Rattle.nr_reduce.proofs.RisingXids.{xids_from_one}
use Rattle.nr_reduce.proofs.StagsLeft.{stags_left_lem}
use Rattle.nr_reduce.proofs.WaitingFit.{AreFit, waiting_fit}
use Rattle.nr_reduce.proofs.XidsFollow.{ComesNext, Follows, both_follow, xids_waiting}
use Rattle.nr_requester.specs.RequesterState.{RequesterState, RequesterSide, kept_call}
use Rattle.nr_requester.specs.ReopenedLinks.{RequesterKeeps}
use Rattle.nr_requester.specs.Reopening.{AgreedInRange, NextLinksAreOpened, reopen_refusal, reopen_refusal_by, stags_for_calls, unless_stags_spent}
use Rattle.nr_requester.proofs.AnswerSteps.{all_append, all_as, all_filter}
use Rattle.nr_requester.proofs.CallsGoOn.{calls_go_on, calls_sent_again}
use Rattle.nr_requester.proofs.SizedCalls.{IsAgain, limits}
use Rattle.nr_requester.proofs.SizedLinks.{calls_again, limits_in_range, waits_again}

-- ---- A property of each call that is sent again

-- an outstanding call, as it was accepted, has it
record OfAccepted (P : ResumedCall → Type 0) (accepted : List AcceptedCall) (o : OutstandingCall) : Type 0 where
  own : AcceptedCall
  found : find (λ (a : AcceptedCall). eqb a.xid o.xid) accepted ≡ Some own
  holds : P (record { xid = o.xid; call = o.call; form = own.form; plan = o.plan })

of_outstanding : (P : ResumedCall → Type 0) (accepted : List AcceptedCall) (os : List OutstandingCall) → AllByRecursion (OfAccepted P accepted) os → AllByRecursion P (flat_map (resumed_of accepted) os)
of_outstanding P accepted [] h = tt
of_outstanding P accepted (o ∷ os) h =
    subst (λ (a : Option AcceptedCall). AllByRecursion P (resumed_as o a ++ flat_map (resumed_of accepted) os)) (sym h.0.found) (h.0.holds, of_outstanding P accepted os h.1)

of_waiting : (P : ResumedCall → Type 0) (ws : List WaitingCall) → AllByRecursion (λ (w : WaitingCall). P (resumed_again w)) ws → AllByRecursion P (map resumed_again ws)
of_waiting P [] h = tt
of_waiting P (w ∷ ws) h = (h.0, of_waiting P ws h.1)

of_kept : (P : ResumedCall → Type 0) (opened : LinkParameters) (link : ℕ) (run : List Mark) → AllByRecursion (OfAccepted P (accepted_calls link run)) (client opened link run).state.outstanding →
    AllByRecursion (λ (w : WaitingCall). P (resumed_again w)) (client opened link run).state.waiting → AllByRecursion P (calls_kept opened link run)
unfolding calls_kept
of_kept P opened link run outstanding waits =
    let k : ClientState = (client opened link run).state in
    let first : List ResumedCall = flat_map (resumed_of (accepted_calls link run)) k.outstanding in
    all_filter P (λ (r : ResumedCall). not (is_abandoned link r.xid run)) (first ++ map resumed_again k.waiting)
    (all_append P first (map resumed_again k.waiting) (of_outstanding P (accepted_calls link run) k.outstanding outstanding) (of_waiting P k.waiting waits))

-- ---- They can be resumed

all_rising : (p : KeptCall → Bool) (cs : List KeptCall) (next : ℕ) → AreRising cs next → AreRising (filter p cs) next
all_rising p [] next h = tt
all_rising p (c ∷ cs) next h = by (p c) (all_rising p cs next h.1.1)
  where
    by : (b : Bool) → AreRising (filter p cs) next → AreRising (cond b (c ∷ filter p cs) (filter p cs)) next
    by true rest = (h.0, (all_filter (λ (d : KeptCall). c.xid < d.xid) p cs h.1.0, rest))
    by false rest = rest

above_again : (xid : ℕ) (cs : List KeptCall) (rs : List ResumedCall) → AreSentAgain cs rs → AllByRecursion (λ (c : KeptCall). xid < c.xid) cs → AllByRecursion (λ (r : ResumedCall). xid < r.xid) rs
above_again xid [] [] again h = tt
above_again xid [] (r ∷ rs) again h = absurd again
above_again xid (c ∷ cs) [] again h = absurd again
above_again xid (c ∷ cs) (r ∷ rs) again h = ((let lt = h.0 in let same = again.0.xid in omega (arith, lt, same)), above_again xid cs rs again.1 h.1)

abbrev IsPlanned : ResumedCall → Type 0
IsPlanned r = IsPlannedAs r.xid r.call r.form r.plan

all_resume : (cs : List KeptCall) (rs : List ResumedCall) (next : ℕ) → AreSentAgain cs rs → AreRising cs next → AllByRecursion IsPlanned rs → CanResume rs next
all_resume [] [] next again rising planned = tt
all_resume [] (r ∷ rs) next again rising planned = absurd again
all_resume (c ∷ cs) [] next again rising planned = absurd again
all_resume (c ∷ cs) (r ∷ rs) next again rising planned =
    let same : c.xid ≡ r.xid = again.0.xid in (
      planned.0,
      (
        (let lt = rising.0 in omega (arith, lt, same)),
        (subst (λ (x : ℕ). AllByRecursion (λ (d : ResumedCall). x < d.xid) rs) same (above_again c.xid cs rs again.1 rising.1.0), all_resume cs rs next again.1 rising.1.1 planned.1),
      ),
    )

found_planned : (accepted : List AcceptedCall) (os : List OutstandingCall) → AllByRecursion (λ (o : OutstandingCall). IsFound accepted o) os → AllByRecursion (OfAccepted IsPlanned accepted) os
found_planned accepted os h = all_as os (λ (o : OutstandingCall) g. record { own = g.own; found = g.found; holds = g.planned }) h

fit_planned : (first next : ℕ) (ws : List WaitingCall) → AreFit first next ws → AllByRecursion (λ (w : WaitingCall). IsPlanned (resumed_again w)) ws
fit_planned first next [] h = tt
fit_planned first next (w ∷ ws) h = (h.0.planned, fit_planned first next ws h.1.1)

pub next_resumes : (is_own : ℕ → Bool) (earlier : ℕ) (opened : LinkParameters) (link : ℕ) (h : RequesterSide) (run : List Mark) → IsOpened opened → AskedSoFar opened link run → RequesterKeeps is_own earlier opened link h run → h.state.side.ended ≡ None →
    CanResume (reopened opened link run).resumed (reopened opened link run).first_xid
unfolding reopened
next_resumes is_own earlier opened link h run opens asked stands live =
    let k : ClientState = (client opened link run).state in
    let kept : List KeptCall = map (kept_call h.state.sent) h.state.outstanding in
    let p : KeptCall → Bool = λ c. not (is_abandoned link c.xid run) in
    let rising : AreRising kept k.next_xid = subst (λ (n : ℕ). AreRising kept n) stands.keeps.kept.keeps.xid stands.keeps.kept.keeps.rising in
    all_resume (filter p kept) (calls_kept opened link run) k.next_xid (calls_sent_again is_own earlier opened link h run opens asked stands live) (all_rising p kept k.next_xid rising)
    (of_kept IsPlanned opened link run (found_planned (accepted_calls link run) k.outstanding (calls_found opened link run opens asked)) (fit_planned opened.first_xid k.next_xid k.waiting (waiting_fit opened link run opens)))

-- ---- Their xids are from 1 on

all_both : {X : Type 0} (P Q : X → Type 0) (xs : List X) → AllByRecursion P xs → AllByRecursion Q xs → AllByRecursion (λ x. P x × Q x) xs
all_both P Q [] h g = tt
all_both P Q (x ∷ xs) h g = ((h.0, g.0), all_both P Q xs h.1 g.1)

waits_from_one : (opened : LinkParameters) (next sends : ℕ) (ws : List WaitingCall) → IsOpened opened → ComesNext opened next sends ws → AllByRecursion (λ (w : WaitingCall). 1 ≤ w.xid) ws
waits_from_one opened next sends [] opens h = tt
waits_from_one opened next sends (w ∷ ws) opens h = (
  (let own = h 0 in let least = xids_from_one opened (sends + 0) opens in omega (arith, own, least)),
  waits_from_one opened next (sends + 1) ws opens (λ n. h (suc n) ∙ ap (λ (m : ℕ). xid_of_send opened m) (let e : sends + suc n ≡ sends + 1 + n = omega arith in e)),
)

after_all : (xids : List ℕ) (next : ℕ) → xid_after xids next (length xids) ≡ next
after_all [] next = omega arith
after_all (xid ∷ xids) next = after_all xids next

next_from_one : (opened : LinkParameters) (link : ℕ) (run : List Mark) → IsOpened opened → AskedSoFar opened link run → 1 ≤ (client opened link run).state.next_xid
next_from_one opened link run opens asked =
    let k : ClientState = (client opened link run).state in
    let n : ℕ = length (xids_waiting k.waiting) in
    let own : k.next_xid ≡ xid_of_send opened (k.sends + n) = sym (after_all (xids_waiting k.waiting) k.next_xid) ∙ (both_follow opened link run asked).0 n in
    let least = xids_from_one opened (k.sends + n) opens in
    omega (arith, own, least)

-- ---- They were planned for what was agreed on last

abbrev IsOfLink : Agreement → ResumedCall → Type 0
IsOfLink agreed r = (1 ≤ r.xid) × IsResumed agreed r

again_of_link : (opened : LinkParameters) (agreed : Agreement) (sends : ℕ) (accepted : List AcceptedCall) (os : List OutstandingCall) → IsOpened opened → AllByRecursion (IsAgain agreed accepted) os → AllByRecursion (λ (o : OutstandingCall). Follows opened sends o) os →
    AllByRecursion (OfAccepted (IsOfLink agreed) accepted) os
again_of_link opened agreed sends accepted [] opens h g = tt
again_of_link opened agreed sends accepted (o ∷ os) opens h g = (
  record { own = h.0.own; found = h.0.found; holds = ((let own = g.0.0 in let least = xids_from_one opened o.send opens in omega (arith, own, least)), h.0.resumed) },
  again_of_link opened agreed sends accepted os opens h.1 g.1,
)

are_resumed : (agreed : Agreement) (first : ℕ) (rs : List ResumedCall) (next : ℕ) → first ≤ next → CanResume rs next → AllByRecursion (λ (r : ResumedCall). first ≤ r.xid) rs → AllByRecursion (IsResumed agreed) rs → AreResumed agreed first rs next
are_resumed agreed first [] next le can least resumed = le
are_resumed agreed first (r ∷ rs) next le can least resumed =
    let lt = can.1.0 in (
      least.0,
      (resumed.0, are_resumed agreed (r.xid + 1) rs next (omega (arith, lt)) can.1.1.1 (all_as rs (λ (d : ResumedCall) above. omega (arith, above)) can.1.1.0) resumed.1),
    )

-- ---- STags are left for them

not_spent : (r : RequesterState) (x : Option End) → reopen_refusal_by r x ≡ None → stags_for_calls r.outstanding ≤ numbers_end - r.side.memory.next
not_spent r (Some end) e = absurd cc
not_spent r None e = by (ltb (numbers_end - r.side.memory.next) (stags_for_calls r.outstanding)) refl e
  where
    by : (b : Bool) → ltb (numbers_end - r.side.memory.next) (stags_for_calls r.outstanding) ≡ b → cond b (Some (refusals.Spent (numbers_end - r.side.memory.next) (stags_for_calls r.outstanding))) None ≡ None →
        stags_for_calls r.outstanding ≤ numbers_end - r.side.memory.next
    by true is f = absurd cc
    by false is f = ltb-false (numbers_end - r.side.memory.next) (stags_for_calls r.outstanding) is

lives_by : (r : RequesterState) (x : Option End) → reopen_refusal_by r x ≡ None → x ≡ None
lives_by r None e = refl
lives_by r (Some end) e = absurd cc

refusal_says : (r : RequesterState) → reopen_refusal r ≡ None → (r.side.ended ≡ None) × (stags_for_calls r.outstanding ≤ numbers_end - r.side.memory.next)
unfolding reopen_refusal
refusal_says r e = (lives_by r r.side.ended e, not_spent r r.side.ended e)

-- ---- The next link

pub next_links_are_opened : NextLinksAreOpened
unfolding reopened
next_links_are_opened h free number is_own earlier opened link run opens range asked stands =
    let k : ClientState = (client opened link run).state in
    let says = refusal_says h.state free in
    let live : h.state.side.ended ≡ None = says.0 in
    let left : stags_for_calls h.state.outstanding ≤ numbers_end - h.state.side.memory.next = says.1 in
    let on = calls_go_on is_own earlier opened link h run opens asked stands live in
    let can = next_resumes is_own earlier opened link h run opens asked stands live in
    let one = next_from_one opened link run opens asked in
    let same : h.state.next_xid ≡ k.next_xid = stands.keeps.kept.keeps.xid in
    let stags : h.state.side.memory.next ≡ k.stag = (stands.keeps.kept.keeps.memory (sym stands.keeps.kept.keeps.ended ∙ live)).next in
    let below = stags_left_lem opened link run opens asked in
    let numbers = (client_known opened link run).next in
    let first = opens.stag in
    let need = on.stags in
    let waits = all_both (λ (w : WaitingCall). 1 ≤ w.xid) (λ (w : WaitingCall). IsResumed (limits k) (resumed_again w)) k.waiting (waits_from_one opened k.next_xid k.sends k.waiting opens (both_follow opened link run asked).0) (waits_again opened link run opens range asked) in
    let all = of_kept (IsOfLink (limits k)) opened link run (again_of_link opened (limits k) k.sends (accepted_calls link run) k.outstanding opens (calls_again opened link run opens range asked) (both_follow opened link run asked).1) waits in (
      record {
        xid = omega (arith, one);
        xid_fits = omega (arith, same, number);
        stag = omega (arith, first, numbers);
        stag_fits = omega (arith, need, left, stags, below);
        resumed = are_resumed (limits k) 1 (calls_kept opened link run) k.next_xid one can (all_as (calls_kept opened link run) (λ (r : ResumedCall) g. g.0) all) (all_as (calls_kept opened link run) (λ (r : ResumedCall) g. g.1) all);
        wished = opens.wished;
        wished_fits = opens.wished_fits;
        granted = opens.granted;
        granted_fits = opens.granted_fits;
        receives = opens.receives;
      },
      limits_in_range opened link run opens range asked,
    )
