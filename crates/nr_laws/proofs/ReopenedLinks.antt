-- What is known of a link that goes on from another one.
use Rattle.std.proofs.Common.{◌≡◌, ℕ, Bool, true, false, cond, not, ◌||◌, ◌&&◌, eqb, eqb-true, eq-eqb, List, [], ◌∷◌, ◌++◌, map, Option, Some, refl, sym, ap, subst, ◌∙◌}
use Rattle.std.specs.List.{AllByRecursion, list_any, filter, find, flat_map}
use Rattle.nr_link.specs.declared.agreement.Agreement.{Agreement}
use Rattle.nr_reduce.specs.declared.mark.LinkParameters.{LinkParameters}
use Rattle.nr_reduce.specs.declared.mark.Mark.{Mark}
use Rattle.nr_reduce.specs.declared.mark.ResumedCall.{ResumedCall}
use Rattle.nr_reduce.specs.Asked.{as_accepted}
use Rattle.nr_reduce.specs.AtEachMark.{AtEachMark}
use Rattle.nr_reduce.specs.Client.{has_same_sizes}
use Rattle.nr_reduce.specs.ClientState.{OutstandingCall, WaitingCall, ClientState}
use Rattle.nr_reduce.specs.History.{AcceptedCall, accepted_calls, is_abandoned}
use Rattle.nr_reduce.specs.Reopening.{resumed_as, resumed_of, resumed_again, calls_kept, reopened}
use Rattle.nr_reduce.specs.Run.{client}
use Rattle.nr_reduce.proofs.Steps.{AtEachMark_first}
use Rattle.nr_laws.specs.EndCauses.{AgreesAgain}
use Rattle.nr_laws.specs.MatchedSoFar.{MatchedSoFar}
use Rattle.nr_laws.specs.Reopened.{ReopenedLinksAgree, NoCallIsLeftOver}
use Rattle.nr_laws.specs.Typed.{TypedMark, IsTyped}
use Rattle.nr_laws.proofs.AccountedCalls.{IsAccounted, is_outstanding, has_outcome}
use Rattle.nr_laws.proofs.AccountedRuns.{gone_in, accounts}
use Rattle.nr_laws.proofs.AgreedSizes.{matched_agreement, matched_up, matched_down}
use Rattle.nr_laws.proofs.CompletedChanges.{far_first}
use Rattle.nr_laws.proofs.DistinctKeys.{any_append, or_left_lem, or_right_lem}
use Rattle.nr_laws.proofs.MatchedSizes.{client_sized, client_opening}
use Rattle.nr_laws.proofs.StillWaiting.{is_accepted, is_waiting, waits_or_accepted}

-- ---- The same lengths again

agrees_then : (opened : LinkParameters) (link : ℕ) (run : List Mark) → AgreesAgain opened → IsTyped run → MatchedSoFar opened link run → AgreesAgain (reopened opened link run)
unfolding reopened
agrees_then opened link run again typed far = by k.has_hello refl
  where
    k : ClientState
    k = (client opened link run).state

    own : Agreement
    own = record { up = k.up_max; down = k.down_max; invalidates = k.invalidates }

    by : (b : Bool) → k.has_hello ≡ b → has_same_sizes (cond b (Some own) k.agreed) (matched_agreement opened) ≡ true
    by true is =
        let sized = client_sized opened link run typed far is in
        (λ i. eqb (sized.0 i) (matched_up opened) && eqb (sized.1 i) (matched_down opened))
        ∙ (λ i. eq-eqb (matched_up opened) (matched_up opened) refl i && eq-eqb (matched_down opened) (matched_down opened) refl i)
    by false is = (let opening = client_opening opened link run typed far in (λ i. has_same_sizes (opening.1 i) (matched_agreement opened)) ∙ again)

pub reopened_links_agree : ReopenedLinksAgree
reopened_links_agree opened next link run before r again typed far =
    let early : IsTyped before = AtEachMark_first TypedMark [] before r.after (subst (AtEachMark TypedMark []) r.is_cut typed) in
    subst AgreesAgain (sym r.next) (agrees_then opened link before again early (far_first opened link run before r.after r.is_cut far))

-- ---- No call is left over

any_filter : {X : Type 0} (keep p : X → Bool) (xs : List X) → ((x : X) → p x ≡ true → keep x ≡ true) → list_any p xs ≡ true → list_any p (filter keep xs) ≡ true
any_filter keep p [] all h = h
any_filter {X} keep p (x ∷ xs) all h = by (p x) (keep x) refl refl h (any_filter keep p xs all)
  where
    by : (b c : Bool) → p x ≡ b → keep x ≡ c → (b || list_any p xs) ≡ true → (list_any p xs ≡ true → list_any p (filter keep xs) ≡ true) → list_any p (cond c (x ∷ filter keep xs) (filter keep xs)) ≡ true
    by true true own kept h later = or_left_lem (p x) (list_any p (filter keep xs)) own
    by true false own kept h later = absurd (let wrong : true ≡ false = sym (all x own) ∙ kept in cc)
    by false true own kept h later = or_right_lem (p x) (list_any p (filter keep xs)) (later h)
    by false false own kept h later = later h

-- an element of some calls under an xid, if one has it
each_any : (P : ℕ → Type 0) (calls : List AcceptedCall) (xid : ℕ) → AllByRecursion P (map (λ (a : AcceptedCall). a.xid) calls) → list_any (λ (a : AcceptedCall). eqb a.xid xid) calls ≡ true → P xid
each_any P [] xid h e = absurd cc
each_any P (a ∷ calls) xid h e = by (eqb a.xid xid) refl e (each_any P calls xid h.1)
  where
    by : (b : Bool) → eqb a.xid xid ≡ b → (b || list_any (λ (c : AcceptedCall). eqb c.xid xid) calls) ≡ true → (list_any (λ (c : AcceptedCall). eqb c.xid xid) calls ≡ true → P xid) → P xid
    by true is e later = subst P (eqb-true a.xid xid is) h.0
    by false is e later = later e

found : (calls : List AcceptedCall) (xid : ℕ) → list_any (λ (a : AcceptedCall). eqb a.xid xid) calls ≡ true → (a : AcceptedCall) × (find (λ (c : AcceptedCall). eqb c.xid xid) calls ≡ Some a)
found [] xid e = absurd cc
found (a ∷ calls) xid e = by (eqb a.xid xid) e (found calls xid)
  where
    by : (b : Bool) → (b || list_any (λ (c : AcceptedCall). eqb c.xid xid) calls) ≡ true → (list_any (λ (c : AcceptedCall). eqb c.xid xid) calls ≡ true → (c : AcceptedCall) × (find (λ (x : AcceptedCall). eqb x.xid xid) calls ≡ Some c))
        → (x : AcceptedCall) × (cond b (Some a) (find (λ (c : AcceptedCall). eqb c.xid xid) calls) ≡ Some x)
    by true e later = (a, refl)
    by false e later = later e

abbrev resumes : List ResumedCall → ℕ → Bool
resumes rs xid = list_any (λ (r : ResumedCall). eqb r.xid xid) rs

out_again : (accepted : List AcceptedCall) (os : List OutstandingCall) (xid : ℕ) → list_any (λ (a : AcceptedCall). eqb a.xid xid) accepted ≡ true → is_outstanding os xid ≡ true → resumes (flat_map (resumed_of accepted) os) xid ≡ true
out_again accepted [] xid has e = absurd cc
out_again accepted (o ∷ os) xid has e =
    any_append (λ (r : ResumedCall). eqb r.xid xid) (resumed_of accepted o) (flat_map (resumed_of accepted) os) ∙ by (eqb o.xid xid) refl e (out_again accepted os xid has)
  where
    by : (b : Bool) → eqb o.xid xid ≡ b → (b || is_outstanding os xid) ≡ true → (is_outstanding os xid ≡ true → resumes (flat_map (resumed_of accepted) os) xid ≡ true) → (resumes (resumed_of accepted o) xid || resumes (flat_map (resumed_of accepted) os) xid) ≡ true
    by true is e later =
        let same : o.xid ≡ xid = eqb-true o.xid xid is in
        let f = found accepted xid has in
        let one : resumed_of accepted o ≡ resumed_as o (Some f.0) =
        ap (λ (n : ℕ). resumed_as o (find (λ (a : AcceptedCall). eqb a.xid n) accepted)) same ∙ ap (λ (x : Option AcceptedCall). resumed_as o x) f.1 in
        or_left_lem (resumes (resumed_of accepted o) xid) (resumes (flat_map (resumed_of accepted) os) xid) (ap (λ (rs : List ResumedCall). resumes rs xid) one ∙ or_left_lem (eqb o.xid xid) false is)
    by false is e later = or_right_lem (resumes (resumed_of accepted o) xid) (resumes (flat_map (resumed_of accepted) os) xid) (later e)

waits_again : (ws : List WaitingCall) (xid : ℕ) → list_any (λ (w : WaitingCall). eqb w.xid xid) ws ≡ true → resumes (map resumed_again ws) xid ≡ true
waits_again [] xid e = e
waits_again (w ∷ ws) xid e = by (eqb w.xid xid) e (waits_again ws xid)
  where
    by : (b : Bool) → (b || list_any (λ (x : WaitingCall). eqb x.xid xid) ws) ≡ true → (list_any (λ (x : WaitingCall). eqb x.xid xid) ws ≡ true → resumes (map resumed_again ws) xid ≡ true) → (b || resumes (map resumed_again ws) xid) ≡ true
    by true e later = refl
    by false e later = later e

-- those that a client has are those that it was opened with, and those that it accepted
asked_any : (rs : List ResumedCall) (accepted : List AcceptedCall) (xid : ℕ) → is_accepted (map as_accepted rs ++ accepted) xid ≡ (resumes rs xid || is_accepted accepted xid)
asked_any [] accepted xid = refl
asked_any (r ∷ rs) accepted xid = by (asked_any rs accepted xid) (eqb r.xid xid)
  where
    by : is_accepted (map as_accepted rs ++ accepted) xid ≡ (resumes rs xid || is_accepted accepted xid) → (b : Bool) → (b || is_accepted (map as_accepted rs ++ accepted) xid) ≡ ((b || resumes rs xid) || is_accepted accepted xid)
    by later true = refl
    by later false = later

pub no_call_is_left_over : NoCallIsLeftOver
unfolding reopened calls_kept
no_call_is_left_over opened link run xid stays kept has = by_opening (resumes opened.resumed xid) refl (sym (asked_any opened.resumed (accepted_calls link run) xid) ∙ has)
  where
    k : ClientState
    k = (client opened link run).state

    out : List ResumedCall
    out = flat_map (resumed_of (accepted_calls link run)) k.outstanding

    again : List ResumedCall
    again = map resumed_again k.waiting

    keep : ResumedCall → Bool
    keep r = not (is_abandoned link r.xid run)

    not_abandoned : (r : ResumedCall) → eqb r.xid xid ≡ true → keep r ≡ true
    not_abandoned r is = ap (λ (n : ℕ). not (is_abandoned link n run)) (eqb-true r.xid xid is) ∙ ap not kept

    left_over : resumes (out ++ again) xid ≡ true → resumes (filter keep (out ++ again)) xid ≡ true
    left_over e = any_filter keep (λ (r : ResumedCall). eqb r.xid xid) (out ++ again) not_abandoned e

    or_false : (a b c : Bool) → c ≡ false → (a || (b || c)) ≡ true → (a || b) ≡ true
    or_false true b c none e = refl
    or_false false true c none e = refl
    or_false false false c none e = absurd (let wrong : true ≡ false = sym e ∙ none in cc)

    outcome : Bool
    outcome = has_outcome k.outcomes xid

    goal : Type 0
    goal = (outcome || resumes (filter keep (out ++ again)) xid) ≡ true

    by_out : (b : Bool) → is_outstanding k.outstanding xid ≡ b → (b || outcome) ≡ true → list_any (λ (a : AcceptedCall). eqb a.xid xid) (accepted_calls link run) ≡ true → goal
    by_out true is e accepted =
        or_right_lem outcome (resumes (filter keep (out ++ again)) xid)
        (left_over (any_append (λ (r : ResumedCall). eqb r.xid xid) out again ∙ or_left_lem (resumes out xid) (resumes again xid) (out_again (accepted_calls link run) k.outstanding xid accepted is)))
    by_out false is e accepted = or_left_lem outcome (resumes (filter keep (out ++ again)) xid) e

    by : (b : Bool) → is_accepted (accepted_calls link run) xid ≡ b → (b || is_waiting k.waiting xid) ≡ true → goal
    by true is e =
        let accounted : IsAccounted (gone_in link run) k xid = each_any (IsAccounted (gone_in link run) k) (accepted_calls link run) xid (accounts opened link run stays).each is in
        by_out (is_outstanding k.outstanding xid) refl (or_false (is_outstanding k.outstanding xid) outcome (is_abandoned link xid run) kept accounted) is
    by false is e =
        or_right_lem outcome (resumes (filter keep (out ++ again)) xid)
        (left_over (any_append (λ (r : ResumedCall). eqb r.xid xid) out again ∙ or_right_lem (resumes out xid) (resumes again xid) (waits_again k.waiting xid e)))

    by_opening : (b : Bool) → resumes opened.resumed xid ≡ b → (b || is_accepted (accepted_calls link run) xid) ≡ true → goal
    by_opening true is e = by (is_accepted (accepted_calls link run) xid) refl (waits_or_accepted opened link run xid is)
    by_opening false is e = by (is_accepted (accepted_calls link run) xid) refl (or_left_lem (is_accepted (accepted_calls link run) xid) (is_waiting k.waiting xid) e)
