-- A client with a number accepts no new call whose xid is too far above that of an outstanding one.
use Rattle.std.proofs.Common.{◌≡◌, ◌≢◌, ℕ, zero, suc, ◌+◌, ◌-◌, ◌≤◌, ◌<◌, Bool, true, false, cond, ◌&&◌, ◌||◌, eqb, eqb-true, leb, ltb, List, [], ◌∷◌, ◌++◌, length, take, Option, None, Some, is_none, Result, Ok, Err, refl, sym, ap, subst, ◌∙◌, arith, ◌⊎◌, inl, inr}
use Rattle.std.specs.List.{AllByRecursion}
use Rattle.std.proofs.lemmas.Bool.{leb-false, ne_eqb}
use Rattle.nr_link.specs.declared.agreement.SideTerms.{SideTerms}
use Rattle.nr_link.specs.declared.end.End.{End as Stop}
use Rattle.nr_reduce.specs.declared.call.Call.{Call}
use Rattle.nr_reduce.specs.declared.call.Form.{Form}
use Rattle.nr_reduce.specs.declared.call.Refused.TheVariants as refusals
use Rattle.nr_reduce.specs.declared.call.Submission.{Submission}
use Rattle.nr_reduce.specs.declared.call.Submission.TheVariants as submissions
use Rattle.nr_reduce.specs.declared.mark.LinkParameters.{LinkParameters}
use Rattle.nr_reduce.specs.declared.mark.Mark.{Mark}
use Rattle.nr_reduce.specs.declared.mark.Mark.TheVariants as marks
use Rattle.nr_reduce.specs.declared.outline.Plan.{Plan}
use Rattle.nr_reduce.specs.Limits.{numbers_end, window}
use Rattle.nr_reduce.specs.Plans.{TooLarge, regions_needed}
use Rattle.nr_reduce.specs.EndRules.{EndState}
use Rattle.nr_reduce.specs.History.{accepted_calls, is_dropped}
use Rattle.nr_reduce.specs.ClientState.{ClientState, OutstandingCall, WaitingCall, plan_for}
use Rattle.nr_reduce.specs.Run.{client}
use Rattle.nr_reduce.specs.SubmitAnswer.{answer_by, by_plan, calls_counted, calls_to_resend, least_xid, submit_answer, submit_answer_after, unless_far, unless_far_from, unless_spent}
use Rattle.nr_reduce.specs.Opening.{IsOpened}
use Rattle.nr_reduce.proofs.Unresumed.{has_opening}
use Rattle.nr_reduce.proofs.XidsFollow.{xids_waiting}
use Rattle.nr_laws.specs.Grant.{AcceptedMark, AcceptsByRule, IsNextToResend}
use Rattle.nr_laws.proofs.AccountedCalls.{is_outstanding}
use Rattle.nr_laws.proofs.Basics.{first_is_lem}
use Rattle.nr_laws.proofs.Granted.{not_dropped_lem}
use Rattle.nr_laws.proofs.OnceByXid.{at_mark}
use Rattle.nr_laws.proofs.ResumedCalls.{IsOneOf, resumed_below, waits_resumed}
use Rattle.nr_laws.proofs.RisingCalls.{IsRising, xids_out, RisesAt}

-- ---- The least xid is at most that of each outstanding call

at_least : (first next xid : ℕ) (os : List OutstandingCall) (ys : List ℕ) → IsRising first (xids_out os ++ ys) next → is_outstanding os xid ≡ true → first ≤ xid
at_least first next xid [] ys h e = absurd cc
at_least first next xid (o ∷ os) ys h e = by (eqb o.xid xid) refl e (at_least (o.xid + 1) next xid os ys h.1)
  where
    by : (b : Bool) → eqb o.xid xid ≡ b → (b || is_outstanding os xid) ≡ true → (is_outstanding os xid ≡ true → o.xid + 1 ≤ xid) → first ≤ xid
    by true is e later = (let le = h.0 in let same = eqb-true o.xid xid is in omega (arith, le, same))
    by false is e later = (let le = h.0 in let rest = later e in omega (arith, le, rest))

least_of : (next xid : ℕ) (os : List OutstandingCall) (ws : List WaitingCall) → IsRising 1 (xids_out os ++ xids_waiting ws) next → is_outstanding os xid ≡ true → (oldest : ℕ) × ((least_xid os ws ≡ Some oldest) × (oldest ≤ xid))
least_of next xid [] ws h e = absurd cc
least_of next xid (o ∷ os) ws h e = (o.xid, (refl, at_least o.xid next xid (o ∷ os) (xids_waiting ws) (omega arith, h.1) e))

-- ---- What a client answers

spent_next : (left need : ℕ) (answer : Submission) (top : ℕ) → unless_spent left need answer ≡ submissions.Accepted top → answer ≡ submissions.Accepted top
spent_next left need answer top e = by (ltb left need) e
  where
    by : (b : Bool) → cond b (submissions.Refused (refusals.Spent left need)) answer ≡ submissions.Accepted top → answer ≡ submissions.Accepted top
    by true e = absurd cc
    by false e = e

near_from : (next oldest top : ℕ) (answer : Submission) → unless_far_from next (Some oldest) answer ≡ submissions.Accepted top → (next - oldest < window) × (answer ≡ submissions.Accepted top)
near_from next oldest top answer e = by (leb window (next - oldest)) refl e
  where
    by : (b : Bool) → leb window (next - oldest) ≡ b → cond b (submissions.Refused (refusals.Window oldest next)) answer ≡ submissions.Accepted top → (next - oldest < window) × (answer ≡ submissions.Accepted top)
    by true is e = absurd cc
    by false is e = (leb-false window (next - oldest) is, e)

module _ (k : ClientState) (xid top : ℕ) (numbered : k.terms.number ≢ 0) (rising : IsRising 1 (xids_out k.outstanding ++ xids_waiting k.waiting) k.next_xid) (out : is_outstanding k.outstanding xid ≡ true) where
  near_if : (answer : Submission) → unless_far k answer ≡ submissions.Accepted top → (k.next_xid < xid + window) × (answer ≡ submissions.Accepted top)
  near_if answer e =
      let least = least_of k.next_xid xid k.outstanding k.waiting rising out in
      let by_least : unless_far_from k.next_xid (least_xid k.outstanding k.waiting) answer ≡ submissions.Accepted top =
      sym (ap (λ (b : Bool). cond b answer (unless_far_from k.next_xid (least_xid k.outstanding k.waiting) answer)) (ne_eqb k.terms.number 0 numbered)) ∙ e in
      let near = near_from k.next_xid least.0 top answer (sym (ap (λ (o : Option ℕ). unless_far_from k.next_xid o answer) least.1.0) ∙ by_least) in
      let lt = near.0 in
      let le = least.1.1 in
      (omega (arith, lt, le), near.1)

  near_plan : (r : Result Plan TooLarge) → by_plan k r ≡ submissions.Accepted top → top < xid + window
  near_plan (Err large) e = absurd cc
  near_plan (Ok plan) e = by (leb k.grant (calls_counted k)) e
    where
      answer : Submission
      answer = unless_spent (numbers_end - k.next_xid) 1 (unless_spent (numbers_end - k.stag) (regions_needed plan) (submissions.Accepted k.next_xid))

      by : (b : Bool) → cond b (submissions.Refused (refusals.NoCredit (calls_counted k) k.grant)) (unless_far k answer) ≡ submissions.Accepted top → top < xid + window
      by true e = absurd cc
      by false e =
          let near = near_if answer e in
          let last : submissions.Accepted k.next_xid ≡ submissions.Accepted top =
          spent_next (numbers_end - k.stag) (regions_needed plan) (submissions.Accepted k.next_xid) top
          (spent_next (numbers_end - k.next_xid) 1 (unless_spent (numbers_end - k.stag) (regions_needed plan) (submissions.Accepted k.next_xid)) top near.1) in
          let same : k.next_xid ≡ top = cc in
          let lt = near.0 in
          omega (arith, lt, same)

  near_answer : (call : Call) (form : Form) (ended : Option Stop) → answer_by k call form ended ≡ submissions.Accepted top → top < xid + window
  near_answer call form (Some end) e = absurd cc
  near_answer call form None e = near_plan (plan_for k k.next_xid call form) e

-- ---- A new call isn't one that is to be sent again

first_waits : (Q : WaitingCall → Type 0) (r : EndState ClientState) (w : WaitingCall) (ws : List WaitingCall) → calls_to_resend r ≡ w ∷ ws → AllByRecursion Q r.state.waiting → Q w
unfolding calls_to_resend
first_waits Q r w ws e h = by (is_none r.ended && r.state.has_hello) (r.state.grant - length r.state.outstanding) r.state.waiting e h
  where
    by : (b : Bool) (n : ℕ) (calls : List WaitingCall) → cond b (take n calls) [] ≡ w ∷ ws → AllByRecursion Q calls → Q w
    by false n calls e h = absurd cc
    by true zero [] e h = absurd cc
    by true zero (c ∷ calls) e h = absurd cc
    by true (suc n) [] e h = absurd cc
    by true (suc n) (c ∷ calls) e h = subst Q (first_is_lem c w (take n calls) ws e) h.0

pub near_outstanding : (opened : LinkParameters) (link : ℕ) (run before after : List Mark) (call : Call) (form : Form) (top xid : ℕ) → IsOpened opened → RisesAt (accepted_calls link before) (client opened link before).state → AcceptsByRule opened link run → opened.client.number ≢ 0
    → run ≡ before ++ marks.Submit link call form (submissions.Accepted top) ∷ after → opened.first_xid ≤ top → is_outstanding (client opened link before).state.outstanding xid ≡ true → top < xid + window
unfolding submit_answer submit_answer_after
near_outstanding opened link run before after call form top xid opens rises accepts numbered is new out =
    by (at_mark (AcceptedMark opened link) run before (marks.Submit link call form (submissions.Accepted top)) after is accepts refl)
  where
    r : EndState ClientState
    r = client opened link before

    number_is : r.state.terms.number ≢ 0
    number_is none = numbered (sym (ap (λ (t : SideTerms). t.number) (has_opening opened link before).0) ∙ none)

    by : (submit_answer_after opened link before call form ≡ submissions.Accepted top) ⊎ IsNextToResend r top → top < xid + window
    by (inl own) = near_answer r.state xid top number_is rises.rising out call form r.ended (not_dropped_lem (is_dropped link before) (submit_answer r call form) top own)
    by (inr again) =
        let one = first_waits (λ (w : WaitingCall). IsOneOf opened.resumed w.xid w.call w.form) r again.call again.calls again.first (waits_resumed opened link before) in
        let below = resumed_below opened again.call.xid again.call.call again.call.form opens one in
        let same = again.own in
        absurd (omega (arith, below, same, new))
