-- The calls that can be sent again are accepted, one after the other, within the grant.
use Rattle.std.proofs.Common.{◌≡◌, ℕ, zero, suc, ◌+◌, ◌-◌, ◌<◌, Bool, true, false, ◌&&◌, cond, List, [], ◌∷◌, ◌++◌, length, map, take, Option, None, Some, is_none, Ok, refl, sym, ap, subst, ◌∙◌, arith, append_assoc, append-nil, length-append}
use Rattle.std.proofs.lemmas.Bool.{eq-eqb}
use Rattle.nr_wire.specs.declared.hello.Side.TheVariants.{Initiator}
use Rattle.nr_link.specs.declared.end.End.{End as Stop}
use Rattle.nr_reduce.specs.declared.call.Submission.TheVariants as submissions
use Rattle.nr_reduce.specs.declared.mark.Mark.{Mark}
use Rattle.nr_reduce.specs.declared.mark.Mark.TheVariants as marks
use Rattle.nr_reduce.specs.declared.mark.LinkParameters.{LinkParameters}
use Rattle.nr_reduce.specs.Plans.{plan_of}
use Rattle.nr_reduce.specs.History.{AcceptedCall, bytes_received}
use Rattle.nr_reduce.specs.Matched.{IsPrefixOf}
use Rattle.nr_reduce.specs.Events.{if_own}
use Rattle.nr_reduce.specs.Events.RunEvent.{CallSubmitted}
use Rattle.nr_reduce.specs.EndRules.{EndState, next_end_state_in, end_state_after}
use Rattle.nr_reduce.specs.ClientState.{WaitingCall, ClientState, first_of, others_than, plan_unless, plan_for, stags_unless_waiting, stags_taken, call_payload}
use Rattle.nr_reduce.specs.Client.{client_rules, client_end, client_state_after, outstanding_of}
use Rattle.nr_reduce.specs.SubmitAnswer.{first_xid_or, calls_to_resend}
use Rattle.nr_reduce.specs.Run.{client}
use Rattle.nr_reduce.specs.Opening.{IsOpened}
use Rattle.nr_reduce.specs.Asked.{IsResent, IsAccepted, AskedSoFar, AskedMark}
use Rattle.nr_reduce.specs.Credits.{calls_outstanding, credits_granted, KeepsGrant, WithinGrant}
use Rattle.nr_reduce.specs.Resending.{resend_mark, ResendsKeepLaw}
use Rattle.nr_reduce.proofs.Standing.{itself, AtEachMark_more}
use Rattle.nr_reduce.proofs.Steps.{client_one}
use Rattle.nr_reduce.proofs.StagsLeft.{stags_left_lem}
use Rattle.nr_reduce.proofs.WaitingFit.{AreFit, waiting_fit}

-- ---- The first of the calls that can be sent again

-- of `n` of these calls, if they can be sent again at all, this is the first
pub record IsFirstOf (can : Bool) (n : ℕ) (ws : List WaitingCall) (w : WaitingCall) (rest : List WaitingCall) : Type 0 where
  pub allowed : can ≡ true
  pub fewer : ℕ
  pub count : n ≡ suc fewer
  pub others : List WaitingCall
  pub there : ws ≡ w ∷ others
  pub rest_is : take fewer others ≡ rest

first_of_taken : (can : Bool) (n : ℕ) (ws : List WaitingCall) (w : WaitingCall) (rest : List WaitingCall) → cond can (take n ws) [] ≡ w ∷ rest → IsFirstOf can n ws w rest
first_of_taken false n ws w rest is = absurd cc
first_of_taken true zero [] w rest is = absurd cc
first_of_taken true zero (v ∷ ws) w rest is = absurd cc
first_of_taken true (suc n) [] w rest is = absurd cc
first_of_taken true (suc n) (v ∷ ws) w rest is =
    let own : v ≡ w = cc in
    let left : take n ws ≡ rest = cc in
    record { allowed = refl; fewer = n; count = refl; others = ws; there = ap (λ (x : WaitingCall). x ∷ ws) own; rest_is = left }

pub both : (ended : Option Stop) (has_hello : Bool) → (is_none ended && has_hello) ≡ true → (ended ≡ None) × (has_hello ≡ true)
both None true is = (refl, refl)
both None false is = absurd cc
both (Some end) has_hello is = absurd cc

pub first_to_resend : (r : EndState ClientState) (w : WaitingCall) (rest : List WaitingCall) → calls_to_resend r ≡ w ∷ rest →
    IsFirstOf (is_none r.ended && r.state.has_hello) (r.state.grant - length r.state.outstanding) r.state.waiting w rest
unfolding calls_to_resend
first_to_resend r w rest is = first_of_taken (is_none r.ended && r.state.has_hello) (r.state.grant - length r.state.outstanding) r.state.waiting w rest is

-- ---- It is accepted

own_plan : (k : ClientState) (w : WaitingCall) (others : List WaitingCall) → k.waiting ≡ w ∷ others → plan_for k w.xid w.call w.form ≡ Ok w.plan
unfolding plan_for
own_plan k w others there =
    ap (λ (ws : List WaitingCall). plan_unless (first_of ws w.xid) (plan_of (call_payload w.xid w.call) w.form k.up_max k.down_max)) there
    ∙ ap (λ (b : Bool). plan_unless (cond b (Some w) None) (plan_of (call_payload w.xid w.call) w.form k.up_max k.down_max)) (itself w.xid)

no_stags : (k : ClientState) (w : WaitingCall) (others : List WaitingCall) → k.waiting ≡ w ∷ others → stags_taken k w.xid w.plan ≡ 0
no_stags k w others there =
    ap (λ (ws : List WaitingCall). stags_unless_waiting (first_of ws w.xid) w.plan) there
    ∙ ap (λ (b : Bool). stags_unless_waiting (cond b (Some w) None) w.plan) (itself w.xid)

module _ (opened : LinkParameters) (link : ℕ) (run : List Mark) (numbers : IsOpened opened) (asked : AskedSoFar opened link run) (w : WaitingCall) (rest : List WaitingCall) (is : calls_to_resend (client opened link run) ≡ w ∷ rest) where
  abbrev r : EndState ClientState
  r = client opened link run

  pub first : IsFirstOf (is_none r.ended && r.state.has_hello) (r.state.grant - length r.state.outstanding) r.state.waiting w rest
  first = first_to_resend r w rest is

  can : (r.ended ≡ None) × (r.state.has_hello ≡ true)
  can = both r.ended r.state.has_hello first.allowed

  pub fit : AreFit opened.first_xid r.state.next_xid (w ∷ first.others)
  fit = subst (λ (ws : List WaitingCall). AreFit opened.first_xid r.state.next_xid ws) first.there (waiting_fit opened link run numbers)

  pub accepted : IsAccepted opened link run w.call w.form w.xid
  accepted =
      let stags = stags_left_lem opened link run numbers asked in
      let none = no_stags r.state w first.others first.there in
      let below = fit.0.below in
      let fits = numbers.xid_fits in
      record {
        stays = can.0;
        next = sym (ap (λ (ws : List WaitingCall). first_xid_or r.state.next_xid ws) first.there);
        resent = subst (λ (ws : List WaitingCall). IsResent r.state.has_hello r.state.next_xid ws w.call w.form) (sym first.there)
            (record { greeted = can.1; call_is = refl; form_is = refl; planned = fit.0.planned; rises = fit.1.0 });
        plan = w.plan;
        planned = own_plan r.state w first.others first.there;
        xids = omega (arith, below, fits);
        stags = omega (arith, stags, none);
        writable = fit.0.writable;
      }

  pub granted : calls_outstanding opened link run < credits_granted opened link run
  unfolding calls_outstanding credits_granted
  granted = (let count = first.count in omega (arith, count))

-- ---- What can be sent again then

after_resend : (opened : LinkParameters) (k : ClientState) (ended : Option Stop) (place : ℕ) (a : AcceptedCall) (w : WaitingCall) (others : List WaitingCall) → ended ≡ None → k.waiting ≡ w ∷ others → a.xid ≡ w.xid →
    calls_to_resend (next_end_state_in (client_rules opened) k (CallSubmitted place a) ended) ≡ cond k.has_hello (take (k.grant - (length k.outstanding + 1)) others) []
unfolding client_state_after client_end calls_to_resend
after_resend opened k None place a w others none there own =
    let count : length (k.outstanding ++ outstanding_of k a ∷ []) ≡ length k.outstanding + 1 = length-append k.outstanding (outstanding_of k a ∷ []) in
    let left : others_than k.waiting a.xid ≡ others =
    ap (λ (ws : List WaitingCall). others_than ws a.xid) there ∙ ap (λ (b : Bool). cond b others (w ∷ others)) (eq-eqb w.xid a.xid (sym own)) in
    (λ i. cond k.has_hello (take (k.grant - count i) (left i)) [])
after_resend opened k (Some end) place a w others none there own = absurd cc

pub resent_next : (opened : LinkParameters) (link : ℕ) (run : List Mark) (w : WaitingCall) (rest : List WaitingCall) → calls_to_resend (client opened link run) ≡ w ∷ rest →
    calls_to_resend (client opened link (run ++ resend_mark link w ∷ [])) ≡ rest
resent_next opened link run w rest is =
    let r : EndState ClientState = client opened link run in
    let a : AcceptedCall = record { xid = w.xid; call = w.call; form = w.form } in
    let place : ℕ = length (bytes_received link Initiator run) in
    let first = first_to_resend r w rest is in
    let can = both r.ended r.state.has_hello first.allowed in
    let fewer : r.state.grant - (length r.state.outstanding + 1) ≡ first.fewer = (let count = first.count in omega (arith, count)) in
    ap calls_to_resend (client_one opened link run (resend_mark link w))
    ∙ ap (λ (b : Bool). calls_to_resend (end_state_after (client_rules opened) r (if_own (b && true) (CallSubmitted place a ∷ [])))) (itself link)
    ∙ after_resend opened r.state r.ended place a w first.others can.0 first.there refl
    ∙ (λ i. cond (can.1 i) (take (fewer i) first.others) [])
    ∙ first.rest_is

-- ---- All of them

record AreResent (opened : LinkParameters) (link : ℕ) (run : List Mark) : Type 0 where
  asked : AskedSoFar opened link run
  grant : KeepsGrant opened link run
  none : calls_to_resend (client opened link run) ≡ []

all_resent : (opened : LinkParameters) (link : ℕ) (run : List Mark) (cs : List WaitingCall) → IsOpened opened → AskedSoFar opened link run → KeepsGrant opened link run → calls_to_resend (client opened link run) ≡ cs →
    AreResent opened link (run ++ map (resend_mark link) cs)
all_resent opened link run [] numbers asked grant is =
    subst (λ (marks : List Mark). AreResent opened link marks) (sym (append-nil run)) (record { asked = asked; grant = grant; none = is })
all_resent opened link run (w ∷ cs) numbers asked grant is =
    let mark : Mark = resend_mark link w in
    subst (λ (marks : List Mark). AreResent opened link marks) (append_assoc run (mark ∷ []) (map (resend_mark link) cs))
    (all_resent opened link (run ++ mark ∷ []) cs numbers
    (AtEachMark_more (AskedMark IsPrefixOf opened link) [] run mark asked (λ same. accepted opened link run numbers asked w cs is))
    (AtEachMark_more (WithinGrant opened link) [] run mark grant (λ same. granted opened link run numbers asked w cs is))
    (resent_next opened link run w cs is))

pub resends_keep_law : ResendsKeepLaw
resends_keep_law opened link run numbers asked grant =
    let all = all_resent opened link run (calls_to_resend (client opened link run)) numbers asked grant refl in
    ((all.asked, all.grant), all.none)
