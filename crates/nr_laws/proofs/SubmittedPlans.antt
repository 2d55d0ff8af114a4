-- The call that a message answers at a client is the accepted call of its xid, with that call's plan.
use Rattle.std.proofs.Common.{◌≡◌, ℕ, ◌&&◌, eqb, List, ◌∷◌, ◌++◌, length, Some, Result, Ok, sym, ap, subst, ◌∙◌, arith, append_assoc}
use Rattle.nr_wire.specs.declared.hello.Side.TheVariants.{Initiator}
use Rattle.nr_reduce.specs.declared.call.Call.{Call}
use Rattle.nr_reduce.specs.declared.call.Form.{Form}
use Rattle.nr_reduce.specs.declared.call.Submission.TheVariants as submissions
use Rattle.nr_reduce.specs.declared.mark.Mark.{Mark}
use Rattle.nr_reduce.specs.declared.mark.Mark.TheVariants as marks
use Rattle.nr_reduce.specs.declared.mark.LinkParameters.{LinkParameters}
use Rattle.nr_reduce.specs.declared.outline.Plan.{Plan}
use Rattle.nr_reduce.specs.Matched.{IsPrefixOf}
use Rattle.nr_reduce.specs.Events.{RunEvent, events}
use Rattle.nr_reduce.specs.Plans.{TooLarge, Buffer, buffers}
use Rattle.nr_reduce.specs.ClientState.{OutstandingCall, plan_for, is_sent, stag_for}
use Rattle.nr_reduce.specs.ClientMessages.{answered_call}
use Rattle.nr_reduce.specs.Client.{client_rules, initial_client}
use Rattle.nr_reduce.specs.Run.{client}
use Rattle.nr_reduce.specs.Asked.{AskedSoFar, IsAccepted}
use Rattle.nr_reduce.proofs.Placing.{xids_differ}
use Rattle.nr_laws.specs.Typed.{IsTyped}
use Rattle.nr_laws.specs.Payloads.{HasPlan}
use Rattle.nr_laws.proofs.EventOutputs.{GoesOn, first_preserve, places_after}
use Rattle.nr_laws.proofs.Memory.{Settled}
use Rattle.nr_laws.proofs.ClientSays.{ClientGood, asked, asked_from, asked_append, client_after}
use Rattle.nr_laws.proofs.ClientRun.{SubmittedCall, client_goes, each_submitted}
use Rattle.nr_laws.proofs.ClientMemory.{HasBuffers, AllBacked, backed_at, asked_found, keeps_along}
use Rattle.nr_laws.proofs.Outcomes.{client_by}
use Rattle.nr_laws.proofs.Ordered.{Order, order}
use Rattle.nr_laws.proofs.Ordered.Order.{Behind, Here, Before}

-- ---- Calls that were accepted later

asked_more : (opened : LinkParameters) (es more : List RunEvent) → (rest : List OutstandingCall) × (asked opened (es ++ more) ≡ asked opened es ++ rest)
asked_more opened es more = (asked_from opened (client_after opened es) more, asked_append opened es more)

-- ---- The call that is answered

pub record AnsweredSubmit (opened : LinkParameters) (link : ℕ) (run : List Mark) (o : OutstandingCall) : Type 0 where
  pub index : ℕ
  pub own : OutstandingCall
  pub submit : SubmittedCall opened link run index own
  pub own_xid : o.xid ≡ submit.xid
  pub own_call : o.call ≡ submit.call
  pub own_plan : o.plan ≡ submit.accepted.plan
  pub own_stag : o.stag ≡ stag_for (client opened link submit.earlier).state submit.xid

-- with its regions, and the accesses of them so far
pub record AnsweredCall (opened : LinkParameters) (link : ℕ) (run : List Mark) (es : List RunEvent) (o : OutstandingCall) : Type 0 where
  pub submit : AnsweredSubmit opened link run o
  pub backed : HasBuffers (client_by opened es).state.regions (buffers o.stag o.plan)
  pub settled : Settled (places_after 0 es) (client_by opened es).state.regions (client_by opened es).state.accesses_received

pub answered_submit : (opened : LinkParameters) (link : ℕ) (run : List Mark) → IsTyped run → AskedSoFar opened link run → (es more : List RunEvent) → events link Initiator run ≡ es ++ more
    → (xid : ℕ) (o : OutstandingCall) → answered_call (client_by opened es).state xid ≡ Some o → AnsweredCall opened link run es o
answered_submit opened link run typed asked_so es more is xid o found =
    let g = client_goes opened link run typed asked_so in
    let goes : GoesOn (client_rules opened) (ClientGood opened) 0 (initial_client opened) es =
    first_preserve (client_rules opened) (ClientGood opened) 0 (initial_client opened) es more (subst (λ (xs : List RunEvent). GoesOn (client_rules opened) (ClientGood opened) 0 (initial_client opened) xs) is g.goes) in
    let k = keeps_along opened es goes in
    let a = asked_found opened es (λ (x : OutstandingCall). eqb x.xid xid && is_sent (client_by opened es).state x) (client_by opened es).state.outstanding o k.keeps.owns found in
    let later = asked_more opened es more in
    let whole : asked opened (events link Initiator run) ≡ a.front ++ a.own ∷ (a.back ++ later.0) =
    ap (λ (xs : List RunEvent). asked opened xs) is ∙ later.1 ∙ ap (λ (os : List OutstandingCall). os ++ later.0) a.is ∙ append_assoc a.front (a.own ∷ a.back) later.0 in
    let w = each_submitted opened link run typed asked_so a.front a.own (a.back ++ later.0) whole in
    record {
      submit = record {
        index = length a.front;
        own = a.own;
        submit = w;
        own_xid = a.own_xid ∙ w.own_xid;
        own_call = a.own_call ∙ w.own_call;
        own_plan = a.own_plan ∙ w.own_plan;
        own_stag = a.own_stag ∙ w.own_stag;
      };
      backed = (let h = backed_at (client_by opened es).state.regions a.front a.own a.back (subst (λ (os : List OutstandingCall). AllBacked (client_by opened es).state.regions os) a.is k.keeps.backed) in
          subst (λ (bs : List Buffer). HasBuffers (client_by opened es).state.regions bs) (λ i. buffers (sym a.own_stag i) (sym a.own_plan i)) h);
      settled = k.keeps.settled;
    }

-- ---- Of two Submits under one xid there is one

pub record SameSubmit (early late : List Mark) (one two : Mark) : Type 0 where
  pub place : early ≡ late
  pub mark : one ≡ two

pub same_submit : (opened : LinkParameters) (link : ℕ) (run early late rest others : List Mark) (call other : Call) (form way : Form) (xid yid : ℕ) → AskedSoFar opened link run → xid ≡ yid
    → run ≡ early ++ marks.Submit link call form (submissions.Accepted xid) ∷ rest → run ≡ late ++ marks.Submit link other way (submissions.Accepted yid) ∷ others
    → SameSubmit early late (marks.Submit link call form (submissions.Accepted xid)) (marks.Submit link other way (submissions.Accepted yid))
same_submit opened link run early late rest others call other form way xid yid asked_so same here again = by (order early one rest late two others (sym here ∙ again))
  where
    one : Mark
    one = marks.Submit link call form (submissions.Accepted xid)

    two : Mark
    two = marks.Submit link other way (submissions.Accepted yid)

    by : Order early one rest late two others → SameSubmit early late one two
    by (Here e m) = record { place = e; mark = m }
    by (Behind gap e then) = absurd (let lt = xids_differ IsPrefixOf opened link run early gap others call other form way xid yid (here ∙ ap (λ (t : List Mark). early ++ one ∷ t) then) asked_so in omega (arith, lt, same))
    by (Before gap e then) = absurd (let lt = xids_differ IsPrefixOf opened link run late gap rest other call way form yid xid (again ∙ ap (λ (t : List Mark). late ++ two ∷ t) then) asked_so in omega (arith, lt, same))

pub plan_is_lem : (p q : Plan) (r : Result Plan TooLarge) → r ≡ Ok p → r ≡ Ok q → p ≡ q
plan_is_lem p q r e f = (let s : Ok p ≡ Ok q = sym e ∙ f in cc)

-- an accepted call of this xid is the one with the plan
pub record OwnSubmit (early late : List Mark) (call other : Call) (own plan : Plan) : Type 0 where
  pub place : early ≡ late
  pub call_is : call ≡ other
  pub plan_is : own ≡ plan

pub own_submit : (opened : LinkParameters) (link : ℕ) (run before : List Mark) (mark : Mark) (after : List Mark) (xid : ℕ) (plan : Plan) → AskedSoFar opened link run → run ≡ before ++ mark ∷ after
    → (h : HasPlan opened link run xid plan) → (early later : List Mark) (call : Call) (form : Form) (yid : ℕ) → before ≡ early ++ marks.Submit link call form (submissions.Accepted yid) ∷ later
    → (a : IsAccepted opened link early call form yid) → yid ≡ xid → OwnSubmit early h.before call h.call a.plan plan
own_submit opened link run before mark after xid plan asked_so is h early later call form yid there a same =
    let whole : run ≡ early ++ marks.Submit link call form (submissions.Accepted yid) ∷ (later ++ mark ∷ after) =
    is ∙ ap (λ (b : List Mark). b ++ mark ∷ after) there ∙ append_assoc early (marks.Submit link call form (submissions.Accepted yid) ∷ later) (mark ∷ after) in
    let s = same_submit opened link run early h.before (later ++ mark ∷ after) h.at.after call h.call form h.form yid xid asked_so same whole h.at.is in
    let m = s.mark in
    let calls : call ≡ h.call = cc in
    let forms : form ≡ h.form = cc in
    record {
      place = s.place;
      call_is = calls;
      plan_is = plan_is_lem a.plan plan (plan_for (client opened link h.before).state xid h.call h.form)
          ((λ i. plan_for (client opened link (sym s.place i)).state (sym same i) (sym calls i) (sym forms i)) ∙ a.planned) h.planned;
    }
