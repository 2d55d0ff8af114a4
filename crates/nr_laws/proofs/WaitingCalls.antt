-- The calls that wait to be sent again have STags below the one that is given next; so each accepted call has room for its STags.
use Rattle.std.proofs.Common.{◌≡◌, ℕ, ◌+◌, ◌≤◌, Bool, true, false, cond, eqb, List, [], ◌∷◌, map, Option, None, Some, Result, Ok, Err, refl, sym, ap, subst, arith, eqb-true, ◌∙◌}
use Rattle.std.specs.List.{AllByRecursion}
use Rattle.nr_wire.specs.declared.hello.Side.TheVariants.{Initiator}
use Rattle.nr_link.specs.Frames.{is_hello, Frame}
use Rattle.nr_reduce.specs.declared.call.Call.{Call}
use Rattle.nr_reduce.specs.declared.call.Form.{Form}
use Rattle.nr_reduce.specs.declared.mark.LinkParameters.{LinkParameters}
use Rattle.nr_reduce.specs.declared.mark.Mark.{Mark}
use Rattle.nr_reduce.specs.declared.mark.ResumedCall.{ResumedCall}
use Rattle.nr_reduce.specs.declared.outline.Plan.{Plan}
use Rattle.nr_reduce.specs.Limits.{numbers_end}
use Rattle.nr_reduce.specs.Plans.{TooLarge, plan_of, regions_needed}
use Rattle.nr_reduce.specs.Events.{RunEvent, events}
use Rattle.nr_reduce.specs.Events.RunEvent.{FrameReceived, CallSubmitted, MemoryRevoked, CallExecuted, QueueWritten, ServerTold}
use Rattle.nr_reduce.specs.EndRules.{end_state_after}
use Rattle.nr_reduce.specs.ClientState.{WaitingCall, ClientState, first_of, others_than, waiting_call, waiting_from, stag_after, call_payload, plan_unless, plan_for, stag_unless, stag_for, stags_unless_waiting, stags_taken}
use Rattle.nr_reduce.specs.Client.{client_rules, client_state_after, initial_client, client_segment, with_segment, with_hello, outstanding_of, revoked_waiting, with_message, with_request, due_with_response, plan_or}
use Rattle.nr_reduce.specs.Run.{client}
use Rattle.nr_reduce.specs.Asked.{IsAccepted, IsPlannedAs}
use Rattle.nr_reduce.specs.Opening.{IsOpened, IsResumed, AreResumed, lengths_before}
use Rattle.nr_link.specs.declared.agreement.Agreement.{Agreement}
use Rattle.nr_reduce.proofs.OwnLimits.{client_limits_of, planned_as}
use Rattle.nr_reduce.proofs.OwnStags.{kept_after}
use Rattle.nr_reduce.proofs.Placing.{segment_waiting}
use Rattle.nr_wire.specs.Segment.{Segment}
use Rattle.nr_link.specs.ReceiveState.{ReadRequest, message_completed, read_request_of}
use Rattle.nr_reduce.specs.History.{AcceptedCall}
use Rattle.nr_laws.specs.Resuming.{ResumesArePlanned}

abbrev StagsFit : (stag : ℕ) → List WaitingCall → Type 0
StagsFit stag ws = AllByRecursion (λ (w : WaitingCall). w.stag + regions_needed w.plan ≤ stag) ws

fit_larger : (n m : ℕ) (ws : List WaitingCall) → n ≤ m → StagsFit n ws → StagsFit m ws
fit_larger n m [] le h = tt
fit_larger n m (w ∷ ws) le h = ((let fits = h.0 in omega (arith, fits, le)), fit_larger n m ws le h.1)

fit_others : (stag xid : ℕ) (ws : List WaitingCall) → StagsFit stag ws → StagsFit stag (others_than ws xid)
fit_others stag xid [] h = tt
fit_others stag xid (w ∷ ws) h = by (eqb w.xid xid)
  where
    by : (b : Bool) → StagsFit stag (cond b ws (w ∷ ws))
    by true = h.1
    by false = h

fit_revoked : (stag xid : ℕ) (ws : List WaitingCall) → StagsFit stag ws → StagsFit stag (map (revoked_waiting xid) ws)
fit_revoked stag xid [] h = tt
fit_revoked stag xid (w ∷ ws) h = (by (eqb w.xid xid), fit_revoked stag xid ws h.1)
  where
    by : (b : Bool) → (cond b (record w { is_revoked = true }) w).stag + regions_needed (cond b (record w { is_revoked = true }) w).plan ≤ stag
    by true = h.0
    by false = h.0

stags_rise : (stag : ℕ) (rs : List ResumedCall) → stag ≤ stag_after stag rs
stags_rise stag [] = omega arith
stags_rise stag (r ∷ rs) = (let rest = stags_rise (stag + regions_needed r.plan) rs in omega (arith, rest))

fit_first : (stag : ℕ) (rs : List ResumedCall) → StagsFit (stag_after stag rs) (waiting_from stag rs)
fit_first stag [] = tt
fit_first stag (r ∷ rs) = ((let rest = stags_rise (stag + regions_needed r.plan) rs in omega (arith, rest)), fit_first (stag + regions_needed r.plan) rs)

segment_stag : (k : ClientState) (f : Frame) (r : Result Segment ℕ) → (with_segment k f r).stag ≡ k.stag
segment_stag k f (Err reason) = refl
segment_stag k f (Ok segment) = by (message_completed k.received segment) (read_request_of segment)
  where
    by : (m : Option (List ℕ)) (q : Option ReadRequest) → (with_request (with_message k f.end m) (due_with_response k f segment) q).stag ≡ k.stag
    by None None = refl
    by None (Some q) = refl
    by (Some m) None = refl
    by (Some m) (Some q) = refl

abbrev Fits : ClientState → Type 0
Fits k = StagsFit k.stag k.waiting

fit_event : (opened : LinkParameters) (k : ClientState) (e : RunEvent) → Fits k → Fits (client_state_after opened k e)
unfolding client_state_after
fit_event opened k (FrameReceived f) h = by (is_hello f)
  where
    by : (b : Bool) → Fits (cond b (with_hello opened k f) (with_segment k f (client_segment k f)))
    by true = h
    by false = subst (λ (ws : List WaitingCall). StagsFit (with_segment k f (client_segment k f)).stag ws) (sym (segment_waiting k f (client_segment k f))) (subst (λ (n : ℕ). StagsFit n k.waiting) (sym (segment_stag k f (client_segment k f))) h)
fit_event opened k (CallSubmitted place a) h = fit_larger k.stag (k.stag + stags_taken k a.xid (outstanding_of k a).plan) (others_than k.waiting a.xid) (omega arith) (fit_others k.stag a.xid k.waiting h)
fit_event opened k (MemoryRevoked place xid) h = fit_revoked k.stag xid k.waiting h
fit_event opened k (CallExecuted call) h = h
fit_event opened k (QueueWritten taken) h = h
fit_event opened k (ServerTold what) h = h

fit_all : (opened : LinkParameters) (es : List RunEvent) → Fits (end_state_after (client_rules opened) (initial_client opened) es).state
fit_all opened es = kept_after (client_rules opened) Fits (fit_event opened) (initial_client opened) es (fit_first opened.first_stag opened.resumed)

fit_of : (opened : LinkParameters) (link : ℕ) (run : List Mark) → Fits (client opened link run).state
unfolding client
fit_of opened link run = fit_all opened (events link Initiator run)

-- the STags of a call that is accepted
stags_of : (k : ClientState) (xid : ℕ) (call : Call) (form : Form) (plan : Plan) → Fits k → plan_for k xid call form ≡ Ok plan → k.stag + stags_taken k xid plan ≤ numbers_end → stag_for k xid + regions_needed plan ≤ numbers_end
unfolding plan_for
stags_of k xid call form plan h is room = by k.waiting h is room
  where
    own : Result Plan TooLarge
    own = plan_of (call_payload xid call) form k.up_max k.down_max

    by : (ws : List WaitingCall) → StagsFit k.stag ws → plan_unless (first_of ws xid) own ≡ Ok plan → k.stag + stags_unless_waiting (first_of ws xid) plan ≤ numbers_end → stag_unless (first_of ws xid) k.stag + regions_needed plan ≤ numbers_end
    by [] h is room = room
    by (w ∷ ws) h is room = same (eqb w.xid xid) is room
      where
        same : (b : Bool) → plan_unless (cond b (Some w) None) own ≡ Ok plan → k.stag + stags_unless_waiting (cond b (Some w) None) plan ≤ numbers_end → stag_unless (cond b (Some w) None) k.stag + regions_needed plan ≤ numbers_end
        same true is room = (let own : w.plan ≡ plan = cc in let fits = h.0 in omega (arith, ap regions_needed own, fits, room))
        same false is room = room

pub accepted_stags : (opened : LinkParameters) (link : ℕ) (before : List Mark) (call : Call) (form : Form) (xid : ℕ) (a : IsAccepted opened link before call form xid) → stag_for (client opened link before).state xid + regions_needed a.plan ≤ numbers_end
accepted_stags opened link before call form xid a = stags_of (client opened link before).state xid call form a.plan (fit_of opened link before) a.planned a.stags

-- and by which lengths it is planned
pub accepted_plan : (opened : LinkParameters) (link : ℕ) (before : List Mark) (call : Call) (form : Form) (xid : ℕ) (plan : Plan) → IsAccepted opened link before call form xid → plan_for (client opened link before).state xid call form ≡ Ok plan → IsPlannedAs xid call form plan
accepted_plan opened link before call form xid plan a planned = planned_as (client opened link before).state xid call form plan (client_limits_of opened link before) a.next a.resent planned

-- ---- The call that is sent again is the first that waits

pub first_there : (Q : WaitingCall → Type 0) (ws : List WaitingCall) (xid : ℕ) (w : WaitingCall) → AllByRecursion Q ws → first_of ws xid ≡ Some w → Q w
first_there Q [] xid w h is = absurd cc
first_there Q (v ∷ ws) xid w h is = by (eqb v.xid xid) is
  where
    by : (b : Bool) → cond b (Some v) None ≡ Some w → Q w
    by true is = (let same : v ≡ w = cc in subst Q same h.0)
    by false is = absurd cc

first_xid : (ws : List WaitingCall) (xid : ℕ) (w : WaitingCall) → first_of ws xid ≡ Some w → xid ≡ w.xid
first_xid [] xid w is = absurd cc
first_xid (v ∷ ws) xid w is = by (eqb v.xid xid) refl is
  where
    by : (b : Bool) → eqb v.xid xid ≡ b → cond b (Some v) None ≡ Some w → xid ≡ w.xid
    by true e is = (let same : v ≡ w = cc in sym (eqb-true v.xid xid e) ∙ ap (λ (x : WaitingCall). x.xid) same)
    by false e is = absurd cc

-- so it is outstanding as it waited
pub record IsSentAgain (k : ClientState) (a : AcceptedCall) (w : WaitingCall) : Type 0 where
  pub stag : (outstanding_of k a).stag ≡ w.stag
  pub plan : (outstanding_of k a).plan ≡ w.plan
  pub xid : a.xid ≡ w.xid

pub sent_again : (k : ClientState) (a : AcceptedCall) (w : WaitingCall) → waiting_call k a.xid ≡ Some w → IsSentAgain k a w
unfolding plan_for
sent_again k a w is = record {
  stag = ap (λ (o : Option WaitingCall). stag_unless o k.stag) is;
  plan = ap (λ (o : Option WaitingCall). plan_or (call_payload a.xid a.call) (plan_unless o (plan_of (call_payload a.xid a.call) a.form k.up_max k.down_max))) is;
  xid = first_xid k.waiting a.xid w is;
}

pub others_there : (Q : WaitingCall → Type 0) (ws : List WaitingCall) (xid : ℕ) → AllByRecursion Q ws → AllByRecursion Q (others_than ws xid)
others_there Q [] xid h = tt
others_there Q (w ∷ ws) xid h = by (eqb w.xid xid)
  where
    by : (b : Bool) → AllByRecursion Q (cond b ws (w ∷ ws))
    by true = h.1
    by false = h

-- ---- What holds of each call that waits from the start, revoked or not, holds on

module _ (Q : WaitingCall → Type 0) (opened : LinkParameters) (revoked : (w : WaitingCall) → Q w → Q (record w { is_revoked = true })) where
  each_revoked : (xid : ℕ) (ws : List WaitingCall) → AllByRecursion Q ws → AllByRecursion Q (map (revoked_waiting xid) ws)
  each_revoked xid [] h = tt
  each_revoked xid (w ∷ ws) h = (by (eqb w.xid xid), each_revoked xid ws h.1)
    where
      by : (b : Bool) → Q (cond b (record w { is_revoked = true }) w)
      by true = revoked w h.0
      by false = h.0

  each_event : (k : ClientState) (e : RunEvent) → AllByRecursion Q k.waiting → AllByRecursion Q (client_state_after opened k e).waiting
  unfolding client_state_after
  each_event k (FrameReceived f) h = by (is_hello f)
    where
      by : (b : Bool) → AllByRecursion Q (cond b (with_hello opened k f) (with_segment k f (client_segment k f))).waiting
      by true = h
      by false = subst (AllByRecursion Q) (sym (segment_waiting k f (client_segment k f))) h
  each_event k (CallSubmitted place a) h = others_there Q k.waiting a.xid h
  each_event k (MemoryRevoked place xid) h = each_revoked xid k.waiting h
  each_event k (CallExecuted call) h = h
  each_event k (QueueWritten taken) h = h
  each_event k (ServerTold what) h = h

  pub waits_on : AllByRecursion Q (waiting_from opened.first_stag opened.resumed) → (link : ℕ) (run : List Mark) → AllByRecursion Q (client opened link run).state.waiting
  unfolding client
  waits_on first link run = kept_after (client_rules opened) (λ k. AllByRecursion Q k.waiting) each_event (initial_client opened) (events link Initiator run) first

-- ---- It is planned for lengths that an earlier hello agreed on

pub record IsPlannedBefore (agreed : Agreement) (w : WaitingCall) : Type 0 where
  pub planned : IsPlannedAs w.xid w.call w.form w.plan
  pub up : planned.up ≤ agreed.up
  pub down : planned.down ≤ agreed.down

before_first : (agreed : Agreement) (stag : ℕ) (rs : List ResumedCall) → AllByRecursion (IsResumed agreed) rs → AllByRecursion (IsPlannedBefore agreed) (waiting_from stag rs)
before_first agreed stag [] h = tt
before_first agreed stag (r ∷ rs) h =
    let own = h.0 in
    (record { planned = own.planned; up = own.up; down = own.down }, before_first agreed (stag + regions_needed r.plan) rs h.1)

pub planned_then : (opened : LinkParameters) (link : ℕ) (run : List Mark) → ResumesArePlanned opened → AllByRecursion (IsPlannedBefore (lengths_before opened.agreed)) (client opened link run).state.waiting
planned_then opened link run h =
    waits_on (IsPlannedBefore (lengths_before opened.agreed)) opened (λ w h. record { planned = h.planned; up = h.up; down = h.down }) (before_first (lengths_before opened.agreed) opened.first_stag opened.resumed h) link run

-- so it is of a link that was opened in range, and of one that wasn't reopened
each_resumed : (agreed : Agreement) (first : ℕ) (rs : List ResumedCall) (next : ℕ) → AreResumed agreed first rs next → AllByRecursion (IsResumed agreed) rs
each_resumed agreed first [] next h = tt
each_resumed agreed first (r ∷ rs) next h = (h.1.0, each_resumed agreed (r.xid + 1) rs next h.1.1)

pub resumes_planned : (opened : LinkParameters) → IsOpened opened → ResumesArePlanned opened
resumes_planned opened o = each_resumed (lengths_before opened.agreed) 1 opened.resumed opened.first_xid o.resumed

pub none_resumed : (opened : LinkParameters) → opened.resumed ≡ [] → ResumesArePlanned opened
none_resumed opened none = subst (AllByRecursion (IsResumed (lengths_before opened.agreed))) (sym none) tt

pub planned_before : (opened : LinkParameters) (link : ℕ) (run : List Mark) → IsOpened opened → AllByRecursion (IsPlannedBefore (lengths_before opened.agreed)) (client opened link run).state.waiting
planned_before opened link run o = planned_then opened link run (resumes_planned opened o)
