-- The calls that wait to be sent again: only a call that is accepted changes them, and those that are sent again are the first ones.
use Rattle.std.specs.Prelude.{◌&&◌}
use Rattle.std.specs.List.{AllByRecursion}
use Rattle.std.proofs.Common.{◌≡◌, ℕ, ◌+◌, ◌<◌, Bool, true, false, cond, eqb, List, [], ◌∷◌, ◌++◌, length, map, Option, None, Some, refl, sym, ap, subst, ◌∙◌}
use Rattle.std.proofs.lemmas.Bool.{eq-eqb}
use Rattle.nr_wire.specs.declared.hello.Side.TheVariants.{Initiator}
use Rattle.nr_link.specs.declared.end.End.{End}
use Rattle.nr_link.specs.Frames.{Frame, is_hello}
use Rattle.nr_reduce.specs.declared.mark.LinkParameters.{LinkParameters}
use Rattle.nr_reduce.specs.declared.mark.Mark.{Mark}
use Rattle.nr_reduce.specs.declared.mark.ResumedCall.{ResumedCall}
use Rattle.nr_reduce.specs.Client.{client_end, client_rules, client_segment, client_state_after, initial_client, revoked_waiting, with_hello, with_segment}
use Rattle.nr_reduce.specs.ClientState.{ClientState, WaitingCall, others_than, waiting_from}
use Rattle.nr_reduce.specs.EndRules.{EndState, end_state_after, next_end_state, next_end_state_by, next_end_state_in}
use Rattle.nr_reduce.specs.Events.{RunEvent, events, events_at, if_own}
use Rattle.nr_reduce.specs.Events.RunEvent.{FrameReceived, CallSubmitted, MemoryRevoked, CallExecuted, QueueWritten, ServerTold}
use Rattle.nr_reduce.specs.History.{AcceptedCall, accepted_at, bytes_received}
use Rattle.nr_reduce.specs.KeptClient.{CanResume}
use Rattle.nr_reduce.specs.Plans.{regions_needed}
use Rattle.nr_reduce.specs.Run.{client}
use Rattle.nr_reduce.specs.SubmitAnswer.{calls_to_resend}
use Rattle.nr_reduce.proofs.OwnStags.{kept_after}
use Rattle.nr_reduce.proofs.Placing.{segment_waiting}
use Rattle.nr_reduce.proofs.Resending.{both, first_to_resend}
use Rattle.nr_reduce.proofs.Standing.{itself}
use Rattle.nr_reduce.proofs.Steps.{client_one}
use Rattle.nr_drill.specs.Drill.{resend_mark}
use Rattle.nr_world.specs.LinkStands.{as_waiting}
use Rattle.nr_world.proofs.CallLines.{LeavesCalls}
use Rattle.nr_reduce.specs.declared.call.Submission.TheVariants as submissions
use Rattle.nr_reduce.specs.declared.mark.Mark.TheVariants as marks

-- ---- Events that are no accepted call

abbrev NoCall : RunEvent → Type 0
NoCall (CallSubmitted place a) = ⊥
NoCall event = Unit {0}

same_revoked : (xid : ℕ) (ws : List WaitingCall) → map as_waiting (map (revoked_waiting xid) ws) ≡ map as_waiting ws
same_revoked xid [] = refl
same_revoked xid (w ∷ ws) = λ i. same (eqb w.xid xid) i ∷ same_revoked xid ws i
  where
    same : (b : Bool) → as_waiting (cond b (record w { is_revoked = true }) w) ≡ as_waiting w
    same true = refl
    same false = refl

waiting_event : (o : LinkParameters) (k : ClientState) (event : RunEvent) → NoCall event → map as_waiting (client_state_after o k event).waiting ≡ map as_waiting k.waiting
unfolding client_state_after
waiting_event o k (FrameReceived f) h = by (is_hello f)
  where
    by : (b : Bool) → map as_waiting (cond b (with_hello o k f) (with_segment k f (client_segment k f))).waiting ≡ map as_waiting k.waiting
    by true = refl
    by false = ap (λ (ws : List WaitingCall). map as_waiting ws) (segment_waiting k f (client_segment k f))
waiting_event o k (CallSubmitted place a) h = absurd h
waiting_event o k (MemoryRevoked place xid) h = same_revoked xid k.waiting
waiting_event o k (CallExecuted call) h = refl
waiting_event o k (QueueWritten taken) h = refl
waiting_event o k (ServerTold what) h = refl

waiting_next : (o : LinkParameters) (k : ClientState) (ended : Option End) (event : RunEvent) → NoCall event → map as_waiting (next_end_state_in (client_rules o) k event ended).state.waiting ≡ map as_waiting k.waiting
waiting_next o k (Some end) event h = refl
waiting_next o k None event h = by (client_end k event)
  where
    by : (why : Option End) → map as_waiting (next_end_state_by (client_rules o) k event why).state.waiting ≡ map as_waiting k.waiting
    by None = waiting_event o k event h
    by (Some end) = refl

waiting_all : (o : LinkParameters) (r : EndState ClientState) (es : List RunEvent) → AllByRecursion NoCall es → map as_waiting (end_state_after (client_rules o) r es).state.waiting ≡ map as_waiting r.state.waiting
waiting_all o r [] h = refl
waiting_all o r (event ∷ es) h = waiting_all o (next_end_state (client_rules o) r event) es h.1 ∙ waiting_next o r.state r.ended event h.0

-- ---- Marks at which no call is accepted

all_if : (b : Bool) (es : List RunEvent) → AllByRecursion NoCall es → AllByRecursion NoCall (if_own b es)
all_if true es h = h
all_if false es h = tt

all_frames : (fs : List Frame) → AllByRecursion NoCall (map FrameReceived fs)
all_frames [] = tt
all_frames (f ∷ fs) = (tt, all_frames fs)

none_submitted : (link : ℕ) (run : List Mark) (mark : Mark) → accepted_at link mark ≡ [] → AllByRecursion NoCall (events_at link Initiator run mark)
none_submitted link run (marks.Submit l call form (submissions.Accepted xid)) none = by (eqb l link) none
  where
    a : AcceptedCall
    a = record { xid = xid; call = call; form = form }

    by : (b : Bool) → cond b (a ∷ []) [] ≡ [] → AllByRecursion NoCall (if_own (b && true) (CallSubmitted (length (bytes_received link Initiator run)) a ∷ []))
    by true e = absurd cc
    by false e = tt
none_submitted link run (marks.Submit l call form (submissions.Refused why)) none = tt
none_submitted link run (marks.Submit l call form submissions.Dropped) none = tt
none_submitted link run (marks.Wrote l side bytes) none = all_if _ (QueueWritten (length bytes) ∷ []) (tt, tt)
none_submitted link run (marks.Fed l side bytes) none = all_if _ (map FrameReceived _) (all_frames _)
none_submitted link run (marks.Execute l xid moment payload place reply) none = all_if _ (CallExecuted _ ∷ []) (tt, tt)
none_submitted link run (marks.Done l xid outcome) none = tt
none_submitted link run (marks.Lost l xid) none = tt
none_submitted link run (marks.Forget l xid) none = tt
none_submitted link run (marks.Revoke l xid bytes) none = all_if _ (MemoryRevoked _ xid ∷ []) (tt, tt)
none_submitted link run (marks.Drop l) none = tt
none_submitted link run (marks.Told l what) none = all_if _ (ServerTold what ∷ []) (tt, tt)

pub leaves_calls : (o : LinkParameters) (link : ℕ) (run : List Mark) (mark : Mark) → accepted_at link mark ≡ [] → LeavesCalls o link run mark
leaves_calls o link run mark none = record {
  accepts = none;
  waits =
      ap (λ (r : EndState ClientState). map as_waiting r.state.waiting) (client_one o link run mark)
      ∙ waiting_all o (client o link run) (events_at link Initiator run mark) (none_submitted link run mark none);
}

-- ---- Calls that are sent again

submitted_waits : (o : LinkParameters) (k : ClientState) (ended : Option End) (place : ℕ) (a : AcceptedCall) (w : WaitingCall) (others : List WaitingCall) → ended ≡ None → k.waiting ≡ w ∷ others → a.xid ≡ w.xid →
    (next_end_state_in (client_rules o) k (CallSubmitted place a) ended).state.waiting ≡ others
unfolding client_state_after client_end
submitted_waits o k None place a w others none there own =
    ap (λ (ws : List WaitingCall). others_than ws a.xid) there ∙ ap (λ (b : Bool). cond b others (w ∷ others)) (eq-eqb w.xid a.xid (sym own))
submitted_waits o k (Some end) place a w others none there own = absurd cc

-- a call that is sent again was the first that waited
pub record IsFirstWaiting (o : LinkParameters) (link : ℕ) (run : List Mark) (w : WaitingCall) : Type 0 where
  pub others : List WaitingCall
  pub before : (client o link run).state.waiting ≡ w ∷ others
  pub after : (client o link (run ++ resend_mark link w ∷ [])).state.waiting ≡ others

pub first_waiting : (o : LinkParameters) (link : ℕ) (run : List Mark) (w : WaitingCall) (rest : List WaitingCall) → calls_to_resend (client o link run) ≡ w ∷ rest → IsFirstWaiting o link run w
first_waiting o link run w rest is =
    let r : EndState ClientState = client o link run in
    let a : AcceptedCall = record { xid = w.xid; call = w.call; form = w.form } in
    let place : ℕ = length (bytes_received link Initiator run) in
    let first = first_to_resend r w rest is in
    let can = both r.ended r.state.has_hello first.allowed in
    record {
      others = first.others;
      before = first.there;
      after =
          ap (λ (x : EndState ClientState). x.state.waiting) (client_one o link run (resend_mark link w))
          ∙ ap (λ (b : Bool). (end_state_after (client_rules o) r (if_own (b && true) (CallSubmitted place a ∷ []))).state.waiting) (itself link)
          ∙ submitted_waits o r.state r.ended place a w first.others can.0 first.there refl;
    }

-- ---- Their xids are below the first new one

abbrev pub AreBelowFirst : LinkParameters → List WaitingCall → Type 0
AreBelowFirst o ws = AllByRecursion (λ (w : WaitingCall). w.xid < o.first_xid) ws

below_resumed : (next stag : ℕ) (rs : List ResumedCall) → CanResume rs next → AllByRecursion (λ (w : WaitingCall). w.xid < next) (waiting_from stag rs)
below_resumed next stag [] h = tt
below_resumed next stag (r ∷ rs) h = (h.1.0, below_resumed next (stag + regions_needed r.plan) rs h.1.1.1)

below_others : (first xid : ℕ) (ws : List WaitingCall) → AllByRecursion (λ (w : WaitingCall). w.xid < first) ws → AllByRecursion (λ (w : WaitingCall). w.xid < first) (others_than ws xid)
below_others first xid [] h = tt
below_others first xid (w ∷ ws) h = by (eqb w.xid xid)
  where
    by : (b : Bool) → AllByRecursion (λ (v : WaitingCall). v.xid < first) (cond b ws (w ∷ ws))
    by true = h.1
    by false = h

below_revoked : (first xid : ℕ) (ws : List WaitingCall) → AllByRecursion (λ (w : WaitingCall). w.xid < first) ws → AllByRecursion (λ (w : WaitingCall). w.xid < first) (map (revoked_waiting xid) ws)
below_revoked first xid [] h = tt
below_revoked first xid (w ∷ ws) h = (by (eqb w.xid xid), below_revoked first xid ws h.1)
  where
    by : (b : Bool) → (cond b (record w { is_revoked = true }) w).xid < first
    by true = h.0
    by false = h.0

below_event : (o : LinkParameters) (k : ClientState) (event : RunEvent) → AreBelowFirst o k.waiting → AreBelowFirst o (client_state_after o k event).waiting
unfolding client_state_after
below_event o k (FrameReceived f) h = by (is_hello f)
  where
    by : (b : Bool) → AreBelowFirst o (cond b (with_hello o k f) (with_segment k f (client_segment k f))).waiting
    by true = h
    by false = subst (AreBelowFirst o) (sym (segment_waiting k f (client_segment k f))) h
below_event o k (CallSubmitted place a) h = below_others o.first_xid a.xid k.waiting h
below_event o k (MemoryRevoked place xid) h = below_revoked o.first_xid xid k.waiting h
below_event o k (CallExecuted call) h = h
below_event o k (QueueWritten taken) h = h
below_event o k (ServerTold what) h = h

pub waiting_below : (o : LinkParameters) (link : ℕ) (run : List Mark) → CanResume o.resumed o.first_xid → AreBelowFirst o (client o link run).state.waiting
unfolding client
waiting_below o link run can =
    kept_after (client_rules o) (λ (k : ClientState). AreBelowFirst o k.waiting) (below_event o) (initial_client o) (events link Initiator run) (below_resumed o.first_xid o.first_stag o.resumed can)
