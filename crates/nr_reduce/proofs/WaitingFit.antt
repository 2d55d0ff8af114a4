-- The calls that wait to be sent again are as they were submitted: each has a plan of its form, and their xids rise, and are below the first new
-- one.
use Rattle.std.proofs.Common.{ℕ, ◌+◌, ◌<◌, ◌≤◌, Bool, true, false, cond, eqb, List, [], ◌∷◌, map, Option, None, Some, sym, subst, arith}
use Rattle.nr_rpc.specs.Credential.{CanWriteCred}
use Rattle.nr_wire.specs.declared.hello.Side.TheVariants.{Initiator}
use Rattle.nr_link.specs.Frames.{is_hello}
use Rattle.nr_link.specs.declared.agreement.Agreement.{Agreement}
use Rattle.nr_reduce.specs.declared.mark.Mark.{Mark}
use Rattle.nr_reduce.specs.declared.mark.LinkParameters.{LinkParameters}
use Rattle.nr_reduce.specs.declared.mark.ResumedCall.{ResumedCall}
use Rattle.nr_reduce.specs.Plans.{regions_needed}
use Rattle.nr_reduce.specs.Opening.{IsOpened, AreResumed, lengths_before}
use Rattle.nr_reduce.specs.Events.{RunEvent, events}
use Rattle.nr_reduce.specs.Events.RunEvent.{FrameReceived, CallSubmitted, MemoryRevoked, CallExecuted, QueueWritten, ServerTold}
use Rattle.nr_reduce.specs.ClientState.{WaitingCall, ClientState, others_than, waiting_call, waiting_from}
use Rattle.nr_reduce.specs.Client.{client_rules, client_state_after, initial_client, client_segment, with_segment, with_hello, revoked_waiting, xid_unless_waiting}
use Rattle.nr_reduce.specs.SubmitAnswer.{first_xid_or}
use Rattle.nr_reduce.specs.Run.{client}
use Rattle.nr_reduce.specs.Asked.{IsPlannedAs}
use Rattle.nr_reduce.proofs.OwnStags.{kept_after}
use Rattle.nr_reduce.proofs.Placing.{segment_next, segment_waiting, revoked_first}

pub record IsFit (first : ℕ) (w : WaitingCall) : Type 0 where
  pub below : w.xid < first
  pub planned : IsPlannedAs w.xid w.call w.form w.plan
  pub writable : CanWriteCred w.call.cred

abbrev pub AreFit : (first next : ℕ) → List WaitingCall → Type 0
AreFit first next [] = Unit {0}
AreFit first next (w ∷ ws) = IsFit first w × ((w.xid < first_xid_or next ws) × AreFit first next ws)

-- ---- As a client is opened

resumed_below : (agreed : Agreement) (from : ℕ) (rs : List ResumedCall) (next : ℕ) → AreResumed agreed from rs next → from ≤ next
resumed_below agreed from [] next h = h
resumed_below agreed from (r ∷ rs) next h = (let own = h.0 in let rest = resumed_below agreed (r.xid + 1) rs next h.1.1 in omega (arith, own, rest))

resumed_head : (agreed : Agreement) (from stag : ℕ) (rs : List ResumedCall) (next : ℕ) → AreResumed agreed from rs next → from ≤ first_xid_or next (waiting_from stag rs)
resumed_head agreed from stag [] next h = h
resumed_head agreed from stag (r ∷ rs) next h = h.0

fit_first : (agreed : Agreement) (from stag : ℕ) (rs : List ResumedCall) (next : ℕ) → AreResumed agreed from rs next → AreFit next next (waiting_from stag rs)
fit_first agreed from stag [] next h = tt
fit_first agreed from stag (r ∷ rs) next h = (
  record {
    below = (let rest = resumed_below agreed (r.xid + 1) rs next h.1.1 in omega (arith, rest));
    planned = h.1.0.planned;
    writable = h.1.0.writable;
  },
  (
    (let head = resumed_head agreed (r.xid + 1) (stag + regions_needed r.plan) rs next h.1.1 in omega (arith, head)),
    fit_first agreed (r.xid + 1) (stag + regions_needed r.plan) rs next h.1.1,
  ),
)

-- ---- After an event

fit_later : (first n m : ℕ) (ws : List WaitingCall) → n ≤ m → AreFit first n ws → AreFit first m ws
fit_later first n m [] le h = tt
fit_later first n m (w ∷ ws) le h = (h.0, (by ws h.1.0, fit_later first n m ws le h.1.1))
  where
    by : (vs : List WaitingCall) → w.xid < first_xid_or n vs → w.xid < first_xid_or m vs
    by [] lt = omega (arith, lt, le)
    by (v ∷ vs) lt = lt

fit_others : (first next xid : ℕ) (ws : List WaitingCall) → AreFit first next ws → AreFit first next (others_than ws xid)
fit_others first next xid [] h = tt
fit_others first next xid (w ∷ ws) h = by (eqb w.xid xid)
  where
    by : (b : Bool) → AreFit first next (cond b ws (w ∷ ws))
    by true = h.1.1
    by false = h

fit_revoked : (first next xid : ℕ) (ws : List WaitingCall) → AreFit first next ws → AreFit first next (map (revoked_waiting xid) ws)
fit_revoked first next xid [] h = tt
fit_revoked first next xid (w ∷ ws) h = by (eqb w.xid xid) (fit_revoked first next xid ws h.1.1)
  where
    rises : w.xid < first_xid_or next (map (revoked_waiting xid) ws)
    rises = (let same = revoked_first xid next ws in let lt = h.1.0 in omega (arith, same, lt))

    by : (b : Bool) → AreFit first next (map (revoked_waiting xid) ws) → AreFit first next (cond b (record w { is_revoked = true }) w ∷ map (revoked_waiting xid) ws)
    by true rest = (record { below = h.0.below; planned = h.0.planned; writable = h.0.writable }, (rises, rest))
    by false rest = (h.0, (rises, rest))

abbrev Fit : ℕ → ClientState → Type 0
Fit first k = AreFit first k.next_xid k.waiting

later_xid : (o : Option WaitingCall) (next : ℕ) → next ≤ xid_unless_waiting o next
later_xid None next = omega arith
later_xid (Some w) next = omega arith

fit_event : (opened : LinkParameters) (k : ClientState) (e : RunEvent) → Fit opened.first_xid k → Fit opened.first_xid (client_state_after opened k e)
unfolding client_state_after
fit_event opened k (FrameReceived f) h = by (is_hello f)
  where
    by : (b : Bool) → Fit opened.first_xid (cond b (with_hello opened k f) (with_segment k f (client_segment k f)))
    by true = h
    by false = subst (λ (ws : List WaitingCall). AreFit opened.first_xid (with_segment k f (client_segment k f)).next_xid ws) (sym (segment_waiting k f (client_segment k f)))
        (subst (λ (n : ℕ). AreFit opened.first_xid n k.waiting) (sym (segment_next k f (client_segment k f))) h)
fit_event opened k (CallSubmitted place a) h =
    fit_later opened.first_xid k.next_xid (xid_unless_waiting (waiting_call k a.xid) k.next_xid) (others_than k.waiting a.xid) (later_xid (waiting_call k a.xid) k.next_xid)
    (fit_others opened.first_xid k.next_xid a.xid k.waiting h)
fit_event opened k (MemoryRevoked place xid) h = fit_revoked opened.first_xid k.next_xid xid k.waiting h
fit_event opened k (CallExecuted call) h = h
fit_event opened k (QueueWritten taken) h = h
fit_event opened k (ServerTold what) h = h

pub waiting_fit : (opened : LinkParameters) (link : ℕ) (run : List Mark) → IsOpened opened → AreFit opened.first_xid (client opened link run).state.next_xid (client opened link run).state.waiting
unfolding client
waiting_fit opened link run numbers =
    kept_after (client_rules opened) (Fit opened.first_xid) (fit_event opened) (initial_client opened) (events link Initiator run)
    (fit_first (lengths_before opened.agreed) 1 opened.first_stag opened.resumed opened.first_xid numbers.resumed)
