-- Each call that a client was opened with, to be sent again, waits until it is accepted.
use Rattle.std.proofs.Common.{◌≡◌, ℕ, ◌+◌, Bool, true, false, cond, ◌||◌, eqb, eqb-true, List, [], ◌∷◌, ◌++◌, map, refl, sym, ap, subst, ◌∙◌, ◌⊎◌, inl, inr, None, Option, Some}
use Rattle.std.specs.List.{list_any}
use Rattle.std.proofs.lemmas.Bool.{eq-eqb}
use Rattle.nr_wire.specs.declared.hello.Side.TheVariants.{Initiator}
use Rattle.nr_link.specs.declared.end.End.{End as Stop}
use Rattle.nr_link.specs.Frames.{is_hello}
use Rattle.nr_reduce.specs.declared.mark.LinkParameters.{LinkParameters}
use Rattle.nr_reduce.specs.declared.mark.Mark.{Mark}
use Rattle.nr_reduce.specs.declared.mark.ResumedCall.{ResumedCall}
use Rattle.nr_reduce.specs.Plans.{regions_needed}
use Rattle.nr_reduce.specs.Events.{RunEvent, events}
use Rattle.nr_reduce.specs.Events.RunEvent.{FrameReceived, CallSubmitted, MemoryRevoked, CallExecuted, QueueWritten, ServerTold}
use Rattle.nr_reduce.specs.EndRules.{EndState, end_state_after, next_end_state, next_end_state_by, next_end_state_in}
use Rattle.nr_reduce.specs.ClientState.{ClientState, WaitingCall, others_than, waiting_from}
use Rattle.nr_reduce.specs.Client.{client_segment, client_rules, client_end, client_state_after, initial_client, revoked_waiting, with_hello, with_segment}
use Rattle.nr_reduce.specs.History.{AcceptedCall, accepted_calls}
use Rattle.nr_reduce.specs.Run.{client}
use Rattle.nr_reduce.proofs.Placing.{segment_waiting}
use Rattle.nr_laws.proofs.AcceptedEvents.{accepted_events}
use Rattle.nr_laws.proofs.ClientSays.{accepted_in, accepted_append}
use Rattle.nr_laws.proofs.DistinctKeys.{any_append, or_left_lem, or_right_lem}

abbrev pub is_waiting : List WaitingCall → ℕ → Bool
is_waiting ws xid = list_any (λ (w : WaitingCall). eqb w.xid xid) ws

abbrev pub is_accepted : List AcceptedCall → ℕ → Bool
is_accepted calls xid = list_any (λ (a : AcceptedCall). eqb a.xid xid) calls

-- ---- An event: it waits on, or is accepted now

revoked_waits : (xid n : ℕ) (ws : List WaitingCall) → is_waiting (map (revoked_waiting n) ws) xid ≡ is_waiting ws xid
revoked_waits xid n [] = refl
revoked_waits xid n (w ∷ ws) = λ i. eqb (by (eqb w.xid n) i) xid || revoked_waits xid n ws i
  where
    by : (b : Bool) → (cond b (record w { is_revoked = true }) w).xid ≡ w.xid
    by true = refl
    by false = refl

sent_or_waits : (xid n : ℕ) (ws : List WaitingCall) → is_waiting ws xid ≡ true → (n ≡ xid) ⊎ (is_waiting (others_than ws n) xid ≡ true)
sent_or_waits xid n [] e = inr e
sent_or_waits xid n (w ∷ ws) e = by (eqb w.xid n) refl (eqb w.xid xid) refl e
  where
    by : (b : Bool) → eqb w.xid n ≡ b → (c : Bool) → eqb w.xid xid ≡ c → (c || is_waiting ws xid) ≡ true → (n ≡ xid) ⊎ (is_waiting (cond b ws (w ∷ ws)) xid ≡ true)
    by true sent true own e = inl (sym (eqb-true w.xid n sent) ∙ eqb-true w.xid xid own)
    by true sent false own e = inr e
    by false sent true own e = inr (or_left_lem (eqb w.xid xid) (is_waiting ws xid) own)
    by false sent false own e = inr (or_right_lem (eqb w.xid xid) (is_waiting ws xid) e)

abbrev AcceptedOrWaits : ℕ → RunEvent → ClientState → Type 0
AcceptedOrWaits xid e k = (is_accepted (accepted_in (e ∷ [])) xid ≡ true) ⊎ (is_waiting k.waiting xid ≡ true)

event_waits : (opened : LinkParameters) (xid : ℕ) (k : ClientState) (e : RunEvent) → is_waiting k.waiting xid ≡ true → AcceptedOrWaits xid e (client_state_after opened k e)
unfolding client_state_after
event_waits opened xid k (FrameReceived f) h = inr (by (is_hello f))
  where
    by : (b : Bool) → is_waiting (cond b (with_hello opened k f) (with_segment k f (client_segment k f))).waiting xid ≡ true
    by true = h
    by false = ap (λ (ws : List WaitingCall). is_waiting ws xid) (segment_waiting k f (client_segment k f)) ∙ h
event_waits opened xid k (CallSubmitted p a) h = by (sent_or_waits xid a.xid k.waiting h)
  where
    by : (a.xid ≡ xid) ⊎ (is_waiting (others_than k.waiting a.xid) xid ≡ true) → AcceptedOrWaits xid (CallSubmitted p a) (client_state_after opened k (CallSubmitted p a))
    by (inl same) = inl (or_left_lem (eqb a.xid xid) false (eq-eqb a.xid xid same))
    by (inr waits) = inr waits
event_waits opened xid k (MemoryRevoked p n) h = inr (revoked_waits xid n k.waiting ∙ h)
event_waits opened xid k (CallExecuted x) h = inr h
event_waits opened xid k (QueueWritten taken) h = inr h
event_waits opened xid k (ServerTold what) h = inr h

next_waits : (opened : LinkParameters) (xid : ℕ) (r : EndState ClientState) (e : RunEvent) → is_waiting r.state.waiting xid ≡ true → AcceptedOrWaits xid e (next_end_state (client_rules opened) r e).state
next_waits opened xid r e h = by_ended r.ended
  where
    by_why : (o : Option Stop) → AcceptedOrWaits xid e (next_end_state_by (client_rules opened) r.state e o).state
    by_why None = event_waits opened xid r.state e h
    by_why (Some end) = inr h

    by_ended : (o : Option Stop) → AcceptedOrWaits xid e (next_end_state_in (client_rules opened) r.state e o).state
    by_ended None = by_why (client_end r.state e)
    by_ended (Some end) = inr h

-- ---- All events

waits_from : (opened : LinkParameters) (xid : ℕ) (r : EndState ClientState) (es : List RunEvent) → is_waiting r.state.waiting xid ≡ true → (is_accepted (accepted_in es) xid || is_waiting (end_state_after (client_rules opened) r es).state.waiting xid) ≡ true
waits_from opened xid r [] h = h
waits_from opened xid r (e ∷ es) h = by (λ waits. waits_from opened xid (next_end_state (client_rules opened) r e) es waits) (next_waits opened xid r e h)
  where
    after : EndState ClientState
    after = end_state_after (client_rules opened) (next_end_state (client_rules opened) r e) es

    parts : is_accepted (accepted_in (e ∷ es)) xid ≡ (is_accepted (accepted_in (e ∷ [])) xid || is_accepted (accepted_in es) xid)
    parts = ap (λ (calls : List AcceptedCall). is_accepted calls xid) (accepted_append (e ∷ []) es) ∙ any_append (λ (a : AcceptedCall). eqb a.xid xid) (accepted_in (e ∷ [])) (accepted_in es)

    or_second : (a b c : Bool) → (b || c) ≡ true → ((a || b) || c) ≡ true
    or_second true b c e = refl
    or_second false b c e = e

    by : (is_waiting (next_end_state (client_rules opened) r e).state.waiting xid ≡ true → (is_accepted (accepted_in es) xid || is_waiting after.state.waiting xid) ≡ true) → AcceptedOrWaits xid e (next_end_state (client_rules opened) r e).state
        → (is_accepted (accepted_in (e ∷ es)) xid || is_waiting after.state.waiting xid) ≡ true
    by later (inl now) = or_left_lem (is_accepted (accepted_in (e ∷ es)) xid) (is_waiting after.state.waiting xid) (parts ∙ or_left_lem (is_accepted (accepted_in (e ∷ [])) xid) (is_accepted (accepted_in es) xid) now)
    by later (inr waits) =
        ap (λ (b : Bool). b || is_waiting after.state.waiting xid) parts
        ∙ or_second (is_accepted (accepted_in (e ∷ [])) xid) (is_accepted (accepted_in es) xid) (is_waiting after.state.waiting xid) (later waits)

waits_at_first : (stag xid : ℕ) (rs : List ResumedCall) → list_any (λ (r : ResumedCall). eqb r.xid xid) rs ≡ true → is_waiting (waiting_from stag rs) xid ≡ true
waits_at_first stag xid [] e = e
waits_at_first stag xid (r ∷ rs) e = by (eqb r.xid xid) e (waits_at_first (stag + regions_needed r.plan) xid rs)
  where
    by : (b : Bool) → (b || list_any (λ (x : ResumedCall). eqb x.xid xid) rs) ≡ true → (list_any (λ (x : ResumedCall). eqb x.xid xid) rs ≡ true → is_waiting (waiting_from (stag + regions_needed r.plan) rs) xid ≡ true)
        → (b || is_waiting (waiting_from (stag + regions_needed r.plan) rs) xid) ≡ true
    by true e later = refl
    by false e later = later e

pub waits_or_accepted : (opened : LinkParameters) (link : ℕ) (run : List Mark) (xid : ℕ) → list_any (λ (r : ResumedCall). eqb r.xid xid) opened.resumed ≡ true
    → (is_accepted (accepted_calls link run) xid || is_waiting (client opened link run).state.waiting xid) ≡ true
unfolding client
waits_or_accepted opened link run xid e =
    subst (λ (calls : List AcceptedCall). (is_accepted calls xid || is_waiting (client opened link run).state.waiting xid) ≡ true) (accepted_events link run)
    (waits_from opened xid (initial_client opened) (events link Initiator run) (waits_at_first opened.first_stag xid opened.resumed e))
