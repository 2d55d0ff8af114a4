-- Until the server's hello is received, the calls that are outstanding are all that were accepted, in order.
use Rattle.std.proofs.Common.{◌≡◌, ℕ, ◌+◌, Bool, true, false, cond, ◌&&◌, eqb, ltb, List, [], ◌∷◌, ◌++◌, length, Option, Some, None, Result, Ok, Err, refl, sym, ap, subst, ◌∙◌, append_assoc, append-nil, arith}
use Rattle.std.specs.Prelude.{map}
use Rattle.std.specs.List.{find}
use Rattle.std.proofs.lemmas.Bool.{eqb-true, le-ltb}
use Rattle.std.proofs.lemmas.Grind.{flat_map-append}
use Rattle.nr_header.specs.declared.header.Header.{Header}
use Rattle.nr_header.specs.declared.fault.HeaderFault.{HeaderFault}
use Rattle.nr_header.specs.declared.fault.HeaderFault.TheVariants as faults
use Rattle.nr_header.specs.Reading.{header_of}
use Rattle.nr_wire.specs.declared.hello.Side.TheVariants.{Initiator, Responder}
use Rattle.nr_wire.specs.Hello.{hello_of}
use Rattle.nr_wire.specs.Segment.{Segment}
use Rattle.nr_link.specs.declared.end.End.{End as Stop}
use Rattle.nr_link.specs.Frames.{Frame, is_hello, frames_completed}
use Rattle.nr_link.specs.Ending.{frame_end_by, hello_end}
use Rattle.nr_link.specs.Reasons.{REASON_INVALIDATED}
use Rattle.nr_link.specs.ReceiveState.{ReadRequest, message_completed, read_request_of}
use Rattle.nr_reduce.specs.declared.call.Submission.TheVariants as submissions
use Rattle.nr_reduce.specs.declared.mark.Mark.{Mark}
use Rattle.nr_reduce.specs.declared.mark.Mark.TheVariants as marks
use Rattle.nr_reduce.specs.declared.mark.LinkParameters.{LinkParameters}
use Rattle.nr_reduce.specs.Plans.{plan_of, TooLarge}
use Rattle.nr_reduce.specs.History.{AcceptedCall, accepted_calls, accepted_at, bytes_received}
use Rattle.nr_reduce.specs.AtEachMark.{AtEachMark}
use Rattle.nr_reduce.specs.Matched.{IsPrefixOf}
use Rattle.nr_reduce.specs.Events.{RunEvent, if_own, events_at, events}
use Rattle.nr_reduce.specs.Events.RunEvent.{FrameReceived, CallSubmitted, MemoryRevoked, CallExecuted, QueueWritten, ServerTold}
use Rattle.nr_reduce.specs.EndRules.{EndState, next_end_state, next_end_state_by, next_end_state_in, end_state_after, output_for, output_for_by, output_for_in}
use Rattle.nr_reduce.specs.OfferedRegions.{region_grants}
use Rattle.nr_reduce.specs.ClientState.{OutstandingCall, ClientState, is_sent, plan_for, WaitingCall, first_of, others_than, plan_unless, stag_unless, stags_unless_waiting, stag_for, stags_taken, call_payload}
use Rattle.nr_reduce.specs.Written.{ends_written}
use Rattle.nr_reduce.specs.ClientMessages.{ReplyVerdict, reply_verdict, reply_by_header, by_call, invalidates_another, message_verdict}
use Rattle.nr_reduce.specs.ClientMessages.ReplyVerdict.{EndsLink, GivesOutcome}
use Rattle.nr_reduce.specs.Client.{client_rules, client_end, client_output, client_state_after, initial_client, client_readiness, or_message_end, client_message_end, end_of_verdict, segment_message, segment_names, outstanding_of, call_output, calls_output, response_output, segment_request, revoked_call, submitted_output, with_message, with_request, with_segment, with_hello, due_with_response, client_segment, revoked_waiting, plan_or, or_other_sizes}
use Rattle.nr_reduce.specs.Run.{client}
use Rattle.nr_reduce.specs.Asked.{AskedSoFar, AskedMark}
use Rattle.nr_reduce.specs.RunLaws.{numbered_on, outstanding_from, as_submitted}
use Rattle.nr_reduce.proofs.Steps.{client_one}
use Rattle.nr_reduce.specs.declared.outline.Plan.{Plan}

abbrev pub start : LinkParameters → ClientState
start opened = (initial_client opened).state

-- the numbers that are next after these calls
abbrev state_after_calls : ClientState → List AcceptedCall → ClientState
state_after_calls k [] = k
state_after_calls k (a ∷ accepted) = state_after_calls (numbered_on k a) accepted

-- a call that waits to be sent again, whether or not its memory was revoked: what is sent of it is the same
abbrev unrevoked : WaitingCall → WaitingCall
unrevoked w = record w { is_revoked = false }

plan_unrevoked : (ws : List WaitingCall) (xid : ℕ) (plan : Result Plan TooLarge) → plan_unless (first_of (map unrevoked ws) xid) plan ≡ plan_unless (first_of ws xid) plan
plan_unrevoked [] xid plan = refl
plan_unrevoked (w ∷ ws) xid plan = by (eqb w.xid xid)
  where
    by : (b : Bool) → plan_unless (cond b (Some (unrevoked w)) None) plan ≡ plan_unless (cond b (Some w) None) plan
    by true = refl
    by false = refl

stag_unrevoked : (ws : List WaitingCall) (xid stag : ℕ) → stag_unless (first_of (map unrevoked ws) xid) stag ≡ stag_unless (first_of ws xid) stag
stag_unrevoked [] xid stag = refl
stag_unrevoked (w ∷ ws) xid stag = by (eqb w.xid xid)
  where
    by : (b : Bool) → stag_unless (cond b (Some (unrevoked w)) None) stag ≡ stag_unless (cond b (Some w) None) stag
    by true = refl
    by false = refl

taken_unrevoked : (ws : List WaitingCall) (xid : ℕ) (plan : Plan) → stags_unless_waiting (first_of (map unrevoked ws) xid) plan ≡ stags_unless_waiting (first_of ws xid) plan
taken_unrevoked [] xid plan = refl
taken_unrevoked (w ∷ ws) xid plan = by (eqb w.xid xid)
  where
    by : (b : Bool) → stags_unless_waiting (cond b (Some (unrevoked w)) None) plan ≡ stags_unless_waiting (cond b (Some w) None) plan
    by true = refl
    by false = refl

others_unrevoked : (ws : List WaitingCall) (xid : ℕ) → map unrevoked (others_than ws xid) ≡ others_than (map unrevoked ws) xid
others_unrevoked [] xid = refl
others_unrevoked (w ∷ ws) xid = by (eqb w.xid xid)
  where
    by : (b : Bool) → map unrevoked (cond b ws (w ∷ ws)) ≡ cond b (map unrevoked ws) (unrevoked w ∷ map unrevoked ws)
    by true = refl
    by false = refl

still_unrevoked : (xid : ℕ) (ws : List WaitingCall) → map unrevoked (map (revoked_waiting xid) ws) ≡ map unrevoked ws
still_unrevoked xid [] = refl
still_unrevoked xid (w ∷ ws) = (λ i. by (eqb w.xid xid) i ∷ still_unrevoked xid ws i)
  where
    by : (b : Bool) → unrevoked (cond b (record w { is_revoked = true }) w) ≡ unrevoked w
    by true = refl
    by false = refl

record Waiting (opened : LinkParameters) (accepted : List AcceptedCall) (k : ClientState) : Type 0 where
  pub calls : map as_submitted k.outstanding ≡ outstanding_from (start opened) accepted
  pub stag : k.stag ≡ (state_after_calls (start opened) accepted).stag
  pub sends : k.sends ≡ (state_after_calls (start opened) accepted).sends
  pub ends : k.send_ends ≡ []
  pub up : k.up_max ≡ (state_after_calls (start opened) accepted).up_max
  pub down : k.down_max ≡ (state_after_calls (start opened) accepted).down_max
  pub waiting : map unrevoked k.waiting ≡ map unrevoked (state_after_calls (start opened) accepted).waiting

abbrev Waits : LinkParameters → List AcceptedCall → ClientState → Type 0
Waits opened accepted k = k.has_hello ≡ false → Waiting opened accepted k

from_append : (k : ClientState) (xs : List AcceptedCall) (a : AcceptedCall) → outstanding_from k (xs ++ a ∷ []) ≡ outstanding_from k xs ++ as_submitted (outstanding_of (state_after_calls k xs) a) ∷ []
from_append k [] a = refl
from_append k (x ∷ xs) a = ap (λ (os : List OutstandingCall). as_submitted (outstanding_of k x) ∷ os) (from_append (numbered_on k x) xs a)

numbers_append : (k : ClientState) (xs : List AcceptedCall) (a : AcceptedCall) → state_after_calls k (xs ++ a ∷ []) ≡ numbered_on (state_after_calls k xs) a
numbers_append k [] a = refl
numbers_append k (x ∷ xs) a = numbers_append (numbered_on k x) xs a

pub submitted_append : (xs ys : List OutstandingCall) → map as_submitted (xs ++ ys) ≡ map as_submitted xs ++ map as_submitted ys
submitted_append [] ys = refl
submitted_append (x ∷ xs) ys = ap (λ (os : List OutstandingCall). as_submitted x ∷ os) (submitted_append xs ys)

-- ---- Each event

pub revoked_same : (xid : ℕ) (os : List OutstandingCall) → map as_submitted (map (revoked_call xid) os) ≡ map as_submitted os
revoked_same xid [] = refl
revoked_same xid (o ∷ os) = ap (λ (x : OutstandingCall). x ∷ map as_submitted (map (revoked_call xid) os)) (by (eqb o.xid xid)) ∙ ap (λ (rest : List OutstandingCall). as_submitted o ∷ rest) (revoked_same xid os)
  where
    by : (b : Bool) → as_submitted (cond b (record o { is_revoked = true }) o) ≡ as_submitted o
    by true = refl
    by false = refl

-- no Send is due before the hello, so none has left, and no message answers one
unsent : (k : ClientState) (o : OutstandingCall) → k.send_ends ≡ [] → is_sent k o ≡ false
unsent k o none = ap (λ (ends : List ℕ). ltb o.send (ends_written k.written ends)) none ∙ le-ltb o.send 0 (omega arith)

and_none : (a b : Bool) → b ≡ false → (a && b) ≡ false
and_none true b e = e
and_none false b e = refl

none_answered : (k : ClientState) (xid : ℕ) (os : List OutstandingCall) → k.send_ends ≡ [] → find (λ o. eqb o.xid xid && is_sent k o) os ≡ None
none_answered k xid [] h = refl
none_answered k xid (o ∷ os) h = ap (λ (b : Bool). cond b (Some o) (find (λ o. eqb o.xid xid && is_sent k o) os)) (and_none (eqb o.xid xid) (is_sent k o) (unsent k o h)) ∙ none_answered k xid os h

abbrev Ends : ReplyVerdict → Type 0
Ends (EndsLink reason) = Unit {0}
Ends (GivesOutcome xid outcome) = ⊥

verdict_ends : (k : ClientState) (place : ℕ) (message : List ℕ) (r : Result Header HeaderFault) → k.send_ends ≡ [] → Ends (reply_by_header k place message r)
verdict_ends k place message (Ok header) h = subst (λ (o : Option OutstandingCall). Ends (by_call k place message header.body o)) (sym (none_answered k header.xid k.outstanding h)) tt
verdict_ends k place message (Err faults.Short) h = tt
verdict_ends k place message (Err (faults.Version version)) h = tt
verdict_ends k place message (Err (faults.Kind kind)) h = tt
verdict_ends k place message (Err (faults.BadChunks at)) h = tt

end_some : (f : Frame) (v : ReplyVerdict) → Ends v → end_of_verdict f v ≡ None → ⊥
end_some f (EndsLink reason) h e = absurd cc
end_some f (GivesOutcome xid outcome) h e = h

either_ends : (b : Bool) (v : ReplyVerdict) → Ends v → Ends (cond b (EndsLink REASON_INVALIDATED) v)
either_ends true v h = tt
either_ends false v h = h

no_message : (k : ClientState) (f : Frame) (named : Option ℕ) (o : Option (List ℕ)) → k.send_ends ≡ [] → client_message_end k f named o ≡ None → o ≡ None
unfolding reply_verdict message_verdict
no_message k f named None h e = refl
no_message k f named (Some message) h e =
    absurd (end_some f (message_verdict k f.end named message)
    (either_ends (invalidates_another k named message) (reply_verdict k f.end message) (verdict_ends k f.end message (header_of message) h)) e)

pub or_message : (k : ClientState) (f : Frame) (o : Option Stop) → or_message_end k f o ≡ None → client_message_end k f (segment_names (client_segment k f)) (segment_message k (client_segment k f)) ≡ None
or_message k f (Some end) e = absurd cc
or_message k f None e = e

-- a frame that brings no message leaves the calls
abbrev SameCalls : ClientState → ClientState → Type 0
SameCalls k after = (after.outstanding ≡ k.outstanding) × (after.stag ≡ k.stag) × (after.has_hello ≡ k.has_hello) × (after.send_ends ≡ k.send_ends) × (after.up_max ≡ k.up_max) × (after.down_max ≡ k.down_max) × (after.sends ≡ k.sends) × (after.waiting ≡ k.waiting)

request_same : (k m : ClientState) (due : ℕ) (r : Option ReadRequest) → SameCalls k m → SameCalls k (with_request m due r)
request_same k m due None h = h
request_same k m due (Some r) h = h

segment_same : (k : ClientState) (f : Frame) (r : Result Segment ℕ) → segment_message k r ≡ None → SameCalls k (with_segment k f r)
segment_same k f (Err reason) e = (refl, refl, refl, refl, refl, refl, refl, refl)
segment_same k f (Ok segment) e =
    request_same k (with_message k f.end (message_completed k.received segment)) (due_with_response k f segment) (read_request_of segment)
    (subst (λ (o : Option (List ℕ)). SameCalls k (with_message k f.end o)) (sym e) (refl, refl, refl, refl, refl, refl, refl, refl))

same_waits : (opened : LinkParameters) (accepted : List AcceptedCall) (k after : ClientState) → SameCalls k after → Waits opened accepted k → Waits opened accepted after
same_waits opened accepted k after s w hello =
    let h = w (sym s.2 ∙ hello) in
    record { calls = ap (λ (os : List OutstandingCall). map as_submitted os) s.0 ∙ h.calls; stag = s.1 ∙ h.stag; sends = s.6 ∙ h.sends; ends = s.3 ∙ h.ends; up = s.4 ∙ h.up; down = s.5 ∙ h.down; waiting = ap (λ (ws : List WaitingCall). map unrevoked ws) s.7 ∙ h.waiting }

frame_waits : (opened : LinkParameters) (accepted : List AcceptedCall) (k : ClientState) (f : Frame) → client_end k (FrameReceived f) ≡ None → Waits opened accepted k → Waits opened accepted (client_state_after opened k (FrameReceived f))
unfolding client_end client_state_after
frame_waits opened accepted k f stays w = by (is_hello f) stays
  where
    by : (b : Bool) → cond b (or_other_sizes k f (hello_end (hello_of Responder f.bytes))) (or_message_end k f (frame_end_by (client_readiness k) (region_grants f.end k.regions) f (client_segment k f))) ≡ None
        → Waits opened accepted (cond b (with_hello opened k f) (with_segment k f (client_segment k f)))
    by true e = λ hello. absurd cc
    by false e = λ hello. by_hello k.has_hello refl hello
      where
        whole : k.send_ends ≡ [] → SameCalls k (with_segment k f (client_segment k f))
        whole h = segment_same k f (client_segment k f) (no_message k f (segment_names (client_segment k f)) (segment_message k (client_segment k f)) h (or_message k f (frame_end_by (client_readiness k) (region_grants f.end k.regions) f (client_segment k f)) e))

        keeps : (r : Result Segment ℕ) → (with_segment k f r).has_hello ≡ k.has_hello
        keeps (Err reason) = refl
        keeps (Ok segment) = keeps_request (with_message k f.end (message_completed k.received segment)) (due_with_response k f segment) (read_request_of segment) ∙ keeps_message (message_completed k.received segment)
          where
            keeps_request : (m : ClientState) (due : ℕ) (o : Option ReadRequest) → (with_request m due o).has_hello ≡ m.has_hello
            keeps_request m due None = refl
            keeps_request m due (Some q) = refl

            keeps_message : (o : Option (List ℕ)) → (with_message k f.end o).has_hello ≡ k.has_hello
            keeps_message None = refl
            keeps_message (Some message) = refl

        by_hello : (b : Bool) → k.has_hello ≡ b → (with_segment k f (client_segment k f)).has_hello ≡ false → Waiting opened accepted (with_segment k f (client_segment k f))
        by_hello true is hello = (let t : true ≡ false = sym is ∙ sym (keeps (client_segment k f)) ∙ hello in absurd cc)
        by_hello false is hello = same_waits opened accepted k (with_segment k f (client_segment k f)) (whole (w is).ends) w hello

submit_waits : (opened : LinkParameters) (accepted : List AcceptedCall) (k : ClientState) (place : ℕ) (a : AcceptedCall) → Waits opened accepted k → Waits opened (accepted ++ a ∷ []) (client_state_after opened k (CallSubmitted place a))
unfolding client_state_after plan_for
submit_waits opened accepted k place a w hello =
    let h = w hello in
    let next : ClientState = state_after_calls (start opened) accepted in
    let on : numbered_on next a ≡ state_after_calls (start opened) (accepted ++ a ∷ []) = sym (numbers_append (start opened) accepted a) in
    let plans : plan_for k a.xid a.call a.form ≡ plan_for next a.xid a.call a.form =
    sym (plan_unrevoked k.waiting a.xid (plan_of (call_payload a.xid a.call) a.form k.up_max k.down_max))
    ∙ (λ i. plan_unless (first_of (h.waiting i) a.xid) (plan_of (call_payload a.xid a.call) a.form (h.up i) (h.down i)))
    ∙ plan_unrevoked next.waiting a.xid (plan_of (call_payload a.xid a.call) a.form next.up_max next.down_max) in
    let stags : stag_for k a.xid ≡ stag_for next a.xid =
    sym (stag_unrevoked k.waiting a.xid k.stag) ∙ (λ i. stag_unless (first_of (h.waiting i) a.xid) (h.stag i)) ∙ stag_unrevoked next.waiting a.xid next.stag in
    let same : as_submitted (outstanding_of k a) ≡ as_submitted (outstanding_of next a) =
    (λ i. record { xid = a.xid; send = h.sends i; call = a.call; plan = plan_or (call_payload a.xid a.call) (plans i); stag = stags i; is_revoked = false }) in
    let taken : stags_taken k a.xid (outstanding_of k a).plan ≡ stags_taken next a.xid (outstanding_of next a).plan =
    sym (taken_unrevoked k.waiting a.xid (outstanding_of k a).plan) ∙ (λ i. stags_unless_waiting (first_of (h.waiting i) a.xid) (same i).plan) ∙ taken_unrevoked next.waiting a.xid (outstanding_of next a).plan in
    record {
      calls = submitted_append k.outstanding (outstanding_of k a ∷ [])
          ∙ ap (λ (os : List OutstandingCall). os ++ as_submitted (outstanding_of k a) ∷ []) h.calls
          ∙ ap (λ (o : OutstandingCall). outstanding_from (start opened) accepted ++ o ∷ []) same
          ∙ sym (from_append (start opened) accepted a);
      stag = (λ i. h.stag i + taken i) ∙ ap (λ (x : ClientState). x.stag) on;
      sends = ap (λ (n : ℕ). n + 1) h.sends ∙ ap (λ (x : ClientState). x.sends) on;
      ends = ap (λ (b : Bool). k.send_ends ++ cond b ((k.due + length (submitted_output opened k a)) ∷ []) []) hello ∙ append-nil k.send_ends ∙ h.ends;
      up = h.up ∙ ap (λ (x : ClientState). x.up_max) on;
      down = h.down ∙ ap (λ (x : ClientState). x.down_max) on;
      waiting = others_unrevoked k.waiting a.xid ∙ (λ i. others_than (h.waiting i) a.xid) ∙ sym (others_unrevoked next.waiting a.xid) ∙ ap (λ (x : ClientState). map unrevoked x.waiting) on;
    }

-- the events that submit nothing
abbrev SubmitsNothing : RunEvent → Type 0
SubmitsNothing (FrameReceived f) = Unit {0}
SubmitsNothing (CallSubmitted place a) = ⊥
SubmitsNothing (MemoryRevoked place xid) = Unit {0}
SubmitsNothing (CallExecuted call) = Unit {0}
SubmitsNothing (QueueWritten taken) = Unit {0}
SubmitsNothing (ServerTold what) = Unit {0}

after_waits : (opened : LinkParameters) (accepted : List AcceptedCall) (k : ClientState) (event : RunEvent) → SubmitsNothing event → client_end k event ≡ None → Waits opened accepted k → Waits opened accepted (client_state_after opened k event)
unfolding client_state_after
after_waits opened accepted k (FrameReceived f) s stays w = frame_waits opened accepted k f stays w
after_waits opened accepted k (CallSubmitted place a) s stays w = absurd s
after_waits opened accepted k (MemoryRevoked place xid) s stays w =
    λ hello. (let h = w hello in record { calls = revoked_same xid k.outstanding ∙ h.calls; stag = h.stag; sends = h.sends; ends = h.ends; up = h.up; down = h.down; waiting = still_unrevoked xid k.waiting ∙ h.waiting })
after_waits opened accepted k (CallExecuted call) s stays w = w
after_waits opened accepted k (QueueWritten taken) s stays w = λ hello. (let h = w hello in record { calls = h.calls; stag = h.stag; sends = h.sends; ends = h.ends; up = h.up; down = h.down; waiting = h.waiting })
after_waits opened accepted k (ServerTold what) s stays w = λ hello. (let h = w hello in record { calls = h.calls; stag = h.stag; sends = h.sends; ends = h.ends; up = h.up; down = h.down; waiting = h.waiting })

next_waits : (opened : LinkParameters) (accepted : List AcceptedCall) (r : EndState ClientState) (event : RunEvent) → SubmitsNothing event → Waits opened accepted r.state → Waits opened accepted (next_end_state (client_rules opened) r event).state
next_waits opened accepted r event s w = by_end r.state r.ended w
  where
    by_why : (k : ClientState) (why : Option Stop) → client_end k event ≡ why → Waits opened accepted k → Waits opened accepted (next_end_state_by (client_rules opened) k event why).state
    by_why k None is w = after_waits opened accepted k event s is w
    by_why k (Some end) is w = w

    by_end : (k : ClientState) (ended : Option Stop) → Waits opened accepted k → Waits opened accepted (next_end_state_in (client_rules opened) k event ended).state
    by_end k None w = by_why k (client_end k event) refl w
    by_end k (Some end) w = w

abbrev SubmitNothing : List RunEvent → Type 0
SubmitNothing [] = Unit {0}
SubmitNothing (event ∷ es) = SubmitsNothing event × SubmitNothing es

all_wait : (opened : LinkParameters) (accepted : List AcceptedCall) (r : EndState ClientState) (es : List RunEvent) → SubmitNothing es → Waits opened accepted r.state → Waits opened accepted (end_state_after (client_rules opened) r es).state
all_wait opened accepted r [] s w = w
all_wait opened accepted r (event ∷ es) s w = all_wait opened accepted (next_end_state (client_rules opened) r event) es s.1 (next_waits opened accepted r event s.0 w)

nothing_if : (b : Bool) (es : List RunEvent) → SubmitNothing es → SubmitNothing (if_own b es)
nothing_if true es h = h
nothing_if false es h = tt

nothing_frames : (fs : List Frame) → SubmitNothing (map FrameReceived fs)
nothing_frames [] = tt
nothing_frames (f ∷ fs) = (tt, nothing_frames fs)

-- ---- Each mark

submit_one : (opened : LinkParameters) (accepted : List AcceptedCall) (k : ClientState) (ended : Option Stop) (place : ℕ) (a : AcceptedCall) → ended ≡ None → Waits opened accepted k
    → Waits opened (accepted ++ a ∷ []) (next_end_state_in (client_rules opened) k (CallSubmitted place a) ended).state
unfolding client_end
submit_one opened accepted k None place a stays w = submit_waits opened accepted k place a w
submit_one opened accepted k (Some end) place a stays w = absurd cc

abbrev WaitsAfter : LinkParameters → ℕ → List Mark → Mark → List AcceptedCall → Type 0
WaitsAfter opened link before mark accepted = Waits opened accepted (end_state_after (client_rules opened) (client opened link before) (events_at link Initiator before mark)).state

waits_nothing : (opened : LinkParameters) (link : ℕ) (before : List Mark) (mark : Mark) (accepted : List AcceptedCall) → Waits opened accepted (client opened link before).state
    → SubmitNothing (events_at link Initiator before mark) → WaitsAfter opened link before mark (accepted ++ [])
waits_nothing opened link before mark accepted w h =
    subst (λ (all : List AcceptedCall). WaitsAfter opened link before mark all) (sym (append-nil accepted)) (all_wait opened accepted (client opened link before) (events_at link Initiator before mark) h w)

waits_mark : (opened : LinkParameters) (link : ℕ) (before : List Mark) (mark : Mark) (accepted : List AcceptedCall) → Waits opened accepted (client opened link before).state → AskedMark IsPrefixOf opened link before mark
    → WaitsAfter opened link before mark (accepted ++ accepted_at link mark)
waits_mark opened link before (marks.Submit l call form (submissions.Accepted xid)) accepted w h = by (eqb l link) refl
  where
    a : AcceptedCall
    a = record { xid = xid; call = call; form = form }

    place : ℕ
    place = length (bytes_received link Initiator before)

    by : (b : Bool) → eqb l link ≡ b → Waits opened (accepted ++ cond b (a ∷ []) []) (end_state_after (client_rules opened) (client opened link before) (if_own (b && true) (CallSubmitted place a ∷ []))).state
    by false is = subst (λ (all : List AcceptedCall). Waits opened all (client opened link before).state) (sym (append-nil accepted)) w
    by true is = submit_one opened accepted (client opened link before).state (client opened link before).ended place a (h (eqb-true l link is)).stays w
waits_mark opened link before (marks.Submit l call form (submissions.Refused why)) accepted w h = by (eqb l link)
  where
    by : (b : Bool) → Waits opened (accepted ++ cond b [] []) (client opened link before).state
    by true = subst (λ (all : List AcceptedCall). Waits opened all (client opened link before).state) (sym (append-nil accepted)) w
    by false = subst (λ (all : List AcceptedCall). Waits opened all (client opened link before).state) (sym (append-nil accepted)) w
waits_mark opened link before (marks.Submit l call form submissions.Dropped) accepted w h = by (eqb l link)
  where
    by : (b : Bool) → Waits opened (accepted ++ cond b [] []) (client opened link before).state
    by true = subst (λ (all : List AcceptedCall). Waits opened all (client opened link before).state) (sym (append-nil accepted)) w
    by false = subst (λ (all : List AcceptedCall). Waits opened all (client opened link before).state) (sym (append-nil accepted)) w
waits_mark opened link before (marks.Wrote l s bytes) accepted w h = waits_nothing opened link before (marks.Wrote l s bytes) accepted w (nothing_if _ (QueueWritten (length bytes) ∷ []) (tt, tt))
waits_mark opened link before (marks.Fed l s bytes) accepted w h =
    waits_nothing opened link before (marks.Fed l s bytes) accepted w (nothing_if _ (map FrameReceived (frames_completed Responder (bytes_received link Initiator before) bytes)) (nothing_frames _))
waits_mark opened link before (marks.Execute l xid moment payload place reply) accepted w h = waits_nothing opened link before (marks.Execute l xid moment payload place reply) accepted w
    (nothing_if _ (CallExecuted (record { xid = xid; moment = moment; payload = payload; place = place; reply = reply }) ∷ []) (tt, tt))
waits_mark opened link before (marks.Done l xid outcome) accepted w h = waits_nothing opened link before (marks.Done l xid outcome) accepted w tt
waits_mark opened link before (marks.Lost l xid) accepted w h = waits_nothing opened link before (marks.Lost l xid) accepted w tt
waits_mark opened link before (marks.Forget l xid) accepted w h = waits_nothing opened link before (marks.Forget l xid) accepted w tt
waits_mark opened link before (marks.Revoke l xid bytes) accepted w h = waits_nothing opened link before (marks.Revoke l xid bytes) accepted w (nothing_if _ (MemoryRevoked (length (bytes_received link Initiator before)) xid ∷ []) (tt, tt))
waits_mark opened link before (marks.Drop l) accepted w h = waits_nothing opened link before (marks.Drop l) accepted w tt
waits_mark opened link before (marks.Told l what) accepted w h = waits_nothing opened link before (marks.Told l what) accepted w (nothing_if _ (ServerTold what ∷ []) (tt, tt))

pub accepted_one : (link : ℕ) (before : List Mark) (mark : Mark) → accepted_calls link (before ++ mark ∷ []) ≡ accepted_calls link before ++ accepted_at link mark
unfolding accepted_calls
accepted_one link before mark = flat_map-append (accepted_at link) before (mark ∷ []) ∙ ap (λ (all : List AcceptedCall). accepted_calls link before ++ all) (append-nil (accepted_at link mark))

waits_from : (opened : LinkParameters) (link : ℕ) (before run : List Mark) → Waits opened (accepted_calls link before) (client opened link before).state → AtEachMark (AskedMark IsPrefixOf opened link) before run
    → Waits opened (accepted_calls link (before ++ run)) (client opened link (before ++ run)).state
waits_from opened link before [] w h = subst (λ (r : List Mark). Waits opened (accepted_calls link r) (client opened link r).state) (sym (append-nil before)) w
waits_from opened link before (mark ∷ run) w h =
    let there = waits_mark opened link before mark (accepted_calls link before) w h.0 in
    let next : Waits opened (accepted_calls link (before ++ mark ∷ [])) (client opened link (before ++ mark ∷ [])).state =
    subst (λ (all : List AcceptedCall). Waits opened all (client opened link (before ++ mark ∷ [])).state) (sym (accepted_one link before mark))
    (subst (λ (r : EndState ClientState). Waits opened (accepted_calls link before ++ accepted_at link mark) r.state) (sym (client_one opened link before mark)) there) in
    subst (λ (r : List Mark). Waits opened (accepted_calls link r) (client opened link r).state) (append_assoc before (mark ∷ []) run)
    (waits_from opened link (before ++ mark ∷ []) run next h.1)

begins_waiting : (opened : LinkParameters) (link : ℕ) → Waits opened (accepted_calls link []) (client opened link []).state
unfolding client events accepted_calls
begins_waiting opened link hello = record { calls = refl; stag = refl; sends = refl; ends = refl; up = refl; down = refl; waiting = refl }

-- ---- What the hello sends

submitted_output_lem : (opened : LinkParameters) (msn : ℕ) (os : List OutstandingCall) → calls_output opened msn (map as_submitted os) ≡ calls_output opened msn os
submitted_output_lem opened msn [] = refl
submitted_output_lem opened msn (o ∷ os) = ap (λ (xs : List ℕ). call_output opened msn o ++ xs) (submitted_output_lem opened (msn + 1) os)

hello_output : (opened : LinkParameters) (k : ClientState) (ended : Option Stop) (f : Frame) → is_hello f ≡ true → (next_end_state_in (client_rules opened) k (FrameReceived f) ended).ended ≡ None
    → output_for_in (client_rules opened) k (FrameReceived f) ended ≡ calls_output opened 1 k.outstanding
unfolding client_output
hello_output opened k (Some end) f hello e = absurd cc
hello_output opened k None f hello e = by (client_end k (FrameReceived f)) e
  where
    by : (why : Option Stop) → (next_end_state_by (client_rules opened) k (FrameReceived f) why).ended ≡ None → output_for_by (client_rules opened) k (FrameReceived f) why ≡ calls_output opened 1 k.outstanding
    by None e = ap (λ (b : Bool). cond b (calls_output opened 1 k.outstanding) (response_output k f.end (segment_request (client_segment k f)))) hello
    by (Some end) e = absurd cc

pub accepted_wait : (opened : LinkParameters) (link : ℕ) (run : List Mark) → AskedSoFar opened link run → (client opened link run).state.has_hello ≡ false →
    (map as_submitted (client opened link run).state.outstanding ≡ outstanding_from (initial_client opened).state (accepted_calls link run))
    × ((f : Frame) → is_hello f ≡ true → (next_end_state (client_rules opened) (client opened link run) (FrameReceived f)).ended ≡ None →
    output_for (client_rules opened) (client opened link run) (FrameReceived f)
    ≡ calls_output opened 1 (outstanding_from (initial_client opened).state (accepted_calls link run)))
accepted_wait opened link run asked hello =
    let w = waits_from opened link [] run (begins_waiting opened link) asked hello in
    let k : ClientState = (client opened link run).state in (
      w.calls,
      λ f is stays. hello_output opened k (client opened link run).ended f is stays
          ∙ sym (submitted_output_lem opened 1 k.outstanding)
          ∙ ap (λ (os : List OutstandingCall). calls_output opened 1 os) w.calls,
    )
