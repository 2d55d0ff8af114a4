-- Each outcome that a client knows is that of a call which it accepted on the link.
use Rattle.std.proofs.Common.{◌≡◌, ℕ, Bool, true, false, cond, not, ◌&&◌, eqb, List, [], ◌∷◌, ◌++◌, length, map, Option, None, Some, Result, Ok, Err, refl, sym, ap, subst, ◌∙◌, append_assoc, append-nil}
use Rattle.std.specs.List.{AllByRecursion, Contains, filter}
use Rattle.std.proofs.lemmas.List.Elements.{Contains-append_left, Contains-push}
use Rattle.nr_xdr.specs.Fields.{word_at}
use Rattle.nr_wire.specs.declared.hello.Side.TheVariants.{Initiator, Responder}
use Rattle.nr_wire.specs.Segment.{Segment}
use Rattle.nr_link.specs.declared.end.End.{End}
use Rattle.nr_link.specs.Frames.{Frame, frames_completed, is_hello}
use Rattle.nr_link.specs.ReceiveState.{ReadRequest, message_completed, read_request_of}
use Rattle.nr_reduce.specs.declared.call.Submission.{Submission}
use Rattle.nr_reduce.specs.declared.call.Submission.TheVariants as submissions
use Rattle.nr_reduce.specs.declared.mark.LinkParameters.{LinkParameters}
use Rattle.nr_reduce.specs.declared.mark.Mark.{Mark}
use Rattle.nr_reduce.specs.declared.mark.Mark.TheVariants as marks
use Rattle.nr_reduce.specs.ClientMessages.{ReplyVerdict, reply_verdict}
use Rattle.nr_reduce.specs.ClientMessages.ReplyVerdict.{EndsLink, GivesOutcome}
use Rattle.nr_reduce.specs.ClientState.{OutstandingCall, ClientState}
use Rattle.nr_reduce.specs.Client.{client_rules, client_end, client_segment, client_state_after, due_with_response, outcomes_of, outstanding_of, revoked_call, with_hello, with_message, with_request, with_segment}
use Rattle.nr_reduce.specs.EndRules.{EndState, next_end_state, next_end_state_by, next_end_state_in, end_state_after}
use Rattle.nr_reduce.specs.Events.{RunEvent, if_own, events, events_at}
use Rattle.nr_reduce.specs.Events.RunEvent.{FrameReceived, CallSubmitted, MemoryRevoked, CallExecuted, QueueWritten, ServerTold}
use Rattle.nr_reduce.specs.History.{AcceptedCall, CompletedCall, accepted_at, accepted_calls, bytes_received}
use Rattle.nr_reduce.specs.Run.{client}
use Rattle.nr_reduce.proofs.AnsweredXids.{verdict_of}
use Rattle.nr_reduce.proofs.Standing.{itself}
use Rattle.nr_reduce.proofs.Steps.{client_one}
use Rattle.nr_requester.proofs.AnswerSteps.{accepted_one, all_append, all_as, all_filter}
use Rattle.nr_requester.proofs.OpenTickets.{HasAccepted}

-- a call with this xid is among these
abbrev HasXid : List AcceptedCall → ℕ → Type 0
HasXid accepted xid = (a : AcceptedCall) × (Contains accepted a × (a.xid ≡ xid))

has_more : (accepted more : List AcceptedCall) (xid : ℕ) → HasXid accepted xid → HasXid (accepted ++ more) xid
has_more accepted more xid h = (h.0, (Contains-append_left accepted more h.0 h.1.0, h.1.1))

record Known (accepted : List AcceptedCall) (k : ClientState) : Type 0 where
  calls : AllByRecursion (λ (o : OutstandingCall). HasXid accepted o.xid) k.outstanding
  outcomes : AllByRecursion (λ (c : CompletedCall). HasXid accepted c.xid) k.outcomes

-- ---- A frame

brought : (accepted : List AcceptedCall) (k : ClientState) (place : ℕ) (message : List ℕ) → AllByRecursion (λ (o : OutstandingCall). HasXid accepted o.xid) k.outstanding → AllByRecursion (λ (c : CompletedCall). HasXid accepted c.xid) (outcomes_of (reply_verdict k place message))
brought accepted k place message all = by (reply_verdict k place message) refl
  where
    by : (v : ReplyVerdict) → reply_verdict k place message ≡ v → AllByRecursion (λ (c : CompletedCall). HasXid accepted c.xid) (outcomes_of v)
    by (EndsLink reason) e = tt
    by (GivesOutcome xid None) e = tt
    by (GivesOutcome xid (Some outcome)) e =
        let v = verdict_of (λ (o : OutstandingCall). HasXid accepted o.xid) k place message xid (Some outcome) all e in
        (subst (λ (x : ℕ). HasXid accepted x) v.own v.holds, tt)

known_message : (accepted : List AcceptedCall) (k : ClientState) (f : Frame) (m : Option (List ℕ)) (due : ℕ) (q : Option ReadRequest) → Known accepted k → Known accepted (with_request (with_message k f.end m) due q)
known_message accepted k f None due None h = record { calls = h.calls; outcomes = h.outcomes }
known_message accepted k f None due (Some q) h = record { calls = h.calls; outcomes = h.outcomes }
known_message accepted k f (Some m) due q h = by q
  where
    calls : AllByRecursion (λ (o : OutstandingCall). HasXid accepted o.xid) (filter (λ (o : OutstandingCall). not (eqb o.xid (word_at 0 m))) k.outstanding)
    calls = all_filter (λ (o : OutstandingCall). HasXid accepted o.xid) (λ (o : OutstandingCall). not (eqb o.xid (word_at 0 m))) k.outstanding h.calls

    outcomes : AllByRecursion (λ (c : CompletedCall). HasXid accepted c.xid) (k.outcomes ++ outcomes_of (reply_verdict k f.end m))
    outcomes = all_append (λ (c : CompletedCall). HasXid accepted c.xid) k.outcomes (outcomes_of (reply_verdict k f.end m)) h.outcomes (brought accepted k f.end m h.calls)

    by : (q : Option ReadRequest) → Known accepted (with_request (with_message k f.end (Some m)) due q)
    by None = record { calls = calls; outcomes = outcomes }
    by (Some r) = record { calls = calls; outcomes = outcomes }

known_segment : (accepted : List AcceptedCall) (k : ClientState) (f : Frame) (r : Result Segment ℕ) → Known accepted k → Known accepted (with_segment k f r)
known_segment accepted k f (Err reason) h = record { calls = h.calls; outcomes = h.outcomes }
known_segment accepted k f (Ok segment) h =
    (let m = known_message accepted k f (message_completed k.received segment) (due_with_response k f segment) (read_request_of segment) h in record { calls = m.calls; outcomes = m.outcomes })

-- ---- Each event

abbrev added : RunEvent → List AcceptedCall
added (FrameReceived f) = []
added (CallSubmitted place a) = a ∷ []
added (MemoryRevoked place xid) = []
added (CallExecuted call) = []
added (QueueWritten taken) = []
added (ServerTold what) = []

revoked_known : (accepted : List AcceptedCall) (xid : ℕ) (os : List OutstandingCall) → AllByRecursion (λ (o : OutstandingCall). HasXid accepted o.xid) os → AllByRecursion (λ (o : OutstandingCall). HasXid accepted o.xid) (map (revoked_call xid) os)
revoked_known accepted xid [] h = tt
revoked_known accepted xid (o ∷ os) h = (by (eqb o.xid xid), revoked_known accepted xid os h.1)
  where
    by : (b : Bool) → HasXid accepted (cond b (record o { is_revoked = true }) o).xid
    by true = h.0
    by false = h.0

known_more : (accepted more : List AcceptedCall) (k : ClientState) → Known accepted k → Known (accepted ++ more) k
known_more accepted more k h = record {
  calls = all_as k.outstanding (λ (o : OutstandingCall) g. has_more accepted more o.xid g) h.calls;
  outcomes = all_as k.outcomes (λ (c : CompletedCall) g. has_more accepted more c.xid g) h.outcomes;
}

known_none : (accepted : List AcceptedCall) (k : ClientState) → Known accepted k → Known (accepted ++ []) k
known_none accepted k h = known_more accepted [] k h

known_after : (opened : LinkParameters) (accepted : List AcceptedCall) (k : ClientState) (e : RunEvent) → Known accepted k → Known (accepted ++ added e) (client_state_after opened k e)
unfolding client_state_after
known_after opened accepted k (FrameReceived f) h = by (is_hello f)
  where
    by : (b : Bool) → Known (accepted ++ []) (cond b (with_hello opened k f) (with_segment k f (client_segment k f)))
    by true = (let m = known_none accepted k h in record { calls = m.calls; outcomes = m.outcomes })
    by false = known_none accepted (with_segment k f (client_segment k f)) (known_segment accepted k f (client_segment k f) h)
known_after opened accepted k (CallSubmitted place a) h =
    let m = known_more accepted (a ∷ []) k h in
    record {
      calls = all_append (λ (o : OutstandingCall). HasXid (accepted ++ a ∷ []) o.xid) k.outstanding (outstanding_of k a ∷ []) m.calls ((a, (Contains-push accepted a, refl)), tt);
      outcomes = m.outcomes;
    }
known_after opened accepted k (MemoryRevoked place xid) h =
    (let m = known_none accepted k h in record { calls = revoked_known (accepted ++ []) xid k.outstanding m.calls; outcomes = m.outcomes })
known_after opened accepted k (CallExecuted call) h = known_none accepted k h
known_after opened accepted k (QueueWritten taken) h = (let m = known_none accepted k h in record { calls = m.calls; outcomes = m.outcomes })
known_after opened accepted k (ServerTold what) h = known_none accepted k h

known_next : (opened : LinkParameters) (accepted : List AcceptedCall) (r : EndState ClientState) (e : RunEvent) → Known accepted r.state → Known (accepted ++ added e) (next_end_state (client_rules opened) r e).state
known_next opened accepted r e h = by_end r.state r.ended h
  where
    by_why : (k : ClientState) (why : Option End) → Known accepted k → Known (accepted ++ added e) (next_end_state_by (client_rules opened) k e why).state
    by_why k None h = known_after opened accepted k e h
    by_why k (Some end) h = known_more accepted (added e) k h

    by_end : (k : ClientState) (ended : Option End) → Known accepted k → Known (accepted ++ added e) (next_end_state_in (client_rules opened) k e ended).state
    by_end k None h = by_why k (client_end k e) h
    by_end k (Some end) h = known_more accepted (added e) k h

abbrev all_added : List RunEvent → List AcceptedCall
all_added [] = []
all_added (e ∷ es) = added e ++ all_added es

known_events : (opened : LinkParameters) (accepted : List AcceptedCall) (r : EndState ClientState) (es : List RunEvent) → Known accepted r.state → Known (accepted ++ all_added es) (end_state_after (client_rules opened) r es).state
known_events opened accepted r [] h = known_none accepted r.state h
known_events opened accepted r (e ∷ es) h =
    subst (λ (xs : List AcceptedCall). Known xs (end_state_after (client_rules opened) (next_end_state (client_rules opened) r e) es).state) (append_assoc accepted (added e) (all_added es))
    (known_events opened (accepted ++ added e) (next_end_state (client_rules opened) r e) es (known_next opened accepted r e h))

-- ---- Each mark

no_frames_add : (fs : List Frame) → all_added (map FrameReceived fs) ≡ []
no_frames_add [] = refl
no_frames_add (f ∷ fs) = no_frames_add fs

if_none : (b : Bool) (es : List RunEvent) → all_added es ≡ [] → all_added (if_own b es) ≡ []
if_none true es none = none
if_none false es none = refl

cond_none : (b : Bool) → ◌≡◌ {A = List AcceptedCall} (cond b [] []) []
cond_none true = refl
cond_none false = refl

-- the calls that a mark adds by its events are those that it accepts
adds_accepted : (link : ℕ) (run : List Mark) (mark : Mark) → all_added (events_at link Initiator run mark) ≡ accepted_at link mark
adds_accepted link run (marks.Submit l call form answer) = by answer
  where
    by : (answer : Submission) → all_added (events_at link Initiator run (marks.Submit l call form answer)) ≡ accepted_at link (marks.Submit l call form answer)
    by (submissions.Accepted xid) = own (eqb l link)
      where
        own : (b : Bool) → all_added (if_own (b && true) (CallSubmitted (length (bytes_received link Initiator run)) (record { xid = xid; call = call; form = form }) ∷ [])) ≡ cond b (record { xid = xid; call = call; form = form } ∷ []) []
        own true = refl
        own false = refl
    by (submissions.Refused why) = sym (cond_none (eqb l link))
    by submissions.Dropped = sym (cond_none (eqb l link))
adds_accepted link run (marks.Wrote l side bytes) = if_none _ (QueueWritten (length bytes) ∷ []) refl
adds_accepted link run (marks.Fed l side bytes) =
    if_none _ (map FrameReceived (frames_completed Responder (bytes_received link Initiator run) bytes)) (no_frames_add (frames_completed Responder (bytes_received link Initiator run) bytes))
adds_accepted link run (marks.Execute l xid moment payload place reply) = if_none _ (CallExecuted _ ∷ []) refl
adds_accepted link run (marks.Done l xid outcome) = refl
adds_accepted link run (marks.Lost l xid) = refl
adds_accepted link run (marks.Forget l xid) = refl
adds_accepted link run (marks.Revoke l xid bytes) = if_none _ (MemoryRevoked _ xid ∷ []) refl
adds_accepted link run (marks.Drop l) = refl
adds_accepted link run (marks.Told l what) = if_none _ (ServerTold what ∷ []) refl

known_from : (opened : LinkParameters) (link : ℕ) (before run : List Mark) → Known (accepted_calls link before) (client opened link before).state → Known (accepted_calls link (before ++ run)) (client opened link (before ++ run)).state
known_from opened link before [] h = subst (λ (r : List Mark). Known (accepted_calls link r) (client opened link r).state) (sym (append-nil before)) h
known_from opened link before (mark ∷ run) h =
    let es : List RunEvent = events_at link Initiator before mark in
    let next : Known (accepted_calls link before ++ accepted_at link mark) (end_state_after (client_rules opened) (client opened link before) es).state =
    subst (λ (xs : List AcceptedCall). Known (accepted_calls link before ++ xs) (end_state_after (client_rules opened) (client opened link before) es).state) (adds_accepted link before mark)
    (known_events opened (accepted_calls link before) (client opened link before) es h) in
    subst (λ (r : List Mark). Known (accepted_calls link r) (client opened link r).state) (append_assoc before (mark ∷ []) run)
    (known_from opened link (before ++ mark ∷ []) run
    (subst (λ (e : EndState ClientState). Known (accepted_calls link (before ++ mark ∷ [])) e.state) (sym (client_one opened link before mark))
    (subst (λ (xs : List AcceptedCall). Known xs (end_state_after (client_rules opened) (client opened link before) es).state) (sym (accepted_one link before mark)) next)))

known_begin : (opened : LinkParameters) (link : ℕ) → Known (accepted_calls link []) (client opened link []).state
unfolding client events accepted_calls
known_begin opened link = record { calls = tt; outcomes = tt }

pub outcomes_accepted : (opened : LinkParameters) (link : ℕ) (run : List Mark) → AllByRecursion (λ (c : CompletedCall). HasAccepted link run c.xid) (client opened link run).state.outcomes
outcomes_accepted opened link run = (known_from opened link [] run (known_begin opened link)).outcomes
