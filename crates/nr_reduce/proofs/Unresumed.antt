-- What a client is opened with stays: its terms, and what an earlier hello agreed on. A client of a link that was not reopened has no call that
-- waits to be sent again.
use Rattle.std.proofs.Common.{◌≡◌, ℕ, zero, suc, ◌-◌, Bool, true, false, cond, ◌&&◌, List, [], ◌∷◌, ◌++◌, length, map, take, Option, None, Some, is_none, Result, Ok, Err, refl, ap, ◌∙◌}
use Rattle.nr_wire.specs.declared.hello.Side.TheVariants.{Initiator, Responder}
use Rattle.nr_wire.specs.Segment.{Segment}
use Rattle.nr_link.specs.Frames.{Frame, is_hello}
use Rattle.nr_link.specs.ReceiveState.{ReadRequest, message_completed, read_request_of}
use Rattle.nr_reduce.specs.declared.call.Submission.TheVariants as submissions
use Rattle.nr_reduce.specs.declared.mark.Mark.{Mark}
use Rattle.nr_reduce.specs.declared.mark.Mark.TheVariants as marks
use Rattle.nr_reduce.specs.declared.mark.LinkParameters.{LinkParameters}
use Rattle.nr_reduce.specs.AtEachMark.{AtEachMark}
use Rattle.nr_reduce.specs.Events.{RunEvent, events}
use Rattle.nr_reduce.specs.Events.RunEvent.{FrameReceived, CallSubmitted, MemoryRevoked, CallExecuted, QueueWritten, ServerTold}
use Rattle.nr_reduce.specs.EndRules.{EndState}
use Rattle.nr_reduce.specs.ClientState.{WaitingCall, ClientState, others_than, waiting_from}
use Rattle.nr_reduce.specs.Client.{client_rules, client_state_after, initial_client, revoked_waiting, with_message, with_request, with_segment, with_hello, due_with_response, client_segment}
use Rattle.nr_reduce.specs.Run.{client}
use Rattle.nr_reduce.specs.SubmitAnswer.{calls_to_resend}
use Rattle.nr_reduce.specs.Asked.{ResentMark, IsAwaited, IsAwaitedOrWaits, as_accepted}
use Rattle.nr_reduce.proofs.OwnStags.{kept_after}
use Rattle.nr_reduce.specs.History.{accepted_calls}
use Rattle.std.proofs.lemmas.List.Elements.{Contains-append_right}

-- ---- What is kept

abbrev pub HasOpening : LinkParameters → ClientState → Type 0
HasOpening opened k = (k.terms ≡ opened.client) × (k.agreed ≡ opened.agreed)

pub opening_segment : (opened : LinkParameters) (k : ClientState) (f : Frame) (r : Result Segment ℕ) → HasOpening opened k → HasOpening opened (with_segment k f r)
opening_segment opened k f (Err reason) h = h
opening_segment opened k f (Ok segment) h = by (message_completed k.received segment) (read_request_of segment)
  where
    by : (m : Option (List ℕ)) (q : Option ReadRequest) → HasOpening opened (with_request (with_message k f.end m) (due_with_response k f segment) q)
    by None None = h
    by None (Some q) = h
    by (Some m) None = h
    by (Some m) (Some q) = h

pub opening_after : (opened : LinkParameters) (k : ClientState) (event : RunEvent) → HasOpening opened k → HasOpening opened (client_state_after opened k event)
unfolding client_state_after
opening_after opened k (FrameReceived f) h = by (is_hello f)
  where
    by : (b : Bool) → HasOpening opened (cond b (with_hello opened k f) (with_segment k f (client_segment k f)))
    by true = h
    by false = opening_segment opened k f (client_segment k f) h
opening_after opened k (CallSubmitted place a) h = h
opening_after opened k (MemoryRevoked place xid) h = h
opening_after opened k (CallExecuted call) h = h
opening_after opened k (QueueWritten taken) h = h
opening_after opened k (ServerTold what) h = h

pub has_opening : (opened : LinkParameters) (link : ℕ) (run : List Mark) → HasOpening opened (client opened link run).state
unfolding client
has_opening opened link run = kept_after (client_rules opened) (HasOpening opened) (opening_after opened) (initial_client opened) (events link Initiator run) (refl, refl)

-- ---- What waits

abbrev pub NoneWaits : ClientState → Type 0
NoneWaits k = k.waiting ≡ []

none_segment : (k : ClientState) (f : Frame) (r : Result Segment ℕ) → NoneWaits k → NoneWaits (with_segment k f r)
none_segment k f (Err reason) h = h
none_segment k f (Ok segment) h = by (message_completed k.received segment) (read_request_of segment)
  where
    by : (m : Option (List ℕ)) (q : Option ReadRequest) → NoneWaits (with_request (with_message k f.end m) (due_with_response k f segment) q)
    by None None = h
    by None (Some q) = h
    by (Some m) None = h
    by (Some m) (Some q) = h

pub none_after : (opened : LinkParameters) (k : ClientState) (event : RunEvent) → NoneWaits k → NoneWaits (client_state_after opened k event)
unfolding client_state_after
none_after opened k (FrameReceived f) h = by (is_hello f)
  where
    by : (b : Bool) → NoneWaits (cond b (with_hello opened k f) (with_segment k f (client_segment k f)))
    by true = h
    by false = none_segment k f (client_segment k f) h
none_after opened k (CallSubmitted place a) h = ap (λ (ws : List WaitingCall). others_than ws a.xid) h
none_after opened k (MemoryRevoked place xid) h = ap (λ (ws : List WaitingCall). map (revoked_waiting xid) ws) h
none_after opened k (CallExecuted call) h = h
none_after opened k (QueueWritten taken) h = h
none_after opened k (ServerTold what) h = h

pub none_waits : (opened : LinkParameters) (link : ℕ) (run : List Mark) → opened.resumed ≡ [] → (client opened link run).state.waiting ≡ []
unfolding client
none_waits opened link run none = kept_after (client_rules opened) NoneWaits (none_after opened) (initial_client opened) (events link Initiator run) (ap (waiting_from opened.first_stag) none)

-- ---- What is sent again

none_to_resend : (r : EndState ClientState) → r.state.waiting ≡ [] → calls_to_resend r ≡ []
unfolding calls_to_resend
none_to_resend r none = ap (λ (ws : List WaitingCall). cond (is_none r.ended && r.state.has_hello) (take (r.state.grant - length r.state.outstanding) ws) []) none ∙ by (is_none r.ended && r.state.has_hello) (r.state.grant - length r.state.outstanding)
  where
    take_none : (n : ℕ) → take n (let none : List WaitingCall = [] in none) ≡ []
    take_none zero = refl
    take_none (suc n) = refl

    by : (b : Bool) (n : ℕ) → cond b (take n (let none : List WaitingCall = [] in none)) [] ≡ []
    by true n = take_none n
    by false n = refl

pub none_resent : (opened : LinkParameters) (link : ℕ) (run : List Mark) → opened.resumed ≡ [] → calls_to_resend (client opened link run) ≡ []
none_resent opened link run none = none_to_resend (client opened link run) (none_waits opened link run none)

resent_from : (opened : LinkParameters) (link : ℕ) (before run : List Mark) → opened.resumed ≡ [] → AtEachMark (ResentMark opened link) before run
resent_from opened link before [] none = tt
resent_from opened link before (mark ∷ run) none = (by mark, resent_from opened link (before ++ mark ∷ []) run none)
  where
    by : (mark : Mark) → ResentMark opened link before mark
    by (marks.Wrote l Initiator bytes) = λ own. none_resent opened link before none
    by (marks.Wrote l Responder bytes) = tt
    by (marks.Submit l call form (submissions.Accepted xid)) = tt
    by (marks.Submit l call form (submissions.Refused why)) = λ own. none_resent opened link before none
    by (marks.Submit l call form submissions.Dropped) = tt
    by (marks.Fed l Initiator bytes) = λ own. none_resent opened link before none
    by (marks.Fed l Responder bytes) = tt
    by (marks.Execute l xid moment payload place reply) = tt
    by (marks.Done l xid outcome) = λ own. none_resent opened link before none
    by (marks.Lost l xid) = tt
    by (marks.Forget l xid) = λ own. none_resent opened link before none
    by (marks.Revoke l xid bytes) = λ own. none_resent opened link before none
    by (marks.Drop l) = tt
    by (marks.Told l what) = tt

pub resent_marks : (opened : LinkParameters) (link : ℕ) (run : List Mark) → opened.resumed ≡ [] → AtEachMark (ResentMark opened link) [] run
resent_marks opened link run none = resent_from opened link [] run none

-- ---- Calls of the client

-- an accepted call that is awaited is one of the client's
pub awaited_or_waits : (opened : LinkParameters) (link : ℕ) (run : List Mark) (xid : ℕ) → IsAwaited link run xid → IsAwaitedOrWaits opened link run xid
awaited_or_waits opened link run xid h = record {
  asked = h.asked;
  is_asked = Contains-append_right (map as_accepted opened.resumed) (accepted_calls link run) h.asked h.is_asked;
  own = h.own;
  first = h.first;
  kept = h.kept;
}
