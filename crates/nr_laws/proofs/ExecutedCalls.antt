-- On a matched link each call that is executed was submitted before: its Send is that of the accepted call of its number.
use Rattle.std.proofs.Common.{◌≡◌, ℕ, ◌+◌, false, List, [], ◌∷◌, ◌++◌, length, None, Some, Ok, sym, ap, subst, ◌∙◌, arith, append_assoc}
use Rattle.nr_wire.specs.declared.hello.Side.TheVariants.{Responder}
use Rattle.nr_link.specs.Frames.{Frame, is_hello}
use Rattle.nr_link.specs.Ending.{frame_segment}
use Rattle.nr_link.proofs.TakenSegments.{frame_read}
use Rattle.nr_link.specs.ReceiveState.{message_completed}
use Rattle.nr_wire.specs.Segment.{Segment}
use Rattle.nr_reduce.specs.Hellos.{client_hello}
use Rattle.nr_reduce.specs.declared.mark.Mark.{Mark}
use Rattle.nr_reduce.specs.declared.mark.LinkParameters.{LinkParameters}
use Rattle.nr_reduce.specs.Matched.{Matched, IsPrefixOf}
use Rattle.nr_reduce.specs.History.{bytes_received}
use Rattle.nr_reduce.specs.Events.{RunEvent, events}
use Rattle.nr_reduce.specs.Events.RunEvent.{FrameReceived}
use Rattle.nr_reduce.specs.EndRules.{end_state_after}
use Rattle.nr_reduce.specs.ServerState.{ServerState, PendingCall, ReadyCall}
use Rattle.nr_reduce.specs.Server.{server_rules, initial_server}
use Rattle.nr_reduce.specs.Run.{client, server}
use Rattle.nr_reduce.specs.RunLaws.{WasConveyed, IsReceivedCall, server_by}
use Rattle.nr_reduce.specs.Asked.{AskedSoFar}
use Rattle.nr_reduce.specs.Served.{IsExecuted, next_call}
use Rattle.nr_reduce.proofs.Conveyed.{payload_conveyed}
use Rattle.nr_reduce.proofs.Once.{first_times_ready}
use Rattle.nr_laws.proofs.FirstHellos.{client_hello_is}
use Rattle.nr_laws.specs.Typed.{IsTyped}
use Rattle.nr_laws.proofs.Flows.{flows_up}
use Rattle.nr_laws.proofs.Outputs.{Output}
use Rattle.nr_laws.proofs.Outputs.Output.{AHello, ASegment}
use Rattle.nr_laws.proofs.Brought.{Brings, Receives, receives}
use Rattle.nr_laws.proofs.Completions.{completed_by, completed_from, begun_from, completed_at_lem}
use Rattle.nr_laws.proofs.ReceivedMessages.{hears, server_receives, brings_at, own_segment, completed_message, live_first}
use Rattle.nr_laws.proofs.PlainOutputs.{ArePlain, plain_first, client_plain}
use Rattle.nr_laws.proofs.ClientRun.{client_outputs, client_outs, WasSubmitted, message_submitted}
use Rattle.nr_laws.proofs.HeaderXid.{header_xid, call_xid_lem}
use Rattle.nr_reduce.specs.ClientState.{stag_for}

-- ---- What the server has of the client's output

pub server_receives_of : (opened : LinkParameters) (link : ℕ) (run : List Mark) → IsTyped run → AskedSoFar opened link run → Matched link run
    → Receives link Responder run (AHello (client_hello opened) ∷ client_outs opened link run)
server_receives_of opened link run typed asked matched =
    let t = client_outputs opened link run typed asked in
    receives link Responder run (AHello (client_hello opened) ∷ client_outs opened link run) (client_hello_is opened, t.says.words)
    (subst (λ (xs : List ℕ). IsPrefixOf (bytes_received link Responder run) xs) t.bytes (flows_up opened link run matched asked))

-- none of it is of a Send with Invalidate
pub plain_came : (opened : LinkParameters) (link : ℕ) (run : List Mark) (typed : IsTyped run) (asked : AskedSoFar opened link run) (matched : Matched link run)
    → ArePlain (server_receives_of opened link run typed asked matched).came
plain_came opened link run typed asked matched =
    let r = server_receives_of opened link run typed asked matched in
    plain_first r.came r.left (subst (λ (outs : List Output). ArePlain outs) (sym r.parts) (client_plain opened link run))

-- ---- The message of a Send that was received

-- a message that a frame completed is that of the accepted call with the number of its Send
pub frame_message : (opened : LinkParameters) (link : ℕ) (run : List Mark) → IsTyped run → AskedSoFar opened link run → Matched link run
    → (es : List RunEvent) (f : Frame) (rest : List RunEvent) (s : Segment) (message : List ℕ) → events link Responder run ≡ es ++ FrameReceived f ∷ rest → is_hello f ≡ false → frame_segment f ≡ Ok s
    → message_completed (server_by opened es).received s ≡ Some message → (end_state_after (server_rules opened) (initial_server opened) es).ended ≡ None
    → WasSubmitted opened link run (server_by opened es).received.sends message
frame_message opened link run typed asked matched es f rest s message all behind is whole live =
    let r = server_receives_of opened link run typed asked matched in
    let t = client_outputs opened link run typed asked in
    let at = brings_at es f rest r.came (subst (λ (xs : List RunEvent). Brings xs r.came) all r.brings) in
    let counted = hears (server_rules opened) (λ (k : ServerState). k.received) (server_receives opened) (initial_server opened) es at.earlier at.brings live in
    let segment : at.own ≡ ASegment s = own_segment at.own f s at.brought behind (frame_read f s is) in
    let one : completed_by (begun_from None at.earlier) s ≡ message ∷ [] = completed_message (server_by opened es).received (begun_from None at.earlier) s message counted.begun whole in
    let all_outs : AHello (client_hello opened) ∷ client_outs opened link run ≡ at.earlier ++ ASegment s ∷ (at.later ++ r.left) =
    sym r.parts ∙ ap (λ (xs : List Output). xs ++ r.left) (at.parts ∙ ap (λ (o : Output). at.earlier ++ o ∷ at.later) segment)
    ∙ append_assoc at.earlier (ASegment s ∷ at.later) r.left in
    let split : completed_from None (client_outs opened link run) ≡ completed_from None at.earlier ++ message ∷ completed_from None (at.later ++ r.left) =
    ap (λ (xs : List Output). completed_from None xs) all_outs ∙ completed_at_lem at.earlier s (at.later ++ r.left) message one in
    let equal : length (completed_from None at.earlier) ≡ (server_by opened es).received.sends = (let c = counted.sends in omega (arith, c)) in
    subst (λ (n : ℕ). WasSubmitted opened link run n message) equal
    (message_submitted opened link run typed asked (completed_from None at.earlier) message (completed_from None (at.later ++ r.left)) split)

-- so is that of a call that the server received
pub received_message : (opened : LinkParameters) (link : ℕ) (run : List Mark) → IsTyped run → AskedSoFar opened link run → Matched link run
    → (c : PendingCall) (rest : List RunEvent) (es : List RunEvent) → events link Responder run ≡ es ++ rest → (own : IsReceivedCall opened es c) → (end_state_after (server_rules opened) (initial_server opened) es).ended ≡ None
    → WasSubmitted opened link run (server_by opened own.earlier).received.sends own.message
received_message opened link run typed asked matched c rest es is own live =
    let all : events link Responder run ≡ own.earlier ++ FrameReceived own.frame ∷ (own.later ++ rest) =
    is ∙ ap (λ (xs : List RunEvent). xs ++ rest) own.is_received ∙ append_assoc own.earlier (FrameReceived own.frame ∷ own.later) rest in
    let not_yet : (end_state_after (server_rules opened) (initial_server opened) own.earlier).ended ≡ None =
    live_first (server_rules opened) (initial_server opened) own.earlier (FrameReceived own.frame ∷ own.later) (ap (λ (xs : List RunEvent). (end_state_after (server_rules opened) (initial_server opened) xs).ended) (sym own.is_received) ∙ live) in
    frame_message opened link run typed asked matched own.earlier own.frame (own.later ++ rest) own.segment own.message all own.behind_hello own.is_segment own.whole not_yet

-- ---- An executed call

pub record ExecutedSubmit (opened : LinkParameters) (link : ℕ) (before : List Mark) (xid : ℕ) (payload : List ℕ) (h : IsExecuted opened link before xid payload) : Type 0 where
  pub was : WasConveyed opened (events link Responder before) (record { number = h.call.number; xid = xid; payload = payload })
  pub submitted : WasSubmitted opened link before (server_by opened was.own.earlier).received.sends was.own.message
  pub number : h.call.number ≡ (client opened link submitted.earlier).state.sends + 1
  pub own_xid : submitted.xid ≡ xid

pub live_server : (opened : LinkParameters) (link : ℕ) (before : List Mark) (r : ReadyCall) → next_call opened link before ≡ Some r → (server opened link before).ended ≡ None
unfolding next_call
live_server opened link before r e = (first_times_ready (server opened link before).state.ready (server opened link before).ended r e).0

pub live_part : (opened : LinkParameters) (link : ℕ) (run : List Mark) (es rest : List RunEvent) → events link Responder run ≡ es ++ rest → (server opened link run).ended ≡ None → (end_state_after (server_rules opened) (initial_server opened) es).ended ≡ None
unfolding server
live_part opened link run es rest is live =
    live_first (server_rules opened) (initial_server opened) es rest (ap (λ (xs : List RunEvent). (end_state_after (server_rules opened) (initial_server opened) xs).ended) (sym is) ∙ live)

pub executed_submit : (opened : LinkParameters) (link : ℕ) (before : List Mark) (xid : ℕ) (payload : List ℕ) → IsTyped before → AskedSoFar opened link before → Matched link before → (h : IsExecuted opened link before xid payload)
    → ExecutedSubmit opened link before xid payload h
executed_submit opened link before xid payload typed asked matched h =
    let was = payload_conveyed opened link before xid payload h in
    let whole : events link Responder before ≡ (was.earlier ++ FrameReceived was.frame ∷ []) ++ was.later =
    was.is_received ∙ sym (append_assoc was.earlier (FrameReceived was.frame ∷ []) was.later) in
    let sub = received_message opened link before typed asked matched was.call was.later (was.earlier ++ FrameReceived was.frame ∷ []) whole was.own (live_part opened link before (was.earlier ++ FrameReceived was.frame ∷ []) was.later whole (live_server opened link before h.call h.is_next)) in
    let fits = sub.accepted.xids in
    record {
      was = was;
      submitted = sub;
      number = was.number ∙ was.own.number ∙ ap (λ (n : ℕ). n + 1) (sym sub.counted);
      own_xid = sym (call_xid_lem sub.xid opened.wished (stag_for (client opened link sub.earlier).state sub.xid) sub.accepted.plan (omega (arith, fits)))
          ∙ ap (λ (m : List ℕ). Rattle.nr_xdr.specs.Fields.word_at 0 m) (sym sub.message_is)
          ∙ sym (header_xid was.own.message was.own.header was.own.is_header) ∙ sym was.own.xid ∙ sym was.xid;
    }
