-- On a matched link each outcome that a client has was brought by a message that its server said.
use Rattle.std.proofs.Common.{◌≡◌, ℕ, Bool, true, false, cond, List, [], ◌∷◌, ◌++◌, Option, None, Some, Result, Ok, Err, refl, sym, ap, subst, ◌∙◌, append_assoc, append-nil}
use Rattle.std.specs.Prelude.{Contains}
use Rattle.std.proofs.lemmas.List.Elements.{All-contains, All-from_recursion}
use Rattle.std.specs.List.{AllByRecursion}
use Rattle.nr_wire.specs.declared.hello.Side.TheVariants.{Initiator, Responder}
use Rattle.nr_wire.specs.Segment.{Segment, segment_of}
use Rattle.nr_link.specs.declared.end.End.{End as Stop}
use Rattle.nr_link.specs.Frames.{Frame, is_hello}
use Rattle.nr_link.specs.ReceiveState.{ReadRequest, message_completed, read_request_of}
use Rattle.nr_link.proofs.TakenSegments.{taken_read}
use Rattle.nr_reduce.specs.declared.mark.Mark.{Mark}
use Rattle.nr_reduce.specs.declared.mark.LinkParameters.{LinkParameters}
use Rattle.nr_reduce.specs.History.{CompletedCall}
use Rattle.nr_reduce.specs.Matched.{Matched}
use Rattle.nr_reduce.specs.Events.{RunEvent, events}
use Rattle.nr_reduce.specs.Events.RunEvent.{FrameReceived, CallSubmitted, MemoryRevoked, CallExecuted, QueueWritten, ServerTold}
use Rattle.nr_reduce.specs.EndRules.{EndState, next_end_state_by, next_end_state_in, end_state_after}
use Rattle.nr_reduce.specs.ClientState.{ClientState}
use Rattle.nr_reduce.specs.ClientMessages.{ReplyVerdict, reply_verdict}
use Rattle.nr_reduce.specs.ClientMessages.ReplyVerdict.{EndsLink, GivesOutcome}
use Rattle.nr_reduce.specs.Client.{client_segment, client_rules, client_end, client_state_after, outcomes_of, with_message, with_request, with_segment, initial_client, with_hello, due_with_response}
use Rattle.nr_reduce.specs.Run.{client}
use Rattle.nr_reduce.specs.Asked.{AskedSoFar}
use Rattle.nr_reduce.specs.Served.{ServedSoFar}
use Rattle.nr_reduce.proofs.Steps.{end_state_after_append}
use Rattle.nr_laws.specs.Typed.{IsTyped}
use Rattle.nr_laws.proofs.Outputs.{Output}
use Rattle.nr_laws.proofs.Outputs.Output.{ASegment}
use Rattle.nr_laws.proofs.Brought.{Brings}
use Rattle.nr_laws.proofs.Completions.{completed_by, begun_from}
use Rattle.nr_laws.proofs.ReceivedMessages.{hears, client_receives, brings_at, own_segment, completed_message}
use Rattle.nr_laws.proofs.ServerAlong.{outs_of, Said}
use Rattle.nr_laws.proofs.ServerSide.{server_tells, client_receives_of}
use Rattle.nr_laws.proofs.Basics.{each_append, each_all}

-- the client after these events
abbrev pub client_by : LinkParameters → List RunEvent → EndState ClientState
client_by opened es = end_state_after (client_rules opened) (initial_client opened) es

-- a message gave the outcome
pub record WasGiven (opened : LinkParameters) (es : List RunEvent) (c : CompletedCall) : Type 0 where
  pub earlier : List RunEvent
  pub frame : Frame
  pub later : List RunEvent
  pub is : es ≡ earlier ++ FrameReceived frame ∷ later
  pub behind : is_hello frame ≡ false
  pub live : (client_by opened earlier).ended ≡ None
  pub stays : client_end (client_by opened earlier).state (FrameReceived frame) ≡ None
  pub segment : Segment
  pub is_segment : segment_of frame.bytes ≡ Ok segment
  pub message : List ℕ
  pub whole : message_completed (client_by opened earlier).state.received segment ≡ Some message
  pub given : reply_verdict (client_by opened earlier).state frame.end message ≡ GivesOutcome c.xid (Some c.outcome)

given_later : (opened : LinkParameters) (es : List RunEvent) (e : RunEvent) (c : CompletedCall) → WasGiven opened es c → WasGiven opened (es ++ e ∷ []) c
given_later opened es e c w = record {
  earlier = w.earlier;
  frame = w.frame;
  later = w.later ++ e ∷ [];
  is = ap (λ (all : List RunEvent). all ++ e ∷ []) w.is ∙ append_assoc w.earlier (FrameReceived w.frame ∷ w.later) (e ∷ []);
  behind = w.behind;
  live = w.live;
  stays = w.stays;
  segment = w.segment;
  is_segment = w.is_segment;
  message = w.message;
  whole = w.whole;
  given = w.given;
}

request_outcomes : (m : ClientState) (due : ℕ) (o : Option ReadRequest) → (with_request m due o).outcomes ≡ m.outcomes
request_outcomes m due None = refl
request_outcomes m due (Some q) = refl

verdict_each : (P : CompletedCall → Type 0) (v : ReplyVerdict) → ((c : CompletedCall) → v ≡ GivesOutcome c.xid (Some c.outcome) → P c) → AllByRecursion P (outcomes_of v)
verdict_each P (EndsLink reason) h = tt
verdict_each P (GivesOutcome xid None) h = tt
verdict_each P (GivesOutcome xid (Some outcome)) h = (h (record { xid = xid; outcome = outcome }) refl, tt)

message_each : (P : CompletedCall → Type 0) (k : ClientState) (place : ℕ) (o : Option (List ℕ)) → AllByRecursion P k.outcomes → ((m : List ℕ) (c : CompletedCall) → o ≡ Some m → reply_verdict k place m ≡ GivesOutcome c.xid (Some c.outcome) → P c) → AllByRecursion P (with_message k place o).outcomes
message_each P k place None h new = h
message_each P k place (Some m) h new = each_append P k.outcomes (outcomes_of (reply_verdict k place m)) h (verdict_each P (reply_verdict k place m) (λ c is. new m c refl is))

segment_each : (P : CompletedCall → Type 0) (k : ClientState) (f : Frame) (r : Result Segment ℕ) → AllByRecursion P k.outcomes
    → ((s : Segment) (m : List ℕ) (c : CompletedCall) → r ≡ Ok s → message_completed k.received s ≡ Some m → reply_verdict k f.end m ≡ GivesOutcome c.xid (Some c.outcome) → P c) → AllByRecursion P (with_segment k f r).outcomes
segment_each P k f (Err reason) h new = h
segment_each P k f (Ok s) h new =
    subst (λ (cs : List CompletedCall). AllByRecursion P cs) (sym (request_outcomes (with_message k f.end (message_completed k.received s)) (due_with_response k f s) (read_request_of s)))
    (message_each P k f.end (message_completed k.received s) h (λ m c whole is. new s m c refl whole is))

after_each : (opened : LinkParameters) (es : List RunEvent) (e : RunEvent) → AllByRecursion (WasGiven opened es) (client_by opened es).state.outcomes → (client_by opened es).ended ≡ None → client_end (client_by opened es).state e ≡ None
    → AllByRecursion (WasGiven opened (es ++ e ∷ [])) (client_state_after opened (client_by opened es).state e).outcomes
unfolding client_state_after
after_each opened es (FrameReceived f) h live stays = by (is_hello f) refl
  where
    k : ClientState
    k = (client_by opened es).state

    old : AllByRecursion (WasGiven opened (es ++ FrameReceived f ∷ [])) k.outcomes
    old = each_all (WasGiven opened es) (WasGiven opened (es ++ FrameReceived f ∷ [])) k.outcomes (given_later opened es (FrameReceived f)) h

    by : (b : Bool) → is_hello f ≡ b → AllByRecursion (WasGiven opened (es ++ FrameReceived f ∷ [])) (cond b (with_hello opened k f) (with_segment k f (client_segment k f))).outcomes
    by true is = old
    by false is = segment_each (WasGiven opened (es ++ FrameReceived f ∷ [])) k f (client_segment k f) old (λ s m c own whole given.
        record { earlier = es; frame = f; later = []; is = refl; behind = is; live = live; stays = stays; segment = s; is_segment = taken_read k.invalidates f.bytes s own; message = m; whole = whole; given = given })
after_each opened es (CallSubmitted p a) h live stays = each_all (WasGiven opened es) (WasGiven opened (es ++ CallSubmitted p a ∷ [])) (client_by opened es).state.outcomes (given_later opened es (CallSubmitted p a)) h
after_each opened es (MemoryRevoked p xid) h live stays = each_all (WasGiven opened es) (WasGiven opened (es ++ MemoryRevoked p xid ∷ [])) (client_by opened es).state.outcomes (given_later opened es (MemoryRevoked p xid)) h
after_each opened es (CallExecuted e) h live stays = each_all (WasGiven opened es) (WasGiven opened (es ++ CallExecuted e ∷ [])) (client_by opened es).state.outcomes (given_later opened es (CallExecuted e)) h
after_each opened es (QueueWritten taken) h live stays = each_all (WasGiven opened es) (WasGiven opened (es ++ QueueWritten taken ∷ [])) (client_by opened es).state.outcomes (given_later opened es (QueueWritten taken)) h
after_each opened es (ServerTold what) h live stays = each_all (WasGiven opened es) (WasGiven opened (es ++ ServerTold what ∷ [])) (client_by opened es).state.outcomes (given_later opened es (ServerTold what)) h

next_each : (opened : LinkParameters) (es : List RunEvent) (e : RunEvent) → AllByRecursion (WasGiven opened es) (client_by opened es).state.outcomes → AllByRecursion (WasGiven opened (es ++ e ∷ [])) (client_by opened (es ++ e ∷ [])).state.outcomes
next_each opened es e h =
    subst (λ (r : EndState ClientState). AllByRecursion (WasGiven opened (es ++ e ∷ [])) r.state.outcomes) (sym (end_state_after_append (client_rules opened) (initial_client opened) es (e ∷ [])))
    (one (client_by opened es).ended refl)
  where
    k : ClientState
    k = (client_by opened es).state

    old : AllByRecursion (WasGiven opened (es ++ e ∷ [])) k.outcomes
    old = each_all (WasGiven opened es) (WasGiven opened (es ++ e ∷ [])) k.outcomes (given_later opened es e) h

    by_why : (o : Option Stop) → client_end k e ≡ o → (client_by opened es).ended ≡ None → AllByRecursion (WasGiven opened (es ++ e ∷ [])) (next_end_state_by (client_rules opened) k e o).state.outcomes
    by_why None is live = after_each opened es e h live is
    by_why (Some end) is live = old

    one : (ended : Option Stop) → (client_by opened es).ended ≡ ended → AllByRecursion (WasGiven opened (es ++ e ∷ [])) (next_end_state_in (client_rules opened) k e ended).state.outcomes
    one None live = by_why (client_end k e) refl live
    one (Some end) live = old

each_given : (opened : LinkParameters) (es more : List RunEvent) → AllByRecursion (WasGiven opened es) (client_by opened es).state.outcomes → AllByRecursion (WasGiven opened (es ++ more)) (client_by opened (es ++ more)).state.outcomes
each_given opened es [] h = subst (λ (all : List RunEvent). AllByRecursion (WasGiven opened all) (client_by opened all).state.outcomes) (sym (append-nil es)) h
each_given opened es (e ∷ more) h =
    subst (λ (all : List RunEvent). AllByRecursion (WasGiven opened all) (client_by opened all).state.outcomes) (append_assoc es (e ∷ []) more) (each_given opened (es ++ e ∷ []) more (next_each opened es e h))

pub outcome_given : (opened : LinkParameters) (link : ℕ) (run : List Mark) (c : CompletedCall) → Contains (client opened link run).state.outcomes c → WasGiven opened (events link Initiator run) c
unfolding client
outcome_given opened link run c there =
    let es = events link Initiator run in
    All-contains (WasGiven opened es) (client opened link run).state.outcomes c
    (All-from_recursion (WasGiven opened es) (client opened link run).state.outcomes (each_given opened [] es tt)) there

-- ---- What the server said

pub record OutcomeSaid (opened : LinkParameters) (link : ℕ) (run : List Mark) (c : CompletedCall) : Type 0 where
  pub given : WasGiven opened (events link Initiator run) c
  -- what came before its message, and after it
  pub before : List Output
  pub behind : List Output
  pub parts : outs_of opened (events link Responder run) ≡ before ++ ASegment given.segment ∷ behind
  pub brings : Brings given.earlier before
  pub said : Said opened (events link Responder run) before given.message

pub outcome_said : (opened : LinkParameters) (link : ℕ) (run : List Mark) → IsTyped run → AskedSoFar opened link run → ServedSoFar opened link run → Matched link run → (c : CompletedCall) → Contains (client opened link run).state.outcomes c
    → OutcomeSaid opened link run c
outcome_said opened link run typed asked served matched c there =
    let w = outcome_given opened link run c there in
    let r = client_receives_of opened link run typed asked served matched in
    let t = server_tells opened link run typed asked served matched in
    let at = brings_at w.earlier w.frame w.later r.came (subst (λ (xs : List RunEvent). Brings xs r.came) w.is r.brings) in
    let counted = hears (client_rules opened) (λ (k : ClientState). k.received) (client_receives opened) (initial_client opened) w.earlier at.earlier at.brings w.live in
    let segment : at.own ≡ ASegment w.segment = own_segment at.own w.frame w.segment at.brought w.behind w.is_segment in
    let one : completed_by (begun_from None at.earlier) w.segment ≡ w.message ∷ [] = completed_message (client_by opened w.earlier).state.received (begun_from None at.earlier) w.segment w.message counted.begun w.whole in
    let parts : outs_of opened (events link Responder run) ≡ at.earlier ++ ASegment w.segment ∷ (at.later ++ r.left) =
    sym r.parts ∙ ap (λ (xs : List Output). xs ++ r.left) (at.parts ∙ ap (λ (o : Output). at.earlier ++ o ∷ at.later) segment) ∙ append_assoc at.earlier (ASegment w.segment ∷ at.later) r.left in
    record {
      given = w;
      before = at.earlier;
      behind = at.later ++ r.left;
      parts = parts;
      brings = at.brings;
      said = (t.said at.earlier w.segment (at.later ++ r.left) w.message parts one).said;
    }
