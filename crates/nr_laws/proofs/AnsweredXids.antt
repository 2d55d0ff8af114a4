-- Each call that a client accepted is outstanding, until a message of its xid was received. On a matched link its server said that message.
use Rattle.std.proofs.Common.{◌≡◌, ℕ, Bool, true, false, not, cond, eqb, eqb-true, List, [], ◌∷◌, ◌++◌, map, Option, None, Some, Result, Ok, Err, refl, sym, ap, subst, ◌∙◌, append_assoc, append-nil, ◌⊎◌, inl, inr}
use Rattle.std.specs.List.{AllByRecursion, filter}
use Rattle.std.proofs.lemmas.Bool.{eq-eqb}
use Rattle.nr_xdr.specs.Fields.{word_at}
use Rattle.nr_wire.specs.declared.hello.Side.TheVariants.{Initiator, Responder}
use Rattle.nr_wire.specs.Segment.{Segment, segment_of}
use Rattle.nr_link.specs.declared.end.End.{End as Stop}
use Rattle.nr_link.specs.Frames.{Frame, is_hello}
use Rattle.nr_link.specs.ReceiveState.{ReadRequest, message_completed, read_request_of}
use Rattle.nr_link.proofs.TakenSegments.{taken_read}
use Rattle.nr_reduce.specs.declared.mark.LinkParameters.{LinkParameters}
use Rattle.nr_reduce.specs.declared.mark.Mark.{Mark}
use Rattle.nr_reduce.specs.History.{AcceptedCall, accepted_calls}
use Rattle.nr_reduce.specs.Events.{RunEvent, events}
use Rattle.nr_reduce.specs.Events.RunEvent.{FrameReceived, CallSubmitted, MemoryRevoked, CallExecuted, QueueWritten, ServerTold}
use Rattle.nr_reduce.specs.EndRules.{EndState, end_state_after, next_end_state, next_end_state_by, next_end_state_in}
use Rattle.nr_reduce.specs.ClientState.{ClientState, OutstandingCall}
use Rattle.nr_reduce.specs.Client.{client_segment, client_rules, client_end, client_state_after, due_with_response, initial_client, outstanding_of, revoked_call, with_hello, with_message, with_request, with_segment}
use Rattle.nr_reduce.specs.Run.{client}
use Rattle.nr_reduce.proofs.Steps.{end_state_after_append}
use Rattle.nr_laws.specs.MatchedSoFar.{MatchedSoFar}
use Rattle.nr_laws.specs.Typed.{IsTyped}
use Rattle.nr_laws.proofs.AcceptedEvents.{accepted_events}
use Rattle.nr_laws.proofs.AccountedCalls.{is_outstanding, others_stay, any_map}
use Rattle.nr_laws.proofs.Basics.{each_all, each_append}
use Rattle.nr_laws.proofs.Brought.{Brings}
use Rattle.nr_laws.proofs.ClientRun.{client_goes}
use Rattle.nr_laws.proofs.ClientSays.{ClientGood, accepted_in, accepted_append}
use Rattle.nr_laws.proofs.Completions.{completed_by, begun_from}
use Rattle.nr_laws.proofs.DistinctKeys.{any_append, or_left_lem, or_right_lem}
use Rattle.nr_laws.proofs.EventOutputs.{IsNext, along, place_after}
use Rattle.nr_laws.proofs.OwnEvents.{xid_revoked}
use Rattle.nr_laws.proofs.Outcomes.{client_by}
use Rattle.nr_laws.proofs.Outputs.{Output}
use Rattle.nr_laws.proofs.Outputs.Output.{ASegment}
use Rattle.nr_laws.proofs.ReceivedMessages.{hears, client_receives, brings_at, own_segment, completed_message}
use Rattle.nr_laws.proofs.ServerAlong.{outs_of, Said}
use Rattle.nr_laws.proofs.ServerSide.{server_tells, client_receives_of}

-- a message of this xid was received
pub record WasHeard (opened : LinkParameters) (es : List RunEvent) (xid : ℕ) : Type 0 where
  pub earlier : List RunEvent
  pub frame : Frame
  pub later : List RunEvent
  pub is : es ≡ earlier ++ FrameReceived frame ∷ later
  pub behind : is_hello frame ≡ false
  pub live : (client_by opened earlier).ended ≡ None
  pub segment : Segment
  pub is_segment : segment_of frame.bytes ≡ Ok segment
  pub message : List ℕ
  pub whole : message_completed (client_by opened earlier).state.received segment ≡ Some message
  pub own : xid ≡ word_at 0 message

heard_later : (opened : LinkParameters) (es : List RunEvent) (e : RunEvent) (xid : ℕ) → WasHeard opened es xid → WasHeard opened (es ++ e ∷ []) xid
heard_later opened es e xid w = record {
  earlier = w.earlier;
  frame = w.frame;
  later = w.later ++ e ∷ [];
  is = ap (λ (all : List RunEvent). all ++ e ∷ []) w.is ∙ append_assoc w.earlier (FrameReceived w.frame ∷ w.later) (e ∷ []);
  behind = w.behind;
  live = w.live;
  segment = w.segment;
  is_segment = w.is_segment;
  message = w.message;
  whole = w.whole;
  own = w.own;
}

abbrev OutOrHeard : LinkParameters → List RunEvent → List OutstandingCall → ℕ → Type 0
OutOrHeard opened es os xid = (is_outstanding os xid ≡ true) ⊎ WasHeard opened es xid

record Heard (opened : LinkParameters) (es : List RunEvent) (r : EndState ClientState) : Type 0 where
  state : r ≡ client_by opened es
  each : AllByRecursion (λ (a : AcceptedCall). OutOrHeard opened es r.state.outstanding a.xid) (accepted_in es)

-- ---- An event

-- the calls stay outstanding
still : (opened : LinkParameters) (es : List RunEvent) (e : RunEvent) (os more : List OutstandingCall) → ((xid : ℕ) → is_outstanding os xid ≡ true → is_outstanding more xid ≡ true) → (calls : List AcceptedCall)
    → AllByRecursion (λ (a : AcceptedCall). OutOrHeard opened es os a.xid) calls → AllByRecursion (λ (a : AcceptedCall). OutOrHeard opened (es ++ e ∷ []) more a.xid) calls
still opened es e os more stays calls h =
    each_all (λ (a : AcceptedCall). OutOrHeard opened es os a.xid) (λ (a : AcceptedCall). OutOrHeard opened (es ++ e ∷ []) more a.xid) calls (λ a g. by a.xid g) h
  where
    by : (xid : ℕ) → OutOrHeard opened es os xid → OutOrHeard opened (es ++ e ∷ []) more xid
    by xid (inl out) = inl (stays xid out)
    by xid (inr heard) = inr (heard_later opened es e xid heard)

more_none : (es : List RunEvent) (e : RunEvent) → accepted_in (e ∷ []) ≡ [] → accepted_in (es ++ e ∷ []) ≡ accepted_in es
more_none es e none = accepted_append es (e ∷ []) ∙ ap (λ (calls : List AcceptedCall). accepted_in es ++ calls) none ∙ append-nil (accepted_in es)

abbrev AllHeard : LinkParameters → List RunEvent → List OutstandingCall → List AcceptedCall → Type 0
AllHeard opened es os calls = AllByRecursion (λ (a : AcceptedCall). OutOrHeard opened es os a.xid) calls

quiet : (opened : LinkParameters) (es : List RunEvent) (e : RunEvent) (os : List OutstandingCall) → accepted_in (e ∷ []) ≡ [] → AllHeard opened es os (accepted_in es) → AllHeard opened (es ++ e ∷ []) os (accepted_in (es ++ e ∷ []))
quiet opened es e os none h = subst (AllHeard opened (es ++ e ∷ []) os) (sym (more_none es e none)) (still opened es e os os (λ xid out. out) (accepted_in es) h)

module _ (opened : LinkParameters) (es : List RunEvent) (k : ClientState) (live : (client_by opened es).ended ≡ None) (own : (client_by opened es).state ≡ k) (f : Frame) (behind : is_hello f ≡ false) where
  -- a message takes the call of its xid away
  heard_message : (s : Segment) (m : List ℕ) → client_segment k f ≡ Ok s → message_completed k.received s ≡ Some m → (xid : ℕ) → OutOrHeard opened es k.outstanding xid
      → OutOrHeard opened (es ++ FrameReceived f ∷ []) (filter (λ o. not (eqb o.xid (word_at 0 m))) k.outstanding) xid
  heard_message s m is whole xid (inr heard) = inr (heard_later opened es (FrameReceived f) xid heard)
  heard_message s m is whole xid (inl out) = by (eqb xid (word_at 0 m)) refl
    where
      by : (b : Bool) → eqb xid (word_at 0 m) ≡ b → OutOrHeard opened (es ++ FrameReceived f ∷ []) (filter (λ o. not (eqb o.xid (word_at 0 m))) k.outstanding) xid
      by true e = inr (record {
        earlier = es;
        frame = f;
        later = [];
        is = refl;
        behind = behind;
        live = live;
        segment = s;
        is_segment = taken_read k.invalidates f.bytes s is;
        message = m;
        whole = ap (λ (x : ClientState). message_completed x.received s) own ∙ whole;
        own = eqb-true xid (word_at 0 m) e;
      })
      by false e = inl (others_stay (word_at 0 m) xid k.outstanding e out)

  heard_segment : (calls : List AcceptedCall) → AllHeard opened es k.outstanding calls → AllHeard opened (es ++ FrameReceived f ∷ []) (with_segment k f (client_segment k f)).outstanding calls
  heard_segment calls h = by (client_segment k f) refl
    where
      same : AllHeard opened (es ++ FrameReceived f ∷ []) k.outstanding calls
      same = still opened es (FrameReceived f) k.outstanding k.outstanding (λ xid out. out) calls h

      by_message : (s : Segment) → client_segment k f ≡ Ok s → (m : Option (List ℕ)) → message_completed k.received s ≡ m → (q : Option ReadRequest)
          → AllHeard opened (es ++ FrameReceived f ∷ []) (with_request (with_message k f.end m) (due_with_response k f s) q).outstanding calls
      by_message s is None whole None = same
      by_message s is None whole (Some q) = same
      by_message s is (Some m) whole None =
          each_all (λ (a : AcceptedCall). OutOrHeard opened es k.outstanding a.xid) (λ (a : AcceptedCall). OutOrHeard opened (es ++ FrameReceived f ∷ []) (filter (λ o. not (eqb o.xid (word_at 0 m))) k.outstanding) a.xid) calls
          (λ a g. heard_message s m is whole a.xid g) h
      by_message s is (Some m) whole (Some q) =
          each_all (λ (a : AcceptedCall). OutOrHeard opened es k.outstanding a.xid) (λ (a : AcceptedCall). OutOrHeard opened (es ++ FrameReceived f ∷ []) (filter (λ o. not (eqb o.xid (word_at 0 m))) k.outstanding) a.xid) calls
          (λ a g. heard_message s m is whole a.xid g) h

      by : (r : Result Segment ℕ) → client_segment k f ≡ r → AllHeard opened (es ++ FrameReceived f ∷ []) (with_segment k f r).outstanding calls
      by (Err reason) is = same
      by (Ok s) is = by_message s is (message_completed k.received s) refl (read_request_of s)

heard_frame : (opened : LinkParameters) (es : List RunEvent) (k : ClientState) (f : Frame) → (client_by opened es).ended ≡ None → (client_by opened es).state ≡ k → AllHeard opened es k.outstanding (accepted_in es) → (o : Option Stop)
    → AllHeard opened (es ++ FrameReceived f ∷ []) (next_end_state_by (client_rules opened) k (FrameReceived f) o).state.outstanding (accepted_in (es ++ FrameReceived f ∷ []))
unfolding client_state_after
heard_frame opened es k f live own h (Some end) = quiet opened es (FrameReceived f) k.outstanding refl h
heard_frame opened es k f live own h None = by (is_hello f) refl
  where
    by : (b : Bool) → is_hello f ≡ b → AllHeard opened (es ++ FrameReceived f ∷ []) (cond b (with_hello opened k f) (with_segment k f (client_segment k f))).outstanding (accepted_in (es ++ FrameReceived f ∷ []))
    by true is = quiet opened es (FrameReceived f) k.outstanding refl h
    by false is = subst (AllHeard opened (es ++ FrameReceived f ∷ []) (with_segment k f (client_segment k f)).outstanding) (sym (more_none es (FrameReceived f) refl)) (heard_segment opened es k live own f is (accepted_in es) h)

heard_call : (opened : LinkParameters) (es : List RunEvent) (k : ClientState) (p : ℕ) (a : AcceptedCall) → AllHeard opened es k.outstanding (accepted_in es) → AllHeard opened (es ++ CallSubmitted p a ∷ []) (client_state_after opened k (CallSubmitted p a)).outstanding (accepted_in (es ++ CallSubmitted p a ∷ []))
unfolding client_state_after
heard_call opened es k p a h =
    subst (AllHeard opened (es ++ CallSubmitted p a ∷ []) (k.outstanding ++ outstanding_of k a ∷ [])) (sym (accepted_append es (CallSubmitted p a ∷ [])))
    (each_append (λ (x : AcceptedCall). OutOrHeard opened (es ++ CallSubmitted p a ∷ []) (k.outstanding ++ outstanding_of k a ∷ []) x.xid) (accepted_in es) (a ∷ [])
    (still opened es (CallSubmitted p a) k.outstanding (k.outstanding ++ outstanding_of k a ∷ [])
    (λ xid out. any_append (λ (o : OutstandingCall). eqb o.xid xid) k.outstanding (outstanding_of k a ∷ []) ∙ or_left_lem (is_outstanding k.outstanding xid) (is_outstanding (outstanding_of k a ∷ []) xid) out) (accepted_in es) h) (
      inl (any_append (λ (o : OutstandingCall). eqb o.xid a.xid) k.outstanding (outstanding_of k a ∷ [])
          ∙ or_right_lem (is_outstanding k.outstanding a.xid) (is_outstanding (outstanding_of k a ∷ []) a.xid) (or_left_lem (eqb a.xid a.xid) false (eq-eqb a.xid a.xid refl))),
      tt,
    ))

heard_revoked : (opened : LinkParameters) (es : List RunEvent) (k : ClientState) (p xid : ℕ) → AllHeard opened es k.outstanding (accepted_in es)
    → AllHeard opened (es ++ MemoryRevoked p xid ∷ []) (client_state_after opened k (MemoryRevoked p xid)).outstanding (accepted_in (es ++ MemoryRevoked p xid ∷ []))
unfolding client_state_after
heard_revoked opened es k p xid h =
    subst (AllHeard opened (es ++ MemoryRevoked p xid ∷ []) (map (revoked_call xid) k.outstanding)) (sym (more_none es (MemoryRevoked p xid) refl))
    (still opened es (MemoryRevoked p xid) k.outstanding (map (revoked_call xid) k.outstanding) (λ x out. any_map (revoked_call xid) k.outstanding x (xid_revoked xid) ∙ out) (accepted_in es) h)

-- ---- Along the events

heard_step : (opened : LinkParameters) (es : List RunEvent) (k : ClientState) (ended : Option Stop) (e : RunEvent) → ClientGood opened (record { state = k; ended = ended }) e → (client_by opened es).state ≡ k → (client_by opened es).ended ≡ ended → AllHeard opened es k.outstanding (accepted_in es)
    → AllHeard opened (es ++ e ∷ []) (next_end_state_in (client_rules opened) k e ended).state.outstanding (accepted_in (es ++ e ∷ []))
unfolding client_end client_state_after
heard_step opened es k None (FrameReceived f) good own live h = heard_frame opened es k f live own h (client_end k (FrameReceived f))
heard_step opened es k None (CallSubmitted p a) good own live h = heard_call opened es k p a h
heard_step opened es k None (MemoryRevoked p xid) good own live h = heard_revoked opened es k p xid h
heard_step opened es k None (CallExecuted x) good own live h = quiet opened es (CallExecuted x) k.outstanding refl h
heard_step opened es k None (QueueWritten taken) good own live h = quiet opened es (QueueWritten taken) k.outstanding refl h
heard_step opened es k None (ServerTold what) good own live h = quiet opened es (ServerTold what) k.outstanding refl h
heard_step opened es k (Some end) (FrameReceived f) good own live h = quiet opened es (FrameReceived f) k.outstanding refl h
heard_step opened es k (Some end) (CallSubmitted p a) good own live h = absurd (let wrong = good.stays in cc)
heard_step opened es k (Some end) (MemoryRevoked p xid) good own live h = quiet opened es (MemoryRevoked p xid) k.outstanding refl h
heard_step opened es k (Some end) (CallExecuted x) good own live h = quiet opened es (CallExecuted x) k.outstanding refl h
heard_step opened es k (Some end) (QueueWritten taken) good own live h = quiet opened es (QueueWritten taken) k.outstanding refl h
heard_step opened es k (Some end) (ServerTold what) good own live h = quiet opened es (ServerTold what) k.outstanding refl h

heard_along : (opened : LinkParameters) (es : List RunEvent) (r : EndState ClientState) (e : RunEvent) → ClientGood opened r e → Heard opened es r → Heard opened (es ++ e ∷ []) (next_end_state (client_rules opened) r e)
heard_along opened es r e good h = record {
  state = ap (λ (x : EndState ClientState). next_end_state (client_rules opened) x e) h.state ∙ sym (end_state_after_append (client_rules opened) (initial_client opened) es (e ∷ []));
  each = heard_step opened es r.state r.ended e good (ap (λ (x : EndState ClientState). x.state) (sym h.state)) (ap (λ (x : EndState ClientState). x.ended) (sym h.state)) h.each;
}

pub heard_of : (opened : LinkParameters) (link : ℕ) (run : List Mark) → IsTyped run → MatchedSoFar opened link run
    → AllByRecursion (λ (a : AcceptedCall). (is_outstanding (client opened link run).state.outstanding a.xid ≡ true) ⊎ WasHeard opened (events link Initiator run) a.xid) (accepted_calls link run)
unfolding client
heard_of opened link run typed far =
    let es : List RunEvent = events link Initiator run in
    let all = along (client_rules opened) (λ k e. []) (λ end. []) (ClientGood opened) (λ es place r outs. Heard opened es r)
    (λ es place r outs e next good h. heard_along opened es r e good h)
    [] 0 (initial_client opened) [] es (client_goes opened link run typed far.asked).goes (record { state = refl; each = tt }) in
    subst (λ (calls : List AcceptedCall). AllHeard opened es (client opened link run).state.outstanding calls) (accepted_events link run) all.each

-- ---- What the server said

pub record MessageSaid (opened : LinkParameters) (link : ℕ) (run : List Mark) (xid : ℕ) : Type 0 where
  pub before : List Output
  pub message : List ℕ
  pub said : Said opened (events link Responder run) before message
  pub own : xid ≡ word_at 0 message

pub message_said : (opened : LinkParameters) (link : ℕ) (run : List Mark) (xid : ℕ) → IsTyped run → MatchedSoFar opened link run → WasHeard opened (events link Initiator run) xid → MessageSaid opened link run xid
message_said opened link run xid typed far w =
    let r = client_receives_of opened link run typed far.asked far.served far.matched in
    let t = server_tells opened link run typed far.asked far.served far.matched in
    let at = brings_at w.earlier w.frame w.later r.came (subst (λ (xs : List RunEvent). Brings xs r.came) w.is r.brings) in
    let counted = hears (client_rules opened) (λ (k : ClientState). k.received) (client_receives opened) (initial_client opened) w.earlier at.earlier at.brings w.live in
    let segment : at.own ≡ ASegment w.segment = own_segment at.own w.frame w.segment at.brought w.behind w.is_segment in
    let one : completed_by (begun_from None at.earlier) w.segment ≡ w.message ∷ [] = completed_message (client_by opened w.earlier).state.received (begun_from None at.earlier) w.segment w.message counted.begun w.whole in
    let parts : outs_of opened (events link Responder run) ≡ at.earlier ++ ASegment w.segment ∷ (at.later ++ r.left) =
    sym r.parts ∙ ap (λ (xs : List Output). xs ++ r.left) (at.parts ∙ ap (λ (o : Output). at.earlier ++ o ∷ at.later) segment) ∙ append_assoc at.earlier (ASegment w.segment ∷ at.later) r.left in
    record { before = at.earlier; message = w.message; said = (t.said at.earlier w.segment (at.later ++ r.left) w.message parts one).said; own = w.own }
