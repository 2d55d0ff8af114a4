-- What holds of a server along the events of a run, whatever its client sends: pending calls, reads and calls that are ready agree, and what is
-- offered can be written.
use Rattle.std.proofs.Common.{◌≡◌, ℕ, ◌+◌, ◌≤◌, Bool, true, false, cond, eqb, not, List, [], ◌∷◌, ◌++◌, Option, None, Some, Result, Ok, Err, refl, sym, ap, subst, ◌∙◌, arith, append-nil}
use Rattle.nr_xdr.specs.Item.{IsBytes}
use Rattle.nr_wire.specs.declared.hello.Side.TheVariants.{Responder}
use Rattle.nr_wire.specs.Segment.{Segment}
use Rattle.nr_wire.specs.Segment.Segment.{Tagged, Untagged}
use Rattle.nr_link.specs.declared.end.End.{End}
use Rattle.nr_link.specs.Frames.{Frame, is_hello}
use Rattle.nr_link.specs.ReceiveState.{message_completed, begun_bytes}
use Rattle.nr_link.specs.Ending.{frame_segment}
use Rattle.nr_link.proofs.TakenSegments.{frame_read}
use Rattle.nr_reduce.specs.declared.mark.Mark.{Mark}
use Rattle.nr_reduce.specs.declared.mark.LinkParameters.{LinkParameters}
use Rattle.nr_reduce.specs.Events.{RunEvent, events}
use Rattle.nr_reduce.specs.Events.RunEvent.{FrameReceived, CallSubmitted, MemoryRevoked, CallExecuted, QueueWritten, ServerTold}
use Rattle.nr_reduce.specs.EndRules.{EndState, next_end_state, next_end_state_by, next_end_state_in, end_state_after}
use Rattle.nr_reduce.specs.ServerState.{ServerState, PendingCall}
use Rattle.nr_reduce.specs.ServerMessages.{verdict}
use Rattle.nr_reduce.specs.ServerFrames.{FrameEffect, by_message, effect_in, frame_effect}
use Rattle.nr_reduce.specs.Server.{server_rules, server_end, server_state_after, initial_server, with_effect, received_by, with_own_hello}
use Rattle.nr_reduce.specs.RunLaws.{server_by}
use Rattle.nr_reduce.specs.Served.{ServedSoFar}
use Rattle.nr_reduce.proofs.Once.{after_goes, whole_with}
use Rattle.nr_laws.specs.Typed.{IsTyped}
use Rattle.nr_laws.proofs.LinkInvariants.{PendingAgree}
use Rattle.nr_laws.proofs.EventOutputs.{IsNext, place_after, GoesOn, first_preserve}
use Rattle.nr_laws.proofs.Words.{payload_bytes_lem}
use Rattle.nr_laws.proofs.ServerOutputs.{CallsFit, fine_frame, CallFits}
use Rattle.nr_laws.proofs.ServerAlong.{ServerPlain}
use Rattle.nr_laws.proofs.ServerEvents.{received_bytes, completed_bytes}
use Rattle.nr_laws.proofs.ServerSide.{server_goes}
use Rattle.nr_laws.proofs.TotalsAtServer.{with_by, after_is_lem, step_is}
use Rattle.nr_laws.proofs.AgreeingEnds.{not_refused_lem, waits_greeted}
use Rattle.nr_laws.proofs.PendingSends.{pending_agree_message, pending_agree_same}
use Rattle.nr_laws.proofs.PendingFrames.{pending_agree_tagged_up}
use Rattle.nr_laws.proofs.PendingExecuted.{pending_agree_executes}
use Rattle.nr_laws.proofs.PendingReads.{AreOwn, own_effect, own_executed}
use Rattle.nr_laws.proofs.Basics.{each_kept}
use Rattle.nr_laws.proofs.ReadContents.{carries_tagged}

pub record KeptAtServer (k : ServerState) : Type 0 where
  pub agree : PendingAgree k
  pub own : AreOwn k.reads k.calls
  pub begun : IsBytes (begun_bytes k.received.begun)
  pub fit : CallsFit k.calls

-- ---- A frame that doesn't end the server

agree_message : (s t : ServerState) (place : ℕ) (o : Option (List ℕ)) → PendingAgree s → s.received.sends ≤ t.received.sends → ((m : List ℕ) → o ≡ Some m → t.received.sends ≡ s.received.sends + 1)
    → t.calls ≡ (by_message s place o).calls → t.reads ≡ (by_message s place o).reads → t.ready ≡ s.ready ++ (by_message s place o).ready → (by_message s place o).refusal ≡ None → PendingAgree t
agree_message s t place None agree le one calls reads ready goes_on = pending_agree_same s t agree calls reads (ready ∙ append-nil s.ready) le
agree_message s t place (Some m) agree le one calls reads ready goes_on =
    pending_agree_message s t place m (verdict s m) refl agree (record { sends_are = one m refl; calls = calls; reads = reads; ready = ready }) goes_on

agree_frame : (opened : LinkParameters) (s : ServerState) (f : Frame) → is_hello f ≡ false → (r : Result Segment ℕ) → frame_segment f ≡ r → PendingAgree s → (frame_effect s f).refusal ≡ None → PendingAgree (server_state_after opened s (FrameReceived f))
agree_frame opened s f behind (Err reason) is agree goes_on =
    subst PendingAgree (sym (after_is_lem opened s f (Err reason) behind is)) (pending_agree_same s (with_by s f (Err reason) (effect_in s f (Err reason))) agree refl refl (append-nil s.ready) (omega arith))
agree_frame opened s f behind (Ok (Tagged last opcode stag to payload)) is agree goes_on =
    pending_agree_tagged_up opened s f last opcode stag to payload agree (carries_tagged s.received.sends s.received.requests f last opcode stag to payload behind is) goes_on
agree_frame opened s f behind (Ok (Untagged last opcode w queue msn offset payload)) is agree goes_on =
    let segment : Segment = Untagged last opcode w queue msn offset payload in
    let after = after_is_lem opened s f (Ok segment) behind is in
    let t = with_by s f (Ok segment) (effect_in s f (Ok segment)) in
    let rises = (after_goes opened s (FrameReceived f)).rises in
    let same = ap (λ (x : ServerState). x.received.sends) after in
    subst PendingAgree (sym after)
    (agree_message s t f.end (message_completed s.received segment) agree (omega (arith, rises, same)) (λ m whole. whole_with s.received segment m whole) refl refl refl
    (ap (λ (x : FrameEffect). x.refusal) (sym (step_is s f (Ok segment) is)) ∙ goes_on))

begun_after : (s : ServerState) (f : Frame) (r : Result Segment ℕ) → frame_segment f ≡ r → IsBytes f.bytes → IsBytes (begun_bytes s.received.begun) → IsBytes (begun_bytes (received_by s.received r).begun)
begun_after s f (Err reason) is bytes h = h
begun_after s f (Ok segment) is bytes h = received_bytes s.received segment h (payload_bytes_lem f.bytes segment bytes (frame_read f segment is))

segment_holds : (opened : LinkParameters) (s : ServerState) (f : Frame) → is_hello f ≡ false → IsBytes f.bytes → server_end opened s (FrameReceived f) ≡ None → KeptAtServer s → KeptAtServer (server_state_after opened s (FrameReceived f))
segment_holds opened s f behind bytes stays h =
    let after = after_is_lem opened s f (frame_segment f) behind refl in
    let effect = effect_in s f (frame_segment f) in
    record {
      agree = agree_frame opened s f behind (frame_segment f) refl h.agree (not_refused_lem opened s f behind stays);
      own = subst (λ (t : ServerState). AreOwn t.reads t.calls) (sym after) (subst (λ (e : FrameEffect). AreOwn e.reads e.calls) (step_is s f (frame_segment f) refl) (own_effect s f h.agree h.own));
      begun = subst (λ (t : ServerState). IsBytes (begun_bytes t.received.begun)) (sym after) (begun_after s f (frame_segment f) refl bytes h.begun);
      fit = subst (λ (t : ServerState). CallsFit t.calls) (sym after)
          (subst (λ (e : FrameEffect). CallsFit e.calls) (step_is s f (frame_segment f) refl)
          (fine_frame s f (λ x m is whole. completed_bytes s.received x m h.begun (payload_bytes_lem f.bytes x bytes (frame_read f x is)) whole) h.fit).fit);
    }

frame_holds : (opened : LinkParameters) (s : ServerState) (f : Frame) → IsBytes f.bytes → server_end opened s (FrameReceived f) ≡ None → KeptAtServer s → KeptAtServer (server_state_after opened s (FrameReceived f))
unfolding server_state_after
frame_holds opened s f bytes stays h = by (is_hello f) refl
  where
    by : (b : Bool) → is_hello f ≡ b → KeptAtServer (server_state_after opened s (FrameReceived f))
    by true is =
        subst KeptAtServer (sym (ap (λ (b : Bool). cond b (with_own_hello opened s f) (with_effect s f (frame_effect s f))) is))
        (record { agree = waits_greeted opened s f h.agree; own = h.own; begun = h.begun; fit = h.fit })
    by false is = segment_holds opened s f is bytes stays h

-- ---- Each event

live_holds : (opened : LinkParameters) (place : ℕ) (s : ServerState) (e : RunEvent) → IsNext place e → ServerPlain (record { state = s; ended = None }) e → server_end opened s e ≡ None → KeptAtServer s → KeptAtServer (server_state_after opened s e)
unfolding server_state_after
live_holds opened place s (FrameReceived f) next good stays h = frame_holds opened s f next.2 stays h
live_holds opened place s (CallSubmitted p a) next good stays h = h
live_holds opened place s (MemoryRevoked p xid) next good stays h = h
live_holds opened place s (CallExecuted e) next good stays h = record {
  agree = pending_agree_executes opened s e good.call good.others h.agree good.is_next good.xid;
  own = own_executed s.reads (λ (c : PendingCall). not (eqb c.xid e.xid)) s.calls h.own;
  begun = h.begun;
  fit = each_kept CallFits (λ (c : PendingCall). not (eqb c.xid e.xid)) s.calls h.fit;
}
live_holds opened place s (QueueWritten taken) next good stays h = record {
  agree = pending_agree_same s (server_state_after opened s (QueueWritten taken)) h.agree refl refl refl (omega arith);
  own = h.own;
  begun = h.begun;
  fit = h.fit;
}
live_holds opened place s (ServerTold what) next good stays h = record {
  agree = pending_agree_same s (server_state_after opened s (ServerTold what)) h.agree refl refl refl (omega arith);
  own = h.own;
  begun = h.begun;
  fit = h.fit;
}

next_holds : (opened : LinkParameters) (place : ℕ) (s : ServerState) (ended : Option End) (e : RunEvent) → IsNext place e → ServerPlain (record { state = s; ended = ended }) e → KeptAtServer s → KeptAtServer (next_end_state_in (server_rules opened) s e ended).state
next_holds opened place s (Some end) e next good h = h
next_holds opened place s None e next good h = by (server_end opened s e) refl
  where
    by : (o : Option End) → server_end opened s e ≡ o → KeptAtServer (next_end_state_by (server_rules opened) s e o).state
    by None stays = live_holds opened place s e next good stays h
    by (Some end) stays = h

holds_along : (opened : LinkParameters) (place : ℕ) (r : EndState ServerState) (es : List RunEvent) → GoesOn (server_rules opened) ServerPlain place r es → KeptAtServer r.state → KeptAtServer (end_state_after (server_rules opened) r es).state
holds_along opened place r [] g h = h
holds_along opened place r (e ∷ es) g h = holds_along opened (place_after place e) (next_end_state (server_rules opened) r e) es g.2 (next_holds opened place r.state r.ended e g.0 g.1 h)

-- ---- A run

initial_holds : (opened : LinkParameters) → KeptAtServer (initial_server opened).state
initial_holds opened = record {
  agree = record { numbers = tt; xids = tt; calls_below = tt; reads_below = tt; ready_apart = tt; ready_calls = tt; whole_calls = tt };
  own = tt;
  begun = λ i. omega arith;
  fit = tt;
}

-- after the first events of a run
pub kept_at_server : (opened : LinkParameters) (link : ℕ) (run : List Mark) → IsTyped run → ServedSoFar opened link run → (es more : List RunEvent) → events link Responder run ≡ es ++ more → KeptAtServer (server_by opened es)
kept_at_server opened link run typed served es more is =
    let g = server_goes opened link run typed served in
    holds_along opened 0 (initial_server opened) es
    (first_preserve (server_rules opened) ServerPlain 0 (initial_server opened) es more (subst (λ (xs : List RunEvent). GoesOn (server_rules opened) ServerPlain 0 (initial_server opened) xs) is g.goes))
    (initial_holds opened)
