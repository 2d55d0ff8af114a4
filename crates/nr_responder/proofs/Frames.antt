-- A frame that ends a responder for the rules of the link, and the client's hello.
use Rattle.std.proofs.Common.{◌≡◌, ◌≢◌, ℕ, ◌+◌, ◌<◌, ◌≤◌, Bool, true, false, eqb, cond, List, [], ◌++◌, length, take, drop, Option, Some, None, Result, Ok, Err, refl, sym, ap, subst, ◌∙◌, arith, inl, inr, is_some}
use Rattle.std.specs.Prelude.{◌⊎◌, IfSome, map}
use Rattle.std.proofs.lemmas.Bool.{ne_eqb, eq-eqb, lt-ltb}
use Rattle.nr_wire.specs.declared.hello.Side.{Side}
use Rattle.nr_wire.specs.declared.hello.Side.TheVariants.{Initiator, Responder}
use Rattle.nr_wire.specs.declared.stream.Awaited.{Awaited}
use Rattle.nr_wire.specs.declared.stream.Awaited.TheVariants.{Hello as HelloFrom, Fpdu}
use Rattle.nr_wire.specs.Constants.{HELLO_LEN, REASON_FLAGS}
use Rattle.nr_wire.specs.Hello.{Hello, hello_of, hello_reason, flags_of, value_unless}
use Rattle.nr_wire.specs.Segment.{Segment}
use Rattle.nr_link.specs.declared.end.End.{End}
use Rattle.nr_link.specs.declared.end.End.TheVariants as ends
use Rattle.nr_link.specs.Frames.{Frame}
use Rattle.nr_link.specs.Input.{InputState}
use Rattle.nr_link.specs.Output.{terminate_message}
use Rattle.nr_link.specs.declared.agreement.SideTerms.{SideTerms}
use Rattle.nr_link.specs.declared.agreement.Agreement.{Agreement}
use Rattle.nr_link.specs.Agreement.{IsSendLimit}
use Rattle.nr_link.proofs.Agreements.{agreements_bounded}
use Rattle.nr_reduce.specs.Hellos.{private_of, server_private, server_hello, server_agreement}
use Rattle.nr_link.specs.Ending.{final_output, frame_end, hello_end, last_output}
use Rattle.nr_endpoint.specs.SendQueue.{with_end, with_hello, writable}
use Rattle.nr_endpoint.specs.LinkState.{LinkState, LinkSide}
use Rattle.nr_endpoint.specs.Judging.{segment_end, next_frame, next_segment, with_frame, with_fpdu, with_peer_hello, with_segment_by, with_end_of, reply_hello, with_other_sizes}
use Rattle.nr_endpoint.specs.Hellos.{own_private, side_agreement, received_max, receive_length_for}
use Rattle.nr_endpoint.specs.Laws.{IsFrameEnd, IsFrameReason}
use Rattle.nr_endpoint.proofs.EndLaws.{effect_ended, frames_end_for_these}
use Rattle.nr_endpoint.proofs.HellosFrom.{hello_from}
use Rattle.nr_endpoint.proofs.Agreed.{agreed_fits}
use Rattle.nr_reduce.specs.declared.mark.LinkParameters.{LinkParameters}
use Rattle.nr_reduce.specs.OfferedRegions.{region_grants}
use Rattle.nr_reduce.specs.Events.RunEvent.{FrameReceived}
use Rattle.nr_reduce.specs.EndRules.{EndState, live, next_end_state, next_end_state_by, output_for, output_for_by}
use Rattle.nr_reduce.specs.ServerState.{ReadyCall, ServerState}
use Rattle.nr_reduce.specs.Server.{server_rules, server_end, with_own_hello, or_refusal, server_readiness}
use Rattle.nr_reduce.proofs.MemorySteps.{holds_later, received_later, offered_later}
use Rattle.nr_responder.specs.Granting.{grant_of}
use Rattle.nr_responder.specs.ResponderState.{ResponderSide, queue, queued_bytes}
use Rattle.nr_responder.specs.Keeping.{IsServer, Begins, LinkKeeps, QueueKeeps, Keeps, KeepsAgreed, KeepsEnd}
use Rattle.nr_responder.specs.Keeping.Begins.{BeforeHello, AfterHello}
use Rattle.nr_responder.specs.private.Handling.{on_link}
use Rattle.nr_responder.proofs.FrameEnds.{frame_ends}
use Rattle.nr_responder.proofs.Queues.{last_queue, greeted_has, sendable_ended}

-- ---- What is to show of a frame

-- the input after a frame
abbrev pub behind : InputState → List ℕ → InputState
behind input frame = record { awaited = Fpdu; rest = []; place = input.place + length frame }

-- A frame was taken: after it the responder keeps the server after it, and has queued what is due for it.
pub record TakesFrame (opened : LinkParameters) (k : ServerState) (later : InputState) (f : Frame) (before after : ResponderSide) : Type 0 where
  pub keeps : KeepsEnd opened (next_end_state (server_rules opened) (live k) (FrameReceived f)) later after
  pub output : queue after ≡ queue before ++ output_for (server_rules opened) (live k) (FrameReceived f)

-- ---- A frame that ends the side

ended_by_lem : (s : LinkState) (f : Frame) (segment : Segment) (e : Option End) (end : End) → s.ended ≡ None → (with_segment_by f segment e s).ended ≡ Some end → with_segment_by f segment e s ≡ with_end_of end s
ended_by_lem s f segment None end live is = absurd (let h : None ≡ Some end = sym live ∙ (sym (effect_ended s segment) ∙ is) in cc)
ended_by_lem s f segment (Some other) end live is = ap (λ (e : End). with_end_of e s) (let h : other ≡ end = cc in h)

ended_fpdu : (s : LinkState) (f : Frame) (r : Result Segment ℕ) (end : End) → s.ended ≡ None → (with_fpdu f r s).ended ≡ Some end → with_fpdu f r s ≡ with_end_of end s
unfolding with_fpdu
ended_fpdu s f (Ok segment) end live is = ended_by_lem s f segment (segment_end s f segment) end live is
ended_fpdu s f (Err reason) end live is = ap (λ (e : End). with_end_of e s) (let h : ends.Bad f.at reason ≡ end = cc in h)

ended_hello : (s : LinkState) (f : Frame) (r : Result Hello ℕ) (end : End) → s.ended ≡ None → (with_peer_hello f r s).ended ≡ Some end → with_peer_hello f r s ≡ with_end_of end s
unfolding with_peer_hello
ended_hello s f (Ok hello) end live is = absurd (let h : None ≡ Some end = sym live ∙ is in cc)
ended_hello s f (Err reason) end live is = ap (λ (e : End). with_end_of e s) (let h : ends.Bad f.at reason ≡ end = cc in h)

-- a frame that ends a side, which may be one that agrees on other lengths of Sends than an earlier link
pub frame_ended : (s : LinkState) (a : Awaited) (frame : List ℕ) (end : End) → s.ended ≡ None → (with_frame s a frame).ended ≡ Some end →
    (with_frame s a frame ≡ with_end_of end s) ⊎ (with_frame s a frame ≡ with_other_sizes (next_frame s frame) s)
frame_ended s (HelloFrom side) frame end live =
    hello_from (λ t. t.ended ≡ Some end → (t ≡ with_end_of end s) ⊎ (t ≡ with_other_sizes (next_frame s frame) s)) side (next_frame s frame) (hello_of side frame) s
    (λ is. inl (ended_hello s (next_frame s frame) (hello_of side frame) end live is)) (λ is. inr refl)
frame_ended s Fpdu frame end live = λ is. inl (ended_fpdu s (next_frame s frame) (next_segment s frame) end live is)

-- a side that awaits an initiator's hello, or an FPDU
ended_frame : (l : LinkSide) (frame : List ℕ) (end : End) → Begins l → l.state.ended ≡ None → (with_frame l.state l.awaited frame).ended ≡ Some end → with_frame l.state l.awaited frame ≡ with_end_of end l.state
ended_frame l frame end (BeforeHello place awaited hello none) live is =
    subst (λ (a : Awaited). (with_frame l.state a frame).ended ≡ Some end → with_frame l.state a frame ≡ with_end_of end l.state) (sym awaited)
    (λ ended. ended_hello l.state (next_frame l.state frame) (hello_of Initiator frame) end live ended) is
ended_frame l frame end (AfterHello place awaited hello) live is =
    subst (λ (a : Awaited). (with_frame l.state a frame).ended ≡ Some end → with_frame l.state a frame ≡ with_end_of end l.state) (sym awaited)
    (λ ended. ended_fpdu l.state (next_frame l.state frame) (next_segment l.state frame) end live ended) is

no_flags : (place at : ℕ) (end : End) → IsFrameEnd Fpdu place end → end ≢ ends.Bad at REASON_FLAGS
no_flags place at (ends.Bad other reason) h is = by h.1
  where
    same : reason ≡ REASON_FLAGS
    same = cc

    by : IsFrameReason Fpdu reason → ⊥
    by (inl range) = (let low = range.0 in omega (arith, low, same))
    by (inr long) = omega (arith, long, same)
no_flags place at (ends.Denied stag offset why) h is = absurd cc
no_flags place at (ends.NoBuffer msn) h is = absurd cc
no_flags place at (ends.Terminated reason) h is = absurd cc
no_flags place at ends.Memory h is = absurd cc

-- a hello is refused before any FPDU is queued
flags_first : (l : LinkSide) (frame : List ℕ) (end : End) → l.state.ended ≡ None → Begins l → (with_frame l.state l.awaited frame).ended ≡ Some end → (at : ℕ) → end ≡ ends.Bad at REASON_FLAGS → l.state.send_queue.fpdus ≡ []
flags_first l frame end live (BeforeHello place awaited hello none) ended at is = none
flags_first l frame end live (AfterHello place awaited hello) ended at is =
    let ends : IfSome (with_frame l.state l.awaited frame).ended (IsFrameEnd l.awaited l.state.place) = frames_end_for_these l.state l.awaited frame live in
    let end_is : IsFrameEnd l.awaited l.state.place end = subst (λ (e : Option End). IfSome e (IsFrameEnd l.awaited l.state.place)) ended ends in
    let fpdu : IsFrameEnd Fpdu l.state.place end = subst (λ (a : Awaited). IsFrameEnd a l.state.place end) awaited end_is in
    absurd (no_flags l.state.place at end fpdu is)

-- what a hello ends the side with is no FPDU
no_final : (place : ℕ) (end : End) → IsFrameEnd (HelloFrom Initiator) place end → final_output end ≡ []
unfolding final_output
no_final place (ends.Bad at reason) h = ap (λ (b : Bool). cond b [] (terminate_message reason)) (lt-ltb reason 5 (let few = h.1.1 in omega (arith, few)))
no_final place (ends.Denied stag offset why) h = absurd cc
no_final place (ends.NoBuffer msn) h = absurd cc
no_final place (ends.Terminated reason) h = refl
no_final place ends.Memory h = refl

first_end : (l : LinkSide) (frame : List ℕ) (end : End) → l.state.ended ≡ None → Begins l → (with_frame l.state l.awaited frame).ended ≡ Some end → l.state.has_hello ≡ false → (l.state.send_queue.fpdus ≡ []) × (final_output end ≡ [])
first_end l frame end live (BeforeHello place awaited hello none) ended greeted =
    let ends : IfSome (with_frame l.state l.awaited frame).ended (IsFrameEnd l.awaited l.state.place) = frames_end_for_these l.state l.awaited frame live in
    let end_is : IsFrameEnd l.awaited l.state.place end = subst (λ (e : Option End). IfSome e (IsFrameEnd l.awaited l.state.place)) ended ends in
    (none, no_final l.state.place end (subst (λ (a : Awaited). IsFrameEnd a l.state.place end) awaited end_is))
first_end l frame end live (AfterHello place awaited hello) ended greeted = absurd (let two : true ≡ false = sym hello ∙ greeted in cc)

-- why the frame ends the server
by_end_lem : (k : ServerState) (f : Frame) (e : Option End) (end : End) → e ≡ Some end → or_refusal k f e ≡ Some end
by_end_lem k f e end is = ap (or_refusal k f) is

at_start_lem : (n : ℕ) → n ≡ 0 → eqb n 0 ≡ true
at_start_lem n is = eq-eqb n 0 is

pub later_frame : (n : ℕ) → 0 < n → eqb n 0 ≡ false
later_frame n some = ne_eqb n 0 (λ e. omega (arith, e, some))

hello_ended : (s : LinkState) (f : Frame) (r : Result Hello ℕ) → f.at ≡ 0 → s.ended ≡ None → (with_peer_hello f r s).ended ≡ hello_end r
unfolding with_peer_hello
hello_ended s f (Ok hello) at live = live
hello_ended s f (Err reason) at live = ap (λ (n : ℕ). Some (ends.Bad n reason)) at

pub server_ends : (opened : LinkParameters) (k : ServerState) (l : LinkSide) (frame : List ℕ) (end : End) → LinkKeeps opened k l.state → IsServer k l.state.place → Begins l → 0 < length frame →
    (with_frame l.state l.awaited frame).ended ≡ Some end → server_end opened k (FrameReceived (next_frame l.state frame)) ≡ Some end
unfolding server_end
server_ends opened k l frame end h is (BeforeHello place awaited hello none) some ended =
    let f : Frame = next_frame l.state frame in
    let as_hello : (with_frame l.state (HelloFrom Initiator) frame).ended ≡ Some end = subst (λ (a : Awaited). (with_frame l.state a frame).ended ≡ Some end) awaited ended in
    ap (λ (b : Bool). cond b (hello_end (hello_of Initiator frame)) (or_refusal k f (frame_end (server_readiness opened k) (region_grants f.end k.regions) f))) (at_start_lem l.state.place place)
    ∙ sym (hello_ended l.state f (hello_of Initiator frame) place h.live) ∙ as_hello
server_ends opened k l frame end h is (AfterHello place awaited hello) some ended =
    let f : Frame = next_frame l.state frame in
    let as_fpdu : (with_frame l.state Fpdu frame).ended ≡ Some end = subst (λ (a : Awaited). (with_frame l.state a frame).ended ≡ Some end) awaited ended in
    ap (λ (b : Bool). cond b (hello_end (hello_of Initiator frame)) (or_refusal k f (frame_end (server_readiness opened k) (region_grants f.end k.regions) f))) (later_frame l.state.place place)
    ∙ by_end_lem k f (frame_end (server_readiness opened k) (region_grants f.end k.regions) f) end (sym (frame_ends opened k l.state frame h is some) ∙ as_fpdu)

-- what is agreed is what the server has agreed on
pub keeps_agreed : (opened : LinkParameters) (k : ServerState) (s : LinkState) (place : ℕ) → LinkKeeps opened k s → IsServer k place → KeepsAgreed k s.agreed
keeps_agreed opened k s place h is = record { up = h.up; down = h.down; invalidates = h.invalidates; up_limit = subst IsSendLimit (sym h.up) is.up; down_limit = subst IsSendLimit (sym h.down) is.down }

pub ended_takes : (opened : LinkParameters) (k : ServerState) (input later : InputState) (v : ResponderSide) (frame : List ℕ) (end : End) → Keeps opened k input v → 0 < length frame →
    (with_frame v.link.state v.link.awaited frame).ended ≡ Some end →
    TakesFrame opened k later (next_frame v.link.state frame) v (on_link v (record { awaited = Fpdu; rest = []; state = with_frame v.link.state v.link.awaited frame }))
ended_takes opened k input later v frame end h some ended =
    let s : LinkState = v.link.state in
    let f : Frame = next_frame s frame in
    let why : server_end opened k (FrameReceived f) ≡ Some end = server_ends opened k v.link frame end h.link h.server h.begins some ended in
    let state : with_frame s v.link.awaited frame ≡ with_end_of end s = ended_frame v.link frame end h.begins h.link.live ended in
    let next : next_end_state (server_rules opened) (live k) (FrameReceived f) ≡ record { state = k; ended = Some end } = ap (λ (e : Option End). next_end_state_by (server_rules opened) k (FrameReceived f) e) why in
    let due : output_for (server_rules opened) (live k) (FrameReceived f) ≡ last_output Responder end = ap (λ (e : Option End). output_for_by (server_rules opened) k (FrameReceived f) e) why in
    let last : queued_bytes (with_end s.side end s.send_queue) ≡ queued_bytes s.send_queue ++ last_output Responder end =
    ap (λ (side : Side). queued_bytes (with_end side end s.send_queue)) h.link.side ∙ last_queue end s.send_queue (flags_first v.link frame end h.link.live h.begins ended) in
    record {
      keeps = inr (record {
        over = ap (λ (e : EndState ServerState). is_some e.ended) next;
        why = ended ∙ sym (ap (λ (e : EndState ServerState). e.ended) next);
        calls = h.calls ∙ sym (ap (λ (e : EndState ServerState). e.state.calls) next);
        ready = h.ready ∙ sym (ap (λ (e : EndState ServerState). map (λ (r : ReadyCall). r.xid) e.state.ready) next);
        credits = h.credits ∙ sym (ap (λ (e : EndState ServerState). grant_of e.state) next);
        agreed =
            subst (λ (e : EndState ServerState). KeepsAgreed e.state (with_frame s v.link.awaited frame).agreed) (sym next)
            (subst (λ (t : LinkState). KeepsAgreed k t.agreed) (sym state) (keeps_agreed opened k s s.place h.link h.server));
        sendable =
            ap (λ (t : LinkState). writable t.has_hello t.send_queue) state
            ∙ ap (λ (x : Side). writable s.has_hello (with_end x end s.send_queue)) h.link.side
            ∙ sendable_ended s.has_hello end s.send_queue (first_end v.link frame end h.link.live h.begins ended)
            ∙ sym (ap (λ (x : Side). queued_bytes (with_end x end s.send_queue)) h.link.side)
            ∙ sym (ap (λ (t : LinkState). queued_bytes t.send_queue) state);
      });
      output = ap (λ (t : LinkState). queued_bytes t.send_queue) state ∙ last ∙ ap (λ (bytes : List ℕ). queued_bytes s.send_queue ++ bytes) (sym due);
    }

-- ---- The hello

-- the private data of a hello that is accepted
hello_private_by : (side : Side) (frame : List ℕ) (hello : Hello) (o : Option ℕ) → value_unless o (record { side = side; flags = flags_of frame; private = drop HELLO_LEN frame }) ≡ Ok hello → hello.private ≡ drop HELLO_LEN frame
hello_private_by side frame hello None is =
    let same : ◌≡◌ {A = Hello} (record { side = side; flags = flags_of frame; private = drop HELLO_LEN frame }) hello = cc in
    ap (λ (h : Hello). h.private) (sym same)
hello_private_by side frame hello (Some reason) is = absurd cc

pub hello_private : (side : Side) (frame : List ℕ) (hello : Hello) → hello_of side frame ≡ Ok hello → hello.private ≡ drop HELLO_LEN frame
unfolding hello_of
hello_private side frame hello is = hello_private_by side frame hello (hello_reason side (take HELLO_LEN frame)) is

-- the private data of the hello with which a responder answers
abbrev pub replied : LinkState → Hello → List ℕ
replied s hello = own_private s.terms s.side hello.private

pub replied_is : (opened : LinkParameters) (s : LinkState) (frame : List ℕ) (hello : Hello) → s.terms ≡ opened.server → s.side ≡ Responder → hello_of Initiator frame ≡ Ok hello → replied s hello ≡ server_private opened (next_frame s frame)
replied_is opened s frame hello terms side reads = λ i. own_private (terms i) (side i) (hello_private Initiator frame hello reads i)

-- its hello
pub reply_is : (opened : LinkParameters) (s : LinkState) (frame : List ℕ) (hello : Hello) → s.terms ≡ opened.server → s.side ≡ Responder → hello_of Initiator frame ≡ Ok hello → reply_hello s.side (replied s hello) ≡ server_hello opened (next_frame s frame)
unfolding server_hello
reply_is opened s frame hello terms side reads = λ i. reply_hello (side i) (replied_is opened s frame hello terms side reads i)

-- what is agreed then
agreed_is : (opened : LinkParameters) (s : LinkState) (frame : List ℕ) (hello : Hello) → s.terms ≡ opened.server → s.side ≡ Responder → hello_of Initiator frame ≡ Ok hello →
    side_agreement s.side (replied s hello) hello.private ≡ server_agreement opened (next_frame s frame)
unfolding server_agreement
agreed_is opened s frame hello terms side reads = λ i. side_agreement (side i) (replied_is opened s frame hello terms side reads i) (hello_private Initiator frame hello reads i)

-- and how long a Send of the client may be, which fits its receive
received_is : (opened : LinkParameters) (s : LinkState) (frame : List ℕ) (hello : Hello) → s.terms ≡ opened.server → s.side ≡ Responder → hello_of Initiator frame ≡ Ok hello →
    received_max s.side (side_agreement s.side (replied s hello) hello.private) ≡ (server_agreement opened (next_frame s frame)).up
received_is opened s frame hello terms side reads = λ i. received_max (side i) (agreed_is opened s frame hello terms side reads i)

pub hello_link : (opened : LinkParameters) (k : ServerState) (s : LinkState) (frame : List ℕ) (hello : Hello) → hello_of Initiator frame ≡ Ok hello → LinkKeeps opened k s → IsServer k s.place → k.message_ends ≡ [] →
    LinkKeeps opened (with_own_hello opened k (next_frame s frame)) (with_peer_hello (next_frame s frame) (Ok hello) s)
unfolding with_peer_hello
hello_link opened k s frame hello reads h is none =
    let f : Frame = next_frame s frame in
    let agreed = agreed_is opened s frame hello h.terms h.side reads in
    let most = received_is opened s frame hello h.terms h.side reads in
    let fits : received_max s.side (side_agreement s.side (replied s hello) hello.private) ≤ receive_length_for opened.server =
    subst (λ (t : SideTerms). received_max s.side (side_agreement s.side (replied s hello) hello.private) ≤ receive_length_for t) h.terms (agreed_fits s.terms s.side hello.private) in
    record {
      live = h.live;
      side = h.side;
      received = h.received;
      receive_length = h.receive_length;
      message_max = most;
      fits = subst (λ (n : ℕ). n ≤ receive_length_for opened.server) most fits;
      terms = h.terms;
      up = ap (λ (a : Agreement). a.up) agreed;
      down = ap (λ (a : Agreement). a.down) agreed;
      invalidates = ap (λ (a : Agreement). a.invalidates) agreed;
      free = h.free;
      lent = h.lent;
      told = h.told;
      reads = h.reads;
      memory = holds_later k.regions k.accesses_received s.place (s.place + length frame) s.memory (omega arith) is.accesses h.memory;
      none_dead = h.none_dead;
      next = h.next;
      queue =
          subst (λ (bytes : List ℕ). QueueKeeps (with_own_hello opened k f) (with_hello bytes s.send_queue)) (sym (reply_is opened s frame hello h.terms h.side reads))
          (greeted_has k.written k.due k.messages_queued k.requests_sent k.message_ends (server_hello opened f) s.send_queue none h.queue);
    }

pub server_later : (k : ServerState) (place later : ℕ) → place ≤ later → IsServer k place → IsServer k later
server_later k place later le is = record {
  offered = offered_later place later k.regions le is.offered;
  accesses = received_later place later k.accesses_received le is.accesses;
  numbered = is.numbered;
  sinks = is.sinks;
  calls_before = is.calls_before;
  reads_before = is.reads_before;
  regions_before = is.regions_before;
  closed = is.closed;
  numbers = is.numbers;
  xids = is.xids;
  ready_xids = is.ready_xids;
  ready = is.ready;
  idle = is.idle;
  up = is.up;
  down = is.down;
}

-- its hello is due, and both sides have agreed
pub own_hello_server : (opened : LinkParameters) (k : ServerState) (f : Frame) (place : ℕ) → IsServer k place → IsServer (with_own_hello opened k f) place
unfolding server_agreement
own_hello_server opened k f place is = record {
  offered = is.offered;
  accesses = is.accesses;
  numbered = is.numbered;
  sinks = is.sinks;
  calls_before = is.calls_before;
  reads_before = is.reads_before;
  regions_before = is.regions_before;
  closed = is.closed;
  numbers = is.numbers;
  xids = is.xids;
  ready_xids = is.ready_xids;
  ready = is.ready;
  idle = is.idle;
  up = (agreements_bounded (private_of f) (server_private opened f)).0;
  down = (agreements_bounded (private_of f) (server_private opened f)).1;
}
