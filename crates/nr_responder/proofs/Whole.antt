-- A complete frame with a segment of a Send at a responder: a part of a message, and a message whose call is ready at once, is refused by an
-- error message, or ends the link.
use Rattle.std.proofs.Common.{◌≡◌, ℕ, ◌+◌, ◌-◌, ◌<◌, ◌≤◌, Bool, true, false, not, cond, List, [], ◌∷◌, ◌++◌, length, Option, Some, None, Ok, refl, sym, ap, subst, ◌∙◌, arith, inl, inr, is_some, length-append}
use Rattle.std.specs.Prelude.{map}
use Rattle.std.specs.List.{AllByRecursion}
use Rattle.std.proofs.lemmas.List.{append-nil, map-append}
use Rattle.nr_wire.specs.declared.stream.Awaited.TheVariants.{Fpdu}
use Rattle.nr_wire.specs.Constants.{OPCODE_SEND}
use Rattle.nr_wire.specs.Hello.{hello_of}
use Rattle.nr_wire.specs.declared.hello.Side.{Side}
use Rattle.nr_wire.specs.declared.hello.Side.TheVariants.{Initiator, Responder}
use Rattle.nr_wire.specs.Segment.{Segment}
use Rattle.nr_wire.specs.Segment.Segment.{Untagged}
use Rattle.nr_header.specs.declared.header.RdmaSegment.{RdmaSegment}
use Rattle.nr_rpc.specs.declared.head.CallHead.{CallHead}
use Rattle.nr_rpc.specs.Reading.{call_of, head_xid}
use Rattle.nr_link.specs.declared.end.End.{End}
use Rattle.nr_link.specs.declared.end.End.TheVariants as ends
use Rattle.nr_endpoint.specs.Hellos.{receive_length_for}
use Rattle.nr_link.specs.Frames.{Frame, is_hello}
use Rattle.nr_link.specs.Input.{InputState}
use Rattle.nr_link.specs.ReceiveState.{ReceiveState, begun_bytes, send_continued, received_after}
use Rattle.nr_link.specs.KeptSends.{begun_within, received_within}
use Rattle.nr_link.specs.SegmentFaults.{is_begun}
use Rattle.nr_link.proofs.BegunSends.{kept_len_lem}
use Rattle.nr_wire.specs.Constants.{REASON_FLAGS}
use Rattle.nr_link.specs.Output.{send}
use Rattle.nr_reduce.specs.Hellos.{server_hello}
use Rattle.nr_link.specs.Ending.{segment_taken, frame_end, frame_segment, hello_end, last_output}
use Rattle.nr_endpoint.specs.ReceiveQueue.{DeliveredEvent, delivered}
use Rattle.nr_endpoint.specs.ReceiveQueue.DeliveredEvent.{MessageReceived}
use Rattle.nr_endpoint.specs.SegmentEnds.{SendIsFine, send_len}
use Rattle.nr_endpoint.specs.LinkState.{LinkState, LinkSide}
use Rattle.nr_endpoint.specs.Judging.{segment_end, next_frame, with_frame, with_end_of}
use Rattle.nr_endpoint.specs.SendQueue.{with_end, writable, send_output}
use Rattle.nr_endpoint.proofs.Alive.{alive_send}
use Rattle.nr_reduce.specs.declared.mark.LinkParameters.{LinkParameters}
use Rattle.nr_reduce.specs.OfferedRegions.{region_grants}
use Rattle.nr_reduce.specs.Events.RunEvent.{FrameReceived}
use Rattle.nr_reduce.specs.EndRules.{EndState, live, next_end_state, next_end_state_by, output_for, output_for_by}
use Rattle.nr_reduce.specs.ServerState.{PendingCall, ReadyCall, ServerState, is_pending}
use Rattle.nr_reduce.specs.ServerReads.{is_over}
use Rattle.nr_reduce.specs.ServerMessages.{verdict}
use Rattle.nr_reduce.specs.ServerMessages.Verdict.{MakesPending}
use Rattle.nr_reduce.specs.ServerFrames.{FrameEffect, no_effect, by_message, frame_effect}
use Rattle.nr_reduce.specs.Server.{server_rules, server_end, server_output, server_state_after, with_own_hello, or_refusal, refusal_end, server_readiness, with_effect, effect_output}
use Rattle.nr_responder.specs.Granting.{grant_of}
use Rattle.nr_responder.specs.ResponderState.{ResponderSide, queued_bytes, unsent}
use Rattle.nr_responder.specs.Keeping.{IsServer, Begins, LinkKeeps, Keeps, KeepsEnd, KeepsAgreed}
use Rattle.nr_responder.specs.Keeping.Begins.{BeforeHello, AfterHello}
use Rattle.nr_responder.specs.private.Handling.{inline_call, refused_effect, on_link, with_ready}
use Rattle.nr_responder.proofs.FrameEnds.{frame_ends}
use Rattle.nr_responder.proofs.ServerSteps.{with_received, quiet, quiet_output, ready_call, inline_effect, inline_ready, effect_is, with_inline_call, ready_state, over_pushed, closed_if_over, new_is_read}
use Rattle.nr_responder.proofs.SendFrames.{framed, frame_lives, send_framed, part_framed, last_framed, part_keeps, told_keeps, part_server, told_server, message_kept, calls_later, reads_later, regions_later, payloads_told}
use Rattle.nr_reduce.proofs.MemorySteps.{received_later, offered_later}
use Rattle.nr_responder.proofs.Queues.{sent_queue, sent_has, last_queue, sendable_ended}
use Rattle.nr_responder.proofs.Executed.{with_message}
use Rattle.nr_responder.proofs.Frames.{behind, TakesFrame, later_frame, keeps_agreed}

-- ---- The server at a frame that isn't the hello

pub record At (opened : LinkParameters) (k : ServerState) (f : Frame) (e : Option End) (state : EndState ServerState) (output : List ℕ) : Type 0 where
  pub ends : server_end opened k (FrameReceived f) ≡ e
  pub next : next_end_state (server_rules opened) (live k) (FrameReceived f) ≡ state
  pub due : output_for (server_rules opened) (live k) (FrameReceived f) ≡ output

ends_by_lem : (opened : LinkParameters) (k : ServerState) (f : Frame) (s : FrameEffect) → is_hello f ≡ false → frame_end (server_readiness opened k) (region_grants f.end k.regions) f ≡ None → frame_effect k f ≡ s →
    server_end opened k (FrameReceived f) ≡ refusal_end f s.refusal
unfolding server_end
ends_by_lem opened k f s later lives effect =
    ap (λ (b : Bool). cond b (hello_end (hello_of Initiator f.bytes)) (or_refusal k f (frame_end (server_readiness opened k) (region_grants f.end k.regions) f))) later
    ∙ ap (or_refusal k f) lives
    ∙ ap (λ (t : FrameEffect). refusal_end f t.refusal) effect

pub goes_on_lem : (opened : LinkParameters) (k : ServerState) (f : Frame) (s : FrameEffect) → is_hello f ≡ false → frame_end (server_readiness opened k) (region_grants f.end k.regions) f ≡ None → frame_effect k f ≡ s → s.refusal ≡ None →
    At opened k f None (record { state = with_effect k f s; ended = None }) (effect_output k s)
unfolding server_output server_state_after
goes_on_lem opened k f s later lives effect fine =
    let none : server_end opened k (FrameReceived f) ≡ None = ends_by_lem opened k f s later lives effect ∙ ap (refusal_end f) fine in
    record {
      ends = none;
      next =
          ap (λ (e : Option End). next_end_state_by (server_rules opened) k (FrameReceived f) e) none
          ∙ ap (λ (b : Bool). live (cond b (with_own_hello opened k f) (with_effect k f (frame_effect k f)))) later
          ∙ ap (λ (t : FrameEffect). live (with_effect k f t)) effect;
      due =
          ap (λ (e : Option End). output_for_by (server_rules opened) k (FrameReceived f) e) none
          ∙ ap (λ (b : Bool). cond b (server_hello opened f) (effect_output k (frame_effect k f))) later
          ∙ ap (effect_output k) effect;
    }

-- ---- A part of a message

pub lives_on_lem : (opened : LinkParameters) (k : ServerState) (input : InputState) (v : ResponderSide) (frame : List ℕ) → Keeps opened k input v → 0 < v.link.state.place → 0 < length frame → (with_frame v.link.state Fpdu frame).ended ≡ None →
    frame_end (server_readiness opened k) (region_grants (v.link.state.place + length frame) k.regions) (next_frame v.link.state frame) ≡ None
lives_on_lem opened k input v frame h behind_hello some lives = sym (frame_ends opened k v.link.state frame h.link h.server some) ∙ lives

pub begun_behind : (l : LinkSide) (s : LinkState) → Begins l → 0 < l.state.place → s.has_hello ≡ l.state.has_hello → 0 < s.place → Begins (record { awaited = Fpdu; rest = []; state = s })
begun_behind l s (BeforeHello place awaited hello none) some same later = absurd (omega (arith, place, some))
begun_behind l s (AfterHello place awaited hello) some same later = AfterHello later refl (same ∙ hello)

pub part_takes : (opened : LinkParameters) (k : ServerState) (input : InputState) (v : ResponderSide) (frame : List ℕ) (w queue_number msn offset : ℕ) (payload : List ℕ) → Keeps opened k input v → 0 < v.link.state.place → 0 < length frame →
    segment_taken false frame ≡ Ok (Untagged false OPCODE_SEND w queue_number msn offset payload) → (with_frame v.link.state Fpdu frame).ended ≡ None →
    TakesFrame opened k (behind input frame) (next_frame v.link.state frame) v (on_link v (record { awaited = Fpdu; rest = []; state = with_frame v.link.state Fpdu frame }))
unfolding frame_segment
part_takes opened k input v frame w queue_number msn offset payload h behind_hello some is lives =
    let s : LinkState = v.link.state in
    let f : Frame = next_frame s frame in
    let segment : Segment = Untagged false OPCODE_SEND w queue_number msn offset payload in
    let both : (segment_end s f segment ≡ None) × (with_frame s Fpdu frame ≡ framed s frame segment) = frame_lives s frame segment h.link.side is lives in
    let fine : SendIsFine s false payload = (alive_send s f false OPCODE_SEND w queue_number msn offset payload refl refl (λ e. omega (arith, e)) both.0).1 in
    let later : is_hello f ≡ false = later_frame s.place behind_hello in
    let effect : frame_effect k f ≡ no_effect k = effect_is k f false OPCODE_SEND w queue_number msn offset payload is in
    let at = goes_on_lem opened k f (no_effect k) later (lives_on_lem opened k input v frame h behind_hello some lives) effect refl in
    let state : with_effect k f (no_effect k) ≡ with_received (send_continued k.received false payload) k = quiet k f false OPCODE_SEND w queue_number msn offset payload is (closed_if_over (is_over k.calls k.reads) k.regions h.server.closed) in
    let next : next_end_state (server_rules opened) (live k) (FrameReceived f) ≡ live (with_received (send_continued k.received false payload) k) = at.next ∙ ap (λ (t : ServerState). live t) state in
    let link : with_frame s Fpdu frame ≡ send_framed s frame (received_within s.receive_queue.receive_length (send_continued s.receive_queue.received false payload)) (cond (not (is_begun s.receive_queue.received.begun)) (s.receive_queue.free - 1) s.receive_queue.free) s.receive_queue.lent (s.receive_queue.deliveries ++ []) =
    both.1 ∙ part_framed s frame w queue_number msn offset payload in
    let after : LinkState = send_framed s frame (received_within s.receive_queue.receive_length (send_continued s.receive_queue.received false payload)) (cond (not (is_begun s.receive_queue.received.begun)) (s.receive_queue.free - 1) s.receive_queue.free) s.receive_queue.lent (s.receive_queue.deliveries ++ []) in
    let keeps : Keeps opened (with_received (send_continued k.received false payload) k) (behind input frame) (on_link v (record { awaited = Fpdu; rest = []; state = after })) =
    record {
      link = part_keeps opened k s frame payload h.link h.server fine.receive;
      input = record { awaited = refl; rest = refl; place = ap (λ (n : ℕ). n + length frame) h.input.place };
      begins = begun_behind v.link after h.begins behind_hello refl (omega arith);
      server = part_server k s.place (s.place + length frame) payload (omega arith) h.server;
      calls = h.calls;
      ready = h.ready;
      credits = h.credits;
      reads = h.reads;
      sinks = h.sinks;
      payloads = h.payloads;
      quiet = λ e. absurd (omega (arith, e, behind_hello));
    } in
    let kept_now : Keeps opened (with_received (send_continued k.received false payload) k) (behind input frame) (on_link v (record { awaited = Fpdu; rest = []; state = with_frame s Fpdu frame })) =
    subst (λ (t : LinkState). Keeps opened (with_received (send_continued k.received false payload) k) (behind input frame) (on_link v (record { awaited = Fpdu; rest = []; state = t }))) (sym link) keeps in
    record {
      keeps = subst (λ (e : EndState ServerState). KeepsEnd opened e (behind input frame) (on_link v (record { awaited = Fpdu; rest = []; state = with_frame s Fpdu frame }))) (sym next) (inl (refl, kept_now));
      output = ap (λ (t : LinkState). queued_bytes t.send_queue) link ∙ sym (append-nil (queued_bytes s.send_queue)) ∙ ap (λ (bytes : List ℕ). queued_bytes s.send_queue ++ bytes) (sym (at.due ∙ quiet_output k));
    }

-- ---- A message whose call is ready at once

-- the side after the frame, once it delivered the message
abbrev pub told_link : LinkState → List ℕ → LinkState
told_link s frame = record (with_frame s Fpdu frame) { receive_queue = delivered (with_frame s Fpdu frame).receive_queue }

-- the message that the frame completes
abbrev pub whole_message : LinkState → List ℕ → List ℕ
whole_message s payload = begun_bytes s.receive_queue.received.begun ++ payload

pub same_message : (opened : LinkParameters) (k : ServerState) (s : LinkState) (payload : List ℕ) → LinkKeeps opened k s → send_len s payload ≤ s.message_max → whole_message s payload ≡ begun_bytes k.received.begun ++ payload
same_message opened k s payload h fits =
    let n : ℕ = receive_length_for opened.server in
    let same : begun_bytes s.receive_queue.received.begun ≡ begun_bytes (begun_within n k.received.begun) = ap (λ (r : ReceiveState). begun_bytes r.begun) h.received in
    let count : length (begun_bytes (begun_within n k.received.begun)) ≡ length (begun_bytes k.received.begun) = by n k.received.begun in
    let short : length (begun_bytes k.received.begun) ≤ n = omega (arith, fits, h.message_max, h.fits, ap (λ (xs : List ℕ). length xs) same, count) in
    ap (λ (xs : List ℕ). xs ++ payload) same ∙ message_kept n k.received.begun payload short
  where
    by : (n : ℕ) (b : Option (List ℕ)) → length (begun_bytes (begun_within n b)) ≡ length (begun_bytes b)
    by n None = refl
    by n (Some bytes) = kept_len_lem n bytes

pub told_framed : (opened : LinkParameters) (k : ServerState) (s : LinkState) (frame : List ℕ) (w queue_number msn offset : ℕ) (payload : List ℕ) → LinkKeeps opened k s →
    with_frame s Fpdu frame ≡ framed s frame (Untagged true OPCODE_SEND w queue_number msn offset payload) →
    told_link s frame
    ≡ send_framed s frame (record { sends = s.receive_queue.received.sends + 1; begun = None; requests = s.receive_queue.received.requests }) (cond (not (is_begun s.receive_queue.received.begun)) (s.receive_queue.free - 1) s.receive_queue.free) (s.receive_queue.lent + 1) []
told_framed opened k s frame w queue_number msn offset payload h is =
    let received : ReceiveState = record { sends = s.receive_queue.received.sends + 1; begun = None; requests = s.receive_queue.received.requests } in
    let free : ℕ = cond (not (is_begun s.receive_queue.received.begun)) (s.receive_queue.free - 1) s.receive_queue.free in
    ap (λ (t : LinkState). record t { receive_queue = delivered t.receive_queue }) (is ∙ last_framed s frame w queue_number msn offset payload)
    ∙ ap (λ (deliveries : List DeliveredEvent). record (send_framed s frame received free s.receive_queue.lent deliveries) { receive_queue = delivered (record { receives = s.receive_queue.receives; receive_length = s.receive_queue.receive_length; received = received; free = free; lent = s.receive_queue.lent; deliveries = deliveries }) })
    (ap (λ (deliveries : List DeliveredEvent). deliveries ++ MessageReceived (s.receive_queue.received.sends + 1) None (whole_message s payload) ∷ []) h.told)

pub ready_takes : (opened : LinkParameters) (k : ServerState) (input : InputState) (v : ResponderSide) (frame : List ℕ) (w queue_number msn offset : ℕ) (payload : List ℕ)
    (xid : ℕ) (write : List (List RdmaSegment)) (reply : Option (List RdmaSegment)) (stream : List ℕ) (head : CallHead) → Keeps opened k input v → 0 < v.link.state.place → 0 < length frame →
    segment_taken false frame ≡ Ok (Untagged true OPCODE_SEND w queue_number msn offset payload) → (with_frame v.link.state Fpdu frame).ended ≡ None →
    is_pending k xid ≡ false → verdict k (whole_message v.link.state payload) ≡ MakesPending (inline_call k xid write reply stream) → call_of stream ≡ Ok head → head_xid head ≡ xid →
    TakesFrame opened k (behind input frame) (next_frame v.link.state frame) v (with_ready v (record { awaited = Fpdu; rest = []; state = told_link v.link.state frame }) (inline_call k xid write reply stream))
unfolding frame_segment
ready_takes opened k input v frame w queue_number msn offset payload xid write reply stream head h behind_hello some is lives new judged reads own =
    let s : LinkState = v.link.state in
    let f : Frame = next_frame s frame in
    let c : PendingCall = inline_call k xid write reply stream in
    let segment : Segment = Untagged true OPCODE_SEND w queue_number msn offset payload in
    let received : ReceiveState = record { sends = k.received.sends + 1; begun = None; requests = k.received.requests } in
    let k' : ServerState = with_inline_call k received c stream in
    let both : (segment_end s f segment ≡ None) × (with_frame s Fpdu frame ≡ framed s frame segment) = frame_lives s frame segment h.link.side is lives in
    let fine : SendIsFine s true payload = (alive_send s f true OPCODE_SEND w queue_number msn offset payload refl refl (λ e. omega (arith, e)) both.0).1 in
    let later : is_hello f ≡ false = later_frame s.place behind_hello in
    let message : verdict k (begun_bytes k.received.begun ++ payload) ≡ MakesPending c = ap (verdict k) (sym (same_message opened k s payload h.link (fine.fits refl))) ∙ judged in
    let effect : frame_effect k f ≡ inline_effect k c stream =
    effect_is k f true OPCODE_SEND w queue_number msn offset payload is
    ∙ inline_ready k f (begun_bytes k.received.begun ++ payload) xid write reply stream head (new_is_read k h.server.reads_before) message reads own in
    let at = goes_on_lem opened k f (inline_effect k c stream) later (lives_on_lem opened k input v frame h behind_hello some lives) effect refl in
    let closed = over_pushed k.calls c k.reads k.received.sends k.regions refl h.server.regions_before h.server.closed in
    let state : with_effect k f (inline_effect k c stream) ≡ k' = ready_state k f true OPCODE_SEND w queue_number msn offset payload c stream is (closed_if_over (is_over (k.calls ++ c ∷ []) k.reads) k.regions closed) in
    let next : next_end_state (server_rules opened) (live k) (FrameReceived f) ≡ live k' = at.next ∙ ap (λ (t : ServerState). live t) state in
    let after : LinkState = send_framed s frame (record { sends = s.receive_queue.received.sends + 1; begun = None; requests = s.receive_queue.received.requests }) (cond (not (is_begun s.receive_queue.received.begun)) (s.receive_queue.free - 1) s.receive_queue.free) (s.receive_queue.lent + 1) [] in
    let link : told_link s frame ≡ after = told_framed opened k s frame w queue_number msn offset payload h.link both.1 in
    let output : effect_output k (inline_effect k c stream) ≡ [] = quiet_output k in
    let keeps : Keeps opened k' (behind input frame) (with_ready v (record { awaited = Fpdu; rest = []; state = after }) c) =
    record {
      link = told_keeps opened k s frame c stream h.link h.server fine.receive;
      input = record { awaited = refl; rest = refl; place = ap (λ (n : ℕ). n + length frame) h.input.place };
      begins = begun_behind v.link after h.begins behind_hello refl (omega arith);
      server = told_server k s.place (s.place + length frame) c stream (omega arith) refl new h.server;
      calls = ap (λ (cs : List PendingCall). cs ++ c ∷ []) h.calls;
      ready = ap (λ (xs : List ℕ). xs ++ c.xid ∷ []) h.ready ∙ sym (map-append (λ (r : ReadyCall). r.xid) k.ready (ready_call c stream ∷ []));
      credits = h.credits;
      reads = h.reads;
      sinks = h.sinks;
      payloads = payloads_told k.calls k.reads c stream k.ready v.fetching.payloads refl new h.server.ready h.payloads;
      quiet = λ e. absurd (omega (arith, e, behind_hello));
    } in
    let kept_now : Keeps opened k' (behind input frame) (with_ready v (record { awaited = Fpdu; rest = []; state = told_link s frame }) c) =
    subst (λ (t : LinkState). Keeps opened k' (behind input frame) (with_ready v (record { awaited = Fpdu; rest = []; state = t }) c)) (sym link) keeps in
    record {
      keeps = subst (λ (e : EndState ServerState). KeepsEnd opened e (behind input frame) (with_ready v (record { awaited = Fpdu; rest = []; state = told_link s frame }) c)) (sym next) (inl (refl, kept_now));
      output = ap (λ (t : LinkState). queued_bytes t.send_queue) link ∙ sym (append-nil (queued_bytes s.send_queue)) ∙ ap (λ (bytes : List ℕ). queued_bytes s.send_queue ++ bytes) (sym (at.due ∙ output));
    }

-- ---- A message that is refused by an error message

pub refused_output : (k : ServerState) (message : List ℕ) → effect_output k (refused_effect k message) ≡ send (k.messages_queued + 1) message
refused_output k message =
    let send_it : List ℕ = send (k.messages_queued + 1) message in
    ap (λ (bytes : List ℕ). (send_it ++ []) ++ bytes) (quiet_output k)
    ∙ append-nil (send_it ++ [])
    ∙ append-nil send_it

abbrev pub with_refused : ServerState → ReceiveState → List ℕ → ServerState
with_refused k h message = record k {
  received = h;
  messages_queued = k.messages_queued + 1;
  due = k.due + length (send (k.messages_queued + 1) message);
  message_ends = k.message_ends ++ (k.due + length (send (k.messages_queued + 1) message)) ∷ [];
}

refused_state : (k : ServerState) (f : Frame) (last : Bool) (opcode w queue_number msn offset : ℕ) (payload message : List ℕ) →
    frame_segment f ≡ Ok (Untagged last opcode w queue_number msn offset payload) →
    AllByRecursion (λ r. is_over k.calls k.reads r ≡ true → is_some r.until ≡ true) k.regions →
    with_effect k f (refused_effect k message) ≡ with_refused k (received_after k.received (Untagged last opcode w queue_number msn offset payload)) message
refused_state k f last opcode w queue_number msn offset payload message is closed =
    let plain : with_effect k f (no_effect k) ≡ with_received (received_after k.received (Untagged last opcode w queue_number msn offset payload)) k = quiet k f last opcode w queue_number msn offset payload is closed in
    λ i. record (plain i) {
      messages_queued = k.messages_queued + 1;
      due = k.due + length (refused_output k message i);
      message_ends = k.message_ends ++ (k.due + length (send (k.messages_queued + 1) message)) ∷ [];
    }

refused_keeps : (opened : LinkParameters) (k : ServerState) (s : LinkState) (bytes message : List ℕ) → LinkKeeps opened k s → IsServer k s.place →
    (is_begun s.receive_queue.received.begun ≡ false → 0 < s.receive_queue.free) →
    LinkKeeps opened (with_refused k (record { sends = k.received.sends + 1; begun = None; requests = k.received.requests }) message)
    (with_message (send_framed s bytes (record { sends = s.receive_queue.received.sends + 1; begun = None; requests = s.receive_queue.received.requests })
    (cond (not (is_begun s.receive_queue.received.begun)) (s.receive_queue.free - 1) s.receive_queue.free) (s.receive_queue.lent + 1) []) message)
refused_keeps opened k s bytes message h is some =
    let told_h = told_keeps opened k s bytes (record { number = k.received.sends + 1; xid = 0; lists = record { read = []; write = []; reply = None }; inline = None }) [] h is some in
    let more : length (k.calls ++ record { number = k.received.sends + 1; xid = 0; lists = record { read = []; write = []; reply = None }; inline = None } ∷ []) ≡ length k.calls + 1 =
    length-append k.calls (record { number = k.received.sends + 1; xid = 0; lists = record { read = []; write = []; reply = None }; inline = None } ∷ []) in
    let one : length (s.send_queue.send_ends ++ length (s.send_queue.fpdus ++ send_output s.send_queue None message) ∷ []) ≡ unsent s + 1 =
    length-append s.send_queue.send_ends (length (s.send_queue.fpdus ++ send_output s.send_queue None message) ∷ []) in
    record {
      live = told_h.live;
      side = told_h.side;
      received = told_h.received;
      receive_length = told_h.receive_length;
      message_max = told_h.message_max;
      fits = told_h.fits;
      terms = told_h.terms;
      up = told_h.up;
      down = told_h.down;
      invalidates = told_h.invalidates;
      free = omega (arith, told_h.free, more, one);
      lent = omega (arith, told_h.lent, more, one);
      told = told_h.told;
      reads = told_h.reads;
      memory = told_h.memory;
      none_dead = told_h.none_dead;
      next = told_h.next;
      queue = sent_has k.written k.due k.messages_queued k.requests_sent k.message_ends message s.send_queue h.queue;
    }

refused_server : (k : ServerState) (place later : ℕ) (message : List ℕ) → place ≤ later → IsServer k place → IsServer (with_refused k (record { sends = k.received.sends + 1; begun = None; requests = k.received.requests }) message) later
refused_server k place later message le is =
    let n : ℕ = k.received.sends in
    record {
      offered = offered_later place later k.regions le is.offered;
      accesses = received_later place later k.accesses_received le is.accesses;
      numbered = is.numbered;
      sinks = is.sinks;
      calls_before = calls_later n (n + 1) k.calls (omega arith) is.calls_before;
      reads_before = reads_later n (n + 1) k.reads (omega arith) is.reads_before;
      regions_before = regions_later n (n + 1) k.regions (omega arith) is.regions_before;
      closed = is.closed;
      numbers = is.numbers;
      xids = is.xids;
      ready_xids = is.ready_xids;
      ready = is.ready;
      idle = is.idle;
      up = is.up;
      down = is.down;
    }

-- For a message on which the verdict is an error message. `message_effect` makes one of it.
pub refused_takes : (opened : LinkParameters) (k : ServerState) (input : InputState) (v : ResponderSide) (frame : List ℕ) (w queue_number msn offset : ℕ) (payload message : List ℕ) → Keeps opened k input v → 0 < v.link.state.place → 0 < length frame →
    segment_taken false frame ≡ Ok (Untagged true OPCODE_SEND w queue_number msn offset payload) → (with_frame v.link.state Fpdu frame).ended ≡ None →
    by_message k (v.link.state.place + length frame) (Some (whole_message v.link.state payload)) ≡ refused_effect k message →
    TakesFrame opened k (behind input frame) (next_frame v.link.state frame) v (on_link v (record { awaited = Fpdu; rest = []; state = with_message (told_link v.link.state frame) message }))
unfolding frame_segment
refused_takes opened k input v frame w queue_number msn offset payload message h behind_hello some is lives judged =
    let s : LinkState = v.link.state in
    let f : Frame = next_frame s frame in
    let segment : Segment = Untagged true OPCODE_SEND w queue_number msn offset payload in
    let received : ReceiveState = record { sends = k.received.sends + 1; begun = None; requests = k.received.requests } in
    let k' : ServerState = with_refused k received message in
    let both : (segment_end s f segment ≡ None) × (with_frame s Fpdu frame ≡ framed s frame segment) = frame_lives s frame segment h.link.side is lives in
    let fine : SendIsFine s true payload = (alive_send s f true OPCODE_SEND w queue_number msn offset payload refl refl (λ e. omega (arith, e)) both.0).1 in
    let later : is_hello f ≡ false = later_frame s.place behind_hello in
    let effect : frame_effect k f ≡ refused_effect k message =
    effect_is k f true OPCODE_SEND w queue_number msn offset payload is
    ∙ ap (λ (m : List ℕ). by_message k f.end (Some m)) (sym (same_message opened k s payload h.link (fine.fits refl))) ∙ judged in
    let at = goes_on_lem opened k f (refused_effect k message) later (lives_on_lem opened k input v frame h behind_hello some lives) effect refl in
    let state : with_effect k f (refused_effect k message) ≡ k' = refused_state k f true OPCODE_SEND w queue_number msn offset payload message is (closed_if_over (is_over k.calls k.reads) k.regions h.server.closed) in
    let next : next_end_state (server_rules opened) (live k) (FrameReceived f) ≡ live k' = at.next ∙ ap (λ (t : ServerState). live t) state in
    let after : LinkState = send_framed s frame (record { sends = s.receive_queue.received.sends + 1; begun = None; requests = s.receive_queue.received.requests }) (cond (not (is_begun s.receive_queue.received.begun)) (s.receive_queue.free - 1) s.receive_queue.free) (s.receive_queue.lent + 1) [] in
    let link : told_link s frame ≡ after = told_framed opened k s frame w queue_number msn offset payload h.link both.1 in
    let keeps : Keeps opened k' (behind input frame) (on_link v (record { awaited = Fpdu; rest = []; state = with_message after message })) =
    record {
      link = refused_keeps opened k s frame message h.link h.server fine.receive;
      input = record { awaited = refl; rest = refl; place = ap (λ (n : ℕ). n + length frame) h.input.place };
      begins = begun_behind v.link (with_message after message) h.begins behind_hello refl (omega arith);
      server = refused_server k s.place (s.place + length frame) message (omega arith) h.server;
      calls = h.calls;
      ready = h.ready;
      credits = h.credits;
      reads = h.reads;
      sinks = h.sinks;
      payloads = h.payloads;
      quiet = λ e. absurd (omega (arith, e, behind_hello));
    } in
    let kept_now : Keeps opened k' (behind input frame) (on_link v (record { awaited = Fpdu; rest = []; state = with_message (told_link s frame) message })) =
    subst (λ (t : LinkState). Keeps opened k' (behind input frame) (on_link v (record { awaited = Fpdu; rest = []; state = with_message t message }))) (sym link) keeps in
    record {
      keeps = subst (λ (e : EndState ServerState). KeepsEnd opened e (behind input frame) (on_link v (record { awaited = Fpdu; rest = []; state = with_message (told_link s frame) message }))) (sym next) (inl (refl, kept_now));
      output =
          ap (λ (t : LinkState). queued_bytes (with_message t message).send_queue) link
          ∙ sent_queue k.messages_queued message s.send_queue h.link.queue.sends
          ∙ ap (λ (bytes : List ℕ). queued_bytes s.send_queue ++ bytes) (sym (at.due ∙ refused_output k message));
    }

-- ---- A message that ends the link

pub refuses : (opened : LinkParameters) (k : ServerState) (f : Frame) (s : FrameEffect) (reason : ℕ) → is_hello f ≡ false → frame_end (server_readiness opened k) (region_grants f.end k.regions) f ≡ None → frame_effect k f ≡ s → s.refusal ≡ Some reason →
    At opened k f (Some (ends.Bad f.at reason)) (record { state = k; ended = Some (ends.Bad f.at reason) }) (last_output Responder (ends.Bad f.at reason))
refuses opened k f s reason later lives effect fine =
    let why : server_end opened k (FrameReceived f) ≡ Some (ends.Bad f.at reason) = ends_by_lem opened k f s later lives effect ∙ ap (refusal_end f) fine in
    record {
      ends = why;
      next = ap (λ (e : Option End). next_end_state_by (server_rules opened) k (FrameReceived f) e) why;
      due = ap (λ (e : Option End). output_for_by (server_rules opened) k (FrameReceived f) e) why;
    }

pub greeted_link : (l : LinkSide) (s : LinkState) → Begins l → 0 < l.state.place → s.has_hello ≡ l.state.has_hello → s.has_hello ≡ true
greeted_link l s (BeforeHello place awaited hello none) some same = absurd (omega (arith, place, some))
greeted_link l s (AfterHello place awaited hello) some same = same ∙ hello

pub stopped_takes : (opened : LinkParameters) (k : ServerState) (input later_input : InputState) (v : ResponderSide) (frame : List ℕ) (w queue_number msn offset : ℕ) (payload : List ℕ) (s' : FrameEffect) (reason : ℕ) → Keeps opened k input v → 0 < v.link.state.place → 0 < length frame →
    segment_taken false frame ≡ Ok (Untagged true OPCODE_SEND w queue_number msn offset payload) → (with_frame v.link.state Fpdu frame).ended ≡ None →
    by_message k (v.link.state.place + length frame) (Some (whole_message v.link.state payload)) ≡ s' → s'.refusal ≡ Some reason → 5 ≤ reason →
    TakesFrame opened k later_input (next_frame v.link.state frame) v (on_link v (record { awaited = Fpdu; rest = []; state = with_end_of (ends.Bad v.link.state.place reason) (told_link v.link.state frame) }))
unfolding frame_segment
stopped_takes opened k input later_input v frame w queue_number msn offset payload s' reason h behind_hello some is lives judged refusal other =
    let s : LinkState = v.link.state in
    let f : Frame = next_frame s frame in
    let end : End = ends.Bad s.place reason in
    let segment : Segment = Untagged true OPCODE_SEND w queue_number msn offset payload in
    let both : (segment_end s f segment ≡ None) × (with_frame s Fpdu frame ≡ framed s frame segment) = frame_lives s frame segment h.link.side is lives in
    let fine : SendIsFine s true payload = (alive_send s f true OPCODE_SEND w queue_number msn offset payload refl refl (λ e. omega (arith, e)) both.0).1 in
    let later : is_hello f ≡ false = later_frame s.place behind_hello in
    let effect : frame_effect k f ≡ s' =
    effect_is k f true OPCODE_SEND w queue_number msn offset payload is
    ∙ ap (λ (m : List ℕ). by_message k f.end (Some m)) (sym (same_message opened k s payload h.link (fine.fits refl))) ∙ judged in
    let at = refuses opened k f s' reason later (lives_on_lem opened k input v frame h behind_hello some lives) effect refusal in
    let link = told_framed opened k s frame w queue_number msn offset payload h.link both.1 in
    let side : (told_link s frame).side ≡ Responder = ap (λ (t : LinkState). t.side) link ∙ h.link.side in
    let last : queued_bytes (with_end (told_link s frame).side end (told_link s frame).send_queue) ≡ queued_bytes s.send_queue ++ last_output Responder end =
    (λ i. queued_bytes (with_end (side i) end (ap (λ (t : LinkState). t.send_queue) link i)))
    ∙ last_queue end s.send_queue (λ (n : ℕ) (e : end ≡ ends.Bad n REASON_FLAGS). absurd (let r : reason ≡ REASON_FLAGS = cc in omega (arith, r, other))) in
    record {
      keeps = inr (record {
        over = ap (λ (e : EndState ServerState). is_some e.ended) at.next;
        why = sym (ap (λ (e : EndState ServerState). e.ended) at.next);
        calls = h.calls ∙ sym (ap (λ (e : EndState ServerState). e.state.calls) at.next);
        ready = h.ready ∙ sym (ap (λ (e : EndState ServerState). map (λ (r : ReadyCall). r.xid) e.state.ready) at.next);
        credits = h.credits ∙ sym (ap (λ (e : EndState ServerState). grant_of e.state) at.next);
        agreed =
            subst (λ (e : EndState ServerState). KeepsAgreed e.state (told_link s frame).agreed) (sym at.next)
            (subst (λ (t : LinkState). KeepsAgreed k t.agreed) (sym link) (keeps_agreed opened k s s.place h.link h.server));
        sendable =
            ap (λ (x : Side). writable (told_link s frame).has_hello (with_end x end (told_link s frame).send_queue)) side
            ∙ sendable_ended (told_link s frame).has_hello end (told_link s frame).send_queue (λ e. absurd (let two : true ≡ false = sym (greeted_link v.link (told_link s frame) h.begins behind_hello (ap (λ (t : LinkState). t.has_hello) link)) ∙ e in cc))
            ∙ sym (ap (λ (x : Side). queued_bytes (with_end x end (told_link s frame).send_queue)) side);
      });
      output = last ∙ ap (λ (bytes : List ℕ). queued_bytes s.send_queue ++ bytes) (sym at.due);
    }
