-- One step of a responder on a piece of the client's stream.
use Rattle.std.proofs.Common.{◌≡◌, ◌≢◌, ℕ, ◌+◌, ◌<◌, Bool, true, false, cond, List, [], ◌∷◌, ◌++◌, length, Option, None, Result, Ok, Err, refl, sym, ap, subst, ◌∙◌, arith, inl, inr}
use Rattle.std.proofs.lemmas.List.{append-nil}
use Rattle.std.proofs.lemmas.Bool.{eq-eqb}
use Rattle.nr_wire.specs.declared.hello.Side.TheVariants.{Initiator}
use Rattle.nr_wire.specs.declared.stream.Awaited.{Awaited}
use Rattle.nr_wire.specs.declared.stream.Awaited.TheVariants.{Hello as HelloFrom, Fpdu}
use Rattle.nr_wire.specs.Constants.{OPCODE_SEND}
use Rattle.nr_wire.specs.Hello.{Hello, hello_of}
use Rattle.nr_wire.specs.Segment.Segment.{Untagged}
use Rattle.nr_link.specs.declared.end.End.{End}
use Rattle.nr_link.specs.declared.end.End.TheVariants as ends
use Rattle.nr_link.specs.Frames.{Frame, is_hello}
use Rattle.nr_link.specs.Input.{InputState}
use Rattle.nr_link.specs.ReceiveState.{ReceiveState}
use Rattle.nr_reduce.specs.Hellos.{server_hello}
use Rattle.nr_link.specs.Ending.{segment_taken, frame_end, hello_end}
use Rattle.nr_endpoint.specs.ReceiveQueue.{DeliveredEvent}
use Rattle.nr_endpoint.specs.ReceiveQueue.DeliveredEvent.{MessageReceived}
use Rattle.nr_endpoint.specs.SendQueue.{with_hello}
use Rattle.nr_endpoint.specs.LinkState.{LinkState, LinkSide}
use Rattle.nr_endpoint.specs.Judging.{next_frame, with_frame, with_peer_hello, with_end_of}
use Rattle.nr_endpoint.specs.Calls.{after_call}
use Rattle.nr_endpoint.specs.Calls.Call.{NextEvent, Stop, Send}
use Rattle.nr_reduce.specs.declared.mark.LinkParameters.{LinkParameters}
use Rattle.nr_reduce.specs.OfferedRegions.{region_grants}
use Rattle.nr_reduce.specs.Events.RunEvent.{FrameReceived}
use Rattle.nr_reduce.specs.EndRules.{EndState, live, next_end_state, next_end_state_by, output_for, output_for_by}
use Rattle.nr_reduce.specs.ServerState.{ServerState}
use Rattle.nr_reduce.specs.ServerFrames.{frame_effect}
use Rattle.nr_reduce.specs.Server.{server_rules, server_end, server_output, server_state_after, or_refusal, server_readiness, with_effect, with_own_hello, effect_output}
use Rattle.nr_responder.specs.ResponderState.{ResponderSide, queued_bytes}
use Rattle.nr_responder.specs.Keeping.{Begins, Keeps, KeepsEnd}
use Rattle.nr_responder.specs.Keeping.Begins.{BeforeHello, AfterHello}
use Rattle.nr_responder.specs.private.Handling.{Handled, IsHandled, on_link, with_ready, inline_call}
use Rattle.nr_responder.specs.private.CallsRead.{reading_call}
use Rattle.nr_responder.specs.private.Handling.Handled.{Stopped, Refused, Ready, Fetched, Completed}
use Rattle.nr_responder.proofs.Queues.{hello_queue}
use Rattle.nr_responder.proofs.Executed.{with_message}
use Rattle.nr_responder.proofs.SendFrames.{frame_lives, part_framed, last_framed}
use Rattle.nr_responder.proofs.Frames.{behind, TakesFrame, hello_link, server_later, own_hello_server, reply_is}
use Rattle.nr_responder.proofs.Whole.{part_takes, ready_takes, refused_takes, stopped_takes, told_link, told_framed, whole_message}
use Rattle.nr_responder.proofs.CallsAtOnce.{complete_takes}
use Rattle.nr_responder.proofs.CallsRead.{reading_takes}
use Rattle.nr_responder.proofs.Told.{told_is_lem, sent_is, stopped_is}
use Rattle.nr_responder.proofs.Responses.{IsSend, IsResponse, Lives, frame_is}
use Rattle.nr_responder.proofs.ReadsHandled.{read_takes}
use Rattle.nr_responder.proofs.ReadsTaken.{response_part_takes, response_deliveries, some_reads}

-- ---- The hello

hello_server : (opened : LinkParameters) (k : ServerState) (f : Frame) (hello : Hello) → f.at ≡ 0 → hello_of Initiator f.bytes ≡ Ok hello →
    (next_end_state (server_rules opened) (live k) (FrameReceived f) ≡ live (with_own_hello opened k f)) × (output_for (server_rules opened) (live k) (FrameReceived f) ≡ server_hello opened f)
unfolding server_end server_output server_state_after
hello_server opened k f hello at reads =
    let first : is_hello f ≡ true = eq-eqb f.at 0 at in
    let none : server_end opened k (FrameReceived f) ≡ None =
    ap (λ (b : Bool). cond b (hello_end (hello_of Initiator f.bytes)) (or_refusal k f (frame_end (server_readiness opened k) (region_grants f.end k.regions) f))) first
    ∙ ap hello_end reads in (
      ap (λ (e : Option End). next_end_state_by (server_rules opened) k (FrameReceived f) e) none ∙ ap (λ (b : Bool). live (cond b (with_own_hello opened k f) (with_effect k f (frame_effect k f)))) first,
      ap (λ (e : Option End). output_for_by (server_rules opened) k (FrameReceived f) e) none ∙ ap (λ (b : Bool). cond b (server_hello opened f) (effect_output k (frame_effect k f))) first,
    )

greeted : (opened : LinkParameters) (k : ServerState) (so_far : InputState) (v : ResponderSide) (frame : List ℕ) (hello : Hello) → Keeps opened k so_far v → v.link.state.place ≡ 0 → v.link.state.send_queue.fpdus ≡ [] → 0 < length frame →
    hello_of Initiator frame ≡ Ok hello →
    TakesFrame opened k (behind so_far frame) (next_frame v.link.state frame) v (on_link v (record { awaited = Fpdu; rest = []; state = with_peer_hello (next_frame v.link.state frame) (Ok hello) v.link.state }))
unfolding with_peer_hello
greeted opened k so_far v frame hello h place none some reads =
    let s : LinkState = v.link.state in
    let f : Frame = next_frame s frame in
    let server = hello_server opened k f hello place reads in
    let keeps : Keeps opened (with_own_hello opened k f) (behind so_far frame) (on_link v (record { awaited = Fpdu; rest = []; state = with_peer_hello f (Ok hello) s })) = record {
      link = hello_link opened k s frame hello reads h.link h.server (h.quiet place).1;
      input = record { awaited = refl; rest = refl; place = ap (λ (n : ℕ). n + length frame) h.input.place };
      begins = AfterHello (omega (arith, some)) refl refl;
      server = own_hello_server opened k f (s.place + length frame) (server_later k s.place (s.place + length frame) (omega arith) h.server);
      calls = h.calls;
      ready = h.ready;
      credits = h.credits;
      reads = h.reads;
      sinks = h.sinks;
      payloads = h.payloads;
      quiet = λ e. absurd (omega (arith, e, some));
    } in
    record {
      keeps = subst (λ (e : EndState ServerState). KeepsEnd opened e (behind so_far frame) (on_link v (record { awaited = Fpdu; rest = []; state = with_peer_hello f (Ok hello) s }))) (sym server.0) (inl (refl, keeps));
      output =
          ap (λ (bytes : List ℕ). queued_bytes (with_hello bytes s.send_queue)) (reply_is opened s frame hello h.link.terms h.link.side reads)
          ∙ hello_queue (server_hello opened f) s.send_queue none
          ∙ ap (λ (bytes : List ℕ). queued_bytes s.send_queue ++ bytes) (sym server.1);
    }

refused_hello : (s : LinkState) (f : Frame) (reason : ℕ) → (with_peer_hello f (Err reason) s).ended ≢ None
unfolding with_peer_hello
refused_hello s f reason e = absurd cc

pub hello_takes : (opened : LinkParameters) (k : ServerState) (so_far : InputState) (v : ResponderSide) (frame : List ℕ) → Keeps opened k so_far v → v.link.state.place ≡ 0 → v.link.awaited ≡ HelloFrom Initiator → v.link.state.send_queue.fpdus ≡ [] → 0 < length frame →
    (with_frame v.link.state v.link.awaited frame).ended ≡ None →
    TakesFrame opened k (behind so_far frame) (next_frame v.link.state frame) v (on_link v (record { awaited = Fpdu; rest = []; state = with_frame v.link.state v.link.awaited frame }))
hello_takes opened k so_far v frame h place awaited none some lives = by (hello_of Initiator frame) refl
  where
    as_hello : with_frame v.link.state v.link.awaited frame ≡ with_peer_hello (next_frame v.link.state frame) (hello_of Initiator frame) v.link.state
    as_hello = ap (λ (a : Awaited). with_frame v.link.state a frame) awaited

    by : (r : Result Hello ℕ) → hello_of Initiator frame ≡ r →
        TakesFrame opened k (behind so_far frame) (next_frame v.link.state frame) v (on_link v (record { awaited = Fpdu; rest = []; state = with_frame v.link.state v.link.awaited frame }))
    by (Err reason) e =
        absurd (refused_hello v.link.state (next_frame v.link.state frame) reason
        (sym (ap (λ (t : LinkState). t.ended) (as_hello ∙ ap (λ (r : Result Hello ℕ). with_peer_hello (next_frame v.link.state frame) r v.link.state) e)) ∙ lives))
    by (Ok hello) e =
        subst (λ (t : LinkState). TakesFrame opened k (behind so_far frame) (next_frame v.link.state frame) v (on_link v (record { awaited = Fpdu; rest = []; state = t })))
        (sym (as_hello ∙ ap (λ (r : Result Hello ℕ). with_peer_hello (next_frame v.link.state frame) r v.link.state) e))
        (greeted opened k so_far v frame hello h place none some e)

-- ---- A frame after it

-- the link after the frame
abbrev pub link_behind : LinkSide → List ℕ → LinkSide
link_behind l frame = record { awaited = Fpdu; rest = []; state = with_frame l.state l.awaited frame }

message_takes : (opened : LinkParameters) (k : ServerState) (so_far : InputState) (v after : ResponderSide) (frame : List ℕ) (w queue_number msn offset : ℕ) (payload : List ℕ) → Keeps opened k so_far v → 0 < v.link.state.place → v.link.awaited ≡ Fpdu → 0 < length frame →
    segment_taken false frame ≡ Ok (Untagged true OPCODE_SEND w queue_number msn offset payload) → (with_frame v.link.state Fpdu frame).ended ≡ None →
    Handled k (whole_message v.link.state payload) (on_link v (record { awaited = Fpdu; rest = []; state = with_frame v.link.state Fpdu frame })) after →
    TakesFrame opened k (behind so_far frame) (next_frame v.link.state frame) v after
message_takes opened k so_far v after frame w queue_number msn offset payload h some awaited long reads lives (Stopped reason refusal other is) =
    let s : LinkState = v.link.state in
    let framed_is = (frame_lives s frame (Untagged true OPCODE_SEND w queue_number msn offset payload) h.link.side reads lives).1 in
    let told_state = told_framed opened k s frame w queue_number msn offset payload h.link framed_is in
    let last : (told_link s frame).last ≡ s.place = ap (λ (t : LinkState). t.last) told_state in
    let live_now : (told_link s frame).ended ≡ None = lives in
    let link : after_call (after_call (record { awaited = Fpdu; rest = []; state = with_frame s Fpdu frame }) NextEvent) (Stop reason) ≡ record { awaited = Fpdu; rest = []; state = with_end_of (ends.Bad s.place reason) (told_link s frame) } =
    stopped_is (after_call (record { awaited = Fpdu; rest = []; state = with_frame s Fpdu frame }) NextEvent) (told_link s frame) reason (told_is_lem (record { awaited = Fpdu; rest = []; state = with_frame s Fpdu frame }) refl refl) live_now
    ∙ ap (λ (n : ℕ). record { awaited = Fpdu; rest = []; state = with_end_of (ends.Bad n reason) (told_link s frame) }) last in
    subst (λ (x : ResponderSide). TakesFrame opened k (behind so_far frame) (next_frame s frame) v x) (sym (is ∙ ap (λ (l : LinkSide). on_link v l) link))
    (stopped_takes opened k so_far (behind so_far frame) v frame w queue_number msn offset payload _ reason h some long reads lives refl (refusal (s.place + length frame)) other)
message_takes opened k so_far v after frame w queue_number msn offset payload h some awaited long reads lives (Refused answer effect short is) =
    let s : LinkState = v.link.state in
    let link : after_call (after_call (record { awaited = Fpdu; rest = []; state = with_frame s Fpdu frame }) NextEvent) (Send answer) ≡ record { awaited = Fpdu; rest = []; state = with_message (told_link s frame) answer } =
    sent_is (after_call (record { awaited = Fpdu; rest = []; state = with_frame s Fpdu frame }) NextEvent) (told_link s frame) answer (told_is_lem (record { awaited = Fpdu; rest = []; state = with_frame s Fpdu frame }) refl refl) lives in
    subst (λ (x : ResponderSide). TakesFrame opened k (behind so_far frame) (next_frame s frame) v x) (sym (is ∙ ap (λ (l : LinkSide). on_link v l) link))
    (refused_takes opened k so_far v frame w queue_number msn offset payload answer h some long reads lives (effect (s.place + length frame)))
message_takes opened k so_far v after frame w queue_number msn offset payload h some awaited long reads lives (Ready xid write reply stream head new judged call own is) =
    let s : LinkState = v.link.state in
    let link : after_call (record { awaited = Fpdu; rest = []; state = with_frame s Fpdu frame }) NextEvent ≡ record { awaited = Fpdu; rest = []; state = told_link s frame } = told_is_lem (record { awaited = Fpdu; rest = []; state = with_frame s Fpdu frame }) refl refl in
    subst (λ (x : ResponderSide). TakesFrame opened k (behind so_far frame) (next_frame s frame) v x) (sym (is ∙ ap (λ (l : LinkSide). with_ready v l (inline_call k xid write reply stream)) link))
    (ready_takes opened k so_far v frame w queue_number msn offset payload xid write reply stream head h some long reads lives new judged call own)
message_takes opened k so_far v after frame w queue_number msn offset payload h some awaited long reads lives (Fetched c own new judged fits total few chunks is) =
    let s : LinkState = v.link.state in
    let link : after_call (record { awaited = Fpdu; rest = []; state = with_frame s Fpdu frame }) NextEvent ≡ record { awaited = Fpdu; rest = []; state = told_link s frame } = told_is_lem (record { awaited = Fpdu; rest = []; state = with_frame s Fpdu frame }) refl refl in
    subst (λ (x : ResponderSide). TakesFrame opened k (behind so_far frame) (next_frame s frame) v x) (sym (is ∙ ap (λ (l : LinkSide). reading_call (on_link v l) c) link))
    (reading_takes opened k so_far v frame w queue_number msn offset payload c h some long reads lives own new judged chunks)
message_takes opened k so_far v after frame w queue_number msn offset payload h some awaited long reads lives (Completed c own new judged none alone is) =
    let s : LinkState = v.link.state in
    let link : after_call (record { awaited = Fpdu; rest = []; state = with_frame s Fpdu frame }) NextEvent ≡ record { awaited = Fpdu; rest = []; state = told_link s frame } = told_is_lem (record { awaited = Fpdu; rest = []; state = with_frame s Fpdu frame }) refl refl in
    subst (λ (x : ResponderSide). TakesFrame opened k (behind so_far frame) (next_frame s frame) v x) (sym (is ∙ ap (λ (l : LinkSide). with_ready v l c) link))
    (complete_takes opened k so_far v frame w queue_number msn offset payload c alone.payload h some long reads lives own new judged none alone.inline alone.judged)

send_takes : (opened : LinkParameters) (k : ServerState) (so_far : InputState) (v after : ResponderSide) (frame : List ℕ) → Keeps opened k so_far v → 0 < v.link.state.place → v.link.awaited ≡ Fpdu → 0 < length frame →
    (with_frame v.link.state Fpdu frame).ended ≡ None → IsHandled k (on_link v (record { awaited = Fpdu; rest = []; state = with_frame v.link.state Fpdu frame })) after → IsSend v.link.state frame →
    TakesFrame opened k (behind so_far frame) (next_frame v.link.state frame) v after
send_takes opened k so_far v after frame h some awaited long lives handled send = by send.last refl
  where
    s : LinkState
    s = v.link.state

    by : (b : Bool) → send.last ≡ b → TakesFrame opened k (behind so_far frame) (next_frame s frame) v after
    by false is =
        let reads : segment_taken false frame ≡ Ok (Untagged false OPCODE_SEND send.w send.queue_number send.msn send.offset send.payload) = send.reads ∙ ap (λ (b : Bool). Ok (Untagged b OPCODE_SEND send.w send.queue_number send.msn send.offset send.payload)) is in
        let state = (frame_lives s frame (Untagged false OPCODE_SEND send.w send.queue_number send.msn send.offset send.payload) h.link.side reads lives).1 ∙ part_framed s frame send.w send.queue_number send.msn send.offset send.payload in
        let none : (with_frame s Fpdu frame).receive_queue.deliveries ≡ [] = ap (λ (t : LinkState). t.receive_queue.deliveries) state ∙ append-nil s.receive_queue.deliveries ∙ h.link.told in
        subst (λ (x : ResponderSide). TakesFrame opened k (behind so_far frame) (next_frame s frame) v x) (sym (handled.none none))
        (part_takes opened k so_far v frame send.w send.queue_number send.msn send.offset send.payload h some long reads lives)
    by true is =
        let reads : segment_taken false frame ≡ Ok (Untagged true OPCODE_SEND send.w send.queue_number send.msn send.offset send.payload) = send.reads ∙ ap (λ (b : Bool). Ok (Untagged b OPCODE_SEND send.w send.queue_number send.msn send.offset send.payload)) is in
        let state = (frame_lives s frame (Untagged true OPCODE_SEND send.w send.queue_number send.msn send.offset send.payload) h.link.side reads lives).1 ∙ last_framed s frame send.w send.queue_number send.msn send.offset send.payload in
        let one : (with_frame s Fpdu frame).receive_queue.deliveries ≡ MessageReceived (s.receive_queue.received.sends + 1) None (whole_message s send.payload) ∷ [] =
        ap (λ (t : LinkState). t.receive_queue.deliveries) state ∙ ap (λ (deliveries : List DeliveredEvent). deliveries ++ MessageReceived (s.receive_queue.received.sends + 1) None (whole_message s send.payload) ∷ []) h.link.told in
        message_takes opened k so_far v after frame send.w send.queue_number send.msn send.offset send.payload h some awaited long reads lives (handled.some (s.receive_queue.received.sends + 1) None (whole_message s send.payload) one (ap (λ (r : ReceiveState). r.sends + 1) h.link.received))

-- a segment of the awaited Read Response
response_takes : (opened : LinkParameters) (k : ServerState) (so_far : InputState) (v after : ResponderSide) (frame : List ℕ) → Keeps opened k so_far v → 0 < v.link.state.place → 0 < length frame →
    (with_frame v.link.state Fpdu frame).ended ≡ None → IsHandled k (on_link v (record { awaited = Fpdu; rest = []; state = with_frame v.link.state Fpdu frame })) after → (r : IsResponse v.link.state frame) → (b : Bool) → r.last ≡ b →
    TakesFrame opened k (behind so_far frame) (next_frame v.link.state frame) v after
response_takes opened k so_far v after frame h some long lives handled r false is =
    subst (λ (x : ResponderSide). TakesFrame opened k (behind so_far frame) (next_frame v.link.state frame) v x) (sym (handled.none (response_deliveries opened k so_far v frame h lives r false is)))
    (response_part_takes opened k so_far v frame h some long lives r is)
response_takes opened k so_far v after frame h some long lives handled r true is =
    let reads = some_reads opened k so_far v frame h r in
    read_takes opened k so_far v after frame reads.0 reads.1.0 h some long lives r is reads.1.1
    (handled.read (response_deliveries opened k so_far v frame h lives r true is) reads.0 reads.1.0 (h.reads ∙ reads.1.1)) handled.credits

fpdu_takes : (opened : LinkParameters) (k : ServerState) (so_far : InputState) (v after : ResponderSide) (frame : List ℕ) → Keeps opened k so_far v → 0 < v.link.state.place → v.link.awaited ≡ Fpdu → 0 < length frame →
    (with_frame v.link.state Fpdu frame).ended ≡ None → IsHandled k (on_link v (record { awaited = Fpdu; rest = []; state = with_frame v.link.state Fpdu frame })) after → Lives v.link.state frame →
    TakesFrame opened k (behind so_far frame) (next_frame v.link.state frame) v after
fpdu_takes opened k so_far v after frame h some awaited long lives handled (inl send) = send_takes opened k so_far v after frame h some awaited long lives handled send
fpdu_takes opened k so_far v after frame h some awaited long lives handled (inr r) = response_takes opened k so_far v after frame h some long lives handled r r.last refl

pub hello_deliveries : (s : LinkState) (f : Frame) (r : Result Hello ℕ) → (with_peer_hello f r s).receive_queue.deliveries ≡ s.receive_queue.deliveries
unfolding with_peer_hello
hello_deliveries s f (Ok hello) = refl
hello_deliveries s f (Err reason) = refl

-- a complete frame that doesn't end the side, and what was made of what it delivered
pub frame_takes : (opened : LinkParameters) (k : ServerState) (so_far : InputState) (v after : ResponderSide) (frame : List ℕ) → Keeps opened k so_far v → 0 < length frame → (with_frame v.link.state v.link.awaited frame).ended ≡ None →
    IsHandled k (on_link v (link_behind v.link frame)) after → TakesFrame opened k (behind so_far frame) (next_frame v.link.state frame) v after
frame_takes opened k so_far v after frame h long lives handled = by h.begins
  where
    same_hello : (a : Awaited) (s : LinkState) → a ≡ HelloFrom Initiator → (with_frame s a frame).receive_queue.deliveries ≡ (with_peer_hello (next_frame s frame) (hello_of Initiator frame) s).receive_queue.deliveries
    same_hello a s e = ap (λ (x : Awaited). (with_frame s x frame).receive_queue.deliveries) e

    by : Begins v.link → TakesFrame opened k (behind so_far frame) (next_frame v.link.state frame) v after
    by (BeforeHello place awaited hello none) =
        let deliveries : (with_frame v.link.state v.link.awaited frame).receive_queue.deliveries ≡ [] =
        same_hello v.link.awaited v.link.state awaited ∙ hello_deliveries v.link.state (next_frame v.link.state frame) (hello_of Initiator frame) ∙ h.link.told in
        subst (λ (x : ResponderSide). TakesFrame opened k (behind so_far frame) (next_frame v.link.state frame) v x) (sym (handled.none deliveries))
        (hello_takes opened k so_far v frame h place awaited none long lives)
    by (AfterHello place awaited hello) =
        let lives_on : (with_frame v.link.state Fpdu frame).ended ≡ None = subst (λ (a : Awaited). (with_frame v.link.state a frame).ended ≡ None) awaited lives in
        let handled_on : IsHandled k (on_link v (record { awaited = Fpdu; rest = []; state = with_frame v.link.state Fpdu frame })) after =
        subst (λ (a : Awaited). IsHandled k (on_link v (record { awaited = Fpdu; rest = []; state = with_frame v.link.state a frame })) after) awaited handled in
        fpdu_takes opened k so_far v after frame h place awaited long lives_on handled_on (frame_is opened k v.link.state frame h.link h.server lives_on)
