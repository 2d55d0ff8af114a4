-- A responder that runs out of memory at a frame: the server has output of its own for the frame, or it completes the Send of a call with a
-- read chunk.
use Rattle.std.proofs.Common.{◌≡◌, ◌≢◌, ℕ, ◌+◌, ◌<◌, Bool, true, false, List, [], ◌∷◌, ◌++◌, length, Option, Some, None, Ok, refl, sym, ap, subst, ◌∙◌, arith, inl, inr, length-append, cond, is_some}
use Rattle.std.proofs.lemmas.List.{append-nil}
use Rattle.nr_wire.specs.declared.hello.Side.TheVariants.{Initiator}
use Rattle.nr_wire.specs.declared.stream.Awaited.{Awaited}
use Rattle.nr_wire.specs.declared.stream.Awaited.TheVariants.{Fpdu}
use Rattle.nr_wire.specs.Constants.{OPCODE_SEND, OPCODE_READ_RESPONSE}
use Rattle.nr_wire.specs.Hello.{hello_of}
use Rattle.nr_wire.specs.Segment.{Segment}
use Rattle.nr_wire.specs.Segment.Segment.{Tagged, Untagged}
use Rattle.nr_wire.specs.Stream.{is_whole, IsPartial}
use Rattle.nr_link.specs.declared.end.End.{End}
use Rattle.nr_link.specs.declared.end.End.TheVariants as ends
use Rattle.nr_link.specs.Ending.{segment_taken, frame_segment}
use Rattle.nr_link.specs.Frames.{Frame, is_hello}
use Rattle.nr_link.specs.Input.{InputState}
use Rattle.nr_link.specs.Output.{send}
use Rattle.nr_link.specs.ReceiveState.{ReceiveState, begun_bytes}
use Rattle.nr_endpoint.specs.ReceiveQueue.{DeliveredEvent}
use Rattle.nr_endpoint.specs.ReceiveQueue.DeliveredEvent.{MessageReceived, ReadDone}
use Rattle.nr_endpoint.specs.SendQueue.{SendQueue, output_len}
use Rattle.nr_endpoint.specs.SegmentEnds.{SendIsFine}
use Rattle.nr_endpoint.specs.LinkState.{LinkState, LinkSide}
use Rattle.nr_endpoint.specs.Judging.{next_frame, with_frame, with_peer_hello}
use Rattle.nr_endpoint.specs.Calls.{after_call, makes_whole, QueuesOutput}
use Rattle.nr_endpoint.specs.Calls.Call.{FeedOne, NextEvent, OutOfMemory}
use Rattle.nr_endpoint.proofs.Alive.{alive_send}
use Rattle.nr_endpoint.proofs.Queued.{send_some}
use Rattle.nr_reduce.specs.declared.mark.LinkParameters.{LinkParameters}
use Rattle.nr_reduce.specs.Events.RunEvent.{FrameReceived}
use Rattle.nr_reduce.specs.EndRules.{EndState, live, output_for}
use Rattle.nr_reduce.specs.ServerState.{PendingRead, ServerState}
use Rattle.nr_reduce.specs.ServerFrames.{by_message, frame_effect}
use Rattle.nr_reduce.specs.Server.{server_rules}
use Rattle.nr_responder.specs.Granting.{grant}
use Rattle.nr_responder.specs.ResponderState.{ResponderSide, present_word, queue, queued_bytes, end_of}
use Rattle.nr_responder.specs.Keeping.{Begins, Keeps, KeepsEnd}
use Rattle.nr_responder.specs.Keeping.Begins.{BeforeHello, AfterHello}
use Rattle.nr_responder.specs.Steps.{TakesMemory, ResponderRanOutAt, Fed, frame_by, KeepsOutput}
use Rattle.nr_responder.specs.Steps.Fed.{RanOut}
use Rattle.nr_responder.specs.private.Handling.{IsServerOf, MessageTakes, refused_effect, on_link}
use Rattle.nr_responder.specs.private.Handling.MessageTakes.{EndsFor, ErrorFor, ReadsFor}
use Rattle.nr_responder.specs.private.ReadsDone.{ReadRanOut, ReadTakes}
use Rattle.nr_responder.proofs.Fed.{StepOf, step_of, step_next, not_ended_lem, empty_fed}
use Rattle.nr_responder.proofs.Fed.StepOf.{Part, WholeFrame}
use Rattle.nr_responder.proofs.Frames.{behind, TakesFrame, later_frame, ended_takes}
use Rattle.nr_responder.proofs.Handled.{RanOutOf}
use Rattle.nr_responder.proofs.Queues.{last_some}
use Rattle.nr_responder.proofs.Responses.{IsSend, IsResponse, Lives, frame_is, part_link}
use Rattle.nr_responder.proofs.ReadsTaken.{done_link_is, last_link, read_outputs, response_deliveries, response_reads, response_told}
use Rattle.nr_responder.proofs.Posted.{memory_ends, told_link_lem}
use Rattle.nr_responder.proofs.SendFrames.{frame_lives, part_framed, last_framed}
use Rattle.nr_responder.proofs.ServerSteps.{effect_is, new_is_read}
use Rattle.nr_responder.proofs.Steps.{link_behind, hello_takes, hello_deliveries}
use Rattle.nr_responder.proofs.Whole.{goes_on_lem, lives_on_lem, refuses, refused_output, same_message, whole_message}
use Rattle.nr_responder.proofs.Words.{word_is}

-- ---- What has bytes

queue_len : (q : SendQueue) → length (queued_bytes q) ≡ output_len q
queue_len q = length-append q.hello q.fpdus

-- a frame for which the queue grows has output
grows : (opened : LinkParameters) (k : ServerState) (later : InputState) (f : Frame) (v after : ResponderSide) → TakesFrame opened k later f v after → output_len v.link.state.send_queue < output_len after.link.state.send_queue →
    output_for (server_rules opened) (live k) (FrameReceived f) ≢ []
grows opened k later f v after takes lt none =
    let same : queue after ≡ queue v = takes.output ∙ ap (λ (bytes : List ℕ). queue v ++ bytes) none ∙ append-nil (queue v) in
    absurd (omega (arith, lt, ap (λ (xs : List ℕ). length xs) same, queue_len v.link.state.send_queue, queue_len after.link.state.send_queue))

-- ---- A message

message_takes : (opened : LinkParameters) (k : ServerState) (so_far : InputState) (v : ResponderSide) (frame : List ℕ) (w queue_number msn offset : ℕ) (payload : List ℕ) → Keeps opened k so_far v → 0 < v.link.state.place → 0 < length frame →
    segment_taken false frame ≡ Ok (Untagged true OPCODE_SEND w queue_number msn offset payload) → (with_frame v.link.state Fpdu frame).ended ≡ None → MessageTakes k (whole_message v.link.state payload) → TakesMemory opened k (next_frame v.link.state frame)
unfolding frame_segment
message_takes opened k so_far v frame w queue_number msn offset payload h after_hello some is lives takes = by takes
  where
    s : LinkState
    s = v.link.state

    f : Frame
    f = next_frame s frame

    segment : Segment
    segment = Untagged true OPCODE_SEND w queue_number msn offset payload

    fine : SendIsFine s true payload
    fine = (alive_send s f true OPCODE_SEND w queue_number msn offset payload refl refl (λ e. omega (arith, e)) (frame_lives s frame segment h.link.side is lives).0).1

    later : is_hello f ≡ false
    later = later_frame s.place after_hello

    message : whole_message s payload ≡ begun_bytes k.received.begun ++ payload
    message = same_message opened k s payload h.link (fine.fits refl)

    effect : frame_effect k f ≡ by_message k f.end (Some (whole_message s payload))
    effect = effect_is k f true OPCODE_SEND w queue_number msn offset payload is ∙ ap (λ (m : List ℕ). by_message k f.end (Some m)) (sym message)

    by : MessageTakes k (whole_message s payload) → TakesMemory opened k f
    by (EndsFor reason refusal le) =
        let at = refuses opened k f (by_message k f.end (Some (whole_message s payload))) reason later (lives_on_lem opened k so_far v frame h after_hello some lives) effect (refusal f.end) in
        inl (λ none. last_some f.at reason le (sym at.due ∙ none))
    by (ErrorFor answer error) =
        let at = goes_on_lem opened k f (refused_effect k answer) later (lives_on_lem opened k so_far v frame h after_hello some lives) (effect ∙ error f.end) refl in
        inl (λ none. (let len : length (send (k.messages_queued + 1) answer) ≡ 0 = ap (λ (xs : List ℕ). length xs) (sym (refused_output k answer) ∙ (sym at.due ∙ none)) in
        absurd (omega (arith, len, send_some (k.messages_queued + 1) answer))))
    by (ReadsFor read) = inr (record {
      segment = segment;
      reads = is;
      message = whole_message s payload;
      completed = ap (λ (m : List ℕ). Some m) (sym message);
      call = read.call;
      judged = read.judged;
      bytes = read.bytes;
    })

state_output : (s t u : LinkState) → t ≡ u → u.send_queue ≡ s.send_queue → u.agreed ≡ s.agreed → KeepsOutput s t
state_output s t u is queue agreed = record { queue = ap (λ (x : LinkState). x.send_queue) is ∙ queue; agreed = ap (λ (x : LinkState). x.agreed) is ∙ agreed }

-- what a frame that lives brings to be delivered
frame_message : (opened : LinkParameters) (k : ServerState) (so_far : InputState) (v : ResponderSide) (frame : List ℕ) (number : ℕ) (invalidated : Option ℕ) (message : List ℕ) (rest : List DeliveredEvent) → Keeps opened k so_far v → 0 < length frame →
    (with_frame v.link.state v.link.awaited frame).ended ≡ None → (with_frame v.link.state v.link.awaited frame).receive_queue.deliveries ≡ MessageReceived number invalidated message ∷ rest →
    (number ≡ k.received.sends + 1 → MessageTakes k message) → KeepsOutput v.link.state (with_frame v.link.state v.link.awaited frame) × TakesMemory opened k (next_frame v.link.state frame)
frame_message opened k so_far v frame number invalidated message rest h some lives one takes = by h.begins
  where
    s : LinkState
    s = v.link.state

    none_told : (deliveries : List DeliveredEvent) → deliveries ≡ [] → deliveries ≡ MessageReceived number invalidated message ∷ rest → ⊥
    none_told deliveries none is = (let two : [] ≡ MessageReceived number invalidated message ∷ rest = sym none ∙ is in cc)

    fpdu : 0 < s.place → (with_frame s Fpdu frame).ended ≡ None → (with_frame s Fpdu frame).receive_queue.deliveries ≡ MessageReceived number invalidated message ∷ rest → (send : IsSend s frame) → (b : Bool) → send.last ≡ b →
        KeepsOutput s (with_frame s Fpdu frame) × TakesMemory opened k (next_frame s frame)
    fpdu place lives_on told send false is =
        let reads : segment_taken false frame ≡ Ok (Untagged false OPCODE_SEND send.w send.queue_number send.msn send.offset send.payload) = send.reads ∙ ap (λ (b : Bool). Ok (Untagged b OPCODE_SEND send.w send.queue_number send.msn send.offset send.payload)) is in
        let state = (frame_lives s frame (Untagged false OPCODE_SEND send.w send.queue_number send.msn send.offset send.payload) h.link.side reads lives_on).1 ∙ part_framed s frame send.w send.queue_number send.msn send.offset send.payload in
        absurd (none_told (with_frame s Fpdu frame).receive_queue.deliveries (ap (λ (t : LinkState). t.receive_queue.deliveries) state ∙ append-nil s.receive_queue.deliveries ∙ h.link.told) told)
    fpdu place lives_on told send true is =
        let reads : segment_taken false frame ≡ Ok (Untagged true OPCODE_SEND send.w send.queue_number send.msn send.offset send.payload) = send.reads ∙ ap (λ (b : Bool). Ok (Untagged b OPCODE_SEND send.w send.queue_number send.msn send.offset send.payload)) is in
        let state = (frame_lives s frame (Untagged true OPCODE_SEND send.w send.queue_number send.msn send.offset send.payload) h.link.side reads lives_on).1 ∙ last_framed s frame send.w send.queue_number send.msn send.offset send.payload in
        let whole : List ℕ = whole_message s send.payload in
        let found : (with_frame s Fpdu frame).receive_queue.deliveries ≡ MessageReceived (s.receive_queue.received.sends + 1) None whole ∷ [] =
        ap (λ (t : LinkState). t.receive_queue.deliveries) state ∙ ap (λ (deliveries : List DeliveredEvent). deliveries ++ MessageReceived (s.receive_queue.received.sends + 1) None whole ∷ []) h.link.told in
        let two : MessageReceived (s.receive_queue.received.sends + 1) None whole ∷ [] ≡ MessageReceived number invalidated message ∷ rest = sym found ∙ told in
        let own : whole ≡ message = cc in
        let count : s.receive_queue.received.sends + 1 ≡ number = cc in
        let taken : MessageTakes k message = takes (sym count ∙ ap (λ (r : ReceiveState). r.sends + 1) h.link.received) in (
          state_output s (with_frame s Fpdu frame) _ state refl refl,
          message_takes opened k so_far v frame send.w send.queue_number send.msn send.offset send.payload h place some reads lives_on (subst (λ (m : List ℕ). MessageTakes k m) (sym own) taken),
        )

    no_message : (b : Bool) → response_told b ≡ MessageReceived number invalidated message ∷ rest → ⊥
    no_message true is = (let two : ReadDone ∷ [] ≡ MessageReceived number invalidated message ∷ rest = is in cc)
    no_message false is = (let two : [] ≡ MessageReceived number invalidated message ∷ rest = is in cc)

    either : 0 < s.place → (with_frame s Fpdu frame).ended ≡ None → (with_frame s Fpdu frame).receive_queue.deliveries ≡ MessageReceived number invalidated message ∷ rest → Lives s frame →
        KeepsOutput s (with_frame s Fpdu frame) × TakesMemory opened k (next_frame s frame)
    either place lives_on told (inl send) = fpdu place lives_on told send send.last refl
    either place lives_on told (inr r) = absurd (no_message r.last (sym (response_deliveries opened k so_far v frame h lives_on r r.last refl) ∙ told))

    by : Begins v.link → KeepsOutput s (with_frame s v.link.awaited frame) × TakesMemory opened k (next_frame s frame)
    by (BeforeHello place awaited hello none) =
        let as_hello : with_frame s v.link.awaited frame ≡ with_peer_hello (next_frame s frame) (hello_of Initiator frame) s = ap (λ (a : Awaited). with_frame s a frame) awaited in
        absurd (none_told (with_frame s v.link.awaited frame).receive_queue.deliveries (ap (λ (t : LinkState). t.receive_queue.deliveries) as_hello ∙ hello_deliveries s (next_frame s frame) (hello_of Initiator frame) ∙ h.link.told) one)
    by (AfterHello place awaited hello) =
        let lives_on : (with_frame s Fpdu frame).ended ≡ None = subst (λ (a : Awaited). (with_frame s a frame).ended ≡ None) awaited lives in
        let told_on = subst (λ (a : Awaited). (with_frame s a frame).receive_queue.deliveries ≡ MessageReceived number invalidated message ∷ rest) awaited one in
        subst (λ (a : Awaited). KeepsOutput s (with_frame s a frame) × TakesMemory opened k (next_frame s frame)) (sym awaited) (either place lives_on told_on (frame_is opened k s frame h.link h.server lives_on))

-- ---- A step

told_same : (m : LinkSide) → (after_call m NextEvent).state.send_queue ≡ m.state.send_queue
unfolding after_call
told_same m = refl

told_agreed : (m : LinkSide) → (after_call m NextEvent).state.agreed ≡ m.state.agreed
unfolding after_call
told_agreed m = refl

-- running out of memory queues nothing
out_output : (l m : LinkSide) → l.state.ended ≡ None → m ≡ after_call l OutOfMemory → KeepsOutput l.state m.state
unfolding after_call
out_output l m live is =
    let state : m.state ≡ cond (is_some l.state.ended) l.state (record l.state { ended = Some ends.Memory }) = ap (λ (x : LinkSide). x.state) is in
    let now : m.state ≡ record l.state { ended = Some ends.Memory } = state ∙ ap (λ (o : Option End). cond (is_some o) l.state (record l.state { ended = Some ends.Memory })) live in
    record { queue = ap (λ (t : LinkState). t.send_queue) now; agreed = ap (λ (t : LinkState). t.agreed) now }

-- it ran out of memory for a message
pub out_by_message : (v after : ResponderSide) (piece : List ℕ) (m : LinkSide) (number : ℕ) (invalidated : Option ℕ) (message : List ℕ) (rest : List DeliveredEvent) → end_of v ≡ None → IsPartial v.link.awaited v.link.rest → StepOf v.link piece m → m.state.ended ≡ None → v.credits.word ≡ present_word v →
    m.state.receive_queue.deliveries ≡ MessageReceived number invalidated message ∷ rest → RanOutOf (on_link v m) number message after → ResponderRanOutAt v piece 0 after
out_by_message v after piece m number invalidated message rest live_now p step lives word one ran =
    let t = told_link_lem m (after_call m NextEvent) refl in
    let ended = memory_ends (after_call m NextEvent) (after_call (after_call m NextEvent) OutOfMemory) (t.live ∙ lives) refl in
    record {
      stopped = v;
      fed = empty_fed v p;
      live = live_now;
      ended = ap end_of ran.is_out ∙ ended.0;
      same = record { calls = ap (λ (x : ResponderSide). x.calls) ran.is_out; ready = ap (λ (x : ResponderSide). x.ready) ran.is_out; credits = ap (λ (x : ResponderSide). grant x.credits) ran.is_out };
      needs = λ opened end so_far keeps. needs opened end so_far keeps (out_output (after_call m NextEvent) after.link (t.live ∙ lives) (ap (λ (x : ResponderSide). x.link) ran.is_out)) step;
    }
  where
    needs : (opened : LinkParameters) (end : EndState ServerState) (so_far : InputState) → KeepsEnd opened end so_far v → KeepsOutput (after_call m NextEvent).state after.link.state → StepOf v.link piece m →
        (is_whole v.link.awaited (v.link.rest ++ piece) ≡ true) × (KeepsOutput v.link.state after.link.state × TakesMemory opened end.state (frame_by v.link piece))
    needs opened end so_far keeps same (Part w link) =
        let h = (not_ended_lem opened end so_far v live_now keeps).1 in
        let none : m.state.receive_queue.deliveries ≡ [] = ap (λ (l : LinkSide). l.state.receive_queue.deliveries) link ∙ h.link.told in
        absurd (let two : [] ≡ MessageReceived number invalidated message ∷ rest = sym none ∙ one in cc)
    needs opened end so_far keeps same (WholeFrame frame w frame_is long link) =
        let both = not_ended_lem opened end so_far v live_now keeps in
        let h : Keeps opened end.state so_far v = both.1 in
        let server : IsServerOf end.state (on_link v m) = record { calls = sym h.calls; credits = sym (word ∙ word_is opened end.state so_far v h); reads = sym h.reads; ready = h.ready; new_read = new_is_read end.state h.server.reads_before; next = sym h.link.next ∙ sym (step_next v.link m piece (WholeFrame frame w frame_is long link)); place = v.link.state.place; is_server = h.server } in
        let lives_on : (with_frame v.link.state v.link.awaited frame).ended ≡ None = sym (ap (λ (l : LinkSide). l.state.ended) link) ∙ lives in
        let told_on : (with_frame v.link.state v.link.awaited frame).receive_queue.deliveries ≡ MessageReceived number invalidated message ∷ rest = sym (ap (λ (l : LinkSide). l.state.receive_queue.deliveries) link) ∙ one in
        let found = frame_message opened end.state so_far v frame number invalidated message rest h long lives_on told_on (ran.takes end.state server) in (
          w,
          (
            record {
              queue = same.queue ∙ told_same m ∙ ap (λ (l : LinkSide). l.state.send_queue) link ∙ found.0.queue;
              agreed = same.agreed ∙ told_agreed m ∙ ap (λ (l : LinkSide). l.state.agreed) link ∙ found.0.agreed;
            },
            subst (λ (bytes : List ℕ). TakesMemory opened end.state (next_frame v.link.state bytes)) frame_is found.1,
          ),
        )

sent_same : (s : LinkState) (frame : List ℕ) (send : IsSend s frame) → (with_frame s Fpdu frame).ended ≡ None → (b : Bool) → send.last ≡ b → KeepsOutput s (with_frame s Fpdu frame)
sent_same s frame send lives false is =
    let reads : segment_taken false frame ≡ Ok (Untagged false OPCODE_SEND send.w send.queue_number send.msn send.offset send.payload) = send.reads ∙ ap (λ (b : Bool). Ok (Untagged b OPCODE_SEND send.w send.queue_number send.msn send.offset send.payload)) is in
    state_output s (with_frame s Fpdu frame) _ ((frame_lives s frame (Untagged false OPCODE_SEND send.w send.queue_number send.msn send.offset send.payload) send.side reads lives).1 ∙ part_framed s frame send.w send.queue_number send.msn send.offset send.payload) refl refl
sent_same s frame send lives true is =
    let reads : segment_taken false frame ≡ Ok (Untagged true OPCODE_SEND send.w send.queue_number send.msn send.offset send.payload) = send.reads ∙ ap (λ (b : Bool). Ok (Untagged b OPCODE_SEND send.w send.queue_number send.msn send.offset send.payload)) is in
    state_output s (with_frame s Fpdu frame) _ ((frame_lives s frame (Untagged true OPCODE_SEND send.w send.queue_number send.msn send.offset send.payload) send.side reads lives).1 ∙ last_framed s frame send.w send.queue_number send.msn send.offset send.payload) refl refl

response_same : (s : LinkState) (frame : List ℕ) (r : IsResponse s frame) → (with_frame s Fpdu frame).ended ≡ None → (b : Bool) → r.last ≡ b → KeepsOutput s (with_frame s Fpdu frame)
response_same s frame r lives true is =
    state_output s (with_frame s Fpdu frame) _ ((frame_lives s frame (Tagged true OPCODE_READ_RESPONSE r.stag r.to r.payload) r.side (response_reads s frame r true is) lives).1 ∙ last_link s frame r.stag r.to r.payload) refl refl
response_same s frame r lives false is =
    state_output s (with_frame s Fpdu frame) _ ((frame_lives s frame (Tagged false OPCODE_READ_RESPONSE r.stag r.to r.payload) r.side (response_reads s frame r false is) lives).1 ∙ part_link s frame r.stag r.to r.payload) refl refl

pub lives_same : (s : LinkState) (frame : List ℕ) → Lives s frame → (with_frame s Fpdu frame).ended ≡ None → KeepsOutput s (with_frame s Fpdu frame)
lives_same s frame (inl send) lives = sent_same s frame send lives send.last refl
lives_same s frame (inr r) lives = response_same s frame r lives r.last refl

-- it ran out of memory as a read was done
read_needs : (opened : LinkParameters) (k : ServerState) (so_far : InputState) (v : ResponderSide) (frame : List ℕ) (x : PendingRead) (rest : List PendingRead) → Keeps opened k so_far v → 0 < length frame → (with_frame v.link.state v.link.awaited frame).ended ≡ None →
    (with_frame v.link.state v.link.awaited frame).receive_queue.deliveries ≡ ReadDone ∷ [] → v.fetching.reads ≡ x ∷ rest → ReadTakes (on_link v (after_call (record { awaited = Fpdu; rest = []; state = with_frame v.link.state v.link.awaited frame }) NextEvent)) x rest →
    KeepsOutput v.link.state (with_frame v.link.state v.link.awaited frame) × TakesMemory opened k (next_frame v.link.state frame)
read_needs opened k so_far v frame x rest h some lives one reads takes = by h.begins
  where
    s : LinkState
    s = v.link.state

    none_told : (deliveries : List DeliveredEvent) → deliveries ≡ [] → deliveries ≡ ReadDone ∷ [] → ⊥
    none_told deliveries none is = (let two : [] ≡ ReadDone ∷ [] = sym none ∙ is in cc)

    one_told : (number : ℕ) (invalidated : Option ℕ) (message : List ℕ) (deliveries : List DeliveredEvent) → deliveries ≡ MessageReceived number invalidated message ∷ [] → deliveries ≡ ReadDone ∷ [] → ⊥
    one_told number invalidated message deliveries m is = (let two : MessageReceived number invalidated message ∷ [] ≡ ReadDone ∷ [] = sym m ∙ is in cc)

    sent : (with_frame s Fpdu frame).ended ≡ None → (with_frame s Fpdu frame).receive_queue.deliveries ≡ ReadDone ∷ [] → (send : IsSend s frame) → (b : Bool) → send.last ≡ b → ⊥
    sent lives_on told send false is =
        let read : segment_taken false frame ≡ Ok (Untagged false OPCODE_SEND send.w send.queue_number send.msn send.offset send.payload) = send.reads ∙ ap (λ (b : Bool). Ok (Untagged b OPCODE_SEND send.w send.queue_number send.msn send.offset send.payload)) is in
        let state = (frame_lives s frame (Untagged false OPCODE_SEND send.w send.queue_number send.msn send.offset send.payload) h.link.side read lives_on).1 ∙ part_framed s frame send.w send.queue_number send.msn send.offset send.payload in
        none_told (with_frame s Fpdu frame).receive_queue.deliveries (ap (λ (t : LinkState). t.receive_queue.deliveries) state ∙ append-nil s.receive_queue.deliveries ∙ h.link.told) told
    sent lives_on told send true is =
        let read : segment_taken false frame ≡ Ok (Untagged true OPCODE_SEND send.w send.queue_number send.msn send.offset send.payload) = send.reads ∙ ap (λ (b : Bool). Ok (Untagged b OPCODE_SEND send.w send.queue_number send.msn send.offset send.payload)) is in
        let state = (frame_lives s frame (Untagged true OPCODE_SEND send.w send.queue_number send.msn send.offset send.payload) h.link.side read lives_on).1 ∙ last_framed s frame send.w send.queue_number send.msn send.offset send.payload in
        one_told (s.receive_queue.received.sends + 1) None (whole_message s send.payload) (with_frame s Fpdu frame).receive_queue.deliveries
        (ap (λ (t : LinkState). t.receive_queue.deliveries) state ∙ ap (λ (deliveries : List DeliveredEvent). deliveries ++ MessageReceived (s.receive_queue.received.sends + 1) None (whole_message s send.payload) ∷ []) h.link.told) told

    done : 0 < s.place → (with_frame s Fpdu frame).ended ≡ None → ReadTakes (on_link v (after_call (record { awaited = Fpdu; rest = []; state = with_frame s Fpdu frame }) NextEvent)) x rest → (r : IsResponse s frame) → r.last ≡ true → TakesMemory opened k (next_frame s frame)
    done place lives_on memory r is =
        inl (read_outputs opened k so_far v frame x rest h place some lives_on r is (sym h.reads ∙ reads) (subst (λ (l : LinkSide). ReadTakes (on_link v l) x rest) (done_link_is opened k so_far v frame h lives_on r is) memory))

    last : (with_frame s Fpdu frame).ended ≡ None → (with_frame s Fpdu frame).receive_queue.deliveries ≡ ReadDone ∷ [] → (r : IsResponse s frame) → (b : Bool) → r.last ≡ b → r.last ≡ true
    last lives_on told r true is = is
    last lives_on told r false is = absurd (none_told (with_frame s Fpdu frame).receive_queue.deliveries (response_deliveries opened k so_far v frame h lives_on r false is) told)

    either : 0 < s.place → (with_frame s Fpdu frame).ended ≡ None → (with_frame s Fpdu frame).receive_queue.deliveries ≡ ReadDone ∷ [] → ReadTakes (on_link v (after_call (record { awaited = Fpdu; rest = []; state = with_frame s Fpdu frame }) NextEvent)) x rest → Lives s frame →
        KeepsOutput s (with_frame s Fpdu frame) × TakesMemory opened k (next_frame s frame)
    either place lives_on told memory (inl send) = absurd (sent lives_on told send send.last refl)
    either place lives_on told memory (inr r) = (response_same s frame r lives_on r.last refl, done place lives_on memory r (last lives_on told r r.last refl))

    by : Begins v.link → KeepsOutput s (with_frame s v.link.awaited frame) × TakesMemory opened k (next_frame s frame)
    by (BeforeHello place awaited hello none) =
        let as_hello : with_frame s v.link.awaited frame ≡ with_peer_hello (next_frame s frame) (hello_of Initiator frame) s = ap (λ (a : Awaited). with_frame s a frame) awaited in
        absurd (none_told (with_frame s v.link.awaited frame).receive_queue.deliveries (ap (λ (t : LinkState). t.receive_queue.deliveries) as_hello ∙ hello_deliveries s (next_frame s frame) (hello_of Initiator frame) ∙ h.link.told) one)
    by (AfterHello place awaited hello) =
        let lives_on : (with_frame s Fpdu frame).ended ≡ None = subst (λ (a : Awaited). (with_frame s a frame).ended ≡ None) awaited lives in
        let told_on = subst (λ (a : Awaited). (with_frame s a frame).receive_queue.deliveries ≡ ReadDone ∷ []) awaited one in
        let memory = subst (λ (a : Awaited). ReadTakes (on_link v (after_call (record { awaited = Fpdu; rest = []; state = with_frame s a frame }) NextEvent)) x rest) awaited takes in
        subst (λ (a : Awaited). KeepsOutput s (with_frame s a frame) × TakesMemory opened k (next_frame s frame)) (sym awaited) (either place lives_on told_on memory (frame_is opened k s frame h.link h.server lives_on))

pub out_by_read : (v after : ResponderSide) (piece : List ℕ) (m : LinkSide) (x : PendingRead) (rest : List PendingRead) → end_of v ≡ None → IsPartial v.link.awaited v.link.rest → StepOf v.link piece m → m.state.ended ≡ None →
    m.state.receive_queue.deliveries ≡ ReadDone ∷ [] → v.fetching.reads ≡ x ∷ rest → ReadRanOut (on_link v (after_call m NextEvent)) x rest after → ResponderRanOutAt v piece 0 after
out_by_read v after piece m x rest live_now p step lives one reads ran =
    let t = told_link_lem m (after_call m NextEvent) refl in
    let ended = memory_ends (after_call m NextEvent) (after_call (after_call m NextEvent) OutOfMemory) (t.live ∙ lives) refl in
    record {
      stopped = v;
      fed = empty_fed v p;
      live = live_now;
      ended = ap end_of ran.is_out ∙ ended.0;
      same = record { calls = ap (λ (x : ResponderSide). x.calls) ran.is_out; ready = ap (λ (x : ResponderSide). x.ready) ran.is_out; credits = ap (λ (x : ResponderSide). grant x.credits) ran.is_out };
      needs = λ opened end so_far keeps. needs opened end so_far keeps (out_output (after_call m NextEvent) after.link (t.live ∙ lives) (ap (λ (x : ResponderSide). x.link) ran.is_out)) step;
    }
  where
    needs : (opened : LinkParameters) (end : EndState ServerState) (so_far : InputState) → KeepsEnd opened end so_far v → KeepsOutput (after_call m NextEvent).state after.link.state → StepOf v.link piece m →
        (is_whole v.link.awaited (v.link.rest ++ piece) ≡ true) × (KeepsOutput v.link.state after.link.state × TakesMemory opened end.state (frame_by v.link piece))
    needs opened end so_far keeps same (Part w link) =
        let h = (not_ended_lem opened end so_far v live_now keeps).1 in
        let none : m.state.receive_queue.deliveries ≡ [] = ap (λ (l : LinkSide). l.state.receive_queue.deliveries) link ∙ h.link.told in
        absurd (let two : [] ≡ ReadDone ∷ [] = sym none ∙ one in cc)
    needs opened end so_far keeps same (WholeFrame frame w frame_is long link) =
        let both = not_ended_lem opened end so_far v live_now keeps in
        let h : Keeps opened end.state so_far v = both.1 in
        let lives_on : (with_frame v.link.state v.link.awaited frame).ended ≡ None = sym (ap (λ (l : LinkSide). l.state.ended) link) ∙ lives in
        let told_on : (with_frame v.link.state v.link.awaited frame).receive_queue.deliveries ≡ ReadDone ∷ [] = sym (ap (λ (l : LinkSide). l.state.receive_queue.deliveries) link) ∙ one in
        let takes = subst (λ (l : LinkSide). ReadTakes (on_link v (after_call l NextEvent)) x rest) link ran.takes in
        let found = read_needs opened end.state so_far v frame x rest h long lives_on told_on reads takes in (
          w,
          (
            record {
              queue = same.queue ∙ told_same m ∙ ap (λ (l : LinkSide). l.state.send_queue) link ∙ found.0.queue;
              agreed = same.agreed ∙ told_agreed m ∙ ap (λ (l : LinkSide). l.state.agreed) link ∙ found.0.agreed;
            },
            subst (λ (bytes : List ℕ). TakesMemory opened end.state (next_frame v.link.state bytes)) frame_is found.1,
          ),
        )

out_frame : (v : ResponderSide) (opened : LinkParameters) (k : ServerState) (so_far : InputState) (frame : List ℕ) → Keeps opened k so_far v → 0 < length frame → output_len v.link.state.send_queue < output_len (with_frame v.link.state v.link.awaited frame).send_queue →
    (o : Option End) → (with_frame v.link.state v.link.awaited frame).ended ≡ o → Begins v.link → output_for (server_rules opened) (live k) (FrameReceived (next_frame v.link.state frame)) ≢ []
out_frame v opened k so_far frame h long more (Some why) e begins =
    grows opened k (behind so_far frame) (next_frame v.link.state frame) v (on_link v (link_behind v.link frame)) (ended_takes opened k so_far (behind so_far frame) v frame why h long e) more
out_frame v opened k so_far frame h long more None e (BeforeHello place awaited hello none) =
    grows opened k (behind so_far frame) (next_frame v.link.state frame) v (on_link v (link_behind v.link frame)) (hello_takes opened k so_far v frame h place awaited none long e) more
out_frame v opened k so_far frame h long more None e (AfterHello place awaited hello) =
    let lives_on : (with_frame v.link.state Fpdu frame).ended ≡ None = subst (λ (a : Awaited). (with_frame v.link.state a frame).ended ≡ None) awaited e in
    let still : output_len v.link.state.send_queue < output_len (with_frame v.link.state Fpdu frame).send_queue = subst (λ (a : Awaited). output_len v.link.state.send_queue < output_len (with_frame v.link.state a frame).send_queue) awaited more in
    absurd (let same = lives_same v.link.state frame (frame_is opened k v.link.state frame h.link h.server lives_on) lives_on in omega (arith, still, ap output_len same.queue))

-- it ran out of memory in its side of the link
pub out_by_link : (v after : ResponderSide) (piece : List ℕ) → end_of v ≡ None → IsPartial v.link.awaited v.link.rest → after ≡ on_link v (after_call v.link OutOfMemory) → makes_whole v.link piece ≡ true → QueuesOutput v.link piece → Fed v piece after
out_by_link v after piece live_now p is whole queues =
    let ended = memory_ends v.link (after_call v.link OutOfMemory) live_now refl in
    RanOut 0 (record {
      stopped = v;
      fed = empty_fed v p;
      live = live_now;
      ended = ap end_of is ∙ ended.0;
      same = record { calls = ap (λ (x : ResponderSide). x.calls) is; ready = ap (λ (x : ResponderSide). x.ready) is; credits = ap (λ (x : ResponderSide). grant x.credits) is };
      needs = λ opened end so_far keeps.
          (whole, (out_output v.link after.link live_now (ap (λ (x : ResponderSide). x.link) is), inl (needs opened end so_far keeps (step_of v.link (after_call v.link (FeedOne piece)) piece p live_now refl))));
    })
  where
    needs : (opened : LinkParameters) (end : EndState ServerState) (so_far : InputState) → KeepsEnd opened end so_far v → StepOf v.link piece (after_call v.link (FeedOne piece)) →
        output_for (server_rules opened) (live end.state) (FrameReceived (frame_by v.link piece)) ≢ []
    needs opened end so_far keeps (Part w link) = absurd (let two : true ≡ false = sym whole ∙ w in cc)
    needs opened end so_far keeps (WholeFrame frame w frame_is long link) =
        let both = not_ended_lem opened end so_far v live_now keeps in
        let h : Keeps opened end.state so_far v = both.1 in
        let more : output_len v.link.state.send_queue < output_len (with_frame v.link.state v.link.awaited frame).send_queue = subst (λ (l : LinkSide). output_len v.link.state.send_queue < output_len l.state.send_queue) link queues in
        subst (λ (bytes : List ℕ). output_for (server_rules opened) (live end.state) (FrameReceived (next_frame v.link.state bytes)) ≢ []) frame_is
        (out_frame v opened end.state so_far frame h long more (with_frame v.link.state v.link.awaited frame).ended refl h.begins)
