-- A complete frame with a segment of a Read Response at a responder: a part of the response, and its last segment, by what was made of the read.
use Rattle.std.proofs.Common.{◌≡◌, ◌≢◌, ℕ, ◌+◌, ◌-◌, ◌<◌, ◌≤◌, Bool, true, false, not, ◌&&◌, eqb, zero, suc, List, [], ◌∷◌, ◌++◌, length, take, Option, Some, None, Ok, refl, sym, ap, subst, ◌∙◌, arith, inl, inr, is_some, append-nil, length-append}
use Rattle.std.specs.Prelude.{map, find}
use Rattle.std.proofs.lemmas.List.{map-append, length-take}
use Rattle.nr_wire.specs.declared.stream.Awaited.TheVariants.{Fpdu}
use Rattle.nr_wire.specs.declared.hello.Side.{Side}
use Rattle.nr_wire.specs.declared.hello.Side.TheVariants.{Responder}
use Rattle.nr_wire.specs.Constants.{OPCODE_READ_RESPONSE, REASON_FLAGS}
use Rattle.nr_wire.specs.Segment.Segment.{Tagged}
use Rattle.nr_regions.specs.RegisteredMemory.{RegisteredMemory, after_place}
use Rattle.nr_regions.proofs.Holding.{none_dead_place}
use Rattle.nr_regions.specs.Access.{TaggedSegment}
use Rattle.nr_link.specs.declared.end.End.{End}
use Rattle.nr_link.specs.declared.end.End.TheVariants as ends
use Rattle.nr_link.specs.Frames.{Frame, is_hello}
use Rattle.nr_link.specs.Input.{InputState}
use Rattle.nr_link.specs.Ending.{segment_taken, frame_segment, last_output}
use Rattle.nr_link.specs.SegmentFaults.{is_expected}
use Rattle.nr_endpoint.specs.ReceiveQueue.{DeliveredEvent, ReceiveQueue, delivered, with_read_done}
use Rattle.nr_endpoint.specs.ReceiveQueue.DeliveredEvent.{ReadDone}
use Rattle.nr_endpoint.specs.SendQueue.{with_end, writable}
use Rattle.nr_endpoint.specs.LinkState.{LinkState}
use Rattle.nr_endpoint.specs.Judging.{next_frame, with_frame, with_effect as with_segment_effect, with_end_of, reads_after, expected_response}
use Rattle.nr_endpoint.specs.Calls.{after_call}
use Rattle.nr_endpoint.specs.Calls.Call.{NextEvent}
use Rattle.nr_reduce.specs.declared.mark.LinkParameters.{LinkParameters}
use Rattle.nr_reduce.specs.Chunks.{is_read_chunk_of_item, call_conveyed}
use Rattle.nr_reduce.specs.OfferedMemory.{AreOffered, HoldsRegions}
use Rattle.nr_reduce.specs.Events.RunEvent.{FrameReceived}
use Rattle.nr_reduce.specs.EndRules.{EndState, live, next_end_state, output_for}
use Rattle.nr_reduce.specs.ServerState.{PendingCall, PendingRead, ReadyCall, ServerState, credit_word}
use Rattle.nr_reduce.specs.ServerReads.{is_over, open_reads}
use Rattle.nr_reduce.specs.ServerMessages.{by_payload, pending_payload}
use Rattle.nr_reduce.specs.ServerFrames.{FrameEffect, no_effect, frame_effect, call_of_number, is_stream_read, with_refused_call}
use Rattle.nr_reduce.specs.Server.{server_rules, with_effect, newly_open_reads, requests_from}
use Rattle.nr_reduce.specs.Holds.{chunk_error}
use Rattle.nr_link.specs.Output.{read_request, send}
use Rattle.nr_endpoint.proofs.Queued.{send_some, request_some}
use Rattle.nr_reduce.proofs.MemorySteps.{offered_later}
use Rattle.nr_responder.specs.Granting.{grant_of}
use Rattle.nr_responder.specs.Fetching.{SinkRegion, Fetching, open_sinks}
use Rattle.nr_responder.specs.ResponderState.{ResponderSide, queued_bytes}
use Rattle.nr_responder.specs.Keeping.{ArePayloads, Keeps, KeepsEnd, later_responses, open_responses, KeepsAgreed}
use Rattle.nr_responder.specs.private.Reading.{sink_bytes, over_sinks, left_sinks, opening}
use Rattle.nr_responder.specs.private.Handling.{on_link}
use Rattle.nr_responder.specs.private.ReadsDone.{side_after_done, ended_as, still_open, read_payload, has_bad_chunk, NothingReady, MakesReady, EndsLink, ReadTakes}
use Rattle.nr_responder.specs.private.ReadsDone.NothingReady.{Gone, Waits}
use Rattle.nr_responder.specs.private.ReadsDone.ReadTakes.{Requests, Terminates, Answers}
use Rattle.nr_responder.proofs.ServerSteps.{quiet_output, closed_if_over}
use Rattle.nr_responder.proofs.SendFrames.{frame_lives, framed}
use Rattle.nr_responder.proofs.Frames.{behind, TakesFrame, later_frame, keeps_agreed}
use Rattle.nr_responder.proofs.Queues.{last_queue, last_some, sendable_ended}
use Rattle.nr_responder.proofs.Sinks.{open_left}
use Rattle.nr_responder.proofs.Responses.{IsResponse, part_link, part_state, part_effect, response_access, response_memory, response_part_keeps, response_part_server, placed_next, with_part, none_expected}
use Rattle.nr_responder.proofs.ReadEffects.{requested_queue}
use Rattle.nr_responder.proofs.LastResponses.{EffectHolds, TakesLast, after_done, done_effect, done_link, done_server, done_state}
use Rattle.nr_responder.proofs.ReadCases.{heard, read_off, last_effect, is_bad_stream, call_gone, call_waits, call_ready, call_stops, call_refused}
use Rattle.nr_responder.proofs.ReadPayloads.{sinks_hold, payload_is_read}
use Rattle.nr_responder.proofs.Told.{told_is_lem}
use Rattle.nr_responder.proofs.Whole.{begun_behind, goes_on_lem, greeted_link, lives_on_lem, refuses}

-- ---- A part of the response

pub response_reads : (s : LinkState) (frame : List ℕ) (r : IsResponse s frame) (b : Bool) → r.last ≡ b → segment_taken false frame ≡ Ok (Tagged b OPCODE_READ_RESPONSE r.stag r.to r.payload)
response_reads s frame r b is = r.reads ∙ ap (λ (last : Bool). Ok (Tagged last OPCODE_READ_RESPONSE r.stag r.to r.payload)) is

-- the side after the last segment, before the event is delivered
pub last_link : (s : LinkState) (bytes : List ℕ) (stag to : ℕ) (payload : List ℕ) →
    framed s bytes (Tagged true OPCODE_READ_RESPONSE stag to payload)
    ≡ record s { last = s.place; place = s.place + length bytes; memory = after_place s.memory stag to payload; reads = reads_after true (length payload) s.reads; receive_queue = with_read_done s.receive_queue }
unfolding with_segment_effect
last_link s bytes stag to payload = refl

-- what it delivers
abbrev pub response_told : Bool → List DeliveredEvent
response_told true = ReadDone ∷ []
response_told false = []

pub response_deliveries : (opened : LinkParameters) (k : ServerState) (so_far : InputState) (v : ResponderSide) (frame : List ℕ) → Keeps opened k so_far v → (with_frame v.link.state Fpdu frame).ended ≡ None → (r : IsResponse v.link.state frame) → (b : Bool) → r.last ≡ b →
    (with_frame v.link.state Fpdu frame).receive_queue.deliveries ≡ response_told b
response_deliveries opened k so_far v frame h lives r true is =
    let s : LinkState = v.link.state in
    ap (λ (t : LinkState). t.receive_queue.deliveries) ((frame_lives s frame (Tagged true OPCODE_READ_RESPONSE r.stag r.to r.payload) h.link.side (response_reads s frame r true is) lives).1 ∙ last_link s frame r.stag r.to r.payload)
    ∙ ap (λ (deliveries : List DeliveredEvent). deliveries ++ ReadDone ∷ []) h.link.told
response_deliveries opened k so_far v frame h lives r false is =
    let s : LinkState = v.link.state in
    ap (λ (t : LinkState). t.receive_queue.deliveries) ((frame_lives s frame (Tagged false OPCODE_READ_RESPONSE r.stag r.to r.payload) h.link.side (response_reads s frame r false is) lives).1 ∙ part_link s frame r.stag r.to r.payload)
    ∙ h.link.told

-- the read whose response is awaited
pub some_reads : (opened : LinkParameters) (k : ServerState) (so_far : InputState) (v : ResponderSide) (frame : List ℕ) → Keeps opened k so_far v → IsResponse v.link.state frame → (r : PendingRead) × ((rest : List PendingRead) × (k.reads ≡ r ∷ rest))
some_reads opened k so_far v frame h r = by k.reads refl
  where
    by : (reads : List PendingRead) → k.reads ≡ reads → (r : PendingRead) × ((rest : List PendingRead) × (k.reads ≡ r ∷ rest))
    by [] none = absurd (none_expected k v.link.state r.last r.stag r.to (length r.payload) h.link.reads r.expected none)
    by (x ∷ rest) is = (x, (rest, is))

pub response_part_takes : (opened : LinkParameters) (k : ServerState) (so_far : InputState) (v : ResponderSide) (frame : List ℕ) → Keeps opened k so_far v → 0 < v.link.state.place → 0 < length frame → (with_frame v.link.state Fpdu frame).ended ≡ None →
    (r : IsResponse v.link.state frame) → r.last ≡ false → TakesFrame opened k (behind so_far frame) (next_frame v.link.state frame) v (on_link v (record { awaited = Fpdu; rest = []; state = with_frame v.link.state Fpdu frame }))
unfolding frame_segment
response_part_takes opened k so_far v frame h some long lives r is =
    let s : LinkState = v.link.state in
    let f : Frame = next_frame s frame in
    let a : TaggedSegment = response_access s frame r.stag r.to r.payload in
    let reads : segment_taken false frame ≡ Ok (Tagged false OPCODE_READ_RESPONSE r.stag r.to r.payload) = response_reads s frame r false is in
    let link : with_frame s Fpdu frame ≡ record s { last = s.place; place = s.place + length frame; memory = after_place s.memory r.stag r.to r.payload; reads = reads_after false (length r.payload) s.reads } =
    (frame_lives s frame (Tagged false OPCODE_READ_RESPONSE r.stag r.to r.payload) h.link.side reads lives).1 ∙ part_link s frame r.stag r.to r.payload in
    let later : is_hello f ≡ false = later_frame s.place some in
    let at = goes_on_lem opened k f (no_effect k) later (lives_on_lem opened k so_far v frame h some long lives) (part_effect k f r.stag r.to r.payload reads) refl in
    let state : with_effect k f (no_effect k) ≡ with_part k a = part_state k f r.stag r.to r.payload reads (closed_if_over (is_over k.calls k.reads) k.regions h.server.closed) in
    let next : next_end_state (server_rules opened) (live k) (FrameReceived f) ≡ live (with_part k a) = at.next ∙ ap (λ (t : ServerState). live t) state in
    let after : LinkState = record s { last = s.place; place = s.place + length frame; memory = after_place s.memory r.stag r.to r.payload; reads = reads_after false (length r.payload) s.reads } in
    let keeps : Keeps opened (with_part k a) (behind so_far frame) (on_link v (record { awaited = Fpdu; rest = []; state = after })) =
    record {
      link = response_part_keeps opened k s frame r.stag r.to r.payload h.link h.server long r.allowed;
      input = record { awaited = refl; rest = refl; place = ap (λ (n : ℕ). n + length frame) h.input.place };
      begins = begun_behind v.link after h.begins some refl (omega arith);
      server = response_part_server opened k s frame r.stag r.to r.payload h.link h.server (subst (λ (b : Bool). is_expected (expected_response s.reads) b r.stag r.to (length r.payload) ≡ true) is r.expected);
      calls = h.calls;
      ready = h.ready;
      credits = h.credits;
      reads = h.reads;
      sinks = h.sinks;
      payloads = h.payloads;
      quiet = λ e. absurd (omega (arith, e, some));
    } in
    let kept_now : Keeps opened (with_part k a) (behind so_far frame) (on_link v (record { awaited = Fpdu; rest = []; state = with_frame s Fpdu frame })) =
    subst (λ (t : LinkState). Keeps opened (with_part k a) (behind so_far frame) (on_link v (record { awaited = Fpdu; rest = []; state = t }))) (sym link) keeps in
    record {
      keeps = subst (λ (e : EndState ServerState). KeepsEnd opened e (behind so_far frame) (on_link v (record { awaited = Fpdu; rest = []; state = with_frame s Fpdu frame }))) (sym next) (inl (refl, kept_now));
      output = ap (λ (t : LinkState). queued_bytes t.send_queue) link ∙ sym (append-nil (queued_bytes s.send_queue)) ∙ ap (λ (bytes : List ℕ). queued_bytes s.send_queue ++ bytes) (sym (at.due ∙ quiet_output k));
    }

-- ---- The read is done

-- the side once the event was delivered
abbrev pub done_side : LinkState → List ℕ → ℕ → ℕ → List ℕ → LinkState
done_side s frame stag to payload = record s { last = s.place; place = s.place + length frame; memory = after_place s.memory stag to payload; reads = reads_after true (length payload) s.reads }

delivered_done : (q : ReceiveQueue) → q.deliveries ≡ [] → delivered (with_read_done q) ≡ q
delivered_done q none =
    let nothing : List DeliveredEvent = [] in
    let count : q.lent + 0 ≡ q.lent = omega arith in
    ap (λ (deliveries : List DeliveredEvent). delivered (record q { deliveries = deliveries ++ ReadDone ∷ [] })) none
    ∙ (λ i. record { receives = q.receives; receive_length = q.receive_length; received = q.received; free = q.free; lent = count i; deliveries = sym none i })

pub done_link_is : (opened : LinkParameters) (k : ServerState) (so_far : InputState) (v : ResponderSide) (frame : List ℕ) → Keeps opened k so_far v → (with_frame v.link.state Fpdu frame).ended ≡ None → (r : IsResponse v.link.state frame) → r.last ≡ true →
    after_call (record { awaited = Fpdu; rest = []; state = with_frame v.link.state Fpdu frame }) NextEvent ≡ record { awaited = Fpdu; rest = []; state = done_side v.link.state frame r.stag r.to r.payload }
done_link_is opened k so_far v frame h lives r is =
    let s : LinkState = v.link.state in
    let link = (frame_lives s frame (Tagged true OPCODE_READ_RESPONSE r.stag r.to r.payload) h.link.side (response_reads s frame r true is) lives).1 ∙ last_link s frame r.stag r.to r.payload in
    told_is_lem (record { awaited = Fpdu; rest = []; state = with_frame s Fpdu frame }) refl refl
    ∙ ap (λ (t : LinkState). record { awaited = Fpdu; rest = []; state = record t { receive_queue = delivered t.receive_queue } }) link
    ∙ ap (λ (q : ReceiveQueue). record { awaited = Fpdu; rest = []; state = record (done_side s frame r.stag r.to r.payload) { receive_queue = q } }) (delivered_done s.receive_queue h.link.told)

take_count : (m : ℕ) (reads : List PendingRead) → take (length (take m reads)) reads ≡ take m reads
take_count zero reads = refl
take_count (suc m) [] = refl
take_count (suc m) (r ∷ reads) = ap (λ (rs : List PendingRead). r ∷ rs) (take_count m reads)

pub taken_less : (n : ℕ) (rest : List PendingRead) → n ≡ length (take 7 rest) → take n rest ≡ take 7 rest
taken_less n rest is = ap (λ (m : ℕ). take m rest) is ∙ take_count 7 rest

pub takes_last : (opened : LinkParameters) (k : ServerState) (so_far : InputState) (v : ResponderSide) (frame : List ℕ) (x : PendingRead) (rest : List PendingRead) → Keeps opened k so_far v → 0 < length frame → (r : IsResponse v.link.state frame) → k.reads ≡ x ∷ rest →
    TakesLast k (next_frame v.link.state frame) (response_access v.link.state frame r.stag r.to r.payload) rest opened (done_side v.link.state frame r.stag r.to r.payload)
takes_last opened k so_far v frame x rest h long r reads = record {
  live = h.link.live;
  side = h.link.side;
  received = h.link.received;
  receive_length = h.link.receive_length;
  message_max = h.link.message_max;
  fits = h.link.fits;
  terms = h.link.terms;
  up = h.link.up;
  down = h.link.down;
  invalidates = h.link.invalidates;
  free = h.link.free;
  lent = h.link.lent;
  told = h.link.told;
  reads = ap (reads_after true (length r.payload)) (h.link.reads ∙ ap (λ (rs : List PendingRead). open_responses k.response_bytes (take 8 rs)) reads);
  memory = response_memory opened k v.link.state frame r.stag r.to r.payload h.link h.server long r.allowed;
  none_dead = none_dead_place v.link.state.memory r.stag r.to r.payload h.link.none_dead;
  next = placed_next v.link.state.memory r.stag r.to r.payload ∙ h.link.next;
  queue = h.link.queue;
  place = refl;
  last = refl;
}

-- with these calls that are ready
abbrev done_with : ResponderSide → LinkState → List PendingCall → List SinkRegion → List PendingRead → ℕ → List ℕ → List (Option (List ℕ)) → ResponderSide
done_with v t calls sinks reads kept xids payloads = record {
  link = record { awaited = Fpdu; rest = []; state = side_after_done t (opening kept reads) (over_sinks calls reads sinks) };
  calls = calls;
  ready = v.ready ++ xids;
  credits = v.credits;
  fetching = record { reads = reads; sinks = left_sinks calls reads sinks; payloads = v.fetching.payloads ++ payloads };
}

pub done_takes : (opened : LinkParameters) (k : ServerState) (so_far : InputState) (v : ResponderSide) (frame : List ℕ) (x : PendingRead) (rest : List PendingRead) (ready : List ReadyCall) (payloads : List (Option (List ℕ))) → Keeps opened k so_far v → 0 < v.link.state.place → 0 < length frame →
    (with_frame v.link.state Fpdu frame).ended ≡ None → (r : IsResponse v.link.state frame) → r.last ≡ true → k.reads ≡ x ∷ rest →
    frame_effect k (next_frame v.link.state frame) ≡ done_effect k k.calls rest ready (still_open x rest) → EffectHolds k k.calls rest ready → ArePayloads k.calls (k.ready ++ ready) (v.fetching.payloads ++ payloads) →
    TakesFrame opened k (behind so_far frame) (next_frame v.link.state frame) v (done_with v (done_side v.link.state frame r.stag r.to r.payload) v.calls v.fetching.sinks rest (still_open x rest) (map (λ q. q.xid) ready) payloads)
unfolding frame_segment
done_takes opened k so_far v frame x rest ready payloads h some long lives r is reads effect holds has =
    let s : LinkState = v.link.state in
    let f : Frame = next_frame s frame in
    let a : TaggedSegment = response_access s frame r.stag r.to r.payload in
    let t : LinkState = done_side s frame r.stag r.to r.payload in
    let kept : ℕ = still_open x rest in
    let k' : ServerState = after_done k a k.calls rest ready kept in
    let segment : segment_taken false frame ≡ Ok (Tagged true OPCODE_READ_RESPONSE r.stag r.to r.payload) = response_reads s frame r true is in
    let later : is_hello f ≡ false = later_frame s.place some in
    let at = goes_on_lem opened k f (done_effect k k.calls rest ready kept) later (lives_on_lem opened k so_far v frame h some long lives) effect refl in
    let state : with_effect k f (done_effect k k.calls rest ready kept) ≡ k' = done_state k f r.stag r.to r.payload k.calls rest ready kept segment in
    let next : next_end_state (server_rules opened) (live k) (FrameReceived f) ≡ live k' = at.next ∙ ap (λ (t : ServerState). live t) state in
    let few : kept ≡ length (take 7 rest) = omega arith in
    let after : LinkState = side_after_done t (opening kept rest) (over_sinks k.calls rest (open_sinks k.regions)) in
    let last : TakesLast k f a rest opened t = takes_last opened k so_far v frame x rest h long r reads in
    let opens : t.reads ≡ later_responses (take kept rest) = last.reads ∙ ap later_responses (sym (taken_less kept rest few)) in
    let keeps : Keeps opened k' (behind so_far frame) (done_with v t k.calls (open_sinks k.regions) rest kept (map (λ q. q.xid) ready) payloads) =
    record {
      link = done_link opened k f a rest rest k.calls ready kept t last h.server.accesses h.server.offered (omega arith) refl refl (omega (arith, few, length-take 7 rest)) opens;
      input = record { awaited = refl; rest = refl; place = ap (λ (n : ℕ). n + length frame) h.input.place };
      begins = begun_behind v.link after h.begins some refl (omega arith);
      server = done_server k f a k.calls rest ready kept h.server (omega arith) holds;
      calls = refl;
      ready = ap (λ (xs : List ℕ). xs ++ map (λ q. q.xid) ready) h.ready ∙ sym (map-append (λ (q : ReadyCall). q.xid) k.ready ready);
      credits = h.credits;
      reads = refl;
      sinks = sym (open_left k.calls rest f.end k.regions);
      payloads = has;
      quiet = λ e. absurd (omega (arith, e, some));
    } in
    let value : ResponderSide = done_with v t v.calls v.fetching.sinks rest kept (map (λ q. q.xid) ready) payloads in
    let kept_now : Keeps opened k' (behind so_far frame) value =
    subst (λ (w : ResponderSide). Keeps opened k' (behind so_far frame) w) (λ i. done_with v t (sym h.calls i) (sym h.sinks i) rest kept (map (λ q. q.xid) ready) payloads) keeps in
    record {
      keeps = subst (λ (e : EndState ServerState). KeepsEnd opened e (behind so_far frame) value) (sym next) (inl (refl, kept_now));
      output = requested_queue k.requests_sent (opening kept rest) s.send_queue h.link.queue.requests_are ∙ ap (λ (bytes : List ℕ). queued_bytes s.send_queue ++ bytes) (sym at.due);
    }

-- ---- By what was made of the read

-- what the side says of the call of the read is what the server says
pub record Same (k : ServerState) (v : ResponderSide) (f : Frame) (a : TaggedSegment) (x : PendingRead) (rest : List PendingRead) (t : LinkState) (c : PendingCall) : Type 0 where
  pub found : call_of_number k x.number ≡ Some c
  pub bad : is_bad_stream (heard k a) f.end c x rest ≡ has_bad_chunk (on_link v (record { awaited = Fpdu; rest = []; state = t })) c x rest
  pub payload : pending_payload (heard k a) f.end c ≡ read_payload (on_link v (record { awaited = Fpdu; rest = []; state = t })) c

pub found_same : (k : ServerState) (v : ResponderSide) (x : PendingRead) (o : Option PendingCall) → v.calls ≡ k.calls → find (λ c. eqb c.number x.number) v.calls ≡ o → call_of_number k x.number ≡ o
found_same k v x o same is = ap (λ (cs : List PendingCall). find (λ c. eqb c.number x.number) cs) (sym same) ∙ is

pub same_as : (opened : LinkParameters) (k : ServerState) (so_far : InputState) (v : ResponderSide) (frame : List ℕ) (x : PendingRead) (rest : List PendingRead) (c : PendingCall) → Keeps opened k so_far v → 0 < length frame → (r : IsResponse v.link.state frame) → k.reads ≡ x ∷ rest →
    find (λ c. eqb c.number x.number) v.calls ≡ Some c →
    Same k v (next_frame v.link.state frame) (response_access v.link.state frame r.stag r.to r.payload) x rest (done_side v.link.state frame r.stag r.to r.payload) c
same_as opened k so_far v frame x rest c h long r reads is =
    let s : LinkState = v.link.state in
    let a : TaggedSegment = response_access s frame r.stag r.to r.payload in
    let place : ℕ = s.place + length frame in
    let m : RegisteredMemory = after_place s.memory r.stag r.to r.payload in
    let found : call_of_number k x.number ≡ Some c = found_same k v x (Some c) h.calls is in
    let offered : AreOffered place k.regions = offered_later s.place place k.regions (omega arith) h.server.offered in
    let holds : HoldsRegions k.regions (k.accesses_received ++ a ∷ []) place m = response_memory opened k s frame r.stag r.to r.payload h.link h.server long r.allowed in
    record {
      found = found;
      bad = λ i. is_stream_read c x rest && not (is_read_chunk_of_item ((sinks_hold k s.place place 0 a x rest c m reads found h.server offered holds ∙ ap (λ (sinks : List SinkRegion). sink_bytes m sinks c.number 0) (sym h.sinks)) i) c.lists.read);
      payload = payload_is_read k s.place place a x rest c m reads found h.server offered holds ∙ ap (λ (sinks : List SinkRegion). call_conveyed c.inline c.lists.read (sink_bytes m sinks c.number)) (sym h.sinks);
    }

-- the effect before the call is looked at
open_same : (k : ServerState) (x : PendingRead) (rest : List PendingRead) → k.reads ≡ x ∷ rest → read_off k rest ≡ done_effect k k.calls rest [] (still_open x rest)
open_same k x rest reads = ap (λ (rs : List PendingRead). done_effect k k.calls rest [] (length (take 8 rs) - 1)) reads

ready_same : (k : ServerState) (x : PendingRead) (rest : List PendingRead) (q : ReadyCall) → k.reads ≡ x ∷ rest → done_effect k k.calls rest (q ∷ []) (length (open_reads k) - 1) ≡ done_effect k k.calls rest (q ∷ []) (still_open x rest)
ready_same k x rest q reads = ap (λ (rs : List PendingRead). done_effect k k.calls rest (q ∷ []) (length (take 8 rs) - 1)) reads

-- nothing becomes ready
pub nothing_effect : (opened : LinkParameters) (k : ServerState) (so_far : InputState) (v : ResponderSide) (frame : List ℕ) (x : PendingRead) (rest : List PendingRead) → Keeps opened k so_far v → 0 < length frame → (r : IsResponse v.link.state frame) → r.last ≡ true → k.reads ≡ x ∷ rest →
    NothingReady (on_link v (record { awaited = Fpdu; rest = []; state = done_side v.link.state frame r.stag r.to r.payload })) x rest →
    frame_effect k (next_frame v.link.state frame) ≡ done_effect k k.calls rest [] (still_open x rest)
unfolding frame_segment
nothing_effect opened k so_far v frame x rest h long r is reads (Gone none) =
    let a : TaggedSegment = response_access v.link.state frame r.stag r.to r.payload in
    last_effect k (next_frame v.link.state frame) r.stag r.to r.payload x rest (response_reads v.link.state frame r true is) reads
    ∙ call_gone k (heard k a) (v.link.state.place + length frame) x rest (found_same k v x None h.calls none)
    ∙ open_same k x rest reads
nothing_effect opened k so_far v frame x rest h long r is reads (Waits c fine more) =
    let a : TaggedSegment = response_access v.link.state frame r.stag r.to r.payload in
    let same = same_as opened k so_far v frame x rest c h long r reads fine.found in
    last_effect k (next_frame v.link.state frame) r.stag r.to r.payload x rest (response_reads v.link.state frame r true is) reads
    ∙ call_waits k (heard k a) (v.link.state.place + length frame) x rest c same.found (same.bad ∙ fine.fine) more
    ∙ open_same k x rest reads

ready_call_of : {v : ResponderSide} {x : PendingRead} {rest : List PendingRead} → MakesReady v x rest → ReadyCall
ready_call_of m = record { number = m.call.number; xid = m.call.xid; payload = m.payload }

pub ready_effect : (opened : LinkParameters) (k : ServerState) (so_far : InputState) (v : ResponderSide) (frame : List ℕ) (x : PendingRead) (rest : List PendingRead) → Keeps opened k so_far v → 0 < length frame → (r : IsResponse v.link.state frame) → r.last ≡ true → k.reads ≡ x ∷ rest →
    (m : MakesReady (on_link v (record { awaited = Fpdu; rest = []; state = done_side v.link.state frame r.stag r.to r.payload })) x rest) →
    frame_effect k (next_frame v.link.state frame) ≡ done_effect k k.calls rest (record { number = m.call.number; xid = m.call.xid; payload = m.payload } ∷ []) (still_open x rest)
unfolding frame_segment
ready_effect opened k so_far v frame x rest h long r is reads m =
    let a : TaggedSegment = response_access v.link.state frame r.stag r.to r.payload in
    let q : ReadyCall = record { number = m.call.number; xid = m.call.xid; payload = m.payload } in
    let same = same_as opened k so_far v frame x rest m.call h long r reads m.complete.fine.found in
    last_effect k (next_frame v.link.state frame) r.stag r.to r.payload x rest (response_reads v.link.state frame r true is) reads
    ∙ call_ready k (heard k a) (v.link.state.place + length frame) x rest m.call q same.found (same.bad ∙ m.complete.fine.fine) m.complete.read (ap (by_payload m.call) same.payload ∙ m.judged)
    ∙ ready_same k x rest q reads

-- the payload ends the link
pub stops_effect : (opened : LinkParameters) (k : ServerState) (so_far : InputState) (v : ResponderSide) (frame : List ℕ) (x : PendingRead) (rest : List PendingRead) (reason : ℕ) → Keeps opened k so_far v → 0 < length frame → (r : IsResponse v.link.state frame) → r.last ≡ true → k.reads ≡ x ∷ rest →
    EndsLink (on_link v (record { awaited = Fpdu; rest = []; state = done_side v.link.state frame r.stag r.to r.payload })) x rest reason →
    (frame_effect k (next_frame v.link.state frame)).refusal ≡ Some reason
unfolding frame_segment
stops_effect opened k so_far v frame x rest reason h long r is reads m =
    let a : TaggedSegment = response_access v.link.state frame r.stag r.to r.payload in
    let same = same_as opened k so_far v frame x rest m.call h long r reads m.complete.fine.found in
    ap (λ (e : FrameEffect). e.refusal) (last_effect k (next_frame v.link.state frame) r.stag r.to r.payload x rest (response_reads v.link.state frame r true is) reads)
    ∙ call_stops k (heard k a) (v.link.state.place + length frame) x rest m.call reason same.found (same.bad ∙ m.complete.fine.fine) m.complete.read (ap (by_payload m.call) same.payload ∙ m.judged)

pub done_stopped : (opened : LinkParameters) (k : ServerState) (so_far later_input : InputState) (v : ResponderSide) (frame : List ℕ) (reason : ℕ) (fetching : Fetching) → Keeps opened k so_far v → 0 < v.link.state.place → 0 < length frame → (with_frame v.link.state Fpdu frame).ended ≡ None →
    (r : IsResponse v.link.state frame) → (frame_effect k (next_frame v.link.state frame)).refusal ≡ Some reason → 5 ≤ reason →
    TakesFrame opened k later_input (next_frame v.link.state frame) v
    (ended_as v (record { awaited = Fpdu; rest = []; state = with_end_of (ends.Bad v.link.state.place reason) (done_side v.link.state frame r.stag r.to r.payload) }) fetching)
done_stopped opened k so_far later_input v frame reason fetching h some long lives r refusal other =
    let s : LinkState = v.link.state in
    let f : Frame = next_frame s frame in
    let end : End = ends.Bad s.place reason in
    let t : LinkState = done_side s frame r.stag r.to r.payload in
    let later : is_hello f ≡ false = later_frame s.place some in
    let at = refuses opened k f (frame_effect k f) reason later (lives_on_lem opened k so_far v frame h some long lives) refl refusal in
    let last : queued_bytes (with_end s.side end s.send_queue) ≡ queued_bytes s.send_queue ++ last_output Responder end =
    (λ i. queued_bytes (with_end (h.link.side i) end s.send_queue))
    ∙ last_queue end s.send_queue (λ (n : ℕ) (e : end ≡ ends.Bad n REASON_FLAGS). absurd (let r : reason ≡ REASON_FLAGS = cc in omega (arith, r, other))) in
    record {
      keeps = inr (record {
        over = ap (λ (e : EndState ServerState). is_some e.ended) at.next;
        why = sym (ap (λ (e : EndState ServerState). e.ended) at.next);
        calls = h.calls ∙ sym (ap (λ (e : EndState ServerState). e.state.calls) at.next);
        ready = h.ready ∙ sym (ap (λ (e : EndState ServerState). map (λ (r : ReadyCall). r.xid) e.state.ready) at.next);
        credits = h.credits ∙ sym (ap (λ (e : EndState ServerState). grant_of e.state) at.next);
        agreed = subst (λ (e : EndState ServerState). KeepsAgreed e.state s.agreed) (sym at.next) (keeps_agreed opened k s s.place h.link h.server);
        sendable =
            ap (λ (x : Side). writable s.has_hello (with_end x end s.send_queue)) h.link.side
            ∙ sendable_ended s.has_hello end s.send_queue (λ e. absurd (let two : true ≡ false = sym (greeted_link v.link s h.begins some refl) ∙ e in cc))
            ∙ sym (ap (λ (x : Side). queued_bytes (with_end x end s.send_queue)) h.link.side);
      });
      output = last ∙ ap (λ (bytes : List ℕ). queued_bytes s.send_queue ++ bytes) (sym at.due);
    }

pub no_more : (calls : List PendingCall) (ready : List ReadyCall) (payloads : List (Option (List ℕ))) → ArePayloads calls ready payloads → ArePayloads calls (ready ++ []) (payloads ++ [])
no_more calls ready payloads h =
    subst (λ (rs : List ReadyCall). ArePayloads calls rs (payloads ++ [])) (sym (append-nil ready)) (subst (λ (ps : List (Option (List ℕ))). ArePayloads calls ready ps) (sym (append-nil payloads)) h)

-- ---- It takes memory

some_requests : (n : ℕ) (reads : List PendingRead) → reads ≢ [] → requests_from n reads ≢ []
some_requests n [] some none = some refl
some_requests n (r ∷ reads) some none = some_bytes (read_request n r.sink r.at r.size r.stag r.to) (requests_from (n + 1) reads) (request_some n r.sink r.at r.size r.stag r.to) none
  where
    some_bytes : (xs ys : List ℕ) → 0 < length xs → xs ++ ys ≢ []
    some_bytes [] ys lt e = omega (arith, lt)
    some_bytes (x ∷ xs) ys lt e = absurd cc

some_errors : (n : ℕ) (message rest : List ℕ) → (send n message ++ []) ++ rest ≢ []
some_errors n message rest none =
    let len : length ((send n message ++ []) ++ rest) ≡ 0 = ap (λ (xs : List ℕ). length xs) none in
    absurd (omega (arith, len, send_some n message, length-append (send n message ++ []) rest, length-append (send n message) []))

pub read_outputs : (opened : LinkParameters) (k : ServerState) (so_far : InputState) (v : ResponderSide) (frame : List ℕ) (x : PendingRead) (rest : List PendingRead) → Keeps opened k so_far v → 0 < v.link.state.place → 0 < length frame → (with_frame v.link.state Fpdu frame).ended ≡ None →
    (r : IsResponse v.link.state frame) → r.last ≡ true → k.reads ≡ x ∷ rest → ReadTakes (on_link v (record { awaited = Fpdu; rest = []; state = done_side v.link.state frame r.stag r.to r.payload })) x rest →
    output_for (server_rules opened) (live k) (FrameReceived (next_frame v.link.state frame)) ≢ []
unfolding frame_segment
read_outputs opened k so_far v frame x rest h some long lives r is reads (Requests (inl nothing) opens) none =
    let f : Frame = next_frame v.link.state frame in
    let at = goes_on_lem opened k f (done_effect k k.calls rest [] (still_open x rest)) (later_frame v.link.state.place some) (lives_on_lem opened k so_far v frame h some long lives) (nothing_effect opened k so_far v frame x rest h long r is reads nothing) refl in
    some_requests (k.requests_sent + 1) (opening (still_open x rest) rest) opens (sym at.due ∙ none)
read_outputs opened k so_far v frame x rest h some long lives r is reads (Requests (inr m) opens) none =
    let f : Frame = next_frame v.link.state frame in
    let q : ReadyCall = record { number = m.call.number; xid = m.call.xid; payload = m.payload } in
    let at = goes_on_lem opened k f (done_effect k k.calls rest (q ∷ []) (still_open x rest)) (later_frame v.link.state.place some) (lives_on_lem opened k so_far v frame h some long lives) (ready_effect opened k so_far v frame x rest h long r is reads m) refl in
    some_requests (k.requests_sent + 1) (opening (still_open x rest) rest) opens (sym at.due ∙ none)
read_outputs opened k so_far v frame x rest h some long lives r is reads (Terminates reason other m) none =
    let f : Frame = next_frame v.link.state frame in
    let at = refuses opened k f (frame_effect k f) reason (later_frame v.link.state.place some) (lives_on_lem opened k so_far v frame h some long lives) refl (stops_effect opened k so_far v frame x rest reason h long r is reads m) in
    last_some f.at reason other (sym at.due ∙ none)
read_outputs opened k so_far v frame x rest h some long lives r is reads (Answers c) none =
    let s : LinkState = v.link.state in
    let f : Frame = next_frame s frame in
    let a : TaggedSegment = response_access s frame r.stag r.to r.payload in
    let same = same_as opened k so_far v frame x rest c.call h long r reads c.found in
    let effect : frame_effect k f ≡ with_refused_call (heard k a) c.call (read_off k rest) =
    last_effect k f r.stag r.to r.payload x rest (response_reads s frame r true is) reads ∙ call_refused k (heard k a) f.end x rest c.call same.found (same.bad ∙ c.bad) in
    let at = goes_on_lem opened k f (with_refused_call (heard k a) c.call (read_off k rest)) (later_frame s.place some) (lives_on_lem opened k so_far v frame h some long lives) effect refl in
    some_errors (k.messages_queued + 1) (chunk_error c.call.xid (credit_word (heard k a))) (requests_from (k.requests_sent + 1) (newly_open_reads (with_refused_call (heard k a) c.call (read_off k rest)))) (sym at.due ∙ none)
