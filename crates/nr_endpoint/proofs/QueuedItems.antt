-- The items that a frame, some frames and a call queue.
use Rattle.std.proofs.Common.{◌≡◌, ℕ, ◌<◌, Bool, true, false, cond, not, List, [], ◌∷◌, ◌++◌, length, take, Option, Some, None, Result, Ok, Err, IfSome, inl, inr, refl, sym, ap, subst, ◌∙◌, append_assoc, eqb, ne_eqb, arith}
use Rattle.std.specs.Prelude.{is_some, IfErr, ◌≢◌}
use Rattle.std.proofs.lemmas.List.{append-nil}
use Rattle.nr_wire.specs.Constants.{OPCODE_READ_RESPONSE, REASON_FLAGS}
use Rattle.nr_wire.specs.declared.hello.Side.{Side}
use Rattle.nr_wire.specs.declared.hello.Side.TheVariants.{Initiator, Responder}
use Rattle.nr_wire.specs.declared.stream.Awaited.{Awaited}
use Rattle.nr_wire.specs.declared.stream.Awaited.TheVariants.{Hello as HelloFrom, Fpdu}
use Rattle.nr_wire.specs.Hello.{Hello, hello_of, peer}
use Rattle.nr_wire.specs.Segment.{Segment}
use Rattle.nr_wire.specs.Segment.Segment.{Tagged, Untagged}
use Rattle.nr_wire.specs.Stream.{is_whole, frame_len, Split, split}
use Rattle.nr_wire.specs.Feeding.{feeding_after, feeding_after_step, feeding_after_frames}
use Rattle.nr_wire.proofs.Feedings.{feeding_after_step-ended, feeding_after_step-whole, feeding_after_step-partial}
use Rattle.nr_wire.proofs.Splits.{split_whole, split_partial}
use Rattle.nr_regions.specs.RegisteredMemory.{RegisteredMemory, after_place, bytes_at}
use Rattle.nr_link.specs.declared.agreement.SideTerms.{SideTerms}
use Rattle.nr_link.specs.declared.agreement.Agreement.{Agreement}
use Rattle.nr_link.specs.declared.end.End.{End}
use Rattle.nr_link.specs.declared.end.End.TheVariants as ends
use Rattle.nr_link.specs.Frames.{Frame}
use Rattle.nr_link.specs.Output.{hello_with, refusing_hello, terminate_message}
use Rattle.nr_link.specs.ReceiveState.{ReadRequest, read_request_of}
use Rattle.nr_link.specs.Ending.{rejection}
use Rattle.nr_link.specs.OutputItem.{OutputItem}
use Rattle.nr_link.specs.OutputItem.OutputItem.{SendItem, SendInvalidateItem, WriteItem, ReadRequestItem, ReadResponseItem, LastItem}
use Rattle.nr_endpoint.specs.SendQueue.{SendQueue, with_end, with_response, with_send, with_send_by, with_held, with_held_sent, with_write, with_request, next_number, writable}
use Rattle.nr_endpoint.specs.Hellos.{own_private, first_private}
use Rattle.nr_endpoint.specs.LinkState.{LinkState, LinkSide, has_ended, initial_link}
use Rattle.nr_endpoint.specs.Judging.{segment_end, next_frame, with_frame, with_segment_by, with_fpdu, with_peer_hello, with_effect, with_read_request, with_read_response, reply_hello, fetch_access, next_segment, with_other_sizes}
use Rattle.nr_endpoint.specs.Calls.{Call, IsStopReason, after_call, after_calls}
use Rattle.nr_endpoint.specs.Calls.Call.{Feed, FeedOne, NextEvent, Post, Stop, OutOfMemory, Send, WriteRemote, ReadRemote, Drain, Register, Release, SendInvalidate, Hold, SendHeld, Invalidate}
use Rattle.nr_endpoint.specs.Laws.{IsFrameReason, IsFrameEnd, frames_made_whole, bytes_drained, bytes_written, IsHelloReason}
use Rattle.nr_endpoint.specs.OutputLaws.{response_items, segment_items, fpdu_items, hello_items, frame_items, items_of_frames, call_items, items_queued, rejection_by, hello_queued, own_output_hello, IsAllowedCall, AreAllowedCalls, OutputIsItems, SendsGoByItems, SendsWaitByItems, ResponsesGoByItems, sizes_refused}
use Rattle.nr_endpoint.proofs.EndLaws.{segment_end_is, fpdu_reason, reason_of_hello, no_sizes_stop}
use Rattle.nr_endpoint.proofs.OutputItems.{QueueIs, HasItem, with_item, with_greeting, with_written, output_whole, sends_count, responses_count, waiting_count}
use Rattle.nr_endpoint.proofs.HellosFrom.{hello_by}
use Rattle.nr_link.specs.Reasons.{REASON_SIZES}

-- whether the peer's hello comes next
abbrev pub awaits_hello : Awaited → Bool
awaits_hello (HelloFrom side) = true
awaits_hello Fpdu = false

-- it is its peer's hello that a side awaits
abbrev pub IsOfPeer : Side → Awaited → Type 0
IsOfPeer side (HelloFrom other) = other ≡ peer side
IsOfPeer side Fpdu = Unit {0}

-- A side whose output is these items. While it hasn't ended, it awaits the peer's hello exactly until that was accepted.
pub record OutputIs (out : List ℕ) (items : List OutputItem) (a : Awaited) (s : LinkState) : Type 0 where
  pub from : IsOfPeer s.side a
  pub awaits : has_ended s ≡ false → s.has_hello ≡ not (awaits_hello a)
  pub queue : QueueIs (own_output_hello s) s.has_hello out items s.send_queue

-- ---- One item

send_item : (q : SendQueue) (message : List ℕ) → HasItem q (SendItem (next_number q.last_send) message) (with_send message q)
send_item q message = record { hello = refl; fpdus = refl; sends = refl; responses = sym (append-nil q.response_ends); left = refl }

send_invalidate_item : (q : SendQueue) (stag : ℕ) (message : List ℕ) → HasItem q (SendInvalidateItem (next_number q.last_send) stag message) (with_send_by (Some stag) message q)
send_invalidate_item q stag message = record { hello = refl; fpdus = refl; sends = refl; responses = sym (append-nil q.response_ends); left = refl }

held_item : (q : SendQueue) (message : List ℕ) → HasItem q (SendItem (next_number q.last_send) message) (with_held_sent message q)
held_item q message = record { hello = refl; fpdus = refl; sends = refl; responses = sym (append-nil q.response_ends); left = refl }

write_item : (q : SendQueue) (stag to : ℕ) (bytes : List ℕ) → HasItem q (WriteItem stag to bytes) (with_write stag to bytes q)
write_item q stag to bytes = record { hello = refl; fpdus = refl; sends = sym (append-nil q.send_ends); responses = sym (append-nil q.response_ends); left = refl }

request_item : (q : SendQueue) (sink at len stag to : ℕ) → HasItem q (ReadRequestItem (next_number q.last_request) sink at len stag to) (with_request sink at len stag to q)
request_item q sink at len stag to = record { hello = refl; fpdus = refl; sends = sym (append-nil q.send_ends); responses = sym (append-nil q.response_ends); left = refl }

response_item : (q : SendQueue) (stag to : ℕ) (bytes : List ℕ) → HasItem q (ReadResponseItem stag to bytes) (with_response stag to bytes q)
response_item q stag to bytes = record { hello = refl; fpdus = refl; sends = sym (append-nil q.send_ends); responses = refl; left = refl }

last_item_lem : (side : Side) (end : End) (q : SendQueue) → rejection side end ≡ [] → HasItem q (LastItem end) (with_end side end q)
unfolding with_end
last_item_lem side end q none = record {
  hello = ap (λ (bytes : List ℕ). q.hello ++ bytes) none ∙ append-nil q.hello;
  fpdus = refl;
  sends = sym (append-nil q.send_ends);
  responses = sym (append-nil q.response_ends);
  left = refl;
}

-- the last output of a side that still awaits the hello, which may reject it
last_greeting : (side : Side) (end : End) (q : SendQueue) → HasItem (record q { hello = q.hello ++ rejection side end }) (LastItem end) (with_end side end q)
unfolding with_end
last_greeting side end q = record { hello = refl; fpdus = refl; sends = sym (append-nil q.send_ends); responses = sym (append-nil q.response_ends); left = refl }

-- ---- The hello

-- the hello of a side, by whether the peer's was accepted and why it ended
abbrev hello_for : LinkState → Bool → Option End → List ℕ
hello_for s = hello_queued s.side s.terms s.private

-- once the peer's hello was accepted, all of its own was queued
same_hello : (side : Side) (terms : SideTerms) (private : List ℕ) (has : Bool) (e f : Option End) → has ≡ true → hello_queued side terms private has e ≡ hello_queued side terms private has f
same_hello Initiator terms private has e f is =
    let own : List ℕ = hello_with Initiator (first_private terms Initiator) in
    ap (λ (b : Bool). own ++ cond b [] (sizes_refused e)) is ∙ sym (ap (λ (b : Bool). own ++ cond b [] (sizes_refused f)) is)
same_hello Responder terms private has e f is =
    ap (λ (b : Bool). cond b (hello_with Responder private) (rejection_by Responder e)) is ∙ sym (ap (λ (b : Bool). cond b (hello_with Responder private) (rejection_by Responder f)) is)

-- an end with no rejection
ended_hello : (side : Side) (terms : SideTerms) (private : List ℕ) (has : Bool) (end : End) → rejection side end ≡ [] → sizes_refused (Some end) ≡ [] → hello_queued side terms private has (Some end) ≡ hello_queued side terms private has None
ended_hello Initiator terms private has end none kept = ap (λ (bytes : List ℕ). hello_with Initiator (first_private terms Initiator) ++ cond has [] bytes) kept
ended_hello Responder terms private has end none kept = ap (λ (bytes : List ℕ). cond has (hello_with Responder private) bytes) none

replied : (side : Side) (terms : SideTerms) (before private : List ℕ) → hello_queued side terms before false None ++ reply_hello side private ≡ hello_queued side terms private true None
replied Initiator terms before private = append-nil (hello_with Initiator (first_private terms Initiator) ++ [])
replied Responder terms before private = refl

rejected : (side : Side) (terms : SideTerms) (private : List ℕ) (end : End) → sizes_refused (Some end) ≡ [] → hello_queued side terms private false None ++ rejection side end ≡ hello_queued side terms private false (Some end)
rejected Initiator terms private end kept =
    append-nil (hello_with Initiator (first_private terms Initiator) ++ []) ∙ sym (ap (λ (bytes : List ℕ). hello_with Initiator (first_private terms Initiator) ++ bytes) kept)
rejected Responder terms private end kept = refl

refused : (terms : SideTerms) (private : List ℕ) (at : ℕ) → hello_queued Initiator terms private false None ++ terminate_message REASON_SIZES ≡ hello_queued Initiator terms private false (Some (ends.Bad at REASON_SIZES))
refused terms private at = ap (λ (bytes : List ℕ). bytes ++ terminate_message REASON_SIZES) (append-nil (hello_with Initiator (first_private terms Initiator)))

-- a reason other than that of the lengths
other_sizes : (reason : ℕ) → reason ≢ REASON_SIZES → cond (eqb reason REASON_SIZES) (terminate_message REASON_SIZES) [] ≡ []
other_sizes reason other = ap (λ (b : Bool). cond b (terminate_message REASON_SIZES) []) (ne_eqb reason REASON_SIZES other)

not_ended_lem : (e : Option End) → is_some e ≡ false → e ≡ None
not_ended_lem None is = refl
not_ended_lem (Some end) is = absurd cc

-- ---- A frame

hello_output : (side : Side) (out : List ℕ) (items : List OutputItem) (s : LinkState) (f : Frame) (r : Result Hello ℕ) → IfErr r IsHelloReason → has_ended s ≡ false →
    OutputIs out items (HelloFrom side) s → OutputIs out (items ++ hello_items f r) Fpdu (with_peer_hello f r s)
unfolding with_peer_hello
hello_output side out items s f (Ok hello) reasons live is =
    let own : List ℕ = own_private s.terms s.side hello.private in
    let before : QueueIs (hello_queued s.side s.terms s.private false None) false out items s.send_queue =
    subst (λ (e : Option End). QueueIs (hello_queued s.side s.terms s.private false e) false out items s.send_queue) (not_ended_lem s.ended live)
    (subst (λ (b : Bool). QueueIs (hello_queued s.side s.terms s.private b s.ended) b out items s.send_queue) (is.awaits live) is.queue) in
    let more : QueueIs (hello_queued s.side s.terms s.private false None ++ reply_hello s.side own) true out items (record s.send_queue { hello = s.send_queue.hello ++ reply_hello s.side own }) =
    with_greeting (hello_queued s.side s.terms s.private false None) (reply_hello s.side own) true out items s.send_queue _ refl before in
    record {
      from = tt;
      awaits = λ going. refl;
      queue = subst (λ (list : List OutputItem). QueueIs (hello_queued s.side s.terms own true s.ended) true out list (record s.send_queue { hello = s.send_queue.hello ++ reply_hello s.side own })) (sym (append-nil items))
          (subst (λ (bytes : List ℕ). QueueIs bytes true out items (record s.send_queue { hello = s.send_queue.hello ++ reply_hello s.side own }))
          (replied s.side s.terms s.private own ∙ ap (λ (e : Option End). hello_queued s.side s.terms own true e) (sym (not_ended_lem s.ended live))) more);
    }
hello_output side out items s f (Err reason) reasons live is =
    let end : End = ends.Bad f.at reason in
    let before : QueueIs (hello_queued s.side s.terms s.private false None) false out items s.send_queue =
    subst (λ (e : Option End). QueueIs (hello_queued s.side s.terms s.private false e) false out items s.send_queue) (not_ended_lem s.ended live)
    (subst (λ (b : Bool). QueueIs (hello_queued s.side s.terms s.private b s.ended) b out items s.send_queue) (is.awaits live) is.queue) in
    let more : QueueIs (hello_queued s.side s.terms s.private false None ++ rejection s.side end) false out items (record s.send_queue { hello = s.send_queue.hello ++ rejection s.side end }) =
    with_greeting (hello_queued s.side s.terms s.private false None) (rejection s.side end) false out items s.send_queue _ refl before in
    let all : QueueIs (hello_queued s.side s.terms s.private false (Some end)) false out (items ++ LastItem end ∷ []) (with_end s.side end s.send_queue) =
    subst (λ (bytes : List ℕ). QueueIs bytes false out (items ++ LastItem end ∷ []) (with_end s.side end s.send_queue)) (rejected s.side s.terms s.private end (other_sizes reason (λ e. omega (arith, e, reasons.1))))
    (with_item (hello_queued s.side s.terms s.private false None ++ rejection s.side end) false out items (record s.send_queue { hello = s.send_queue.hello ++ rejection s.side end }) (with_end s.side end s.send_queue) (LastItem end)
    (last_greeting s.side end s.send_queue) more) in
    record {
      from = tt;
      awaits = λ going. absurd (let h : true ≡ false = going in cc);
      queue = subst (λ (b : Bool). QueueIs (hello_queued s.side s.terms s.private b (Some end)) b out (items ++ LastItem end ∷ []) (with_end s.side end s.send_queue)) (sym (is.awaits live)) all;
    }

-- an initiator that refuses the lengths of Sends that the hello agrees on
sizes_output : (out : List ℕ) (items : List OutputItem) (s : LinkState) (f : Frame) → has_ended s ≡ false → OutputIs out items (HelloFrom Responder) s → OutputIs out items Fpdu (with_other_sizes f s)
sizes_output out items s f live is =
    let end : End = ends.Bad f.at REASON_SIZES in
    let own : s.side ≡ Initiator = initiator s.side is.from in
    let before : QueueIs (hello_queued Initiator s.terms s.private false None) false out items s.send_queue =
    subst (λ (side : Side). QueueIs (hello_queued side s.terms s.private false None) false out items s.send_queue) own
    (subst (λ (e : Option End). QueueIs (hello_queued s.side s.terms s.private false e) false out items s.send_queue) (not_ended_lem s.ended live)
    (subst (λ (b : Bool). QueueIs (hello_queued s.side s.terms s.private b s.ended) b out items s.send_queue) (is.awaits live) is.queue)) in
    let more : QueueIs (hello_queued Initiator s.terms s.private false None ++ terminate_message REASON_SIZES) false out items (record s.send_queue { hello = s.send_queue.hello ++ terminate_message REASON_SIZES }) =
    with_greeting (hello_queued Initiator s.terms s.private false None) (terminate_message REASON_SIZES) false out items s.send_queue _ refl before in
    let all : QueueIs (hello_queued Initiator s.terms s.private false (Some end)) false out items (record s.send_queue { hello = s.send_queue.hello ++ terminate_message REASON_SIZES }) =
    subst (λ (bytes : List ℕ). QueueIs bytes false out items (record s.send_queue { hello = s.send_queue.hello ++ terminate_message REASON_SIZES })) (refused s.terms s.private f.at) more in
    record {
      from = tt;
      awaits = λ going. absurd (let h : true ≡ false = going in cc);
      queue =
          subst (λ (side : Side). QueueIs (hello_queued side s.terms s.private s.has_hello (Some end)) s.has_hello out items (record s.send_queue { hello = s.send_queue.hello ++ terminate_message REASON_SIZES })) (sym own)
          (subst (λ (b : Bool). QueueIs (hello_queued Initiator s.terms s.private b (Some end)) b out items (record s.send_queue { hello = s.send_queue.hello ++ terminate_message REASON_SIZES })) (sym (is.awaits live)) all);
    }
  where
    initiator : (side : Side) → Responder ≡ peer side → side ≡ Initiator
    initiator Initiator is = refl
    initiator Responder is = absurd (let h : Responder ≡ Initiator = is in cc)

other_reason : (reason : ℕ) → REASON_FLAGS < reason → cond (eqb reason REASON_FLAGS) refusing_hello [] ≡ []
other_reason reason more = ap (λ (b : Bool). cond b refusing_hello []) (ne_eqb reason REASON_FLAGS (λ e. omega (arith, more, e)))

-- an end of an FPDU has no rejection
no_rejection : (side : Side) (place : ℕ) (end : End) → IsFrameEnd Fpdu place end → rejection side end ≡ []
no_rejection Initiator place end is = refl
no_rejection Responder place (ends.Bad at reason) (same, inl (low, high)) = other_reason reason (omega (arith, low))
no_rejection Responder place (ends.Bad at reason) (same, inr long) = other_reason reason (omega (arith, long))
no_rejection Responder place (ends.Denied stag offset why) is = refl
no_rejection Responder place (ends.NoBuffer msn) is = refl
no_rejection Responder place (ends.Terminated reason) is = refl
no_rejection Responder place ends.Memory is = absurd is

-- a live side that awaits an FPDU ends
fpdu_ended : (out : List ℕ) (items : List OutputItem) (s : LinkState) (end : End) → has_ended s ≡ false → rejection s.side end ≡ [] → s.has_hello ≡ true →
    OutputIs out items Fpdu s → QueueIs (hello_queued s.side s.terms s.private s.has_hello (Some end)) s.has_hello out (items ++ LastItem end ∷ []) (with_end s.side end s.send_queue)
fpdu_ended out items s end live none has is =
    subst (λ (bytes : List ℕ). QueueIs bytes s.has_hello out (items ++ LastItem end ∷ []) (with_end s.side end s.send_queue)) (same_hello s.side s.terms s.private s.has_hello s.ended (Some end) has)
    (with_item (own_output_hello s) s.has_hello out items s.send_queue (with_end s.side end s.send_queue) (LastItem end) (last_item_lem s.side end s.send_queue none) is.queue)

-- the fields that an effect keeps, and what it queues
pub record EffectQueues (s : LinkState) (segment : Segment) (after : LinkState) : Type 0 where
  pub side : after.side ≡ s.side
  pub own : hello_for after ≡ hello_for s
  pub has : after.has_hello ≡ s.has_hello
  pub ended : after.ended ≡ s.ended
  pub queue : after.send_queue ≡ with_read_request (read_request_of segment) s.memory s.send_queue

placed_queues : (s : LinkState) (b last : Bool) (n : ℕ) (stag to : ℕ) (payload : List ℕ) (opcode : ℕ) → EffectQueues s (Tagged last opcode stag to payload)
    (cond b (with_read_response last n (record s { memory = after_place s.memory stag to payload })) (record s { memory = after_place s.memory stag to payload }))
placed_queues s true last n stag to payload opcode = record { side = refl; own = refl; has = refl; ended = refl; queue = refl }
placed_queues s false last n stag to payload opcode = record { side = refl; own = refl; has = refl; ended = refl; queue = refl }

pub effect_queues : (s : LinkState) (segment : Segment) → EffectQueues s segment (with_effect segment s)
unfolding with_effect
effect_queues s (Tagged last opcode stag to payload) = placed_queues s (eqb opcode OPCODE_READ_RESPONSE) last (length payload) stag to payload opcode
effect_queues s (Untagged last opcode w queue msn offset payload) = record { side = refl; own = refl; has = refl; ended = refl; queue = refl }

response_queue : (all : List ℕ) (has : Bool) (out : List ℕ) (items : List OutputItem) (m : RegisteredMemory) (q : SendQueue) (r : Option ReadRequest) → QueueIs all has out items q →
    QueueIs all has out (items ++ response_items m r) (with_read_request r m q)
response_queue all has out items m q None is = subst (λ (list : List OutputItem). QueueIs all has out list q) (sym (append-nil items)) is
response_queue all has out items m q (Some r) is =
    with_item all has out items q (with_response r.sink r.sink_to (bytes_at m (fetch_access r)) q) (ReadResponseItem r.sink r.sink_to (bytes_at m (fetch_access r)))
    (response_item q r.sink r.sink_to (bytes_at m (fetch_access r))) is

segment_output : (out : List ℕ) (items : List OutputItem) (s : LinkState) (f : Frame) (segment : Segment) (e : Option End) → has_ended s ≡ false → IfSome e (IsFrameEnd Fpdu f.at) →
    OutputIs out items Fpdu s → OutputIs out (items ++ segment_items s segment e) Fpdu (with_segment_by f segment e s)
segment_output out items s f segment (Some end) live of_frame is = record {
  from = tt;
  awaits = λ going. absurd (let h : true ≡ false = going in cc);
  queue = fpdu_ended out items s end live (no_rejection s.side f.at end of_frame) (is.awaits live) is;
}
segment_output out items s f segment None live of_frame is =
    let e : EffectQueues s segment (with_effect segment s) = effect_queues s segment in
    record {
      from = tt;
      awaits = λ going. e.has ∙ is.awaits live;
      queue = subst (λ (q : SendQueue). QueueIs (hello_for (with_effect segment s) (with_effect segment s).has_hello (with_effect segment s).ended) (with_effect segment s).has_hello out
          (items ++ response_items s.memory (read_request_of segment)) q) (sym e.queue)
          (subst (λ (k : Bool → Option End → List ℕ). QueueIs (k (with_effect segment s).has_hello (with_effect segment s).ended) (with_effect segment s).has_hello out
          (items ++ response_items s.memory (read_request_of segment)) (with_read_request (read_request_of segment) s.memory s.send_queue)) (sym e.own)
          (subst (λ (b : Bool). QueueIs (hello_for s b (with_effect segment s).ended) b out
          (items ++ response_items s.memory (read_request_of segment)) (with_read_request (read_request_of segment) s.memory s.send_queue)) (sym e.has)
          (subst (λ (x : Option End). QueueIs (hello_queued s.side s.terms s.private s.has_hello x) s.has_hello out
          (items ++ response_items s.memory (read_request_of segment)) (with_read_request (read_request_of segment) s.memory s.send_queue)) (sym e.ended)
          (response_queue (own_output_hello s) s.has_hello out items s.memory s.send_queue (read_request_of segment) is.queue))));
    }

fpdu_output : (out : List ℕ) (items : List OutputItem) (s : LinkState) (f : Frame) (r : Result Segment ℕ) → has_ended s ≡ false → IfErr r (IsFrameReason Fpdu) →
    OutputIs out items Fpdu s → OutputIs out (items ++ fpdu_items s f r) Fpdu (with_fpdu f r s)
unfolding with_fpdu
fpdu_output out items s f (Ok segment) live reasons is = segment_output out items s f segment (segment_end s f segment) live (segment_end_is s f segment) is
fpdu_output out items s f (Err reason) live reasons is = record {
  from = tt;
  awaits = λ going. absurd (let h : true ≡ false = going in cc);
  queue = fpdu_ended out items s (ends.Bad f.at reason) live (no_rejection s.side f.at (ends.Bad f.at reason) (refl, reasons)) (is.awaits live) is;
}

frame_output : (out : List ℕ) (items : List OutputItem) (a : Awaited) (s : LinkState) (frame : List ℕ) → has_ended s ≡ false → OutputIs out items a s →
    OutputIs out (items ++ frame_items s a frame) Fpdu (with_frame s a frame)
frame_output out items (HelloFrom Initiator) s frame live is = hello_output Initiator out items s (next_frame s frame) (hello_of Initiator frame) (reason_of_hello Initiator frame) live is
frame_output out items (HelloFrom Responder) s frame live is =
    let f : Frame = next_frame s frame in
    hello_by (λ t. OutputIs out (items ++ hello_items f (hello_of Responder frame)) Fpdu t) Responder f (hello_of Responder frame) s
    (hello_output Responder out items s f (hello_of Responder frame) (reason_of_hello Responder frame) live is)
    (λ hello of read differs. subst (λ (r : Result Hello ℕ). OutputIs out (items ++ hello_items f r) Fpdu (with_other_sizes f s)) (sym read)
    (subst (λ (list : List OutputItem). OutputIs out list Fpdu (with_other_sizes f s)) (sym (append-nil items)) (sizes_output out items s f live is)))
frame_output out items Fpdu s frame live is = fpdu_output out items s (next_frame s frame) (next_segment s frame) live (fpdu_reason s frame) is

-- ---- Frames

abbrev Along : List ℕ → List OutputItem → LinkSide → Type 0
Along out items link = OutputIs out items link.awaited link.state

frames_output : (out : List ℕ) (items : List OutputItem) (frames : List (List ℕ)) (rest : List ℕ) (a : Awaited) (s : LinkState) (b : Bool) → has_ended s ≡ b → OutputIs out items a s →
    Along out (items ++ items_of_frames frames a s) (feeding_after_frames has_ended with_frame frames rest a s)
frames_output out items [] rest a s b is holds = subst (λ (list : List OutputItem). OutputIs out list a s) (sym (append-nil items)) holds
frames_output out items (frame ∷ frames) rest a s true is holds =
    subst (λ (w : Bool). Along out (items ++ cond w [] (frame_items s a frame ++ items_of_frames frames Fpdu (with_frame s a frame)))
    (cond w (record { awaited = a; rest = cond w [] []; state = s }) (feeding_after_frames has_ended with_frame frames rest Fpdu (with_frame s a frame))))
    (sym is) (subst (λ (list : List OutputItem). OutputIs out list a s) (sym (append-nil items)) holds)
frames_output out items (frame ∷ frames) rest a s false is holds =
    subst (λ (w : Bool). Along out (items ++ cond w [] (frame_items s a frame ++ items_of_frames frames Fpdu (with_frame s a frame)))
    (cond w (record { awaited = a; rest = cond w [] []; state = s }) (feeding_after_frames has_ended with_frame frames rest Fpdu (with_frame s a frame))))
    (sym is)
    (subst (λ (list : List OutputItem). Along out list (feeding_after_frames has_ended with_frame frames rest Fpdu (with_frame s a frame)))
    (append_assoc items (frame_items s a frame) (items_of_frames frames Fpdu (with_frame s a frame)))
    (frames_output out (items ++ frame_items s a frame) frames rest Fpdu (with_frame s a frame) (has_ended (with_frame s a frame)) refl (frame_output out items a s frame is holds)))

fed_output : (out : List ℕ) (items : List OutputItem) (link : LinkSide) (piece : List ℕ) → Along out items link →
    Along out (items ++ items_of_frames (frames_made_whole link piece) link.awaited link.state) (feeding_after has_ended with_frame link piece)
unfolding feeding_after
fed_output out items link piece holds =
    frames_output out items (frames_made_whole link piece) (split link.awaited (link.rest ++ piece)).rest link.awaited link.state (has_ended link.state) refl holds

ended_items : (frames : List (List ℕ)) (a : Awaited) (s : LinkState) → has_ended s ≡ true → items_of_frames frames a s ≡ []
ended_items [] a s is = refl
ended_items (frame ∷ frames) a s is = ap (λ (w : Bool). cond w [] (frame_items s a frame ++ items_of_frames frames Fpdu (with_frame s a frame))) is

one_item_lem : (frame : List ℕ) (a : Awaited) (s : LinkState) → has_ended s ≡ false → items_of_frames (frame ∷ []) a s ≡ frame_items s a frame
one_item_lem frame a s is = ap (λ (w : Bool). cond w [] (frame_items s a frame ++ [])) is ∙ append-nil (frame_items s a frame)

step_output : (out : List ℕ) (items : List OutputItem) (link : LinkSide) (piece : List ℕ) (gone whole : Bool) → has_ended link.state ≡ gone → is_whole link.awaited (link.rest ++ piece) ≡ whole →
    Along out items link → Along out (items ++ items_of_frames (take 1 (frames_made_whole link piece)) link.awaited link.state) (feeding_after_step has_ended with_frame link piece)
step_output out items link piece true whole is w holds =
    subst (λ (l : LinkSide). Along out (items ++ items_of_frames (take 1 (frames_made_whole link piece)) link.awaited link.state) l) (sym (feeding_after_step-ended has_ended with_frame link piece is))
    (subst (λ (list : List OutputItem). OutputIs out (items ++ list) link.awaited link.state) (sym (ended_items (take 1 (frames_made_whole link piece)) link.awaited link.state is))
    (subst (λ (list : List OutputItem). OutputIs out list link.awaited link.state) (sym (append-nil items)) holds))
step_output out items link piece false false is w holds =
    let none : items_of_frames (take 1 (frames_made_whole link piece)) link.awaited link.state ≡ [] =
    ap (λ (split : Split). items_of_frames (take 1 split.frames) link.awaited link.state) (split_partial link.awaited (link.rest ++ piece) w) in
    subst (λ (l : LinkSide). Along out (items ++ items_of_frames (take 1 (frames_made_whole link piece)) link.awaited link.state) l) (sym (feeding_after_step-partial has_ended with_frame link piece is w))
    (subst (λ (list : List OutputItem). OutputIs out (items ++ list) link.awaited link.state) (sym none)
    (subst (λ (list : List OutputItem). OutputIs out list link.awaited link.state) (sym (append-nil items)) holds))
step_output out items link piece false true is w holds =
    let frame : List ℕ = take (frame_len link.awaited (link.rest ++ piece)) (link.rest ++ piece) in
    let one : items_of_frames (take 1 (frames_made_whole link piece)) link.awaited link.state ≡ frame_items link.state link.awaited frame =
    ap (λ (split : Split). items_of_frames (take 1 split.frames) link.awaited link.state) (split_whole link.awaited (link.rest ++ piece) w) ∙ one_item_lem frame link.awaited link.state is in
    subst (λ (l : LinkSide). Along out (items ++ items_of_frames (take 1 (frames_made_whole link piece)) link.awaited link.state) l) (sym (feeding_after_step-whole has_ended with_frame link piece is w))
    (subst (λ (list : List OutputItem). OutputIs out (items ++ list) Fpdu (with_frame link.state link.awaited frame)) (sym one)
    (frame_output out items link.awaited link.state frame is holds))

-- ---- A call

-- a call that queues one item unless the side has ended
unless_queues : (out : List ℕ) (items : List OutputItem) (a : Awaited) (s after : LinkState) (item : OutputItem) (b : Bool) → after.side ≡ s.side → hello_for after ≡ hello_for s → after.has_hello ≡ s.has_hello → after.ended ≡ s.ended →
    HasItem s.send_queue item after.send_queue → OutputIs out items a s → OutputIs out (items ++ cond b [] (item ∷ [])) a (cond b s after)
unless_queues out items a s after item true side own has ended more is = subst (λ (list : List OutputItem). OutputIs out list a s) (sym (append-nil items)) is
unless_queues out items a s after item false side own has ended more is = record {
  from = subst (λ (of : Side). IsOfPeer of a) (sym side) is.from;
  awaits = λ going. has ∙ is.awaits (ap (λ (x : Option End). is_some x) (sym ended) ∙ going);
  queue = subst (λ (k : Bool → Option End → List ℕ). QueueIs (k after.has_hello after.ended) after.has_hello out (items ++ item ∷ []) after.send_queue) (sym own)
      (subst (λ (b : Bool). QueueIs (hello_queued s.side s.terms s.private b after.ended) b out (items ++ item ∷ []) after.send_queue) (sym has)
      (subst (λ (x : Option End). QueueIs (hello_queued s.side s.terms s.private s.has_hello x) s.has_hello out (items ++ item ∷ []) after.send_queue) (sym ended)
      (with_item (own_output_hello s) s.has_hello out items s.send_queue after.send_queue item more is.queue)));
}

-- a call that ends the side with an item, or with none
unless_ends : (out : List ℕ) (items more : List OutputItem) (a : Awaited) (s after : LinkState) (b : Bool) → has_ended s ≡ b →
    (has_ended s ≡ false → OutputIs out (items ++ more) a after) → OutputIs out items a s → OutputIs out (items ++ cond b [] more) a (cond b s after)
unless_ends out items more a s after true gone ends is = subst (λ (list : List OutputItem). OutputIs out list a s) (sym (append-nil items)) is
unless_ends out items more a s after false gone ends is = ends gone

-- a reason of the layer above rejects no connection
stop_rejects : (side : Side) (at reason : ℕ) → IsStopReason reason → rejection side (ends.Bad at reason) ≡ []
stop_rejects Initiator at reason is = refl
stop_rejects Responder at reason (inl is) = other_reason reason (omega (arith, is))
stop_rejects Responder at reason (inr (inl is)) = other_reason reason (omega (arith, is))
stop_rejects Responder at reason (inr (inr (inl is))) = other_reason reason (omega (arith, is))
stop_rejects Responder at reason (inr (inr (inr (inl is)))) = other_reason reason (omega (arith, is))
stop_rejects Responder at reason (inr (inr (inr (inr (inl is))))) = other_reason reason (omega (arith, is))
stop_rejects Responder at reason (inr (inr (inr (inr (inr (inl is)))))) = other_reason reason (omega (arith, is))
stop_rejects Responder at reason (inr (inr (inr (inr (inr (inr (inl is))))))) = other_reason reason (omega (arith, is))
stop_rejects Responder at reason (inr (inr (inr (inr (inr (inr (inr (inl is)))))))) = other_reason reason (omega (arith, is))
stop_rejects Responder at reason (inr (inr (inr (inr (inr (inr (inr (inr is)))))))) = other_reason reason (omega (arith, is))

stop_output : (out : List ℕ) (items : List OutputItem) (a : Awaited) (s : LinkState) (end : End) → rejection s.side end ≡ [] → sizes_refused (Some end) ≡ [] → has_ended s ≡ false → OutputIs out items a s →
    OutputIs out (items ++ LastItem end ∷ []) a (record s { ended = Some end; send_queue = with_end s.side end s.send_queue })
stop_output out items a s end none kept live is = record {
  from = is.from;
  awaits = λ going. absurd (let h : true ≡ false = going in cc);
  queue = subst (λ (bytes : List ℕ). QueueIs bytes s.has_hello out (items ++ LastItem end ∷ []) (with_end s.side end s.send_queue))
      (ap (λ (x : Option End). hello_queued s.side s.terms s.private s.has_hello x) (not_ended_lem s.ended live) ∙ sym (ended_hello s.side s.terms s.private s.has_hello end none kept))
      (with_item (own_output_hello s) s.has_hello out items s.send_queue (with_end s.side end s.send_queue) (LastItem end) (last_item_lem s.side end s.send_queue none) is.queue);
}

no_memory_rejection : (side : Side) → rejection side ends.Memory ≡ []
no_memory_rejection Initiator = refl
no_memory_rejection Responder = refl

memory_output : (out : List ℕ) (items : List OutputItem) (a : Awaited) (s : LinkState) → has_ended s ≡ false → OutputIs out items a s →
    OutputIs out (items ++ []) a (record s { ended = Some ends.Memory })
memory_output out items a s live is = subst (λ (list : List OutputItem). OutputIs out list a (record s { ended = Some ends.Memory })) (sym (append-nil items)) (record {
  from = is.from;
  awaits = λ going. absurd (let h : true ≡ false = going in cc);
  queue = subst (λ (bytes : List ℕ). QueueIs bytes s.has_hello out items s.send_queue)
      (ap (λ (x : Option End). hello_queued s.side s.terms s.private s.has_hello x) (not_ended_lem s.ended live) ∙ sym (ended_hello s.side s.terms s.private s.has_hello ends.Memory (no_memory_rejection s.side) refl)) is.queue;
})

abbrev no_items_lem : List OutputItem
no_items_lem = []

no_item_lem : (b : Bool) → cond b no_items_lem no_items_lem ≡ no_items_lem
no_item_lem true = refl
no_item_lem false = refl

-- a call that queues nothing
quiet : (out : List ℕ) (items : List OutputItem) (a : Awaited) (s after : LinkState) → OutputIs out items a after → OutputIs out (items ++ []) a after
quiet out items a s after is = subst (λ (list : List OutputItem). OutputIs out list a after) (sym (append-nil items)) is

-- a message that is held back
held_queue : (all : List ℕ) (has_hello : Bool) (out : List ℕ) (items : List OutputItem) (q : SendQueue) (message : List ℕ) → QueueIs all has_hello out items q → QueueIs all has_hello out items (with_held message q)
held_queue all has_hello out items q message is = record {
  greeted = is.greeted;
  gone = is.gone;
  hello = is.hello;
  fpdus = is.fpdus;
  written = is.written;
  within = is.within;
  order = is.order;
  early = is.early;
  sends = is.sends;
  responses = is.responses;
  left = is.left;
}

held_output : (out : List ℕ) (items : List OutputItem) (a : Awaited) (s : LinkState) (message : List ℕ) (b : Bool) → OutputIs out items a s → OutputIs out items a (cond b s (record s { send_queue = with_held message s.send_queue }))
held_output out items a s message true is = is
held_output out items a s message false is = record { from = is.from; awaits = is.awaits; queue = held_queue (own_output_hello s) s.has_hello out items s.send_queue message is.queue }

call_keeps : (out : List ℕ) (items : List OutputItem) (link : LinkSide) (call : Call) → IsAllowedCall link call → Along out items link →
    Along (out ++ bytes_drained link call) (items ++ call_items link call) (after_call link call)
unfolding after_call
call_keeps out items link (Feed piece) may is =
    subst (λ (xs : List ℕ). Along xs (items ++ call_items link (Feed piece)) (after_call link (Feed piece))) (sym (append-nil out)) (fed_output out items link piece is)
call_keeps out items link (FeedOne piece) may is =
    subst (λ (xs : List ℕ). Along xs (items ++ call_items link (FeedOne piece)) (after_call link (FeedOne piece))) (sym (append-nil out))
    (step_output out items link piece (has_ended link.state) (is_whole link.awaited (link.rest ++ piece)) refl refl is)
call_keeps out items link NextEvent may is =
    subst (λ (xs : List ℕ). Along xs (items ++ []) (after_call link NextEvent)) (sym (append-nil out)) (quiet out items link.awaited link.state _ (record { from = is.from; awaits = is.awaits; queue = is.queue }))
call_keeps out items link Post may is =
    subst (λ (xs : List ℕ). Along xs (items ++ []) (after_call link Post)) (sym (append-nil out)) (quiet out items link.awaited link.state _ (record { from = is.from; awaits = is.awaits; queue = is.queue }))
call_keeps out items link (Stop reason) may is =
    subst (λ (xs : List ℕ). Along xs (items ++ call_items link (Stop reason)) (after_call link (Stop reason))) (sym (append-nil out))
    (unless_ends out items (LastItem (ends.Bad link.state.last reason) ∷ []) link.awaited link.state _ (has_ended link.state) refl
    (λ live. stop_output out items link.awaited link.state (ends.Bad link.state.last reason) (stop_rejects link.state.side link.state.last reason may) (other_sizes reason (λ same. no_sizes_stop reason same may)) live is) is)
call_keeps out items link OutOfMemory may is =
    subst (λ (xs : List ℕ). Along xs (items ++ []) (after_call link OutOfMemory)) (sym (append-nil out))
    (subst (λ (list : List OutputItem). Along out (items ++ list) (after_call link OutOfMemory)) (no_item_lem (has_ended link.state))
    (unless_ends out items no_items_lem link.awaited link.state _ (has_ended link.state) refl (λ live. memory_output out items link.awaited link.state live is) is))
call_keeps out items link (Send message) may is =
    subst (λ (xs : List ℕ). Along xs (items ++ call_items link (Send message)) (after_call link (Send message))) (sym (append-nil out))
    (unless_queues out items link.awaited link.state _ (SendItem (next_number link.state.send_queue.last_send) message) (has_ended link.state) refl refl refl refl (send_item link.state.send_queue message) is)
call_keeps out items link (SendInvalidate stag message) may is =
    subst (λ (xs : List ℕ). Along xs (items ++ call_items link (SendInvalidate stag message)) (after_call link (SendInvalidate stag message))) (sym (append-nil out))
    (unless_queues out items link.awaited link.state _ (SendInvalidateItem (next_number link.state.send_queue.last_send) stag message) (has_ended link.state) refl refl refl refl (send_invalidate_item link.state.send_queue stag message) is)
call_keeps out items link (Hold message) may is =
    subst (λ (xs : List ℕ). Along xs (items ++ []) (after_call link (Hold message))) (sym (append-nil out)) (quiet out items link.awaited link.state _ (held_output out items link.awaited link.state message (has_ended link.state) is))
call_keeps out items link (SendHeld message) may is =
    subst (λ (xs : List ℕ). Along xs (items ++ call_items link (SendHeld message)) (after_call link (SendHeld message))) (sym (append-nil out))
    (unless_queues out items link.awaited link.state _ (SendItem (next_number link.state.send_queue.last_send) message) (has_ended link.state) refl refl refl refl (held_item link.state.send_queue message) is)
call_keeps out items link (WriteRemote stag to bytes) may is =
    subst (λ (xs : List ℕ). Along xs (items ++ call_items link (WriteRemote stag to bytes)) (after_call link (WriteRemote stag to bytes))) (sym (append-nil out))
    (unless_queues out items link.awaited link.state _ (WriteItem stag to bytes) (has_ended link.state) refl refl refl refl (write_item link.state.send_queue stag to bytes) is)
call_keeps out items link (ReadRemote sink at stag to len) may is =
    subst (λ (xs : List ℕ). Along xs (items ++ call_items link (ReadRemote sink at stag to len)) (after_call link (ReadRemote sink at stag to len))) (sym (append-nil out))
    (unless_queues out items link.awaited link.state _ (ReadRequestItem (next_number link.state.send_queue.last_request) sink at len stag to) (has_ended link.state) refl refl refl refl
    (request_item link.state.send_queue sink at len stag to) is)
call_keeps out items link (Drain count) may is =
    quiet (out ++ take count (writable link.state.has_hello link.state.send_queue)) items link.awaited link.state _ (record {
      from = is.from;
      awaits = is.awaits;
      queue = with_written (own_output_hello link.state) link.state.has_hello out items link.state.send_queue count may is.queue;
    })
call_keeps out items link (Register buf right) may is =
    subst (λ (xs : List ℕ). Along xs (items ++ []) (after_call link (Register buf right))) (sym (append-nil out)) (quiet out items link.awaited link.state _ (record { from = is.from; awaits = is.awaits; queue = is.queue }))
call_keeps out items link (Release stag) may is =
    subst (λ (xs : List ℕ). Along xs (items ++ []) (after_call link (Release stag))) (sym (append-nil out)) (quiet out items link.awaited link.state _ (record { from = is.from; awaits = is.awaits; queue = is.queue }))
call_keeps out items link (Invalidate stag) may is =
    subst (λ (xs : List ℕ). Along xs (items ++ []) (after_call link (Invalidate stag))) (sym (append-nil out)) (quiet out items link.awaited link.state _ (record { from = is.from; awaits = is.awaits; queue = is.queue }))

calls_keep : (out : List ℕ) (items : List OutputItem) (link : LinkSide) (calls : List Call) → AreAllowedCalls link calls → Along out items link →
    Along (out ++ bytes_written link calls) (items ++ items_queued link calls) (after_calls link calls)
unfolding after_calls
calls_keep out items link [] may is =
    subst (λ (xs : List ℕ). Along xs (items ++ []) link) (sym (append-nil out)) (subst (λ (list : List OutputItem). Along out list link) (sym (append-nil items)) is)
calls_keep out items link (call ∷ calls) may is =
    subst (λ (xs : List ℕ). Along xs (items ++ items_queued link (call ∷ calls)) (after_calls (after_call link call) calls)) (append_assoc out (bytes_drained link call) (bytes_written (after_call link call) calls))
    (subst (λ (list : List OutputItem). Along ((out ++ bytes_drained link call) ++ bytes_written (after_call link call) calls) list (after_calls (after_call link call) calls))
    (append_assoc items (call_items link call) (items_queued (after_call link call) calls))
    (calls_keep (out ++ bytes_drained link call) (items ++ call_items link call) (after_call link call) calls may.1 (call_keeps out items link call may.0 is)))

initial_output : (side : Side) (receives first_stag : ℕ) (terms : SideTerms) (earlier : Option Agreement) → Along [] [] (initial_link side receives first_stag terms earlier)
unfolding initial_link
initial_output Initiator receives first_stag terms earlier = record {
  from = refl;
  awaits = λ live. refl;
  queue = record { greeted = 0; gone = 0; hello = sym (append-nil (hello_with Initiator (first_private terms Initiator))); fpdus = refl; written = refl; within = omega arith; order = inl refl; early = λ none. (refl, omega arith); sends = refl; responses = refl; left = refl };
}
initial_output Responder receives first_stag terms earlier = record {
  from = refl;
  awaits = λ live. refl;
  queue = record { greeted = 0; gone = 0; hello = refl; fpdus = refl; written = refl; within = omega arith; order = inl refl; early = λ none. (refl, omega arith); sends = refl; responses = refl; left = refl };
}

output_of : (side : Side) (receives first_stag : ℕ) (terms : SideTerms) (earlier : Option Agreement) (calls : List Call) → AreAllowedCalls (initial_link side receives first_stag terms earlier) calls →
    Along (bytes_written (initial_link side receives first_stag terms earlier) calls) (items_queued (initial_link side receives first_stag terms earlier) calls) (after_calls (initial_link side receives first_stag terms earlier) calls)
output_of side receives first_stag terms earlier calls may = calls_keep [] [] (initial_link side receives first_stag terms earlier) calls may (initial_output side receives first_stag terms earlier)

pub output_is_items_lem : OutputIsItems
output_is_items_lem side receives first_stag terms earlier calls may =
    output_whole (own_output_hello (after_calls (initial_link side receives first_stag terms earlier) calls).state) (after_calls (initial_link side receives first_stag terms earlier) calls).state.has_hello
    (bytes_written (initial_link side receives first_stag terms earlier) calls) (items_queued (initial_link side receives first_stag terms earlier) calls) (after_calls (initial_link side receives first_stag terms earlier) calls).state.send_queue
    (output_of side receives first_stag terms earlier calls may).queue

pub sends_go_by_items : SendsGoByItems
sends_go_by_items side receives first_stag terms earlier calls may =
    sends_count (own_output_hello (after_calls (initial_link side receives first_stag terms earlier) calls).state) (after_calls (initial_link side receives first_stag terms earlier) calls).state.has_hello
    (bytes_written (initial_link side receives first_stag terms earlier) calls) (items_queued (initial_link side receives first_stag terms earlier) calls) (after_calls (initial_link side receives first_stag terms earlier) calls).state.send_queue
    (output_of side receives first_stag terms earlier calls may).queue

pub responses_go_by_items : ResponsesGoByItems
responses_go_by_items side receives first_stag terms earlier calls may =
    responses_count (own_output_hello (after_calls (initial_link side receives first_stag terms earlier) calls).state) (after_calls (initial_link side receives first_stag terms earlier) calls).state.has_hello
    (bytes_written (initial_link side receives first_stag terms earlier) calls) (items_queued (initial_link side receives first_stag terms earlier) calls) (after_calls (initial_link side receives first_stag terms earlier) calls).state.send_queue
    (output_of side receives first_stag terms earlier calls may).queue

pub sends_wait_by_items : SendsWaitByItems
sends_wait_by_items side receives first_stag terms earlier calls may =
    waiting_count (own_output_hello (after_calls (initial_link side receives first_stag terms earlier) calls).state) (after_calls (initial_link side receives first_stag terms earlier) calls).state.has_hello
    (bytes_written (initial_link side receives first_stag terms earlier) calls) (items_queued (initial_link side receives first_stag terms earlier) calls) (after_calls (initial_link side receives first_stag terms earlier) calls).state.send_queue
    (output_of side receives first_stag terms earlier calls may).queue
