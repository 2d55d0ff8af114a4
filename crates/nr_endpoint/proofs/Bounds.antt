-- Every side that is reached has bounds: on its open reads, on the responses that it owes, and on its receives.
use Rattle.std.proofs.Common.{◌≡◌, ℕ, ◌+◌, ◌-◌, ◌<◌, ◌≤◌, Bool, true, false, cond, not, ◌&&◌, List, [], ◌∷◌, ◌++◌, length, drop, Option, Some, None, Result, Ok, Err, inl, inr, refl, sym, subst, eqb, arith, length-append}
use Rattle.std.specs.Prelude.{◌⊎◌}
use Rattle.std.proofs.lemmas.Bool.{eqb-true}
use Rattle.nr_wire.specs.Constants.{OPCODE_READ_RESPONSE, OPCODE_READ_REQUEST, OPCODE_SEND, OPCODE_SEND_INVALIDATE}
use Rattle.nr_wire.specs.declared.hello.Side.{Side}
use Rattle.nr_wire.specs.declared.stream.Awaited.{Awaited}
use Rattle.nr_wire.specs.declared.stream.Awaited.TheVariants.{Hello as HelloFrom, Fpdu}
use Rattle.nr_wire.specs.Hello.{Hello, hello_of}
use Rattle.nr_wire.specs.Segment.{Segment}
use Rattle.nr_wire.specs.Segment.Segment.{Tagged, Untagged}
use Rattle.nr_regions.specs.RegisteredMemory.{after_place, bytes_at}
use Rattle.nr_link.specs.declared.end.End.{End}
use Rattle.nr_link.specs.Frames.{Frame}
use Rattle.nr_link.specs.KeptSends.{begun_within}
use Rattle.nr_link.specs.Limits.{open_reads_max}
use Rattle.nr_link.specs.Output.{read_response}
use Rattle.nr_link.specs.ReceiveState.{is_send, begun_bytes, read_request_in, send_continued, stag_invalidated}
use Rattle.nr_link.specs.SegmentFaults.{ExpectedResponse, is_begun}
use Rattle.nr_link.specs.declared.agreement.SideTerms.{SideTerms}
use Rattle.nr_link.specs.declared.agreement.Agreement.{Agreement}
use Rattle.nr_endpoint.specs.SendQueue.{with_end, written}
use Rattle.nr_endpoint.specs.ReceiveQueue.{DeliveredEvent, ReceiveQueue, with_segment, with_read_done, lent_for, sends_begun, messages_in, receives_kept, message_deliveries}
use Rattle.nr_endpoint.specs.ReceiveQueue.DeliveredEvent.{MessageReceived, ReadDone}
use Rattle.nr_endpoint.specs.LinkState.{LinkState, LinkSide, has_ended, initial_link}
use Rattle.nr_endpoint.specs.Judging.{segment_end, next_frame, with_frame, with_segment_by, with_fpdu, with_peer_hello, with_effect, with_read_request, with_read_response, reads_after, fetch_access, next_segment}
use Rattle.nr_endpoint.specs.SegmentEnds.{RequestIsFine, SendIsFine}
use Rattle.nr_endpoint.specs.Calls.{Call, after_call, after_calls}
use Rattle.nr_endpoint.specs.Calls.Call.{Feed, FeedOne, NextEvent, Post, Stop, OutOfMemory, Send, WriteRemote, ReadRemote, Drain, Register, Release, SendInvalidate, Hold, SendHeld, Invalidate}
use Rattle.nr_endpoint.specs.OutputLaws.{IsAllowedCall, AreAllowedCalls, IsBounded, SidesStayBounded}
use Rattle.nr_endpoint.proofs.AlongFrames.{feed_keeps, feed_one_keeps}
use Rattle.nr_endpoint.proofs.Alive.{alive_request, alive_any_send}
use Rattle.nr_endpoint.proofs.FaultList.{which_send}
use Rattle.nr_endpoint.proofs.SendQueues.{ends_left_fewer}
use Rattle.nr_endpoint.proofs.HellosFrom.{hello_from}

-- each receive of a queue is free, in use or lent
abbrev pub HasReceives : ℕ → ReceiveQueue → Type 0
HasReceives opened q = (receives_kept q + q.lent ≡ opened) × (q.receives ≡ opened)

messages_append : (xs ys : List DeliveredEvent) → messages_in (xs ++ ys) ≡ messages_in xs + messages_in ys
messages_append [] ys = omega arith
messages_append (MessageReceived number invalidated bytes ∷ xs) ys = omega (arith, messages_append xs ys)
messages_append (ReadDone ∷ xs) ys = messages_append xs ys

-- ---- What a segment does to the receives

read_receives : (opened : ℕ) (q : ReceiveQueue) (last : Bool) → HasReceives opened q → HasReceives opened (cond last (with_read_done q) q)
read_receives opened q true has = (omega (arith, has.0, messages_append q.deliveries (ReadDone ∷ [])), has.1)
read_receives opened q false has = has

kept_begun_lem : (n : ℕ) (begun : Option (List ℕ)) → sends_begun (begun_within n begun) ≡ sends_begun begun
kept_begun_lem n None = refl
kept_begun_lem n (Some bytes) = refl

-- the receive of the begun Send, or else a free one
one_taken_lem : (begun : Option (List ℕ)) (free : ℕ) → (is_begun begun ≡ false → 0 < free) → cond (not (is_begun begun)) (free - 1) free + 1 ≡ free + sends_begun begun
one_taken_lem None free some = omega (arith, some refl)
one_taken_lem (Some bytes) free some = omega arith

send_receives : (opened : ℕ) (q : ReceiveQueue) (last : Bool) (w queue msn offset : ℕ) (payload : List ℕ) → (is_begun q.received.begun ≡ false → 0 < q.free) → HasReceives opened q →
    HasReceives opened (with_segment (Untagged last OPCODE_SEND w queue msn offset payload) q)
unfolding with_segment
send_receives opened q true w queue msn offset payload some has =
    (omega (arith, has.0, one_taken_lem q.received.begun q.free some, messages_append q.deliveries (MessageReceived (q.received.sends + 1) None (begun_bytes q.received.begun ++ payload) ∷ [])), has.1)
send_receives opened q false w queue msn offset payload some has =
    (omega (arith, has.0, one_taken_lem q.received.begun q.free some, messages_append q.deliveries []), has.1)

invalidate_receives : (opened : ℕ) (q : ReceiveQueue) (last : Bool) (w queue msn offset : ℕ) (payload : List ℕ) → (is_begun q.received.begun ≡ false → 0 < q.free) → HasReceives opened q →
    HasReceives opened (with_segment (Untagged last OPCODE_SEND_INVALIDATE w queue msn offset payload) q)
unfolding with_segment
invalidate_receives opened q true w queue msn offset payload some has =
    (omega (arith, has.0, one_taken_lem q.received.begun q.free some, messages_append q.deliveries (MessageReceived (q.received.sends + 1) (Some w) (begun_bytes q.received.begun ++ payload) ∷ [])), has.1)
invalidate_receives opened q false w queue msn offset payload some has =
    (omega (arith, has.0, one_taken_lem q.received.begun q.free some, messages_append q.deliveries []), has.1)

request_receives : (opened : ℕ) (q : ReceiveQueue) (last : Bool) (w queue msn offset : ℕ) (payload : List ℕ) → HasReceives opened q →
    HasReceives opened (with_segment (Untagged last OPCODE_READ_REQUEST w queue msn offset payload) q)
unfolding with_segment
request_receives opened q last w queue msn offset payload has = (omega (arith, has.0, kept_begun_lem q.receive_length q.received.begun, messages_append q.deliveries []), has.1)

-- of another opcode nothing is counted
other_receives : (opened : ℕ) (q : ReceiveQueue) (last : Bool) (opcode w queue msn offset : ℕ) (payload : List ℕ) → is_send opcode ≡ false → eqb opcode OPCODE_READ_REQUEST ≡ false →
    HasReceives opened q → HasReceives opened (with_segment (Untagged last opcode w queue msn offset payload) q)
unfolding with_segment
other_receives opened q last opcode w queue msn offset payload no_send no_request has =
    by (is_send opcode) (eqb opcode OPCODE_READ_REQUEST) no_send no_request
  where
    by : (b r : Bool) → b ≡ false → r ≡ false → HasReceives opened (record {
      receives = q.receives;
      receive_length = q.receive_length;
      received = record {
        sends = (cond b (send_continued q.received last payload) (cond r (record q.received { requests = q.received.requests + 1 }) q.received)).sends;
        begun = begun_within q.receive_length (cond b (send_continued q.received last payload) (cond r (record q.received { requests = q.received.requests + 1 }) q.received)).begun;
        requests = (cond b (send_continued q.received last payload) (cond r (record q.received { requests = q.received.requests + 1 }) q.received)).requests;
      };
      free = cond (b && not (is_begun q.received.begun)) (q.free - 1) q.free;
      lent = q.lent;
      deliveries = q.deliveries ++ message_deliveries (q.received.sends + 1) (stag_invalidated (Untagged last opcode w queue msn offset payload)) (cond (b && last) (Some (begun_bytes q.received.begun ++ payload)) None);
    })
    by true r is none = absurd cc
    by false true is none = absurd cc
    by false false is none = (omega (arith, has.0, kept_begun_lem q.receive_length q.received.begun, messages_append q.deliveries []), has.1)

segment_receives : (opened : ℕ) (s : LinkState) (f : Frame) (last : Bool) (opcode w queue msn offset : ℕ) (payload : List ℕ) → f.at ≡ s.place →
    segment_end s f (Untagged last opcode w queue msn offset payload) ≡ None → HasReceives opened s.receive_queue →
    HasReceives opened (with_segment (Untagged last opcode w queue msn offset payload) s.receive_queue)
segment_receives opened s f last opcode w queue msn offset payload at lives has =
    by (is_send opcode) (eqb opcode OPCODE_READ_REQUEST) refl refl
  where
    sent : (opcode ≡ OPCODE_SEND) ⊎ (opcode ≡ OPCODE_SEND_INVALIDATE) → SendIsFine s last payload → HasReceives opened (with_segment (Untagged last opcode w queue msn offset payload) s.receive_queue)
    sent (inl same) fine =
        subst (λ (o : ℕ). HasReceives opened (with_segment (Untagged last o w queue msn offset payload) s.receive_queue)) (sym same)
        (send_receives opened s.receive_queue last w queue msn offset payload fine.receive has)
    sent (inr same) fine =
        subst (λ (o : ℕ). HasReceives opened (with_segment (Untagged last o w queue msn offset payload) s.receive_queue)) (sym same)
        (invalidate_receives opened s.receive_queue last w queue msn offset payload fine.receive has)

    by : (b r : Bool) → is_send opcode ≡ b → eqb opcode OPCODE_READ_REQUEST ≡ r → HasReceives opened (with_segment (Untagged last opcode w queue msn offset payload) s.receive_queue)
    by true r is other = sent (which_send opcode is) (alive_any_send s f last opcode w queue msn offset payload at is lives)
    by false true is other =
        subst (λ (o : ℕ). HasReceives opened (with_segment (Untagged last o w queue msn offset payload) s.receive_queue)) (sym (eqb-true opcode OPCODE_READ_REQUEST other))
        (request_receives opened s.receive_queue last w queue msn offset payload has)
    by false false is other = other_receives opened s.receive_queue last opcode w queue msn offset payload is other has

-- ---- The responses that are owed

owed : (s : LinkState) (f : Frame) (last : Bool) (opcode w queue msn offset : ℕ) (payload : List ℕ) (b : Bool) → eqb opcode OPCODE_READ_REQUEST ≡ b → f.at ≡ s.place →
    segment_end s f (Untagged last opcode w queue msn offset payload) ≡ None → length s.send_queue.response_ends ≤ open_reads_max →
    length (with_read_request (cond b (Some (read_request_in payload)) None) s.memory s.send_queue).response_ends ≤ open_reads_max
owed s f last opcode w queue msn offset payload false is at lives few = few
owed s f last opcode w queue msn offset payload true is at lives few =
    let same : opcode ≡ OPCODE_READ_REQUEST = eqb-true opcode OPCODE_READ_REQUEST is in
    let goes : segment_end s f (Untagged last OPCODE_READ_REQUEST w queue msn offset payload) ≡ None = subst (λ (o : ℕ). segment_end s f (Untagged last o w queue msn offset payload) ≡ None) same lives in
    let fine : RequestIsFine s payload = alive_request s f last w queue msn offset payload at goes in
    let r = read_request_in payload in
    omega (arith, fine.few, length-append s.send_queue.response_ends (length (s.send_queue.fpdus ++ read_response r.sink r.sink_to (bytes_at s.memory (fetch_access r))) ∷ []))

-- ---- A frame

fewer_reads : (last : Bool) (n : ℕ) (reads : List ExpectedResponse) → length (reads_after last n reads) ≤ length reads
fewer_reads last n [] = omega arith
fewer_reads true n (r ∷ reads) = omega arith
fewer_reads false n (r ∷ reads) = omega arith

placed_bounded : (opened : ℕ) (s : LinkState) (b last : Bool) (n : ℕ) → IsBounded opened s → IsBounded opened (cond b (with_read_response last n s) s)
placed_bounded opened s true last n is =
    let receives : HasReceives opened (cond last (with_read_done s.receive_queue) s.receive_queue) = read_receives opened s.receive_queue last (is.sum, is.same) in
    record { reads = omega (arith, is.reads, fewer_reads last n s.reads); responses = is.responses; sum = receives.0; same = receives.1 }
placed_bounded opened s false last n is = is

segment_bounded : (opened : ℕ) (s : LinkState) (f : Frame) (segment : Segment) (e : Option End) → f.at ≡ s.place → segment_end s f segment ≡ e → IsBounded opened s →
    IsBounded opened (with_segment_by f segment e s)
unfolding with_effect with_end
segment_bounded opened s f segment (Some end) at lives is = record { reads = is.reads; responses = is.responses; sum = is.sum; same = is.same }
segment_bounded opened s f (Tagged last opcode stag to payload) None at lives is =
    let after : IsBounded opened (cond (eqb opcode OPCODE_READ_RESPONSE) (with_read_response last (length payload) (record s { memory = after_place s.memory stag to payload })) (record s { memory = after_place s.memory stag to payload })) =
    placed_bounded opened (record s { memory = after_place s.memory stag to payload }) (eqb opcode OPCODE_READ_RESPONSE) last (length payload)
    (record { reads = is.reads; responses = is.responses; sum = is.sum; same = is.same }) in
    record { reads = after.reads; responses = after.responses; sum = after.sum; same = after.same }
segment_bounded opened s f (Untagged last opcode w queue msn offset payload) None at lives is =
    let receives : HasReceives opened (with_segment (Untagged last opcode w queue msn offset payload) s.receive_queue) =
    segment_receives opened s f last opcode w queue msn offset payload at lives (is.sum, is.same) in
    record {
      reads = is.reads;
      responses = owed s f last opcode w queue msn offset payload (eqb opcode OPCODE_READ_REQUEST) refl at lives is.responses;
      sum = receives.0;
      same = receives.1;
    }

fpdu_bounded : (opened : ℕ) (s : LinkState) (f : Frame) (r : Result Segment ℕ) → f.at ≡ s.place → IsBounded opened s → IsBounded opened (with_fpdu f r s)
unfolding with_fpdu with_end
fpdu_bounded opened s f (Ok segment) at is = segment_bounded opened s f segment (segment_end s f segment) at refl is
fpdu_bounded opened s f (Err reason) at is = record { reads = is.reads; responses = is.responses; sum = is.sum; same = is.same }

hello_bounded : (opened : ℕ) (s : LinkState) (f : Frame) (r : Result Hello ℕ) → IsBounded opened s → IsBounded opened (with_peer_hello f r s)
unfolding with_peer_hello with_end
hello_bounded opened s f (Ok hello) is = record { reads = is.reads; responses = is.responses; sum = is.sum; same = is.same }
hello_bounded opened s f (Err reason) is = record { reads = is.reads; responses = is.responses; sum = is.sum; same = is.same }

frame_bounded : (opened : ℕ) (a : Awaited) (s : LinkState) (frame : List ℕ) → has_ended s ≡ false → IsBounded opened s → IsBounded opened (with_frame s a frame)
frame_bounded opened (HelloFrom side) s frame live is =
    hello_from (IsBounded opened) side (next_frame s frame) (hello_of side frame) s (hello_bounded opened s (next_frame s frame) (hello_of side frame) is)
    (record { reads = is.reads; responses = is.responses; sum = is.sum; same = is.same })
frame_bounded opened Fpdu s frame live is = fpdu_bounded opened s (next_frame s frame) (next_segment s frame) refl is

-- ---- A call

told_first : (deliveries : List DeliveredEvent) → lent_for deliveries + messages_in (drop 1 deliveries) ≡ messages_in deliveries
told_first [] = refl
told_first (MessageReceived number invalidated bytes ∷ deliveries) = refl
told_first (ReadDone ∷ deliveries) = omega arith

either_bounded : (opened : ℕ) (s after : LinkState) (b : Bool) → IsBounded opened s → IsBounded opened after → IsBounded opened (cond b s after)
either_bounded opened s after true is later = is
either_bounded opened s after false is later = later

call_bounded : (opened : ℕ) (link : LinkSide) (call : Call) → IsAllowedCall link call → IsBounded opened link.state → IsBounded opened (after_call link call).state
unfolding after_call with_end written
call_bounded opened link (Feed piece) may is = feed_keeps (λ a s. IsBounded opened s) (frame_bounded opened) link piece is
call_bounded opened link (FeedOne piece) may is = feed_one_keeps (λ a s. IsBounded opened s) (frame_bounded opened) link piece is
call_bounded opened link NextEvent may is =
    record { reads = is.reads; responses = is.responses; sum = omega (arith, is.sum, told_first link.state.receive_queue.deliveries); same = is.same }
call_bounded opened link Post may is = record { reads = is.reads; responses = is.responses; sum = omega (arith, is.sum, may); same = is.same }
call_bounded opened link (Stop reason) may is =
    either_bounded opened link.state _ (has_ended link.state) is (record { reads = is.reads; responses = is.responses; sum = is.sum; same = is.same })
call_bounded opened link OutOfMemory may is =
    either_bounded opened link.state _ (has_ended link.state) is (record { reads = is.reads; responses = is.responses; sum = is.sum; same = is.same })
call_bounded opened link (Send message) may is =
    either_bounded opened link.state _ (has_ended link.state) is (record { reads = is.reads; responses = is.responses; sum = is.sum; same = is.same })
call_bounded opened link (SendInvalidate stag message) may is =
    either_bounded opened link.state _ (has_ended link.state) is (record { reads = is.reads; responses = is.responses; sum = is.sum; same = is.same })
call_bounded opened link (Hold message) may is =
    either_bounded opened link.state _ (has_ended link.state) is (record { reads = is.reads; responses = is.responses; sum = is.sum; same = is.same })
call_bounded opened link (SendHeld message) may is =
    either_bounded opened link.state _ (has_ended link.state) is (record { reads = is.reads; responses = is.responses; sum = is.sum; same = is.same })
call_bounded opened link (WriteRemote stag to bytes) may is =
    either_bounded opened link.state _ (has_ended link.state) is (record { reads = is.reads; responses = is.responses; sum = is.sum; same = is.same })
call_bounded opened link (ReadRemote sink at stag to len) may is =
    either_bounded opened link.state _ (has_ended link.state) is
    (record { reads = omega (arith, may, length-append link.state.reads (record { sink = sink; at = at; left = len } ∷ [])); responses = is.responses; sum = is.sum; same = is.same })
call_bounded opened link (Drain count) may is =
    let fewer = ends_left_fewer (count - length link.state.send_queue.hello) link.state.send_queue.response_ends in
    record { reads = is.reads; responses = omega (arith, is.responses, fewer); sum = is.sum; same = is.same }
call_bounded opened link (Register buf right) may is = record { reads = is.reads; responses = is.responses; sum = is.sum; same = is.same }
call_bounded opened link (Release stag) may is = record { reads = is.reads; responses = is.responses; sum = is.sum; same = is.same }
call_bounded opened link (Invalidate stag) may is = record { reads = is.reads; responses = is.responses; sum = is.sum; same = is.same }

calls_bounded : (opened : ℕ) (link : LinkSide) (calls : List Call) → AreAllowedCalls link calls → IsBounded opened link.state → IsBounded opened (after_calls link calls).state
unfolding after_calls
calls_bounded opened link [] may is = is
calls_bounded opened link (call ∷ calls) may is = calls_bounded opened (after_call link call) calls may.1 (call_bounded opened link call may.0 is)

initial_bounded : (side : Side) (receives first_stag : ℕ) (terms : SideTerms) (earlier : Option Agreement) → IsBounded receives (initial_link side receives first_stag terms earlier).state
unfolding initial_link
initial_bounded side receives first_stag terms earlier = record { reads = omega arith; responses = omega arith; sum = omega arith; same = refl }

pub sides_stay_bounded_lem : SidesStayBounded
sides_stay_bounded_lem side receives first_stag terms earlier calls may = calls_bounded receives (initial_link side receives first_stag terms earlier) calls may (initial_bounded side receives first_stag terms earlier)
