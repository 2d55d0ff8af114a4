-- A frame makes one event at most.
use Rattle.std.proofs.Common.{◌≡◌, ℕ, ◌+◌, ◌≤◌, Bool, true, false, cond, ◌&&◌, eqb, List, [], ◌∷◌, ◌++◌, length, map, take, Option, Some, None, Result, Ok, Err, ap, arith, length-append}
use Rattle.std.proofs.lemmas.List.{length-map}
use Rattle.nr_wire.specs.Constants.{OPCODE_READ_RESPONSE}
use Rattle.nr_wire.specs.declared.stream.Awaited.{Awaited}
use Rattle.nr_wire.specs.declared.stream.Awaited.TheVariants.{Hello as HelloFrom, Fpdu}
use Rattle.nr_wire.specs.Segment.{Segment}
use Rattle.nr_wire.specs.Segment.Segment.{Tagged, Untagged}
use Rattle.nr_link.specs.declared.end.End.{End}
use Rattle.nr_link.specs.Frames.{Frame}
use Rattle.nr_link.specs.ReceiveState.{ReceiveState, message_completed, stag_invalidated}
use Rattle.nr_endpoint.specs.ReceiveQueue.{DeliveredEvent, message_deliveries}
use Rattle.nr_endpoint.specs.ReceiveQueue.DeliveredEvent.{ReadDone}
use Rattle.nr_endpoint.specs.LinkState.{LinkState, has_ended}
use Rattle.nr_endpoint.specs.Judging.{segment_end, next_frame, next_segment}
use Rattle.nr_endpoint.specs.Calls.{after_call, after_calls}
use Rattle.nr_endpoint.specs.Calls.Call.{FeedOne}
use Rattle.nr_endpoint.specs.DeliveryLaws.{deliveries_of, QueuedEvent, made_at, segment_deliveries, fpdu_deliveries, frame_deliveries, deliveries_of_frames, call_deliveries, OneFrameDeliversOnce}
use Rattle.nr_endpoint.specs.Laws.{frames_made_whole}
use Rattle.nr_endpoint.proofs.DeliveryLaws.{events_are_delivered}

message_few : (number : ℕ) (named : Option ℕ) (message : Option (List ℕ)) → length (message_deliveries number named message) ≤ 1
message_few number named None = omega arith
message_few number named (Some bytes) = omega arith

read_few : (b : Bool) → length (cond b (ReadDone ∷ []) []) ≤ 1
read_few true = omega arith
read_few false = omega arith

deliveries_few : (received : ReceiveState) (segment : Segment) → length (deliveries_of received segment) ≤ 1
deliveries_few received (Tagged last opcode stag to payload) = read_few (eqb opcode OPCODE_READ_RESPONSE && last)
deliveries_few received (Untagged last opcode w queue msn offset payload) =
    message_few (received.sends + 1) (stag_invalidated (Untagged last opcode w queue msn offset payload)) (message_completed received (Untagged last opcode w queue msn offset payload))

segment_few : (s : LinkState) (f : Frame) (segment : Segment) (e : Option End) → length (segment_deliveries s f segment e) ≤ 1
segment_few s f segment None =
    omega (arith, deliveries_few s.receive_queue.received segment, length-map (deliveries_of s.receive_queue.received segment) (made_at f.end))
segment_few s f segment (Some end) = omega arith

fpdu_few : (s : LinkState) (f : Frame) (r : Result Segment ℕ) → length (fpdu_deliveries s f r) ≤ 1
fpdu_few s f (Ok segment) = segment_few s f segment (segment_end s f segment)
fpdu_few s f (Err reason) = omega arith

frame_few : (s : LinkState) (a : Awaited) (frame : List ℕ) → length (frame_deliveries s a frame) ≤ 1
frame_few s (HelloFrom side) frame = omega arith
frame_few s Fpdu frame = fpdu_few s (next_frame s frame) (next_segment s frame)

unless_few : (b : Bool) (made : List QueuedEvent) → length made ≤ 1 → length (cond b [] (made ++ [])) ≤ 1
unless_few true made few = omega arith
unless_few false made few = omega (arith, few, length-append made [])

first_few : (frames : List (List ℕ)) (a : Awaited) (s : LinkState) → length (deliveries_of_frames (take 1 frames) a s) ≤ 1
first_few [] a s = omega arith
first_few (frame ∷ frames) a s = unless_few (has_ended s) (frame_deliveries s a frame) (frame_few s a frame)

pub one_frame_delivers_once : OneFrameDeliversOnce
unfolding after_calls
one_frame_delivers_once link piece =
    let made : List QueuedEvent = call_deliveries link (FeedOne piece) in
    let delivered : length (after_call link (FeedOne piece)).state.receive_queue.deliveries ≡ length (link.state.receive_queue.deliveries ++ map (λ (m : QueuedEvent). m.delivery) (made ++ [])) =
    ap (λ (list : List DeliveredEvent). length list) (events_are_delivered link (FeedOne piece ∷ [])) in
    omega (
      arith,
      delivered,
      length-append link.state.receive_queue.deliveries (map (λ (m : QueuedEvent). m.delivery) (made ++ [])),
      length-map (made ++ []) (λ (m : QueuedEvent). m.delivery),
      length-append made [],
      first_few (frames_made_whole link piece) link.awaited link.state,
    )
