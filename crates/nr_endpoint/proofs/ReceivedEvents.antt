-- The events before and after the bytes that came.
use Rattle.std.proofs.Common.{◌≡◌, ℕ, ◌+◌, ◌<◌, ◌≤◌, Bool, true, false, cond, List, [], ◌∷◌, ◌++◌, length, map, take, Option, Some, None, Result, Ok, Err, refl, sym, subst, arith, length-append}
use Rattle.std.specs.Prelude.{All}
use Rattle.std.proofs.lemmas.List.Elements.{All-nil, All-cons}
use Rattle.nr_wire.specs.declared.hello.Side.{Side}
use Rattle.nr_wire.specs.declared.stream.Awaited.{Awaited}
use Rattle.nr_wire.specs.declared.stream.Awaited.TheVariants.{Hello as HelloFrom, Fpdu}
use Rattle.nr_wire.specs.Segment.{Segment}
use Rattle.nr_wire.specs.Stream.{IsPartial, AreFrames}
use Rattle.nr_wire.proofs.Splits.{split_Splits}
use Rattle.nr_link.specs.declared.end.End.{End}
use Rattle.nr_link.specs.Frames.{Frame}
use Rattle.nr_endpoint.specs.ReceiveQueue.{DeliveredEvent}
use Rattle.nr_wire.specs.Hello.{peer}
use Rattle.nr_endpoint.specs.LinkState.{LinkState, LinkSide, has_ended, initial_link}
use Rattle.nr_endpoint.specs.Judging.{segment_end, next_frame, with_frame, next_segment}
use Rattle.nr_endpoint.specs.Calls.{Call, after_call, after_calls}
use Rattle.nr_endpoint.specs.Calls.Call.{Feed, FeedOne, NextEvent, Post, Stop, OutOfMemory, Send, WriteRemote, ReadRemote, Drain, Register, Release, SendInvalidate, Hold, SendHeld, Invalidate}
use Rattle.nr_endpoint.specs.DeliveryLaws.{deliveries_of, QueuedEvent, made_at, segment_deliveries, fpdu_deliveries, frame_deliveries, deliveries_of_frames, call_deliveries, deliveries_made, DeliveriesRise}
use Rattle.nr_endpoint.specs.Laws.{frames_made_whole, bytes_in_call, bytes_fed}
use Rattle.nr_endpoint.specs.ReceivedLaws.{EventsOfReceivedBytes}
use Rattle.nr_endpoint.proofs.Pieces.{frame_place}
use Rattle.nr_endpoint.proofs.DeliveryLaws.{frames_make, ended_deliveries, events_are_in_order}
use Rattle.nr_endpoint.proofs.Received.{FirstAbove, no_end, fed_partial, first_above, one_above, one_are}
use Rattle.nr_endpoint.proofs.StreamLaws.{IsFed, call_fed, stream_fed}

-- each event is made at a frame that ends after this offset
abbrev Above : ℕ → List QueuedEvent → Type 0
Above low [] = Unit {0}
Above low (made ∷ others) = (low < made.end) × Above low others

above_joined : (low : ℕ) (xs ys : List QueuedEvent) → Above low xs → Above low ys → Above low (xs ++ ys)
above_joined low [] ys first second = second
above_joined low (made ∷ xs) ys first second = (first.0, above_joined low xs ys first.1 second)

lower : (low high : ℕ) (list : List QueuedEvent) → low ≤ high → Above high list → Above low list
lower low high [] le above = tt
lower low high (made ∷ list) le above = (omega (arith, le, above.0), lower low high list le above.1)

from_rise : (low from until : ℕ) (list : List QueuedEvent) → low ≤ from → DeliveriesRise from list until → Above low list
from_rise low from until [] le rise = tt
from_rise low from until (made ∷ list) le rise = (omega (arith, le, rise.0), from_rise low made.end until list (omega (arith, le, rise.0)) rise.1)

rise_low : (from until : ℕ) (list : List QueuedEvent) → DeliveriesRise from list until → from ≤ until
rise_low from until [] rise = rise
rise_low from until (made ∷ list) rise = omega (arith, rise.0, rise_low made.end until list rise.1)

all_above_lem : (low : ℕ) (list : List QueuedEvent) → Above low list → All (λ made. low < made.end) list
all_above_lem low [] above = All-nil (λ (made : QueuedEvent). low < made.end)
all_above_lem low (made ∷ list) above = All-cons (λ (x : QueuedEvent). low < x.end) made list above.0 (all_above_lem low list above.1)

all_below : (from until high : ℕ) (list : List QueuedEvent) → until ≤ high → DeliveriesRise from list until → All (λ made. made.end ≤ high) list
all_below from until high [] le rise = All-nil (λ (made : QueuedEvent). made.end ≤ high)
all_below from until high (made ∷ list) le rise =
    All-cons (λ (x : QueuedEvent). x.end ≤ high) made list (omega (arith, le, rise_low made.end until list rise.1)) (all_below made.end until high list le rise.1)

-- ---- Frames

made_above : (low n : ℕ) (deliveries : List DeliveredEvent) → low < n → Above low (map (made_at n) deliveries)
made_above low n [] long = tt
made_above low n (delivery ∷ deliveries) long = (long, made_above low n deliveries long)

segment_above : (low : ℕ) (s : LinkState) (f : Frame) (segment : Segment) (e : Option End) → low < f.end → Above low (segment_deliveries s f segment e)
segment_above low s f segment (Some end) long = tt
segment_above low s f segment None long = made_above low f.end (deliveries_of s.receive_queue.received segment) long

fpdu_above : (low : ℕ) (s : LinkState) (f : Frame) (r : Result Segment ℕ) → low < f.end → Above low (fpdu_deliveries s f r)
fpdu_above low s f (Ok segment) long = segment_above low s f segment (segment_end s f segment) long
fpdu_above low s f (Err reason) long = tt

frame_above : (low : ℕ) (s : LinkState) (a : Awaited) (frame : List ℕ) → low < s.place + length frame → Above low (frame_deliveries s a frame)
frame_above low s (HelloFrom side) frame long = tt
frame_above low s Fpdu frame long = fpdu_above low s (next_frame s frame) (next_segment s frame) long

frames_above : (low : ℕ) (frames : List (List ℕ)) (a : Awaited) (s : LinkState) → has_ended s ≡ false → AreFrames a frames → FirstAbove low s.place frames → Above low (deliveries_of_frames frames a s)
frames_above low [] a s live each first = tt
frames_above low (frame ∷ frames) a s live each first =
    subst (λ (w : Bool). Above low (cond w [] (frame_deliveries s a frame ++ deliveries_of_frames frames Fpdu (with_frame s a frame)))) (sym live)
    (above_joined low (frame_deliveries s a frame) (deliveries_of_frames frames Fpdu (with_frame s a frame)) (frame_above low s a frame first) (by (has_ended (with_frame s a frame)) refl))
  where
    by : (b : Bool) → has_ended (with_frame s a frame) ≡ b → Above low (deliveries_of_frames frames Fpdu (with_frame s a frame))
    by true over = subst (λ (list : List QueuedEvent). Above low list) (sym (ended_deliveries frames Fpdu (with_frame s a frame) over)) tt
    by false goes =
        let place : (with_frame s a frame).place ≡ s.place + length frame = frame_place s a frame (no_end (with_frame s a frame).ended goes) in
        from_rise low (with_frame s a frame).place _ (deliveries_of_frames frames Fpdu (with_frame s a frame)) (omega (arith, first, place))
        (frames_make frames [] Fpdu (with_frame s a frame) (has_ended (with_frame s a frame)) refl each.1).1

-- ---- Calls

fed_above : (from : Side) (link : LinkSide) (bytes piece : List ℕ) → IsFed from link bytes → (b : Bool) → has_ended link.state ≡ b →
    Above (length bytes) (deliveries_of_frames (frames_made_whole link piece) link.awaited link.state) × Above (length bytes) (deliveries_of_frames (take 1 (frames_made_whole link piece)) link.awaited link.state)
fed_above from link bytes piece fed true over = (
  subst (λ (list : List QueuedEvent). Above (length bytes) list) (sym (ended_deliveries (frames_made_whole link piece) link.awaited link.state over)) tt,
  subst (λ (list : List QueuedEvent). Above (length bytes) list) (sym (ended_deliveries (take 1 (frames_made_whole link piece)) link.awaited link.state over)) tt,
)
fed_above from link bytes piece fed false live =
    let kept : IsPartial link.awaited link.rest × (link.state.place + length link.rest ≡ length bytes) = fed_partial from link bytes (fed.keeps live) in
    let frames : List (List ℕ) = frames_made_whole link piece in
    let each : AreFrames link.awaited frames = (split_Splits link.awaited (link.rest ++ piece)).each in
    let first : FirstAbove (length bytes) link.state.place frames =
    subst (λ (n : ℕ). FirstAbove n link.state.place frames) kept.1 (first_above link.awaited link.rest piece link.state.place kept.0) in (
      frames_above (length bytes) frames link.awaited link.state live each first,
      frames_above (length bytes) (take 1 frames) link.awaited link.state live (one_are link.awaited frames each) (one_above (length bytes) link.state.place frames first),
    )

call_above : (from : Side) (link : LinkSide) (bytes : List ℕ) (call : Call) → IsFed from link bytes → Above (length bytes) (call_deliveries link call)
call_above from link bytes (Feed piece) fed = (fed_above from link bytes piece fed (has_ended link.state) refl).0
call_above from link bytes (FeedOne piece) fed = (fed_above from link bytes piece fed (has_ended link.state) refl).1
call_above from link bytes NextEvent fed = tt
call_above from link bytes Post fed = tt
call_above from link bytes (Stop reason) fed = tt
call_above from link bytes OutOfMemory fed = tt
call_above from link bytes (Send message) fed = tt
call_above from link bytes (SendInvalidate stag message) fed = tt
call_above from link bytes (Hold message) fed = tt
call_above from link bytes (SendHeld message) fed = tt
call_above from link bytes (WriteRemote stag to payload) fed = tt
call_above from link bytes (ReadRemote sink at stag to len) fed = tt
call_above from link bytes (Drain count) fed = tt
call_above from link bytes (Register buf right) fed = tt
call_above from link bytes (Release stag) fed = tt
call_above from link bytes (Invalidate stag) fed = tt

calls_above : (from : Side) (link : LinkSide) (bytes : List ℕ) (calls : List Call) → IsFed from link bytes → Above (length bytes) (deliveries_made link calls)
calls_above from link bytes [] fed = tt
calls_above from link bytes (call ∷ calls) fed =
    let more : List ℕ = bytes ++ bytes_in_call link call in
    above_joined (length bytes) (call_deliveries link call) (deliveries_made (after_call link call) calls) (call_above from link bytes call fed)
    (lower (length bytes) (length more) (deliveries_made (after_call link call) calls) (omega (arith, length-append bytes (bytes_in_call link call)))
    (calls_above from (after_call link call) more calls (call_fed from link bytes call fed)))

pub events_of_received_bytes : EventsOfReceivedBytes
events_of_received_bytes side receives first_stag terms earlier before after =
    let start : LinkSide = initial_link side receives first_stag terms earlier in
    let fed : IsFed (peer side) (after_calls start before) (bytes_fed start before) = stream_fed side receives first_stag terms earlier before in (
      all_below start.state.place (after_calls start before).state.place (length (bytes_fed start before)) (deliveries_made start before) (omega (arith, fed.within)) (events_are_in_order start before),
      all_above_lem (length (bytes_fed start before)) (deliveries_made (after_calls start before) after) (calls_above (peer side) (after_calls start before) (bytes_fed start before) after fed),
    )
