-- The tagged segments before and after the bytes that came.
use Rattle.std.proofs.Common.{◌≡◌, ℕ, ◌+◌, ◌<◌, ◌≤◌, is_some, Bool, true, false, cond, List, [], ◌∷◌, ◌++◌, length, take, Option, Some, None, Result, Ok, Err, inl, inr, refl, sym, ap, subst, arith, length-append}
use Rattle.std.specs.Prelude.{All}
use Rattle.std.proofs.lemmas.List.{length-take}
use Rattle.std.proofs.lemmas.List.Elements.{All-nil, All-cons}
use Rattle.std.proofs.lemmas.Bool.{cases_lt}
use Rattle.nr_wire.specs.declared.hello.Side.{Side}
use Rattle.nr_wire.specs.declared.stream.Awaited.{Awaited}
use Rattle.nr_wire.specs.declared.stream.Awaited.TheVariants.{Hello as HelloFrom, Fpdu}
use Rattle.nr_wire.specs.Segment.{Segment}
use Rattle.nr_wire.specs.Segment.Segment.{Tagged, Untagged}
use Rattle.nr_wire.specs.Stream.{IsPartial, AreFrames, Split, fields_len, frame_len, is_whole, split}
use Rattle.nr_wire.proofs.Frames.{fields_within, frame_len_append, whole_from}
use Rattle.nr_wire.proofs.Splits.{split_whole, split_partial, split_Splits}
use Rattle.nr_regions.specs.Events.{MemoryEvent, tagged_segments}
use Rattle.nr_regions.specs.Events.MemoryEvent.{Register as RegisterRegion, Release as ReleaseRegion, Invalidate as InvalidateRegion, Arrive}
use Rattle.nr_regions.specs.Access.{TaggedSegment}
use Rattle.nr_link.specs.declared.end.End.{End}
use Rattle.nr_link.specs.Frames.{Frame}
use Rattle.nr_link.specs.Input.{input_of}
use Rattle.nr_link.proofs.Inputs.{input_of_count}
use Rattle.nr_wire.specs.Hello.{peer}
use Rattle.nr_endpoint.specs.LinkState.{LinkState, LinkSide, has_ended, initial_link}
use Rattle.nr_endpoint.specs.Judging.{segment_end, next_frame, with_frame, next_segment}
use Rattle.nr_endpoint.specs.Calls.{Call, after_call, after_calls}
use Rattle.nr_endpoint.specs.Calls.Call.{Feed, FeedOne, NextEvent, Post, Stop, OutOfMemory, Send, WriteRemote, ReadRemote, Drain, Register, Release, SendInvalidate, Hold, SendHeld, Invalidate}
use Rattle.nr_endpoint.specs.Laws.{segment_arrivals, fpdu_arrivals, frame_arrivals, arrivals, frames_made_whole, call_events, memory_events, bytes_in_call, bytes_fed, KeepsInput}
use Rattle.nr_endpoint.specs.ReceivedLaws.{ReceivedBytes}
use Rattle.nr_endpoint.proofs.MemoryLaws.{ended_arrivals}
use Rattle.nr_endpoint.proofs.Pieces.{frame_place}
use Rattle.nr_endpoint.proofs.PlaceOrder.{Between, low_end, frames_between, calls_between}
use Rattle.nr_endpoint.proofs.StreamLaws.{IsFed, call_fed, stream_fed}

-- each tagged segment of the events ends after this offset
abbrev Above : ℕ → List MemoryEvent → Type 0
Above low [] = Unit {0}
Above low (RegisterRegion right buf ∷ events) = Above low events
Above low (ReleaseRegion stag ∷ events) = Above low events
Above low (InvalidateRegion stag ∷ events) = Above low events
Above low (Arrive segment ∷ events) = (low < segment.end) × Above low events

above_joined : (low : ℕ) (xs ys : List MemoryEvent) → Above low xs → Above low ys → Above low (xs ++ ys)
above_joined low [] ys first second = second
above_joined low (RegisterRegion right buf ∷ xs) ys first second = above_joined low xs ys first second
above_joined low (ReleaseRegion stag ∷ xs) ys first second = above_joined low xs ys first second
above_joined low (InvalidateRegion stag ∷ xs) ys first second = above_joined low xs ys first second
above_joined low (Arrive segment ∷ xs) ys first second = (first.0, above_joined low xs ys first.1 second)

lower : (low high : ℕ) (events : List MemoryEvent) → low ≤ high → Above high events → Above low events
lower low high [] le above = tt
lower low high (RegisterRegion right buf ∷ events) le above = lower low high events le above
lower low high (ReleaseRegion stag ∷ events) le above = lower low high events le above
lower low high (InvalidateRegion stag ∷ events) le above = lower low high events le above
lower low high (Arrive segment ∷ events) le above = (omega (arith, le, above.0), lower low high events le above.1)

from_between : (low from until : ℕ) (events : List MemoryEvent) → low ≤ from → Between from until events → Above low events
from_between low from until [] le between = tt
from_between low from until (RegisterRegion right buf ∷ events) le between = from_between low from until events le between
from_between low from until (ReleaseRegion stag ∷ events) le between = from_between low from until events le between
from_between low from until (InvalidateRegion stag ∷ events) le between = from_between low from until events le between
from_between low from until (Arrive segment ∷ events) le between =
    (omega (arith, le, between.0), from_between low segment.end until events (omega (arith, le, between.0)) between.1)

all_above_lem : (low : ℕ) (events : List MemoryEvent) → Above low events → All (λ segment. low < segment.end) (tagged_segments events)
all_above_lem low [] above = All-nil (λ (segment : TaggedSegment). low < segment.end)
all_above_lem low (RegisterRegion right buf ∷ events) above = all_above_lem low events above
all_above_lem low (ReleaseRegion stag ∷ events) above = all_above_lem low events above
all_above_lem low (InvalidateRegion stag ∷ events) above = all_above_lem low events above
all_above_lem low (Arrive segment ∷ events) above = All-cons (λ (x : TaggedSegment). low < x.end) segment (tagged_segments events) above.0 (all_above_lem low events above.1)

all_below : (from until high : ℕ) (events : List MemoryEvent) → until ≤ high → Between from until events → All (λ segment. segment.end ≤ high) (tagged_segments events)
all_below from until high [] le between = All-nil (λ (segment : TaggedSegment). segment.end ≤ high)
all_below from until high (RegisterRegion right buf ∷ events) le between = all_below from until high events le between
all_below from until high (ReleaseRegion stag ∷ events) le between = all_below from until high events le between
all_below from until high (InvalidateRegion stag ∷ events) le between = all_below from until high events le between
all_below from until high (Arrive segment ∷ events) le between =
    All-cons (λ (x : TaggedSegment). x.end ≤ high) segment (tagged_segments events) (omega (arith, le, low_end segment.end until events between.1))
    (all_below segment.end until high events le between.1)

-- ---- Frames

segment_above : (low : ℕ) (f : Frame) (segment : Segment) (e : Option End) → low < f.end → Above low (segment_arrivals f segment e)
segment_above low f segment (Some end) long = tt
segment_above low f (Untagged last opcode w queue msn offset payload) None long = tt
segment_above low f (Tagged last opcode stag to payload) None long = (long, tt)

fpdu_above : (low : ℕ) (s : LinkState) (f : Frame) (r : Result Segment ℕ) → low < f.end → Above low (fpdu_arrivals s f r)
fpdu_above low s f (Ok segment) long = segment_above low f segment (segment_end s f segment) long
fpdu_above low s f (Err reason) long = tt

frame_above : (low : ℕ) (s : LinkState) (a : Awaited) (frame : List ℕ) → low < s.place + length frame → Above low (frame_arrivals s a frame)
frame_above low s (HelloFrom side) frame long = tt
frame_above low s Fpdu frame long = fpdu_above low s (next_frame s frame) (next_segment s frame) long

-- the first frame ends after this offset
abbrev pub FirstAbove : ℕ → ℕ → List (List ℕ) → Type 0
FirstAbove low place [] = Unit {0}
FirstAbove low place (frame ∷ frames) = low < place + length frame

pub no_end : (e : Option End) → is_some e ≡ false → e ≡ None
no_end None is = refl
no_end (Some end) is = absurd cc

frames_above : (low : ℕ) (frames : List (List ℕ)) (a : Awaited) (s : LinkState) → has_ended s ≡ false → AreFrames a frames → FirstAbove low s.place frames → Above low (arrivals frames a s)
frames_above low [] a s live each first = tt
frames_above low (frame ∷ frames) a s live each first =
    subst (λ (w : Bool). Above low (cond w [] (frame_arrivals s a frame ++ arrivals frames Fpdu (with_frame s a frame)))) (sym live)
    (above_joined low (frame_arrivals s a frame) (arrivals frames Fpdu (with_frame s a frame)) (frame_above low s a frame first) (by (has_ended (with_frame s a frame)) refl))
  where
    by : (b : Bool) → has_ended (with_frame s a frame) ≡ b → Above low (arrivals frames Fpdu (with_frame s a frame))
    by true over = subst (λ (events : List MemoryEvent). Above low events) (sym (ended_arrivals frames Fpdu (with_frame s a frame) over)) tt
    by false goes =
        let place : (with_frame s a frame).place ≡ s.place + length frame = frame_place s a frame (no_end (with_frame s a frame).ended goes) in
        from_between low (with_frame s a frame).place _ (arrivals frames Fpdu (with_frame s a frame)) (omega (arith, first, place))
        (frames_between frames [] Fpdu (with_frame s a frame) (has_ended (with_frame s a frame)) refl each.1)

-- what is less than a frame is shorter than the frame that it begins
longer_frame : (a : Awaited) (rest piece : List ℕ) → IsPartial a rest → length rest < frame_len a (rest ++ piece)
longer_frame a rest piece p =
    elim (cases_lt (length rest) (fields_len a)) [
      | inl few ↦ omega (arith, few, fields_within a (rest ++ piece))
      | inr fields ↦ omega (arith, p.some, p.frame.len, length-append rest p.more, frame_len_append a rest piece fields, frame_len_append a rest p.more fields)
    ]

pub first_above : (a : Awaited) (rest piece : List ℕ) (place : ℕ) → IsPartial a rest → FirstAbove (place + length rest) place (split a (rest ++ piece)).frames
first_above a rest piece place p = by (is_whole a (rest ++ piece)) refl
  where
    by : (w : Bool) → is_whole a (rest ++ piece) ≡ w → FirstAbove (place + length rest) place (split a (rest ++ piece)).frames
    by false is = subst (λ (s : Split). FirstAbove (place + length rest) place s.frames) (sym (split_partial a (rest ++ piece) is)) tt
    by true is =
        let long : place + length rest < place + length (take (frame_len a (rest ++ piece)) (rest ++ piece)) =
        omega (arith, longer_frame a rest piece p, (whole_from a (rest ++ piece) is).frame, length-take (frame_len a (rest ++ piece)) (rest ++ piece)) in
        subst (λ (s : Split). FirstAbove (place + length rest) place s.frames) (sym (split_whole a (rest ++ piece) is)) long

pub one_above : (low place : ℕ) (frames : List (List ℕ)) → FirstAbove low place frames → FirstAbove low place (take 1 frames)
one_above low place [] first = first
one_above low place (frame ∷ frames) first = first

pub one_are : (a : Awaited) (frames : List (List ℕ)) → AreFrames a frames → AreFrames a (take 1 frames)
one_are a [] each = each
one_are a (frame ∷ frames) each = (each.0, tt)

-- ---- Calls

-- what a side that was fed these bytes keeps of them
pub fed_partial : (from : Side) (link : LinkSide) (bytes : List ℕ) → KeepsInput link (input_of from bytes) → IsPartial link.awaited link.rest × (link.state.place + length link.rest ≡ length bytes)
fed_partial from link bytes k = (
  subst (λ (rest : List ℕ). IsPartial link.awaited rest) (sym k.rest) (subst (λ (a : Awaited). IsPartial a (input_of from bytes).rest) (sym k.awaited) (split_Splits (HelloFrom from) bytes).partial),
  omega (arith, k.place, ap (λ (xs : List ℕ). length xs) k.rest, input_of_count from bytes),
)

fed_above : (from : Side) (link : LinkSide) (bytes piece : List ℕ) → IsFed from link bytes → (b : Bool) → has_ended link.state ≡ b →
    Above (length bytes) (arrivals (frames_made_whole link piece) link.awaited link.state) × Above (length bytes) (arrivals (take 1 (frames_made_whole link piece)) link.awaited link.state)
fed_above from link bytes piece fed true over = (
  subst (λ (events : List MemoryEvent). Above (length bytes) events) (sym (ended_arrivals (frames_made_whole link piece) link.awaited link.state over)) tt,
  subst (λ (events : List MemoryEvent). Above (length bytes) events) (sym (ended_arrivals (take 1 (frames_made_whole link piece)) link.awaited link.state over)) tt,
)
fed_above from link bytes piece fed false live =
    let kept : IsPartial link.awaited link.rest × (link.state.place + length link.rest ≡ length bytes) = fed_partial from link bytes (fed.keeps live) in
    let frames : List (List ℕ) = frames_made_whole link piece in
    let each : AreFrames link.awaited frames = (split_Splits link.awaited (link.rest ++ piece)).each in
    let first : FirstAbove (length bytes) link.state.place frames =
    subst (λ (n : ℕ). FirstAbove n link.state.place frames) kept.1 (first_above link.awaited link.rest piece link.state.place kept.0) in (
      frames_above (length bytes) frames link.awaited link.state live each first,
      frames_above (length bytes) (take 1 frames) link.awaited link.state live (one_are link.awaited frames each) (one_above (length bytes) link.state.place frames first),
    )

call_above : (from : Side) (link : LinkSide) (bytes : List ℕ) (call : Call) → IsFed from link bytes → Above (length bytes) (call_events link call)
call_above from link bytes (Feed piece) fed = (fed_above from link bytes piece fed (has_ended link.state) refl).0
call_above from link bytes (FeedOne piece) fed = (fed_above from link bytes piece fed (has_ended link.state) refl).1
call_above from link bytes NextEvent fed = tt
call_above from link bytes Post fed = tt
call_above from link bytes (Stop reason) fed = tt
call_above from link bytes OutOfMemory fed = tt
call_above from link bytes (Send message) fed = tt
call_above from link bytes (SendInvalidate stag message) fed = tt
call_above from link bytes (Hold message) fed = tt
call_above from link bytes (SendHeld message) fed = tt
call_above from link bytes (WriteRemote stag to payload) fed = tt
call_above from link bytes (ReadRemote sink at stag to len) fed = tt
call_above from link bytes (Drain count) fed = tt
call_above from link bytes (Register buf right) fed = tt
call_above from link bytes (Release stag) fed = tt
call_above from link bytes (Invalidate stag) fed = tt

calls_above : (from : Side) (link : LinkSide) (bytes : List ℕ) (calls : List Call) → IsFed from link bytes → Above (length bytes) (memory_events link calls)
calls_above from link bytes [] fed = tt
calls_above from link bytes (call ∷ calls) fed =
    let more : List ℕ = bytes ++ bytes_in_call link call in
    above_joined (length bytes) (call_events link call) (memory_events (after_call link call) calls) (call_above from link bytes call fed)
    (lower (length bytes) (length more) (memory_events (after_call link call) calls) (omega (arith, length-append bytes (bytes_in_call link call)))
    (calls_above from (after_call link call) more calls (call_fed from link bytes call fed)))

pub received_bytes : ReceivedBytes
received_bytes side receives first_stag terms earlier before after =
    let start : LinkSide = initial_link side receives first_stag terms earlier in
    let fed : IsFed (peer side) (after_calls start before) (bytes_fed start before) = stream_fed side receives first_stag terms earlier before in (
      all_below start.state.place (after_calls start before).state.place (length (bytes_fed start before)) (memory_events start before) (omega (arith, fed.within)) (calls_between start before),
      all_above_lem (length (bytes_fed start before)) (memory_events (after_calls start before) after) (calls_above (peer side) (after_calls start before) (bytes_fed start before) after fed),
    )
