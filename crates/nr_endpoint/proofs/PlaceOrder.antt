-- The tagged segments arrive in the order of the stream.
use Rattle.std.proofs.Common.{◌≡◌, ℕ, ◌<◌, ◌≤◌, Bool, true, false, cond, List, [], ◌∷◌, ◌++◌, take, Option, Some, None, Result, Ok, Err, refl, sym, ap, subst, ◌∙◌, arith}
use Rattle.std.specs.Prelude.{All}
use Rattle.std.proofs.lemmas.List.Elements.{All-nil, All-cons}
use Rattle.nr_wire.specs.declared.stream.Awaited.{Awaited}
use Rattle.nr_wire.specs.declared.stream.Awaited.TheVariants.{Hello as HelloFrom, Fpdu}
use Rattle.nr_wire.specs.Hello.{Hello, hello_of}
use Rattle.nr_wire.specs.Segment.{Segment}
use Rattle.nr_wire.specs.Segment.Segment.{Tagged, Untagged}
use Rattle.nr_wire.specs.Stream.{is_whole, frame_len, IsFrame, AreFrames, Split, split}
use Rattle.nr_wire.specs.Feeding.{feeding_after, feeding_after_step, feeding_after_frames}
use Rattle.nr_wire.proofs.Frames.{IsFrame_take, whole_from}
use Rattle.nr_wire.proofs.Feedings.{feeding_after_step-ended, feeding_after_step-whole, feeding_after_step-partial}
use Rattle.nr_wire.proofs.Splits.{split_whole, split_partial, split_Splits}
use Rattle.nr_regions.specs.Events.{MemoryEvent, tagged_segments}
use Rattle.nr_regions.specs.Events.MemoryEvent.{Register as RegisterRegion, Release as ReleaseRegion, Invalidate as InvalidateRegion, Arrive}
use Rattle.nr_link.specs.declared.end.End.{End}
use Rattle.nr_link.specs.Frames.{Frame}
use Rattle.nr_endpoint.specs.LinkState.{LinkState, LinkSide, has_ended}
use Rattle.nr_endpoint.specs.Judging.{segment_end, next_frame, with_frame, with_segment_by, with_fpdu, with_peer_hello, next_segment}
use Rattle.nr_endpoint.specs.Calls.{Call, after_call, after_calls}
use Rattle.nr_endpoint.specs.Calls.Call.{Feed, FeedOne, NextEvent, Post, Stop, OutOfMemory, Send, WriteRemote, ReadRemote, Drain, Register, Release, SendInvalidate, Hold, SendHeld, Invalidate}
use Rattle.nr_endpoint.specs.Laws.{segment_arrivals, fpdu_arrivals, frame_arrivals, arrivals, frames_made_whole, call_events, memory_events, EndsWithin, PlacesAreInOrder, EndsRise, ArrivalsRise}
use Rattle.nr_endpoint.proofs.MemoryLaws.{ended_arrivals, one_arrival}
use Rattle.nr_endpoint.proofs.HellosFrom.{hello_from}

-- from one offset to another, the events' segments each end after the one before
abbrev pub Between : ℕ → ℕ → List MemoryEvent → Type 0
Between from until [] = from ≤ until
Between from until (RegisterRegion right buf ∷ events) = Between from until events
Between from until (ReleaseRegion stag ∷ events) = Between from until events
Between from until (InvalidateRegion stag ∷ events) = Between from until events
Between from until (Arrive segment ∷ events) = (from < segment.end) × Between segment.end until events

sooner : (a b c : ℕ) (events : List MemoryEvent) → a ≤ b → Between b c events → Between a c events
sooner a b c [] low between = omega (arith, low, between)
sooner a b c (RegisterRegion right buf ∷ events) low between = sooner a b c events low between
sooner a b c (ReleaseRegion stag ∷ events) low between = sooner a b c events low between
sooner a b c (InvalidateRegion stag ∷ events) low between = sooner a b c events low between
sooner a b c (Arrive segment ∷ events) low between = (omega (arith, low, between.0), between.1)

joined : (a b c : ℕ) (xs ys : List MemoryEvent) → Between a b xs → Between b c ys → Between a c (xs ++ ys)
joined a b c [] ys first second = sooner a b c ys first second
joined a b c (RegisterRegion right buf ∷ xs) ys first second = joined a b c xs ys first second
joined a b c (ReleaseRegion stag ∷ xs) ys first second = joined a b c xs ys first second
joined a b c (InvalidateRegion stag ∷ xs) ys first second = joined a b c xs ys first second
joined a b c (Arrive segment ∷ xs) ys first second = (first.0, joined segment.end b c xs ys first.1 second)

stands : (n : ℕ) → Between n n []
stands n = omega arith

-- ---- A frame

segment_between : (s : LinkState) (f : Frame) (segment : Segment) (e : Option End) → s.place < f.end → Between s.place (with_segment_by f segment e s).place (segment_arrivals f segment e)
segment_between s f segment (Some end) longer = stands s.place
segment_between s f (Untagged last opcode w queue msn offset payload) None longer = omega (arith, longer)
segment_between s f (Tagged last opcode stag to payload) None longer = (longer, omega arith)

fpdu_between : (s : LinkState) (f : Frame) (r : Result Segment ℕ) → s.place < f.end → Between s.place (with_fpdu f r s).place (fpdu_arrivals s f r)
unfolding with_fpdu
fpdu_between s f (Ok segment) longer = segment_between s f segment (segment_end s f segment) longer
fpdu_between s f (Err reason) longer = stands s.place

hello_between : (s : LinkState) (f : Frame) (r : Result Hello ℕ) → s.place < f.end → Between s.place (with_peer_hello f r s).place []
unfolding with_peer_hello
hello_between s f (Ok hello) longer = omega (arith, longer)
hello_between s f (Err reason) longer = stands s.place

frame_between : (s : LinkState) (a : Awaited) (frame : List ℕ) → IsFrame a frame → Between s.place (with_frame s a frame).place (frame_arrivals s a frame)
frame_between s (HelloFrom side) frame is =
    hello_from (λ t. Between s.place t.place []) side (next_frame s frame) (hello_of side frame) s (hello_between s (next_frame s frame) (hello_of side frame) (omega (arith, is.fields))) (stands s.place)
frame_between s Fpdu frame is = fpdu_between s (next_frame s frame) (next_segment s frame) (omega (arith, is.fields))

-- ---- Frames

pub frames_between : (frames : List (List ℕ)) (rest : List ℕ) (a : Awaited) (s : LinkState) (b : Bool) → has_ended s ≡ b → AreFrames a frames →
    Between s.place (feeding_after_frames has_ended with_frame frames rest a s).state.place (arrivals frames a s)
frames_between [] rest a s b is each = stands s.place
frames_between (frame ∷ frames) rest a s true is each =
    subst (λ (w : Bool). Between s.place
    (cond w (record { awaited = a; rest = cond w [] []; state = s }) (feeding_after_frames has_ended with_frame frames rest Fpdu (with_frame s a frame))).state.place
    (cond w [] (frame_arrivals s a frame ++ arrivals frames Fpdu (with_frame s a frame))))
    (sym is) (stands s.place)
frames_between (frame ∷ frames) rest a s false is each =
    subst (λ (w : Bool). Between s.place
    (cond w (record { awaited = a; rest = cond w [] []; state = s }) (feeding_after_frames has_ended with_frame frames rest Fpdu (with_frame s a frame))).state.place
    (cond w [] (frame_arrivals s a frame ++ arrivals frames Fpdu (with_frame s a frame))))
    (sym is)
    (joined s.place (with_frame s a frame).place _ (frame_arrivals s a frame) (arrivals frames Fpdu (with_frame s a frame))
    (frame_between s a frame each.0) (frames_between frames rest Fpdu (with_frame s a frame) (has_ended (with_frame s a frame)) refl each.1))

fed_between : (link : LinkSide) (piece : List ℕ) →
    Between link.state.place (feeding_after has_ended with_frame link piece).state.place (arrivals (frames_made_whole link piece) link.awaited link.state)
unfolding feeding_after
fed_between link piece =
    frames_between (frames_made_whole link piece) (split link.awaited (link.rest ++ piece)).rest link.awaited link.state (has_ended link.state) refl
    (split_Splits link.awaited (link.rest ++ piece)).each

no_arrival : (from until : ℕ) (events : List MemoryEvent) → events ≡ [] → until ≡ from → Between from until events
no_arrival from until events none is = subst (λ (xs : List MemoryEvent). Between from until xs) (sym none) (omega (arith, is))

step_between : (link : LinkSide) (piece : List ℕ) (gone whole : Bool) → has_ended link.state ≡ gone → is_whole link.awaited (link.rest ++ piece) ≡ whole →
    Between link.state.place (feeding_after_step has_ended with_frame link piece).state.place (arrivals (take 1 (frames_made_whole link piece)) link.awaited link.state)
step_between link piece true whole is w =
    no_arrival link.state.place _ _ (ended_arrivals (take 1 (frames_made_whole link piece)) link.awaited link.state is)
    (ap (λ (l : LinkSide). l.state.place) (feeding_after_step-ended has_ended with_frame link piece is))
step_between link piece false false is w =
    no_arrival link.state.place _ _ (ap (λ (split : Split). arrivals (take 1 split.frames) link.awaited link.state) (split_partial link.awaited (link.rest ++ piece) w))
    (ap (λ (l : LinkSide). l.state.place) (feeding_after_step-partial has_ended with_frame link piece is w))
step_between link piece false true is w =
    let frame : List ℕ = take (frame_len link.awaited (link.rest ++ piece)) (link.rest ++ piece) in
    let events : arrivals (take 1 (frames_made_whole link piece)) link.awaited link.state ≡ frame_arrivals link.state link.awaited frame =
    ap (λ (split : Split). arrivals (take 1 split.frames) link.awaited link.state) (split_whole link.awaited (link.rest ++ piece) w) ∙ one_arrival frame link.awaited link.state is in
    let after : (feeding_after_step has_ended with_frame link piece).state.place ≡ (with_frame link.state link.awaited frame).place =
    ap (λ (l : LinkSide). l.state.place) (feeding_after_step-whole has_ended with_frame link piece is w) in
    let between : Between link.state.place (with_frame link.state link.awaited frame).place (frame_arrivals link.state link.awaited frame) =
    frame_between link.state link.awaited frame (IsFrame_take link.awaited (link.rest ++ piece) (whole_from link.awaited (link.rest ++ piece) w)) in
    subst (λ (xs : List MemoryEvent). Between link.state.place (feeding_after_step has_ended with_frame link piece).state.place xs) (sym events)
    (subst (λ (n : ℕ). Between link.state.place n (frame_arrivals link.state link.awaited frame)) (sym after) between)

-- ---- Calls

unless_place : (s after : LinkState) (b : Bool) → after.place ≡ s.place → (cond b s after).place ≡ s.place
unless_place s after true is = refl
unless_place s after false is = is

call_between : (link : LinkSide) (call : Call) → Between link.state.place (after_call link call).state.place (call_events link call)
unfolding after_call
call_between link (Feed piece) = fed_between link piece
call_between link (FeedOne piece) = step_between link piece (has_ended link.state) (is_whole link.awaited (link.rest ++ piece)) refl refl
call_between link NextEvent = stands link.state.place
call_between link Post = stands link.state.place
call_between link (Stop reason) = no_arrival link.state.place _ [] refl (unless_place link.state _ (has_ended link.state) refl)
call_between link OutOfMemory = no_arrival link.state.place _ [] refl (unless_place link.state _ (has_ended link.state) refl)
call_between link (Send message) = no_arrival link.state.place _ [] refl (unless_place link.state _ (has_ended link.state) refl)
call_between link (SendInvalidate stag message) = no_arrival link.state.place _ [] refl (unless_place link.state _ (has_ended link.state) refl)
call_between link (Hold message) = no_arrival link.state.place _ [] refl (unless_place link.state _ (has_ended link.state) refl)
call_between link (SendHeld message) = no_arrival link.state.place _ [] refl (unless_place link.state _ (has_ended link.state) refl)
call_between link (WriteRemote stag to bytes) = no_arrival link.state.place _ [] refl (unless_place link.state _ (has_ended link.state) refl)
call_between link (ReadRemote sink at stag to len) = no_arrival link.state.place _ [] refl (unless_place link.state _ (has_ended link.state) refl)
call_between link (Drain count) = stands link.state.place
call_between link (Register buf right) = omega arith
call_between link (Release stag) = omega arith
call_between link (Invalidate stag) = omega arith

pub calls_between : (link : LinkSide) (calls : List Call) → Between link.state.place (after_calls link calls).state.place (memory_events link calls)
unfolding after_calls
calls_between link [] = stands link.state.place
calls_between link (call ∷ calls) =
    joined link.state.place (after_call link call).state.place _ (call_events link call) (memory_events (after_call link call) calls)
    (call_between link call) (calls_between (after_call link call) calls)

pub low_end : (from until : ℕ) (events : List MemoryEvent) → Between from until events → from ≤ until
low_end from until [] between = between
low_end from until (RegisterRegion right buf ∷ events) between = low_end from until events between
low_end from until (ReleaseRegion stag ∷ events) between = low_end from until events between
low_end from until (InvalidateRegion stag ∷ events) between = low_end from until events between
low_end from until (Arrive segment ∷ events) between = omega (arith, between.0, low_end segment.end until events between.1)

-- the segments end within wider offsets
pub all_within : (first from until : ℕ) (events : List MemoryEvent) → first ≤ from → Between from until events → All (EndsWithin first until) (tagged_segments events)
all_within first from until [] low between = All-nil (EndsWithin first until)
all_within first from until (RegisterRegion right buf ∷ events) low between = all_within first from until events low between
all_within first from until (ReleaseRegion stag ∷ events) low between = all_within first from until events low between
all_within first from until (InvalidateRegion stag ∷ events) low between = all_within first from until events low between
all_within first from until (Arrive segment ∷ events) low between =
    All-cons (EndsWithin first until) segment (tagged_segments events) (omega (arith, low, between.0), low_end segment.end until events between.1)
    (all_within first segment.end until events (omega (arith, low, between.0)) between.1)

pub places_are_in_order : PlacesAreInOrder
places_are_in_order link calls =
    all_within link.state.place link.state.place (after_calls link calls).state.place (memory_events link calls) (omega arith) (calls_between link calls)

ends_rise : (from until : ℕ) (events : List MemoryEvent) → Between from until events → EndsRise from (tagged_segments events)
ends_rise from until [] between = tt
ends_rise from until (RegisterRegion right buf ∷ events) between = ends_rise from until events between
ends_rise from until (ReleaseRegion stag ∷ events) between = ends_rise from until events between
ends_rise from until (InvalidateRegion stag ∷ events) between = ends_rise from until events between
ends_rise from until (Arrive segment ∷ events) between = (between.0, ends_rise segment.end until events between.1)

pub arrivals_rise : ArrivalsRise
arrivals_rise link calls = ends_rise link.state.place (after_calls link calls).state.place (memory_events link calls) (calls_between link calls)
