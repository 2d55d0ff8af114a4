-- A registration lasts until its release.
use Rattle.std.proofs.Common.{◌≡◌, ◌≢◌, ℕ, Bool, true, false, cond, List, [], ◌∷◌, ◌++◌, take, Option, Some, None, Result, Ok, Err, refl, sym, ap, subst, ◌∙◌}
use Rattle.std.specs.Prelude.{All}
use Rattle.std.proofs.lemmas.List.Elements.{All-nil, All-cons, All-head, All-tail}
use Rattle.nr_wire.specs.declared.stream.Awaited.{Awaited}
use Rattle.nr_wire.specs.declared.stream.Awaited.TheVariants.{Hello as HelloFrom, Fpdu}
use Rattle.nr_wire.specs.Segment.{Segment}
use Rattle.nr_wire.specs.Segment.Segment.{Tagged, Untagged}
use Rattle.nr_regions.specs.RegisteredMemory.{RegisteredMemory, Claim, IsHeld, live_region, held_region, after_invalidate}
use Rattle.nr_regions.specs.Events.{MemoryEvent, after_event, after_events, IsNoReleaseOf}
use Rattle.nr_regions.proofs.Holding.{held_after_event}
use Rattle.nr_regions.proofs.Contents.{dead_until_released}
use Rattle.nr_link.specs.declared.end.End.{End}
use Rattle.nr_link.specs.Frames.{Frame}
use Rattle.nr_endpoint.specs.LinkState.{LinkState, LinkSide, has_ended}
use Rattle.nr_endpoint.specs.Judging.{segment_end, next_frame, with_frame, next_segment}
use Rattle.nr_endpoint.specs.Calls.{Call, after_call, after_calls}
use Rattle.nr_endpoint.specs.Calls.Call.{Feed, FeedOne, NextEvent, Post, Stop, OutOfMemory, Send, WriteRemote, ReadRemote, Drain, Register, Release, SendInvalidate, Hold, SendHeld, Invalidate}
use Rattle.nr_endpoint.specs.Laws.{segment_arrivals, fpdu_arrivals, frame_arrivals, arrivals, frames_made_whole, call_events, memory_events, ClaimsStay, InvalidatedStaysClosed}
use Rattle.nr_endpoint.proofs.MemoryLaws.{memory_follows_events}

-- none of the events releases this STag
abbrev NoneReleases : ℕ → List MemoryEvent → Type 0
NoneReleases stag [] = Unit {0}
NoneReleases stag (event ∷ events) = IsNoReleaseOf stag event × NoneReleases stag events

held_after_events : (m : RegisteredMemory) (claim : Claim) (events : List MemoryEvent) → IsHeld m claim → NoneReleases claim.stag events → IsHeld (after_events m events) claim
held_after_events m claim [] held none = held
held_after_events m claim (event ∷ events) held none = held_after_events (after_event m event) claim events (held_after_event m claim event held none.0) none.1

none_append_lem : (stag : ℕ) (xs ys : List MemoryEvent) → NoneReleases stag xs → NoneReleases stag ys → NoneReleases stag (xs ++ ys)
none_append_lem stag [] ys first second = second
none_append_lem stag (event ∷ xs) ys first second = (first.0, none_append_lem stag xs ys first.1 second)

-- ---- No frame releases

segment_none : (stag : ℕ) (f : Frame) (segment : Segment) (e : Option End) → NoneReleases stag (segment_arrivals f segment e)
segment_none stag f segment (Some end) = tt
segment_none stag f (Untagged last opcode w queue msn offset payload) None = tt
segment_none stag f (Tagged last opcode to_stag to payload) None = (tt, tt)

fpdu_none : (stag : ℕ) (s : LinkState) (f : Frame) (r : Result Segment ℕ) → NoneReleases stag (fpdu_arrivals s f r)
fpdu_none stag s f (Ok segment) = segment_none stag f segment (segment_end s f segment)
fpdu_none stag s f (Err reason) = tt

frame_none : (stag : ℕ) (s : LinkState) (a : Awaited) (frame : List ℕ) → NoneReleases stag (frame_arrivals s a frame)
frame_none stag s (HelloFrom side) frame = tt
frame_none stag s Fpdu frame = fpdu_none stag s (next_frame s frame) (next_segment s frame)

unless_none : (stag : ℕ) (b : Bool) (events : List MemoryEvent) → NoneReleases stag events → NoneReleases stag (cond b [] events)
unless_none stag true events none = tt
unless_none stag false events none = none

arrivals_none : (stag : ℕ) (frames : List (List ℕ)) (a : Awaited) (s : LinkState) → NoneReleases stag (arrivals frames a s)
arrivals_none stag [] a s = tt
arrivals_none stag (frame ∷ frames) a s =
    unless_none stag (has_ended s) (frame_arrivals s a frame ++ arrivals frames Fpdu (with_frame s a frame))
    (none_append_lem stag (frame_arrivals s a frame) (arrivals frames Fpdu (with_frame s a frame)) (frame_none stag s a frame) (arrivals_none stag frames Fpdu (with_frame s a frame)))

-- ---- Calls

call_none : (stag : ℕ) (link : LinkSide) (call : Call) → call ≢ Release stag → NoneReleases stag (call_events link call)
call_none stag link (Feed piece) other = arrivals_none stag (frames_made_whole link piece) link.awaited link.state
call_none stag link (FeedOne piece) other = arrivals_none stag (take 1 (frames_made_whole link piece)) link.awaited link.state
call_none stag link NextEvent other = tt
call_none stag link Post other = tt
call_none stag link (Stop reason) other = tt
call_none stag link OutOfMemory other = tt
call_none stag link (Send message) other = tt
call_none stag link (SendInvalidate named message) other = tt
call_none stag link (Hold message) other = tt
call_none stag link (SendHeld message) other = tt
call_none stag link (WriteRemote to_stag to bytes) other = tt
call_none stag link (ReadRemote sink at from_stag to len) other = tt
call_none stag link (Drain count) other = tt
call_none stag link (Register buf right) other = (tt, tt)
call_none stag link (Release released) other = (λ e. other (ap (λ (n : ℕ). Release n) e), tt)
call_none stag link (Invalidate named) other = (tt, tt)

calls_none : (stag : ℕ) (link : LinkSide) (calls : List Call) → All (λ call. call ≢ Release stag) calls → NoneReleases stag (memory_events link calls)
calls_none stag link [] others = tt
calls_none stag link (call ∷ calls) others =
    none_append_lem stag (call_events link call) (memory_events (after_call link call) calls)
    (call_none stag link call (All-head (λ call. call ≢ Release stag) call calls others))
    (calls_none stag (after_call link call) calls (All-tail (λ call. call ≢ Release stag) call calls others))

pub claims_stay_lem : ClaimsStay
claims_stay_lem link claim calls held others =
    subst (λ (m : RegisteredMemory). IsHeld m claim) (sym (memory_follows_events link calls))
    (held_after_events link.state.memory claim (memory_events link calls) held (calls_none claim.stag link calls others))

-- ---- A region that was invalidated

all_none : (stag : ℕ) (events : List MemoryEvent) → NoneReleases stag events → All (IsNoReleaseOf stag) events
all_none stag [] none = All-nil (IsNoReleaseOf stag)
all_none stag (event ∷ events) none = All-cons (IsNoReleaseOf stag) event events none.0 (all_none stag events none.1)

invalidated_memory : (link : LinkSide) (stag : ℕ) → (after_call link (Invalidate stag)).state.memory ≡ after_invalidate link.state.memory stag
unfolding after_call
invalidated_memory link stag = refl

pub invalidated_stays_closed : InvalidatedStaysClosed
invalidated_stays_closed link stag calls given others =
    let start : LinkSide = after_call link (Invalidate stag) in
    let events : List MemoryEvent = memory_events start calls in
    let memory : (after_calls start calls).state.memory ≡ after_events (after_invalidate link.state.memory stag) events =
    memory_follows_events start calls ∙ ap (λ (m : RegisteredMemory). after_events m events) (invalidated_memory link stag) in
    let stays = dead_until_released link.state.memory stag events given (all_none stag events (calls_none stag start calls others)) in
    (ap (λ (m : RegisteredMemory). live_region m stag) memory ∙ stays.0, ap (λ (m : RegisteredMemory). held_region m stag) memory ∙ stays.1)
