-- The memory of a side follows its registrations, its releases and the accesses of the peer.
use Rattle.std.proofs.Common.{◌≡◌, ℕ, ◌<◌, Bool, true, false, cond, List, [], ◌∷◌, ◌++◌, length, take, Option, Some, None, Result, Ok, Err, refl, sym, ap, subst, ◌∙◌, append_assoc, eqb}
use Rattle.std.proofs.lemmas.List.{append-nil}
use Rattle.nr_wire.specs.declared.stream.Awaited.{Awaited}
use Rattle.nr_wire.specs.declared.stream.Awaited.TheVariants.{Hello as HelloFrom, Fpdu}
use Rattle.nr_wire.specs.Constants.{OPCODE_READ_RESPONSE}
use Rattle.nr_wire.specs.Hello.{Hello, hello_of}
use Rattle.nr_wire.specs.Segment.{Segment}
use Rattle.nr_wire.specs.Segment.Segment.{Tagged, Untagged}
use Rattle.nr_wire.specs.Stream.{is_whole, frame_len, Split, split}
use Rattle.nr_wire.specs.Feeding.{feeding_after, feeding_after_step, feeding_after_frames}
use Rattle.nr_wire.proofs.Feedings.{feeding_after_step-ended, feeding_after_step-whole, feeding_after_step-partial}
use Rattle.nr_wire.proofs.Splits.{split_whole, split_partial}
use Rattle.nr_regions.specs.declared.denied.Denied.{Denied}
use Rattle.nr_regions.specs.declared.right.Right.{Right}
use Rattle.nr_regions.specs.RegisteredMemory.{RegisteredMemory, denial, right_for, after_place, live_region, held_region, bytes_in, after_release}
use Rattle.nr_regions.specs.Access.{Grant, TaggedSegment, access_of_tagged, contents}
use Rattle.nr_regions.specs.Events.{MemoryEvent, after_arrival, after_event, after_events, tagged_segments, IsRegisteredAt, IsReleasedAt}
use Rattle.nr_regions.specs.Events.MemoryEvent.{Register as RegisterRegion, Release as ReleaseRegion, Arrive}
use Rattle.nr_regions.proofs.Holding.{live_release_here}
use Rattle.nr_regions.proofs.Contents.{contents_are, stays_closed}
use Rattle.nr_regions.proofs.Streams.{contents_of_stream}
use Rattle.nr_link.specs.declared.end.End.{End}
use Rattle.nr_link.specs.Frames.{Frame}
use Rattle.nr_link.specs.Ending.{kind_of}
use Rattle.nr_endpoint.specs.LinkState.{LinkState, LinkSide, has_ended}
use Rattle.nr_endpoint.specs.Judging.{segment_end, next_frame, with_frame, with_segment_by, with_fpdu, with_peer_hello, with_effect, with_read_response, next_segment}
use Rattle.nr_endpoint.specs.SegmentEnds.{denied_if, tagged_end}
use Rattle.nr_endpoint.specs.Calls.{Call, after_call, after_calls}
use Rattle.nr_endpoint.specs.Calls.Call.{Feed, FeedOne, NextEvent, Post, Stop, OutOfMemory, Send, WriteRemote, ReadRemote, Drain, Register, Release, SendInvalidate, Hold, SendHeld, Invalidate}
use Rattle.nr_endpoint.specs.Laws.{segment_arrivals, fpdu_arrivals, frame_arrivals, arrivals, frames_made_whole, call_events, memory_events, NoneIsDenied, MemoryFollowsEvents, PlacesAreAllowed, OpenRegionHolds, ReleasedBufferHolds, ReleasedStaysClosed}
use Rattle.nr_endpoint.proofs.Alive.{alive_tagged}
use Rattle.nr_endpoint.proofs.HellosFrom.{hello_from}

-- the memory after some events, none of which it denies
abbrev Follows : RegisteredMemory → List MemoryEvent → RegisteredMemory → Type 0
Follows m events after = (after ≡ after_events m events) × NoneIsDenied m events

after_append : (m : RegisteredMemory) (xs ys : List MemoryEvent) → after_events m (xs ++ ys) ≡ after_events (after_events m xs) ys
after_append m [] ys = refl
after_append m (event ∷ xs) ys = after_append (after_event m event) xs ys

undenied_append : (m : RegisteredMemory) (xs ys : List MemoryEvent) → NoneIsDenied m xs → NoneIsDenied (after_events m xs) ys → NoneIsDenied m (xs ++ ys)
undenied_append m [] ys none others = others
undenied_append m (event ∷ xs) ys none others = (none.0, undenied_append (after_event m event) xs ys none.1 others)

follows_append : (m between after : RegisteredMemory) (xs ys : List MemoryEvent) → Follows m xs between → Follows between ys after → Follows m (xs ++ ys) after
follows_append m between after xs ys first second = (
  second.0 ∙ ap (λ (k : RegisteredMemory). after_events k ys) first.0 ∙ sym (after_append m xs ys),
  undenied_append m xs ys first.1 (subst (λ (k : RegisteredMemory). NoneIsDenied k ys) first.0 second.1),
)

-- ---- A frame

not_denied_lem : (stag to : ℕ) (why : Option Denied) (others : Option End) → denied_if stag to why others ≡ None → why ≡ None
not_denied_lem stag to None others is = refl
not_denied_lem stag to (Some why) others is = absurd cc

tagged_allowed : (s : LinkState) (last : Bool) (opcode stag to : ℕ) (payload : List ℕ) → tagged_end s last opcode stag to payload ≡ None →
    denial s.memory (record { right = right_for (kind_of opcode); stag = stag; to = to; len = length payload }) ≡ None
unfolding tagged_end
tagged_allowed s last opcode stag to payload is = not_denied_lem stag to _ _ is

placed_memory : (s : LinkState) (b last : Bool) (n : ℕ) → (cond b (with_read_response last n s) s).memory ≡ s.memory
placed_memory s true last n = refl
placed_memory s false last n = refl

effect_memory : (s : LinkState) (last : Bool) (opcode stag to : ℕ) (payload : List ℕ) →
    (with_effect (Tagged last opcode stag to payload) s).memory ≡ after_place s.memory stag to payload
unfolding with_effect
effect_memory s last opcode stag to payload =
    placed_memory (record s { memory = after_place s.memory stag to payload }) (eqb opcode OPCODE_READ_RESPONSE) last (length payload)

arrived : (m : RegisteredMemory) (segment : TaggedSegment) → denial m (access_of_tagged segment) ≡ None →
    after_place m segment.stag segment.to segment.payload ≡ after_event m (Arrive segment)
unfolding after_event
arrived m segment allowed = sym (ap (λ (why : Option Denied). after_arrival why m segment) allowed)

segment_memory : (s : LinkState) (f : Frame) (segment : Segment) (e : Option End) → f.at ≡ s.place → segment_end s f segment ≡ e →
    Follows s.memory (segment_arrivals f segment e) (with_segment_by f segment e s).memory
unfolding with_effect
segment_memory s f segment (Some end) at is = (refl, tt)
segment_memory s f (Untagged last opcode w queue msn offset payload) None at is = (refl, tt)
segment_memory s f (Tagged last opcode stag to payload) None at is =
    let segment : TaggedSegment = record { kind = kind_of opcode; stag = stag; to = to; payload = payload; end = f.end } in
    let allowed : denial s.memory (access_of_tagged segment) ≡ None = tagged_allowed s last opcode stag to payload (alive_tagged s f last opcode stag to payload at is) in
    (effect_memory s last opcode stag to payload ∙ arrived s.memory segment allowed, (allowed, tt))

fpdu_memory : (s : LinkState) (f : Frame) (r : Result Segment ℕ) → f.at ≡ s.place → Follows s.memory (fpdu_arrivals s f r) (with_fpdu f r s).memory
unfolding with_fpdu
fpdu_memory s f (Ok segment) at = segment_memory s f segment (segment_end s f segment) at refl
fpdu_memory s f (Err reason) at = (refl, tt)

hello_memory : (s : LinkState) (f : Frame) (r : Result Hello ℕ) → (with_peer_hello f r s).memory ≡ s.memory
unfolding with_peer_hello
hello_memory s f (Ok hello) = refl
hello_memory s f (Err reason) = refl

frame_memory : (s : LinkState) (a : Awaited) (frame : List ℕ) → Follows s.memory (frame_arrivals s a frame) (with_frame s a frame).memory
frame_memory s (HelloFrom side) frame =
    (hello_from (λ t. t.memory ≡ s.memory) side (next_frame s frame) (hello_of side frame) s (hello_memory s (next_frame s frame) (hello_of side frame)) refl, tt)
frame_memory s Fpdu frame = fpdu_memory s (next_frame s frame) (next_segment s frame) refl

-- ---- Frames

frames_memory : (frames : List (List ℕ)) (rest : List ℕ) (a : Awaited) (s : LinkState) (b : Bool) → has_ended s ≡ b →
    Follows s.memory (arrivals frames a s) (feeding_after_frames has_ended with_frame frames rest a s).state.memory
frames_memory [] rest a s b is = (refl, tt)
frames_memory (frame ∷ frames) rest a s true is =
    subst (λ (w : Bool). Follows s.memory (cond w [] (frame_arrivals s a frame ++ arrivals frames Fpdu (with_frame s a frame)))
    (cond w (record { awaited = a; rest = cond w [] []; state = s }) (feeding_after_frames has_ended with_frame frames rest Fpdu (with_frame s a frame))).state.memory)
    (sym is) (refl, tt)
frames_memory (frame ∷ frames) rest a s false is =
    subst (λ (w : Bool). Follows s.memory (cond w [] (frame_arrivals s a frame ++ arrivals frames Fpdu (with_frame s a frame)))
    (cond w (record { awaited = a; rest = cond w [] []; state = s }) (feeding_after_frames has_ended with_frame frames rest Fpdu (with_frame s a frame))).state.memory)
    (sym is)
    (follows_append s.memory (with_frame s a frame).memory _ (frame_arrivals s a frame) (arrivals frames Fpdu (with_frame s a frame))
    (frame_memory s a frame) (frames_memory frames rest Fpdu (with_frame s a frame) (has_ended (with_frame s a frame)) refl))

fed_memory_lem : (link : LinkSide) (piece : List ℕ) →
    Follows link.state.memory (arrivals (frames_made_whole link piece) link.awaited link.state) (feeding_after has_ended with_frame link piece).state.memory
unfolding feeding_after
fed_memory_lem link piece = frames_memory (frames_made_whole link piece) (split link.awaited (link.rest ++ piece)).rest link.awaited link.state (has_ended link.state) refl

-- ---- One frame

pub ended_arrivals : (frames : List (List ℕ)) (a : Awaited) (s : LinkState) → has_ended s ≡ true → arrivals frames a s ≡ []
ended_arrivals [] a s is = refl
ended_arrivals (frame ∷ frames) a s is = ap (λ (w : Bool). cond w [] (frame_arrivals s a frame ++ arrivals frames Fpdu (with_frame s a frame))) is

pub one_arrival : (frame : List ℕ) (a : Awaited) (s : LinkState) → has_ended s ≡ false → arrivals (frame ∷ []) a s ≡ frame_arrivals s a frame
one_arrival frame a s is = ap (λ (w : Bool). cond w [] (frame_arrivals s a frame ++ [])) is ∙ append-nil (frame_arrivals s a frame)

no_event_lem : (m after : RegisteredMemory) (events : List MemoryEvent) → events ≡ [] → after ≡ m → Follows m events after
no_event_lem m after events none is = subst (λ (xs : List MemoryEvent). Follows m xs after) (sym none) (is, tt)

step_memory_lem : (link : LinkSide) (piece : List ℕ) (gone whole : Bool) → has_ended link.state ≡ gone → is_whole link.awaited (link.rest ++ piece) ≡ whole →
    Follows link.state.memory (arrivals (take 1 (frames_made_whole link piece)) link.awaited link.state) (feeding_after_step has_ended with_frame link piece).state.memory
step_memory_lem link piece true whole is w =
    no_event_lem link.state.memory _ _ (ended_arrivals (take 1 (frames_made_whole link piece)) link.awaited link.state is)
    (ap (λ (l : LinkSide). l.state.memory) (feeding_after_step-ended has_ended with_frame link piece is))
step_memory_lem link piece false false is w =
    no_event_lem link.state.memory _ _ (ap (λ (split : Split). arrivals (take 1 split.frames) link.awaited link.state) (split_partial link.awaited (link.rest ++ piece) w))
    (ap (λ (l : LinkSide). l.state.memory) (feeding_after_step-partial has_ended with_frame link piece is w))
step_memory_lem link piece false true is w =
    let frame : List ℕ = take (frame_len link.awaited (link.rest ++ piece)) (link.rest ++ piece) in
    let events : arrivals (take 1 (frames_made_whole link piece)) link.awaited link.state ≡ frame_arrivals link.state link.awaited frame =
    ap (λ (split : Split). arrivals (take 1 split.frames) link.awaited link.state) (split_whole link.awaited (link.rest ++ piece) w) ∙ one_arrival frame link.awaited link.state is in
    let after : (feeding_after_step has_ended with_frame link piece).state.memory ≡ (with_frame link.state link.awaited frame).memory =
    ap (λ (l : LinkSide). l.state.memory) (feeding_after_step-whole has_ended with_frame link piece is w) in
    let follows : Follows link.state.memory (frame_arrivals link.state link.awaited frame) (with_frame link.state link.awaited frame).memory = frame_memory link.state link.awaited frame in
    subst (λ (xs : List MemoryEvent). Follows link.state.memory xs (feeding_after_step has_ended with_frame link piece).state.memory) (sym events) (after ∙ follows.0, follows.1)

-- ---- Calls

unless_memory : (s after : LinkState) (b : Bool) → after.memory ≡ s.memory → (cond b s after).memory ≡ s.memory
unless_memory s after true is = refl
unless_memory s after false is = is

call_memory : (link : LinkSide) (call : Call) → Follows link.state.memory (call_events link call) (after_call link call).state.memory
unfolding after_call after_event
call_memory link (Feed piece) = fed_memory_lem link piece
call_memory link (FeedOne piece) = step_memory_lem link piece (has_ended link.state) (is_whole link.awaited (link.rest ++ piece)) refl refl
call_memory link NextEvent = (refl, tt)
call_memory link Post = (refl, tt)
call_memory link (Stop reason) = (unless_memory link.state _ (has_ended link.state) refl, tt)
call_memory link OutOfMemory = (unless_memory link.state _ (has_ended link.state) refl, tt)
call_memory link (Send message) = (unless_memory link.state _ (has_ended link.state) refl, tt)
call_memory link (SendInvalidate stag message) = (unless_memory link.state _ (has_ended link.state) refl, tt)
call_memory link (Hold message) = (unless_memory link.state _ (has_ended link.state) refl, tt)
call_memory link (SendHeld message) = (unless_memory link.state _ (has_ended link.state) refl, tt)
call_memory link (WriteRemote stag to bytes) = (unless_memory link.state _ (has_ended link.state) refl, tt)
call_memory link (ReadRemote sink at stag to len) = (unless_memory link.state _ (has_ended link.state) refl, tt)
call_memory link (Drain count) = (refl, tt)
call_memory link (Register buf right) = (refl, (tt, tt))
call_memory link (Release stag) = (refl, (tt, tt))
call_memory link (Invalidate stag) = (refl, (tt, tt))

calls_memory : (link : LinkSide) (calls : List Call) → Follows link.state.memory (memory_events link calls) (after_calls link calls).state.memory
unfolding after_calls
calls_memory link [] = (refl, tt)
calls_memory link (call ∷ calls) =
    follows_append link.state.memory (after_call link call).state.memory _ (call_events link call) (memory_events (after_call link call) calls)
    (call_memory link call) (calls_memory (after_call link call) calls)

pub memory_follows_events : MemoryFollowsEvents
memory_follows_events link calls = (calls_memory link calls).0

pub places_are_allowed : PlacesAreAllowed
places_are_allowed link calls = (calls_memory link calls).1

-- ---- A region, from its registration to its release

calls_append : (link : LinkSide) (xs ys : List Call) → after_calls link (xs ++ ys) ≡ after_calls (after_calls link xs) ys
unfolding after_calls
calls_append link [] ys = refl
calls_append link (call ∷ xs) ys = calls_append (after_call link call) xs ys

pub events_append : (link : LinkSide) (xs ys : List Call) → memory_events link (xs ++ ys) ≡ memory_events link xs ++ memory_events (after_calls link xs) ys
unfolding after_calls
events_append link [] ys = refl
events_append link (call ∷ xs) ys =
    ap (λ (events : List MemoryEvent). call_events link call ++ events) (events_append (after_call link call) xs ys)
    ∙ sym (append_assoc (call_events link call) (memory_events (after_call link call) xs) (memory_events (after_calls (after_call link call) xs) ys))

pub open_region_holds : OpenRegionHolds
open_region_holds grants link calls stag right buf given there stays =
    ap (λ (m : RegisteredMemory). live_region m stag) (memory_follows_events link calls)
    ∙ contents_are grants stag right (length buf) (memory_events link calls) link.state.memory buf refl given there stays

-- the law of the complete stream, at a memory that is equal to the one after the events before
whole_stream_lem : (grants : List Grant) (m : RegisteredMemory) (from until : ℕ) (right : Right) (buf : List ℕ) (before between after : List MemoryEvent) (now : RegisteredMemory) → after_events m before ≡ now →
    IsRegisteredAt grants now.next from before → IsReleasedAt grants now.next right (length buf) until between after →
    bytes_in (held_region (after_events m (before ++ RegisterRegion right buf ∷ between)) now.next)
    ≡ contents grants now.next buf (tagged_segments (before ++ RegisterRegion right buf ∷ (between ++ ReleaseRegion now.next ∷ after)))
whole_stream_lem grants m from until right buf before between after now is =
    subst (λ (k : RegisteredMemory). IsRegisteredAt grants k.next from before → IsReleasedAt grants k.next right (length buf) until between after →
    bytes_in (held_region (after_events m (before ++ RegisterRegion right buf ∷ between)) k.next)
    ≡ contents grants k.next buf (tagged_segments (before ++ RegisterRegion right buf ∷ (between ++ ReleaseRegion k.next ∷ after))))
    is (contents_of_stream grants m from until right buf before between after)

pub released_buffer_holds : ReleasedBufferHolds
unfolding after_calls
released_buffer_holds grants link from until right buf before between after begins ends =
    let start : LinkSide = after_calls link before in
    let stag : ℕ = start.state.memory.next in
    let opened : LinkSide = after_call start (Register buf right) in
    let last : LinkSide = after_calls opened between in
    let events : List MemoryEvent = memory_events link before in
    let inner : List MemoryEvent = memory_events opened between in
    let later : List MemoryEvent = memory_events (after_call last (Release stag)) after in
    let memory : last.state.memory ≡ after_events link.state.memory (events ++ RegisterRegion right buf ∷ inner) =
    ap (λ (l : LinkSide). l.state.memory) (sym (calls_append link before (Register buf right ∷ between)))
    ∙ memory_follows_events link (before ++ Register buf right ∷ between)
    ∙ ap (after_events link.state.memory) (events_append link before (Register buf right ∷ between)) in
    let all : memory_events link (before ++ Register buf right ∷ (between ++ Release stag ∷ after)) ≡ events ++ RegisterRegion right buf ∷ (inner ++ ReleaseRegion stag ∷ later) =
    events_append link before (Register buf right ∷ (between ++ Release stag ∷ after))
    ∙ ap (λ (xs : List MemoryEvent). events ++ RegisterRegion right buf ∷ xs) (events_append opened between (Release stag ∷ after)) in
    ap (λ (m : RegisteredMemory). bytes_in (held_region m stag)) memory
    ∙ whole_stream_lem grants link.state.memory from until right buf events inner later start.state.memory (sym (memory_follows_events link before)) begins ends
    ∙ ap (λ (xs : List MemoryEvent). contents grants stag buf (tagged_segments xs)) (sym all)

released_memory : (link : LinkSide) (stag : ℕ) → (after_call link (Release stag)).state.memory ≡ after_release link.state.memory stag
unfolding after_call
released_memory link stag = refl

released_next : (m : RegisteredMemory) (stag : ℕ) → (after_release m stag).next ≡ m.next
unfolding after_release
released_next m stag = refl

pub released_stays_dead : ReleasedStaysClosed
released_stays_dead link stag calls given =
    let m : RegisteredMemory = after_release link.state.memory stag in
    let events : List MemoryEvent = memory_events (after_call link (Release stag)) calls in
    ap (λ (k : RegisteredMemory). live_region k stag) (memory_follows_events (after_call link (Release stag)) calls ∙ ap (λ (k : RegisteredMemory). after_events k events) (released_memory link stag))
    ∙ stays_closed events m stag (subst (λ (n : ℕ). stag < n) (sym (released_next link.state.memory stag)) given) (live_release_here link.state.memory stag)
