-- What is delivered to the owner, and that it comes after all tagged segments before it.
use Rattle.std.proofs.Common.{◌≡◌, ℕ, ◌+◌, ◌<◌, ◌≤◌, Bool, true, false, cond, ◌&&◌, eqb, List, [], ◌∷◌, ◌++◌, length, map, take, drop, Option, Some, None, Result, Ok, Err, refl, sym, ap, subst, ◌∙◌, arith, append_assoc}
use Rattle.std.specs.Prelude.{All}
use Rattle.std.proofs.lemmas.List.{append-nil, map-append}
use Rattle.std.proofs.lemmas.List.Elements.{All-nil, All-cons}
use Rattle.nr_wire.specs.Constants.{OPCODE_READ_RESPONSE}
use Rattle.nr_wire.specs.declared.stream.Awaited.{Awaited}
use Rattle.nr_wire.specs.declared.stream.Awaited.TheVariants.{Hello as HelloFrom, Fpdu}
use Rattle.nr_wire.specs.Hello.{Hello, hello_of}
use Rattle.nr_wire.specs.Segment.{Segment}
use Rattle.nr_wire.specs.Segment.Segment.{Tagged, Untagged}
use Rattle.nr_wire.specs.Stream.{is_whole, frame_len, IsFrame, AreFrames, Split, split}
use Rattle.nr_wire.specs.Feeding.{feeding_after, feeding_after_step, feeding_after_frames}
use Rattle.nr_wire.proofs.Frames.{IsFrame_take, whole_from}
use Rattle.nr_wire.proofs.Feedings.{feeding_after_step-ended, feeding_after_step-whole, feeding_after_step-partial}
use Rattle.nr_wire.proofs.Splits.{split_whole, split_partial, split_Splits}
use Rattle.nr_regions.specs.RegisteredMemory.{after_place}
use Rattle.nr_regions.specs.Events.{MemoryEvent, tagged_segments}
use Rattle.nr_regions.specs.Events.MemoryEvent.{Register as RegisterRegion, Release as ReleaseRegion, Invalidate as InvalidateRegion, Arrive}
use Rattle.nr_regions.specs.Access.{TaggedSegment}
use Rattle.nr_link.specs.declared.end.End.{End}
use Rattle.nr_link.specs.Frames.{Frame}
use Rattle.nr_link.specs.ReceiveState.{message_completed, stag_invalidated}
use Rattle.nr_endpoint.specs.ReceiveQueue.{DeliveredEvent, message_deliveries, with_segment}
use Rattle.nr_endpoint.specs.ReceiveQueue.DeliveredEvent.{ReadDone}
use Rattle.nr_endpoint.specs.LinkState.{LinkState, LinkSide, has_ended}
use Rattle.nr_endpoint.specs.Judging.{segment_end, next_frame, with_frame, with_segment_by, with_fpdu, with_peer_hello, with_effect, with_read_response, next_segment}
use Rattle.nr_endpoint.specs.Calls.{Call, after_call, after_calls}
use Rattle.nr_endpoint.specs.Calls.Call.{Feed, FeedOne, NextEvent, Post, Stop, OutOfMemory, Send, WriteRemote, ReadRemote, Drain, Register, Release, SendInvalidate, Hold, SendHeld, Invalidate}
use Rattle.nr_endpoint.specs.DeliveryLaws.{QueuedEvent, made_at, segment_deliveries, fpdu_deliveries, frame_deliveries, deliveries_of_frames, call_deliveries, deliveries_made, call_delivers, events_delivered, EventsAreDelivered, DeliveriesRise, EventsAreInOrder, EventsFollowAccesses, OneFrameDeliversAtItsEnd}
use Rattle.nr_endpoint.specs.Laws.{frames_made_whole, memory_events}
use Rattle.nr_endpoint.proofs.MemoryLaws.{memory_follows_events, events_append}
use Rattle.nr_endpoint.proofs.PlaceOrder.{Between, calls_between}
use Rattle.nr_endpoint.proofs.HellosFrom.{hello_from}

abbrev names : List QueuedEvent → List DeliveredEvent
names made = map (λ (m : QueuedEvent). m.delivery) made

-- from a state to a later one: what is delivered, and what is made
abbrev Makes : LinkState → List DeliveredEvent → List QueuedEvent → LinkState → Type 0
Makes s delivered made after = (delivered ++ after.receive_queue.deliveries ≡ s.receive_queue.deliveries ++ names made) × DeliveriesRise s.place made after.place

rise_low : (from until : ℕ) (made : List QueuedEvent) → DeliveriesRise from made until → from ≤ until
rise_low from until [] rise = rise
rise_low from until (m ∷ made) rise = omega (arith, rise.0, rise_low m.end until made rise.1)

sooner : (a b c : ℕ) (made : List QueuedEvent) → a ≤ b → DeliveriesRise b made c → DeliveriesRise a made c
sooner a b c [] low rise = omega (arith, low, rise)
sooner a b c (m ∷ made) low rise = (omega (arith, low, rise.0), rise.1)

rise_joined : (a b c : ℕ) (xs ys : List QueuedEvent) → DeliveriesRise a xs b → DeliveriesRise b ys c → DeliveriesRise a (xs ++ ys) c
rise_joined a b c [] ys first second = sooner a b c ys first second
rise_joined a b c (m ∷ xs) ys first second = (first.0, rise_joined m.end b c xs ys first.1 second)

told_joined : (first second n0 n1 n2 : List DeliveredEvent) (xs ys : List QueuedEvent) → first ++ n1 ≡ n0 ++ names xs → second ++ n2 ≡ n1 ++ names ys →
    (first ++ second) ++ n2 ≡ n0 ++ names (xs ++ ys)
told_joined first second n0 n1 n2 xs ys one two =
    append_assoc first second n2 ∙ ap (λ (ns : List DeliveredEvent). first ++ ns) two ∙ sym (append_assoc first n1 (names ys))
    ∙ ap (λ (ns : List DeliveredEvent). ns ++ names ys) one ∙ append_assoc n0 (names xs) (names ys)
    ∙ ap (λ (ns : List DeliveredEvent). n0 ++ ns) (sym (map-append (λ (m : QueuedEvent). m.delivery) xs ys))

joined : (s between after : LinkState) (first second : List DeliveredEvent) (xs ys : List QueuedEvent) → Makes s first xs between → Makes between second ys after →
    Makes s (first ++ second) (xs ++ ys) after
joined s between after first second xs ys one two = (
  told_joined first second s.receive_queue.deliveries between.receive_queue.deliveries after.receive_queue.deliveries xs ys one.0 two.0,
  rise_joined s.place between.place after.place xs ys one.1 two.1,
)

-- ---- A frame

-- all of them are made at one offset
abbrev AtEnd : ℕ → List QueuedEvent → Type 0
AtEnd n [] = Unit {0}
AtEnd n (m ∷ made) = (m.end ≡ n) × AtEnd n made

at_end_lem : (n : ℕ) (deliveries : List DeliveredEvent) → AtEnd n (map (made_at n) deliveries)
at_end_lem n [] = tt
at_end_lem n (delivery ∷ deliveries) = (refl, at_end_lem n deliveries)

names_made : (n : ℕ) (deliveries : List DeliveredEvent) → names (map (made_at n) deliveries) ≡ deliveries
names_made n [] = refl
names_made n (delivery ∷ deliveries) = ap (λ (ns : List DeliveredEvent). delivery ∷ ns) (names_made n deliveries)

message_rise : (from n number : ℕ) (named : Option ℕ) (message : Option (List ℕ)) → from < n → DeliveriesRise from (map (made_at n) (message_deliveries number named message)) n
message_rise from n number named None longer = omega (arith, longer)
message_rise from n number named (Some message) longer = (longer, omega arith)

read_rise : (from n : ℕ) (done : Bool) → from < n → DeliveriesRise from (map (made_at n) (cond done (ReadDone ∷ []) [])) n
read_rise from n false longer = omega (arith, longer)
read_rise from n true longer = (longer, omega arith)

-- what one frame makes
abbrev MakesAt : LinkState → List QueuedEvent → LinkState → Type 0
MakesAt s made after = Makes s [] made after × AtEnd after.place made

nothing_made : (s after : LinkState) → after.receive_queue.deliveries ≡ s.receive_queue.deliveries → s.place ≤ after.place → MakesAt s [] after
nothing_made s after same low = ((same ∙ sym (append-nil s.receive_queue.deliveries), low), tt)

read_deliveries : (s : LinkState) (answers last : Bool) (n : ℕ) →
    (cond answers (with_read_response last n s) s).receive_queue.deliveries ≡ s.receive_queue.deliveries ++ cond (answers && last) (ReadDone ∷ []) []
read_deliveries s true true n = refl
read_deliveries s true false n = sym (append-nil s.receive_queue.deliveries)
read_deliveries s false last n = sym (append-nil s.receive_queue.deliveries)

segment_makes : (s : LinkState) (f : Frame) (segment : Segment) (e : Option End) → s.place < f.end →
    MakesAt s (segment_deliveries s f segment e) (with_segment_by f segment e s)
unfolding with_effect with_segment
segment_makes s f segment (Some end) longer = ((sym (append-nil s.receive_queue.deliveries), (omega arith)), tt)
segment_makes s f (Untagged last opcode w queue msn offset payload) None longer =
    let named : Option ℕ = stag_invalidated (Untagged last opcode w queue msn offset payload) in
    let message : Option (List ℕ) = message_completed s.receive_queue.received (Untagged last opcode w queue msn offset payload) in (
      (ap (λ (ns : List DeliveredEvent). s.receive_queue.deliveries ++ ns) (sym (names_made f.end (message_deliveries (s.receive_queue.received.sends + 1) named message))), message_rise s.place f.end (s.receive_queue.received.sends + 1) named message longer),
      at_end_lem f.end (message_deliveries (s.receive_queue.received.sends + 1) named message),
    )
segment_makes s f (Tagged last opcode stag to payload) None longer =
    let done : Bool = eqb opcode OPCODE_READ_RESPONSE && last in (
      (
        read_deliveries (record s { memory = after_place s.memory stag to payload }) (eqb opcode OPCODE_READ_RESPONSE) last (length payload)
            ∙ ap (λ (ns : List DeliveredEvent). s.receive_queue.deliveries ++ ns) (sym (names_made f.end (cond done (ReadDone ∷ []) []))),
        read_rise s.place f.end done longer,
      ),
      at_end_lem f.end (cond done (ReadDone ∷ []) []),
    )

fpdu_makes : (s : LinkState) (f : Frame) (r : Result Segment ℕ) → s.place < f.end → MakesAt s (fpdu_deliveries s f r) (with_fpdu f r s)
unfolding with_fpdu
fpdu_makes s f (Ok segment) longer = segment_makes s f segment (segment_end s f segment) longer
fpdu_makes s f (Err reason) longer = ((sym (append-nil s.receive_queue.deliveries), (omega arith)), tt)

hello_makes : (s : LinkState) (f : Frame) (r : Result Hello ℕ) → s.place < f.end → MakesAt s [] (with_peer_hello f r s)
unfolding with_peer_hello
hello_makes s f (Ok hello) longer = ((sym (append-nil s.receive_queue.deliveries), (omega (arith, longer))), tt)
hello_makes s f (Err reason) longer = ((sym (append-nil s.receive_queue.deliveries), (omega arith)), tt)

frame_makes : (s : LinkState) (a : Awaited) (frame : List ℕ) → IsFrame a frame → MakesAt s (frame_deliveries s a frame) (with_frame s a frame)
frame_makes s (HelloFrom side) frame is =
    hello_from (MakesAt s []) side (next_frame s frame) (hello_of side frame) s (hello_makes s (next_frame s frame) (hello_of side frame) (omega (arith, is.fields)))
    ((sym (append-nil s.receive_queue.deliveries), (omega arith)), tt)
frame_makes s Fpdu frame is = fpdu_makes s (next_frame s frame) (next_segment s frame) (omega (arith, is.fields))

-- ---- Frames

pub frames_make : (frames : List (List ℕ)) (rest : List ℕ) (a : Awaited) (s : LinkState) (b : Bool) → has_ended s ≡ b → AreFrames a frames →
    Makes s [] (deliveries_of_frames frames a s) (feeding_after_frames has_ended with_frame frames rest a s).state
frames_make [] rest a s b is each = (nothing_made s s refl (omega arith)).0
frames_make (frame ∷ frames) rest a s true is each =
    subst (λ (w : Bool). Makes s [] (cond w [] (frame_deliveries s a frame ++ deliveries_of_frames frames Fpdu (with_frame s a frame)))
    (cond w (record { awaited = a; rest = cond w [] []; state = s }) (feeding_after_frames has_ended with_frame frames rest Fpdu (with_frame s a frame))).state)
    (sym is) (nothing_made s s refl (omega arith)).0
frames_make (frame ∷ frames) rest a s false is each =
    subst (λ (w : Bool). Makes s [] (cond w [] (frame_deliveries s a frame ++ deliveries_of_frames frames Fpdu (with_frame s a frame)))
    (cond w (record { awaited = a; rest = cond w [] []; state = s }) (feeding_after_frames has_ended with_frame frames rest Fpdu (with_frame s a frame))).state)
    (sym is)
    (joined s (with_frame s a frame) (feeding_after_frames has_ended with_frame frames rest Fpdu (with_frame s a frame)).state [] [] (frame_deliveries s a frame) (deliveries_of_frames frames Fpdu (with_frame s a frame))
    (frame_makes s a frame each.0).0 (frames_make frames rest Fpdu (with_frame s a frame) (has_ended (with_frame s a frame)) refl each.1))

fed_makes : (link : LinkSide) (piece : List ℕ) →
    Makes link.state [] (deliveries_of_frames (frames_made_whole link piece) link.awaited link.state) (feeding_after has_ended with_frame link piece).state
unfolding feeding_after
fed_makes link piece =
    frames_make (frames_made_whole link piece) (split link.awaited (link.rest ++ piece)).rest link.awaited link.state (has_ended link.state) refl
    (split_Splits link.awaited (link.rest ++ piece)).each

pub ended_deliveries : (frames : List (List ℕ)) (a : Awaited) (s : LinkState) → has_ended s ≡ true → deliveries_of_frames frames a s ≡ []
ended_deliveries [] a s is = refl
ended_deliveries (frame ∷ frames) a s is = ap (λ (w : Bool). cond w [] (frame_deliveries s a frame ++ deliveries_of_frames frames Fpdu (with_frame s a frame))) is

one_deliveries : (frame : List ℕ) (a : Awaited) (s : LinkState) → has_ended s ≡ false → deliveries_of_frames (frame ∷ []) a s ≡ frame_deliveries s a frame
one_deliveries frame a s is = ap (λ (w : Bool). cond w [] (frame_deliveries s a frame ++ [])) is ∙ append-nil (frame_deliveries s a frame)

makes_same : (s after now : LinkState) (made others : List QueuedEvent) → others ≡ made → now ≡ after → MakesAt s made after → MakesAt s others now
makes_same s after now made others same is makes =
    subst (λ (xs : List QueuedEvent). MakesAt s xs now) (sym same) (subst (λ (k : LinkState). MakesAt s made k) (sym is) makes)

step_makes : (link : LinkSide) (piece : List ℕ) (gone whole : Bool) → has_ended link.state ≡ gone → is_whole link.awaited (link.rest ++ piece) ≡ whole →
    MakesAt link.state (deliveries_of_frames (take 1 (frames_made_whole link piece)) link.awaited link.state) (feeding_after_step has_ended with_frame link piece).state
step_makes link piece true whole is w =
    makes_same link.state link.state _ [] _ (ended_deliveries (take 1 (frames_made_whole link piece)) link.awaited link.state is)
    (ap (λ (l : LinkSide). l.state) (feeding_after_step-ended has_ended with_frame link piece is)) (nothing_made link.state link.state refl (omega arith))
step_makes link piece false false is w =
    makes_same link.state link.state _ [] _ (ap (λ (split : Split). deliveries_of_frames (take 1 split.frames) link.awaited link.state) (split_partial link.awaited (link.rest ++ piece) w))
    (ap (λ (l : LinkSide). l.state) (feeding_after_step-partial has_ended with_frame link piece is w)) (nothing_made link.state link.state refl (omega arith))
step_makes link piece false true is w =
    let frame : List ℕ = take (frame_len link.awaited (link.rest ++ piece)) (link.rest ++ piece) in
    makes_same link.state (with_frame link.state link.awaited frame) _ (frame_deliveries link.state link.awaited frame) _
    (ap (λ (split : Split). deliveries_of_frames (take 1 split.frames) link.awaited link.state) (split_whole link.awaited (link.rest ++ piece) w) ∙ one_deliveries frame link.awaited link.state is)
    (ap (λ (l : LinkSide). l.state) (feeding_after_step-whole has_ended with_frame link piece is w))
    (frame_makes link.state link.awaited frame (IsFrame_take link.awaited (link.rest ++ piece) (whole_from link.awaited (link.rest ++ piece) w)))

-- ---- Calls

unless_made : (s after : LinkState) (b : Bool) → after.receive_queue.deliveries ≡ s.receive_queue.deliveries → after.place ≡ s.place → Makes s [] [] (cond b s after)
unless_made s after true same is = (nothing_made s s refl (omega arith)).0
unless_made s after false same is = (nothing_made s after same (omega (arith, is))).0

first_told : (deliveries : List DeliveredEvent) → take 1 deliveries ++ drop 1 deliveries ≡ deliveries
first_told [] = refl
first_told (delivery ∷ deliveries) = refl

call_makes : (link : LinkSide) (call : Call) → Makes link.state (call_delivers link call) (call_deliveries link call) (after_call link call).state
unfolding after_call
call_makes link (Feed piece) = fed_makes link piece
call_makes link (FeedOne piece) = (step_makes link piece (has_ended link.state) (is_whole link.awaited (link.rest ++ piece)) refl refl).0
call_makes link NextEvent = (first_told link.state.receive_queue.deliveries ∙ sym (append-nil link.state.receive_queue.deliveries), omega arith)
call_makes link Post = (sym (append-nil link.state.receive_queue.deliveries), omega arith)
call_makes link (Stop reason) = unless_made link.state _ (has_ended link.state) refl refl
call_makes link OutOfMemory = unless_made link.state _ (has_ended link.state) refl refl
call_makes link (Send message) = unless_made link.state _ (has_ended link.state) refl refl
call_makes link (SendInvalidate stag message) = unless_made link.state _ (has_ended link.state) refl refl
call_makes link (Hold message) = unless_made link.state _ (has_ended link.state) refl refl
call_makes link (SendHeld message) = unless_made link.state _ (has_ended link.state) refl refl
call_makes link (WriteRemote stag to bytes) = unless_made link.state _ (has_ended link.state) refl refl
call_makes link (ReadRemote sink at stag to len) = unless_made link.state _ (has_ended link.state) refl refl
call_makes link (Drain count) = (sym (append-nil link.state.receive_queue.deliveries), omega arith)
call_makes link (Register buf right) = (sym (append-nil link.state.receive_queue.deliveries), omega arith)
call_makes link (Release stag) = (sym (append-nil link.state.receive_queue.deliveries), omega arith)
call_makes link (Invalidate stag) = (sym (append-nil link.state.receive_queue.deliveries), omega arith)

calls_make : (link : LinkSide) (calls : List Call) → Makes link.state (events_delivered link calls) (deliveries_made link calls) (after_calls link calls).state
unfolding after_calls
calls_make link [] = (nothing_made link.state link.state refl (omega arith)).0
calls_make link (call ∷ calls) =
    joined link.state (after_call link call).state (after_calls (after_call link call) calls).state (call_delivers link call) (events_delivered (after_call link call) calls)
    (call_deliveries link call) (deliveries_made (after_call link call) calls) (call_makes link call) (calls_make (after_call link call) calls)

-- ---- The laws

pub events_are_delivered : EventsAreDelivered
events_are_delivered link calls = (calls_make link calls).0

pub events_are_in_order : EventsAreInOrder
events_are_in_order link calls = (calls_make link calls).1

segments_behind : (n from until : ℕ) (events : List MemoryEvent) → n ≤ from → Between from until events →
    All (λ (segment : TaggedSegment). n < segment.end) (tagged_segments events)
segments_behind n from until [] low between = All-nil (λ (segment : TaggedSegment). n < segment.end)
segments_behind n from until (RegisterRegion right buf ∷ events) low between = segments_behind n from until events low between
segments_behind n from until (ReleaseRegion stag ∷ events) low between = segments_behind n from until events low between
segments_behind n from until (InvalidateRegion stag ∷ events) low between = segments_behind n from until events low between
segments_behind n from until (Arrive segment ∷ events) low between =
    All-cons (λ (s : TaggedSegment). n < s.end) segment (tagged_segments events) (omega (arith, low, between.0))
    (segments_behind n segment.end until events (omega (arith, low, between.0)) between.1)

all_behind : (from until last : ℕ) (made : List QueuedEvent) (events : List MemoryEvent) → DeliveriesRise from made until → Between until last events →
    All (λ (m : QueuedEvent). All (λ (segment : TaggedSegment). m.end < segment.end) (tagged_segments events)) made
all_behind from until last [] events rise between = All-nil (λ (m : QueuedEvent). All (λ (segment : TaggedSegment). m.end < segment.end) (tagged_segments events))
all_behind from until last (m ∷ made) events rise between =
    All-cons (λ (k : QueuedEvent). All (λ (segment : TaggedSegment). k.end < segment.end) (tagged_segments events)) m made
    (segments_behind m.end until last events (rise_low m.end until made rise.1) between) (all_behind m.end until last made events rise.1 between)

pub events_follow_accesses_lem : EventsFollowAccesses
events_follow_accesses_lem link before after =
    let now : LinkSide = after_calls link before in (
      memory_follows_events link before,
      (
        events_append link before after,
        all_behind link.state.place now.state.place (after_calls now after).state.place (deliveries_made link before) (memory_events now after)
            (calls_make link before).1 (calls_between now after),
      ),
    )

all_at : (n : ℕ) (made : List QueuedEvent) → AtEnd n made → All (λ (m : QueuedEvent). m.end ≡ n) made
all_at n [] at = All-nil (λ (m : QueuedEvent). m.end ≡ n)
all_at n (m ∷ made) at = All-cons (λ (k : QueuedEvent). k.end ≡ n) m made at.0 (all_at n made at.1)

pub one_frame_delivers_at_its_end : OneFrameDeliversAtItsEnd
unfolding after_call
one_frame_delivers_at_its_end link piece =
    let step : MakesAt link.state (call_deliveries link (FeedOne piece)) (after_call link (FeedOne piece)).state =
    step_makes link piece (has_ended link.state) (is_whole link.awaited (link.rest ++ piece)) refl refl in
    let at : AtEnd (after_call link (FeedOne piece)).state.place (call_deliveries link (FeedOne piece)) = step.1 in
    subst (λ (xs : List QueuedEvent). All (λ (m : QueuedEvent). m.end ≡ (after_call link (FeedOne piece)).state.place) xs) (sym (append-nil (call_deliveries link (FeedOne piece))))
    (all_at (after_call link (FeedOne piece)).state.place (call_deliveries link (FeedOne piece)) at)
