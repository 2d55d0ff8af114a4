-- One step on a piece.
use Rattle.std.proofs.Common.{◌≡◌, ◌≢◌, ℕ, ◌+◌, ◌-◌, ◌<◌, ◌≤◌, max, Bool, true, false, cond, ◌&&◌, eqb, List, [], ◌∷◌, ◌++◌, length, take, drop, Option, Some, None, Result, Ok, Err, inl, inr, refl, sym, ap, subst, ◌∙◌, arith, append_assoc, length-append}
use Rattle.std.specs.Prelude.{is_some}
use Rattle.std.specs.Bool.{OnFalse}
use Rattle.std.proofs.lemmas.Bool.{eqb-true}
use Rattle.std.proofs.lemmas.List.{length-take, length-drop, drop-drop}
use Rattle.std.proofs.Math.Seq.{drop-append-add}
use Rattle.nr_wire.specs.declared.stream.Awaited.{Awaited}
use Rattle.nr_wire.specs.declared.stream.Awaited.TheVariants.{Hello as HelloFrom, Fpdu}
use Rattle.nr_wire.specs.Hello.{Hello, hello_of}
use Rattle.nr_wire.specs.Segment.{Segment}
use Rattle.nr_wire.specs.Segment.Segment.{Tagged, Untagged}
use Rattle.nr_wire.specs.Constants.{OPCODE_READ_RESPONSE, FPDU_MAX}
use Rattle.nr_wire.specs.Feeding.{bytes_taken, feeding_in, feeding_after_frames, feeding_after}
use Rattle.nr_wire.specs.Stream.{IsPartial, IsFrame, is_whole, frame_len, split}
use Rattle.nr_wire.proofs.Frames.{whole_from}
use Rattle.nr_wire.proofs.Feedings.{feeding_after_step-whole, feeding_after_step-partial, bytes_taken_within, feeding-ended}
use Rattle.nr_regions.specs.declared.denied.Denied.{Denied}
use Rattle.nr_link.specs.declared.end.End.{End}
use Rattle.nr_link.specs.declared.end.End.TheVariants as ends
use Rattle.nr_link.specs.Frames.{Frame}
use Rattle.nr_link.specs.SegmentFaults.{SegmentReason}
use Rattle.nr_link.specs.SegmentFaults.SegmentReason.{Reason, NoBuffer, AccessDenied, PeerTerminated}
use Rattle.nr_link.specs.Ending.{access_of, denied_at, end_of_fault}
use Rattle.nr_regions.specs.RegisteredMemory.{Access}
use Rattle.nr_endpoint.specs.LinkState.{LinkState, LinkSide, has_ended}
use Rattle.nr_endpoint.specs.SendQueue.{output_len}
use Rattle.nr_endpoint.specs.Judging.{with_frame, with_fpdu, with_peer_hello, with_segment_by, with_effect, segment_end, next_frame, next_segment}
use Rattle.nr_endpoint.specs.Calls.{after_call, IsStep, QueuesOutput, makes_whole}
use Rattle.nr_endpoint.specs.Calls.Call.{Feed, FeedOne, OutOfMemory}
use Rattle.std.specs.Ordering.{nat_cmp}
use Rattle.std.specs.FinMap.{FinMap}
use Rattle.nr_regions.specs.RegisteredMemory.{Outside}
use Rattle.nr_endpoint.specs.EndpointState.{EndpointState, KeepsStaging, cut_frame_len}
use Rattle.nr_endpoint.proofs.Standing.{live_state}
use Rattle.nr_endpoint.proofs.StagedFrames.{taken_whole, taken_all, whole_as_staged, front_of}
use Rattle.nr_endpoint.proofs.HellosFrom.{hello_from}

-- ---- The side after it

pub living : (st : LinkState) → st.ended ≡ None → has_ended st ≡ false
living st none = ap (λ (e : Option End). is_some e) none

pub stepped_whole : (st next : LinkState) (a : Awaited) (rest piece frame : List ℕ) → st.ended ≡ None → is_whole a (rest ++ piece) ≡ true → frame ≡ take (frame_len a (rest ++ piece)) (rest ++ piece) →
    next ≡ with_frame st a frame → record { awaited = Fpdu; rest = []; state = next } ≡ after_call (record { awaited = a; rest = rest; state = st }) (FeedOne piece)
unfolding after_call
stepped_whole st next a rest piece frame none whole is then =
    ap (λ (s : LinkState). the_link s) (then ∙ ap (with_frame st a) is)
    ∙ sym (feeding_after_step-whole has_ended with_frame (record { awaited = a; rest = rest; state = st }) piece (living st none) whole)
  where
    the_link : LinkState → LinkSide
    the_link s = record { awaited = Fpdu; rest = []; state = s }

pub queues_whole : (st : LinkState) (a : Awaited) (rest piece frame : List ℕ) → st.ended ≡ None → is_whole a (rest ++ piece) ≡ true → frame ≡ take (frame_len a (rest ++ piece)) (rest ++ piece) →
    output_len st.send_queue < output_len (with_frame st a frame).send_queue → QueuesOutput (record { awaited = a; rest = rest; state = st }) piece
queues_whole st a rest piece frame none whole is more =
    subst (λ (l : LinkSide). output_len st.send_queue < output_len l.state.send_queue) (stepped_whole st (with_frame st a frame) a rest piece frame none whole is refl) more

pub stepped_partial : (st : LinkState) (a : Awaited) (rest piece left : List ℕ) → st.ended ≡ None → is_whole a (rest ++ piece) ≡ false → left ≡ rest ++ piece →
    record { awaited = a; rest = left; state = st } ≡ after_call (record { awaited = a; rest = rest; state = st }) (FeedOne piece)
unfolding after_call
stepped_partial st a rest piece left none partial is =
    ap (λ (bytes : List ℕ). the_link bytes) is ∙ sym (feeding_after_step-partial has_ended with_frame (record { awaited = a; rest = rest; state = st }) piece (living st none) partial)
  where
    the_link : List ℕ → LinkSide
    the_link bytes = record { awaited = a; rest = bytes; state = st }

pub out_of_memory : (st next : LinkState) (a : Awaited) (rest : List ℕ) → st.ended ≡ None → next ≡ record st { ended = Some ends.Memory } →
    record { awaited = a; rest = []; state = next } ≡ after_call (record { awaited = a; rest = rest; state = st }) OutOfMemory
unfolding after_call
out_of_memory st next a rest none is = ap (λ (s : LinkState). the_link s) (is ∙ sym (live_state st _ none))
  where
    the_link : LinkState → LinkSide
    the_link s = record { awaited = a; rest = []; state = s }

-- what was judged
pub judged : (result : Bool) (next one other : LinkState) → next ≡ (cond result one other) → result ≡ true → next ≡ one
judged true next one other is t = is
judged false next one other is t = absurd cc

pub not_judged_queues : (result : Bool) (P : Type 0) → OnFalse result P → result ≡ false → P
not_judged_queues true P p t = absurd cc
not_judged_queues false P p t = p

pub not_judged : (result : Bool) (next one other : LinkState) → next ≡ (cond result one other) → result ≡ false → next ≡ other
not_judged true next one other is t = absurd cc
not_judged false next one other is t = is

-- ---- A frame that lies completely in the piece, and one that doesn't

pub in_piece : (s : ℕ) (a : Awaited) (piece : List ℕ) (r : Option ℕ) (len : ℕ) → r ≡ cond (eqb s 0 && is_whole a piece) (Some (frame_len a piece)) None → r ≡ Some len →
    (s ≡ 0) × ((is_whole a piece ≡ true) × (len ≡ frame_len a piece))
in_piece s a piece r len is some = by (eqb s 0) refl (is_whole a piece) refl (sym some ∙ is)
  where
    by : (b : Bool) → eqb s 0 ≡ b → (w : Bool) → is_whole a piece ≡ w → Some len ≡ cond (b && w) (Some (frame_len a piece)) None → (s ≡ 0) × ((is_whole a piece ≡ true) × (len ≡ frame_len a piece))
    by true zero true whole h = (eqb-true s 0 zero, (whole, cc))
    by true zero false whole h = absurd cc
    by false zero w whole h = absurd cc

pub not_in_piece : (s : ℕ) (a : Awaited) (piece : List ℕ) (r : Option ℕ) → r ≡ cond (eqb s 0 && is_whole a piece) (Some (frame_len a piece)) None → r ≡ None → s ≡ 0 → is_whole a piece ≡ false
not_in_piece s a piece r is none zero = by (is_whole a piece) refl (sym none ∙ subst (λ (n : ℕ). r ≡ cond (eqb n 0 && is_whole a piece) (Some (frame_len a piece)) None) zero is)
  where
    by : (w : Bool) → is_whole a piece ≡ w → None ≡ cond w (Some (frame_len a piece)) None → is_whole a piece ≡ false
    by true whole h = absurd cc
    by false whole h = whole

pub whole_is : (w : Bool) (len : ℕ) (r : Option ℕ) → r ≡ cond w (Some len) None → is_some r ≡ true → w ≡ true
whole_is true len r is some = refl
whole_is false len r is some = absurd (let h : is_some r ≡ false = ap (λ (o : Option ℕ). is_some o) is in cc)

pub partial_is : (w : Bool) (len : ℕ) (r : Option ℕ) → r ≡ cond w (Some len) None → is_some r ≡ false → w ≡ false
partial_is true len r is none = absurd (let h : is_some r ≡ true = ap (λ (o : Option ℕ). is_some o) is in cc)
partial_is false len r is none = refl

-- ---- The staging buffer

pub staged_len : (old new piece : List ℕ) (s t : ℕ) → new ≡ take s old ++ (take t piece ++ drop (s + t) old) → t ≤ length piece → s + t ≤ length old → length new ≡ length old
staged_len old new piece s t is few room =
    ap (λ (bytes : List ℕ). length bytes) is
    ∙ omega (arith, few, room, length-append (take s old) (take t piece ++ drop (s + t) old), length-append (take t piece) (drop (s + t) old), length-take s old, length-take t piece, length-drop (s + t) old)

pub staged_front : (old new piece : List ℕ) (s t : ℕ) → new ≡ take s old ++ (take t piece ++ drop (s + t) old) → t ≤ length piece → s + t ≤ length old → take (s + t) new ≡ take s old ++ take t piece
staged_front old new piece s t is few room = ap (take (s + t)) is ∙ front_of old piece s t (omega (arith, room)) few

pub staged_behind : (old new piece : List ℕ) (s t k : ℕ) → new ≡ take s old ++ (take t piece ++ drop (s + t) old) → t ≤ length piece → s + t ≤ length old → s + t ≤ k → drop k new ≡ drop k old
staged_behind old new piece s t k is few room within =
    let front : List ℕ = take s old ++ take t piece in
    let len : length front ≡ s + t = omega (arith, few, room, length-append (take s old) (take t piece), length-take s old, length-take t piece) in
    let k-is : length front + (k - (s + t)) ≡ k = omega (arith, len, within) in
    let sum : (s + t) + (k - (s + t)) ≡ k = omega (arith, within) in
    ap (drop k) (is ∙ sym (append_assoc (take s old) (take t piece) (drop (s + t) old)))
    ∙ subst (λ (m : ℕ). drop m (front ++ drop (s + t) old) ≡ drop (k - (s + t)) (drop (s + t) old)) k-is (drop-append-add front (drop (s + t) old) (k - (s + t)))
    ∙ drop-drop (k - (s + t)) (s + t) old
    ∙ ap (λ (m : ℕ). drop m old) sum

-- the frame that was begun goes as far as it was staged
pub cut_whole : (a : Awaited) (rest piece : List ℕ) → IsPartial a rest → is_whole a (rest ++ piece) ≡ true → (rest ≡ [] → is_whole a piece ≡ false) → length rest + bytes_taken a rest piece ≤ cut_frame_len a rest piece
cut_whole a [] piece p whole other = absurd (let h : true ≡ false = sym whole ∙ other refl in cc)
cut_whole a (byte ∷ rest) piece p whole other =
    let sum : length (byte ∷ rest) + bytes_taken a (byte ∷ rest) piece ≡ frame_len a ((byte ∷ rest) ++ piece) = (taken_whole a (byte ∷ rest) piece p whole).1.1 in
    let w = whole_from a ((byte ∷ rest) ++ piece) whole in
    omega (arith, sum, w.frame)

-- what holds of the staging buffer after a frame was staged
pub record StagedFacts (a : Awaited) (old new piece : List ℕ) (s t : ℕ) : Type 0 where
  pub few : t ≤ length piece
  pub len : length new ≡ FPDU_MAX
  pub first : length (take s old) ≡ s
  pub front : take (s + t) new ≡ take s old ++ take t piece
  pub whole : is_whole a (take (s + t) new) ≡ is_whole a (take s old ++ piece)
  pub frame : is_whole a (take s old ++ piece) ≡ true → IsFrame a (take (s + t) new) × (take (s + t) new ≡ take (frame_len a (take s old ++ piece)) (take s old ++ piece))
  pub all : is_whole a (take s old ++ piece) ≡ false → take (s + t) new ≡ take s old ++ piece
  pub bound : length (take (s + t) new) ≤ length (take s old) + length piece
  pub behind : (k : ℕ) → s + t ≤ k → drop k new ≡ drop k old

pub staged_facts : (a : Awaited) (old new piece : List ℕ) (s t : ℕ) → length old ≡ FPDU_MAX → s + t ≤ FPDU_MAX → IsPartial a (take s old) → t ≡ bytes_taken a (take s old) piece →
    new ≡ take s old ++ (take t piece ++ drop (s + t) old) → StagedFacts a old new piece s t
staged_facts a old new piece s t len within p taken is =
    let few : t ≤ length piece = subst (λ (n : ℕ). n ≤ length piece) (sym taken) (bytes_taken_within a (take s old) piece (is_whole a (take s old ++ piece)) refl) in
    let room : s + t ≤ length old = omega (arith, len, within) in
    let front : take (s + t) new ≡ take s old ++ take t piece = staged_front old new piece s t is few room in
    let bytes : take (s + t) new ≡ take s old ++ take (bytes_taken a (take s old) piece) piece = front ∙ ap (λ (n : ℕ). take s old ++ take n piece) taken in
    record {
      few = few;
      len = staged_len old new piece s t is few room ∙ len;
      first = omega (arith, room, length-take s old);
      front = front;
      whole = ap (is_whole a) bytes ∙ whole_as_staged a (take s old) piece p;
      frame = λ whole. (
        subst (λ (x : List ℕ). IsFrame a x) (sym bytes) (taken_whole a (take s old) piece p whole).1.0,
        bytes ∙ (taken_whole a (take s old) piece p whole).0,
      );
      all = λ partial. bytes ∙ taken_all a (take s old) piece partial;
      bound = omega (arith, few, ap (λ (x : List ℕ). length x) front, length-append (take s old) (take t piece), length-take t piece);
      behind = λ k within. staged_behind old new piece s t k is few room within;
    }

-- how it is kept: when the frame is incomplete, and when it is judged
pub keeps_partial : {room later : ℕ} {outside others : FinMap nat_cmp Outside} (a : Awaited) (st : LinkState) (old new piece : List ℕ) (s t : ℕ) → StagedFacts a old new piece s t → length old ≡ FPDU_MAX →
    KeepsStaging (record { link = record { awaited = a; rest = take s old; state = st }; staging = old; room = room; outside = outside }) (record { link = record { awaited = a; rest = take (s + t) new; state = st }; staging = new; room = later; outside = others }) piece
keeps_partial a st old new piece s t facts len = record {
  others = facts.behind (max (length (take (s + t) new)) (cut_frame_len a (take s old) piece))
      (omega (arith, ap (λ (x : List ℕ). length x) facts.front, length-append (take s old) (take t piece), length-take t piece, facts.first, facts.few));
  len = facts.len ∙ sym len;
}

pub keeps_whole : {room later : ℕ} {outside others : FinMap nat_cmp Outside} (a after : Awaited) (st next : LinkState) (old new piece : List ℕ) (s t : ℕ) → StagedFacts a old new piece s t → length old ≡ FPDU_MAX → IsPartial a (take s old) → t ≡ bytes_taken a (take s old) piece →
    is_whole a (take s old ++ piece) ≡ true → (s ≡ 0 → is_whole a piece ≡ false) →
    KeepsStaging (record { link = record { awaited = a; rest = take s old; state = st }; staging = old; room = room; outside = outside }) (record { link = record { awaited = after; rest = []; state = next }; staging = new; room = later; outside = others }) piece
keeps_whole a after st next old new piece s t facts len p taken whole other =
    let cut : length (take s old) + bytes_taken a (take s old) piece ≤ cut_frame_len a (take s old) piece =
    cut_whole a (take s old) piece p whole (λ none. other (sym facts.first ∙ ap (λ (x : List ℕ). length x) none)) in
    record {
      others = facts.behind (max (length {A = ℕ} []) (cut_frame_len a (take s old) piece)) (omega (arith, cut, facts.first, taken));
      len = facts.len ∙ sym len;
    }

-- ---- No frame runs out of memory

not_memory : (f : Frame) (segment : Segment) (fault : Option (SegmentReason Denied)) → end_of_fault f segment fault ≢ Some ends.Memory
not_memory f segment None is = absurd cc
not_memory f segment (Some (Reason reason)) is = absurd cc
not_memory f segment (Some (NoBuffer msn)) is = absurd cc
not_memory f segment (Some (AccessDenied why)) is = by (access_of segment) is
  where
    by : (access : Option Access) → Some (denied_at access why) ≢ Some ends.Memory
    by None h = absurd cc
    by (Some access) h = absurd cc
not_memory f segment (Some (PeerTerminated word)) is = absurd cc

ended_by_lem : (b : Bool) (one other : LinkState) (e : Option End) → one.ended ≡ e → other.ended ≡ e → (cond b one other).ended ≡ e
ended_by_lem true one other e h k = h
ended_by_lem false one other e h k = k

effect_ended : (segment : Segment) (s : LinkState) → (with_effect segment s).ended ≡ s.ended
unfolding with_effect
effect_ended (Tagged last opcode stag to payload) s = ended_by_lem (eqb opcode OPCODE_READ_RESPONSE) _ _ s.ended refl refl
effect_ended (Untagged last opcode w queue msn offset payload) s = refl

segment_not_memory : (f : Frame) (segment : Segment) (e : Option End) (s : LinkState) → e ≢ Some ends.Memory → s.ended ≡ None → (with_segment_by f segment e s).ended ≢ Some ends.Memory
segment_not_memory f segment None s other none is = absurd (let h : None ≡ Some ends.Memory = sym none ∙ sym (effect_ended segment s) ∙ is in cc)
segment_not_memory f segment (Some end) s other none is = other is

fpdu_not_memory : (f : Frame) (r : Result Segment ℕ) (s : LinkState) → s.ended ≡ None → (with_fpdu f r s).ended ≢ Some ends.Memory
unfolding with_fpdu segment_end
fpdu_not_memory f (Ok segment) s none is = segment_not_memory f segment _ s (not_memory f segment _) none is
fpdu_not_memory f (Err reason) s none is = absurd cc

hello_not_memory : (f : Frame) (r : Result Hello ℕ) (s : LinkState) → s.ended ≡ None → (with_peer_hello f r s).ended ≢ Some ends.Memory
unfolding with_peer_hello
hello_not_memory f (Ok hello) s none is = absurd (let h : None ≡ Some ends.Memory = sym none ∙ is in cc)
hello_not_memory f (Err reason) s none is = absurd cc

pub frame_not_memory : (s : LinkState) (a : Awaited) (bytes : List ℕ) → s.ended ≡ None → (with_frame s a bytes).ended ≢ Some ends.Memory
frame_not_memory s (HelloFrom side) bytes none =
    hello_from (λ t. t.ended ≢ Some ends.Memory) side (next_frame s bytes) (hello_of side bytes) s (hello_not_memory (next_frame s bytes) (hello_of side bytes) s none) (λ is. absurd cc)
frame_not_memory s Fpdu bytes none = fpdu_not_memory (next_frame s bytes) (next_segment s bytes) s none

-- ---- One frame at a time

pub ended_stays_one : (st : LinkState) (a : Awaited) (rest piece : List ℕ) (end : End) → st.ended ≡ Some end → rest ≡ [] →
    record { awaited = a; rest = rest; state = st } ≡ after_call (record { awaited = a; rest = rest; state = st }) (FeedOne piece)
unfolding after_call
ended_stays_one st a rest piece end is none =
    sym ((feeding-ended has_ended with_frame (record { awaited = a; rest = rest; state = st }) piece (ap (λ (e : Option End). is_some e) is) none).1)

pub memory_stays : (st : LinkState) (a : Awaited) (rest : List ℕ) → st.ended ≡ Some ends.Memory → rest ≡ [] →
    record { awaited = a; rest = rest; state = st } ≡ after_call (record { awaited = a; rest = rest; state = st }) OutOfMemory
unfolding after_call
memory_stays st a rest is none =
    λ i. record { awaited = a; rest = none i; state = sym (ap (λ (b : Bool). cond b st (record st { ended = Some ends.Memory })) (ap (λ (e : Option End). is_some e) is)) i }

pub unchanged : (e : EndpointState) (piece : List ℕ) → KeepsStaging e e piece
unchanged e piece = record { others = refl; len = refl }

-- what one step left, if it didn't run out of memory, and if it did
step_not_memory : (before : LinkSide) (piece : List ℕ) → before.state.ended ≡ None → (after_call before (FeedOne piece)).state.ended ≢ Some ends.Memory
unfolding after_call
step_not_memory before piece none is = by (is_whole before.awaited (before.rest ++ piece)) refl
  where
    by : (w : Bool) → is_whole before.awaited (before.rest ++ piece) ≡ w → ⊥
    by true whole = frame_not_memory before.state before.awaited (take (frame_len before.awaited (before.rest ++ piece)) (before.rest ++ piece)) none
        (ap (λ (l : LinkSide). l.state.ended) (sym (feeding_after_step-whole has_ended with_frame before piece (living before.state none) whole)) ∙ is)
    by false partial = absurd (let h : None ≡ Some ends.Memory = sym none ∙ ap (λ (l : LinkSide). l.state.ended) (sym (feeding_after_step-partial has_ended with_frame before piece (living before.state none) partial)) ∙ is in cc)

pub memory_ends : (l : LinkSide) → l.state.ended ≡ None → (after_call l OutOfMemory).state.ended ≡ Some ends.Memory
unfolding after_call
memory_ends l none = ap (λ (s : LinkState). s.ended) (live_state l.state _ none)

pub step_ok : (before after : LinkSide) (piece : List ℕ) → IsStep before piece after → before.state.ended ≡ None → after.state.ended ≢ Some ends.Memory → after ≡ after_call before (FeedOne piece)
step_ok before after piece (inl is) none other = is
step_ok before after piece (inr (is, whole, queues)) none other = absurd (other (ap (λ (l : LinkSide). l.state.ended) is ∙ memory_ends before none))

pub step_memory : (before after : LinkSide) (piece : List ℕ) → IsStep before piece after → before.state.ended ≡ None → after.state.ended ≡ Some ends.Memory → after ≡ after_call before OutOfMemory
step_memory before after piece (inl is) none memory = absurd (step_not_memory before piece none (ap (λ (l : LinkSide). l.state.ended) (sym is) ∙ memory))
step_memory before after piece (inr (is, whole, queues)) none memory = is

pub step_frame : (before after : LinkSide) (piece : List ℕ) → IsStep before piece after → before.state.ended ≡ None → after.state.ended ≡ Some ends.Memory → (makes_whole before piece ≡ true) × QueuesOutput before piece
step_frame before after piece (inl is) none memory = absurd (step_not_memory before piece none (ap (λ (l : LinkSide). l.state.ended) (sym is) ∙ memory))
step_frame before after piece (inr (is, whole, queues)) none memory = (whole, queues)

-- no feed runs out of memory either
ended_or_on : (b : Bool) (s : LinkState) (one other : LinkSide) → has_ended s ≡ b → s.ended ≢ Some ends.Memory → one.state ≡ s → (has_ended s ≡ false → other.state.ended ≢ Some ends.Memory) → (cond b one other).state.ended ≢ Some ends.Memory
ended_or_on true s one other e kept same on is = kept (ap (λ (t : LinkState). t.ended) (sym same) ∙ is)
ended_or_on false s one other e kept same on is = on e is

no_end : (e : Option End) → is_some e ≡ false → e ≡ None
no_end None h = refl
no_end (Some end) h = absurd cc

frames_not_memory : (frames : List (List ℕ)) (rest : List ℕ) (a : Awaited) (s : LinkState) → s.ended ≢ Some ends.Memory → (feeding_after_frames has_ended with_frame frames rest a s).state.ended ≢ Some ends.Memory
frames_not_memory [] rest a s kept is = kept is
frames_not_memory (frame ∷ frames) rest a s kept is =
    ended_or_on (has_ended s) s (feeding_in has_ended with_frame a [] s) (feeding_after_frames has_ended with_frame frames rest Fpdu (with_frame s a frame)) refl kept refl
    (λ e. frames_not_memory frames rest Fpdu (with_frame s a frame) (frame_not_memory s a frame (no_end s.ended e))) is

pub feed_not_memory : (before : LinkSide) (piece : List ℕ) → before.state.ended ≡ None → (after_call before (Feed piece)).state.ended ≢ Some ends.Memory
unfolding after_call feeding_after
feed_not_memory before piece none is =
    let s = split before.awaited (before.rest ++ piece) in
    frames_not_memory s.frames s.rest before.awaited before.state (λ memory. absurd (let h : None ≡ Some ends.Memory = sym none ∙ memory in cc)) is
