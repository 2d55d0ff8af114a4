-- A piece, step by step.
use Rattle.std.proofs.Common.{◌≡◌, ◌≢◌, ℕ, ◌+◌, ◌-◌, ◌≤◌, ◌<◌, ◌^◌, max, is_some, Bool, true, false, cond, eqb, Result, Ok, Err, List, [], ◌∷◌, ◌++◌, length, take, drop, Option, Some, None, inl, inr, ◌⊎◌, refl, sym, ap, subst, ◌∙◌, arith, append-nil, length-append}
use Rattle.std.proofs.lemmas.Bool.{cases_lt}
use Rattle.std.proofs.lemmas.List.{length-take, length-drop, take_all, drop_all, drop-drop, take-append-drop}
use Rattle.std.proofs.Math.Seq.{take-add}
use Rattle.nr_wire.specs.declared.stream.Awaited.{Awaited}
use Rattle.nr_wire.specs.declared.stream.Awaited.TheVariants.{Hello as HelloFrom, Fpdu}
use Rattle.nr_wire.specs.Hello.{Hello, hello_of}
use Rattle.nr_wire.specs.Segment.{Segment}
use Rattle.nr_wire.specs.Segment.Segment.{Tagged, Untagged}
use Rattle.nr_wire.specs.Constants.{OPCODE_READ_RESPONSE}
use Rattle.nr_wire.specs.Feeding.{Feeding, bytes_taken, feeding_after, feeding_after_frames, feeding_in, feeding_after_step}
use Rattle.nr_wire.specs.Stream.{Split, IsPartial, IsFrame, is_whole, frame_len, split}
use Rattle.nr_wire.proofs.Frames.{partial_not_whole, whole_from}
use Rattle.nr_wire.proofs.Splits.{split_partial}
use Rattle.nr_wire.proofs.Feedings.{feeding_after_step-whole, feeding_after_step-partial, feeding_after_step-rest, feeding_after_step-partial_rest, feeding_after-append, feeding-ended, bytes_taken_whole, bytes_taken_partial}
use Rattle.nr_link.specs.declared.end.End.{End}
use Rattle.nr_link.specs.declared.end.End.TheVariants as ends
use Rattle.nr_link.specs.Frames.{Frame}
use Rattle.nr_endpoint.specs.LinkState.{LinkState, LinkSide, has_ended}
use Rattle.nr_endpoint.specs.Judging.{with_frame, with_fpdu, with_peer_hello, with_segment_by, with_effect, segment_end, next_frame, next_segment}
use Rattle.nr_endpoint.specs.EndpointState.{EndpointState, KeepsStaging, cut_frame_len}
use Rattle.nr_endpoint.specs.Calls.{after_call, after_calls, StandsOnAll, IsStep, RanOutAt, QueuesOutput, makes_whole}
use Rattle.nr_endpoint.specs.Calls.Call.{Feed, FeedOne, OutOfMemory}
use Rattle.nr_endpoint.proofs.StagedFrames.{taken_whole, whole_as_staged}
use Rattle.nr_endpoint.proofs.OneStep.{living, memory_stays, memory_ends, feed_not_memory}
use Rattle.nr_endpoint.proofs.Standing.{stands_on_all}
use Rattle.nr_endpoint.proofs.HellosFrom.{hello_from}

-- ---- Feeding nothing, and one step as a feed

module _ {S : Type 0} (ended : S → Bool) (advanced : S → Awaited → List ℕ → S) where
  feeding_in_lem : (a : Awaited) (rest : List ℕ) (s : S) (b : Bool) → ended s ≡ b → (b ≡ true → rest ≡ []) → feeding_in ended advanced a rest s ≡ record { awaited = a; rest = rest; state = s }
  feeding_in_lem a rest s true e none = (λ i. record { awaited = a; rest = cond (e i) [] rest; state = s }) ∙ (λ i. record { awaited = a; rest = sym (none refl) i; state = s })
  feeding_in_lem a rest s false e none = λ i. record { awaited = a; rest = cond (e i) [] rest; state = s }

  pub feeding_none : (f : Feeding S) → IsPartial f.awaited f.rest → (ended f.state ≡ true → f.rest ≡ []) → feeding_after ended advanced f [] ≡ f
  unfolding feeding_after
  feeding_none f p none =
      ap (λ (bytes : List ℕ). feeding_after_frames ended advanced (split f.awaited bytes).frames (split f.awaited bytes).rest f.awaited f.state) (append-nil f.rest)
      ∙ ap (λ (s : Split). feeding_after_frames ended advanced s.frames s.rest f.awaited f.state) (split_partial f.awaited f.rest (partial_not_whole f.awaited f.rest p))
      ∙ feeding_in_lem f.awaited f.rest f.state (ended f.state) refl none

  step_whole : (f : Feeding S) (x : List ℕ) → ended f.state ≡ false → IsFrame f.awaited (f.rest ++ x) → is_whole f.awaited (f.rest ++ x) ≡ true →
      (bytes_taken f.awaited f.rest x ≡ length x) × (feeding_after ended advanced (feeding_after_step ended advanced f x) [] ≡ feeding_after_step ended advanced f x)
  step_whole f x going frame whole = (
    bytes_taken_whole f.awaited f.rest x whole ∙ omega (arith, frame.len, length-append f.rest x),
    feeding_none (feeding_after_step ended advanced f x) (feeding_after_step-partial_rest ended advanced f x)
        (λ e. ap (λ (g : Feeding S). g.rest) (feeding_after_step-whole ended advanced f x going whole)),
  )

  -- the step on the bytes that are taken
  pub step_taken : (f : Feeding S) (piece : List ℕ) (w : Bool) → is_whole f.awaited (f.rest ++ piece) ≡ w → ended f.state ≡ false → IsPartial f.awaited f.rest →
      feeding_after_step ended advanced f piece ≡ feeding_after ended advanced f (take (bytes_taken f.awaited f.rest piece) piece)
  step_taken f piece true whole going p =
      let x : List ℕ = take (bytes_taken f.awaited f.rest piece) piece in
      let t = taken_whole f.awaited f.rest piece p whole in
      let all : is_whole f.awaited (f.rest ++ x) ≡ true = whole_as_staged f.awaited f.rest piece p ∙ whole in
      let s = step_whole f x going t.1.0 all in
      let same : feeding_after_step ended advanced f piece ≡ feeding_after_step ended advanced f x =
      feeding_after_step-whole ended advanced f piece going whole
      ∙ ap (λ (bytes : List ℕ). the_feeding (advanced f.state f.awaited bytes)) (sym t.0 ∙ sym (take_frame (f.rest ++ x) t.1.0))
      ∙ sym (feeding_after_step-whole ended advanced f x going all) in
      same ∙ sym s.1 ∙ ap (feeding_after ended advanced (feeding_after_step ended advanced f x)) (sym (ap (λ (n : ℕ). drop n x) s.0 ∙ drop_all (length x) x (omega arith)))
      ∙ feeding_after_step-rest ended advanced f x p
    where
      the_feeding : S → Feeding S
      the_feeding s = record { awaited = Fpdu; rest = []; state = s }

      take_frame : (bytes : List ℕ) → IsFrame f.awaited bytes → take (frame_len f.awaited bytes) bytes ≡ bytes
      take_frame bytes frame = ap (λ (n : ℕ). take n bytes) frame.len ∙ take_all (length bytes) bytes (omega arith)
  step_taken f piece false partial going p =
      let n : bytes_taken f.awaited f.rest piece ≡ length piece = bytes_taken_partial f.awaited f.rest piece partial in
      let all : take (bytes_taken f.awaited f.rest piece) piece ≡ piece = ap (λ (k : ℕ). take k piece) n ∙ take_all (length piece) piece (omega arith) in
      let none : drop (bytes_taken f.awaited f.rest piece) piece ≡ [] = ap (λ (k : ℕ). drop k piece) n ∙ drop_all (length piece) piece (omega arith) in
      let kept : feeding_after_step ended advanced f piece ≡ record { awaited = f.awaited; rest = f.rest ++ piece; state = f.state } = feeding_after_step-partial ended advanced f piece going partial in
      sym (feeding_none (feeding_after_step ended advanced f piece) (feeding_after_step-partial_rest ended advanced f piece)
      (λ e. absurd (let h : true ≡ false = sym e ∙ ap (λ (g : Feeding S). ended g.state) kept ∙ going in cc)))
      ∙ ap (feeding_after ended advanced (feeding_after_step ended advanced f piece)) (sym none)
      ∙ feeding_after_step-rest ended advanced f piece p
      ∙ ap (feeding_after ended advanced f) (sym all)

-- ---- The offsets of frames

-- ---- The loop

-- After some steps: the side has taken the first n bytes of the piece, and the others are left; or memory ran out there.
pub record IsOn (before : LinkSide) (piece : List ℕ) (now : LinkSide) (left : List ℕ) : Type 0 where
  pub count : ℕ
  pub left_is : left ≡ drop count piece
  pub now_is : now ≡ after_call before (Feed (take count piece))

pub record IsOut (before : LinkSide) (piece : List ℕ) (now : LinkSide) : Type 0 where
  pub memory : now.state.ended ≡ Some ends.Memory
  pub count : ℕ
  pub now_is : now ≡ after_calls before (Feed (take count piece) ∷ OutOfMemory ∷ [])
  pub frame : RanOutAt before piece count

pub begins : (before : LinkSide) (piece : List ℕ) → IsPartial before.awaited before.rest → (has_ended before.state ≡ true → before.rest ≡ []) → IsOn before piece before piece
unfolding after_call
begins before piece p none = record { count = 0; left_is = refl; now_is = sym (feeding_none has_ended with_frame before p none) }

pub goes_on_by : (before now after : LinkSide) (piece left : List ℕ) → IsOn before piece now left → now.state.ended ≡ None → IsPartial now.awaited now.rest → after ≡ after_call now (FeedOne left) →
    IsOn before piece after (drop (bytes_taken now.awaited now.rest left) left)
unfolding after_call
goes_on_by before now after piece left on none p is =
    let t : ℕ = bytes_taken now.awaited now.rest left in
    record {
      count = on.count + t;
      left_is = ap (drop t) on.left_is ∙ drop-drop t on.count piece;
      now_is =
          is
          ∙ step_taken has_ended with_frame now left (is_whole now.awaited (now.rest ++ left)) refl (living now.state none) p
          ∙ (λ i. feeding_after has_ended with_frame (on.now_is i) (take t (on.left_is i)))
          ∙ feeding_after-append has_ended with_frame before (take on.count piece) (take t (drop on.count piece))
          ∙ ap (feeding_after has_ended with_frame before) (sym (take-add on.count t piece));
    }

pub runs_out : (before now after : LinkSide) (piece left : List ℕ) → IsOn before piece now left → now.state.ended ≡ None → after ≡ after_call now OutOfMemory → makes_whole now left ≡ true → QueuesOutput now left →
    0 < length left → (left ≡ piece) ⊎ (now.rest ≡ []) → IsOut before piece after
unfolding after_calls
runs_out before now after piece left on none is whole queues some first = record {
  memory = ap (λ (l : LinkSide). l.state.ended) is ∙ memory_ends now none;
  count = on.count;
  now_is = is ∙ ap (λ (l : LinkSide). after_call l OutOfMemory) on.now_is;
  frame = record {
    live = ap (λ (l : LinkSide). has_ended l.state) (sym on.now_is) ∙ living now.state none;
    whole = (λ i. makes_whole (sym on.now_is i) (sym on.left_is i)) ∙ whole;
    queues = subst (λ (l : LinkSide). QueuesOutput l (drop on.count piece)) on.now_is (subst (λ (x : List ℕ). QueuesOutput now x) on.left_is queues);
    front = λ far. ap (λ (l : LinkSide). l.rest) (sym on.now_is) ∙ by first far;
  };
}
  where
    by : (left ≡ piece) ⊎ (now.rest ≡ []) → 0 < on.count → now.rest ≡ []
    by (inl same) far = absurd (omega (arith, some, far, ap (λ (x : List ℕ). length x) same, ap (λ (x : List ℕ). length x) on.left_is, length-drop on.count piece))
    by (inr rest) far = rest

-- at the end of the piece, or at the end of the side before it
pub all_fed : (before now : LinkSide) (piece left : List ℕ) → IsOn before piece now left → left ≡ [] → now ≡ after_call before (Feed piece)
all_fed before now piece left on none =
    on.now_is ∙ ap (λ (bytes : List ℕ). after_call before (Feed bytes)) (take_all on.count piece (omega (arith, length-drop on.count piece, ap (λ (x : List ℕ). length x) (sym on.left_is ∙ none))))

pub ended_fed : (before now : LinkSide) (piece left : List ℕ) → IsOn before piece now left → has_ended now.state ≡ true → now.rest ≡ [] → now ≡ after_call before (Feed piece)
unfolding after_call
ended_fed before now piece left on ended none =
    sym (feeding-ended has_ended with_frame now (drop on.count piece) ended none).0
    ∙ ap (λ (l : LinkSide). feeding_after has_ended with_frame l (drop on.count piece)) on.now_is
    ∙ feeding_after-append has_ended with_frame before (take on.count piece) (drop on.count piece)
    ∙ ap (feeding_after has_ended with_frame before) (take-append-drop on.count piece)

not_frame : (a : Awaited) (rest left : List ℕ) → IsPartial a rest → is_whole a (rest ++ left) ≡ true → length rest < frame_len a (rest ++ left)
not_frame a rest left p whole =
    elim (cases_lt (length rest) (frame_len a (rest ++ left))) [
      | inl lt ↦ lt
      | inr le ↦
          let t = taken_whole a rest left p whole in
          let none : bytes_taken a rest left ≡ 0 = omega (arith, le, t.1.1) in
          let same : rest ++ take (bytes_taken a rest left) left ≡ rest = ap (λ (n : ℕ). rest ++ take n left) none ∙ append-nil rest in
          absurd (let h : false ≡ true = sym (partial_not_whole a rest p) ∙ ap (is_whole a) (sym same) ∙ whole_as_staged a rest left p ∙ whole in cc)
    ]

pub some_taken : (a : Awaited) (rest left : List ℕ) → IsPartial a rest → 0 < length left → 0 < bytes_taken a rest left
some_taken a rest left p some = by (is_whole a (rest ++ left)) refl
  where
    by : (w : Bool) → is_whole a (rest ++ left) ≡ w → 0 < bytes_taken a rest left
    by true whole = omega (arith, (taken_whole a rest left p whole).1.1, not_frame a rest left p whole)
    by false partial = omega (arith, some, bytes_taken_partial a rest left partial)

-- ---- The offset after a frame

place_by : (b : Bool) (one other : LinkState) (n : ℕ) → one.place ≡ n → other.place ≡ n → (cond b one other).place ≡ n
place_by true one other n h k = h
place_by false one other n h k = k

effect_place : (segment : Segment) (s : LinkState) → (with_effect segment s).place ≡ s.place
unfolding with_effect
effect_place (Tagged last opcode stag to payload) s = place_by (eqb opcode OPCODE_READ_RESPONSE) _ _ s.place refl refl
effect_place (Untagged last opcode w queue msn offset payload) s = refl

segment_place : (f : Frame) (segment : Segment) (e : Option End) (s : LinkState) → (with_segment_by f segment e s).ended ≡ None → (with_segment_by f segment e s).place ≡ f.end
segment_place f segment None s none = refl
segment_place f segment (Some end) s none = absurd cc

fpdu_place : (f : Frame) (r : Result Segment ℕ) (s : LinkState) → (with_fpdu f r s).ended ≡ None → (with_fpdu f r s).place ≡ f.end
unfolding with_fpdu
fpdu_place f (Ok segment) s none = segment_place f segment (segment_end s f segment) s none
fpdu_place f (Err reason) s none = absurd cc

hello_place : (f : Frame) (r : Result Hello ℕ) (s : LinkState) → (with_peer_hello f r s).ended ≡ None → (with_peer_hello f r s).place ≡ f.end
unfolding with_peer_hello
hello_place f (Ok hello) s none = refl
hello_place f (Err reason) s none = absurd cc

pub frame_place : (s : LinkState) (a : Awaited) (bytes : List ℕ) → (with_frame s a bytes).ended ≡ None → (with_frame s a bytes).place ≡ s.place + length bytes
frame_place s (HelloFrom side) bytes none =
    hello_from (λ t. t.ended ≡ None → t.place ≡ s.place + length bytes) side (next_frame s bytes) (hello_of side bytes) s
    (λ live. hello_place (next_frame s bytes) (hello_of side bytes) s live) (λ live. absurd cc) none
frame_place s Fpdu bytes none = fpdu_place (next_frame s bytes) (next_segment s bytes) s none

-- if something is left and the side goes on, the frame was complete: nothing is kept, and the offset is after it
pub record IsBehindFrame (now after : LinkSide) (left : List ℕ) : Type 0 where
  pub rest : after.rest ≡ []
  pub place : after.state.ended ≡ None → after.state.place ≡ now.state.place + (length now.rest + bytes_taken now.awaited now.rest left)

pub behind : (now after : LinkSide) (left : List ℕ) → now.state.ended ≡ None → IsPartial now.awaited now.rest → after ≡ after_call now (FeedOne left) → bytes_taken now.awaited now.rest left < length left → IsBehindFrame now after left
unfolding after_call
behind now after left none p is less = by (is_whole now.awaited (now.rest ++ left)) refl
  where
    by : (w : Bool) → is_whole now.awaited (now.rest ++ left) ≡ w → IsBehindFrame now after left
    by true whole =
        let frame : List ℕ = take (frame_len now.awaited (now.rest ++ left)) (now.rest ++ left) in
        let step : after ≡ record { awaited = Fpdu; rest = []; state = with_frame now.state now.awaited frame } = is ∙ feeding_after_step-whole has_ended with_frame now left (living now.state none) whole in
        let t = taken_whole now.awaited now.rest left p whole in
        let w = whole_from now.awaited (now.rest ++ left) whole in
        let len : length frame ≡ frame_len now.awaited (now.rest ++ left) = omega (arith, w.frame, length-take (frame_len now.awaited (now.rest ++ left)) (now.rest ++ left)) in
        record {
          rest = ap (λ (l : LinkSide). l.rest) step;
          place = λ going.
              ap (λ (l : LinkSide). l.state.place) step
              ∙ frame_place now.state now.awaited frame (sym (ap (λ (l : LinkSide). l.state.ended) step) ∙ going)
              ∙ ap (λ (n : ℕ). now.state.place + n) (len ∙ sym t.1.1);
        }
    by false partial = absurd (omega (arith, less, bytes_taken_partial now.awaited now.rest left partial))

-- ---- The staging buffer from step to step

deeper : (m k : ℕ) (xs ys : List ℕ) → m ≤ k → drop m xs ≡ drop m ys → drop k xs ≡ drop k ys
deeper m k xs ys le same =
    let sum : m + (k - m) ≡ k = omega (arith, le) in
    ap (λ (n : ℕ). drop n xs) (sym sum) ∙ sym (drop-drop (k - m) m xs) ∙ ap (drop (k - m)) same ∙ drop-drop (k - m) m ys ∙ ap (λ (n : ℕ). drop n ys) sum

no_cut : (a : Awaited) (rest piece : List ℕ) → rest ≡ [] → cut_frame_len a rest piece ≡ 0
no_cut a [] piece none = refl
no_cut a (byte ∷ rest) piece none = absurd cc

pub keeps_on : (old now new : EndpointState) (piece left : List ℕ) → KeepsStaging old now piece → ((now ≡ old) × (left ≡ piece)) ⊎ (now.link.rest ≡ []) → KeepsStaging now new left → KeepsStaging old new piece
keeps_on old now new piece left first (inl same) then = subst (λ (x : List ℕ). KeepsStaging old new x) same.1 (subst (λ (e : EndpointState). KeepsStaging e new left) same.0 then)
keeps_on old now new piece left first (inr none) then =
    let k : ℕ = max (length new.link.rest) (cut_frame_len old.link.awaited old.link.rest piece) in
    let cut : cut_frame_len now.link.awaited now.link.rest left ≡ 0 = no_cut now.link.awaited now.link.rest left none in
    record {
      others = deeper (max (length new.link.rest) (cut_frame_len now.link.awaited now.link.rest left)) k new.staging now.staging (omega (arith, cut)) then.others
          ∙ deeper (max (length now.link.rest) (cut_frame_len old.link.awaited old.link.rest piece)) k now.staging old.staging (omega (arith, ap (λ (x : List ℕ). length x) none)) first.others;
      len = then.len ∙ first.len;
    }

-- ---- What holds from step to step

-- how far a piece was taken: its first bytes, and the others are left; or all of it; or memory ran out
pub data HowFar (before : LinkSide) (piece : List ℕ) (now : LinkSide) (left : List ℕ) : Type 0 where
  On : IsOn before piece now left → HowFar before piece now left
  All : now ≡ after_call before (Feed piece) → left ≡ [] → HowFar before piece now left
  Out : IsOut before piece now → left ≡ [] → HowFar before piece now left

pub record IsFedTo (old : EndpointState) (piece : List ℕ) (now : EndpointState) (left : List ℕ) : Type 0 where
  pub staging : KeepsStaging old now piece
  pub partial : IsPartial now.link.awaited now.link.rest
  pub ended_rest : has_ended now.link.state ≡ true → now.link.rest ≡ []
  pub far : HowFar old.link piece now.link left
  pub first : ((now ≡ old) × (left ≡ piece)) ⊎ ((now.link.rest ≡ []) ⊎ (left ≡ []))
  pub within : 0 < length left → now.link.state.ended ≡ None → now.link.state.place + length now.link.rest + length left ≤ 2 ^ 62
  pub room : now.room ≡ old.room
  pub outside : now.outside ≡ old.outside

pub fed_none : (old : EndpointState) (piece : List ℕ) → IsPartial old.link.awaited old.link.rest → (has_ended old.link.state ≡ true → old.link.rest ≡ []) →
    old.link.state.place + length old.link.rest + length piece ≤ 2 ^ 62 → IsFedTo old piece old piece
fed_none old piece p ended within = record {
  staging = record { others = refl; len = refl };
  partial = p;
  ended_rest = ended;
  far = On (begins old.link piece p ended);
  first = inl (refl, refl);
  within = λ _ _. within;
  room = refl;
  outside = refl;
}

-- the facts of one advance
pub record Advanced (now new : EndpointState) (left after : List ℕ) : Type 0 where
  pub live : now.link.state.ended ≡ None → IsStep now.link left new.link
  pub ended : has_ended now.link.state ≡ true → new ≡ now
  pub left_is : after ≡ (cond (has_ended new.link.state) [] (drop (bytes_taken now.link.awaited now.link.rest left) left))
  pub staging : KeepsStaging now new left
  pub partial : IsPartial new.link.awaited new.link.rest
  pub ended_rest : has_ended new.link.state ≡ true → new.link.rest ≡ []
  pub room : new.room ≡ now.room
  pub outside : new.outside ≡ now.outside

none_left_lem : (b : Bool) (xs after : List ℕ) → after ≡ cond b [] xs → b ≡ true → after ≡ []
none_left_lem true xs after is e = is
none_left_lem false xs after is e = absurd cc

rest_left : (b : Bool) (xs after : List ℕ) → after ≡ cond b [] xs → b ≡ false → after ≡ xs
rest_left true xs after is e = absurd cc
rest_left false xs after is e = is

is_none_lem : (e : Option End) → is_some e ≡ false → e ≡ None
is_none_lem None h = refl
is_none_lem (Some end) h = absurd cc

on_of : (before now : LinkSide) (piece left : List ℕ) → HowFar before piece now left → 0 < length left → IsOn before piece now left
on_of before now piece left (On on) some = on
on_of before now piece left (All is none) some = absurd (omega (arith, some, ap (λ (x : List ℕ). length x) none))
on_of before now piece left (Out out none) some = absurd (omega (arith, some, ap (λ (x : List ℕ). length x) none))

first_of_lem : (old now : EndpointState) (piece left : List ℕ) → 0 < length left → ((now ≡ old) × (left ≡ piece)) ⊎ ((now.link.rest ≡ []) ⊎ (left ≡ [])) → ((now ≡ old) × (left ≡ piece)) ⊎ (now.link.rest ≡ [])
first_of_lem old now piece left some (inl same) = inl same
first_of_lem old now piece left some (inr (inl none)) = inr none
first_of_lem old now piece left some (inr (inr none)) = absurd (omega (arith, some, ap (λ (x : List ℕ). length x) none))

-- a side that had ended: all is taken, and nothing changes
fed_ended : (old now new : EndpointState) (piece left after : List ℕ) → IsFedTo old piece now left → 0 < length left → Advanced now new left after → has_ended now.link.state ≡ true → IsFedTo old piece new after
fed_ended old now new piece left after fed some adv ended =
    let same : new ≡ now = adv.ended ended in
    let still : has_ended new.link.state ≡ true = ap (λ (e : EndpointState). has_ended e.link.state) same ∙ ended in
    let none : after ≡ [] = none_left_lem (has_ended new.link.state) _ after adv.left_is still in
    record {
      staging = keeps_on old now new piece left fed.staging (first_of_lem old now piece left some fed.first) adv.staging;
      partial = adv.partial;
      ended_rest = adv.ended_rest;
      far = All (ap (λ (e : EndpointState). e.link) same ∙ ended_fed old.link now.link piece left (on_of old.link now.link piece left fed.far some) ended (fed.ended_rest ended)) none;
      first = inr (inr none);
      within = λ _ going. absurd (let h : true ≡ false = sym still ∙ ap (λ (e : Option End). is_some e) going in cc);
      room = adv.room ∙ fed.room;
      outside = adv.outside ∙ fed.outside;
    }

-- a side that goes on by a frame, or by all that is left
fed_live : (old now new : EndpointState) (piece left after : List ℕ) → IsFedTo old piece now left → 0 < length left → Advanced now new left after → now.link.state.ended ≡ None → new.link ≡ after_call now.link (FeedOne left) →
    (b : Bool) → has_ended new.link.state ≡ b → IsFedTo old piece new after
fed_live old now new piece left after fed some adv live is true e =
    let none : after ≡ [] = none_left_lem (has_ended new.link.state) _ after adv.left_is e in
    record {
      staging = keeps_on old now new piece left fed.staging (first_of_lem old now piece left some fed.first) adv.staging;
      partial = adv.partial;
      ended_rest = adv.ended_rest;
      far = All (ended_fed old.link new.link piece _ (goes_on_by old.link now.link new.link piece left (on_of old.link now.link piece left fed.far some) live fed.partial is) e (adv.ended_rest e)) none;
      first = inr (inr none);
      within = λ _ going. absurd (let h : true ≡ false = sym e ∙ ap (λ (x : Option End). is_some x) going in cc);
      room = adv.room ∙ fed.room;
      outside = adv.outside ∙ fed.outside;
    }
fed_live old now new piece left after fed some adv live is false e =
    let t : ℕ = bytes_taken now.link.awaited now.link.rest left in
    let rest : after ≡ drop t left = rest_left (has_ended new.link.state) _ after adv.left_is e in
    let on : IsOn old.link piece new.link (drop t left) = goes_on_by old.link now.link new.link piece left (on_of old.link now.link piece left fed.far some) live fed.partial is in
    let bound : now.link.state.place + length now.link.rest + length left ≤ 2 ^ 62 = fed.within some live in
    elim (cases_lt t (length left)) [
      | inl less ↦
          let b : IsBehindFrame now.link new.link left = behind now.link new.link left live fed.partial is less in
          record {
            staging = keeps_on old now new piece left fed.staging (first_of_lem old now piece left some fed.first) adv.staging;
            partial = adv.partial;
            ended_rest = adv.ended_rest;
            far = On (subst (λ (x : List ℕ). IsOn old.link piece new.link x) (sym rest) on);
            first = inr (inl b.rest);
            within = λ _ going. omega (arith, b.place going, bound, ap (λ (x : List ℕ). length x) b.rest, ap (λ (x : List ℕ). length x) rest, length-drop t left, less);
            room = adv.room ∙ fed.room;
            outside = adv.outside ∙ fed.outside;
          }
      | inr all ↦
          let none : after ≡ [] = rest ∙ drop_all t left all in
          record {
            staging = keeps_on old now new piece left fed.staging (first_of_lem old now piece left some fed.first) adv.staging;
            partial = adv.partial;
            ended_rest = adv.ended_rest;
            far = All (all_fed old.link new.link piece (drop t left) on (drop_all t left all)) none;
            first = inr (inr none);
            within = λ more going. absurd (omega (arith, more, ap (λ (x : List ℕ). length x) none));
            room = adv.room ∙ fed.room;
            outside = adv.outside ∙ fed.outside;
          }
    ]

-- memory ran out
same_or_none : (old now : EndpointState) (piece left : List ℕ) → ((now ≡ old) × (left ≡ piece)) ⊎ (now.link.rest ≡ []) → (left ≡ piece) ⊎ (now.link.rest ≡ [])
same_or_none old now piece left (inl same) = inl same.1
same_or_none old now piece left (inr none) = inr none

fed_out : (old now new : EndpointState) (piece left after : List ℕ) → IsFedTo old piece now left → 0 < length left → Advanced now new left after → now.link.state.ended ≡ None → new.link ≡ after_call now.link OutOfMemory →
    makes_whole now.link left ≡ true → QueuesOutput now.link left → IsFedTo old piece new after
fed_out old now new piece left after fed some adv live is whole queues =
    let out : IsOut old.link piece new.link = runs_out old.link now.link new.link piece left (on_of old.link now.link piece left fed.far some) live is whole queues some
    (same_or_none old now piece left (first_of_lem old now piece left some fed.first)) in
    let e : has_ended new.link.state ≡ true = ap (λ (x : Option End). is_some x) out.memory in
    let none : after ≡ [] = none_left_lem (has_ended new.link.state) _ after adv.left_is e in
    record {
      staging = keeps_on old now new piece left fed.staging (first_of_lem old now piece left some fed.first) adv.staging;
      partial = adv.partial;
      ended_rest = adv.ended_rest;
      far = Out out none;
      first = inr (inr none);
      within = λ _ going. absurd (let h : true ≡ false = sym e ∙ ap (λ (x : Option End). is_some x) going in cc);
      room = adv.room ∙ fed.room;
      outside = adv.outside ∙ fed.outside;
    }

fed_step : (old now new : EndpointState) (piece left after : List ℕ) → IsFedTo old piece now left → 0 < length left → Advanced now new left after → now.link.state.ended ≡ None → IsStep now.link left new.link → IsFedTo old piece new after
fed_step old now new piece left after fed some adv live (inl is) = fed_live old now new piece left after fed some adv live is (has_ended new.link.state) refl
fed_step old now new piece left after fed some adv live (inr (is, whole, queues)) = fed_out old now new piece left after fed some adv live is whole queues

pub fed_on : (old now new : EndpointState) (piece left after : List ℕ) → IsFedTo old piece now left → 0 < length left → Advanced now new left after → IsFedTo old piece new after
fed_on old now new piece left after fed some adv = by (has_ended now.link.state) refl
  where
    by : (b : Bool) → has_ended now.link.state ≡ b → IsFedTo old piece new after
    by true e = fed_ended old now new piece left after fed some adv e
    by false e = fed_step old now new piece left after fed some adv (is_none_lem now.link.state.ended e) (adv.live (is_none_lem now.link.state.ended e))

-- fewer bytes are left
pub fewer_left : (old now new : EndpointState) (piece left after : List ℕ) → IsFedTo old piece now left → 0 < length left → Advanced now new left after → length after < length left
fewer_left old now new piece left after fed some adv = by (has_ended new.link.state) refl
  where
    by : (b : Bool) → has_ended new.link.state ≡ b → length after < length left
    by true e = omega (arith, some, ap (λ (x : List ℕ). length x) (none_left_lem (has_ended new.link.state) _ after adv.left_is e))
    by false e = omega (arith, some_taken now.link.awaited now.link.rest left fed.partial some, ap (λ (x : List ℕ). length x) (rest_left (has_ended new.link.state) _ after adv.left_is e), length-drop (bytes_taken now.link.awaited now.link.rest left) left)

-- ---- If nothing is left

pub fed_all : (old now : EndpointState) (piece : List ℕ) → IsFedTo old piece now [] → (now.link.state.ended ≢ Some ends.Memory) → now.link ≡ after_call old.link (Feed piece)
fed_all old now piece fed other = by fed.far
  where
    by : HowFar old.link piece now.link [] → now.link ≡ after_call old.link (Feed piece)
    by (On on) = all_fed old.link now.link piece [] on refl
    by (All is none) = is
    by (Out out none) = absurd (other out.memory)

memory_again : (l : LinkSide) → l.state.ended ≡ Some ends.Memory → l.rest ≡ [] → l ≡ after_call l OutOfMemory
memory_again l memory none = memory_stays l.state l.awaited l.rest memory none

-- what a feed leaves if memory ran out
abbrev pub IsFedOut : LinkSide → List ℕ → LinkSide → Type 0
IsFedOut before piece after =
    (n : ℕ) × (after ≡ after_calls before (Feed (take n piece) ∷ OutOfMemory ∷ [])) × StandsOnAll before (Feed (take n piece) ∷ OutOfMemory ∷ []) after
    × (has_ended before.state ≡ false → RanOutAt before piece n)

pub fed_memory : (old now : EndpointState) (piece : List ℕ) → IsFedTo old piece now [] → old.link.state.ended ≡ None → now.link.state.ended ≡ Some ends.Memory → IsFedOut old.link piece now.link
fed_memory old now piece fed live memory = by fed.far
  where
    by : HowFar old.link piece now.link [] → IsFedOut old.link piece now.link
    by (On on) = absurd (feed_not_memory old.link (take on.count piece) live (ap (λ (l : LinkSide). l.state.ended) (sym on.now_is) ∙ memory))
    by (All is none) = absurd (feed_not_memory old.link piece live (ap (λ (l : LinkSide). l.state.ended) (sym is) ∙ memory))
    by (Out out none) = (
      out.count,
      out.now_is,
      stands_on_all old.link (Feed (take out.count piece) ∷ OutOfMemory ∷ []) now.link out.now_is,
      λ _. out.frame,
    )

-- ---- A side that had ended

pub ended_all : (l : LinkSide) (piece : List ℕ) (end : End) → l.state.ended ≡ Some end → (has_ended l.state ≡ true → l.rest ≡ []) → l ≡ after_call l (Feed piece)
unfolding after_call
ended_all l piece end is none =
    let ended : has_ended l.state ≡ true = ap (λ (e : Option End). is_some e) is in
    sym (feeding-ended has_ended with_frame l piece ended (none ended)).0

ended_again : (l : LinkSide) (piece : List ℕ) → l.state.ended ≡ Some ends.Memory → (has_ended l.state ≡ true → l.rest ≡ []) → l ≡ after_calls l (Feed (take 0 piece) ∷ OutOfMemory ∷ [])
unfolding after_calls
ended_again l piece is none =
    memory_again l is (none (ap (λ (e : Option End). is_some e) is)) ∙ ap (λ (k : LinkSide). after_call k OutOfMemory) (ended_all l (take 0 piece) ends.Memory is none)

pub ended_memory : (l : LinkSide) (piece : List ℕ) → l.state.ended ≡ Some ends.Memory → (has_ended l.state ≡ true → l.rest ≡ []) → IsFedOut l piece l
ended_memory l piece is none = (
  0,
  ended_again l piece is none,
  stands_on_all l (Feed (take 0 piece) ∷ OutOfMemory ∷ []) l (ended_again l piece is none),
  λ going. absurd (let h : true ≡ false = sym (ap (λ (e : Option End). is_some e) is) ∙ going in cc),
)
