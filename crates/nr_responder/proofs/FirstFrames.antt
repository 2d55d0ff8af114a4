-- A step goes over the first frame of a piece alone: it is the same on the bytes up to the end of that frame.
use Rattle.std.proofs.Common.{◌≡◌, ◌≢◌, ℕ, ◌+◌, ◌-◌, ◌<◌, Bool, true, false, List, ◌++◌, length, take, Option, Some, None, refl, sym, ap, subst, ◌∙◌, arith, is_some, length-append}
use Rattle.std.proofs.lemmas.List.{take_all, length-take}
use Rattle.nr_wire.specs.Stream.{is_whole, frame_len, IsPartial}
use Rattle.nr_wire.specs.Feeding.{bytes_taken}
use Rattle.nr_wire.proofs.Frames.{frame_len_take, whole_from}
use Rattle.nr_wire.proofs.Feedings.{bytes_taken_partial, bytes_taken_whole, bytes_taken_within}
use Rattle.nr_link.specs.declared.end.End.{End}
use Rattle.nr_link.specs.declared.end.End.TheVariants as ends
use Rattle.nr_endpoint.specs.LinkState.{LinkSide}
use Rattle.nr_endpoint.specs.SendQueue.{output_len}
use Rattle.nr_endpoint.specs.Calls.{after_call, makes_whole, QueuesOutput}
use Rattle.nr_endpoint.specs.Calls.Call.{FeedOne, OutOfMemory}
use Rattle.nr_endpoint.proofs.StagedFrames.{taken_whole, whole_as_staged}
use Rattle.nr_responder.specs.Heard.{SameHeard}
use Rattle.nr_responder.specs.ResponderState.{ResponderSide, end_of, present_word}
use Rattle.nr_responder.specs.Steps.{Fed}
use Rattle.nr_responder.specs.Steps.Fed.{WentOn}
use Rattle.nr_responder.specs.private.Handling.{IsTaken, on_link}
use Rattle.nr_responder.proofs.Fed.{StepOf, step_of, ended_step, ended_fed_lem}
use Rattle.nr_responder.proofs.Fed.StepOf.{Part, WholeFrame}
use Rattle.nr_responder.proofs.Out.{out_by_link}
use Rattle.nr_responder.proofs.Stepped.{step_done_by, taken_at}
use Rattle.nr_responder.proofs.Steps.{link_behind}

-- ---- The bytes up to the end of the frame

-- the bytes of a piece up to the end of the frame that it completes
abbrev pub first_bytes : LinkSide → List ℕ → List ℕ
first_bytes l piece = take (bytes_taken l.awaited l.rest piece) piece

record Cut (l : LinkSide) (piece : List ℕ) : Type 0 where
  pub whole : is_whole l.awaited (l.rest ++ first_bytes l piece) ≡ true
  pub len : frame_len l.awaited (l.rest ++ first_bytes l piece) ≡ length (l.rest ++ first_bytes l piece)
  pub same : take (frame_len l.awaited (l.rest ++ piece)) (l.rest ++ piece) ≡ take (frame_len l.awaited (l.rest ++ first_bytes l piece)) (l.rest ++ first_bytes l piece)

cut : (l : LinkSide) (piece : List ℕ) → IsPartial l.awaited l.rest → is_whole l.awaited (l.rest ++ piece) ≡ true → Cut l piece
cut l piece p w =
    let x : List ℕ = first_bytes l piece in
    let bytes : List ℕ = l.rest ++ piece in
    let t = taken_whole l.awaited l.rest piece p w in
    let within = bytes_taken_within l.awaited l.rest piece true w in
    let frame : frame_len l.awaited (l.rest ++ x) ≡ frame_len l.awaited bytes = ap (frame_len l.awaited) t.0 ∙ frame_len_take l.awaited bytes (whole_from l.awaited bytes w) in
    let count : length x ≡ bytes_taken l.awaited l.rest piece = omega (arith, length-take (bytes_taken l.awaited l.rest piece) piece, within) in
    let sum : length l.rest + bytes_taken l.awaited l.rest piece ≡ frame_len l.awaited bytes = t.1.1 in
    let len : frame_len l.awaited (l.rest ++ x) ≡ length (l.rest ++ x) = omega (arith, frame, sum, count, length-append l.rest x) in
    record {
      whole = whole_as_staged l.awaited l.rest piece p ∙ w;
      len = len;
      same = sym t.0 ∙ sym (take_all (frame_len l.awaited (l.rest ++ x)) (l.rest ++ x) (omega (arith, len)));
    }

all_of : (l : LinkSide) (piece : List ℕ) → is_whole l.awaited (l.rest ++ piece) ≡ false → first_bytes l piece ≡ piece
all_of l piece w = ap (λ (n : ℕ). take n piece) (bytes_taken_partial l.awaited l.rest piece w) ∙ take_all (length piece) piece (omega arith)

-- a step on them is that on the piece
step_cut : (l m : LinkSide) (piece : List ℕ) → IsPartial l.awaited l.rest → StepOf l piece m → StepOf l (first_bytes l piece) m
step_cut l m piece p (Part w is) = subst (λ (x : List ℕ). StepOf l x m) (sym (all_of l piece w)) (Part w is)
step_cut l m piece p (WholeFrame frame w frame_is long is) = (let c = cut l piece p w in WholeFrame frame c.whole (frame_is ∙ c.same) long is)

taken_again : (l : LinkSide) (piece : List ℕ) → IsPartial l.awaited l.rest → bytes_taken l.awaited l.rest (first_bytes l piece) ≡ length (first_bytes l piece)
taken_again l piece p = by (is_whole l.awaited (l.rest ++ piece)) refl
  where
    x : List ℕ
    x = first_bytes l piece

    by : (w : Bool) → is_whole l.awaited (l.rest ++ piece) ≡ w → bytes_taken l.awaited l.rest x ≡ length x
    by false w = ap (bytes_taken l.awaited l.rest) (all_of l piece w) ∙ bytes_taken_partial l.awaited l.rest piece w ∙ sym (ap (λ (xs : List ℕ). length xs) (all_of l piece w))
    by true w =
        let c = cut l piece p w in
        let n : bytes_taken l.awaited l.rest x ≡ frame_len l.awaited (l.rest ++ x) - length l.rest = bytes_taken_whole l.awaited l.rest x c.whole in
        omega (arith, n, c.len, length-append l.rest x)

either_way : (o : Option End) (n m : ℕ) → m ≡ n → taken_at o n m ≡ n
either_way None n m is = is
either_way (Some end) n m is = refl

-- ---- What it makes of a responder

pub first_done : (v after : ResponderSide) (piece : List ℕ) (m : LinkSide) → end_of v ≡ None → IsPartial v.link.awaited v.link.rest → m ≡ after_call v.link (FeedOne piece) → m.state.ended ≡ None → v.credits.word ≡ present_word v → IsTaken (on_link v m) after → SameHeard m after.link → Fed v (first_bytes v.link piece) after
first_done v after piece m live p is lives word taken heard =
    let x : List ℕ = first_bytes v.link piece in
    subst (λ (bytes : List ℕ). Fed v bytes after)
    (ap (λ (n : ℕ). take n x) (either_way (end_of after) (length x) (bytes_taken v.link.awaited v.link.rest x) (taken_again v.link piece p)) ∙ take_all (length x) x (omega arith))
    (step_done_by v after x m live p (step_cut v.link m piece p (step_of v.link m piece p live is)) lives word taken heard)

feed_cut : (l : LinkSide) (piece : List ℕ) → IsPartial l.awaited l.rest → l.state.ended ≡ None → is_whole l.awaited (l.rest ++ piece) ≡ true → after_call l (FeedOne (first_bytes l piece)) ≡ after_call l (FeedOne piece)
feed_cut l piece p live w = by (step_of l (after_call l (FeedOne (first_bytes l piece))) (first_bytes l piece) p live refl) (step_of l (after_call l (FeedOne piece)) piece p live refl)
  where
    c : Cut l piece
    c = cut l piece p w

    by : StepOf l (first_bytes l piece) (after_call l (FeedOne (first_bytes l piece))) → StepOf l piece (after_call l (FeedOne piece)) → after_call l (FeedOne (first_bytes l piece)) ≡ after_call l (FeedOne piece)
    by (Part partial is) other = absurd (let two : true ≡ false = sym c.whole ∙ partial in cc)
    by (WholeFrame frame w frame_is long is) (Part partial other) = absurd (let two : true ≡ false = sym w_all ∙ partial in cc)
      where
        w_all : is_whole l.awaited (l.rest ++ piece) ≡ true
        w_all = sym (whole_as_staged l.awaited l.rest piece p) ∙ c.whole
    by (WholeFrame frame w frame_is long is) (WholeFrame other w' other_is long' is') = is ∙ ap (link_behind l) (frame_is ∙ sym c.same ∙ sym other_is) ∙ sym is'

pub first_failed : (v : ResponderSide) (piece : List ℕ) (m : LinkSide) (end : End) → end_of v ≡ None → IsPartial v.link.awaited v.link.rest → (end ≢ ends.Memory → m ≡ after_call v.link (FeedOne piece)) →
    (end ≡ ends.Memory → (m ≡ after_call v.link OutOfMemory) × ((makes_whole v.link piece ≡ true) × QueuesOutput v.link piece)) → m.state.ended ≡ Some end → Fed v (first_bytes v.link piece) (on_link v m)
first_failed v piece m end live p fed out ended = by end fed out ended
  where
    went : (why : End) → m ≡ after_call v.link (FeedOne piece) → m.state.ended ≡ Some why → Fed v (first_bytes v.link piece) (on_link v m)
    went why is over = WentOn (ended_step v piece m why live p (step_of v.link m piece p live is) over)

    by : (end : End) → (end ≢ ends.Memory → m ≡ after_call v.link (FeedOne piece)) → (end ≡ ends.Memory → (m ≡ after_call v.link OutOfMemory) × ((makes_whole v.link piece ≡ true) × QueuesOutput v.link piece)) → m.state.ended ≡ Some end →
        Fed v (first_bytes v.link piece) (on_link v m)
    by (ends.Bad at reason) fed out over = went (ends.Bad at reason) (fed (λ e. absurd cc)) over
    by (ends.Denied stag offset why) fed out over = went (ends.Denied stag offset why) (fed (λ e. absurd cc)) over
    by (ends.NoBuffer msn) fed out over = went (ends.NoBuffer msn) (fed (λ e. absurd cc)) over
    by (ends.Terminated reason) fed out over = went (ends.Terminated reason) (fed (λ e. absurd cc)) over
    by ends.Memory fed out over =
        let o = out refl in
        out_by_link v (on_link v m) (first_bytes v.link piece) live p (ap (λ (l : LinkSide). on_link v l) o.0) (cut v.link piece p o.1.0).whole
        (subst (λ (l : LinkSide). output_len v.link.state.send_queue < output_len l.state.send_queue) (sym (feed_cut v.link piece p live o.1.0)) o.1.1)

pub first_ended : (v : ResponderSide) (piece : List ℕ) → is_some (end_of v) ≡ true → Fed v (first_bytes v.link piece) v
first_ended v piece over = WentOn (ended_fed_lem v (first_bytes v.link piece) over)
