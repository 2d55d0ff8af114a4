-- How many bytes of the peer's stream a side has gone over.
use Rattle.std.proofs.Common.{◌≡◌, ℕ, ◌+◌, ◌≤◌, ◌<◌, Bool, true, false, cond, Result, Ok, Err, List, [], ◌∷◌, ◌++◌, length, take, Option, Some, None, refl, sym, ap, subst, ◌∙◌, arith, length-append}
use Rattle.std.specs.List.{concat}
use Rattle.std.proofs.lemmas.List.{length-take}
use Rattle.nr_wire.specs.declared.stream.Awaited.{Awaited}
use Rattle.nr_wire.specs.declared.stream.Awaited.TheVariants.{Hello as HelloFrom, Fpdu}
use Rattle.nr_wire.specs.Hello.{Hello, hello_of}
use Rattle.nr_wire.specs.Segment.{Segment}
use Rattle.nr_wire.specs.Feeding.{feeding_after, feeding_after_frames, feeding_in, feeding_after_step}
use Rattle.nr_wire.specs.Stream.{is_whole, frame_len, split}
use Rattle.nr_wire.proofs.Splits.{split_Splits}
use Rattle.nr_wire.proofs.Frames.{whole_from}
use Rattle.nr_wire.proofs.Feedings.{feeding_after_step-whole, feeding_after_step-partial, feeding_after_step-ended}
use Rattle.nr_link.specs.declared.end.End.{End}
use Rattle.nr_link.specs.Frames.{Frame}
use Rattle.nr_link.specs.declared.agreement.SideTerms.{SideTerms}
use Rattle.nr_link.specs.declared.agreement.Agreement.{Agreement}
use Rattle.nr_endpoint.specs.FedBytes.{fed_bytes}
use Rattle.nr_endpoint.specs.ReceiveQueue.{DeliveredEvent, lent_for}
use Rattle.nr_endpoint.specs.ReceiveQueue.DeliveredEvent.{MessageReceived}
use Rattle.nr_wire.specs.declared.hello.Side.{Side}
use Rattle.nr_regions.specs.declared.right.Right.{Right}
use Rattle.nr_endpoint.specs.LinkState.{initial_link, LinkState, LinkSide, has_ended}
use Rattle.nr_endpoint.specs.Judging.{with_frame, with_fpdu, with_peer_hello, with_segment_by, segment_end, next_frame, next_segment}
use Rattle.nr_endpoint.specs.Calls.{StandsOn, after_call, after_calls}
use Rattle.nr_endpoint.specs.Calls.Call.{Feed, FeedOne, NextEvent, Post, Send, WriteRemote, ReadRemote, Drain, Register}
use Rattle.nr_endpoint.proofs.HellosFrom.{hello_from}

-- ---- A frame

segment_place : (f : Frame) (segment : Segment) (e : Option End) (s : LinkState) → s.place ≤ f.end → (with_segment_by f segment e s).place ≤ f.end
segment_place f segment None s le = omega arith
segment_place f segment (Some end) s le = le

fpdu_place : (f : Frame) (r : Result Segment ℕ) (s : LinkState) → s.place ≤ f.end → (with_fpdu f r s).place ≤ f.end
unfolding with_fpdu
fpdu_place f (Ok segment) s le = segment_place f segment (segment_end s f segment) s le
fpdu_place f (Err reason) s le = le

hello_place : (f : Frame) (r : Result Hello ℕ) (s : LinkState) → s.place ≤ f.end → (with_peer_hello f r s).place ≤ f.end
unfolding with_peer_hello
hello_place f (Ok hello) s le = omega arith
hello_place f (Err reason) s le = le

frame_place : (s : LinkState) (a : Awaited) (bytes : List ℕ) → (with_frame s a bytes).place ≤ s.place + length bytes
frame_place s (HelloFrom side) bytes =
    hello_from (λ t. t.place ≤ s.place + length bytes) side (next_frame s bytes) (hello_of side bytes) s (hello_place (next_frame s bytes) (hello_of side bytes) s (omega arith)) (omega arith)
frame_place s Fpdu bytes = fpdu_place (next_frame s bytes) (next_segment s bytes) s (omega arith)

-- ---- Frames

kept_by_lem : (b : Bool) (rest : List ℕ) → length (cond b [] rest) ≤ length rest
kept_by_lem true rest = omega arith
kept_by_lem false rest = omega arith

frames_within : (frames : List (List ℕ)) (rest : List ℕ) (a : Awaited) (s : LinkState) →
    fed_bytes (feeding_after_frames has_ended with_frame frames rest a s) ≤ s.place + (length (concat frames) + length rest)
frames_within [] rest a s = omega (arith, kept_by_lem (has_ended s) rest)
frames_within (frame ∷ frames) rest a s = by (frames_within frames rest Fpdu (with_frame s a frame)) (has_ended s) refl
  where
    the_rest : Bool → LinkSide
    the_rest b = cond b (feeding_in has_ended with_frame a [] s) (feeding_after_frames has_ended with_frame frames rest Fpdu (with_frame s a frame))

    by : fed_bytes (feeding_after_frames has_ended with_frame frames rest Fpdu (with_frame s a frame)) ≤ (with_frame s a frame).place + (length (concat frames) + length rest) →
        (b : Bool) → has_ended s ≡ b → fed_bytes (the_rest (has_ended s)) ≤ s.place + (length (concat (frame ∷ frames)) + length rest)
    by others true e = subst (λ (b : Bool). fed_bytes (the_rest b) ≤ s.place + (length (concat (frame ∷ frames)) + length rest)) (sym e)
        (omega (arith, kept_by_lem (has_ended s) []))
    by others false e = subst (λ (b : Bool). fed_bytes (the_rest b) ≤ s.place + (length (concat (frame ∷ frames)) + length rest)) (sym e)
        (omega (arith, others, frame_place s a frame, length-append frame (concat frames)))

pub fed_within : (l : LinkSide) (piece : List ℕ) → fed_bytes (after_call l (Feed piece)) ≤ fed_bytes l + length piece
unfolding after_call feeding_after
fed_within l piece =
    let s = split_Splits l.awaited (l.rest ++ piece) in
    let len : length (l.rest ++ piece) ≡ length (concat (split l.awaited (l.rest ++ piece)).frames) + length (split l.awaited (l.rest ++ piece)).rest =
    ap (λ (bytes : List ℕ). length bytes) s.whole ∙ length-append (concat (split l.awaited (l.rest ++ piece)).frames) (split l.awaited (l.rest ++ piece)).rest in
    omega (arith, len, length-append l.rest piece, frames_within (split l.awaited (l.rest ++ piece)).frames (split l.awaited (l.rest ++ piece)).rest l.awaited l.state)

pub fed_one_within : (l : LinkSide) (piece : List ℕ) → fed_bytes (after_call l (FeedOne piece)) ≤ fed_bytes l + length piece
unfolding after_call
fed_one_within l piece = by (has_ended l.state) refl (is_whole l.awaited (l.rest ++ piece)) refl
  where
    by : (e : Bool) → has_ended l.state ≡ e → (w : Bool) → is_whole l.awaited (l.rest ++ piece) ≡ w → fed_bytes (feeding_after_step has_ended with_frame l piece) ≤ fed_bytes l + length piece
    by true e w whole = subst (λ (x : LinkSide). fed_bytes x ≤ fed_bytes l + length piece) (sym (feeding_after_step-ended has_ended with_frame l piece e)) (omega arith)
    by false e true whole =
        let f = whole_from l.awaited (l.rest ++ piece) whole in
        subst (λ (x : LinkSide). fed_bytes x ≤ fed_bytes l + length piece) (sym (feeding_after_step-whole has_ended with_frame l piece e whole))
        (omega (
          arith,
          f.frame,
          length-append l.rest piece,
          length-take (frame_len l.awaited (l.rest ++ piece)) (l.rest ++ piece),
          frame_place l.state l.awaited (take (frame_len l.awaited (l.rest ++ piece)) (l.rest ++ piece)),
        ))
    by false e false partial = subst (λ (x : LinkSide). fed_bytes x ≤ fed_bytes l + length piece) (sym (feeding_after_step-partial has_ended with_frame l piece e partial))
        (omega (arith, length-append l.rest piece))

unless_place : (s after : LinkState) (b : Bool) → after.place ≡ s.place → (cond b s after).place ≡ s.place
unless_place s after true is = refl
unless_place s after false is = is

pub send_fed : (l : LinkSide) (message : List ℕ) → fed_bytes (after_call l (Send message)) ≡ fed_bytes l
unfolding after_call
send_fed l message = ap (λ (n : ℕ). n + length l.rest) (unless_place l.state _ (has_ended l.state) refl)

pub write_fed_lem : (l : LinkSide) (stag to : ℕ) (bytes : List ℕ) → fed_bytes (after_call l (WriteRemote stag to bytes)) ≡ fed_bytes l
unfolding after_call
write_fed_lem l stag to bytes = ap (λ (n : ℕ). n + length l.rest) (unless_place l.state _ (has_ended l.state) refl)

pub read_fed : (l : LinkSide) (sink at stag to len : ℕ) → fed_bytes (after_call l (ReadRemote sink at stag to len)) ≡ fed_bytes l
unfolding after_call
read_fed l sink at stag to len = ap (λ (n : ℕ). n + length l.rest) (unless_place l.state _ (has_ended l.state) refl)

pub event_fed : (l : LinkSide) → fed_bytes (after_call l NextEvent) ≡ fed_bytes l
unfolding after_call
event_fed l = refl

pub post_fed : (l : LinkSide) → fed_bytes (after_call l Post) ≡ fed_bytes l
unfolding after_call
post_fed l = refl

pub drain_fed : (l : LinkSide) (n : ℕ) → fed_bytes (after_call l (Drain n)) ≡ fed_bytes l
unfolding after_call
drain_fed l n = refl

pub fed_stands : (before after : LinkSide) (piece : List ℕ) → StandsOn before (Feed piece) after → fed_bytes after ≤ fed_bytes before + length piece
unfolding after_calls
fed_stands before after piece stands =
    subst (λ (l : LinkSide). fed_bytes l ≤ fed_bytes before + length piece) (sym (stands before [] refl)) (fed_within before piece)

pub event_stands : (before after : LinkSide) → after ≡ after_call before NextEvent → fed_bytes after ≡ fed_bytes before
event_stands before after is = ap (λ (l : LinkSide). fed_bytes l) is ∙ event_fed before

pub post_stands : (before after : LinkSide) → after ≡ after_call before Post → fed_bytes after ≡ fed_bytes before
post_stands before after is = ap (λ (l : LinkSide). fed_bytes l) is ∙ post_fed before

pub message_lent : (before after : LinkSide) (number : ℕ) (invalidated : Option ℕ) (bytes : List ℕ) → before.state.receive_queue.deliveries ≡ MessageReceived number invalidated bytes ∷ after.state.receive_queue.deliveries → after ≡ after_call before NextEvent →
    0 < after.state.receive_queue.lent
unfolding after_call
message_lent before after number invalidated bytes first is =
    let lent : after.state.receive_queue.lent ≡ before.state.receive_queue.lent + lent_for before.state.receive_queue.deliveries = ap (λ (l : LinkSide). l.state.receive_queue.lent) is in
    let one : lent_for before.state.receive_queue.deliveries ≡ 1 = ap (λ (n : List DeliveredEvent). lent_for n) first in
    omega (arith, lent, one)

pub open_fed : (l : LinkSide) (side : Side) (receives stag : ℕ) (terms : SideTerms) (earlier : Option Agreement) → l ≡ initial_link side receives stag terms earlier → fed_bytes l ≡ 0
unfolding initial_link
open_fed l side receives stag terms earlier is = ap (λ (x : LinkSide). fed_bytes x) is

pub register_fed : (before after : LinkSide) (buf : List ℕ) (right : Right) → after ≡ after_call before (Register buf right) → fed_bytes after ≡ fed_bytes before
unfolding after_call
register_fed before after buf right is = ap (λ (l : LinkSide). fed_bytes l) is
