-- What a side keeps of the stream is what the bytes that were fed leave after their complete frames.
use Rattle.std.proofs.Common.{◌≡◌, ℕ, ◌+◌, ◌≤◌, is_some, Bool, true, false, cond, List, [], ◌∷◌, ◌++◌, length, take, Option, Some, None, Result, Ok, Err, refl, sym, ap, subst, ◌∙◌, append_assoc, arith, append-nil, length-append}
use Rattle.std.specs.List.{concat}
use Rattle.nr_wire.specs.declared.hello.Side.{Side}
use Rattle.nr_wire.specs.declared.stream.Awaited.{Awaited}
use Rattle.nr_wire.specs.declared.stream.Awaited.TheVariants.{Hello as HelloFrom, Fpdu}
use Rattle.nr_wire.specs.Hello.{Hello, hello_of, peer}
use Rattle.nr_wire.specs.Segment.{Segment}
use Rattle.nr_wire.specs.Stream.{IsPartial, is_whole, awaited_after, Split, split}
use Rattle.nr_wire.specs.Feeding.{bytes_taken, feeding_after, feeding_after_step, feeding_after_frames}
use Rattle.nr_wire.proofs.Feedings.{feeding_after_step-ended}
use Rattle.nr_wire.proofs.Splits.{split_Splits, awaited_after_Fpdu}
use Rattle.nr_link.specs.declared.end.End.{End}
use Rattle.nr_link.specs.Frames.{Frame}
use Rattle.nr_link.specs.Input.{InputState, input_of, input_after}
use Rattle.nr_link.proofs.Inputs.{input_of_append, input_of_none}
use Rattle.nr_link.specs.declared.agreement.SideTerms.{SideTerms}
use Rattle.nr_link.specs.declared.agreement.Agreement.{Agreement}
use Rattle.nr_endpoint.specs.LinkState.{LinkState, LinkSide, has_ended, initial_link}
use Rattle.nr_endpoint.specs.Judging.{segment_end, next_frame, with_frame, with_segment_by, with_fpdu, with_peer_hello, next_segment}
use Rattle.nr_endpoint.specs.Calls.{Call, after_call, after_calls}
use Rattle.nr_endpoint.specs.Calls.Call.{Feed, FeedOne, NextEvent, Post, Stop, OutOfMemory, Send, WriteRemote, ReadRemote, Drain, Register, Release, SendInvalidate, Hold, SendHeld, Invalidate}
use Rattle.nr_endpoint.specs.Laws.{bytes_in_call, bytes_fed, KeepsInput, StreamIsKept, PlaceIsFed}
use Rattle.nr_endpoint.proofs.Pieces.{step_taken, frame_place}
use Rattle.nr_endpoint.proofs.HellosFrom.{hello_from}

-- ---- A frame

segment_within : (s : LinkState) (f : Frame) (segment : Segment) (e : Option End) → s.place ≤ f.end → (with_segment_by f segment e s).place ≤ f.end
segment_within s f segment None le = omega arith
segment_within s f segment (Some end) le = le

fpdu_within : (s : LinkState) (f : Frame) (r : Result Segment ℕ) → s.place ≤ f.end → (with_fpdu f r s).place ≤ f.end
unfolding with_fpdu
fpdu_within s f (Ok segment) le = segment_within s f segment (segment_end s f segment) le
fpdu_within s f (Err reason) le = le

hello_within : (s : LinkState) (f : Frame) (r : Result Hello ℕ) → s.place ≤ f.end → (with_peer_hello f r s).place ≤ f.end
unfolding with_peer_hello
hello_within s f (Ok hello) le = omega arith
hello_within s f (Err reason) le = le

-- the offset goes on by the frame, or stays if the frame ends the side
frame_within : (s : LinkState) (a : Awaited) (frame : List ℕ) → (with_frame s a frame).place ≤ s.place + length frame
frame_within s (HelloFrom side) frame =
    hello_from (λ t. t.place ≤ s.place + length frame) side (next_frame s frame) (hello_of side frame) s (hello_within s (next_frame s frame) (hello_of side frame) (omega arith)) (omega arith)
frame_within s Fpdu frame = fpdu_within s (next_frame s frame) (next_segment s frame) (omega arith)

no_end : (e : Option End) → is_some e ≡ false → e ≡ None
no_end None is = refl
no_end (Some end) is = absurd cc

-- ---- Frames

abbrev behind : Awaited → List (List ℕ) → List ℕ → ℕ → InputState
behind a frames rest place = record { awaited = awaited_after a frames; rest = rest; place = place + length (concat frames) }

-- a side after these frames, of which one may have ended it
record AreTaken (a : Awaited) (s : LinkState) (frames : List (List ℕ)) (rest : List ℕ) (after : LinkSide) : Type 0 where
  lived : has_ended after.state ≡ false → has_ended s ≡ false
  keeps : has_ended after.state ≡ false → KeepsInput after (behind a frames rest s.place)
  within : after.state.place + length after.rest ≤ s.place + length (concat frames) + length rest

never : {A : Type 0} (b : Bool) → b ≡ true → b ≡ false → A
never b is live = absurd (let h : true ≡ false = sym is ∙ live in cc)

taken_ended : (a : Awaited) (s : LinkState) (frames : List (List ℕ)) (rest : List ℕ) → has_ended s ≡ true → AreTaken a s frames rest (record { awaited = a; rest = []; state = s })
taken_ended a s frames rest is = record {
  lived = λ live. never (has_ended s) is live;
  keeps = λ live. never (has_ended s) is live;
  within = omega arith;
}

taken_frame : (a : Awaited) (s : LinkState) (frame : List ℕ) (frames : List (List ℕ)) (rest : List ℕ) (after : LinkSide) → has_ended s ≡ false → AreTaken Fpdu (with_frame s a frame) frames rest after →
    AreTaken a s (frame ∷ frames) rest after
taken_frame a s frame frames rest after is next = record {
  lived = λ live. is;
  keeps = λ live.
      let k : KeepsInput after (behind Fpdu frames rest (with_frame s a frame).place) = next.keeps live in
      let place : (with_frame s a frame).place ≡ s.place + length frame = frame_place s a frame (no_end (with_frame s a frame).ended (next.lived live)) in
      record {
        awaited = k.awaited ∙ awaited_after_Fpdu frames;
        rest = k.rest;
        place = omega (arith, k.place, place, length-append frame (concat frames));
      };
  within = omega (arith, next.within, frame_within s a frame, length-append frame (concat frames));
}

frames_taken : (a : Awaited) (s : LinkState) (frames : List (List ℕ)) (rest : List ℕ) (b : Bool) → has_ended s ≡ b → AreTaken a s frames rest (feeding_after_frames has_ended with_frame frames rest a s)
frames_taken a s [] rest true is =
    subst (λ (w : Bool). AreTaken a s [] rest (record { awaited = a; rest = cond w [] rest; state = s })) (sym is) (taken_ended a s [] rest is)
frames_taken a s [] rest false is =
    subst (λ (w : Bool). AreTaken a s [] rest (record { awaited = a; rest = cond w [] rest; state = s })) (sym is)
    (record { lived = λ live. live; keeps = λ live. record { awaited = refl; rest = refl; place = omega arith }; within = omega arith })
frames_taken a s (frame ∷ frames) rest true is =
    subst (λ (w : Bool). AreTaken a s (frame ∷ frames) rest (cond w (record { awaited = a; rest = cond w [] []; state = s }) (feeding_after_frames has_ended with_frame frames rest Fpdu (with_frame s a frame))))
    (sym is) (taken_ended a s (frame ∷ frames) rest is)
frames_taken a s (frame ∷ frames) rest false is =
    subst (λ (w : Bool). AreTaken a s (frame ∷ frames) rest (cond w (record { awaited = a; rest = cond w [] []; state = s }) (feeding_after_frames has_ended with_frame frames rest Fpdu (with_frame s a frame))))
    (sym is)
    (taken_frame a s frame frames rest _ is (frames_taken Fpdu (with_frame s a frame) frames rest (has_ended (with_frame s a frame)) refl))

-- ---- A feed

-- a side that was fed these bytes so far
pub record IsFed (from : Side) (link : LinkSide) (bytes : List ℕ) : Type 0 where
  pub keeps : has_ended link.state ≡ false → KeepsInput link (input_of from bytes)
  pub within : link.state.place + length link.rest ≤ length bytes

abbrev input_in : LinkSide → InputState
input_in link = record { awaited = link.awaited; rest = link.rest; place = link.state.place }

same_input : (link : LinkSide) (input : InputState) → KeepsInput link input → input_in link ≡ input
same_input link input k = λ i. record { awaited = k.awaited i; rest = k.rest i; place = k.place i }

feed_fed : (from : Side) (link : LinkSide) (bytes piece : List ℕ) → IsFed from link bytes → IsFed from (feeding_after has_ended with_frame link piece) (bytes ++ piece)
unfolding feeding_after
feed_fed from link bytes piece fed =
    let s : Split = split link.awaited (link.rest ++ piece) in
    let t : AreTaken link.awaited link.state s.frames s.rest (feeding_after_frames has_ended with_frame s.frames s.rest link.awaited link.state) =
    frames_taken link.awaited link.state s.frames s.rest (has_ended link.state) refl in
    record {
      keeps = λ live.
          let same : input_after (input_in link) piece ≡ input_of from (bytes ++ piece) =
          ap (λ (input : InputState). input_after input piece) (same_input link (input_of from bytes) (fed.keeps (t.lived live))) ∙ sym (input_of_append from bytes piece) in
          subst (KeepsInput (feeding_after_frames has_ended with_frame s.frames s.rest link.awaited link.state)) same (t.keeps live);
      within = omega (
        arith,
        t.within,
        fed.within,
        length-append link.rest piece,
        length-append (concat s.frames) s.rest,
        ap (λ (x : List ℕ). length x) (split_Splits link.awaited (link.rest ++ piece)).whole,
        length-append bytes piece,
      );
    }

step_fed : (from : Side) (link : LinkSide) (bytes piece : List ℕ) → IsFed from link bytes → (b : Bool) → has_ended link.state ≡ b →
    IsFed from (feeding_after_step has_ended with_frame link piece) (bytes ++ take (bytes_taken link.awaited link.rest piece) piece)
step_fed from link bytes piece fed true is =
    let x : List ℕ = take (bytes_taken link.awaited link.rest piece) piece in
    subst (λ (l : LinkSide). IsFed from l (bytes ++ x)) (sym (feeding_after_step-ended has_ended with_frame link piece is))
    (record { keeps = λ live. never (has_ended link.state) is live; within = omega (arith, fed.within, length-append bytes x) })
step_fed from link bytes piece fed false is =
    let x : List ℕ = take (bytes_taken link.awaited link.rest piece) piece in
    let partial : IsPartial link.awaited link.rest =
    subst (λ (input : InputState). IsPartial input.awaited input.rest) (sym (same_input link (input_of from bytes) (fed.keeps is))) (split_Splits (HelloFrom from) bytes).partial in
    subst (λ (l : LinkSide). IsFed from l (bytes ++ x)) (sym (step_taken has_ended with_frame link piece (is_whole link.awaited (link.rest ++ piece)) refl is partial))
    (feed_fed from link bytes x fed)

-- ---- Calls

-- a call that takes no bytes
nothing_fed : (from : Side) (link : LinkSide) (bytes : List ℕ) (after : LinkState) → after.place ≡ link.state.place → after.ended ≡ link.state.ended → IsFed from link bytes →
    IsFed from (record { awaited = link.awaited; rest = link.rest; state = after }) (bytes ++ [])
nothing_fed from link bytes after place ended fed =
    subst (λ (x : List ℕ). IsFed from (record { awaited = link.awaited; rest = link.rest; state = after }) x) (sym (append-nil bytes))
    (record {
      keeps = λ live.
          let k : KeepsInput link (input_of from bytes) = fed.keeps (sym (ap (λ (e : Option End). is_some e) ended) ∙ live) in
          record { awaited = k.awaited; rest = k.rest; place = place ∙ k.place };
      within = omega (arith, place, fed.within);
    })

unless_fed : (from : Side) (link : LinkSide) (bytes : List ℕ) (after : LinkState) (b : Bool) → after.place ≡ link.state.place → after.ended ≡ link.state.ended → IsFed from link bytes →
    IsFed from (record { awaited = link.awaited; rest = link.rest; state = cond b link.state after }) (bytes ++ [])
unless_fed from link bytes after true place ended fed = nothing_fed from link bytes link.state refl refl fed
unless_fed from link bytes after false place ended fed = nothing_fed from link bytes after place ended fed

-- a call that ends the side
ended_fed_lem : (from : Side) (link : LinkSide) (bytes : List ℕ) (after : LinkState) (b : Bool) → has_ended link.state ≡ b → after.place ≡ link.state.place → has_ended after ≡ true → IsFed from link bytes →
    IsFed from (record { awaited = link.awaited; rest = []; state = cond b link.state after }) (bytes ++ [])
ended_fed_lem from link bytes after true is place ended fed = record { keeps = λ live. never (has_ended link.state) is live; within = omega (arith, fed.within, length-append bytes []) }
ended_fed_lem from link bytes after false is place ended fed = record { keeps = λ live. never (has_ended after) ended live; within = omega (arith, place, fed.within, length-append bytes []) }

pub call_fed : (from : Side) (link : LinkSide) (bytes : List ℕ) (call : Call) → IsFed from link bytes → IsFed from (after_call link call) (bytes ++ bytes_in_call link call)
unfolding after_call
call_fed from link bytes (Feed piece) fed = feed_fed from link bytes piece fed
call_fed from link bytes (FeedOne piece) fed = step_fed from link bytes piece fed (has_ended link.state) refl
call_fed from link bytes NextEvent fed = nothing_fed from link bytes _ refl refl fed
call_fed from link bytes Post fed = nothing_fed from link bytes _ refl refl fed
call_fed from link bytes (Stop reason) fed = ended_fed_lem from link bytes _ (has_ended link.state) refl refl refl fed
call_fed from link bytes OutOfMemory fed = ended_fed_lem from link bytes _ (has_ended link.state) refl refl refl fed
call_fed from link bytes (Send message) fed = unless_fed from link bytes _ (has_ended link.state) refl refl fed
call_fed from link bytes (SendInvalidate stag message) fed = unless_fed from link bytes _ (has_ended link.state) refl refl fed
call_fed from link bytes (Hold message) fed = unless_fed from link bytes _ (has_ended link.state) refl refl fed
call_fed from link bytes (SendHeld message) fed = unless_fed from link bytes _ (has_ended link.state) refl refl fed
call_fed from link bytes (WriteRemote stag to payload) fed = unless_fed from link bytes _ (has_ended link.state) refl refl fed
call_fed from link bytes (ReadRemote sink at stag to len) fed = unless_fed from link bytes _ (has_ended link.state) refl refl fed
call_fed from link bytes (Drain count) fed = nothing_fed from link bytes _ refl refl fed
call_fed from link bytes (Register buf right) fed = nothing_fed from link bytes _ refl refl fed
call_fed from link bytes (Release stag) fed = nothing_fed from link bytes _ refl refl fed
call_fed from link bytes (Invalidate stag) fed = nothing_fed from link bytes _ refl refl fed

calls_fed : (from : Side) (link : LinkSide) (bytes : List ℕ) (calls : List Call) → IsFed from link bytes → IsFed from (after_calls link calls) (bytes ++ bytes_fed link calls)
unfolding after_calls
calls_fed from link bytes [] fed = subst (λ (x : List ℕ). IsFed from link x) (sym (append-nil bytes)) fed
calls_fed from link bytes (call ∷ calls) fed =
    subst (λ (x : List ℕ). IsFed from (after_calls (after_call link call) calls) x) (append_assoc bytes (bytes_in_call link call) (bytes_fed (after_call link call) calls))
    (calls_fed from (after_call link call) (bytes ++ bytes_in_call link call) calls (call_fed from link bytes call fed))

initial_fed : (side : Side) (receives first_stag : ℕ) (terms : SideTerms) (earlier : Option Agreement) → IsFed (peer side) (initial_link side receives first_stag terms earlier) []
unfolding initial_link
initial_fed side receives first_stag terms earlier = record {
  keeps = λ live. subst (KeepsInput (initial_link side receives first_stag terms earlier)) (sym (input_of_none (peer side))) (record { awaited = refl; rest = refl; place = refl });
  within = omega arith;
}

pub stream_fed : (side : Side) (receives first_stag : ℕ) (terms : SideTerms) (earlier : Option Agreement) (calls : List Call) →
    IsFed (peer side) (after_calls (initial_link side receives first_stag terms earlier) calls) (bytes_fed (initial_link side receives first_stag terms earlier) calls)
stream_fed side receives first_stag terms earlier calls = calls_fed (peer side) (initial_link side receives first_stag terms earlier) [] calls (initial_fed side receives first_stag terms earlier)

pub stream_is_kept_lem : StreamIsKept
stream_is_kept_lem side receives first_stag terms earlier calls = (stream_fed side receives first_stag terms earlier calls).keeps

pub place_is_fed : PlaceIsFed
place_is_fed side receives first_stag terms earlier calls = (stream_fed side receives first_stag terms earlier calls).within
