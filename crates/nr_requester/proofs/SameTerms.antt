-- The terms of a requester stay as it was opened with, whatever it is fed.
use Rattle.std.proofs.Common.{◌≡◌, ℕ, Bool, true, false, cond, List, [], ◌∷◌, ◌++◌, Option, None, Some, Result, Ok, Err, eqb, length, refl, ◌∙◌}
use Rattle.nr_wire.specs.declared.hello.Side.{Side}
use Rattle.nr_wire.specs.declared.hello.Side.TheVariants.{Initiator, Responder}
use Rattle.nr_wire.specs.declared.stream.Awaited.{Awaited}
use Rattle.nr_wire.specs.declared.stream.Awaited.TheVariants.{Fpdu, Hello as HelloFrom}
use Rattle.nr_wire.specs.Constants.{OPCODE_READ_RESPONSE}
use Rattle.nr_wire.specs.Feeding.{feeding_in, feeding_after_frames, feeding_after}
use Rattle.nr_wire.specs.Hello.{Hello, hello_of}
use Rattle.nr_wire.specs.Segment.{Segment}
use Rattle.nr_wire.specs.Segment.Segment.{Tagged, Untagged}
use Rattle.nr_wire.specs.Stream.{split}
use Rattle.nr_link.specs.declared.end.End.{End}
use Rattle.nr_link.specs.Frames.{Frame}
use Rattle.nr_regions.specs.RegisteredMemory.{after_place}
use Rattle.nr_endpoint.specs.Judging.{has_other_sizes, next_frame, next_segment, segment_end, with_effect, with_fpdu, with_frame, with_hello_from, with_other_sizes, with_peer_hello, with_read_response, with_segment_by}
use Rattle.nr_endpoint.specs.LinkState.{LinkState}
use Rattle.nr_endpoint.specs.ReceiveQueue.{DeliveredEvent}
use Rattle.nr_endpoint.specs.ReceiveQueue.DeliveredEvent.{MessageReceived, ReadDone}
use Rattle.nr_reduce.specs.ClientMessages.{ReplyVerdict}
use Rattle.nr_reduce.specs.ClientMessages.ReplyVerdict.{EndsLink, GivesOutcome}
use Rattle.nr_reduce.specs.KeptCalls.{kept_named, kept_message_verdict}
use Rattle.nr_reduce.specs.KeptClient.{bytes_under}
use Rattle.nr_requester.specs.RequesterState.{RequesterState, RequesterFeeding, RequesterSide, feeding_of, kept_calls}
use Rattle.nr_requester.specs.AfterPiece.{after_fed, after_fpdu, after_frame, after_piece, judged, requester_ended, unless_ended, with_dead, with_deliveries}
use Rattle.nr_requester.specs.KeptOn.{FeedKeepsTerms}
use Rattle.nr_requester.specs.Resends.{after_feed, after_resend, may_resend, resent_from, resent_unless, with_resends}

-- ---- A frame

effect_terms : (segment : Segment) (s : LinkState) → (with_effect segment s).terms ≡ s.terms
unfolding with_effect
effect_terms (Tagged last opcode stag to payload) s = by (eqb opcode OPCODE_READ_RESPONSE)
  where
    placed : LinkState
    placed = record s { memory = after_place s.memory stag to payload }

    by : (b : Bool) → (cond b (with_read_response last (length payload) placed) placed).terms ≡ s.terms
    by true = refl
    by false = refl
effect_terms (Untagged last opcode w queue msn offset payload) s = refl

segment_terms : (f : Frame) (segment : Segment) (o : Option End) (s : LinkState) → (with_segment_by f segment o s).terms ≡ s.terms
segment_terms f segment None s = effect_terms segment s
segment_terms f segment (Some end) s = refl

fpdu_terms : (f : Frame) (r : Result Segment ℕ) (s : LinkState) → (with_fpdu f r s).terms ≡ s.terms
unfolding with_fpdu
fpdu_terms f (Ok segment) s = segment_terms f segment (segment_end s f segment) s
fpdu_terms f (Err reason) s = refl

heard_terms : (f : Frame) (r : Result Hello ℕ) (s : LinkState) → (with_peer_hello f r s).terms ≡ s.terms
unfolding with_peer_hello
heard_terms f (Ok hello) s = refl
heard_terms f (Err reason) s = refl

hello_terms : (side : Side) (f : Frame) (r : Result Hello ℕ) (s : LinkState) → (with_hello_from side f r s).terms ≡ s.terms
hello_terms Initiator f r s = heard_terms f r s
hello_terms Responder f (Err reason) s = heard_terms f (Err reason) s
hello_terms Responder f (Ok hello) s = by (has_other_sizes Responder s hello.private)
  where
    by : (b : Bool) → (cond b (with_other_sizes f s) (with_peer_hello f (Ok hello) s)).terms ≡ s.terms
    by true = refl
    by false = heard_terms f (Ok hello) s

side_terms : (s : LinkState) (a : Awaited) (bytes : List ℕ) → (with_frame s a bytes).terms ≡ s.terms
side_terms s (HelloFrom side) bytes = hello_terms side (next_frame s bytes) (hello_of side bytes) s
side_terms s Fpdu bytes = fpdu_terms (next_frame s bytes) (next_segment s bytes) s

judged_terms : (r : RequesterState) (s : LinkState) (message : List ℕ) (v : ReplyVerdict) → (judged r s message v).side.terms ≡ s.terms
judged_terms r s message (EndsLink reason) = refl
judged_terms r s message (GivesOutcome xid outcome) = refl

told_terms : (r : RequesterState) (s : LinkState) (events : List DeliveredEvent) → (with_deliveries r s events).side.terms ≡ s.terms
told_terms r s [] = refl
told_terms r s (MessageReceived number named message ∷ events) =
    judged_terms r (with_dead (kept_named (kept_calls r) named message) s) message (kept_message_verdict (kept_calls r) (bytes_under s.memory) named message)
told_terms r s (ReadDone ∷ events) = refl

unless_terms : (r : RequesterState) (s : LinkState) (ended : Option End) → (unless_ended r s ended).side.terms ≡ s.terms
unless_terms r s None = told_terms r s s.receive_queue.deliveries
unless_terms r s (Some end) = refl

frame_terms : (r : RequesterState) (a : Awaited) (frame : List ℕ) → (after_frame r a frame).side.terms ≡ r.side.terms
unfolding after_fpdu
frame_terms r (HelloFrom side) frame = side_terms r.side (HelloFrom side) frame
frame_terms r Fpdu frame = unless_terms r (with_frame r.side Fpdu frame) (with_frame r.side Fpdu frame).ended ∙ side_terms r.side Fpdu frame

-- ---- A piece, and what is sent again

frames_terms : (frames : List (List ℕ)) (rest : List ℕ) (a : Awaited) (r : RequesterState) → (feeding_after_frames requester_ended after_frame frames rest a r).state.side.terms ≡ r.side.terms
frames_terms [] rest a r = refl
frames_terms (f ∷ frames) rest a r = by (requester_ended r) (frames_terms frames rest Fpdu (after_frame r a f) ∙ frame_terms r a f)
  where
    by : (b : Bool) → (feeding_after_frames requester_ended after_frame frames rest Fpdu (after_frame r a f)).state.side.terms ≡ r.side.terms →
        (cond b (feeding_in requester_ended after_frame a [] r) (feeding_after_frames requester_ended after_frame frames rest Fpdu (after_frame r a f))).state.side.terms ≡ r.side.terms
    by true later = refl
    by false later = later

pub piece_terms : (h : RequesterFeeding) (piece : List ℕ) → (after_piece h piece).state.side.terms ≡ h.state.side.terms
unfolding after_piece feeding_after
piece_terms h piece = frames_terms (split h.awaited (h.rest ++ piece)).frames (split h.awaited (h.rest ++ piece)).rest h.awaited h.state

resent_terms : (messages : List (List ℕ)) (h : RequesterSide) → (resent_from messages h).state.side.terms ≡ h.state.side.terms
unfolding after_resend
resent_terms [] h = refl
resent_terms (message ∷ messages) h = by (may_resend h.state) (resent_terms messages (after_resend h message))
  where
    by : (b : Bool) → (resent_from messages (after_resend h message)).state.side.terms ≡ h.state.side.terms → (cond b (resent_from messages (after_resend h message)) h).state.side.terms ≡ h.state.side.terms
    by true later = later
    by false later = refl

unless_resent : (ended : Option End) (h : RequesterSide) → (resent_unless ended h).state.side.terms ≡ h.state.side.terms
unfolding with_resends
unless_resent None h = resent_terms h.state.side.send_queue.held h
unless_resent (Some end) h = refl

pub feed_keeps_terms : FeedKeepsTerms
unfolding after_feed
feed_keeps_terms h piece staging = (piece_terms (feeding_of h) piece, unless_resent (after_fed h piece staging).state.side.ended (after_fed h piece staging) ∙ piece_terms (feeding_of h) piece)
