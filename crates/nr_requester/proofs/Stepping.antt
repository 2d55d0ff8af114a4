-- A piece of the server's stream by the endpoint's own steps: one step, the deliveries that it made, and then what is left of the piece.
use Rattle.std.proofs.Common.{◌≡◌, ℕ, Bool, true, false, cond, List, [], ◌++◌, take, drop, Option, None, Some, Result, Ok, Err, refl, sym, ap, ◌∙◌}
use Rattle.std.specs.Prelude.{is_some}
use Rattle.nr_wire.specs.declared.hello.Side.{Side}
use Rattle.nr_wire.specs.declared.hello.Side.TheVariants.{Initiator, Responder}
use Rattle.nr_wire.specs.declared.stream.Awaited.{Awaited}
use Rattle.nr_wire.specs.declared.stream.Awaited.TheVariants.{Hello as HelloFrom, Fpdu}
use Rattle.nr_wire.specs.Feeding.{feeding_after, feeding_after_step, bytes_taken}
use Rattle.nr_wire.specs.Hello.{Hello, hello_of}
use Rattle.nr_wire.specs.Stream.{IsPartial, is_whole, frame_len}
use Rattle.nr_wire.proofs.Feedings.{feeding_after_step-ended, feeding_after_step-whole, feeding_after_step-partial, feeding_after_step-rest}
use Rattle.nr_link.specs.declared.end.End.{End}
use Rattle.nr_endpoint.specs.LinkState.{LinkState, LinkSide}
use Rattle.nr_endpoint.specs.LinkState.{has_ended as side_ended}
use Rattle.nr_endpoint.specs.Judging.{with_frame, with_peer_hello, with_hello_from, with_other_sizes, has_other_sizes, next_frame}
use Rattle.nr_endpoint.specs.Calls.{after_call}
use Rattle.nr_endpoint.specs.Calls.Call.{FeedOne}
use Rattle.nr_requester.specs.RequesterState.{RequesterState, RequesterFeeding}
use Rattle.nr_requester.specs.AfterPiece.{requester_ended, with_deliveries, unless_ended, after_frame, after_fpdu, after_piece}

-- the endpoint's link of a requester
abbrev pub link_of : RequesterFeeding → LinkSide
link_of h = record { awaited = h.awaited; rest = h.rest; state = h.state.side }

-- what a requester makes of the link after a step
abbrev pub told_of : RequesterState → LinkSide → RequesterFeeding
told_of r l = record { awaited = l.awaited; rest = l.rest; state = unless_ended r l.state l.state.ended }

none_delivered : (r : RequesterState) (s : LinkState) (end : Option End) → s.receive_queue.deliveries ≡ [] → unless_ended r s end ≡ record r { side = s }
none_delivered r s None e = ap (with_deliveries r s) e
none_delivered r s (Some end) e = refl

hello_quiet : (s : LinkState) (f : Rattle.nr_link.specs.Frames.Frame) (x : Result Hello ℕ) → s.receive_queue.deliveries ≡ [] → (with_peer_hello f x s).receive_queue.deliveries ≡ []
unfolding with_peer_hello
hello_quiet s f (Ok hello) e = e
hello_quiet s f (Err reason) e = e

sizes_quiet : (s : LinkState) (f : Rattle.nr_link.specs.Frames.Frame) (hello : Hello) (b : Bool) → s.receive_queue.deliveries ≡ [] → (cond b (with_other_sizes f s) (with_peer_hello f (Ok hello) s)).receive_queue.deliveries ≡ []
sizes_quiet s f hello true e = e
sizes_quiet s f hello false e = hello_quiet s f (Ok hello) e

hello_from_quiet : (side : Side) (s : LinkState) (f : Rattle.nr_link.specs.Frames.Frame) (x : Result Hello ℕ) → s.receive_queue.deliveries ≡ [] → (with_hello_from side f x s).receive_queue.deliveries ≡ []
hello_from_quiet Initiator s f x e = hello_quiet s f x e
hello_from_quiet Responder s f (Err reason) e = hello_quiet s f (Err reason) e
hello_from_quiet Responder s f (Ok hello) e = sizes_quiet s f hello (has_other_sizes Responder s hello.private) e

frame_told : (r : RequesterState) (a : Awaited) (frame : List ℕ) → r.side.receive_queue.deliveries ≡ [] → after_frame r a frame ≡ unless_ended r (with_frame r.side a frame) (with_frame r.side a frame).ended
unfolding after_fpdu
frame_told r (HelloFrom side) frame e =
    let s = with_frame r.side (HelloFrom side) frame in
    sym (none_delivered r s s.ended (hello_from_quiet side r.side (next_frame r.side frame) (hello_of side frame) e))
frame_told r Fpdu frame e = refl

ended_told : (r : RequesterState) (end : Option End) → is_some end ≡ true → unless_ended r r.side end ≡ r
ended_told r None e = absurd (let h : false ≡ true = e in cc)
ended_told r (Some end) e = refl

by_whole_lem : (h : RequesterFeeding) (piece : List ℕ) (w : Bool) → requester_ended h.state ≡ false → is_whole h.awaited (h.rest ++ piece) ≡ w → h.state.side.receive_queue.deliveries ≡ [] →
    feeding_after_step requester_ended after_frame h piece ≡ told_of h.state (feeding_after_step side_ended with_frame (link_of h) piece)
by_whole_lem h piece true lives e quiet =
    feeding_after_step-whole requester_ended after_frame h piece lives e
    ∙ ap (λ (r : RequesterState). record { awaited = Fpdu; rest = []; state = r }) (frame_told h.state h.awaited (take (frame_len h.awaited (h.rest ++ piece)) (h.rest ++ piece)) quiet)
    ∙ sym (ap (told_of h.state) (feeding_after_step-whole side_ended with_frame (link_of h) piece lives e))
by_whole_lem h piece false lives e quiet =
    feeding_after_step-partial requester_ended after_frame h piece lives e
    ∙ sym (ap (λ (r : RequesterState). record { awaited = h.awaited; rest = h.rest ++ piece; state = r }) (none_delivered h.state h.state.side h.state.side.ended quiet))
    ∙ sym (ap (told_of h.state) (feeding_after_step-partial side_ended with_frame (link_of h) piece lives e))

by_end_lem : (h : RequesterFeeding) (piece : List ℕ) (gone : Bool) → requester_ended h.state ≡ gone → (gone ≡ false → h.state.side.receive_queue.deliveries ≡ []) →
    feeding_after_step requester_ended after_frame h piece ≡ told_of h.state (feeding_after_step side_ended with_frame (link_of h) piece)
by_end_lem h piece true e quiet =
    feeding_after_step-ended requester_ended after_frame h piece e
    ∙ sym (ap (λ (r : RequesterState). record { awaited = h.awaited; rest = []; state = r }) (ended_told h.state h.state.side.ended e))
    ∙ sym (ap (told_of h.state) (feeding_after_step-ended side_ended with_frame (link_of h) piece e))
by_end_lem h piece false e quiet = by_whole_lem h piece (is_whole h.awaited (h.rest ++ piece)) e refl (quiet refl)

-- one step of a piece is one step of the endpoint and what its deliveries make of it
pub step_fed : (h : RequesterFeeding) (piece : List ℕ) → (requester_ended h.state ≡ false → h.state.side.receive_queue.deliveries ≡ []) →
    feeding_after_step requester_ended after_frame h piece ≡ told_of h.state (after_call (link_of h) (FeedOne piece))
unfolding after_call
step_fed h piece quiet = by_end_lem h piece (requester_ended h.state) refl quiet

-- then comes what is left of the piece
pub piece_rest : (h : RequesterFeeding) (piece : List ℕ) → IsPartial h.awaited h.rest → (requester_ended h.state ≡ false → h.state.side.receive_queue.deliveries ≡ []) →
    after_piece (told_of h.state (after_call (link_of h) (FeedOne piece))) (drop (bytes_taken h.awaited h.rest piece) piece) ≡ after_piece h piece
unfolding after_piece
piece_rest h piece p quiet =
    ap (λ (g : RequesterFeeding). feeding_after requester_ended after_frame g (drop (bytes_taken h.awaited h.rest piece) piece)) (sym (step_fed h piece quiet))
    ∙ feeding_after_step-rest requester_ended after_frame h piece p
