-- What the peer reads of the memory of a side.
use Rattle.std.proofs.Common.{◌≡◌, ℕ, Bool, true, false, cond, List, ◌++◌, length, Option, Some, None, Result, Ok, Err, inl, inr, refl, sym, ap, subst, ◌∙◌, eqb}
use Rattle.std.specs.Prelude.{◌⊎◌}
use Rattle.std.proofs.lemmas.Bool.{eqb-true}
use Rattle.std.proofs.lemmas.List.{append-nil}
use Rattle.nr_wire.specs.Constants.{OPCODE_READ_REQUEST, OPCODE_READ_RESPONSE}
use Rattle.nr_wire.specs.declared.stream.Awaited.TheVariants.{Hello as HelloFrom, Fpdu}
use Rattle.nr_wire.specs.Hello.{Hello, hello_of}
use Rattle.nr_wire.specs.Segment.{Segment}
use Rattle.nr_wire.specs.Segment.Segment.{Tagged, Untagged}
use Rattle.nr_regions.specs.RegisteredMemory.{denial, bytes_at, after_place}
use Rattle.nr_link.specs.declared.end.End.{End}
use Rattle.nr_link.specs.Frames.{Frame}
use Rattle.nr_link.specs.ReceiveState.{ReadRequest, read_request_of, read_request_in}
use Rattle.nr_endpoint.specs.SendQueue.{with_response, with_end}
use Rattle.nr_endpoint.specs.LinkState.{LinkState}
use Rattle.nr_endpoint.specs.Judging.{segment_end, fetch_access, next_frame, with_frame, with_segment_by, with_fpdu, with_peer_hello, with_effect, with_read_response, with_read_request, next_segment, with_other_sizes}
use Rattle.nr_endpoint.specs.Laws.{ReadsAreAllowed, IsAllowedRead, final_fpdus, QueuesLast, NothingElseIsRead, OtherFramesQueueNothing}
use Rattle.nr_endpoint.proofs.Alive.{alive_request}
use Rattle.nr_endpoint.proofs.HellosFrom.{hello_from}
use Rattle.nr_link.specs.Ending.{final_output}

-- the frame of a segment that doesn't end the side
taken : (s : LinkState) (frame : List ℕ) (segment : Segment) → next_segment s frame ≡ Ok segment → segment_end s (next_frame s frame) segment ≡ None →
    with_frame s Fpdu frame ≡ with_segment_by (next_frame s frame) segment None s
unfolding with_fpdu
taken s frame segment whole lives =
    ap (λ (r : Result Segment ℕ). with_fpdu (next_frame s frame) r s) whole
    ∙ ap (λ (e : Option End). with_segment_by (next_frame s frame) segment e s) lives

-- ---- A Read Request

asked : (opcode : ℕ) (b : Bool) (payload : List ℕ) (request : ReadRequest) → cond b (Some (read_request_in payload)) None ≡ Some request →
    (b ≡ true) × (read_request_in payload ≡ request)
asked opcode true payload request is = (refl, cc)
asked opcode false payload request is = absurd cc

read_allowed : (s : LinkState) (f : Frame) (segment : Segment) (request : ReadRequest) → f.at ≡ s.place → read_request_of segment ≡ Some request → segment_end s f segment ≡ None →
    denial s.memory (fetch_access request) ≡ None
read_allowed s f (Tagged last opcode stag to payload) request at asks lives = absurd cc
read_allowed s f (Untagged last opcode w queue msn offset payload) request at asks lives =
    let parts : (eqb opcode OPCODE_READ_REQUEST ≡ true) × (read_request_in payload ≡ request) = asked opcode (eqb opcode OPCODE_READ_REQUEST) payload request asks in
    let goes : segment_end s f (Untagged last OPCODE_READ_REQUEST w queue msn offset payload) ≡ None =
    subst (λ (o : ℕ). segment_end s f (Untagged last o w queue msn offset payload) ≡ None) (eqb-true opcode OPCODE_READ_REQUEST parts.0) lives in
    subst (λ (r : ReadRequest). denial s.memory (fetch_access r) ≡ None) parts.1 (alive_request s f last w queue msn offset payload at goes).allowed

read_queued : (s : LinkState) (f : Frame) (segment : Segment) (request : ReadRequest) → read_request_of segment ≡ Some request →
    (with_segment_by f segment None s).send_queue ≡ with_response request.sink request.sink_to (bytes_at s.memory (fetch_access request)) s.send_queue
unfolding with_effect
read_queued s f (Tagged last opcode stag to payload) request asks = absurd cc
read_queued s f (Untagged last opcode w queue msn offset payload) request asks = ap (λ (r : Option ReadRequest). with_read_request r s.memory s.send_queue) asks

pub reads_are_allowed_lem : ReadsAreAllowed
reads_are_allowed_lem s frame segment request whole asks lives = (
  read_allowed s (next_frame s frame) segment request refl asks lives,
  ap (λ (t : LinkState). t.send_queue) (taken s frame segment whole lives) ∙ read_queued s (next_frame s frame) segment request asks,
)

-- ---- Any other frame

abbrev QueuesFpdu : LinkState → LinkState → Type 0
QueuesFpdu s after = after.send_queue.fpdus ≡ s.send_queue.fpdus ++ final_fpdus after.ended

nothing_more : (before after : List ℕ) (e : Option End) → e ≡ None → after ≡ before → after ≡ before ++ final_fpdus e
nothing_more before after e lives same = same ∙ sym (append-nil before) ∙ ap (λ (x : Option End). before ++ final_fpdus x) (sym lives)

hello_queues : (s : LinkState) (f : Frame) (r : Result Hello ℕ) → s.ended ≡ None → QueuesFpdu s (with_peer_hello f r s)
unfolding with_peer_hello with_end
hello_queues s f (Ok hello) live = nothing_more s.send_queue.fpdus s.send_queue.fpdus s.ended live refl
hello_queues s f (Err reason) live = refl

placed_state : (s t : LinkState) (b last : Bool) (n : ℕ) → t.ended ≡ None → t.send_queue.fpdus ≡ s.send_queue.fpdus →
    ((cond b (with_read_response last n t) t).ended ≡ None) × ((cond b (with_read_response last n t) t).send_queue.fpdus ≡ s.send_queue.fpdus)
placed_state s t true last n live same = (live, same)
placed_state s t false last n live same = (live, same)

tagged_queues : (s : LinkState) (f : Frame) (last : Bool) (opcode stag to : ℕ) (payload : List ℕ) → s.ended ≡ None →
    QueuesFpdu s (with_segment_by f (Tagged last opcode stag to payload) None s)
unfolding with_effect
tagged_queues s f last opcode stag to payload live =
    let placed : LinkState = record s { memory = after_place s.memory stag to payload } in
    let t : LinkState = cond (eqb opcode OPCODE_READ_RESPONSE) (with_read_response last (length payload) placed) placed in
    let parts : (t.ended ≡ None) × (t.send_queue.fpdus ≡ s.send_queue.fpdus) = placed_state s placed (eqb opcode OPCODE_READ_RESPONSE) last (length payload) live refl in
    nothing_more s.send_queue.fpdus t.send_queue.fpdus t.ended parts.0 parts.1

untagged_queues : (s : LinkState) (f : Frame) (last : Bool) (opcode w queue msn offset : ℕ) (payload : List ℕ) → s.ended ≡ None →
    read_request_of (Untagged last opcode w queue msn offset payload) ≡ None → QueuesFpdu s (with_segment_by f (Untagged last opcode w queue msn offset payload) None s)
unfolding with_effect
untagged_queues s f last opcode w queue msn offset payload live asks =
    nothing_more s.send_queue.fpdus (with_read_request (read_request_of (Untagged last opcode w queue msn offset payload)) s.memory s.send_queue).fpdus s.ended live (ap (λ (r : Option ReadRequest). (with_read_request r s.memory s.send_queue).fpdus) asks)

-- what a segment asks for, or that it asks for nothing
segment_queues : (s : LinkState) (frame : List ℕ) (segment : Segment) (e : Option End) → s.ended ≡ None → next_segment s frame ≡ Ok segment → segment_end s (next_frame s frame) segment ≡ e →
    IsAllowedRead s Fpdu frame ⊎ QueuesLast s (with_segment_by (next_frame s frame) segment e s)
unfolding with_end
segment_queues s frame segment (Some end) live whole is = inr (inl refl)
segment_queues s frame (Tagged last opcode stag to payload) None live whole is = inr (inl (tagged_queues s (next_frame s frame) last opcode stag to payload live))
segment_queues s frame (Untagged last opcode w queue msn offset payload) None live whole is =
    by (read_request_of (Untagged last opcode w queue msn offset payload)) refl
  where
    by : (r : Option ReadRequest) → read_request_of (Untagged last opcode w queue msn offset payload) ≡ r →
        IsAllowedRead s Fpdu frame ⊎ QueuesLast s (with_segment_by (next_frame s frame) (Untagged last opcode w queue msn offset payload) None s)
    by None asks = inr (inl (untagged_queues s (next_frame s frame) last opcode w queue msn offset payload live asks))
    by (Some request) asks = inl (record { segment = Untagged last opcode w queue msn offset payload; request = request; fpdu = refl; whole = whole; asks = asks; lives = is })

fpdu_queues : (s : LinkState) (frame : List ℕ) (r : Result Segment ℕ) → s.ended ≡ None → next_segment s frame ≡ r →
    IsAllowedRead s Fpdu frame ⊎ QueuesLast s (with_fpdu (next_frame s frame) r s)
unfolding with_fpdu with_end
fpdu_queues s frame (Ok segment) live whole = segment_queues s frame segment (segment_end s (next_frame s frame) segment) live whole refl
fpdu_queues s frame (Err reason) live whole = inr (inl refl)

other_sizes_queue : (s : LinkState) (f : Frame) → QueuesLast s (with_other_sizes f s)
unfolding final_output
other_sizes_queue s f = inr (refl, refl)

pub nothing_else_is_read : NothingElseIsRead
nothing_else_is_read s (HelloFrom side) frame live =
    inr (hello_from (QueuesLast s) side (next_frame s frame) (hello_of side frame) s (inl (hello_queues s (next_frame s frame) (hello_of side frame) live)) (other_sizes_queue s (next_frame s frame)))
nothing_else_is_read s Fpdu frame live = fpdu_queues s frame (next_segment s frame) live refl

-- ---- A frame that asks for nothing queues nothing

placed_queue : (s t : LinkState) (b last : Bool) (n : ℕ) → t.send_queue ≡ s.send_queue → (cond b (with_read_response last n t) t).send_queue ≡ s.send_queue
placed_queue s t true last n same = same
placed_queue s t false last n same = same

quiet : (s : LinkState) (f : Frame) (segment : Segment) → read_request_of segment ≡ None → (with_segment_by f segment None s).send_queue ≡ s.send_queue
unfolding with_effect
quiet s f (Tagged last opcode stag to payload) asks =
    placed_queue s (record s { memory = after_place s.memory stag to payload }) (eqb opcode OPCODE_READ_RESPONSE) last (length payload) refl
quiet s f (Untagged last opcode w queue msn offset payload) asks = ap (λ (r : Option ReadRequest). with_read_request r s.memory s.send_queue) asks

pub other_frames_queue_nothing : OtherFramesQueueNothing
other_frames_queue_nothing s frame segment whole asks lives =
    ap (λ (t : LinkState). t.send_queue) (taken s frame segment whole lives) ∙ quiet s (next_frame s frame) segment asks
