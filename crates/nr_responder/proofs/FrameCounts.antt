-- What a frame leaves as it is of a side of the link.
use Rattle.std.proofs.Common.{◌≡◌, ℕ, Bool, true, false, cond, eqb, List, Option, Some, None, Result, Ok, Err, refl, ◌∙◌, length}
use Rattle.nr_wire.specs.declared.stream.Awaited.{Awaited}
use Rattle.nr_wire.specs.declared.stream.Awaited.TheVariants.{Hello as HelloFrom, Fpdu}
use Rattle.nr_wire.specs.Hello.{Hello, hello_of}
use Rattle.nr_wire.specs.Segment.{Segment}
use Rattle.nr_wire.specs.Segment.Segment.{Tagged, Untagged}
use Rattle.nr_link.specs.declared.end.End.{End}
use Rattle.nr_link.specs.Frames.{Frame}
use Rattle.nr_link.specs.ReceiveState.{ReadRequest, read_request_of}
use Rattle.nr_regions.specs.RegisteredMemory.{RegisteredMemory, after_place}
use Rattle.nr_endpoint.specs.ReceiveQueue.{with_segment}
use Rattle.nr_endpoint.specs.SendQueue.{SendQueue, with_end}
use Rattle.nr_endpoint.specs.LinkState.{LinkState}
use Rattle.nr_endpoint.specs.Judging.{segment_end, next_frame, next_segment, with_frame, with_fpdu, with_segment_by, with_effect, with_peer_hello, with_read_response, with_read_request}
use Rattle.nr_endpoint.proofs.HellosFrom.{hello_from}
use Rattle.nr_responder.proofs.Responses.{placed_next}

-- a frame leaves the counts of receives, the offsets at which the Sends end, and the next STag
pub record SameCounts (s t : LinkState) : Type 0 where
  pub next : t.memory.next ≡ s.memory.next
  pub lent : t.receive_queue.lent ≡ s.receive_queue.lent
  pub receives : t.receive_queue.receives ≡ s.receive_queue.receives
  pub receive_length : t.receive_queue.receive_length ≡ s.receive_queue.receive_length
  pub ends_are : t.send_queue.send_ends ≡ s.send_queue.send_ends

pub same_if : (b : Bool) (s t u : LinkState) → SameCounts s t → SameCounts s u → SameCounts s (cond b t u)
same_if true s t u a b = a
same_if false s t u a b = b

response_counts : (s : LinkState) (last : Bool) (n : ℕ) → SameCounts s (with_read_response last n s)
response_counts s true n = record { next = refl; lent = refl; receives = refl; receive_length = refl; ends_are = refl }
response_counts s false n = record { next = refl; lent = refl; receives = refl; receive_length = refl; ends_are = refl }

request_ends : (r : Option ReadRequest) (m : RegisteredMemory) (q : SendQueue) → (with_read_request r m q).send_ends ≡ q.send_ends
request_ends None m q = refl
request_ends (Some r) m q = refl

effect_counts : (s : LinkState) (segment : Segment) → SameCounts s (with_effect segment s)
unfolding with_effect with_segment
effect_counts s (Tagged last opcode stag to payload) =
    let in_memory : LinkState = record s { memory = after_place s.memory stag to payload } in
    let r : SameCounts in_memory (with_read_response last (length payload) in_memory) = response_counts in_memory last (length payload) in
    let placed = placed_next s.memory stag to payload in
    same_if (eqb opcode 2) s (with_read_response last (length payload) in_memory) in_memory (record { next = r.next ∙ placed; lent = r.lent; receives = r.receives; receive_length = r.receive_length; ends_are = r.ends_are }) (record { next = placed; lent = refl; receives = refl; receive_length = refl; ends_are = refl })
effect_counts s (Untagged last opcode w queue msn offset payload) = record { next = refl; lent = refl; receives = refl; receive_length = refl; ends_are = request_ends (read_request_of (Untagged last opcode w queue msn offset payload)) s.memory s.send_queue }

segment_counts : (s : LinkState) (f : Frame) (segment : Segment) (e : Option End) → SameCounts s (with_segment_by f segment e s)
unfolding with_end
segment_counts s f segment None = (let c = effect_counts s segment in record { next = c.next; lent = c.lent; receives = c.receives; receive_length = c.receive_length; ends_are = c.ends_are })
segment_counts s f segment (Some end) = record { next = refl; lent = refl; receives = refl; receive_length = refl; ends_are = refl }

fpdu_counts : (s : LinkState) (f : Frame) (r : Result Segment ℕ) → SameCounts s (with_fpdu f r s)
unfolding with_fpdu with_end
fpdu_counts s f (Ok segment) = segment_counts s f segment (segment_end s f segment)
fpdu_counts s f (Err reason) = record { next = refl; lent = refl; receives = refl; receive_length = refl; ends_are = refl }

hello_counts : (s : LinkState) (f : Frame) (r : Result Hello ℕ) → SameCounts s (with_peer_hello f r s)
unfolding with_peer_hello with_end
hello_counts s f (Ok hello) = record { next = refl; lent = refl; receives = refl; receive_length = refl; ends_are = refl }
hello_counts s f (Err reason) = record { next = refl; lent = refl; receives = refl; receive_length = refl; ends_are = refl }

pub frame_counts : (s : LinkState) (a : Awaited) (frame : List ℕ) → SameCounts s (with_frame s a frame)
frame_counts s (HelloFrom side) frame =
    hello_from (SameCounts s) side (next_frame s frame) (hello_of side frame) s (hello_counts s (next_frame s frame) (hello_of side frame))
    (record { next = refl; lent = refl; receives = refl; receive_length = refl; ends_are = refl })
frame_counts s Fpdu frame = fpdu_counts s (next_frame s frame) (next_segment s frame)
