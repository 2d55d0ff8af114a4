-- What a frame leaves of a side that reads nothing: its registrations, and the event that it makes.
use Rattle.std.proofs.Common.{◌≡◌, ℕ, ◌+◌, ◌⊎◌, inl, inr, Bool, true, false, cond, ◌&&◌, eqb, List, [], ◌∷◌, ◌++◌, length, take, Option, None, Some, Result, Ok, Err, refl, sym, ap, subst, ◌∙◌, arith}
use Rattle.std.specs.Prelude.{is_some}
use Rattle.std.proofs.lemmas.Bool.{eqb-true}
use Rattle.nr_wire.specs.Constants.{OPCODE_READ_REQUEST}
use Rattle.nr_wire.specs.declared.hello.Side.{Side}
use Rattle.nr_wire.specs.declared.hello.Side.TheVariants.{Initiator, Responder}
use Rattle.nr_wire.specs.declared.stream.Awaited.{Awaited}
use Rattle.nr_wire.specs.declared.stream.Awaited.TheVariants.{Fpdu, Hello as HelloFrom}
use Rattle.nr_wire.specs.Feeding.{feeding_after_step}
use Rattle.nr_wire.specs.Hello.{Hello, hello_of}
use Rattle.nr_wire.specs.Segment.{Segment}
use Rattle.nr_wire.specs.Segment.Segment.{Tagged, Untagged}
use Rattle.nr_wire.specs.Stream.{is_whole, frame_len}
use Rattle.nr_wire.proofs.Feedings.{feeding_after_step-whole, feeding_after_step-partial}
use Rattle.nr_regions.specs.RegisteredMemory.{RegisteredMemory, Claim, IsHeld, after_place, AreHeldFrom}
use Rattle.nr_regions.proofs.Holding.{held_after_place, next_after_place}
use Rattle.nr_link.specs.declared.end.End.{End}
use Rattle.nr_link.specs.Frames.{Frame}
use Rattle.nr_link.specs.Ending.{kind_of}
use Rattle.nr_link.specs.ReceiveState.{ReceiveState, ReadRequest, is_send, begun_bytes, message_completed, stag_invalidated, read_request_in, read_request_of}
use Rattle.nr_endpoint.specs.LinkState.{LinkState, LinkSide, has_ended}
use Rattle.nr_endpoint.specs.ReceiveQueue.{message_deliveries, with_segment as received_segment}
use Rattle.nr_endpoint.specs.ReceiveQueue.DeliveredEvent.{MessageReceived}
use Rattle.nr_endpoint.specs.Judging.{with_frame, with_peer_hello, with_hello_from, with_other_sizes, has_other_sizes, with_fpdu, with_segment_by, with_effect, with_end_of, with_read_response, with_read_request, after_frame, segment_end, next_frame, next_segment}
use Rattle.nr_endpoint.specs.Calls.{after_call}
use Rattle.nr_endpoint.specs.Calls.Call.{FeedOne}
use Rattle.nr_requester.proofs.FrameSides.{TaggedFine, tagged_fine}

-- a message that a frame delivered: nothing else of the side changed that its owner knows of
pub record Delivers (s t : LinkState) : Type 0 where
  pub number : ℕ
  pub named : Option ℕ
  pub message : List ℕ
  pub is : t.receive_queue.deliveries ≡ MessageReceived number named message ∷ []
  pub memory : t.memory ≡ s.memory
  pub queue : t.send_queue ≡ s.send_queue
  pub hello : t.has_hello ≡ s.has_hello
  pub agreed : t.agreed ≡ s.agreed
  pub terms : t.terms ≡ s.terms
  pub earlier : t.earlier ≡ s.earlier

pub record Leaves (s t : LinkState) : Type 0 where
  pub held : (c : Claim) → IsHeld s.memory c → IsHeld t.memory c
  pub next : t.memory.next ≡ s.memory.next
  pub lent : t.receive_queue.lent ≡ s.receive_queue.lent
  pub reads : t.reads ≡ []
  pub ended : is_some t.ended ≡ true → t.receive_queue.deliveries ≡ []
  pub waits : t.ended ≡ None → (t.receive_queue.deliveries ≡ []) ⊎ Delivers s t

-- a side that ends
end_leaves : (s : LinkState) (end : End) → s.receive_queue.deliveries ≡ [] → s.reads ≡ [] → Leaves s (with_end_of end s)
end_leaves s end quiet none = record { held = λ c h. h; next = refl; lent = refl; reads = none; ended = λ e. quiet; waits = λ e. inl quiet }

-- a segment that completes a message is no Read Request
no_request : (h : ReceiveState) (last : Bool) (opcode w queue msn offset : ℕ) (payload message : List ℕ) → message_completed h (Untagged last opcode w queue msn offset payload) ≡ Some message → read_request_of (Untagged last opcode w queue msn offset payload) ≡ None
no_request h last opcode w queue msn offset payload message is = by (eqb opcode OPCODE_READ_REQUEST) refl
  where
    by : (b : Bool) → eqb opcode OPCODE_READ_REQUEST ≡ b → cond b (Some (read_request_in payload)) None ≡ None
    by false e = refl
    by true e =
        let one : opcode ≡ OPCODE_READ_REQUEST = eqb-true opcode OPCODE_READ_REQUEST e in
        absurd (let wrong : None ≡ Some message = ap (λ (n : ℕ). cond (is_send n && last) (Some (begun_bytes h.begun ++ payload)) None) (sym one) ∙ is in cc)

untagged_waits : (s : LinkState) (f : Frame) (last : Bool) (opcode w queue msn offset : ℕ) (payload : List ℕ) → s.receive_queue.deliveries ≡ [] →
    ((after_frame f (with_effect (Untagged last opcode w queue msn offset payload) s)).receive_queue.deliveries ≡ []) ⊎ Delivers s (after_frame f (with_effect (Untagged last opcode w queue msn offset payload) s))
unfolding with_effect received_segment
untagged_waits s f last opcode w queue msn offset payload quiet = by (message_completed s.receive_queue.received segment) refl
  where
    segment : Segment
    segment = Untagged last opcode w queue msn offset payload

    number : ℕ
    number = s.receive_queue.received.sends + 1

    none_asked : (q : Option ReadRequest) → q ≡ None → with_read_request q s.memory s.send_queue ≡ s.send_queue
    none_asked None e = refl
    none_asked (Some q) e = absurd cc

    by : (o : Option (List ℕ)) → message_completed s.receive_queue.received segment ≡ o →
        ((after_frame f (with_effect segment s)).receive_queue.deliveries ≡ []) ⊎ Delivers s (after_frame f (with_effect segment s))
    by None e = inl (λ i. quiet i ++ message_deliveries number (stag_invalidated segment) (e i))
    by (Some message) e = inr (record {
      number = number;
      named = stag_invalidated segment;
      message = message;
      is = λ i. quiet i ++ message_deliveries number (stag_invalidated segment) (e i);
      memory = refl;
      queue = none_asked (read_request_of segment) (no_request s.receive_queue.received last opcode w queue msn offset payload message e);
      hello = refl;
      agreed = refl;
      terms = refl;
      earlier = refl;
    })

untagged_leaves : (s : LinkState) (f : Frame) (last : Bool) (opcode w queue msn offset : ℕ) (payload : List ℕ) → s.ended ≡ None → s.receive_queue.deliveries ≡ [] → s.reads ≡ [] → Leaves s (after_frame f (with_effect (Untagged last opcode w queue msn offset payload) s))
unfolding with_effect received_segment
untagged_leaves s f last opcode w queue msn offset payload lives quiet none = record {
  held = λ c h. h;
  next = refl;
  lent = refl;
  reads = none;
  ended = λ e. absurd (let wrong : false ≡ true = ap (λ (x : Option End). is_some x) (sym lives) ∙ e in cc);
  waits = λ e. untagged_waits s f last opcode w queue msn offset payload quiet;
}

tagged_leaves : (s : LinkState) (f : Frame) (last : Bool) (opcode stag to : ℕ) (payload : List ℕ) → s.ended ≡ None → s.receive_queue.deliveries ≡ [] → s.reads ≡ [] → TaggedFine s opcode stag to payload → Leaves s (after_frame f (with_effect (Tagged last opcode stag to payload) s))
unfolding with_effect
tagged_leaves s f last opcode stag to payload lives quiet none fine =
    let placed : LinkState = record s { memory = after_place s.memory stag to payload } in
    subst (λ (b : Bool). Leaves s (after_frame f (cond b (with_read_response last (length payload) placed) placed))) (sym fine.is_write) (record {
      held = λ c h. held_after_place s.memory c (kind_of opcode) stag to payload fine.allowed h;
      next = next_after_place s.memory stag to payload;
      lent = refl;
      reads = none;
      ended = λ e. absurd (let wrong : false ≡ true = ap (λ (x : Option End). is_some x) (sym lives) ∙ e in cc);
      waits = λ e. inl quiet;
    })

by_end : (s : LinkState) (f : Frame) (segment : Segment) (e : Option End) → segment_end s f segment ≡ e → s.ended ≡ None → s.receive_queue.deliveries ≡ [] → s.reads ≡ [] → Leaves s (with_segment_by f segment e s)
by_end s f segment (Some end) is lives quiet none = end_leaves s end quiet none
by_end s f (Tagged last opcode stag to payload) None is lives quiet none = tagged_leaves s f last opcode stag to payload lives quiet none (tagged_fine s f last opcode stag to payload none is)
by_end s f (Untagged last opcode w queue msn offset payload) None is lives quiet none = untagged_leaves s f last opcode w queue msn offset payload lives quiet none

by_segment : (s : LinkState) (f : Frame) (r : Result Segment ℕ) → s.ended ≡ None → s.receive_queue.deliveries ≡ [] → s.reads ≡ [] → Leaves s (with_fpdu f r s)
unfolding with_fpdu
by_segment s f (Ok segment) lives quiet none = by_end s f segment (segment_end s f segment) refl lives quiet none
by_segment s f (Err reason) lives quiet none = end_leaves s _ quiet none

by_hello : (s : LinkState) (f : Frame) (r : Result Hello ℕ) → s.ended ≡ None → s.receive_queue.deliveries ≡ [] → s.reads ≡ [] → Leaves s (with_peer_hello f r s)
unfolding with_peer_hello
by_hello s f (Ok hello) lives quiet none = record { held = λ c h. h; next = refl; lent = refl; reads = none; ended = λ e. quiet; waits = λ e. inl quiet }
by_hello s f (Err reason) lives quiet none = end_leaves s _ quiet none

-- it is refused if other lengths are agreed than before
by_sizes : (s : LinkState) (f : Frame) (hello : Hello) (b : Bool) → s.ended ≡ None → s.receive_queue.deliveries ≡ [] → s.reads ≡ [] → Leaves s (cond b (with_other_sizes f s) (with_peer_hello f (Ok hello) s))
by_sizes s f hello true lives quiet none = record { held = λ c h. h; next = refl; lent = refl; reads = none; ended = λ e. quiet; waits = λ e. inl quiet }
by_sizes s f hello false lives quiet none = by_hello s f (Ok hello) lives quiet none

by_hello_from : (side : Side) (s : LinkState) (f : Frame) (r : Result Hello ℕ) → s.ended ≡ None → s.receive_queue.deliveries ≡ [] → s.reads ≡ [] → Leaves s (with_hello_from side f r s)
by_hello_from Initiator s f r lives quiet none = by_hello s f r lives quiet none
by_hello_from Responder s f (Err reason) lives quiet none = by_hello s f (Err reason) lives quiet none
by_hello_from Responder s f (Ok hello) lives quiet none = by_sizes s f hello (has_other_sizes Responder s hello.private) lives quiet none

pub frame_leaves : (s : LinkState) (a : Awaited) (frame : List ℕ) → s.ended ≡ None → s.receive_queue.deliveries ≡ [] → s.reads ≡ [] → Leaves s (with_frame s a frame)
frame_leaves s (HelloFrom side) frame lives quiet none = by_hello_from side s (next_frame s frame) (hello_of side frame) lives quiet none
frame_leaves s Fpdu frame lives quiet none = by_segment s (next_frame s frame) (next_segment s frame) lives quiet none

same_leaves : (s : LinkState) → s.receive_queue.deliveries ≡ [] → s.reads ≡ [] → Leaves s s
same_leaves s quiet none = record { held = λ c h. h; next = refl; lent = refl; reads = none; ended = λ e. quiet; waits = λ e. inl quiet }

-- after one step on a piece
pub record StepLeaves (before : LinkSide) (piece : List ℕ) (after : LinkSide) : Type 0 where
  pub leaves : Leaves before.state after.state
  pub rest : (after.state.receive_queue.deliveries ≡ []) ⊎ ((after.rest ≡ []) × (is_whole before.awaited (before.rest ++ piece) ≡ true))

pub step_leaves : (link : LinkSide) (piece : List ℕ) → link.state.ended ≡ None → link.state.receive_queue.deliveries ≡ [] → link.state.reads ≡ [] → StepLeaves link piece (after_call link (FeedOne piece))
unfolding after_call
step_leaves link piece lives quiet none = by (is_whole link.awaited (link.rest ++ piece)) refl
  where
    going : has_ended link.state ≡ false
    going = ap (λ (x : Option End). is_some x) lives

    by : (w : Bool) → is_whole link.awaited (link.rest ++ piece) ≡ w → StepLeaves link piece (feeding_after_step has_ended with_frame link piece)
    by true e = subst (λ (l : LinkSide). StepLeaves link piece l) (sym (feeding_after_step-whole has_ended with_frame link piece going e))
        (record { leaves = frame_leaves link.state link.awaited (take (frame_len link.awaited (link.rest ++ piece)) (link.rest ++ piece)) lives quiet none; rest = inr (refl, e) })
    by false e = subst (λ (l : LinkSide). StepLeaves link piece l) (sym (feeding_after_step-partial has_ended with_frame link piece going e)) (record { leaves = same_leaves link.state quiet none; rest = inl quiet })

-- what is held stays held
pub held_still : (m n : RegisteredMemory) (low : ℕ) (cs : List Claim) → ((c : Claim) → IsHeld m c → IsHeld n c) → n.next ≡ m.next → AreHeldFrom m low cs → AreHeldFrom n low cs
held_still m n low [] keeps next h = omega (arith, next, h)
held_still m n low (c ∷ cs) keeps next h = (h.0, (keeps c h.1.0, held_still m n (c.stag + 1) cs keeps next h.1.1))
