-- What a segment makes of a side, and its counts.
use Rattle.std.proofs.Common.{◌≡◌, ℕ, ◌+◌, ◌-◌, ◌≤◌, Bool, true, false, List, [], ◌∷◌, ◌++◌, length, take, replicate, Option, Some, None, inl, inr, refl, sym, subst, ◌∙◌, arith, length-append}
use Rattle.std.specs.Prelude.{◌⊎◌}
use Rattle.std.proofs.lemmas.List.{length-take, length-replicate}
use Rattle.nr_wire.specs.Constants.{OPCODE_READ_REQUEST, OPCODE_SEND, OPCODE_SEND_INVALIDATE}
use Rattle.nr_wire.specs.Segment.Segment.{Untagged}
use Rattle.nr_link.specs.declared.agreement.SideTerms.{SideTerms}
use Rattle.nr_link.specs.ReceiveState.{ReadRequest, begun_bytes, is_send, read_request_in}
use Rattle.nr_regions.specs.RegisteredMemory.{bytes_at}
use Rattle.nr_endpoint.specs.SendQueue.{SendQueue, with_response}
use Rattle.nr_link.specs.KeptSends.{kept_within, begun_within}
use Rattle.nr_endpoint.specs.ReceiveQueue.{ReceiveQueue, named_by, send_segment, with_segment}
use Rattle.nr_endpoint.specs.ReceiveQueue.DeliveredEvent.{MessageReceived}
use Rattle.nr_endpoint.specs.LinkState.{LinkState}
use Rattle.nr_endpoint.specs.Judging.{with_effect, next_frame, after_frame, fetch_access}
use Rattle.nr_endpoint.specs.Counted.{IsCounted}
use Rattle.nr_endpoint.proofs.FaultList.{which_send}

kept_len : (n : ℕ) (bytes : List ℕ) → length (kept_within n bytes) ≡ length bytes
kept_len n bytes = omega (arith, length-append (take n bytes) (replicate (length bytes - n) 0), length-take n bytes, length-replicate {A = ℕ} (length bytes - n) 0)

pub counted_send : (terms : SideTerms) (greeted : Bool) (q : ReceiveQueue) (named : Option ℕ) (last : Bool) (payload : List ℕ) (place most n : ℕ) → IsCounted terms greeted q place most → length payload + 1 ≤ n →
    IsCounted terms greeted (with_segment (send_segment named last payload) q) (place + n) most
unfolding with_segment
counted_send terms greeted q None true payload place most n counted some = record {
  bytes = omega (arith, counted.bytes, some);
  waiting = omega (arith, counted.waiting, some, length-append q.deliveries (MessageReceived (q.received.sends + 1) None (begun_bytes q.received.begun ++ payload) ∷ []));
  greeted = λ h. omega (arith, counted.greeted h);
  receive = counted.receive;
  fits = counted.fits;
}
counted_send terms greeted q None false payload place most n counted some = record {
  bytes = omega (arith, counted.bytes, some, kept_len q.receive_length (begun_bytes q.received.begun ++ payload), length-append (begun_bytes q.received.begun) payload);
  waiting = omega (arith, counted.waiting, length-append q.deliveries []);
  greeted = λ h. omega (arith, counted.greeted h);
  receive = counted.receive;
  fits = counted.fits;
}
counted_send terms greeted q (Some stag) true payload place most n counted some = record {
  bytes = omega (arith, counted.bytes, some);
  waiting = omega (arith, counted.waiting, some, length-append q.deliveries (MessageReceived (q.received.sends + 1) (Some stag) (begun_bytes q.received.begun ++ payload) ∷ []));
  greeted = λ h. omega (arith, counted.greeted h);
  receive = counted.receive;
  fits = counted.fits;
}
counted_send terms greeted q (Some stag) false payload place most n counted some = record {
  bytes = omega (arith, counted.bytes, some, kept_len q.receive_length (begun_bytes q.received.begun ++ payload), length-append (begun_bytes q.received.begun) payload);
  waiting = omega (arith, counted.waiting, length-append q.deliveries []);
  greeted = λ h. omega (arith, counted.greeted h);
  receive = counted.receive;
  fits = counted.fits;
}

kept_same : (n : ℕ) (begun : Option (List ℕ)) → length (begun_bytes (begun_within n begun)) ≡ length (begun_bytes begun)
kept_same n None = refl
kept_same n (Some bytes) = kept_len n bytes

pub counted_request : (terms : SideTerms) (greeted : Bool) (q : ReceiveQueue) (place most n : ℕ) → IsCounted terms greeted q place most → 1 ≤ n →
    IsCounted terms greeted (with_segment (Untagged true OPCODE_READ_REQUEST 0 0 0 0 []) q) (place + n) most
unfolding with_segment
counted_request terms greeted q place most n counted some = record {
  bytes = omega (arith, counted.bytes, some, kept_same q.receive_length q.received.begun);
  waiting = omega (arith, counted.waiting, length-append q.deliveries []);
  greeted = λ h. omega (arith, counted.greeted h);
  receive = counted.receive;
  fits = counted.fits;
}

pub took_send : (s : LinkState) (q : ReceiveQueue) (named : Option ℕ) (last : Bool) (payload frame : List ℕ) → q ≡ with_segment (send_segment named last payload) s.receive_queue →
    record { side = s.side; has_hello = s.has_hello; last = s.place; place = s.place + length frame; ended = s.ended; receive_queue = q; reads = s.reads; memory = s.memory; send_queue = s.send_queue; terms = s.terms; private = s.private; agreed = s.agreed; message_max = s.message_max; client = s.client; earlier = s.earlier }
    ≡ after_frame (next_frame s frame) (with_effect (send_segment named last payload) s)
unfolding with_effect
took_send s q None last payload frame is =
    λ i. record { side = s.side; has_hello = s.has_hello; last = s.place; place = s.place + length frame; ended = s.ended; receive_queue = is i; reads = s.reads; memory = s.memory; send_queue = s.send_queue; terms = s.terms; private = s.private; agreed = s.agreed; message_max = s.message_max; client = s.client; earlier = s.earlier }
took_send s q (Some stag) last payload frame is =
    λ i. record { side = s.side; has_hello = s.has_hello; last = s.place; place = s.place + length frame; ended = s.ended; receive_queue = is i; reads = s.reads; memory = s.memory; send_queue = s.send_queue; terms = s.terms; private = s.private; agreed = s.agreed; message_max = s.message_max; client = s.client; earlier = s.earlier }

pub took_request : (s : LinkState) (q : ReceiveQueue) (sends : SendQueue) (r : ReadRequest) (bytes payload frame : List ℕ) → q ≡ with_segment (Untagged true OPCODE_READ_REQUEST 0 0 0 0 []) s.receive_queue →
    sends ≡ with_response r.sink r.sink_to bytes s.send_queue → r ≡ read_request_in payload → bytes ≡ bytes_at s.memory (fetch_access r) →
    record { side = s.side; has_hello = s.has_hello; last = s.place; place = s.place + length frame; ended = s.ended; receive_queue = q; reads = s.reads; memory = s.memory; send_queue = sends; terms = s.terms; private = s.private; agreed = s.agreed; message_max = s.message_max; client = s.client; earlier = s.earlier }
    ≡ after_frame (next_frame s frame) (with_effect (Untagged true OPCODE_READ_REQUEST 0 0 0 0 payload) s)
unfolding with_effect with_segment
took_request s q sends r bytes payload frame is queued request fetched =
    (λ i. record { side = s.side; has_hello = s.has_hello; last = s.place; place = s.place + length frame; ended = s.ended; receive_queue = is i; reads = s.reads; memory = s.memory; send_queue = queued i; terms = s.terms; private = s.private; agreed = s.agreed; message_max = s.message_max; client = s.client; earlier = s.earlier })
    ∙ (λ i. record {
      side = s.side;
      has_hello = s.has_hello;
      last = s.place;
      place = s.place + length frame;
      ended = s.ended;
      receive_queue = with_segment (Untagged true OPCODE_READ_REQUEST 0 0 0 0 []) s.receive_queue;
      reads = s.reads;
      memory = s.memory;
      send_queue = with_response r.sink r.sink_to (fetched i) s.send_queue;
      terms = s.terms;
      private = s.private;
      agreed = s.agreed;
      message_max = s.message_max;
      client = s.client;
      earlier = s.earlier;
    })
    ∙ (λ i. record {
      side = s.side;
      has_hello = s.has_hello;
      last = s.place;
      place = s.place + length frame;
      ended = s.ended;
      receive_queue = with_segment (Untagged true OPCODE_READ_REQUEST 0 0 0 0 []) s.receive_queue;
      reads = s.reads;
      memory = s.memory;
      send_queue = with_response (request i).sink (request i).sink_to (bytes_at s.memory (fetch_access (request i))) s.send_queue;
      terms = s.terms;
      private = s.private;
      agreed = s.agreed;
      message_max = s.message_max;
      client = s.client;
      earlier = s.earlier;
    })

-- of an untagged segment, the opcode, the L bit and the payload count
pub same_request : (s : LinkState) (last : Bool) (w queue msn offset : ℕ) (payload : List ℕ) →
    with_effect (Untagged true OPCODE_READ_REQUEST 0 0 0 0 payload) s ≡ with_effect (Untagged last OPCODE_READ_REQUEST w queue msn offset payload) s
unfolding with_effect with_segment
same_request s last w queue msn offset payload = refl

pub same_send : (s : LinkState) (last : Bool) (opcode w queue msn offset : ℕ) (payload : List ℕ) → is_send opcode ≡ true →
    with_effect (send_segment (named_by opcode w) last payload) s ≡ with_effect (Untagged last opcode w queue msn offset payload) s
unfolding with_effect with_segment
same_send s last opcode w queue msn offset payload is = by (which_send opcode is)
  where
    by : (opcode ≡ OPCODE_SEND) ⊎ (opcode ≡ OPCODE_SEND_INVALIDATE) → with_effect (send_segment (named_by opcode w) last payload) s ≡ with_effect (Untagged last opcode w queue msn offset payload) s
    by (inl same) = subst (λ (o : ℕ). with_effect (send_segment (named_by o w) last payload) s ≡ with_effect (Untagged last o w queue msn offset payload) s) (sym same) refl
    by (inr same) = subst (λ (o : ℕ). with_effect (send_segment (named_by o w) last payload) s ≡ with_effect (Untagged last o w queue msn offset payload) s) (sym same) refl
