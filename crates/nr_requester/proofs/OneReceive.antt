-- The one receive of a requester, segment by segment.
use Rattle.std.proofs.Common.{◌≡◌, ℕ, ◌+◌, ◌-◌, ◌≤◌, Bool, true, false, cond, not, ◌&&◌, ◌||◌, eqb, List, [], ◌∷◌, ◌++◌, length, drop, Option, None, Some, refl, sym, ap, ◌∙◌, arith}
use Rattle.std.proofs.lemmas.Bool.{eqb-true}
use Rattle.nr_wire.specs.Constants.{OPCODE_SEND, OPCODE_SEND_INVALIDATE, OPCODE_READ_REQUEST}
use Rattle.nr_wire.specs.Segment.{Segment}
use Rattle.nr_wire.specs.Segment.Segment.{Tagged, Untagged}
use Rattle.nr_link.specs.KeptSends.{begun_within, received_within}
use Rattle.nr_link.specs.ReceiveState.{ReceiveState, is_send, begun_bytes, received_after, send_continued, message_completed, stag_invalidated, read_request_in, read_request_of}
use Rattle.nr_link.specs.SegmentFaults.{is_begun}
use Rattle.nr_link.proofs.BegunSends.{kept_alike, messages_alike}
use Rattle.nr_endpoint.specs.ReceiveQueue.{ReceiveQueue, DeliveredEvent, sends_begun, takes_receive, message_deliveries, with_segment, delivered, posted, lent_for}
use Rattle.nr_endpoint.specs.ReceiveQueue.DeliveredEvent.{MessageReceived}

begun_is : (len : ℕ) (o : Option (List ℕ)) → is_begun (begun_within len o) ≡ is_begun o
begun_is len None = refl
begun_is len (Some b) = refl

-- what is kept after a segment is that of what was received after it
pub received_next : (len : ℕ) (q : ReceiveQueue) (h : ReceiveState) (segment : Segment) → q.receive_length ≡ len → q.received ≡ received_within len h → received_within q.receive_length (received_after q.received segment) ≡ received_within len (received_after h segment)
received_next len q h segment length_is is = (λ i. received_within (length_is i) (received_after (is i) segment)) ∙ kept_alike len h segment

-- ---- A segment that makes no message complete

one_begun : (len free : ℕ) (b : Option (List ℕ)) → free + sends_begun b ≡ 1 → cond (not (is_begun (begun_within len b))) (free - 1) free + 1 ≡ 1
one_begun len free None e = omega (arith, e)
one_begun len free (Some x) e = e

pub receive_part : (len : ℕ) (h : ReceiveState) (free : ℕ) (segment : Segment) → free + sends_begun h.begun ≡ 1 → message_completed h segment ≡ None →
    cond (takes_receive (received_within len h) segment) (free - 1) free + sends_begun (received_after h segment).begun ≡ 1
receive_part len h free (Tagged last opcode stag to payload) e none = e
receive_part len h free (Untagged last opcode w queue msn offset payload) e none = by (is_send opcode) last (eqb opcode OPCODE_READ_REQUEST) none
  where
    by : (b l r : Bool) → cond (b && l) (Some (begun_bytes h.begun ++ payload)) None ≡ None →
        cond (b && not (is_begun (begun_within len h.begun))) (free - 1) free
        + sends_begun (cond b (send_continued h l payload) (cond r (record { sends = h.sends; begun = h.begun; requests = h.requests + 1 }) h)).begun ≡ 1
    by true true r is = absurd cc
    by true false r is = one_begun len free h.begun e
    by false l true is = e
    by false l false is = e

message_none : (len : ℕ) (h : ReceiveState) (segment : Segment) → message_completed h segment ≡ None → message_completed (received_within len h) segment ≡ None
message_none len h (Tagged last opcode stag to payload) none = refl
message_none len h (Untagged last opcode w queue msn offset payload) none = by (is_send opcode && last) none
  where
    by : (b : Bool) → cond b (Some (begun_bytes h.begun ++ payload)) None ≡ None → cond b (Some (begun_bytes (begun_within len h.begun) ++ payload)) None ≡ None
    by true is = absurd cc
    by false is = refl

pub none_told : (len : ℕ) (h : ReceiveState) (number : ℕ) (deliveries : List DeliveredEvent) (segment : Segment) → deliveries ≡ [] → message_completed h segment ≡ None → deliveries ++ message_deliveries number (stag_invalidated segment) (message_completed (received_within len h) segment) ≡ []
none_told len h number deliveries segment none is = λ i. none i ++ message_deliveries number (stag_invalidated segment) (message_none len h segment is i)

-- ---- A message

pub record MessageAt (len : ℕ) (h : ReceiveState) (segment : Segment) (message : List ℕ) : Type 0 where
  pub whole : message_completed (received_within len h) segment ≡ Some message
  pub no_request : read_request_of segment ≡ None
  pub begun : (received_after h segment).begun ≡ None
  pub takes : takes_receive (received_within len h) segment ≡ not (is_begun h.begun)

-- one that is no longer than its receive is delivered as it was received
pub message_at : (len : ℕ) (h : ReceiveState) (segment : Segment) (message : List ℕ) → message_completed h segment ≡ Some message → length message ≤ len → MessageAt len h segment message
message_at len h (Tagged last opcode stag to payload) message is le = absurd cc
message_at len h (Untagged last opcode w queue msn offset payload) message is le = by (is_send opcode) refl last refl
  where
    -- a Send of either kind is no Read Request
    other : (a b : Bool) → eqb opcode OPCODE_SEND ≡ a → eqb opcode OPCODE_SEND_INVALIDATE ≡ b → (a || b) ≡ true → eqb opcode OPCODE_READ_REQUEST ≡ false
    other true b e f t = (let three : opcode ≡ 3 = eqb-true opcode 3 e in ap (λ (n : ℕ). eqb n OPCODE_READ_REQUEST) three)
    other false true e f t = (let four : opcode ≡ 4 = eqb-true opcode 4 f in ap (λ (n : ℕ). eqb n OPCODE_READ_REQUEST) four)
    other false false e f t = absurd cc

    by : (b : Bool) → is_send opcode ≡ b → (l : Bool) → last ≡ l → MessageAt len h (Untagged last opcode w queue msn offset payload) message
    by true send true whole = record {
      whole = messages_alike len h (Untagged last opcode w queue msn offset payload) message is le;
      no_request = ap (λ (b : Bool). cond b (Some (read_request_in payload)) None) (other (eqb opcode OPCODE_SEND) (eqb opcode OPCODE_SEND_INVALIDATE) refl refl send);
      begun = λ i. (cond (send i) (send_continued h (whole i) payload) (cond (eqb opcode OPCODE_READ_REQUEST) (record { sends = h.sends; begun = h.begun; requests = h.requests + 1 }) h)).begun;
      takes = (λ i. send i && not (begun_is len h.begun i));
    }
    by true send false whole = absurd (let wrong : None ≡ Some message = (λ i. cond (sym send i && sym whole i) (Some (begun_bytes h.begun ++ payload)) None) ∙ is in cc)
    by false send l whole = absurd (let wrong : None ≡ Some message = (λ i. cond (sym send i && last) (Some (begun_bytes h.begun ++ payload)) None) ∙ is in cc)

freed : (free : ℕ) (b : Option (List ℕ)) → free + sends_begun b ≡ 1 → cond (not (is_begun b)) (free - 1) free + 1 ≡ 1
freed free None e = omega (arith, e)
freed free (Some x) e = e

unfoldable pub after_message : ReceiveQueue → Segment → ReceiveQueue
after_message q segment = posted (delivered (with_segment segment q))

-- once it was delivered and its receive was posted again, the receive is free
pub record IsFreed (len : ℕ) (q : ReceiveQueue) (h : ReceiveState) (segment : Segment) : Type 0 where
  pub receive_length : (after_message q segment).receive_length ≡ len
  pub received : (after_message q segment).received ≡ received_within len (received_after h segment)
  pub receive : (after_message q segment).free + sends_begun (received_after h segment).begun ≡ 1
  pub none_lent : (after_message q segment).lent ≡ 0
  pub none_waits : (after_message q segment).deliveries ≡ []

pub is_freed : (len : ℕ) (q : ReceiveQueue) (h : ReceiveState) (segment : Segment) (message : List ℕ) → q.receive_length ≡ len → q.received ≡ received_within len h → q.free + sends_begun h.begun ≡ 1 → q.lent ≡ 0 → q.deliveries ≡ [] → MessageAt len h segment message → IsFreed len q h segment
unfolding after_message with_segment
is_freed len q h segment message length_is received free lent none m =
    let takes : takes_receive q.received segment ≡ not (is_begun h.begun) = ap (λ (r : ReceiveState). takes_receive r segment) received ∙ m.takes in
    let told_is : q.deliveries ++ message_deliveries (q.received.sends + 1) (stag_invalidated segment) (message_completed q.received segment) ≡ MessageReceived (q.received.sends + 1) (stag_invalidated segment) message ∷ [] =
    (λ i. none i ++ message_deliveries (q.received.sends + 1) (stag_invalidated segment) (message_completed (received i) segment)) ∙ ap (message_deliveries (q.received.sends + 1) (stag_invalidated segment)) m.whole in
    record {
      receive_length = length_is;
      received = received_next len q h segment length_is received;
      receive =
          (λ i. (cond (takes i) (q.free - 1) q.free + 1) + sends_begun (m.begun i)) ∙ (let one = freed q.free h.begun free in omega (arith, one));
      none_lent = (let one : lent_for (q.deliveries ++ message_deliveries (q.received.sends + 1) (stag_invalidated segment) (message_completed q.received segment)) ≡ 1 = ap lent_for told_is in omega (arith, lent, one));
      none_waits = ap (λ (ns : List DeliveredEvent). drop 1 ns) told_is;
    }
