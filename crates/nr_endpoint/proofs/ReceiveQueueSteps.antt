-- A receive queue after one more segment, and after an event was delivered.
use Rattle.std.proofs.Common.{◌≡◌, ℕ, ◌+◌, ◌-◌, Bool, true, false, cond, not, if◌then◌else◌, List, [], ◌∷◌, ◌++◌, drop, Option, None, Some, refl, sym, ap, arith}
use Rattle.std.proofs.lemmas.List.{append-nil}
use Rattle.nr_wire.specs.Segment.Segment.{Untagged}
use Rattle.nr_wire.specs.Constants.{OPCODE_SEND, OPCODE_READ_REQUEST}
use Rattle.nr_link.specs.KeptSends.{begun_within}
use Rattle.nr_link.specs.ReceiveState.{begun_bytes}
use Rattle.nr_link.specs.SegmentFaults.{is_begun}
use Rattle.nr_endpoint.specs.ReceiveQueue.{DeliveredEvent, ReceiveQueue, send_segment, with_segment, with_read_done, delivered, lent_for}
use Rattle.nr_endpoint.specs.ReceiveQueue.DeliveredEvent.{MessageReceived, ReadDone}

pub with_request : (last : Bool) (w queue msn offset : ℕ) (payload : List ℕ) (q : ReceiveQueue) → begun_within q.receive_length q.received.begun ≡ q.received.begun →
    record { receives = q.receives; receive_length = q.receive_length; received = record { sends = q.received.sends; begun = q.received.begun; requests = q.received.requests + 1 }; free = q.free; lent = q.lent; deliveries = q.deliveries }
    ≡ with_segment (Untagged last OPCODE_READ_REQUEST w queue msn offset payload) q
unfolding with_segment
with_request last w queue msn offset payload q e =
    λ i. record { receives = q.receives; receive_length = q.receive_length; received = record { sends = q.received.sends; begun = sym e i; requests = q.received.requests + 1 }; free = q.free; lent = q.lent; deliveries = sym (append-nil q.deliveries) i }

pub with_last : (q : ReceiveQueue) (named : Option ℕ) (payload message : List ℕ) (free : ℕ) → message ≡ begun_bytes q.received.begun ++ payload
    → free ≡ (if not (is_begun q.received.begun) then q.free - 1 else q.free)
    → record { receives = q.receives; receive_length = q.receive_length; received = record { sends = q.received.sends + 1; begun = None; requests = q.received.requests }; free = free; lent = q.lent; deliveries = q.deliveries ++ MessageReceived (q.received.sends + 1) named (message) ∷ [] }
    ≡ with_segment (send_segment named true payload) q
unfolding with_segment
with_last q None payload message free m f =
    λ i. record { receives = q.receives; receive_length = q.receive_length; received = record { sends = q.received.sends + 1; begun = None; requests = q.received.requests }; free = f i; lent = q.lent; deliveries = q.deliveries ++ MessageReceived (q.received.sends + 1) None (m i) ∷ [] }
with_last q (Some stag) payload message free m f =
    λ i. record { receives = q.receives; receive_length = q.receive_length; received = record { sends = q.received.sends + 1; begun = None; requests = q.received.requests }; free = f i; lent = q.lent; deliveries = q.deliveries ++ MessageReceived (q.received.sends + 1) (Some stag) (m i) ∷ [] }

-- what a Send names is said by its last segment
pub not_last_alike : (named : Option ℕ) (payload : List ℕ) (q : ReceiveQueue) → with_segment (Untagged false OPCODE_SEND 0 0 0 0 payload) q ≡ with_segment (send_segment named false payload) q
unfolding with_segment
not_last_alike None payload q = refl
not_last_alike (Some stag) payload q = refl

-- with these events
abbrev deliveries_as : List DeliveredEvent → ReceiveQueue → ReceiveQueue
deliveries_as list q = record { receives = q.receives; receive_length = q.receive_length; received = q.received; free = q.free; lent = q.lent; deliveries = list }

pub read_counted : (q : ReceiveQueue) (more : List DeliveredEvent) → more ≡ q.deliveries ++ ReadDone ∷ [] → deliveries_as more q ≡ with_read_done q
read_counted q more is = λ i. deliveries_as (is i) q

pub read_told : (q : ReceiveQueue) (left : List DeliveredEvent) → q.deliveries ≡ ReadDone ∷ left → deliveries_as left q ≡ delivered q
read_told q left is =
    let none : lent_for q.deliveries ≡ 0 = ap lent_for is in
    let lent : q.lent ≡ q.lent + lent_for q.deliveries = omega (arith, none) in
    let rest : left ≡ drop 1 q.deliveries = ap (drop 1) (sym is) in
    λ i. record { receives = q.receives; receive_length = q.receive_length; received = q.received; free = q.free; lent = lent i; deliveries = rest i }

-- a delivery changes no receive
pub same_length : (b : Bool) (q : ReceiveQueue) → (cond b (delivered q) q).receive_length ≡ q.receive_length
same_length true q = refl
same_length false q = refl
