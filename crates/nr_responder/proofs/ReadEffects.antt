-- The output of reads that open, and the reads that are open then.
use Rattle.std.proofs.Common.{◌≡◌, ℕ, zero, suc, ◌+◌, ◌-◌, ◌≤◌, ◌^◌, true, List, [], ◌∷◌, ◌++◌, length, take, drop, refl, sym, ap, subst, ◌∙◌, arith, append_assoc, append-nil, length-append}
use Rattle.std.proofs.Math.Nat.{mod-mod}
use Rattle.nr_xdr.specs.Item.{word, hyper}
use Rattle.nr_wire.specs.Constants.{OPCODE_READ_REQUEST, QUEUE_READ_REQUEST}
use Rattle.nr_wire.specs.Segment.{encoding}
use Rattle.nr_wire.specs.Segment.Segment.{Untagged}
use Rattle.nr_link.specs.Output.{msn_word, read_request}
use Rattle.nr_link.specs.SegmentFaults.{ExpectedResponse}
use Rattle.nr_endpoint.specs.SendQueue.{SendQueue, next_number, with_request}
use Rattle.nr_reduce.specs.ServerState.{PendingRead}
use Rattle.nr_reduce.specs.Server.{requests_from}
use Rattle.nr_responder.specs.ResponderState.{queued_bytes}
use Rattle.nr_responder.specs.Keeping.{QueueHas, open_responses, later_responses, open_response}
use Rattle.nr_responder.specs.private.Reading.{with_requests, opening}
use Rattle.nr_responder.proofs.Queues.{next_word, next_last}

-- ---- Read Requests in the queue

request_word : (n m sink at size stag to : ℕ) → msn_word n ≡ msn_word m → read_request n sink at size stag to ≡ read_request m sink at size stag to
unfolding read_request
request_word n m sink at size stag to e =
    ap (λ (w : ℕ). encoding (Untagged true OPCODE_READ_REQUEST 0 QUEUE_READ_REQUEST w 0 (word sink ++ (hyper at ++ (word size ++ (word stag ++ hyper to)))))) e

next_request : (n last sink at size stag to : ℕ) → last ≡ msn_word n → read_request (next_number last) sink at size stag to ≡ read_request (n + 1) sink at size stag to
next_request n last sink at size stag to e =
    request_word (next_number last) (n + 1) sink at size stag to (ap (λ (w : ℕ). msn_word (next_number w)) e ∙ mod-mod (msn_word n + 1) (2 ^ 32) ∙ next_word n)

abbrev with_one : PendingRead → SendQueue → SendQueue
with_one r q = with_request r.sink r.at r.size r.stag r.to q

one_queue : (n : ℕ) (r : PendingRead) (q : SendQueue) → q.last_request ≡ msn_word n → queued_bytes (with_one r q) ≡ queued_bytes q ++ read_request (n + 1) r.sink r.at r.size r.stag r.to
one_queue n r q e =
    sym (append_assoc q.hello q.fpdus (read_request (next_number q.last_request) r.sink r.at r.size r.stag r.to))
    ∙ ap (λ (bytes : List ℕ). (q.hello ++ q.fpdus) ++ bytes) (next_request n q.last_request r.sink r.at r.size r.stag r.to e)

pub requested_queue : (n : ℕ) (reads : List PendingRead) (q : SendQueue) → q.last_request ≡ msn_word n → queued_bytes (with_requests reads q) ≡ queued_bytes q ++ requests_from (n + 1) reads
requested_queue n [] q e = sym (append-nil (queued_bytes q))
requested_queue n (r ∷ reads) q e =
    requested_queue (n + 1) reads (with_one r q) (next_last n q.last_request e)
    ∙ ap (λ (bytes : List ℕ). bytes ++ requests_from (n + 1 + 1) reads) (one_queue n r q e)
    ∙ append_assoc (queued_bytes q) (read_request (n + 1) r.sink r.at r.size r.stag r.to) (requests_from (n + 1 + 1) reads)

one_has : (w d m n : ℕ) (ends : List ℕ) (r : PendingRead) (q : SendQueue) → QueueHas w d m n ends q → QueueHas w (d + length (read_request (n + 1) r.sink r.at r.size r.stag r.to)) m (n + 1) ends (with_one r q)
one_has w d m n ends r q h =
    let same : length (read_request (next_number q.last_request) r.sink r.at r.size r.stag r.to) ≡ length (read_request (n + 1) r.sink r.at r.size r.stag r.to) =
    ap (λ (xs : List ℕ). length xs) (next_request n q.last_request r.sink r.at r.size r.stag r.to h.requests_are) in
    record {
      due_is = omega (arith, h.due_is, same, length-append q.fpdus (read_request (next_number q.last_request) r.sink r.at r.size r.stag r.to));
      ends_are = h.ends_are;
      each = h.each;
      sends = h.sends;
      requests_are = next_last n q.last_request h.requests_are;
      responses = h.responses;
    }

pub requested_has : (w d m n : ℕ) (ends : List ℕ) (reads : List PendingRead) (q : SendQueue) → QueueHas w d m n ends q →
    QueueHas w (d + length (requests_from (n + 1) reads)) m (n + length reads) ends (with_requests reads q)
requested_has w d m n ends [] q h =
    let nothing : List ℕ = [] in
    let none : List PendingRead = [] in
    subst (λ (x : ℕ). QueueHas w x m (n + length none) ends q) (let e : d ≡ d + length nothing = omega arith in e)
    (subst (λ (x : ℕ). QueueHas w d m x ends q) (let e : n ≡ n + length none = omega arith in e) h)
requested_has w d m n ends (r ∷ reads) q h =
    let first : List ℕ = read_request (n + 1) r.sink r.at r.size r.stag r.to in
    let rest : List ℕ = requests_from (n + 1 + 1) reads in
    let due : d + length first + length rest ≡ d + length (first ++ rest) = omega (arith, length-append first rest) in
    let count : n + 1 + length reads ≡ n + length (r ∷ reads) = omega arith in
    subst (λ (x : ℕ). QueueHas w x m (n + length (r ∷ reads)) ends (with_requests reads (with_one r q))) due
    (subst (λ (x : ℕ). QueueHas w (d + length first + length rest) m x ends (with_requests reads (with_one r q))) count
    (requested_has w (d + length first) m (n + 1) ends reads (with_one r q) (one_has w d m n ends r q h)))

pub requests_ends : (reads : List PendingRead) (q : SendQueue) → (with_requests reads q).send_ends ≡ q.send_ends
requests_ends [] q = refl
requests_ends (r ∷ reads) q = requests_ends reads (with_one r q)

-- ---- Reads that are open

pub open_zero : (reads : List PendingRead) → open_responses 0 reads ≡ later_responses reads
open_zero [] = refl
open_zero (r ∷ reads) = λ i. record { sink = r.sink; at = (let e : r.at + 0 ≡ r.at = omega arith in e) i; left = (let e : r.size - 0 ≡ r.size = omega arith in e) i } ∷ later_responses reads

pub later_append : (xs ys : List PendingRead) → later_responses (xs ++ ys) ≡ later_responses xs ++ later_responses ys
later_append [] ys = refl
later_append (x ∷ xs) ys = ap (λ (rs : List ExpectedResponse). open_response x ∷ rs) (later_append xs ys)

front_opened : (kept n : ℕ) (xs : List PendingRead) → kept ≤ n → take kept xs ++ drop kept (take n xs) ≡ take n xs
front_opened zero n xs le = refl
front_opened (suc kept) zero xs le = absurd (omega (arith, le))
front_opened (suc kept) (suc n) [] le = refl
front_opened (suc kept) (suc n) (x ∷ xs) le = ap (λ (ys : List PendingRead). x ∷ ys) (front_opened kept n xs (omega (arith, le)))

-- those that were open, and those that open
pub opened_now : (kept : ℕ) (reads : List PendingRead) (before : List ExpectedResponse) → kept ≤ 8 → before ≡ later_responses (take kept reads) →
    before ++ later_responses (opening kept reads) ≡ open_responses 0 (take 8 reads)
opened_now kept reads before le is =
    ap (λ (rs : List ExpectedResponse). rs ++ later_responses (opening kept reads)) is
    ∙ sym (later_append (take kept reads) (opening kept reads))
    ∙ ap later_responses (front_opened kept 8 reads le)
    ∙ sym (open_zero (take 8 reads))
