-- Bytes that are cut into segments, segment by segment.
use Rattle.std.proofs.Common.{◌≡◌, ℕ, ◌+◌, ◌-◌, ◌*◌, ◌%◌, ◌^◌, ◌<◌, ◌≤◌, Bool, true, List, [], ◌∷◌, ◌++◌, length, take, drop, eqb, refl, sym, ap, subst, ◌∙◌, arith, append_assoc, cond, Option, None, Some}
use Rattle.std.specs.Prelude.{min}
use Rattle.std.specs.List.{flat_map, range_with_len}
use Rattle.std.proofs.lemmas.List.{map-id, take_min, drop_min, append-nil, length-append, length-take, length-drop, take_all}
use Rattle.std.proofs.lemmas.List.Concat.{flat_map-append}
use Rattle.std.proofs.lemmas.List.FromFn.{map-range_with_len_more}
use Rattle.nr_wire.specs.Segment.{IsWritable, encoding, payload_in, segment_header, segment_tail, ulpdu_size, Segment}
use Rattle.nr_xdr.specs.Item.{word, hyper}
use Rattle.nr_wire.specs.Constants.{OPCODE_SEND, QUEUE_SEND, UNTAGGED_LEN, OPCODE_SEND_INVALIDATE}
use Rattle.nr_wire.specs.Segment.Segment.{Untagged}
use Rattle.nr_link.specs.Output.{cut, segment_count, segment_payload, send, write, read_response, send_by, send_invalidating}
use Rattle.nr_endpoint.specs.OperationSegments.{operation_segment, sender, send_opcode, send_word, FitsOperation}
use Rattle.nr_endpoint.specs.declared.framing.Operation.{Operation}
use Rattle.nr_endpoint.specs.declared.framing.Operation.TheVariants as carriers
use Rattle.nr_link.specs.Limits.{segment_max}

-- the payload of a segment, cut within the length
pub payload_within : (bytes : List ℕ) (n m : ℕ) →
    take (min (length (drop (min (length bytes) n) bytes)) m) (drop (min (length bytes) n) bytes) ≡ take m (drop n bytes)
payload_within bytes n m =
    let swap : (a b : ℕ) → min a b ≡ min b a = λ (a b : ℕ). omega arith in
    let dropped : drop (min (length bytes) n) bytes ≡ drop n bytes = ap (λ (k : ℕ). drop k bytes) (swap (length bytes) n) ∙ drop_min n bytes in
    ap (λ (xs : List ℕ). take (min (length xs) m) xs) dropped
    ∙ ap (λ (k : ℕ). take k (drop n bytes)) (swap (length (drop n bytes)) m) ∙ take_min m (drop n bytes)

pub slice_payload : (bytes : List ℕ) (i : ℕ) →
    take (min (length bytes) (segment_max * i) + min (length bytes - min (length bytes) (segment_max * i)) segment_max - min (length bytes) (segment_max * i)) (drop (min (length bytes) (segment_max * i)) bytes)
    ≡ segment_payload bytes i
slice_payload bytes i =
    let from = min (length bytes) (segment_max * i) in
    let count : from + min (length bytes - from) segment_max - from ≡ min (length (drop from bytes)) segment_max = omega (arith, length-drop from bytes) in
    ap (λ (n : ℕ). take n (drop from bytes)) count ∙ payload_within bytes (segment_max * i) segment_max

-- the FPDU of the segment with this number, and those of the first n segments
abbrev pub piece : Operation → List ℕ → ℕ → List ℕ
piece operation bytes i = encoding (operation_segment operation (eqb (i + 1) (segment_count bytes)) (segment_max * i) (segment_payload bytes i))

unfoldable pub pieces : Operation → List ℕ → ℕ → List ℕ
pieces operation bytes n = flat_map (piece operation bytes) (range_with_len 0 n)

-- one number more
range_more : (a n j : ℕ) → a + n ≡ j → range_with_len a (n + 1) ≡ range_with_len a n ++ j ∷ []
range_more a n j h =
    sym (map-id (range_with_len a (n + 1)))
    ∙ map-range_with_len_more (λ (x : ℕ). x) a n j h
    ∙ ap (λ (xs : List ℕ). xs ++ j ∷ []) (map-id (range_with_len a n))

pub pieces_none : (operation : Operation) (bytes : List ℕ) → pieces operation bytes 0 ≡ []
unfolding pieces
pieces_none operation bytes = refl

pub pieces_more : (operation : Operation) (bytes : List ℕ) (n : ℕ) →
    pieces operation bytes (n + 1) ≡ pieces operation bytes n ++ piece operation bytes n
unfolding pieces
pieces_more operation bytes n =
    let f = (λ (i : ℕ). piece operation bytes i) in
    ap (flat_map f) (range_more 0 n n (omega arith))
    ∙ flat_map-append f (range_with_len 0 n) (n ∷ [])
    ∙ ap (λ (xs : List ℕ). flat_map f (range_with_len 0 n) ++ xs) (append-nil (f n))

pub pieces_all : (operation : Operation) (bytes : List ℕ) → pieces operation bytes (segment_count bytes) ≡ cut (operation_segment operation) bytes
unfolding pieces cut
pieces_all operation bytes = refl

-- a segment of a cut can be written
pub carried_writable : (operation : Operation) (last : Bool) (offset : ℕ) (payload : List ℕ) → length payload ≤ segment_max →
    IsWritable (operation_segment operation last offset payload)
carried_writable (carriers.Send msn) last offset payload h = (omega arith, omega arith)
carried_writable (carriers.SendInvalidate msn stag) last offset payload h = (omega arith, omega arith)
carried_writable (carriers.Write stag to) last offset payload h = (omega arith, omega arith)
carried_writable (carriers.Response stag to) last offset payload h = (omega arith, omega arith)

pub writable_from : (segment : Segment) (operation : Operation) (last : Bool) (offset : ℕ) (payload : List ℕ) →
    segment ≡ operation_segment operation last offset payload → length payload ≤ segment_max → IsWritable segment
writable_from segment operation last offset payload is h =
    subst (λ (s : Segment). IsWritable s) (sym is) (carried_writable operation last offset payload h)

pub payload_short : (bytes : List ℕ) (i : ℕ) → length (segment_payload bytes i) ≤ segment_max
payload_short bytes i = omega (arith, length-take segment_max (drop (segment_max * i) bytes))

-- one segment more
pub piece_pushed : (new old start : List ℕ) (segment : Segment) (operation : Operation) (bytes : List ℕ) (i : ℕ) →
    old ≡ start ++ pieces operation bytes i → new ≡ old ++ encoding segment →
    segment ≡ operation_segment operation (eqb (i + 1) (segment_count bytes)) (segment_max * i) (segment_payload bytes i) →
    new ≡ start ++ pieces operation bytes (i + 1)
piece_pushed new old start segment operation bytes i so_far pushed is =
    pushed
    ∙ (λ t. so_far t ++ encoding (is t))
    ∙ append_assoc start (pieces operation bytes i) (piece operation bytes i)
    ∙ ap (λ (xs : List ℕ). start ++ xs) (sym (pieces_more operation bytes i))

-- and all of them
pub all_pushed : (new start : List ℕ) (operation : Operation) (bytes : List ℕ) (i : ℕ) → i ≡ segment_count bytes →
    new ≡ start ++ pieces operation bytes i → new ≡ start ++ cut (operation_segment operation) bytes
all_pushed new start operation bytes i here so_far =
    so_far
    ∙ ap (λ (n : ℕ). start ++ pieces operation bytes n) here
    ∙ ap (λ (xs : List ℕ). start ++ xs) (pieces_all operation bytes)

-- ---- What carries the bytes of each call

pub carried_send : (n : ℕ) (message : List ℕ) → cut (operation_segment (carriers.Send ((n + 1) % 2 ^ 32))) message ≡ send ((n + 1) % 2 ^ 32) message
unfolding send
carried_send n message =
    let same : (n + 1) % 2 ^ 32 ≡ ((n + 1) % 2 ^ 32) % 2 ^ 32 = omega arith in
    ap (λ (m : ℕ). cut (λ last offset payload. Untagged last OPCODE_SEND 0 QUEUE_SEND m offset payload) message) same

carried_invalidate : (stag n : ℕ) (message : List ℕ) → cut (operation_segment (carriers.SendInvalidate ((n + 1) % 2 ^ 32) stag)) message ≡ send_invalidating ((n + 1) % 2 ^ 32) stag message
unfolding send_invalidating
carried_invalidate stag n message =
    let same : (n + 1) % 2 ^ 32 ≡ ((n + 1) % 2 ^ 32) % 2 ^ 32 = omega arith in
    ap (λ (m : ℕ). cut (λ last offset payload. Untagged last OPCODE_SEND_INVALIDATE (cond last stag 0) QUEUE_SEND m offset payload) message) same

pub carried_by : (named : Option ℕ) (n : ℕ) (message : List ℕ) → cut (operation_segment (sender named ((n + 1) % 2 ^ 32))) message ≡ send_by named ((n + 1) % 2 ^ 32) message
carried_by None n message = carried_send n message
carried_by (Some stag) n message = carried_invalidate stag n message

-- a Send of either kind can be carried
pub fits_sender : (named : Option ℕ) (msn n : ℕ) → n < 2 ^ 32 → FitsOperation (sender named msn) n
fits_sender None msn n small = small
fits_sender (Some stag) msn n small = small

pub carried_write : (stag to : ℕ) (bytes : List ℕ) → cut (operation_segment (carriers.Write stag to)) bytes ≡ write stag to bytes
unfolding write
carried_write stag to bytes = refl

pub carried_response : (stag to : ℕ) (bytes : List ℕ) → cut (operation_segment (carriers.Response stag to)) bytes ≡ read_response stag to bytes
unfolding read_response
carried_response stag to bytes = refl

-- a Read Request has 28 bytes
pub request_len : (sink at len stag to : ℕ) → length (word sink ++ (hyper at ++ (word len ++ (word stag ++ hyper to)))) ≡ 28
unfolding word hyper
request_len sink at len stag to = refl

-- ---- The parts of an FPDU, and the room that it needs

pub encoded_parts : (segment : Segment) → encoding segment ≡ segment_header segment ++ (payload_in segment ++ segment_tail (ulpdu_size segment))
unfolding encoding
encoded_parts segment = append_assoc (segment_header segment) (payload_in segment) (segment_tail (ulpdu_size segment))

pub segment_pushed : (new old header payload tail : List ℕ) (segment : Segment) → header ≡ segment_header segment → payload ≡ payload_in segment
    → tail ≡ segment_tail (ulpdu_size segment) → new ≡ ((old ++ header) ++ payload) ++ tail → new ≡ old ++ encoding segment
segment_pushed new old header payload tail segment h p t is =
    is
    ∙ (λ i. ((old ++ h i) ++ p i) ++ t i)
    ∙ append_assoc (old ++ segment_header segment) (payload_in segment) (segment_tail (ulpdu_size segment))
    ∙ append_assoc old (segment_header segment) (payload_in segment ++ segment_tail (ulpdu_size segment))
    ∙ ap (λ (l : List ℕ). old ++ l) (sym (encoded_parts segment))

pub carried_payload : (operation : Operation) (last : Bool) (offset : ℕ) (payload : List ℕ) → payload_in (operation_segment operation last offset payload) ≡ payload
carried_payload (carriers.Send msn) last offset payload = refl
carried_payload (carriers.SendInvalidate msn stag) last offset payload = refl
carried_payload (carriers.Write stag to) last offset payload = refl
carried_payload (carriers.Response stag to) last offset payload = refl

payload_len : (segment : Segment) (operation : Operation) (last : Bool) (offset : ℕ) (bytes : List ℕ) (i : ℕ) → segment ≡ operation_segment operation last offset (segment_payload bytes i)
    → length (payload_in segment) ≡ min segment_max (length bytes - segment_max * i)
payload_len segment operation last offset bytes i is =
    ap (λ (s : Segment). length (payload_in s)) is
    ∙ ap (λ (l : List ℕ). length l) (carried_payload operation last offset (segment_payload bytes i))
    ∙ length-take segment_max (drop (segment_max * i) bytes)
    ∙ ap (min segment_max) (length-drop (segment_max * i) bytes)

pub room_for : (segment : Segment) (operation : Operation) (last : Bool) (offset : ℕ) (bytes : List ℕ) (i spare : ℕ) → segment ≡ operation_segment operation last offset (segment_payload bytes i)
    → i < segment_count bytes → length bytes + 27 * segment_count bytes ≤ spare + (27 * i + min (length bytes) (segment_max * i))
    → length (payload_in segment) + 27 ≤ spare
room_for segment operation last offset bytes i spare is lt room =
    let len = payload_len segment operation last offset bytes i is in
    omega (arith, len, lt, room)

pub spare_after : (segment : Segment) (operation : Operation) (last : Bool) (offset : ℕ) (bytes : List ℕ) (i before spare after : ℕ) → segment ≡ operation_segment operation last offset (segment_payload bytes i)
    → before ≤ spare + (27 * i + min (length bytes) (segment_max * i)) → spare ≤ after + (length (payload_in segment) + 27)
    → before ≤ after + (27 * (i + 1) + min (length bytes) (segment_max * (i + 1)))
spare_after segment operation last offset bytes i before spare after is room left =
    let len = payload_len segment operation last offset bytes i is in
    omega (arith, len, room, left)

-- bytes that take one segment
pub cut_one : (operation : Operation) (bytes : List ℕ) → length bytes ≤ segment_max → cut (operation_segment operation) bytes ≡ encoding (operation_segment operation true 0 bytes)
cut_one operation bytes le =
    let count : segment_count bytes ≡ 1 = omega arith in
    let all : segment_payload bytes 0 ≡ bytes = take_all segment_max bytes le in
    sym (pieces_all operation bytes)
    ∙ ap (pieces operation bytes) count
    ∙ pieces_more operation bytes 0
    ∙ ap (λ (l : List ℕ). l ++ piece operation bytes 0) (pieces_none operation bytes)
    ∙ (λ i. encoding (operation_segment operation (eqb 1 (count i)) 0 (all i)))

-- the Send of a message in two parts
last_segment : (named : Option ℕ) (msn : ℕ) (bytes : List ℕ) → Untagged true (send_opcode named) (send_word named) QUEUE_SEND msn 0 bytes ≡ operation_segment (sender named msn) true 0 bytes
last_segment None msn bytes = refl
last_segment (Some stag) msn bytes = refl

pub send_pushed : (new old header front stream tail : List ℕ) (named : Option ℕ) (msn : ℕ) → length front + length stream ≤ segment_max
    → header ≡ segment_header (Untagged true (send_opcode named) (send_word named) QUEUE_SEND msn 0 (front ++ stream))
    → tail ≡ segment_tail (UNTAGGED_LEN + (length front + length stream))
    → new ≡ (((old ++ header) ++ front) ++ stream) ++ tail
    → new ≡ old ++ cut (operation_segment (sender named msn)) (front ++ stream)
send_pushed new old header front stream tail named msn le h t is =
    let len : length (front ++ stream) ≡ length front + length stream = length-append front stream in
    let s : Segment = Untagged true (send_opcode named) (send_word named) QUEUE_SEND msn 0 (front ++ stream) in
    is
    ∙ (λ i. (((old ++ h i) ++ front) ++ stream) ++ t i)
    ∙ ap (λ (n : ℕ). (((old ++ segment_header s) ++ front) ++ stream) ++ segment_tail (UNTAGGED_LEN + n)) (sym len)
    ∙ ap (λ (l : List ℕ). l ++ segment_tail (UNTAGGED_LEN + length (front ++ stream))) (append_assoc (old ++ segment_header s) front stream)
    ∙ append_assoc (old ++ segment_header s) (front ++ stream) (segment_tail (UNTAGGED_LEN + length (front ++ stream)))
    ∙ append_assoc old (segment_header s) ((front ++ stream) ++ segment_tail (UNTAGGED_LEN + length (front ++ stream)))
    ∙ ap (λ (l : List ℕ). old ++ l) (sym (encoded_parts s) ∙ ap encoding (last_segment named msn (front ++ stream)) ∙ sym (cut_one (sender named msn) (front ++ stream) (omega (arith, len, le))))
