-- The segments that a side writes have numbers in range: so each is read as it was written.
use Rattle.std.proofs.Common.{◌≡◌, ℕ, zero, suc, ◌+◌, ◌-◌, ◌*◌, ◌^◌, ◌≤◌, ◌<◌, min, Bool, true, false, cond, eqb, List, [], ◌∷◌, ◌++◌, length, take, drop, map, Option, None, Some, Ok, refl, sym, subst, arith, length-append}
use Rattle.std.proofs.lemmas.List.{length-take, map-append}
use Rattle.std.specs.List.{range_with_len}
use Rattle.nr_xdr.specs.Item.{IsBytes, word, hyper}
use Rattle.nr_xdr.specs.Fields.{word_at}
use Rattle.nr_xdr.proofs.WordBytes.{IsBytes_take, IsBytes_drop, word_of_below, hyper_of_below, length_word, length_hyper}
use Rattle.nr_wire.specs.Constants.{LENGTH_LEN, TAGGED_LEN, UNTAGGED_LEN}
use Rattle.nr_wire.specs.declared.stream.Awaited.TheVariants.{Fpdu}
use Rattle.nr_wire.specs.Fields.{hyper_at}
use Rattle.nr_wire.specs.Hello.{value_unless}
use Rattle.nr_wire.specs.Segment.{Segment, segment_of, frame_reason, segment_by_form, ulpdu_len, is_tagged}
use Rattle.nr_wire.specs.Segment.Segment.{Tagged, Untagged}
use Rattle.nr_header.specs.declared.header.RdmaSegment.{RdmaSegment}
use Rattle.nr_link.specs.Limits.{segment_max}
use Rattle.nr_link.specs.Output.{segment_count, segment_payload}
use Rattle.nr_reduce.specs.ServerState.{PendingRead}
use Rattle.nr_reduce.specs.ChunkBytes.{one_write, write_segments, chunk_segments}
use Rattle.nr_laws.specs.MessageSegments.{message_segment, named_segment}
use Rattle.nr_laws.proofs.SegmentedMessages.{segment_word, named_word}
use Rattle.nr_laws.proofs.Outputs.{Output, IsShort, message_outputs, request_segment, terminate_segment, one_response, response_segments, named_outputs}
use Rattle.nr_laws.proofs.Outputs.Output.{AHello, ASegment}
use Rattle.nr_laws.proofs.Brought.{IsWord, AreFrom}
use Rattle.nr_laws.proofs.WritableOffers.{SegmentsFit}
use Rattle.std.specs.Prelude.{IfSome}

-- ---- One segment

pub request_word : (msn : ℕ) (r : PendingRead) → IsWord (request_segment msn r)
request_word msn r =
    let a = length_word r.sink in
    let b = length_hyper r.at in
    let c = length_word r.size in
    let d = length_word r.stag in
    let e = length_hyper r.to in
    let f = length-append (word r.sink) (hyper r.at ++ (word r.size ++ (word r.stag ++ hyper r.to))) in
    let g = length-append (hyper r.at) (word r.size ++ (word r.stag ++ hyper r.to)) in
    let h = length-append (word r.size) (word r.stag ++ hyper r.to) in
    let i = length-append (word r.stag) (hyper r.to) in
    record { supported = (refl, refl); fits = (omega arith, omega arith, omega arith, omega arith, omega arith); size = omega (arith, a, b, c, d, e, f, g, h, i) }

pub terminate_word_lem : (n : ℕ) → IsWord (terminate_segment n)
terminate_word_lem n = (let a = length_word n in record { supported = (refl, refl); fits = (omega arith, omega arith, omega arith, omega arith, omega arith); size = omega (arith, a) })

-- ---- Segments of an access

payload_small : (bytes : List ℕ) (i : ℕ) → length (segment_payload bytes i) ≤ segment_max
payload_small bytes i = (let l = length-take segment_max (drop (segment_max * i) bytes) in omega (arith, l))

range_words : (f : ℕ → Segment) (a n : ℕ) → ((i : ℕ) → a ≤ i → i < a + n → IsWord (f i)) → AreFrom Fpdu (map ASegment (map f (range_with_len a n)))
range_words f a zero h = tt
range_words f a (suc n) h = (h a (omega arith) (omega arith), range_words f (a + 1) n (λ i le lt. h i (omega (arith, le)) (omega (arith, lt))))

-- a message with its cut
pub message_words : (msn : ℕ) (message : List ℕ) → IsShort message → AreFrom Fpdu (message_outputs msn message)
message_words msn message short = range_words (message_segment msn message) 0 (segment_count message) (λ i le lt. segment_word msn message i (omega (arith, lt)) (omega (arith, short)))

pub named_words : (named : Option ℕ) (msn : ℕ) (message : List ℕ) → IsShort message → IfSome named (λ stag. stag < 2 ^ 32) → AreFrom Fpdu (named_outputs named msn message)
named_words named msn message short h =
    range_words (named_segment named msn message) 0 (segment_count message) (λ i le lt. named_word named msn message i (omega (arith, lt)) (omega (arith, short)) h)

-- a range of bytes ends at 2 ^ 64 or before
abbrev pub RangeEnds : ℕ → ℕ → Type 0
RangeEnds to n = (to < 2 ^ 64) × (to + n ≤ 2 ^ 64)

part_below : (to n i : ℕ) (bytes : List ℕ) → length bytes ≤ n → RangeEnds to n → i < segment_count bytes → to + segment_max * i < 2 ^ 64
part_below to n i bytes short (low, ends) lt = omega (arith, short, low, ends, lt)

pub responses_words : (stag to n : ℕ) (bytes : List ℕ) → stag < 2 ^ 32 → length bytes ≤ n → RangeEnds to n → AreFrom Fpdu (map ASegment (response_segments stag to bytes))
responses_words stag to n bytes fits short ends =
    range_words (one_response stag to bytes) 0 (segment_count bytes)
    (λ i le lt. record {
      supported = refl;
      fits = (omega arith, fits, part_below to n i bytes short ends (omega (arith, lt)));
      size = (let s = payload_small bytes i in omega (arith, s));
    })

pub writes_words : (stag to n : ℕ) (bytes : List ℕ) → stag < 2 ^ 32 → length bytes ≤ n → RangeEnds to n → AreFrom Fpdu (map ASegment (write_segments stag to bytes))
writes_words stag to n bytes fits short ends =
    range_words (one_write stag to bytes) 0 (segment_count bytes)
    (λ i le lt. record {
      supported = refl;
      fits = (omega arith, fits, part_below to n i bytes short ends (omega (arith, lt)));
      size = (let s = payload_small bytes i in omega (arith, s));
    })

pub from_append : (xs ys : List Output) → AreFrom Fpdu xs → AreFrom Fpdu ys → AreFrom Fpdu (xs ++ ys)
from_append [] ys h g = g
from_append (AHello bytes ∷ xs) ys h g = absurd h
from_append (ASegment s ∷ xs) ys h g = (h.0, from_append xs ys h.1 g)

pub chunk_words : (chunk : List RdmaSegment) (bytes : List ℕ) → SegmentsFit chunk → AreFrom Fpdu (map ASegment (chunk_segments chunk bytes))
chunk_words [] bytes h = tt
chunk_words (s ∷ chunk) bytes h =
    subst (λ (os : List Output). AreFrom Fpdu os) (sym (map-append ASegment (first (eqb (min s.length (length bytes)) 0)) (chunk_segments chunk (drop s.length bytes))))
    (from_append (map ASegment (first (eqb (min s.length (length bytes)) 0))) (map ASegment (chunk_segments chunk (drop s.length bytes))) (by (eqb (min s.length (length bytes)) 0)) (chunk_words chunk (drop s.length bytes) h.1))
  where
    first : Bool → List Segment
    first b = cond b [] (write_segments s.handle s.offset (take s.length bytes))

    by : (b : Bool) → AreFrom Fpdu (map ASegment (first b))
    by true = tt
    by false = writes_words s.handle s.offset s.length (take s.length bytes) h.0.0 (let l = length-take s.length bytes in omega (arith, l)) (h.0.1, h.0.2)

-- ---- What is read are words

abbrev pub payload_by : Segment → List ℕ
payload_by (Tagged last opcode stag to payload) = payload
payload_by (Untagged last opcode w queue msn offset payload) = payload

form_bytes : (b : Bool) (frame : List ℕ) → IsBytes frame → IsBytes (payload_by (segment_by_form b frame))
form_bytes true frame h = IsBytes_take (ulpdu_len frame - TAGGED_LEN) (drop (LENGTH_LEN + TAGGED_LEN) frame) (IsBytes_drop (LENGTH_LEN + TAGGED_LEN) frame h)
form_bytes false frame h = IsBytes_take (ulpdu_len frame - UNTAGGED_LEN) (drop (LENGTH_LEN + UNTAGGED_LEN) frame) (IsBytes_drop (LENGTH_LEN + UNTAGGED_LEN) frame h)

unless_ok : (flaw : Option ℕ) (s t : Segment) → value_unless flaw s ≡ Ok t → s ≡ t
unless_ok None s t e = cc
unless_ok (Some reason) s t e = absurd cc

pub payload_bytes_lem : (frame : List ℕ) (s : Segment) → IsBytes frame → segment_of frame ≡ Ok s → IsBytes (payload_by s)
unfolding segment_of
payload_bytes_lem frame s h e = subst (λ (t : Segment). IsBytes (payload_by t)) (unless_ok (frame_reason frame) (segment_by_form (is_tagged frame) frame) s e) (form_bytes (is_tagged frame) frame h)

pub word_below_lem : (place : ℕ) (bytes : List ℕ) → IsBytes bytes → word_at place bytes < 2 ^ 32
word_below_lem place bytes h = word_of_below (take 4 (drop place bytes)) (IsBytes_take 4 (drop place bytes) (IsBytes_drop place bytes h))

pub hyper_below_lem : (place : ℕ) (bytes : List ℕ) → IsBytes bytes → hyper_at place bytes < 2 ^ 64
hyper_below_lem place bytes h = hyper_of_below (take 8 (drop place bytes)) (IsBytes_take 8 (drop place bytes) (IsBytes_drop place bytes h))
