-- Complete Read Responses are the first ones; and what they leave in a sink.
use Rattle.std.proofs.Common.{◌≡◌, ◌≢◌, ℕ, zero, suc, ◌+◌, ◌*◌, ◌≤◌, Bool, cond, eqb, List, [], ◌∷◌, ◌++◌, length, take, map, refl, sym, ap, subst, ◌∙◌, arith, eq-eqb, ne_eqb}
use Rattle.std.specs.List.{range_with_len}
use Rattle.nr_wire.specs.Segment.{Segment}
use Rattle.nr_wire.specs.Segment.Segment.{Tagged, Untagged}
use Rattle.nr_link.specs.Limits.{segment_max}
use Rattle.nr_link.specs.ReceiveState.{read_request_in}
use Rattle.nr_link.specs.Output.{segment_count, segment_payload}
use Rattle.nr_regions.specs.RegisteredMemory.{bytes_after_write}
use Rattle.nr_reduce.specs.ChunkBytes.{bytes_after_segments, one_write}
use Rattle.nr_reduce.proofs.WrittenChunks.{laid_write}
use Rattle.nr_laws.proofs.Outputs.{Output, one_response, response_segments}
use Rattle.nr_laws.proofs.Outputs.Output.{AHello, ASegment}
use Rattle.nr_laws.proofs.ReadsAlong.{last_in}
use Rattle.nr_laws.proofs.Memory.{after_parts, parts_out}
use Rattle.nr_laws.proofs.ClientResponses.{Answered, response_of, responses_of, tagged_in}
use Rattle.nr_laws.proofs.Basics.{first_is_lem, rest_is_lem}

-- ---- Last segments

abbrev pub lasts_of : List Segment → ℕ
lasts_of [] = 0
lasts_of (s ∷ ss) = last_in s + lasts_of ss

-- the last of these segments is the last of a response
abbrev pub EndsLast : List Segment → Type 0
EndsLast [] = Unit {0}
EndsLast (s ∷ []) = last_in s ≡ 1
EndsLast (s ∷ t ∷ ss) = EndsLast (t ∷ ss)

-- a response: just its last segment has the L bit
abbrev pub IsResponse : List Segment → Type 0
IsResponse [] = ⊥
IsResponse (s ∷ []) = last_in s ≡ 1
IsResponse (s ∷ t ∷ ss) = (last_in s ≡ 0) × IsResponse (t ∷ ss)

response_from : (stag to : ℕ) (bytes : List ℕ) (i n : ℕ) → i + suc n ≡ segment_count bytes → IsResponse (map (one_response stag to bytes) (range_with_len i (suc n)))
response_from stag to bytes i zero e = ap (λ (b : Bool). cond b 1 0) (eq-eqb (i + 1) (segment_count bytes) (omega (arith, e)))
response_from stag to bytes i (suc n) e =
    (ap (λ (b : Bool). cond b 1 0) (ne_eqb (i + 1) (segment_count bytes) (λ f. omega (arith, e, f))), response_from stag to bytes (i + 1) n (omega (arith, e)))

pub is_response : (a : Answered) → IsResponse (response_of a)
is_response a = by (segment_count a.bytes) refl
  where
    by : (n : ℕ) → segment_count a.bytes ≡ n → IsResponse (response_of a)
    by zero e = absurd (omega (arith, e))
    by (suc n) e =
        subst (λ (m : ℕ). IsResponse (map (one_response (read_request_in a.request).sink (read_request_in a.request).sink_to a.bytes) (range_with_len 0 m))) (sym e)
        (response_from (read_request_in a.request).sink (read_request_in a.request).sink_to a.bytes 0 n (omega (arith, e)))

-- ---- The first responses

record Walked (cs : List Segment) (others : List Answered) (S : List Segment) : Type 0 where
  n : ℕ
  count : lasts_of S ≡ suc n
  is : S ≡ cs ++ responses_of (take n others)
  few : n ≤ length others

walk : (x : Segment) (S : List Segment) (c : Segment) (cs : List Segment) (others : List Answered) (rest : List Segment) → IsResponse (c ∷ cs) → (x ∷ S) ++ rest ≡ (c ∷ cs) ++ responses_of others → EndsLast (x ∷ S) → Walked (c ∷ cs) others (x ∷ S)
walk x [] c [] others rest r e ends = record { n = 0; count = omega (arith, ends); is = (λ i. first_is_lem x c rest (responses_of others) e i ∷ []); few = omega arith }
walk x [] c (d ∷ cs) others rest r e ends = absurd (let a = ap last_in (first_is_lem x c rest ((d ∷ cs) ++ responses_of others) e) in let z = r.0 in omega (arith, a, z, ends))
walk x (y ∷ S) c (d ∷ cs) others rest r e ends =
    let w = walk y S d cs others rest r.1 (rest_is_lem x c ((y ∷ S) ++ rest) ((d ∷ cs) ++ responses_of others) e) ends in
    let same = first_is_lem x c ((y ∷ S) ++ rest) ((d ∷ cs) ++ responses_of others) e in
    record { n = w.n; count = (let a = ap last_in same in let z = r.0 in let k = w.count in omega (arith, a, z, k)); is = (λ i. same i ∷ w.is i); few = w.few }
walk x (y ∷ S) c [] [] rest r e ends = absurd (let t = rest_is_lem x c ((y ∷ S) ++ rest) [] e in cc)
walk x (y ∷ S) c [] (a ∷ others) rest r e ends = by (response_of a) refl (is_response a) (λ d ds h f. walk y S d ds others rest h f ends)
  where
    e2 : (y ∷ S) ++ rest ≡ response_of a ++ responses_of others
    e2 = rest_is_lem x c ((y ∷ S) ++ rest) (response_of a ++ responses_of others) e

    same : x ≡ c
    same = first_is_lem x c ((y ∷ S) ++ rest) (response_of a ++ responses_of others) e

    by : (ds : List Segment) → response_of a ≡ ds → IsResponse ds → ((d : Segment) (ds : List Segment) → IsResponse (d ∷ ds) → (y ∷ S) ++ rest ≡ (d ∷ ds) ++ responses_of others → Walked (d ∷ ds) others (y ∷ S)) → Walked (c ∷ []) (a ∷ others) (x ∷ y ∷ S)
    by [] is h next = absurd h
    by (d ∷ ds) is h next =
        let w = next d ds h (e2 ∙ ap (λ (ss : List Segment). ss ++ responses_of others) is) in record {
          n = suc w.n;
          count = (let q = ap last_in same in let z = r in let k = w.count in omega (arith, q, z, k));
          is = (λ i. same i ∷ (w.is ∙ ap (λ (ss : List Segment). ss ++ responses_of (take w.n others)) (sym is)) i);
          few = (let f = w.few in omega (arith, f));
        }

pub record AreFirst (others : List Answered) (S : List Segment) : Type 0 where
  pub is : S ≡ responses_of (take (lasts_of S) others)
  pub few : lasts_of S ≤ length others

-- segments of responses, up to the end of one, are the first responses
pub first_responses : (others : List Answered) (S rest : List Segment) → S ++ rest ≡ responses_of others → EndsLast S → AreFirst others S
first_responses others [] rest e ends = record { is = refl; few = omega arith }
first_responses [] (x ∷ S) rest e ends = absurd cc
first_responses (a ∷ others) (x ∷ S) rest e ends = by (response_of a) refl (is_response a)
  where
    by : (ds : List Segment) → response_of a ≡ ds → IsResponse ds → AreFirst (a ∷ others) (x ∷ S)
    by [] is h = absurd h
    by (d ∷ ds) is h =
        let w = walk x S d ds others rest h (e ∙ ap (λ (ss : List Segment). ss ++ responses_of others) is) ends in record {
          is = w.is ∙ ap (λ (ss : List Segment). ss ++ responses_of (take w.n others)) (sym is) ∙ ap (λ (m : ℕ). responses_of (take m (a ∷ others))) (sym w.count);
          few = (let k = w.count in let f = w.few in omega (arith, k, f));
        }

-- ---- What they leave in a sink

pub laid_tagged : (stag : ℕ) (bytes : List ℕ) (outs : List Output) → after_parts stag bytes (parts_out outs) ≡ bytes_after_segments stag bytes (tagged_in outs)
laid_tagged stag bytes [] = refl
laid_tagged stag bytes (AHello b ∷ outs) = laid_tagged stag bytes outs
laid_tagged stag bytes (ASegment (Tagged last opcode s to payload) ∷ outs) = laid_tagged stag (cond (eqb s stag) (bytes_after_write bytes to payload) bytes) outs
laid_tagged stag bytes (ASegment (Untagged last opcode w queue msn offset payload) ∷ outs) = laid_tagged stag bytes outs

as_write : (stag s to : ℕ) (data_bytes old : List ℕ) (is : List ℕ) → bytes_after_segments stag old (map (one_response s to data_bytes) is) ≡ bytes_after_segments stag old (map (one_write s to data_bytes) is)
as_write stag s to data_bytes old [] = refl
as_write stag s to data_bytes old (i ∷ is) = as_write stag s to data_bytes (cond (eqb s stag) (bytes_after_write old (to + segment_max * i) (segment_payload data_bytes i)) old) is

pub laid_own : (stag to : ℕ) (data_bytes old : List ℕ) → to + length data_bytes ≤ length old → bytes_after_segments stag old (response_segments stag to data_bytes) ≡ bytes_after_write old to data_bytes
laid_own stag to data_bytes old room = as_write stag stag to data_bytes old (range_with_len 0 (segment_count data_bytes)) ∙ laid_write stag to data_bytes old room

elsewhere : (stag s to : ℕ) (data_bytes old : List ℕ) (is : List ℕ) → s ≢ stag → bytes_after_segments stag old (map (one_response s to data_bytes) is) ≡ old
elsewhere stag s to data_bytes old [] ne = refl
elsewhere stag s to data_bytes old (i ∷ is) ne =
    ap (λ (b : Bool). bytes_after_segments stag (cond b (bytes_after_write old (to + segment_max * i) (segment_payload data_bytes i)) old) (map (one_response s to data_bytes) is)) (ne_eqb s stag ne)
    ∙ elsewhere stag s to data_bytes old is ne

pub laid_other : (stag s to : ℕ) (data_bytes old : List ℕ) → s ≢ stag → bytes_after_segments stag old (response_segments s to data_bytes) ≡ old
laid_other stag s to data_bytes old ne = elsewhere stag s to data_bytes old (range_with_len 0 (segment_count data_bytes)) ne
