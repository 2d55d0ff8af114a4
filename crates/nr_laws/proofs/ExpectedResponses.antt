-- The Read Responses of a client are those that its server expects.
use Rattle.std.proofs.Common.{◌≡◌, ℕ, zero, suc, ◌+◌, ◌-◌, ◌*◌, ◌≤◌, ◌<◌, min, Bool, true, false, not, cond, ◌&&◌, eqb, leb, List, [], ◌∷◌, ◌++◌, length, map, drop, refl, sym, ap, subst, ◌∙◌, arith, eq-eqb, ne_eqb, length-take, length-drop, le-leb, Option, None}
use Rattle.std.specs.List.{range_with_len}
use Rattle.nr_wire.specs.Constants.{OPCODE_READ_RESPONSE}
use Rattle.nr_link.specs.Limits.{segment_max}
use Rattle.nr_link.specs.Output.{segment_count, segment_payload}
use Rattle.nr_link.specs.SegmentFaults.{is_expected}
use Rattle.nr_reduce.specs.ServerState.{ServerState, PendingRead}
use Rattle.nr_reduce.specs.ServerReads.{expected_read_response}
use Rattle.nr_laws.proofs.FrameContents.{FrameContent, tagged_frame, tagged_frames, send_frames, sends_frames, part_frame, last_part, last_index}
use Rattle.nr_laws.proofs.FrameContents.FrameContent.{HelloFrame, PartFrame, SendFrame, RequestFrame, TaggedFrame}
use Rattle.nr_laws.proofs.LinkInvariants.{AreResponses, ContinuesRead}

-- ---- Answers after answers

continues_more : (last : Bool) (came n : ℕ) (r : PendingRead) (rs others : List PendingRead) (Later NewFrames : ℕ → List PendingRead → Type 0) → ((c : ℕ) (qs : List PendingRead) → Later c qs → NewFrames c (qs ++ others))
    → ContinuesRead last came n r rs Later → ContinuesRead last came n r (rs ++ others) NewFrames
continues_more true came n r rs others Later NewFrames f h = (h.0, f 0 rs h.1)
continues_more false came n r rs others Later NewFrames f h = (h.0, f (came + n) (r ∷ rs) h.1)

pub answers_append : (came : ℕ) (rs : List PendingRead) (ps : List FrameContent) (others : List PendingRead) (more : List FrameContent) → AreResponses came rs ps → AreResponses 0 others more → AreResponses came (rs ++ others) (ps ++ more)
answers_append came rs [] others more h k =
    subst (λ (c : ℕ). AreResponses c (rs ++ others) more) (sym h.0) (subst (λ (qs : List PendingRead). AreResponses 0 (qs ++ others) more) (sym h.1) k)
answers_append came rs (HelloFrame ∷ ps) others more h k = answers_append came rs ps others more h k
answers_append came rs (PartFrame named offset payload ∷ ps) others more h k = answers_append came rs ps others more h k
answers_append came rs (SendFrame message ∷ ps) others more h k = answers_append came rs ps others more h k
answers_append came rs (RequestFrame sink at size stag to ∷ ps) others more h k = answers_append came rs ps others more h k
answers_append came [] (TaggedFrame last opcode stag to payload ∷ ps) others more h k = absurd h
answers_append came (r ∷ rs) (TaggedFrame last opcode stag to payload ∷ ps) others more h k =
    (h.0, h.1, h.2, continues_more last came (length payload) r rs others (λ c qs. AreResponses c qs ps) (λ c qs. AreResponses c qs (ps ++ more)) (λ c qs later. answers_append c qs ps others more later k) h.3)

-- messages are no responses
pub send_answers : (named : Option ℕ) (message : List ℕ) → AreResponses 0 [] (send_frames named message)
unfolding send_frames
send_answers named message = by (range_with_len 0 (last_index message))
  where
    by : (is : List ℕ) → AreResponses 0 [] (map (part_frame named message) is ++ SendFrame (last_part named message) ∷ [])
    by [] = (refl, refl)
    by (i ∷ is) = by is

pub sends_answers : {X : Type 0} (f : X → List ℕ) (xs : List X) → AreResponses 0 [] (sends_frames f xs)
sends_answers f [] = (refl, refl)
sends_answers f (x ∷ xs) = answers_append 0 [] (send_frames None (f x)) [] (sends_frames f xs) (send_answers None (f x)) (sends_answers f xs)

-- ---- A response as it is cut

-- `total` segments are as many as `size` bytes need
record SegmentTotals (size total : ℕ) : Type 0 where
  enough : size ≤ segment_max * total
  needed : segment_max * total < size + segment_max

cut_of_lem : (bytes : List ℕ) → 0 < length bytes → SegmentTotals (length bytes) (segment_count bytes)
cut_of_lem bytes some = record { enough = omega arith; needed = omega arith }

length_piece : (bytes : List ℕ) (i : ℕ) → length (segment_payload bytes i) ≡ min segment_max (length bytes - segment_max * i)
length_piece bytes i = length-take segment_max (drop (segment_max * i) bytes) ∙ ap (λ (n : ℕ). min segment_max n) (length-drop (segment_max * i) bytes)

cut_from : (r : PendingRead) (bytes : List ℕ) (total n a : ℕ) → length bytes ≡ r.size → 0 < r.size → SegmentTotals r.size total → a + suc n ≡ total
    → AreResponses (segment_max * a) (r ∷ []) (map (λ i. TaggedFrame (eqb (i + 1) total) OPCODE_READ_RESPONSE r.sink (r.at + segment_max * i) (segment_payload bytes i)) (range_with_len a (suc n)))
cut_from r bytes total zero a len some c e = (
  refl,
  refl,
  refl,
  subst (λ (b : Bool). ContinuesRead b (segment_max * a) (length (segment_payload bytes a)) r [] (λ k qs. AreResponses k qs [])) (sym (eq-eqb (a + 1) total (omega (arith, e))))
      (omega (arith, length_piece bytes a, len, c.enough, c.needed, e), (refl, refl)),
)
cut_from r bytes total (suc n) a len some c e =
    let next = cut_from r bytes total n (a + 1) len some c (omega (arith, e)) in
    let full : length (segment_payload bytes a) ≡ segment_max = omega (arith, length_piece bytes a, len, c.needed, e) in
    let at : segment_max * a + length (segment_payload bytes a) ≡ segment_max * (a + 1) = omega (arith, full) in (
      refl,
      refl,
      refl,
      subst (λ (b : Bool). ContinuesRead b (segment_max * a) (length (segment_payload bytes a)) r [] (λ k qs. AreResponses k qs (map (λ i. TaggedFrame (eqb (i + 1) total) OPCODE_READ_RESPONSE r.sink (r.at + segment_max * i) (segment_payload bytes i)) (range_with_len (a + 1) (suc n)))))
          (sym (ne_eqb (a + 1) total (omega (arith, e)))) (
            omega (arith, full, c.needed, e),
            subst (λ (k : ℕ). AreResponses k (r ∷ []) (map (λ i. TaggedFrame (eqb (i + 1) total) OPCODE_READ_RESPONSE r.sink (r.at + segment_max * i) (segment_payload bytes i)) (range_with_len (a + 1) (suc n)))) (sym at) next,
          ),
    )

-- the frames of a response of just as many bytes answer its read
pub answers_one : (r : PendingRead) (bytes : List ℕ) → length bytes ≡ r.size → 0 < r.size → AreResponses 0 (r ∷ []) (tagged_frames OPCODE_READ_RESPONSE r.sink r.at bytes)
unfolding tagged_frames
answers_one r bytes len some =
    let c = cut_of_lem bytes (omega (arith, len, some)) in
    let total : segment_count bytes ≡ suc (segment_count bytes - 1) = omega (arith, c.enough, len, some) in
    let cut : SegmentTotals r.size (segment_count bytes) = subst (λ (n : ℕ). SegmentTotals n (segment_count bytes)) len c in
    subst (λ (n : ℕ). AreResponses 0 (r ∷ []) (map (tagged_frame OPCODE_READ_RESPONSE r.sink r.at bytes) (range_with_len 0 n))) (sym total)
    (cut_from r bytes (segment_count bytes) (segment_count bytes - 1) 0 len some cut (omega (arith, total)))

-- ---- It is what is expected

expected_by : (last : Bool) (came n : ℕ) (r : PendingRead) (rs : List PendingRead) (Later : ℕ → List PendingRead → Type 0) → ContinuesRead last came n r rs Later
    → (leb n (r.size - came) && cond last (eqb n (r.size - came)) (not (eqb n (r.size - came)))) ≡ true
expected_by true came n r rs Later h = λ i. le-leb n (r.size - came) (omega (arith, h.0)) i && eq-eqb n (r.size - came) (omega (arith, h.0)) i
expected_by false came n r rs Later h = λ i. le-leb n (r.size - came) (omega (arith, h.0)) i && not (ne_eqb n (r.size - came) (omega (arith, h.0)) i)

pub is_expected_lem : (s : ServerState) (rs : List PendingRead) (last : Bool) (opcode stag to : ℕ) (payload : List ℕ) (ps : List FrameContent) (others : List PendingRead) → s.reads ≡ rs ++ others
    → AreResponses s.response_bytes rs (TaggedFrame last opcode stag to payload ∷ ps) → is_expected (expected_read_response s.response_bytes s.reads) last stag to (length payload) ≡ true
is_expected_lem s [] last opcode stag to payload ps others is h = absurd h
is_expected_lem s (r ∷ rs) last opcode stag to payload ps others is h =
    let by : is_expected (expected_read_response s.response_bytes (r ∷ (rs ++ others))) last stag to (length payload) ≡ true =
    λ i. eq-eqb stag r.sink h.1 i && (eq-eqb to (r.at + s.response_bytes) h.2 i && expected_by last s.response_bytes (length payload) r rs (λ c qs. AreResponses c qs ps) h.3 i) in
    subst (λ (qs : List PendingRead). is_expected (expected_read_response s.response_bytes qs) last stag to (length payload) ≡ true) (sym is) by
