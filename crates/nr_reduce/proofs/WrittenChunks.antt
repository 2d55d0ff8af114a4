-- What RDMA Writes leave in memory: the bytes of an answer, in the segments of a chunk that are adjacent.
use Rattle.std.proofs.Common.{◌≡◌, ◌≢◌, ℕ, zero, suc, ◌+◌, ◌-◌, ◌*◌, ◌/◌, ◌<◌, ◌≤◌, min, max, Bool, true, false, cond, eqb, List, [], ◌∷◌, ◌++◌, length, take, drop, map, sum_by, refl, sym, ap, ◌∙◌, arith, append-nil, append_assoc, length-append, inl, inr, ◌⊎◌}
use Rattle.std.proofs.lemmas.Bool.{eq-eqb, ne_eqb, cases_lt, eqb-true}
use Rattle.std.proofs.lemmas.List.{take_all, drop_all, take_at, drop_at, length-take-le, length-take, length-drop, drop-drop, take-append-drop}
use Rattle.std.proofs.lemmas.List.Sums.{sum_by-cons}
use Rattle.std.specs.List.{flat_map, range_with_len}
use Rattle.std.proofs.lemmas.Grind.{flat_map-append}
use Rattle.nr_header.specs.declared.header.RdmaSegment.{RdmaSegment}
use Rattle.nr_regions.specs.RegisteredMemory.{bytes_after_write}
use Rattle.nr_wire.specs.Segment.{Segment as WireSegment, encoding}
use Rattle.nr_wire.specs.Segment.Segment.{Tagged, Untagged}
use Rattle.nr_reduce.specs.ChunkBytes.{bytes_after_segments, one_write, write_segments, chunk_segments}
use Rattle.nr_link.specs.Limits.{segment_max}
use Rattle.nr_reduce.specs.Plans.{segments_from}
use Rattle.nr_reduce.specs.Chunks.{Bytes, joined_bytes, chunk_total, filled_chunk}
use Rattle.nr_link.specs.Output.{segment_count, segment_payload, cut, write}
use Rattle.nr_reduce.specs.Holds.{writes_into}

-- ---- Bytes over bytes

take_nil : (n : ℕ) → take {A = ℕ} n [] ≡ []
take_nil zero = refl
take_nil (suc n) = refl

take_split : (a b : ℕ) (xs : List ℕ) → take a xs ++ take b (drop a xs) ≡ take (a + b) xs
take_split zero b xs = ap (λ (n : ℕ). take n xs) (let s : b ≡ 0 + b = omega arith in s)
take_split (suc a) b [] = take_nil b ∙ sym (take_nil (suc a + b))
take_split (suc a) b (x ∷ xs) = let s : suc (a + b) ≡ suc a + b = omega arith in ap (λ (ys : List ℕ). x ∷ ys) (take_split a b xs) ∙ ap (λ (n : ℕ). take n (x ∷ xs)) s

written_none : (xs : List ℕ) (at : ℕ) → bytes_after_write xs at [] ≡ xs
written_none xs at = ap (λ (n : ℕ). take at xs ++ drop n xs) (let s : at + 0 ≡ at = omega arith in s) ∙ take-append-drop at xs

written_more_lem : (old xs ys : List ℕ) (at : ℕ) → at + length xs ≤ length old → bytes_after_write (bytes_after_write old at xs) (at + length xs) ys ≡ bytes_after_write old at (xs ++ ys)
written_more_lem old xs ys at fits =
    let front = take at old ++ xs in
    let tail = drop (at + length xs) old in
    let one : bytes_after_write old at xs ≡ front ++ tail = sym (append_assoc (take at old) xs tail) in
    let len : length front ≡ at + length xs = (let a = length-append (take at old) xs in let b = length-take-le at old (omega (arith, fits)) in omega (arith, a, b)) in
    let first : take (at + length xs) (bytes_after_write old at xs) ≡ front = ap (λ (zs : List ℕ). take (at + length xs) zs) one ∙ take_at front tail (at + length xs) len in
    let rest : drop ((at + length xs) + length ys) (bytes_after_write old at xs) ≡ drop (at + length (xs ++ ys)) old =
    sym (drop-drop (length ys) (at + length xs) (bytes_after_write old at xs))
    ∙ ap (λ (zs : List ℕ). drop (length ys) zs) (ap (λ (zs : List ℕ). drop (at + length xs) zs) one ∙ drop_at front tail (at + length xs) len)
    ∙ drop-drop (length ys) (at + length xs) old
    ∙ ap (λ (n : ℕ). drop n old) (let l = length-append xs ys in omega (arith, l)) in
    (λ k. first k ++ (ys ++ rest k))
    ∙ append_assoc (take at old) xs (ys ++ drop (at + length (xs ++ ys)) old)
    ∙ ap (λ (zs : List ℕ). take at old ++ zs) (sym (append_assoc xs ys (drop (at + length (xs ++ ys)) old)))

pub written_length : (old xs : List ℕ) (at : ℕ) → at + length xs ≤ length old → length (bytes_after_write old at xs) ≡ length old
written_length old xs at fits =
    let a = length-append (take at old) (xs ++ drop (at + length xs) old) in
    let b = length-append xs (drop (at + length xs) old) in
    let c = length-take-le at old (omega (arith, fits)) in
    let d = length-drop (at + length xs) old in
    omega (arith, a, b, c, d, fits)

-- ---- Segments

pub laid_append : (stag : ℕ) (bytes : List ℕ) (xs ys : List WireSegment) → bytes_after_segments stag bytes (xs ++ ys) ≡ bytes_after_segments stag (bytes_after_segments stag bytes xs) ys
laid_append stag bytes [] ys = refl
laid_append stag bytes (Tagged last opcode s to payload ∷ xs) ys = laid_append stag (cond (eqb s stag) (bytes_after_write bytes to payload) bytes) xs ys
laid_append stag bytes (Untagged last opcode w queue msn offset payload ∷ xs) ys = laid_append stag bytes xs ys

flat_map_lem : {X Y : Type 0} (f : Y → List ℕ) (g : X → Y) (xs : List X) → flat_map f (map g xs) ≡ flat_map (λ x. f (g x)) xs
flat_map_lem f g [] = refl
flat_map_lem f g (x ∷ xs) = ap (λ (ys : List ℕ). f (g x) ++ ys) (flat_map_lem f g xs)

pub write_spells : (stag to : ℕ) (bytes : List ℕ) → write stag to bytes ≡ flat_map encoding (write_segments stag to bytes)
unfolding write cut
write_spells stag to bytes = sym (flat_map_lem encoding (one_write stag to bytes) (range_with_len 0 (segment_count bytes)))

low_piece : (i n : ℕ) → i < max 1 ((n + (segment_max - 1)) / segment_max) → segment_max * i ≤ n
low_piece i n h = omega (arith, h)

all_pieces : (n : ℕ) → n ≤ segment_max * max 1 ((n + (segment_max - 1)) / segment_max)
all_pieces n = omega arith

laid_segment_count : (stag to : ℕ) (bytes old : List ℕ) (k i : ℕ) → to + length bytes ≤ length old → i + k ≡ segment_count bytes →
    bytes_after_segments stag (bytes_after_write old to (take (segment_max * i) bytes)) (map (one_write stag to bytes) (range_with_len i k)) ≡ bytes_after_write old to bytes
laid_segment_count stag to bytes old zero i fits all =
    ap (λ (xs : List ℕ). bytes_after_write old to xs) (take_all (segment_max * i) bytes (let h = all_pieces (length bytes) in omega (arith, h, all)))
laid_segment_count stag to bytes old (suc k) i fits all =
    let low : segment_max * i ≤ length bytes = low_piece i (length bytes) (omega (arith, all)) in
    let len : length (take (segment_max * i) bytes) ≡ segment_max * i = length-take-le (segment_max * i) bytes low in
    ap (λ (b : Bool). bytes_after_segments stag (cond b (bytes_after_write (bytes_after_write old to (take (segment_max * i) bytes)) (to + segment_max * i) (segment_payload bytes i)) (bytes_after_write old to (take (segment_max * i) bytes))) (map (one_write stag to bytes) (range_with_len (i + 1) k))) (eq-eqb stag stag refl)
    ∙ ap (λ (xs : List ℕ). bytes_after_segments stag xs (map (one_write stag to bytes) (range_with_len (i + 1) k)))
    (ap (λ (n : ℕ). bytes_after_write (bytes_after_write old to (take (segment_max * i) bytes)) (to + n) (segment_payload bytes i)) (sym len)
    ∙ written_more_lem old (take (segment_max * i) bytes) (segment_payload bytes i) to (omega (arith, len, low, fits))
    ∙ ap (λ (xs : List ℕ). bytes_after_write old to xs) (take_split (segment_max * i) segment_max bytes ∙ ap (λ (n : ℕ). take n bytes) (let s : segment_max * i + segment_max ≡ segment_max * (i + 1) = omega arith in s)))
    ∙ laid_segment_count stag to bytes old k (i + 1) fits (omega (arith, all))

pub laid_write : (stag to : ℕ) (bytes old : List ℕ) → to + length bytes ≤ length old → bytes_after_segments stag old (write_segments stag to bytes) ≡ bytes_after_write old to bytes
laid_write stag to bytes old fits =
    ap (λ (xs : List ℕ). bytes_after_segments stag xs (write_segments stag to bytes)) (sym (written_none old to))
    ∙ laid_segment_count stag to bytes old (segment_count bytes) 0 fits (omega arith)

laid_others : (stag other to : ℕ) (bytes old : List ℕ) (is : List ℕ) → stag ≢ other → bytes_after_segments stag old (map (one_write other to bytes) is) ≡ old
laid_others stag other to bytes old [] ne = refl
laid_others stag other to bytes old (i ∷ is) ne =
    ap (λ (b : Bool). bytes_after_segments stag (cond b (bytes_after_write old (to + segment_max * i) (segment_payload bytes i)) old) (map (one_write other to bytes) is)) (ne_eqb other stag (λ e. ne (sym e)))
    ∙ laid_others stag other to bytes old is ne

-- ---- A chunk whose segments are adjacent

abbrev pub added_up : List ℕ → ℕ
added_up [] = 0
added_up (n ∷ ns) = n + added_up ns

pub sum_added : (ns : List ℕ) → sum_by (λ (x : ℕ). x) ns ≡ added_up ns
sum_added [] = refl
sum_added (n ∷ ns) = sum_by-cons (λ (x : ℕ). x) n ns ∙ ap (λ (k : ℕ). n + k) (sum_added ns)

pub chunk_added : (stag at : ℕ) (ns : List ℕ) → chunk_total (segments_from stag at ns) ≡ added_up ns
unfolding chunk_total
chunk_added stag at [] = refl
chunk_added stag at (n ∷ ns) =
    sum_by-cons (λ (s : RdmaSegment). s.length) (record { handle = stag; length = n; offset = at }) (segments_from stag (at + n) ns)
    ∙ ap (λ (k : ℕ). n + k) (chunk_added stag (at + n) ns)

-- n bytes are read out of it again
pub joined_filled : (memory : Bytes) (stag at : ℕ) (ns : List ℕ) (n : ℕ) → n ≤ added_up ns → joined_bytes memory (filled_chunk (segments_from stag at ns) n) ≡ take n (drop at (memory stag))
unfolding joined_bytes
joined_filled memory stag at [] n h = ap (λ (k : ℕ). take k (drop at (memory stag))) (let s : 0 ≡ n = omega (arith, h) in s)
joined_filled memory stag at (m ∷ ms) n h =
    let d = drop at (memory stag) in
    ap (λ (xs : List ℕ). take (min m n) d ++ xs) (joined_filled memory stag (at + m) ms (n - min m n) (omega (arith, h)))
    ∙ elim (cases_lt m n) [
      | inl lt ↦
          ap (λ (k : ℕ). take k d ++ take (n - k) (drop (at + m) (memory stag))) (let s : min m n ≡ m = omega (arith, lt) in s)
          ∙ ap (λ (xs : List ℕ). take m d ++ take (n - m) xs) (sym (drop-drop m at (memory stag)))
          ∙ take_split m (n - m) d
          ∙ ap (λ (k : ℕ). take k d) (let s : m + (n - m) ≡ n = omega (arith, lt) in s)
      | inr le ↦
          ap (λ (k : ℕ). take k d ++ take (n - k) (drop (at + m) (memory stag))) (let s : min m n ≡ n = omega (arith, le) in s)
          ∙ ap (λ (k : ℕ). take n d ++ take k (drop (at + m) (memory stag))) (let s : n - n ≡ 0 = omega arith in s)
          ∙ append-nil (take n d)
    ]

pub chunk_spells : (chunk : List RdmaSegment) (bytes : List ℕ) → writes_into chunk bytes ≡ flat_map encoding (chunk_segments chunk bytes)
chunk_spells [] bytes = refl
chunk_spells (s ∷ chunk) bytes =
    (λ k. by_one (eqb (min s.length (length bytes)) 0) k ++ chunk_spells chunk (drop s.length bytes) k)
    ∙ sym (flat_map-append encoding (cond (eqb (min s.length (length bytes)) 0) [] (write_segments s.handle s.offset (take s.length bytes))) (chunk_segments chunk (drop s.length bytes)))
  where
    by_one : (b : Bool) → cond b [] (write s.handle s.offset (take s.length bytes)) ≡ flat_map encoding (cond b [] (write_segments s.handle s.offset (take s.length bytes)))
    by_one true = refl
    by_one false = write_spells s.handle s.offset (take s.length bytes)

none_left : (n : ℕ) (bytes : List ℕ) → min n (length bytes) ≡ 0 → (n ≡ 0) ⊎ (bytes ≡ [])
none_left zero bytes e = inl refl
none_left (suc n) [] e = inr refl
none_left (suc n) (b ∷ bytes) e = absurd (omega (arith, e))

-- one more write of a chunk, or none
laid_one : (stag at n : ℕ) (ns bytes old : List ℕ) (z : Bool) → eqb (min n (length bytes)) 0 ≡ z → at + length bytes ≤ length old
    → bytes_after_segments stag old (cond z [] (write_segments stag at (take n bytes))) ≡ bytes_after_write old at (take n bytes)
laid_one stag at n ns bytes old true e fits =
    sym (written_none old at) ∙ ap (λ (xs : List ℕ). bytes_after_write old at xs) (sym (nothing (none_left n bytes (eqb-true (min n (length bytes)) 0 e))))
  where
    nothing : (n ≡ 0) ⊎ (bytes ≡ []) → take n bytes ≡ []
    nothing (inl z) = ap (λ (m : ℕ). take m bytes) z
    nothing (inr z) = ap (λ (xs : List ℕ). take n xs) z ∙ take_nil n
laid_one stag at n ns bytes old false e fits = laid_write stag at (take n bytes) old (let l = length-take n bytes in omega (arith, l, fits))

-- what is after the first n
rest_at : (n at : ℕ) (bytes old : List ℕ) → at + length bytes ≤ length old → bytes_after_write (bytes_after_write old at (take n bytes)) (at + n) (drop n bytes) ≡ bytes_after_write old at bytes
rest_at n at bytes old fits = elim (cases_lt n (length bytes)) [
  | inl lt ↦
      let len : length (take n bytes) ≡ n = length-take-le n bytes (omega (arith, lt)) in
      ap (λ (m : ℕ). bytes_after_write (bytes_after_write old at (take n bytes)) (at + m) (drop n bytes)) (sym len)
      ∙ written_more_lem old (take n bytes) (drop n bytes) at (omega (arith, len, lt, fits))
      ∙ ap (λ (xs : List ℕ). bytes_after_write old at xs) (take-append-drop n bytes)
  | inr le ↦
      ap (λ (xs : List ℕ). bytes_after_write (bytes_after_write old at (take n bytes)) (at + n) xs) (drop_all n bytes le)
      ∙ written_none (bytes_after_write old at (take n bytes)) (at + n)
      ∙ ap (λ (xs : List ℕ). bytes_after_write old at xs) (take_all n bytes le)
]

pub laid_chunk : (stag at : ℕ) (ns bytes old : List ℕ) → length bytes ≤ added_up ns → at + added_up ns ≤ length old → bytes_after_segments stag old (chunk_segments (segments_from stag at ns) bytes) ≡ bytes_after_write old at bytes
laid_chunk stag at [] [] old low fits = sym (written_none old at)
laid_chunk stag at [] (b ∷ bytes) old low fits = absurd (omega (arith, low))
laid_chunk stag at (n ∷ ns) bytes old low fits =
    let first = cond (eqb (min n (length bytes)) 0) [] (write_segments stag at (take n bytes)) in
    let others = chunk_segments (segments_from stag (at + n) ns) (drop n bytes) in
    let dropped = length-drop n bytes in
    let taken = length-take n bytes in
    let old2 = bytes_after_write old at (take n bytes) in
    let same = written_length old (take n bytes) at (omega (arith, taken, low, fits)) in
    laid_append stag old first others
    ∙ ap (λ (xs : List ℕ). bytes_after_segments stag xs others) (laid_one stag at n ns bytes old (eqb (min n (length bytes)) 0) refl (omega (arith, low, fits)))
    ∙ laid_chunk stag (at + n) ns (drop n bytes) old2 (omega (arith, dropped, low)) (omega (arith, same, fits))
    ∙ rest_at n at bytes old (omega (arith, low, fits))

-- a chunk of another STag leaves it alone
pub laid_other : (stag other at : ℕ) (ns bytes old : List ℕ) → stag ≢ other → bytes_after_segments stag old (chunk_segments (segments_from other at ns) bytes) ≡ old
laid_other stag other at [] bytes old ne = refl
laid_other stag other at (n ∷ ns) bytes old ne =
    let others = chunk_segments (segments_from other (at + n) ns) (drop n bytes) in
    laid_append stag old (cond (eqb (min n (length bytes)) 0) [] (write_segments other at (take n bytes))) others
    ∙ ap (λ (xs : List ℕ). bytes_after_segments stag xs others) (one (eqb (min n (length bytes)) 0))
    ∙ laid_other stag other (at + n) ns (drop n bytes) old ne
  where
    one : (b : Bool) → bytes_after_segments stag old (cond b [] (write_segments other at (take n bytes))) ≡ old
    one true = refl
    one false = laid_others stag other at (take n bytes) old (range_with_len 0 (segment_count (take n bytes))) ne
