-- The segments of a chunk: how many there are, how long they are, and the lists that they make.
use Rattle.std.proofs.Common.{◌≡◌, ℕ, zero, suc, ◌+◌, ◌-◌, ◌*◌, ◌/◌, ◌^◌, ◌<◌, ◌≤◌, min, Bool, true, false, cond, not, eqb, leb, List, [], ◌∷◌, length, All, sum, Some, refl, sym, ap, ◌∙◌, arith, get_or}
use Rattle.std.specs.Prelude.{find}
use Rattle.std.proofs.lemmas.Bool.{leb-true, leb-false, ne_eqb}
use Rattle.std.proofs.lemmas.List.Elements.{All-nil, All-cons}
use Rattle.std.proofs.lemmas.List.Sums.{sum_by-cons}
use Rattle.nr_xdr.specs.Item.{Item}
use Rattle.nr_xdr.specs.Items.{AllFit}
use Rattle.nr_header.specs.declared.header.RdmaSegment.{RdmaSegment}
use Rattle.nr_header.specs.declared.header.ReadSegment.{ReadSegment}
use Rattle.nr_header.specs.Header.{read_items, segments_items}
use Rattle.nr_header.specs.WithinLimits.{Ends, SegmentsEnd, read_total}
use Rattle.nr_reduce.specs.Limits.{chunk_segment_max}
use Rattle.nr_reduce.specs.Plans.{segments_within, segments_for, has_segment, segments_from, entries_from}
use Rattle.nr_reduce.specs.Chunks.{position_of, item_position, total_at}
use Rattle.nr_reduce.specs.ServerMessages.{has_position}
use Rattle.nr_reduce.proofs.Offers.{at_all}
use Rattle.nr_reduce.proofs.WrittenChunks.{added_up}

-- ---- The segments of n bytes

one_sum : (n : ℕ) → sum (n ∷ []) ≡ n
one_sum n = (let s = sum_by-cons (λ (k : ℕ). k) n [] in omega (arith, s))

within_sum : (more n : ℕ) → sum (segments_within more n) ≡ n
within_sum zero n = one_sum n
within_sum (suc more) n = by (leb n chunk_segment_max) refl (within_sum more (n - chunk_segment_max))
  where
    by : (b : Bool) → leb n chunk_segment_max ≡ b → sum (segments_within more (n - chunk_segment_max)) ≡ n - chunk_segment_max
        → sum (cond b (n ∷ []) (chunk_segment_max ∷ segments_within more (n - chunk_segment_max))) ≡ n
    by true e rest = one_sum n
    by false e rest =
        let s = sum_by-cons (λ (k : ℕ). k) chunk_segment_max (segments_within more (n - chunk_segment_max)) in
        let more_than = leb-false n chunk_segment_max e in
        omega (arith, s, rest, more_than)

pub segments_sum : (n : ℕ) → sum (segments_for n) ≡ n
unfolding segments_for
segments_sum n = within_sum (n / chunk_segment_max) n

within_count : (more n : ℕ) → n ≤ chunk_segment_max * more + chunk_segment_max → length (segments_within more n) ≡ (n - 1) / chunk_segment_max + 1
within_count zero n le = omega (arith, le)
within_count (suc more) n le = by (leb n chunk_segment_max) refl (λ fits. within_count more (n - chunk_segment_max) fits)
  where
    by : (b : Bool) → leb n chunk_segment_max ≡ b
        → (n - chunk_segment_max ≤ chunk_segment_max * more + chunk_segment_max → length (segments_within more (n - chunk_segment_max)) ≡ (n - chunk_segment_max - 1) / chunk_segment_max + 1)
        → length (cond b (n ∷ []) (chunk_segment_max ∷ segments_within more (n - chunk_segment_max))) ≡ (n - 1) / chunk_segment_max + 1
    by true e rest = (let at_most = leb-true n chunk_segment_max e in omega (arith, at_most))
    by false e rest = (let more_than = leb-false n chunk_segment_max e in let r = rest (omega (arith, le)) in omega (arith, r, more_than))

pub count_is : (n : ℕ) → length (segments_for n) ≡ (n - 1) / chunk_segment_max + 1
unfolding segments_for
count_is n = within_count (n / chunk_segment_max) n (omega arith)

within_at : (more n i d : ℕ) → n ≤ chunk_segment_max * more + chunk_segment_max → i < length (segments_within more n) → get_or (segments_within more n) i d ≡ min (n - i * chunk_segment_max) chunk_segment_max
within_at zero n zero d le lt = omega (arith, le)
within_at zero n (suc i) d le lt = absurd (omega (arith, lt))
within_at (suc more) n i d le lt = by (leb n chunk_segment_max) refl i lt (λ j fits. within_at more (n - chunk_segment_max) j d fits)
  where
    rest : List ℕ
    rest = segments_within more (n - chunk_segment_max)

    by : (b : Bool) → leb n chunk_segment_max ≡ b → (i : ℕ) → i < length (cond b (n ∷ []) (chunk_segment_max ∷ rest))
        → ((j : ℕ) → n - chunk_segment_max ≤ chunk_segment_max * more + chunk_segment_max → j < length rest → get_or rest j d ≡ min (n - chunk_segment_max - j * chunk_segment_max) chunk_segment_max)
        → get_or (cond b (n ∷ []) (chunk_segment_max ∷ rest)) i d ≡ min (n - i * chunk_segment_max) chunk_segment_max
    by true e zero lt later = (let at_most = leb-true n chunk_segment_max e in omega (arith, at_most))
    by true e (suc i) lt later = absurd (omega (arith, lt))
    by false e zero lt later = (let more_than = leb-false n chunk_segment_max e in omega (arith, more_than))
    by false e (suc i) lt later = (let r = later i (omega (arith, le)) (omega (arith, lt)) in omega (arith, r))

pub length_at : (n i d : ℕ) → i < length (segments_for n) → get_or (segments_for n) i d ≡ min (n - i * chunk_segment_max) chunk_segment_max
unfolding segments_for
length_at n i d lt = within_at (n / chunk_segment_max) n i d (omega arith) lt

pub begins_within : (n i : ℕ) → i < length (segments_for n) → i * chunk_segment_max ≤ n
begins_within n i lt = (let c = count_is n in omega (arith, c, lt))

pub some_segment : (n : ℕ) → has_segment (Some (segments_for n)) ≡ true
some_segment n = by (segments_for n) (let c = count_is n in omega (arith, c))
  where
    by : (lengths : List ℕ) → 0 < length lengths → has_segment (Some lengths) ≡ true
    by [] lt = absurd (omega (arith, lt))
    by (m ∷ lengths) lt = refl

pub no_zero_count : (n : ℕ) → eqb (length (segments_for n)) 0 ≡ false
no_zero_count n = ne_eqb (length (segments_for n)) 0 (λ e. (let c = count_is n in omega (arith, e, c)))

-- ---- The lists of segments

pub all_added : (lengths : List ℕ) → sum lengths ≡ added_up lengths
all_added [] = refl
all_added (n ∷ lengths) = (let s = sum_by-cons (λ (k : ℕ). k) n lengths in let r = all_added lengths in omega (arith, s, r))

pub own_added : (n : ℕ) → added_up (segments_for n) ≡ n
own_added n = sym (all_added (segments_for n)) ∙ segments_sum n

pub entries_fit : (position handle offset : ℕ) (lengths : List ℕ) (more : List Item) → position < 2 ^ 32 → (0 < length lengths → handle < 2 ^ 32) → offset + added_up lengths < 2 ^ 32 → AllFit more
    → AllFit (read_items (entries_from position handle offset lengths) more)
entries_fit position handle offset [] more p h o m = (tt, m)
entries_fit position handle offset (n ∷ lengths) more p h o m =
    (tt, (p, (h (omega arith), (omega (arith, o), (omega (arith, o), entries_fit position handle (offset + n) lengths more p (λ some. h (omega arith)) (omega (arith, o)) m)))))

pub segments_fit : (handle offset : ℕ) (lengths : List ℕ) (more : List Item) → (0 < length lengths → handle < 2 ^ 32) → offset + added_up lengths < 2 ^ 32 → AllFit more → AllFit (segments_items (segments_from handle offset lengths) more)
segments_fit handle offset [] more h o m = m
segments_fit handle offset (n ∷ lengths) more h o m =
    (h (omega arith), (omega (arith, o), (omega (arith, o), segments_fit handle (offset + n) lengths more (λ some. h (omega arith)) (omega (arith, o)) m)))

pub segments_end : (handle offset : ℕ) (lengths : List ℕ) → offset + added_up lengths ≤ 2 ^ 64 → SegmentsEnd (segments_from handle offset lengths)
segments_end handle offset [] h = All-nil _
segments_end handle offset (n ∷ lengths) h = All-cons (λ (s : RdmaSegment). Ends s.offset s.length) _ _ (omega (arith, h)) (segments_end handle (offset + n) lengths (omega (arith, h)))

pub entries_end : (position handle offset : ℕ) (lengths : List ℕ) → offset + added_up lengths ≤ 2 ^ 64 → All (λ (r : ReadSegment). Ends r.offset r.length) (entries_from position handle offset lengths)
entries_end position handle offset [] h = All-nil _
entries_end position handle offset (n ∷ lengths) h = All-cons (λ (r : ReadSegment). Ends r.offset r.length) _ _ (omega (arith, h)) (entries_end position handle (offset + n) lengths (omega (arith, h)))

pub entries_at : (P : ℕ → Type 0) (position handle offset : ℕ) (lengths : List ℕ) → P position → All (λ (r : ReadSegment). P r.position) (entries_from position handle offset lengths)
entries_at P position handle offset [] p = All-nil _
entries_at P position handle offset (n ∷ lengths) p = All-cons (λ (r : ReadSegment). P r.position) _ _ p (entries_at P position handle (offset + n) lengths p)

pub entries_total : (position handle offset : ℕ) (lengths : List ℕ) → read_total (entries_from position handle offset lengths) ≡ added_up lengths
entries_total position handle offset [] = refl
entries_total position handle offset (n ∷ lengths) =
    let s = sum_by-cons (λ (r : ReadSegment). r.length) (record { position = position; handle = handle; length = n; offset = offset }) (entries_from position handle (offset + n) lengths) in
    let r = entries_total position handle (offset + n) lengths in
    omega (arith, s, r)

pub item_at : (position handle offset : ℕ) (lengths : List ℕ) → has_segment (Some lengths) ≡ true → eqb position 0 ≡ false → item_position (entries_from position handle offset lengths) ≡ Some position
unfolding item_position
item_at position handle offset [] some apart = absurd cc
item_at position handle offset (n ∷ lengths) some apart =
    ap (λ (b : Bool). position_of (cond (not b) (Some (record { position = position; handle = handle; length = n; offset = offset })) (find (λ (r : ReadSegment). not (eqb r.position 0)) (entries_from position handle (offset + n) lengths)))) apart

pub total_own : (position handle offset : ℕ) (lengths : List ℕ) → total_at position (entries_from position handle offset lengths) ≡ added_up lengths
unfolding total_at
total_own position handle offset lengths = ap (λ (es : List ReadSegment). read_total es) (at_all position handle offset lengths) ∙ entries_total position handle offset lengths

pub is_at_zero : (handle offset : ℕ) (lengths : List ℕ) → has_segment (Some lengths) ≡ true → has_position (entries_from 0 handle offset lengths) ≡ true
is_at_zero handle offset [] some = absurd cc
is_at_zero handle offset (n ∷ lengths) some = refl
