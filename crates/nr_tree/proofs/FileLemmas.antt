-- The bytes of a file from those of its pages.
use Rattle.std.proofs.Common.{◌≡◌, ℕ, ◌+◌, ◌-◌, ◌<◌, ◌≤◌, ◌⊎◌, inl, inr, List, [], ◌++◌, length, take, drop, get_or, ap, sym, ◌∙◌, arith, length-append, length-drop, min, max}
use Rattle.std.proofs.lemmas.List.{places, ext_get_or, get_or_append_left, get_or-append_right}
use Rattle.std.proofs.lemmas.List.FromFn.{length-map-range_with_len, get_or-map-range_with_len}
use Rattle.std.proofs.lemmas.Bool.{cases_lt}
use Rattle.nr_tree.specs.Bytes.{with_bytes_at, with_length}
use Rattle.nr_tree.specs.Paged.{Pages, byte, bytes_in, ArePages, IsOver}

-- ===== length and bytes of what pages hold

pub bytes_length : (ps : Pages) (len : ℕ) → length (bytes_in ps len) ≡ len
bytes_length ps len = length-map-range_with_len (byte ps) 0 len

pub bytes_get : (ps : Pages) (len i : ℕ) → i < len → get_or (bytes_in ps len) i 0 ≡ byte ps i
bytes_get ps len i lt = get_or-map-range_with_len (byte ps) 0 len i i 0 lt (omega arith)

-- ===== a piece written over bytes, by index

gap_length : (bs : List ℕ) (o : ℕ) → length (with_length bs o) ≡ o
gap_length bs o = grind (arith, places)

over_length : (bs xs : List ℕ) (o : ℕ) → length (with_bytes_at bs o xs) ≡ (o + length xs) + (length bs - (o + length xs))
over_length bs xs o = let front : length (with_length bs o) ≡ o = gap_length bs o in omega (arith, length-append (with_length bs o) (xs ++ drop (o + length xs) bs), length-append xs (drop (o + length xs) bs), length-drop (o + length xs) bs, front)

-- before the piece: the bytes, and zeros after them
sized_below : (bs : List ℕ) (o i : ℕ) → i < o → i < length bs → get_or (with_length bs o) i 0 ≡ get_or bs i 0
sized_below bs o i lt low = grind (arith, places)

sized_gap : (bs : List ℕ) (o i : ℕ) → i < o → length bs ≤ i → get_or (with_length bs o) i 0 ≡ 0
sized_gap bs o i lt high = grind (arith, places)

over_before : (bs xs : List ℕ) (o i : ℕ) → i < o → get_or (with_bytes_at bs o xs) i 0 ≡ get_or (with_length bs o) i 0
over_before bs xs o i lt = get_or_append_left (with_length bs o) (xs ++ drop (o + length xs) bs) 0 i (omega (arith, lt, gap_length bs o))

over_from : (bs xs : List ℕ) (o i : ℕ) → o ≤ i → get_or (with_bytes_at bs o xs) i 0 ≡ get_or (xs ++ drop (o + length xs) bs) (i - o) 0
over_from bs xs o i le = get_or-append_right (with_length bs o) (xs ++ drop (o + length xs) bs) o i 0 (gap_length bs o) le

over_inside : (bs xs : List ℕ) (o k : ℕ) → k < length xs → get_or (xs ++ drop (o + length xs) bs) k 0 ≡ get_or xs k 0
over_inside bs xs o k lt = grind (arith, places)

over_after : (bs xs : List ℕ) (o i : ℕ) → o + length xs ≤ i → get_or (xs ++ drop (o + length xs) bs) (i - o) 0 ≡ get_or bs i 0
over_after bs xs o i le = let back : (o + length xs) + ((i - o) - length xs) ≡ i = omega (arith, le) in grind (arith, places)

-- ===== WRITE

module _ (ps qs : Pages) (len n o : ℕ) (xs : List ℕ) (pages : ArePages ps len) (over : IsOver (byte ps) (byte qs) o xs) (last : n ≡ max len (o + length xs)) where
  written_length : n ≡ length (with_bytes_at (bytes_in ps len) o xs)
  written_length = omega (arith, last, over_length (bytes_in ps len) xs o, bytes_length ps len)

  written_at : (i : ℕ) → i < n → byte qs i ≡ get_or (with_bytes_at (bytes_in ps len) o xs) i 0
  written_at i lt = by (cases_lt i o) (cases_lt i (o + length xs)) (cases_lt i len) where
    by : (i < o) ⊎ (o ≤ i) → (i < o + length xs) ⊎ (o + length xs ≤ i) → (i < len) ⊎ (len ≤ i) → byte qs i ≡ get_or (with_bytes_at (bytes_in ps len) o xs) i 0
    by (inl low) b (inl short) =
        over.below i low ∙ sym (over_before (bytes_in ps len) xs o i low ∙ sized_below (bytes_in ps len) o i low (omega (arith, short, bytes_length ps len)) ∙ bytes_get ps len i short)
    by (inl low) b (inr past) =
        over.below i low ∙ pages.ends i past ∙ sym (over_before (bytes_in ps len) xs o i low ∙ sized_gap (bytes_in ps len) o i low (omega (arith, past, bytes_length ps len)))
    by (inr high) (inl inside) c =
        let at : o + (i - o) ≡ i = omega (arith, high) in
        let k : i - o < length xs = omega (arith, high, inside) in
        ap (byte qs) (sym at) ∙ over.inside (i - o) k ∙ sym (over_from (bytes_in ps len) xs o i high ∙ over_inside (bytes_in ps len) xs o (i - o) k)
    by (inr high) (inr after) (inl short) =
        over.above i after ∙ sym (over_from (bytes_in ps len) xs o i high ∙ over_after (bytes_in ps len) xs o i after ∙ bytes_get ps len i short)
    by (inr high) (inr after) (inr past) = absurd (omega (arith, last, lt, after, past))

  pub written : bytes_in qs n ≡ with_bytes_at (bytes_in ps len) o xs
  written = ext_get_or 0 (bytes_in qs n) (with_bytes_at (bytes_in ps len) o xs) (bytes_length qs n ∙ written_length)
      (λ i lt. let short : i < n = omega (arith, lt, bytes_length qs n) in bytes_get qs n i short ∙ written_at i short)

  pub written_ends : (i : ℕ) → n ≤ i → byte qs i ≡ 0
  written_ends i le = over.above i (omega (arith, le, last)) ∙ pages.ends i (omega (arith, le, last))

-- bytes that are the same everywhere
pub same_bytes : (ps qs : Pages) (len : ℕ) → ((i : ℕ) → byte qs i ≡ byte ps i) → bytes_in qs len ≡ bytes_in ps len
same_bytes ps qs len same = ext_get_or 0 (bytes_in qs len) (bytes_in ps len) (bytes_length qs len ∙ sym (bytes_length ps len))
    (λ i lt. let short : i < len = omega (arith, lt, bytes_length qs len) in bytes_get qs len i short ∙ same i ∙ sym (bytes_get ps len i short))

-- ===== SETATTR of the size

pub sized : (ps qs : Pages) (len n : ℕ) → ArePages ps len → ((i : ℕ) → i < n → byte qs i ≡ byte ps i) → bytes_in qs n ≡ with_length (bytes_in ps len) n
sized ps qs len n pages same = ext_get_or 0 (bytes_in qs n) (with_length (bytes_in ps len) n) (bytes_length qs n ∙ sym (gap_length (bytes_in ps len) n))
    (λ i lt. let short : i < n = omega (arith, lt, bytes_length qs n) in bytes_get qs n i short ∙ same i short ∙ at i short (cases_lt i len)) where
      at : (i : ℕ) → i < n → (i < len) ⊎ (len ≤ i) → byte ps i ≡ get_or (with_length (bytes_in ps len) n) i 0
      at i lt (inl short) = sym (sized_below (bytes_in ps len) n i lt (omega (arith, short, bytes_length ps len)) ∙ bytes_get ps len i short)
      at i lt (inr past) = pages.ends i past ∙ sym (sized_gap (bytes_in ps len) n i lt (omega (arith, past, bytes_length ps len)))

pub longer_pages : (ps : Pages) (len n : ℕ) → ArePages ps len → len ≤ n → ArePages ps n
longer_pages ps len n pages le = record { sized = pages.sized; set = pages.set; ends = λ i past. pages.ends i (omega (arith, le, past)) }

-- ===== READ

drawn_length : (bs : List ℕ) (o room count : ℕ) → length (take count (take room (drop o bs))) ≡ min count (min room (length bs - o))
drawn_length bs o room count = grind (arith, places)

drawn_at : (bs : List ℕ) (o room count k : ℕ) → k < count → k < room → get_or (take count (take room (drop o bs))) k 0 ≡ get_or bs (o + k) 0
drawn_at bs o room count k a b = grind (arith, places)

pub drawn : (ps : Pages) (len o room count n : ℕ) (xs : List ℕ) → n ≡ min count (min room (len - o)) → length xs ≡ n → ((k : ℕ) → k < n → get_or xs k 0 ≡ byte ps (o + k))
    → xs ≡ take count (take room (drop o (bytes_in ps len)))
drawn ps len o room count n xs least long is = ext_get_or 0 xs (take count (take room (drop o (bytes_in ps len))))
    (long ∙ least ∙ sym (drawn_length (bytes_in ps len) o room count ∙ ap (λ (l : ℕ). min count (min room (l - o))) (bytes_length ps len)))
    (λ k lt. let in_n : k < n = omega (arith, lt, long) in
    let in_file : o + k < len = omega (arith, in_n, least) in
    is k in_n ∙ sym (drawn_at (bytes_in ps len) o room count k (omega (arith, in_n, least)) (omega (arith, in_n, least)) ∙ bytes_get ps len (o + k) in_file))

pub drawn_none : (ps : Pages) (len o room count : ℕ) → len ≤ o → [] ≡ take count (take room (drop o (bytes_in ps len)))
drawn_none ps len o room count past = none (bytes_in ps len) o room count (omega (arith, past, bytes_length ps len)) where
  none : (bs : List ℕ) (o room count : ℕ) → length bs ≤ o → [] ≡ take count (take room (drop o bs))
  none bs o room count le = ext_get_or 0 [] (take count (take room (drop o bs))) (omega (arith, le, drawn_length bs o room count)) (λ k lt. absurd (omega (arith, lt)))
