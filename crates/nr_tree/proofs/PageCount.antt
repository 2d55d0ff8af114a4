-- How many pages are kept.
use Rattle.std.proofs.Common.{◌≡◌, ℕ, zero, suc, ◌+◌, ◌-◌, ◌*◌, ◌/◌, ◌%◌, ◌<◌, ◌≤◌, ◌⊎◌, inl, inr, Bool, true, false, cond, List, [], ◌∷◌, length, take, drop, get_or, Option, None, Some, IfSome, is_some, refl, ap, sym, ◌∙◌, subst, arith, min, true≢false, ◌≢◌, All}
use Rattle.std.proofs.lemmas.List.{places, get_or_default, get_or-map, length-map}
use Rattle.std.proofs.lemmas.List.Folds.{Any-from_list_any, list_any_at, list_any_none}
use Rattle.std.proofs.lemmas.Bool.{cases_lt, cases_eq}
use Rattle.std.proofs.lemmas.Bool.Decides.{nat_tests}
use Rattle.std.proofs.lemmas.Map.Keys.{sorted_head, sorted_tail, below_from_sorted, le_from_not_gt}
use Rattle.std.proofs.lemmas.Map.Views.{by_place}
use Rattle.std.specs.Prelude.{slice_index_or}
use Rattle.std.specs.List.{filter, range_with_len, AllByRecursion}
use Rattle.std.specs.List.Sorted.{IsStrictlySortedBy}
use Rattle.std.specs.Map.{keys_of}
use Rattle.std.specs.BTreeMap.{is_at, BTreeMap}
use Rattle.std.specs.BTreeMap.Range.{IsEntryInRange, EntryPlaces}
use Rattle.std.specs.declared.ops.Bound.TheVariants.{Included, Excluded}
use Rattle.std.specs.Ordering.{nat_cmp, is_eq}
use Rattle.std.specs.declared.cmp.Ordering.TheVariants.{Less}
use Rattle.std.specs.declared.vec.Vec.{Vec}
use Rattle.std.specs.declared.alloc.Global.{Global}
use Rattle.nr_tree.specs.Pages.{page_size, is_set, page_is_set, pages_of}
use Rattle.nr_tree.specs.Paged.{Pages, page, items_of, byte, bytes_in, HasSize, HasByte, ArePages}
use Rattle.std.specs.FinMap.{get}
use Rattle.nr_tree.specs.Tree.{Tree, is_regular, is_regular_content, bytes_of}
use Rattle.nr_tree.specs.Sane.{IsSane, IsValidContent, file_size_max}
use Rattle.nr_tree.specs.declared.node.Node.{Node}
use Rattle.nr_tree.specs.declared.node.Content.{Content}
use Rattle.nr_tree.specs.declared.node.Content.TheVariants.{Regular, Directory, Block, Character, Link, Socket, Fifo}
use Rattle.nr_tree.proofs.PageLemmas.{other_number, byte_none}
use Rattle.nr_tree.proofs.FileLemmas.{bytes_length, bytes_get}

-- ===== counts over a range

abbrev pub one : Bool → ℕ
one b = cond b 1 0

abbrev pub count : (ℕ → Bool) → ℕ → ℕ → ℕ
count test from zero = 0
count test from (suc n) = one (test from) + count test (from + 1) n

filter_counts : (test : ℕ → Bool) (from n : ℕ) → length (filter test (range_with_len from n)) ≡ count test from n
filter_counts test from zero = refl
filter_counts test from (suc n) = by (test from) (filter_counts test (from + 1) n) where
  by : (b : Bool) → length (filter test (range_with_len (from + 1) n)) ≡ count test (from + 1) n
      → length (cond b (from ∷ filter test (range_with_len (from + 1) n)) (filter test (range_with_len (from + 1) n))) ≡ one b + count test (from + 1) n
  by true h = omega (arith, h)
  by false h = omega (arith, h)

count_same : (f g : ℕ → Bool) → ((p : ℕ) → f p ≡ g p) → (from n : ℕ) → count f from n ≡ count g from n
count_same f g same from zero = refl
count_same f g same from (suc n) = omega (arith, ap one (same from), count_same f g same (from + 1) n)

count_none : (from n : ℕ) → count (λ p. false) from n ≡ 0
count_none from zero = refl
count_none from (suc n) = omega (arith, count_none (from + 1) n)

-- tests that differ at a number before the range
count_past : (f g : ℕ → Bool) (k : ℕ) → ((p : ℕ) → p ≢ k → f p ≡ g p) → (from n : ℕ) → k < from → count f from n ≡ count g from n
count_past f g k same from zero lt = refl
count_past f g k same from (suc n) lt = let ne : from ≢ k = omega (arith, lt) in omega (arith, ap one (same from ne), count_past f g k same (from + 1) n (omega (arith, lt)))

-- a test that one number passes more
count_more : (f g : ℕ → Bool) (k : ℕ) → f k ≡ true → g k ≡ false → ((p : ℕ) → p ≢ k → f p ≡ g p) → (from n : ℕ) → from ≤ k → k < from + n → count f from n ≡ suc (count g from n)
count_more f g k holds fails same from zero le lt = absurd (omega (arith, le, lt))
count_more f g k holds fails same from (suc n) le lt = by (cases_eq from k) (λ a b. count_more f g k holds fails same (from + 1) n a b) where
  by : (from ≡ k) ⊎ (from ≡ k → ⊥) → (from + 1 ≤ k → k < from + 1 + n → count f (from + 1) n ≡ suc (count g (from + 1) n)) → one (f from) + count f (from + 1) n ≡ suc (one (g from) + count g (from + 1) n)
  by (inl e) again =
      let here : one (f from) ≡ 1 = ap (λ (q : ℕ). one (f q)) e ∙ ap one holds in
      let there : one (g from) ≡ 0 = ap (λ (q : ℕ). one (g q)) e ∙ ap one fails in
      omega (arith, here, there, count_past f g k same (from + 1) n (omega (arith, e)))
  by (inr ne) again =
      let more : count f (from + 1) n ≡ suc (count g (from + 1) n) = again (omega (arith, le, ne)) (omega (arith, lt)) in
      omega (arith, ap one (same from ne), more)

-- ===== the keys of a map

is_here : (k : ℕ) → is_at (nat_cmp k) k ≡ true
is_here k = grind (arith, nat_tests)

above_none : (k : ℕ) (es : Pages) → AllByRecursion (λ y. nat_cmp k y ≡ Less) (keys_of es) → is_some (page es k) ≡ false
above_none k [] all = refl
above_none k (e ∷ es) all =
    let fails : is_at (nat_cmp k) e.0 ≡ false = ap is_eq all.0 in
    ap (λ (b : Bool). is_some (cond b (Some e.1) (page es k))) fails ∙ above_none k es all.1

-- a map with keys below n has as many as numbers below n have a page
pub keys_counted : (es : Pages) (n : ℕ) → IsStrictlySortedBy nat_cmp (keys_of es) → ((p : ℕ) → is_some (page es p) ≡ true → p < n) → count (λ p. is_some (page es p)) 0 n ≡ length es
keys_counted [] n sorted below = count_none 0 n
keys_counted (e ∷ es) n sorted below =
    let mine : is_some (page (e ∷ es) e.0) ≡ true = ap (λ (b : Bool). is_some (cond b (Some e.1) (page es e.0))) (is_here e.0) in
    count_more (λ p. is_some (page (e ∷ es) p)) (λ p. is_some (page es p)) e.0 mine (above_none e.0 es (sorted_head nat_cmp e.0 (keys_of es) sorted)) (λ p ne. rest p ne) 0 n (omega arith) (omega (arith, below e.0 mine))
    ∙ ap suc (keys_counted es n (sorted_tail nat_cmp e.0 (keys_of es) sorted) (λ p there. below p (still p there))) where
      rest : (p : ℕ) → p ≢ e.0 → is_some (page (e ∷ es) p) ≡ is_some (page es p)
      rest p ne = ap (λ (b : Bool). is_some (cond b (Some e.1) (page es p))) (other_number p e.0 (λ s. ne (sym s)))

      still : (p : ℕ) → is_some (page es p) ≡ true → is_some (page (e ∷ es) p) ≡ true
      still p there = by (is_at (nat_cmp p) e.0) there where
        by : (b : Bool) → is_some (page es p) ≡ true → is_some (cond b (Some e.1) (page es p)) ≡ true
        by true h = refl
        by false h = h

-- ===== a range that has as many pages as numbers

-- numbers that rise
rising : (f : ℕ → ℕ) (n : ℕ) → ((i j : ℕ) → i < j → j < n → f i < f j) → (i k : ℕ) → i + k < n → f i + k ≤ f (i + k)
rising f n below i zero lt = let e : i + 0 ≡ i = omega arith in omega (arith, ap f e)
rising f n below i (suc k) lt =
    let e : i + suc k ≡ (i + k) + 1 = omega arith in
    omega (arith, rising f n below i k (omega (arith, lt)), below (i + k) ((i + k) + 1) (omega arith) (omega (arith, lt)), ap f e)

-- n of them that lie from first on, below first + n
dense : (f : ℕ → ℕ) (n first end i : ℕ) → ((i j : ℕ) → i < j → j < n → f i < f j) → ((k : ℕ) → k < n → first ≤ f k) → ((k : ℕ) → k < n → f k < end) → end ≤ first + n → i < n → f i ≡ first + i
dense f n first end i below low high many lt =
    let at : 0 + i ≡ i = omega arith in
    let last : i + ((n - 1) - i) < n = omega (arith, lt) in
    omega (arith, rising f n below 0 i (omega (arith, lt)), ap f at, low 0 (omega (arith, lt)), rising f n below i ((n - 1) - i) last, high (i + ((n - 1) - i)) last, many, lt)

less : (a b : ℕ) → nat_cmp a b ≡ Less → a < b
less a b is = grind (arith, nat_tests, is)

module _ (m : BTreeMap ℕ (Vec ℕ Global)) (r : Pages) (d : ℕ × Vec ℕ Global) (first end : ℕ) (inside : All (IsEntryInRange nat_cmp (Included first) (Excluded end) m) r) (stands : EntryPlaces m.entries r)
    (sorted : IsStrictlySortedBy nat_cmp (keys_of m.entries)) (many : end ≤ first + length r) where
  abbrev key : ℕ → ℕ
  key k = (get_or r k d).0

  key_at : (k : ℕ) → k < length r → get_or (keys_of m.entries) (stands.start + k) d.0 ≡ key k
  key_at k lt =
      let there = stands.entries k d by_place lt in
      get_or-map (λ (e : ℕ × Vec ℕ Global). e.0) m.entries (stands.start + k) d d.0 there.0 ∙ ap (λ (e : ℕ × Vec ℕ Global). e.0) (sym there.1)

  keys_rise : (i j : ℕ) → i < j → j < length r → key i < key j
  keys_rise i j lt short =
      let there = stands.entries j d by_place short in
      let fits : stands.start + j < length (keys_of m.entries) = omega (arith, there.0, length-map m.entries (λ (e : ℕ × Vec ℕ Global). e.0)) in
      let below : get_or (keys_of m.entries) (stands.start + i) d.0 < get_or (keys_of m.entries) (stands.start + j) d.0 = below_from_sorted (keys_of m.entries) (stands.start + i) (stands.start + j) d.0 sorted (omega (arith, lt)) fits in
      omega (arith, below, key_at i (omega (arith, lt, short)), key_at j short)

  kept_between : (p : ℕ) → first ≤ p → p < end → is_some (page m.entries p) ≡ true
  kept_between p from to =
      let short : p - first < length r = omega (arith, many, from, to) in
      let at : key (p - first) ≡ first + (p - first) = dense key (length r) first end (p - first) keys_rise (λ k lt. le_from_not_gt _ _ (inside k d lt).0.0) (λ k lt. less _ _ (inside k d lt).0.1) many short in
      let same : key (p - first) ≡ p = omega (arith, at, from) in
      subst (λ (q : ℕ). is_some (page m.entries q) ≡ true) same (ap is_some (inside (p - first) d short).1)

pub all_kept : (m : BTreeMap ℕ (Vec ℕ Global)) (r : Pages) (first end : ℕ) → All (IsEntryInRange nat_cmp (Included first) (Excluded end) m) r → EntryPlaces m.entries r → IsStrictlySortedBy nat_cmp (keys_of m.entries) → end ≤ first + length r
    → (p : ℕ) → first ≤ p → p < end → is_some (page m.entries p) ≡ true
all_kept m [] first end inside stands sorted many p from to = absurd (omega (arith, many, from, to))
all_kept m (d ∷ r) first end inside stands sorted many p from to = kept_between m (d ∷ r) d first end inside stands sorted many p from to

-- ===== a page is kept if and only if it holds a byte that isn't 0

unset : (b : ℕ) → b ≡ 0 → is_set b ≡ false
unset b e = ap is_set e

not_zero : (b : ℕ) → is_set b ≡ true → b ≢ 0
not_zero b holds e = true≢false (sym holds ∙ unset b e)

parts_length : (n from : ℕ) (bs : List ℕ) → length (take n (drop from bs)) ≡ min n (length bs - from)
parts_length n from bs = grind (arith, places)

parts_get : (n from j : ℕ) (bs : List ℕ) → j < n → get_or (take n (drop from bs)) j 0 ≡ get_or bs (from + j) 0
parts_get n from j bs lt = grind (arith, places)

module _ (ps : Pages) (len : ℕ) (pages : ArePages ps len) where
  -- the byte that a page has
  some_byte : (p : ℕ) (v : Vec ℕ Global) → page ps p ≡ Some v → (j : ℕ) × (j < page_size) × (is_set (byte ps (page_size * p + j)) ≡ true)
  some_byte p v here =
      let size : length v.items ≡ page_size = subst (λ (o : Option (Vec ℕ Global)). IfSome o HasSize) here (pages.sized p) in
      let any : (j : ℕ) × (x : ℕ) × (j < length v.items) × (slice_index_or v.items j x ≡ x) × (is_set x ≡ true) = Any-from_list_any is_set v.items (subst (λ (o : Option (Vec ℕ Global)). IfSome o HasByte) here (pages.set p)) in
      let short : any.0 < page_size = omega (arith, any.2, size) in
      let number : (page_size * p + any.0) / page_size ≡ p = omega (arith, short) in
      let at : (page_size * p + any.0) % page_size ≡ any.0 = omega (arith, short) in
      let is : byte ps (page_size * p + any.0) ≡ any.1 =
      ap (λ (q : ℕ). get_or (items_of (page ps q)) ((page_size * p + any.0) % page_size) 0) number
      ∙ ap (λ (o : Option (Vec ℕ Global)). get_or (items_of o) ((page_size * p + any.0) % page_size) 0) here
      ∙ ap (λ (j : ℕ). get_or v.items j 0) at ∙ get_or_default v.items any.0 0 any.1 any.2 ∙ any.3 in
      (any.0, short, ap is_set is ∙ any.4)

  kept_below : (p j : ℕ) → is_set (byte ps (page_size * p + j)) ≡ true → page_size * p + j < len
  kept_below p j holds = by (cases_lt (page_size * p + j) len) where
    by : (page_size * p + j < len) ⊎ (len ≤ page_size * p + j) → page_size * p + j < len
    by (inl lt) = lt
    by (inr past) = absurd (not_zero (byte ps (page_size * p + j)) holds (pages.ends (page_size * p + j) past))

  abbrev part : ℕ → List ℕ
  part p = take page_size (drop (page_size * p) (bytes_in ps len))

  part_length : (p : ℕ) → length (part p) ≡ min page_size (len - page_size * p)
  part_length p = parts_length page_size (page_size * p) (bytes_in ps len) ∙ ap (λ (l : ℕ). min page_size (l - page_size * p)) (bytes_length ps len)

  part_get : (p j : ℕ) → j < length (part p) → get_or (part p) j 0 ≡ byte ps (page_size * p + j)
  part_get p j lt =
      let short : j < page_size = omega (arith, lt, part_length p) in
      let in_file : page_size * p + j < len = omega (arith, lt, part_length p) in
      parts_get page_size (page_size * p) j (bytes_in ps len) short ∙ bytes_get ps len (page_size * p + j) in_file

  is_kept : (p : ℕ) → page_is_set (bytes_in ps len) p ≡ is_some (page ps p)
  is_kept p = by (page ps p) refl where
    by : (o : Option (Vec ℕ Global)) → page ps p ≡ o → page_is_set (bytes_in ps len) p ≡ is_some o
    by (Some v) here =
        let found : (j : ℕ) × (j < page_size) × (is_set (byte ps (page_size * p + j)) ≡ true) = some_byte p v here in
        let in_file : page_size * p + found.0 < len = kept_below p found.0 found.2 in
        let in_part : found.0 < length (part p) = omega (arith, found.1, in_file, part_length p) in
        list_any_at is_set (part p) found.0 0 in_part (ap is_set (part_get p found.0 in_part) ∙ found.2)
    by None none = list_any_none is_set (part p) (λ j d lt.
        let short : j < page_size = omega (arith, lt, part_length p) in
        let number : (page_size * p + j) / page_size ≡ p = omega (arith, short) in
        unset (get_or (part p) j d) (get_or_default (part p) j d 0 lt ∙ part_get p j lt ∙ byte_none ps (page_size * p + j) (ap (page ps) number ∙ none)))

  -- the number of a page is below the length
  number_below : (p : ℕ) → is_some (page ps p) ≡ true → p < len
  number_below p holds = by (page ps p) refl holds where
    by : (o : Option (Vec ℕ Global)) → page ps p ≡ o → is_some o ≡ true → p < len
    by None none holds = absurd (true≢false (sym holds))
    by (Some v) here holds =
        let found : (j : ℕ) × (j < page_size) × (is_set (byte ps (page_size * p + j)) ≡ true) = some_byte p v here in
        omega (arith, kept_below p found.0 found.2)

  pub pages_counted : IsStrictlySortedBy nat_cmp (keys_of ps) → length ps ≡ pages_of (bytes_in ps len)
  pages_counted sorted =
      sym (ap (λ (l : ℕ). length (filter (page_is_set (bytes_in ps len)) (range_with_len 0 l))) (bytes_length ps len)
      ∙ filter_counts (page_is_set (bytes_in ps len)) 0 len
      ∙ count_same (page_is_set (bytes_in ps len)) (λ p. is_some (page ps p)) is_kept 0 len
      ∙ keys_counted ps len sorted number_below)

-- ===== no more pages than bytes

some_same : (x y : ℕ) → Some x ≡ Some y → x ≡ y
some_same x y e = cc

filter_fewer : (test : ℕ → Bool) (from n : ℕ) → length (filter test (range_with_len from n)) ≤ n
filter_fewer test from zero = omega arith
filter_fewer test from (suc n) = by (test from) (filter_fewer test (from + 1) n) where
  by : (b : Bool) → length (filter test (range_with_len (from + 1) n)) ≤ n → length (cond b (from ∷ filter test (range_with_len (from + 1) n)) (filter test (range_with_len (from + 1) n))) ≤ suc n
  by true h = omega (arith, h)
  by false h = omega (arith, h)

pages_below : (node : Node) (k : ℕ) → IsValidContent node.content → cond (is_regular node) (Some (pages_of (bytes_of node.content))) None ≡ Some k → k ≤ file_size_max
pages_below node k valid is = by node.content valid is where
  by : (content : Content) → IsValidContent content → cond (is_regular_content content) (Some (pages_of (bytes_of content))) None ≡ Some k → k ≤ file_size_max
  by (Regular bytes) valid is =
      let same : pages_of bytes ≡ k = some_same (pages_of bytes) k is in
      omega (arith, same, filter_fewer (page_is_set bytes) 0 (length bytes), valid)
  by (Directory entries) valid is = absurd cc
  by (Block device) valid is = absurd cc
  by (Character device) valid is = absurd cc
  by (Link path) valid is = absurd cc
  by Socket valid is = absurd cc
  by Fifo valid is = absurd cc

pub pages_fit : (t : Tree) (number : ℕ) (node : Node) (k : ℕ) → IsSane t → get t.nodes number ≡ Some node → cond (is_regular node) (Some (pages_of (bytes_of node.content))) None ≡ Some k → k < 4294967296
pages_fit t number node k sane here is = omega (arith, pages_below node k (sane.contents number node here) is)
