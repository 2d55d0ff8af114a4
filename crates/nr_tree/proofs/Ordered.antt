-- Slots, an order of their indexes, and the entries that they make up.
use Rattle.std.proofs.Common.{◌≡◌, ℕ, zero, suc, ◌+◌, ◌-◌, ◌<◌, ◌≤◌, Bool, true, false, cond, List, [], ◌∷◌, ◌++◌, length, drop, get_or, set, remove, Option, None, Some, MatchOption, refl, ap, sym, ◌∙◌, subst, arith, length-append, inl, inr, ◌⊎◌}
use Rattle.std.proofs.Math.ListN.{get_or-append}
use Rattle.std.proofs.Math.Seq.{get_or-append_seam}
use Rattle.std.proofs.lemmas.Bool.{cases_eq, cases_lt, le-ltb}
use Rattle.std.proofs.lemmas.List.{drop-map, ext_get_or, get_or-map, get_or-set_same, get_or-set_other, get_or-take, length-map, length-set, length-take-le, map-append}
use Rattle.std.proofs.lemmas.List.Edits.{length-remove, get_or-remove_below, get_or-remove_above}
use Rattle.std.proofs.lemmas.Option.{slice_get-get_or, get_or_from_slice_get}
use Rattle.std.specs.Prelude.{slice_get, slice_index}
use Rattle.std.specs.List.{swap_remove}
use Rattle.std.specs.Option.{option_map}
use Rattle.indexmap.proofs.SetLemmas.{map-remove}
use Rattle.nr_tree.specs.Entries.{Entry, CookiesAscend, is_name, entry_of_name, list_without}
use Rattle.nr_tree.specs.Listing.{entries_after, count_until}
use Rattle.nr_tree.specs.private.Slots.{no_entry, ordered, IsOrdered}
use Rattle.nr_tree.specs.private.Indexes.{IsIndexOf}
use Rattle.nr_tree.proofs.Contents.{rise_from, found_none, CookiesAscend_append}
use Rattle.nr_tree.proofs.ListingLemmas.{all_above, cookie_from, listed_or_counted}

abbrev at : List Entry → ℕ → Entry
at es i = get_or es i no_entry

-- ===== what is at a place

pub ordered_at : (es : List Entry) (order : List ℕ) (k : ℕ) → k < length order → at (ordered es order) k ≡ at es (slice_index order k)
ordered_at es order k lt = get_or-map (λ i. get_or es i no_entry) order k 0 no_entry lt

pub length_ordered : (es : List Entry) (order : List ℕ) → length (ordered es order) ≡ length order
length_ordered es order = length-map order (λ i. get_or es i no_entry)

pub ordered_get : (es : List Entry) (order : List ℕ) (k : ℕ) → k < length order → slice_get (ordered es order) k ≡ Some (at es (slice_index order k))
ordered_get es order k lt = slice_get-get_or (ordered es order) k no_entry (omega (arith, lt, length_ordered es order)) ∙ ap Some (ordered_at es order k lt)

pub same_ordered : (es fs : List Entry) (xs ys : List ℕ) → length xs ≡ length ys → ((k : ℕ) → k < length xs → at es (slice_index xs k) ≡ at fs (slice_index ys k)) → ordered es xs ≡ ordered fs ys
same_ordered es fs xs ys len same =
    ext_get_or no_entry (ordered es xs) (ordered fs ys) (length_ordered es xs ∙ len ∙ sym (length_ordered fs ys))
    (λ k lt.
    let here : k < length xs = omega (arith, lt, length_ordered es xs) in
    ordered_at es xs k here ∙ same k here ∙ sym (ordered_at fs ys k (omega (arith, here, len))))

-- ===== the place of a cookie

counts : (c from : ℕ) (es : List Entry) (next k : ℕ) → CookiesAscend from es next → option_map (λ (e : Entry). e.cookie) (slice_get es k) ≡ Some c → count_until c es ≡ suc k
counts c from [] next k up here = absurd cc
counts c from (e ∷ es) next zero up here =
    let same : e.cookie ≡ c = cc in
    let none : entries_after c es ≡ es = all_above c (e.cookie + 1) es next up.1 (omega (arith, same)) in
    let cut : entries_after c (e ∷ es) ≡ entries_after c es = ap (λ (b : Bool). cond b (e ∷ entries_after c es) (entries_after c es)) (le-ltb c e.cookie (omega (arith, same))) in
    omega (arith, listed_or_counted c (e ∷ es), ap (λ (l : List Entry). length l) (cut ∙ none))
counts c from (e ∷ es) next (suc k) up here =
    let low : e.cookie + 1 ≤ c = cookie_from (e.cookie + 1) es next k c up.1 here in
    let cut : entries_after c (e ∷ es) ≡ entries_after c es = ap (λ (b : Bool). cond b (e ∷ entries_after c es) (entries_after c es)) (le-ltb c e.cookie (omega (arith, low))) in
    omega (arith, listed_or_counted c (e ∷ es), listed_or_counted c es, ap (λ (l : List Entry). length l) cut, counts c (e.cookie + 1) es next k up.1 here)

pub counts_at : (es : List Entry) (order : List ℕ) (next k : ℕ) → IsOrdered es order next → k < length order → count_until (at es (slice_index order k)).cookie (ordered es order) ≡ suc k
counts_at es order next k h lt =
    counts (at es (slice_index order k)).cookie 1 (ordered es order) next k h.ascend (ap (option_map (λ (e : Entry). e.cookie)) (ordered_get es order k lt))

same_suc : (a b : ℕ) → suc a ≡ suc b → a ≡ b
same_suc a b e = omega (arith, e)

-- an index is at one place
pub one_place : (es : List Entry) (order : List ℕ) (next a b : ℕ) → IsOrdered es order next → a < length order → b < length order → slice_index order a ≡ slice_index order b → a ≡ b
one_place es order next a b h la lb same =
    same_suc a b (sym (counts_at es order next a h la) ∙ ap (λ (i : ℕ). count_until (at es i).cookie (ordered es order)) same ∙ counts_at es order next b h lb)

-- the place before the one after the cookie of a slot has its index
pub record IsPlaceOf (order : List ℕ) (index after : ℕ) : Type 0 where
  pub some : 1 ≤ after
  pub within : after - 1 < length order
  pub here : slice_index order (after - 1) ≡ index

pub place_found : (es : List Entry) (order : List ℕ) (next index cookie after : ℕ) → IsOrdered es order next → index < length es → (at es index).cookie ≡ cookie → after ≡ count_until cookie (ordered es order) → IsPlaceOf order index after
place_found es order next index cookie after h lt is counted =
    let k : (place : ℕ) × (place < length order) × (slice_index order place ≡ index) = h.found index lt in
    let place : after ≡ suc k.0 = counted ∙ ap (λ (c : ℕ). count_until c (ordered es order)) (sym is ∙ ap (λ (i : ℕ). (at es i).cookie) (sym k.2)) ∙ counts_at es order next k.0 h k.1 in
    let before : after - 1 ≡ k.0 = omega (arith, place) in
    record { some = omega (arith, place); within = omega (arith, before, k.1); here = ap (slice_index order) before ∙ k.2 }

-- ===== names

pub named_none : (name : List ℕ) (xs : List Entry) → ((i : ℕ) → i < length xs → is_name name (at xs i) ≡ false) → (entry_of_name name xs ≡ None) × (list_without name xs ≡ xs)
named_none name [] none = (refl, refl)
named_none name (x ∷ xs) none =
    let f : is_name name x ≡ false = none 0 (omega arith) in
    let rest : (entry_of_name name xs ≡ None) × (list_without name xs ≡ xs) = named_none name xs (λ i lt. none (suc i) (omega (arith, lt))) in (
      ap (λ (b : Bool). cond b (Some x) (entry_of_name name xs)) f ∙ rest.0,
      ap (λ (b : Bool). cond b xs (x ∷ list_without name xs)) f ∙ ap (λ (l : List Entry). x ∷ l) rest.1,
    )

pub none_named : (name : List ℕ) (xs : List Entry) → entry_of_name name xs ≡ None → (i : ℕ) → i < length xs → is_name name (at xs i) ≡ false
none_named name [] none i lt = absurd (omega (arith, lt))
none_named name (x ∷ xs) none zero lt = (found_none (is_name name x) x (entry_of_name name xs) none).0
none_named name (x ∷ xs) none (suc i) lt = none_named name xs (found_none (is_name name x) x (entry_of_name name xs) none).1 i (omega (arith, lt))

not_first : (b : Bool) (k : ℕ) → (b ≡ true → 0 ≡ suc k) → b ≡ false
not_first true k h = absurd (omega (arith, h refl))
not_first false k h = refl

pub named_one : (name : List ℕ) (xs : List Entry) (k : ℕ) → k < length xs → is_name name (at xs k) ≡ true → ((i : ℕ) → i < length xs → is_name name (at xs i) ≡ true → i ≡ k)
    → (entry_of_name name xs ≡ Some (at xs k)) × (list_without name xs ≡ remove xs k)
named_one name [] k lt is one = absurd (omega (arith, lt))
named_one name (x ∷ xs) zero lt is one = (ap (λ (b : Bool). cond b (Some x) (entry_of_name name xs)) is, ap (λ (b : Bool). cond b xs (x ∷ list_without name xs)) is)
named_one name (x ∷ xs) (suc k) lt is one =
    let f : is_name name x ≡ false = not_first (is_name name x) k (λ t. one 0 (omega arith) t) in
    let rest : (entry_of_name name xs ≡ Some (at xs k)) × (list_without name xs ≡ remove xs k) =
    named_one name xs k (omega (arith, lt)) is (λ i less t. same_suc i k (one (suc i) (omega (arith, less)) t)) in (
      ap (λ (b : Bool). cond b (Some x) (entry_of_name name xs)) f ∙ rest.0,
      ap (λ (b : Bool). cond b xs (x ∷ list_without name xs)) f ∙ ap (λ (l : List Entry). x ∷ l) rest.1,
    )

-- the one entry of a name is that of the slot under it
pub ordered_named : (es : List Entry) (order : List ℕ) (next index k : ℕ) (name : List ℕ) → IsOrdered es order next → IsIndexOf es name (Some index) → k < length order → slice_index order k ≡ index
    → (entry_of_name name (ordered es order) ≡ Some (at es index)) × (list_without name (ordered es order) ≡ remove (ordered es order) k)
ordered_named es order next index k name h is lt here =
    let here_is : at (ordered es order) k ≡ at es index = ordered_at es order k lt ∙ ap (at es) here in
    let both : (entry_of_name name (ordered es order) ≡ Some (at (ordered es order) k)) × (list_without name (ordered es order) ≡ remove (ordered es order) k) =
    named_one name (ordered es order) k (omega (arith, lt, length_ordered es order)) (ap (is_name name) here_is ∙ is.1)
    (λ i less t.
    let within : i < length order = omega (arith, less, length_ordered es order) in
    let same : slice_index order i ≡ index = is.2 (slice_index order i) (h.within i within) (ap (is_name name) (sym (ordered_at es order i within)) ∙ t) in
    one_place es order next i k h within lt (same ∙ sym here)) in
    (both.0 ∙ ap Some here_is, both.1)

pub ordered_unnamed : (es : List Entry) (order : List ℕ) (next : ℕ) (name : List ℕ) → IsOrdered es order next → IsIndexOf es name None → (entry_of_name name (ordered es order) ≡ None) × (list_without name (ordered es order) ≡ ordered es order)
ordered_unnamed es order next name h none =
    named_none name (ordered es order) (λ i less.
    let within : i < length order = omega (arith, less, length_ordered es order) in
    ap (is_name name) (ordered_at es order i within) ∙ none (slice_index order i) (h.within i within))

-- a name without an entry is that of no slot
pub slots_unnamed : (es : List Entry) (order : List ℕ) (next : ℕ) (name : List ℕ) → IsOrdered es order next → entry_of_name name (ordered es order) ≡ None → entry_of_name name es ≡ None
slots_unnamed es order next name h none =
    (named_none name es (λ i less.
    let k : (place : ℕ) × (place < length order) × (slice_index order place ≡ i) = h.found i less in
    let is : at (ordered es order) k.0 ≡ at es i = ordered_at es order k.0 k.1 ∙ ap (at es) k.2 in
    ap (is_name name) (sym is) ∙ none_named name (ordered es order) none k.0 (omega (arith, k.1, length_ordered es order)))).0

-- ===== an element is removed

pub CookiesAscend_remove : (from : ℕ) (es : List Entry) (next k : ℕ) → CookiesAscend from es next → CookiesAscend from (remove es k) next
CookiesAscend_remove from [] next zero up = up
CookiesAscend_remove from [] next (suc k) up = up
CookiesAscend_remove from (e ∷ es) next zero up = rise_from from (e.cookie + 1) es next (omega (arith, up.0)) up.1
CookiesAscend_remove from (e ∷ es) next (suc k) up = (up.0, CookiesAscend_remove (e.cookie + 1) es next k up.1)

-- a place before or after the one that is removed
record IsIndexKept (xs ys : List ℕ) (k q a : ℕ) : Type 0 where
  within : a < length xs
  other : a ≡ k → ⊥
  first : slice_index (remove xs k) q ≡ slice_index xs a
  second : slice_index (remove ys k) q ≡ slice_index ys a

kept_from : (xs ys : List ℕ) (k q : ℕ) → length ys ≡ length xs → k < length xs → q < length (remove xs k) → (a : ℕ) × IsIndexKept xs ys k q a
kept_from xs ys k q len lt less = by (cases_lt q k) where
  by : (q < k) ⊎ (k ≤ q) → (a : ℕ) × IsIndexKept xs ys k q a
  by (inl below) = (
    q,
    record {
      within = omega (arith, below, lt);
      other = λ e. omega (arith, e, below);
      first = get_or-remove_below xs k 0 q below lt;
      second = get_or-remove_below ys k 0 q below (omega (arith, lt, len));
    },
  )
  by (inr above) = (
    q + 1,
    record {
      within = omega (arith, less, length-remove xs k lt);
      other = λ e. omega (arith, e, above);
      first = get_or-remove_above xs k 0 q above lt;
      second = get_or-remove_above ys k 0 q above (omega (arith, lt, len));
    },
  )

kept_to : (xs : List ℕ) (k a : ℕ) → k < length xs → a < length xs → (a ≡ k → ⊥) → (q : ℕ) × (q < length (remove xs k)) × (slice_index (remove xs k) q ≡ slice_index xs a)
kept_to xs k a lt less other = by (cases_lt a k) where
  by : (a < k) ⊎ (k ≤ a) → (q : ℕ) × (q < length (remove xs k)) × (slice_index (remove xs k) q ≡ slice_index xs a)
  by (inl below) = (a, omega (arith, below, lt, length-remove xs k lt), get_or-remove_below xs k 0 a below lt)
  by (inr above) =
      let back : a - 1 + 1 ≡ a = omega (arith, above, other) in
      (a - 1, omega (arith, less, above, other, length-remove xs k lt), get_or-remove_above xs k 0 (a - 1) (omega (arith, above, other)) lt ∙ ap (slice_index xs) back)

-- ===== a slot is taken out, and the last one gets its index

swapped_length : (es : List Entry) (i : ℕ) (d : Entry) → length (swap_remove es i d) ≡ length es - 1
swapped_length es i d = length-take-le (length es - 1) (set es i (get_or es (length es - 1) d)) (omega (arith, length-set es i (get_or es (length es - 1) d)))

last_is : (es : List Entry) (d : Entry) → 0 < length es → get_or es (length es - 1) d ≡ at es (length es - 1)
last_is es d some = sym (get_or_from_slice_get es (length es - 1) (get_or es (length es - 1) d) no_entry (slice_get-get_or es (length es - 1) d (omega (arith, some))))

swapped_here : (es : List Entry) (i : ℕ) (d : Entry) → i < length es - 1 → at (swap_remove es i d) i ≡ at es (length es - 1)
swapped_here es i d lt =
    get_or-take (length es - 1) (set es i (get_or es (length es - 1) d)) i no_entry lt ∙ get_or-set_same es i (get_or es (length es - 1) d) no_entry (omega (arith, lt)) ∙ last_is es d (omega (arith, lt))

swapped_other : (es : List Entry) (i : ℕ) (d : Entry) (x : ℕ) → x < length es - 1 → (x ≡ i → ⊥) → at (swap_remove es i d) x ≡ at es x
swapped_other es i d x lt ne =
    get_or-take (length es - 1) (set es i (get_or es (length es - 1) d)) x no_entry lt ∙ get_or-set_other es i x (get_or es (length es - 1) d) no_entry ne

-- of an order in which the index i is at k and the last one at j: what is at a place once j has i, and the last slot is at i
record IsSwapped (es fs : List Entry) (x y : ℕ) : Type 0 where
  within : x < length es - 1
  same : at fs x ≡ at es y

module _ (es : List Entry) (order : List ℕ) (next i k j : ℕ) (d : Entry) (h : IsOrdered es order next) (li : i < length es) (lk : k < length order) (lj : j < length order)
    (at_k : slice_index order k ≡ i) (at_j : slice_index order j ≡ length es - 1) where
  swapped_at : (a : ℕ) → a < length order → (a ≡ k → ⊥) → IsSwapped es (swap_remove es i d) (slice_index (set order j i) a) (slice_index order a)
  swapped_at a la ne = by (cases_eq a j) where
    by : (a ≡ j) ⊎ (a ≡ j → ⊥) → IsSwapped es (swap_remove es i d) (slice_index (set order j i) a) (slice_index order a)
    by (inl e) =
        let here : slice_index (set order j i) a ≡ i = ap (slice_index (set order j i)) e ∙ get_or-set_same order j i 0 lj in
        let not_last : i ≡ length es - 1 → ⊥ = λ l. ne (one_place es order next a k h la lk (ap (slice_index order) e ∙ at_j ∙ sym l ∙ sym at_k)) in
        let lt : i < length es - 1 = omega (arith, li, not_last) in
        record { within = subst (λ (x : ℕ). x < length es - 1) (sym here) lt; same = ap (at (swap_remove es i d)) here ∙ swapped_here es i d lt ∙ ap (at es) (sym at_j ∙ ap (slice_index order) (sym e)) }
    by (inr other) =
        let here : slice_index (set order j i) a ≡ slice_index order a = get_or-set_other order j a i 0 other in
        let not_last : slice_index order a ≡ length es - 1 → ⊥ = λ l. other (one_place es order next a j h la lj (l ∙ sym at_j)) in
        let not_here : slice_index order a ≡ i → ⊥ = λ l. ne (one_place es order next a k h la lk (l ∙ sym at_k)) in
        let lt : slice_index order a < length es - 1 = omega (arith, h.within a la, not_last) in
        record { within = subst (λ (x : ℕ). x < length es - 1) (sym here) lt; same = ap (at (swap_remove es i d)) here ∙ swapped_other es i d (slice_index order a) lt not_here }

  moved_length : length (set order j i) ≡ length order
  moved_length = length-set order j i

  pub taken_entries : ordered (swap_remove es i d) (remove (set order j i) k) ≡ remove (ordered es order) k
  taken_entries =
      same_ordered (swap_remove es i d) es (remove (set order j i) k) (remove order k)
      (omega (arith, moved_length, length-remove (set order j i) k (omega (arith, lk, moved_length)), length-remove order k lk))
      (λ q less.
      let a : (a : ℕ) × IsIndexKept (set order j i) order k q a = kept_from (set order j i) order k q (sym moved_length) (omega (arith, lk, moved_length)) less in
      let s : IsSwapped es (swap_remove es i d) (slice_index (set order j i) a.0) (slice_index order a.0) = swapped_at a.0 (omega (arith, a.1.within, moved_length)) a.1.other in
      ap (at (swap_remove es i d)) a.1.first ∙ s.same ∙ ap (at es) (sym a.1.second))
      ∙ map-remove (λ x. get_or es x no_entry) order k

  pub taken_ordered : IsOrdered (swap_remove es i d) (remove (set order j i) k) next
  taken_ordered = record {
    count = omega (arith, swapped_length es i d, h.count, moved_length, length-remove (set order j i) k (omega (arith, lk, moved_length)));
    within = λ q less.
        let a : (a : ℕ) × IsIndexKept (set order j i) order k q a = kept_from (set order j i) order k q (sym moved_length) (omega (arith, lk, moved_length)) less in
        let s : IsSwapped es (swap_remove es i d) (slice_index (set order j i) a.0) (slice_index order a.0) = swapped_at a.0 (omega (arith, a.1.within, moved_length)) a.1.other in
        omega (arith, s.within, a.1.first, swapped_length es i d);
    found = λ x less. found_at x (omega (arith, less, swapped_length es i d)) (cases_eq x i);
    ascend = subst (λ (l : List Entry). CookiesAscend 1 l next) (sym taken_entries) (CookiesAscend_remove 1 (ordered es order) next k h.ascend);
  } where
    found_at : (x : ℕ) → x < length es - 1 → (x ≡ i) ⊎ (x ≡ i → ⊥) → (q : ℕ) × (q < length (remove (set order j i) k)) × (slice_index (remove (set order j i) k) q ≡ x)
    found_at x less (inl e) =
        let ne : j ≡ k → ⊥ = λ l. omega (arith, less, e, sym at_k ∙ ap (slice_index order) (sym l) ∙ at_j) in
        let q : (q : ℕ) × (q < length (remove (set order j i) k)) × (slice_index (remove (set order j i) k) q ≡ slice_index (set order j i) j) =
        kept_to (set order j i) k j (omega (arith, lk, moved_length)) (omega (arith, lj, moved_length)) ne in
        (q.0, q.1, q.2 ∙ get_or-set_same order j i 0 lj ∙ sym e)
    found_at x less (inr other) =
        let a : (place : ℕ) × (place < length order) × (slice_index order place ≡ x) = h.found x (omega (arith, less)) in
        let not_k : a.0 ≡ k → ⊥ = λ l. other (sym a.2 ∙ ap (slice_index order) l ∙ at_k) in
        let not_j : a.0 ≡ j → ⊥ = λ l. omega (arith, less, sym a.2 ∙ ap (slice_index order) l ∙ at_j) in
        let q : (q : ℕ) × (q < length (remove (set order j i) k)) × (slice_index (remove (set order j i) k) q ≡ slice_index (set order j i) a.0) =
        kept_to (set order j i) k a.0 (omega (arith, lk, moved_length)) (omega (arith, a.1, moved_length)) not_k in
        (q.0, q.1, q.2 ∙ get_or-set_other order j a.0 i 0 not_j ∙ a.2)

-- ===== a slot is added, last

module _ (es : List Entry) (order : List ℕ) (next : ℕ) (e : Entry) (h : IsOrdered es order next) where
  pub added_entries : ordered (es ++ e ∷ []) (order ++ length es ∷ []) ≡ ordered es order ++ e ∷ []
  added_entries =
      map-append (λ i. get_or (es ++ e ∷ []) i no_entry) order (length es ∷ [])
      ∙ ap (λ (l : List Entry). l ++ at (es ++ e ∷ []) (length es) ∷ []) (same_ordered (es ++ e ∷ []) es order order refl (λ k lt. get_or-append es (e ∷ []) no_entry (slice_index order k) (h.within k lt)))
      ∙ ap (λ (x : Entry). ordered es order ++ x ∷ []) (get_or-append_seam es e [] no_entry)

  more : length (order ++ length es ∷ []) ≡ length order + 1
  more = length-append order (length es ∷ [])

  longer : length (es ++ e ∷ []) ≡ length es + 1
  longer = length-append es (e ∷ [])

  last_place : slice_index (order ++ length es ∷ []) (length order) ≡ length es
  last_place = get_or-append_seam order (length es) [] 0

  pub added_ordered : e.cookie ≡ next → IsOrdered (es ++ e ∷ []) (order ++ length es ∷ []) (next + 1)
  added_ordered is = record {
    count = omega (arith, more, longer, h.count);
    within = λ k less. within_at k less (cases_lt k (length order));
    found = λ x less. found_at x less (cases_lt x (length es));
    ascend = subst (λ (l : List Entry). CookiesAscend 1 l (next + 1)) (sym added_entries) (CookiesAscend_append 1 (ordered es order) next e is h.ascend);
  } where
    within_at : (k : ℕ) → k < length (order ++ length es ∷ []) → (k < length order) ⊎ (length order ≤ k) → slice_index (order ++ length es ∷ []) k < length (es ++ e ∷ [])
    within_at k less (inl lt) = omega (arith, longer, h.within k lt, get_or-append order (length es ∷ []) 0 k lt)
    within_at k less (inr ge) =
        let last : k ≡ length order = omega (arith, less, ge, more) in
        omega (arith, longer, ap (slice_index (order ++ length es ∷ [])) last ∙ last_place)

    found_at : (x : ℕ) → x < length (es ++ e ∷ []) → (x < length es) ⊎ (length es ≤ x) → (q : ℕ) × (q < length (order ++ length es ∷ [])) × (slice_index (order ++ length es ∷ []) q ≡ x)
    found_at x less (inl lt) =
        let a : (place : ℕ) × (place < length order) × (slice_index order place ≡ x) = h.found x lt in
        (a.0, omega (arith, a.1, more), get_or-append order (length es ∷ []) 0 a.0 a.1 ∙ a.2)
    found_at x less (inr ge) =
        let last : x ≡ length es = omega (arith, less, ge, longer) in
        (length order, omega (arith, more), last_place ∙ sym last)

-- ===== a slot gets another cookie, and goes last

module _ (es : List Entry) (order : List ℕ) (next i k : ℕ) (e : Entry) (h : IsOrdered es order next) (li : i < length es) (lk : k < length order) (at_k : slice_index order k ≡ i) where
  fewer : length (remove order k) + 1 ≡ length order
  fewer = length-remove order k lk

  pub replaced_entries : ordered (set es i e) (remove order k ++ i ∷ []) ≡ remove (ordered es order) k ++ e ∷ []
  replaced_entries =
      map-append (λ x. get_or (set es i e) x no_entry) (remove order k) (i ∷ [])
      ∙ ap (λ (x : Entry). ordered (set es i e) (remove order k) ++ x ∷ []) (get_or-set_same es i e no_entry li)
      ∙ ap (λ (l : List Entry). l ++ e ∷ []) (same_ordered (set es i e) es (remove order k) (remove order k) refl (λ q less.
      let a : (a : ℕ) × IsIndexKept order order k q a = kept_from order order k q refl lk less in
      let other : slice_index (remove order k) q ≡ i → ⊥ = λ l. a.1.other (one_place es order next a.0 k h a.1.within lk (sym a.1.first ∙ l ∙ sym at_k)) in
      get_or-set_other es i (slice_index (remove order k) q) e no_entry other)
      ∙ map-remove (λ x. get_or es x no_entry) order k)

  again : length (remove order k ++ i ∷ []) ≡ length order
  again = omega (arith, length-append (remove order k) (i ∷ []), fewer)

  pub replaced_ordered : e.cookie ≡ next → IsOrdered (set es i e) (remove order k ++ i ∷ []) (next + 1)
  replaced_ordered is = record {
    count = again ∙ h.count ∙ sym (length-set es i e);
    within = λ q less. omega (arith, length-set es i e, within_at q less (cases_lt q (length (remove order k))));
    found = λ x less. found_at x (omega (arith, less, length-set es i e)) (cases_eq x i);
    ascend = subst (λ (l : List Entry). CookiesAscend 1 l (next + 1)) (sym replaced_entries) (CookiesAscend_append 1 (remove (ordered es order) k) next e is (CookiesAscend_remove 1 (ordered es order) next k h.ascend));
  } where
    within_at : (q : ℕ) → q < length (remove order k ++ i ∷ []) → (q < length (remove order k)) ⊎ (length (remove order k) ≤ q) → slice_index (remove order k ++ i ∷ []) q < length es
    within_at q less (inl lt) =
        let a : (a : ℕ) × IsIndexKept order order k q a = kept_from order order k q refl lk lt in
        omega (arith, h.within a.0 a.1.within, get_or-append (remove order k) (i ∷ []) 0 q lt ∙ a.1.first)
    within_at q less (inr ge) =
        let last : q ≡ length (remove order k) = omega (arith, less, ge, again, fewer) in
        omega (arith, li, ap (slice_index (remove order k ++ i ∷ [])) last ∙ get_or-append_seam (remove order k) i [] 0)

    found_at : (x : ℕ) → x < length es → (x ≡ i) ⊎ (x ≡ i → ⊥) → (q : ℕ) × (q < length (remove order k ++ i ∷ [])) × (slice_index (remove order k ++ i ∷ []) q ≡ x)
    found_at x less (inl same) = (length (remove order k), omega (arith, again, fewer), get_or-append_seam (remove order k) i [] 0 ∙ sym same)
    found_at x less (inr other) =
        let a : (place : ℕ) × (place < length order) × (slice_index order place ≡ x) = h.found x less in
        let q : (q : ℕ) × (q < length (remove order k)) × (slice_index (remove order k) q ≡ slice_index order a.0) = kept_to order k a.0 lk a.1 (λ l. other (sym a.2 ∙ ap (slice_index order) l ∙ at_k)) in
        (q.0, omega (arith, q.1, again, fewer), get_or-append (remove order k) (i ∷ []) 0 q.0 q.1 ∙ q.2 ∙ a.2)

-- ===== the entries from a place on

pub ordered_drop : (es : List Entry) (order : List ℕ) (k : ℕ) → ordered es (drop k order) ≡ drop k (ordered es order)
ordered_drop es order k = sym (drop-map (λ i. get_or es i no_entry) k order)

-- the indexes after the first one are of slots too
pub within_after : (es : List Entry) (old new : List ℕ) (o : Option ℕ) → ((k : ℕ) → k < length old → slice_index old k < length es) → MatchOption o ((old ≡ []) × (new ≡ [])) (λ i. old ≡ i ∷ new)
    → (k : ℕ) → k < length new → slice_index new k < length es
within_after es old new None h is k lt = absurd (omega (arith, lt, ap (λ (l : List ℕ). length l) is.1))
within_after es old new (Some i) h is k lt =
    subst (λ (n : ℕ). n < length es) (ap (λ (l : List ℕ). slice_index l (suc k)) is) (h (suc k) (omega (arith, lt, ap (λ (l : List ℕ). length l) is)))
