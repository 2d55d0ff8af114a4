-- The offsets at which the items of a list end, as items are queued and bytes are written; and how many were written
-- completely.
use Rattle.std.proofs.Common.{◌≡◌, ℕ, ◌+◌, ◌-◌, ◌<◌, ◌≤◌, Bool, true, false, cond, ◌&&◌, ltb, nat_lt, nat_le, List, [], ◌∷◌, ◌++◌, length, inl, inr, refl, sym, ap, ◌∙◌, arith, add-zero, append_assoc, length-append}
use Rattle.std.specs.Prelude.{map}
use Rattle.std.specs.List.{filter}
use Rattle.std.proofs.lemmas.List.{append-nil}
use Rattle.std.proofs.lemmas.Bool.{cases_lt, lt-ltb, le-ltb, le-leb, lt-leb}
use Rattle.nr_link.specs.OutputItem.{OutputItem, item_encoding, items_encoding, one_if_true, item_ends, items_written, items_left}
use Rattle.nr_endpoint.specs.SendQueue.{ends_left, ends_passed}
use Rattle.nr_endpoint.proofs.SendQueues.{ends_left_append, ends_left_fewer}

-- ---- One item more

pub encoding_more : (items : List OutputItem) (more : List OutputItem) → items_encoding (items ++ more) ≡ items_encoding items ++ items_encoding more
encoding_more [] more = refl
encoding_more (item ∷ items) more =
    ap (λ (bytes : List ℕ). item_encoding item ++ bytes) (encoding_more items more) ∙ sym (append_assoc (item_encoding item) (items_encoding items) (items_encoding more))

-- the end of an item, if it is of the kind
abbrev pub end_of_item : (OutputItem → Bool) → ℕ → OutputItem → List ℕ
end_of_item is at item = cond (is item) ((at + length (item_encoding item)) ∷ []) []

pub ends_more : (is : OutputItem → Bool) (at : ℕ) (items : List OutputItem) (item : OutputItem) →
    item_ends is at (items ++ item ∷ []) ≡ item_ends is at items ++ end_of_item is (at + length (items_encoding items)) item
ends_more is at [] item = append-nil (end_of_item is at item) ∙ ap (λ (n : ℕ). end_of_item is n item) (sym (add-zero at))
ends_more is at (first ∷ items) item =
    let n : ℕ = length (item_encoding first) in
    let sum : at + n + length (items_encoding items) ≡ at + length (item_encoding first ++ items_encoding items) = omega (arith, length-append (item_encoding first) (items_encoding items)) in
    ap (λ (ends : List ℕ). end_of_item is at first ++ ends)
    (ends_more is (at + n) items item ∙ ap (λ (m : ℕ). item_ends is (at + n) items ++ end_of_item is m item) sum)
    ∙ sym (append_assoc (end_of_item is at first) (item_ends is (at + n) items) (end_of_item is (at + length (item_encoding first ++ items_encoding items)) item))

-- ---- More bytes are written

-- an end that n bytes don't reach is left, and counted from there on
left_one : (n end : ℕ) (b : Bool) (ends : List ℕ) → ltb n end ≡ b → ends_left n (end ∷ ends) ≡ cond b ((end - n) ∷ ends_left n ends) (ends_left n ends)
left_one n end true ends is = ap (λ (w : Bool). map (λ (e : ℕ). e - n) (cond w (end ∷ filter (ltb n) ends) (filter (ltb n) ends))) is
left_one n end false ends is = ap (λ (w : Bool). map (λ (e : ℕ). e - n) (cond w (end ∷ filter (ltb n) ends) (filter (ltb n) ends))) is

pub left_kept : (n end : ℕ) (ends : List ℕ) → n < end → ends_left n (end ∷ ends) ≡ (end - n) ∷ ends_left n ends
left_kept n end ends lt = left_one n end true ends (lt-ltb n end lt)

pub left_gone : (n end : ℕ) (ends : List ℕ) → end ≤ n → ends_left n (end ∷ ends) ≡ ends_left n ends
left_gone n end ends le = left_one n end false ends (le-ltb n end le)

pub left_twice : (n m : ℕ) (ends : List ℕ) → ends_left m (ends_left n ends) ≡ ends_left (n + m) ends
left_twice n m [] = refl
left_twice n m (end ∷ ends) =
    elim (cases_lt n end) [
      | inr gone ↦ ap (ends_left m) (left_gone n end ends gone) ∙ left_twice n m ends ∙ sym (left_gone (n + m) end ends (omega (arith, gone)))
      | inl kept ↦ ap (ends_left m) (left_kept n end ends kept) ∙ elim (cases_lt m (end - n)) [
        | inr gone ↦ left_gone m (end - n) (ends_left n ends) gone ∙ left_twice n m ends ∙ sym (left_gone (n + m) end ends (omega (arith, gone, kept)))
        | inl still ↦ left_kept m (end - n) (ends_left n ends) still
            ∙ ap (λ (others : List ℕ). (end - n - m) ∷ others) (left_twice n m ends)
            ∙ ap (λ (e : ℕ). e ∷ ends_left (n + m) ends) (omega arith)
            ∙ sym (left_kept (n + m) end ends (omega (arith, still, kept)))
      ]
    ]

pub passed_twice : (n m : ℕ) (ends : List ℕ) → ends_passed (n + m) ends ≡ ends_passed n ends + ends_passed m (ends_left n ends)
passed_twice n m ends =
    omega (arith, ap (λ (list : List ℕ). length list) (left_twice n m ends), ends_left_fewer n ends, ends_left_fewer m (ends_left n ends))

-- ---- Counts

-- whether an item that ends here was written completely: by the bytes that were written, or by those of the FPDUs
abbrev pub EndsAlike : (hello written fpdus : ℕ) → Type 0
EndsAlike hello written fpdus = (end : ℕ) → 1 ≤ end → nat_lt written (hello + end) ≡ nat_lt fpdus end

-- each item of the kind has bytes
abbrev pub HasBytes : (OutputItem → Bool) → Type 0
HasBytes is = (item : OutputItem) → is item ≡ true → 1 ≤ length (item_encoding item)

one_left : (n end : ℕ) (b w : Bool) → ltb n end ≡ w → length (ends_left n (cond b (end ∷ []) [])) ≡ one_if_true (b && w)
one_left n end false w is = refl
one_left n end true true is = ap (λ (list : List ℕ). length list) (left_one n end true [] is)
one_left n end true false is = ap (λ (list : List ℕ). length list) (left_one n end false [] is)

pub left_counts : (is : OutputItem → Bool) (hello written fpdus at : ℕ) (items : List OutputItem) → HasBytes is → EndsAlike hello written fpdus →
    items_left is (hello + at) written items ≡ length (ends_left fpdus (item_ends is at items))
left_counts is hello written fpdus at [] some alike = refl
left_counts is hello written fpdus at (item ∷ items) some alike =
    let n : ℕ = length (item_encoding item) in
    let place : hello + at + n ≡ hello + (at + n) = omega arith in
    let others : items_left is (hello + at + n) written items ≡ length (ends_left fpdus (item_ends is (at + n) items)) =
    ap (λ (m : ℕ). items_left is m written items) place ∙ left_counts is hello written fpdus (at + n) items some alike in
    let first : one_if_true (is item && nat_lt written (hello + at + n)) ≡ length (ends_left fpdus (end_of_item is at item)) = one (is item) refl in
    (λ i. first i + others i)
    ∙ sym (length-append (ends_left fpdus (end_of_item is at item)) (ends_left fpdus (item_ends is (at + n) items)))
    ∙ ap (λ (list : List ℕ). length list) (sym (ends_left_append fpdus (end_of_item is at item) (item_ends is (at + n) items)))
  where
    one : (b : Bool) → is item ≡ b →
        one_if_true (is item && nat_lt written (hello + at + length (item_encoding item))) ≡ length (ends_left fpdus (end_of_item is at item))
    one false none =
        ap (λ (b : Bool). one_if_true (b && nat_lt written (hello + at + length (item_encoding item)))) none
        ∙ sym (ap (λ (b : Bool). length (ends_left fpdus (cond b ((at + length (item_encoding item)) ∷ []) []))) none)
    one true of_kind =
        let same : nat_lt written (hello + at + length (item_encoding item)) ≡ nat_lt fpdus (at + length (item_encoding item)) =
        ap (λ (m : ℕ). nat_lt written m) (omega arith) ∙ alike (at + length (item_encoding item)) (omega (arith, some item of_kind)) in
        ap (λ (w : Bool). one_if_true (is item && w)) same
        ∙ sym (one_left fpdus (at + length (item_encoding item)) (is item) (nat_lt fpdus (at + length (item_encoding item))) refl)

-- those that were written completely and those that weren't are all of the kind
one_or_other : (b : Bool) (written end : ℕ) → one_if_true (b && nat_le end written) + one_if_true (b && nat_lt written end) ≡ length (cond b (end ∷ []) [])
one_or_other false written end = refl
one_or_other true written end =
    elim (cases_lt written end) [
      | inl lt ↦ omega (arith, ap one_if_true (lt-leb end written lt), ap one_if_true (lt-ltb written end lt))
      | inr le ↦ omega (arith, ap one_if_true (le-leb end written le), ap one_if_true (le-ltb written end le))
    ]

pub written_and_left : (is : OutputItem → Bool) (at written : ℕ) (items : List OutputItem) →
    items_written is at written items + items_left is at written items ≡ length (item_ends is at items)
written_and_left is at written [] = refl
written_and_left is at written (item ∷ items) =
    let n : ℕ = length (item_encoding item) in
    omega (arith, one_or_other (is item) written (at + n), written_and_left is (at + n) written items, length-append (end_of_item is at item) (item_ends is (at + n) items))

-- the ends of the same items from another offset on are as many
pub ends_count : (is : OutputItem → Bool) (at other : ℕ) (items : List OutputItem) → length (item_ends is at items) ≡ length (item_ends is other items)
ends_count is at other [] = refl
ends_count is at other (item ∷ items) =
    let n : ℕ = length (item_encoding item) in
    omega (arith, one (is item), ends_count is (at + n) (other + n) items, length-append (end_of_item is at item) (item_ends is (at + n) items), length-append (end_of_item is other item) (item_ends is (other + n) items))
  where
    one : (b : Bool) → length (cond b ((at + length (item_encoding item)) ∷ []) []) ≡ length (cond b ((other + length (item_encoding item)) ∷ []) [])
    one true = refl
    one false = refl

pub written_counts : (is : OutputItem → Bool) (hello written fpdus : ℕ) (items : List OutputItem) → HasBytes is → EndsAlike hello written fpdus →
    items_written is hello written items ≡ ends_passed fpdus (item_ends is 0 items)
written_counts is hello written fpdus items some alike =
    let left : items_left is hello written items ≡ length (ends_left fpdus (item_ends is 0 items)) =
    ap (λ (m : ℕ). items_left is m written items) (omega arith) ∙ left_counts is hello written fpdus 0 items some alike in
    omega (arith, left, written_and_left is hello written items, ends_count is hello 0 items, ends_left_fewer fpdus (item_ends is 0 items))
