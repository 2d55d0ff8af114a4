-- What is left of the ends in a queue, end by end, and what a sink took.
use Rattle.std.proofs.Common.{◌≡◌, ℕ, ◌+◌, ◌-◌, ◌<◌, ◌≤◌, ltb, not, List, [], ◌∷◌, ◌++◌, length, take, drop, get_or, refl, sym, ap, ◌∙◌, arith, append_assoc, length-append}
use Rattle.std.specs.Prelude.{map, Option, Result, OnOk}
use Rattle.std.specs.Io.KnownBytes.{Appends}
use Rattle.std.proofs.KnownBytes.{Appends-trans}
use Rattle.std.proofs.Math.Seq.{take-add}
use Rattle.std.proofs.lemmas.Result.{on_ok_weaker}
use Rattle.std.specs.List.{filter}
use Rattle.std.proofs.lemmas.List.{append-nil, map-append, length-map, length-take, take_all, drop_all, drop_more, take_more, take_at, drop_at}
use Rattle.std.proofs.lemmas.List.Elements.{filter-append}
use Rattle.std.proofs.lemmas.List.Filters.{length-filter_both}
use Rattle.nr_endpoint.specs.SendQueue.{ends_left, ends_passed}

-- the ends that are left, and how many went by, of two lists
pub ends_left_append : (n : ℕ) (xs ys : List ℕ) → ends_left n (xs ++ ys) ≡ ends_left n xs ++ ends_left n ys
ends_left_append n xs ys =
    ap (map (λ (end : ℕ). end - n)) (filter-append (ltb n) xs ys) ∙ map-append (λ (end : ℕ). end - n) (filter (ltb n) xs) (filter (ltb n) ys)

pub ends_left_fewer : (n : ℕ) (xs : List ℕ) → length (ends_left n xs) ≤ length xs
ends_left_fewer n xs =
    omega (arith, length-map (filter (ltb n) xs) (λ (end : ℕ). end - n), length-filter_both (ltb n) (λ (end : ℕ). not (ltb n end)) (λ _. refl) xs)

pub ends_passed_append : (n : ℕ) (xs ys : List ℕ) → ends_passed n (xs ++ ys) ≡ ends_passed n xs + ends_passed n ys
ends_passed_append n xs ys =
    omega (arith, length-append xs ys, ap length (ends_left_append n xs ys), length-append (ends_left n xs) (ends_left n ys), ends_left_fewer n xs, ends_left_fewer n ys)

-- after i ends were looked at, the others stand before those of them that are left
unfoldable pub looked_at : ℕ → ℕ → List ℕ → List ℕ
looked_at n i ends = drop i ends ++ ends_left n (take i ends)

pub looked_at_none : (n : ℕ) (ends : List ℕ) → looked_at n 0 ends ≡ ends
unfolding looked_at
looked_at_none n ends = append-nil ends

pub looked_at_all : (n i : ℕ) (ends : List ℕ) → length ends ≤ i → looked_at n i ends ≡ ends_left n ends
unfolding looked_at
looked_at_all n i ends h = rw (drop_all i ends h, take_all i ends h) refl

pub looked_at_more : (n i : ℕ) (ends old new : List ℕ) → i < length ends → old ≡ looked_at n i ends →
    new ≡ drop 1 old ++ ends_left n (take 1 old) → new ≡ looked_at n (i + 1) ends
unfolding looked_at
looked_at_more n i ends old new h so_far is =
    let x = get_or ends i 0 in
    let begins : old ≡ x ∷ (drop (i + 1) ends ++ ends_left n (take i ends)) =
    so_far ∙ ap (λ (xs : List ℕ). xs ++ ends_left n (take i ends)) (drop_more ends i 0 h) in
    is
    ∙ ap (λ (xs : List ℕ). drop 1 xs ++ ends_left n (take 1 xs)) begins
    ∙ append_assoc (drop (i + 1) ends) (ends_left n (take i ends)) (ends_left n (x ∷ []))
    ∙ ap (λ (xs : List ℕ). drop (i + 1) ends ++ xs) (sym (ap (ends_left n) (take_more ends i 0 h) ∙ ends_left_append n (take i ends) (x ∷ [])))

-- how many went by, of the first i and of one more
pub first_of : (n i : ℕ) (ends old : List ℕ) → i < length ends → old ≡ looked_at n i ends → take 1 old ≡ get_or ends i 0 ∷ []
unfolding looked_at
first_of n i ends old h so_far =
    ap (take 1) (so_far ∙ ap (λ (xs : List ℕ). xs ++ ends_left n (take i ends)) (drop_more ends i 0 h))

pub passed_more : (n i passed more : ℕ) (ends old : List ℕ) → i < length ends → old ≡ looked_at n i ends →
    passed ≡ ends_passed n (take i ends) → more ≡ ends_passed n (take 1 old) → passed + more ≡ ends_passed n (take (i + 1) ends)
passed_more n i passed more ends old h so_far passed_is more_is =
    let one : more ≡ ends_passed n (get_or ends i 0 ∷ []) = more_is ∙ ap (ends_passed n) (first_of n i ends old h so_far) in
    (λ t. passed_is t + one t)
    ∙ sym (ap (ends_passed n) (take_more ends i 0 h) ∙ ends_passed_append n (take i ends) (get_or ends i 0 ∷ []))

pub passed_within : (n i : ℕ) (ends : List ℕ) → ends_passed n (take i ends) ≤ i
passed_within n i ends = omega (arith, length-take i ends)

-- the complete hello and then `count` bytes of the FPDUs were written
taken_both : (hello fpdus : List ℕ) (count : ℕ) → take (length hello + count) (hello ++ fpdus) ≡ hello ++ take count fpdus
taken_both hello fpdus count =
    take-add (length hello) count (hello ++ fpdus)
    ∙ (λ t. take_at hello fpdus (length hello) refl t ++ take count (drop_at hello fpdus (length hello) refl t))

-- what `write_queue` says if n bytes of those that may be written were written
abbrev pub Written : {T E : Type 0} → (may hello fpdus hello_left fpdus_left : List ℕ) → ℕ → Option (List ℕ) → Option (List ℕ) → Result T E → ℕ → Type 0
Written may hello fpdus hello_left fpdus_left count before after r n =
    (count ≡ n - length hello) × (n ≤ length may) × (hello_left ≡ drop n hello) × (fpdus_left ≡ drop (n - length hello) fpdus)
    × Appends before after (take n may) × OnOk r (n ≡ length may)

pub written_both : {T E : Type 0} → (hello fpdus hello_left fpdus_left : List ℕ) (first count : ℕ) (before between after : Option (List ℕ)) (r : Result T E)
    → first ≡ length hello → count ≤ length fpdus → hello_left ≡ drop first hello → fpdus_left ≡ drop count fpdus
    → Appends before between (take first hello) → Appends between after (take count fpdus) → OnOk r (count ≡ length fpdus)
    → Written (hello ++ fpdus) hello fpdus hello_left fpdus_left count before after r (length hello + count)
written_both hello fpdus hello_left fpdus_left first count before between after r whole within h_left f_left greeted took all =
    let same : count ≡ length hello + count - length hello = omega arith in
    let whole_taken : take first hello ≡ hello = take_all first hello (omega arith) in
    let begun = rw whole_taken at greeted in (
      same,
      omega (arith, length-append hello fpdus),
      h_left ∙ drop_all first hello (omega arith) ∙ sym (drop_all (length hello + count) hello (omega arith)),
      f_left ∙ ap (λ (k : ℕ). drop k fpdus) same,
      rw (taken_both hello fpdus count) (Appends-trans before between after hello (take count fpdus) begun took),
      on_ok_weaker r (λ (e : count ≡ length fpdus). omega (arith, e, length-append hello fpdus)) all,
    )
