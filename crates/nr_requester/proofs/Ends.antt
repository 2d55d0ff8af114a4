-- The messages of a queue that haven't left, as a sink takes bytes and as one more is queued.
use Rattle.std.proofs.Common.{◌≡◌, ℕ, ◌+◌, ◌-◌, ◌<◌, ◌≤◌, Bool, cond, leb, ltb, List, [], ◌∷◌, ◌++◌, length, map, inl, inr, refl, sym, ap, ◌∙◌, arith, length-append}
use Rattle.std.specs.List.{AllByRecursion, filter}
use Rattle.std.proofs.lemmas.List.{length-map}
use Rattle.std.proofs.lemmas.Bool.{cases_lt, lt-ltb, le-ltb, lt-leb, le-leb}
use Rattle.nr_endpoint.specs.SendQueue.{ends_left}
use Rattle.nr_reduce.specs.Written.{ends_waiting}
use Rattle.nr_reduce.specs.Written as reduce
use Rattle.nr_requester.specs.Standing.{HasEnds}

-- ---- One end

left_true : (n x : ℕ) (xs : List ℕ) → n < x → ends_left n (x ∷ xs) ≡ (x - n) ∷ ends_left n xs
left_true n x xs lt = ap (λ (c : Bool). map (λ (end : ℕ). end - n) (cond c (x ∷ filter (λ e. ltb n e) xs) (filter (λ e. ltb n e) xs))) (lt-ltb n x lt)

left_false : (n x : ℕ) (xs : List ℕ) → x ≤ n → ends_left n (x ∷ xs) ≡ ends_left n xs
left_false n x xs le = ap (λ (c : Bool). map (λ (end : ℕ). end - n) (cond c (x ∷ filter (λ e. ltb n e) xs) (filter (λ e. ltb n e) xs))) (le-ltb n x le)

waiting_true : (n x : ℕ) (xs : List ℕ) → n < x → ends_waiting n (x ∷ xs) ≡ ends_waiting n xs + 1
waiting_true n x xs lt = ap (λ (c : Bool). length (cond c (x ∷ filter (λ e. ltb n e) xs) (filter (λ e. ltb n e) xs))) (lt-ltb n x lt) ∙ omega arith

waiting_false : (n x : ℕ) (xs : List ℕ) → x ≤ n → ends_waiting n (x ∷ xs) ≡ ends_waiting n xs
waiting_false n x xs le = ap (λ (c : Bool). length (cond c (x ∷ filter (λ e. ltb n e) xs) (filter (λ e. ltb n e) xs))) (le-ltb n x le)

passed_true : (n x : ℕ) (xs : List ℕ) → x ≤ n → reduce.ends_written n (x ∷ xs) ≡ reduce.ends_written n xs + 1
passed_true n x xs le = ap (λ (c : Bool). length (cond c (x ∷ filter (λ e. leb e n) xs) (filter (λ e. leb e n) xs))) (le-leb x n le) ∙ omega arith

passed_false : (n x : ℕ) (xs : List ℕ) → n < x → reduce.ends_written n (x ∷ xs) ≡ reduce.ends_written n xs
passed_false n x xs lt = ap (λ (c : Bool). length (cond c (x ∷ filter (λ e. leb e n) xs) (filter (λ e. leb e n) xs))) (lt-leb x n lt)

-- ---- Lists of ends

-- first a bytes, then b
left_both : (a b : ℕ) (xs : List ℕ) → ends_left b (ends_left a xs) ≡ ends_left (a + b) xs
left_both a b [] = refl
left_both a b (x ∷ xs) = elim (cases_lt a x) [
  | inl lt ↦ elim (cases_lt b (x - a)) [
    | inl more ↦
        let same : x - a - b ≡ x - (a + b) = omega arith in
        ap (ends_left b) (left_true a x xs lt) ∙ left_true b (x - a) (ends_left a xs) more
        ∙ (λ i. same i ∷ left_both a b xs i) ∙ sym (left_true (a + b) x xs (omega (arith, lt, more)))
    | inr less ↦
        ap (ends_left b) (left_true a x xs lt) ∙ left_false b (x - a) (ends_left a xs) less
        ∙ left_both a b xs ∙ sym (left_false (a + b) x xs (omega (arith, lt, less)))
  ]
  | inr le ↦ ap (ends_left b) (left_false a x xs le) ∙ left_both a b xs ∙ sym (left_false (a + b) x xs (omega (arith, le)))
]

pub left_count : (n : ℕ) (xs : List ℕ) → length (ends_left n xs) ≡ ends_waiting n xs
left_count n xs = length-map (filter (λ e. ltb n e) xs) (λ (end : ℕ). end - n)

left_added : (n x : ℕ) (xs : List ℕ) → n < x → ends_left n (xs ++ x ∷ []) ≡ ends_left n xs ++ (x - n) ∷ []
left_added n x [] lt = left_true n x [] lt
left_added n x (y ∷ ys) lt = elim (cases_lt n y) [
  | inl more ↦
      left_true n y (ys ++ x ∷ []) more ∙ ap (λ (zs : List ℕ). (y - n) ∷ zs) (left_added n x ys lt)
      ∙ ap (λ (zs : List ℕ). zs ++ (x - n) ∷ []) (sym (left_true n y ys more))
  | inr less ↦
      left_false n y (ys ++ x ∷ []) less ∙ left_added n x ys lt
      ∙ ap (λ (zs : List ℕ). zs ++ (x - n) ∷ []) (sym (left_false n y ys less))
]

waiting_later : (a b : ℕ) (xs : List ℕ) → a ≤ b → ends_waiting b xs ≤ ends_waiting a xs
waiting_later a b [] le = omega arith
waiting_later a b (x ∷ xs) le = elim (cases_lt b x) [
  | inl lt ↦ omega (arith, waiting_true b x xs lt, waiting_true a x xs (omega (arith, le, lt)), waiting_later a b xs le)
  | inr ge ↦ elim (cases_lt a x) [
    | inl lt ↦ omega (arith, waiting_false b x xs ge, waiting_true a x xs lt, waiting_later a b xs le)
    | inr less ↦ omega (arith, waiting_false b x xs ge, waiting_false a x xs less, waiting_later a b xs le)
  ]
]

-- each has left or waits
pub left_or_waiting : (n : ℕ) (xs : List ℕ) → reduce.ends_written n xs + ends_waiting n xs ≡ length xs
left_or_waiting n [] = omega arith
left_or_waiting n (x ∷ xs) = elim (cases_lt n x) [
  | inl lt ↦ omega (arith, passed_false n x xs lt, waiting_true n x xs lt, left_or_waiting n xs)
  | inr le ↦ omega (arith, passed_true n x xs le, waiting_false n x xs le, left_or_waiting n xs)
]

pub all_wait : (n : ℕ) (xs : List ℕ) → AllByRecursion (λ end. n < end) xs → ends_waiting n xs ≡ length xs
all_wait n [] h = refl
all_wait n (x ∷ xs) h = omega (arith, waiting_true n x xs h.0, all_wait n xs h.1)

-- ---- A queue

-- a sink takes n bytes
pub ends_drained : (n written hello : ℕ) (all queued : List ℕ) → HasEnds written hello all queued → HasEnds (written + n) (hello - n) all (ends_left (n - hello) queued)
ends_drained n written hello all queued h =
    let sum : written + hello + (n - hello) ≡ written + n + (hello - n) = omega arith in
    let both : ends_left (n - hello) queued ≡ ends_left (written + hello + (n - hello)) all = ap (ends_left (n - hello)) h.ends ∙ left_both (written + hello) (n - hello) all in
    let many : length (ends_left (n - hello) queued) ≡ ends_waiting (written + hello + (n - hello)) all = ap length both ∙ left_count (written + hello + (n - hello)) all in
    record {
      ends = both ∙ ap (λ (m : ℕ). ends_left m all) sum;
      count = elim (cases_lt n hello) [
        | inl lt ↦
            let none : written + hello + (n - hello) ≡ written + hello = omega (arith, lt) in
            let first : length queued ≡ ends_waiting (written + hello) all = ap length h.ends ∙ left_count (written + hello) all in
            let before : ends_waiting (written + n) all ≤ ends_waiting written all = waiting_later written (written + n) all (omega arith) in
            let after : ends_waiting (written + hello) all ≤ ends_waiting (written + n) all = waiting_later (written + n) (written + hello) all (omega (arith, lt)) in
            let here : length (ends_left (n - hello) queued) ≡ ends_waiting (written + hello) all = many ∙ ap (λ (m : ℕ). ends_waiting m all) none in
            let same = h.count in
            omega (arith, first, before, after, here, same)
        | inr le ↦
            let here : written + hello + (n - hello) ≡ written + n = omega (arith, le) in
            many ∙ ap (λ (m : ℕ). ends_waiting m all) here
      ];
    }

-- one more is queued
pub ends_added : (written hello end : ℕ) (all queued : List ℕ) → HasEnds written hello all queued → written + hello < end → HasEnds written hello (all ++ end ∷ []) (queued ++ (end - (written + hello)) ∷ [])
ends_added written hello end all queued h lt = record {
  ends = ap (λ (xs : List ℕ). xs ++ (end - (written + hello)) ∷ []) h.ends ∙ sym (left_added (written + hello) end all lt);
  count =
      length-append queued ((end - (written + hello)) ∷ [])
      ∙ ap (λ (m : ℕ). m + 1) (h.count ∙ sym (left_count written all))
      ∙ sym (length-append (ends_left written all) ((end - written) ∷ []))
      ∙ sym (ap length (left_added written end all (omega (arith, lt))))
      ∙ left_count written (all ++ end ∷ []);
}
