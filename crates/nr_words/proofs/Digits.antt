use Rattle.std.proofs.Common.{◌≡◌, ℕ, ◌+◌, ◌-◌, ◌*◌, ◌<◌, ◌≤◌, true, false, List, [], ◌∷◌, length, drop, get_or, Some, None, refl, sym, ap, ◌∙◌, inl, inr, arith, drop-cons, add-one}
use Rattle.std.proofs.lemmas.Bool.{false≢true}
use Rattle.std.specs.Prelude.{◌==◌}
use Rattle.std.proofs.lemmas.Bool.{cases_Bool}
use Rattle.std.proofs.lemmas.Bool.Decides.{nat_tests}
use Rattle.nr_words.specs.Numbers.{is_digit, value_after, within, number_within}

-- a number that has passed the range stays past it
pub past : (low high value : ℕ) (bytes : List ℕ) → high < value → within low high (value_after value bytes) ≡ None
unfolding value_after
past low high value [] h = grind (arith, nat_tests)
past low high value (byte ∷ bytes) h =
    elim (cases_Bool (is_digit byte)) [
      | inl y ↦ rw y (past low high (value * 10 + (byte - 48)) bytes (omega arith))
      | inr n ↦ rw n
    ]

pub next_digit : (value : ℕ) (bytes : List ℕ) (i : ℕ) → i < length bytes → is_digit (get_or bytes i 0) ≡ true
    → value_after value (drop i bytes) ≡ value_after (value * 10 + (get_or bytes i 0 - 48)) (drop (i + 1) bytes)
unfolding value_after
next_digit value bytes i h y = rw (drop-cons bytes i 0 h, y, add-one)

pub no_digit : (value : ℕ) (bytes : List ℕ) (i : ℕ) → i < length bytes → is_digit (get_or bytes i 0) ≡ false
    → value_after value (drop i bytes) ≡ None
unfolding value_after
no_digit value bytes i h n = rw (drop-cons bytes i 0 h, n)

pub at_end : (value : ℕ) (bytes : List ℕ) → value_after value (drop (length bytes) bytes) ≡ Some value
unfolding value_after
at_end value [] = refl
at_end value (byte ∷ bytes) = at_end value bytes

pub not_empty : (low high : ℕ) (text : List ℕ) → 0 < length text → number_within low high text ≡ within low high (value_after 0 text)
not_empty low high [] h = absurd (omega arith)
not_empty low high (byte ∷ bytes) h = refl

-- the answer at a byte that is no digit, at a digit that passes the range, and at the end
pub none_at : (low high value i : ℕ) (text items : List ℕ) → items ≡ text → i < length items → value_after 0 items ≡ value_after value (drop i items)
    → is_digit (get_or items i 0) ≡ false → None ≡ number_within low high text
none_at low high value i text items same h so n =
    rw (← same) (sym (not_empty low high items (omega arith) ∙ ap (within low high) (so ∙ no_digit value items i h n)))

pub past_at : (low high value i : ℕ) (text items : List ℕ) → items ≡ text → i < length items → value_after 0 items ≡ value_after value (drop i items)
    → is_digit (get_or items i 0) ≡ true → high < value * 10 + (get_or items i 0 - 48) → None ≡ number_within low high text
past_at low high value i text items same h so y out =
    rw (← same) (sym (not_empty low high items (omega arith) ∙ ap (within low high) (so ∙ next_digit value items i h y)
    ∙ past low high (value * 10 + (get_or items i 0 - 48)) (drop (i + 1) items) out))

pub whole_at : (low high value i : ℕ) (text items : List ℕ) → items ≡ text → 0 < length items → length items ≡ i → value_after 0 items ≡ value_after value (drop i items)
    → number_within low high text ≡ within low high (Some value)
whole_at low high value i text items same some e so =
    let last : value_after value (drop i items) ≡ Some value = rw (← e) (at_end value items) in
    rw (← same) (not_empty low high items some ∙ ap (within low high) (so ∙ last))

pub digit_test : (byte : ℕ) → 48 ≤ byte → byte ≤ 57 → is_digit byte ≡ true
digit_test byte a b = grind (arith, nat_tests)

pub below_digits : (byte : ℕ) → byte < 48 → is_digit byte ≡ false
below_digits byte a = grind (arith, nat_tests)

pub above_digits : (byte : ℕ) → 57 < byte → is_digit byte ≡ false
above_digits byte a = grind (arith, nat_tests)

pub inside : (low high value : ℕ) → low ≤ value → value ≤ high → within low high (Some value) ≡ Some value
inside low high value a b = grind (arith, nat_tests)

pub below : (low high value : ℕ) → value < low → within low high (Some value) ≡ None
below low high value a = grind (arith, nat_tests)

pub above : (low high value : ℕ) → high < value → within low high (Some value) ≡ None
above low high value a = grind (arith, nat_tests)

pub not_zero : (text items : List ℕ) → items ≡ text → false ≡ (length text == 0) → 0 < length items
not_zero [] items same e = absurd (false≢true e)
not_zero (byte ∷ bytes) items same e = rw same (omega arith)
