-- Numerals.
use Rattle.std.specs.Prelude.{◌&&◌}
use Rattle.std.specs.List.{list_all}
use Rattle.std.specs.Str.Parse.{digits_value, ParsesUnsigned}
use Rattle.std.specs.Str.{IsAscii, IsUtf8}
use Rattle.std.specs.Result.{OkIff, result_ok}
use Rattle.std.proofs.lemmas.Str.{IsUtf8-from_ascii}
use Rattle.std.proofs.lemmas.Str.Ascii.{IsAscii-nil, IsAscii-cons}
use Rattle.std.proofs.Common.{◌≡◌, ℕ, ◌^◌, ◌<◌, Bool, true, false, cond, ltb, leb, not, eqb, List, [], ◌∷◌, length, Option, None, Some, Result, Ok, Err, refl, sym, ap, subst, ◌∙◌, arith, rules, ltb-true, lt-ltb, leb-true}
use Rattle.std.proofs.lemmas.Str.Parse.{IsNumeralModel, numerals_by_value, parse_digits}
use Rattle.nr_texts.specs.Words.{is_digit, is_numeral, numeral_value}

pub digits_model : IsNumeralModel (λ ds. list_all is_digit ds ≡ true) (digits_value 10)
digits_model = numerals_by_value (λ ds. list_all is_digit ds ≡ true) (search rules)

both : (a b : Bool) → a && b ≡ true → (a ≡ true) × (b ≡ true)
both true b e = (refl, e)
both false b e = absurd cc

-- a numeral has digits alone, of which there is one
digits_of : (word : List ℕ) → is_numeral word ≡ true → (list_all is_digit word ≡ true) × (0 < length word)
digits_of [] e = absurd cc
digits_of (c ∷ []) e = (one (is_digit c) e, omega arith)
  where
    one : (b : Bool) → b ≡ true → b && true ≡ true
    one true e = refl
    one false e = absurd cc
digits_of (c ∷ d ∷ others) e = ((both (not (eqb c 48)) (list_all is_digit (c ∷ d ∷ others)) e).1, omega arith)

ascii : (word : List ℕ) → list_all is_digit word ≡ true → IsAscii word
ascii [] e = IsAscii-nil
ascii (c ∷ word) e =
    let parts = both (is_digit c) (list_all is_digit word) e in
    let digit = both (leb 48 c) (leb c 57) parts.0 in
    let most = leb-true c 57 digit.1 in
    IsAscii-cons c word (omega (arith, most)) (ascii word parts.1)

pub not_text : (word : List ℕ) → is_numeral word ≡ true → ¬ (IsUtf8 word) → ⊥
not_text word e bad = bad (IsUtf8-from_ascii word (ascii word (digits_of word e).0))

-- what a numeral is parsed as
pub parsed : {E : Type 0} (word text : List ℕ) (r : Result ℕ E) (o : Option ℕ) → text ≡ word → is_numeral word ≡ true → ParsesUnsigned 64 10 text r → o ≡ result_ok r →
    o ≡ cond (is_numeral word && ltb (numeral_value word) 18446744073709551616) (Some (numeral_value word)) None
unfolding numeral_value
parsed {E = E} word text r o same numeral p e =
    let digits = digits_of word numeral in
    e ∙ by r (parse_digits digits_model 64 word r (subst (λ (t : List ℕ). ParsesUnsigned 64 10 t r) same p) digits.0)
    ∙ sym (ap (λ (b : Bool). cond (b && ltb v 18446744073709551616) (Some v) None) numeral)
  where
    v : ℕ
    v = digits_value 10 word

    by : (s : Result ℕ E) → OkIff s ((0 < length word) × (v < 2 ^ 64)) v → result_ok s ≡ cond (ltb v 18446744073709551616) (Some v) None
    by (Ok x) h = ap (λ n. Some n) h.1 ∙ sym (ap (λ (b : Bool). cond b (Some v) None) (lt-ltb v 18446744073709551616 h.0.1))
    by (Err x) h =
        sym (ap (λ (b : Bool). cond b (Some v) None) (not_below (ltb v 18446744073709551616) refl))
      where
        not_below : (b : Bool) → ltb v 18446744073709551616 ≡ b → ltb v 18446744073709551616 ≡ false
        not_below true is = absurd (h ((digits_of word numeral).1, ltb-true v 18446744073709551616 is))
        not_below false is = is
