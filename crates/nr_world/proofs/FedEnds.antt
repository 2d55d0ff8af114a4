-- What is known of an end that was fed, and of the bytes that it was fed.
use Rattle.std.specs.Result.{result_err}
use Rattle.std.proofs.Common.{◌≡◌, ◌≢◌, ℕ, ◌+◌, ◌≤◌, arith, eqb, eqb-true, Bool, true, false, List, [], ◌∷◌, length, Option, None, Some, Result, Ok, Err, refl, ap, sym, ◌∙◌}
use Rattle.nr_link.specs.declared.end.End.{End}
use Rattle.nr_link.specs.declared.end.End.TheVariants as ends

abbrev no_end : Option End
no_end = None

abbrev some_end : End → Option End
some_end e = Some e

abbrev ended_by : End → Result (Unit {0}) End
ended_by e = Err e

some_same : (e f : End) → some_end e ≡ some_end f → e ≡ f
some_same e f is = cc

pub not_out : (r : Result (Unit {0}) End) (ended : Option End) → result_err r ≡ ended → r ≢ ended_by ends.Memory → ended ≢ some_end ends.Memory
not_out (Ok x) ended is other e = absurd (let wrong : no_end ≡ some_end ends.Memory = is ∙ e in cc)
not_out (Err x) ended is other e = other (ap ended_by (some_same x ends.Memory (is ∙ e)))

no_length : (xs : List ℕ) → length xs ≡ 0 → xs ≡ []
no_length [] e = refl
no_length (x ∷ xs) e = absurd (omega (arith, e))

pub is_nothing : (xs : List ℕ) (b : Bool) → b ≡ eqb (length xs) 0 → b ≡ true → xs ≡ []
is_nothing xs b is e = no_length xs (eqb-true (length xs) 0 (sym is ∙ e))

pub is_something : (xs : List ℕ) (b : Bool) → b ≡ eqb (length xs) 0 → b ≡ false → xs ≢ []
is_something xs b is e none = absurd (let wrong : true ≡ false = sym (is ∙ ap (λ (ys : List ℕ). eqb (length ys) 0) none) ∙ e in cc)

pub within_more : (before after len more len2 : ℕ) → after ≤ before + len → before ≤ more → len ≡ len2 → after ≤ more + len2
within_more before after len more len2 a b e = omega (arith, a, b, e)

pub fits_more : (before more len len2 max : ℕ) → before ≤ more → more + len ≤ max → len ≡ len2 → before + len2 ≤ max
fits_more before more len len2 max a b e = omega (arith, a, b, e)
