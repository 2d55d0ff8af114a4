-- An export or a target within its limit, and one above it.
use Rattle.std.proofs.Common.{◌≡◌, ℕ, ◌<◌, ◌≤◌, List, length, Result, Err, true, false, arith, refl, subst, sym}
use Rattle.std.specs.Prelude.{Bool, nat_lt, MatchBool}
use Rattle.std.proofs.lemmas.Bool.Decides.{nat_tests}
use Rattle.nr_client.specs.declared.client_end.ClientEnd.{ClientEnd}
use Rattle.nr_client.specs.declared.client_end.ClientEnd.TheVariants as client
use Rattle.nr_commands.specs.Sessions.{FailsOver, PartOver}

is_above : (limit len : ℕ) → limit < len → nat_lt limit len ≡ true
is_above limit len above = grind (arith, nat_tests)

is_within : (limit len : ℕ) → len ≤ limit → nat_lt limit len ≡ false
is_within limit len within = grind (arith, nat_tests)

-- it is not sent
pub too_long : {A V : Type 0} (sent : PartOver V A) (limit : ℕ) (text : List ℕ) (s : V) → limit < length text
    → MatchBool (nat_lt limit (length text)) (FailsOver {A = A} (client.Budget limit) s s (Err (client.Budget limit))) (sent s s (Err (client.Budget limit)))
too_long {A} sent limit text s above =
    subst (λ (b : Bool). MatchBool b (FailsOver {A = A} (client.Budget limit) s s (Err (client.Budget limit))) (sent s s (Err (client.Budget limit)))) (sym (is_above limit (length text) above)) (refl, refl)

-- it is sent
pub fits : {A V : Type 0} (sent : PartOver V A) (limit : ℕ) (text : List ℕ) (s s' : V) (result : Result A ClientEnd) → length text ≤ limit
    → sent s s' result → MatchBool (nat_lt limit (length text)) (FailsOver (client.Budget limit) s s' result) (sent s s' result)
fits sent limit text s s' result within is =
    subst (λ (b : Bool). MatchBool b (FailsOver (client.Budget limit) s s' result) (sent s s' result)) (sym (is_within limit (length text) within)) is
