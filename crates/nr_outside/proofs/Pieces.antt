-- Two pieces that are written one after the other.
use Rattle.std.proofs.Common.{◌≡◌, ℕ, ◌-◌, ◌+◌, ◌<◌, ◌≤◌, ◌⊎◌, List, ◌++◌, length, drop, arith, inl, inr, sym, ap, ap₂, ◌∙◌}
use Rattle.std.specs.Prelude.{min}
use Rattle.std.proofs.Math.Seq.{drop-append-add}
use Rattle.std.proofs.lemmas.Bool.{cases_lt}
use Rattle.std.proofs.lemmas.List.{drop-append-le, drop_all}

-- what is left of both after n bytes
pub drop-both : (head body : List ℕ) (at : ℕ)
    → drop (min at (length head)) head ++ drop (at - min at (length head)) body ≡ drop at (head ++ body)
drop-both head body at = by (cases_lt at (length head)) where
  by : (at < length head) ⊎ (length head ≤ at)
      → drop (min at (length head)) head ++ drop (at - min at (length head)) body ≡ drop at (head ++ body)
  by (inl less) =
      let of_head : min at (length head) ≡ at = omega (arith, less) in
      let of_body : at - min at (length head) ≡ 0 = omega (arith, less) in
      ap₂ (λ (i j : ℕ). drop i head ++ drop j body) of_head of_body ∙ sym (drop-append-le at head body (omega (arith, less)))
  by (inr past) =
      let of_head : min at (length head) ≡ length head = omega (arith, past) in
      let of_body : at - min at (length head) ≡ at - length head = omega (arith, past) in
      let sum : at ≡ length head + (at - length head) = omega (arith, past) in
      ap₂ (λ (i j : ℕ). drop i head ++ drop j body) of_head of_body
      ∙ ap (λ (l : List ℕ). l ++ drop (at - length head) body) (drop_all (length head) head (omega arith))
      ∙ sym (ap (λ (k : ℕ). drop k (head ++ body)) sum ∙ drop-append-add head body (at - length head))
