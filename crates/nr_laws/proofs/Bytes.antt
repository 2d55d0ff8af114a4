-- Bytes joined to bytes are bytes.
use Rattle.std.proofs.Common.{◌≡◌, ℕ, ◌+◌, ◌<◌, List, ◌++◌, length, get_or, subst, ◌-◌, arith, inl, inr}
use Rattle.std.proofs.lemmas.Bool.{cases_lt}
use Rattle.std.proofs.lemmas.List.{get_or-append-add, get_or_append_left}
use Rattle.nr_xdr.specs.Item.{IsBytes}

pub bytes_both : (x y : List ℕ) → IsBytes x → IsBytes y → IsBytes (x ++ y)
bytes_both x y h k i =
    elim (cases_lt i (length x)) [
      | inl lt ↦ rw (get_or_append_left x y 0 i lt) (h i)
      | inr le ↦
          let at : length x + (i - length x) ≡ i = omega (arith, le) in
          subst (λ (n : ℕ). get_or (x ++ y) n 0 < 256) at (rw (get_or-append-add x y (i - length x) 0) (k (i - length x)))
    ]
