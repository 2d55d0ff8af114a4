-- The status word of a call: 0, or the number of a failure.
use Rattle.std.proofs.Common.{◌≡◌, ◌≢◌, ℕ, true, false, List, Option, Some, refl, sym, eqb}
use Rattle.std.specs.Prelude.{option_map}
use Rattle.std.proofs.lemmas.Bool.{eqb-true}
use Rattle.nr_nfs_base.specs.Codec.{value_with_number}
use Rattle.nr_nfs_base.specs.StatusUnion.{status_tag_number, status_tags, find_tags}

apart : (n : ℕ) → n ≢ 0 → eqb 0 n ≡ false
apart n ne = elim (eqb 0 n) as (λ b. eqb 0 n ≡ b → b ≡ false) [
  | true ↦ λ e. absurd (ne (sym (eqb-true 0 n e)))
  | false ↦ λ e. refl
] refl

-- a word other than 0 is the tag of a failure
pub tag_is : {S : Type 0} (number : S → ℕ) (all : List S) (n : ℕ) (o : Option S) → n ≢ 0 → o ≡ value_with_number number all n → option_map Some o ≡ value_with_number (status_tag_number number) (status_tags all) n
tag_is number all n o ne is = rw (apart n ne, find_tags number all n, ← is) refl
