use lib.Signed.{lt_z}
use Rattle.std.proofs.Common.{◌≡◌, ℕ, ◌≤◌, List, [], ◌∷◌, length, refl, ap}
use Rattle.std.specs.Prelude.{suc, unsigned_abs, ℤ, pos, negsuc, Some, false}
use Rattle.std.proofs.Common.{arith}
use Rattle.std.proofs.lemmas.Bool.Decides.{nat_tests}
use Rattle.toml.specs.View.{members_view}
use Rattle.toml.proofs.Views.{Entry}
use Rattle.nr_words.specs.Settings.{count, in_range}

pub count_view : (entries : List Entry) → count (members_view entries) ≡ length entries
count_view [] = refl
count_view (entry ∷ entries) = ap suc (count_view entries)

pub in_range_of : (low high : ℕ) (z : ℤ) → lt_z z (pos 0) ≡ false → low ≤ unsigned_abs z → unsigned_abs z ≤ high → Some (unsigned_abs z) ≡ in_range low high z
in_range_of low high (pos n) h a b = grind (arith, nat_tests)
in_range_of low high (negsuc n) h a b = cc
