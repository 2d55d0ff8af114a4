-- A call whose arguments were read.
use Rattle.std.proofs.Common.{◌≡◌, ℕ, List, Option, Some, Result, Ok, Err, ap, sym, ◌∙◌, subst}
use Rattle.nr_nfs_base.specs.Codec.{Codec, read_all, read_or_none}

same_value : {A : Type 0} (x y : A) → Some x ≡ Some y → x ≡ y
same_value x y e = cc

value_read : {A : Type 0} (r : Result A ℕ) (a : A) → Some a ≡ read_or_none r → r ≡ Ok a
value_read (Ok x) a e = ap Ok (sym (same_value a x e))
value_read (Err at) a e = absurd cc

-- what holds of the arguments holds of what was read
pub read_as : {A : Type 0} (codec : Codec A) (bytes : List ℕ) (o : Option A) (a : A) → o ≡ read_or_none (read_all codec bytes) → o ≡ Some a → (P : Result A ℕ → Type 0) → P (Ok a) → P (read_all codec bytes)
read_as codec bytes o a read is P holds = subst P (sym (value_read (read_all codec bytes) a (sym is ∙ read))) holds
