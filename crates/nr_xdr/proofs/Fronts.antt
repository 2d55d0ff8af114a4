-- A list read element after element, as a loop does: the elements that are read, and those that are left.
use Rattle.std.proofs.Common.{◌≡◌, ℕ, suc, ◌-◌, ◌+◌, ◌≤◌, ◌<◌, List, [], ◌∷◌, ◌++◌, Result, Ok, Err, refl, ap, append_assoc, arith}
use Rattle.std.proofs.lemmas.List.{append-nil}
use Rattle.nr_xdr.specs.Reading.{Cursor}
use Rattle.nr_xdr.specs.Sequencing.{◌>>=◌}

-- the elements that were read before, and those that this reading gives
abbrev pub with_front : {A : Type 0} → List A → Result (List A × Cursor) ℕ → Result (List A × Cursor) ℕ
with_front front read = read >>= λ x. Ok (front ++ x.0, x.1)

pub regroup : {A : Type 0} (front : List A) (e : A) (read : Result (List A × Cursor) ℕ)
    → with_front front (read >>= λ x. Ok (e ∷ x.0, x.1)) ≡ with_front (front ++ e ∷ []) read
regroup front e (Ok x) = ap (λ (es : _). Ok (es, x.1)) (simp append_assoc)
regroup front e (Err at) = refl

pub nothing_before : {A : Type 0} (read : Result (List A × Cursor) ℕ) → with_front [] read ≡ read
nothing_before (Ok x) = refl
nothing_before (Err at) = refl

pub none_behind : {A : Type 0} (front : List A) (c : Cursor) → with_front front (Ok ([], c)) ≡ Ok (front, c)
none_behind front c = ap (λ (es : _). Ok (es, c)) (append-nil front)

pub left_is : (count i : ℕ) → i < count → count - i ≡ suc (count - (i + 1))
left_is count i lt = omega arith

pub none_left : (count i : ℕ) → count ≤ i → count - i ≡ 0
none_left count i le = omega arith
