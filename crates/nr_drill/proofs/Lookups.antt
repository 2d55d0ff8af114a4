-- An element that was looked up by its index.
use Rattle.std.proofs.Common.{◌≡◌, ℕ, ◌<◌, ◌≤◌, List, length, Option, get_or, refl, sym, ap, subst, ◌∙◌}
use Rattle.std.specs.Prelude.{slice_get, MatchOption}
use Rattle.std.proofs.lemmas.Option.{slice_get_read, slice_get_past}

pub found : {X : Type 0} (xs : List X) (i j : ℕ) (x : X) (N : Type 0) (P : X → Type 0) → i ≡ j → i < length xs → x ≡ get_or xs i x → P x → MatchOption (slice_get xs j) N P
found {X} xs i j x N P e lt is h = subst (λ (o : Option X). MatchOption o N P) (sym (ap (slice_get xs) (sym e) ∙ slice_get_read xs (length xs) i x refl lt is)) h

pub missing : {X : Type 0} (xs : List X) (i j : ℕ) (N : Type 0) (P : X → Type 0) → i ≡ j → length xs ≤ i → N → MatchOption (slice_get xs j) N P
missing {X} xs i j N P e past h = subst (λ (o : Option X). MatchOption o N P) (sym (ap (slice_get xs) (sym e) ∙ slice_get_past xs i past)) h
