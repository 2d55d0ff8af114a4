-- A chunk that comes back, segment by segment.
use Rattle.std.proofs.Common.{◌≡◌, ℕ, suc, ◌+◌, ◌<◌, Bool, true, false, ◌&&◌, ◌||◌, ◌==◌, List, [], ◌∷◌, length, drop, refl, ap, ◌∙◌, get_or}
use Rattle.std.specs.Prelude.{nat_le}
use Rattle.std.proofs.lemmas.List.{drop_more}
use Rattle.nr_header.specs.declared.header.RdmaSegment.{RdmaSegment}
use Rattle.nr_reduce.specs.Chunks.{are_empty, returns, returns_each}
use Rattle.nr_reduce.specs.CodeViews.{returns_one}

regroup : (h f l e x : Bool) → (h && (f && (l && (e && x)))) ≡ ((h && (f && (l && e))) && x)
regroup true true true true x = refl
regroup true true true false x = refl
regroup true true false e x = refl
regroup true false l e x = refl
regroup false f l e x = refl

pub returns_more : (o b : RdmaSegment) (os bs : List RdmaSegment) → returns (o ∷ os) (b ∷ bs) ≡ (returns_one o b bs && returns os bs)
returns_more o b os bs = regroup (b.handle == o.handle) (b.offset == o.offset) (nat_le b.length o.length) (b.length == o.length || are_empty bs) (returns os bs)

pub returns_at : (offered back : List RdmaSegment) (i : ℕ) (d : RdmaSegment) → i < length offered → i < length back →
    returns (drop i offered) (drop i back) ≡ (returns_one (get_or offered i d) (get_or back i d) (drop (i + 1) back) && returns (drop (i + 1) offered) (drop (i + 1) back))
returns_at offered back i d lt lt2 =
    (λ j. returns (drop_more offered i d lt j) (drop_more back i d lt2 j))
    ∙ returns_more (get_or offered i d) (get_or back i d) (drop (i + 1) offered) (drop (i + 1) back)

pub other_length : (offered back : List RdmaSegment) → (length offered ≡ length back → ⊥) → returns offered back ≡ false
other_length [] [] n = absurd (n refl)
other_length [] (b ∷ bs) n = refl
other_length (o ∷ os) [] n = refl
other_length (o ∷ os) (b ∷ bs) n =
    returns_more o b os bs ∙ ap (λ (x : Bool). returns_one o b bs && x) (other_length os bs (λ e. n (ap suc e))) ∙ and_false (returns_one o b bs)
  where
    and_false : (x : Bool) → (x && false) ≡ false
    and_false true = refl
    and_false false = refl

pub other_count : (offered back : List (List RdmaSegment)) → (length offered ≡ length back → ⊥) → returns_each offered back ≡ false
other_count [] [] n = absurd (n refl)
other_count [] (b ∷ bs) n = refl
other_count (o ∷ os) [] n = refl
other_count (o ∷ os) (b ∷ bs) n = ap (λ (x : Bool). returns o b && x) (other_count os bs (λ e. n (ap suc e))) ∙ and_false (returns o b)
  where
    and_false : (x : Bool) → (x && false) ≡ false
    and_false true = refl
    and_false false = refl
