-- The first history of a feeder.
use Rattle.std.proofs.Common.{◌≡◌, ℕ, zero, suc, ◌<◌, ◌^◌, List, [], ◌∷◌, length, None, Some, sym, ap, ◌∙◌, subst, arith, rules}
use mathlib.Core.Option.{some, some-injective, some-ne-none}
use lib.ListN.{get_elem?}
use Rattle.atomic_table.specs.Seated.{TableId}
use Rattle.atomic_table.proofs.Lists.{at_longer}
use Rattle.nr_turnstile.specs.declared.turnstile.Pass.{Pass}
use Rattle.nr_turnstile.specs.Rule.{Begins, Earlier}
use Rattle.nr_turnstile.specs.Passes.{IsOutside, home_of, seen_by}
use Rattle.nr_turnstile_tests.specs.Feeds.{Noted, RepresentsNotes, IsOverHome, closes_none}

module _ {M : Type 0} where
  abbrev pub Stood : Pass M ℕ → ℕ → List (Noted M) → Type 0
  Stood inner entries h = RepresentsNotes inner h × (entries ≡ length h)

  one_stands : (inner : Pass M ℕ) (entries : ℕ) (n : Noted M) → IsOutside inner → home_of n.value ≡ home_of inner → entries ≡ 1 → Stood inner entries (n ∷ [])
  one_stands inner entries n outside home one = ((outside, only), one) where
    only : (k : ℕ) (s : Noted M) → get_elem? (n ∷ []) k ≡ some s → home_of s.value ≡ home_of inner
    only zero s e = subst (λ (z : Noted M). home_of z.value ≡ home_of inner) (some-injective n s e) home
    only (suc k) s e = absurd (some-ne-none s (sym e))

  pub first_stands : (inner : Pass M ℕ) (entries : ℕ) (n : Noted M) (h : List (Noted M)) → h ≡ n ∷ [] → IsOutside inner → home_of n.value ≡ home_of inner → entries ≡ 1 → Stood inner entries h
  first_stands inner entries n h e outside home one = subst (Stood inner entries) (sym e) (one_stands inner entries n outside home one)

  pub first_room : (n : Noted M) (h : List (Noted M)) → h ≡ n ∷ [] → length h < 2 ^ 63
  first_room n h e = omega (arith, ap length e)

  pub first_earlier : (h : List (Noted M)) → Earlier closes_none h
  first_earlier h p q e a c = absurd (none_some p c) where
    none_some : (p : ℕ) → None ≡ Some p → ⊥
    none_some p c = search rules

pub over_more : {F M : Type 0} (z y : TableId) (p q : Pass F (Noted M)) → IsOverHome z p → z ≡ y → Begins (seen_by p) (seen_by q) → IsOverHome y q
over_more z y p q o e b = (o.0, subst (λ l. get_elem? l 0 ≡ some o.0) (sym b.1) (at_longer (seen_by p) b.0 0 o.0 o.1), o.2 ∙ e)
