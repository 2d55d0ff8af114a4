-- An open place stays open while others have the turn.
use Rattle.std.proofs.Common.{◌≡◌, ℕ, ◌+◌, List, [], ◌∷◌, ◌++◌, length, sym, ap, ◌∙◌, subst, ⊎_elim, arith, length-append, Option}
use mathlib.Core.Option.{some}
use lib.ListN.{get_elem?}
use Rattle.nr_turnstile.specs.declared.plays.View.{View}
use Rattle.nr_turnstile.specs.Rule.{IsIn, Lies}
use Rattle.nr_turnstile.specs.Passes.{BeginsOpen, StaysOpen, seen_by, mine_of}
use Rattle.nr_turnstile.proofs.Sets.{at_begin, at_below, at_end, in_last, in_snoc}

pub stays_open : {M E : Type 0} (stands : M → List E → Type 0) (closes : E → Option ℕ) → StaysOpen stands closes
stays_open {M} {E} stands closes t p q k lies o g = (
  subst (IsIn k) (sym g.4) o.0,
  λ n e at c. let own : IsIn n (mine_of q) = g.6 k n e (subst (IsIn k) (sym g.4) o.0) at c in
      o.1 n e (at_begin (seen_by p) g.3.0 n e (lies n (subst (IsIn n) g.4 own)) (subst (λ (l : List E). get_elem? l n ≡ some e) g.3.1 at)) c,
)

pub begins_open : {M E : Type 0} (stands : M → List E → Type 0) (closes : E → Option ℕ) → BeginsOpen stands closes
begins_open {M} {E} stands closes t o p q e g may is =
    let seen : seen_by q ≡ seen_by p ++ e ∷ [] = ap (λ (v : View E). v.seen) is in
    let n : ℕ = length (seen_by p) in (
      subst (IsIn n) (sym (ap (λ (v : View E). v.mine) is)) (in_last (mine_of p) n),
      λ k a at c. ⊎_elim
          (λ (old : get_elem? (seen_by p) k ≡ some a). absurd (let l = g.9 n k a old c in let b = at_below (seen_by p) k a old in omega (arith, l, b)))
          (λ (new : (k ≡ n) × (e ≡ a)). absurd (let b = g.7 n (may.0 n (ap closes new.1 ∙ c)) in omega (arith, b)))
          (at_end (seen_by p) e a k (subst (λ (l : List E). get_elem? l k ≡ some a) seen at)),
    )

-- after an entry the own places lie in the history with it
pub lies_on : {E : Type 0} (xs : List E) (mine : List ℕ) (e : E) → Lies xs mine → Lies (xs ++ e ∷ []) (mine ++ length xs ∷ [])
lies_on xs mine e lies k i = let long : length (xs ++ e ∷ []) ≡ length xs + 1 = length-append xs (e ∷ []) in
    ⊎_elim (λ (old : IsIn k mine). let b = lies k old in omega (arith, b, long)) (λ (new : length xs ≡ k). omega (arith, new, long)) (in_snoc mine (length xs) k i)
