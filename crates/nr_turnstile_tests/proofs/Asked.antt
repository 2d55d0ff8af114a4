-- A question is open after it is asked, and is so until it is answered.
use Rattle.std.proofs.Common.{◌≡◌, ℕ, suc, List, length, sym, ap, ◌∙◌, subst}
use Rattle.nr_turnstile.specs.declared.turnstile.Turnstile.{Turnstile}
use Rattle.nr_turnstile.specs.declared.turnstile.Pass.{Pass}
use Rattle.nr_turnstile.specs.declared.plays.View.{View}
use Rattle.nr_turnstile.specs.Rule.{Lies, IsOpen}
use Rattle.nr_turnstile.specs.Passes.{Gets, MayStep, Steps, seen_by, mine_of}
use Rattle.nr_turnstile.proofs.Open.{begins_open, stays_open, lies_on}
use Rattle.nr_turnstile_tests.specs.Asks.{closing, IsAsked, IsAnswered}

module _ {D : Type 0} (stands : D → List ℕ → Type 0) where
  pub asked : (t : Turnstile D ℕ) (o p r x : Pass D ℕ) (n : ℕ) → Gets stands closing t o p → MayStep closing p 0 → Steps p r 0 → seen_by x ≡ seen_by r → mine_of x ≡ mine_of r → n ≡ length (seen_by p) → IsAsked x n
  asked t o p r x n g may step seen mine is =
      let b = begins_open stands closing t o p r 0 g may step in
      let l : Lies (seen_by r) (mine_of r) = subst (λ (v : View ℕ). Lies v.seen v.mine) (sym step) (lies_on (seen_by p) (mine_of p) 0 g.7) in (
        subst (λ (m : List ℕ). Lies (seen_by x) m) (sym mine) (subst (λ (s : List ℕ). Lies s (mine_of r)) (sym seen) l),
        subst (λ (k : ℕ). IsOpen closing (seen_by x) (mine_of x) k) (sym is) (subst (λ (m : List ℕ). IsOpen closing (seen_by x) m (length (seen_by p))) (sym mine) (subst (λ (s : List ℕ). IsOpen closing s (mine_of r) (length (seen_by p))) (sym seen) b)),
      )

  pub answered : (t : Turnstile D ℕ) (o p r x : Pass D ℕ) (n : ℕ) → Gets stands closing t o p → IsAsked o n → Steps p r (suc n) → seen_by x ≡ seen_by r → IsAnswered x n
  answered t o p r x n g a step seen = (seen_by p, mine_of p, seen ∙ ap (λ (v : View ℕ). v.seen) step, stays_open stands closing t o p n a.0 a.1 g)
