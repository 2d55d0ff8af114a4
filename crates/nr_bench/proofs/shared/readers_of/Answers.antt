use Rattle.std.proofs.Common.{[], ◌∷◌, ◌<◌, ℕ, List, zero, suc, sym, subst, arith}
use Rattle.std.specs.List.{All}
use Rattle.std.proofs.lemmas.List.Elements.{All-append}
use Rattle.nr_shared.specs.Sharing.{SharedRests}
use Rattle.nr_bench.proofs.shared.readers_of.Goals as goal

all_one : {X : Type 0} (P : X → Type 0) (x : X) → P x → All P (x ∷ [])
all_one P x p zero d lt = p
all_one P x p (suc k) d lt = absurd (omega (arith, lt))

pub readers-init : goal.readers-init
readers-init g c = (c.requires, λ k d lt. absurd (grind (arith, c.in_ok-readers.ensures.items, lt)))

pub readers-preserved : goal.readers-preserved
readers-preserved g c =
    let (rests, all) = c.readers.invariant in (
      c.split.ensures.rests.0,
      subst (All (λ r. SharedRests c.args.shared.now r.pass)) (sym c.in_ok-push.ensures.items)
          (All-append (λ r. SharedRests c.args.shared.now r.pass) c.readers.readers.items _ all (all_one (λ r. SharedRests c.args.shared.now r.pass) _ c.split.ensures.rests.1)),
    )
