use Rattle.std.proofs.Common.{◌<◌, [], ◌∷◌, ℕ, sym, subst, arith}
use Rattle.std.specs.List.{All}
use Rattle.std.proofs.lemmas.List.Elements.{All-append}
use Rattle.nr_client.proofs.JobCalls.{all_one}
use Rattle.nr_client.proofs.jobs.offsets_from.Goals as goal

pub offsets-init : goal.offsets-init
offsets-init c = λ k d lt. absurd (grind (arith, c.in_ok-offsets.ensures.items, lt))

pub offsets-preserved : goal.offsets-preserved
offsets-preserved c =
    let below : c.offsets.at < c.args.size = grind (arith, c.offsets-test.true) in
    subst (All (λ (n : ℕ). n < c.args.size)) (sym c.in_ok-push.ensures.items) (All-append (λ (n : ℕ). n < c.args.size) c.offsets.offsets.items (c.offsets.at ∷ []) c.offsets.invariant (all_one (λ (n : ℕ). n < c.args.size) c.offsets.at below))
