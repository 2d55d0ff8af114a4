use Rattle.std.proofs.Common.{◌≤◌, ℕ, List, length, arith, sym, subst, ◌∙◌}
use Rattle.nr_marks.proofs.Growing.{few_taken}
use Rattle.nr_marks.proofs.keeping.copy_head.Goals as goal

pub returns-in-Ok-clause-size : goal.returns-in-Ok-clause-size
returns-in-Ok-clause-size c =
    let head : length c.as_slice.result.now ≤ 40 =
    subst (λ (xs : List ℕ). length xs ≤ 40) (sym (c.as_slice.ensures ∙ c.in_ok-head.ensures ∙ c.bytes.ensures)) (few_taken 40 _) in
    omega (arith, c.in-Ok.ensures.size, head)
