use Rattle.std.proofs.Common.{◌≡◌, ℕ, ◌++◌, List, [], ◌∷◌, length, remove, ap, sym, ◌∙◌, arith}
use Rattle.std.proofs.lemmas.List.{length-set}
use Rattle.nr_tree.proofs.Blocks.{shift_down, put_last}
use Rattle.nr_tree.proofs.order.Order.move_down.Goals as goal

pub moving-preserved : goal.moving-preserved
moving-preserved c = (
  omega (arith, c.moving-test.true),
  ap (λ (l : List ℕ). length l) c.set.ensures ∙ length-set c.moving.self c.moving.at c.get-next.result ∙ c.moving.invariant.1,
  shift_down c.moving.self c.set.new.self c.moving.at c.get-next.result (omega (arith, c.moving-test.true, c.moving.invariant.1, c.requires.last)) c.get-next.ensures c.set.ensures ∙ c.moving.invariant.2,
)

pub returns : goal.returns
returns c =
    let end : c.moving.at ≡ c.args.last = omega (arith, c.moving-test.false, c.moving.invariant.0) in
    c.set-2.ensures ∙ put_last c.moving.self c.args.last c.args.index (omega (arith, c.moving.invariant.1, c.requires.last))
    ∙ ap (λ (l : List ℕ). l ++ c.args.index ∷ []) (ap (λ (n : ℕ). remove c.moving.self n) (sym end) ∙ c.moving.invariant.2)
