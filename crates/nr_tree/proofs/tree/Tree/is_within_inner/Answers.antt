use Rattle.std.proofs.Common.{◌≡◌, ℕ, suc, ◌+◌, ◌-◌, ap, sym, ◌∙◌, arith}
use Rattle.std.proofs.lemmas.Bool.{eq-eqb, ne_eqb}
use Rattle.nr_tree.specs.Sane.{skeleton}
use Rattle.nr_tree.specs.Within.{walks_to}
use Rattle.nr_tree.proofs.Walks.{walk_ends, walk_fails, walk_goes_on}
use Rattle.nr_tree.proofs.tree.Tree.is_within_inner.Goals as goal

pub loop-init : goal.loop-init
loop-init c = let whole : c.next-end.result - 0 ≡ c.args.self.now.next = omega (arith, c.next-end.ensures) in ap (λ (m : ℕ). walks_to m (skeleton c.args.self.now) c.args.dir c.args.top) whole

pub returns-then-number-top : goal.returns-then-number-top
returns-then-number-top c =
    sym (walk_ends (skeleton c.args.self.now) c.loop.number c.args.top (c.next-end.result - c.loop.counter) (omega (arith, c.loop-test.true)) (eq-eqb c.loop.number c.args.top c.if-number-top.true)) ∙ c.loop.invariant

pub returns-then-number-eq1 : goal.returns-then-number-eq1
returns-then-number-eq1 c =
    sym (walk_fails (skeleton c.args.self.now) c.loop.number c.args.top (c.next-end.result - c.loop.counter) (omega (arith, c.loop-test.true)) (ne_eqb c.loop.number c.args.top c.if-number-top.false) (eq-eqb c.loop.number 1 c.if-number-eq1.true))
    ∙ c.loop.invariant

pub loop-preserved : goal.loop-preserved
loop-preserved c =
    let left : c.next-end.result - c.loop.counter ≡ suc (c.next-end.result - (c.loop.counter + 1)) = omega (arith, c.loop-test.true) in
    ap (λ (n : ℕ). walks_to (c.next-end.result - (c.loop.counter + 1)) (skeleton c.args.self.now) n c.args.top) c.parent_of-number.ensures
    ∙ sym (walk_goes_on (skeleton c.args.self.now) c.loop.number c.args.top (c.next-end.result - c.loop.counter) (c.next-end.result - (c.loop.counter + 1)) left (ne_eqb c.loop.number c.args.top c.if-number-top.false) (ne_eqb c.loop.number 1 c.if-number-eq1.false))
    ∙ c.loop.invariant

pub returns : goal.returns
returns c =
    let none : c.next-end.result - c.loop.counter ≡ 0 = omega (arith, c.loop-test.false) in
    ap (λ (m : ℕ). walks_to m (skeleton c.args.self.now) c.loop.number c.args.top) (sym none) ∙ c.loop.invariant
