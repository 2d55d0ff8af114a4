use Rattle.std.proofs.Common.{sym, ◌<◌, arith}
use Rattle.nr_tree.proofs.PageCount.{pages_fit}
use Rattle.nr_tree.proofs.tree.Tree.pages.Goals as goal

pub overflow_cast-result : goal.overflow_cast-result
overflow_cast-result c =
    let small : c.in_ok-pages.pages < 4294967296 = pages_fit c.args.self.now c.args.number c.in_ok-get.field-0.now c.in_ok-pages.pages c.facts.ensures (sym c.in_ok-get.ensures) (sym c.in_ok-pages.ensures) in
    omega arith
