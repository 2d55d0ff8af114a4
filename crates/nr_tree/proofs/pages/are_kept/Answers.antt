use Rattle.std.proofs.Common.{◌+◌, ◌≤◌, length, arith}
use Rattle.std.proofs.lemmas.Bool.Decides.{nat_tests}
use Rattle.nr_tree.proofs.PageCount.{all_kept}
use Rattle.nr_tree.proofs.pages.are_kept.Goals as goal

pub returns : goal.returns
returns c is =
    let many : c.args.end ≤ c.args.first + length c.range.result = grind (arith, nat_tests, is, c.count.ensures.bound) in
    all_kept c.args.pages.now c.range.result c.args.first c.args.end (c.range.ensures.in_range tt).0 c.range.ensures.places c.range.ensures.ordered many
