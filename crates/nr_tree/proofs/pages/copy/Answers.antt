use Rattle.std.proofs.Common.{◌≡◌, ◌+◌, ◌++◌, ap, ◌∙◌, arith, length, length-append}
use Rattle.std.proofs.lemmas.Bool.Decides.{nat_tests}
use Rattle.nr_tree.proofs.PageLemmas.{writes_none, writes_then, set_more, kept_after}
use Rattle.nr_tree.proofs.pages.copy.Goals as goal

pub loop-rest-preserved : goal.loop-rest-preserved
loop-rest-preserved c =
    let cut : c.loop-rest.rest.now ≡ c.split_at.result.0.now ++ c.split_at.result.1.now = c.split_at.ensures.by_index.0 in
    let both : length c.loop-rest.rest.now ≡ length c.split_at.result.0.now + length c.split_at.result.1.now = ap length cut ∙ length-append c.split_at.result.0.now c.split_at.result.1.now in record {
      sized = c.put_or_remove.ensures.over.sized;
      left = omega (arith, c.loop-rest.invariant.left, both);
      from = omega (arith, c.loop-rest.invariant.from);
      kept = kept_after _ _ c.loop-rest.at c.split_at.result.0.now c.split_at.result.1.now c.loop-rest.rest.now both (c.split_at.ensures.front_len ∙ c.min.ensures) c.put_or_remove.ensures.over c.loop-rest.invariant.kept;
      over = λ qs h. c.loop-rest.invariant.over qs (writes_then _ _ qs c.loop-rest.at c.split_at.result.0.now c.split_at.result.1.now c.loop-rest.rest.now c.put_or_remove.ensures.over h cut);
      set = set_more _ _ c.args.offset c.loop-rest.at (length c.split_at.result.0.now) (omega (arith, c.min.ensures, c.split_at.ensures.front_len)) c.loop-rest.invariant.set c.put_or_remove.ensures.over.below c.put_or_remove.ensures.set;
    }

pub returns-clause-over : goal.returns-clause-over
returns-clause-over c =
    let none : length c.loop-rest.rest.now ≡ 0 = grind (arith, nat_tests, c.is_empty.ensures, c.loop-rest-test.false) in
    c.loop-rest.invariant.over c.loop-rest.pages.entries (writes_none c.loop-rest.pages.entries c.loop-rest.at c.loop-rest.rest.now none c.loop-rest.invariant.sized)
