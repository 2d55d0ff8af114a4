use Rattle.std.proofs.Common.{◌-◌, ◌≤◌, ◌<◌, length, subst, sym, arith, ltb-true, ltb-false}
use Rattle.nr_tree.specs.private.Blocks.{IndexBlock, block_max}
use Rattle.nr_tree.proofs.Joined.{last_found, last_full, last_has}
use Rattle.nr_tree.proofs.order.has_room.Goals as goal

pub returns-in-Some-clause-yes : goal.returns-in-Some-clause-yes
returns-in-Some-clause-yes c =
    let found = last_found c.args.blocks.now c.in-Some.block.now c.in-Some.ensures.value in
    λ less. last_has c.args.blocks.now (length c.args.blocks.now - 1) found.0
    (subst (λ (b : IndexBlock). length b.indexes < block_max) (sym found.1) (omega (arith, ltb-true c.len.result 2048 less, c.len.ensures.len)))

pub returns-in-Some-clause-no : goal.returns-in-Some-clause-no
returns-in-Some-clause-no c =
    let found = last_found c.args.blocks.now c.in-Some.block.now c.in-Some.ensures.value in
    λ full. last_full c.args.blocks.now (length c.args.blocks.now - 1) found.0
    (subst (λ (b : IndexBlock). block_max ≤ length b.indexes) (sym found.1) (omega (arith, ltb-false c.len.result 2048 full, c.len.ensures.len)))
    (subst (λ (b : IndexBlock). block_max ≤ b.room) (sym found.1) (omega (arith, ltb-false c.len.result 2048 full, c.len.ensures.len, c.len.ensures.room)))
