use Rattle.std.proofs.Common.{◌+◌, ◌≤◌, ◌<◌, length, refl, arith, sym, ap, ◌∙◌}
use Rattle.std.proofs.lemmas.List.{take_all}
use Rattle.nr_endpoint.specs.SendQueue.{ends_passed}
use Rattle.nr_endpoint.proofs.SendQueues.{looked_at_none, looked_at_all, looked_at_more, passed_more, passed_within}
use Rattle.nr_endpoint.proofs.send_queue.retire_ends.Goals as goal

pub loop-i-init : goal.loop-i-init
loop-i-init c = record { ends = sym (looked_at_none c.args.n c.args.ends.now.items); passed = refl; capacity = refl }

pub loop-i-preserved : goal.loop-i-preserved
loop-i-preserved c =
    let ends = c.args.ends.now.items in
    let below : c.loop-i._i < length ends = omega (arith, c.args.ends.now.ok) in
    let left = c.retire_first-passed.ensures in
    record {
      ends = looked_at_more c.args.n c.loop-i._i ends _ _ below c.loop-i.invariant.ends left.left;
      passed = passed_more c.args.n c.loop-i._i _ _ ends _ below c.loop-i.invariant.ends c.loop-i.invariant.passed left.passed;
      capacity = left.capacity ∙ c.loop-i.invariant.capacity;
    }

pub overflow_add-passed : goal.overflow_add-passed
overflow_add-passed c =
    let ends = c.args.ends.now.items in
    let below : c.loop-i._i < length ends = omega (arith, c.args.ends.now.ok) in
    let left = c.retire_first-passed.ensures in
    let sum = passed_more c.args.n c.loop-i._i _ _ ends _ below c.loop-i.invariant.ends c.loop-i.invariant.passed left.passed in
    omega (arith, sum, passed_within c.args.n (c.loop-i._i + 1) ends)

pub returns-clause-left : goal.returns-clause-left
returns-clause-left c =
    let ends = c.args.ends.now.items in
    let all : length ends ≤ c.loop-i._i = omega (arith, c.args.ends.now.ok) in
    c.loop-i.invariant.ends ∙ looked_at_all c.args.n c.loop-i._i ends all

pub returns-clause-passed : goal.returns-clause-passed
returns-clause-passed c =
    let ends = c.args.ends.now.items in
    let all : length ends ≤ c.loop-i._i = omega (arith, c.args.ends.now.ok) in
    c.loop-i.invariant.passed ∙ ap (ends_passed c.args.n) (take_all c.loop-i._i ends all)

pub returns-clause-capacity : goal.returns-clause-capacity
returns-clause-capacity c = c.loop-i.invariant.capacity
