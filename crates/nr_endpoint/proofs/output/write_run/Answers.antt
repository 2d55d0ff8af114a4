use Rattle.std.proofs.Common.{take, drop, arith, ap, ◌∙◌}
use Rattle.std.proofs.Math.Seq.{take-add}
use Rattle.std.proofs.lemmas.List.{drop-drop, length-drop}
use Rattle.std.proofs.KnownBytes.{Appends-trans}
use Rattle.nr_endpoint.proofs.output.write_run.Goals as goal

pub loop-count-preserved : goal.loop-count-preserved
loop-count-preserved g c =
    let so_far = c.loop-count.invariant in
    let at = c.loop-count.count in
    let n = c.in-Ok.n in
    let bytes = c.args.run.now.items in
    let write = c.in-Ok.ensures in
    let bound = rw (c.as_slice.ensures, so_far.left) at write.bound in
    let took = rw (c.as_slice.ensures, so_far.left) at write.took in
    record {
      count = omega (arith, bound, length-drop at bytes, so_far.count);
      left = c.advance.ensures.items ∙ ap (drop n) so_far.left ∙ drop-drop n at bytes;
      spare = c.advance.ensures.spare ∙ so_far.spare;
      took = rw (take-add at n bytes) (Appends-trans _ _ _ (take at bytes) (take n (drop at bytes)) so_far.took took);
      faults = write.counted ∙ so_far.faults;
    }

pub overflow_add-count : goal.overflow_add-count
overflow_add-count g c =
    let so_far = c.loop-count.invariant in
    let bound = rw (c.as_slice.ensures, so_far.left) at c.in-Ok.ensures.bound in
    omega (arith, bound, length-drop c.loop-count.count c.args.run.now.items, so_far.count, c.len-len.ensures.value, c.len-len.ensures.bound)
