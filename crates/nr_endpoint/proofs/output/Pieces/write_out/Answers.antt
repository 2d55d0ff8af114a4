use Rattle.std.proofs.Common.{take, drop, arith, ap, sym, ◌∙◌}
use Rattle.std.proofs.Math.Seq.{take-add}
use Rattle.std.proofs.lemmas.List.{drop-drop, length-drop}
use Rattle.std.proofs.KnownBytes.{Appends-trans}
use Rattle.nr_endpoint.proofs.WrittenOut.{when_ok}
use Rattle.nr_endpoint.proofs.output.Pieces.write_out.Goals as goal

pub loop-total-preserved : goal.loop-total-preserved
loop-total-preserved g c =
    let so_far = c.loop-total.invariant in
    let at = c.loop-total.total in
    let n = c.write_first-count.result.0 in
    let bytes = c.args.self.now in
    let write = c.write_first-count.ensures in
    let live = sym c.is_err.ensures.value ∙ c.if-is_err.false in
    let bound = rw (so_far.left) at write.count in
    let took = rw (so_far.left) at write.took in
    record {
      count = omega (arith, bound, length-drop at bytes, so_far.count);
      left = write.left ∙ ap (drop n) so_far.left ∙ drop-drop n at bytes;
      took = rw (take-add at n bytes) (Appends-trans _ _ _ (take at bytes) (take n (drop at bytes)) so_far.took took);
      faults = when_ok c.write_first-count.result.1 _ _ live write.counted ∙ so_far.faults;
    }

pub returns-then-is_err-clause-took : goal.returns-then-is_err-clause-took
returns-then-is_err-clause-took g c =
    let so_far = c.loop-total.invariant in
    let at = c.loop-total.total in
    let n = c.write_first-count.result.0 in
    let bytes = c.args.self.now in
    let took = rw (so_far.left) at c.write_first-count.ensures.took in
    rw (take-add at n bytes) (Appends-trans _ _ _ (take at bytes) (take n (drop at bytes)) so_far.took took)
