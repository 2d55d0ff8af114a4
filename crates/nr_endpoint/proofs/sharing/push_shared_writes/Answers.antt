use Rattle.std.proofs.Common.{◌++◌, List, ℕ, ap, ◌∙◌}
use Rattle.nr_endpoint.proofs.Cuts.{carried_write}
use Rattle.nr_endpoint.proofs.WholeCalls.{shared_goes}
use Rattle.nr_endpoint.proofs.sharing.push_shared_writes.Goals as goal

pub loop-write-preserved : goal.loop-write-preserved
loop-write-preserved c =
    let w = c.write-item.result in
    record {
      items = shared_goes c.args.writes.now c.loop-write.write-index w _ c.loop-write.out.items c.push_write.new.out.items c.loop-write-test.true c.write-item.is c.loop-write.invariant.items
          (c.in_ok-push_write.ensures ∙ ap (λ (bytes : List ℕ). c.loop-write.out.items ++ bytes) (carried_write w.stag w.to w.bytes));
    }
