use Rattle.std.proofs.Common.{◌<◌, ◌^◌, length, sym, subst, arith}
use Rattle.nr_endpoint.specs.ReceiveQueue.{ReceiveQueue}
use Rattle.nr_endpoint.specs.Views.{deliveries}
use Rattle.nr_endpoint.proofs.ReceiveQueueBuffers.{deliveries_read, reads_within}
use Rattle.nr_endpoint.proofs.ReceiveQueueSteps.{read_counted}
use Rattle.nr_endpoint.proofs.receive_queue.ReceiveQueue.read_done.Goals as goal

pub overflow_add-self : goal.overflow_add-self
overflow_add-self c =
    let few : length (deliveries c.self.inside.messages.items c.self.inside.reads_done) < 2 ^ 63 = subst (λ (q : ReceiveQueue). length q.deliveries < 2 ^ 63) (sym c.self.view_is) c.requires in
    omega (arith, few, reads_within c.self.inside.messages.items c.self.inside.reads_done)

pub returns : goal.returns
returns c = rw (← c.self.view_is) (read_counted _ _ (deliveries_read c.self.inside.messages.items c.self.inside.reads_done))
