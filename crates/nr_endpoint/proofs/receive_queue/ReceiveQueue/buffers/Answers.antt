use Rattle.std.proofs.Common.{arith}
use Rattle.nr_endpoint.proofs.ReceiveQueueBuffers.{messages_in_deliveries}
use Rattle.nr_endpoint.proofs.receive_queue.ReceiveQueue.buffers.Goals as goal

pub returns-clause-kept : goal.returns-clause-kept
returns-clause-kept c = rw (← c.self.view_is) (omega (arith, c.self.invariant.total, messages_in_deliveries c.self.inside.messages.items c.self.inside.reads_done))
