use Rattle.std.proofs.Common.{[], true}
use Rattle.nr_endpoint.proofs.ReceiveQueueBytes.{kept_begun}
use Rattle.nr_endpoint.proofs.ReceiveQueueSteps.{with_request}
use Rattle.nr_endpoint.proofs.receive_queue.ReceiveQueue.count_request.Goals as goal

pub returns : goal.returns
returns c =
    rw (← c.self.view_is)
    (with_request true 0 0 0 0 [] _ (kept_begun c.self.inside.receive_length c.self.inside.begun c.self.invariant.begun_len))
