use Rattle.nr_endpoint.proofs.ReceiveQueueBytes.{nothing_begun}
use Rattle.nr_endpoint.proofs.receive_queue.begin_send.Goals as goal

pub returns-clause-bytes : goal.returns-clause-bytes
returns-clause-bytes c = nothing_begun c.args.receive_length c.args.buf
