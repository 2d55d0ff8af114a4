use Rattle.nr_endpoint.proofs.Queued.{hello_queues, on_any_err}
use Rattle.nr_endpoint.proofs.send_queue.SendQueue.queue_hello.Goals as goal

pub returns-in-Responder-clause-queued : goal.returns-in-Responder-clause-queued
returns-in-Responder-clause-queued c = rw c.in-Responder.is (on_any_err c.push_hello.result (hello_queues c.args.private.now c.args.self.now))
