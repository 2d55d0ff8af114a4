use Rattle.std.proofs.Common.{ap, ◌∙◌}
use Rattle.nr_endpoint.specs.SendQueue.{terminate_by}
use Rattle.nr_endpoint.proofs.Queued.{rejection_queues, terminate_queues, on_any_err}
use Rattle.nr_endpoint.proofs.send_queue.SendQueue.finish.Goals as goal

pub returns-then-is_rejection-clause-queued : goal.returns-then-is_rejection-clause-queued
returns-then-is_rejection-clause-queued c =
    on_any_err c.push_hello.result (rejection_queues c.args.side c.args.end c.args.self.now c.if-is_rejection.ensures.is)

pub returns-in-Some-clause-queued : goal.returns-in-Some-clause-queued
returns-in-Some-clause-queued c =
    on_any_err c.push_terminate.result (terminate_queues c.args.side c.args.end c.in-Some.word c.args.self.now (c.terminate_word.ensures ∙ ap terminate_by c.in-Some.is))
