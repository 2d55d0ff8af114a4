use Rattle.std.proofs.Common.{ℕ, IfSome, subst, sym, ap, ◌∙◌}
use Rattle.nr_endpoint.specs.Receives.{HasBuffer}
use Rattle.nr_endpoint.specs.ReceiveQueue.{ReceiveQueue}
use Rattle.nr_endpoint.proofs.ReceiveQueueSteps.{same_length}
use Rattle.nr_endpoint.proofs.link.LinkSide.next_event.Goals as goal

pub returns-clause-buffer : goal.returns-clause-buffer
returns-clause-buffer c =
    subst (λ (n : ℕ). IfSome c.next_event.result (HasBuffer n)) (sym (ap (λ (q : ReceiveQueue). q.receive_length) c.next_event.ensures.after ∙ same_length _ _)) c.next_event.ensures.buffer
