use Rattle.nr_responder.proofs.responder.Responder.agreed.Goals as goal

pub returns-clause-limits : goal.returns-clause-limits
returns-clause-limits c = c.agreed.ensures.limits c.self.invariant.1.0
