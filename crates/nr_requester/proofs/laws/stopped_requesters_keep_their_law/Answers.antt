use Rattle.nr_requester.proofs.StoppedLaw.{awaited_stopped, done_stopped_law, drain_stopped_law, forget_stopped_law, open_stopped, revoke_stopped_law}
use Rattle.nr_requester.proofs.laws.stopped_requesters_keep_their_law.Goals as goal

pub returns-clause-open : goal.returns-clause-open
returns-clause-open c = open_stopped

pub returns-clause-awaited : goal.returns-clause-awaited
returns-clause-awaited c = awaited_stopped

pub returns-clause-drain : goal.returns-clause-drain
returns-clause-drain c = drain_stopped_law

pub returns-clause-revoke : goal.returns-clause-revoke
returns-clause-revoke c = revoke_stopped_law

pub returns-clause-forget : goal.returns-clause-forget
returns-clause-forget c = forget_stopped_law

pub returns-clause-done : goal.returns-clause-done
returns-clause-done c = done_stopped_law
