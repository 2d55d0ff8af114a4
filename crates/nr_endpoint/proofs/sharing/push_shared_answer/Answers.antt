use Rattle.nr_endpoint.proofs.Standing.{on_ok}
use Rattle.nr_endpoint.proofs.WrittenOut.{absorbed}
use Rattle.nr_endpoint.proofs.sharing.push_shared_answer.Goals as goal

pub returns-clause-ok : goal.returns-clause-ok
returns-clause-ok c = on_ok c.absorb.result (λ e. absorbed _ _ _ _ _ e c.in_ok-more.ensures) c.absorb.ensures.ok
