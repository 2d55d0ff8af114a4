use Rattle.nr_reduce.proofs.Opens.{opens_call}
use Rattle.nr_reduce.proofs.run_laws.plans_are_accepted.Goals as goal

pub returns : goal.returns
returns c = λ k payload form up down xid credit stag p h some free.
    opens_call k payload form up down xid credit stag p h.bytes h.own h.plan some h.xid_fits h.credit_fits h.stags_fit free
