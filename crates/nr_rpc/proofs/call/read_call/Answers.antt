use Rattle.std.proofs.Common.{subst, arith}
use Rattle.nr_rpc.specs.Reading.{GivesCall}
use Rattle.nr_rpc.proofs.Calls.{call_is_found, begins_call}
use Rattle.nr_rpc.proofs.call.read_call.Goals as goal

pub returns-clause-found : goal.returns-clause-found
returns-clause-found c = call_is_found c.args.bytes.now c.read_call_inner.result (λ i. omega (arith, c.type_inv.bytes i)) c.read_call_inner.ensures

pub returns-clause-only : goal.returns-clause-only
returns-clause-only c = λ head begins.
    subst (λ read. GivesCall c.read_call_inner.result read) (begins_call c.args.bytes.now head (λ i. omega (arith, c.type_inv.bytes i)) begins) c.read_call_inner.ensures
