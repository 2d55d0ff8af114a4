use Rattle.std.proofs.Common.{◌∙◌, arith}
use Rattle.nr_rpc.proofs.Calls.{xid_is_found, xid_again}
use Rattle.nr_rpc.proofs.call.call_xid.Goals as goal

pub returns-clause-found : goal.returns-clause-found
returns-clause-found c = xid_is_found c.args.bytes.now c.call_xid_inner.result (λ i. omega (arith, c.type_inv.bytes i)) c.call_xid_inner.ensures

pub returns-clause-only : goal.returns-clause-only
returns-clause-only c = λ head begins.
    c.call_xid_inner.ensures ∙ xid_again c.args.bytes.now head (λ i. omega (arith, c.type_inv.bytes i)) begins
