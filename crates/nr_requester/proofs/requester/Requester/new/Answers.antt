use Rattle.std.proofs.Common.{None, arith}
use Rattle.nr_requester.proofs.HeldRegions.{opened_sound}
use Rattle.nr_requester.proofs.Within.{opened_within}
use Rattle.nr_requester.proofs.requester.Requester.new.Goals as goal

pub invariant_of-result : goal.invariant_of-result
invariant_of-result c = (
  opened_sound c.in_ok-endpoint.endpoint.link c.receive_length.result c.args.first_xid c.args.first_stag c.from.result _ c.args.terms None c.new.result.items c.new-2.result.items c.in_ok-endpoint.ensures.state c.from.ensures (omega arith) c.new.ensures.items c.new-2.ensures.items,
  (
    opened_within c.in_ok-endpoint.endpoint c.receive_length.result c.args.first_stag c.from.result c.args.terms None c.new.result.items c.new-2.result.items c.in_ok-endpoint.ensures.staging c.in_ok-endpoint.ensures.outside c.in_ok-endpoint.ensures.state
        c.receive_length.ensures c.requires (omega arith)
        c.new.ensures.items c.new-2.ensures.items,
    omega arith,
  ),
)
