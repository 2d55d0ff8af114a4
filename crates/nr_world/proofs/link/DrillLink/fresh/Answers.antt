use Rattle.std.proofs.Common.{arith}
use Rattle.nr_world.proofs.Outputs.{fresh_link}
use Rattle.nr_world.proofs.link.DrillLink.fresh.Goals as goal

pub invariant_of-result : goal.invariant_of-result
invariant_of-result c =
    (omega (arith, c.in-Ok.ensures.fed), (omega arith, (omega (arith, c.in_ok-client.ensures.fed), (omega arith, c.in_ok-client.ensures.tickets _ c.new-3.ensures.items))))

pub returns : goal.returns
returns c =
    fresh_link c.args.number c.args.opening _ _ _ _ _ _ c.in_ok-client.ensures.live c.new.ensures c.new-2.ensures c.new-3.ensures.items c.new-4.ensures.items c.in_ok-client.ensures.stands c.in-Ok.ensures.live c.in-Ok.ensures.stands
