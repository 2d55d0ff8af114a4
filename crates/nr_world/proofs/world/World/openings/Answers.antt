use Rattle.std.proofs.Common.{◌<◌, arith, sym, ◌∙◌}
use Rattle.nr_world.proofs.OpenLinks.{openings_begin, openings_on, openings_all}
use Rattle.nr_world.proofs.world.World.openings.Goals as goal

pub loop-at-init : goal.loop-at-init
loop-at-init c opening same = openings_begin opening c.args.self.now

pub loop-at-preserved : goal.loop-at-preserved
loop-at-preserved c opening same =
    let lt : c.loop-at.at < opening.clients = omega (arith, c.loop-at-test.true, same) in
    openings_on opening c.args.self.now c.loop-at.self c.push_link.new.self c.loop-at.at lt (c.loop-at.invariant opening same) c.in_ok-push_link.ensures

pub returns : goal.returns
returns c opening same = openings_all opening c.args.self.now c.loop-at.self c.loop-at.at (omega (arith, c.loop-at.auto.at-end, c.loop-at-test.false, same)) (c.loop-at.invariant opening same)
