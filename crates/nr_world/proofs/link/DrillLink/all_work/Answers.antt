use Rattle.std.proofs.Common.{◌≡◌, ◌∙◌, length, arith, refl, ap}
use Rattle.nr_world.specs.DrillLinkState.{DrillLinkState}
use Rattle.nr_world.proofs.ReadyCalls.{worked_none, worked_more, worked_all}
use Rattle.nr_world.proofs.link.DrillLink.all_work.Goals as goal

pub same-self : goal.same-self
same-self c = refl

pub loop-at-init : goal.loop-at-init
loop-at-init c = worked_none c.args.seconds c.args.self.now c.args.marks.now c.args.server.now

pub loop-at-preserved : goal.loop-at-preserved
loop-at-preserved c = worked_more c.loop-at._at c.args.seconds _ _ _ _ _ _ _ _ _ c.loop-at.invariant c.in-Ok.ensures

pub returns : goal.returns
returns c =
    let all : c.loop-at._at ≡ c.unanswered-unanswered.result = omega arith in
    worked_all c.loop-at._at c.args.seconds c.args.self.now c.loop-at.self c.args.marks.now c.loop-at.marks c.args.server.now c.loop-at.server
    (all ∙ c.unanswered-unanswered.ensures.exact ∙ ap (λ (v : DrillLinkState). length v.server.calls) c.self.view_is) c.loop-at.invariant
