use Rattle.std.proofs.Common.{◌∙◌, refl, sym, ap}
use Rattle.nr_world.specs.DrillLinkState.{DrillLinkState}
use Rattle.nr_world.proofs.Standing.{on_ok}
use Rattle.nr_world.proofs.Dropping.{raw_gone}
use Rattle.nr_world.proofs.Outputs.{raw_up, raw_down}
use Rattle.nr_world.proofs.link.DrillLink.raw.Goals as goal

pub same-self : goal.same-self
same-self c = refl

pub returns-then-self : goal.returns-then-self
returns-then-self c run = raw_gone c.args.self.now c.args.side c.args.bytes.now run (ap (λ (v : DrillLinkState). v.is_dropped) (sym c.self.view_is) ∙ c.if-self.true)

pub invariant_of-self : goal.invariant_of-self
invariant_of-self c = c.self.invariant

pub invariant_of-self-in-Responder : goal.invariant_of-self-in-Responder
invariant_of-self-in-Responder c = c.self.invariant

pub returns-in-Initiator : goal.returns-in-Initiator
returns-in-Initiator c =
    on_ok c.put-written.result _ _ (λ put run. raw_up _ c.args.self.now c.args.side c.args.bytes.now _ run c.self.view_is c.in-Initiator.is c.if-self.false put) c.put-written.ensures

pub returns-in-Responder : goal.returns-in-Responder
returns-in-Responder c =
    on_ok c.put-written-in-Responder.result _ _ (λ put run. raw_down _ c.args.self.now c.args.side c.args.bytes.now _ run c.self.view_is c.in-Responder.is c.if-self.false put) c.put-written-in-Responder.ensures
