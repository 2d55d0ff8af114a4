use Rattle.std.proofs.Common.{◌∙◌, refl, sym, ap, subst}
use Rattle.nr_responder.specs.ResponderState.{ResponderSide, end_of}
use Rattle.nr_responder.specs.Sound.{IsNext}
use Rattle.nr_world.specs.DrillLinkState.{DrillLinkState}
use Rattle.nr_world.proofs.Standing.{on_ok}
use Rattle.nr_world.proofs.Executions.{works_then, works_gone, works_idle}
use Rattle.nr_world.proofs.link.DrillLink.work.Goals as goal

pub same-self : goal.same-self
same-self c = refl

pub same-self-in_default : goal.same-self-in_default
same-self-in_default c = refl

pub same-self-2 : goal.same-self-2
same-self-2 c = refl

pub returns-then-self : goal.returns-then-self
returns-then-self c = works_gone c.args.seconds _ c.args.self.now c.args.marks.now c.args.server.now c.self.view_is c.if-self.true

pub returns-in_default : goal.returns-in_default
returns-in_default c = works_idle c.args.seconds _ c.args.self.now c.args.marks.now c.args.server.now c.next_ready.result c.self.view_is c.in_default.is c.next_ready.ensures.exact

pub execute-requires-clause-standing : goal.execute-requires-clause-standing
execute-requires-clause-standing c = ap (λ (v : DrillLinkState). v.is_dropped) (sym c.self.view_is) ∙ c.if-self.false

pub execute-requires-clause-live : goal.execute-requires-clause-live
execute-requires-clause-live c = ap (λ (v : DrillLinkState). end_of v.server) (sym c.self.view_is) ∙ c.in-Some.ensures.live refl

pub execute-requires-clause-next : goal.execute-requires-clause-next
execute-requires-clause-next c = subst (λ (v : ResponderSide). IsNext v c.in-Some.call) (ap (λ (v : DrillLinkState). v.server) c.self.view_is) c.in-Some.ensures.next

pub returns-in-Ok : goal.returns-in-Ok
returns-in-Ok c = on_ok c.settle.result _ _ (λ writes. works_then c.args.seconds _ _ _ _ _ _ _ _ c.in-Ok.ensures writes) c.settle.ensures
