use Rattle.std.proofs.Common.{◌∙◌, refl, sym, ap, subst}
use Rattle.nr_responder.specs.ResponderState.{ResponderSide, end_of}
use Rattle.nr_responder.specs.Sound.{IsNext}
use Rattle.nr_world.specs.DrillLinkState.{DrillLinkState}
use Rattle.nr_world.proofs.Answering.{next_some, told_fed, told_as}
use Rattle.nr_world.proofs.Standing.{on_ok}
use Rattle.nr_world.proofs.link.DrillLink.tell_old.Goals as goal

pub stop-requires-clause-live : goal.stop-requires-clause-live
stop-requires-clause-live c = ap (λ (v : DrillLinkState). end_of v.server) c.self.view_is ∙ c.requires.live

pub stop-requires-clause-next : goal.stop-requires-clause-next
stop-requires-clause-next c = next_some c.self.inside.server.side c.args.call (subst (λ (v : ResponderSide). IsNext v c.args.call) (sym (ap (λ (v : DrillLinkState). v.server) c.self.view_is)) c.requires.next)

pub stop-requires-clause-reason : goal.stop-requires-clause-reason
stop-requires-clause-reason c = refl

pub invariant_of-self : goal.invariant_of-self
invariant_of-self c = told_fed _ c.self.inside.server.side.link c.stop.new.self.side.link _ c.stop.ensures.within c.self.invariant

pub invariant_of-self-2 : goal.invariant_of-self-2
invariant_of-self-2 c = told_fed _ c.self.inside.server.side.link c.stop.new.self.side.link _ c.stop.ensures.within c.self.invariant

pub returns : goal.returns
returns c = on_ok c.add_mark.result _ _
    (λ more. told_as _ c.args.self.now c.stop.new.self.side c.args.marks.now _ c.args.call c.xid-xid.result c.in-Bad.at c.stop.result c.in-Bad.reason c.in-Bad.is c.self.view_is c.stop.ensures.ended (λ lives. (_, c.stop.ensures.end lives)) c.stop.ensures.last c.stop.ensures.stands c.xid-xid.ensures more)
    c.add_mark.ensures
