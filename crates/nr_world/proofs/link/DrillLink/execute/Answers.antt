use Rattle.std.proofs.Common.{◌≡◌, None, refl, sym, ap, subst, ◌∙◌}
use Rattle.nr_responder.specs.ResponderState.{ResponderSide, end_of}
use Rattle.nr_responder.specs.Sound.{IsNext}
use Rattle.nr_world.specs.DrillLinkState.{DrillLinkState}
use Rattle.nr_world.proofs.Answering.{of_none, of_some}
use Rattle.nr_world.proofs.Executions.{executes_code, heard_client, old_code}
use Rattle.nr_world.proofs.Standing.{on_ok}
use Rattle.nr_world.proofs.link.DrillLink.execute.Goals as goal

pub payload-requires-clause-live : goal.payload-requires-clause-live
payload-requires-clause-live c = ap (λ (v : DrillLinkState). end_of v.server) c.self.view_is ∙ c.requires.live

pub payload-requires-clause-next : goal.payload-requires-clause-next
payload-requires-clause-next c = subst (λ (v : ResponderSide). IsNext v c.args.call) (sym (ap (λ (v : DrillLinkState). v.server) c.self.view_is)) c.requires.next

pub same-self : goal.same-self
same-self c = refl

pub give_answer-requires-clause-standing : goal.give_answer-requires-clause-standing
give_answer-requires-clause-standing c = c.requires.standing

pub give_answer-requires-clause-live : goal.give_answer-requires-clause-live
give_answer-requires-clause-live c = c.requires.live

pub give_answer-requires-clause-next : goal.give_answer-requires-clause-next
give_answer-requires-clause-next c = c.requires.next

pub give_answer-requires-clause-short : goal.give_answer-requires-clause-short
give_answer-requires-clause-short c = (of_some c.in-Ok-execute.executed c.in-Some.execution _ _ c.in-Some.is c.in-Ok-execute.ensures).1

pub tell_old-requires-clause-live : goal.tell_old-requires-clause-live
tell_old-requires-clause-live c = c.requires.live

pub tell_old-requires-clause-next : goal.tell_old-requires-clause-next
tell_old-requires-clause-next c = c.requires.next

pub returns-in-Some : goal.returns-in-Some
returns-in-Some c =
    let live : end_of c.self.inside.server.side ≡ None = ap (λ (v : DrillLinkState). end_of v.server) c.self.view_is ∙ c.requires.live in
    let next : IsNext c.self.inside.server.side c.args.call = subst (λ (v : ResponderSide). IsNext v c.args.call) (sym (ap (λ (v : DrillLinkState). v.server) c.self.view_is)) c.requires.next in
    on_ok c.give_answer.result _ _
    (λ answers. executes_code c.args.seconds _ c.args.self.now c.give_answer.new.self c.args.marks.now c.give_answer.new.marks c.args.server.now c.execute.new.self c.args.call c.client-client.result _ _ _ c.in-Some.execution c.self.view_is
    c.requires.standing c.payload.ensures.exact c.in-Ok.ensures c.as_slice.ensures (heard_client _ c.args.call c.client-client.result live next c.client-client.ensures.of_run c.client-client.ensures.heard) (of_some c.in-Ok-execute.executed c.in-Some.execution _ _ c.in-Some.is c.in-Ok-execute.ensures) answers)
    c.give_answer.ensures

pub returns-in-None : goal.returns-in-None
returns-in-None c =
    let live : end_of c.self.inside.server.side ≡ None = ap (λ (v : DrillLinkState). end_of v.server) c.self.view_is ∙ c.requires.live in
    let next : IsNext c.self.inside.server.side c.args.call = subst (λ (v : ResponderSide). IsNext v c.args.call) (sym (ap (λ (v : DrillLinkState). v.server) c.self.view_is)) c.requires.next in
    on_ok c.tell_old.result _ _
    (λ told. old_code c.args.seconds _ c.args.self.now c.tell_old.new.self c.args.marks.now c.tell_old.new.marks c.args.server.now c.execute.new.self c.args.call c.client-client.result _ _ _ c.self.view_is
    c.requires.standing c.payload.ensures.exact c.in-Ok.ensures c.as_slice.ensures (heard_client _ c.args.call c.client-client.result live next c.client-client.ensures.of_run c.client-client.ensures.heard) (of_none c.in-Ok-execute.executed _ _ c.in-None.is c.in-Ok-execute.ensures) told)
    c.tell_old.ensures

pub same-self-in-Err : goal.same-self-in-Err
same-self-in-Err c = refl

pub same-self-in-Some : goal.same-self-in-Some
same-self-in-Some c = refl

pub same-payload : goal.same-payload
same-payload c = refl

pub same-self-in-None : goal.same-self-in-None
same-self-in-None c = refl
