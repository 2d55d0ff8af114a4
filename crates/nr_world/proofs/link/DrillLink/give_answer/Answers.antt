use Rattle.std.specs.Prelude.{is_err}
use Rattle.std.proofs.Common.{◌≡◌, ◌≤◌, ◌∙◌, ℕ, List, length, false, refl, sym, ap, subst}
use Rattle.nr_responder.specs.HeldBytes.{sent_reply_max}
use Rattle.nr_responder.specs.ResponderState.{ResponderSide, end_of}
use Rattle.nr_responder.specs.Sound.{IsNext}
use Rattle.nr_world.specs.DrillLinkState.{DrillLinkState}
use Rattle.nr_world.proofs.Answering.{answers_with, live_answered, of_if_ok, of_ok, server_fed_same}
use Rattle.nr_world.proofs.Standing.{on_ok}
use Rattle.nr_world.proofs.link.DrillLink.give_answer.Goals as goal

pub answer-requires-clause-live : goal.answer-requires-clause-live
answer-requires-clause-live c = ap (λ (v : DrillLinkState). end_of v.server) c.self.view_is ∙ c.requires.live

pub answer-requires-clause-next : goal.answer-requires-clause-next
answer-requires-clause-next c = subst (λ (v : ResponderSide). IsNext v c.args.call) (sym (ap (λ (v : DrillLinkState). v.server) c.self.view_is)) c.requires.next

pub answer-requires-clause-short : goal.answer-requires-clause-short
answer-requires-clause-short c = subst (λ (xs : List ℕ). length xs ≤ sent_reply_max) (sym c.as_slice.ensures) c.requires.short

pub invariant_of-self : goal.invariant_of-self
invariant_of-self c = server_fed_same _ c.self.inside.server.side.link c.answer.new.self.side.link _ c.answer.ensures.fed c.self.invariant

pub same-payload : goal.same-payload
same-payload c = refl

pub same-reply : goal.same-reply
same-reply c = refl

pub invariant_of-self-2 : goal.invariant_of-self-2
invariant_of-self-2 c = server_fed_same _ c.self.inside.server.side.link c.answer.new.self.side.link _ c.answer.ensures.fed c.self.invariant

pub returns : goal.returns
returns c =
    let done : is_err c.answer.result ≡ false = sym c.is_err.ensures.value ∙ c.if-is_err.false in
    on_ok c.add_mark.result _ _
    (λ more. answers_with _ c.args.self.now c.answer.new.self.side c.args.marks.now _ c.args.call c.xid-xid.result c.args.payload c.args.execution c.as_slice.result.now c.self.view_is
    (of_ok c.answer.result _ done c.answer.ensures.stands) c.as_slice.ensures
    (live_answered _ _ _ _ _ (of_if_ok c.answer.result _ done c.answer.ensures.answers).1 (ap (λ (v : DrillLinkState). end_of v.server) c.self.view_is ∙ c.requires.live)) c.xid-xid.ensures more)
    c.add_mark.ensures
