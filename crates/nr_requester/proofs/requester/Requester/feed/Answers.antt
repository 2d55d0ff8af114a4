use Rattle.std.proofs.Common.{[], ◌∷◌, ◌++◌, sym, subst, ◌∙◌}
use Rattle.nr_wire.specs.declared.hello.Side.TheVariants.{Initiator}
use Rattle.nr_reduce.specs.declared.mark.Mark.TheVariants as marks
use Rattle.nr_requester.specs.RequesterState.{RequesterSide}
use Rattle.nr_requester.specs.Resends.{KeepsPiece}
use Rattle.nr_requester.specs.Standing.{RequesterRepresents}
use Rattle.nr_requester.proofs.AllResent.{feed_is_marks}
use Rattle.nr_requester.proofs.ReopenedLinks.{first_links_resend_none}
use Rattle.nr_requester.proofs.ResendSteps.{fed_ended, fed_on, fed_tickets, fed_staging, fed_within, fed_end, fed_same}
use Rattle.nr_requester.proofs.requester.Requester.feed.Goals as goal

pub resend-requires : goal.resend-requires
resend-requires c = sym c.in-Ok.ensures.ended

pub returns-in-Ok-clause-ended : goal.returns-in-Ok-clause-ended
returns-in-Ok-clause-ended c = c.in-Ok.ensures.ended ∙ sym (fed_end c.take_piece.new.self c.resend.new.self c.resend.ensures)

pub returns-in-Ok-clause-state : goal.returns-in-Ok-clause-state
returns-in-Ok-clause-state c = λ other. fed_on c.args.self.now c.take_piece.new.self c.resend.new.self c.args.piece.now (c.in-Ok.ensures.state other) (sym c.in-Ok.ensures.ended) c.resend.ensures

pub returns-in-Ok-clause-stands : goal.returns-in-Ok-clause-stands
returns-in-Ok-clause-stands c = λ other opened link run r.
    let after = c.take_piece.new.self in
    let fed = c.in-Ok.ensures.state other in
    let none = first_links_resend_none opened link c.args.self.now run c.args.piece.now after.staging r in
    subst (λ (h : RequesterSide). RequesterRepresents opened link h (run ++ marks.Fed link Initiator c.args.piece.now ∷ [])) (fed_same c.args.self.now after c.resend.new.self c.args.piece.now fed none (sym c.in-Ok.ensures.ended) c.resend.ensures) (c.in-Ok.ensures.stands other opened link run r)

pub returns-in-Ok-clause-keeps : goal.returns-in-Ok-clause-keeps
returns-in-Ok-clause-keeps c = λ other.
    let on = fed_on c.args.self.now c.take_piece.new.self c.resend.new.self c.args.piece.now (c.in-Ok.ensures.state other) (sym c.in-Ok.ensures.ended) c.resend.ensures in
    subst (λ (h : RequesterSide). KeepsPiece c.args.self.now c.args.piece.now h) (sym on) (feed_is_marks c.args.self.now c.args.piece.now c.resend.new.self.staging)

pub returns-in-Ok-clause-staging : goal.returns-in-Ok-clause-staging
returns-in-Ok-clause-staging c = fed_staging c.args.self.now c.take_piece.new.self c.resend.new.self c.args.piece.now c.take_piece.ensures.staging c.resend.ensures

pub returns-in-Ok-clause-tickets : goal.returns-in-Ok-clause-tickets
returns-in-Ok-clause-tickets c = fed_tickets c.args.self.now c.take_piece.new.self c.resend.new.self c.take_piece.ensures.tickets c.resend.ensures

pub returns-in-Ok-clause-within : goal.returns-in-Ok-clause-within
returns-in-Ok-clause-within c = fed_within c.args.self.now c.take_piece.new.self c.resend.new.self _ c.take_piece.ensures.within c.resend.ensures

pub returns-in-Err-clause-state : goal.returns-in-Err-clause-state
returns-in-Err-clause-state c = λ other. fed_ended c.args.self.now c.take_piece.new.self c.args.piece.now c.in-Err.end (c.in-Err.ensures.state other) (sym c.in-Err.ensures.ended)

pub returns-in-Err-clause-keeps : goal.returns-in-Err-clause-keeps
returns-in-Err-clause-keeps c = λ other.
    subst (λ (h : RequesterSide). KeepsPiece c.args.self.now c.args.piece.now h) (sym (fed_ended c.args.self.now c.take_piece.new.self c.args.piece.now c.in-Err.end (c.in-Err.ensures.state other) (sym c.in-Err.ensures.ended)))
    (feed_is_marks c.args.self.now c.args.piece.now c.take_piece.new.self.staging)
