use Rattle.std.proofs.Common.{ℕ, List, [], ◌∷◌, ◌++◌, length, ap, ◌∙◌, subst}
use Rattle.nr_endpoint.specs.EndpointState.{EndpointState}
use Rattle.nr_reduce.specs.declared.mark.LinkParameters.{LinkParameters}
use Rattle.nr_reduce.specs.declared.mark.Mark.{Mark}
use Rattle.nr_reduce.specs.declared.mark.Mark.TheVariants as marks
use Rattle.nr_reduce.specs.declared.mark.Told.TheVariants.{Granted}
use Rattle.nr_responder.specs.ResponderState.{ResponderState}
use Rattle.nr_responder.specs.Sound.{state_of}
use Rattle.nr_responder.specs.Standing.{ResponderRepresents}
use Rattle.nr_responder.proofs.responder.Responder.set_credits.Goals as goal

pub invariant_of-self : goal.invariant_of-self
invariant_of-self c =
    let s = c.self.invariant.1.0 in
    ((c.set_credits.ensures.sound, c.set_credits.ensures.windows), ((s.0, (s.1.0, (s.1.1.0 ++ marks.Told s.1.0 (Granted c.args.credits) ∷ [], c.set_credits.ensures.stands s.0 s.1.0 s.1.1.0 s.1.1.1))), (c.set_credits.ensures.bounded c.self.invariant.1.1.0, ap (λ (e : EndpointState). length e.staging) c.set_credits.ensures.endpoint ∙ c.self.invariant.1.1.1)))

pub returns-clause-stands : goal.returns-clause-stands
returns-clause-stands c =
    subst (λ (v : ResponderState). (opened : LinkParameters) (link : ℕ) (run : List Mark) → ResponderRepresents opened link run v.side → ResponderRepresents opened link (run ++ marks.Told link (Granted c.args.credits) ∷ []) (state_of c.set_credits.new.self))
    c.self.view_is c.set_credits.ensures.stands
