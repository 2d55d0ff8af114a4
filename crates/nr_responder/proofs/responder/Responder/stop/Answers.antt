use Rattle.std.proofs.Common.{◌≡◌, ℕ, List, [], ◌∷◌, ◌++◌, length, ap, ◌∙◌, subst}
use Rattle.nr_reduce.specs.declared.mark.LinkParameters.{LinkParameters}
use Rattle.nr_reduce.specs.declared.mark.Mark.{Mark}
use Rattle.nr_reduce.specs.declared.mark.Mark.TheVariants as marks
use Rattle.nr_reduce.specs.declared.mark.Told.TheVariants.{Old}
use Rattle.nr_reduce.specs.Served.{last_frame_at}
use Rattle.nr_responder.specs.ResponderState.{ResponderState}
use Rattle.nr_responder.specs.Sound.{state_of}
use Rattle.nr_responder.specs.Standing.{ResponderRepresents}
use Rattle.nr_responder.proofs.responder.Responder.stop.Goals as goal

pub invariant_of-self : goal.invariant_of-self
invariant_of-self c =
    let s = c.self.invariant.1.0 in
    ((c.stop.ensures.sound, c.stop.ensures.windows), ((s.0, (s.1.0, (s.1.1.0 ++ marks.Told s.1.0 (Old 0 (last_frame_at s.1.0 s.1.1.0)) ∷ [], c.stop.ensures.stands s.0 s.1.0 s.1.1.0 0 s.1.1.1))), (c.stop.ensures.bounded c.self.invariant.1.1.0, ap (λ (bytes : List ℕ). length bytes) c.stop.ensures.staging ∙ c.self.invariant.1.1.1)))

pub returns-clause-last : goal.returns-clause-last
returns-clause-last c =
    subst (λ (v : ResponderState). (opened : LinkParameters) (link : ℕ) (run : List Mark) → ResponderRepresents opened link run v.side → v.side.link.state.last ≡ last_frame_at link run)
    c.self.view_is c.stop.ensures.last

pub returns-clause-stands : goal.returns-clause-stands
returns-clause-stands c =
    subst (λ (v : ResponderState). (opened : LinkParameters) (link : ℕ) (run : List Mark) (xid : ℕ) → ResponderRepresents opened link run v.side →
    ResponderRepresents opened link (run ++ marks.Told link (Old xid (last_frame_at link run)) ∷ []) (state_of c.stop.new.self))
    c.self.view_is c.stop.ensures.stands
