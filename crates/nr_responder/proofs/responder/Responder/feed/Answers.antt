use Rattle.std.proofs.Common.{ℕ, List, [], ◌∷◌, ◌++◌, ◌∙◌, subst}
use Rattle.nr_wire.specs.declared.hello.Side.TheVariants.{Responder}
use Rattle.nr_reduce.specs.declared.mark.LinkParameters.{LinkParameters}
use Rattle.nr_reduce.specs.declared.mark.Mark.{Mark}
use Rattle.nr_reduce.specs.declared.mark.Mark.TheVariants as marks
use Rattle.nr_responder.specs.ResponderState.{ResponderState, KeepsStaging}
use Rattle.nr_responder.specs.Sound.{state_of, with_staging}
use Rattle.nr_responder.specs.Standing.{ResponderRepresents}
use Rattle.nr_responder.proofs.responder.Responder.feed.Goals as goal

pub invariant_of-self : goal.invariant_of-self
invariant_of-self c =
    let s = c.self.invariant.1.0 in
    ((c.feed.ensures.sound, c.feed.ensures.windows), ((s.0, (s.1.0, (s.1.1.0 ++ marks.Fed s.1.0 Responder c.args.piece.now ∷ [], c.feed.ensures.stands s.0 s.1.0 s.1.1.0 s.1.1.1))), (c.feed.ensures.bounded s.0 s.1.0 s.1.1.0 s.1.1.1 c.self.invariant.1.1.0, (c.feed.ensures.staging s.0 s.1.0 s.1.1.0 s.1.1.1).len ∙ c.self.invariant.1.1.1)))

pub returns-clause-staging : goal.returns-clause-staging
returns-clause-staging c =
    let s = c.self.invariant.1.0 in
    subst (λ (v : ResponderState). KeepsStaging v (with_staging c.feed.new.self) c.args.piece.now) c.self.view_is (c.feed.ensures.staging s.0 s.1.0 s.1.1.0 s.1.1.1)

pub returns-clause-stands : goal.returns-clause-stands
returns-clause-stands c =
    subst (λ (v : ResponderState). (opened : LinkParameters) (link : ℕ) (run : List Mark) → ResponderRepresents opened link run v.side → ResponderRepresents opened link (run ++ marks.Fed link Responder c.args.piece.now ∷ []) (state_of c.feed.new.self))
    c.self.view_is c.feed.ensures.stands
