use Rattle.std.proofs.Common.{◌≡◌, ℕ, List, [], ◌∷◌, ◌++◌, length, Result, Ok, Err, sym, ap, subst, ◌∙◌}
use Rattle.std.specs.Prelude.{OnOk}
use Rattle.nr_outside.specs.declared.moment.Moment.{Moment}
use Rattle.nr_reduce.specs.declared.mark.LinkParameters.{LinkParameters}
use Rattle.nr_reduce.specs.declared.mark.Mark.{Mark}
use Rattle.nr_reduce.specs.declared.mark.Mark.TheVariants as marks
use Rattle.nr_reduce.specs.Served.{IsExecuted}
use Rattle.nr_responder.specs.ResponderState.{ResponderSide, ResponderState}
use Rattle.nr_responder.specs.Sound.{state_of}
use Rattle.nr_responder.specs.Standing.{ResponderRepresents}
use Rattle.nr_responder.proofs.responder.Responder.answer.Goals.{in-Ok, in-Err}
use Rattle.nr_responder.proofs.responder.Responder.answer.Goals as goal

pub invariant_of-self : goal.invariant_of-self
invariant_of-self c =
    let s = c.self.invariant.1.0 in
    let both = c.answer.ensures.bounded.goes s.0 s.1.0 s.1.1.0 s.1.1.1 c.self.invariant.1.1.0 in
    ((c.answer.ensures.sound, c.answer.ensures.windows), (both.1, (both.0, ap (λ (bytes : List ℕ). length bytes) c.answer.ensures.staging ∙ c.self.invariant.1.1.1)))

-- the result of the inner call, with the call that is given back
abbrev AnswerStands : (before after : ResponderSide) (xid : ℕ) (reply : List ℕ) → Type 0
AnswerStands before after xid reply =
    (opened : LinkParameters) (link : ℕ) (run : List Mark) (moment : Moment) (payload : List ℕ) (place : ℕ) → ResponderRepresents opened link run before → IsExecuted opened link run xid payload →
    ResponderRepresents opened link (run ++ marks.Execute link xid moment payload place reply ∷ []) after

ok_as : {A E F : Type 0} (q : Result A E) (r : Result A F) (a b : A) (P Q : Type 0) → q ≡ Ok a → r ≡ Ok b → (P → Q) → OnOk q P → OnOk r Q
ok_as q r a b P Q is made f h = subst (λ (x : Result _ _). OnOk x Q) (sym made) (f (subst (λ (x : Result _ _). OnOk x P) is h))

err_as : {A F : Type 0} (r : Result A F) (e : F) (Q : Type 0) → r ≡ Err e → OnOk r Q
err_as r e Q made = subst (λ (x : Result _ _). OnOk x Q) (sym made) tt

pub returns-clause-stands : goal.returns-clause-stands
returns-clause-stands c =
    elim c.match-answer.branch [
      | in-Ok w ↦ ok_as c.answer.result c.match-answer.result _ _ (AnswerStands (state_of c.self.inside.end) (state_of c.answer.new.self) c.xid.result c.args.reply.now) (AnswerStands c.args.self.now.side (state_of c.answer.new.self) c.args.call c.args.reply.now) w.in-Ok.is w.result-is
          (λ h. subst (λ (v : ResponderState). AnswerStands v.side (state_of c.answer.new.self) c.args.call c.args.reply.now) c.self.view_is (subst (λ (n : ℕ). AnswerStands (state_of c.self.inside.end) (state_of c.answer.new.self) n c.args.reply.now) c.xid.ensures h)) c.answer.ensures.stands
      | in-Err w ↦ err_as c.match-answer.result _ (AnswerStands c.args.self.now.side (state_of c.answer.new.self) c.args.call c.args.reply.now) w.result-is
    ]
