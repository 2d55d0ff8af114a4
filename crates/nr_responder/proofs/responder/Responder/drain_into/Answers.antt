use Rattle.std.proofs.Common.{◌≡◌, ℕ, List, [], ◌∷◌, ◌++◌, length, take, ap, ◌∙◌, subst}
use Rattle.nr_wire.specs.declared.hello.Side.TheVariants.{Responder}
use Rattle.nr_reduce.specs.declared.mark.Mark.TheVariants as marks
use Rattle.std.specs.Prelude.{OnOk}
use Rattle.nr_responder.specs.Draining.{Drains}
use Rattle.nr_responder.specs.ResponderState.{ResponderState, may_write}
use Rattle.nr_responder.specs.Sound.{state_of}
use Rattle.nr_responder.proofs.responder.Responder.drain_into.Goals as goal

pub returns-clause-taken : goal.returns-clause-taken
returns-clause-taken g c =
    subst
    (λ (v : ResponderState). (n : ℕ) × (Drains v.side (state_of c.drain_into.new.self) (g.K.Sink.taken c.args.sink.now) (g.K.Sink.taken c.drain_into.new.sink) n × OnOk c.drain_into.result (n ≡ length (may_write v.side))))
    c.self.view_is c.drain_into.ensures.taken

pub invariant_of-self : goal.invariant_of-self
invariant_of-self g c =
    let s = c.self.invariant.1.0 in
    let t = c.drain_into.ensures.taken in
    ((c.drain_into.ensures.sound, c.drain_into.ensures.windows), ((s.0, (s.1.0, (s.1.1.0 ++ marks.Wrote s.1.0 Responder (take t.0 (may_write (state_of c.self.inside.end))) ∷ [], t.1.0.stands s.0 s.1.0 s.1.1.0 s.1.1.1))), (c.drain_into.ensures.bounded c.self.invariant.1.1.0, ap (λ (bytes : List ℕ). length bytes) c.drain_into.ensures.staging ∙ c.self.invariant.1.1.1)))
