use Rattle.std.proofs.Common.{◌≡◌, ℕ, ◌-◌, Bool, true, cond, List, [], ◌∷◌, ◌++◌, length, take, drop, Option, Some, None, refl, sym, ap, subst, ◌∙◌, arith, is_some, inl, inr}
use Rattle.std.proofs.lemmas.List.{take_all, length-drop}
use Rattle.std.proofs.Math.Seq.{take-add}
use Rattle.nr_link.specs.declared.end.End.{End}
use Rattle.nr_wire.specs.Feeding.{bytes_taken}
use Rattle.nr_wire.specs.declared.hello.Side.TheVariants.{Responder}
use Rattle.nr_reduce.specs.declared.mark.Mark.TheVariants as marks
use Rattle.nr_responder.specs.ResponderState.{KeepsStaging}
use Rattle.nr_responder.specs.Sound.{state_of, with_staging}
use Rattle.nr_responder.specs.Steps.{Fed}
use Rattle.nr_responder.specs.Steps.Fed.{WentOn}
use Rattle.nr_responder.proofs.Fed.{ended_fed_lem, empty_fed}
use Rattle.nr_responder.proofs.Marks.{ended_stands, fed_stands_lem, not_live}
use Rattle.nr_responder.proofs.Pieces.{fed_join}
use Rattle.nr_responder.proofs.Staging.{unchanged, nothing_told, next_first, staging_on}
use Rattle.nr_responder.proofs.server_end.ServerEnd.feed.Goals as goal

none_if : (o : Option End) → (is_some o ≡ true → ⊥) → o ≡ None
none_if None wrong = refl
none_if (Some end) wrong = absurd (wrong refl)

pub pieces-init : goal.pieces-init
pieces-init c = record {
  at = omega arith;
  over = λ over. absurd (not_live c.args.self.now.endpoint.link.state.ended (sym c.end.ensures ∙ c.in_default.is) over);
  goes = WentOn (empty_fed (state_of c.args.self.now) c.facts.ensures.partial);
  sound = c.requires.sound;
  windows = c.requires.windows;
  within = omega arith;
  staging = λ opened link run h. unchanged (with_staging c.args.self.now) c.args.piece.now;
  bounded = λ opened link run h fit. fit;
  first = inl (refl, refl);
}

pub step-at-requires-clause-live : goal.step-at-requires-clause-live
step-at-requires-clause-live c = none_if c.pieces.self.endpoint.link.state.ended (λ over. omega (arith, c.pieces.invariant.over over, c.pieces-test.true))

pub pieces-preserved : goal.pieces-preserved
pieces-preserved c =
    let live : c.pieces.self.endpoint.link.state.ended ≡ None = none_if c.pieces.self.endpoint.link.state.ended (λ over. omega (arith, c.pieces.invariant.over over, c.pieces-test.true)) in
    let left : take (length c.args.piece.now - c.pieces.at) (drop c.pieces.at c.args.piece.now) ≡ drop c.pieces.at c.args.piece.now =
    take_all (length c.args.piece.now - c.pieces.at) (drop c.pieces.at c.args.piece.now) (omega (arith, length-drop c.pieces.at c.args.piece.now)) in
    let len : length (take (length c.args.piece.now - c.pieces.at) (drop c.pieces.at c.args.piece.now)) ≡ length c.args.piece.now - c.pieces.at = ap (λ (xs : List ℕ). length xs) left ∙ length-drop c.pieces.at c.args.piece.now in
    record {
      at = omega (arith, c.step-at.ensures.most, c.pieces.invariant.at, len);
      over = λ over.
          let all : c.step-at.result ≡ length (take (length c.args.piece.now - c.pieces.at) (drop c.pieces.at c.args.piece.now)) =
          c.step-at.ensures.taken ∙ ap (λ (b : Bool). cond b (length (take (length c.args.piece.now - c.pieces.at) (drop c.pieces.at c.args.piece.now))) (bytes_taken c.pieces.self.endpoint.link.awaited c.pieces.self.endpoint.link.rest (take (length c.args.piece.now - c.pieces.at) (drop c.pieces.at c.args.piece.now)))) over in
          omega (arith, all, len, c.pieces-test.true);
      goes =
          subst (λ (bytes : List ℕ). Fed (state_of c.args.self.now) bytes (state_of c.step-at.new.self)) (sym (take-add c.pieces.at c.step-at.result c.args.piece.now))
          (fed_join (state_of c.args.self.now) (state_of c.pieces.self) (state_of c.step-at.new.self) (take c.pieces.at c.args.piece.now) (take c.step-at.result (drop c.pieces.at c.args.piece.now)) c.pieces.invariant.goes live
          (subst (λ (bytes : List ℕ). Fed (state_of c.pieces.self) (take c.step-at.result bytes) (state_of c.step-at.new.self)) left c.step-at.ensures.goes));
      sound = c.step-at.ensures.sound;
      windows = c.step-at.ensures.windows;
      within = omega (arith, c.step-at.ensures.within, c.pieces.invariant.within);
      staging = λ opened link run h.
          staging_on (with_staging c.args.self.now) (with_staging c.pieces.self) (with_staging c.step-at.new.self) c.pieces.at c.args.piece.now c.pieces-test.true c.pieces.invariant.first (c.pieces.invariant.staging opened link run h)
          (subst (λ (bytes : List ℕ). KeepsStaging (with_staging c.pieces.self) (with_staging c.step-at.new.self) bytes) left
          (c.step-at.ensures.staging
          (nothing_told opened link (run ++ marks.Fed link Responder (take c.pieces.at c.args.piece.now) ∷ []) (state_of c.pieces.self) live
          (fed_stands_lem opened link run (state_of c.args.self.now) (state_of c.pieces.self) (take c.pieces.at c.args.piece.now) c.pieces.invariant.goes (sym c.end.ensures ∙ c.in_default.is) h))));
      bounded = λ opened link run h fit.
          c.step-at.ensures.bounded opened link (run ++ marks.Fed link Responder (take c.pieces.at c.args.piece.now) ∷ [])
          (fed_stands_lem opened link run (state_of c.args.self.now) (state_of c.pieces.self) (take c.pieces.at c.args.piece.now) c.pieces.invariant.goes (sym c.end.ensures ∙ c.in_default.is) h) (c.pieces.invariant.bounded opened link run h fit);
      first =
          inr (next_first c.step-at.new.self.endpoint.link.rest c.pieces.at c.step-at.result (length (take (length c.args.piece.now - c.pieces.at) (drop c.pieces.at c.args.piece.now))) (length c.args.piece.now)
          (omega (arith, len, c.pieces.invariant.at)) c.step-at.ensures.rest);
    }

pub returns-in-Some-clause-goes : goal.returns-in-Some-clause-goes
returns-in-Some-clause-goes c = WentOn (ended_fed_lem (state_of c.args.self.now) c.args.piece.now (ap (λ (o : Option End). is_some o) (sym c.end.ensures ∙ c.in-Some.is)))

pub returns-in-Some-clause-stands : goal.returns-in-Some-clause-stands
returns-in-Some-clause-stands c = λ opened link run h. ended_stands opened link run (state_of c.args.self.now) c.args.piece.now (ap (λ (o : Option End). is_some o) (sym c.end.ensures ∙ c.in-Some.is)) h

pub returns-in-Some-end-clause-goes : goal.returns-in-Some-end-clause-goes
returns-in-Some-end-clause-goes c = (subst (λ (bytes : List ℕ). Fed (state_of c.args.self.now) bytes (state_of c.pieces.self)) (take_all c.pieces.at c.args.piece.now (omega (arith, c.pieces-test.false))) c.pieces.invariant.goes)

pub returns-in-Some-end-clause-stands : goal.returns-in-Some-end-clause-stands
returns-in-Some-end-clause-stands c = λ opened link run h. fed_stands_lem opened link run (state_of c.args.self.now) (state_of c.pieces.self) c.args.piece.now (subst (λ (bytes : List ℕ). Fed (state_of c.args.self.now) bytes (state_of c.pieces.self)) (take_all c.pieces.at c.args.piece.now (omega (arith, c.pieces-test.false))) c.pieces.invariant.goes) (sym c.end.ensures ∙ c.in_default.is) h

pub returns-in-Some-end-clause-kept : goal.returns-in-Some-end-clause-kept
returns-in-Some-end-clause-kept c = λ over. absurd (not_live c.args.self.now.endpoint.link.state.ended (sym c.end.ensures ∙ c.in_default.is) over)

pub returns-clause-goes : goal.returns-clause-goes
returns-clause-goes c = (subst (λ (bytes : List ℕ). Fed (state_of c.args.self.now) bytes (state_of c.pieces.self)) (take_all c.pieces.at c.args.piece.now (omega (arith, c.pieces-test.false))) c.pieces.invariant.goes)

pub returns-clause-stands : goal.returns-clause-stands
returns-clause-stands c = λ opened link run h. fed_stands_lem opened link run (state_of c.args.self.now) (state_of c.pieces.self) c.args.piece.now (subst (λ (bytes : List ℕ). Fed (state_of c.args.self.now) bytes (state_of c.pieces.self)) (take_all c.pieces.at c.args.piece.now (omega (arith, c.pieces-test.false))) c.pieces.invariant.goes) (sym c.end.ensures ∙ c.in_default.is) h

pub returns-clause-kept : goal.returns-clause-kept
returns-clause-kept c = λ over. absurd (not_live c.args.self.now.endpoint.link.state.ended (sym c.end.ensures ∙ c.in_default.is) over)

pub returns-in-Some-clause-staging : goal.returns-in-Some-clause-staging
returns-in-Some-clause-staging c = λ opened link run h. unchanged (with_staging c.args.self.now) c.args.piece.now

pub returns-in-Some-end-clause-staging : goal.returns-in-Some-end-clause-staging
returns-in-Some-end-clause-staging c = c.pieces.invariant.staging

pub returns-clause-staging : goal.returns-clause-staging
returns-clause-staging c = c.pieces.invariant.staging

pub returns-in-Some-clause-bounded : goal.returns-in-Some-clause-bounded
returns-in-Some-clause-bounded c = λ opened link run h fit. fit

pub returns-in-Some-end-clause-bounded : goal.returns-in-Some-end-clause-bounded
returns-in-Some-end-clause-bounded c = c.pieces.invariant.bounded

pub returns-clause-bounded : goal.returns-clause-bounded
returns-clause-bounded c = c.pieces.invariant.bounded
