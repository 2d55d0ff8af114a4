use Rattle.std.proofs.Common.{ℕ, cond, List, length, take, Option, sym, ap, subst, ◌∙◌, arith, is_some}
use Rattle.std.proofs.lemmas.List.{take_all}
use Rattle.nr_link.specs.declared.end.End.{End}
use Rattle.nr_wire.specs.Feeding.{bytes_taken}
use Rattle.nr_responder.specs.Sound.{state_of, with_staging}
use Rattle.nr_responder.specs.Steps.{Fed}
use Rattle.nr_responder.specs.Steps.Fed.{WentOn}
use Rattle.nr_responder.proofs.FirstFrames.{first_ended}
use Rattle.nr_responder.proofs.Fed.{ended_fed_lem}
use Rattle.nr_responder.proofs.Marks.{ended_stands, fed_stands_lem, not_live}
use Rattle.nr_responder.proofs.Staging.{unchanged, nothing_told}
use Rattle.nr_responder.proofs.server_end.ServerEnd.feed_one.Goals as goal

pub returns-in-Some-clause-goes : goal.returns-in-Some-clause-goes
returns-in-Some-clause-goes c = WentOn (ended_fed_lem (state_of c.args.self.now) c.args.piece.now (ap (λ (o : Option End). is_some o) (sym c.end.ensures ∙ c.in-Some.is)))

pub returns-in-Some-clause-stands : goal.returns-in-Some-clause-stands
returns-in-Some-clause-stands c = λ opened link run h. ended_stands opened link run (state_of c.args.self.now) c.args.piece.now (ap (λ (o : Option End). is_some o) (sym c.end.ensures ∙ c.in-Some.is)) h

pub returns-in-Some-end-clause-goes : goal.returns-in-Some-end-clause-goes
returns-in-Some-end-clause-goes c = (subst (λ (bytes : List ℕ). Fed (state_of c.args.self.now) bytes (state_of c.step-taken.new.self)) (take_all c.step-taken.result c.args.piece.now (omega (arith, (c.step-taken.ensures.taken ∙ ap (λ (o : Option End). cond (is_some o) (length c.args.piece.now) (bytes_taken c.args.self.now.endpoint.link.awaited c.args.self.now.endpoint.link.rest c.args.piece.now)) (sym c.end-2.ensures ∙ c.in-Some-end.is))))) c.step-taken.ensures.goes)

pub returns-in-Some-end-clause-stands : goal.returns-in-Some-end-clause-stands
returns-in-Some-end-clause-stands c = λ opened link run h. fed_stands_lem opened link run (state_of c.args.self.now) (state_of c.step-taken.new.self) c.args.piece.now (subst (λ (bytes : List ℕ). Fed (state_of c.args.self.now) bytes (state_of c.step-taken.new.self)) (take_all c.step-taken.result c.args.piece.now (omega (arith, (c.step-taken.ensures.taken ∙ ap (λ (o : Option End). cond (is_some o) (length c.args.piece.now) (bytes_taken c.args.self.now.endpoint.link.awaited c.args.self.now.endpoint.link.rest c.args.piece.now)) (sym c.end-2.ensures ∙ c.in-Some-end.is))))) c.step-taken.ensures.goes) (sym c.end.ensures ∙ c.in_default.is) h

pub returns-in-Some-end-clause-kept : goal.returns-in-Some-end-clause-kept
returns-in-Some-end-clause-kept c = λ over. absurd (not_live c.args.self.now.endpoint.link.state.ended (sym c.end.ensures ∙ c.in_default.is) over)

pub returns-in-Some-end-clause-within : goal.returns-in-Some-end-clause-within
returns-in-Some-end-clause-within c = omega (arith, c.step-taken.ensures.within, c.step-taken.ensures.most)

pub returns-clause-goes : goal.returns-clause-goes
returns-clause-goes c = c.step-taken.ensures.goes

pub returns-clause-stands : goal.returns-clause-stands
returns-clause-stands c = λ opened link run h. fed_stands_lem opened link run (state_of c.args.self.now) (state_of c.step-taken.new.self) (take c.step-taken.result c.args.piece.now) c.step-taken.ensures.goes (sym c.end.ensures ∙ c.in_default.is) h

pub returns-clause-kept : goal.returns-clause-kept
returns-clause-kept c = λ over. absurd (not_live c.args.self.now.endpoint.link.state.ended (sym c.end.ensures ∙ c.in_default.is) over)

pub returns-clause-within : goal.returns-clause-within
returns-clause-within c = omega (arith, c.step-taken.ensures.within, c.step-taken.ensures.most)

pub returns-clause-taken : goal.returns-clause-taken
returns-clause-taken c = (c.step-taken.ensures.taken ∙ ap (λ (o : Option End). cond (is_some o) (length c.args.piece.now) (bytes_taken c.args.self.now.endpoint.link.awaited c.args.self.now.endpoint.link.rest c.args.piece.now)) (sym c.end-2.ensures ∙ c.in_default-end.is))

pub returns-in-Some-clause-staging : goal.returns-in-Some-clause-staging
returns-in-Some-clause-staging c = λ opened link run h. unchanged (with_staging c.args.self.now) c.args.piece.now

pub returns-in-Some-end-clause-staging : goal.returns-in-Some-end-clause-staging
returns-in-Some-end-clause-staging c = λ opened link run h. c.step-taken.ensures.staging (nothing_told opened link run (state_of c.args.self.now) (sym c.end.ensures ∙ c.in_default.is) h)

pub returns-clause-staging : goal.returns-clause-staging
returns-clause-staging c = λ opened link run h. c.step-taken.ensures.staging (nothing_told opened link run (state_of c.args.self.now) (sym c.end.ensures ∙ c.in_default.is) h)

pub returns-in-Some-clause-first : goal.returns-in-Some-clause-first
returns-in-Some-clause-first c = first_ended (state_of c.args.self.now) c.args.piece.now (ap (λ (o : Option End). is_some o) (sym c.end.ensures ∙ c.in-Some.is))

pub returns-in-Some-end-clause-first : goal.returns-in-Some-end-clause-first
returns-in-Some-end-clause-first c = c.step-taken.ensures.first

pub returns-clause-first : goal.returns-clause-first
returns-clause-first c = c.step-taken.ensures.first
