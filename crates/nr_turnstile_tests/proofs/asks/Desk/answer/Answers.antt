use Rattle.std.proofs.Common.{◌≡◌, ℕ, List, length, sym, ◌∙◌, subst}
use Rattle.nr_turnstile.specs.declared.turnstile.Pass.{Pass}
use Rattle.nr_turnstile_tests.specs.declared.asks.Desk.{Desk}
use Rattle.nr_turnstile_tests.specs.Asks.{IsAnswered}
use Rattle.nr_turnstile.proofs.Held.{written}
use Rattle.nr_turnstile_tests.proofs.Asked.{answered}
use Rattle.nr_turnstile_tests.proofs.asks.Desk.answer.Goals as goal

pub note_answer-requires-clause-value : goal.note_answer-requires-clause-value
note_answer-requires-clause-value g c = let t = c.take_turn-turn.ensures.got.1 in let w = c.add.new.self in (w, (t.1.0, written _ _ w c.value-value.ensures.value, t.1.2))

pub returns-clause-answered : goal.returns-clause-answered
returns-clause-answered g c = let t = c.take_turn-turn.ensures.got.1 in
    subst (λ (z : Pass Desk ℕ). IsAnswered z c.args.n) (sym (c.pass-2-1.given.1 (sym (c.note_answer.ensures.same.1 ∙ c.take_turn-turn.ensures.borrow)))) (answered (λ (d : Desk) (h : List ℕ). d.entries ≡ length h) c.take_turn-turn.result.turnstile.now c.args.pass.now c.take_turn-turn.result.pass.now c.note_answer.new.turn.pass.now c.put_back-2.new.self.1.0 c.args.n t c.requires.asked c.note_answer.ensures.step c.put_back-2.ensures.1)
