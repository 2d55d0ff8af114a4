use Rattle.std.proofs.Common.{◌≡◌, ℕ, List, length, rules, sym, ◌∙◌, subst}
use Rattle.nr_turnstile.specs.declared.turnstile.Pass.{Pass}
use Rattle.nr_turnstile.proofs.Held.{same_value, written}
use Rattle.nr_turnstile_tests.specs.declared.asks.Desk.{Desk}
use Rattle.nr_turnstile_tests.specs.Asks.{IsAsked}
use Rattle.nr_turnstile_tests.proofs.Asked.{asked}
use Rattle.nr_turnstile_tests.proofs.asks.Desk.ask.Goals as goal

pub note_question-requires-clause-value : goal.note_question-requires-clause-value
note_question-requires-clause-value g c = let t = c.take_turn-turn.ensures.got.1 in let w = c.add.new.self in (w, (t.1.0, written _ _ w c.value-value.ensures.value, t.1.2))

pub returns-clause-asked : goal.returns-clause-asked
returns-clause-asked g c = let t = c.take_turn-turn.ensures.got.1 in let f = c.value-value.result.now in let p = c.take_turn-turn.result.pass.now in
    subst (λ (z : Pass Desk ℕ). IsAsked z c.entries-place.result) (sym (c.pass-2-1.given.1 (sym (c.note_question.ensures.same.1 ∙ c.take_turn-turn.ensures.borrow)))) (asked (λ (d : Desk) (h : List ℕ). d.entries ≡ length h) c.take_turn-turn.result.turnstile.now c.args.pass.now p c.note_question.new.turn.pass.now c.put_back-2.new.self.1.0 c.entries-place.result t ((λ k s. absurd (let n : ⊥ = search rules in n)), search rules) c.note_question.ensures.step c.put_back-2.ensures.1 c.put_back-2.ensures.2
    (c.entries-place.ensures p.seat.me.0.seen (subst (λ (z : Desk). z.entries ≡ length p.seat.me.0.seen) (same_value _ t.0 f t.1.1 c.value-value.ensures.value) t.2)))
