use Rattle.std.proofs.Common.{◌≡◌, ℕ, ◌+◌, ◌<◌, ◌^◌, List, [], ◌∷◌, ◌++◌, length, ap, sym, ◌∙◌, arith, rules}
use Rattle.nr_turnstile.proofs.Held.{same_value, written}
use Rattle.nr_turnstile_tests.specs.declared.log.Log.{Log}
use Rattle.nr_turnstile_tests.proofs.log.write.Goals as goal

pub put_back-requires : goal.put_back-requires
put_back-requires g c = let t = c.take_turn-turn.ensures.got.1 in let w = c.add-added.new.self in let f = c.value-value.result.now in let e = c.value-value.ensures.value in
    (w, (t.1.0, written _ _ w e, t.1.2), c.if-not-added.ensures ∙ (ap (λ (z : Log). z.items.items) (sym (same_value _ t.0 f t.1.1 e)) ∙ t.2))

pub note-requires-clause-value : goal.note-requires-clause-value
note-requires-clause-value g c = let t = c.take_turn-turn.ensures.got.1 in let w = c.add-added.new.self in (w, (t.1.0, written _ _ w c.value-value.ensures.value, t.1.2))

pub note-requires-clause-may : goal.note-requires-clause-may
note-requires-clause-may g c = let t = c.take_turn-turn.ensures.got.1 in let f = c.value-value.result.now in let e = c.value-value.ensures.value in let a = c.if-not-added.ensures in
    let same : length f.items.items ≡ length c.take_turn-turn.result.pass.now.seat.me.0.seen = ap (λ (z : Log). length z.items.items) (sym (same_value _ t.0 f t.1.1 e)) ∙ ap length t.2 in
    let small : length f.items.items + 1 < 2 ^ 62 = a.1 in
    ((λ k s. absurd (let n : ⊥ = search rules in n)), omega (arith, same, small))

pub put_back-requires-2 : goal.put_back-requires-2
put_back-requires-2 g c = let t = c.take_turn-turn.ensures.got.1 in let w = c.add-added.new.self in let f = c.value-value.result.now in let e = c.value-value.ensures.value in let a = c.if-not-added.ensures in
    let seen = c.take_turn-turn.result.pass.now.seat.me.0.seen in
    let same : f.items.items ≡ seen = ap (λ (z : Log). z.items.items) (sym (same_value _ t.0 f t.1.1 e)) ∙ t.2 in
    (w, c.note.ensures.held w (t.1.0, written _ _ w e, t.1.2), a.0 ∙ (ap (λ (l : List ℕ). l ++ c.args.x ∷ []) same ∙ sym (ap (λ v. v.seen) c.note.ensures.step)))
