use Rattle.std.proofs.Common.{ap, sym, ◌∙◌}
use Rattle.nr_turnstile.proofs.Held.{same_value, written}
use Rattle.nr_turnstile_tests.specs.declared.log.Log.{Log}
use Rattle.nr_turnstile_tests.proofs.log.counted.Goals as goal

pub put_back-requires : goal.put_back-requires
put_back-requires g c = let t = c.take_turn-turn.ensures.got.1 in let f = c.value.result.now in let e = c.value.ensures.value in
    (f, (t.1.0, written _ _ f e, t.1.2), ap (λ (z : Log). z.items.items) (sym (same_value _ t.0 f t.1.1 e)) ∙ t.2)
