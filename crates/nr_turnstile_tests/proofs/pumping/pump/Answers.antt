use Rattle.std.proofs.Common.{◌≡◌, subst, sym, ap, ◌∙◌}
use mathlib.Core.Option.{some}
use lib.ListN.{get_elem?}
use Rattle.atomic_table.proofs.Lists.{at_longer}
use Rattle.nr_turnstile.proofs.Held.{same_value, written}
use Rattle.nr_turnstile_tests.specs.declared.feeder.Feeder.{Feeder}
use Rattle.nr_turnstile_tests.specs.Feeds.{RepresentsNotes}
use Rattle.nr_turnstile_tests.proofs.pumping.pump.Goals as goal

pub append-requires : goal.append-requires
append-requires g c = let t = c.take_turn-turn.ensures.got.1 in let f = c.value-value.result.now in let now = c.take_turn-turn.result.pass.now.seat.me.0.seen in let o = c.requires.over in
    let st : RepresentsNotes f.pass now = subst (λ (z : Feeder). RepresentsNotes z.pass now) (same_value _ t.0 f t.1.1 c.value-value.ensures.value) t.2.0 in
    let first : get_elem? now 0 ≡ some o.0 = subst (λ l. get_elem? l 0 ≡ some o.0) (sym t.3.1) (at_longer _ t.3.0 0 o.0 o.1) in
    (sym (st.1 0 o.0 first) ∙ o.2, st.0.0, st.0.1)

pub put_back-requires : goal.put_back-requires
put_back-requires g c = let t = c.take_turn-turn.ensures.got.1 in let f = c.value-value.result.now in let now = c.take_turn-turn.result.pass.now.seat.me.0.seen in let o = c.requires.over in
    let e = c.value-value.ensures.value in let same : t.0 ≡ f = same_value _ t.0 f t.1.1 e in
    let st : RepresentsNotes f.pass now = subst (λ (z : Feeder). RepresentsNotes z.pass now) same t.2.0 in
    let first : get_elem? now 0 ≡ some o.0 = subst (λ l. get_elem? l 0 ≡ some o.0) (sym t.3.1) (at_longer _ t.3.0 0 o.0 o.1) in
    let r = c.append.ensures.rests in let w : Feeder = record { pass = c.append.new.pass; entries = f.entries } in
    (w, (t.1.0, written _ _ w e, t.1.2), (((r.1, r.2), λ k s h. st.1 k s h ∙ (sym (st.1 0 o.0 first) ∙ (o.2 ∙ sym r.0))), ap (λ (z : Feeder). z.entries) (sym same) ∙ t.2.1))
