use Rattle.std.proofs.Common.{rules, ◌≡◌, Result, Ok, Err, inl, inr, refl, subst}
use Rattle.std.specs.Prelude.{MatchResult, OnOk}
use Rattle.nr_shared.proofs.Moving.{drains_all, drains_some}
use Rattle.nr_shared.proofs.requester_with_sink.RequesterWithSink.drain.Goals as goal

ok_of : {A E : Type 0} (P : A → Type 0) (Q : E → Type 0) (r : Result A E) (a : A) → r ≡ Ok a → MatchResult r P Q → P a
ok_of P Q r a is m = subst (λ x. MatchResult x P Q) is m

err_of : {A E : Type 0} (P : A → Type 0) (Q : E → Type 0) (r : Result A E) (e : E) → r ≡ Err e → MatchResult r P Q → Q e
err_of P Q r e is m = subst (λ x. MatchResult x P Q) is m

all_of : {A E P : Type 0} (r : Result A E) (a : A) → r ≡ Ok a → OnOk r P → P
all_of {P = P} r a is m = subst (λ x. OnOk x P) is m

pub returns-in-Ok-clause-drained : goal.returns-in-Ok-clause-drained
returns-in-Ok-clause-drained g c = let e = c.drain_numbered-sink.ensures in let t = e.taken in let r = c.drain_numbered-sink.result in
    drains_all g.O.LinkSink.link g.O.Sink.taken g.O.Sink.faults g.C.CallRule.allows c.args.self.now _ c.in-Some.sink r.0 t.0
    (record { was = (search rules); becomes = refl; number = e.link; tries = refl; rejoined = refl; stopped = refl; some = t.1; takes = t.2; never = e.never_falls; after = t.3; on = t.4; stops = t.5; keeps = e.tickets; fed = e.fed })
    (search rules) c.if-self.false (all_of r.1 _ c.in-Ok.is t.6) (ok_of _ _ r.1 _ c.in-Ok.is e.counted) refl refl c.if-self.false

pub returns-in-Err-clause-drained : goal.returns-in-Err-clause-drained
returns-in-Err-clause-drained g c = let e = c.drain_numbered-sink.ensures in let t = e.taken in let r = c.drain_numbered-sink.result in
    drains_some g.O.LinkSink.link g.O.Sink.taken g.O.Sink.faults g.C.CallRule.allows c.args.self.now _ c.in-Some.sink r.0 t.0
    (record { was = (search rules); becomes = refl; number = e.link; tries = refl; rejoined = refl; stopped = refl; some = t.1; takes = t.2; never = e.never_falls; after = t.3; on = t.4; stops = t.5; keeps = e.tickets; fed = e.fed })
    (search rules) c.if-self.false (err_of _ _ r.1 _ c.in-Err.is e.counted).1 refl (search rules) refl

pub returns-in-Ok-clause-flushed : goal.returns-in-Ok-clause-flushed
returns-in-Ok-clause-flushed g c = inr (inr refl)

pub returns-in-Err-clause-flushed : goal.returns-in-Err-clause-flushed
returns-in-Err-clause-flushed g c = inl refl
