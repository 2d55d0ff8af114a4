use Rattle.std.proofs.Common.{◌≡◌, ℕ, List, [], ◌∷◌, ◌++◌, Bool, ap, sym, subst, ◌∙◌}
use Rattle.nr_turnstile.specs.declared.plays.View.{View}
use Rattle.std.specs.Prelude.{MatchBool}
use Rattle.std.proofs.lemmas.Option.{none-some}
use Rattle.nr_turnstile.proofs.Held.{same_value, written}
use Rattle.nr_reduce.specs.declared.mark.TaggedEntry.{TaggedEntry}
use Rattle.nr_plain.specs.History.{OnlyOthersAdded, pass_view, entry_to_append}
use Rattle.nr_plain.specs.Numbered.{NumberedCall, added_for}
use Rattle.nr_plain.specs.Turns.{Answers, IsCauseFor, StandsFor}
use Rattle.nr_plain.specs.private.Executing.{IsOne}
use Rattle.nr_plain.specs.declared.history_entry.HistoryEntry.{HistoryEntry}
use Rattle.nr_plain.specs.Stands.{PlainServerState}
use Rattle.nr_turnstile.specs.declared.turnstile.Pass.{Pass}
use Rattle.nr_plain.proofs.Histories.{others_added, room_for_one}
use Rattle.nr_plain.proofs.TurnAnswers.{answers_none, answers_one, cause_for, stands_left, stands_none, stands_one}
use Rattle.nr_plain.proofs.turns.execute_for.Goals as goal

pub put_back-requires : goal.put_back-requires
put_back-requires g c =
    let t = c.take_turn-turn.ensures.got.1 in let f = c.value-value.result.now in let e = c.value-value.ensures.value in let w = c.execute_once.new.self in
    let seen = c.take_turn-turn.result.pass.now.seat.me.0.seen in
    let stood = subst (λ (v : PlainServerState). StandsFor v seen) (same_value _ t.0 f t.1.1 e) t.2 in
    (w, (t.1.0, written _ _ w e, t.1.2), stands_left c.in-Err.fault f w seen c.in-Err.ensures.err stood)

pub put_back-requires-then-not-adds : goal.put_back-requires-then-not-adds
put_back-requires-then-not-adds g c =
    let t = c.take_turn-turn.ensures.got.1 in let f = c.value-value.result.now in let e = c.value-value.ensures.value in let w = c.execute_once.new.self in
    let seen = c.take_turn-turn.result.pass.now.seat.me.0.seen in
    let stood = subst (λ (v : PlainServerState). StandsFor v seen) (same_value _ t.0 f t.1.1 e) t.2 in
    let r = c.in-Ok.both in
    let call : NumberedCall = record { client = c.args.client; moment = c.args.now; payload = c.args.payload.now; reply = r.0.payload } in (
      w,
      (t.1.0, written _ _ w e, t.1.2),
      stands_none f w seen c.args.client c.args.now c.args.payload.now r.0.payload r.0.place c.execute_once.ensures.bytes c.in-Ok.ensures.answered stood
          (λ s T is. subst (λ (b : Bool). MatchBool b (IsOne (added_for s T call)) (◌≡◌ {A = List TaggedEntry} (added_for s T call) [])) c.if-not-adds.true (c.in-Ok.ensures.adds s T is)),
    )

pub append-requires-clause-value : goal.append-requires-clause-value
append-requires-clause-value g c =
    let t = c.take_turn-turn.ensures.got.1 in let e = c.value-value.ensures.value in let w = c.execute_once.new.self in (w, (t.1.0, written _ _ w e, t.1.2))

pub append-requires-clause-may : goal.append-requires-clause-may
append-requires-clause-may g c =
    let t = c.take_turn-turn.ensures.got.1 in let f = c.value-value.result.now in let e = c.value-value.ensures.value in
    let seen = c.take_turn-turn.result.pass.now.seat.me.0.seen in
    let stood = subst (λ (v : PlainServerState). StandsFor v seen) (same_value _ t.0 f t.1.1 e) t.2 in
    ((λ k s. absurd (none-some k s)), room_for_one f seen stood c.in-Ok.ensures.room)

pub put_back-requires-2 : goal.put_back-requires-2
put_back-requires-2 g c =
    let t = c.take_turn-turn.ensures.got.1 in let f = c.value-value.result.now in let e = c.value-value.ensures.value in let w = c.execute_once.new.self in
    let seen = c.take_turn-turn.result.pass.now.seat.me.0.seen in
    let stood = subst (λ (v : PlainServerState). StandsFor v seen) (same_value _ t.0 f t.1.1 e) t.2 in
    let r = c.in-Ok.both in
    let call : NumberedCall = record { client = c.args.client; moment = c.args.now; payload = c.args.payload.now; reply = r.0.payload } in (
      w,
      c.append.ensures.held w (t.1.0, written _ _ w e, t.1.2),
      stands_one f w seen c.args.client c.args.now c.args.payload.now r.0.payload r.0.place c.execute_once.ensures.bytes c.in-Ok.ensures.answered _ stood
          (λ s T is. subst (λ (b : Bool). MatchBool b (IsOne (added_for s T call)) (◌≡◌ {A = List TaggedEntry} (added_for s T call) [])) c.if-not-adds.false (c.in-Ok.ensures.adds s T is))
          (ap (λ (v : View HistoryEntry). v.seen) c.append.ensures.step ∙ ap (λ (l : List ℕ). seen ++ entry_to_append c.args.client c.args.now c.args.payload.now l ∷ []) c.as_slice.ensures),
    )

pub returns-in-Err-clause-err : goal.returns-in-Err-clause-err
returns-in-Err-clause-err g c =
    let t = c.take_turn-turn.ensures.got.1 in let f = c.value-value.result.now in let e = c.value-value.ensures.value in
    let q = c.take_turn-turn.result.pass.now in
    let seen = c.take_turn-turn.result.pass.now.seat.me.0.seen in
    let stood = subst (λ (v : PlainServerState). StandsFor v seen) (same_value _ t.0 f t.1.1 e) t.2 in
    subst (λ (z : Pass PlainServerState HistoryEntry). OnlyOthersAdded (pass_view c.args.pass.now) (pass_view z)) (sym (c.pass-1.given.1 (sym c.take_turn-turn.ensures.borrow)))
    (others_added (pass_view c.args.pass.now) (pass_view q) (pass_view c.put_back.new.self.1.0) f t.3 t.4 stood c.put_back.ensures.1 c.put_back.ensures.2)

pub returns-in-Err-clause-cause : goal.returns-in-Err-clause-cause
returns-in-Err-clause-cause g c =
    let t = c.take_turn-turn.ensures.got.1 in let f = c.value-value.result.now in let e = c.value-value.ensures.value in
    let q = c.take_turn-turn.result.pass.now in
    let seen = c.take_turn-turn.result.pass.now.seat.me.0.seen in
    let stood = subst (λ (v : PlainServerState). StandsFor v seen) (same_value _ t.0 f t.1.1 e) t.2 in
    subst (λ (z : Pass PlainServerState HistoryEntry). IsCauseFor (pass_view c.args.pass.now) (pass_view z) c.args.client c.args.payload.now c.in-Err.fault) (sym (c.pass-1.given.1 (sym c.take_turn-turn.ensures.borrow)))
    (cause_for (pass_view c.args.pass.now) (pass_view q) (pass_view c.put_back.new.self.1.0) f c.args.client c.args.payload.now t.3 t.4 stood c.put_back.ensures.1 c.put_back.ensures.2
    c.in-Err.fault c.in-Err.ensures.cause)

pub returns-then-not-adds-clause-answered : goal.returns-then-not-adds-clause-answered
returns-then-not-adds-clause-answered g c =
    let t = c.take_turn-turn.ensures.got.1 in let f = c.value-value.result.now in let e = c.value-value.ensures.value in let w = c.execute_once.new.self in
    let q = c.take_turn-turn.result.pass.now in
    let seen = c.take_turn-turn.result.pass.now.seat.me.0.seen in
    let stood = subst (λ (v : PlainServerState). StandsFor v seen) (same_value _ t.0 f t.1.1 e) t.2 in
    let r = c.in-Ok.both in
    let call : NumberedCall = record { client = c.args.client; moment = c.args.now; payload = c.args.payload.now; reply = r.0.payload } in
    subst (λ (z : Pass PlainServerState HistoryEntry). Answers (pass_view c.args.pass.now) (pass_view z) c.args.client c.args.now c.args.payload.now r.0.payload r.0.place) (sym (c.pass-then-not-adds-1.given.1 (sym c.take_turn-turn.ensures.borrow)))
    (answers_none (pass_view c.args.pass.now) (pass_view q) (pass_view c.put_back-then-not-adds.new.self.1.0) f w c.args.client c.args.now c.args.payload.now r.0.payload r.0.place t.3 t.4 stood
    c.execute_once.ensures.bytes c.in-Ok.ensures.answered
    (λ s T is. subst (λ (b : Bool). MatchBool b (IsOne (added_for s T call)) (◌≡◌ {A = List TaggedEntry} (added_for s T call) [])) c.if-not-adds.true (c.in-Ok.ensures.adds s T is))
    c.put_back-then-not-adds.ensures.1 c.put_back-then-not-adds.ensures.2)

pub returns-clause-answered : goal.returns-clause-answered
returns-clause-answered g c =
    let t = c.take_turn-turn.ensures.got.1 in let f = c.value-value.result.now in let e = c.value-value.ensures.value in let w = c.execute_once.new.self in
    let q = c.take_turn-turn.result.pass.now in
    let seen = c.take_turn-turn.result.pass.now.seat.me.0.seen in
    let stood = subst (λ (v : PlainServerState). StandsFor v seen) (same_value _ t.0 f t.1.1 e) t.2 in
    let r = c.in-Ok.both in
    let call : NumberedCall = record { client = c.args.client; moment = c.args.now; payload = c.args.payload.now; reply = r.0.payload } in
    subst (λ (z : Pass PlainServerState HistoryEntry). Answers (pass_view c.args.pass.now) (pass_view z) c.args.client c.args.now c.args.payload.now r.0.payload r.0.place)
    (sym (c.pass-2-1.given.1 (sym (c.append.ensures.same.1 ∙ c.take_turn-turn.ensures.borrow))))
    (answers_one (pass_view c.args.pass.now) (pass_view q) (pass_view c.put_back-2.new.self.1.0) f w c.args.client c.args.now c.args.payload.now r.0.payload r.0.place t.3 t.4 stood
    c.execute_once.ensures.bytes c.in-Ok.ensures.answered
    (λ s T is. subst (λ (b : Bool). MatchBool b (IsOne (added_for s T call)) (◌≡◌ {A = List TaggedEntry} (added_for s T call) [])) c.if-not-adds.false (c.in-Ok.ensures.adds s T is))
    (c.put_back-2.ensures.1 ∙ ap (λ (v : View HistoryEntry). v.seen) c.append.ensures.step ∙ ap (λ (l : List ℕ). seen ++ entry_to_append c.args.client c.args.now c.args.payload.now l ∷ []) c.as_slice.ensures)
    (c.put_back-2.ensures.2 ∙ ap (λ (v : View HistoryEntry). v.mine) c.append.ensures.step))
