use Rattle.std.proofs.Common.{ap, sym, subst, ◌∙◌, ◌+◌, length, refl, arith}
use Rattle.nr_turnstile.proofs.Held.{same_value, written}
use Rattle.nr_turnstile.specs.Passes.{seen_by}
use Rattle.nr_turnstile.specs.declared.turnstile.Pass.{Pass}
use Rattle.nr_plain.specs.History.{OnlyOthersAdded, pass_view}
use Rattle.nr_plain.specs.Turns.{StandsFor}
use Rattle.nr_plain.specs.declared.history_entry.HistoryEntry.{HistoryEntry}
use Rattle.nr_plain.proofs.Histories.{entries_are, history_length, others_added}
use Rattle.nr_plain.specs.Stands.{PlainServerState}
use Rattle.nr_plain.proofs.turns.journal_len.Goals as goal

pub put_back-requires : goal.put_back-requires
put_back-requires g c =
    let t = c.take_turn-turn.ensures.got.1 in let f = c.value.result.now in let e = c.value.ensures.value in
    let seen = c.take_turn-turn.result.pass.now.seat.me.0.seen in
    (f, (t.1.0, written _ _ f e, t.1.2), subst (λ (v : PlainServerState). StandsFor v seen) (same_value _ t.0 f t.1.1 e) t.2)

pub returns-clause-found : goal.returns-clause-found
returns-clause-found g c =
    let t = c.take_turn-turn.ensures.got.1 in let f = c.value.result.now in let e = c.value.ensures.value in
    let q = c.take_turn-turn.result.pass.now in
    let seen = c.take_turn-turn.result.pass.now.seat.me.0.seen in
    let stood = subst (λ (v : PlainServerState). StandsFor v seen) (same_value _ t.0 f t.1.1 e) t.2 in
    let same = c.pass-1.given.1 (sym c.take_turn-turn.ensures.borrow) in
    subst (λ (z : Pass PlainServerState HistoryEntry). OnlyOthersAdded (pass_view c.args.pass.now) (pass_view z)) (sym same)
    (others_added (pass_view c.args.pass.now) (pass_view q) (pass_view c.put_back.new.self.1.0) f t.3 t.4 stood c.put_back.ensures.1 c.put_back.ensures.2)

pub returns-clause-seen : goal.returns-clause-seen
returns-clause-seen g c =
    let t = c.take_turn-turn.ensures.got.1 in let f = c.value.result.now in let e = c.value.ensures.value in
    let q = c.take_turn-turn.result.pass.now in
    let seen = c.take_turn-turn.result.pass.now.seat.me.0.seen in
    let stood = subst (λ (v : PlainServerState). StandsFor v seen) (same_value _ t.0 f t.1.1 e) t.2 in
    let same = c.pass-1.given.1 (sym c.take_turn-turn.ensures.borrow) in
    ap (λ (z : Pass PlainServerState HistoryEntry). length (seen_by z)) same ∙ ap length c.put_back.ensures.1
    ∙ sym (entries_are f seen c.journal_len-len.result (c.journal_len-len.result + 1) c.journal_len-len.ensures.len refl stood)

pub returns-clause-len : goal.returns-clause-len
returns-clause-len g c first J i = let all = history_length first J _ i in let seen = returns-clause-seen g c in omega (arith, all, seen)
