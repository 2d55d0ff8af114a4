use Rattle.std.proofs.Common.{◌≡◌, refl, sym, ap, subst, ◌∙◌}
use Rattle.nr_reduce.specs.declared.call.Call.{Call}
use Rattle.nr_reduce.specs.declared.call.Form.{Form}
use Rattle.nr_turnstile.specs.declared.plays.View.{View}
use Rattle.nr_turnstile.specs.Passes.{Steps, seen_by}
use Rattle.nr_turnstile.specs.Turns.{pass_of}
use Rattle.nr_turnstile.proofs.Held.{same_value, written}
use Rattle.nr_shared.specs.declared.entry.Entry.{Entry}
use Rattle.nr_shared.specs.declared.entry.Entry.TheVariants as entries
use Rattle.nr_shared.specs.declared.requester_with_sink.RequesterWithSink.{RequesterWithSink}
use Rattle.nr_shared.specs.Standing.{Stands}
use Rattle.nr_shared.proofs.Adding.{steps}
use Rattle.nr_shared.proofs.Asking.{just_asked, keeps_none, none_closed, ready_on}
use Rattle.nr_shared.proofs.Ends.{credit_left, refused_is}
use Rattle.nr_shared.proofs.turns.submit_under.Goals as goal

pub append_submit-requires-clause-value : goal.append_submit-requires-clause-value
append_submit-requires-clause-value g c = let r = c.requires.ready in (c.submit.new.self, (r.has.0, written _ _ c.submit.new.self c.value-with_sink.ensures.value, r.has.2))

pub returns-in-Ok-clause-ready : goal.returns-in-Ok-clause-ready
returns-in-Ok-clause-ready g c =
    let r = c.requires.ready in let w = c.submit.new.self in let f = c.value-with_sink.result.now in let seen = seen_by (pass_of c.args.turn.now) in
    let st : Stands g.O.LinkSink.link g.O.Sink.taken g.O.Sink.faults g.C.CallRule.allows f seen = subst (λ (z : RequesterWithSink g.row.O.Denot g.row.C.Denot). Stands g.O.LinkSink.link g.O.Sink.taken g.O.Sink.faults g.C.CallRule.allows z seen) (same_value _ r.value f r.has.1 c.value-with_sink.ensures.value) r.stands in
    let same : entries.Submit c.of-asked.result.value c.of-asked_in.result.value c.in-Ok.ticket ≡ entries.Submit c.args.call c.args.form c.in-Ok.ticket =
    ap (λ (z : Call). entries.Submit z c.of-asked_in.result.value c.in-Ok.ticket) c.of-asked.ensures ∙ ap (λ (z : Form). entries.Submit c.args.call z c.in-Ok.ticket) c.of-asked_in.ensures in
    ready_on g.O.LinkSink.link g.O.Sink.taken g.O.Sink.faults g.C.CallRule.allows c.args.turn.now c.append_submit.new.turn w (entries.Submit c.args.call c.args.form c.in-Ok.ticket) r
    (c.append_submit.ensures.held w (r.has.0, written _ _ w c.value-with_sink.ensures.value, r.has.2))
    (subst (λ (e : Entry). Steps (pass_of c.args.turn.now) (pass_of c.append_submit.new.turn) e) same c.append_submit.ensures.step)
    (λ k is. absurd (none_closed k is))
    (c.in-Ok.ensures.accepted seen st)

pub returns-in-Ok-clause-accepted : goal.returns-in-Ok-clause-accepted
returns-in-Ok-clause-accepted g c =
    let r = c.requires.ready in
    let same : entries.Submit c.of-asked.result.value c.of-asked_in.result.value c.in-Ok.ticket ≡ entries.Submit c.args.call c.args.form c.in-Ok.ticket =
    ap (λ (z : Call). entries.Submit z c.of-asked_in.result.value c.in-Ok.ticket) c.of-asked.ensures ∙ ap (λ (z : Form). entries.Submit c.args.call z c.in-Ok.ticket) c.of-asked_in.ensures in
    let step = subst (λ (e : Entry). Steps (pass_of c.args.turn.now) (pass_of c.append_submit.new.turn) e) same c.append_submit.ensures.step in
    (steps (pass_of c.args.turn.now) (pass_of c.append_submit.new.turn) (entries.Submit c.args.call c.args.form c.in-Ok.ticket) step, (just_asked {O = g.row.O.Denot} (pass_of c.args.turn.now) (pass_of c.append_submit.new.turn) c.args.call c.args.form c.in-Ok.ticket r.earlier r.lies step).0)

pub returns-clause-ready : goal.returns-clause-ready
returns-clause-ready g c =
    let r = c.requires.ready in let w = c.submit.new.self in let f = c.value-with_sink.result.now in let seen = seen_by (pass_of c.args.turn.now) in
    let st : Stands g.O.LinkSink.link g.O.Sink.taken g.O.Sink.faults g.C.CallRule.allows f seen = subst (λ (z : RequesterWithSink g.row.O.Denot g.row.C.Denot). Stands g.O.LinkSink.link g.O.Sink.taken g.O.Sink.faults g.C.CallRule.allows z seen) (same_value _ r.value f r.has.1 c.value-with_sink.ensures.value) r.stands in
    record {
      value = w;
      has = (r.has.0, written _ _ w c.value-with_sink.ensures.value, r.has.2);
      stands = subst (λ (z : RequesterWithSink g.row.O.Denot g.row.C.Denot). Stands g.O.LinkSink.link g.O.Sink.taken g.O.Sink.faults g.C.CallRule.allows z seen) (sym c.in-Err.ensures.err) st;
      lies = r.lies;
      earlier = r.earlier;
    }

pub returns-in-Ok-clause-seen : goal.returns-in-Ok-clause-seen
returns-in-Ok-clause-seen g c =
    let same : entries.Submit c.of-asked.result.value c.of-asked_in.result.value c.in-Ok.ticket ≡ entries.Submit c.args.call c.args.form c.in-Ok.ticket =
    ap (λ (z : Call). entries.Submit z c.of-asked_in.result.value c.in-Ok.ticket) c.of-asked.ensures ∙ ap (λ (z : Form). entries.Submit c.args.call z c.in-Ok.ticket) c.of-asked_in.ensures in
    ap (λ (v : View Entry). v.seen) (subst (λ (e : Entry). Steps (pass_of c.args.turn.now) (pass_of c.append_submit.new.turn) e) same c.append_submit.ensures.step)

pub returns-clause-why : goal.returns-clause-why
returns-clause-why g c =
    let r = c.requires.ready in let f = c.value-with_sink.result.now in let seen = seen_by (pass_of c.args.turn.now) in
    let st : Stands g.O.LinkSink.link g.O.Sink.taken g.O.Sink.faults g.C.CallRule.allows f seen = subst (λ (z : RequesterWithSink g.row.O.Denot g.row.C.Denot). Stands g.O.LinkSink.link g.O.Sink.taken g.O.Sink.faults g.C.CallRule.allows z seen) (same_value _ r.value f r.has.1 c.value-with_sink.ensures.value) r.stands in
    refused_is g.O.LinkSink.link g.O.Sink.taken g.O.Sink.faults g.C.CallRule.allows f seen c.args.call c.args.form c.in-Err.refused.1 st c.in-Err.ensures.refused

pub returns-clause-credit : goal.returns-clause-credit
returns-clause-credit g c = λ leaves.
    (let r = c.requires.ready in let f = c.value-with_sink.result.now in
    credit_left f.requester.state c.args.call c.args.form c.in-Err.refused.1 (leaves f (r.has.0, c.value-with_sink.ensures.value, r.has.2)) c.in-Err.ensures.refused)

pub returns-in-Ok-clause-keeps : goal.returns-in-Ok-clause-keeps
returns-in-Ok-clause-keeps g c =
    let same : entries.Submit c.of-asked.result.value c.of-asked_in.result.value c.in-Ok.ticket ≡ entries.Submit c.args.call c.args.form c.in-Ok.ticket =
    ap (λ (z : Call). entries.Submit z c.of-asked_in.result.value c.in-Ok.ticket) c.of-asked.ensures ∙ ap (λ (z : Form). entries.Submit c.args.call z c.in-Ok.ticket) c.of-asked_in.ensures in
    let step = subst (λ (e : Entry). Steps (pass_of c.args.turn.now) (pass_of c.append_submit.new.turn) e) same c.append_submit.ensures.step in
    keeps_none (pass_of c.args.turn.now) (pass_of c.append_submit.new.turn) (entries.Submit c.args.call c.args.form c.in-Ok.ticket) step refl

pub returns-in-Ok-clause-opened : goal.returns-in-Ok-clause-opened
returns-in-Ok-clause-opened g c = let r = c.requires.ready in
    let same : entries.Submit c.of-asked.result.value c.of-asked_in.result.value c.in-Ok.ticket ≡ entries.Submit c.args.call c.args.form c.in-Ok.ticket =
    ap (λ (z : Call). entries.Submit z c.of-asked_in.result.value c.in-Ok.ticket) c.of-asked.ensures ∙ ap (λ (z : Form). entries.Submit c.args.call z c.in-Ok.ticket) c.of-asked_in.ensures in
    let step = subst (λ (e : Entry). Steps (pass_of c.args.turn.now) (pass_of c.append_submit.new.turn) e) same c.append_submit.ensures.step in
    (just_asked {O = g.row.O.Denot} (pass_of c.args.turn.now) (pass_of c.append_submit.new.turn) c.args.call c.args.form c.in-Ok.ticket r.earlier r.lies step).1

pub returns-clause-keeps : goal.returns-clause-keeps
returns-clause-keeps g c = λ k o. o
