use Rattle.std.proofs.Common.{◌≡◌, [], ◌∷◌, ◌++◌, List, refl, sym, ap, append-nil, append_assoc, subst, ◌∙◌}
use Rattle.nr_turnstile.specs.declared.plays.View.{View}
use Rattle.nr_turnstile.specs.Passes.{Steps, seen_by}
use Rattle.nr_turnstile.specs.Turns.{pass_of}
use Rattle.nr_turnstile.proofs.Held.{same_value, written}
use Rattle.nr_requester.specs.RequesterState.{RequesterSide}
use Rattle.nr_shared.specs.declared.entry.Entry.{Entry}
use Rattle.nr_shared.specs.declared.entry.Entry.TheVariants as entries
use Rattle.nr_shared.specs.declared.requester_with_sink.RequesterWithSink.{RequesterWithSink}
use Rattle.nr_shared.specs.Draining.{taken_between}
use Rattle.nr_shared.specs.Standing.{Stands}
use Rattle.nr_shared.proofs.Adding.{adds_both, adds_none, steps}
use Rattle.nr_shared.proofs.Lists.{begins_self}
use Rattle.nr_shared.proofs.Asking.{none_closed, ready_on, ready_two}
use Rattle.nr_shared.specs.private.Flushed.{IsFlushed}
use Rattle.nr_shared.proofs.turns.drain_under.Goals as goal

pub drain-drained-requires : goal.drain-drained-requires
drain-drained-requires g c = let r = c.requires.ready in record {
  stands = (seen_by (pass_of c.args.turn.now), subst (λ (z : RequesterWithSink g.row.O.Denot g.row.C.Denot). Stands g.O.LinkSink.link g.O.Sink.taken g.O.Sink.faults g.C.CallRule.allows z (seen_by (pass_of c.args.turn.now))) (same_value _ r.value c.value-with_sink.result.now r.has.1 c.value-with_sink.ensures.value) r.stands);
}

pub returns-in-Nothing-clause-ready : goal.returns-in-Nothing-clause-ready
returns-in-Nothing-clause-ready g c =
    let r = c.requires.ready in let w = c.drain-drained.new.self in let f = c.value-with_sink.result.now in let seen = seen_by (pass_of c.args.turn.now) in
    let st : Stands g.O.LinkSink.link g.O.Sink.taken g.O.Sink.faults g.C.CallRule.allows f seen = subst (λ (z : RequesterWithSink g.row.O.Denot g.row.C.Denot). Stands g.O.LinkSink.link g.O.Sink.taken g.O.Sink.faults g.C.CallRule.allows z seen) (same_value _ r.value f r.has.1 c.value-with_sink.ensures.value) r.stands in
    record {
      value = w;
      has = (c.requires.ready.has.0, written _ _ c.drain-drained.new.self c.value-with_sink.ensures.value, c.requires.ready.has.2);
      stands = subst (λ (h : List Entry). Stands g.O.LinkSink.link g.O.Sink.taken g.O.Sink.faults g.C.CallRule.allows w h) (append-nil seen) (c.in-Nothing.ensures.drained seen st);
      lies = r.lies;
      earlier = r.earlier;
    }

pub returns-in-Nothing-clause-wrote : goal.returns-in-Nothing-clause-wrote
returns-in-Nothing-clause-wrote g c = let p = pass_of c.args.turn.now in
    record { es = []; are = tt; seen = sym (append-nil (seen_by p)); adds = adds_none p _ (begins_self (seen_by p)) refl }

pub append_wrote-requires-clause-value : goal.append_wrote-requires-clause-value
append_wrote-requires-clause-value g c = (c.drain-drained.new.self, (c.requires.ready.has.0, written _ _ c.drain-drained.new.self c.value-with_sink.ensures.value, c.requires.ready.has.2))

pub append_wrote-requires-in-WriteFailed-clause-value : goal.append_wrote-requires-in-WriteFailed-clause-value
append_wrote-requires-in-WriteFailed-clause-value g c = (c.drain-drained.new.self, (c.requires.ready.has.0, written _ _ c.drain-drained.new.self c.value-with_sink.ensures.value, c.requires.ready.has.2))

pub append_write_failed-requires-clause-value : goal.append_write_failed-requires-clause-value
append_write_failed-requires-clause-value g c = (c.drain-drained.new.self, c.append_wrote-in-WriteFailed.ensures.held c.drain-drained.new.self (c.requires.ready.has.0, written _ _ c.drain-drained.new.self c.value-with_sink.ensures.value, c.requires.ready.has.2))

pub returns-in-Wrote-clause-ready : goal.returns-in-Wrote-clause-ready
returns-in-Wrote-clause-ready g c =
    let r = c.requires.ready in let w = c.drain-drained.new.self in let f = c.value-with_sink.result.now in let seen = seen_by (pass_of c.args.turn.now) in
    let st : Stands g.O.LinkSink.link g.O.Sink.taken g.O.Sink.faults g.C.CallRule.allows f seen = subst (λ (z : RequesterWithSink g.row.O.Denot g.row.C.Denot). Stands g.O.LinkSink.link g.O.Sink.taken g.O.Sink.faults g.C.CallRule.allows z seen) (same_value _ r.value f r.has.1 c.value-with_sink.ensures.value) r.stands in
    let e : Entry = entries.Wrote (taken_between c.value-with_sink.result.now.requester.state c.drain-drained.new.self.requester.state) in
    let same : entries.Wrote (taken_between c.of-before.result.value.state c.of-after.result.value.state) ≡ e =
    ap (λ (z : RequesterSide). entries.Wrote (taken_between z.state c.of-after.result.value.state)) c.of-before.ensures ∙ ap (λ (z : RequesterSide). entries.Wrote (taken_between c.value-with_sink.result.now.requester.state z.state)) c.of-after.ensures in
    ready_on g.O.LinkSink.link g.O.Sink.taken g.O.Sink.faults g.C.CallRule.allows c.args.turn.now c.append_wrote.new.turn w e r (c.append_wrote.ensures.held w (c.requires.ready.has.0, written _ _ c.drain-drained.new.self c.value-with_sink.ensures.value, c.requires.ready.has.2))
    (subst (λ (e : Entry). Steps (pass_of c.args.turn.now) (pass_of c.append_wrote.new.turn) e) same c.append_wrote.ensures.step)
    (λ k is. absurd (none_closed k is)) (c.in-Wrote.ensures.drained seen st)

pub returns-in-Wrote-clause-wrote : goal.returns-in-Wrote-clause-wrote
returns-in-Wrote-clause-wrote g c =
    let e : Entry = entries.Wrote (taken_between c.value-with_sink.result.now.requester.state c.drain-drained.new.self.requester.state) in
    let same : entries.Wrote (taken_between c.of-before.result.value.state c.of-after.result.value.state) ≡ e =
    ap (λ (z : RequesterSide). entries.Wrote (taken_between z.state c.of-after.result.value.state)) c.of-before.ensures ∙ ap (λ (z : RequesterSide). entries.Wrote (taken_between c.value-with_sink.result.now.requester.state z.state)) c.of-after.ensures in
    let p = pass_of c.args.turn.now in let q = pass_of c.append_wrote.new.turn in
    let step = subst (λ (e : Entry). Steps p q e) same c.append_wrote.ensures.step in
    record { es = e ∷ []; are = tt; seen = ap (λ (v : View Entry). v.seen) step; adds = steps p q e step }

pub returns-clause-ready : goal.returns-clause-ready
returns-clause-ready g c =
    let r = c.requires.ready in let w = c.drain-drained.new.self in let f = c.value-with_sink.result.now in let seen = seen_by (pass_of c.args.turn.now) in
    let st : Stands g.O.LinkSink.link g.O.Sink.taken g.O.Sink.faults g.C.CallRule.allows f seen = subst (λ (z : RequesterWithSink g.row.O.Denot g.row.C.Denot). Stands g.O.LinkSink.link g.O.Sink.taken g.O.Sink.faults g.C.CallRule.allows z seen) (same_value _ r.value f r.has.1 c.value-with_sink.ensures.value) r.stands in
    let e : Entry = entries.Wrote (taken_between c.value-with_sink.result.now.requester.state c.drain-drained.new.self.requester.state) in
    let same : entries.Wrote (taken_between c.of-before.result.value.state c.of-after.result.value.state) ≡ e =
    ap (λ (z : RequesterSide). entries.Wrote (taken_between z.state c.of-after.result.value.state)) c.of-before.ensures ∙ ap (λ (z : RequesterSide). entries.Wrote (taken_between c.value-with_sink.result.now.requester.state z.state)) c.of-after.ensures in
    ready_two g.O.LinkSink.link g.O.Sink.taken g.O.Sink.faults g.C.CallRule.allows c.args.turn.now c.append_wrote-in-WriteFailed.new.turn c.append_write_failed.new.turn w e entries.WriteFailed r (c.append_write_failed.ensures.held w (c.append_wrote-in-WriteFailed.ensures.held w (c.requires.ready.has.0, written _ _ c.drain-drained.new.self c.value-with_sink.ensures.value, c.requires.ready.has.2)))
    (subst (λ (e : Entry). Steps (pass_of c.args.turn.now) (pass_of c.append_wrote-in-WriteFailed.new.turn) e) same c.append_wrote-in-WriteFailed.ensures.step) c.append_write_failed.ensures.step refl refl (c.in-WriteFailed.ensures.drained seen st)

pub returns-clause-wrote : goal.returns-clause-wrote
returns-clause-wrote g c =
    let e : Entry = entries.Wrote (taken_between c.value-with_sink.result.now.requester.state c.drain-drained.new.self.requester.state) in
    let same : entries.Wrote (taken_between c.of-before.result.value.state c.of-after.result.value.state) ≡ e =
    ap (λ (z : RequesterSide). entries.Wrote (taken_between z.state c.of-after.result.value.state)) c.of-before.ensures ∙ ap (λ (z : RequesterSide). entries.Wrote (taken_between c.value-with_sink.result.now.requester.state z.state)) c.of-after.ensures in
    let p = pass_of c.args.turn.now in let q = pass_of c.append_wrote-in-WriteFailed.new.turn in let s = pass_of c.append_write_failed.new.turn in
    let step = subst (λ (e : Entry). Steps p q e) same c.append_wrote-in-WriteFailed.ensures.step in
    record {
      es = e ∷ entries.WriteFailed ∷ [];
      are = tt;
      seen = ap (λ (v : View Entry). v.seen) c.append_write_failed.ensures.step ∙ (ap (λ (l : List Entry). l ++ entries.WriteFailed ∷ []) (ap (λ (v : View Entry). v.seen) step) ∙ append_assoc (seen_by p) (e ∷ []) (entries.WriteFailed ∷ []));
      adds = adds_both p q s (e ∷ []) (entries.WriteFailed ∷ []) (steps p q e step) (steps q s entries.WriteFailed c.append_write_failed.ensures.step);
    }

pub returns-in-Nothing-clause-flushed : goal.returns-in-Nothing-clause-flushed
returns-in-Nothing-clause-flushed g c = let w = c.drain-drained.new.self in
    λ y has. subst (λ (z : RequesterWithSink g.row.O.Denot g.row.C.Denot). IsFlushed z) (same_value _ w y (written _ _ w c.value-with_sink.ensures.value) has.1) c.drain-drained.ensures.flushed

pub returns-in-Wrote-clause-flushed : goal.returns-in-Wrote-clause-flushed
returns-in-Wrote-clause-flushed g c = let w = c.drain-drained.new.self in
    let held = c.append_wrote.ensures.held w (c.requires.ready.has.0, written _ _ w c.value-with_sink.ensures.value, c.requires.ready.has.2) in
    λ y has. subst (λ (z : RequesterWithSink g.row.O.Denot g.row.C.Denot). IsFlushed z) (same_value _ w y held.1 has.1) c.drain-drained.ensures.flushed

pub returns-clause-flushed : goal.returns-clause-flushed
returns-clause-flushed g c = let w = c.drain-drained.new.self in
    let held = c.append_write_failed.ensures.held w (c.append_wrote-in-WriteFailed.ensures.held w (c.requires.ready.has.0, written _ _ w c.value-with_sink.ensures.value, c.requires.ready.has.2)) in
    λ y has. subst (λ (z : RequesterWithSink g.row.O.Denot g.row.C.Denot). IsFlushed z) (same_value _ w y held.1 has.1) c.drain-drained.ensures.flushed
