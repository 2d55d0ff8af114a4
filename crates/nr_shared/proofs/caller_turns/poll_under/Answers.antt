use Rattle.std.proofs.Common.{is_some, List, [], ◌∷◌, ◌++◌, refl, sym, ap, subst, ◌∙◌}
use Rattle.nr_turnstile.specs.Rule.{IsOpen}
use Rattle.nr_turnstile.specs.Passes.{mine_of, seen_by}
use Rattle.nr_turnstile.specs.Turns.{pass_of}
use Rattle.nr_turnstile.proofs.Held.{same_value, written}
use Rattle.nr_requester.specs.OpenCalls.{found_answer}
use Rattle.nr_shared.specs.declared.requester_with_sink.RequesterWithSink.{RequesterWithSink}
use Rattle.nr_shared.specs.declared.entry.Entry.{Entry}
use Rattle.nr_shared.specs.declared.entry.Entry.TheVariants as entries
use Rattle.nr_shared.specs.Callers.{Writes}
use Rattle.nr_shared.specs.Ending.{LinkEnded}
use Rattle.nr_shared.specs.HandedBack.{IsUnanswered}
use Rattle.nr_shared.specs.Histories.{IsCallAt, closes_of, place_or_none}
use Rattle.nr_shared.specs.Standing.{Stands}
use Rattle.nr_shared.proofs.Adding.{adds_both, adds_none}
use Rattle.nr_shared.proofs.Alone.{open_writes}
use Rattle.nr_shared.proofs.Asking.{asked_on}
use Rattle.nr_shared.proofs.GivingUp.{still_ended, still_unanswered}
use Rattle.nr_shared.proofs.Lists.{begins_self}
use Rattle.nr_shared.proofs.Output.{turn_written}
use Rattle.nr_shared.proofs.Polling.{still_open_call}
use Rattle.nr_shared.proofs.Taking.{none_has_come}
use Rattle.nr_shared.proofs.caller_turns.poll_under.Goals as goal

pub try_take_under-requires-clause-ready : goal.try_take_under-requires-clause-ready
try_take_under-requires-clause-ready g c =
    let r = c.requires.ready in let f = c.value-with_sink.result.now in let e = c.value-with_sink.ensures.value in
    record {
      value = f;
      has = (r.has.0, written _ _ f e, r.has.2);
      stands = subst (λ (z : RequesterWithSink g.row.O.Denot g.row.C.Denot). Stands g.O.LinkSink.link g.O.Sink.taken g.O.Sink.faults g.C.CallRule.allows z (seen_by (pass_of c.args.turn.now))) (same_value _ r.value f r.has.1 e) r.stands;
      lies = r.lies;
      earlier = r.earlier;
    }

pub drain_under-requires : goal.drain_under-requires
drain_under-requires g c =
    let r = c.requires.ready in let f = c.value-with_sink.result.now in let e = c.value-with_sink.ensures.value in
    record {
      ready = record {
        value = f;
        has = (r.has.0, written _ _ f e, r.has.2);
        stands = subst (λ (z : RequesterWithSink g.row.O.Denot g.row.C.Denot). Stands g.O.LinkSink.link g.O.Sink.taken g.O.Sink.faults g.C.CallRule.allows z (seen_by (pass_of c.args.turn.now))) (same_value _ r.value f r.has.1 e) r.stands;
        lies = r.lies;
        earlier = r.earlier;
      };
    }

pub forget_under-requires-clause-has_call : goal.forget_under-requires-clause-has_call
forget_under-requires-clause-has_call g c = let p = pass_of c.args.turn.now in let q = pass_of c.drain_under.new.turn in let d = c.drain_under.ensures.wrote in
    let w : Writes p q = record { es = d.es; are = d.are; seen = d.seen; adds = record { seen = d.adds.seen; places = d.adds.places; mine = d.adds.mine; rising = d.adds.rising; at = d.adds.at; new = d.adds.new } } in
    still_open_call p q c.args.ticket w.adds.seen (λ k o. open_writes p q k w o) c.drain_under.ensures.ready.lies c.requires.has_call

pub returns-in-None-clause-ready : goal.returns-in-None-clause-ready
returns-in-None-clause-ready g c =
    let r = c.requires.ready in let f = c.value-with_sink.result.now in let e = c.value-with_sink.ensures.value in
    record {
      value = f;
      has = (r.has.0, written _ _ f e, r.has.2);
      stands = subst (λ (z : RequesterWithSink g.row.O.Denot g.row.C.Denot). Stands g.O.LinkSink.link g.O.Sink.taken g.O.Sink.faults g.C.CallRule.allows z (seen_by (pass_of c.args.turn.now))) (same_value _ r.value f r.has.1 e) r.stands;
      lies = r.lies;
      earlier = r.earlier;
    }

pub returns-in-None-clause-polled : goal.returns-in-None-clause-polled
returns-in-None-clause-polled g c = let p = pass_of c.args.turn.now in (refl, (adds_none p _ (begins_self (seen_by p)) refl, λ k o. o))

pub returns-in-Some-clause-polled : goal.returns-in-Some-clause-polled
returns-in-Some-clause-polled g c = λ k call asked o.
    (let r = c.requires.ready in let f = c.value-with_sink.result.now in let p = pass_of c.args.turn.now in let q = pass_of c.drain_under.new.turn in let seen = seen_by p in
    let xid = c.args.ticket in let d = c.drain_under.ensures.wrote in
    let w : Writes p q = record { es = d.es; are = d.are; seen = d.seen; adds = record { seen = d.adds.seen; places = d.adds.places; mine = d.adds.mine; rising = d.adds.rising; at = d.adds.at; new = d.adds.new } } in
    let st : Stands g.O.LinkSink.link g.O.Sink.taken g.O.Sink.faults g.C.CallRule.allows f seen = subst (λ (z : RequesterWithSink g.row.O.Denot g.row.C.Denot). Stands g.O.LinkSink.link g.O.Sink.taken g.O.Sink.faults g.C.CallRule.allows z seen) (same_value _ r.value f r.has.1 c.value-with_sink.ensures.value) r.stands in
    let still : IsCallAt (seen_by q) xid k call = asked_on seen (seen_by q) xid k call w.adds.seen asked in
    let opened : IsOpen closes_of (seen_by q) (mine_of q) k = open_writes p q k w o in
    let t = c.forget_under.ensures.forgotten k call still opened in
    record {
      writes = w.es;
      are_writes = w.are;
      adds = adds_both p q (pass_of c.forget_under.new.turn) w.es (entries.Forget xid k ∷ []) w.adds t.adds;
      keeps = λ j differs oj. t.keeps j differs (open_writes p q j w oj);
      before = seen_by q;
      seen = c.forget_under.ensures.seen ∙ ap (λ n. seen_by q ++ entries.Forget xid (place_or_none n) ∷ []) (c.drain_under.ensures.ready.stands.calls xid k call still opened.1).0;
      ended = subst (λ (l : List Entry). LinkEnded c.in-Some.end l) (sym w.seen) (still_ended c.in-Some.end seen w.es st.initial st.is_initial w.are (c.in-Some.ensures.some seen st));
      unanswered = subst (λ (l : List Entry). IsUnanswered xid l) (sym w.seen) (still_unanswered xid seen w.es st.initial st.is_initial w.are
          (none_has_come g.O.LinkSink.link g.O.Sink.taken g.O.Sink.faults g.C.CallRule.allows f seen xid k call (sym c.has_outcome-there.ensures ∙ c.if-there.false) asked o.1 st));
      written = turn_written g.O.LinkSink.link g.O.Sink.taken g.O.Sink.faults g.C.CallRule.allows c.drain_under.new.turn c.drain_under.ensures.ready c.drain_under.ensures.flushed;
    })

pub returns-in-Done-clause-polled : goal.returns-in-Done-clause-polled
returns-in-Done-clause-polled g c = λ k call asked o.
    (let t = c.in-Done.ensures.taken k call asked o in
    record {
      own = t.own;
      adds = record { seen = t.adds.seen; places = t.adds.places; mine = t.adds.mine; rising = t.adds.rising; at = t.adds.at; new = t.adds.new };
      keeps = λ j differs oj. t.keeps j differs oj;
      before = t.before;
      seen = t.seen;
      buffers = t.buffers;
    })

pub unreachable-requires : goal.unreachable-requires
unreachable-requires g c = let f = c.value-with_sink.result.now in let e = c.value-with_sink.ensures.value in
    c.in-NotYet.ensures.there (λ y has. ap (λ (z : RequesterWithSink g.row.O.Denot g.row.C.Denot). is_some (found_answer c.args.ticket z.requester.state)) (same_value _ y f has.1 (written _ _ f e)) ∙ (sym c.has_outcome-there.ensures ∙ c.if-there.true))

pub unreachable-requires-in-Failed : goal.unreachable-requires-in-Failed
unreachable-requires-in-Failed g c = let f = c.value-with_sink.result.now in let e = c.value-with_sink.ensures.value in
    c.in-Failed.ensures.there (λ y has. ap (λ (z : RequesterWithSink g.row.O.Denot g.row.C.Denot). is_some (found_answer c.args.ticket z.requester.state)) (same_value _ y f has.1 (written _ _ f e)) ∙ (sym c.has_outcome-there.ensures ∙ c.if-there.true))
