use Rattle.std.proofs.Common.{subst}
use Rattle.nr_turnstile.specs.Passes.{seen_by}
use Rattle.nr_turnstile.specs.Turns.{pass_of}
use Rattle.nr_turnstile.proofs.Held.{same_value, written}
use Rattle.nr_shared.specs.declared.requester_with_sink.RequesterWithSink.{RequesterWithSink}
use Rattle.nr_shared.specs.Standing.{Stands}
use Rattle.nr_shared.proofs.caller_turns.credit_state_under.Goals as goal

pub returns-in-Some-clause-ready : goal.returns-in-Some-clause-ready
returns-in-Some-clause-ready g c =
    let r = c.requires.ready in let f = c.value-with_sink.result.now in let e = c.value-with_sink.ensures.value in
    record {
      value = f;
      has = (r.has.0, written _ _ f e, r.has.2);
      stands = subst (λ (z : RequesterWithSink g.row.O.Denot g.row.C.Denot). Stands g.O.LinkSink.link g.O.Sink.taken g.O.Sink.faults g.C.CallRule.allows z (seen_by (pass_of c.args.turn.now))) (same_value _ r.value f r.has.1 e) r.stands;
      lies = r.lies;
      earlier = r.earlier;
    }

pub returns-then-has_credit-clause-ready : goal.returns-then-has_credit-clause-ready
returns-then-has_credit-clause-ready g c =
    let r = c.requires.ready in let f = c.value-with_sink.result.now in let e = c.value-with_sink.ensures.value in
    record {
      value = f;
      has = (r.has.0, written _ _ f e, r.has.2);
      stands = subst (λ (z : RequesterWithSink g.row.O.Denot g.row.C.Denot). Stands g.O.LinkSink.link g.O.Sink.taken g.O.Sink.faults g.C.CallRule.allows z (seen_by (pass_of c.args.turn.now))) (same_value _ r.value f r.has.1 e) r.stands;
      lies = r.lies;
      earlier = r.earlier;
    }

pub returns-else-has_credit-clause-ready : goal.returns-else-has_credit-clause-ready
returns-else-has_credit-clause-ready g c =
    let r = c.requires.ready in let f = c.value-with_sink.result.now in let e = c.value-with_sink.ensures.value in
    record {
      value = f;
      has = (r.has.0, written _ _ f e, r.has.2);
      stands = subst (λ (z : RequesterWithSink g.row.O.Denot g.row.C.Denot). Stands g.O.LinkSink.link g.O.Sink.taken g.O.Sink.faults g.C.CallRule.allows z (seen_by (pass_of c.args.turn.now))) (same_value _ r.value f r.has.1 e) r.stands;
      lies = r.lies;
      earlier = r.earlier;
    }
