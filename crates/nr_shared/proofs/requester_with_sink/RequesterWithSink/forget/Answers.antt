use Rattle.std.proofs.Common.{refl, ap, is_some, Option}
use Rattle.nr_reduce.specs.declared.call.Call.{Call}
use Rattle.nr_shared.proofs.Steps.{forgets}
use Rattle.nr_shared.proofs.requester_with_sink.RequesterWithSink.forget.Goals as goal

pub forget-requires : goal.forget-requires
forget-requires g c = let (history, k, call, (st, (asked, unclosed))) = c.requires.has_call in
    record { «open» = ap (λ (o : Option Call). is_some o) (st.calls c.args.ticket k call asked unclosed).1 }

pub returns : goal.returns
returns g c = let t = c.forget.ensures in record {
  forgotten = λ history k call st asked unclosed.
      forgets g.O.LinkSink.link g.O.Sink.taken g.O.Sink.faults g.C.CallRule.allows c.args.self.now _ c.args.ticket k call history (record { sink = refl; tries = refl; rejoined = refl; failed = refl; stopped = refl }) refl refl t.state t.keeps t.stops t.tickets asked unclosed st;
}
