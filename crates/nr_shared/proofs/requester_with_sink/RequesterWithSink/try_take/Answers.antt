use Rattle.std.proofs.Common.{refl, sym, ap, is_some, Option, ◌∙◌, unwrap_or}
use Rattle.nr_reduce.specs.declared.call.Call.{Call}
use Rattle.nr_shared.proofs.Ends.{ended_is}
use Rattle.nr_shared.proofs.Output.{have_placed}
use Rattle.nr_shared.proofs.Steps.{hands_over, lacks_answer}
use Rattle.nr_shared.proofs.Taking.{lost_with, loses, still_awaited, stands_same}
use Rattle.nr_shared.proofs.requester_with_sink.RequesterWithSink.try_take.Goals as goal

pub try_take-requires : goal.try_take-requires
try_take-requires g c = let (history, k, call, (st, (asked, unclosed))) = c.requires.has_call in
    record { «open» = ap (λ (o : Option Call). is_some o) (st.calls c.args.ticket k call asked unclosed).1 }

pub returns-in-NotYet-clause-taken : goal.returns-in-NotYet-clause-taken
returns-in-NotYet-clause-taken g c = let t = c.in-NotYet.ensures.taken in λ history k call st asked unclosed. (
  stands_same g.O.LinkSink.link g.O.Sink.taken g.O.Sink.faults g.C.CallRule.allows c.args.self.now _ history (record { sink = refl; tries = refl; rejoined = refl; failed = refl; stopped = refl }) refl refl t.1.1.1 refl st,
  (t.0, still_awaited g.O.LinkSink.link g.O.Sink.taken g.O.Sink.faults g.C.CallRule.allows c.args.self.now history c.args.ticket k call t.1.0 t.1.1.0 asked unclosed st),
)

pub returns-in-Done-clause-taken : goal.returns-in-Done-clause-taken
returns-in-Done-clause-taken g c = let t = c.in-Done.ensures in λ history k call st asked unclosed. (
  hands_over g.O.LinkSink.link g.O.Sink.taken g.O.Sink.faults g.C.CallRule.allows c.args.self.now _ c.args.ticket k call _ history (record { sink = refl; tries = refl; rejoined = refl; failed = refl; stopped = refl }) refl refl t.taken.0 t.taken.1.1 t.keeps t.stops t.tickets asked unclosed st,
  (
    ap (λ (o : Option Call). unwrap_or o call) (sym t.taken.1.0 ∙ (st.calls c.args.ticket k call asked unclosed).1),
    have_placed g.O.LinkSink.link g.O.Sink.taken g.O.Sink.faults g.C.CallRule.allows c.args.self.now history c.args.ticket _ t.taken.0 st,
  ),
)

pub returns-in-Failed-clause-taken : goal.returns-in-Failed-clause-taken
returns-in-Failed-clause-taken g c = let t = c.in-Failed.ensures in λ history k call st asked unclosed. (
  loses g.O.LinkSink.link g.O.Sink.taken g.O.Sink.faults g.C.CallRule.allows c.args.self.now _ c.args.ticket k call c.in-Failed.buffers c.in-Failed.end history
      (record { same = record { sink = refl; tries = refl; rejoined = refl; failed = refl; stopped = refl }; count = refl; pending = refl; none = t.taken.0; are = t.taken.1.1.1.0; after = t.taken.1.1.1.1; on = t.keeps; stops = t.stops; shuts = t.tickets; fed = t.fed }) t.taken.1.0 asked unclosed st,
  (
    ap (λ (o : Option Call). unwrap_or o call) (sym t.taken.1.1.0 ∙ (st.calls c.args.ticket k call asked unclosed).1),
    (
      ended_is g.O.LinkSink.link g.O.Sink.taken g.O.Sink.faults g.C.CallRule.allows c.args.self.now history c.in-Failed.end st t.taken.1.0,
      lost_with g.O.LinkSink.link g.O.Sink.taken g.O.Sink.faults g.C.CallRule.allows c.args.self.now history c.args.ticket k call c.in-Failed.buffers t.taken.0 t.taken.1.1.1.0 asked unclosed st,
    ),
  ),
)

pub returns-in-NotYet-clause-there : goal.returns-in-NotYet-clause-there
returns-in-NotYet-clause-there g c = λ there. lacks_answer c.args.ticket c.args.self.now.requester.state there c.in-NotYet.ensures.taken.1.0

pub returns-in-Failed-clause-there : goal.returns-in-Failed-clause-there
returns-in-Failed-clause-there g c = λ there. lacks_answer c.args.ticket c.args.self.now.requester.state there c.in-Failed.ensures.taken.0

pub returns-in-Done-clause-there : goal.returns-in-Done-clause-there
returns-in-Done-clause-there g c = λ there. tt
