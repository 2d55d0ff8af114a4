use Rattle.std.proofs.Common.{refl, sym, ap, is_some, Option, ◌∙◌, unwrap_or}
use Rattle.nr_reduce.specs.declared.call.Call.{Call}
use Rattle.nr_requester.specs.Buffers.{bytes_of_buffers}
use Rattle.nr_shared.proofs.Givings.{revokes}
use Rattle.nr_shared.proofs.requester_with_sink.RequesterWithSink.revoke.Goals as goal

pub revoke-given-requires : goal.revoke-given-requires
revoke-given-requires g c = let (history, k, call, (st, (asked, unclosed))) = c.requires.has_call in
    record { «open» = ap (λ (o : Option Call). is_some o) (st.calls c.args.ticket k call asked unclosed).1 }

pub returns : goal.returns
returns g c = let t = c.revoke-given.ensures in record {
  revoked = λ history k call st asked unclosed. (
    revokes g.O.LinkSink.link g.O.Sink.taken g.O.Sink.faults g.C.CallRule.allows c.args.self.now _ c.args.ticket k call _ history (record { sink = refl; tries = refl; rejoined = refl; failed = refl; stopped = refl }) refl refl (ap bytes_of_buffers t.buffers) t.state t.keeps t.stops t.tickets t.fed asked unclosed st,
    ap (λ (o : Option Call). unwrap_or o call) (sym t.call ∙ (st.calls c.args.ticket k call asked unclosed).1),
  );
}
