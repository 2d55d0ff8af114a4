use Rattle.std.proofs.Common.{refl}
use Rattle.nr_shared.proofs.Opened.{opens}
use Rattle.nr_shared.proofs.requester_with_sink.RequesterWithSink.of_parts.Goals as goal

pub returns : goal.returns
returns g c = λ history o. opens g.O.LinkSink.link g.O.Sink.taken g.O.Sink.faults g.C.CallRule.allows _ c.args.sink c.args.tries history o refl refl refl refl refl refl refl c.facts.ensures.fresh c.facts.ensures.xid
