use Rattle.std.proofs.Common.{refl}
use Rattle.nr_shared.proofs.Steps.{submits}
use Rattle.nr_shared.proofs.requester_with_sink.RequesterWithSink.submit.Goals as goal

pub returns-in-Ok-clause-accepted : goal.returns-in-Ok-clause-accepted
returns-in-Ok-clause-accepted g c = let s = c.in-Ok.ensures in
    submits g.O.LinkSink.link g.O.Sink.taken g.O.Sink.faults g.C.CallRule.allows c.args.self.now _ c.args.call c.args.form c.in-Ok.ticket (record { sink = refl; tries = refl; rejoined = refl; failed = refl; stopped = refl }) refl refl c.requires.writable s.accepted s.sent s.keeps s.tickets s.fed c.requires.allowed
