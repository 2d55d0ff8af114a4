use Rattle.std.proofs.Common.{None}
use Rattle.nr_outside.specs.Faults.{last_count}
use Rattle.nr_shared.proofs.Closed.{halves_back, never_none}
use Rattle.nr_shared.proofs.Opened.{begun_once}
use Rattle.nr_shared.proofs.opening.SharedRequester+I+O+C+NoDialer+I+O.new.Goals as goal

pub share-requires-clause-stands : goal.share-requires-clause-stands
share-requires-clause-stands g c = c.of_parts-with_sink.ensures g.H.OpeningHistory.history c.requires.initial

pub share-requires-clause-begun : goal.share-requires-clause-begun
share-requires-clause-begun g c = begun_once g.I.LinkSource.link g.O.LinkSink.link g.O.Sink.taken g.O.Sink.faults _ c.args.requester c.args.sink g.H.OpeningHistory.history c.args.source _ c.requires.initial

pub returns-in-Ok-clause-source : goal.returns-in-Ok-clause-source
returns-in-Ok-clause-source g c = let (b, (seen, (source, (dialer, (addr, read))))) = c.in-Ok.ensures.source in (b, (seen, (source, read)))

pub returns-in-Some-clause-err : goal.returns-in-Some-clause-err
returns-in-Some-clause-err g c = halves_back g.I.LinkSource.link g.I.Source.left g.I.Source.given g.I.Source.faults g.O.LinkSink.link g.O.Sink.taken g.O.Sink.faults (λ _. None) (λ _. None) (λ _. last_count) g.C.CallRule.allows
    g.H.OpeningHistory.history c.args.source _ _ c.args.read _ _ _ _ _ c.in-Some.is c.new-addr.ensures.bytes c.in-Err.ensures.err

pub unreachable-requires : goal.unreachable-requires
unreachable-requires g c = never_none g.I.LinkSource.link g.I.Source.left g.I.Source.given g.I.Source.faults g.O.LinkSink.link g.O.Sink.taken g.O.Sink.faults (λ _. None) (λ _. None) (λ _. last_count) g.C.CallRule.allows
    c.args.requester c.args.sink g.H.OpeningHistory.history c.args.source _ _ c.args.read _ _ _ c.requires.initial c.in-None.is c.in-Err.ensures.err
