use Rattle.std.proofs.Common.{None, arith, refl}
use Rattle.std.proofs.lemmas.Result.{IfOk-weaker}
use Rattle.nr_link.specs.Agreement.{default_terms}
use Rattle.nr_gateway.specs.Gateways.{gate_credits}
use Rattle.nr_gateway.proofs.Openings.{has_memory}
use Rattle.nr_gateway.proofs.remote.share_opened.Goals as goal

pub share_remote-requires-clause-has_memory : goal.share_remote-requires-clause-has_memory
share_remote-requires-clause-has_memory g c = has_memory c.in-Ok.requester 1 1 gate_credits default_terms _ c.in-Ok.ensures.state

pub share_remote-requires-clause-fed : goal.share_remote-requires-clause-fed
share_remote-requires-clause-fed g c = let none = c.in-Ok.ensures.fed in omega (arith, none)

pub returns-clause-opens : goal.returns-clause-opens
returns-clause-opens g c =
    IfOk-weaker c.share_remote.result _ _
    (λ t seen. record {
      initial = record { requester = c.in-Ok.requester; sink = record { link = g.K.LinkSink.link c.args.sink; faults = g.K.Sink.faults c.args.sink; taken = g.K.Sink.taken c.args.sink }; tries = None };
      history_is = seen.0;
      own = seen.1;
      stands = c.in-Ok.ensures.stands;
      nothing_taken = c.requires.nothing_taken;
      no_fault = c.requires.no_sink_fault;
      once = refl;
    })
    c.share_remote.ensures.seen
