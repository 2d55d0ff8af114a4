use Rattle.std.proofs.Common.{is_some, ap}
use Rattle.nr_client.specs.Transfers.{link_bytes}
use Rattle.nr_client.proofs.Answering.{answers, gives_up, not_sent}
use Rattle.nr_client.proofs.Refusals.{link_cause}
use Rattle.nr_client.proofs.Tickets.{opened_and_closed}
use Rattle.nr_client.proofs.Turns.{same_source, same_sink}
use Rattle.nr_client.proofs.calling.call_over.Goals as goal

pub returns-in-Err-clause-err : goal.returns-in-Err-clause-err
returns-in-Err-clause-err g c =
    not_sent c.args.call c.in-Err.end
    (link_bytes (g.I.Source.left c.args.source.now) (g.I.Source.given c.args.source.now) (g.O.Sink.taken c.args.sink.now) c.args.read.now)
    (link_bytes (g.I.Source.left c.submit_over.new.source) (g.I.Source.given c.submit_over.new.source) (g.O.Sink.taken c.submit_over.new.sink) c.submit_over.new.read)
    c.args.requester.now c.submit_over.new.requester c.in-Err.ensures.err

pub complete-requires-clause-open : goal.complete-requires-clause-open
complete-requires-clause-open g c = ap is_some c.in-Ok.ensures.opens.own

pub returns-in-Ok-complete-clause-ok : goal.returns-in-Ok-complete-clause-ok
returns-in-Ok-complete-clause-ok g c =
    answers c.args.call c.in-Ok.ticket c.in-Ok-complete.outcome
    (link_bytes (g.I.Source.left c.args.source.now) (g.I.Source.given c.args.source.now) (g.O.Sink.taken c.args.sink.now) c.args.read.now)
    (link_bytes (g.I.Source.left c.submit_over.new.source) (g.I.Source.given c.submit_over.new.source) (g.O.Sink.taken c.submit_over.new.sink) c.submit_over.new.read)
    (link_bytes (g.I.Source.left c.complete.new.source) (g.I.Source.given c.complete.new.source) (g.O.Sink.taken c.complete.new.sink) c.complete.new.read)
    c.args.requester.now c.submit_over.new.requester c.complete.new.requester c.in-Ok.ensures.ok c.in-Ok-complete.ensures.ok

pub returns-in-Err-complete-clause-err : goal.returns-in-Err-complete-clause-err
returns-in-Err-complete-clause-err g c =
    gives_up c.args.call c.in-Ok.ticket c.in-Err-complete.end
    (link_bytes (g.I.Source.left c.args.source.now) (g.I.Source.given c.args.source.now) (g.O.Sink.taken c.args.sink.now) c.args.read.now)
    (link_bytes (g.I.Source.left c.submit_over.new.source) (g.I.Source.given c.submit_over.new.source) (g.O.Sink.taken c.submit_over.new.sink) c.submit_over.new.read)
    (link_bytes (g.I.Source.left c.complete.new.source) (g.I.Source.given c.complete.new.source) (g.O.Sink.taken c.complete.new.sink) c.complete.new.read)
    c.args.requester.now c.submit_over.new.requester c.complete.new.requester c.in-Ok.ensures.ok c.in-Err-complete.ensures.err c.in-Err-complete.ensures.cause

pub returns-in-Err-complete-clause-cause : goal.returns-in-Err-complete-clause-cause
returns-in-Err-complete-clause-cause g c = link_cause c.complete.new.requester c.args.call c.in-Err-complete.end (g.I.Source.left c.complete.new.source) c.complete.new.read c.in-Err-complete.ensures.cause

pub returns-in-Err-complete-clause-source_count : goal.returns-in-Err-complete-clause-source_count
returns-in-Err-complete-clause-source_count g c =
    same_source c.in-Err-complete.end (g.I.Source.faults c.args.source.now) (g.I.Source.faults c.submit_over.new.source) (g.I.Source.faults c.complete.new.source) c.in-Ok.ensures.source_count c.in-Err-complete.ensures.source_count

pub returns-in-Err-complete-clause-sink_count : goal.returns-in-Err-complete-clause-sink_count
returns-in-Err-complete-clause-sink_count g c =
    same_sink c.in-Err-complete.end (g.O.Sink.faults c.args.sink.now) (g.O.Sink.faults c.submit_over.new.sink) (g.O.Sink.faults c.complete.new.sink) c.in-Ok.ensures.sink_count c.in-Err-complete.ensures.sink_count

pub returns-in-Ok-complete-clause-tickets : goal.returns-in-Ok-complete-clause-tickets
returns-in-Ok-complete-clause-tickets g c =
    opened_and_closed c.in-Ok.ticket c.args.call c.args.requester.now.state c.submit_over.new.requester.state c.complete.new.requester.state c.in-Ok.ensures.opens c.complete.ensures.tickets

pub returns-in-Err-complete-clause-tickets : goal.returns-in-Err-complete-clause-tickets
returns-in-Err-complete-clause-tickets g c =
    opened_and_closed c.in-Ok.ticket c.args.call c.args.requester.now.state c.submit_over.new.requester.state c.complete.new.requester.state c.in-Ok.ensures.opens c.complete.ensures.tickets
