use Rattle.nr_client.specs.Transfers.{link_bytes}
use Rattle.nr_client.proofs.Answering.{refused, submits}
use Rattle.nr_client.proofs.Refusals.{link_cause}
use Rattle.nr_client.proofs.Tickets.{keeps_itself, keeps_then, opens_after}
use Rattle.nr_client.proofs.calling.submit_over.Goals as goal

pub returns-in-Err-clause-cause : goal.returns-in-Err-clause-cause
returns-in-Err-clause-cause g c = link_cause c.wait_for_credit.new.requester c.args.call c.in-Err.end (g.I.Source.left c.wait_for_credit.new.source) c.wait_for_credit.new.read c.in-Err.ensures.cause

pub returns-in-Err-submit-clause-err : goal.returns-in-Err-submit-clause-err
returns-in-Err-submit-clause-err g c =
    refused c.args.call c.in-Err-submit.end
    (link_bytes (g.I.Source.left c.args.source.now) (g.I.Source.given c.args.source.now) (g.O.Sink.taken c.args.sink.now) c.args.read.now)
    (link_bytes (g.I.Source.left c.wait_for_credit.new.source) (g.I.Source.given c.wait_for_credit.new.source) (g.O.Sink.taken c.wait_for_credit.new.sink) c.wait_for_credit.new.read)
    c.args.requester.now c.wait_for_credit.new.requester c.submit.new.requester c.in-Err-submit.ensures.err c.in-Ok.ensures.drained c.wait_for_credit.ensures.at_once c.in-Ok.ensures.ok

pub returns-in-Err-submit-clause-keeps : goal.returns-in-Err-submit-clause-keeps
returns-in-Err-submit-clause-keeps g c =
    keeps_then c.args.requester.now.state c.wait_for_credit.new.requester.state c.submit.new.requester.state c.wait_for_credit.ensures.tickets
    (keeps_itself c.wait_for_credit.new.requester c.submit.new.requester c.in-Err-submit.ensures.err)

pub returns-in-Ok-submit-clause-ok : goal.returns-in-Ok-submit-clause-ok
returns-in-Ok-submit-clause-ok g c =
    submits c.args.call c.in-Ok-submit.ticket
    (link_bytes (g.I.Source.left c.args.source.now) (g.I.Source.given c.args.source.now) (g.O.Sink.taken c.args.sink.now) c.args.read.now)
    (link_bytes (g.I.Source.left c.wait_for_credit.new.source) (g.I.Source.given c.wait_for_credit.new.source) (g.O.Sink.taken c.wait_for_credit.new.sink) c.wait_for_credit.new.read)
    c.args.requester.now c.wait_for_credit.new.requester c.submit.new.requester c.requires.writable c.in-Ok.ensures.started c.wait_for_credit.ensures.at_once c.in-Ok.ensures.ok c.in-Ok-submit.ensures.sent

pub returns-in-Ok-submit-clause-opens : goal.returns-in-Ok-submit-clause-opens
returns-in-Ok-submit-clause-opens g c =
    opens_after c.in-Ok-submit.ticket c.args.call c.args.requester.now.state c.wait_for_credit.new.requester.state c.submit.new.requester.state c.wait_for_credit.ensures.tickets c.in-Ok-submit.ensures.tickets
