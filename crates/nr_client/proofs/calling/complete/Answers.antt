use Rattle.std.proofs.Common.{is_some, ap, ◌∙◌}
use Rattle.nr_client.specs.Transfers.{link_bytes}
use Rattle.nr_client.proofs.Answering.{completes, forgets, still_caused}
use Rattle.nr_client.proofs.Tickets.{closes_after}
use Rattle.nr_client.proofs.calling.complete.Goals as goal

pub take_outcome-requires-clause-open : goal.take_outcome-requires-clause-open
take_outcome-requires-clause-open g c = ap is_some (c.wait_for_answer.ensures.tickets c.args.ticket) ∙ c.requires.open

pub returns-in-Ok-clause-ok : goal.returns-in-Ok-clause-ok
returns-in-Ok-clause-ok g c =
    completes c.args.ticket c.take_outcome.result
    (link_bytes (g.I.Source.left c.args.source.now) (g.I.Source.given c.args.source.now) (g.O.Sink.taken c.args.sink.now) c.args.read.now)
    (link_bytes (g.I.Source.left c.wait_for_answer.new.source) (g.I.Source.given c.wait_for_answer.new.source) (g.O.Sink.taken c.wait_for_answer.new.sink) c.wait_for_answer.new.read)
    c.args.requester.now c.wait_for_answer.new.requester c.take_outcome.new.requester c.in-Ok.ensures.ok c.take_outcome.ensures.completes

pub returns-in-Err-clause-err : goal.returns-in-Err-clause-err
returns-in-Err-clause-err g c =
    forgets c.args.ticket c.in-Err.end
    (link_bytes (g.I.Source.left c.args.source.now) (g.I.Source.given c.args.source.now) (g.O.Sink.taken c.args.sink.now) c.args.read.now)
    (link_bytes (g.I.Source.left c.wait_for_answer.new.source) (g.I.Source.given c.wait_for_answer.new.source) (g.O.Sink.taken c.wait_for_answer.new.sink) c.wait_for_answer.new.read)
    c.args.requester.now c.wait_for_answer.new.requester c.forget.new.self c.in-Err.ensures.err c.in-Err.ensures.unanswered c.forget.ensures.stands c.forget.ensures.out
    (ap is_some (c.wait_for_answer.ensures.tickets c.args.ticket) ∙ c.requires.open)

pub returns-in-Err-clause-cause : goal.returns-in-Err-clause-cause
returns-in-Err-clause-cause g c =
    still_caused c.args.ticket c.in-Err.end (g.I.Source.left c.wait_for_answer.new.source) c.wait_for_answer.new.read c.wait_for_answer.new.requester c.forget.new.self c.forget.ensures.state c.in-Err.ensures.cause

pub returns-in-Ok-clause-tickets : goal.returns-in-Ok-clause-tickets
returns-in-Ok-clause-tickets g c =
    closes_after c.args.ticket c.args.requester.now.state c.wait_for_answer.new.requester.state c.take_outcome.new.requester.state c.wait_for_answer.ensures.tickets c.take_outcome.ensures.tickets

pub returns-in-Err-clause-tickets : goal.returns-in-Err-clause-tickets
returns-in-Err-clause-tickets g c =
    closes_after c.args.ticket c.args.requester.now.state c.wait_for_answer.new.requester.state c.forget.new.self.state c.wait_for_answer.ensures.tickets c.forget.ensures.tickets
