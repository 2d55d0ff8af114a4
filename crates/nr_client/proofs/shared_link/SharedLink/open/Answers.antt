use Rattle.nr_requester.specs.AfterCalls.{numbered_terms}
use Rattle.nr_client.proofs.NumberedLinks.{has_memory, has_number, not_opened, opened_rests}
use Rattle.nr_client.proofs.shared_link.SharedLink.open.Goals as goal

pub new_numbered-requires-clause-number : goal.new_numbered-requires-clause-number
new_numbered-requires-clause-number g c = has_number c.in-Ok.requester c.args.client c.args.units c.args.invalidates c.in-Ok.ensures.state c.requires.client

pub new_numbered-requires-clause-memory : goal.new_numbered-requires-clause-memory
new_numbered-requires-clause-memory g c = has_memory c.in-Ok.requester c.args.client c.args.units c.args.invalidates c.in-Ok.ensures.state

pub invariant_of-result : goal.invariant_of-result
invariant_of-result g c =
    opened_rests g.I.LinkSource.link g.I.Source.left g.I.Source.given g.I.Source.faults g.O.LinkSink.link g.O.Sink.taken g.O.Sink.faults g.D.Dialer.asked g.D.Dialer.ended g.D.Dialer.faults
    c.in-Ok-new_numbered.shared c.in-Ok-new_numbered.pass c.in-Ok.requester c.args.dialer c.args.addr.now c.args.tries c.in-Ok-new_numbered.ensures.rests c.in-Ok-new_numbered.ensures.opened

pub returns-in-Err-Memory-clause-err : goal.returns-in-Err-Memory-clause-err
returns-in-Err-Memory-clause-err g c =
    not_opened g.I.LinkSource.link g.I.Source.left g.I.Source.given g.I.Source.faults g.O.LinkSink.link g.O.Sink.taken g.O.Sink.faults g.D.Dialer.asked g.D.Dialer.ended g.D.Dialer.faults
    c.in-Ok.requester c.in-Err-Memory.requester (numbered_terms c.args.client c.args.units c.args.invalidates) c.args.dialer c.in-Err-Memory.dialer c.args.addr.now c.args.tries c.in-Err-Memory.field-0
    (record { state = c.in-Ok.ensures.state; stands = c.in-Ok.ensures.stands }) c.in-Err-Memory.field-0-is c.in-Err-Memory.ensures.err
