use Rattle.std.proofs.Common.{◌≡◌, false, is_some, arith, refl, ap, ◌∙◌}
use Rattle.nr_requester.specs.OpenCalls.{found_answer}
use Rattle.nr_client.proofs.Unanswered.{lacks_after, still_waits}
use Rattle.nr_client.specs.Transfers.{link_bytes}
use Rattle.nr_client.proofs.Turns.{turns_compose, no_turn, turn_to, same_source, same_sink}
use Rattle.nr_client.proofs.calling.wait_for_answer.Goals as goal

pub returns-in-Err-clause-err : goal.returns-in-Err-clause-err
returns-in-Err-clause-err g c =
    let (fits, tickets, sources, sinks, memory, goes) = c.loop-requester.invariant in
    turn_to c.in-Err.end (link_bytes (g.I.Source.left c.args.source.now) (g.I.Source.given c.args.source.now) (g.O.Sink.taken c.args.sink.now) c.args.read.now)
    (link_bytes (g.I.Source.left c.loop-requester.source) (g.I.Source.given c.loop-requester.source) (g.O.Sink.taken c.loop-requester.sink) c.loop-requester.read)
    (link_bytes (g.I.Source.left c.transfer.new.source) (g.I.Source.given c.transfer.new.source) (g.O.Sink.taken c.transfer.new.sink) c.transfer.new.read)
    c.args.requester.now c.loop-requester.requester c.transfer.new.requester goes c.in-Err.ensures.err

pub returns-in-Err-clause-source_count : goal.returns-in-Err-clause-source_count
returns-in-Err-clause-source_count g c =
    let (fits, tickets, sources, sinks, memory, goes) = c.loop-requester.invariant in
    same_source c.in-Err.end (g.I.Source.faults c.args.source.now) (g.I.Source.faults c.loop-requester.source) (g.I.Source.faults c.transfer.new.source) sources c.in-Err.ensures.source_count

pub returns-in-Err-clause-sink_count : goal.returns-in-Err-clause-sink_count
returns-in-Err-clause-sink_count g c =
    let (fits, tickets, sources, sinks, memory, goes) = c.loop-requester.invariant in
    same_sink c.in-Err.end (g.O.Sink.faults c.args.sink.now) (g.O.Sink.faults c.loop-requester.sink) (g.O.Sink.faults c.transfer.new.sink) sinks c.in-Err.ensures.sink_count

pub loop-requester-smaller : goal.loop-requester-smaller
loop-requester-smaller g c =
    let (fits, tickets, sources, sinks, memory, goes) = c.loop-requester.invariant in
    let more = c.in-Ok.ensures.more in
    let within = c.in-Ok.ensures.fits.within in
    omega (arith, more, within)

pub loop-requester-preserved : goal.loop-requester-preserved
loop-requester-preserved g c =
    let (fits, tickets, sources, sinks, memory, goes) = c.loop-requester.invariant in (
      c.in-Ok.ensures.fits,
      λ xid. c.in-Ok.ensures.tickets xid ∙ tickets xid,
      c.in-Ok.ensures.source_count ∙ sources,
      c.in-Ok.ensures.sink_count ∙ sinks,
      λ had. c.in-Ok.ensures.memory,
      turns_compose (link_bytes (g.I.Source.left c.args.source.now) (g.I.Source.given c.args.source.now) (g.O.Sink.taken c.args.sink.now) c.args.read.now)
          (link_bytes (g.I.Source.left c.loop-requester.source) (g.I.Source.given c.loop-requester.source) (g.O.Sink.taken c.loop-requester.sink) c.loop-requester.read)
          (link_bytes (g.I.Source.left c.transfer.new.source) (g.I.Source.given c.transfer.new.source) (g.O.Sink.taken c.transfer.new.sink) c.transfer.new.read)
          c.args.requester.now c.loop-requester.requester c.transfer.new.requester goes c.in-Ok.ensures.ok,
    )

pub loop-requester-init : goal.loop-requester-init
loop-requester-init g c = (
  c.requires.fits,
  λ xid. refl,
  refl,
  refl,
  λ had. had,
  no_turn (link_bytes (g.I.Source.left c.args.source.now) (g.I.Source.given c.args.source.now) (g.O.Sink.taken c.args.sink.now) c.args.read.now) c.args.requester.now,
)

pub returns-in-Err-clause-unanswered : goal.returns-in-Err-clause-unanswered
returns-in-Err-clause-unanswered g c =
    let none : is_some (found_answer c.args.ticket.now c.loop-requester.requester.state) ≡ false = grind (arith, c.has_outcome.ensures, c.loop-requester-test.true) in
    lacks_after c.in-Err.end c.args.ticket.now c.loop-requester.requester c.transfer.new.requester none c.in-Err.ensures.answers

pub transfer-requires-clause-waits : goal.transfer-requires-clause-waits
transfer-requires-clause-waits g c =
    let (fits, tickets, sources, sinks, memory, goes) = c.loop-requester.invariant in
    let none : is_some (found_answer c.args.ticket.now c.loop-requester.requester.state) ≡ false = grind (arith, c.has_outcome.ensures, c.loop-requester-test.true) in
    still_waits c.args.ticket.now c.loop-requester.requester (ap is_some (tickets c.args.ticket.now) ∙ c.requires.open) none
