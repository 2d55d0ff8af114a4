use Rattle.std.proofs.Common.{arith, refl, inr, inl, ◌∙◌}
use Rattle.nr_client.specs.Steps.{LacksCredit}
use Rattle.nr_client.specs.Transfers.{link_bytes}
use Rattle.nr_client.proofs.Turns.{never_waits, no_turn, same_sink, same_source, started_with, turn_to, turns_compose}
use Rattle.nr_client.proofs.calling.wait_for_credit.Goals as goal

pub returns-in-Err-clause-err : goal.returns-in-Err-clause-err
returns-in-Err-clause-err g c =
    let (fits, tickets, sources, sinks, at_once, started, goes) = c.loop-requester.invariant in
    turn_to c.in-Err.end (link_bytes (g.I.Source.left c.args.source.now) (g.I.Source.given c.args.source.now) (g.O.Sink.taken c.args.sink.now) c.args.read.now)
    (link_bytes (g.I.Source.left c.loop-requester.source) (g.I.Source.given c.loop-requester.source) (g.O.Sink.taken c.loop-requester.sink) c.loop-requester.read)
    (link_bytes (g.I.Source.left c.transfer.new.source) (g.I.Source.given c.transfer.new.source) (g.O.Sink.taken c.transfer.new.sink) c.transfer.new.read)
    c.args.requester.now c.loop-requester.requester c.transfer.new.requester goes c.in-Err.ensures.err

pub returns-in-Err-clause-at_once : goal.returns-in-Err-clause-at_once
returns-in-Err-clause-at_once g c credit =
    let (fits, tickets, sources, sinks, at_once, started, goes) = c.loop-requester.invariant in
    let none : LacksCredit c.loop-requester.requester = c.lacks_credit.ensures.lacks c.loop-requester-test.true in
    absurd (never_waits c.args.requester.now c.loop-requester.requester (at_once credit).0 credit none)

pub returns-in-Err-clause-source_count : goal.returns-in-Err-clause-source_count
returns-in-Err-clause-source_count g c =
    let (fits, tickets, sources, sinks, at_once, started, goes) = c.loop-requester.invariant in
    same_source c.in-Err.end (g.I.Source.faults c.args.source.now) (g.I.Source.faults c.loop-requester.source) (g.I.Source.faults c.transfer.new.source) sources c.in-Err.ensures.source_count

pub returns-in-Err-clause-sink_count : goal.returns-in-Err-clause-sink_count
returns-in-Err-clause-sink_count g c =
    let (fits, tickets, sources, sinks, at_once, started, goes) = c.loop-requester.invariant in
    same_sink c.in-Err.end (g.O.Sink.faults c.args.sink.now) (g.O.Sink.faults c.loop-requester.sink) (g.O.Sink.faults c.transfer.new.sink) sinks c.in-Err.ensures.sink_count

pub loop-requester-smaller : goal.loop-requester-smaller
loop-requester-smaller g c =
    let (fits, tickets, sources, sinks, at_once, started, goes) = c.loop-requester.invariant in
    let more = c.in-Ok.ensures.more in
    let within = c.in-Ok.ensures.fits.within in
    omega (arith, more, within)

pub loop-requester-preserved : goal.loop-requester-preserved
loop-requester-preserved g c =
    let (fits, tickets, sources, sinks, at_once, started, goes) = c.loop-requester.invariant in
    let none : LacksCredit c.loop-requester.requester = c.lacks_credit.ensures.lacks c.loop-requester-test.true in (
      c.in-Ok.ensures.fits,
      λ xid. c.in-Ok.ensures.tickets xid ∙ tickets xid,
      c.in-Ok.ensures.source_count ∙ sources,
      c.in-Ok.ensures.sink_count ∙ sinks,
      λ credit. absurd (never_waits c.args.requester.now c.loop-requester.requester (at_once credit).0 credit none),
      inr (started_with c.args.requester.now c.loop-requester.requester started c.in-Ok.ensures.started),
      turns_compose (link_bytes (g.I.Source.left c.args.source.now) (g.I.Source.given c.args.source.now) (g.O.Sink.taken c.args.sink.now) c.args.read.now)
          (link_bytes (g.I.Source.left c.loop-requester.source) (g.I.Source.given c.loop-requester.source) (g.O.Sink.taken c.loop-requester.sink) c.loop-requester.read)
          (link_bytes (g.I.Source.left c.transfer.new.source) (g.I.Source.given c.transfer.new.source) (g.O.Sink.taken c.transfer.new.sink) c.transfer.new.read)
          c.args.requester.now c.loop-requester.requester c.transfer.new.requester goes c.in-Ok.ensures.ok,
    )

pub loop-requester-init : goal.loop-requester-init
loop-requester-init g c = (
  c.requires.fits,
  λ xid. refl,
  refl,
  refl,
  λ credit. (refl, (refl, (refl, refl))),
  inl refl,
  no_turn (link_bytes (g.I.Source.left c.args.source.now) (g.I.Source.given c.args.source.now) (g.O.Sink.taken c.args.sink.now) c.args.read.now) c.args.requester.now,
)

pub returns-in-Ok-write_due-clause-ok : goal.returns-in-Ok-write_due-clause-ok
returns-in-Ok-write_due-clause-ok g c =
    let (fits, tickets, sources, sinks, at_once, started, goes) = c.loop-requester.invariant in
    turns_compose (link_bytes (g.I.Source.left c.args.source.now) (g.I.Source.given c.args.source.now) (g.O.Sink.taken c.args.sink.now) c.args.read.now)
    (link_bytes (g.I.Source.left c.loop-requester.source) (g.I.Source.given c.loop-requester.source) (g.O.Sink.taken c.loop-requester.sink) c.loop-requester.read)
    (link_bytes (g.I.Source.left c.loop-requester.source) (g.I.Source.given c.loop-requester.source) (g.O.Sink.taken c.write_due.new.sink) c.loop-requester.read)
    c.args.requester.now c.loop-requester.requester c.write_due.new.requester goes
    (c.in-Ok-write_due.ensures.writes (g.I.Source.left c.loop-requester.source) (g.I.Source.given c.loop-requester.source) c.loop-requester.read)

pub returns-in-Err-write_due-clause-err : goal.returns-in-Err-write_due-clause-err
returns-in-Err-write_due-clause-err g c =
    let (fits, tickets, sources, sinks, at_once, started, goes) = c.loop-requester.invariant in
    turn_to c.in-Err-write_due.end (link_bytes (g.I.Source.left c.args.source.now) (g.I.Source.given c.args.source.now) (g.O.Sink.taken c.args.sink.now) c.args.read.now)
    (link_bytes (g.I.Source.left c.loop-requester.source) (g.I.Source.given c.loop-requester.source) (g.O.Sink.taken c.loop-requester.sink) c.loop-requester.read)
    (link_bytes (g.I.Source.left c.loop-requester.source) (g.I.Source.given c.loop-requester.source) (g.O.Sink.taken c.write_due.new.sink) c.loop-requester.read)
    c.args.requester.now c.loop-requester.requester c.write_due.new.requester goes
    (c.in-Err-write_due.ensures.writes (g.I.Source.left c.loop-requester.source) (g.I.Source.given c.loop-requester.source) c.loop-requester.read)

pub transfer-requires-clause-waits : goal.transfer-requires-clause-waits
transfer-requires-clause-waits g c = c.lacks_credit.ensures.waits c.loop-requester-test.true
