use Rattle.std.proofs.Common.{refl, sym, inl, inr, ◌∙◌}
use Rattle.nr_client.proofs.Turns.{drained_all, drained_credit, drained_end, writes, writes_part, writes_to}
use Rattle.nr_client.proofs.Unanswered.{drain_answers}
use Rattle.nr_client.proofs.transfer.write_due.Goals as goal

pub returns-in-Err-clause-writes : goal.returns-in-Err-clause-writes
returns-in-Err-clause-writes g c =
    let taken = c.in-Err.ensures.taken in
    writes_part (g.O.Sink.taken c.args.sink.now) (g.O.Sink.taken c.drain_into.new.sink) c.args.requester.now c.drain_into.new.self taken.0 taken.2 taken.4

pub returns-in-None-clause-writes : goal.returns-in-None-clause-writes
returns-in-None-clause-writes g c =
    let taken = c.in-Ok.ensures.taken in
    writes (g.O.Sink.taken c.args.sink.now) (g.O.Sink.taken c.drain_into.new.sink) c.args.requester.now c.drain_into.new.self taken.0 taken.2 taken.4 taken.6

pub returns-in-Some-clause-writes : goal.returns-in-Some-clause-writes
returns-in-Some-clause-writes g c =
    let taken = c.in-Ok.ensures.taken in
    writes_to _ (g.O.Sink.taken c.args.sink.now) (g.O.Sink.taken c.drain_into.new.sink) c.args.requester.now c.drain_into.new.self (drained_all c.args.requester.now c.drain_into.new.self taken.0 taken.3 taken.6)
    (writes (g.O.Sink.taken c.args.sink.now) (g.O.Sink.taken c.drain_into.new.sink) c.args.requester.now c.drain_into.new.self taken.0 taken.2 taken.4 taken.6)

pub returns-in-Some-clause-cause : goal.returns-in-Some-clause-cause
returns-in-Some-clause-cause g c left read = sym c.in-Some.ensures

pub returns-in-Err-clause-answers : goal.returns-in-Err-clause-answers
returns-in-Err-clause-answers g c xid =
    let taken = c.in-Err.ensures.taken in
    drain_answers xid taken.0 c.args.requester.now c.drain_into.new.self taken.3

pub returns-in-None-clause-answers : goal.returns-in-None-clause-answers
returns-in-None-clause-answers g c xid =
    let taken = c.in-Ok.ensures.taken in
    drain_answers xid taken.0 c.args.requester.now c.drain_into.new.self taken.3

pub returns-in-Some-clause-answers : goal.returns-in-Some-clause-answers
returns-in-Some-clause-answers g c xid =
    let taken = c.in-Ok.ensures.taken in
    drain_answers xid taken.0 c.args.requester.now c.drain_into.new.self taken.3

pub returns-in-Err-clause-drained : goal.returns-in-Err-clause-drained
returns-in-Err-clause-drained g c = inl refl

pub returns-in-None-clause-drained : goal.returns-in-None-clause-drained
returns-in-None-clause-drained g c =
    let taken = c.in-Ok.ensures.taken in
    drained_all c.args.requester.now c.drain_into.new.self taken.0 taken.3 taken.6

pub returns-in-Some-clause-drained : goal.returns-in-Some-clause-drained
returns-in-Some-clause-drained g c =
    let taken = c.in-Ok.ensures.taken in
    inr (drained_all c.args.requester.now c.drain_into.new.self taken.0 taken.3 taken.6)

pub returns-in-None-clause-started : goal.returns-in-None-clause-started
returns-in-None-clause-started g c =
    let taken = c.in-Ok.ensures.taken in
    drained_end c.args.requester.now c.drain_into.new.self taken.0 taken.3 ∙ sym c.in-None.ensures

pub returns-in-None-clause-credit : goal.returns-in-None-clause-credit
returns-in-None-clause-credit g c =
    let taken = c.in-Ok.ensures.taken in
    drained_credit c.args.requester.now c.drain_into.new.self taken.0 taken.3
