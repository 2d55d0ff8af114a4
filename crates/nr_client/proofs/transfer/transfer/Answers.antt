use Rattle.std.proofs.Common.{◌<◌, ℕ, inr, subst, sym}
use Rattle.nr_client.specs.Transfers.{link_bytes}
use Rattle.nr_client.proofs.Turns.{turns_compose, turn_to}
use Rattle.nr_client.proofs.Unanswered.{answers_after}
use Rattle.nr_client.proofs.transfer.transfer.Goals as goal

pub returns-in-Err-clause-err : goal.returns-in-Err-clause-err
returns-in-Err-clause-err g c =
    c.in-Err.ensures.writes (g.I.Source.left c.args.source.now) (g.I.Source.given c.args.source.now) c.args.read.now

pub read_piece-requires-clause-waits : goal.read_piece-requires-clause-waits
read_piece-requires-clause-waits g c = subst (λ (k : ℕ). 0 < k) (sym c.in-Ok.ensures.credit.0) c.requires.waits

pub returns-in-Ok-read_piece-clause-ok : goal.returns-in-Ok-read_piece-clause-ok
returns-in-Ok-read_piece-clause-ok g c =
    turns_compose (link_bytes (g.I.Source.left c.args.source.now) (g.I.Source.given c.args.source.now) (g.O.Sink.taken c.args.sink.now) c.args.read.now)
    (link_bytes (g.I.Source.left c.args.source.now) (g.I.Source.given c.args.source.now) (g.O.Sink.taken c.write_due.new.sink) c.args.read.now)
    (link_bytes (g.I.Source.left c.read_piece.new.source) (g.I.Source.given c.read_piece.new.source) (g.O.Sink.taken c.write_due.new.sink) c.read_piece.new.read)
    c.args.requester.now c.write_due.new.requester c.read_piece.new.requester
    (c.in-Ok.ensures.writes (g.I.Source.left c.args.source.now) (g.I.Source.given c.args.source.now) c.args.read.now)
    (c.in-Ok-read_piece.ensures.ok (g.O.Sink.taken c.write_due.new.sink))

pub returns-in-Err-read_piece-clause-err : goal.returns-in-Err-read_piece-clause-err
returns-in-Err-read_piece-clause-err g c =
    turn_to c.in-Err-read_piece.end (link_bytes (g.I.Source.left c.args.source.now) (g.I.Source.given c.args.source.now) (g.O.Sink.taken c.args.sink.now) c.args.read.now)
    (link_bytes (g.I.Source.left c.args.source.now) (g.I.Source.given c.args.source.now) (g.O.Sink.taken c.write_due.new.sink) c.args.read.now)
    (link_bytes (g.I.Source.left c.read_piece.new.source) (g.I.Source.given c.read_piece.new.source) (g.O.Sink.taken c.write_due.new.sink) c.read_piece.new.read)
    c.args.requester.now c.write_due.new.requester c.read_piece.new.requester
    (c.in-Ok.ensures.writes (g.I.Source.left c.args.source.now) (g.I.Source.given c.args.source.now) c.args.read.now)
    (c.in-Err-read_piece.ensures.err (g.O.Sink.taken c.write_due.new.sink))

pub returns-in-Err-clause-answers : goal.returns-in-Err-clause-answers
returns-in-Err-clause-answers g c = inr c.in-Err.ensures.answers

pub returns-in-Err-read_piece-clause-answers : goal.returns-in-Err-read_piece-clause-answers
returns-in-Err-read_piece-clause-answers g c =
    answers_after c.in-Err-read_piece.end c.args.requester.now c.write_due.new.requester c.read_piece.new.requester c.in-Ok.ensures.answers c.in-Err-read_piece.ensures.answers
