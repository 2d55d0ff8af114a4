use Rattle.std.proofs.Common.{◌≡◌, ℕ, ◌+◌, ap, subst, sym, ◌∙◌}
use Rattle.nr_client.specs.Reading.{piece_left}
use Rattle.nr_client.specs.private.OpenReads.{ReadSoFar}
use Rattle.nr_client.proofs.FilePieces.{piece_done}
use Rattle.nr_client.proofs.Tickets.{still_open}
use Rattle.nr_client.proofs.read_file.read_piece.Goals as goal

pub returns-in-Err-take_oldest-clause-err : goal.returns-in-Err-take_oldest-clause-err
returns-in-Err-take_oldest-clause-err g c first taken so_far =
    c.in-Err-take_oldest.ensures.err c.args.file.now.uid c.args.file.now.gid c.fill.new.next c.args.file.now.handle.now c.in-Ok.ensures.ahead c.in-Ok.ensures.full first taken
    (c.in-Ok.ensures.ok (g.K.Sink.taken c.args.out.now) first taken so_far)

pub returns-in-Ok-read_rest-clause-open : goal.returns-in-Ok-read_rest-clause-open
returns-in-Ok-read_rest-clause-open g c =
    still_open g.L.Calls.relations (g.L.Calls.at c.take_oldest.new.link) (g.L.Calls.at c.read_rest.new.link) c.take_oldest.new.tickets.items c.read_rest.ensures.tickets c.take_oldest.ensures.open

pub returns-in-Err-read_rest-clause-open : goal.returns-in-Err-read_rest-clause-open
returns-in-Err-read_rest-clause-open g c =
    still_open g.L.Calls.relations (g.L.Calls.at c.take_oldest.new.link) (g.L.Calls.at c.read_rest.new.link) c.take_oldest.new.tickets.items c.read_rest.ensures.tickets c.take_oldest.ensures.open

pub returns-in-Ok-read_rest-clause-ahead : goal.returns-in-Ok-read_rest-clause-ahead
returns-in-Ok-read_rest-clause-ahead g c =
    piece_done g.L.Calls.relations (g.L.Calls.at c.fill.new.link) (g.L.Calls.at c.read_rest.new.link) c.args.file.now.size c.args.at.now c.read_rest.new.at c.piece_left.result c.fill.new.next c.fill.new.tickets.items c.take_oldest.new.tickets.items
    c.requires.below c.in-Ok-read_rest.ensures.end c.piece_left.ensures.is c.take_oldest.ensures.next c.in-Ok.ensures.ahead
    (still_open g.L.Calls.relations (g.L.Calls.at c.take_oldest.new.link) (g.L.Calls.at c.read_rest.new.link) c.take_oldest.new.tickets.items c.read_rest.ensures.tickets c.take_oldest.ensures.open)

pub returns-in-Ok-read_rest-clause-ok : goal.returns-in-Ok-read_rest-clause-ok
returns-in-Ok-read_rest-clause-ok g c first taken so_far =
    let ends : c.args.at.now + piece_left c.args.file.now.size c.args.at.now ≡ c.read_rest.new.at = ap (λ (n : ℕ). c.args.at.now + n) (sym c.piece_left.ensures.is) ∙ sym c.in-Ok-read_rest.ensures.end in
    subst
    (λ (from : ℕ). ReadSoFar g.L.Calls.relations c.args.file.now.uid c.args.file.now.gid c.args.file.now.handle.now c.args.file.now.size first taken c.read_rest.new.at from c.take_oldest.new.tickets.items
    (g.L.Calls.at c.read_rest.new.link) (g.K.Sink.taken c.read_rest.new.out))
    ends
    (c.in-Ok-read_rest.ensures.ok (c.args.at.now + piece_left c.args.file.now.size c.args.at.now) c.take_oldest.new.tickets.items first taken
    (c.in-Ok-take_oldest.ensures.ok c.args.file.now.uid c.args.file.now.gid c.fill.new.next c.args.file.now.handle.now c.in-Ok.ensures.ahead c.in-Ok.ensures.full first taken
    (c.in-Ok.ensures.ok (g.K.Sink.taken c.args.out.now) first taken so_far)))

pub returns-in-Err-read_rest-clause-err : goal.returns-in-Err-read_rest-clause-err
returns-in-Err-read_rest-clause-err g c first taken so_far =
    c.in-Err-read_rest.ensures.err (c.args.at.now + piece_left c.args.file.now.size c.args.at.now) c.take_oldest.new.tickets.items first taken
    (c.in-Ok-take_oldest.ensures.ok c.args.file.now.uid c.args.file.now.gid c.fill.new.next c.args.file.now.handle.now c.in-Ok.ensures.ahead c.in-Ok.ensures.full first taken
    (c.in-Ok.ensures.ok (g.K.Sink.taken c.args.out.now) first taken so_far))
