use Rattle.std.proofs.Common.{refl}
use Rattle.nr_client.proofs.FileEnds.{fails_from, forgotten_from}
use Rattle.nr_client.proofs.FileReading.{taken_from}
use Rattle.nr_client.proofs.Tickets.{front, rest_open}
use Rattle.nr_client.proofs.reading_ahead.take_oldest.Goals as goal

pub returns-in-Err-clause-open : goal.returns-in-Err-clause-open
returns-in-Err-clause-open g c =
    rest_open g.L.Calls.relations c.remove.result (g.L.Calls.at c.args.link.now) (g.L.Calls.at c.wait.new.self) c.args.tickets.now.items c.remove.new.self.items (front c.args.tickets.now.items c.remove.new.self.items c.remove.result c.requires.some c.remove.ensures.value c.remove.ensures.items) c.wait.ensures.tickets c.requires.open

pub returns-in-Err-write_data-clause-open : goal.returns-in-Err-write_data-clause-open
returns-in-Err-write_data-clause-open g c =
    rest_open g.L.Calls.relations c.remove.result (g.L.Calls.at c.args.link.now) (g.L.Calls.at c.wait.new.self) c.args.tickets.now.items c.remove.new.self.items (front c.args.tickets.now.items c.remove.new.self.items c.remove.result c.requires.some c.remove.ensures.value c.remove.ensures.items) c.wait.ensures.tickets c.requires.open

pub returns-clause-open : goal.returns-clause-open
returns-clause-open g c =
    rest_open g.L.Calls.relations c.remove.result (g.L.Calls.at c.args.link.now) (g.L.Calls.at c.wait.new.self) c.args.tickets.now.items c.remove.new.self.items (front c.args.tickets.now.items c.remove.new.self.items c.remove.result c.requires.some c.remove.ensures.value c.remove.ensures.items) c.wait.ensures.tickets c.requires.open

pub returns-in-Err-clause-err : goal.returns-in-Err-clause-err
returns-in-Err-clause-err g c uid gid next file ahead full first taken so_far =
    forgotten_from g.L.Calls.relations uid gid file c.args.size c.args.at.now next c.remove.result c.args.tickets.now.items c.remove.new.self.items c.in-Err.end first taken (g.K.Sink.taken c.args.out.now)
    (g.L.Calls.at c.args.link.now) (g.L.Calls.at c.wait.new.self) (front c.args.tickets.now.items c.remove.new.self.items c.remove.result c.requires.some c.remove.ensures.value c.remove.ensures.items) c.requires.below ahead full c.in-Err.ensures.err so_far

pub returns-in-Err-write_data-clause-err : goal.returns-in-Err-write_data-clause-err
returns-in-Err-write_data-clause-err g c uid gid next file ahead full first taken so_far =
    fails_from g.L.Calls.relations uid gid file c.args.size c.args.at.now next c.piece_left-count.result c.remove.result c.args.tickets.now.items c.remove.new.self.items c.in-Ok.outcome c.in-Err-write_data.end first taken
    (g.K.Sink.taken c.args.out.now) (g.K.Sink.taken c.write_data.new.out)
    (g.L.Calls.at c.args.link.now) (g.L.Calls.at c.wait.new.self) (front c.args.tickets.now.items c.remove.new.self.items c.remove.result c.requires.some c.remove.ensures.value c.remove.ensures.items) c.requires.below ahead full c.piece_left-count.ensures.is c.in-Ok.ensures.ok c.in-Err-write_data.ensures.err so_far

pub returns-clause-ok : goal.returns-clause-ok
returns-clause-ok g c uid gid next file ahead full first taken so_far =
    taken_from g.L.Calls.relations uid gid file c.args.size c.args.at.now _ next c.piece_left-count.result c.in-Ok-write_data.step c.remove.result c.args.tickets.now.items c.remove.new.self.items c.in-Ok.outcome first taken
    (g.K.Sink.taken c.args.out.now) (g.K.Sink.taken c.write_data.new.out)
    (g.L.Calls.at c.args.link.now) (g.L.Calls.at c.wait.new.self) (front c.args.tickets.now.items c.remove.new.self.items c.remove.result c.requires.some c.remove.ensures.value c.remove.ensures.items) c.requires.below ahead full c.piece_left-count.ensures.is refl c.in-Ok.ensures.ok c.in-Ok-write_data.ensures.ok so_far
