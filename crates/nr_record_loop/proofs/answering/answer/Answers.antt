use Rattle.std.proofs.Common.{◌++◌}
use Rattle.nr_record_loop.proofs.Writing.{answered, broken, framed}
use Rattle.nr_record_loop.proofs.answering.answer.Goals as goal

pub returns-in-Ok-write_whole_vectored-clause-ok : goal.returns-in-Ok-write_whole_vectored-clause-ok
returns-in-Ok-write_whole_vectored-clause-ok g c =
    answered g.A.Answers.did c.args.call.now c.args.answers.now c.reply.new.self c.in-Ok.reply c.in-Ok.ensures.ok
    (g.O.Sink.taken c.args.sink.now) (g.O.Sink.taken c.write_whole_vectored.new.sink)
    (c.record_header-header.result ++ c.as_slice.result.now)
    (framed c.record_header-header.result c.as_slice.result.now c.in-Ok.reply c.len.result c.record_header-header.ensures c.len.ensures c.as_slice.ensures)
    c.in-Ok-write_whole_vectored.ensures.ok

pub returns-clause-err : goal.returns-clause-err
returns-clause-err g c =
    broken g.A.Answers.did c.args.call.now c.args.answers.now c.reply.new.self c.in-Ok.reply c.in-Ok.ensures.ok
    (g.O.Sink.taken c.args.sink.now) (g.O.Sink.taken c.write_whole_vectored.new.sink)
    (c.record_header-header.result ++ c.as_slice.result.now)
    (framed c.record_header-header.result c.as_slice.result.now c.in-Ok.reply c.len.result c.record_header-header.ensures c.len.ensures c.as_slice.ensures)
    c.in-Err.ensures.err
