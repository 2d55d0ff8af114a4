use Rattle.nr_nfs_base.specs.Procedures.{nfs_program, nfs_version}
use Rattle.nr_client.specs.Reading.{starts_at}
use Rattle.nr_client.proofs.FileEnds.{read_and_forgot, size_failed}
use Rattle.nr_client.proofs.FileReading.{read_started}
use Rattle.nr_client.proofs.Outcomes.{writable}
use Rattle.nr_client.proofs.read_file.read_file_over.Goals as goal

pub ask_nfs-requires : goal.ask_nfs-requires
ask_nfs-requires g c = writable c.getattr_call-call.result nfs_program nfs_version 1 c.args.uid c.args.gid _ c.getattr_call-call.ensures

pub returns-in-Err-clause-reads : goal.returns-in-Err-clause-reads
returns-in-Err-clause-reads g c =
    size_failed g.L.Calls.relations c.args.uid c.args.gid c.args.file.now
    (g.L.Calls.at c.args.link.now) (g.L.Calls.at c.ask_nfs.new.link) (g.K.Sink.taken c.args.out.now) c.in-Err.end (c.in-Err.ensures.asks _ c.getattr_call-call.ensures)

pub returns-clause-reads : goal.returns-clause-reads
returns-clause-reads g c =
    read_and_forgot g.L.Calls.relations c.args.uid c.args.gid c.args.file.now c.read_pieces-result.new.tickets.items
    (g.L.Calls.at c.args.link.now) (g.L.Calls.at c.read_pieces-result.new.link) (g.L.Calls.at c.forget_all.new.link) (g.K.Sink.taken c.args.out.now) (g.K.Sink.taken c.read_pieces-result.new.out) c.read_pieces-result.result
    (c.read_pieces-result.ensures.ends
    (starts_at (g.L.Calls.at c.args.link.now))
    (g.K.Sink.taken c.args.out.now)
    (read_started g.L.Calls.relations c.args.uid c.args.gid c.args.file.now
    (g.L.Calls.at c.args.link.now) (g.L.Calls.at c.ask_nfs.new.link) (g.K.Sink.taken c.args.out.now) c.in-Ok.attributes (c.in-Ok.ensures.asks _ c.getattr_call-call.ensures)))
    c.forget_all.ensures.forgets
