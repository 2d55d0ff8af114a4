use Rattle.std.proofs.Common.{refl}
use Rattle.nr_nfs_base.specs.Procedures.{nfs_program, nfs_version}
use Rattle.nr_client.proofs.FileEnds.{alone_fails, not_answered}
use Rattle.nr_client.proofs.FileReading.{alone_more}
use Rattle.nr_client.proofs.Outcomes.{writable}
use Rattle.nr_client.proofs.read_file.read_on.Goals as goal

pub outcome_of-requires : goal.outcome_of-requires
outcome_of-requires g c = writable c.read_call.result nfs_program nfs_version 6 c.args.file.now.uid c.args.file.now.gid _ c.read_call.ensures

pub returns-in-Err-clause-err : goal.returns-in-Err-clause-err
returns-in-Err-clause-err g c from xids first taken so_far =
    not_answered g.L.Calls.relations c.args.file.now.uid c.args.file.now.gid c.args.file.now.handle.now c.args.file.now.size c.args.at.now c.args.end c.piece_left-count.result from xids c.in-Err.end first taken (g.K.Sink.taken c.args.out.now)
    (g.L.Calls.at c.args.link.now) (g.L.Calls.at c.outcome_of.new.link) c.requires.below c.requires.within c.requires.piece c.piece_left-count.ensures.is (c.in-Err.ensures.err _ c.read_call.ensures) so_far

pub returns-in-Err-write_data-clause-err : goal.returns-in-Err-write_data-clause-err
returns-in-Err-write_data-clause-err g c from xids first taken so_far =
    alone_fails g.L.Calls.relations c.args.file.now.uid c.args.file.now.gid c.args.file.now.handle.now c.args.file.now.size c.args.at.now c.args.end c.piece_left-count.result from xids c.in-Ok.outcome c.in-Err-write_data.end first taken
    (g.K.Sink.taken c.args.out.now) (g.K.Sink.taken c.write_data.new.out)
    (g.L.Calls.at c.args.link.now) (g.L.Calls.at c.outcome_of.new.link) c.requires.below c.requires.within c.requires.piece c.piece_left-count.ensures.is (c.in-Ok.ensures.ok _ c.read_call.ensures)
    c.in-Err-write_data.ensures.err so_far

pub returns-clause-ok : goal.returns-clause-ok
returns-clause-ok g c from xids first taken so_far =
    alone_more g.L.Calls.relations c.args.file.now.uid c.args.file.now.gid c.args.file.now.handle.now c.args.file.now.size c.args.at.now _ c.args.end c.piece_left-count.result c.in-Ok-write_data.step from xids c.in-Ok.outcome first taken
    (g.K.Sink.taken c.args.out.now) (g.K.Sink.taken c.write_data.new.out)
    (g.L.Calls.at c.args.link.now) (g.L.Calls.at c.outcome_of.new.link) c.requires.below c.requires.within c.requires.piece c.piece_left-count.ensures.is refl (c.in-Ok.ensures.ok _ c.read_call.ensures)
    c.in-Ok-write_data.ensures.ok so_far
