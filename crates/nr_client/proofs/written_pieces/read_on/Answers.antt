use Rattle.std.proofs.Common.{refl}
use Rattle.nr_nfs_base.specs.Procedures.{nfs_program, nfs_version}
use Rattle.nr_reduce.specs.declared.call.Call.{Call}
use Rattle.nr_reduce.specs.declared.call.Form.TheVariants as forms
use Rattle.nr_client.specs.Reading.{read_call}
use Rattle.nr_client.proofs.JobReading.{data_fails, ends_at, none_came, piece_at, read_more, up_to_more}
use Rattle.nr_client.proofs.Outcomes.{allowed_as, writable}
use Rattle.nr_client.proofs.written_pieces.read_on.Goals as goal

pub outcome_of-requires-clause-writable : goal.outcome_of-requires-clause-writable
outcome_of-requires-clause-writable g c = writable c.read_call.result nfs_program nfs_version 6 c.args.file.now.uid c.args.file.now.gid _ c.read_call.ensures

pub outcome_of-requires-clause-allowed : goal.outcome_of-requires-clause-allowed
outcome_of-requires-clause-allowed g c =
    let call = read_call c.args.file.now.uid c.args.file.now.gid c.args.file.now.handle.now c.args.at.now c.piece_left-count.result in
    allowed_as (λ (d : Call). g.C.CallRule.allows d forms.Auto) c.read_call.result call c.read_call.ensures
    (c.requires.rule call (piece_at c.args.file.now.uid c.args.file.now.gid c.args.file.now.handle.now c.args.file.now.size c.args.at.now c.piece_left-count.result c.requires.below c.piece_left-count.ensures.is))

pub returns-in-Err-clause-err : goal.returns-in-Err-clause-err
returns-in-Err-clause-err g c first taken so_far =
    none_came c.args.file.now.uid c.args.file.now.gid c.args.file.now.handle.now first c.args.file.now.size c.args.at.now c.piece_left-count.result c.args.pass.now.main c.outcome_of.new.pass.main c.in-Err.end taken (g.K.Sink.taken c.args.out.now)
    c.requires.below c.piece_left-count.ensures.is c.outcome_of.ensures.grows (c.in-Err.ensures.err _ c.read_call.ensures) so_far

pub returns-in-Err-write_data-clause-err : goal.returns-in-Err-write_data-clause-err
returns-in-Err-write_data-clause-err g c first taken so_far =
    data_fails c.args.file.now.uid c.args.file.now.gid c.args.file.now.handle.now first c.args.file.now.size c.args.at.now c.piece_left-count.result c.args.pass.now.main c.outcome_of.new.pass.main c.in-Ok.outcome c.in-Err-write_data.end taken (g.K.Sink.taken c.args.out.now) (g.K.Sink.taken c.write_data.new.out)
    c.requires.below c.piece_left-count.ensures.is c.outcome_of.ensures.grows (c.in-Ok.ensures.ok _ c.read_call.ensures) c.in-Err-write_data.ensures.err so_far

pub returns-clause-ok : goal.returns-clause-ok
returns-clause-ok g c first taken so_far =
    read_more c.args.file.now.uid c.args.file.now.gid c.args.file.now.handle.now first c.args.file.now.size c.args.at.now _ c.piece_left-count.result c.in-Ok-write_data.step c.args.pass.now.main c.outcome_of.new.pass.main c.in-Ok.outcome taken (g.K.Sink.taken c.args.out.now) (g.K.Sink.taken c.write_data.new.out)
    c.requires.below c.piece_left-count.ensures.is refl c.outcome_of.ensures.grows (c.in-Ok.ensures.ok _ c.read_call.ensures) c.in-Ok-write_data.ensures.ok so_far

pub returns-clause-piece : goal.returns-clause-piece
returns-clause-piece g c =
    up_to_more c.args.file.now.size c.args.at.now _ c.args.end c.in-Ok-write_data.step c.piece_left-count.result c.requires.below c.piece_left-count.ensures.is refl
    (ends_at c.args.file.now.size c.args.at.now c.args.end c.requires.within c.requires.piece) c.in-Ok-write_data.ensures.some c.in-Ok-write_data.ensures.within
