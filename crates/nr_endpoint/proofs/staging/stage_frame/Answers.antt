use Rattle.std.proofs.Common.{arith}
use Rattle.nr_endpoint.proofs.StagedFrames.{staged_twice, taken_twice}
use Rattle.nr_endpoint.proofs.staging.stage_frame.Goals as goal

pub returns-clause-taken : goal.returns-clause-taken
returns-clause-taken c =
    taken_twice c.args.awaited c.args.staging.now.items c.args.piece.now c.stage-fields.new.staging.items _ c.args.staged c.stage-fields.result c.stage-rest.result
    (omega (arith, c.requires.len, c.requires.within)) c.requires.partial c.stage-fields.ensures.count c.stage-fields.ensures.bytes c.split_at.ensures.back c.stage-rest.ensures.count

pub returns-clause-bytes : goal.returns-clause-bytes
returns-clause-bytes c =
    staged_twice c.args.staging.now.items c.args.piece.now c.stage-fields.new.staging.items c.stage-rest.new.staging.items _ c.args.staged c.stage-fields.result c.stage-rest.result
    (omega (arith, c.requires.len, c.requires.within)) (omega (arith, c.stage-fields.ensures.count)) c.stage-fields.ensures.bytes c.split_at.ensures.back c.stage-rest.ensures.bytes
