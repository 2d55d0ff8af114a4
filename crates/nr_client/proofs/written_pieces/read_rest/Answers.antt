use Rattle.std.proofs.Common.{refl, ◌∙◌}
use Rattle.nr_client.proofs.JobCalls.{grows_none, grows_then}
use Rattle.nr_client.proofs.written_pieces.read_rest.Goals as goal

pub rest-init : goal.rest-init
rest-init g c = (c.requires.piece, c.requires.rests, refl, grows_none c.args.pass.now.main c.args.pass.now.main refl refl, refl, λ first taken so_far. so_far)

pub rest-preserved : goal.rest-preserved
rest-preserved g c =
    let (piece, rests, source, grows, outs, on) = c.rest.invariant in (
      c.in-Ok.ensures.piece,
      c.read_on.ensures.rests,
      c.read_on.ensures.source ∙ source,
      grows_then c.args.pass.now.main c.rest.pass.main c.read_on.new.pass.main grows c.read_on.ensures.grows,
      c.in-Ok.ensures.out_faults ∙ outs,
      λ first taken so_far. c.in-Ok.ensures.ok first taken (on first taken so_far),
    )

pub returns-in-Err-clause-grows : goal.returns-in-Err-clause-grows
returns-in-Err-clause-grows g c =
    let (piece, rests, source, grows, outs, on) = c.rest.invariant in
    grows_then c.args.pass.now.main c.rest.pass.main c.read_on.new.pass.main grows c.read_on.ensures.grows

pub returns-in-Err-clause-err : goal.returns-in-Err-clause-err
returns-in-Err-clause-err g c first taken so_far =
    let (piece, rests, source, grows, outs, on) = c.rest.invariant in
    c.in-Err.ensures.err first taken (on first taken so_far)
