use Rattle.std.proofs.Common.{inl, inr, arith, refl, ◌∙◌}
use Rattle.nr_turnstile.specs.Passes.{mine_of, seen_by}
use Rattle.nr_client.proofs.JobCalls.{fetched_on, grows_then}
use Rattle.nr_client.proofs.JobReading.{memory_out, read_same}
use Rattle.nr_client.proofs.jobs.read_round.Goals as goal

-- no round was read
pub returns-in-Err-clause-err : goal.returns-in-Err-clause-err
returns-in-Err-clause-err g c first taken so_far =
    memory_out c.args.file.now.uid c.args.file.now.gid c.args.file.now.handle.now first c.args.file.now.size c.args.at.now c.fetch_round.new.pass.main taken (g.K.Sink.taken c.args.out.now)
    (read_same c.args.file.now.uid c.args.file.now.gid c.args.file.now.handle.now first c.args.file.now.size c.args.at.now c.args.pass.now.main c.fetch_round.new.pass.main taken (g.K.Sink.taken c.args.out.now) c.fetch_round.ensures.grows so_far)

pub pieces-init : goal.pieces-init
pieces-init g c = (
  c.fetch_round.ensures.rests,
  c.fetch_round.ensures.source,
  c.fetch_round.ensures.grows,
  c.in-Ok.ensures.ok,
  omega arith,
  inr (omega (arith, c.requires.jobs)),
  refl,
  λ first taken so_far. read_same c.args.file.now.uid c.args.file.now.gid c.args.file.now.handle.now first c.args.file.now.size c.args.at.now c.args.pass.now.main c.fetch_round.new.pass.main taken (g.K.Sink.taken c.args.out.now) c.fetch_round.ensures.grows so_far,
)

pub write_piece-requires-clause-fetched : goal.write_piece-requires-clause-fetched
write_piece-requires-clause-fetched g c =
    let (rests, source, grows, got, further, begun, outs, on) = c.pieces.invariant in
    c.in-Ok-take_next.ensures.ok c.args.file.now.uid c.args.file.now.gid c.args.file.now.size c.args.file.now.handle.now (mine_of c.pieces.pass.main) (seen_by c.pieces.pass.main) got

pub pieces-preserved : goal.pieces-preserved
pieces-preserved g c =
    let (rests, source, grows, got, further, begun, outs, on) = c.pieces.invariant in
    let p = c.pieces.pass.main in let q = c.write_piece.new.pass.main in let step = c.write_piece.ensures.grows in
    let lists = c.take_next.ensures.lists c.args.file.now.uid c.args.file.now.gid c.args.file.now.size c.args.file.now.handle.now (mine_of p) (seen_by p) got in
    let ends = c.in-Ok-write_piece.ensures.end in (
      c.write_piece.ensures.rests,
      c.write_piece.ensures.source ∙ source,
      grows_then c.args.pass.now.main p q grows step,
      (λ k d lt. fetched_on (seen_by p) (seen_by q) (mine_of p) (mine_of q) c.args.file.now.uid c.args.file.now.gid c.args.file.now.handle.now c.args.file.now.size _ step.seen step.mine (lists k d lt)),
      grind (arith, ends, further),
      inl (grind (arith, ends, further)),
      c.in-Ok-write_piece.ensures.out_faults ∙ outs,
      λ first taken so_far. c.in-Ok-write_piece.ensures.ok first taken (on first taken so_far),
    )

pub returns-in-Err-take_next-clause-err : goal.returns-in-Err-take_next-clause-err
returns-in-Err-take_next-clause-err g c first taken so_far =
    let (rests, source, grows, got, further, begun, outs, on) = c.pieces.invariant in
    memory_out c.args.file.now.uid c.args.file.now.gid c.args.file.now.handle.now first c.args.file.now.size c.pieces.at c.pieces.pass.main taken (g.K.Sink.taken c.pieces.out) (on first taken so_far)

pub returns-in-Err-write_piece-clause-grows : goal.returns-in-Err-write_piece-clause-grows
returns-in-Err-write_piece-clause-grows g c =
    let (rests, source, grows, got, further, begun, outs, on) = c.pieces.invariant in
    grows_then c.args.pass.now.main c.pieces.pass.main c.write_piece.new.pass.main grows c.write_piece.ensures.grows

pub returns-in-Err-write_piece-clause-err : goal.returns-in-Err-write_piece-clause-err
returns-in-Err-write_piece-clause-err g c first taken so_far =
    let (rests, source, grows, got, further, begun, outs, on) = c.pieces.invariant in
    c.in-Err-write_piece.ensures.err first taken (on first taken so_far)

pub returns-in-Err-take_next-clause-grows : goal.returns-in-Err-take_next-clause-grows
returns-in-Err-take_next-clause-grows g c = let (rests, source, grows, got, further, begun, outs, on) = c.pieces.invariant in grows

pub returns-clause-grows : goal.returns-clause-grows
returns-clause-grows g c = let (rests, source, grows, got, further, begun, outs, on) = c.pieces.invariant in grows

pub returns-clause-ok : goal.returns-clause-ok
returns-clause-ok g c = let (rests, source, grows, got, further, begun, outs, on) = c.pieces.invariant in on
