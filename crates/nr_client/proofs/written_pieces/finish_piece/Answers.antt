use Rattle.std.proofs.Common.{ℕ, ◌+◌, refl, sym, subst}
use Rattle.nr_turnstile.specs.Passes.{mine_of, seen_by}
use Rattle.nr_client.specs.Jobs.{IsExchange}
use Rattle.nr_client.specs.Reading.{piece_left, read_call}
use Rattle.nr_client.specs.private.JobReads.{IsUpTo}
use Rattle.nr_client.proofs.JobCalls.{grows_none}
use Rattle.nr_client.proofs.JobReading.{data_fails, read_more}
use Rattle.nr_client.proofs.written_pieces.finish_piece.Goals as goal

pub read_rest-requires-clause-piece : goal.read_rest-requires-clause-piece
read_rest-requires-clause-piece g c = subst (λ (n : ℕ). IsUpTo c.args.file.now.size c.write_fetched.new.at (c.args.at.now + n)) (sym c.piece_left.ensures.is) c.in-Ok.ensures.piece

pub returns-in-Err-clause-grows : goal.returns-in-Err-clause-grows
returns-in-Err-clause-grows g c = grows_none c.args.pass.now.main c.args.pass.now.main refl refl

pub returns-in-Err-clause-err : goal.returns-in-Err-clause-err
returns-in-Err-clause-err g c first taken so_far =
    data_fails c.args.file.now.uid c.args.file.now.gid c.args.file.now.handle.now first c.args.file.now.size c.args.at.now (piece_left c.args.file.now.size c.args.at.now) c.args.pass.now.main c.args.pass.now.main c.args.outcome c.in-Err.why taken (g.K.Sink.taken c.args.out.now) (g.K.Sink.taken c.write_fetched.new.out)
    c.requires.below refl (grows_none c.args.pass.now.main c.args.pass.now.main refl refl) c.requires.fetched c.in-Err.ensures.err so_far

pub returns-in-Err-read_rest-clause-err : goal.returns-in-Err-read_rest-clause-err
returns-in-Err-read_rest-clause-err g c first taken so_far = c.in-Err-read_rest.ensures.err first taken (let (count, step, (is, (goes, written))) = c.in-Ok.ensures.ok in
    read_more c.args.file.now.uid c.args.file.now.gid c.args.file.now.handle.now first c.args.file.now.size c.args.at.now c.write_fetched.new.at count step c.args.pass.now.main c.args.pass.now.main c.args.outcome taken (g.K.Sink.taken c.args.out.now) (g.K.Sink.taken c.write_fetched.new.out)
    c.requires.below is goes (grows_none c.args.pass.now.main c.args.pass.now.main refl refl)
    (subst (λ (n : ℕ). IsExchange (seen_by c.args.pass.now.main) (mine_of c.args.pass.now.main) (read_call c.args.file.now.uid c.args.file.now.gid c.args.file.now.handle.now c.args.at.now n) c.args.outcome) (sym is) c.requires.fetched) written so_far)

pub returns-in-Ok-read_rest-clause-ok : goal.returns-in-Ok-read_rest-clause-ok
returns-in-Ok-read_rest-clause-ok g c first taken so_far = c.in-Ok-read_rest.ensures.ok first taken (let (count, step, (is, (goes, written))) = c.in-Ok.ensures.ok in
    read_more c.args.file.now.uid c.args.file.now.gid c.args.file.now.handle.now first c.args.file.now.size c.args.at.now c.write_fetched.new.at count step c.args.pass.now.main c.args.pass.now.main c.args.outcome taken (g.K.Sink.taken c.args.out.now) (g.K.Sink.taken c.write_fetched.new.out)
    c.requires.below is goes (grows_none c.args.pass.now.main c.args.pass.now.main refl refl)
    (subst (λ (n : ℕ). IsExchange (seen_by c.args.pass.now.main) (mine_of c.args.pass.now.main) (read_call c.args.file.now.uid c.args.file.now.gid c.args.file.now.handle.now c.args.at.now n) c.args.outcome) (sym is) c.requires.fetched) written so_far)
