use Rattle.std.proofs.Common.{ℕ, ◌+◌, inr, arith, Option, sym, ap, subst}
use Rattle.nr_reduce.specs.declared.call.Outcome.{Outcome}
use Rattle.nr_turnstile.specs.Passes.{mine_of, seen_by}
use Rattle.nr_client.specs.private.JobReads.{IsFetched}
use Rattle.nr_client.proofs.written_pieces.write_piece.Goals as goal

pub read_rest-requires-clause-piece : goal.read_rest-requires-clause-piece
read_rest-requires-clause-piece g c = inr (omega (arith, c.piece_left.ensures.some), ap (λ (n : ℕ). c.args.at.now + n) (sym c.piece_left.ensures.is))

pub finish_piece-requires-clause-fetched : goal.finish_piece-requires-clause-fetched
finish_piece-requires-clause-fetched g c =
    subst (λ (o : Option Outcome). IsFetched c.args.file.now.uid c.args.file.now.gid c.args.file.now.handle.now c.args.file.now.size c.args.at.now o (seen_by c.args.pass.now.main) (mine_of c.args.pass.now.main)) c.in-Some.is c.requires.fetched
