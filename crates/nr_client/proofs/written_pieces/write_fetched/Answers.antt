use Rattle.std.proofs.Common.{ℕ, ◌+◌, refl, subst}
use Rattle.nr_client.specs.Reading.{piece_left}
use Rattle.nr_client.specs.private.OpenReads.{GivesNone}
use Rattle.nr_client.proofs.JobReading.{up_to_more}
use Rattle.nr_client.proofs.written_pieces.write_fetched.Goals as goal

pub returns-in-Err-clause-err : goal.returns-in-Err-clause-err
returns-in-Err-clause-err g c = subst (λ (n : ℕ). GivesNone n c.args.outcome c.in-Err.end (g.K.Sink.taken c.args.out.now) (g.K.Sink.taken c.write_data.new.out)) c.piece_left-count.ensures.is c.in-Err.ensures.err

pub returns-clause-piece : goal.returns-clause-piece
returns-clause-piece g c =
    up_to_more c.args.size c.args.at.now _ (c.args.at.now + piece_left c.args.size c.args.at.now) c.in-Ok.step c.piece_left-count.result c.requires.below c.piece_left-count.ensures.is refl refl c.in-Ok.ensures.some c.in-Ok.ensures.within

pub returns-clause-ok : goal.returns-clause-ok
returns-clause-ok g c = (c.piece_left-count.result, c.in-Ok.step, (c.piece_left-count.ensures.is, (refl, c.in-Ok.ensures.ok)))
