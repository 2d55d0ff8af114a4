use Rattle.std.proofs.Common.{ℕ, ◌<◌, List, inr, length, subst, take}
use Rattle.std.specs.Io.KnownBytes.{Appends}
use Rattle.nr_top.proofs.report.answer_words.Goals as goal

pub returns-in-Asked : goal.returns-in-Asked
returns-in-Asked g c =
    let part = c.in-Err.ensures.err in
    rw c.in-Asked.is (inr (
      record {
        len = part.0;
        short = subst (λ (xs : List ℕ). part.0 < length xs) c.as_bytes.ensures.value part.1;
        appends = subst (λ (xs : List ℕ). Appends (g.O.Sink.taken c.args.out.now) (g.O.Sink.taken c.write_whole.new.sink) (take part.0 xs)) c.as_bytes.ensures.value part.2;
        rose = c.in-Err.ensures.counted;
      },
      c.write_error.ensures,
    ))
