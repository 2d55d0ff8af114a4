use Rattle.std.proofs.Common.{◌≡◌, ℕ, ◌<◌, List, length, take, subst, ◌∙◌}
use Rattle.std.specs.Io.KnownBytes.{Appends}
use Rattle.nr_top.specs.Ends.{printed}
use Rattle.nr_top.proofs.drill.drill.Goals as goal

pub returns-in-Ok : goal.returns-in-Ok
returns-in-Ok g c =
    let shown = c.in_ok-printed.ensures in
    let run = shown.prints in
    let text : c.as_slice.result.now ≡ printed c.args.log c.args.source run.0 shown.script run.1 run.2 = c.as_slice.ensures ∙ run.3 in
    record {
      ran = record { script = shown.script; tree = run.0; run = run.1; given = shown.given; drill = run.2 };
      prints = record {
        appends = subst (Appends (g.O.Sink.taken c.args.out.now) (g.O.Sink.taken c.write_whole.new.sink)) text c.in-Ok.ensures.ok;
        unfailing = c.in-Ok.ensures.counted;
      };
    }

pub returns : goal.returns
returns g c =
    let shown = c.in_ok-printed.ensures in
    let run = shown.prints in
    let text : c.as_slice.result.now ≡ printed c.args.log c.args.source run.0 shown.script run.1 run.2 = c.as_slice.ensures ∙ run.3 in
    let part = c.in-Err.ensures.err in
    record {
      ran = record { script = shown.script; tree = run.0; run = run.1; given = shown.given; drill = run.2 };
      cut = record {
        len = part.0;
        short = subst (λ (xs : List ℕ). part.0 < length xs) text part.1;
        appends = subst (λ (xs : List ℕ). Appends (g.O.Sink.taken c.args.out.now) (g.O.Sink.taken c.write_whole.new.sink) (take part.0 xs)) text part.2;
        rose = c.in-Err.ensures.counted;
      };
    }
