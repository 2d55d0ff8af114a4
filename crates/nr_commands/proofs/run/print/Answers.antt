use Rattle.std.proofs.Common.{ℕ, ◌<◌, List, Result, Ok, Err, length, take, refl, sym, subst}
use Rattle.std.specs.Io.KnownBytes.{Appends}
use Rattle.nr_outside.specs.Streams.{sink_at}
use Rattle.nr_client.specs.declared.client_end.ClientEnd.{ClientEnd}
use Rattle.nr_client.specs.declared.client_end.ClientEnd.TheVariants as client
use Rattle.nr_commands.specs.Running.{IsPrinted}
use Rattle.nr_commands.proofs.run.print.Goals as goal

pub returns-in-Err : goal.returns-in-Err
returns-in-Err g c = subst (λ (t : Result (List ℕ) ClientEnd). IsPrinted t (Err c.in-Err.end) (sink_at (g.O.Sink.taken c.args.out.now) (g.O.Sink.faults c.args.out.now)) (sink_at (g.O.Sink.taken c.args.out.now) (g.O.Sink.faults c.args.out.now))) (sym c.in-Err.is) (refl, refl)

pub returns-in-Ok-write_whole : goal.returns-in-Ok-write_whole
returns-in-Ok-write_whole g c =
    subst (λ (t : Result (List ℕ) ClientEnd). IsPrinted t (Ok tt) (sink_at (g.O.Sink.taken c.args.out.now) (g.O.Sink.faults c.args.out.now)) (sink_at (g.O.Sink.taken c.write_whole.new.sink) (g.O.Sink.faults c.write_whole.new.sink))) (sym c.in-Ok.is) (record {
      appends = subst (λ (xs : List ℕ). Appends (g.O.Sink.taken c.args.out.now) (g.O.Sink.taken c.write_whole.new.sink) xs) c.as_slice.ensures c.in-Ok-write_whole.ensures.ok;
      unfailing = c.in-Ok-write_whole.ensures.counted;
    })

pub returns : goal.returns
returns g c =
    let part = c.in-Err-write_whole.ensures.err in
    subst (λ (t : Result (List ℕ) ClientEnd). IsPrinted t (Err client.OutputFault) (sink_at (g.O.Sink.taken c.args.out.now) (g.O.Sink.faults c.args.out.now)) (sink_at (g.O.Sink.taken c.write_whole.new.sink) (g.O.Sink.faults c.write_whole.new.sink))) (sym c.in-Ok.is) (record {
      len = part.0;
      short = subst (λ (xs : List ℕ). part.0 < length xs) c.as_slice.ensures part.1;
      appends = subst (λ (xs : List ℕ). Appends (g.O.Sink.taken c.args.out.now) (g.O.Sink.taken c.write_whole.new.sink) (take part.0 xs)) c.as_slice.ensures part.2;
      rose = c.in-Err-write_whole.ensures.counted;
    })
