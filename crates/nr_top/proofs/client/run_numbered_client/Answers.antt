use Rattle.std.proofs.Common.{Result, refl, subst}
use Rattle.nr_outside.specs.Streams.{sink_at, source_at}
use Rattle.nr_words.specs.Lines.{plain_numbered}
use Rattle.nr_client.specs.declared.client_end.ClientEnd.{ClientEnd}
use Rattle.nr_client.specs.Dialing.{dialer_at}
use Rattle.nr_commands.specs.NumberedRuns.{RunsNumbered}
use Rattle.nr_top.specs.Clients.NumberedEnds.{NumberedDone, NumberedNotDone}
use Rattle.nr_top.proofs.client.run_numbered_client.Goals as goal

pub returns-in-Ok : goal.returns-in-Ok
returns-in-Ok g c = NumberedDone refl (subst (λ (r : Result (Unit {0}) ClientEnd). RunsNumbered (plain_numbered c.args.numbered.now) (dialer_at (g.D.Dialer.asked c.args.dial.now) (g.D.Dialer.ended c.args.dial.now) (g.D.Dialer.lost c.args.dial.now) (g.D.Dialer.faults c.args.dial.now)) (dialer_at (g.D.Dialer.asked c.run_numbered.new.dial) (g.D.Dialer.ended c.run_numbered.new.dial) (g.D.Dialer.lost c.run_numbered.new.dial) (g.D.Dialer.faults c.run_numbered.new.dial)) (source_at (g.I.Source.left c.args.input.now) (g.I.Source.given c.args.input.now) (g.I.Source.faults c.args.input.now)) (source_at (g.I.Source.left c.run_numbered.new.input) (g.I.Source.given c.run_numbered.new.input) (g.I.Source.faults c.run_numbered.new.input)) (sink_at (g.O.Sink.taken c.args.out.now) (g.O.Sink.faults c.args.out.now)) (sink_at (g.O.Sink.taken c.run_numbered.new.out) (g.O.Sink.faults c.run_numbered.new.out)) r) c.in-Ok.is c.run_numbered.ensures) refl

pub returns-in-Err : goal.returns-in-Err
returns-in-Err g c = NumberedNotDone c.in-Err.end (subst (λ (r : Result (Unit {0}) ClientEnd). RunsNumbered (plain_numbered c.args.numbered.now) (dialer_at (g.D.Dialer.asked c.args.dial.now) (g.D.Dialer.ended c.args.dial.now) (g.D.Dialer.lost c.args.dial.now) (g.D.Dialer.faults c.args.dial.now)) (dialer_at (g.D.Dialer.asked c.run_numbered.new.dial) (g.D.Dialer.ended c.run_numbered.new.dial) (g.D.Dialer.lost c.run_numbered.new.dial) (g.D.Dialer.faults c.run_numbered.new.dial)) (source_at (g.I.Source.left c.args.input.now) (g.I.Source.given c.args.input.now) (g.I.Source.faults c.args.input.now)) (source_at (g.I.Source.left c.run_numbered.new.input) (g.I.Source.given c.run_numbered.new.input) (g.I.Source.faults c.run_numbered.new.input)) (sink_at (g.O.Sink.taken c.args.out.now) (g.O.Sink.faults c.args.out.now)) (sink_at (g.O.Sink.taken c.run_numbered.new.out) (g.O.Sink.faults c.run_numbered.new.out)) r) c.in-Err.is c.run_numbered.ensures) c.report_end.ensures
