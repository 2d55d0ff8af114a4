use Rattle.std.proofs.Common.{Result, refl, subst}
use Rattle.nr_outside.specs.Streams.{sink_at, source_at}
use Rattle.nr_words.specs.Lines.{plain_client}
use Rattle.nr_client.specs.declared.client_end.ClientEnd.{ClientEnd}
use Rattle.nr_client.specs.Dialing.{dialer_at}
use Rattle.nr_commands.specs.Running.{Runs}
use Rattle.nr_top.specs.Clients.ClientEnds.{Done, NotDone}
use Rattle.nr_top.proofs.client.run_client.Goals as goal

pub returns-in-Ok : goal.returns-in-Ok
returns-in-Ok g c = Done refl (subst (λ (r : Result (Unit {0}) ClientEnd). Runs (plain_client c.args.client.now) (dialer_at (g.D.Dialer.asked c.args.dial.now) (g.D.Dialer.ended c.args.dial.now) (g.D.Dialer.lost c.args.dial.now) (g.D.Dialer.faults c.args.dial.now)) (dialer_at (g.D.Dialer.asked c.run_command.new.dial) (g.D.Dialer.ended c.run_command.new.dial) (g.D.Dialer.lost c.run_command.new.dial) (g.D.Dialer.faults c.run_command.new.dial)) (source_at (g.I.Source.left c.args.input.now) (g.I.Source.given c.args.input.now) (g.I.Source.faults c.args.input.now)) (source_at (g.I.Source.left c.run_command.new.input) (g.I.Source.given c.run_command.new.input) (g.I.Source.faults c.run_command.new.input)) (sink_at (g.O.Sink.taken c.args.out.now) (g.O.Sink.faults c.args.out.now)) (sink_at (g.O.Sink.taken c.run_command.new.out) (g.O.Sink.faults c.run_command.new.out)) r) c.in-Ok.is c.run_command.ensures) refl

pub returns-in-Err : goal.returns-in-Err
returns-in-Err g c = NotDone c.in-Err.end (subst (λ (r : Result (Unit {0}) ClientEnd). Runs (plain_client c.args.client.now) (dialer_at (g.D.Dialer.asked c.args.dial.now) (g.D.Dialer.ended c.args.dial.now) (g.D.Dialer.lost c.args.dial.now) (g.D.Dialer.faults c.args.dial.now)) (dialer_at (g.D.Dialer.asked c.run_command.new.dial) (g.D.Dialer.ended c.run_command.new.dial) (g.D.Dialer.lost c.run_command.new.dial) (g.D.Dialer.faults c.run_command.new.dial)) (source_at (g.I.Source.left c.args.input.now) (g.I.Source.given c.args.input.now) (g.I.Source.faults c.args.input.now)) (source_at (g.I.Source.left c.run_command.new.input) (g.I.Source.given c.run_command.new.input) (g.I.Source.faults c.run_command.new.input)) (sink_at (g.O.Sink.taken c.args.out.now) (g.O.Sink.faults c.args.out.now)) (sink_at (g.O.Sink.taken c.run_command.new.out) (g.O.Sink.faults c.run_command.new.out)) r) c.in-Err.is c.run_command.ensures) c.report_end.ensures
