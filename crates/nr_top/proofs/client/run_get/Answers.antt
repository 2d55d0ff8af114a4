use Rattle.std.proofs.Common.{Result, refl, subst}
use Rattle.nr_outside.specs.Streams.{sink_at}
use Rattle.nr_words.specs.Lines.{plain_get}
use Rattle.nr_client.specs.declared.client_end.ClientEnd.{ClientEnd}
use Rattle.nr_client.specs.Dialing.{dialer_at}
use Rattle.nr_commands.specs.ByJobs.{GetsByJobs}
use Rattle.nr_top.specs.Clients.GetEnds.{GetDone, GetNotDone}
use Rattle.nr_top.proofs.client.run_get.Goals as goal

pub returns-in-Ok : goal.returns-in-Ok
returns-in-Ok g c = GetDone refl (subst (λ (r : Result (Unit {0}) ClientEnd). GetsByJobs (plain_get c.args.get.now) (dialer_at (g.D.Dialer.asked c.args.dial.now) (g.D.Dialer.ended c.args.dial.now) (g.D.Dialer.lost c.args.dial.now) (g.D.Dialer.faults c.args.dial.now)) (dialer_at (g.D.Dialer.asked c.get_by_jobs.new.dial) (g.D.Dialer.ended c.get_by_jobs.new.dial) (g.D.Dialer.lost c.get_by_jobs.new.dial) (g.D.Dialer.faults c.get_by_jobs.new.dial)) (sink_at (g.O.Sink.taken c.args.out.now) (g.O.Sink.faults c.args.out.now)) (sink_at (g.O.Sink.taken c.get_by_jobs.new.out) (g.O.Sink.faults c.get_by_jobs.new.out)) r) c.in-Ok.is c.get_by_jobs.ensures) refl

pub returns-in-Err : goal.returns-in-Err
returns-in-Err g c = GetNotDone c.in-Err.end (subst (λ (r : Result (Unit {0}) ClientEnd). GetsByJobs (plain_get c.args.get.now) (dialer_at (g.D.Dialer.asked c.args.dial.now) (g.D.Dialer.ended c.args.dial.now) (g.D.Dialer.lost c.args.dial.now) (g.D.Dialer.faults c.args.dial.now)) (dialer_at (g.D.Dialer.asked c.get_by_jobs.new.dial) (g.D.Dialer.ended c.get_by_jobs.new.dial) (g.D.Dialer.lost c.get_by_jobs.new.dial) (g.D.Dialer.faults c.get_by_jobs.new.dial)) (sink_at (g.O.Sink.taken c.args.out.now) (g.O.Sink.faults c.args.out.now)) (sink_at (g.O.Sink.taken c.get_by_jobs.new.out) (g.O.Sink.faults c.get_by_jobs.new.out)) r) c.in-Err.is c.get_by_jobs.ensures) c.report_end.ensures
