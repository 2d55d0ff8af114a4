use Rattle.nr_outside.specs.Streams.{sink_at, source_at}
use Rattle.nr_commands.proofs.by_jobs.read_and_close.Goals as goal

pub returns : goal.returns
returns g c = record {
  source = source_at (g.P.Source.left c.read_file_by_jobs-result.result.1.source) (g.P.Source.given c.read_file_by_jobs-result.result.1.source) (g.P.Source.faults c.read_file_by_jobs-result.result.1.source);
  sink = sink_at (g.Q.Sink.taken c.read_file_by_jobs-result.result.2.sink) (g.Q.Sink.faults c.read_file_by_jobs-result.result.2.sink);
  reads = c.read_file_by_jobs-result.ensures.reads;
  out_count = c.read_file_by_jobs-result.ensures.out_faults;
  hangs_up = record { ends = c.hang_up.ensures.ended; lost = c.hang_up.ensures.lost; asked = c.hang_up.ensures.asked; unfailing = c.hang_up.ensures.faults };
}
