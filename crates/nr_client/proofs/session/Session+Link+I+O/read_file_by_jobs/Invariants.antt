use Rattle.std.specs.Prelude.{None}
use Rattle.nr_shared.specs.declared.entry.Entry.TheVariants as entries
use Rattle.nr_client.specs.Jobs.{FileReads}
use Rattle.nr_client.proofs.session.Session+Link+I+O.read_file_by_jobs.Given as goal

abbrev pub ghosts-read_shared-N-Appended : goal.ghosts-read_shared-N-Appended
ghosts-read_shared-N-Appended g a = record { entry = entries.Initial (record { requester = a.link.requester; sink = record { link = 0; faults = g.O.Sink.faults a.link.sink.sink; taken = g.O.Sink.taken a.link.sink.sink }; tries = None }) }

abbrev pub ghosts-read_shared-C-CallRule : goal.ghosts-read_shared-C-CallRule
ghosts-read_shared-C-CallRule g a = record { allows = FileReads a.file.now.uid a.file.now.gid a.file.now.handle.now a.file.now.size }
