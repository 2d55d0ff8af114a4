use Rattle.std.proofs.Common.{length}
use Rattle.nr_client.specs.private.JobReads.{AreAsked, IsDone}
use Rattle.nr_client.proofs.fetching.take_all.Given as goal

abbrev pub invariant-pieces : goal.invariant-pieces
invariant-pieces g l =
    IsDone l.shared l._file.uid l._file.gid l._file.handle.now l._file.size l.job × AreAsked l._file.uid l._file.gid l._file.handle.now l._file.size l.job.pass.main l.asked.items

abbrev pub decreases-pieces : goal.decreases-pieces
decreases-pieces g l = length l.asked.items
