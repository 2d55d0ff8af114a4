use Rattle.std.proofs.Common.{◌≡◌, ◌-◌, length}
use Rattle.nr_client.specs.private.JobReads.{AreAsked, IsDone}
use Rattle.nr_client.proofs.fetching.ask_all.Given as goal

abbrev pub invariant-pieces : goal.invariant-pieces
invariant-pieces g l =
    (l.job.offsets ≡ l.initial.job.offsets)
    × IsDone l.shared l.file.uid l.file.gid l.file.handle.now l.file.size l.job
    × AreAsked l.file.uid l.file.gid l.file.handle.now l.file.size l.job.pass.main l.asked.items

abbrev pub decreases-pieces : goal.decreases-pieces
decreases-pieces g l = length l.job.offsets.items - l.next
