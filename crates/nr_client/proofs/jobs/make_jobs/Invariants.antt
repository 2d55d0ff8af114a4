use Rattle.std.proofs.Common.{◌≡◌, ◌-◌, length}
use Rattle.std.specs.List.{All}
use Rattle.nr_turnstile.specs.Passes.{mine_of, seen_by}
use Rattle.nr_shared.specs.Sharing.{SharedRests}
use Rattle.nr_client.specs.private.JobReads.{IsReady}
use Rattle.nr_client.proofs.jobs.make_jobs.Given as goal

abbrev pub invariant-jobs : goal.invariant-jobs
invariant-jobs g l =
    SharedRests l.shared l.pass
    × (seen_by l.pass.source ≡ seen_by l.initial.pass.source)
    × (seen_by l.pass.main ≡ seen_by l.initial.pass.main)
    × (mine_of l.pass.main ≡ mine_of l.initial.pass.main)
    × All (IsReady l.shared l.file.uid l.file.gid l.file.handle.now l.file.size) l.made.items

abbrev pub decreases-jobs : goal.decreases-jobs
decreases-jobs g l = l.file.jobs - length l.made.items
