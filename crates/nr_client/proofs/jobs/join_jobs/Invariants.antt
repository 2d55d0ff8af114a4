use Rattle.std.proofs.Common.{◌≡◌, length, ℕ, List}
use Rattle.std.specs.List.{All}
use Rattle.nr_turnstile.specs.Passes.{mine_of, seen_by}
use Rattle.nr_shared.specs.Sharing.{SharedRests}
use Rattle.nr_client.specs.private.JobReads.{AreFetched, Grows, IsDone}
use Rattle.nr_client.proofs.jobs.join_jobs.Given as goal

abbrev pub invariant-jobs : goal.invariant-jobs
invariant-jobs g l =
    SharedRests l.shared l.pass
    × All (λ j. SharedRests l.shared j.pass) l.made.items
    × (seen_by l.pass.source ≡ seen_by l.initial.pass.source)
    × Grows l.initial.pass.main l.pass.main
    × ((uid gid size : ℕ) (file : List ℕ) → All (IsDone l.shared uid gid file size) l.initial.made.items
    → All (IsDone l.shared uid gid file size) l.made.items × All (λ list. AreFetched uid gid file size (seen_by l.pass.main) (mine_of l.pass.main) list.items) l.lists.items)

abbrev pub decreases-jobs : goal.decreases-jobs
decreases-jobs g l = length l.made.items
