use Rattle.std.proofs.Common.{◌≡◌, ◌<◌, ◌≤◌, ◌⊎◌}
use Rattle.std.specs.List.{All}
use Rattle.nr_turnstile.specs.Passes.{mine_of, seen_by}
use Rattle.nr_shared.specs.Sharing.{SharedRests}
use Rattle.nr_client.specs.private.JobReads.{AreFetched, Grows, ReadsMore}
use Rattle.nr_client.proofs.jobs.read_round.Given as goal

abbrev pub invariant-pieces : goal.invariant-pieces
invariant-pieces g l =
    SharedRests l.shared l.pass
    × (seen_by l.pass.source ≡ seen_by l.fn.pass.source)
    × Grows l.fn.pass.main l.pass.main
    × All (λ list. AreFetched l.file.uid l.file.gid l.file.handle.now l.file.size (seen_by l.pass.main) (mine_of l.pass.main) list.items) l.lists.items
    × (l.fn.at ≤ l.at)
    × ((l.fn.at < l.at) ⊎ (0 < l.left))
    × (g.K.Sink.faults l.out ≡ g.K.Sink.faults l.fn.out)
    × ReadsMore l.file.uid l.file.gid l.file.handle.now l.file.size l.fn.at l.at l.fn.pass.main l.pass.main (g.K.Sink.taken l.fn.out) (g.K.Sink.taken l.out)

abbrev pub decreases-pieces : goal.decreases-pieces
decreases-pieces g l = l.left
