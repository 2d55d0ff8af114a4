use Rattle.std.proofs.Common.{◌≡◌, ◌-◌}
use Rattle.nr_turnstile.specs.Passes.{seen_by}
use Rattle.nr_shared.specs.Sharing.{SharedRests}
use Rattle.nr_client.specs.private.JobReads.{Grows, ReadsMore}
use Rattle.nr_client.proofs.jobs.read_rounds.Given as goal

abbrev pub invariant-rounds : goal.invariant-rounds
invariant-rounds g l =
    SharedRests l.shared l.pass
    × (seen_by l.pass.source ≡ seen_by l.initial.pass.source)
    × Grows l.initial.pass.main l.pass.main
    × (g.K.Sink.faults l.out ≡ g.K.Sink.faults l.initial.out)
    × ReadsMore l.file.uid l.file.gid l.file.handle.now l.file.size 0 l.at l.initial.pass.main l.pass.main (g.K.Sink.taken l.initial.out) (g.K.Sink.taken l.out)

abbrev pub decreases-rounds : goal.decreases-rounds
decreases-rounds g l = l.file.size - l.at
