use Rattle.std.proofs.Common.{◌≡◌, ◌-◌}
use Rattle.nr_turnstile.specs.Passes.{seen_by}
use Rattle.nr_shared.specs.Sharing.{SharedRests}
use Rattle.nr_client.specs.private.JobReads.{Grows, IsUpTo, ReadsMore}
use Rattle.nr_client.proofs.written_pieces.read_rest.Given as goal

abbrev pub invariant-rest : goal.invariant-rest
invariant-rest g l =
    IsUpTo l.file.size l.at l.end
    × SharedRests l.shared l.pass
    × (seen_by l.pass.source ≡ seen_by l.initial.pass.source)
    × Grows l.initial.pass.main l.pass.main
    × (g.K.Sink.faults l.out ≡ g.K.Sink.faults l.initial.out)
    × ReadsMore l.file.uid l.file.gid l.file.handle.now l.file.size l.initial.at l.at l.initial.pass.main l.pass.main (g.K.Sink.taken l.initial.out) (g.K.Sink.taken l.out)

abbrev pub decreases-rest : goal.decreases-rest
decreases-rest g l = l.end - l.at
