use Rattle.std.proofs.Common.{◌≡◌, ◌++◌, drop}
use Rattle.nr_endpoint.specs.Offering.{shared_output}
use Rattle.nr_endpoint.proofs.sharing.push_shared_writes.Given as goal

abbrev pub invariant-loop-write : goal.invariant-loop-write
invariant-loop-write l = record { items : l.out.items ++ shared_output (drop l.write-index l.writes) ≡ l.initial.out.items ++ shared_output l.writes }
