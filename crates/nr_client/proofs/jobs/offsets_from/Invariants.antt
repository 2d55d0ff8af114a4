use Rattle.std.proofs.Common.{◌<◌, ℕ}
use Rattle.std.specs.List.{All}
use Rattle.nr_client.proofs.jobs.offsets_from.Given as goal

abbrev pub invariant-offsets : goal.invariant-offsets
invariant-offsets l = All (λ (n : ℕ). n < l.size) l.offsets.items

abbrev pub decreases-offsets : goal.decreases-offsets
decreases-offsets l = l.left
