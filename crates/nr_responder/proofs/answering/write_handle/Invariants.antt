use Rattle.std.proofs.Common.{length, drop, ◌-◌, ◌≡◌, ◌≤◌}
use Rattle.std.specs.List.{flat_map}
use Rattle.nr_reduce.specs.Server.{first_handle}
use Rattle.nr_responder.proofs.answering.write_handle.Given as goal

abbrev pub invariant-loop-at : goal.invariant-loop-at
invariant-loop-at l = record {
  within : l.at ≤ length l.chunks;
  left : first_handle (flat_map (λ chunk. chunk) (drop l.at l.chunks)) ≡ first_handle (flat_map (λ chunk. chunk) l.chunks);
}

abbrev pub decreases-loop-at : goal.decreases-loop-at
decreases-loop-at l = length l.chunks - l.at
