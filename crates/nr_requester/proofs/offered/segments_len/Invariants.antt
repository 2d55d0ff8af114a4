use Rattle.std.proofs.Common.{◌≡◌, ◌+◌, ◌*◌, ◌≤◌, drop, length}
use Rattle.std.specs.List.{sum_by}
use Rattle.nr_requester.proofs.offered.segments_len.Given as goal

abbrev pub invariant-loop-chunk : goal.invariant-loop-chunk
invariant-loop-chunk l = record {
  left : l.sum + sum_by (λ chunk. length chunk) (drop l.chunk-index l.chunks) ≡ sum_by (λ chunk. length chunk) l.chunks;
  bounded : l.sum ≤ l.chunk-index * 18446744073709551616;
}
