use Rattle.std.proofs.Common.{◌≡◌, ◌+◌, take, length, sum_by}
use Rattle.nr_header.specs.Constants.{WRITE_SEGMENTS_MAX}
use Rattle.nr_header.proofs.reading.passes_segments.Given as goal

abbrev pub invariant-loop-chunk : goal.invariant-loop-chunk
invariant-loop-chunk l = l.room + sum_by (λ chunk. length chunk) (take l.chunk-index l.write) ≡ WRITE_SEGMENTS_MAX
