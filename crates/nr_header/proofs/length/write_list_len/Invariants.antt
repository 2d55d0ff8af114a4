use Rattle.std.proofs.Common.{◌≡◌, ◌*◌, ◌≤◌, take}
use Rattle.nr_header.specs.Length.{write_list_len}
use Rattle.nr_header.proofs.length.write_list_len.Given as goal

abbrev pub invariant-loop-chunk : goal.invariant-loop-chunk
invariant-loop-chunk l = record {
  so_far : l.total ≡ write_list_len (take l.chunk-index l.chunks);
  bounded : l.total ≤ l.chunk-index * 137438953472;
}
