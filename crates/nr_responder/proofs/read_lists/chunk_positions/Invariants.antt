use Rattle.std.proofs.Common.{◌≡◌, take}
use Rattle.std.specs.List.{filter}
use Rattle.nr_reduce.specs.Chunks.{positions}
use Rattle.nr_responder.specs.private.CallsRead.{has_bytes_at}
use Rattle.nr_responder.proofs.read_lists.chunk_positions.Given as goal

abbrev pub invariant-entries : goal.invariant-entries
invariant-entries l = record {
  chunks : l.chunks.items ≡ filter (has_bytes_at l.fn.read) (positions (take l.i l.fn.read));
}
