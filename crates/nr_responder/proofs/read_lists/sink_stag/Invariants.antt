use Rattle.std.proofs.Common.{◌≡◌, ℕ, ◌+◌, drop}
use Rattle.nr_header.specs.declared.header.ChunkLists.{ChunkLists}
use Rattle.nr_reduce.specs.ServerReads.{regions_from, sink_of}
use Rattle.nr_responder.proofs.read_lists.sink_stag.Given as goal

abbrev pub invariant-chunks : goal.invariant-chunks
invariant-chunks l = record {
  same : (number : ℕ) (lists : ChunkLists) → sink_of (regions_from number 0 (l.fn.next + l.i) lists (drop l.i l.fn.chunks)) number l.fn.position ≡ sink_of (regions_from number 0 l.fn.next lists l.fn.chunks) number l.fn.position;
}
