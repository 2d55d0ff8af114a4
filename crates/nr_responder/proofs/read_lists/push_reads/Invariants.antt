use Rattle.std.proofs.Common.{◌≡◌, ◌≤◌, ◌++◌, [], length, map, take, drop}
use Rattle.nr_header.specs.declared.header.ChunkLists.{ChunkLists}
use Rattle.nr_reduce.specs.ServerReads.{regions_from, reads_from}
use Rattle.nr_responder.specs.Views.{read_view}
use Rattle.nr_responder.proofs.read_lists.push_reads.Given as goal

abbrev pub invariant-entries : goal.invariant-entries
invariant-entries l = record {
  reads : (lists : ChunkLists) → map read_view l.entries.items ++ reads_from (regions_from l.fn.number 0 l.fn.next lists l.fn.chunks) l.fn.number (take l.i l.fn.read) (drop l.i l.fn.read)
      ≡ map read_view l.fn.entries.items ++ reads_from (regions_from l.fn.number 0 l.fn.next lists l.fn.chunks) l.fn.number [] l.fn.read;
  front : take (length l.fn.entries.items) l.entries.items ≡ l.fn.entries.items;
  more : length l.fn.entries.items ≤ length l.entries.items;
}
