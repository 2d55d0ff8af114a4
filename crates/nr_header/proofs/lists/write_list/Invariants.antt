use Rattle.std.proofs.Common.{◌≡◌, length}
use Rattle.nr_header.specs.Constants.{WRITE_CHUNKS_MAX}
use Rattle.nr_header.specs.Reading.{write_list_at}
use Rattle.nr_header.proofs.Loop.{WriteSoFar}
use Rattle.nr_header.proofs.lists.write_list.Given as goal

abbrev pub invariant-loop : goal.invariant-loop
invariant-loop l = record {
  room : length l.chunks ≡ l.counter;
  so_far : WriteSoFar l.chunks WRITE_CHUNKS_MAX l.counter l.reader (write_list_at WRITE_CHUNKS_MAX l.initial.reader);
}
