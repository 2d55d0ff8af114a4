use Rattle.std.proofs.Common.{◌≡◌, length}
use Rattle.nr_header.specs.Constants.{READ_SEGMENTS_MAX}
use Rattle.nr_header.specs.Reading.{read_list_at}
use Rattle.nr_header.proofs.Loop.{ReadSoFar}
use Rattle.nr_header.proofs.lists.read_list.Given as goal

abbrev pub invariant-loop : goal.invariant-loop
invariant-loop l = record {
  room : length l.entries ≡ l.counter;
  so_far : ReadSoFar l.entries READ_SEGMENTS_MAX l.counter l.zero_allowed l.seen l.reader (read_list_at READ_SEGMENTS_MAX l.zero_allowed 0 l.initial.reader);
}
