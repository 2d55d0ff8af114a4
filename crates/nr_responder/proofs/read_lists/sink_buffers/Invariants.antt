use Rattle.std.proofs.Common.{◌≡◌, map, take}
use Rattle.nr_responder.specs.private.CallsRead.{sink_buffer}
use Rattle.nr_responder.proofs.read_lists.sink_buffers.Given as goal

abbrev pub invariant-chunks : goal.invariant-chunks
invariant-chunks l = record {
  buffers : l.buffers.items ≡ map (sink_buffer l.fn.read) (take l.i l.fn.chunks);
}
