use Rattle.std.proofs.Common.{◌≡◌, ℕ, ◌+◌, ◌<◌, ◌≤◌, ◌++◌, length, map, drop, All}
use Rattle.std.specs.Prelude.{vec_capacity}
use Rattle.std.specs.FinMap.{get}
use Rattle.nr_header.specs.Constants.{PAYLOAD_MAX}
use Rattle.nr_responder.specs.Fetching.{open_sinks}
use Rattle.nr_responder.specs.private.CallsRead.{sink_buffer, sinks_from, with_registered}
use Rattle.nr_regions.specs.RegisteredMemory.{AreHeldFrom}
use Rattle.nr_responder.specs.Sound.{HasOutside, claims_of}
use Rattle.nr_responder.specs.Views.{sink_view}
use Rattle.nr_responder.proofs.registering.register_sinks.Given as goal

abbrev pub invariant-chunks : goal.invariant-chunks
invariant-chunks l = record {
  link : with_registered (sinks_from l.fn.number l.endpoint.link.state.memory.next l.fn.read (drop l.i l.fn.chunks)) l.endpoint.link ≡ with_registered (sinks_from l.fn.number l.fn.endpoint.link.state.memory.next l.fn.read l.fn.chunks) l.fn.endpoint.link;
  sinks : map sink_view l.sinks.items ++ open_sinks (sinks_from l.fn.number l.endpoint.link.state.memory.next l.fn.read (drop l.i l.fn.chunks))
      ≡ map sink_view l.fn.sinks.items ++ open_sinks (sinks_from l.fn.number l.fn.endpoint.link.state.memory.next l.fn.read l.fn.chunks);
  buffers : l.buffers.items ≡ map (sink_buffer l.fn.read) (drop l.i l.fn.chunks);
  next : l.endpoint.link.state.memory.next ≡ l.fn.endpoint.link.state.memory.next + l.i;
  room : length l.fn.chunks ≤ l.endpoint.room + l.i;
  capacity : vec_capacity l.sinks ≡ vec_capacity l.fn.sinks;
  count : length l.sinks.items ≡ length l.fn.sinks.items + l.i;
  held : AreHeldFrom l.endpoint.link.state.memory 0 (claims_of l.sinks.items);
  short : All (λ s. s.registration.len ≤ PAYLOAD_MAX) l.sinks.items;
  outside : (n : ℕ) → HasOutside l.fn.endpoint n → HasOutside l.endpoint n;
  kept : (stag : ℕ) → stag < l.fn.endpoint.link.state.memory.next → get l.endpoint.outside stag ≡ get l.fn.endpoint.outside stag;
  staging : l.endpoint.staging ≡ l.fn.endpoint.staging;
}
