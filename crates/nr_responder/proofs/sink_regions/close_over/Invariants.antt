use Rattle.std.proofs.Common.{◌≡◌, ℕ, ◌+◌, ◌≤◌, ◌++◌, length, take, drop, All}
use Rattle.std.specs.Prelude.{map}
use Rattle.nr_header.specs.Constants.{PAYLOAD_MAX}
use Rattle.nr_responder.specs.private.Reading.{left_sinks, over_sinks, with_released}
use Rattle.nr_regions.specs.RegisteredMemory.{AreHeldFrom}
use Rattle.nr_responder.specs.Sound.{HasOutside, KeepsOutside, claims_of}
use Rattle.nr_responder.specs.Views.{call_view, read_view, sink_view}
use Rattle.nr_responder.proofs.sink_regions.close_over.Given as goal

abbrev pub invariant-sinks : goal.invariant-sinks
invariant-sinks l = record {
  left : take l.at (map sink_view l.sinks.items) ++ left_sinks (map call_view l.fn.calls) (map read_view l.fn.reads) (drop l.at (map sink_view l.sinks.items)) ≡ left_sinks (map call_view l.fn.calls) (map read_view l.fn.reads) (map sink_view l.fn.sinks.items);
  link : with_released (over_sinks (map call_view l.fn.calls) (map read_view l.fn.reads) (drop l.at (map sink_view l.sinks.items))) l.endpoint.link ≡ with_released (over_sinks (map call_view l.fn.calls) (map read_view l.fn.reads) (map sink_view l.fn.sinks.items)) l.fn.endpoint.link;
  count : length l.sinks.items + l.counter ≡ l.at + length l.fn.sinks.items;
  held : AreHeldFrom l.endpoint.link.state.memory 0 (claims_of l.sinks.items);
  short : All (λ s. s.registration.len ≤ PAYLOAD_MAX) l.sinks.items;
  outside : (n : ℕ) → HasOutside l.fn.endpoint n → HasOutside l.endpoint n;
  kept : KeepsOutside l.fn.endpoint l.endpoint;
  staging : l.endpoint.staging ≡ l.fn.endpoint.staging;
}
