use Rattle.std.proofs.Common.{◌≡◌, drop}
use Rattle.std.specs.Prelude.{find, map}
use Rattle.nr_responder.specs.Fetching.{is_sink}
use Rattle.nr_responder.specs.Views.{sink_view}
use Rattle.nr_responder.proofs.sink_regions.sink_place.Given as goal

abbrev pub invariant-sinks : goal.invariant-sinks
invariant-sinks l = record {
  same : find (is_sink l.fn.number l.fn.position) (map sink_view (drop l.i l.fn.sinks)) ≡ find (is_sink l.fn.number l.fn.position) (map sink_view l.fn.sinks);
}
