use Rattle.std.proofs.Common.{◌≡◌, ◌+◌, ◌*◌, ◌≤◌, drop}
use Rattle.std.specs.Prelude.{sum_by}
use Rattle.nr_responder.specs.Rooms.{payload_room}
use Rattle.nr_responder.specs.Sound.{payload_len}
use Rattle.nr_responder.proofs.counting.payloads_len.Given as goal

abbrev pub invariant-ready : goal.invariant-ready
invariant-ready l = record {
  sum : l.total + sum_by (λ q. payload_len q.payload) (drop l.i l.fn.ready.items) ≡ sum_by (λ q. payload_len q.payload) l.fn.ready.items;
  most : l.total ≤ payload_room * l.i;
}
