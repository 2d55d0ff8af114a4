use Rattle.std.proofs.Common.{◌≡◌, ◌+◌, ◌*◌, ◌≤◌, drop}
use Rattle.std.specs.Prelude.{sum_by}
use Rattle.nr_responder.specs.Rooms.{payload_room}
use Rattle.nr_responder.specs.Sound.{room_len}
use Rattle.nr_responder.proofs.counting.rooms_len.Given as goal

abbrev pub invariant-calls : goal.invariant-calls
invariant-calls l = record {
  sum : l.total + sum_by (λ c. room_len c.room) (drop l.i l.fn.calls) ≡ sum_by (λ c. room_len c.room) l.fn.calls;
  most : l.total ≤ payload_room * l.i;
}
