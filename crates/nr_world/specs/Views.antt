-- What the code keeps, as the definitions see it.
use Rattle.std.specs.Prelude.{ℕ, Bool, List, map}
use Rattle.nr_reduce.specs.History.{AcceptedCall}
use Rattle.nr_requester.specs.RequesterState.{RequesterSide}
use Rattle.nr_responder.specs.ResponderState.{ResponderSide}
use Rattle.nr_world.specs.declared.awaited.AwaitedCall.{AwaitedCall}
use Rattle.nr_world.specs.declared.awaited.HeldCall.{HeldCall}
use Rattle.nr_world.specs.Transits.{TransitState}
use Rattle.nr_world.specs.DrillLinkState.{AwaitedLine, DrillLinkState}

abbrev pub line_view : AwaitedCall → AwaitedLine
line_view c = record { xid = c.ticket; index = c.index }

abbrev pub call_view : AwaitedCall → AcceptedCall
call_view c = record { xid = c.ticket; call = c.call; form = c.form }

abbrev pub held_view : HeldCall → AcceptedCall
held_view c = record { xid = c.xid; call = c.call; form = c.form }

abbrev pub link_view : (number : ℕ) → RequesterSide → ResponderSide → (up down : TransitState) → Bool → (lines : ℕ) → List AwaitedCall → List HeldCall → DrillLinkState
link_view number client server up down is_dropped lines awaited waiting = record {
  number = number;
  client = client;
  server = server;
  pipes = record { up = up.waiting; down = down.waiting };
  is_dropped = is_dropped;
  lines = lines;
  awaited = map line_view awaited;
  calls = map call_view awaited;
  waiting = map held_view waiting;
}
