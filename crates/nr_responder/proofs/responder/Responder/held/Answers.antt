use Rattle.std.proofs.Common.{◌+◌, ◌*◌, ◌≤◌, length, subst}
use Rattle.nr_header.specs.Constants.{PAYLOAD_MAX}
use Rattle.nr_link.specs.Limits.{open_reads_max}
use Rattle.nr_regions.specs.RegisteredMemory.{bytes_held}
use Rattle.nr_responder.specs.HeldBytes.{held_unit, ListsFit}
use Rattle.nr_responder.specs.ResponderState.{ResponderState}
use Rattle.nr_responder.specs.Rooms.{payload_room}
use Rattle.nr_responder.specs.Sound.{state_of}
use Rattle.nr_responder.proofs.StepBounds.{regions_most}
use Rattle.nr_responder.proofs.responder.Responder.held.Goals as goal

pub returns-clause-rooms : goal.returns-clause-rooms
returns-clause-rooms c = subst (λ (v : ResponderState). v.rooms ≤ payload_room * (2 * length v.side.calls)) c.self.view_is c.held.ensures.rooms

pub returns-clause-regions : goal.returns-clause-regions
returns-clause-regions c =
    subst (λ (v : ResponderState). bytes_held v.side.link.state.memory ≤ PAYLOAD_MAX * (length v.side.calls + open_reads_max)) c.self.view_is (regions_most (state_of c.self.inside.end) c.self.invariant.1.1.0.sinks)

pub returns-clause-bound : goal.returns-clause-bound
returns-clause-bound c = subst (λ (v : ResponderState). c.held.result ≤ held_unit * (v.side.credits.receives + 4)) c.self.view_is c.held.ensures.bound

pub returns-clause-lists : goal.returns-clause-lists
returns-clause-lists c = subst (λ (v : ResponderState). ListsFit v.side) c.self.view_is c.held.ensures.lists
