-- What the peers of a link do to each other's memory, and what a client discloses (RFC 5040 section 5).
use Rattle.std.specs.Prelude.{◌≡◌, ℕ, false, List, ◌∷◌, ◌++◌, None, Some, Ok, ◌⊎◌, Contains, slice_get}
use Rattle.nr_wire.specs.declared.hello.Side.TheVariants.{Initiator, Responder}
use Rattle.nr_wire.specs.Segment.{Segment}
use Rattle.nr_regions.specs.Access.{Allowed}
use Rattle.nr_regions.specs.RegisteredMemory.{Access}
use Rattle.nr_link.specs.Frames.{Frame, is_hello}
use Rattle.nr_reduce.specs.Hellos.{client_hello}
use Rattle.nr_link.specs.ReceiveState.{ReadRequest, read_request_of}
use Rattle.nr_link.specs.Ending.{frame_segment, access_of}
use Rattle.nr_reduce.specs.declared.call.Outcome.{Outcome}
use Rattle.nr_reduce.specs.declared.mark.Mark.{Mark}
use Rattle.nr_reduce.specs.declared.mark.Mark.TheVariants as marks
use Rattle.nr_reduce.specs.declared.mark.LinkParameters.{LinkParameters}
use Rattle.nr_reduce.specs.History.{bytes_sent}
use Rattle.nr_reduce.specs.Events.{RunEvent, events}
use Rattle.nr_reduce.specs.Events.RunEvent.{FrameReceived}
use Rattle.nr_reduce.specs.EndRules.{EndMachine, EndState, end_state_after}
use Rattle.nr_reduce.specs.OfferedRegions.{Region, region_grants}
use Rattle.nr_reduce.specs.Client.{client_rules, initial_client}
use Rattle.nr_reduce.specs.Server.{server_rules, initial_server}
use Rattle.nr_reduce.specs.Run.{client, server, grants_of, placed_bytes}
use Rattle.nr_laws.specs.MarkAt.{MarkAt}
use Rattle.nr_laws.specs.Touches.{StopsAt, IsUnchanged}
use Rattle.nr_laws.specs.PlacedBytes.{HoldsAllowed}
use Rattle.nr_laws.specs.HandedBack.{IsHandedBack}
use Rattle.nr_laws.specs.Sent.{IsSentFor}

-- Each access of a frame to a side's memory is allowed by a region that the side offers at that frame for this access, or the frame ends the side.
abbrev pub IsTouched : {S : Type 0} → EndMachine S → (S → List Region) → (initial : EndState S) → (received : List RunEvent) → (after : EndState S) → Type 0
IsTouched {S = S} rules regions initial received after = (earlier later : List RunEvent) (f : Frame) (segment : Segment) (access : Access) →
    (let before : EndState S = end_state_after rules initial earlier in
    received ≡ earlier ++ FrameReceived f ∷ later → before.ended ≡ None → is_hello f ≡ false → frame_segment f ≡ Ok segment → access_of segment ≡ Some access →
    Allowed (region_grants f.end (regions before.state)) access f.end ⊎ StopsAt rules before f after)

-- Whatever the peer sends. A Read Request ends a server, so it discloses nothing. Each byte of a region is the one that was registered, or one
-- that an allowed frame brought. Each byte that a client has sent is of its hello, of the Send of an accepted call, of its last output, or of the
-- response to a Read Request that is allowed. What a Revoke gives back is what the regions held then; what a Done hands back is what the regions of
-- its call held at the end of the frame that completed the call's message. Nothing later changes either.
pub record KeepsMemory (opened : LinkParameters) (link : ℕ) (run : List Mark) : Type 0 where
  pub client_touched : IsTouched (client_rules opened) (λ s. s.regions) (initial_client opened) (events link Initiator run) (client opened link run)
  pub server_touched : IsTouched (server_rules opened) (λ s. s.regions) (initial_server opened) (events link Responder run) (server opened link run)
  pub server_read : (earlier later : List RunEvent) (f : Frame) (segment : Segment) (request : ReadRequest) → events link Responder run ≡ earlier ++ FrameReceived f ∷ later →
      (end_state_after (server_rules opened) (initial_server opened) earlier).ended ≡ None → is_hello f ≡ false → frame_segment f ≡ Ok segment → read_request_of segment ≡ Some request →
      StopsAt (server_rules opened) (end_state_after (server_rules opened) (initial_server opened) earlier) f (server opened link run)
  pub client_holds : (r : Region) → Contains (client opened link run).state.regions r →
      HoldsAllowed (client_rules opened) (initial_client opened) (events link Initiator run) (grants_of opened link Initiator run) r (placed_bytes opened link Initiator run r.stag)
  pub server_holds : (r : Region) → Contains (server opened link run).state.regions r →
      HoldsAllowed (server_rules opened) (initial_server opened) (events link Responder run) (grants_of opened link Responder run) r (placed_bytes opened link Responder run r.stag)
  pub disclosed : (offset byte : ℕ) → slice_get (bytes_sent link Initiator run) offset ≡ Some byte →
      (slice_get (client_hello opened) offset ≡ Some byte) ⊎ IsSentFor opened (events link Initiator run) offset byte
  pub revoked : (before : List Mark) (xid : ℕ) (bytes : List ℕ) → MarkAt run before (marks.Revoke link xid bytes) → IsUnchanged opened link run before xid bytes
  pub done : (before : List Mark) (xid : ℕ) (outcome : Outcome) (r : Region) → MarkAt run before (marks.Done link xid outcome) →
      Contains (client opened link before).state.regions r → r.call ≡ xid → IsHandedBack opened link run before r
