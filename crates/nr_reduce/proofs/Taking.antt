-- What a client keeps after a complete frame that doesn't end it.
use Rattle.std.proofs.Common.{◌≡◌, ℕ, ◌<◌, ◌≤◌, Bool, cond, List, [], ◌∷◌, ◌++◌, Option, None, Some, Result, Ok, refl, sym, subst, arith, append-nil}
use Rattle.nr_wire.specs.Segment.{Segment}
use Rattle.nr_wire.specs.Segment.Segment.{Tagged, Untagged}
use Rattle.nr_regions.specs.Access.{TaggedSegment}
use Rattle.nr_link.specs.declared.end.End.{End}
use Rattle.nr_link.specs.Frames.{Frame}
use Rattle.nr_link.specs.Ending.{kind_of}
use Rattle.nr_link.specs.ReceiveState.{ReceiveState, ReadRequest, received_after, message_completed, read_request_of}
use Rattle.nr_reduce.specs.declared.mark.LinkParameters.{LinkParameters}
use Rattle.nr_reduce.specs.Events.RunEvent.{FrameReceived}
use Rattle.nr_reduce.specs.EndRules.{next_end_state_by, live}
use Rattle.nr_reduce.specs.ClientState.{ClientState}
use Rattle.nr_reduce.specs.Client.{client_rules, client_state_after, with_message, with_request, with_segment, with_hello, due_with_response, client_segment}
use Rattle.nr_reduce.specs.KeptClient.{KeptClient, ClientKeeps, CallsKeep, MemoryKeeps, kept_placed, kept_by_message, kept_received, NoneWaitsFor}
use Rattle.nr_reduce.specs.KeptCalls.{numbered_calls}
use Rattle.nr_reduce.specs.StandingLaws.{KeptTakes, KeptEnds}
use Rattle.nr_reduce.proofs.Closing.{kept_alike}
use Rattle.nr_reduce.proofs.Releasing.{keeps_live, kept_stays, kept_completes}
use Rattle.nr_reduce.proofs.Submits.{kept_places}

-- what is received so far of a message, and which Read Responses are due, isn't kept here
same_keeps : (opened : LinkParameters) (kept : KeptClient) (k : ClientState) (count : ℕ) (received : ReceiveState) (due : ℕ) (ends : List ℕ) → ClientKeeps opened kept (live k) count →
    ClientKeeps opened kept (live (record k { received = received; due = due; response_ends = ends })) count
same_keeps opened kept k count received due ends keeps =
    let calls : CallsKeep kept.calls kept.next_xid k = keeps.calls refl in
    let memory : MemoryKeeps kept.memory k count = keeps.memory refl in
    let after : ClientState = record k { received = received; due = due; response_ends = ends } in
    keeps_live opened kept after count keeps.ended keeps.xid keeps.sends keeps.grant keeps.up keeps.down keeps.invalidates keeps.opening keeps.outstanding keeps.accesses
    (record { next = memory.next; offered = memory.offered; holds = memory.holds; none_dead = memory.none_dead; below = memory.below })
    (record {
      kept = kept_alike k after kept.calls (numbered_calls k) (record { written = refl; ends = refl }) calls.kept;
      rising = calls.rising;
      owned = calls.owned;
      opens = calls.opens;
    })

request_keeps : (opened : LinkParameters) (kept : KeptClient) (m : ClientState) (count : ℕ) (received : ReceiveState) (due : ℕ) (q : Option ReadRequest) → ClientKeeps opened kept (live m) count →
    ClientKeeps opened kept (live (record (with_request m due q) { received = received })) count
request_keeps opened kept m count received due None keeps = same_keeps opened kept m count received m.due m.response_ends keeps
request_keeps opened kept m count received due (Some q) keeps = same_keeps opened kept m count received due (m.response_ends ++ due ∷ []) keeps

message_keeps : (opened : LinkParameters) (kept : KeptClient) (k : ClientState) (count place : ℕ) (o : Option (List ℕ)) → ClientKeeps opened kept (live k) count → count ≤ place → NoneWaitsFor k o →
    ClientKeeps opened (kept_by_message kept o) (live (with_message k place o)) place
message_keeps opened kept k count place None keeps le others = kept_stays opened kept (live k) count place keeps le
message_keeps opened kept k count place (Some message) keeps le others = kept_completes opened kept k count place message keeps le others

-- a segment without an access
plain_keeps : (opened : LinkParameters) (kept : KeptClient) (k : ClientState) (count place due : ℕ) (received : ReceiveState) (o : Option (List ℕ)) (q : Option ReadRequest) → ClientKeeps opened kept (live k) count → count ≤ place → NoneWaitsFor k o →
    ClientKeeps opened (kept_by_message kept o) (live (record (with_request (with_message k place o) due q) { received = received; accesses_received = k.accesses_received })) place
plain_keeps opened kept k count place due received None None keeps le others = request_keeps opened kept k place received due None (message_keeps opened kept k count place None keeps le others)
plain_keeps opened kept k count place due received None (Some q) keeps le others = request_keeps opened kept k place received due (Some q) (message_keeps opened kept k count place None keeps le others)
plain_keeps opened kept k count place due received (Some m) None keeps le others =
    request_keeps opened (kept_by_message kept (Some m)) (with_message k place (Some m)) place received due None (message_keeps opened kept k count place (Some m) keeps le others)
plain_keeps opened kept k count place due received (Some m) (Some q) keeps le others =
    request_keeps opened (kept_by_message kept (Some m)) (with_message k place (Some m)) place received due (Some q) (message_keeps opened kept k count place (Some m) keeps le others)

segment_keeps : (opened : LinkParameters) (kept : KeptClient) (k : ClientState) (count : ℕ) (f : Frame) (segment : Segment) → ClientKeeps opened kept (live k) count → count < f.end → NoneWaitsFor k (message_completed k.received segment) →
    ClientKeeps opened (kept_received kept k.received f segment) (live (with_segment k f (Ok segment))) f.end
segment_keeps opened kept k count f (Tagged last opcode stag to payload) keeps lt others =
    let access : TaggedSegment = record { kind = kind_of opcode; stag = stag; to = to; payload = payload; end = f.end } in
    request_keeps opened (kept_placed kept access) (record k { accesses_received = k.accesses_received ++ access ∷ [] }) f.end (received_after k.received (Tagged last opcode stag to payload)) k.due None
    (kept_places opened kept k count access keeps lt)
segment_keeps opened kept k count f (Untagged last opcode w queue msn offset payload) keeps lt others =
    let segment : Segment = Untagged last opcode w queue msn offset payload in
    let message : Option (List ℕ) = message_completed k.received segment in
    let due : ℕ = due_with_response k f segment in
    let received : ReceiveState = received_after k.received segment in
    let request : Option ReadRequest = read_request_of segment in
    subst (λ (xs : List TaggedSegment). ClientKeeps opened (kept_by_message kept message) (live (record (with_request (with_message k f.end message) due request) { received = received; accesses_received = xs })) f.end)
    (sym (append-nil k.accesses_received))
    (plain_keeps opened kept k count f.end due received message request keeps (omega (arith, lt)) others)

pub kept_takes : KeptTakes
unfolding client_state_after
kept_takes opened kept k count f segment keeps lt other is lives others =
    subst (λ (x : Option End). ClientKeeps opened (kept_received kept k.received f segment) (next_end_state_by (client_rules opened) k (FrameReceived f) x) f.end) (sym lives)
    (subst (λ (b : Bool). ClientKeeps opened (kept_received kept k.received f segment) (live (cond b (with_hello opened k f) (with_segment k f (client_segment k f)))) f.end) (sym other)
    (subst (λ (r : Result Segment ℕ). ClientKeeps opened (kept_received kept k.received f segment) (live (with_segment k f r)) f.end) (sym is)
    (segment_keeps opened kept k count f segment keeps lt others)))

pub kept_ends : KeptEnds
kept_ends opened kept k end count event keeps is =
    subst (λ (x : Option End). ClientKeeps opened (record kept { ended = Some end }) (next_end_state_by (client_rules opened) k event x) count) (sym is)
    (record {
      ended = refl;
      xid = keeps.xid;
      sends = keeps.sends;
      grant = keeps.grant;
      up = keeps.up;
      down = keeps.down;
      invalidates = keeps.invalidates;
      opening = keeps.opening;
      outstanding = keeps.outstanding;
      calls = λ lives. absurd (let wrong : Some end ≡ None = lives in cc);
      memory = λ lives. absurd (let wrong : Some end ≡ None = lives in cc);
      waits = keeps.waits;
      rising = keeps.rising;
      opens = keeps.opens;
      accesses = keeps.accesses;
      holds = keeps.holds;
    })
