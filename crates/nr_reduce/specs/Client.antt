-- The client of a link, event by event: what ends it, what it writes for an event, and what it knows after it.
use Rattle.std.specs.Prelude.{ℕ, ◌+◌, Bool, true, false, not, ◌&&◌, ◌==◌, nat_lt, if◌then◌else◌, List, [], ◌∷◌, ◌++◌, length, take, drop, map, Option, None, Some, Result, Ok, Err}
use Rattle.std.specs.List.{filter}
use Rattle.nr_wire.specs.declared.hello.Side.TheVariants.{Initiator, Responder}
use Rattle.nr_wire.specs.Hello.{hello_of}
use Rattle.nr_wire.specs.Segment.{Segment}
use Rattle.nr_link.specs.declared.end.End.{End}
use Rattle.nr_link.specs.declared.end.End.TheVariants as ends
use Rattle.nr_reduce.specs.declared.mark.LinkParameters.{LinkParameters}
use Rattle.nr_reduce.specs.Limits.{credits_max}
use Rattle.nr_reduce.specs.History.{AcceptedCall, CompletedCall}
use Rattle.nr_reduce.specs.declared.outline.Plan.{Plan}
use Rattle.nr_reduce.specs.Plans.{TooLarge, buffers, call_message, inline_plan}
use Rattle.nr_link.specs.declared.agreement.Agreement.{Agreement}
use Rattle.nr_link.specs.Reasons.{REASON_SIZES}
use Rattle.nr_link.specs.Output.{send, read_response}
use Rattle.nr_link.specs.Frames.{Frame, is_hello}
use Rattle.nr_link.specs.ReceiveState.{received_after, message_completed, stag_invalidated, ReadRequest, read_request_of}
use Rattle.nr_link.specs.SegmentFaults.{Readiness}
use Rattle.nr_link.specs.Ending.{tagged_access, frame_segment_with, frame_end_by, hello_end, last_output}
use Rattle.nr_regions.specs.declared.denied.Denied.{Denied}
use Rattle.nr_reduce.specs.OfferedRegions.{Region, region_grants, regions_closed}
use Rattle.nr_reduce.specs.Events.{RunEvent}
use Rattle.nr_reduce.specs.Hellos.{client_agreement, agreement_with}
use Rattle.nr_reduce.specs.EndRules.{EndMachine, EndState}
use Rattle.nr_reduce.specs.Events.RunEvent.{FrameReceived, CallSubmitted, MemoryRevoked, CallExecuted, QueueWritten, ServerTold}
use Rattle.nr_reduce.specs.ClientState.{OutstandingCall, WaitingCall, ClientState, initial_client_state, region_of, responses_owed, waiting_call, others_than, call_payload, plan_for, stag_for, stags_taken, client_memory_at}
use Rattle.nr_reduce.specs.ClientMessages.{ReplyVerdict, reply_verdict, message_verdict}
use Rattle.nr_reduce.specs.ClientMessages.ReplyVerdict.{EndsLink, GivesOutcome}
use Rattle.nr_xdr.specs.Fields.{word_at}

-- ---- What ends the client

-- a client posts a receive again as soon as it has judged a message, so each Send finds one
abbrev pub client_readiness : ClientState → Option Denied → Readiness Denied
client_readiness k missing = record {
  received = k.received;
  has_receive = true;
  message_max = k.down_max;
  missing = missing;
  expected = None;
  responses = responses_owed k;
}

abbrev pub end_of_verdict : Frame → ReplyVerdict → Option End
end_of_verdict f (EndsLink reason) = Some (ends.Bad f.at reason)
end_of_verdict f (GivesOutcome xid outcome) = None

abbrev pub client_message_end : ClientState → Frame → Option ℕ → Option (List ℕ) → Option End
client_message_end k f named None = None
client_message_end k f named (Some message) = end_of_verdict f (message_verdict k f.end named message)

-- a frame as a segment: whether it may be of a Send with Invalidate is agreed
abbrev pub client_segment : ClientState → Frame → Result Segment ℕ
client_segment k f = frame_segment_with k.invalidates f

abbrev pub segment_message : ClientState → Result Segment ℕ → Option (List ℕ)
segment_message k (Ok segment) = message_completed k.received segment
segment_message k (Err reason) = None

abbrev pub segment_names : Result Segment ℕ → Option ℕ
segment_names (Ok segment) = stag_invalidated segment
segment_names (Err reason) = None

abbrev pub or_message_end : ClientState → Frame → Option End → Option End
or_message_end k f (Some end) = Some end
or_message_end k f None = client_message_end k f (segment_names (client_segment k f)) (segment_message k (client_segment k f))

-- A hello by which other lengths of Sends are agreed on than by an earlier one ends a client that was reopened: its calls keep their plans.
abbrev pub has_same_sizes : Option Agreement → Agreement → Bool
has_same_sizes None a = true
has_same_sizes (Some earlier) a = earlier.up == a.up && earlier.down == a.down

abbrev pub or_other_sizes : ClientState → Frame → Option End → Option End
or_other_sizes k f (Some end) = Some end
or_other_sizes k f None = if has_same_sizes k.agreed (agreement_with k.terms f) then None else Some (ends.Bad f.at REASON_SIZES)

unfoldable pub client_end : ClientState → RunEvent → Option End
client_end k (FrameReceived f) =
    if is_hello f then or_other_sizes k f (hello_end (hello_of Responder f.bytes)) else or_message_end k f (frame_end_by (client_readiness k) (region_grants f.end k.regions) f (client_segment k f))
client_end k (CallSubmitted place a) = None
client_end k (MemoryRevoked place xid) = None
client_end k (CallExecuted call) = None
client_end k (QueueWritten taken) = None
client_end k (ServerTold what) = None

-- ---- What the client writes

-- the Send of a call, with its number
abbrev pub call_output : LinkParameters → ℕ → OutstandingCall → List ℕ
call_output opened msn o = send msn (call_message o.xid opened.wished o.stag o.plan)

abbrev pub calls_output : LinkParameters → ℕ → List OutstandingCall → List ℕ
calls_output opened msn [] = []
calls_output opened msn (o ∷ others) = call_output opened msn o ++ calls_output opened (msn + 1) others

-- the Read Response to a Read Request, with the present bytes (RFC 5040 section 5.2)
abbrev pub response_output : ClientState → ℕ → Option ReadRequest → List ℕ
response_output k place None = []
response_output k place (Some r) = read_response r.sink r.sink_to (take r.size (drop r.to (client_memory_at k place r.stag)))

abbrev pub segment_request : Result Segment ℕ → Option ReadRequest
segment_request (Ok segment) = read_request_of segment
segment_request (Err reason) = None

-- an accepted call as it is outstanding: its Send has the next number
abbrev pub plan_or : List ℕ → Result Plan TooLarge → Plan
plan_or payload (Ok plan) = plan
plan_or payload (Err large) = inline_plan payload

abbrev pub is_revoked_waiting : Option WaitingCall → Bool
is_revoked_waiting None = false
is_revoked_waiting (Some w) = w.is_revoked

abbrev pub outstanding_of : ClientState → AcceptedCall → OutstandingCall
outstanding_of k a = record {
  xid = a.xid;
  send = k.sends;
  call = a.call;
  plan = plan_or (call_payload a.xid a.call) (plan_for k a.xid a.call a.form);
  stag = stag_for k a.xid;
  is_revoked = is_revoked_waiting (waiting_call k a.xid);
}

-- the Send of a call that is accepted, due at once if the server's hello was received
abbrev pub submitted_output : LinkParameters → ClientState → AcceptedCall → List ℕ
submitted_output opened k a = if k.has_hello then call_output opened (k.sends + 1) (outstanding_of k a) else []

-- The output that is due for an event. A client sends no FPDU before the server's hello; the calls that were accepted before it
-- are sent then (RFC 5044 section 7.1).
unfoldable pub client_output : LinkParameters → ClientState → RunEvent → List ℕ
client_output opened k (FrameReceived f) = if is_hello f then calls_output opened 1 k.outstanding else response_output k f.end (segment_request (client_segment k f))
client_output opened k (CallSubmitted place a) = submitted_output opened k a
client_output opened k (MemoryRevoked place xid) = []
client_output opened k (CallExecuted call) = []
client_output opened k (QueueWritten taken) = []
client_output opened k (ServerTold what) = []

-- ---- What the client knows after each

-- the credits that a credit word grants: 0 counts as 1, and more than credits_max as credits_max (RFC 8166 section 3.3; the
-- bounds are own)
abbrev pub credits_of_word : ℕ → ℕ
credits_of_word credit = if credit == 0 then 1 else (if nat_lt credits_max credit then credits_max else credit)

abbrev pub outcomes_of : ReplyVerdict → List CompletedCall
outcomes_of (EndsLink reason) = []
outcomes_of (GivesOutcome xid None) = []
outcomes_of (GivesOutcome xid (Some outcome)) = record { xid = xid; outcome = outcome } ∷ []

-- a message closes the regions of the call of its xid, and that call is no longer outstanding
abbrev pub with_message : ClientState → ℕ → Option (List ℕ) → ClientState
with_message k place None = k
with_message k place (Some message) = record k {
  outstanding = filter (λ o. not (o.xid == word_at 0 message)) k.outstanding;
  regions = regions_closed (λ r. r.call == word_at 0 message) place k.regions;
  outcomes = k.outcomes ++ outcomes_of (reply_verdict k place message);
  grant = credits_of_word (word_at 8 message);
}

-- how many bytes are due once the Read Response to a segment is
abbrev pub due_with_response : ClientState → Frame → Segment → ℕ
due_with_response k f segment = k.due + length (response_output k f.end (read_request_of segment))

abbrev pub with_request : ClientState → ℕ → Option ReadRequest → ClientState
with_request k due None = k
with_request k due (Some r) = record k { due = due; response_ends = k.response_ends ++ due ∷ [] }

-- a message and a Read Request are judged by the memory before the frame
abbrev pub with_segment : ClientState → Frame → Result Segment ℕ → ClientState
with_segment k f (Err reason) = k
with_segment k f (Ok segment) =
    let m : ClientState = with_request (with_message k f.end (message_completed k.received segment)) (due_with_response k f segment) (read_request_of segment) in
    record m { received = received_after k.received segment; accesses_received = k.accesses_received ++ tagged_access f segment }

abbrev pub revoked_call : ℕ → OutstandingCall → OutstandingCall
revoked_call xid o = if o.xid == xid then record o { is_revoked = true } else o

abbrev pub revoked_waiting : ℕ → WaitingCall → WaitingCall
revoked_waiting xid w = if w.xid == xid then record w { is_revoked = true } else w

-- the offsets at which the Sends of some calls end, of which the first begins at `due`
abbrev pub call_ends : LinkParameters → ℕ → ℕ → List OutstandingCall → List ℕ
call_ends opened due msn [] = []
call_ends opened due msn (o ∷ others) =
    (due + length (call_output opened msn o)) ∷ call_ends opened (due + length (call_output opened msn o)) (msn + 1) others

-- the server's hello makes the Sends of the calls due that were accepted before it, and says what is agreed
abbrev pub with_hello : LinkParameters → ClientState → Frame → ClientState
with_hello opened k f = record k {
  has_hello = true;
  due = k.due + length (calls_output opened 1 k.outstanding);
  send_ends = k.send_ends ++ call_ends opened k.due 1 k.outstanding;
  up_max = (client_agreement opened f).up;
  down_max = (client_agreement opened f).down;
  invalidates = (client_agreement opened f).invalidates;
}

-- a new call has the next xid, and its regions are offered from here on; one that is sent again has both
abbrev pub xid_unless_waiting : Option WaitingCall → ℕ → ℕ
xid_unless_waiting None next = next + 1
xid_unless_waiting (Some w) next = next

abbrev pub regions_unless_waiting : Option WaitingCall → ℕ → OutstandingCall → List Region
regions_unless_waiting None place o = map (region_of o.xid place) (buffers o.stag o.plan)
regions_unless_waiting (Some w) place o = []

abbrev pub submitted_ends : LinkParameters → ClientState → AcceptedCall → List ℕ
submitted_ends opened k a = if k.has_hello then (k.due + length (submitted_output opened k a)) ∷ [] else []

unfoldable pub client_state_after : LinkParameters → ClientState → RunEvent → ClientState
client_state_after opened k (FrameReceived f) = if is_hello f then with_hello opened k f else with_segment k f (client_segment k f)
client_state_after opened k (CallSubmitted place a) = record k {
  next_xid = xid_unless_waiting (waiting_call k a.xid) k.next_xid;
  sends = k.sends + 1;
  stag = k.stag + stags_taken k a.xid (outstanding_of k a).plan;
  outstanding = k.outstanding ++ outstanding_of k a ∷ [];
  waiting = others_than k.waiting a.xid;
  regions = k.regions ++ regions_unless_waiting (waiting_call k a.xid) place (outstanding_of k a);
  due = k.due + length (submitted_output opened k a);
  send_ends = k.send_ends ++ submitted_ends opened k a;
}
client_state_after opened k (MemoryRevoked place xid) = record k {
  outstanding = map (revoked_call xid) k.outstanding;
  waiting = map (revoked_waiting xid) k.waiting;
  regions = regions_closed (λ r. r.call == xid) place k.regions;
}
client_state_after opened k (CallExecuted call) = k
client_state_after opened k (QueueWritten taken) = record k { written = k.written + taken }
client_state_after opened k (ServerTold what) = k

abbrev pub client_rules : LinkParameters → EndMachine ClientState
client_rules opened = record {
  end_at = client_end;
  output_at = client_output opened;
  state_after = client_state_after opened;
  final_output = last_output Initiator;
}

-- a client to which nothing has happened
abbrev pub initial_client : LinkParameters → EndState ClientState
initial_client opened = record { state = initial_client_state opened; ended = None }
