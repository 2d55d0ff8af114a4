-- The marks that an end stands for, one mark more, and what a client keeps that is enough for it.
use Rattle.std.specs.Prelude.{◌≡◌, ℕ, zero, suc, ◌+◌, ◌-◌, ◌<◌, ◌≤◌, nat_le, if◌then◌else◌, false, List, [], ◌∷◌, ◌++◌, length, map, take, drop, Option, None, Some, Result, Ok, Err, Contains}
use Rattle.std.specs.List.{AllByRecursion}
use Rattle.nr_xdr.specs.Fields.{word_at}
use Rattle.nr_wire.specs.declared.hello.Side.{Side}
use Rattle.nr_wire.specs.declared.hello.Side.TheVariants.{Initiator, Responder}
use Rattle.nr_wire.specs.declared.stream.Awaited.TheVariants.{Hello as HelloFrom}
use Rattle.nr_regions.specs.declared.right.Right.TheVariants.{Fetch}
use Rattle.nr_regions.specs.RegisteredMemory.{denial}
use Rattle.nr_regions.specs.Access.{TaggedSegment}
use Rattle.nr_reduce.specs.Written.{ends_written}
use Rattle.nr_link.specs.declared.end.End.{End}
use Rattle.nr_link.specs.declared.end.End.TheVariants as ends
use Rattle.nr_link.specs.Output.{read_response}
use Rattle.nr_link.specs.Frames.{Frame, is_hello}
use Rattle.nr_wire.specs.Segment.{Segment}
use Rattle.nr_link.specs.Input.{InputState, input_of, initial_input, input_frames, input_after}
use Rattle.nr_link.specs.ReceiveState.{ReadRequest, nothing_received, message_completed}
use Rattle.nr_reduce.specs.declared.call.Call.{Call}
use Rattle.nr_reduce.specs.declared.call.Form.{Form}
use Rattle.nr_reduce.specs.declared.call.Refused.TheVariants as refusals
use Rattle.nr_reduce.specs.declared.call.Submission.{Submission}
use Rattle.nr_reduce.specs.declared.call.Submission.TheVariants as submissions
use Rattle.nr_reduce.specs.declared.mark.Mark.{Mark}
use Rattle.nr_reduce.specs.declared.mark.Mark.TheVariants as marks
use Rattle.nr_reduce.specs.declared.mark.LinkParameters.{LinkParameters}
use Rattle.nr_reduce.specs.declared.mark.ResumedCall.{ResumedCall}
use Rattle.nr_reduce.specs.declared.outline.Plan.{Plan}
use Rattle.nr_reduce.specs.Limits.{numbers_end}
use Rattle.nr_reduce.specs.Plans.{TooLarge, regions_needed, buffers, plan_of}
use Rattle.nr_wire.specs.Hello.{peer}
use Rattle.nr_reduce.specs.History.{AcceptedCall, CompletedCall, bytes_sent, bytes_received, written_at, fed_at}
use Rattle.nr_reduce.specs.Hellos.{client_hello, client_agreement}
use Rattle.nr_reduce.specs.Events.{RunEvent, events_at}
use Rattle.nr_reduce.specs.Events.RunEvent.{FrameReceived, CallSubmitted, MemoryRevoked, QueueWritten}
use Rattle.nr_reduce.specs.EndRules.{EndMachine, EndState, live, next_end_state, end_state_after, output_for_all}
use Rattle.nr_reduce.specs.ClientState.{OutstandingCall, WaitingCall, ClientState, call_payload, plan_for, region_of}
use Rattle.nr_reduce.specs.OfferedRegions.{Region}
use Rattle.nr_reduce.specs.Client.{client_rules, client_segment, client_end, response_output, with_message, with_hello}
use Rattle.nr_reduce.specs.ClientMessages.{message_verdict}
use Rattle.nr_reduce.specs.ServerState.{ServerState}
use Rattle.nr_reduce.specs.Server.{server_rules, initial_server}
use Rattle.nr_reduce.specs.Run.{client, server, output_due}
use Rattle.nr_reduce.specs.SubmitAnswer.{unless_spent, unless_far_by, calls_counted, submit_answer}
use Rattle.nr_reduce.specs.Matched.{IsPrefixOf}
use Rattle.nr_reduce.specs.Asked.{IsAll, AskedSoFar}
use Rattle.nr_reduce.specs.Served.{ServedSoFar}
use Rattle.nr_reduce.specs.KeptCalls.{KeptCall, kept_message_verdict}
use Rattle.nr_reduce.specs.KeptClient.{KeptClient, ClientKeeps, bytes_under, opened_client, CanResume, kept_revoked, kept_handed_back, kept_completed, kept_placed, kept_received, kept_sent, kept_submitted, kept_resent, kept_greeted, NoneWaitsOf, NoneWaitsFor}
use Rattle.nr_reduce.specs.Standing.{input_events, ClientRepresents, ClientRunsOut, ServerRepresents, ServerRunsOut}

-- An end stands for no marks as it is opened: a client's queue has its hello.
abbrev pub ClientBegins : Type 0
ClientBegins = (opened : LinkParameters) (link : ℕ) → CanResume opened.resumed opened.first_xid → ClientRepresents opened link (opened_client opened) (initial_input Responder) (client_hello opened) []

abbrev pub ServerBegins : Type 0
ServerBegins = (opened : LinkParameters) (link : ℕ) → ServerRepresents opened link (initial_server opened) (initial_input Initiator) [] []

-- The events of a mark follow from the input that an end keeps.
abbrev pub EventsOfInput : Type 0
EventsOfInput = (link : ℕ) (side : Side) (run : List Mark) (mark : Mark) →
    input_events link side (input_of (peer side) (bytes_received link side run)) mark ≡ events_at link side run mark

-- ---- One mark more

-- For this end, after `count` bytes were received, what is kept next keeps what its state after a mark asks for, and what is written
-- at the mark and what is left are the queue and the output that is due for it.
pub record GoesOn {K S : Type 0} (Keeps : K → EndState S → ℕ → Type 0) (rules : EndMachine S) (link : ℕ) (side : Side) (next : K) (input : InputState) (queue left : List ℕ) (mark : Mark) (e : EndState S) (count : ℕ) : Type 0 where
  pub keeps : Keeps next (end_state_after rules e (input_events link side input mark)) (count + length (fed_at link side mark))
  pub output : written_at link side mark ++ left ≡ queue ++ output_for_all rules e (input_events link side input mark)

-- A client goes on from mark to mark if what it keeps next goes on for the client of the run, of which its owner may know more than
-- what it keeps here. Once it has ended its input doesn't matter.
abbrev pub ClientStandsOn : Type 0
ClientStandsOn = (opened : LinkParameters) (link : ℕ) (kept next : KeptClient) (input next_input : InputState) (queue left : List ℕ) (run : List Mark) (mark : Mark) →
    ClientRepresents opened link kept input queue run →
    GoesOn (ClientKeeps opened) (client_rules opened) link Initiator next input queue left mark (client opened link run) (length (bytes_received link Initiator run)) →
    (next.ended ≡ None → next_input ≡ input_after input (fed_at link Initiator mark)) →
    ClientRepresents opened link next next_input left (run ++ mark ∷ [])

-- Whatever else an owner keeps of an end: by its input alone, what one mark more makes of the end's state, of the output that is due,
-- of the bytes that were sent and received, and of the input of an end that hasn't ended.
pub record GoesByInput {S : Type 0} (rules : EndMachine S) (link : ℕ) (side : Side) (state_of : List Mark → EndState S) (due : List Mark → List ℕ) (input : InputState) (run : List Mark) (mark : Mark) : Type 0 where
  pub state : state_of (run ++ mark ∷ []) ≡ end_state_after rules (state_of run) (input_events link side input mark)
  pub output : due (run ++ mark ∷ []) ≡ due run ++ output_for_all rules (state_of run) (input_events link side input mark)
  pub sent : bytes_sent link side (run ++ mark ∷ []) ≡ bytes_sent link side run ++ written_at link side mark
  pub received : bytes_received link side (run ++ mark ∷ []) ≡ bytes_received link side run ++ fed_at link side mark
  pub next_input : (state_of (run ++ mark ∷ [])).ended ≡ None → input_after input (fed_at link side mark) ≡ input_of (peer side) (bytes_received link side (run ++ mark ∷ []))

abbrev pub ClientGoesByInput : Type 0
ClientGoesByInput = (opened : LinkParameters) (link : ℕ) (input : InputState) (run : List Mark) (mark : Mark) →
    ((client opened link run).ended ≡ None → input ≡ input_of Responder (bytes_received link Initiator run)) →
    GoesByInput (client_rules opened) link Initiator (client opened link) (output_due opened link Initiator) input run mark

abbrev pub ServerGoesByInput : Type 0
ServerGoesByInput = (opened : LinkParameters) (link : ℕ) (input : InputState) (run : List Mark) (mark : Mark) →
    ((server opened link run).ended ≡ None → input ≡ input_of Initiator (bytes_received link Responder run)) →
    GoesByInput (server_rules opened) link Responder (server opened link) (output_due opened link Responder) input run mark

-- A server goes on by the events of the mark.
abbrev pub ServerStandsOn : Type 0
ServerStandsOn = (opened : LinkParameters) (link : ℕ) (end : EndState ServerState) (input next_input : InputState) (queue left : List ℕ) (run : List Mark) (mark : Mark) →
    ServerRepresents opened link end input queue run →
    written_at link Responder mark ++ left ≡ queue ++ output_for_all (server_rules opened) end (input_events link Responder input mark) →
    ((end_state_after (server_rules opened) end (input_events link Responder input mark)).ended ≡ None → next_input ≡ input_after input (fed_at link Responder mark)) →
    ServerRepresents opened link (end_state_after (server_rules opened) end (input_events link Responder input mark)) next_input left (run ++ mark ∷ [])

-- It runs out of memory at a piece that is fed: after the first n bytes of it a client hadn't ended, what it keeps goes on for these, and
-- what they make due is queued; and what is left are the first bytes of the queue and of the output that is due for the piece.
abbrev pub ClientRunsOutAt : Type 0
ClientRunsOutAt = (opened : LinkParameters) (link : ℕ) (kept next : KeptClient) (input : InputState) (queue queued left : List ℕ) (run : List Mark) (piece : List ℕ) (n : ℕ) →
    ClientRepresents opened link kept input queue run →
    GoesOn (ClientKeeps opened) (client_rules opened) link Initiator (record next { ended = None }) input queue queued (marks.Fed link Initiator (take n piece)) (client opened link run) (length (bytes_received link Initiator run)) →
    IsPrefixOf queued left →
    IsPrefixOf left (queue ++ output_for_all (client_rules opened) (client opened link run) (input_events link Initiator input (marks.Fed link Initiator piece))) →
    next.ended ≡ Some ends.Memory →
    ClientRunsOut opened link next left (run ++ marks.Fed link Initiator (take n piece) ∷ []) (run ++ marks.Fed link Initiator piece ∷ [])

abbrev pub ServerRunsOutAt : Type 0
ServerRunsOutAt = (opened : LinkParameters) (link : ℕ) (end : EndState ServerState) (input : InputState) (queue left : List ℕ) (run : List Mark) (mark : Mark) →
    ServerRepresents opened link end input queue run →
    IsPrefixOf (written_at link Responder mark ++ left) (queue ++ output_for_all (server_rules opened) end (input_events link Responder input mark)) →
    ServerRunsOut opened link (Some ends.Memory) left (run ++ mark ∷ [])

-- From then on it writes what is left, and no more.
abbrev pub ClientStaysOut : Type 0
ClientStaysOut = (opened : LinkParameters) (link : ℕ) (kept : KeptClient) (queue left : List ℕ) (stopped run : List Mark) (mark : Mark) →
    ClientRunsOut opened link kept queue stopped run → written_at link Initiator mark ++ left ≡ queue → ClientRunsOut opened link kept left stopped (run ++ mark ∷ [])

abbrev pub ServerStaysOut : Type 0
ServerStaysOut = (opened : LinkParameters) (link : ℕ) (ended : Option End) (queue left : List ℕ) (run : List Mark) (mark : Mark) →
    ServerRunsOut opened link ended queue run → written_at link Responder mark ++ left ≡ queue → ServerRunsOut opened link ended left (run ++ mark ∷ [])

-- A prefix of the queue that is written keeps the law so far, also of an end that ran out of memory; and the complete queue of one that
-- didn't keeps it in full.
abbrev pub ClientQueueIsDue : Type 0
ClientQueueIsDue = (opened : LinkParameters) (link : ℕ) (kept : KeptClient) (input : InputState) (taken left : List ℕ) (stopped run : List Mark) →
    (ClientRepresents opened link kept input (taken ++ left) run →
    IsPrefixOf (bytes_sent link Initiator run ++ taken) (output_due opened link Initiator run)
    × (left ≡ [] → IsAll (bytes_sent link Initiator run ++ taken) (output_due opened link Initiator run)))
    × (ClientRunsOut opened link kept (taken ++ left) stopped run → IsPrefixOf (bytes_sent link Initiator run ++ taken) (output_due opened link Initiator run))

abbrev pub ServerQueueIsDue : Type 0
ServerQueueIsDue = (opened : LinkParameters) (link : ℕ) (end : EndState ServerState) (ended : Option End) (input : InputState) (taken left : List ℕ) (run : List Mark) →
    (ServerRepresents opened link end input (taken ++ left) run →
    IsPrefixOf (bytes_sent link Responder run ++ taken) (output_due opened link Responder run)
    × (left ≡ [] → IsAll (bytes_sent link Responder run ++ taken) (output_due opened link Responder run)))
    × (ServerRunsOut opened link ended (taken ++ left) run → IsPrefixOf (bytes_sent link Responder run ++ taken) (output_due opened link Responder run))

-- ---- What a client keeps is enough

-- By what it keeps it judges a message as the client does, also one that is completed further on.
abbrev pub KeptJudges : Type 0
KeptJudges = (opened : LinkParameters) (kept : KeptClient) (k : ClientState) (count place : ℕ) (named : Option ℕ) (message : List ℕ) → ClientKeeps opened kept (live k) count → count ≤ place →
    ends_written k.written k.send_ends ≤ k.sends →
    kept_message_verdict kept.calls (bytes_under kept.memory) named message ≡ message_verdict k place named message

-- It answers a Read Request that is allowed with the bytes that the client's region holds.
abbrev pub KeptResponds : Type 0
KeptResponds = (opened : LinkParameters) (kept : KeptClient) (k : ClientState) (count place : ℕ) (r : ReadRequest) → ClientKeeps opened kept (live k) count → count ≤ place →
    denial kept.memory (record { right = Fetch; stag = r.stag; to = r.to; len = r.size }) ≡ None →
    response_output k place (Some r) ≡ read_response r.sink r.sink_to (take r.size (drop r.to (bytes_under kept.memory r.stag)))

-- the least xid of the calls that are kept: they are in the order of their xids
abbrev pub least_kept : List KeptCall → Option ℕ
least_kept [] = None
least_kept (c ∷ calls) = Some c.xid

-- What it answers to a call: refused as ended, too large, without credit, above the window of a client with a number, or without numbers, in this
-- order; else accepted.
abbrev pub kept_answer_by_plan : KeptClient → Result Plan TooLarge → Submission
kept_answer_by_plan kept (Err large) = submissions.Refused (refusals.TooLarge large.need large.room)
kept_answer_by_plan kept (Ok plan) =
    if nat_le kept.grant (length kept.calls) then submissions.Refused (refusals.NoCredit (length kept.calls) kept.grant)
    else unless_far_by kept.number kept.next_xid (least_kept kept.calls)
    (unless_spent (numbers_end - kept.next_xid) 1
    (unless_spent (numbers_end - kept.memory.next) (regions_needed plan) (submissions.Accepted kept.next_xid)))

abbrev pub kept_answer_if : KeptClient → Call → Form → Option End → Submission
kept_answer_if kept call form (Some end) = submissions.Refused (refusals.Ended end)
kept_answer_if kept call form None = kept_answer_by_plan kept (plan_of (call_payload kept.next_xid call) form kept.up_max kept.down_max)

abbrev pub kept_answer : KeptClient → Call → Form → Submission
kept_answer kept call form = kept_answer_if kept call form kept.ended

abbrev pub KeptAnswers : Type 0
KeptAnswers = (opened : LinkParameters) (kept : KeptClient) (e : EndState ClientState) (count : ℕ) (call : Call) (form : Form) → ClientKeeps opened kept e count →
    kept_answer kept call form ≡ submit_answer e call form

-- It knows how many calls are outstanding, and the credits that are granted, also once it has ended; until then it has all these calls.
abbrev pub KeptCounts : Type 0
KeptCounts = (opened : LinkParameters) (kept : KeptClient) (e : EndState ClientState) (count : ℕ) → ClientKeeps opened kept e count →
    (kept.outstanding ≡ calls_counted e.state) × ((kept.grant ≡ e.state.grant) × (e.ended ≡ None → length kept.calls ≡ kept.outstanding))

-- It keeps as much while more bytes are received,
abbrev pub KeptStays : Type 0
KeptStays = (opened : LinkParameters) (kept : KeptClient) (e : EndState ClientState) (count later : ℕ) → ClientKeeps opened kept e count → count ≤ later → ClientKeeps opened kept e later

-- after the memory of a call is revoked, also of a client that has ended,
abbrev pub KeptRevokes : Type 0
KeptRevokes = (opened : LinkParameters) (kept : KeptClient) (e : EndState ClientState) (count xid : ℕ) → ClientKeeps opened kept e count →
    ClientKeeps opened (kept_revoked kept xid) (next_end_state (client_rules opened) e (MemoryRevoked count xid)) count

-- after a call of a client that has ended is handed back: it is still outstanding,
abbrev pub KeptHandsBack : Type 0
KeptHandsBack = (opened : LinkParameters) (kept : KeptClient) (e : EndState ClientState) (end : End) (count xid : ℕ) → e.ended ≡ Some end → ClientKeeps opened kept e count →
    ClientKeeps opened (kept_handed_back kept xid) e count

-- and after a message that doesn't end the client.
abbrev pub KeptCompletes : Type 0
KeptCompletes = (opened : LinkParameters) (kept : KeptClient) (k : ClientState) (count place : ℕ) (message : List ℕ) → ClientKeeps opened kept (live k) count → count ≤ place → NoneWaitsOf k (word_at 0 message) →
    ClientKeeps opened (kept_completed kept message) (live (with_message k place (Some message))) place

-- It keeps as much after an access of its peer that comes later,
abbrev pub KeptPlaces : Type 0
KeptPlaces = (opened : LinkParameters) (kept : KeptClient) (k : ClientState) (count : ℕ) (access : TaggedSegment) → ClientKeeps opened kept (live k) count → count < access.end →
    ClientKeeps opened (kept_placed kept access) (live (record k { accesses_received = k.accesses_received ++ access ∷ [] })) access.end

-- after each complete frame later than the hello that doesn't end the client,
abbrev pub KeptTakes : Type 0
KeptTakes = (opened : LinkParameters) (kept : KeptClient) (k : ClientState) (count : ℕ) (f : Frame) (segment : Segment) → ClientKeeps opened kept (live k) count → count < f.end →
    is_hello f ≡ false → client_segment k f ≡ Ok segment → client_end k (FrameReceived f) ≡ None → NoneWaitsFor k (message_completed k.received segment) →
    ClientKeeps opened (kept_received kept k.received f segment) (next_end_state (client_rules opened) (live k) (FrameReceived f)) f.end

-- after an event that ends the client, with the reason,
abbrev pub KeptEnds : Type 0
KeptEnds = (opened : LinkParameters) (kept : KeptClient) (k : ClientState) (end : End) (count : ℕ) (event : RunEvent) → ClientKeeps opened kept (live k) count → client_end k event ≡ Some end →
    ClientKeeps opened (record kept { ended = Some end }) (next_end_state (client_rules opened) (live k) event) count

-- after a write, with the number of Sends that have completely left,
abbrev pub KeptWrites : Type 0
KeptWrites = (opened : LinkParameters) (kept : KeptClient) (k : ClientState) (count taken : ℕ) → ClientKeeps opened kept (live k) count →
    ClientKeeps opened (kept_sent (ends_written (k.written + taken) k.send_ends) kept) (next_end_state (client_rules opened) (live k) (QueueWritten taken)) count

-- with the server's hello, and what is agreed: no Send has left before it is due, since at most what is due was written,
abbrev pub KeptGreets : Type 0
KeptGreets = (opened : LinkParameters) (kept : KeptClient) (k : ClientState) (f : Frame) (count : ℕ) → ClientKeeps opened kept (live k) count →
    k.written ≤ k.due → ClientKeeps opened (kept_greeted kept (client_agreement opened f)) (live (with_hello opened k f)) count

-- after a call that it sends again,
abbrev pub KeptResends : Type 0
KeptResends = (opened : LinkParameters) (kept : KeptClient) (k : ClientState) (count : ℕ) (w : WaitingCall) (others : List WaitingCall) → ClientKeeps opened kept (live k) count → k.waiting ≡ w ∷ others →
    k.written ≤ k.due → ends_written k.written k.send_ends ≤ k.sends →
    ClientKeeps opened (kept_resent kept) (next_end_state (client_rules opened) (live k) (CallSubmitted count (record { xid = w.xid; call = w.call; form = w.form }))) count

-- and after a new call that it accepts, while none waits: its Send hasn't left, since no more Sends have left than calls were accepted before.
abbrev pub KeptSubmits : Type 0
KeptSubmits = (opened : LinkParameters) (kept : KeptClient) (k : ClientState) (count : ℕ) (a : AcceptedCall) (plan : Plan) → ClientKeeps opened kept (live k) count → k.waiting ≡ [] → a.xid ≡ kept.next_xid →
    plan_for k a.xid a.call a.form ≡ Ok plan → k.written ≤ k.due → ends_written k.written k.send_ends ≤ k.sends →
    ClientKeeps opened (kept_submitted kept a.call plan) (next_end_state (client_rules opened) (live k) (CallSubmitted count a)) count

-- ---- The client of a run

-- Xids and the numbers of Sends both go by the order of Submits. The next xid is the first one and as many more as Sends of new calls have a
-- number: all but those of the calls that were sent again.
abbrev pub NextXidFollows : Type 0
NextXidFollows = (opened : LinkParameters) (link : ℕ) (run : List Mark) →
    (client opened link run).state.next_xid + length opened.resumed ≡ opened.first_xid + (client opened link run).state.sends + length (client opened link run).state.waiting

-- The xids of a link in the order of their Sends: those of the calls that are sent again, and then from the first one on.
abbrev pub xid_after : List ℕ → (first n : ℕ) → ℕ
xid_after [] first n = first + n
xid_after (xid ∷ xids) first zero = xid
xid_after (xid ∷ xids) first (suc n) = xid_after xids first n

unfoldable pub xid_of_send : LinkParameters → (number : ℕ) → ℕ
xid_of_send opened number = xid_after (map (λ (r : ResumedCall). r.xid) opened.resumed) opened.first_xid number

-- If the client keeps its law, the xid of an outstanding call is the one of its Send.
abbrev pub XidsFollow : Type 0
XidsFollow = (opened : LinkParameters) (link : ℕ) (run : List Mark) → AskedSoFar opened link run →
    AllByRecursion (λ (o : OutstandingCall). (o.xid ≡ xid_of_send opened o.send) × (o.send < (client opened link run).state.sends)) (client opened link run).state.outstanding

-- An outcome stays.

abbrev pub OutcomesStay : Type 0
OutcomesStay = (opened : LinkParameters) (link : ℕ) (run more : List Mark) (c : CompletedCall) →
    Contains (client opened link run).state.outcomes c → Contains (client opened link (run ++ more)).state.outcomes c

-- ---- Marks of a client

-- What it keeps stands for one mark more: a revoke,
abbrev pub RevokeStands : Type 0
RevokeStands = (opened : LinkParameters) (link : ℕ) (kept : KeptClient) (input : InputState) (queue : List ℕ) (run : List Mark) (xid : ℕ) (bytes : List ℕ) → ClientRepresents opened link kept input queue run →
    ClientRepresents opened link (kept_revoked kept xid) input queue (run ++ marks.Revoke link xid bytes ∷ [])

-- a write of a part of its queue, with the number of Sends that have completely left by then,
abbrev pub WroteStands : Type 0
WroteStands = (opened : LinkParameters) (link : ℕ) (kept : KeptClient) (input : InputState) (taken left : List ℕ) (run : List Mark) (sent : ℕ) → ClientRepresents opened link kept input (taken ++ left) run →
    ((client opened link run).ended ≡ None → sent ≡ ends_written ((client opened link run).state.written + length taken) (client opened link run).state.send_ends) →
    ClientRepresents opened link (kept_sent sent kept) input left (run ++ marks.Wrote link Initiator taken ∷ [])

-- also of a client that ran out of memory, as if it was revoked when it stopped,
abbrev pub RevokeStaysOut : Type 0
RevokeStaysOut = (opened : LinkParameters) (link : ℕ) (kept : KeptClient) (queue : List ℕ) (stopped run : List Mark) (xid : ℕ) (bytes : List ℕ) → ClientRunsOut opened link kept queue stopped run →
    ClientRunsOut opened link (kept_revoked kept xid) queue (stopped ++ marks.Revoke link xid bytes ∷ []) (run ++ marks.Revoke link xid bytes ∷ [])

-- and a mark that is no event of it: a refused call, what is handed to its caller, and what happens elsewhere.
abbrev pub OtherMarkStands : Type 0
OtherMarkStands = (opened : LinkParameters) (link : ℕ) (kept : KeptClient) (input : InputState) (queue : List ℕ) (run : List Mark) (mark : Mark) → ClientRepresents opened link kept input queue run →
    events_at link Initiator run mark ≡ [] → written_at link Initiator mark ≡ [] → fed_at link Initiator mark ≡ [] → ClientRepresents opened link kept input queue (run ++ mark ∷ [])

-- ---- Before the client's hello

-- No call is pending, read for or ready, and nothing was received.
pub record IsUnasked (k : ServerState) : Type 0 where
  pub received : k.received ≡ nothing_received
  pub calls : k.calls ≡ []
  pub reads : k.reads ≡ []
  pub ready : k.ready ≡ []
  pub regions : k.regions ≡ []

abbrev pub NoCallBeforeHello : Type 0
NoCallBeforeHello = (opened : LinkParameters) (link : ℕ) (run : List Mark) → (input_of Initiator (bytes_received link Responder run)).awaited ≡ HelloFrom Initiator →
    ((server opened link run).ended ≡ None) × IsUnasked (server opened link run).state

-- While it keeps its law nothing is due, not even its own hello.
abbrev pub NothingDueBeforeHello : Type 0
NothingDueBeforeHello = (opened : LinkParameters) (link : ℕ) (run : List Mark) → (input_of Initiator (bytes_received link Responder run)).awaited ≡ HelloFrom Initiator → ServedSoFar opened link run →
    output_due opened link Responder run ≡ []

-- ---- Pieces and STags

-- A piece in two parts completes the same frames, and leaves the same input.
abbrev pub InputInParts : Type 0
InputInParts = (input : InputState) (x y : List ℕ) →
    (input_frames input (x ++ y) ≡ input_frames input x ++ input_frames (input_after input x) y)
    × (input_after input (x ++ y) ≡ input_after (input_after input x) y)

-- STags go in the order of registration: those of these regions are a number and those after it.
abbrev pub StagsFrom : ℕ → List Region → Type 0
StagsFrom n [] = Unit {0}
StagsFrom n (r ∷ regions) = (r.stag ≡ n) × StagsFrom (n + 1) regions

-- The regions that an end offers have STags one after the other: a client's from its first STag on, a server's from 1 on; and those of
-- one call in the order read chunk, write chunk, reply chunk.
abbrev pub ClientStagsInOrder : Type 0
ClientStagsInOrder = (opened : LinkParameters) (link : ℕ) (run : List Mark) → StagsFrom opened.first_stag (client opened link run).state.regions

abbrev pub ServerStagsInOrder : Type 0
ServerStagsInOrder = (opened : LinkParameters) (link : ℕ) (run : List Mark) → StagsFrom 1 (server opened link run).state.regions

abbrev pub PlanStagsInOrder : Type 0
PlanStagsInOrder = (xid place stag : ℕ) (plan : Plan) →
    StagsFrom stag (map (region_of xid place) (buffers stag plan)) × (length (map (region_of xid place) (buffers stag plan)) ≡ regions_needed plan)
