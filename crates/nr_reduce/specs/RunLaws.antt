-- What follows from the definitions of a run, for every run.
use Rattle.std.specs.Prelude.{◌≡◌, ◌≢◌, ℕ, ◌+◌, ◌-◌, ◌<◌, ◌≤◌, ◌==◌, ◌&&◌, not, Bool, if◌then◌else◌, true, false, List, [], ◌∷◌, ◌++◌, length, drop, map, Option, None, Some, Result, Ok, Err, Contains, ◌⊎◌, ◌↔◌}
use Rattle.std.specs.List.{filter}
use Rattle.nr_wire.specs.declared.hello.Side.{Side}
use Rattle.nr_wire.specs.declared.hello.Side.TheVariants.{Initiator, Responder}
use Rattle.nr_wire.specs.Constants.{OPCODE_READ_RESPONSE}
use Rattle.nr_wire.specs.Segment.{Segment}
use Rattle.nr_wire.specs.Segment.Segment.{Tagged, Untagged}
use Rattle.nr_link.specs.declared.end.End.{End}
use Rattle.nr_link.specs.Frames.{Frame, is_hello}
use Rattle.nr_link.specs.Output.{send, send_by}
use Rattle.nr_link.specs.Limits.{open_reads_max}
use Rattle.nr_link.specs.ReceiveState.{message_completed}
use Rattle.nr_header.specs.declared.header.ChunkLists.{ChunkLists}
use Rattle.nr_header.specs.declared.header.Body.{Body}
use Rattle.nr_header.specs.declared.header.Body.TheVariants.{Msg, Nomsg, ErrVers, ErrChunk}
use Rattle.nr_header.specs.declared.header.Header.{Header}
use Rattle.nr_header.specs.declared.fault.HeaderFault.{HeaderFault}
use Rattle.nr_header.specs.Reading.{header_of, HeaderBad}
use Rattle.nr_rpc.specs.declared.head.CallHead.{CallHead}
use Rattle.nr_rpc.specs.Reading.{call_of, target_of, head_xid}
use Rattle.nr_reduce.specs.Holds.{Answer, answer_writes, answer_message, chunk_error, version_error}
use Rattle.nr_link.specs.Ending.{frame_segment, access_of}
use Rattle.nr_regions.specs.Access.{Allowed, HaveOwnStags}
use Rattle.nr_regions.specs.RegisteredMemory.{Access}
use Rattle.nr_reduce.specs.declared.call.Form.{Form}
use Rattle.nr_reduce.specs.declared.call.Call.{Call}
use Rattle.nr_reduce.specs.declared.call.Outcome.{Outcome}
use Rattle.nr_reduce.specs.declared.call.Submission.TheVariants as submissions
use Rattle.nr_outside.specs.declared.moment.Moment.{Moment}
use Rattle.nr_reduce.specs.declared.mark.Mark.{Mark}
use Rattle.nr_reduce.specs.declared.mark.Mark.TheVariants as marks
use Rattle.nr_reduce.specs.declared.mark.LinkParameters.{LinkParameters}
use Rattle.nr_reduce.specs.declared.mark.Entry.{Entry}
use Rattle.nr_reduce.specs.PlainJournal.{any_that_adds}
use Rattle.nr_reduce.specs.Journal.{Journaled}
use Rattle.nr_reduce.specs.History.{AcceptedCall, CompletedCall, accepted_calls, completed_calls}
use Rattle.nr_reduce.specs.Events.{RunEvent, events_at, events}
use Rattle.nr_reduce.specs.EndRules.{next_end_state, end_state_after, output_for, output_for_all, live}
use Rattle.nr_reduce.specs.OfferedRegions.{region_grants}
use Rattle.nr_reduce.specs.declared.outline.Plan.{Plan}
use Rattle.nr_reduce.specs.Plans.{call_message, lists_of, inline_stream, has_segment, read_stag}
use Rattle.nr_reduce.specs.ClientState.{OutstandingCall, ClientState, others_than, stag_for, stags_taken}
use Rattle.nr_reduce.specs.Client.{client_rules, client_segment, client_end, outstanding_of, calls_output, initial_client}
use Rattle.nr_reduce.specs.ServerState.{ServerState, ReadyCall, PendingCall, PendingRead, is_pending, credit_word}
use Rattle.nr_reduce.specs.ServerReads.{open_reads}
use Rattle.nr_reduce.specs.ServerMessages.{verdict, by_need, no_stream, chunk_bytes, pending_payload}
use Rattle.nr_reduce.specs.ServerFrames.{frame_effect, call_of_number, is_stream_read, with_access}
use Rattle.nr_reduce.specs.Chunks.{is_read_chunk_of_item}
use Rattle.nr_reduce.specs.ServerMessages.Verdict.{BadChunks, OtherVersion, MakesPending}
use Rattle.nr_reduce.specs.Server.{server_rules, server_end, server_state_after, initial_server, offer_of, answer_of_target, newly_open_reads, sends_from, requests_from, stag_named}
use Rattle.nr_reduce.specs.Events.RunEvent.{FrameReceived}
use Rattle.nr_reduce.specs.Run.{client, server, output_due, grants_of, placed_bytes}
use Rattle.nr_reduce.specs.Opening.{IsOpened}
use Rattle.nr_rpc.specs.Credential.{CanWriteCred}
use Rattle.nr_reduce.specs.Limits.{numbers_end}
use Rattle.nr_reduce.specs.Credits.{calls_outstanding, credits_granted}
use Rattle.nr_reduce.specs.SubmitAnswer.{submit_answer}
use Rattle.nr_reduce.specs.Asked.{AskedSoFar, AskedMark, IsAccepted}
use Rattle.nr_reduce.specs.Served.{ServedSoFar, ServedMark, IsExecuted, next_call}
use Rattle.nr_reduce.specs.Matched.{IsPrefixOf}
use Rattle.nr_reduce.specs.SoFar.{SoFar, InFull}
use Rattle.nr_reduce.specs.PayloadLaws.{IsPlanned}
use Rattle.nr_reduce.specs.ChunkBytes.{lists_by}
use Rattle.nr_xdr.specs.Fields.{word_at}

-- A frame doesn't end the server; exactly this message is due for it, and no call becomes pending or ready.
pub record IsOnlyAnswered (opened : LinkParameters) (k : ServerState) (f : Frame) (answer : List ℕ) : Type 0 where
  pub output : output_for (server_rules opened) (live k) (FrameReceived f) ≡ send (k.messages_queued + 1) answer
  pub stays : (next_end_state (server_rules opened) (live k) (FrameReceived f)).ended ≡ None
  pub calls : (next_end_state (server_rules opened) (live k) (FrameReceived f)).state.calls ≡ k.calls
  pub ready : (next_end_state (server_rules opened) (live k) (FrameReceived f)).state.ready ≡ k.ready

-- the stream of a message, if it is there before anything is read
abbrev pub known_stream : List ℕ → Body → Option (List ℕ)
known_stream message (Msg lists stream_at) = Some (drop stream_at message)
known_stream message (Nomsg lists) = no_stream lists.read
known_stream message (ErrVers version low high) = None
known_stream message (ErrChunk version) = None

-- that stream is there, and the read chunk isn't that of its item
abbrev pub OtherChunk : ChunkLists → Option (List ℕ) → Type 0
OtherChunk lists None = ⊥
OtherChunk lists (Some stream) = is_read_chunk_of_item stream lists.read ≡ false

abbrev pub HasOtherChunk : List ℕ → Result Header HeaderFault → Type 0
HasOtherChunk message (Ok h) = OtherChunk (lists_by h.body) (known_stream message h.body)
HasOtherChunk message (Err fault) = ⊥

-- a call that was pending, or that the message of a segment makes pending
abbrev pub IsCallOf : ServerState → Segment → PendingCall → Type 0
IsCallOf k segment c =
    ((number : ℕ) × (call_of_number k number ≡ Some c))
    ⊎ ((message : List ℕ) × ((message_completed k.received segment ≡ Some message) × (verdict k message ≡ MakesPending c)))

-- the payload of a ready call is conveyed by such a call and the server's memory, with the access of this frame's own segment
pub record IsConveyed (k : ServerState) (f : Frame) (segment : Segment) (r : ReadyCall) : Type 0 where
  pub call : PendingCall
  pub own : IsCallOf k segment call
  pub payload : pending_payload (with_access k f segment) f.end call ≡ Some r.payload
  pub number : r.number ≡ call.number
  pub xid : r.xid ≡ call.xid

-- The read of which a segment is the last one: the oldest, if it is the last segment of a Read Response.
abbrev pub ends_response : Segment → Bool
ends_response (Tagged last opcode stag to payload) = opcode == OPCODE_READ_RESPONSE && last
ends_response (Untagged last opcode w queue msn offset payload) = false

-- The last segment of a Read Response is the end of the stream of a call whose read chunk isn't its item's.
pub record IsStreamRefused (k : ServerState) (f : Frame) (segment : Segment) (c : PendingCall) : Type 0 where
  pub is_last : ends_response segment ≡ true
  pub read : PendingRead
  pub others : List PendingRead
  pub reads : k.reads ≡ read ∷ others
  pub call : call_of_number k read.number ≡ Some c
  pub stream : is_stream_read c read others ≡ true
  pub unsuited : is_read_chunk_of_item (chunk_bytes (with_access k f segment) f.end c 0) c.lists.read ≡ false

-- ERR_CHUNK is due for it, before the Read Requests of reads that are newly open; the call is no longer pending, and isn't ready.
pub record IsRefusedCall (opened : LinkParameters) (k : ServerState) (f : Frame) (c : PendingCall) : Type 0 where
  pub output : output_for (server_rules opened) (live k) (FrameReceived f)
      ≡ send (k.messages_queued + 1) (chunk_error c.xid (credit_word k)) ++ requests_from (k.requests_sent + 1) (newly_open_reads (frame_effect k f))
  pub stays : (next_end_state (server_rules opened) (live k) (FrameReceived f)).ended ≡ None
  pub calls : (next_end_state (server_rules opened) (live k) (FrameReceived f)).state.calls ≡ filter (λ other. not (other.number == c.number)) k.calls
  pub ready : (next_end_state (server_rules opened) (live k) (FrameReceived f)).state.ready ≡ k.ready

-- Which reads are open after a frame: those that were, less one at the last segment of a Read Response, and those whose Read
-- Requests are due for the frame. At most open_reads_max are open, and while fewer are, none waits.
pub record OpensReads (opened : LinkParameters) (k : ServerState) (f : Frame) (segment : Segment) : Type 0 where
  pub kept : (frame_effect k f).kept ≡ (if ends_response segment then length (open_reads k) - 1 else length (open_reads k))
  pub count : (frame_effect k f).kept + length (newly_open_reads (frame_effect k f)) ≡ length (open_reads (server_state_after opened k (FrameReceived f)))
  pub requests : output_for (server_rules opened) (live k) (FrameReceived f)
      ≡ sends_from (k.messages_queued + 1) (frame_effect k f).errors ++ requests_from (k.requests_sent + 1) (newly_open_reads (frame_effect k f))
  pub few : length (open_reads (server_state_after opened k (FrameReceived f))) ≤ open_reads_max
  pub none_waits : length (open_reads (server_state_after opened k (FrameReceived f))) < open_reads_max →
      open_reads (server_state_after opened k (FrameReceived f)) ≡ (server_state_after opened k (FrameReceived f)).reads

-- ---- One mark more

-- After one more mark an end is in the state to which the events of that mark bring it.
abbrev pub ClientAfterMark : Type 0
ClientAfterMark = (opened : LinkParameters) (link : ℕ) (run : List Mark) (mark : Mark) →
    client opened link (run ++ mark ∷ []) ≡ end_state_after (client_rules opened) (client opened link run) (events_at link Initiator run mark)

abbrev pub ServerAfterMark : Type 0
ServerAfterMark = (opened : LinkParameters) (link : ℕ) (run : List Mark) (mark : Mark) →
    server opened link (run ++ mark ∷ []) ≡ end_state_after (server_rules opened) (server opened link run) (events_at link Responder run mark)

-- The output due is what was due before and what is due for those events.
abbrev pub ClientOutputAfterMark : Type 0
ClientOutputAfterMark = (opened : LinkParameters) (link : ℕ) (run : List Mark) (mark : Mark) →
    output_due opened link Initiator (run ++ mark ∷ [])
    ≡ output_due opened link Initiator run ++ output_for_all (client_rules opened) (client opened link run) (events_at link Initiator run mark)

abbrev pub ServerOutputAfterMark : Type 0
ServerOutputAfterMark = (opened : LinkParameters) (link : ℕ) (run : List Mark) (mark : Mark) →
    output_due opened link Responder (run ++ mark ∷ [])
    ≡ output_due opened link Responder run ++ output_for_all (server_rules opened) (server opened link run) (events_at link Responder run mark)

-- An end that has ended doesn't change, and no output is due.
abbrev pub EndedClientStays : Type 0
EndedClientStays = (opened : LinkParameters) (k : ClientState) (end : End) (events : List RunEvent) →
    (end_state_after (client_rules opened) (record { state = k; ended = Some end }) events ≡ record { state = k; ended = Some end })
    × (output_for_all (client_rules opened) (record { state = k; ended = Some end }) events ≡ [])

abbrev pub EndedServerStays : Type 0
EndedServerStays = (opened : LinkParameters) (k : ServerState) (end : End) (events : List RunEvent) →
    (end_state_after (server_rules opened) (record { state = k; ended = Some end }) events ≡ record { state = k; ended = Some end })
    × (output_for_all (server_rules opened) (record { state = k; ended = Some end }) events ≡ [])

-- ---- So far

-- A run of which the laws hold in full, or so far, has them so far at each of its first parts.
abbrev pub FullHoldsSoFar : Type 0
FullHoldsSoFar = (opened : LinkParameters) (link : ℕ) (run more : List Mark) → InFull opened link (run ++ more) → SoFar opened link run

abbrev pub SoFarHoldsBefore : Type 0
SoFarHoldsBefore = (opened : LinkParameters) (link : ℕ) (run more : List Mark) → SoFar opened link (run ++ more) → SoFar opened link run

-- The law of a side holds of one mark more if that mark keeps it.
abbrev pub AskedWithMark : Type 0
AskedWithMark = (opened : LinkParameters) (link : ℕ) (run : List Mark) (mark : Mark) → AskedSoFar opened link run → AskedMark IsPrefixOf opened link run mark →
    AskedSoFar opened link (run ++ mark ∷ [])

abbrev pub ServedWithMark : Type 0
ServedWithMark = (opened : LinkParameters) (link : ℕ) (run : List Mark) (mark : Mark) → ServedSoFar opened link run → ServedMark IsPrefixOf opened link run mark →
    ServedSoFar opened link (run ++ mark ∷ [])

-- ---- Memory

-- No two regions that a side offers have one STag.
abbrev pub GrantsHaveOwnStags : Type 0
GrantsHaveOwnStags = (opened : LinkParameters) (link : ℕ) (side : Side) (run : List Mark) → HaveOwnStags (grants_of opened link side run)

-- The access of a frame that doesn't end a side is allowed by what the side offers as the frame is received: after any events, if the
-- frame is the next one. So each access before a side's end is allowed, and the first that isn't ends it.
abbrev pub ClientAllows : Type 0
ClientAllows = (opened : LinkParameters) (events : List RunEvent) (f : Frame) (segment : Segment) (access : Access) → is_hello f ≡ false →
    client_segment (end_state_after (client_rules opened) (initial_client opened) events).state f ≡ Ok segment → access_of segment ≡ Some access →
    client_end (end_state_after (client_rules opened) (initial_client opened) events).state (FrameReceived f) ≡ None →
    Allowed (region_grants f.end (end_state_after (client_rules opened) (initial_client opened) events).state.regions) access f.end

abbrev pub ServerAllows : Type 0
ServerAllows = (opened : LinkParameters) (events : List RunEvent) (f : Frame) (segment : Segment) (access : Access) → is_hello f ≡ false → frame_segment f ≡ Ok segment → access_of segment ≡ Some access →
    server_end opened (end_state_after (server_rules opened) (initial_server opened) events).state (FrameReceived f) ≡ None →
    Allowed (region_grants f.end (end_state_after (server_rules opened) (initial_server opened) events).state.regions) access f.end

-- ---- Calls

-- The STag that a client gives next is at most numbers_end, while it keeps its law: so the next one is left or none is.
abbrev pub StagsAreNumbers : Type 0
StagsAreNumbers = (opened : LinkParameters) (link : ℕ) (run : List Mark) → IsOpened opened → AskedSoFar opened link run → (client opened link run).state.stag ≤ numbers_end

-- A call that a client accepts while none waits to be sent again keeps the law of its side, and fewer calls are outstanding than are granted.
abbrev pub AcceptedKeepsLaw : Type 0
AcceptedKeepsLaw = (opened : LinkParameters) (link : ℕ) (run : List Mark) (call : Call) (form : Form) (xid : ℕ) →
    submit_answer (client opened link run) call form ≡ submissions.Accepted xid → (client opened link run).state.waiting ≡ [] → IsOpened opened → AskedSoFar opened link run → CanWriteCred call.cred →
    IsAccepted opened link run call form xid × (calls_outstanding opened link run < credits_granted opened link run)

-- The Send of an accepted call is due at its Submit, by its plan, once the server's hello was received. Before, nothing is due.
abbrev pub SubmitIsSent : Type 0
SubmitIsSent = (opened : LinkParameters) (link : ℕ) (run : List Mark) (call : Call) (form : Form) (xid : ℕ) → (h : IsAccepted opened link run call form xid) →
    ((client opened link run).state.has_hello ≡ true →
    output_due opened link Initiator (run ++ marks.Submit link call form (submissions.Accepted xid) ∷ [])
    ≡ output_due opened link Initiator run ++ send ((client opened link run).state.sends + 1) (call_message xid opened.wished (stag_for (client opened link run).state xid) h.plan))
    × ((client opened link run).state.has_hello ≡ false →
    output_due opened link Initiator (run ++ marks.Submit link call form (submissions.Accepted xid) ∷ []) ≡ output_due opened link Initiator run)

-- From its Submit on the region of a call's read chunk holds what its plan put there, whatever the peer sends: so the Send of the
-- call conveys its payload over its regions.
abbrev pub ReadChunkStays : Type 0
ReadChunkStays = (opened : LinkParameters) (link : ℕ) (run more : List Mark) (call : Call) (form : Form) (xid : ℕ) → (h : IsAccepted opened link run call form xid) → has_segment (Some h.plan.read) ≡ true →
    placed_bytes opened link Initiator (run ++ marks.Submit link call form (submissions.Accepted xid) ∷ more) (read_stag (stag_for (client opened link run).state xid) h.plan) ≡ h.plan.region

-- For the server's hello, if it doesn't end the client, the Sends of all calls that are outstanding are due, in the order of their
-- Submits, numbered from 1 on. From then on the client has the hello.
abbrev pub HelloSendsCalls : Type 0
HelloSendsCalls = (opened : LinkParameters) (k : ClientState) (f : Frame) → is_hello f ≡ true → client_end k (FrameReceived f) ≡ None →
    (output_for (client_rules opened) (live k) (FrameReceived f) ≡ calls_output opened 1 k.outstanding)
    × ((next_end_state (client_rules opened) (live k) (FrameReceived f)).state.has_hello ≡ true)

-- a client in this state, with the numbers that it gives next after a call
abbrev pub numbered_on : ClientState → AcceptedCall → ClientState
numbered_on k a = record k { sends = k.sends + 1; stag = k.stag + stags_taken k a.xid (outstanding_of k a).plan; waiting = others_than k.waiting a.xid }

-- a call that is outstanding, whether or not its memory was revoked
abbrev pub as_submitted : OutstandingCall → OutstandingCall
as_submitted o = record o { is_revoked = false }

-- These calls as a client in this state has them outstanding, in their order: each with the plan of its form, and with the numbers of Sends and
-- the STags from those on that it gives next.
abbrev pub outstanding_from : ClientState → List AcceptedCall → List OutstandingCall
outstanding_from k [] = []
outstanding_from k (a ∷ accepted) = as_submitted (outstanding_of k a) ∷ outstanding_from (numbered_on k a) accepted

-- Until the server's hello is received, the calls that are outstanding are all that were accepted, in the order of their Submits, and
-- no Send of them is written. So for the hello, if it doesn't end the client, a Send of each accepted call is due, in this order.
abbrev pub AcceptedCallsWait : Type 0
AcceptedCallsWait = (opened : LinkParameters) (link : ℕ) (run : List Mark) → AskedSoFar opened link run → (client opened link run).state.has_hello ≡ false →
    (map as_submitted (client opened link run).state.outstanding ≡ outstanding_from (initial_client opened).state (accepted_calls link run))
    × ((f : Frame) → is_hello f ≡ true → (next_end_state (client_rules opened) (client opened link run) (FrameReceived f)).ended ≡ None →
    output_for (client_rules opened) (client opened link run) (FrameReceived f)
    ≡ calls_output opened 1 (outstanding_from (initial_client opened).state (accepted_calls link run)))

-- An executed call's payload begins with the head of a call under its xid.
abbrev pub PayloadHasItsXid : Type 0
PayloadHasItsXid = (opened : LinkParameters) (link : ℕ) (run : List Mark) (xid : ℕ) (payload : List ℕ) → IsExecuted opened link run xid payload →
    (head : CallHead) × ((call_of payload ≡ Ok head) × (head_xid head ≡ xid))

-- A call that a frame makes ready has the payload that is conveyed, as the frame is received, by the lists and the stream of a call
-- that was pending or that the frame's message makes pending, and by the server's memory. It has that call's number and xid.
abbrev pub ReadyIsConveyed : Type 0
ReadyIsConveyed = (k : ServerState) (f : Frame) (segment : Segment) (r : ReadyCall) → frame_segment f ≡ Ok segment → (frame_effect k f).ready ≡ r ∷ [] → IsConveyed k f segment r

-- a server after these events
abbrev pub server_by : LinkParameters → List RunEvent → ServerState
server_by opened es = (end_state_after (server_rules opened) (initial_server opened) es).state

-- A message that was received is that of this call: a frame among these events completes it. The call has the number of its Send, its
-- xid and lists, and its stream if that is in the message.
pub record IsReceivedCall (opened : LinkParameters) (es : List RunEvent) (c : PendingCall) : Type 0 where
  pub earlier : List RunEvent
  pub later : List RunEvent
  pub frame : Frame
  pub segment : Segment
  pub message : List ℕ
  pub header : Header
  pub is_received : es ≡ earlier ++ FrameReceived frame ∷ later
  pub behind_hello : is_hello frame ≡ false
  pub is_segment : frame_segment frame ≡ Ok segment
  pub whole : message_completed (server_by opened earlier).received segment ≡ Some message
  pub is_header : header_of message ≡ Ok header
  pub number : c.number ≡ (server_by opened earlier).received.sends + 1
  pub xid : c.xid ≡ header.xid
  pub lists : c.lists ≡ lists_by header.body
  pub stream : c.inline ≡ known_stream message header.body

-- The payload of a ready call is conveyed by the lists and the stream of a message that was received, and by the bytes that the call's
-- sink regions held as a frame of these events was received: the one that completed the call.
pub record WasConveyed (opened : LinkParameters) (es : List RunEvent) (r : ReadyCall) : Type 0 where
  pub earlier : List RunEvent
  pub later : List RunEvent
  pub frame : Frame
  pub segment : Segment
  pub call : PendingCall
  pub is_received : es ≡ earlier ++ FrameReceived frame ∷ later
  pub behind_hello : is_hello frame ≡ false
  pub is_segment : frame_segment frame ≡ Ok segment
  pub own : IsReceivedCall opened (earlier ++ FrameReceived frame ∷ []) call
  pub payload : pending_payload (with_access (server_by opened earlier) frame segment) frame.end call ≡ Some r.payload
  pub number : r.number ≡ call.number
  pub xid : r.xid ≡ call.xid

-- The payload of an executed call is what a message that was received before conveys.
abbrev pub PayloadIsConveyed : Type 0
PayloadIsConveyed = (opened : LinkParameters) (link : ℕ) (before : List Mark) (xid : ℕ) (payload : List ℕ) → (h : IsExecuted opened link before xid payload) →
    WasConveyed opened (events link Responder before) (record { number = h.call.number; xid = xid; payload = payload })

-- It is answered by RDMA Writes and then one Send, which names an STag of the offer if that is agreed on, if the offer of the pending call
-- of its xid holds the reply, else by ERR_CHUNK.
abbrev pub ExecuteIsAnswered : Type 0
ExecuteIsAnswered = (opened : LinkParameters) (link : ℕ) (run : List Mark) (xid : ℕ) (moment : Moment) (payload : List ℕ) (place : ℕ) (reply : List ℕ) → IsExecuted opened link run xid payload →
    ((a : Answer) → answer_of_target (offer_of (server opened link run).state xid) (server opened link run).state.down_max reply (target_of (call_of payload)) ≡ Some a →
    output_due opened link Responder (run ++ marks.Execute link xid moment payload place reply ∷ [])
    ≡ output_due opened link Responder run
    ++ (answer_writes (offer_of (server opened link run).state xid) a
    ++ send_by (stag_named (server opened link run).state.invalidates (offer_of (server opened link run).state xid)) ((server opened link run).state.messages_queued + 1)
    (answer_message xid (credit_word (server opened link run).state) (offer_of (server opened link run).state xid) a)))
    × (answer_of_target (offer_of (server opened link run).state xid) (server opened link run).state.down_max reply (target_of (call_of payload)) ≡ None →
    output_due opened link Responder (run ++ marks.Execute link xid moment payload place reply ∷ [])
    ≡ output_due opened link Responder run
    ++ send ((server opened link run).state.messages_queued + 1) (chunk_error xid (credit_word (server opened link run).state)))

-- A Send that is refused is answered by one error message, if its frame doesn't end the server, and makes no call pending or ready.
abbrev pub RefusedSendIsAnswered : Type 0
RefusedSendIsAnswered = (opened : LinkParameters) (k : ServerState) (f : Frame) (segment : Segment) (message : List ℕ) → is_hello f ≡ false → frame_segment f ≡ Ok segment →
    message_completed k.received segment ≡ Some message → server_end opened k (FrameReceived f) ≡ None →
    (verdict k message ≡ BadChunks → IsOnlyAnswered opened k f (chunk_error (word_at 0 message) (credit_word k)))
    × (verdict k message ≡ OtherVersion → IsOnlyAnswered opened k f (version_error (word_at 0 message) (word_at 4 message) (credit_word k)))

-- Of a message with the fixed words, version 1 and another kind than RDMA_DONE and RDMA_ERROR, whose xid isn't pending, ERR_CHUNK is
-- due if and only if its header is bad, or its stream is there and its read chunk isn't that of its item.
abbrev pub BadMessageIsRefused : Type 0
BadMessageIsRefused = (k : ServerState) (message : List ℕ) → 16 ≤ length message → word_at 4 message ≡ 1 → word_at 12 message ≢ 3 → word_at 12 message ≢ 4 → is_pending k (word_at 0 message) ≡ false →
    verdict k message ≡ BadChunks ↔ (HeaderBad message ⊎ HasOtherChunk message (header_of message))

-- So is a call whose stream had to be read, and whose read chunk isn't its item's.
abbrev pub RefusedCallIsAnswered : Type 0
RefusedCallIsAnswered = (opened : LinkParameters) (k : ServerState) (f : Frame) (segment : Segment) (c : PendingCall) → is_hello f ≡ false → frame_segment f ≡ Ok segment →
    IsStreamRefused k f segment c → server_end opened k (FrameReceived f) ≡ None → IsRefusedCall opened k f c

-- A frame refuses the Send of this number: the message that it completes, or the call whose stream it ends.
abbrev pub RefusesSend : ServerState → Frame → Segment → ℕ → Type 0
RefusesSend k f segment number =
    ((message : List ℕ) × ((message_completed k.received segment ≡ Some message)
    × ((number ≡ k.received.sends + 1) × ((verdict k message ≡ BadChunks) ⊎ (verdict k message ≡ OtherVersion)))))
    ⊎ ((c : PendingCall) × (IsStreamRefused k f segment c × (number ≡ c.number)))

-- A Send that is refused is never executed, whatever the peer sends: no call that is executed after the frame that refuses it has its
-- number.
abbrev pub RefusedIsNotExecuted : Type 0
RefusedIsNotExecuted = (opened : LinkParameters) (link : ℕ) (before : List Mark) (earlier later : List RunEvent) (f : Frame) (segment : Segment) (number : ℕ) →
    events link Responder before ≡ earlier ++ FrameReceived f ∷ later → is_hello f ≡ false → frame_segment f ≡ Ok segment →
    RefusesSend (end_state_after (server_rules opened) (initial_server opened) earlier).state f segment number →
    (xid : ℕ) (payload : List ℕ) (h : IsExecuted opened link before xid payload) → h.call.number ≢ number

-- At most open_reads_max Read Requests are open, and a read waits only while that number is open.
abbrev pub OpenReadsAreFew : Type 0
OpenReadsAreFew = (opened : LinkParameters) (k : ServerState) (f : Frame) (segment : Segment) → is_hello f ≡ false → frame_segment f ≡ Ok segment →
    server_end opened k (FrameReceived f) ≡ None → OpensReads opened k f segment

-- The message of a plan whose form isn't given, of a payload that isn't empty, is judged by the STags that its reads need, if its xid
-- isn't pending: its call is pending, with the plan's lists and stream, or the link ends because too few STags are left.
abbrev pub PlanIsAccepted : Type 0
PlanIsAccepted = (k : ServerState) (payload : List ℕ) (form : Form) (up down xid credit stag : ℕ) (p : Plan) → IsPlanned payload form up down xid credit stag p →
    0 < length payload → is_pending k xid ≡ false →
    verdict k (call_message xid credit stag p) ≡ by_need k (record { number = k.received.sends + 1; xid = xid; lists = lists_of stag p; inline = inline_stream p })

-- No Send is executed twice, whatever the peer sends.
abbrev pub SendIsExecutedOnce : Type 0
SendIsExecutedOnce = (opened : LinkParameters) (link : ℕ) (run before between behind : List Mark) (xid yid : ℕ) (moment now : Moment) (payload asked : List ℕ) (place later : ℕ) (reply answer : List ℕ) →
    run ≡ before ++ marks.Execute link xid moment payload place reply ∷ (between ++ marks.Execute link yid now asked later answer ∷ behind) → ServedSoFar opened link run →
    (first second : ReadyCall) → next_call opened link before ≡ Some first →
    next_call opened link (before ++ marks.Execute link xid moment payload place reply ∷ between) ≡ Some second → first.number ≢ second.number

-- No call completes twice.
abbrev pub CallCompletesOnce : Type 0
CallCompletesOnce = (opened : LinkParameters) (link xid : ℕ) (outcome : Outcome) (run before behind : List Mark) → run ≡ before ++ marks.Done link xid outcome ∷ behind →
    AskedSoFar opened link run → (c : CompletedCall) → Contains (completed_calls link before) c → c.xid ≢ xid

-- No xid is given twice: xids rise.
abbrev pub XidsRise : Type 0
XidsRise = (opened : LinkParameters) (link : ℕ) (run before between behind : List Mark) (call other : Call) (form way : Form) (xid yid : ℕ) →
    run ≡ before ++ marks.Submit link call form (submissions.Accepted xid) ∷ (between ++ marks.Submit link other way (submissions.Accepted yid) ∷ behind) →
    AskedSoFar opened link run → xid < yid

-- Of two calls that were executed, on any links, the later one's place isn't smaller.
abbrev pub PlacesRise : Type 0
PlacesRise = (adds : Moment → List ℕ → List ℕ → List Entry) (J : List Entry) (run before between behind : List Mark) (link other xid yid : ℕ) (moment now : Moment) (payload asked : List ℕ) (place later : ℕ) (reply answer : List ℕ) →
    run ≡ before ++ marks.Execute link xid moment payload place reply ∷ (between ++ marks.Execute other yid now asked later answer ∷ behind) →
    Journaled (any_that_adds adds) J run → place ≤ later
