-- The output that is due, as items beside its bytes: the hello of a side, and the Sends, Read Requests, Read Responses and RDMA Writes
-- that are due after it, in order, and the last output of a side that ends.
use Rattle.std.specs.Prelude.{ℕ, ◌+◌, ◌==◌, min, if◌then◌else◌, List, [], ◌∷◌, ◌++◌, length, take, drop, Option, None, Some}
use Rattle.nr_header.specs.declared.header.ChunkLists.{ChunkLists}
use Rattle.nr_header.specs.declared.header.RdmaSegment.{RdmaSegment}
use Rattle.nr_rpc.specs.Reading.{call_of, target_of}
use Rattle.nr_wire.specs.declared.hello.Side.{Side}
use Rattle.nr_wire.specs.declared.hello.Side.TheVariants.{Initiator, Responder}
use Rattle.nr_link.specs.declared.end.End.{End}
use Rattle.nr_link.specs.Frames.{is_hello}
use Rattle.nr_link.specs.Ending.{rejection}
use Rattle.nr_link.specs.Output.{msn_word}
use Rattle.nr_link.specs.OutputItem.{OutputItem}
use Rattle.nr_link.specs.OutputItem.OutputItem.{SendItem, SendInvalidateItem, WriteItem, ReadRequestItem, ReadResponseItem, LastItem}
use Rattle.nr_link.specs.ReceiveState.{ReadRequest}
use Rattle.nr_reduce.specs.declared.mark.Mark.{Mark}
use Rattle.nr_reduce.specs.declared.mark.LinkParameters.{LinkParameters}
use Rattle.nr_reduce.specs.History.{ExecutedCall}
use Rattle.nr_reduce.specs.Plans.{call_message}
use Rattle.nr_reduce.specs.Holds.{Answer, answer_message, chunk_error, first_chunk, no_segments}
use Rattle.nr_reduce.specs.Events.{RunEvent, events}
use Rattle.nr_reduce.specs.Events.RunEvent.{FrameReceived, CallSubmitted, MemoryRevoked, CallExecuted, QueueWritten, ServerTold}
use Rattle.nr_reduce.specs.Hellos.{client_hello, server_hello}
use Rattle.nr_reduce.specs.EndRules.{EndMachine, EndState, next_end_state}
use Rattle.nr_reduce.specs.ClientState.{OutstandingCall, ClientState, client_memory_at}
use Rattle.nr_reduce.specs.Client.{client_rules, initial_client, client_segment, outstanding_of, segment_request}
use Rattle.nr_reduce.specs.ServerState.{PendingRead, ServerState, credit_word}
use Rattle.nr_reduce.specs.ServerFrames.{FrameEffect, frame_effect}
use Rattle.nr_reduce.specs.Server.{server_rules, initial_server, newly_open_reads, offer_of, answer_of_target, stag_named}

-- ---- Of a client

abbrev pub sent_call_item : LinkParameters → ℕ → OutstandingCall → OutputItem
sent_call_item opened number o = SendItem (msn_word number) (call_message o.xid opened.wished o.stag o.plan)

abbrev pub sent_call_items : LinkParameters → ℕ → List OutstandingCall → List OutputItem
sent_call_items opened number [] = []
sent_call_items opened number (o ∷ others) = sent_call_item opened number o ∷ sent_call_items opened (number + 1) others

abbrev pub response_items : ClientState → ℕ → Option ReadRequest → List OutputItem
response_items k place None = []
response_items k place (Some r) = ReadResponseItem r.sink r.sink_to (take r.size (drop r.to (client_memory_at k place r.stag))) ∷ []

unfoldable pub client_items_at : LinkParameters → ClientState → RunEvent → List OutputItem
client_items_at opened k (FrameReceived f) = if is_hello f then sent_call_items opened 1 k.outstanding else response_items k f.end (segment_request (client_segment k f))
client_items_at opened k (CallSubmitted place a) = if k.has_hello then sent_call_item opened (k.sends + 1) (outstanding_of k a) ∷ [] else []
client_items_at opened k (MemoryRevoked place xid) = []
client_items_at opened k (CallExecuted call) = []
client_items_at opened k (QueueWritten taken) = []
client_items_at opened k (ServerTold what) = []

-- ---- Of a server

abbrev pub message_items : ℕ → List (List ℕ) → List OutputItem
message_items number [] = []
message_items number (message ∷ messages) = SendItem (msn_word number) message ∷ message_items (number + 1) messages

abbrev pub request_items : ℕ → List PendingRead → List OutputItem
request_items number [] = []
request_items number (r ∷ reads) = ReadRequestItem (msn_word number) r.sink r.at r.size r.stag r.to ∷ request_items (number + 1) reads

abbrev pub effect_items : ServerState → FrameEffect → List OutputItem
effect_items k s = message_items (k.messages_queued + 1) s.errors ++ request_items (k.requests_sent + 1) (newly_open_reads s)

abbrev pub write_items : List RdmaSegment → List ℕ → List OutputItem
write_items [] bytes = []
write_items (s ∷ chunk) bytes =
    (if min s.length (length bytes) == 0 then [] else WriteItem s.handle s.offset (take s.length bytes) ∷ []) ++ write_items chunk (drop s.length bytes)

-- a Send, with Invalidate if there is an STag
abbrev pub send_item_by : Option ℕ → ℕ → List ℕ → OutputItem
send_item_by None number message = SendItem (msn_word number) message
send_item_by (Some stag) number message = SendInvalidateItem (msn_word number) stag message

abbrev pub answer_items : ServerState → ℕ → ChunkLists → Option Answer → List OutputItem
answer_items k xid offer None = SendItem (msn_word (k.messages_queued + 1)) (chunk_error xid (credit_word k)) ∷ []
answer_items k xid offer (Some a) =
    (write_items (first_chunk offer.write) a.moved ++ (if a.long then write_items (no_segments offer.reply) a.stream else []))
    ++ send_item_by (stag_named k.invalidates offer) (k.messages_queued + 1) (answer_message xid (credit_word k) offer a) ∷ []

unfoldable pub execution_items : ServerState → ExecutedCall → List OutputItem
execution_items k e =
    answer_items k e.xid (offer_of k e.xid)
    (answer_of_target (offer_of k e.xid) k.down_max e.reply (target_of (call_of e.payload)))

unfoldable pub server_items_at : LinkParameters → ServerState → RunEvent → List OutputItem
server_items_at opened k (FrameReceived f) = if is_hello f then [] else effect_items k (frame_effect k f)
server_items_at opened k (CallSubmitted place a) = []
server_items_at opened k (MemoryRevoked place xid) = []
server_items_at opened k (CallExecuted e) = execution_items k e
server_items_at opened k (QueueWritten taken) = []
server_items_at opened k (ServerTold what) = []

-- the hello that is due for an event that doesn't end the server
abbrev pub server_hello_at : LinkParameters → RunEvent → List ℕ
server_hello_at opened (FrameReceived f) = if is_hello f then server_hello opened f else []
server_hello_at opened (CallSubmitted place a) = []
server_hello_at opened (MemoryRevoked place xid) = []
server_hello_at opened (CallExecuted e) = []
server_hello_at opened (QueueWritten taken) = []
server_hello_at opened (ServerTold what) = []

-- ---- Of the marks of a run

module _ {S A : Type 0} (rules : EndMachine S) (at_event : S → RunEvent → List A) (at_end : End → List A) where
  abbrev pub due_for_by : S → RunEvent → Option End → List A
  due_for_by s event None = at_event s event
  due_for_by s event (Some end) = at_end end

  abbrev pub due_for_in : S → RunEvent → Option End → List A
  due_for_in s event None = due_for_by s event (rules.end_at s event)
  due_for_in s event (Some end) = []

  abbrev pub due_for : EndState S → RunEvent → List A
  due_for r event = due_for_in r.state event r.ended

  abbrev pub due_for_all : EndState S → List RunEvent → List A
  due_for_all r [] = []
  due_for_all r (event ∷ events) = due_for r event ++ due_for_all (next_end_state rules r event) events

unfoldable pub items_due : LinkParameters → ℕ → Side → List Mark → List OutputItem
items_due opened link Initiator run = due_for_all (client_rules opened) (client_items_at opened) (λ end. LastItem end ∷ []) (initial_client opened) (events link Initiator run)
items_due opened link Responder run = due_for_all (server_rules opened) (server_items_at opened) (λ end. LastItem end ∷ []) (initial_server opened) (events link Responder run)

-- The client's hello is due from the start, the server's when the client's was received.
unfoldable pub hello_due : LinkParameters → ℕ → Side → List Mark → List ℕ
hello_due opened link Initiator run = client_hello opened
hello_due opened link Responder run = due_for_all (server_rules opened) (λ k event. server_hello_at opened event) (rejection Responder) (initial_server opened) (events link Responder run)
