-- What each side writes, as hellos and segments.
use Rattle.std.proofs.Common.{◌≡◌, ℕ, ◌+◌, ◌*◌, ◌≤◌, Bool, true, false, cond, eqb, List, [], ◌∷◌, ◌++◌, length, take, drop, map, Option, None, Some, refl, sym, ap, ◌∙◌, arith, append-nil, lt-ltb, eqb-true}
use Rattle.std.specs.List.{flat_map, range_with_len, AllByRecursion}
use Rattle.std.proofs.lemmas.Grind.{flat_map-append}
use Rattle.nr_xdr.specs.Item.{word, hyper}
use Rattle.nr_wire.specs.Constants.{UNITS_MAX, OPCODE_READ_REQUEST, OPCODE_READ_RESPONSE, OPCODE_TERMINATE, QUEUE_READ_REQUEST, QUEUE_TERMINATE, REASON_FLAGS}
use Rattle.nr_wire.specs.declared.hello.Side.TheVariants.{Responder}
use Rattle.nr_wire.specs.Segment.{Segment, encoding}
use Rattle.nr_wire.specs.Segment.Segment.{Tagged, Untagged}
use Rattle.nr_link.specs.declared.end.End.{End as Stop}
use Rattle.nr_link.specs.declared.end.End.TheVariants as ends
use Rattle.nr_link.specs.Limits.{segment_max, send_unit}
use Rattle.nr_link.specs.Reasons.{denied_word, NO_BUFFER_WORD}
use Rattle.nr_link.specs.Output.{segment_count, segment_payload, cut, msn_word, send, send_by, send_invalidating, read_response, read_request, terminate_message, refusing_hello}
use Rattle.nr_laws.specs.MessageSegments.{message_segment, message_segments, named_segment, named_segments}
use Rattle.nr_link.specs.Frames.{is_hello}
use Rattle.nr_link.specs.ReceiveState.{ReadRequest}
use Rattle.nr_link.specs.Ending.{final_output, last_output, is_hello_reason}
use Rattle.nr_reduce.specs.Hellos.{server_hello}
use Rattle.nr_reduce.specs.declared.mark.LinkParameters.{LinkParameters}
use Rattle.nr_reduce.specs.History.{ExecutedCall}
use Rattle.nr_reduce.specs.Events.{RunEvent}
use Rattle.nr_reduce.specs.Events.RunEvent.{FrameReceived, CallSubmitted, MemoryRevoked, CallExecuted, QueueWritten, ServerTold}
use Rattle.nr_header.specs.declared.header.ChunkLists.{ChunkLists}
use Rattle.nr_rpc.specs.Reading.{call_of, target_of}
use Rattle.nr_reduce.specs.Plans.{call_message}
use Rattle.nr_reduce.specs.Holds.{Answer, answer_message, chunk_error}
use Rattle.nr_reduce.specs.ChunkBytes.{answer_segments}
use Rattle.nr_reduce.proofs.Answering.{answer_spells}
use Rattle.nr_reduce.specs.ClientState.{ClientState, OutstandingCall, client_memory_at}
use Rattle.nr_reduce.specs.Client.{client_segment, client_output, calls_output, call_output, response_output, segment_request, outstanding_of}
use Rattle.nr_reduce.specs.ServerState.{ServerState, PendingRead, credit_word}
use Rattle.nr_reduce.specs.ServerFrames.{FrameEffect, frame_effect}
use Rattle.nr_reduce.specs.Server.{server_output, sends_from, requests_from, newly_open_reads, effect_output, offer_of, answer_of_target, answer_output, execution_output, stag_named}

pub data Output : Type 0 where
  AHello : (bytes : List ℕ) → Output
  ASegment : (segment : Segment) → Output

abbrev pub bytes_of : Output → List ℕ
bytes_of (AHello bytes) = bytes
bytes_of (ASegment segment) = encoding segment

abbrev pub bytes_of_all : List Output → List ℕ
bytes_of_all outs = flat_map bytes_of outs

pub bytes_append : (xs ys : List Output) → bytes_of_all (xs ++ ys) ≡ bytes_of_all xs ++ bytes_of_all ys
bytes_append xs ys = flat_map-append bytes_of xs ys

pub bytes_segments : (segments : List Segment) → bytes_of_all (map ASegment segments) ≡ flat_map encoding segments
bytes_segments [] = refl
bytes_segments (s ∷ segments) = ap (λ (xs : List ℕ). encoding s ++ xs) (bytes_segments segments)

-- ---- Messages

-- no longer than a Send may be
abbrev pub IsShort : List ℕ → Type 0
IsShort message = length message ≤ send_unit * UNITS_MAX

flat_map_lem : (f : ℕ → Segment) (is : List ℕ) → flat_map (λ i. encoding (f i)) is ≡ flat_map encoding (map f is)
flat_map_lem f [] = refl
flat_map_lem f (i ∷ is) = ap (λ (xs : List ℕ). encoding (f i) ++ xs) (flat_map_lem f is)

-- a message with its cut: its segments, in order
abbrev pub message_outputs : ℕ → List ℕ → List Output
message_outputs msn message = map ASegment (message_segments msn message)

-- one that names an STag, or none
abbrev pub named_outputs : Option ℕ → ℕ → List ℕ → List Output
named_outputs named msn message = map ASegment (named_segments named msn message)

invalidating_said : (msn stag : ℕ) (message : List ℕ) → send_invalidating msn stag message ≡ bytes_of_all (named_outputs (Some stag) msn message)
unfolding send_invalidating cut
invalidating_said msn stag message =
    flat_map_lem (named_segment (Some stag) msn message) (range_with_len 0 (segment_count message))
    ∙ sym (bytes_segments (named_segments (Some stag) msn message))

pub send_said : (msn : ℕ) (message : List ℕ) → send msn message ≡ bytes_of_all (message_outputs msn message)
unfolding send cut
send_said msn message =
    flat_map_lem (message_segment msn message) (range_with_len 0 (segment_count message))
    ∙ sym (bytes_segments (message_segments msn message))

pub named_said : (named : Option ℕ) (msn : ℕ) (message : List ℕ) → send_by named msn message ≡ bytes_of_all (named_outputs named msn message)
named_said None msn message = send_said msn message
named_said (Some stag) msn message = invalidating_said msn stag message

abbrev pub message_of_call : LinkParameters → OutstandingCall → List ℕ
message_of_call opened o = call_message o.xid opened.wished o.stag o.plan

abbrev pub call_sends : LinkParameters → ℕ → List OutstandingCall → List Output
call_sends opened msn [] = []
call_sends opened msn (o ∷ os) = message_outputs msn (message_of_call opened o) ++ call_sends opened (msn + 1) os

abbrev pub message_sends : ℕ → List (List ℕ) → List Output
message_sends msn [] = []
message_sends msn (m ∷ ms) = message_outputs msn m ++ message_sends (msn + 1) ms

abbrev pub CallShort : LinkParameters → OutstandingCall → Type 0
CallShort opened o = IsShort (message_of_call opened o)

abbrev pub CallsShort : LinkParameters → List OutstandingCall → Type 0
CallsShort opened os = AllByRecursion (CallShort opened) os

abbrev pub AreShort : List (List ℕ) → Type 0
AreShort [] = Unit {0}
AreShort (m ∷ messages) = IsShort m × AreShort messages

calls_said_lem : (opened : LinkParameters) (msn : ℕ) (os : List OutstandingCall) → calls_output opened msn os ≡ bytes_of_all (call_sends opened msn os)
calls_said_lem opened msn [] = refl
calls_said_lem opened msn (o ∷ os) =
    (λ i. send_said msn (message_of_call opened o) i ++ calls_said_lem opened (msn + 1) os i)
    ∙ sym (bytes_append (message_outputs msn (message_of_call opened o)) (call_sends opened (msn + 1) os))

sends_said : (msn : ℕ) (ms : List (List ℕ)) → sends_from msn ms ≡ bytes_of_all (message_sends msn ms)
sends_said msn [] = refl
sends_said msn (m ∷ ms) = (λ i. send_said msn m i ++ sends_said (msn + 1) ms i) ∙ sym (bytes_append (message_outputs msn m) (message_sends (msn + 1) ms))

-- ---- Accesses

abbrev pub one_response : ℕ → ℕ → List ℕ → ℕ → Segment
one_response stag to bytes i = Tagged (eqb (i + 1) (segment_count bytes)) OPCODE_READ_RESPONSE stag (to + segment_max * i) (segment_payload bytes i)

abbrev pub response_segments : ℕ → ℕ → List ℕ → List Segment
response_segments stag to bytes = map (one_response stag to bytes) (range_with_len 0 (segment_count bytes))

response_said : (stag to : ℕ) (bytes : List ℕ) → read_response stag to bytes ≡ bytes_of_all (map ASegment (response_segments stag to bytes))
unfolding read_response cut
response_said stag to bytes =
    flat_map_lem (one_response stag to bytes) (range_with_len 0 (segment_count bytes))
    ∙ sym (bytes_segments (response_segments stag to bytes))

abbrev pub request_payload : PendingRead → List ℕ
request_payload r = word r.sink ++ (hyper r.at ++ (word r.size ++ (word r.stag ++ hyper r.to)))

abbrev pub request_segment : ℕ → PendingRead → Segment
request_segment msn r = Untagged true OPCODE_READ_REQUEST 0 QUEUE_READ_REQUEST (msn_word msn) 0 (request_payload r)

abbrev pub request_outputs : ℕ → List PendingRead → List Output
request_outputs msn [] = []
request_outputs msn (r ∷ reads) = ASegment (request_segment msn r) ∷ request_outputs (msn + 1) reads

requests_said : (msn : ℕ) (reads : List PendingRead) → requests_from msn reads ≡ bytes_of_all (request_outputs msn reads)
unfolding read_request
requests_said msn [] = refl
requests_said msn (r ∷ reads) = ap (λ (xs : List ℕ). read_request msn r.sink r.at r.size r.stag r.to ++ xs) (requests_said (msn + 1) reads)

-- ---- Last words

abbrev pub terminate_segment : ℕ → Segment
terminate_segment n = Untagged true OPCODE_TERMINATE 0 QUEUE_TERMINATE 1 0 (word n)

abbrev pub final_outputs : Stop → List Output
final_outputs (ends.Bad at reason) = cond (is_hello_reason reason) [] (ASegment (terminate_segment reason) ∷ [])
final_outputs (ends.Denied stag offset why) = ASegment (terminate_segment (denied_word why)) ∷ []
final_outputs (ends.NoBuffer msn) = ASegment (terminate_segment NO_BUFFER_WORD) ∷ []
final_outputs (ends.Terminated reason) = []
final_outputs ends.Memory = []

one_output : (s : Segment) → encoding s ≡ bytes_of_all (ASegment s ∷ [])
one_output s = sym (append-nil (encoding s))

pub final_said : (end : Stop) → final_output end ≡ bytes_of_all (final_outputs end)
unfolding final_output terminate_message
final_said (ends.Bad at reason) = by (is_hello_reason reason)
  where
    by : (b : Bool) → cond b [] (encoding (terminate_segment reason)) ≡ bytes_of_all (cond b [] (ASegment (terminate_segment reason) ∷ []))
    by true = refl
    by false = one_output (terminate_segment reason)
final_said (ends.Denied stag offset why) = one_output (terminate_segment (denied_word why))
final_said (ends.NoBuffer msn) = one_output (terminate_segment NO_BUFFER_WORD)
final_said (ends.Terminated reason) = refl
final_said ends.Memory = refl

abbrev pub server_final_outputs : Stop → List Output
server_final_outputs (ends.Bad at reason) = cond (eqb reason REASON_FLAGS) (AHello refusing_hello ∷ []) (final_outputs (ends.Bad at reason))
server_final_outputs (ends.Denied stag offset why) = final_outputs (ends.Denied stag offset why)
server_final_outputs (ends.NoBuffer msn) = final_outputs (ends.NoBuffer msn)
server_final_outputs (ends.Terminated reason) = []
server_final_outputs ends.Memory = []

-- a refused hello has no Terminate
no_terminate : (at reason : ℕ) → eqb reason REASON_FLAGS ≡ true → final_output (ends.Bad at reason) ≡ []
unfolding final_output
no_terminate at reason is = ap (λ (b : Bool). cond b [] (terminate_message reason)) (lt-ltb reason 5 (let e = eqb-true reason REASON_FLAGS is in omega (arith, e)))

pub server_final_said : (end : Stop) → last_output Responder end ≡ bytes_of_all (server_final_outputs end)
server_final_said (ends.Bad at reason) = by (eqb reason REASON_FLAGS) refl
  where
    by : (b : Bool) → eqb reason REASON_FLAGS ≡ b → cond b refusing_hello [] ++ final_output (ends.Bad at reason) ≡ bytes_of_all (cond b (AHello refusing_hello ∷ []) (final_outputs (ends.Bad at reason)))
    by true is = ap (λ (bs : List ℕ). refusing_hello ++ bs) (no_terminate at reason is)
    by false is = final_said (ends.Bad at reason)
server_final_said (ends.Denied stag offset why) = final_said (ends.Denied stag offset why)
server_final_said (ends.NoBuffer msn) = final_said (ends.NoBuffer msn)
server_final_said (ends.Terminated reason) = final_said (ends.Terminated reason)
server_final_said ends.Memory = final_said ends.Memory

-- ---- For each event

abbrev pub response_outputs : ClientState → ℕ → Option ReadRequest → List Output
response_outputs k place None = []
response_outputs k place (Some r) = map ASegment (response_segments r.sink r.sink_to (take r.size (drop r.to (client_memory_at k place r.stag))))

unfoldable pub client_says : LinkParameters → ClientState → RunEvent → List Output
client_says opened k (FrameReceived f) = cond (is_hello f) (call_sends opened 1 k.outstanding) (response_outputs k f.end (segment_request (client_segment k f)))
client_says opened k (CallSubmitted place a) = cond k.has_hello (message_outputs (k.sends + 1) (message_of_call opened (outstanding_of k a))) []
client_says opened k (MemoryRevoked place xid) = []
client_says opened k (CallExecuted call) = []
client_says opened k (QueueWritten taken) = []
client_says opened k (ServerTold what) = []

pub client_said : (opened : LinkParameters) (k : ClientState) (event : RunEvent) → client_output opened k event ≡ bytes_of_all (client_says opened k event)
unfolding client_output client_says
client_said opened k (FrameReceived f) = by (is_hello f) (segment_request (client_segment k f))
  where
    by_request : (o : Option ReadRequest) → response_output k f.end o ≡ bytes_of_all (response_outputs k f.end o)
    by_request None = refl
    by_request (Some r) = response_said r.sink r.sink_to (take r.size (drop r.to (client_memory_at k f.end r.stag)))

    by : (b : Bool) (o : Option ReadRequest) → cond b (calls_output opened 1 k.outstanding) (response_output k f.end o) ≡ bytes_of_all (cond b (call_sends opened 1 k.outstanding) (response_outputs k f.end o))
    by true o = calls_said_lem opened 1 k.outstanding
    by false o = by_request o
client_said opened k (CallSubmitted place a) = by k.has_hello
  where
    by : (b : Bool) → cond b (call_output opened (k.sends + 1) (outstanding_of k a)) [] ≡ bytes_of_all (cond b (message_outputs (k.sends + 1) (message_of_call opened (outstanding_of k a))) [])
    by true = send_said (k.sends + 1) (message_of_call opened (outstanding_of k a))
    by false = refl
client_said opened k (MemoryRevoked place xid) = refl
client_said opened k (CallExecuted call) = refl
client_said opened k (QueueWritten taken) = refl
client_said opened k (ServerTold what) = refl

abbrev pub effect_outputs : ServerState → FrameEffect → List Output
effect_outputs k s = message_sends (k.messages_queued + 1) s.errors ++ request_outputs (k.requests_sent + 1) (newly_open_reads s)

abbrev pub answer_outputs : ServerState → ℕ → ChunkLists → Option Answer → List Output
answer_outputs k xid offer None = message_outputs (k.messages_queued + 1) (chunk_error xid (credit_word k))
answer_outputs k xid offer (Some a) = map ASegment (answer_segments offer a) ++ named_outputs (stag_named k.invalidates offer) (k.messages_queued + 1) (answer_message xid (credit_word k) offer a)

abbrev pub answer_of_call : ServerState → ExecutedCall → Option Answer
answer_of_call k e = answer_of_target (offer_of k e.xid) k.down_max e.reply (target_of (call_of e.payload))

unfoldable pub server_says : LinkParameters → ServerState → RunEvent → List Output
server_says opened k (FrameReceived f) = cond (is_hello f) (AHello (server_hello opened f) ∷ []) (effect_outputs k (frame_effect k f))
server_says opened k (CallSubmitted place a) = []
server_says opened k (MemoryRevoked place xid) = []
server_says opened k (CallExecuted e) = answer_outputs k e.xid (offer_of k e.xid) (answer_of_call k e)
server_says opened k (QueueWritten taken) = []
server_says opened k (ServerTold what) = []

abbrev pub AnswerShort : ServerState → ℕ → ChunkLists → Option Answer → Type 0
AnswerShort k xid offer None = IsShort (chunk_error xid (credit_word k))
AnswerShort k xid offer (Some a) = IsShort (answer_message xid (credit_word k) offer a)

answer_said : (k : ServerState) (xid : ℕ) (offer : ChunkLists) (o : Option Answer) → answer_output k xid offer o ≡ bytes_of_all (answer_outputs k xid offer o)
answer_said k xid offer None = send_said (k.messages_queued + 1) (chunk_error xid (credit_word k))
answer_said k xid offer (Some a) =
    (λ i. (answer_spells offer a ∙ sym (bytes_segments (answer_segments offer a))) i ++ named_said (stag_named k.invalidates offer) (k.messages_queued + 1) (answer_message xid (credit_word k) offer a) i)
    ∙ sym (bytes_append (map ASegment (answer_segments offer a)) (named_outputs (stag_named k.invalidates offer) (k.messages_queued + 1) (answer_message xid (credit_word k) offer a)))

pub server_said : (opened : LinkParameters) (k : ServerState) (event : RunEvent) → server_output opened k event ≡ bytes_of_all (server_says opened k event)
unfolding server_output server_says execution_output
server_said opened k (FrameReceived f) = by (is_hello f)
  where
    s : FrameEffect
    s = frame_effect k f

    by : (b : Bool) → cond b (server_hello opened f) (effect_output k s) ≡ bytes_of_all (cond b (AHello (server_hello opened f) ∷ []) (effect_outputs k s))
    by true = sym (append-nil (server_hello opened f))
    by false =
        (λ i. sends_said (k.messages_queued + 1) s.errors i ++ requests_said (k.requests_sent + 1) (newly_open_reads s) i)
        ∙ sym (bytes_append (message_sends (k.messages_queued + 1) s.errors) (request_outputs (k.requests_sent + 1) (newly_open_reads s)))
server_said opened k (CallSubmitted place a) = refl
server_said opened k (MemoryRevoked place xid) = refl
server_said opened k (CallExecuted e) = answer_said k e.xid (offer_of k e.xid) (answer_of_call k e)
server_said opened k (QueueWritten taken) = refl
server_said opened k (ServerTold what) = refl
