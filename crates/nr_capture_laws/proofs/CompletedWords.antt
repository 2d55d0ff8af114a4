-- The numbers of an outcome that a message brought are words: the message is bytes.
use Rattle.std.specs.Prelude.{◌&&◌, ◌||◌, Contains, length, drop}
use Rattle.std.proofs.Common.{◌≡◌, ℕ, Bool, true, false, cond, eqb, ltb, List, [], ◌∷◌, ◌++◌, Option, None, Some, Result, Ok, Err, refl, subst}
use Rattle.nr_xdr.specs.Item.{IsBytes}
use Rattle.nr_xdr.specs.Fields.{word_at}
use Rattle.nr_xdr.specs.Reading.{Cursor}
use Rattle.nr_xdr.specs.Sequencing.{◌>>=◌}
use Rattle.nr_wire.specs.Segment.{Segment}
use Rattle.nr_wire.specs.declared.hello.Side.TheVariants.{Initiator}
use Rattle.nr_rpc.specs.declared.head.ReplyHead.{ReplyHead}
use Rattle.nr_rpc.specs.Reading.{reply_of}
use Rattle.nr_header.specs.declared.header.Header.{Header}
use Rattle.nr_header.specs.declared.header.Body.{Body}
use Rattle.nr_header.specs.declared.header.Body.TheVariants.{Msg, Nomsg, ErrVers, ErrChunk}
use Rattle.nr_header.specs.declared.header.ChunkLists.{ChunkLists}
use Rattle.nr_header.specs.declared.fault.HeaderFault.{HeaderFault}
use Rattle.nr_header.specs.declared.fault.HeaderFault.TheVariants as faults
use Rattle.nr_header.specs.Constants.{FIXED_LEN, VERSION, MSG, NOMSG, ERROR}
use Rattle.nr_header.specs.Reading.{header_of, header_by, body_by, error_by, error_of, version1_of, in_lists, lists_at, sums_pass, msg_body, nomsg_body, msg_at, nomsg_at}
use Rattle.nr_link.specs.declared.end.End.{End as Stop}
use Rattle.nr_link.specs.Frames.{Frame, is_hello}
use Rattle.nr_link.specs.Reasons.{REASON_XID}
use Rattle.nr_link.specs.ReceiveState.{begun_bytes}
use Rattle.nr_link.proofs.TakenSegments.{taken_read}
use Rattle.nr_reduce.specs.declared.call.Outcome.{Outcome}
use Rattle.nr_reduce.specs.declared.call.Outcome.TheVariants as outcomes
use Rattle.nr_reduce.specs.declared.mark.Mark.{Mark}
use Rattle.nr_reduce.specs.declared.mark.LinkParameters.{LinkParameters}
use Rattle.nr_reduce.specs.History.{CompletedCall}
use Rattle.nr_reduce.specs.Events.{RunEvent, events}
use Rattle.nr_reduce.specs.Events.RunEvent.{FrameReceived, CallSubmitted, MemoryRevoked, CallExecuted, QueueWritten, ServerTold}
use Rattle.nr_reduce.specs.EndRules.{EndState, next_end_state, next_end_state_by, next_end_state_in, end_state_after}
use Rattle.nr_reduce.specs.Chunks.{answers_offer, reply_conveyed}
use Rattle.nr_reduce.specs.Plans.{lists_of}
use Rattle.nr_reduce.specs.ClientState.{ClientState, OutstandingCall, client_memory_at}
use Rattle.nr_reduce.specs.ClientMessages.{ReplyVerdict, reply_by_head, reply_by_payload, by_lists, reply_by_body, by_call, answered_call, reply_by_header, reply_verdict, reply_xid}
use Rattle.nr_reduce.specs.ClientMessages.ReplyVerdict.{EndsLink, GivesOutcome}
use Rattle.nr_reduce.specs.Client.{client_segment, client_rules, client_end, client_state_after, with_segment, initial_client, with_hello}
use Rattle.nr_reduce.specs.Run.{client}
use Rattle.nr_reduce.specs.Asked.{AskedSoFar}
use Rattle.nr_laws.specs.Typed.{IsTyped}
use Rattle.nr_laws.proofs.EventOutputs.{IsNext, GoesOn, place_after, first_preserve, later_preserve}
use Rattle.nr_laws.proofs.ClientSays.{ClientGood}
use Rattle.nr_laws.proofs.ClientRun.{client_goes}
use Rattle.nr_laws.proofs.Outcomes.{WasGiven, outcome_given}
use Rattle.nr_laws.proofs.ServerEvents.{received_bytes, completed_bytes}
use Rattle.nr_laws.proofs.Words.{payload_bytes_lem, word_below_lem}
use Rattle.nr_script.proofs.ByteLists.{no_bytes_lem}
use Rattle.nr_texts.specs.Words.{IsWord}

-- ===== what a client received of a message that is begun is bytes

abbrev HasBytes : EndState ClientState → Type 0
HasBytes r = IsBytes (begun_bytes r.state.received.begun)

segment_bytes : (k : ClientState) (f : Frame) (r : Result Segment ℕ) → client_segment k f ≡ r → IsBytes f.bytes → IsBytes (begun_bytes k.received.begun) → IsBytes (begun_bytes (with_segment k f r).received.begun)
segment_bytes k f (Err reason) is b h = h
segment_bytes k f (Ok segment) is b h = received_bytes k.received segment h (payload_bytes_lem f.bytes segment b (taken_read k.invalidates f.bytes segment is))

event_bytes : (o : LinkParameters) (place : ℕ) (k : ClientState) (e : RunEvent) → IsNext place e → IsBytes (begun_bytes k.received.begun) → IsBytes (begun_bytes (client_state_after o k e).received.begun)
unfolding client_state_after
event_bytes o place k (FrameReceived f) next h = by (is_hello f)
  where
    by : (b : Bool) → IsBytes (begun_bytes (cond b (with_hello o k f) (with_segment k f (client_segment k f))).received.begun)
    by true = h
    by false = segment_bytes k f (client_segment k f) refl next.2 h
event_bytes o place k (CallSubmitted p a) next h = h
event_bytes o place k (MemoryRevoked p xid) next h = h
event_bytes o place k (CallExecuted call) next h = h
event_bytes o place k (QueueWritten taken) next h = h
event_bytes o place k (ServerTold what) next h = h

next_bytes : (o : LinkParameters) (place : ℕ) (r : EndState ClientState) (e : RunEvent) → IsNext place e → HasBytes r → HasBytes (next_end_state (client_rules o) r e)
next_bytes o place r e next h = by r.ended
  where
    by_end : (end : Option Stop) → HasBytes (next_end_state_by (client_rules o) r.state e end)
    by_end None = event_bytes o place r.state e next h
    by_end (Some end) = h

    by : (ended : Option Stop) → HasBytes (next_end_state_in (client_rules o) r.state e ended)
    by None = by_end (client_end r.state e)
    by (Some end) = h

all_bytes : (o : LinkParameters) (place : ℕ) (r : EndState ClientState) (es : List RunEvent) → GoesOn (client_rules o) (ClientGood o) place r es → HasBytes r → HasBytes (end_state_after (client_rules o) r es)
all_bytes o place r [] goes h = h
all_bytes o place r (e ∷ es) goes h = all_bytes o (place_after place e) (next_end_state (client_rules o) r e) es goes.2 (next_bytes o place r e goes.0 h)

-- ===== the numbers in a message of bytes

abbrev BodyOfWords : Body → Type 0
BodyOfWords (Msg lists at) = Unit {0}
BodyOfWords (Nomsg lists) = Unit {0}
BodyOfWords (ErrVers version low high) = IsWord low × IsWord high
BodyOfWords (ErrChunk version) = Unit {0}

abbrev IfBody : Option Body → Type 0
IfBody None = Unit {0}
IfBody (Some body) = BodyOfWords body

abbrev OkBody : {E : Type 0} → Result Body E → Type 0
OkBody (Ok body) = BodyOfWords body
OkBody (Err e) = Unit {0}

abbrev OkHeader : Result Header HeaderFault → Type 0
OkHeader (Ok header) = BodyOfWords header.body
OkHeader (Err fault) = Unit {0}

error_words : (bytes : List ℕ) → IsBytes bytes → IfBody (error_of bytes)
error_words bytes b = by ((eqb (length bytes) 28) && (eqb (word_at 16 bytes) 1)) ((eqb (length bytes) 20) && (eqb (word_at 16 bytes) 2))
  where
    by : (p q : Bool) → IfBody (cond p (Some (ErrVers (word_at 4 bytes) (word_at 20 bytes) (word_at 24 bytes))) (cond q (Some (ErrChunk (word_at 4 bytes))) None))
    by true q = (word_below_lem 20 bytes b, word_below_lem 24 bytes b)
    by false true = tt
    by false false = tt

if_words : (kind : ℕ) (bytes : List ℕ) → IsBytes bytes → IfBody (error_by kind bytes)
if_words kind bytes b = by (eqb kind ERROR)
  where
    by : (p : Bool) → IfBody (cond p (error_of bytes) None)
    by true = error_words bytes b
    by false = tt

then_body : {X : Type 0} (r : Result X ℕ) (f : X → Result Body ℕ) → ((x : X) → OkBody (f x)) → OkBody (r >>= f)
then_body (Ok x) f h = h x
then_body (Err at) f h = tt

kept_body : (r : Result Body ℕ) → OkBody r → OkBody (in_lists r)
kept_body (Ok body) h = h
kept_body (Err at) h = tt

msg_words : (c : Cursor) → OkBody (msg_at c)
unfolding msg_at
msg_words c = then_body (lists_at false c) (λ lists. msg_body lists.0 lists.1.place (length lists.1.rest)) (λ lists. by (sums_pass lists.0 (length lists.1.rest)) lists.0 lists.1.place)
  where
    by : (p : Bool) (lists : ChunkLists) (at : ℕ) → OkBody (cond p (Err at) (Ok (Msg lists at)))
    by true lists at = tt
    by false lists at = tt

nomsg_words : (c : Cursor) → OkBody (nomsg_at c)
unfolding nomsg_at
nomsg_words c = then_body (lists_at true c) (λ lists. nomsg_body lists.0 lists.1.place (length lists.1.rest)) (λ lists. by (sums_pass lists.0 0 || ltb 0 (length lists.1.rest)) lists.0 lists.1.place)
  where
    by : (p : Bool) (lists : ChunkLists) (at : ℕ) → OkBody (cond p (Err at) (Ok (Nomsg lists)))
    by true lists at = tt
    by false lists at = tt

version1_words : (kind : ℕ) (bytes : List ℕ) → OkBody (version1_of kind bytes)
unfolding version1_of
version1_words kind bytes = by (eqb kind MSG) (eqb kind NOMSG)
  where
    c : Cursor
    c = record { place = FIXED_LEN; rest = drop FIXED_LEN bytes }

    by : (p q : Bool) → OkBody (cond p (in_lists (msg_at c)) (cond q (in_lists (nomsg_at c)) (Err (faults.Kind kind))))
    by true q = kept_body (msg_at c) (msg_words c)
    by false true = kept_body (nomsg_at c) (nomsg_words c)
    by false false = tt

body_words : (o : Option Body) (version kind : ℕ) (bytes : List ℕ) → IfBody o → OkBody (body_by o version kind bytes)
unfolding body_by
body_words (Some body) version kind bytes h = h
body_words None version kind bytes h = by (eqb version VERSION)
  where
    by : (p : Bool) → OkBody (cond p (version1_of kind bytes) (Err (faults.Version version)))
    by true = version1_words kind bytes
    by false = tt

with_header : (xid credit : ℕ) (r : Result Body HeaderFault) → OkBody r → OkHeader (header_by xid credit r)
with_header xid credit (Ok body) h = h
with_header xid credit (Err fault) h = tt

header_words : (bytes : List ℕ) → IsBytes bytes → OkHeader (header_of bytes)
unfolding header_of
header_words bytes b = by (ltb (length bytes) FIXED_LEN)
  where
    body : Result Body HeaderFault
    body = body_by (error_by (word_at 12 bytes) bytes) (word_at 4 bytes) (word_at 12 bytes) bytes

    by : (p : Bool) → OkHeader (cond p (Err faults.Short) (header_by (word_at 0 bytes) (word_at 8 bytes) body))
    by true = tt
    by false = with_header (word_at 0 bytes) (word_at 8 bytes) body (body_words (error_by (word_at 12 bytes) bytes) (word_at 4 bytes) (word_at 12 bytes) bytes (if_words (word_at 12 bytes) bytes b))

-- ===== the outcome that a message brings

abbrev pub OutcomeOfWords : Outcome → Type 0
OutcomeOfWords (outcomes.Reply payload) = Unit {0}
OutcomeOfWords outcomes.Chunk = Unit {0}
OutcomeOfWords (outcomes.Version low high) = IsWord low × IsWord high

abbrev GivesWords : ReplyVerdict → Type 0
GivesWords (EndsLink reason) = Unit {0}
GivesWords (GivesOutcome xid None) = Unit {0}
GivesWords (GivesOutcome xid (Some outcome)) = OutcomeOfWords outcome

head_words : (xid : ℕ) (payload : List ℕ) (r : Result ReplyHead ℕ) → GivesWords (reply_by_head xid payload r)
head_words xid payload (Err at) = tt
head_words xid payload (Ok head) = by (eqb (reply_xid head) xid)
  where
    by : (b : Bool) → GivesWords (cond b (GivesOutcome xid (Some (outcomes.Reply payload))) (EndsLink REASON_XID))
    by true = tt
    by false = tt

payload_words : (xid : ℕ) (o : Option (List ℕ)) → GivesWords (reply_by_payload xid o)
payload_words xid None = tt
payload_words xid (Some payload) = head_words xid payload (reply_of payload)

lists_words : (k : ClientState) (place : ℕ) (o : OutstandingCall) (inline : Option (List ℕ)) (lists : ChunkLists) (b : Bool) → GivesWords (by_lists k place o inline lists b)
lists_words k place o inline lists false = tt
lists_words k place o inline lists true = by o.is_revoked
  where
    by : (b : Bool) → GivesWords (cond b (GivesOutcome o.xid None) (reply_by_payload o.xid (reply_conveyed o.call.prog o.call.vers o.call.proc inline lists (client_memory_at k place))))
    by true = tt
    by false = payload_words o.xid (reply_conveyed o.call.prog o.call.vers o.call.proc inline lists (client_memory_at k place))

by_body : (k : ClientState) (place : ℕ) (o : OutstandingCall) (message : List ℕ) (b : Body) → BodyOfWords b → GivesWords (reply_by_body k place o message b)
by_body k place o message (Msg lists at) h = lists_words k place o (Some (drop at message)) lists (answers_offer false (lists_of o.stag o.plan) lists)
by_body k place o message (Nomsg lists) h = lists_words k place o None lists (answers_offer true (lists_of o.stag o.plan) lists)
by_body k place o message (ErrVers version low high) h = h
by_body k place o message (ErrChunk version) h = tt

call_words : (k : ClientState) (place : ℕ) (message : List ℕ) (b : Body) (o : Option OutstandingCall) → BodyOfWords b → GivesWords (by_call k place message b o)
call_words k place message b None h = tt
call_words k place message b (Some o) h = by_body k place o message b h

verdict_words_by : (k : ClientState) (place : ℕ) (message : List ℕ) (r : Result Header HeaderFault) → OkHeader r → GivesWords (reply_by_header k place message r)
verdict_words_by k place message (Ok header) h = call_words k place message header.body (answered_call k header.xid) h
verdict_words_by k place message (Err faults.Short) h = tt
verdict_words_by k place message (Err (faults.Version version)) h = tt
verdict_words_by k place message (Err (faults.Kind kind)) h = tt
verdict_words_by k place message (Err (faults.BadChunks at)) h = tt

verdict_words : (k : ClientState) (place : ℕ) (message : List ℕ) → IsBytes message → GivesWords (reply_verdict k place message)
unfolding reply_verdict
verdict_words k place message b = verdict_words_by k place message (header_of message) (header_words message b)

-- ===== an outcome that a client has

pub outcome_words : (opened : LinkParameters) (link : ℕ) (run : List Mark) (c : CompletedCall) → IsTyped run → AskedSoFar opened link run → Contains (client opened link run).state.outcomes c → OutcomeOfWords c.outcome
outcome_words opened link run c typed asked there =
    let w : WasGiven opened (events link Initiator run) c = outcome_given opened link run c there in
    let goes : GoesOn (client_rules opened) (ClientGood opened) 0 (initial_client opened) (w.earlier ++ FrameReceived w.frame ∷ w.later) =
    subst (λ (es : List RunEvent). GoesOn (client_rules opened) (ClientGood opened) 0 (initial_client opened) es) w.is (client_goes opened link run typed asked).goes in
    let begun = all_bytes opened 0 (initial_client opened) w.earlier (first_preserve (client_rules opened) (ClientGood opened) 0 (initial_client opened) w.earlier (FrameReceived w.frame ∷ w.later) goes) no_bytes_lem in
    let next = (later_preserve (client_rules opened) (ClientGood opened) 0 (initial_client opened) w.earlier (FrameReceived w.frame ∷ w.later) goes).0 in
    let k : ClientState = (end_state_after (client_rules opened) (initial_client opened) w.earlier).state in
    let message : IsBytes w.message = completed_bytes k.received w.segment w.message begun (payload_bytes_lem w.frame.bytes w.segment next.2 w.is_segment) w.whole in
    subst GivesWords w.given (verdict_words k w.frame.end w.message message)
