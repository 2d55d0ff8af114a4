-- What is sent for a call, and for what a client sends: the sentences on asking and answering, one event at a time.
use Rattle.std.proofs.Common.{◌≡◌, ℕ, ◌+◌, ◌-◌, ◌<◌, ◌≤◌, Bool, true, false, cond, not, ◌&&◌, eqb, List, [], ◌∷◌, ◌++◌, length, take, drop, Option, None, Some, Result, Ok, Err, refl, sym, ap, subst, ◌∙◌, arith, append-nil, length-append}
use Rattle.std.proofs.lemmas.Bool.{eqb-true}
use Rattle.std.proofs.lemmas.List.{length-take, length-drop, take_all}
use Rattle.std.proofs.Math.Seq.{drop-length}
use Rattle.std.specs.List.{filter}
use Rattle.nr_wire.specs.declared.hello.Side.TheVariants.{Initiator, Responder}
use Rattle.nr_wire.specs.Segment.{Segment}
use Rattle.nr_wire.specs.Segment.Segment.{Tagged, Untagged}
use Rattle.nr_rpc.specs.declared.head.CallHead.{CallHead}
use Rattle.nr_rpc.specs.Reading.{call_of, target_of, head_xid}
use Rattle.nr_link.specs.declared.end.End.{End as Stop}
use Rattle.nr_link.specs.Frames.{Frame, is_hello}
use Rattle.nr_link.specs.Output.{send, send_by}
use Rattle.nr_link.specs.ReceiveState.{message_completed}
use Rattle.nr_link.specs.Ending.{frame_segment}
use Rattle.nr_reduce.specs.Hellos.{server_hello}
use Rattle.nr_reduce.specs.declared.call.Call.{Call}
use Rattle.nr_reduce.specs.declared.call.Form.{Form}
use Rattle.nr_reduce.specs.declared.call.Submission.TheVariants as submissions
use Rattle.nr_outside.specs.declared.moment.Moment.{Moment}
use Rattle.nr_reduce.specs.declared.mark.Mark.{Mark}
use Rattle.nr_reduce.specs.declared.mark.Mark.TheVariants as marks
use Rattle.nr_reduce.specs.declared.mark.LinkParameters.{LinkParameters}
use Rattle.nr_reduce.specs.History.{AcceptedCall, ExecutedCall, bytes_received}
use Rattle.nr_reduce.specs.Events.{RunEvent, if_own, events}
use Rattle.nr_reduce.specs.Events.RunEvent.{FrameReceived, CallSubmitted, MemoryRevoked, CallExecuted, QueueWritten, ServerTold}
use Rattle.nr_reduce.specs.EndRules.{EndState, next_end_state, next_end_state_by, next_end_state_in, end_state_after, output_for, output_for_by, output_for_all, live}
use Rattle.nr_reduce.specs.declared.outline.Plan.{Plan}
use Rattle.nr_reduce.specs.Plans.{TooLarge, call_message}
use Rattle.nr_reduce.specs.Chunks.{is_read_chunk_of_item}
use Rattle.nr_reduce.specs.Holds.{Answer, answer_writes, answer_message, chunk_error, version_error}
use Rattle.nr_reduce.specs.ClientState.{ClientState, call_payload, plan_for, stag_for}
use Rattle.nr_reduce.specs.Client.{client_rules, client_end, client_output, client_state_after, with_segment, plan_or, outstanding_of, call_output, calls_output, response_output, segment_request, with_hello, client_segment}
use Rattle.nr_reduce.specs.ServerState.{ServerState, ReadyCall, PendingCall, PendingRead, credit_word, receives_in_use}
use Rattle.nr_reduce.specs.ServerReads.{open_reads, is_read, regions_of, reads_of}
use Rattle.nr_reduce.specs.ServerMessages.{Verdict, CallVerdict, verdict, by_payload, by_head, pending_payload, chunk_bytes}
use Rattle.nr_reduce.specs.ServerMessages.Verdict.{EndsLink, OtherVersion, BadChunks, MakesPending}
use Rattle.nr_reduce.specs.ServerMessages.CallVerdict.{Refuses, IsReady}
use Rattle.nr_reduce.specs.ServerFrames.{FrameEffect, no_effect, with_verdict, ready_if_whole, message_effect, with_refused_call, is_stream_read, read_effect, call_of_number, response_effect, tagged_effect, by_message, with_access, effect_by, effect_in, frame_effect}
use Rattle.nr_reduce.specs.Server.{server_rules, server_end, server_output, server_state_after, initial_server, offer_of, answer_of_target, answer_output, execution_output, effect_output, newly_open_reads, sends_from, requests_from, with_effect, with_own_hello, stag_named}
use Rattle.nr_reduce.specs.Run.{client, server, output_due}
use Rattle.nr_reduce.specs.Asked.{IsAccepted}
use Rattle.nr_reduce.specs.Served.{IsExecuted, next_call, first_ready}
use Rattle.nr_reduce.specs.RunLaws.{IsOnlyAnswered, ends_response, IsStreamRefused, IsRefusedCall, OpensReads}
use Rattle.nr_reduce.proofs.Steps.{output_due_up_one, output_due_down_one}
use Rattle.nr_reduce.proofs.Standing.{itself}
use Rattle.nr_xdr.specs.Fields.{word_at}

-- ---- A Submit

plan_is_lem : (k : ClientState) (xid : ℕ) (call : Call) (form : Form) (r : Result Plan TooLarge) (plan : Plan) → r ≡ Ok plan → plan_or (call_payload xid call) r ≡ plan
plan_is_lem k xid call form r plan e = ap (λ (q : Result Plan TooLarge). plan_or (call_payload xid call) q) e

submit_output : (opened : LinkParameters) (k : ClientState) (ended : Option Stop) (place : ℕ) (a : AcceptedCall) → ended ≡ None → output_for_all (client_rules opened) (record { state = k; ended = ended }) (CallSubmitted place a ∷ []) ≡ client_output opened k (CallSubmitted place a)
unfolding client_end
submit_output opened k None place a e = append-nil (client_output opened k (CallSubmitted place a))
submit_output opened k (Some end) place a e = absurd cc

submit_due : (opened : LinkParameters) (link : ℕ) (run : List Mark) (call : Call) (form : Form) (xid : ℕ) → (client opened link run).ended ≡ None →
    output_due opened link Initiator (run ++ marks.Submit link call form (submissions.Accepted xid) ∷ [])
    ≡ output_due opened link Initiator run ++ client_output opened (client opened link run).state (CallSubmitted (length (bytes_received link Initiator run)) (record { xid = xid; call = call; form = form }))
submit_due opened link run call form xid stays =
    let r = client opened link run in
    let place = length (bytes_received link Initiator run) in
    let a : AcceptedCall = record { xid = xid; call = call; form = form } in
    output_due_up_one opened link run (marks.Submit link call form (submissions.Accepted xid))
    ∙ ap (λ (b : Bool). output_due opened link Initiator run ++ output_for_all (client_rules opened) r (if_own (b && true) (CallSubmitted place a ∷ []))) (itself link)
    ∙ ap (λ (xs : List ℕ). output_due opened link Initiator run ++ xs) (submit_output opened r.state r.ended place a stays)

pub submit_sent : (opened : LinkParameters) (link : ℕ) (run : List Mark) (call : Call) (form : Form) (xid : ℕ) → (h : IsAccepted opened link run call form xid) →
    ((client opened link run).state.has_hello ≡ true →
    output_due opened link Initiator (run ++ marks.Submit link call form (submissions.Accepted xid) ∷ [])
    ≡ output_due opened link Initiator run ++ send ((client opened link run).state.sends + 1) (call_message xid opened.wished (stag_for (client opened link run).state xid) h.plan))
    × ((client opened link run).state.has_hello ≡ false →
    output_due opened link Initiator (run ++ marks.Submit link call form (submissions.Accepted xid) ∷ []) ≡ output_due opened link Initiator run)
unfolding client_output
submit_sent opened link run call form xid h =
    let k : ClientState = (client opened link run).state in
    let a : AcceptedCall = record { xid = xid; call = call; form = form } in
    let due = output_due opened link Initiator run in
    let one : List ℕ = call_output opened (k.sends + 1) (outstanding_of k a) in
    let all = submit_due opened link run call form xid h.stays in (
      (λ hello. all
          ∙ ap (λ (b : Bool). due ++ cond b one []) hello
          ∙ ap (λ (p : Plan). due ++ send (k.sends + 1) (call_message xid opened.wished (stag_for k xid) p)) (plan_is_lem k xid call form (plan_for k xid call form) h.plan h.planned)),
      λ none. all ∙ ap (λ (b : Bool). due ++ cond b one []) none ∙ append-nil due,
    )

pub hello_sends : (opened : LinkParameters) (k : ClientState) (f : Frame) → is_hello f ≡ true → client_end k (FrameReceived f) ≡ None →
    (output_for (client_rules opened) (live k) (FrameReceived f) ≡ calls_output opened 1 k.outstanding)
    × ((next_end_state (client_rules opened) (live k) (FrameReceived f)).state.has_hello ≡ true)
unfolding client_output client_state_after
hello_sends opened k f hello none = (
  ap (λ (o : Option Stop). output_for_by (client_rules opened) k (FrameReceived f) o) none
      ∙ ap (λ (b : Bool). cond b (calls_output opened 1 k.outstanding) (response_output k f.end (segment_request (client_segment k f)))) hello,
  ap (λ (o : Option Stop). (next_end_state_by (client_rules opened) k (FrameReceived f) o).state.has_hello) none
      ∙ ap (λ (b : Bool). (cond b (with_hello opened k f) (with_segment k f (client_segment k f))).has_hello) hello,
)

-- ---- An Execute

execute_output : (opened : LinkParameters) (k : ServerState) (ended : Option Stop) (e : ExecutedCall) → ended ≡ None → output_for_all (server_rules opened) (record { state = k; ended = ended }) (CallExecuted e ∷ []) ≡ execution_output k e
unfolding server_end server_output
execute_output opened k None e is = append-nil (execution_output k e)
execute_output opened k (Some end) e is = absurd cc

not_ended : (ready : List ReadyCall) (ended : Option Stop) (r : ReadyCall) → first_ready ready ended ≡ Some r → ended ≡ None
not_ended ready None r e = refl
not_ended ready (Some end) r e = absurd cc

execute_due : (opened : LinkParameters) (link : ℕ) (run : List Mark) (xid : ℕ) (moment : Moment) (payload : List ℕ) (place : ℕ) (reply : List ℕ) → IsExecuted opened link run xid payload →
    output_due opened link Responder (run ++ marks.Execute link xid moment payload place reply ∷ [])
    ≡ output_due opened link Responder run ++ execution_output (server opened link run).state (record { xid = xid; moment = moment; payload = payload; place = place; reply = reply })
unfolding next_call
execute_due opened link run xid moment payload place reply h =
    let r = server opened link run in
    let e : ExecutedCall = record { xid = xid; moment = moment; payload = payload; place = place; reply = reply } in
    output_due_down_one opened link run (marks.Execute link xid moment payload place reply)
    ∙ ap (λ (b : Bool). output_due opened link Responder run ++ output_for_all (server_rules opened) r (if_own (b && true) (CallExecuted e ∷ []))) (itself link)
    ∙ ap (λ (xs : List ℕ). output_due opened link Responder run ++ xs) (execute_output opened r.state r.ended e (not_ended r.state.ready r.ended h.call h.is_next))

pub execute_answered : (opened : LinkParameters) (link : ℕ) (run : List Mark) (xid : ℕ) (moment : Moment) (payload : List ℕ) (place : ℕ) (reply : List ℕ) → IsExecuted opened link run xid payload →
    ((a : Answer) → answer_of_target (offer_of (server opened link run).state xid) (server opened link run).state.down_max reply (target_of (call_of payload)) ≡ Some a →
    output_due opened link Responder (run ++ marks.Execute link xid moment payload place reply ∷ [])
    ≡ output_due opened link Responder run
    ++ (answer_writes (offer_of (server opened link run).state xid) a
    ++ send_by (stag_named (server opened link run).state.invalidates (offer_of (server opened link run).state xid)) ((server opened link run).state.messages_queued + 1)
    (answer_message xid (credit_word (server opened link run).state) (offer_of (server opened link run).state xid) a)))
    × (answer_of_target (offer_of (server opened link run).state xid) (server opened link run).state.down_max reply (target_of (call_of payload)) ≡ None →
    output_due opened link Responder (run ++ marks.Execute link xid moment payload place reply ∷ [])
    ≡ output_due opened link Responder run
    ++ send ((server opened link run).state.messages_queued + 1) (chunk_error xid (credit_word (server opened link run).state)))
unfolding execution_output
execute_answered opened link run xid moment payload place reply h =
    let k : ServerState = (server opened link run).state in
    let due = output_due opened link Responder run in
    let all = execute_due opened link run xid moment payload place reply h in (
      (λ a is. all ∙ ap (λ (o : Option Answer). due ++ answer_output k xid (offer_of k xid) o) is),
      λ is. all ∙ ap (λ (o : Option Answer). due ++ answer_output k xid (offer_of k xid) o) is,
    )

-- ---- The heads of calls that are ready

record HasHead (r : ReadyCall) : Type 0 where
  pub head : CallHead
  pub is : call_of r.payload ≡ Ok head
  pub xid : head_xid head ≡ r.xid

abbrev AreHeads : List ReadyCall → Type 0
AreHeads [] = Unit {0}
AreHeads (r ∷ ready) = HasHead r × AreHeads ready

heads_append : (xs ys : List ReadyCall) → AreHeads xs → AreHeads ys → AreHeads (xs ++ ys)
heads_append [] ys h g = g
heads_append (x ∷ xs) ys h g = (h.0, heads_append xs ys h.1 g)

heads_drop : (xs : List ReadyCall) → AreHeads xs → AreHeads (drop 1 xs)
heads_drop [] h = tt
heads_drop (x ∷ xs) h = h.1

heads_if : (b : Bool) (x y : FrameEffect) → AreHeads x.ready → AreHeads y.ready → AreHeads (cond b x y).ready
heads_if true x y p q = p
heads_if false x y p q = q

head_made : (c : PendingCall) (payload : List ℕ) (r : Result CallHead ℕ) (s : FrameEffect) → call_of payload ≡ r → AreHeads s.ready → AreHeads (with_verdict (by_head c payload r) s).ready
head_made c payload (Err at) s e h = h
head_made c payload (Ok head) s e h = by (eqb (head_xid head) c.xid) refl
  where
    by : (b : Bool) → eqb (head_xid head) c.xid ≡ b → AreHeads (with_verdict (cond b (IsReady (record { number = c.number; xid = c.xid; payload = payload })) (Refuses 19)) s).ready
    by true is = (record { head = head; is = e; xid = eqb-true (head_xid head) c.xid is }, tt)
    by false is = h

payload_made : (c : PendingCall) (p : Option (List ℕ)) (s : FrameEffect) → AreHeads s.ready → AreHeads (with_verdict (by_payload c p) s).ready
payload_made c None s h = h
payload_made c (Some payload) s h = head_made c payload (call_of payload) s refl h

whole_heads : (k : ServerState) (place : ℕ) (c : PendingCall) (s : FrameEffect) → AreHeads s.ready → AreHeads (ready_if_whole k place c s).ready
whole_heads k place c s h = heads_if (is_read s.reads c.number) (with_verdict (by_payload c (pending_payload k place c)) s) s (payload_made c (pending_payload k place c) s h) h

message_heads : (k : ServerState) (place : ℕ) (message : List ℕ) (v : Verdict) → AreHeads (message_effect k place message v).ready
message_heads k place message (EndsLink reason) = tt
message_heads k place message OtherVersion = tt
message_heads k place message BadChunks = tt
message_heads k place message (MakesPending c) = whole_heads k place c _ tt

read_heads : (k : ServerState) (place : ℕ) (r : PendingRead) (o : Option PendingCall) (s : FrameEffect) → AreHeads s.ready → AreHeads (read_effect k place r o s).ready
read_heads k place r None s h = h
read_heads k place r (Some c) s h =
    heads_if (is_stream_read c r s.reads && not (is_read_chunk_of_item (chunk_bytes k place c 0) c.lists.read)) (with_refused_call k c s) (ready_if_whole k place c s) h (whole_heads k place c s h)

response_heads : (k : ServerState) (place : ℕ) (reads : List PendingRead) → AreHeads (response_effect k place reads).ready
response_heads k place [] = tt
response_heads k place (r ∷ reads) = read_heads k place r (call_of_number k r.number) _ tt

tagged_heads : (k : ServerState) (place opcode : ℕ) (last : Bool) → AreHeads (tagged_effect k place opcode last).ready
tagged_heads k place opcode last = heads_if (eqb opcode 2 && last) (response_effect k place k.reads) (no_effect k) (response_heads k place k.reads) tt

by_message_heads : (k : ServerState) (place : ℕ) (o : Option (List ℕ)) → AreHeads (by_message k place o).ready
by_message_heads k place None = tt
by_message_heads k place (Some message) = message_heads k place message (verdict k message)

effect_heads : (k : ServerState) (f : Frame) (r : Result Segment ℕ) → AreHeads (effect_in k f r).ready
effect_heads k f (Err reason) = tt
effect_heads k f (Ok (Tagged last opcode stag to payload)) = tagged_heads (with_access k f (Tagged last opcode stag to payload)) f.end opcode last
effect_heads k f (Ok (Untagged last opcode w queue msn offset payload)) = by_message_heads k f.end (message_completed k.received (Untagged last opcode w queue msn offset payload))

frame_heads : (k : ServerState) (f : Frame) → AreHeads (frame_effect k f).ready
unfolding frame_effect
frame_heads k f = effect_heads k f (frame_segment f)

after_heads : (opened : LinkParameters) (k : ServerState) (event : RunEvent) → AreHeads k.ready → AreHeads (server_state_after opened k event).ready
unfolding server_state_after
after_heads opened k (FrameReceived f) h = by (is_hello f)
  where
    by : (b : Bool) → AreHeads (cond b (with_own_hello opened k f) (with_effect k f (frame_effect k f))).ready
    by true = h
    by false = heads_append k.ready (frame_effect k f).ready h (frame_heads k f)
after_heads opened k (CallSubmitted place a) h = h
after_heads opened k (MemoryRevoked place xid) h = h
after_heads opened k (CallExecuted e) h = heads_drop k.ready h
after_heads opened k (QueueWritten taken) h = h
after_heads opened k (ServerTold what) h = h

events_heads : (opened : LinkParameters) (r : EndState ServerState) (es : List RunEvent) → AreHeads r.state.ready → AreHeads (end_state_after (server_rules opened) r es).state.ready
events_heads opened r [] h = h
events_heads opened r (event ∷ es) h = events_heads opened (next_end_state (server_rules opened) r event) es (one r.state r.ended h)
  where
    by_why : (k : ServerState) (why : Option Stop) → AreHeads k.ready → AreHeads (next_end_state_by (server_rules opened) k event why).state.ready
    by_why k None h = after_heads opened k event h
    by_why k (Some end) h = h

    one : (k : ServerState) (ended : Option Stop) → AreHeads k.ready → AreHeads (next_end_state_in (server_rules opened) k event ended).state.ready
    one k None h = by_why k (server_end opened k event) h
    one k (Some end) h = h

first_head : (ready : List ReadyCall) (ended : Option Stop) (r : ReadyCall) → AreHeads ready → first_ready ready ended ≡ Some r → HasHead r
first_head ready (Some end) r h e = absurd cc
first_head [] None r h e = absurd cc
first_head (x ∷ ready) None r h e = subst HasHead (let s : Some x ≡ Some r = e in cc) h.0

pub executed_head : (opened : LinkParameters) (link : ℕ) (run : List Mark) (xid : ℕ) (payload : List ℕ) → IsExecuted opened link run xid payload →
    (head : CallHead) × ((call_of payload ≡ Ok head) × (head_xid head ≡ xid))
unfolding next_call server
executed_head opened link run xid payload h =
    let r = server opened link run in
    let all : AreHeads r.state.ready = events_heads opened (initial_server opened) (events link Responder run) tt in
    let head = first_head r.state.ready r.ended h.call all h.is_next in
    (head.head, (ap call_of h.conveyed ∙ head.is, head.xid ∙ sym h.own))

-- ---- A refused Send

open_none : (k : ServerState) (s : FrameEffect) → s.reads ≡ k.reads → s.kept ≡ length (open_reads k) → newly_open_reads s ≡ []
open_none k s same kept = (λ i. drop (kept i) (take 8 (same i))) ∙ drop-length (take 8 k.reads)

stays_output : (opened : LinkParameters) (k : ServerState) (event : RunEvent) → server_end opened k event ≡ None → output_for (server_rules opened) (live k) event ≡ server_output opened k event
stays_output opened k event e = ap (λ (o : Option Stop). output_for_by (server_rules opened) k event o) e

stays_state : (opened : LinkParameters) (k : ServerState) (event : RunEvent) → server_end opened k event ≡ None → next_end_state (server_rules opened) (live k) event ≡ live (server_state_after opened k event)
stays_state opened k event e = ap (λ (o : Option Stop). next_end_state_by (server_rules opened) k event o) e

only_answered : (opened : LinkParameters) (k : ServerState) (f : Frame) (answer : List ℕ) → is_hello f ≡ false → server_end opened k (FrameReceived f) ≡ None → frame_effect k f ≡ record (no_effect k) { errors = answer ∷ [] } → IsOnlyAnswered opened k f answer
unfolding server_output server_state_after
only_answered opened k f answer later none is =
    let s : FrameEffect = record (no_effect k) { errors = answer ∷ [] } in
    let after = stays_state opened k (FrameReceived f) none in
    record {
      output =
          stays_output opened k (FrameReceived f) none
          ∙ (λ i. cond (later i) (server_hello opened f) (effect_output k (is i)))
          ∙ ap (λ (xs : List PendingRead). (send (k.messages_queued + 1) answer ++ []) ++ requests_from (k.requests_sent + 1) xs) (open_none k s refl refl)
          ∙ append-nil (send (k.messages_queued + 1) answer ++ [])
          ∙ append-nil (send (k.messages_queued + 1) answer);
      stays = ap (λ (r : EndState ServerState). r.ended) after;
      calls = ap (λ (r : EndState ServerState). r.state.calls) after ∙ (λ i. (cond (later i) (with_own_hello opened k f) (with_effect k f (is i))).calls);
      ready = ap (λ (r : EndState ServerState). r.state.ready) after ∙ (λ i. (cond (later i) (with_own_hello opened k f) (with_effect k f (is i))).ready) ∙ append-nil k.ready;
    }

pub refused_effect : (k : ServerState) (f : Frame) (segment : Segment) (message : List ℕ) (v : Verdict) → frame_segment f ≡ Ok segment → message_completed k.received segment ≡ Some message → verdict k message ≡ v → frame_effect k f ≡ message_effect k f.end message v
unfolding frame_effect
refused_effect k f (Tagged last opcode stag to payload) message v is whole e = absurd cc
refused_effect k f (Untagged last opcode w queue msn offset payload) message v is whole e =
    ap (λ (r : Result Segment ℕ). effect_in k f r) is
    ∙ ap (λ (o : Option (List ℕ)). by_message k f.end o) whole
    ∙ ap (λ (v : Verdict). message_effect k f.end message v) e

pub refused_answered : (opened : LinkParameters) (k : ServerState) (f : Frame) (segment : Segment) (message : List ℕ) → is_hello f ≡ false → frame_segment f ≡ Ok segment →
    message_completed k.received segment ≡ Some message → server_end opened k (FrameReceived f) ≡ None →
    (verdict k message ≡ BadChunks → IsOnlyAnswered opened k f (chunk_error (word_at 0 message) (credit_word k)))
    × (verdict k message ≡ OtherVersion → IsOnlyAnswered opened k f (version_error (word_at 0 message) (word_at 4 message) (credit_word k)))
refused_answered opened k f segment message later is whole none = (
  (λ e. only_answered opened k f (chunk_error (word_at 0 message) (credit_word k)) later none (refused_effect k f segment message BadChunks is whole e)),
  λ e. only_answered opened k f (version_error (word_at 0 message) (word_at 4 message) (credit_word k)) later none (refused_effect k f segment message OtherVersion is whole e),
)

-- ---- A refused call

tagged_effect_is : (k : ServerState) (f : Frame) (segment : Segment) → frame_segment f ≡ Ok segment → ends_response segment ≡ true → frame_effect k f ≡ response_effect (with_access k f segment) f.end k.reads
unfolding frame_effect
tagged_effect_is k f (Tagged last opcode stag to payload) is e =
    let t : ServerState = with_access k f (Tagged last opcode stag to payload) in
    ap (λ (r : Result Segment ℕ). effect_in k f r) is
    ∙ ap (λ (b : Bool). cond b (response_effect t f.end k.reads) (no_effect t)) e
tagged_effect_is k f (Untagged last opcode w queue msn offset payload) is e = absurd cc

-- the access of its own segment changes nothing in the credit word
pub access_credit : (k : ServerState) (f : Frame) (segment : Segment) → credit_word (with_access k f segment) ≡ credit_word k
unfolding credit_word receives_in_use
access_credit k f segment = refl

pub refused_call_effect : (k : ServerState) (f : Frame) (segment : Segment) (c : PendingCall) → frame_segment f ≡ Ok segment → (h : IsStreamRefused k f segment c) →
    frame_effect k f ≡ with_refused_call (with_access k f segment) c (record (no_effect (with_access k f segment)) { reads = h.others; kept = length (open_reads k) - 1 })
refused_call_effect k f segment c is h =
    let t : ServerState = with_access k f segment in
    let s : FrameEffect = record (no_effect t) { reads = h.others; kept = length (open_reads k) - 1 } in
    tagged_effect_is k f segment is h.is_last
    ∙ ap (λ (reads : List PendingRead). response_effect t f.end reads) h.reads
    ∙ ap (λ (o : Option PendingCall). read_effect t f.end h.read o s) h.call
    ∙ ap (λ (b : Bool). cond (b && not (is_read_chunk_of_item (chunk_bytes t f.end c 0) c.lists.read)) (with_refused_call t c s) (ready_if_whole t f.end c s)) h.stream
    ∙ ap (λ (b : Bool). cond (not b) (with_refused_call t c s) (ready_if_whole t f.end c s)) h.unsuited

pub refused_call_lem : (opened : LinkParameters) (k : ServerState) (f : Frame) (segment : Segment) (c : PendingCall) → is_hello f ≡ false → frame_segment f ≡ Ok segment →
    IsStreamRefused k f segment c → server_end opened k (FrameReceived f) ≡ None → IsRefusedCall opened k f c
unfolding server_output server_state_after
refused_call_lem opened k f segment c later is h none =
    let after = stays_state opened k (FrameReceived f) none in
    let effect = refused_call_effect k f segment c is h in
    record {
      output =
          stays_output opened k (FrameReceived f) none
          ∙ ap (λ (b : Bool). cond b (server_hello opened f) (effect_output k (frame_effect k f))) later
          ∙ ap (λ (s : FrameEffect). sends_from (k.messages_queued + 1) s.errors ++ requests_from (k.requests_sent + 1) (newly_open_reads (frame_effect k f))) effect
          ∙ ap (λ (n : ℕ). (send (k.messages_queued + 1) (chunk_error c.xid n) ++ []) ++ requests_from (k.requests_sent + 1) (newly_open_reads (frame_effect k f))) (access_credit k f segment)
          ∙ ap (λ (xs : List ℕ). xs ++ requests_from (k.requests_sent + 1) (newly_open_reads (frame_effect k f))) (append-nil (send (k.messages_queued + 1) (chunk_error c.xid (credit_word k))));
      stays = ap (λ (r : EndState ServerState). r.ended) after;
      calls = ap (λ (r : EndState ServerState). r.state.calls) after ∙ (λ i. (cond (later i) (with_own_hello opened k f) (with_effect k f (effect i))).calls);
      ready = ap (λ (r : EndState ServerState). r.state.ready) after ∙ (λ i. (cond (later i) (with_own_hello opened k f) (with_effect k f (effect i))).ready) ∙ append-nil k.ready;
    }

-- ---- Open reads

-- what is kept of the open reads, and that it is still open
record Keeps (s : FrameEffect) (kept : ℕ) : Type 0 where
  is : s.kept ≡ kept
  fits : s.kept ≤ length (take 8 s.reads)

keeps_if : (b : Bool) (s t : FrameEffect) (kept : ℕ) → Keeps s kept → Keeps t kept → Keeps (cond b s t) kept
keeps_if true s t kept h g = h
keeps_if false s t kept h g = g

keeps_none : (k : ServerState) → Keeps (no_effect k) (length (open_reads k))
keeps_none k = record { is = refl; fits = omega arith }

keeps_verdict : (v : CallVerdict) (s : FrameEffect) (kept : ℕ) → Keeps s kept → Keeps (with_verdict v s) kept
keeps_verdict (Refuses reason) s kept h = record { is = h.is; fits = h.fits }
keeps_verdict (IsReady r) s kept h = record { is = h.is; fits = h.fits }

keeps_whole_lem : (k : ServerState) (place : ℕ) (c : PendingCall) (s : FrameEffect) (kept : ℕ) → Keeps s kept → Keeps (ready_if_whole k place c s) kept
keeps_whole_lem k place c s kept h = keeps_if (is_read s.reads c.number) _ s kept (keeps_verdict (by_payload c (pending_payload k place c)) s kept h) h

keeps_message_lem : (k : ServerState) (place : ℕ) (message : List ℕ) (v : Verdict) → Keeps (message_effect k place message v) (length (open_reads k))
keeps_message_lem k place message (EndsLink reason) = record { is = refl; fits = omega arith }
keeps_message_lem k place message OtherVersion = record { is = refl; fits = omega arith }
keeps_message_lem k place message BadChunks = record { is = refl; fits = omega arith }
keeps_message_lem k place message (MakesPending c) =
    let regions = k.regions ++ regions_of k place c in
    let more = reads_of regions c in
    keeps_whole_lem k place c _ (length (open_reads k)) (record {
      is = refl;
      fits = (let a = length-take 8 k.reads in let b = length-take 8 (k.reads ++ more) in let d = length-append k.reads more in omega (arith, a, b, d));
    })

keeps_refused : (k : ServerState) (c : PendingCall) (s : FrameEffect) (kept : ℕ) → Keeps s kept → Keeps (with_refused_call k c s) kept
keeps_refused k c s kept h =
    let first = take s.kept s.reads in
    let rest = filter (λ (r : PendingRead). not (eqb r.number c.number)) (drop s.kept s.reads) in
    record {
      is = h.is;
      fits = (
          let a = length-take 8 (first ++ rest) in let b = length-append first rest in let d = length-take s.kept s.reads in let e = length-take 8 s.reads in let g = h.fits in
          omega (arith, a, b, d, e, g)
          );
    }

keeps_read : (k : ServerState) (place : ℕ) (r : PendingRead) (o : Option PendingCall) (s : FrameEffect) (kept : ℕ) → Keeps s kept → Keeps (read_effect k place r o s) kept
keeps_read k place r None s kept h = h
keeps_read k place r (Some c) s kept h =
    keeps_if (is_stream_read c r s.reads && not (is_read_chunk_of_item (chunk_bytes k place c 0) c.lists.read)) (with_refused_call k c s) (ready_if_whole k place c s) kept
    (keeps_refused k c s kept h) (keeps_whole_lem k place c s kept h)

keeps_response : (k : ServerState) (place : ℕ) (reads : List PendingRead) → reads ≡ k.reads → Keeps (response_effect k place reads) (length (open_reads k) - 1)
keeps_response k place [] e = record {
  is = (let a = ap (λ (xs : List PendingRead). length (take 8 xs)) e in omega (arith, a));
  fits = omega arith;
}
keeps_response k place (r ∷ reads) e = keeps_read k place r (call_of_number k r.number) _ (length (open_reads k) - 1) (record {
  is = refl;
  fits = (
      let a = ap (λ (xs : List PendingRead). length (take 8 xs)) e in let b = length-take 8 (r ∷ reads) in let d = length-take 8 reads in
      omega (arith, a, b, d)
      );
})

abbrev kept_by : ServerState → Segment → ℕ
kept_by k segment = cond (ends_response segment) (length (open_reads k) - 1) (length (open_reads k))

keeps_by_lem : (k : ServerState) (f : Frame) (segment : Segment) → Keeps (effect_by k f segment) (kept_by k segment)
keeps_by_lem k f (Tagged last opcode stag to payload) = by (eqb opcode 2 && last)
  where
    t : ServerState
    t = with_access k f (Tagged last opcode stag to payload)

    by : (b : Bool) → Keeps (cond b (response_effect t f.end k.reads) (no_effect t)) (cond b (length (open_reads k) - 1) (length (open_reads k)))
    by true = keeps_response t f.end k.reads refl
    by false = keeps_none t
keeps_by_lem k f (Untagged last opcode w queue msn offset payload) = by (message_completed k.received (Untagged last opcode w queue msn offset payload))
  where
    by : (o : Option (List ℕ)) → Keeps (by_message k f.end o) (length (open_reads k))
    by None = keeps_none k
    by (Some message) = keeps_message_lem k f.end message (verdict k message)

keeps_frame : (k : ServerState) (f : Frame) (segment : Segment) → frame_segment f ≡ Ok segment → Keeps (frame_effect k f) (kept_by k segment)
unfolding frame_effect
keeps_frame k f segment is = subst (λ (r : Result Segment ℕ). Keeps (effect_in k f r) (kept_by k segment)) (sym is) (keeps_by_lem k f segment)

all_open : (n : ℕ) (xs : List PendingRead) → length (take n xs) < n → take n xs ≡ xs
all_open n xs lt = take_all n xs (let a = length-take n xs in omega (arith, a, lt))

pub opens_reads : (opened : LinkParameters) (k : ServerState) (f : Frame) (segment : Segment) → is_hello f ≡ false → frame_segment f ≡ Ok segment →
    server_end opened k (FrameReceived f) ≡ None → OpensReads opened k f segment
unfolding server_output server_state_after
opens_reads opened k f segment later is none =
    let s : FrameEffect = frame_effect k f in
    let keeps = keeps_frame k f segment is in
    let after : ServerState = server_state_after opened k (FrameReceived f) in
    let reads : after.reads ≡ s.reads = ap (λ (b : Bool). (cond b (with_own_hello opened k f) (with_effect k f s)).reads) later in
    let same : length (open_reads after) ≡ length (take 8 s.reads) = ap (λ (xs : List PendingRead). length (take 8 xs)) reads in
    record {
      kept = keeps.is;
      count = (let a = length-drop s.kept (take 8 s.reads) in let b = keeps.fits in omega (arith, a, b, same));
      requests = stays_output opened k (FrameReceived f) none ∙ ap (λ (b : Bool). cond b (server_hello opened f) (effect_output k s)) later;
      few = (let a = length-take 8 after.reads in omega (arith, a));
      none_waits = λ lt. all_open 8 after.reads lt;
    }
