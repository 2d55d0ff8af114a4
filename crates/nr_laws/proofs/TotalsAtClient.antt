-- Totals agree after each event of the client.
use Rattle.std.proofs.Common.{◌≡◌, ℕ, zero, suc, ◌+◌, ◌-◌, ◌*◌, Bool, true, false, cond, ◌&&◌, eqb, List, [], ◌∷◌, ◌++◌, length, map, take, drop, Option, None, Some, Result, Ok, Err, refl, sym, ap, subst, ◌∙◌, arith, eq-eqb, ne_eqb, length-append}
use Rattle.std.specs.List.{list_any, range_with_len}
use Rattle.nr_wire.specs.Constants.{OPCODE_READ_REQUEST, OPCODE_READ_RESPONSE, QUEUE_READ_REQUEST}
use Rattle.nr_xdr.specs.Item.{word, hyper}
use Rattle.nr_wire.specs.Segment.{Segment}
use Rattle.nr_wire.specs.declared.hello.Side.TheVariants.{Responder}
use Rattle.nr_wire.specs.Hello.{hello_of}
use Rattle.nr_wire.specs.Segment.Segment.{Tagged, Untagged}
use Rattle.nr_header.specs.declared.fault.HeaderFault.{HeaderFault}
use Rattle.nr_header.specs.declared.fault.HeaderFault.TheVariants as faults
use Rattle.nr_header.specs.declared.header.Header.{Header}
use Rattle.nr_header.specs.Reading.{header_of}
use Rattle.nr_xdr.specs.Fields.{word_at}
use Rattle.nr_reduce.specs.declared.mark.LinkParameters.{LinkParameters}
use Rattle.nr_reduce.specs.History.{AcceptedCall}
use Rattle.nr_link.specs.Limits.{segment_max}
use Rattle.nr_link.specs.Output.{msn_word, segment_count, segment_payload}
use Rattle.nr_link.specs.Frames.{Frame, is_hello}
use Rattle.nr_link.specs.ReceiveState.{read_request_in, begun_bytes, ReadRequest}
use Rattle.nr_link.specs.Ending.{hello_end, frame_end_by}
use Rattle.nr_reduce.specs.OfferedRegions.{region_grants}
use Rattle.nr_reduce.specs.Events.RunEvent.{FrameReceived, CallSubmitted, QueueWritten}
use Rattle.nr_reduce.specs.ClientState.{ClientState, OutstandingCall, is_sent, client_memory_at, initial_client_state as client_initial_state}
use Rattle.nr_reduce.specs.ClientMessages.{reply_verdict, reply_by_header, by_call, answered_call}
use Rattle.nr_reduce.specs.Client.{client_segment, end_of_verdict, or_message_end, client_readiness, client_end, client_state_after, with_segment, outstanding_of, segment_request, with_hello, call_output, call_ends, submitted_ends, response_output, segment_names, or_other_sizes}
use Rattle.nr_reduce.specs.ServerState.{ServerState, initial_server_state as server_initial_state}
use Rattle.nr_laws.proofs.FrameContents.{FrameContent, Carries, total_of, sends_in, requests_in, responses_in, hellos_in, one_if_response, tagged_frame, tagged_frames, response_frames, client_frames, SentMessage, part_segment, last_segment, send_frames, calls_frames}
use Rattle.nr_laws.proofs.FrameContents.FrameContent.{HelloFrame, PartFrame, SendFrame, RequestFrame, TaggedFrame}
use Rattle.nr_laws.proofs.LinkInvariants.{Transit, TotalsAgree, AreDistinct, AreSends, calls_sent, hello_bit}
use Rattle.nr_laws.proofs.Totals.{total_append, total_map_zero, length_fewer, any_found, any_first}
use Rattle.nr_laws.proofs.Outputs.{message_of_call}
use Rattle.nr_laws.proofs.SendFrames.{send_counts, sends_zero, sends_one, are_sends, are_all_sends, tagged_sends, queued_more, none_queued, at_front}
use Rattle.nr_laws.proofs.HeaderXid.{header_xid}
use Rattle.nr_reduce.specs.Written.{ends_waiting}
use Rattle.nr_reduce.proofs.WholeWrotes.{ClientEnds, none_waiting}
use Rattle.nr_laws.proofs.EndsWaiting.{waiting_append, all_waiting_lem, one_waiting, calls_above, calls_length, send_some, output_some}
use Rattle.nr_reduce.proofs.Waiting.{or_message}
use Rattle.nr_laws.proofs.NamedReplies.{message_end_in, stays_as_plain}
use Rattle.nr_laws.proofs.ReadContents.{plain_is, message_end_is}
use Rattle.nr_laws.proofs.PlainSegments.{plain_segment, plain_with, plain_asks}

-- ---- A message that the client takes is under the xid of a call that is out

abbrev has_xid : ℕ → OutstandingCall → Bool
has_xid xid o = eqb o.xid xid

out_found : (k : ClientState) (f : Frame) (message : List ℕ) (h : Header) (o : Option OutstandingCall) → answered_call k h.xid ≡ o → end_of_verdict f (by_call k f.end message h.body o) ≡ None → list_any (has_xid h.xid) k.outstanding ≡ true
out_found k f message h None is e = absurd cc
out_found k f message h (Some o) is e =
    any_first (has_xid h.xid) (λ (x : OutstandingCall). is_sent k x) k.outstanding (any_found (λ (x : OutstandingCall). eqb x.xid h.xid && is_sent k x) k.outstanding o is)

out_header : (k : ClientState) (f : Frame) (message : List ℕ) (r : Result Header HeaderFault) → header_of message ≡ r → end_of_verdict f (reply_by_header k f.end message r) ≡ None → list_any (has_xid (word_at 0 message)) k.outstanding ≡ true
out_header k f message (Ok h) is e =
    subst (λ (n : ℕ). list_any (has_xid n) k.outstanding ≡ true) (header_xid message h is) (out_found k f message h (answered_call k h.xid) refl e)
out_header k f message (Err faults.Short) is e = absurd cc
out_header k f message (Err (faults.Version version)) is e = absurd cc
out_header k f message (Err (faults.Kind kind)) is e = absurd cc
out_header k f message (Err (faults.BadChunks at)) is e = absurd cc

pub out_there : (k : ClientState) (f : Frame) (message : List ℕ) → end_of_verdict f (reply_verdict k f.end message) ≡ None → list_any (has_xid (word_at 0 message)) k.outstanding ≡ true
unfolding reply_verdict
out_there k f message e = out_header k f message (header_of message) refl e

pub taken : (k : ClientState) (f : Frame) → is_hello f ≡ false → client_end k (FrameReceived f) ≡ None → message_end_in k f (client_segment k f) ≡ None
unfolding client_end
taken k f behind e =
    or_message k f (frame_end_by (client_readiness k) (region_grants f.end k.regions) f (client_segment k f))
    ((λ i. cond (sym behind i) (or_other_sizes k f (hello_end (hello_of Responder f.bytes))) (or_message_end k f (frame_end_by (client_readiness k) (region_grants f.end k.regions) f (client_segment k f)))) ∙ e)

-- ---- The client receives a message

pub after_is_lem : (opened : LinkParameters) (k : ClientState) (f : Frame) (r : Result Segment ℕ) → is_hello f ≡ false → plain_segment k f ≡ r → client_state_after opened k (FrameReceived f) ≡ with_segment k f r
unfolding client_state_after
after_is_lem opened k f r behind is =
    (λ i. cond (behind i) (with_hello opened k f) (with_segment k f (client_segment k f))) ∙ sym (plain_with k f (client_segment k f)) ∙ ap (λ (x : Result Segment ℕ). with_segment k f x) is

pub says_is : (opened : LinkParameters) (k : ClientState) (f : Frame) (r : Result Segment ℕ) → is_hello f ≡ false → plain_segment k f ≡ r → client_frames opened k (FrameReceived f) ≡ response_frames k f.end (segment_request r)
unfolding client_frames
says_is opened k f r behind is =
    (λ i. cond (behind i) (calls_frames opened k.outstanding) (response_frames k f.end (segment_request (client_segment k f))))
    ∙ ap (λ (q : Option ReadRequest). response_frames k f.end q) (sym (plain_asks (client_segment k f)) ∙ ap (λ (x : Result Segment ℕ). segment_request x) is)

abbrev pub down_one : Transit → List FrameContent → List FrameContent → Transit
down_one w said rest = record { queued_up = w.queued_up ++ said; up = w.up; queued_down = w.queued_down; down = rest }

totals_frame_lem : (opened : LinkParameters) (k : ClientState) (s : ServerState) (w : Transit) (f : Frame) (segment : Segment) (said rest : List FrameContent) → is_hello f ≡ false → plain_segment k f ≡ Ok segment → response_frames k f.end (segment_request (Ok segment)) ≡ said
    → TotalsAgree (with_segment k f (Ok segment)) s (down_one w said rest) → TotalsAgree (client_state_after opened k (FrameReceived f)) s (down_one w (client_frames opened k (FrameReceived f)) rest)
totals_frame_lem opened k s w f segment said rest behind is says h =
    subst (λ (ps : List FrameContent). TotalsAgree (client_state_after opened k (FrameReceived f)) s (down_one w ps rest)) (sym (says_is opened k f (Ok segment) behind is ∙ says))
    (subst (λ (t : ClientState). TotalsAgree t s (down_one w said rest)) (sym (after_is_lem opened k f (Ok segment) behind is)) h)

-- nothing more is queued
none_more : (begun : Option (List ℕ)) (ps qs : List FrameContent) → AreSends begun (ps ++ qs) → AreSends begun (ps ++ (qs ++ []))
none_more begun ps qs h = queued_more begun ps qs [] h refl

pub totals_send_down : (opened : LinkParameters) (k : ClientState) (s : ServerState) (w : Transit) (f : Frame) (message : SentMessage) (rest : List FrameContent) → TotalsAgree k s w → w.down ≡ SendFrame message ∷ rest
    → Carries k.invalidates k.received.sends k.received.requests f (SendFrame message) → client_end k (FrameReceived f) ≡ None → AreDistinct (λ (o : OutstandingCall). o.xid) k.outstanding
    → TotalsAgree (client_state_after opened k (FrameReceived f)) s (down_one w (client_frames opened k (FrameReceived f)) rest)
totals_send_down opened k s w f message rest c first p stays apart =
    let segment : Segment = last_segment k.received.sends message in
    let is : plain_segment k f ≡ Ok segment = plain_is k f (SendFrame message) segment p refl in
    let whole : List ℕ = begun_bytes k.received.begun ++ message.payload in
    let unended : end_of_verdict f (reply_verdict k f.end whole) ≡ None =
    stays_as_plain k f (segment_names (client_segment k f)) whole (sym (message_end_is k f segment is) ∙ taken k f p.behind stays) in
    let fewer = length_fewer (λ (o : OutstandingCall). o.xid) (word_at 0 whole) k.outstanding apart (out_there k f whole unended) in
    let front = at_front k.received.begun w.down w.queued_down (SendFrame message) rest first c.whole_down in
    let m : TotalsAgree (with_segment k f (Ok segment)) s (down_one w [] rest) = record {
      hello = omega (arith, c.hello, ap (total_of hellos_in) first, total_append hellos_in w.queued_up []);
      calls_up = omega (arith, c.calls_up, total_append sends_in w.queued_up []);
      messages_down = omega (arith, c.messages_down, ap (total_of sends_in) first);
      sends = omega (arith, c.sends, total_append sends_in w.queued_up []);
      messages = c.messages;
      all_sends = c.all_sends;
      within_up = c.within_up;
      within_down = c.within_down;
      out = omega (arith, c.out, fewer);
      waiting = c.waiting;
      whole_up = none_more s.received.begun w.up w.queued_up c.whole_up;
      whole_down = front.2;
      reads = omega (arith, c.reads, ap (total_of requests_in) first, total_append responses_in w.queued_up []);
      responses = omega (arith, c.responses, total_append responses_in w.queued_up []);
    } in
    totals_frame_lem opened k s w f segment [] rest p.behind is refl m

-- a segment of a Send that isn't its last
pub totals_part_down : (opened : LinkParameters) (k : ClientState) (s : ServerState) (w : Transit) (f : Frame) (named : Bool) (offset : ℕ) (payload : List ℕ) (rest : List FrameContent) → TotalsAgree k s w → w.down ≡ PartFrame named offset payload ∷ rest
    → Carries k.invalidates k.received.sends k.received.requests f (PartFrame named offset payload)
    → TotalsAgree (client_state_after opened k (FrameReceived f)) s (down_one w (client_frames opened k (FrameReceived f)) rest)
totals_part_down opened k s w f named offset payload rest c first p =
    let segment : Segment = part_segment k.received.sends offset payload in
    let is : plain_segment k f ≡ Ok segment = plain_is k f (PartFrame named offset payload) segment p refl in
    let front = at_front k.received.begun w.down w.queued_down (PartFrame named offset payload) rest first c.whole_down in
    let m : TotalsAgree (with_segment k f (Ok segment)) s (down_one w [] rest) = record {
      hello = omega (arith, c.hello, ap (total_of hellos_in) first, total_append hellos_in w.queued_up []);
      calls_up = omega (arith, c.calls_up, total_append sends_in w.queued_up []);
      messages_down = omega (arith, c.messages_down, ap (total_of sends_in) first);
      sends = omega (arith, c.sends, total_append sends_in w.queued_up []);
      messages = c.messages;
      all_sends = c.all_sends;
      within_up = c.within_up;
      within_down = c.within_down;
      out = c.out;
      waiting = c.waiting;
      whole_up = none_more s.received.begun w.up w.queued_up c.whole_up;
      whole_down = front.1;
      reads = omega (arith, c.reads, ap (total_of requests_in) first, total_append responses_in w.queued_up []);
      responses = omega (arith, c.responses, total_append responses_in w.queued_up []);
    } in
    totals_frame_lem opened k s w f segment [] rest p.behind is refl m

-- ---- The client receives a Read Request

one_last : (opcode stag to total : ℕ) (bytes : ℕ → List ℕ) (n a : ℕ) → a + suc n ≡ total
    → total_of responses_in (map (λ i. TaggedFrame (eqb (i + 1) total) OPCODE_READ_RESPONSE stag (to + segment_max * i) (bytes i)) (range_with_len a (suc n))) ≡ 1
one_last opcode stag to total bytes zero a e = ap (λ (b : Bool). one_if_response b + 0) (eq-eqb (a + 1) total (omega (arith, e)))
one_last opcode stag to total bytes (suc n) a e =
    let later = one_last opcode stag to total bytes n (a + 1) (omega (arith, e)) in
    ap (λ (b : Bool). one_if_response b + total_of responses_in (map (λ i. TaggedFrame (eqb (i + 1) total) OPCODE_READ_RESPONSE stag (to + segment_max * i) (bytes i)) (range_with_len (a + 1) (suc n))))
    (ne_eqb (a + 1) total (omega (arith, e)))
    ∙ omega (arith, later)

some_pieces : (bytes : List ℕ) → (n : ℕ) × (segment_count bytes ≡ suc n)
some_pieces bytes = (segment_count bytes - 1, omega arith)

pub responses_one : (stag to : ℕ) (bytes : List ℕ) → total_of responses_in (tagged_frames OPCODE_READ_RESPONSE stag to bytes) ≡ 1
unfolding tagged_frames
responses_one stag to bytes =
    let n = some_pieces bytes in
    ap (λ (k : ℕ). total_of responses_in (map (tagged_frame OPCODE_READ_RESPONSE stag to bytes) (range_with_len 0 k))) n.1
    ∙ one_last OPCODE_READ_RESPONSE stag to (segment_count bytes) (segment_payload bytes) n.0 0 (omega (arith, n.1))

pub tagged_none : (one : FrameContent → ℕ) (opcode stag to : ℕ) (bytes : List ℕ) → ((last : Bool) (at : ℕ) (payload : List ℕ) → one (TaggedFrame last opcode stag at payload) ≡ 0) → total_of one (tagged_frames opcode stag to bytes) ≡ 0
unfolding tagged_frames
tagged_none one opcode stag to bytes none = total_map_zero one (tagged_frame opcode stag to bytes) (range_with_len 0 (segment_count bytes)) (λ i. none _ _ _)

abbrev pub request_payload : (sink at size stag to : ℕ) → List ℕ
request_payload sink at size stag to = word sink ++ (hyper at ++ (word size ++ (word stag ++ hyper to)))

pub totals_read_down : (opened : LinkParameters) (k : ClientState) (s : ServerState) (w : Transit) (f : Frame) (sink at size stag to : ℕ) (rest : List FrameContent) → TotalsAgree k s w → w.down ≡ RequestFrame sink at size stag to ∷ rest
    → Carries k.invalidates k.received.sends k.received.requests f (RequestFrame sink at size stag to)
    → TotalsAgree (client_state_after opened k (FrameReceived f)) s (down_one w (client_frames opened k (FrameReceived f)) rest)
totals_read_down opened k s w f sink at size stag to rest c first p =
    let segment : Segment = Untagged true OPCODE_READ_REQUEST 0 QUEUE_READ_REQUEST (msn_word (k.received.requests + 1)) 0 (request_payload sink at size stag to) in
    let is : plain_segment k f ≡ Ok segment = plain_is k f (RequestFrame sink at size stag to) segment p refl in
    let r = read_request_in (request_payload sink at size stag to) in
    let bytes = take r.size (drop r.to (client_memory_at k f.end r.stag)) in
    let said = tagged_frames OPCODE_READ_RESPONSE r.sink r.sink_to bytes in
    let one = responses_one r.sink r.sink_to bytes in
    let end : ℕ = k.due + length (response_output k f.end (Some r)) in
    let m : TotalsAgree (with_segment k f (Ok segment)) s (down_one w said rest) = record {
      hello = omega (arith, c.hello, ap (total_of hellos_in) first, total_append hellos_in w.queued_up said, tagged_none hellos_in OPCODE_READ_RESPONSE r.sink r.sink_to bytes (λ last a b. refl));
      calls_up = omega (arith, c.calls_up, total_append sends_in w.queued_up said, tagged_none sends_in OPCODE_READ_RESPONSE r.sink r.sink_to bytes (λ last a b. refl));
      messages_down = omega (arith, c.messages_down, ap (total_of sends_in) first);
      sends = omega (arith, c.sends, total_append sends_in w.queued_up said, tagged_none sends_in OPCODE_READ_RESPONSE r.sink r.sink_to bytes (λ last a b. refl));
      messages = c.messages;
      all_sends = c.all_sends;
      within_up = omega (arith, c.within_up);
      within_down = c.within_down;
      out = c.out;
      waiting = c.waiting;
      whole_up = queued_more s.received.begun w.up w.queued_up said c.whole_up (tagged_sends OPCODE_READ_RESPONSE r.sink r.sink_to bytes);
      whole_down = at_front k.received.begun w.down w.queued_down (RequestFrame sink at size stag to) rest first c.whole_down;
      reads = omega (arith, c.reads, ap (total_of requests_in) first, total_append responses_in w.queued_up said, one);
      responses = omega (arith, c.responses, total_append responses_in w.queued_up said, one, waiting_append k.written k.response_ends (end ∷ []), one_waiting k.written end (omega (arith, c.within_up, output_some k f.end r)));
    } in
    subst (λ (x : List FrameContent). TotalsAgree (client_state_after opened k (FrameReceived f)) s (down_one w x rest)) (sym (says_is opened k f (Ok segment) p.behind is))
    (subst (λ (t : ClientState). TotalsAgree t s (down_one w said rest)) (sym (after_is_lem opened k f (Ok segment) p.behind is)) m)

-- ---- The client receives a tagged segment

pub totals_tagged_down : (opened : LinkParameters) (k : ClientState) (s : ServerState) (w : Transit) (f : Frame) (last : Bool) (opcode stag to : ℕ) (payload : List ℕ) (rest : List FrameContent) → TotalsAgree k s w → w.down ≡ TaggedFrame last opcode stag to payload ∷ rest
    → Carries k.invalidates k.received.sends k.received.requests f (TaggedFrame last opcode stag to payload)
    → TotalsAgree (client_state_after opened k (FrameReceived f)) s (down_one w (client_frames opened k (FrameReceived f)) rest)
totals_tagged_down opened k s w f last opcode stag to payload rest c first p =
    let segment : Segment = Tagged last opcode stag to payload in
    let is : plain_segment k f ≡ Ok segment = plain_is k f (TaggedFrame last opcode stag to payload) segment p refl in
    let m : TotalsAgree (with_segment k f (Ok segment)) s (down_one w [] rest) = record {
      hello = omega (arith, c.hello, ap (total_of hellos_in) first, total_append hellos_in w.queued_up []);
      calls_up = omega (arith, c.calls_up, total_append sends_in w.queued_up []);
      messages_down = omega (arith, c.messages_down, ap (total_of sends_in) first);
      sends = omega (arith, c.sends, total_append sends_in w.queued_up []);
      messages = c.messages;
      all_sends = c.all_sends;
      within_up = c.within_up;
      within_down = c.within_down;
      out = c.out;
      waiting = c.waiting;
      whole_up = none_more s.received.begun w.up w.queued_up c.whole_up;
      whole_down = at_front k.received.begun w.down w.queued_down (TaggedFrame last opcode stag to payload) rest first c.whole_down;
      reads = omega (arith, c.reads, ap (total_of requests_in) first, total_append responses_in w.queued_up []);
      responses = omega (arith, c.responses, total_append responses_in w.queued_up []);
    } in
    subst (λ (x : List FrameContent). TotalsAgree (client_state_after opened k (FrameReceived f)) s (down_one w x rest)) (sym (says_is opened k f (Ok segment) p.behind is))
    (subst (λ (t : ClientState). TotalsAgree t s (down_one w [] rest)) (sym (after_is_lem opened k f (Ok segment) p.behind is)) m)

-- ---- The client receives the server's hello: the calls that it accepted are sent

pub bit_of : (b : Bool) → hello_bit b ≡ 0 → b ≡ false
bit_of true e = absurd cc
bit_of false e = refl

pub totals_hello_down : (opened : LinkParameters) (k : ClientState) (s : ServerState) (w : Transit) (f : Frame) (rest : List FrameContent) → TotalsAgree k s w → w.down ≡ HelloFrame ∷ rest → is_hello f ≡ true
    → TotalsAgree (client_state_after opened k (FrameReceived f)) s (down_one w (client_frames opened k (FrameReceived f)) rest)
unfolding client_state_after client_frames
totals_hello_down opened k s w f rest c first is =
    let said = calls_frames opened k.outstanding in
    let hello : hello_bit k.has_hello ≡ 0 = omega (arith, c.hello, ap (total_of hellos_in) first) in
    let before : calls_sent k ≡ 0 = ap (λ (b : Bool). cond b k.sends 0) (bit_of k.has_hello hello) in
    let sends : total_of sends_in said ≡ length k.outstanding = sends_one sends_in (message_of_call opened) k.outstanding (λ named offset payload. refl) (λ m. refl) in
    let none_queued : total_of sends_in w.queued_up ≡ 0 = omega (arith, c.calls_up, before) in
    let all : length (call_ends opened k.due 1 k.outstanding) ≡ length k.outstanding = calls_length opened k.due 1 k.outstanding in
    let m : TotalsAgree (with_hello opened k f) s (down_one w said rest) = record {
      hello = omega (arith, c.hello, hello, ap (total_of hellos_in) first, total_append hellos_in w.queued_up said, sends_zero hellos_in (message_of_call opened) k.outstanding (λ named offset payload. refl) (λ m. refl));
      calls_up = omega (arith, c.calls_up, before, c.messages_down, c.waiting, c.out, sends, total_append sends_in w.queued_up said);
      messages_down = omega (arith, c.messages_down, ap (total_of sends_in) first);
      sends = omega (arith, none_queued, all, sends, total_append sends_in w.queued_up said, c.sends, waiting_append k.written k.send_ends (call_ends opened k.due 1 k.outstanding), all_waiting_lem k.written (call_ends opened k.due 1 k.outstanding) (calls_above opened k.written k.due 1 k.outstanding c.within_up));
      messages = c.messages;
      all_sends = omega (arith, all, c.all_sends, length-append k.send_ends (call_ends opened k.due 1 k.outstanding), c.out, c.messages_down, c.waiting, c.calls_up, before);
      within_up = omega (arith, c.within_up);
      within_down = c.within_down;
      out = c.out;
      waiting = c.waiting;
      whole_up = queued_more s.received.begun w.up w.queued_up said c.whole_up (are_all_sends (message_of_call opened) k.outstanding);
      whole_down = at_front k.received.begun w.down w.queued_down HelloFrame rest first c.whole_down;
      reads = omega (arith, c.reads, ap (total_of requests_in) first, total_append responses_in w.queued_up said, sends_zero responses_in (message_of_call opened) k.outstanding (λ named offset payload. refl) (λ m. refl));
      responses = omega (arith, c.responses, total_append responses_in w.queued_up said, sends_zero responses_in (message_of_call opened) k.outstanding (λ named offset payload. refl) (λ m. refl));
    } in
    subst (λ (b : Bool). TotalsAgree (cond b (with_hello opened k f) (with_segment k f (client_segment k f))) s (down_one w (cond b said (response_frames k f.end (segment_request (client_segment k f)))) rest)) (sym is) m

-- ---- The client accepts a call, and writes

abbrev pub up_more : Transit → List FrameContent → Transit
up_more w said = record { queued_up = w.queued_up ++ said; up = w.up; queued_down = w.queued_down; down = w.down }

says_call : (b : Bool) (message : List ℕ) → total_of sends_in (cond b (send_frames None message) []) ≡ hello_bit b
says_call true message = send_counts sends_in 1 (λ named offset payload. refl) (λ m. refl) None message
says_call false message = refl

says_no : (one : FrameContent → ℕ) (b : Bool) (message : List ℕ) → ((named : Bool) (offset : ℕ) (payload : List ℕ) → one (PartFrame named offset payload) ≡ 0) → ((m : SentMessage) → one (SendFrame m) ≡ 0) → total_of one (cond b (send_frames None message) []) ≡ 0
says_no one true message parts none = send_counts one 0 parts none None message
says_no one false message parts none = refl

says_sends : (b : Bool) (message : List ℕ) → AreSends None (cond b (send_frames None message) [])
says_sends true message = are_sends None message
says_sends false message = refl

said_more : (b : Bool) (n : ℕ) → cond b (n + 1) 0 ≡ cond b n 0 + hello_bit b
said_more true n = refl
said_more false n = refl

pub totals_accepts : (opened : LinkParameters) (k : ClientState) (s : ServerState) (w : Transit) (place : ℕ) (a : AcceptedCall) → TotalsAgree k s w
    → TotalsAgree (client_state_after opened k (CallSubmitted place a)) s (up_more w (client_frames opened k (CallSubmitted place a)))
unfolding client_state_after client_frames
totals_accepts opened k s w place a c =
    let message = message_of_call opened (outstanding_of k a) in
    let said = cond k.has_hello (send_frames None message) [] in
    record {
      hello = omega (arith, c.hello, total_append hellos_in w.queued_up said, says_no hellos_in k.has_hello message (λ named offset payload. refl) (λ m. refl));
      calls_up = omega (arith, c.calls_up, said_more k.has_hello k.sends, total_append sends_in w.queued_up said, says_call k.has_hello message);
      messages_down = c.messages_down;
      sends = omega (arith, c.sends, total_append sends_in w.queued_up said, says_call k.has_hello message, waiting_append k.written k.send_ends (submitted_ends opened k a), submitted_waits k.has_hello);
      messages = c.messages;
      all_sends = omega (arith, c.all_sends, said_more k.has_hello k.sends, length-append k.send_ends (submitted_ends opened k a), submitted_length k.has_hello);
      within_up = omega (arith, c.within_up);
      within_down = c.within_down;
      out = omega (arith, c.out, length-append k.outstanding (outstanding_of k a ∷ []));
      waiting = c.waiting;
      whole_up = queued_more s.received.begun w.up w.queued_up said c.whole_up (says_sends k.has_hello message);
      whole_down = c.whole_down;
      reads = omega (arith, c.reads, total_append responses_in w.queued_up said, says_no responses_in k.has_hello message (λ named offset payload. refl) (λ m. refl));
      responses = omega (arith, c.responses, total_append responses_in w.queued_up said, says_no responses_in k.has_hello message (λ named offset payload. refl) (λ m. refl));
    }
  where
    one : List ℕ
    one = call_output opened (k.sends + 1) (outstanding_of k a)

    submitted_waits : (b : Bool) → ends_waiting k.written (cond b ((k.due + length (cond b one [])) ∷ []) []) ≡ hello_bit b
    submitted_waits true = one_waiting k.written (k.due + length one) (omega (arith, c.within_up, send_some (k.sends + 1) (message_of_call opened (outstanding_of k a))))
    submitted_waits false = refl

    submitted_length : (b : Bool) → length (cond b ((k.due + length (cond b one [])) ∷ []) []) ≡ hello_bit b
    submitted_length true = refl
    submitted_length false = refl

pub totals_writes_up : (opened : LinkParameters) (k : ClientState) (s : ServerState) (w : Transit) (taken : ℕ) → k.written + taken ≡ k.due → ClientEnds k → TotalsAgree k s w
    → TotalsAgree (client_state_after opened k (QueueWritten taken)) s (record { queued_up = []; up = w.up ++ w.queued_up; queued_down = w.queued_down; down = w.down })
unfolding client_state_after
totals_writes_up opened k s w taken all ends c = record {
  hello = omega (arith, c.hello, total_append hellos_in w.up w.queued_up);
  calls_up = omega (arith, c.calls_up, total_append sends_in w.up w.queued_up);
  messages_down = c.messages_down;
  sends = ap (λ (n : ℕ). ends_waiting n k.send_ends) all ∙ none_waiting k.due k.send_ends ends.sends;
  messages = c.messages;
  all_sends = c.all_sends;
  within_up = omega (arith, all);
  within_down = c.within_down;
  out = c.out;
  waiting = c.waiting;
  whole_up = none_queued s.received.begun (w.up ++ w.queued_up) c.whole_up;
  whole_down = c.whole_down;
  reads = omega (arith, c.reads, total_append responses_in w.up w.queued_up);
  responses = ap (λ (n : ℕ). ends_waiting n k.response_ends) all ∙ none_waiting k.due k.response_ends ends.responses;
}

-- ---- At the beginning

pub totals_first : (opened : LinkParameters) → TotalsAgree (client_initial_state opened) (server_initial_state opened) (record { queued_up = HelloFrame ∷ []; up = []; queued_down = []; down = [] })
totals_first opened = record {
  hello = refl;
  calls_up = refl;
  messages_down = refl;
  sends = refl;
  messages = refl;
  all_sends = refl;
  within_up = omega arith;
  within_down = omega arith;
  out = refl;
  waiting = refl;
  whole_up = refl;
  whole_down = refl;
  reads = refl;
  responses = refl;
}
