-- A client that a frame doesn't end keeps all that holds between both ends.
use Rattle.std.proofs.Common.{◌≡◌, ℕ, ◌+◌, ◌≤◌, ◌^◌, Bool, true, false, cond, not, ◌||◌, eqb, ltb, List, [], ◌∷◌, ◌++◌, length, take, drop, filter, Option, Some, None, Result, Ok, refl, sym, ap, subst, ◌∙◌, arith, lit<, append_assoc, length-take, ◌⊎◌, inl, inr}
use Rattle.std.proofs.lemmas.Bool.{ltb-false}
use Rattle.nr_xdr.specs.Item.{IsBytes}
use Rattle.nr_wire.specs.Constants.{OPCODE_READ_REQUEST, OPCODE_READ_RESPONSE, QUEUE_READ_REQUEST}
use Rattle.nr_wire.specs.declared.hello.Side.TheVariants.{Initiator, Responder}
use Rattle.nr_wire.specs.Hello.{hello_of}
use Rattle.nr_wire.specs.Segment.{Segment}
use Rattle.nr_wire.specs.Segment.Segment.{Tagged, Untagged}
use Rattle.nr_regions.specs.declared.denied.Denied.{Denied}
use Rattle.nr_link.specs.declared.end.End.{End}
use Rattle.nr_link.specs.Frames.{Frame, is_hello}
use Rattle.nr_link.specs.Output.{msn_word}
use Rattle.nr_link.specs.Reasons.{REASON_MSN, REASON_OFFSET, REASON_FORM, REASON_REQUESTS, REASON_LONG, REASON_SHORT}
use Rattle.nr_link.specs.ReceiveState.{read_request_in, message_completed, is_send, ReadRequest}
use Rattle.nr_link.specs.SegmentFaults.{Readiness, SegmentReason, segment_reason, first_fault, reason_if, missing_fault, is_malformed, is_too_many, no_buffer, next_msn, next_offset, message_length_is, terminate_fault}
use Rattle.nr_link.specs.Ending.{frame_end_by, end_of_fault, hello_end, missing_access}
use Rattle.nr_reduce.specs.declared.mark.LinkParameters.{LinkParameters}
use Rattle.nr_reduce.specs.Events.RunEvent.{FrameReceived}
use Rattle.nr_reduce.specs.OfferedRegions.{region_grants}
use Rattle.nr_reduce.specs.ClientState.{ClientState, OutstandingCall, client_memory_at}
use Rattle.nr_reduce.specs.ServerState.{ServerState}
use Rattle.nr_reduce.specs.Client.{client_segment, client_end, client_state_after, client_output, client_readiness, or_message_end, segment_request, calls_output, response_output, with_segment, with_hello, or_other_sizes}
use Rattle.nr_laws.proofs.FrameContents.{FrameContent, frame_bytes, output_bytes, total_of, sends_in, requests_in, hellos_in, client_frames, response_frames, tagged_frames, Carries, part_segment, last_segment, send_frames, calls_frames, written_segment, IsSent}
use Rattle.nr_laws.proofs.FrameContents.FrameContent.{HelloFrame, PartFrame, SendFrame, RequestFrame, TaggedFrame}
use Rattle.nr_laws.proofs.LinkInvariants.{Transit, TotalsAgree, calls_sent, hello_bit}
use Rattle.nr_laws.proofs.Totals.{total_append}
use Rattle.nr_laws.proofs.CompletedFrames.{is_piece}
use Rattle.nr_laws.proofs.TotalsAtClient.{totals_hello_down, totals_send_down, totals_read_down, totals_tagged_down, down_one, after_is_lem, says_is, request_payload, tagged_none, bit_of, totals_part_down}
use Rattle.nr_laws.proofs.OwnXids.{OwnXids, own_xids_came, segment_out}
use Rattle.nr_laws.proofs.OutputFrames.{outs_said, response_said}
use Rattle.nr_laws.proofs.Writable.{IsWritable, AreWritable, IsOutput, proper_one, stream_more, stream_first, stream_at_lem, tagged_proper, all_proper_append}
use Rattle.nr_laws.proofs.AgreeingEnds.{EndsAgree, IsPlace, frame_of, payload_bytes}
use Rattle.nr_laws.proofs.Outputs.{CallsShort, CallShort, message_of_call}
use Rattle.nr_laws.proofs.Words.{word_below_lem, hyper_below_lem}
use Rattle.nr_reduce.proofs.Touches.{no_flaw}
use Rattle.nr_laws.proofs.Basics.{each_kept}
use Rattle.nr_laws.proofs.SendFrames.{sends_zero}
use Rattle.nr_laws.proofs.ServerOutput.{short_proper}
use Rattle.nr_laws.proofs.ReadContents.{plain_is, own_is, carries_at_client}
use Rattle.nr_laws.proofs.PlainSegments.{plain_segment, plain_asks}

-- ---- A Read Request that doesn't end a client ends within 2 ^ 64 bytes of its sink

pub none_of : (faults : List (Option (SegmentReason Denied))) (x : Option (SegmentReason Denied)) (front : List (Option (SegmentReason Denied))) → first_fault (front ++ x ∷ faults) ≡ None → x ≡ None
none_of faults None front e = refl
none_of faults (Some x) [] e = absurd cc
none_of faults (Some x) (None ∷ front) e = none_of faults (Some x) front e
none_of faults (Some x) (Some y ∷ front) e = absurd cc

no_reason : (reason : ℕ) (b : Bool) → reason_if {D = Denied} reason b ≡ None → b ≡ false
no_reason reason true e = absurd cc
no_reason reason false e = refl

not_malformed : (r : Readiness Denied) (n : ℕ) (payload : List ℕ) → segment_reason r (Untagged true OPCODE_READ_REQUEST 0 QUEUE_READ_REQUEST n 0 payload) ≡ None → is_malformed OPCODE_READ_REQUEST true payload ≡ false
unfolding segment_reason
not_malformed r n payload e =
    let message : Option (List ℕ) = message_completed r.received (Untagged true OPCODE_READ_REQUEST 0 QUEUE_READ_REQUEST n 0 payload) in
    let front : List (Option (SegmentReason Denied)) =
    reason_if REASON_MSN (not (eqb n (next_msn r.received QUEUE_READ_REQUEST))) ∷ reason_if REASON_OFFSET (not (eqb 0 (next_offset r.received QUEUE_READ_REQUEST))) ∷ no_buffer r (is_send OPCODE_READ_REQUEST) n ∷ [] in
    let behind : List (Option (SegmentReason Denied)) =
    missing_fault r.missing ∷ reason_if REASON_REQUESTS (is_too_many r OPCODE_READ_REQUEST) ∷ reason_if REASON_LONG (message_length_is (ltb r.message_max) message)
    ∷ reason_if REASON_SHORT (message_length_is (λ m. ltb m 16) message) ∷ terminate_fault OPCODE_READ_REQUEST payload ∷ [] in
    no_reason REASON_FORM (is_malformed OPCODE_READ_REQUEST true payload) (none_of behind (reason_if REASON_FORM (is_malformed OPCODE_READ_REQUEST true payload)) front e)

ends_below : (a b c : Bool) → (a || (b || c)) ≡ false → c ≡ false
ends_below false false c e = e
ends_below true b c e = absurd cc
ends_below false true c e = absurd cc

pub by_end : (k : ClientState) (f : Frame) (o : Option End) → or_message_end k f o ≡ None → o ≡ None
by_end k f None e = refl
by_end k f (Some end) e = absurd cc

pub request_ends : (k : ClientState) (f : Frame) (n : ℕ) (payload : List ℕ) → is_hello f ≡ false → client_segment k f ≡ Ok (Untagged true OPCODE_READ_REQUEST 0 QUEUE_READ_REQUEST n 0 payload) → client_end k (FrameReceived f) ≡ None
    → (read_request_in payload).sink_to + (read_request_in payload).size ≤ 2 ^ 64
unfolding client_end
request_ends k f n payload behind is e =
    let segment : Segment = Untagged true OPCODE_READ_REQUEST 0 QUEUE_READ_REQUEST n 0 payload in
    let grants = region_grants f.end k.regions in
    let found : frame_end_by (client_readiness k) grants f (client_segment k f) ≡ None =
    by_end k f (frame_end_by (client_readiness k) grants f (client_segment k f)) ((λ i. cond (sym behind i) (or_other_sizes k f (hello_end (hello_of Responder f.bytes))) (or_message_end k f (frame_end_by (client_readiness k) grants f (client_segment k f)))) ∙ e) in
    let none : end_of_fault f segment (segment_reason (client_readiness k (missing_access grants f segment)) segment) ≡ None =
    ap (λ (r : Result Segment ℕ). frame_end_by (client_readiness k) grants f r) (sym is) ∙ found in
    let malformed = not_malformed (client_readiness k (missing_access grants f segment)) n payload (no_flaw f segment _ none) in
    ltb-false (2 ^ 64) ((read_request_in payload).sink_to + (read_request_in payload).size)
    (ends_below false (not (eqb (length payload) 28)) (ltb (2 ^ 64) ((read_request_in payload).sink_to + (read_request_in payload).size)) malformed)

-- ---- What is kept

short_frame : (opened : LinkParameters) (k : ClientState) (f : Frame) (r : Result Segment ℕ) → CallsShort opened k.outstanding → CallsShort opened (with_segment k f r).outstanding
short_frame opened k f r h = by (segment_out k f r)
  where
    by : ((with_segment k f r).outstanding ≡ k.outstanding) ⊎ ((p : OutstandingCall → Bool) × ((with_segment k f r).outstanding ≡ filter p k.outstanding)) → CallsShort opened (with_segment k f r).outstanding
    by (inl same) = subst (CallsShort opened) (sym same) h
    by (inr left) = subst (CallsShort opened) (sym left.1) (each_kept (CallShort opened) left.0 k.outstanding h)

client_linked : (opened : LinkParameters) (k t : ClientState) (s : ServerState) (u d all_up all_down : List FrameContent) (w : Transit) (p : FrameContent) (rest said : List FrameContent) → EndsAgree opened k s u d all_up all_down w → w.down ≡ p ∷ rest
    → TotalsAgree t s (down_one w said rest) → OwnXids opened t → CallsShort opened t.outstanding → AreWritable said → total_of hellos_in said ≡ 0 → total_of requests_in said ≡ 0
    → t.received.sends ≡ k.received.sends + sends_in p → t.received.requests ≡ k.received.requests + requests_in p
    → EndsAgree opened t s u (d ++ p ∷ []) (all_up ++ said) all_down (down_one w said rest)
client_linked opened k t s u d all_up all_down w p rest said l first counts outs short proper hellos reads sends requests = record {
  parts_up =
      ap (λ (ps : List FrameContent). u ++ ps) (sym (append_assoc w.up w.queued_up said)) ∙ sym (append_assoc u (w.up ++ w.queued_up) said) ∙ ap (λ (ps : List FrameContent). ps ++ said) l.parts_up;
  parts_down = append_assoc d (p ∷ []) (rest ++ w.queued_down) ∙ ap (λ (ps : List FrameContent). d ++ (ps ++ w.queued_down)) (sym first) ∙ l.parts_down;
  counts = counts;
  waits = l.waits;
  outs = outs;
  fits = l.fits;
  short = short;
  stream_up = stream_more all_up said l.stream_up l.begins_up proper;
  begins_up = omega (arith, l.begins_up, total_append hellos_in all_up said);
  stream_down = l.stream_down;
  hellos_down = l.hellos_down;
  no_reads = omega (arith, l.no_reads, reads, total_append requests_in all_up said);
  sends_up = l.sends_up;
  requests_up = l.requests_up;
  sends_down = omega (arith, sends, l.sends_down, total_append sends_in d (p ∷ []));
  requests_down = omega (arith, requests, l.requests_down, total_append requests_in d (p ∷ []));
  requests_sent = l.requests_sent;
  bytes_up = l.bytes_up;
}

pub record ClientTook (opened : LinkParameters) (k : ClientState) (s : ServerState) (u d all_up all_down : List FrameContent) (w : Transit) (p : FrameContent) (rest : List FrameContent) (f : Frame) : Type 0 where
  pub said : List FrameContent
  pub said_is : said ≡ client_frames opened k (FrameReceived f)
  pub output : client_output opened k (FrameReceived f) ≡ output_bytes opened Initiator (total_of sends_in all_up) (total_of requests_in all_up) said
  pub linked : EndsAgree opened (client_state_after opened k (FrameReceived f)) s u (d ++ p ∷ []) (all_up ++ said) all_down (down_one w said rest)

output_hello : (opened : LinkParameters) (k : ClientState) (f : Frame) → is_hello f ≡ true → client_output opened k (FrameReceived f) ≡ calls_output opened 1 k.outstanding
unfolding client_output
output_hello opened k f is = λ i. cond (is i) (calls_output opened 1 k.outstanding) (response_output k f.end (segment_request (client_segment k f)))

output_frame : (opened : LinkParameters) (k : ClientState) (f : Frame) (r : Result Segment ℕ) → is_hello f ≡ false → plain_segment k f ≡ r → client_output opened k (FrameReceived f) ≡ response_output k f.end (segment_request r)
unfolding client_output
output_frame opened k f r behind is =
    (λ i. cond (behind i) (calls_output opened 1 k.outstanding) (response_output k f.end (segment_request (client_segment k f))))
    ∙ ap (λ (q : Option ReadRequest). response_output k f.end q) (sym (plain_asks (client_segment k f)) ∙ ap (λ (x : Result Segment ℕ). segment_request x) is)

pub says_hello : (opened : LinkParameters) (k : ClientState) (f : Frame) → is_hello f ≡ true → client_frames opened k (FrameReceived f) ≡ calls_frames opened k.outstanding
unfolding client_frames
says_hello opened k f is = λ i. cond (is i) (calls_frames opened k.outstanding) (response_frames k f.end (segment_request (client_segment k f)))

pub after_hello : (opened : LinkParameters) (k : ClientState) (f : Frame) → is_hello f ≡ true → client_state_after opened k (FrameReceived f) ≡ with_hello opened k f
unfolding client_state_after
after_hello opened k f is = λ i. cond (is i) (with_hello opened k f) (with_segment k f (client_segment k f))

asks_proper : (opened : LinkParameters) (os : List OutstandingCall) → CallsShort opened os → AreWritable (calls_frames opened os)
asks_proper opened [] h = tt
asks_proper opened (o ∷ os) h = all_proper_append (send_frames None (message_of_call opened o)) (calls_frames opened os) (short_proper None (message_of_call opened o) tt h.0) (asks_proper opened os h.1)

-- the calls of a client so far
pub calls_said : (opened : LinkParameters) (k : ClientState) (s : ServerState) (u d all_up all_down : List FrameContent) (w : Transit) → EndsAgree opened k s u d all_up all_down w → total_of sends_in all_up ≡ calls_sent k
calls_said opened k s u d all_up all_down w l =
    omega (arith, l.counts.calls_up, l.sends_up, ap (total_of sends_in) l.parts_up, total_append sends_in u (w.up ++ w.queued_up), total_append sends_in w.up w.queued_up)

-- the server's hello
took_hello : (opened : LinkParameters) (k : ClientState) (s : ServerState) (u d all_up all_down : List FrameContent) (w : Transit) (rest : List FrameContent) (f : Frame) → EndsAgree opened k s u d all_up all_down w → w.down ≡ HelloFrame ∷ rest
    → is_hello f ≡ true → ClientTook opened k s u d all_up all_down w HelloFrame rest f
took_hello opened k s u d all_up all_down w rest f l first is =
    let said = calls_frames opened k.outstanding in
    let says = says_hello opened k f is in
    let after = after_hello opened k f is in
    let none : hello_bit k.has_hello ≡ 0 = omega (arith, l.counts.hello, ap (total_of hellos_in) first) in
    let calls : total_of sends_in all_up ≡ 0 = calls_said opened k s u d all_up all_down w l ∙ ap (λ (b : Bool). cond b k.sends 0) (bit_of k.has_hello none) in
    let counts : TotalsAgree (client_state_after opened k (FrameReceived f)) s (down_one w said rest) =
    subst (λ (ps : List FrameContent). TotalsAgree (client_state_after opened k (FrameReceived f)) s (down_one w ps rest)) says (totals_hello_down opened k s w f rest l.counts first is) in
    record {
      said = said;
      said_is = sym says;
      output = output_hello opened k f is ∙ outs_said opened 0 0 k.outstanding ∙ (λ i. output_bytes opened Initiator (sym calls i) (sym l.no_reads i) said);
      linked =
          client_linked opened k (client_state_after opened k (FrameReceived f)) s u d all_up all_down w HelloFrame rest said l first counts (own_xids_came opened k f l.outs)
          (subst (λ (t : ClientState). CallsShort opened t.outstanding) (sym after) l.short) (asks_proper opened k.outstanding l.short)
          (sends_zero hellos_in (message_of_call opened) k.outstanding (λ named offset payload. refl) (λ m. refl)) (sends_zero requests_in (message_of_call opened) k.outstanding (λ named offset payload. refl) (λ m. refl))
          (omega (arith, ap (λ (t : ClientState). t.received.sends) after)) (omega (arith, ap (λ (t : ClientState). t.received.requests) after));
    }

-- another frame, by what the client sends of it
took_frame : (opened : LinkParameters) (k : ClientState) (s : ServerState) (u d all_up all_down : List FrameContent) (w : Transit) (p : FrameContent) (rest said : List FrameContent) (f : Frame) (r : Result Segment ℕ) → EndsAgree opened k s u d all_up all_down w → w.down ≡ p ∷ rest
    → is_hello f ≡ false → plain_segment k f ≡ r → response_frames k f.end (segment_request r) ≡ said → response_output k f.end (segment_request r) ≡ output_bytes opened Initiator (total_of sends_in all_up) (total_of requests_in all_up) said
    → AreWritable said → total_of hellos_in said ≡ 0 → total_of requests_in said ≡ 0
    → TotalsAgree (client_state_after opened k (FrameReceived f)) s (down_one w (client_frames opened k (FrameReceived f)) rest)
    → (with_segment k f r).received.sends ≡ k.received.sends + sends_in p → (with_segment k f r).received.requests ≡ k.received.requests + requests_in p
    → ClientTook opened k s u d all_up all_down w p rest f
took_frame opened k s u d all_up all_down w p rest said f r l first behind is says output proper hellos reads counts sends requests =
    let after = after_is_lem opened k f r behind is in
    record {
      said = said;
      said_is = sym (says_is opened k f r behind is ∙ says);
      output = output_frame opened k f r behind is ∙ output;
      linked =
          client_linked opened k (client_state_after opened k (FrameReceived f)) s u d all_up all_down w p rest said l first
          (subst (λ (ps : List FrameContent). TotalsAgree (client_state_after opened k (FrameReceived f)) s (down_one w ps rest)) (says_is opened k f r behind is ∙ says) counts)
          (own_xids_came opened k f l.outs) (subst (λ (t : ClientState). CallsShort opened t.outstanding) (sym after) (short_frame opened k f r l.short)) proper hellos reads
          (ap (λ (t : ClientState). t.received.sends) after ∙ sends) (ap (λ (t : ClientState). t.received.requests) after ∙ requests);
    }

took_piece : (opened : LinkParameters) (k : ClientState) (s : ServerState) (u d all_up all_down : List FrameContent) (w : Transit) (p : FrameContent) (rest : List FrameContent) (f : Frame) → EndsAgree opened k s u d all_up all_down w → w.down ≡ p ∷ rest
    → IsWritable p → Carries k.invalidates k.received.sends k.received.requests f p → IsBytes f.bytes → f.bytes ≡ frame_bytes opened Responder (written_segment k.received.sends k.received.requests p)
    → client_end k (FrameReceived f) ≡ None → ClientTook opened k s u d all_up all_down w p rest f
took_piece opened k s u d all_up all_down w HelloFrame rest f l first proper piece bytes is stays = absurd proper
took_piece opened k s u d all_up all_down w (PartFrame named offset payload) rest f l first proper piece bytes is stays =
    let segment : Segment = part_segment k.received.sends offset payload in
    let reads : plain_segment k f ≡ Ok segment = plain_is k f (PartFrame named offset payload) segment piece refl in
    took_frame opened k s u d all_up all_down w (PartFrame named offset payload) rest [] f (Ok segment) l first piece.behind reads refl refl tt refl refl
    (totals_part_down opened k s w f named offset payload rest l.counts first piece) (omega arith) (omega arith)
took_piece opened k s u d all_up all_down w (SendFrame message) rest f l first proper piece bytes is stays =
    let segment : Segment = last_segment k.received.sends message in
    let reads : plain_segment k f ≡ Ok segment = plain_is k f (SendFrame message) segment piece refl in
    took_frame opened k s u d all_up all_down w (SendFrame message) rest [] f (Ok segment) l first piece.behind reads refl refl tt refl refl
    (totals_send_down opened k s w f message rest l.counts first piece stays l.outs.apart) refl (omega arith)
took_piece opened k s u d all_up all_down w (RequestFrame sink at size stag to) rest f l first proper piece bytes is stays =
    let payload = request_payload sink at size stag to in
    let segment : Segment = Untagged true OPCODE_READ_REQUEST 0 QUEUE_READ_REQUEST (msn_word (k.received.requests + 1)) 0 payload in
    let reads : plain_segment k f ≡ Ok segment = plain_is k f (RequestFrame sink at size stag to) segment piece refl in
    let payload_is = payload_bytes segment (subst IsBytes is bytes) in
    let r = read_request_in payload in
    let answer = take r.size (drop r.to (client_memory_at k f.end r.stag)) in
    let said = tagged_frames OPCODE_READ_RESPONSE r.sink r.sink_to answer in
    let ends = request_ends k f (msn_word (k.received.requests + 1)) payload piece.behind (own_is k f (RequestFrame sink at size stag to) segment piece refl refl) stays in
    took_frame opened k s u d all_up all_down w (RequestFrame sink at size stag to) rest said f (Ok segment) l first piece.behind reads refl
    (response_said opened Initiator (total_of sends_in all_up) (total_of requests_in all_up) r.sink r.sink_to answer)
    (tagged_proper OPCODE_READ_RESPONSE r.sink r.sink_to answer refl (lit< tt) (word_below_lem 0 payload payload_is) (hyper_below_lem 4 payload payload_is) (omega (arith, ends, length-take r.size (drop r.to (client_memory_at k f.end r.stag)))))
    (tagged_none hellos_in OPCODE_READ_RESPONSE r.sink r.sink_to answer (λ last a b. refl)) (tagged_none requests_in OPCODE_READ_RESPONSE r.sink r.sink_to answer (λ last a b. refl))
    (totals_read_down opened k s w f sink at size stag to rest l.counts first piece) (omega arith) refl
took_piece opened k s u d all_up all_down w (TaggedFrame last opcode stag to payload) rest f l first proper piece bytes is stays =
    let segment : Segment = Tagged last opcode stag to payload in
    let reads : plain_segment k f ≡ Ok segment = plain_is k f (TaggedFrame last opcode stag to payload) segment piece refl in
    took_frame opened k s u d all_up all_down w (TaggedFrame last opcode stag to payload) rest [] f (Ok segment) l first piece.behind reads refl refl tt refl refl
    (totals_tagged_down opened k s w f last opcode stag to payload rest l.counts first piece) (omega arith) (omega arith)

pub client_took : (opened : LinkParameters) (k : ClientState) (s : ServerState) (u d all_up all_down : List FrameContent) (w : Transit) (p : FrameContent) (rest : List FrameContent) (n r place : ℕ) → EndsAgree opened k s u d all_up all_down w → w.down ≡ p ∷ rest
    → n ≡ total_of sends_in d → r ≡ total_of requests_in d → IsPlace d place → IsBytes (frame_bytes opened Responder (written_segment n r p))
    → client_end k (FrameReceived (frame_of (frame_bytes opened Responder (written_segment n r p)) place)) ≡ None
    → ClientTook opened k s u d all_up all_down w p rest (frame_of (frame_bytes opened Responder (written_segment n r p)) place)
client_took opened k s u [] all_up all_down w p rest n r place l first sends requests at bytes stays =
    let stream : IsOutput (p ∷ (rest ++ w.queued_down)) = subst IsOutput (sym l.parts_down ∙ ap (λ (ps : List FrameContent). ps ++ w.queued_down) first) l.stream_down in
    let hello : p ≡ HelloFrame = stream_first p (rest ++ w.queued_down) stream in
    let f = frame_of (frame_bytes opened Responder (written_segment n r p)) place in
    subst (λ (q : FrameContent). ClientTook opened k s u [] all_up all_down w q rest f) (sym hello)
    (took_hello opened k s u [] all_up all_down w rest f l (first ∙ ap (λ (q : FrameContent). q ∷ rest) hello) (ap (λ (x : ℕ). eqb x 0) at))
client_took opened k s u (q ∷ d) all_up all_down w p rest n r place l first sends requests at bytes stays =
    let stream : IsOutput (q ∷ d ++ p ∷ (rest ++ w.queued_down)) = subst IsOutput (sym l.parts_down ∙ ap (λ (ps : List FrameContent). q ∷ d ++ (ps ++ w.queued_down)) first) l.stream_down in
    let proper = stream_at_lem q d p (rest ++ w.queued_down) stream in
    let f = frame_of (frame_bytes opened Responder (written_segment n r p)) place in
    let n_is : n ≡ k.received.sends = sends ∙ sym l.sends_down in
    let r_is : r ≡ k.received.requests = requests ∙ sym l.requests_down in
    took_piece opened k s u (q ∷ d) all_up all_down w p rest f l first proper
    (carries_at_client k k.received.sends k.received.requests f p stays (subst (λ (x : ℕ). IsSent x k.received.requests f p) n_is (subst (λ (x : ℕ). IsSent n x f p) r_is (is_piece opened Responder n r place p (proper_one n r p proper) at))))
    bytes (λ i. frame_bytes opened Responder (written_segment (n_is i) (r_is i) p)) stays
