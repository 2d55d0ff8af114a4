-- A frame at a server: it ends the server only for what the server makes of a call, else the guards are kept.
use Rattle.std.proofs.lemmas.Bool.{le-ltb}
use Rattle.nr_laws.proofs.FirstHellos.{first_hello_is}
use Rattle.nr_laws.proofs.AgreeingEnds.{payload_bytes, message_bytes}
use Rattle.nr_laws.proofs.ClientFrame.{calls_said}
use Rattle.nr_laws.proofs.GuardsAtServer.{sent_most, takes_part}
use Rattle.std.specs.Prelude.{length}
use Rattle.nr_laws.proofs.OneChunk.{HasOneChunk, OneChunk}
use Rattle.std.proofs.Common.{◌≡◌, ℕ, ◌+◌, ◌≤◌, ◌<◌, Bool, true, false, cond, not, ◌||◌, eqb, List, [], ◌∷◌, ◌++◌, length, drop, Option, Some, None, Result, Ok, Err, refl, sym, ap, subst, ◌∙◌, arith, inl, inr}
use Rattle.nr_xdr.specs.Item.{IsBytes}
use Rattle.nr_xdr.specs.Fields.{word_at}
use Rattle.std.proofs.lemmas.Bool.{ne_eqb}
use Rattle.nr_wire.specs.declared.hello.Side.TheVariants.{Initiator}
use Rattle.nr_wire.specs.Hello.{hello_of}
use Rattle.nr_wire.specs.Segment.{Segment}
use Rattle.nr_wire.specs.Segment.Segment.{Tagged}
use Rattle.nr_header.specs.declared.fault.HeaderFault.{HeaderFault}
use Rattle.nr_header.specs.declared.header.Body.{Body}
use Rattle.nr_header.specs.declared.header.Body.TheVariants.{Msg, Nomsg, ErrVers, ErrChunk}
use Rattle.nr_header.specs.declared.header.ChunkLists.{ChunkLists}
use Rattle.nr_header.specs.declared.header.Header.{Header}
use Rattle.nr_header.specs.Reading.{header_of}
use Rattle.nr_rpc.specs.declared.head.CallHead.{CallHead}
use Rattle.nr_rpc.specs.Reading.{call_of, head_xid}
use Rattle.nr_link.specs.declared.end.End.{End}
use Rattle.nr_link.specs.Frames.{Frame, is_hello}
use Rattle.nr_link.specs.Ending.{frame_segment, frame_end, hello_end}
use Rattle.nr_laws.proofs.CallNumbers.{none_pending, above_sends}
use Rattle.nr_reduce.specs.declared.mark.LinkParameters.{LinkParameters}
use Rattle.nr_reduce.specs.Opening.{IsOpened}
use Rattle.nr_reduce.specs.Events.RunEvent.{FrameReceived}
use Rattle.nr_reduce.specs.Chunks.{is_read_chunk_of_item}
use Rattle.nr_reduce.specs.OfferedRegions.{region_grants}
use Rattle.nr_reduce.specs.ClientState.{ClientState}
use Rattle.nr_reduce.specs.ServerState.{ServerState, PendingCall, is_pending, next_stag}
use Rattle.nr_reduce.specs.ServerReads.{chunks_of}
use Rattle.nr_reduce.specs.ServerMessages.{by_head, by_payload, pending_payload, Verdict, verdict, by_need, by_stream, by_body, by_header, has_position, no_stream}
use Rattle.nr_reduce.specs.ServerMessages.CallVerdict.{Refuses, IsReady}
use Rattle.nr_reduce.specs.ServerMessages.Verdict.{EndsLink, OtherVersion, BadChunks, MakesPending}
use Rattle.nr_reduce.specs.ServerFrames.{FrameEffect, with_verdict, frame_effect}
use Rattle.nr_reduce.specs.Server.{server_end, server_state_after, server_readiness, or_refusal, refusal_end}
use Rattle.nr_laws.proofs.EndReasons.{IsCallReason, EndsForCall}
use Rattle.nr_laws.proofs.FrameContents.{FrameContent, frame_bytes, total_of, sends_in, requests_in, server_frames, Carries, SentMessage, CompletesMessage, last_segment, part_segment, written_segment, written_last, IsSent}
use Rattle.nr_laws.proofs.FrameContents.FrameContent.{HelloFrame, PartFrame, SendFrame, RequestFrame, TaggedFrame}
use Rattle.nr_laws.proofs.LinkInvariants.{Transit}
use Rattle.nr_laws.proofs.Totals.{total_append}
use Rattle.nr_laws.proofs.CompletedFrames.{is_piece}
use Rattle.nr_laws.proofs.Writable.{IsWritable, IsOutput, proper_one, stream_first, stream_at_lem}
use Rattle.nr_laws.proofs.AgreeingEnds.{EndsAgree, IsPlace, frame_of, taken_up}
use Rattle.nr_laws.proofs.Guards.{Guards, content_plain}
use Rattle.nr_laws.proofs.GuardsAtServer.{front_up, front_xid, ServerTakes, takes_send, takes_tagged, hello_guards}
use Rattle.nr_laws.proofs.Basics.{some_not}
use Rattle.nr_laws.proofs.EachEffect.{send_effect, tagged_effect_lem, part_effect}
use Rattle.nr_laws.proofs.SendFrames.{at_front}
use Rattle.nr_laws.proofs.ReadContents.{segment_is, carries_taken}
use Rattle.nr_reduce.specs.StandingLaws.{xid_of_send}
use Rattle.nr_reduce.proofs.RisingXids.{xids_from_one}

-- ---- Why the effect of a frame refuses

abbrev Refusal : Option ℕ → Type 0
Refusal None = Unit {0}
Refusal (Some reason) = IsCallReason reason

head_reason : IsCallReason 18
head_reason = inl refl

xid_reason : IsCallReason 19
xid_reason = inr refl

refused_head : (c : PendingCall) (payload : List ℕ) (r : Result CallHead ℕ) (s : FrameEffect) → Refusal s.refusal → Refusal (with_verdict (by_head c payload r) s).refusal
refused_head c payload (Err at) s h = head_reason
refused_head c payload (Ok head) s h = by (eqb (head_xid head) c.xid)
  where
    by : (b : Bool) → Refusal (with_verdict (cond b (IsReady (record { number = c.number; xid = c.xid; payload = payload })) (Refuses 19)) s).refusal
    by true = h
    by false = xid_reason

refused_payload : (c : PendingCall) (payload : Option (List ℕ)) (s : FrameEffect) → Refusal s.refusal → Refusal (with_verdict (by_payload c payload) s).refusal
refused_payload c None s h = head_reason
refused_payload c (Some payload) s h = refused_head c payload (call_of payload) s h

-- the verdict on a message ends the link only for such a reason
abbrev VerdictReason : Verdict → Type 0
VerdictReason (EndsLink reason) = IsCallReason reason
VerdictReason OtherVersion = Unit {0}
VerdictReason BadChunks = Unit {0}
VerdictReason (MakesPending c) = Unit {0}

reason_need : (k : ServerState) (c : PendingCall) → next_stag k + length (chunks_of c.lists) ≤ 4294967296 → VerdictReason (by_need k c)
reason_need k c le = subst (λ (b : Bool). VerdictReason (cond b (EndsLink 30) (MakesPending c))) (sym (le-ltb 4294967296 (next_stag k + length (chunks_of c.lists)) le)) tt

reason_stream : (k : ServerState) (lists : ChunkLists) (xid : ℕ) (stream : Option (List ℕ)) → next_stag k + length (chunks_of lists) ≤ 4294967296 → VerdictReason (by_stream k lists xid stream)
reason_stream k lists xid None le = reason_need k (record { number = k.received.sends + 1; xid = xid; lists = lists; inline = None }) le
reason_stream k lists xid (Some stream) le = by (is_read_chunk_of_item stream lists.read)
  where
    by : (b : Bool) → VerdictReason (cond b (by_need k (record { number = k.received.sends + 1; xid = xid; lists = lists; inline = Some stream })) BadChunks)
    by true = reason_need k (record { number = k.received.sends + 1; xid = xid; lists = lists; inline = Some stream }) le
    by false = tt

reason_body : (k : ServerState) (xid : ℕ) (message : List ℕ) (body : Body) → next_stag k + 1 ≤ 4294967296 → HasOneChunk body → VerdictReason (by_body k xid message body)
reason_body k xid message (Msg lists at) room one = reason_stream k lists xid (Some (drop at message)) (omega (arith, room, one))
reason_body k xid message (Nomsg lists) room one = by (has_position lists.read)
  where
    by : (b : Bool) → VerdictReason (cond b (by_stream k lists xid (no_stream lists.read)) BadChunks)
    by true = reason_stream k lists xid (no_stream lists.read) (omega (arith, room, one))
    by false = tt
reason_body k xid message (ErrVers version low high) room one = tt
reason_body k xid message (ErrChunk version) room one = tt

reason_header : (k : ServerState) (message : List ℕ) (r : Result Header HeaderFault) → header_of message ≡ r → next_stag k + 1 ≤ 4294967296 → IsBytes message → OneChunk message → VerdictReason (by_header k message r)
reason_header k message (Ok h) is room bytes one = reason_body k h.xid message h.body room (one h bytes is)
reason_header k message (Err fault) is room bytes one = tt

reason_verdict : (k : ServerState) (message : List ℕ) → word_at 12 message ≤ 1 → is_pending k (word_at 0 message) ≡ false → next_stag k + 1 ≤ 4294967296 → IsBytes message → OneChunk message → VerdictReason (verdict k message)
unfolding verdict
reason_verdict k message kind again room bytes one =
    subst (λ (b : Bool). VerdictReason (cond (not (eqb (word_at 4 message) 1)) OtherVersion (cond b (EndsLink 17) (cond (is_pending k (word_at 0 message)) (EndsLink 20) (by_header k message (header_of message))))))
    (sym (λ i. ne_eqb (word_at 12 message) 3 (λ e. omega (arith, e, kind)) i || ne_eqb (word_at 12 message) 4 (λ e. omega (arith, e, kind)) i))
    (subst (λ (b : Bool). VerdictReason (cond (not (eqb (word_at 4 message) 1)) OtherVersion (cond b (EndsLink 20) (by_header k message (header_of message))))) (sym again) (by (not (eqb (word_at 4 message) 1))))
  where
    by : (other : Bool) → VerdictReason (cond other OtherVersion (by_header k message (header_of message)))
    by true = tt
    by false = reason_header k message (header_of message) refl room bytes one

refused_tagged : (k : ServerState) (f : Frame) (last : Bool) (opcode stag to : ℕ) (payload : List ℕ) → frame_segment f ≡ Ok (Tagged last opcode stag to payload) → Refusal (frame_effect k f).refusal
refused_tagged k f last opcode stag to payload is =
    tagged_effect_lem k (λ s. Refusal s.refusal) (record { unchanged = tt; judged = λ t place c s h. refused_payload c (pending_payload t place c) s h; read = λ r reads is. tt; refused = λ r reads c is found. tt }) f last opcode stag to payload is

refused_send_lem : (k : ServerState) (f : Frame) (message : SentMessage) → CompletesMessage k.received message → word_at 12 message.bytes ≤ 1 → is_pending k (word_at 0 message.bytes) ≡ false → next_stag k + 1 ≤ 4294967296 → IsBytes message.bytes → OneChunk message.bytes
    → frame_segment f ≡ Ok (last_segment k.received.sends message) → Refusal (frame_effect k f).refusal
refused_send_lem k f message completes kind again room bytes one is =
    send_effect k (λ m. VerdictReason (verdict k m)) (λ s. Refusal s.refusal) (record {
      judged = λ t place c s h. refused_payload c (pending_payload t place c) s h;
      ends = λ message reason h is. subst VerdictReason is h;
      version = λ message h. tt;
      chunks = λ message h. tt;
      pending = λ place message c h is. tt;
    }) f message completes (reason_verdict k message.bytes kind again room bytes one) is

call_end : (f : Frame) (refusal : Option ℕ) (end : End) → Refusal refusal → refusal_end f refusal ≡ Some end → EndsForCall end
call_end f None end h e = absurd cc
call_end f (Some reason) end h e = (f.at, reason, cc, h)

-- ---- The frame of a frame

pub record ServerStep (opened : LinkParameters) (k : ClientState) (s : ServerState) (u d all_up all_down : List FrameContent) (w : Transit) (p : FrameContent) (rest : List FrameContent) (f : Frame) : Type 0 where
  pub only : (end : End) → server_end opened s (FrameReceived f) ≡ Some end → EndsForCall end
  pub kept : server_end opened s (FrameReceived f) ≡ None → Guards opened k (server_state_after opened s (FrameReceived f)) (u ++ p ∷ []) d all_up (all_down ++ server_frames opened s (FrameReceived f)) (taken_up w rest (server_frames opened s (FrameReceived f))) f.end

by_takes : (opened : LinkParameters) (k : ClientState) (s : ServerState) (u d all_up all_down : List FrameContent) (w : Transit) (p : FrameContent) (rest : List FrameContent) (f : Frame) → Refusal (frame_effect s f).refusal → ServerTakes opened k s u d all_up all_down w p rest f → ServerStep opened k s u d all_up all_down w p rest f
by_takes opened k s u d all_up all_down w p rest f refused t = record {
  only = λ end e. call_end f (frame_effect s f).refusal end refused (sym t.ends ∙ e);
  kept = t.kept;
}

hello_none : (opened : LinkParameters) (s : ServerState) (f : Frame) (private : List ℕ) → is_hello f ≡ true → hello_of Initiator f.bytes ≡ Ok (record { side = Initiator; flags = 0; private = private }) → server_end opened s (FrameReceived f) ≡ None
unfolding server_end
hello_none opened s f private is says =
    (λ i. cond (is i) (hello_end (says i)) (or_refusal s f (frame_end (server_readiness opened s) (region_grants f.end s.regions) f)))

step_piece : (opened : LinkParameters) (k : ClientState) (s : ServerState) (u d all_up all_down : List FrameContent) (w : Transit) (place : ℕ) (p : FrameContent) (rest : List FrameContent) (f : Frame) → IsOpened opened → EndsAgree opened k s u d all_up all_down w → Guards opened k s u d all_up all_down w place → 0 < length u → w.up ≡ p ∷ rest
    → IsWritable p → Carries false s.received.sends s.received.requests f p → IsBytes f.bytes → f.bytes ≡ frame_bytes opened Initiator (written_segment s.received.sends s.received.requests p) → place < f.end
    → ServerStep opened k s u d all_up all_down w p rest f
step_piece opened k s u d all_up all_down w place HelloFrame rest f o l g received first proper piece bytes is lt = absurd proper
step_piece opened k s u d all_up all_down w place (PartFrame named offset payload) rest f o l g received first proper piece bytes is lt =
    let segment : Segment = part_segment s.received.sends offset payload in
    let reads : frame_segment f ≡ Ok segment = segment_is s.received.sends s.received.requests f (PartFrame named offset payload) segment piece refl in
    by_takes opened k s u d all_up all_down w (PartFrame named offset payload) rest f (part_effect s (λ e. Refusal e.refusal) tt f offset payload reads) (takes_part opened k s u d all_up all_down w place named offset payload rest f o g received first piece lt)
step_piece opened k s u d all_up all_down w place (SendFrame message) rest f o l g received first proper piece bytes is lt =
    let segment : Segment = last_segment s.received.sends message in
    let reads : frame_segment f ≡ Ok segment = segment_is s.received.sends s.received.requests f (SendFrame message) segment piece refl in
    let completes = (at_front s.received.begun w.up w.queued_up (SendFrame message) rest first l.counts.whole_up).1 in
    let are_bytes = message_bytes s.received message completes l.bytes_up (payload_bytes (written_last s.received.sends message) (subst IsBytes is bytes)) in
    let fine = (front_up opened k s u d all_up all_down w place (SendFrame message) rest l g first).0 in
    let xid = front_xid opened k s u d all_up all_down w place message rest l g first in
    let again = none_pending (xid_of_send opened) s.received.sends (word_at 0 message.bytes) s.calls g.answered.rise g.numbers l.waits.calls_below xid in
    let some : 0 < total_of sends_in w.up = omega (arith, ap (total_of sends_in) first) in
    let sent = calls_said opened k s u d all_up all_down w l in
    let fewer : s.received.sends < k.sends =
    omega (arith, some, sent, sent_most k, l.sends_up, ap (total_of sends_in) l.parts_up, total_append sends_in u (w.up ++ w.queued_up), total_append sends_in w.up w.queued_up) in
    let above = above_sends (xid_of_send opened) s.received.sends g.answered.rise (xids_from_one opened 0 o) in
    let room : next_stag s + 1 ≤ 4294967296 = omega (arith, g.sinks, above, g.answered.room s.received.sends fewer) in
    by_takes opened k s u d all_up all_down w (SendFrame message) rest f (refused_send_lem s f message completes fine.3 again room are_bytes fine.4 reads) (takes_send opened k s u d all_up all_down w place message rest f o l g received first piece bytes is lt)
step_piece opened k s u d all_up all_down w place (RequestFrame sink at size stag to) rest f o l g received first proper piece bytes is lt =
    absurd (omega (arith, l.no_reads, ap (total_of requests_in) l.parts_up, total_append requests_in u (w.up ++ w.queued_up), total_append requests_in w.up w.queued_up, ap (total_of requests_in) first))
step_piece opened k s u d all_up all_down w place (TaggedFrame last opcode stag to payload) rest f o l g received first proper piece bytes is lt =
    let reads : frame_segment f ≡ Ok (Tagged last opcode stag to payload) = segment_is s.received.sends s.received.requests f (TaggedFrame last opcode stag to payload) (Tagged last opcode stag to payload) piece refl in
    by_takes opened k s u d all_up all_down w (TaggedFrame last opcode stag to payload) rest f (refused_tagged s f last opcode stag to payload reads) (takes_tagged opened k s u d all_up all_down w place last opcode stag to payload rest f o l g received first piece lt)

pub step_up_lem : (opened : LinkParameters) (k : ClientState) (s : ServerState) (u d all_up all_down : List FrameContent) (w : Transit) (p : FrameContent) (rest : List FrameContent) (n r place : ℕ) → IsOpened opened → EndsAgree opened k s u d all_up all_down w → Guards opened k s u d all_up all_down w place → w.up ≡ p ∷ rest
    → n ≡ total_of sends_in u → r ≡ total_of requests_in u → IsPlace u place → IsBytes (frame_bytes opened Initiator (written_segment n r p)) → 0 < length (frame_bytes opened Initiator (written_segment n r p))
    → ServerStep opened k s u d all_up all_down w p rest (frame_of (frame_bytes opened Initiator (written_segment n r p)) place)
step_up_lem opened k s [] d all_up all_down w p rest n r place o l g first sends requests at bytes some =
    let stream : IsOutput (p ∷ (rest ++ w.queued_up)) = subst IsOutput (sym l.parts_up ∙ ap (λ (ps : List FrameContent). ps ++ w.queued_up) first) l.stream_up in
    let hello : p ≡ HelloFrame = stream_first p (rest ++ w.queued_up) stream in
    let f = frame_of (frame_bytes opened Initiator (written_segment n r p)) place in
    let is : is_hello f ≡ true = ap (λ (x : ℕ). eqb x 0) at in
    let says = ap (λ (q : FrameContent). hello_of Initiator (frame_bytes opened Initiator (written_segment n r q))) hello ∙ (first_hello_is opened Initiator).says in
    let none = hello_none opened s f (first_hello_is opened Initiator).private is says in
    subst (λ (q : FrameContent). ServerStep opened k s [] d all_up all_down w q rest f) (sym hello) (record {
      only = λ end e. absurd (some_not end (sym e ∙ none));
      kept = λ stays. hello_guards opened k s [] d all_up all_down w place rest f g (first ∙ ap (λ (q : FrameContent). q ∷ rest) hello) is (ap (λ (q : FrameContent). frame_bytes opened Initiator (written_segment n r q)) hello) (omega (arith, some));
    })
step_up_lem opened k s (q ∷ u) d all_up all_down w p rest n r place o l g first sends requests at bytes some =
    let stream : IsOutput (q ∷ u ++ p ∷ (rest ++ w.queued_up)) = subst IsOutput (sym l.parts_up ∙ ap (λ (ps : List FrameContent). q ∷ u ++ (ps ++ w.queued_up)) first) l.stream_up in
    let proper = stream_at_lem q u p (rest ++ w.queued_up) stream in
    let f = frame_of (frame_bytes opened Initiator (written_segment n r p)) place in
    let n_is : n ≡ s.received.sends = sends ∙ sym l.sends_up in
    let r_is : r ≡ s.received.requests = requests ∙ sym l.requests_up in
    step_piece opened k s (q ∷ u) d all_up all_down w place p rest f o l g (omega arith) first proper
    (carries_taken false s.received.sends s.received.requests f p (content_plain opened p (front_up opened k s (q ∷ u) d all_up all_down w place p rest l g first))
    (subst (λ (x : ℕ). IsSent x s.received.requests f p) n_is (subst (λ (x : ℕ). IsSent n x f p) r_is (is_piece opened Initiator n r place p (proper_one n r p proper) at))))
    bytes (λ i. frame_bytes opened Initiator (written_segment (n_is i) (r_is i) p)) (omega (arith, some))
