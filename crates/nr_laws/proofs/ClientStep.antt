-- A frame at a client: it ends the client only for what the client makes of a message, or for an access that its memory denies;
-- else the guards are kept.
use Rattle.std.proofs.Common.{◌≡◌, ℕ, ◌+◌, ◌≤◌, ◌<◌, ◌^◌, Bool, true, false, cond, eqb, List, [], ◌∷◌, ◌++◌, drop, Option, Some, None, Result, Ok, Err, refl, sym, ap, subst, ◌∙◌, arith, ◌⊎◌, inl, inr}
use Rattle.nr_xdr.specs.Fields.{word_at}
use Rattle.nr_wire.specs.Constants.{OPCODE_WRITE, OPCODE_READ_REQUEST, QUEUE_READ_REQUEST}
use Rattle.nr_wire.specs.declared.hello.Side.TheVariants.{Responder}
use Rattle.nr_wire.specs.Segment.{Segment}
use Rattle.nr_wire.specs.Segment.Segment.{Tagged, Untagged}
use Rattle.nr_header.specs.declared.fault.HeaderFault.{HeaderFault}
use Rattle.nr_header.specs.declared.header.Body.{Body}
use Rattle.nr_header.specs.declared.header.Body.TheVariants.{Msg, Nomsg, ErrVers, ErrChunk}
use Rattle.nr_header.specs.declared.header.ChunkLists.{ChunkLists}
use Rattle.nr_header.specs.declared.header.Header.{Header}
use Rattle.nr_header.specs.Reading.{header_of}
use Rattle.nr_rpc.specs.declared.head.ReplyHead.{ReplyHead}
use Rattle.nr_rpc.specs.Reading.{reply_of}
use Rattle.nr_regions.specs.declared.denied.Denied.{Denied}
use Rattle.nr_regions.specs.RegisteredMemory.{Access}
use Rattle.nr_link.specs.declared.end.End.{End}
use Rattle.nr_link.specs.Frames.{Frame, is_hello}
use Rattle.nr_link.specs.Output.{msn_word}
use Rattle.nr_link.specs.Reasons.{REASON_INVALIDATED}
use Rattle.nr_link.specs.ReceiveState.{ReadRequest, read_request_in, begun_bytes}
use Rattle.nr_link.specs.SegmentFaults.{SegmentReason, first_fault, missing_fault}
use Rattle.nr_link.specs.Ending.{frame_end, frame_end_by, end_of_fault, denied_at, access_of, missing_access}
use Rattle.nr_reduce.specs.declared.mark.LinkParameters.{LinkParameters}
use Rattle.nr_reduce.specs.Opening.{IsOpened}
use Rattle.nr_reduce.specs.declared.call.Outcome.TheVariants as outcomes
use Rattle.nr_reduce.specs.Events.RunEvent.{FrameReceived}
use Rattle.nr_reduce.specs.OfferedRegions.{region_grants}
use Rattle.nr_reduce.specs.Plans.{lists_of}
use Rattle.nr_reduce.specs.Chunks.{answers_offer, reply_conveyed}
use Rattle.nr_reduce.specs.ClientState.{ClientState, OutstandingCall, client_memory_at}
use Rattle.nr_reduce.specs.ClientMessages.{ReplyVerdict, reply_verdict, reply_by_head, reply_by_payload, by_lists, reply_by_body, by_call, answered_call, reply_by_header, reply_xid, invalidates_another, message_verdict}
use Rattle.nr_reduce.specs.ClientMessages.ReplyVerdict.{EndsLink, GivesOutcome}
use Rattle.nr_reduce.specs.Client.{client_segment, client_end, client_state_after, client_readiness, or_message_end, end_of_verdict, segment_names}
use Rattle.nr_reduce.specs.ServerState.{ServerState}
use Rattle.nr_laws.proofs.FirstHellos.{first_hello}
use Rattle.nr_laws.proofs.SizesAgain.{hello_stays, reached_opening}
use Rattle.nr_laws.specs.EndCauses.{IsDenied, AgreesAgain}
use Rattle.nr_laws.proofs.EndReasons.{IsMessageReason, IsVerdictReason, EndsForMessage}
use Rattle.nr_laws.proofs.FrameContents.{FrameContent, written_segment, frame_bytes, total_of, sends_in, requests_in, hellos_in, client_frames, IsSent, Carries, last_segment}
use Rattle.nr_laws.proofs.FrameContents.FrameContent.{HelloFrame, PartFrame, SendFrame, RequestFrame, TaggedFrame}
use Rattle.nr_laws.proofs.LinkInvariants.{Transit, hello_bit}
use Rattle.nr_laws.proofs.Totals.{total_append}
use Rattle.nr_laws.proofs.CompletedFrames.{is_piece}
use Rattle.nr_laws.proofs.FaultlessSegments.{request_flaw, write_flaw}
use Rattle.nr_laws.proofs.FreeReceives.{requests}
use Rattle.nr_laws.proofs.EndsOfFrames.{client_by_lem, client_send, client_part, plain_end_by}
use Rattle.nr_laws.proofs.PlainSegments.{plain_segment}
use Rattle.nr_laws.proofs.ReadContents.{plain_is, message_end_is, carries_taken}
use Rattle.nr_laws.proofs.TotalsAtClient.{down_one, request_payload}
use Rattle.nr_laws.proofs.AnswerLists.{IsRead}
use Rattle.nr_laws.proofs.Replies.{IsReply}
use Rattle.nr_laws.proofs.RequestFields.{request_again}
use Rattle.nr_laws.proofs.Writable.{IsWritable, AreWritable, IsOutput, proper_one, stream_first, stream_at_lem, len_request}
use Rattle.nr_laws.proofs.AgreeingEnds.{EndsAgree, IsPlace, frame_of}
use Rattle.nr_laws.proofs.ClientFrame.{calls_said}
use Rattle.nr_laws.proofs.AnsweredSteps.{answers_one}
use Rattle.nr_laws.proofs.GuardsAtServer.{sent_most}
use Rattle.nr_laws.proofs.AgreedSizes.{matched_down}
use Rattle.nr_laws.proofs.Guards.{Guards}
use Rattle.nr_laws.proofs.GuardsAtClient.{front_down, front_taken, asked_of, guards_hello_down, guards_send_down, guards_read_down, guards_tagged_down, guards_part_down}
use Rattle.nr_laws.proofs.Basics.{some_not}
use Rattle.nr_laws.proofs.HeaderXid.{header_xid}
use Rattle.nr_laws.proofs.EndsWaiting.{left_waiting}
use Rattle.nr_laws.proofs.SendFrames.{at_front}
use Rattle.nr_laws.proofs.NamedReplies.{message_end_in}

-- ---- A message

abbrev pub VerdictReason : ReplyVerdict → Type 0
VerdictReason (EndsLink reason) = IsMessageReason reason
VerdictReason (GivesOutcome xid outcome) = Unit {0}

chunks_reason : IsMessageReason 21
chunks_reason = inl refl

head_reason : IsMessageReason 18
head_reason = inr (inl refl)

xid_reason : IsMessageReason 19
xid_reason = inr (inr refl)

reason_head : (xid : ℕ) (payload : List ℕ) (r : Result ReplyHead ℕ) → VerdictReason (reply_by_head xid payload r)
reason_head xid payload (Err at) = head_reason
reason_head xid payload (Ok head) = by (eqb (reply_xid head) xid)
  where
    by : (b : Bool) → VerdictReason (cond b (GivesOutcome xid (Some (outcomes.Reply payload))) (EndsLink 19))
    by true = tt
    by false = xid_reason

reason_payload : (xid : ℕ) (payload : Option (List ℕ)) → VerdictReason (reply_by_payload xid payload)
reason_payload xid None = chunks_reason
reason_payload xid (Some payload) = reason_head xid payload (reply_of payload)

reason_lists : (k : ClientState) (place : ℕ) (o : OutstandingCall) (inline : Option (List ℕ)) (lists : ChunkLists) (b : Bool) → VerdictReason (by_lists k place o inline lists b)
reason_lists k place o inline lists false = chunks_reason
reason_lists k place o inline lists true = by o.is_revoked
  where
    by : (b : Bool) → VerdictReason (cond b (GivesOutcome o.xid None) (reply_by_payload o.xid (reply_conveyed o.call.prog o.call.vers o.call.proc inline lists (client_memory_at k place))))
    by true = tt
    by false = reason_payload o.xid (reply_conveyed o.call.prog o.call.vers o.call.proc inline lists (client_memory_at k place))

pub reason_body : (k : ClientState) (place : ℕ) (o : OutstandingCall) (message : List ℕ) (body : Body) → VerdictReason (reply_by_body k place o message body)
reason_body k place o message (Msg lists at) = reason_lists k place o (Some (drop at message)) lists (answers_offer false (lists_of o.stag o.plan) lists)
reason_body k place o message (Nomsg lists) = reason_lists k place o None lists (answers_offer true (lists_of o.stag o.plan) lists)
reason_body k place o message (ErrVers version low high) = tt
reason_body k place o message (ErrChunk version) = tt

reason_call : (k : ClientState) (place : ℕ) (message : List ℕ) (body : Body) (o : Option OutstandingCall) → (call : OutstandingCall) → o ≡ Some call → VerdictReason (by_call k place message body o)
reason_call k place message body o call is = subst (λ (x : Option OutstandingCall). VerdictReason (by_call k place message body x)) (sym is) (reason_body k place call message body)

reason_header : (k : ClientState) (place : ℕ) (message : List ℕ) (h : Header) → header_of message ≡ Ok h → (call : OutstandingCall) → answered_call k (word_at 0 message) ≡ Some call → VerdictReason (reply_by_header k place message (header_of message))
reason_header k place message h is call found =
    subst (λ (r : Result Header HeaderFault). VerdictReason (reply_by_header k place message r)) (sym is)
    (reason_call k place message h.body (answered_call k h.xid) call (ap (λ (x : ℕ). answered_call k x) (header_xid message h is) ∙ found))

reason_verdict : (k : ClientState) (place : ℕ) (message : List ℕ) → IsRead message → (call : OutstandingCall) → answered_call k (word_at 0 message) ≡ Some call → VerdictReason (reply_verdict k place message)
unfolding reply_verdict
reason_verdict k place message read call found = reason_header k place message read.0 read.1 call found

-- a message that names an STag has one reason more
abbrev NamedReason : ReplyVerdict → Type 0
NamedReason (EndsLink reason) = IsVerdictReason reason
NamedReason (GivesOutcome xid outcome) = Unit {0}

plain_reason : (v : ReplyVerdict) → VerdictReason v → NamedReason v
plain_reason (EndsLink reason) h = inl h
plain_reason (GivesOutcome xid outcome) h = tt

reason_named : (k : ClientState) (place : ℕ) (named : Option ℕ) (message : List ℕ) → VerdictReason (reply_verdict k place message) → NamedReason (message_verdict k place named message)
unfolding message_verdict
reason_named k place named message h = by (invalidates_another k named message)
  where
    by : (b : Bool) → NamedReason (cond b (EndsLink REASON_INVALIDATED) (reply_verdict k place message))
    by true = inr refl
    by false = plain_reason (reply_verdict k place message) h

reply_end : (f : Frame) (v : ReplyVerdict) (end : End) → NamedReason v → end_of_verdict f v ≡ Some end → EndsForMessage end
reply_end f (EndsLink reason) end h e = (f.at, reason, cc, h)
reply_end f (GivesOutcome xid outcome) end h e = absurd cc

-- ---- An access

denied_end : (access : Option Access) (why : Denied) → IsDenied (denied_at access why)
denied_end None why = (0, 0, why, refl)
denied_end (Some access) why = (access.stag, access.to, why, refl)

-- a frame after the hello, and what its access lacks
pub record LacksAccess (k : ClientState) (f : Frame) (end : End) : Type 0 where
  pub behind : is_hello f ≡ false
  pub segment : Segment
  pub is_segment : plain_segment k f ≡ Ok segment
  pub why : Denied
  pub lacks : missing_access (region_grants f.end k.regions) f segment ≡ Some why
  pub denied : IsDenied end

lacks_end : (k : ClientState) (f : Frame) (segment : Segment) (lack : Option Denied) (end : End) → is_hello f ≡ false → plain_segment k f ≡ Ok segment → missing_access (region_grants f.end k.regions) f segment ≡ lack → end_of_fault f segment (first_fault (missing_fault lack ∷ [])) ≡ Some end → LacksAccess k f end
lacks_end k f segment None end behind is lacks e = absurd cc
lacks_end k f segment (Some why) end behind is lacks e = record {
  behind = behind;
  segment = segment;
  is_segment = is;
  why = why;
  lacks = lacks;
  denied = subst IsDenied (let same : denied_at (access_of segment) why ≡ end = cc in same) (denied_end (access_of segment) why);
}

or_message_some : (k : ClientState) (f : Frame) (o : Option End) (end : End) → message_end_in k f (client_segment k f) ≡ None → or_message_end k f o ≡ Some end → o ≡ Some end
or_message_some k f None end none e = absurd (let wrong : None ≡ Some end = sym none ∙ e in cc)
or_message_some k f (Some x) end none e = e

-- ---- The frame of a frame

pub record ClientStep (opened : LinkParameters) (k : ClientState) (s : ServerState) (u d all_up all_down : List FrameContent) (w : Transit) (place : ℕ) (p : FrameContent) (rest : List FrameContent) (f : Frame) : Type 0 where
  pub only : AgreesAgain opened → (end : End) → client_end k (FrameReceived f) ≡ Some end → EndsForMessage end ⊎ LacksAccess k f end
  pub kept : client_end k (FrameReceived f) ≡ None → Guards opened (client_state_after opened k (FrameReceived f)) s u (d ++ p ∷ []) (all_up ++ client_frames opened k (FrameReceived f)) all_down (down_one w (client_frames opened k (FrameReceived f)) rest) place

step_piece : (opened : LinkParameters) (k : ClientState) (s : ServerState) (u d all_up all_down : List FrameContent) (w : Transit) (place : ℕ) (p : FrameContent) (rest : List FrameContent) (f : Frame) → IsOpened opened → EndsAgree opened k s u d all_up all_down w → Guards opened k s u d all_up all_down w place → w.down ≡ p ∷ rest
    → IsWritable p → Carries k.invalidates k.received.sends k.received.requests f p → k.has_hello ≡ true → ClientStep opened k s u d all_up all_down w place p rest f
unfolding frame_end
step_piece opened k s u d all_up all_down w place HelloFrame rest f o l g first proper piece hello = absurd proper
step_piece opened k s u d all_up all_down w place (PartFrame named offset payload) rest f o l g first proper piece hello =
    let none = client_part k s w f named offset payload rest l.counts first piece in
    record {
      only = λ again end e. absurd (some_not end (sym e ∙ none));
      kept = λ stays. guards_part_down opened k s u d all_up all_down w place named offset payload rest f g first piece hello stays;
    }
step_piece opened k s u d all_up all_down w place (SendFrame message) rest f o l g first proper piece hello =
    let segment : Segment = last_segment k.received.sends message in
    let reads : plain_segment k f ≡ Ok segment = plain_is k f (SendFrame message) segment piece refl in
    let reply : IsReply (matched_down opened) opened.granted message.bytes = front_down opened k s u d all_up all_down w place (SendFrame message) rest l g first in
    let whole : List ℕ = begun_bytes k.received.begun ++ message.payload in
    let same : whole ≡ message.bytes = (at_front k.received.begun w.down w.queued_down (SendFrame message) rest first l.counts.whole_down).1 in
    let sent = calls_said opened k s u d all_up all_down w l in
    let answers = answers_one opened k s u d all_down w message (rest ++ w.queued_down) (sym l.parts_down ∙ ap (λ (ps : List FrameContent). d ++ (ps ++ w.queued_down)) first)
    (omega (arith, sent, sent_most k, l.sends_up, ap (total_of sends_in) l.parts_up, total_append sends_in u (w.up ++ w.queued_up)))
    l.outs.follow.1
    (omega (arith, l.counts.calls_up, l.counts.sends, l.counts.all_sends, left_waiting k.written k.send_ends)) g.answered in
    let named : Option ℕ = segment_names (client_segment k f) in
    let ends : client_end k (FrameReceived f) ≡ end_of_verdict f (message_verdict k f.end named whole) =
    client_send opened k s w f message rest l.counts first piece reply.least (omega (arith, reply.size, g.sizes.client_down hello)) ∙ message_end_is k f segment reads in
    record {
      only = λ again end e. inl (reply_end f (message_verdict k f.end named whole) end
          (reason_named k f.end named whole (reason_verdict k f.end whole (subst IsRead (sym same) reply.read) answers.0 (ap (λ (xs : List ℕ). answered_call k (word_at 0 xs)) same ∙ answers.1))) (sym ends ∙ e));
      kept = λ stays. guards_send_down opened k s u d all_up all_down w place message rest f o l g first piece hello stays;
    }
step_piece opened k s u d all_up all_down w place (RequestFrame sink at size stag to) rest f o l g first proper piece hello =
    let payload = request_payload sink at size stag to in
    let segment : Segment = Untagged true OPCODE_READ_REQUEST 0 QUEUE_READ_REQUEST (msn_word (k.received.requests + 1)) 0 payload in
    let grants = region_grants f.end k.regions in
    let reads : plain_segment k f ≡ Ok segment = plain_is k f (RequestFrame sink at size stag to) segment piece refl in
    let a = asked_of s w place sink at size stag to rest g.server.reads first g.server.sinks g.server.regions.stags g.within in
    let again = request_again sink at size stag to a.sink_word a.at_word a.size_word a.stag_word a.to_word in
    let fits : (read_request_in payload).sink_to + (read_request_in payload).size ≤ 2 ^ 64 = omega (arith, ap (λ (r : ReadRequest). r.sink_to + r.size) again, a.room) in
    let some : 0 < total_of requests_in w.down = omega (arith, ap (total_of requests_in) first) in
    let flaw = request_flaw (client_readiness k (missing_access grants f segment)) payload (len_request sink at size stag to) fits (requests opened k s w l.counts some) in
    let found : frame_end_by (client_readiness k) grants f (client_segment k f) ≡ end_of_fault f segment (first_fault (missing_fault (missing_access grants f segment) ∷ [])) =
    plain_end_by k f segment reads ∙ ap (λ (x : Option (SegmentReason Denied)). end_of_fault f segment x) flaw in
    let ends = client_by_lem k f (end_of_fault f segment (first_fault (missing_fault (missing_access grants f segment) ∷ []))) piece.behind found in
    let none : message_end_in k f (client_segment k f) ≡ None = message_end_is k f segment reads in
    record {
      only = λ again end e. inr (lacks_end k f segment (missing_access grants f segment) end piece.behind reads refl (or_message_some k f (end_of_fault f segment (first_fault (missing_fault (missing_access grants f segment) ∷ []))) end none (sym ends ∙ e)));
      kept = λ stays. guards_read_down opened k s u d all_up all_down w place sink at size stag to rest f l g first piece hello stays;
    }
step_piece opened k s u d all_up all_down w place (TaggedFrame last opcode stag to payload) rest f o l g first proper piece hello =
    let write : opcode ≡ OPCODE_WRITE = front_down opened k s u d all_up all_down w place (TaggedFrame last opcode stag to payload) rest l g first in
    let segment : Segment = Tagged last OPCODE_WRITE stag to payload in
    let grants = region_grants f.end k.regions in
    let reads : plain_segment k f ≡ Ok segment =
    plain_is k f (TaggedFrame last opcode stag to payload) (Tagged last opcode stag to payload) piece refl ∙ ap (λ (c : ℕ). Ok (Tagged last c stag to payload)) write in
    let found : frame_end_by (client_readiness k) grants f (client_segment k f) ≡ end_of_fault f segment (first_fault (missing_fault (missing_access grants f segment) ∷ [])) =
    plain_end_by k f segment reads ∙ ap (λ (x : Option (SegmentReason Denied)). end_of_fault f segment x) (write_flaw (client_readiness k (missing_access grants f segment)) last stag to payload) in
    let ends = client_by_lem k f (end_of_fault f segment (first_fault (missing_fault (missing_access grants f segment) ∷ []))) piece.behind found in
    let none : message_end_in k f (client_segment k f) ≡ None = message_end_is k f segment reads in
    record {
      only = λ again end e. inr (lacks_end k f segment (missing_access grants f segment) end piece.behind reads refl (or_message_some k f (end_of_fault f segment (first_fault (missing_fault (missing_access grants f segment) ∷ []))) end none (sym ends ∙ e)));
      kept = λ stays. guards_tagged_down opened k s u d all_up all_down w place last opcode stag to payload rest f g first piece hello stays;
    }

stream_one : (ps : List FrameContent) → IsOutput ps → total_of hellos_in ps ≤ 1
stream_one [] h = omega arith
stream_one (HelloFrame ∷ ps) h = omega (arith, none_more ps h)
  where
    none_more : (ps : List FrameContent) → AreWritable ps → total_of hellos_in ps ≡ 0
    none_more [] h = refl
    none_more (HelloFrame ∷ ps) h = absurd h.0
    none_more (PartFrame named offset payload ∷ ps) h = omega (arith, none_more ps h.1)
    none_more (SendFrame message ∷ ps) h = omega (arith, none_more ps h.1)
    none_more (RequestFrame sink at size stag to ∷ ps) h = omega (arith, none_more ps h.1)
    none_more (TaggedFrame last opcode stag to payload ∷ ps) h = omega (arith, none_more ps h.1)
stream_one (PartFrame named offset payload ∷ ps) h = absurd h
stream_one (SendFrame message ∷ ps) h = absurd h
stream_one (RequestFrame sink at size stag to ∷ ps) h = absurd h
stream_one (TaggedFrame last opcode stag to payload ∷ ps) h = absurd h

greeted_true : (b : Bool) → hello_bit b ≡ 1 → b ≡ true
greeted_true true e = refl
greeted_true false e = absurd (omega (arith, e))

-- a client that received a frame has the hello
pub has_hello_lem : (opened : LinkParameters) (k : ClientState) (s : ServerState) (u : List FrameContent) (q : FrameContent) (d all_up all_down : List FrameContent) (w : Transit) → EndsAgree opened k s u (q ∷ d) all_up all_down w → k.has_hello ≡ true
has_hello_lem opened k s u q d all_up all_down w l =
    let stream : IsOutput (q ∷ (d ++ (w.down ++ w.queued_down))) = subst IsOutput (sym l.parts_down) l.stream_down in
    let first : hellos_in q ≡ 1 = ap hellos_in (stream_first q (d ++ (w.down ++ w.queued_down)) stream) in
    greeted_true k.has_hello
    (omega (
      arith,
      first,
      l.counts.hello,
      l.hellos_down,
      stream_one all_up l.stream_up,
      ap (total_of hellos_in) l.parts_up,
      ap (total_of hellos_in) l.parts_down,
      total_append hellos_in u (w.up ++ w.queued_up),
      total_append hellos_in w.up w.queued_up,
      total_append hellos_in d (w.down ++ w.queued_down),
      total_append hellos_in w.down w.queued_down,
    ))

pub step_down : (opened : LinkParameters) (k : ClientState) (s : ServerState) (u d all_up all_down : List FrameContent) (w : Transit) (up : ℕ) (p : FrameContent) (rest : List FrameContent) (n r place : ℕ) → IsOpened opened → EndsAgree opened k s u d all_up all_down w → Guards opened k s u d all_up all_down w up → w.down ≡ p ∷ rest
    → n ≡ total_of sends_in d → r ≡ total_of requests_in d → IsPlace d place → ClientStep opened k s u d all_up all_down w up p rest (frame_of (frame_bytes opened Responder (written_segment n r p)) place)
step_down opened k s u [] all_up all_down w up p rest n r place o l g first sends requests at =
    let stream : IsOutput (p ∷ (rest ++ w.queued_down)) = subst IsOutput (sym l.parts_down ∙ ap (λ (ps : List FrameContent). ps ++ w.queued_down) first) l.stream_down in
    let hello : p ≡ HelloFrame = stream_first p (rest ++ w.queued_down) stream in
    let f = frame_of (frame_bytes opened Responder (written_segment n r p)) place in
    let is : is_hello f ≡ true = ap (λ (x : ℕ). eqb x 0) at in
    let own : f.bytes ≡ first_hello opened Responder = ap (λ (q : FrameContent). frame_bytes opened Responder (written_segment n r q)) hello in
    subst (λ (q : FrameContent). ClientStep opened k s u [] all_up all_down w up q rest f) (sym hello) (record {
      only = λ again end e. absurd (some_not end (sym e ∙ hello_stays opened k f (reached_opening opened k g.reached) is own again));
      kept = λ stays. guards_hello_down opened k s u [] all_up all_down w up rest f l g (first ∙ ap (λ (q : FrameContent). q ∷ rest) hello) is own stays;
    })
step_down opened k s u (q ∷ d) all_up all_down w up p rest n r place o l g first sends requests at =
    let stream : IsOutput (q ∷ d ++ p ∷ (rest ++ w.queued_down)) = subst IsOutput (sym l.parts_down ∙ ap (λ (ps : List FrameContent). q ∷ d ++ (ps ++ w.queued_down)) first) l.stream_down in
    let proper = stream_at_lem q d p (rest ++ w.queued_down) stream in
    let f = frame_of (frame_bytes opened Responder (written_segment n r p)) place in
    let n_is : n ≡ k.received.sends = sends ∙ sym l.sends_down in
    let r_is : r ≡ k.received.requests = requests ∙ sym l.requests_down in
    let greeted = has_hello_lem opened k s u q d all_up all_down w l in
    let sent : IsSent k.received.sends k.received.requests f p =
    subst (λ (x : ℕ). IsSent x k.received.requests f p) n_is (subst (λ (x : ℕ). IsSent n x f p) r_is (is_piece opened Responder n r place p (proper_one n r p proper) at)) in
    step_piece opened k s u (q ∷ d) all_up all_down w up p rest f o l g first proper
    (carries_taken k.invalidates k.received.sends k.received.requests f p (front_taken opened k s u (q ∷ d) all_up all_down w up p rest l g first greeted) sent) greeted
