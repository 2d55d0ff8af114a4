-- Why a Send with Invalidate ends a client: for the STag that it names only if its call wasn't given it, and else as a plain Send does.
use Rattle.std.proofs.Common.{◌≡◌, ◌≢◌, ℕ, Bool, true, false, cond, not, eqb, List, drop, Option, None, Some, Result, Ok, Err, refl, sym, ap, ◌∙◌, arith, inr}
use Rattle.nr_header.specs.declared.fault.HeaderFault.{HeaderFault}
use Rattle.nr_header.specs.declared.fault.HeaderFault.TheVariants as faults
use Rattle.nr_header.specs.declared.header.ChunkLists.{ChunkLists}
use Rattle.nr_header.specs.declared.header.Body.{Body}
use Rattle.nr_header.specs.declared.header.Body.TheVariants.{Msg, Nomsg, ErrVers, ErrChunk}
use Rattle.nr_header.specs.declared.header.Header.{Header}
use Rattle.nr_header.specs.Reading.{header_of}
use Rattle.nr_rpc.specs.declared.head.ReplyHead.{ReplyHead}
use Rattle.nr_rpc.specs.Reading.{reply_of}
use Rattle.nr_wire.specs.declared.hello.Side.TheVariants.{Responder}
use Rattle.nr_wire.specs.Hello.{hello_of}
use Rattle.nr_wire.specs.Segment.{Segment}
use Rattle.nr_regions.specs.declared.denied.Denied.{Denied}
use Rattle.nr_link.specs.declared.end.End.{End as Stop}
use Rattle.nr_link.specs.declared.end.End.TheVariants as ends
use Rattle.nr_link.specs.Frames.{Frame, is_hello}
use Rattle.nr_link.specs.Reasons.{REASON_XID, REASON_INVALIDATED}
use Rattle.nr_link.specs.SegmentFaults.{Readiness, segment_reason}
use Rattle.nr_link.specs.Ending.{frame_end_by, hello_end, missing_access}
use Rattle.nr_reduce.specs.declared.call.Outcome.TheVariants as outcomes
use Rattle.nr_reduce.specs.declared.mark.LinkParameters.{LinkParameters}
use Rattle.nr_reduce.specs.Plans.{lists_of}
use Rattle.nr_reduce.specs.Chunks.{answers_offer, reply_conveyed}
use Rattle.nr_reduce.specs.Events.{RunEvent}
use Rattle.nr_reduce.specs.Events.RunEvent.{FrameReceived}
use Rattle.nr_reduce.specs.EndRules.{EndState, next_end_state, next_end_state_by, next_end_state_in, end_state_after}
use Rattle.nr_reduce.specs.OfferedRegions.{region_grants}
use Rattle.nr_reduce.specs.ClientState.{ClientState, OutstandingCall, client_memory_at}
use Rattle.nr_reduce.specs.ClientMessages.{ReplyVerdict, reply_xid, reply_by_head, reply_by_payload, by_lists, reply_by_body, by_call, answered_call, reply_by_header, reply_verdict, is_given, call_in, names_another, message_verdict}
use Rattle.nr_reduce.specs.ClientMessages.ReplyVerdict.{EndsLink, GivesOutcome}
use Rattle.nr_reduce.specs.Client.{client_segment, client_rules, client_end, client_readiness, initial_client, or_message_end, client_message_end, end_of_verdict, segment_message, segment_names, or_other_sizes}
use Rattle.nr_laws.specs.Invalidated.{NamesAnother, IsLetThrough, NamedStagsAreJudged}
use Rattle.nr_laws.proofs.JudgedMessages.{by_fault_lem, by_verdict_lem}
use Rattle.nr_laws.proofs.NamedReplies.{judged_as_plain}
use Rattle.nr_laws.proofs.OtherReasons.{fault_other}

-- ---- A message that names no STag ends the client for another reason

abbrev IsApart : ReplyVerdict → Type 0
IsApart (EndsLink reason) = reason ≢ REASON_INVALIDATED
IsApart (GivesOutcome xid outcome) = Unit {0}

head_apart : (xid : ℕ) (payload : List ℕ) (r : Result ReplyHead ℕ) → IsApart (reply_by_head xid payload r)
head_apart xid payload (Ok head) = by (eqb (reply_xid head) xid)
  where
    by : (b : Bool) → IsApart (cond b (GivesOutcome xid (Some (outcomes.Reply payload))) (EndsLink REASON_XID))
    by true = tt
    by false = λ e. omega (arith, e)
head_apart xid payload (Err at) = λ e. omega (arith, e)

payload_apart : (xid : ℕ) (o : Option (List ℕ)) → IsApart (reply_by_payload xid o)
payload_apart xid None = λ e. omega (arith, e)
payload_apart xid (Some payload) = head_apart xid payload (reply_of payload)

lists_apart : (k : ClientState) (place : ℕ) (o : OutstandingCall) (inline : Option (List ℕ)) (lists : ChunkLists) (b : Bool) → IsApart (by_lists k place o inline lists b)
lists_apart k place o inline lists false = λ e. omega (arith, e)
lists_apart k place o inline lists true = by o.is_revoked
  where
    conveyed : Option (List ℕ)
    conveyed = reply_conveyed o.call.prog o.call.vers o.call.proc inline lists (client_memory_at k place)

    by : (b : Bool) → IsApart (cond b (GivesOutcome o.xid None) (reply_by_payload o.xid conveyed))
    by true = tt
    by false = payload_apart o.xid conveyed

body_apart : (k : ClientState) (place : ℕ) (o : OutstandingCall) (message : List ℕ) (body : Body) → IsApart (reply_by_body k place o message body)
body_apart k place o message (Msg lists stream_at) = lists_apart k place o (Some (drop stream_at message)) lists (answers_offer false (lists_of o.stag o.plan) lists)
body_apart k place o message (Nomsg lists) = lists_apart k place o None lists (answers_offer true (lists_of o.stag o.plan) lists)
body_apart k place o message (ErrVers version low high) = tt
body_apart k place o message (ErrChunk version) = tt

call_apart : (k : ClientState) (place : ℕ) (message : List ℕ) (body : Body) (o : Option OutstandingCall) → IsApart (by_call k place message body o)
call_apart k place message body None = λ e. omega (arith, e)
call_apart k place message body (Some o) = body_apart k place o message body

header_apart : (k : ClientState) (place : ℕ) (message : List ℕ) (r : Result Header HeaderFault) → IsApart (reply_by_header k place message r)
header_apart k place message (Ok header) = call_apart k place message header.body (answered_call k header.xid)
header_apart k place message (Err faults.Short) = λ e. omega (arith, e)
header_apart k place message (Err (faults.Version version)) = λ e. omega (arith, e)
header_apart k place message (Err (faults.Kind kind)) = λ e. omega (arith, e)
header_apart k place message (Err (faults.BadChunks at)) = λ e. omega (arith, e)

plain_apart : (k : ClientState) (place : ℕ) (message : List ℕ) → IsApart (reply_verdict k place message)
unfolding reply_verdict
plain_apart k place message = header_apart k place message (header_of message)

-- ---- Whether it names another's STag

abbrev Names : ClientState → List ℕ → ℕ → Bool
Names k message stag = names_another (call_in k (header_of message)) stag

named_lem : (k : ClientState) (message : List ℕ) (stag : ℕ) → Names k message stag ≡ true → NamesAnother k message stag
named_lem k message stag e = by_header (header_of message) refl e
  where
    by_given : (h : Header) → header_of message ≡ Ok h → (o : OutstandingCall) → answered_call k h.xid ≡ Some o → (b : Bool) → is_given o stag ≡ b → not b ≡ true → NamesAnother k message stag
    by_given h is o found true given e = absurd cc
    by_given h is o found false given e = record { header = h; readable = is; call = o; answered = found; not_given = given }

    by_answered : (h : Header) → header_of message ≡ Ok h → (o : Option OutstandingCall) → answered_call k h.xid ≡ o → names_another o stag ≡ true → NamesAnother k message stag
    by_answered h is None found e = absurd cc
    by_answered h is (Some o) found e = by_given h is o found (is_given o stag) refl e

    by_header : (r : Result Header HeaderFault) → header_of message ≡ r → names_another (call_in k r) stag ≡ true → NamesAnother k message stag
    by_header (Ok h) is e = by_answered h is (answered_call k h.xid) refl e
    by_header (Err fault) is e = absurd cc

names_lem : (k : ClientState) (message : List ℕ) (stag : ℕ) → NamesAnother k message stag → Names k message stag ≡ true
names_lem k message stag h =
    ap (λ (r : Result Header HeaderFault). names_another (call_in k r) stag) h.readable
    ∙ ap (λ (o : Option OutstandingCall). names_another o stag) h.answered
    ∙ ap (λ (b : Bool). not b) h.not_given

-- the verdict of reason 29
verdict_names : (k : ClientState) (place : ℕ) (message : List ℕ) (stag : ℕ) → message_verdict k place (Some stag) message ≡ EndsLink REASON_INVALIDATED → Names k message stag ≡ true
unfolding message_verdict
verdict_names k place message stag e = by (Names k message stag) (reply_verdict k place message) (plain_apart k place message) e
  where
    by : (b : Bool) (v : ReplyVerdict) → IsApart v → cond b (EndsLink REASON_INVALIDATED) v ≡ EndsLink REASON_INVALIDATED → b ≡ true
    by true v h e = refl
    by false (EndsLink reason) h e = absurd (h (let same : reason ≡ REASON_INVALIDATED = cc in same))
    by false (GivesOutcome xid outcome) h e = absurd cc

names_verdict : (k : ClientState) (place : ℕ) (message : List ℕ) (stag : ℕ) → Names k message stag ≡ true → message_verdict k place (Some stag) message ≡ EndsLink REASON_INVALIDATED
unfolding message_verdict
names_verdict k place message stag e = ap (λ (b : Bool). cond b (EndsLink REASON_INVALIDATED) (reply_verdict k place message)) e

-- that of a message that names none
plain_verdict : (k : ClientState) (place : ℕ) (message : List ℕ) → message_verdict k place None message ≡ reply_verdict k place message
plain_verdict k place message = judged_as_plain k place None message refl

own_verdict : (k : ClientState) (place : ℕ) (message : List ℕ) (stag : ℕ) → (NamesAnother k message stag → ⊥) → message_verdict k place (Some stag) message ≡ message_verdict k place None message
own_verdict k place message stag own = by (Names k message stag) refl
  where
    by : (b : Bool) → Names k message stag ≡ b → message_verdict k place (Some stag) message ≡ message_verdict k place None message
    by true is = absurd (own (named_lem k message stag is))
    by false is = judged_as_plain k place (Some stag) message is ∙ sym (plain_verdict k place message)

-- ---- The end of the client

same_place : (a b : ℕ) → ◌≡◌ {A = Option Stop} (Some (ends.Bad a REASON_INVALIDATED)) (Some (ends.Bad b REASON_INVALIDATED)) → b ≡ a
same_place a b e = cc

ended_by : (opened : LinkParameters) (k : ClientState) (event : RunEvent) (o : Option Stop) → (next_end_state_by (client_rules opened) k event o).ended ≡ o
ended_by opened k event None = refl
ended_by opened k event (Some end) = refl

-- why a segment ends the client, by its link and by the message that it completes
segment_end : (k : ClientState) (f : Frame) (segment : Segment) → is_hello f ≡ false → client_segment k f ≡ Ok segment
    → client_end k (FrameReceived f) ≡ or_message_end k f (frame_end_by (client_readiness k) (region_grants f.end k.regions) f (Ok segment))
unfolding client_end
segment_end k f segment behind reads =
    λ i. cond (behind i) (or_other_sizes k f (hello_end (hello_of Responder f.bytes))) (or_message_end k f (frame_end_by (client_readiness k) (region_grants f.end k.regions) f (reads i)))

message_end : (k : ClientState) (f : Frame) (segment : Segment) (message : List ℕ) (named : Option ℕ) → client_segment k f ≡ Ok segment → segment_message k (Ok segment) ≡ Some message → segment_names (Ok segment) ≡ named
    → or_message_end k f None ≡ client_message_end k f named (Some message)
message_end k f segment message named reads whole names =
    ap (λ (r : Result Segment ℕ). client_message_end k f (segment_names r) (segment_message k r)) reads ∙ (λ i. client_message_end k f (names i) (whole i))

pub named_stags_are_judged : NamedStagsAreJudged
named_stags_are_judged opened link run earlier later f segment message stag is live behind reads whole names = record {
  reason = λ at e. by_reason at (frame_end_by (client_readiness k) (region_grants f.end k.regions) f (Ok segment)) refl (sym ended ∙ e);
  another = λ free h. ended ∙ through free ∙ ap (λ (v : ReplyVerdict). end_of_verdict f v) (names_verdict k f.end message stag (names_lem k message stag h));
  own = λ free h. ended ∙ through free ∙ ap (λ (v : ReplyVerdict). end_of_verdict f v) (own_verdict k f.end message stag h);
}
  where
    before : EndState ClientState
    before = end_state_after (client_rules opened) (initial_client opened) earlier

    k : ClientState
    k = before.state

    after : EndState ClientState
    after = next_end_state (client_rules opened) before (FrameReceived f)

    ended : after.ended ≡ client_end k (FrameReceived f)
    ended = ap (λ (x : Option Stop). (next_end_state_in (client_rules opened) k (FrameReceived f) x).ended) live ∙ ended_by opened k (FrameReceived f) (client_end k (FrameReceived f))

    ready : Readiness Denied
    ready = client_readiness k (missing_access (region_grants f.end k.regions) f segment)

    through : IsLetThrough k f segment → client_end k (FrameReceived f) ≡ client_message_end k f (Some stag) (Some message)
    through free = segment_end k f segment behind reads ∙ ap (λ (o : Option Stop). or_message_end k f o) free ∙ message_end k f segment message (Some stag) reads whole names

    by_reason : (at : ℕ) (o : Option Stop) → frame_end_by (client_readiness k) (region_grants f.end k.regions) f (Ok segment) ≡ o → client_end k (FrameReceived f) ≡ Some (ends.Bad at REASON_INVALIDATED) → (at ≡ f.at) × NamesAnother k message stag
    by_reason at (Some end) free e =
        absurd (by_fault_lem f segment (segment_reason ready segment) (fault_other ready segment) at REASON_INVALIDATED (inr refl)
        (free ∙ sym (segment_end k f segment behind reads ∙ ap (λ (o : Option Stop). or_message_end k f o) free) ∙ e))
    by_reason at None free e =
        let judged : end_of_verdict f (message_verdict k f.end (Some stag) message) ≡ Some (ends.Bad at REASON_INVALIDATED) = sym (through free) ∙ e in
        let so : message_verdict k f.end (Some stag) message ≡ EndsLink REASON_INVALIDATED = by_verdict_lem f (message_verdict k f.end (Some stag) message) at REASON_INVALIDATED judged in
        (same_place f.at at (sym (ap (λ (v : ReplyVerdict). end_of_verdict f v) so) ∙ judged), named_lem k message stag (verdict_names k f.end message stag so))
