-- On a matched link what a server makes of a call never ends it.
use Rattle.std.proofs.Common.{◌≡◌, ℕ, true, List, [], ◌∷◌, length, Option, None, Some, Result, Ok, Err, is_ok, inl, inr, refl, sym, ap, subst, ◌∙◌, arith}
use Rattle.nr_regions.specs.declared.denied.Denied.{Denied}
use Rattle.nr_wire.specs.declared.hello.Side.TheVariants.{Initiator, Responder}
use Rattle.nr_wire.specs.Segment.{Segment}
use Rattle.nr_wire.specs.Segment.Segment.{Tagged, Untagged}
use Rattle.nr_link.specs.declared.end.End.{End}
use Rattle.nr_link.specs.Frames.{Frame}
use Rattle.nr_link.specs.Reasons.{REASON_RESPONSE}
use Rattle.nr_link.specs.Ending.{frame_segment, frame_end, frame_end_by, missing_access}
use Rattle.nr_link.specs.SegmentFaults.{SegmentReason, segment_reason, missing_fault, reason_if, is_unexpected}
use Rattle.nr_reduce.specs.declared.call.Submission.TheVariants as submissions
use Rattle.nr_reduce.specs.declared.mark.Mark.{Mark}
use Rattle.nr_reduce.specs.declared.mark.Mark.TheVariants as marks
use Rattle.nr_reduce.specs.declared.mark.LinkParameters.{LinkParameters}
use Rattle.nr_reduce.specs.Opening.{IsOpened}
use Rattle.nr_reduce.specs.OfferedRegions.{region_grants}
use Rattle.nr_reduce.specs.ClientState.{call_payload}
use Rattle.nr_reduce.specs.ServerState.{ServerState, PendingCall}
use Rattle.nr_reduce.specs.ServerMessages.{pending_payload, by_payload, by_head}
use Rattle.nr_rpc.specs.declared.head.CallHead.{CallHead}
use Rattle.nr_rpc.specs.Reading.{call_of}
use Rattle.nr_link.specs.declared.end.End.TheVariants as ends
use Rattle.nr_reduce.specs.ServerMessages.{CallVerdict}
use Rattle.nr_reduce.specs.ServerMessages.CallVerdict.{Refuses, IsReady}
use Rattle.nr_reduce.specs.ServerFrames.{with_access}
use Rattle.nr_reduce.specs.Server.{server_readiness}
use Rattle.nr_reduce.specs.Run.{end_of_side}
use Rattle.nr_reduce.specs.RunLaws.{server_by, ends_response}
use Rattle.nr_laws.specs.EndCauses.{KeepLaws, ServerEndsForCalls, HasNoOldCall}
use Rattle.nr_link.specs.Reasons.{REASON_HEAD, REASON_XID}
use Rattle.nr_laws.specs.MatchedSoFar.{MatchedSoFar}
use Rattle.nr_laws.specs.Payloads.{form_conveyed}
use Rattle.nr_laws.specs.RefusedMessages.{IsRefusedMessage}
use Rattle.nr_laws.specs.Stays.{HasCallHead, ConveyedMark, AreConveyedOrRefused}
use Rattle.nr_laws.specs.Typed.{IsTyped}
use Rattle.nr_laws.proofs.CallEnds.{RefusedAt, refused_at_lem}
use Rattle.nr_laws.proofs.CallRefusals.{RefusedBy}
use Rattle.nr_laws.proofs.CallRefusals.RefusedBy.{AtMessage, AtRead}
use Rattle.nr_laws.proofs.EndReasons.{IsCallReason, EndsForCall}
use Rattle.nr_laws.proofs.FirstEnds.{first_server_end}
use Rattle.nr_laws.proofs.JudgedCalls.{conveyed_ready, conveyed_head_there}
use Rattle.nr_laws.proofs.LawsSoFar.{laws_so_far_lem}
use Rattle.nr_laws.proofs.OnceByXid.{at_mark}
use Rattle.nr_laws.proofs.CallsAtFrames.{ConveyedAt, submit_typed, submit_xid, conveyed_by_message, conveyed_by_read}
use Rattle.nr_reduce.proofs.Touches.{AreNone, all_none, no_flaw, no_lack}

-- ---- A frame that breaks no rule is allowed its access

response_allowed : (opened : LinkParameters) (k : ServerState) (f : Frame) (s : Segment) → frame_segment f ≡ Ok s → ends_response s ≡ true → frame_end (server_readiness opened k) (region_grants f.end k.regions) f ≡ None → missing_access (region_grants f.end k.regions) f s ≡ None
unfolding frame_end segment_reason
response_allowed opened k f (Tagged last opcode stag to payload) is ends fits =
    let s : Segment = Tagged last opcode stag to payload in
    let lack : Option Denied = missing_access (region_grants f.end k.regions) f s in
    let flaws : List (Option (SegmentReason Denied)) = missing_fault lack ∷ reason_if REASON_RESPONSE (is_unexpected (server_readiness opened k lack) opcode last stag to (length payload)) ∷ [] in
    let none : AreNone flaws = all_none flaws (no_flaw f s (segment_reason (server_readiness opened k lack) s) (ap (λ (r : Result Segment ℕ). frame_end_by (server_readiness opened k) (region_grants f.end k.regions) f r) (sym is) ∙ fits)) in
    no_lack lack none.0
response_allowed opened k f (Untagged last opcode w queue msn offset payload) is ends fits = absurd cc

-- ---- At the frame

-- what a call conveys that was accepted makes it ready
conveyed_refuses : (opened : LinkParameters) (link : ℕ) (run : List Mark) → IsTyped run → AreConveyedOrRefused opened link run → (c : PendingCall) (reason : ℕ) (o : Option (List ℕ)) → ConveyedAt opened link run c o → by_payload c o ≡ Refuses reason → ⊥
conveyed_refuses opened link run typed conveyed c reason o x e =
    let w = x.submitted in
    let small = w.accepted.xids in
    let given = at_mark (ConveyedMark opened link) run w.earlier (marks.Submit link w.call w.form (submissions.Accepted w.xid)) w.later w.is conveyed refl w.accepted.plan w.accepted.planned in
    let head : HasCallHead (form_conveyed w.form (call_payload w.xid w.call)) =
    conveyed_head_there w.xid w.call w.form _ (omega (arith, small)) (submit_typed opened link run typed w).2 w.accepted.writable given (λ refused. x.accepted (subst IsRefusedMessage (sym w.message_is) refused)) in
    conveyed_ready w.xid w.call w.form c reason (omega (arith, small)) (submit_typed opened link run typed w).2 w.accepted.writable (submit_typed opened link run typed w).0 (x.xid ∙ submit_xid opened link run typed w) o x.conveyed (subst HasCallHead (sym x.conveyed) head) e

not_refused_lem : (opened : LinkParameters) (link : ℕ) (run : List Mark) (reason : ℕ) → IsTyped run → MatchedSoFar opened link run → ((c : PendingCall) (o : Option (List ℕ)) → ConveyedAt opened link run c o → by_payload c o ≡ Refuses reason → ⊥) → RefusedAt opened link run reason → ⊥
not_refused_lem opened link run reason typed far refuses r = by r.cause
  where
    k : ServerState
    k = server_by opened r.earlier

    by : RefusedBy k r.frame r.segment reason → ⊥
    by (AtMessage message c whole v read e) =
        refuses c (pending_payload k r.frame.end c)
        (conveyed_by_message opened link run typed far.asked far.served far.matched r.earlier r.frame r.later r.segment r.is r.behind r.is_segment r.live message c whole v read) e
    by (AtRead q rest c ends reads found read e) =
        refuses c (pending_payload (with_access k r.frame r.segment) r.frame.end c)
        (conveyed_by_read opened link run typed far.asked far.served far.matched r.earlier r.frame r.later r.segment r.is r.behind r.is_segment r.live (response_allowed opened k r.frame r.segment r.is_segment ends r.fits) q rest c ends reads found read) e

abbrev reason_in : CallVerdict → ℕ
reason_in (Refuses reason) = reason
reason_in (IsReady r) = 0

-- a payload with a head is refused for its xid alone
head_there : (c : PendingCall) (o : Option (List ℕ)) → by_payload c o ≡ Refuses REASON_XID → HasCallHead o
head_there c None e = (let n : REASON_HEAD ≡ REASON_XID = ap reason_in e in omega (arith, n))
head_there c (Some q) e = by (call_of q) e
  where
    by : (r : Result CallHead ℕ) → by_head c q r ≡ Refuses REASON_XID → is_ok r ≡ true
    by (Ok head) e = refl
    by (Err at) e = absurd (let n : REASON_HEAD ≡ REASON_XID = ap reason_in e in omega (arith, n))

-- what a call conveys never has another xid
own_xid_lem : (opened : LinkParameters) (link : ℕ) (run : List Mark) → IsTyped run → (c : PendingCall) (o : Option (List ℕ)) → ConveyedAt opened link run c o → by_payload c o ≡ Refuses REASON_XID → ⊥
own_xid_lem opened link run typed c o x e =
    let w = x.submitted in
    let small = w.accepted.xids in
    conveyed_ready w.xid w.call w.form c REASON_XID (omega (arith, small)) (submit_typed opened link run typed w).2 w.accepted.writable (submit_typed opened link run typed w).0 (x.xid ∙ submit_xid opened link run typed w) o x.conveyed (head_there c o e) e

-- so a server that ends first ends for a payload without a call head
pub server_ends_for_calls : ServerEndsForCalls
unfolding end_of_side
server_ends_for_calls opened link run opens typed laws fresh up end down =
    let c : EndsForCall end = first_server_end opened link run opens typed laws fresh up end down in
    (c.0, c.2 ∙ ap (λ (n : ℕ). ends.Bad c.0 n) (by c.0 c.1 c.3 (down ∙ ap (λ (x : End). Some x) c.2)))
  where
    by : (at reason : ℕ) → IsCallReason reason → end_of_side opened link Responder run ≡ Some (ends.Bad at reason) → reason ≡ REASON_HEAD
    by at reason (inl is) e = is
    by at reason (inr is) e =
        let same : Some (ends.Bad at reason) ≡ Some (ends.Bad at REASON_XID) = ap (λ (n : ℕ). Some (ends.Bad at n)) is in
        absurd (not_refused_lem opened link run REASON_XID typed (laws_so_far_lem opened link run laws.client laws.server laws.matched) (own_xid_lem opened link run typed) (refused_at_lem opened link run typed (laws_so_far_lem opened link run laws.client laws.server laws.matched) at REASON_XID (inr refl) (e ∙ same)))

-- On a matched link whose client hasn't ended, nor has the server.
pub server_stays_lem : (opened : LinkParameters) (link : ℕ) (run : List Mark) → IsOpened opened → IsTyped run → KeepLaws opened link run → HasNoOldCall link run → AreConveyedOrRefused opened link run → end_of_side opened link Initiator run ≡ None
    → (end : End) → end_of_side opened link Responder run ≡ Some end → ⊥
unfolding end_of_side
server_stays_lem opened link run opens typed laws fresh conveyed up end down =
    let c : EndsForCall end = first_server_end opened link run opens typed laws fresh up end down in
    let far = laws_so_far_lem opened link run laws.client laws.server laws.matched in
    not_refused_lem opened link run c.1 typed far (λ p o x e. conveyed_refuses opened link run typed conveyed p c.1 o x e) (refused_at_lem opened link run typed far c.0 c.1 c.3 (down ∙ ap (λ (x : End). Some x) c.2))
