-- On a matched link what a client makes of a message ends it for a reply alone, and never if its calls are answered as the plain server answers:
-- a message names an STag of its own call, or none.
use Rattle.std.proofs.Common.{◌≡◌, ℕ, Bool, true, false, not, cond, List, ◌∷◌, Option, None, Some, Result, Ok, Err, refl, sym, ap, subst, ◌∙◌, arith, inl, inr, ◌⊎◌}
use Rattle.nr_xdr.specs.Fields.{word_at}
use Rattle.nr_header.specs.declared.fault.HeaderFault.{HeaderFault}
use Rattle.nr_header.specs.declared.fault.HeaderFault.TheVariants as faults
use Rattle.nr_header.specs.declared.header.ChunkLists.{ChunkLists}
use Rattle.nr_header.specs.declared.header.Header.{Header}
use Rattle.nr_header.specs.Reading.{header_of}
use Rattle.nr_link.specs.Reasons.{REASON_INVALIDATED}
use Rattle.nr_link.specs.ReceiveState.{stag_invalidated}
use Rattle.nr_wire.specs.declared.hello.Side.TheVariants.{Initiator, Responder}
use Rattle.nr_link.specs.declared.end.End.{End}
use Rattle.nr_link.specs.declared.end.End.TheVariants as ends
use Rattle.nr_outside.specs.declared.moment.Moment.{Moment}
use Rattle.nr_reduce.specs.declared.mark.Entry.{Entry}
use Rattle.nr_reduce.specs.declared.mark.Mark.{Mark}
use Rattle.nr_reduce.specs.declared.mark.LinkParameters.{LinkParameters}
use Rattle.nr_reduce.specs.Opening.{IsOpened}
use Rattle.nr_reduce.specs.KeepsReplyLimits.{KeepsReplyLimits}
use Rattle.nr_reduce.specs.Plans.{lists_of}
use Rattle.nr_reduce.specs.Events.{events}
use Rattle.nr_reduce.specs.Events.RunEvent.{FrameReceived}
use Rattle.nr_reduce.specs.ClientState.{ClientState, OutstandingCall, is_sent}
use Rattle.nr_reduce.specs.ClientMessages.{reply_verdict, reply_by_header, by_call, answered_call, is_given, call_in, names_another, invalidates_another, message_verdict}
use Rattle.nr_reduce.specs.ClientMessages.ReplyVerdict.{EndsLink}
use Rattle.nr_reduce.specs.Server.{named_stag, stag_named, offer_of}
use Rattle.nr_reduce.specs.ServerState.{credit_word}
use Rattle.nr_reduce.specs.Run.{end_of_side}
use Rattle.nr_reduce.specs.RunLaws.{server_by}
use Rattle.nr_laws.specs.EndCauses.{IsReplyReason, IsReplyEnd, IsDenied, ClientEndsForReplies}
use Rattle.nr_laws.specs.MatchedSoFar.{MatchedSoFar}
use Rattle.nr_laws.specs.PlainLinks.{server_with, HasPlainReplies}
use Rattle.nr_laws.specs.Typed.{IsTyped}
use Rattle.nr_laws.proofs.Outcomes.{client_by}
use Rattle.nr_laws.proofs.Replied.{error_kind, error_header}
use Rattle.nr_laws.proofs.ServerOutputs.IsError.{OfChunks}
use Rattle.nr_laws.proofs.ServerAlong.{Said, NamesBy}
use Rattle.nr_laws.proofs.ServerAlong.Said.{IsRefusal, IsAnswer, IsNoAnswer}
use Rattle.nr_laws.proofs.JudgedMessages.{EndsBy, EndsFor, ends_by, ends_for}
use Rattle.nr_laws.proofs.JudgedReplies.{JudgedBy, judged_by, error_judged, reply_judged}
use Rattle.nr_laws.proofs.JudgedAnswers.{OfferedTo, offered_to, answer_judges, answer_ends_none}
use Rattle.nr_laws.proofs.EndReasons.{IsMessageReason, IsVerdictReason, EndsForMessage}
use Rattle.nr_laws.proofs.OtherReasons.{apart}
use Rattle.nr_laws.proofs.ClientStep.{VerdictReason, reason_body}
use Rattle.nr_laws.proofs.DoneCalls.{found_xid}
use Rattle.nr_laws.proofs.GivenStags.{call_given}
use Rattle.nr_laws.proofs.FirstEnds.{first_client_end}
use Rattle.nr_laws.proofs.LawsSoFar.{laws_so_far_lem}

-- an error message ends no client
error_ends_none : (k : ClientState) (place : ℕ) (message : List ℕ) (reason : ℕ) → JudgedBy k place message reason → word_at 12 message ≡ 4 → ⊥
error_ends_none k place message reason j kind = error_judged k place j.call message j.header.body reason (error_header message j.header kind j.is_header) j.by_its_body

-- What a client makes of a message ends it for a reply alone, whatever is replied: error messages don't end it, the lists of an answer are
-- those that its call offered, and they convey the reply.
pub message_ends_for_reply : (opened : LinkParameters) (link : ℕ) (run : List Mark) → IsOpened opened → IsTyped run → MatchedSoFar opened link run → (at reason : ℕ) → IsMessageReason reason → end_of_side opened link Initiator run ≡ Some (ends.Bad at reason) → IsReplyReason reason
unfolding end_of_side
message_ends_for_reply opened link run opens typed far at reason bad e = by d.said
  where
    d : EndsFor opened link run reason
    d = ends_for opened link run at reason typed far bad e

    k : ClientState
    k = (client_by opened d.earlier).state

    j : JudgedBy k d.frame.end d.message reason
    j = judged_by k d.frame.end d.message reason bad d.judged

    by : Said opened (events link Responder run) d.before d.message → IsReplyReason reason
    by (IsRefusal s) = absurd (error_ends_none k d.frame.end d.message reason j (error_kind d.message s.kind))
    by (IsNoAnswer s) = absurd (error_ends_none k d.frame.end d.message reason j (error_kind d.message (OfChunks s.call.xid (credit_word (server_by opened s.earlier)) s.message)))
    by (IsAnswer s) = reply_judged j.call.xid s.call.reply reason (answer_judges opened link run reason opens typed far d j s).by_reply

-- On a matched link what a client makes of a message never ends it, if its calls are answered as a plain server answers: the reply that an answer
-- conveys has an RPC reply head of the call's xid.
pub client_reads_replies : (reply_to : List Entry → Moment → List ℕ → Option (List ℕ)) (adds : Moment → List ℕ → List ℕ → List Entry) (opened : LinkParameters) (link : ℕ) (run : List Mark) → IsOpened opened → IsTyped run → MatchedSoFar opened link run
    → HasPlainReplies (server_with reply_to adds) link run → KeepsReplyLimits (server_with reply_to adds) → (at reason : ℕ) → IsReplyReason reason → end_of_side opened link Initiator run ≡ Some (ends.Bad at reason) → ⊥
unfolding end_of_side
client_reads_replies reply_to adds opened link run opens typed far plain_replies plain at reason own e = by d.said
  where
    d : EndsFor opened link run reason
    d = ends_for opened link run at reason typed far (inr own) e

    k : ClientState
    k = (client_by opened d.earlier).state

    j : JudgedBy k d.frame.end d.message reason
    j = judged_by k d.frame.end d.message reason (inr own) d.judged

    by : Said opened (events link Responder run) d.before d.message → ⊥
    by (IsRefusal s) = error_ends_none k d.frame.end d.message reason j (error_kind d.message s.kind)
    by (IsNoAnswer s) = error_ends_none k d.frame.end d.message reason j (error_kind d.message (OfChunks s.call.xid (credit_word (server_by opened s.earlier)) s.message))
    by (IsAnswer s) = answer_ends_none reply_to adds opened link run reason opens typed far plain_replies plain d j s

-- ---- The STag that a message names

same_reason : (x y : ℕ) → EndsLink x ≡ EndsLink y → x ≡ y
same_reason x y e = cc

-- no reply ends a client for the STag that its message names
unnamed : (k : ClientState) (place : ℕ) (message : List ℕ) → reply_verdict k place message ≡ EndsLink REASON_INVALIDATED → ⊥
unfolding reply_verdict
unnamed k place message e = by (header_of message) e
  where
    by_out : (h : Header) (o : Option OutstandingCall) → by_call k place message h.body o ≡ EndsLink REASON_INVALIDATED → ⊥
    by_out h None e = (let s = same_reason 20 REASON_INVALIDATED e in omega (arith, s))
    by_out h (Some o) e = apart REASON_INVALIDATED (inr (inr (omega arith))) (subst VerdictReason e (reason_body k place o message h.body))

    by : (r : Result Header HeaderFault) → reply_by_header k place message r ≡ EndsLink REASON_INVALIDATED → ⊥
    by (Ok h) e = by_out h (answered_call k h.xid) e
    by (Err faults.Short) e = (let s = same_reason 16 REASON_INVALIDATED e in omega (arith, s))
    by (Err (faults.Version version)) e = (let s = same_reason 23 REASON_INVALIDATED e in omega (arith, s))
    by (Err (faults.Kind kind)) e = (let s = same_reason 17 REASON_INVALIDATED e in omega (arith, s))
    by (Err (faults.BadChunks at)) e = (let s = same_reason 17 REASON_INVALIDATED e in omega (arith, s))

-- if STags are named, it is that of the offer
named_of : (b : Bool) (offer : ChunkLists) (stag : ℕ) → stag_named b offer ≡ Some stag → named_stag offer ≡ Some stag
named_of true offer stag e = e
named_of false offer stag e = absurd cc

-- An STag that a message names is one that its call was given: it is named for the offer of the call that was executed.
never_invalidated : (opened : LinkParameters) (link : ℕ) (run : List Mark) → IsTyped run → MatchedSoFar opened link run → (at : ℕ) → end_of_side opened link Initiator run ≡ Some (ends.Bad at REASON_INVALIDATED) → ⊥
unfolding end_of_side message_verdict
never_invalidated opened link run typed far at e = by_test (invalidates_another k (stag_invalidated d.segment) d.message) refl d.judged
  where
    d : EndsBy opened link run REASON_INVALIDATED
    d = ends_by opened link run at REASON_INVALIDATED typed far (inr refl) e

    k : ClientState
    k = (client_by opened d.earlier).state

    by_said : (h : Header) → header_of d.message ≡ Ok h → (o : OutstandingCall) → answered_call k h.xid ≡ Some o → (stag : ℕ) → stag_invalidated d.segment ≡ Some stag → is_given o stag ≡ false → (y : Said opened (events link Responder run) d.before d.message) → NamesBy opened (events link Responder run) d.before d.message d.segment y → ⊥
    by_said h is o own stag names other (IsRefusal y) n = (let wrong : Some stag ≡ None = sym names ∙ n in cc)
    by_said h is o own stag names other (IsNoAnswer y) n = (let wrong : Some stag ≡ None = sym names ∙ n in cc)
    by_said h is o own stag names other (IsAnswer y) n =
        let g : OfferedTo opened link run d.earlier o y.earlier y.call =
        offered_to opened link run typed far d.earlier (FrameReceived d.frame ∷ d.later) d.is d.message h is o own (found_xid (is_sent k) h.xid k.outstanding o own) d.before y in
        let offer : offer_of (server_by opened y.earlier) y.call.xid ≡ lists_of o.stag o.plan = g.offer ∙ (λ i. lists_of (sym g.submitted.submit.own_stag i) (sym g.submitted.submit.own_plan i)) in
        let named : named_stag (offer_of (server_by opened y.earlier) y.call.xid) ≡ Some stag = named_of (server_by opened y.earlier).invalidates (offer_of (server_by opened y.earlier) y.call.xid) stag (sym n ∙ names) in
        let given : is_given o stag ≡ true = call_given o stag (ap named_stag (sym offer) ∙ named) in
        let wrong : true ≡ false = sym given ∙ other in
        cc

    not_true : (b : Bool) → not b ≡ true → b ≡ false
    not_true true e = absurd cc
    not_true false e = refl

    by_out : (h : Header) → header_of d.message ≡ Ok h → (o : Option OutstandingCall) → answered_call k h.xid ≡ o → (stag : ℕ) → stag_invalidated d.segment ≡ Some stag → names_another o stag ≡ true → ⊥
    by_out h is None own stag names other = cc
    by_out h is (Some o) own stag names other = by_said h is o own stag names (not_true (is_given o stag) other) d.said.said d.said.names

    by_header : (r : Result Header HeaderFault) → header_of d.message ≡ r → (stag : ℕ) → stag_invalidated d.segment ≡ Some stag → names_another (call_in k r) stag ≡ true → ⊥
    by_header (Ok h) is stag names other = by_out h is (answered_call k h.xid) refl stag names other
    by_header (Err fault) is stag names other = cc

    by_stag : (o : Option ℕ) → stag_invalidated d.segment ≡ o → invalidates_another k o d.message ≡ true → ⊥
    by_stag None names other = cc
    by_stag (Some stag) names other = by_header (header_of d.message) refl stag names other

    by_test : (b : Bool) → invalidates_another k (stag_invalidated d.segment) d.message ≡ b → cond b (EndsLink REASON_INVALIDATED) (reply_verdict k d.frame.end d.message) ≡ EndsLink REASON_INVALIDATED → ⊥
    by_test true is judged = by_stag (stag_invalidated d.segment) refl is
    by_test false is judged = unnamed k d.frame.end d.message judged

-- On a matched link whose server hasn't ended the client ends for what a reply is, or for a denied access.
pub client_ends_for_replies : ClientEndsForReplies
client_ends_for_replies opened link run opens again typed laws down end up = by (first_client_end opened link run opens again typed laws down end up)
  where
    far : MatchedSoFar opened link run
    far = laws_so_far_lem opened link run laws.client laws.server laws.matched

    by_reason : (at reason : ℕ) → end ≡ ends.Bad at reason → IsVerdictReason reason → IsReplyEnd end ⊎ IsDenied end
    by_reason at reason is (inl own) = inl (at, reason, is, message_ends_for_reply opened link run opens typed far at reason own (up ∙ ap (λ (x : End). Some x) is))
    by_reason at reason is (inr named) = absurd (never_invalidated opened link run typed far at (up ∙ ap (λ (x : End). Some x) is ∙ ap (λ (n : ℕ). Some (ends.Bad at n)) named))

    by : EndsForMessage end ⊎ IsDenied end → IsReplyEnd end ⊎ IsDenied end
    by (inl (at, reason, is, own)) = by_reason at reason is own
    by (inr denied) = inr denied
