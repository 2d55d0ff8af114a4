-- What a client makes of a message that it can read: an error message doesn't end it; an answer whose lists suit the offer of its call, and that
-- conveys a reply, ends it for that reply alone, and not if that has the call's xid.
use Rattle.std.proofs.Common.{◌≡◌, ℕ, Bool, true, false, cond, eqb, eq-eqb, List, drop, Option, None, Some, Result, Ok, Err, refl, sym, ap, subst, ◌∙◌, arith, inl, inr}
use Rattle.nr_header.specs.declared.fault.HeaderFault.{HeaderFault}
use Rattle.nr_header.specs.declared.fault.HeaderFault.TheVariants as faults
use Rattle.nr_header.specs.declared.header.ChunkLists.{ChunkLists}
use Rattle.nr_header.specs.declared.header.Body.{Body}
use Rattle.nr_header.specs.declared.header.Body.TheVariants.{Msg, Nomsg, ErrVers, ErrChunk}
use Rattle.nr_header.specs.declared.header.Header.{Header}
use Rattle.nr_header.specs.Reading.{header_of}
use Rattle.nr_rpc.specs.declared.head.ReplyHead.{ReplyHead}
use Rattle.nr_rpc.specs.Reading.{reply_of}
use Rattle.nr_reduce.specs.declared.call.Outcome.TheVariants as outcomes
use Rattle.nr_reduce.specs.KeepsReplyLimits.{xid_of_reply}
use Rattle.nr_reduce.specs.Plans.{lists_of}
use Rattle.nr_reduce.specs.Chunks.{answers_offer, reply_conveyed}
use Rattle.nr_reduce.specs.ChunkBytes.{lists_by, inline_by}
use Rattle.nr_reduce.specs.ClientState.{ClientState, OutstandingCall, client_memory_at, is_sent}
use Rattle.nr_reduce.specs.ClientMessages.{reply_verdict, reply_by_head, reply_by_payload, by_lists, reply_by_body, by_call, answered_call, reply_by_header, reply_xid}
use Rattle.nr_reduce.specs.ClientMessages.ReplyVerdict.{EndsLink, GivesOutcome}
use Rattle.nr_laws.specs.EndCauses.{IsReplyReason}
use Rattle.nr_laws.proofs.EndReasons.{IsMessageReason}
use Rattle.nr_laws.proofs.DoneCalls.{found_xid}
use Rattle.nr_laws.proofs.Replied.{IsErrorBody}
use Rattle.nr_laws.proofs.Replied.IsErrorBody.{OtherVersions, NoChunks}
use Rattle.nr_laws.proofs.OtherReasons.{apart}

-- what such a verdict goes by: a header, and the call that is answered
pub record JudgedBy (k : ClientState) (place : ℕ) (message : List ℕ) (reason : ℕ) : Type 0 where
  pub header : Header
  pub is_header : header_of message ≡ Ok header
  pub call : OutstandingCall
  pub is_call : answered_call k header.xid ≡ Some call
  pub own : call.xid ≡ header.xid
  pub by_its_body : reply_by_body k place call message header.body ≡ EndsLink reason

same_reason : (x y : ℕ) → EndsLink x ≡ EndsLink y → x ≡ y
same_reason x y e = cc

-- a reason that is none of a reply's
other_reason : (x reason : ℕ) → (IsMessageReason x → ⊥) → IsMessageReason reason → EndsLink x ≡ EndsLink reason → ⊥
other_reason x reason none is e = none (subst IsMessageReason (sym (same_reason x reason e)) is)

pub judged_by : (k : ClientState) (place : ℕ) (message : List ℕ) (reason : ℕ) → IsMessageReason reason → reply_verdict k place message ≡ EndsLink reason → JudgedBy k place message reason
unfolding reply_verdict
judged_by k place message reason bad e = by (header_of message) refl e
  where
    by_out : (h : Header) → header_of message ≡ Ok h → (o : Option OutstandingCall) → answered_call k h.xid ≡ o → by_call k place message h.body o ≡ EndsLink reason → JudgedBy k place message reason
    by_out h is None own e = absurd (other_reason 20 reason (apart 20 (inr (inl refl))) bad e)
    by_out h is (Some o) own e = record { header = h; is_header = is; call = o; is_call = own; own = found_xid (is_sent k) h.xid k.outstanding o own; by_its_body = e }

    by : (r : Result Header HeaderFault) → header_of message ≡ r → reply_by_header k place message r ≡ EndsLink reason → JudgedBy k place message reason
    by (Ok h) is e = by_out h is (answered_call k h.xid) refl e
    by (Err faults.Short) is e = absurd (other_reason 16 reason (apart 16 (inl (omega arith))) bad e)
    by (Err (faults.Version version)) is e = absurd (other_reason 23 reason (apart 23 (inr (inr (omega arith)))) bad e)
    by (Err (faults.Kind kind)) is e = absurd (other_reason 17 reason (apart 17 (inl (omega arith))) bad e)
    by (Err (faults.BadChunks at)) is e = absurd (other_reason 17 reason (apart 17 (inl (omega arith))) bad e)

-- ---- An error message

pub error_judged : (k : ClientState) (place : ℕ) (o : OutstandingCall) (m : List ℕ) (b : Body) (reason : ℕ) → IsErrorBody b → reply_by_body k place o m b ≡ EndsLink reason → ⊥
error_judged k place o m (ErrVers version low high) reason (OtherVersions v l u) e = cc
error_judged k place o m (ErrChunk version) reason (NoChunks v) e = cc
error_judged k place o m (Msg lists at) reason w e = elim w [ ]
error_judged k place o m (Nomsg lists) reason w e = elim w [ ]

-- ---- An answer

-- a reply of the call's xid gives an outcome
head_judged : (xid : ℕ) (p : List ℕ) (r : Result ReplyHead ℕ) (reason : ℕ) → xid_of_reply r ≡ Some xid → reply_by_head xid p r ≡ EndsLink reason → ⊥
head_judged xid p (Err at) reason is e = (let wrong : None ≡ Some xid = is in cc)
head_judged xid p (Ok head) reason is e =
    let same : reply_xid head ≡ xid = cc in
    let gives : reply_by_head xid p (Ok head) ≡ GivesOutcome xid (Some (outcomes.Reply p)) = ap (λ (b : Bool). cond b (GivesOutcome xid (Some (outcomes.Reply p))) (EndsLink 19)) (eq-eqb (reply_xid head) xid same) in
    let wrong : GivesOutcome xid (Some (outcomes.Reply p)) ≡ EndsLink reason = sym gives ∙ e in
    cc

pub own_reply_judged : (xid : ℕ) (p : List ℕ) (reason : ℕ) → xid_of_reply (reply_of p) ≡ Some xid → reply_by_payload xid (Some p) ≡ EndsLink reason → ⊥
own_reply_judged xid p reason is e = head_judged xid p (reply_of p) reason is e

-- a reply that is there ends it for its head or its xid
pub reply_judged : (xid : ℕ) (p : List ℕ) (reason : ℕ) → reply_by_payload xid (Some p) ≡ EndsLink reason → IsReplyReason reason
reply_judged xid p reason e = by (reply_of p) e
  where
    by : (r : Result ReplyHead ℕ) → reply_by_head xid p r ≡ EndsLink reason → IsReplyReason reason
    by (Err at) e = inl (sym (same_reason 18 reason e))
    by (Ok head) e = by_xid (eqb (reply_xid head) xid) e
      where
        by_xid : (b : Bool) → cond b (GivesOutcome xid (Some (outcomes.Reply p))) (EndsLink 19) ≡ EndsLink reason → IsReplyReason reason
        by_xid true e = absurd cc
        by_xid false e = inr (sym (same_reason 19 reason e))

lists_judged : (k : ClientState) (place : ℕ) (o : OutstandingCall) (inline : Option (List ℕ)) (lists : ChunkLists) (b : Bool) (p : List ℕ) (reason : ℕ) → b ≡ true
    → reply_conveyed o.call.prog o.call.vers o.call.proc inline lists (client_memory_at k place) ≡ Some p → by_lists k place o inline lists b ≡ EndsLink reason → reply_by_payload o.xid (Some p) ≡ EndsLink reason
lists_judged k place o inline lists false p reason suits conveys e = absurd (let wrong : false ≡ true = suits in cc)
lists_judged k place o inline lists true p reason suits conveys e = by o.is_revoked e
  where
    by : (b : Bool) → cond b (GivesOutcome o.xid None) (reply_by_payload o.xid (reply_conveyed o.call.prog o.call.vers o.call.proc inline lists (client_memory_at k place))) ≡ EndsLink reason → reply_by_payload o.xid (Some p) ≡ EndsLink reason
    by true e = absurd cc
    by false e = ap (λ (x : Option (List ℕ)). reply_by_payload o.xid x) (sym conveys) ∙ e

-- The lists of the message are `back`, its stream is there unless it is in the reply chunk, and they convey a reply: only the reply may end it.
pub answer_judged : (k : ClientState) (place : ℕ) (o : OutstandingCall) (m : List ℕ) (b : Body) (long : Bool) (stream : List ℕ) (back : ChunkLists) (p : List ℕ) (reason : ℕ)
    → lists_by b ≡ back → inline_by m b ≡ cond long None (Some stream) → answers_offer long (lists_of o.stag o.plan) back ≡ true
    → reply_conveyed o.call.prog o.call.vers o.call.proc (cond long None (Some stream)) back (client_memory_at k place) ≡ Some p
    → reply_by_body k place o m b ≡ EndsLink reason → reply_by_payload o.xid (Some p) ≡ EndsLink reason
answer_judged k place o m (ErrVers version low high) long stream back p reason lists inline suits conveys e = absurd cc
answer_judged k place o m (ErrChunk version) long stream back p reason lists inline suits conveys e = absurd cc
answer_judged k place o m (Msg ls at) true stream back p reason lists inline suits conveys e = absurd (let wrong : Some (drop at m) ≡ None = inline in cc)
answer_judged k place o m (Msg ls at) false stream back p reason lists inline suits conveys e =
    lists_judged k place o (Some (drop at m)) ls (answers_offer false (lists_of o.stag o.plan) ls) p reason (ap (λ (l : ChunkLists). answers_offer false (lists_of o.stag o.plan) l) lists ∙ suits)
    ((λ i. reply_conveyed o.call.prog o.call.vers o.call.proc (inline i) (lists i) (client_memory_at k place)) ∙ conveys) e
answer_judged k place o m (Nomsg ls) true stream back p reason lists inline suits conveys e =
    lists_judged k place o None ls (answers_offer true (lists_of o.stag o.plan) ls) p reason (ap (λ (l : ChunkLists). answers_offer true (lists_of o.stag o.plan) l) lists ∙ suits)
    (ap (λ (l : ChunkLists). reply_conveyed o.call.prog o.call.vers o.call.proc None l (client_memory_at k place)) lists ∙ conveys) e
answer_judged k place o m (Nomsg ls) false stream back p reason lists inline suits conveys e = absurd (let wrong : None ≡ Some stream = inline in cc)
