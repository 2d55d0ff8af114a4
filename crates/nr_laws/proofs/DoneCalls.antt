-- On a matched link the call of an outcome that was handed over was executed before, or never is.
use Rattle.std.proofs.Common.{◌≡◌, ℕ, ◌<◌, Bool, true, false, cond, ◌&&◌, eqb, List, [], ◌∷◌, ◌++◌, Option, None, Some, Result, Ok, Err, refl, sym, ap, ◌∙◌, arith, eqb-true}
use Rattle.std.specs.List.{find}
use Rattle.nr_xdr.specs.Fields.{word_at}
use Rattle.nr_header.specs.declared.header.Body.{Body}
use Rattle.nr_header.specs.declared.header.Body.TheVariants.{Msg, Nomsg, ErrVers, ErrChunk}
use Rattle.nr_header.specs.declared.header.Header.{Header}
use Rattle.nr_header.specs.declared.header.ChunkLists.{ChunkLists}
use Rattle.nr_header.specs.declared.fault.HeaderFault.{HeaderFault}
use Rattle.nr_header.specs.declared.fault.HeaderFault.TheVariants as faults
use Rattle.nr_header.specs.Reading.{header_of}
use Rattle.nr_rpc.specs.declared.head.ReplyHead.{ReplyHead}
use Rattle.nr_rpc.specs.Reading.{reply_of}
use Rattle.nr_wire.specs.declared.hello.Side.TheVariants.{Responder}
use Rattle.nr_reduce.specs.declared.call.Outcome.{Outcome}
use Rattle.nr_reduce.specs.declared.mark.Mark.{Mark}
use Rattle.nr_reduce.specs.declared.mark.LinkParameters.{LinkParameters}
use Rattle.nr_reduce.specs.History.{ExecutedCall}
use Rattle.nr_reduce.specs.Events.{RunEvent, events}
use Rattle.nr_reduce.specs.Events.RunEvent.{CallExecuted}
use Rattle.nr_reduce.specs.ClientState.{ClientState, OutstandingCall, is_sent, client_memory_at}
use Rattle.nr_reduce.specs.ClientMessages.{reply_verdict, reply_by_header, by_call, reply_by_body, by_lists, reply_by_payload, reply_by_head, answered_call, reply_xid}
use Rattle.nr_reduce.specs.ClientMessages.ReplyVerdict.{EndsLink, GivesOutcome}
use Rattle.nr_reduce.specs.Plans.{lists_of}
use Rattle.nr_reduce.specs.Chunks.{answers_offer, reply_conveyed}
use Rattle.nr_laws.specs.MatchedSoFar.{MatchedSoFar}
use Rattle.nr_laws.specs.Typed.{IsTyped}
use Rattle.nr_laws.proofs.HeaderXid.{header_xid}
use Rattle.nr_laws.proofs.ExecuteMarks.{ExecuteMark, execute_mark_lem}
use Rattle.nr_laws.proofs.OnceByXid.{ExecutedAt, executed_at_lem}

-- ---- The xid of a verdict

pub found_xid : (sent : OutstandingCall → Bool) (xid : ℕ) (outs : List OutstandingCall) (o : OutstandingCall) → find (λ o. eqb o.xid xid && sent o) outs ≡ Some o → o.xid ≡ xid
found_xid sent xid [] o e = absurd cc
found_xid sent xid (x ∷ outs) o e = by (eqb x.xid xid) refl (sent x) e (λ more. found_xid sent xid outs o more)
  where
    by : (b : Bool) → eqb x.xid xid ≡ b → (w : Bool) → cond (b && w) (Some x) (find (λ o. eqb o.xid xid && sent o) outs) ≡ Some o → (find (λ o. eqb o.xid xid && sent o) outs ≡ Some o → o.xid ≡ xid) → o.xid ≡ xid
    by true is true e rest = (let same : x ≡ o = (let s : Some x ≡ Some o = e in cc) in ap (λ (q : OutstandingCall). q.xid) (sym same) ∙ eqb-true x.xid xid is)
    by true is false e rest = rest e
    by false is w e rest = rest e

gives_same : (x y : ℕ) (a b : Option Outcome) → GivesOutcome x a ≡ GivesOutcome y b → x ≡ y
gives_same x y a b e = cc

head_gives : (x y : ℕ) (payload : List ℕ) (r : Result ReplyHead ℕ) (b : Option Outcome) → reply_by_head x payload r ≡ GivesOutcome y b → x ≡ y
head_gives x y payload (Err at) b e = absurd cc
head_gives x y payload (Ok head) b e = by (eqb (reply_xid head) x) e
  where
    by : (c : Bool) → cond c (GivesOutcome x (Some (Rattle.nr_reduce.specs.declared.call.Outcome.TheVariants.Reply payload))) (EndsLink 19) ≡ GivesOutcome y b → x ≡ y
    by true e = gives_same x y _ b e
    by false e = absurd cc

payload_gives : (x y : ℕ) (o : Option (List ℕ)) (b : Option Outcome) → reply_by_payload x o ≡ GivesOutcome y b → x ≡ y
payload_gives x y None b e = absurd cc
payload_gives x y (Some payload) b e = head_gives x y payload (reply_of payload) b e

lists_gives : (k : ClientState) (place : ℕ) (o : OutstandingCall) (inline : Option (List ℕ)) (lists : ChunkLists) (suits : Bool) (y : ℕ) (b : Option Outcome) → by_lists k place o inline lists suits ≡ GivesOutcome y b → o.xid ≡ y
lists_gives k place o inline lists false y b e = absurd cc
lists_gives k place o inline lists true y b e = by o.is_revoked e
  where
    by : (c : Bool) → cond c (GivesOutcome o.xid None) (reply_by_payload o.xid (reply_conveyed o.call.prog o.call.vers o.call.proc inline lists (client_memory_at k place))) ≡ GivesOutcome y b → o.xid ≡ y
    by true e = gives_same o.xid y None b e
    by false e = payload_gives o.xid y (reply_conveyed o.call.prog o.call.vers o.call.proc inline lists (client_memory_at k place)) b e

body_gives : (k : ClientState) (place : ℕ) (o : OutstandingCall) (message : List ℕ) (body : Body) (y : ℕ) (b : Option Outcome) → reply_by_body k place o message body ≡ GivesOutcome y b → o.xid ≡ y
body_gives k place o message (Msg lists at) y b e = lists_gives k place o (Some (Rattle.std.proofs.Common.drop at message)) lists (answers_offer false (lists_of o.stag o.plan) lists) y b e
body_gives k place o message (Nomsg lists) y b e = lists_gives k place o None lists (answers_offer true (lists_of o.stag o.plan) lists) y b e
body_gives k place o message (ErrVers version low high) y b e = gives_same o.xid y _ b e
body_gives k place o message (ErrChunk version) y b e = gives_same o.xid y _ b e

-- what a verdict that gives an outcome goes by: a header, and the call that is answered
pub record GivesBy (k : ClientState) (place : ℕ) (message : List ℕ) (xid : ℕ) (outcome : Option Outcome) : Type 0 where
  pub header : Header
  pub is_header : header_of message ≡ Ok header
  pub own : header.xid ≡ xid
  pub call : OutstandingCall
  pub is_call : answered_call k header.xid ≡ Some call
  pub call_xid : call.xid ≡ xid
  pub by_its_body : reply_by_body k place call message header.body ≡ GivesOutcome xid outcome

pub gives_by : (k : ClientState) (place : ℕ) (message : List ℕ) (xid : ℕ) (outcome : Option Outcome) → reply_verdict k place message ≡ GivesOutcome xid outcome → GivesBy k place message xid outcome
unfolding reply_verdict
gives_by k place message xid outcome e = by (header_of message) refl e
  where
    by_out : (h : Header) → header_of message ≡ Ok h → (o : Option OutstandingCall) → answered_call k h.xid ≡ o → by_call k place message h.body o ≡ GivesOutcome xid outcome → GivesBy k place message xid outcome
    by_out h is None own e = absurd cc
    by_out h is (Some o) own e =
        let same = body_gives k place o message h.body xid outcome e in
        record { header = h; is_header = is; own = sym (found_xid (is_sent k) h.xid k.outstanding o own) ∙ same; call = o; is_call = own; call_xid = same; by_its_body = e }

    by : (r : Result Header HeaderFault) → header_of message ≡ r → reply_by_header k place message r ≡ GivesOutcome xid outcome → GivesBy k place message xid outcome
    by (Ok h) is e = by_out h is (answered_call k h.xid) refl e
    by (Err faults.Short) is e = absurd cc
    by (Err (faults.Version version)) is e = absurd cc
    by (Err (faults.Kind kind)) is e = absurd cc
    by (Err (faults.BadChunks at)) is e = absurd cc

pub verdict_xid : (k : ClientState) (place : ℕ) (message : List ℕ) (xid : ℕ) (outcome : Option Outcome) → reply_verdict k place message ≡ GivesOutcome xid outcome → xid ≡ word_at 0 message
verdict_xid k place message xid outcome e =
    let g = gives_by k place message xid outcome e in
    sym g.own ∙ header_xid message g.header g.is_header

-- ---- The Execute of an executed call that is answered

pub record AnsweredBy (opened : LinkParameters) (link : ℕ) (run : List Mark) (e : ExecutedCall) (es : List RunEvent) : Type 0 where
  pub mark : ExecuteMark link run es e
  pub executed : ExecutedAt opened link mark.earlier e.xid e.payload
  pub fits : e.xid < 4294967296

pub answered_by_lem : (opened : LinkParameters) (link : ℕ) (run : List Mark) → IsTyped run → MatchedSoFar opened link run → (es : List RunEvent) (e : ExecutedCall) (more : List RunEvent) → events link Responder run ≡ es ++ CallExecuted e ∷ more → AnsweredBy opened link run e es
answered_by_lem opened link run typed far es e more is =
    let m = execute_mark_lem link run es e more is in
    let x = executed_at_lem opened link run m.earlier m.later e.xid e.moment e.payload e.place e.reply typed far m.is in
    let a = x.submit.submitted.accepted.xids in
    let b = x.submit.own_xid in
    record { mark = m; executed = x; fits = omega (arith, a, b) }
