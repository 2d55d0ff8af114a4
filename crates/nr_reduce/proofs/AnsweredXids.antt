-- The xid of an outcome is that of an outstanding call, and the first word of the message that brought it.
use Rattle.std.proofs.Common.{◌≡◌, ℕ, Bool, true, false, cond, ◌&&◌, eqb, ltb, List, [], ◌∷◌, length, drop, Option, None, Some, Result, Ok, Err, refl, sym, ap, subst, ◌∙◌, eqb-true}
use Rattle.std.specs.List.{AllByRecursion, find}
use Rattle.nr_xdr.specs.Fields.{word_at}
use Rattle.nr_rpc.specs.declared.head.ReplyHead.{ReplyHead}
use Rattle.nr_rpc.specs.Reading.{reply_of}
use Rattle.nr_header.specs.declared.header.ChunkLists.{ChunkLists}
use Rattle.nr_header.specs.declared.header.Body.{Body}
use Rattle.nr_header.specs.declared.header.Body.TheVariants.{Msg, Nomsg, ErrVers, ErrChunk}
use Rattle.nr_header.specs.declared.header.Header.{Header}
use Rattle.nr_header.specs.declared.fault.HeaderFault.{HeaderFault}
use Rattle.nr_header.specs.declared.fault.HeaderFault.TheVariants as faults
use Rattle.nr_header.specs.Reading.{header_of, header_by, body_by, error_by}
use Rattle.nr_reduce.specs.declared.call.Outcome.{Outcome}
use Rattle.nr_reduce.specs.declared.call.Outcome.TheVariants as outcomes
use Rattle.nr_reduce.specs.Plans.{lists_of}
use Rattle.nr_reduce.specs.Chunks.{answers_offer, reply_conveyed}
use Rattle.nr_reduce.specs.ClientState.{OutstandingCall, ClientState, is_sent, client_memory_at}
use Rattle.nr_reduce.specs.ClientMessages.{ReplyVerdict, reply_by_head, reply_by_payload, by_lists, reply_by_body, by_call, answered_call, reply_by_header, reply_verdict, reply_xid}
use Rattle.nr_reduce.specs.ClientMessages.ReplyVerdict.{EndsLink, GivesOutcome}

-- ---- The xid of a header

header_by_is : (xid credit : ℕ) (r : Result Body HeaderFault) (h : Header) → header_by xid credit r ≡ Ok h → xid ≡ h.xid
header_by_is xid credit (Ok body) h e = (let s : ◌≡◌ {A = Result Header HeaderFault} (Ok (record { xid = xid; credit = credit; body = body })) (Ok h) = e in cc)
header_by_is xid credit (Err fault) h e = absurd cc

header_first : (message : List ℕ) (h : Header) → header_of message ≡ Ok h → h.xid ≡ word_at 0 message
unfolding header_of
header_first message h e = by (ltb (length message) 16) (body_by (error_by (word_at 12 message) message) (word_at 4 message) (word_at 12 message) message) e
  where
    by : (b : Bool) (r : Result Body HeaderFault) → cond b (Err faults.Short) (header_by (word_at 0 message) (word_at 8 message) r) ≡ Ok h → h.xid ≡ word_at 0 message
    by true r e = absurd cc
    by false r e = sym (header_by_is (word_at 0 message) (word_at 8 message) r h e)

-- ---- The xid of a verdict

gives_same : (x y : ℕ) (a b : Option Outcome) → GivesOutcome x a ≡ GivesOutcome y b → x ≡ y
gives_same x y a b e = cc

head_gives : (x y : ℕ) (payload : List ℕ) (r : Result ReplyHead ℕ) (b : Option Outcome) → reply_by_head x payload r ≡ GivesOutcome y b → x ≡ y
head_gives x y payload (Err at) b e = absurd cc
head_gives x y payload (Ok head) b e = by (eqb (reply_xid head) x) e
  where
    by : (c : Bool) → cond c (GivesOutcome x (Some (outcomes.Reply payload))) (EndsLink 19) ≡ GivesOutcome y b → x ≡ y
    by true e = gives_same x y _ b e
    by false e = absurd cc

payload_gives : (x y : ℕ) (o : Option (List ℕ)) (b : Option Outcome) → reply_by_payload x o ≡ GivesOutcome y b → x ≡ y
payload_gives x y None b e = absurd cc
payload_gives x y (Some payload) b e = head_gives x y payload (reply_of payload) b e

lists_gives : (k : ClientState) (place : ℕ) (o : OutstandingCall) (inline : Option (List ℕ)) (lists : ChunkLists) (suits : Bool) (y : ℕ) (b : Option Outcome) → by_lists k place o inline lists suits ≡ GivesOutcome y b → o.xid ≡ y
lists_gives k place o inline lists false y b e = absurd cc
lists_gives k place o inline lists true y b e = by o.is_revoked e
  where
    by : (c : Bool) → cond c (GivesOutcome o.xid None) (reply_by_payload o.xid (reply_conveyed o.call.prog o.call.vers o.call.proc inline lists (client_memory_at k place))) ≡ GivesOutcome y b → o.xid ≡ y
    by true e = gives_same o.xid y None b e
    by false e = payload_gives o.xid y (reply_conveyed o.call.prog o.call.vers o.call.proc inline lists (client_memory_at k place)) b e

body_gives : (k : ClientState) (place : ℕ) (o : OutstandingCall) (message : List ℕ) (body : Body) (y : ℕ) (b : Option Outcome) → reply_by_body k place o message body ≡ GivesOutcome y b → o.xid ≡ y
body_gives k place o message (Msg lists at) y b e = lists_gives k place o (Some (drop at message)) lists (answers_offer false (lists_of o.stag o.plan) lists) y b e
body_gives k place o message (Nomsg lists) y b e = lists_gives k place o None lists (answers_offer true (lists_of o.stag o.plan) lists) y b e
body_gives k place o message (ErrVers version low high) y b e = gives_same o.xid y _ b e
body_gives k place o message (ErrChunk version) y b e = gives_same o.xid y _ b e

-- ---- The call of a verdict

-- what holds of each call holds of the one that is found
found_all : (P : OutstandingCall → Type 0) (p : OutstandingCall → Bool) (os : List OutstandingCall) (o : OutstandingCall) → AllByRecursion P os → find p os ≡ Some o → P o
found_all P p [] o all e = absurd cc
found_all P p (x ∷ os) o all e = by (p x) e (λ more. found_all P p os o all.1 more)
  where
    by : (b : Bool) → cond b (Some x) (find p os) ≡ Some o → (find p os ≡ Some o → P o) → P o
    by true e rest = (let same : x ≡ o = (let s : Some x ≡ Some o = e in cc) in subst P same all.0)
    by false e rest = rest e

found_xid : (sent : OutstandingCall → Bool) (xid : ℕ) (os : List OutstandingCall) (o : OutstandingCall) → find (λ o. eqb o.xid xid && sent o) os ≡ Some o → o.xid ≡ xid
found_xid sent xid [] o e = absurd cc
found_xid sent xid (x ∷ os) o e = by (eqb x.xid xid) refl (sent x) e (λ more. found_xid sent xid os o more)
  where
    by : (b : Bool) → eqb x.xid xid ≡ b → (w : Bool) → cond (b && w) (Some x) (find (λ o. eqb o.xid xid && sent o) os) ≡ Some o → (find (λ o. eqb o.xid xid && sent o) os ≡ Some o → o.xid ≡ xid) → o.xid ≡ xid
    by true is true e rest = (let same : x ≡ o = (let s : Some x ≡ Some o = e in cc) in ap (λ (q : OutstandingCall). q.xid) (sym same) ∙ eqb-true x.xid xid is)
    by true is false e rest = rest e
    by false is w e rest = rest e

-- a verdict with an outcome is that of an outstanding call, whose xid is the first word of the message
pub record IsVerdictOf (P : OutstandingCall → Type 0) (message : List ℕ) (xid : ℕ) : Type 0 where
  pub call : OutstandingCall
  pub holds : P call
  pub own : call.xid ≡ xid
  pub first : xid ≡ word_at 0 message

pub verdict_of : (P : OutstandingCall → Type 0) (k : ClientState) (place : ℕ) (message : List ℕ) (xid : ℕ) (outcome : Option Outcome) → AllByRecursion P k.outstanding → reply_verdict k place message ≡ GivesOutcome xid outcome → IsVerdictOf P message xid
unfolding reply_verdict
verdict_of P k place message xid outcome all e = by (header_of message) refl e
  where
    by_call_of : (h : Header) → header_of message ≡ Ok h → (o : Option OutstandingCall) → answered_call k h.xid ≡ o → by_call k place message h.body o ≡ GivesOutcome xid outcome → IsVerdictOf P message xid
    by_call_of h is None found e = absurd cc
    by_call_of h is (Some o) found e =
        let same = body_gives k place o message h.body xid outcome e in
        record {
          call = o;
          holds = found_all P (λ o. eqb o.xid h.xid && is_sent k o) k.outstanding o all found;
          own = same;
          first = sym same ∙ found_xid (is_sent k) h.xid k.outstanding o found ∙ header_first message h is;
        }

    by : (r : Result Header HeaderFault) → header_of message ≡ r → reply_by_header k place message r ≡ GivesOutcome xid outcome → IsVerdictOf P message xid
    by (Ok h) is e = by_call_of h is (answered_call k h.xid) refl e
    by (Err faults.Short) is e = absurd cc
    by (Err (faults.Version version)) is e = absurd cc
    by (Err (faults.Kind kind)) is e = absurd cc
    by (Err (faults.BadChunks at)) is e = absurd cc
