-- Each call that a client accepted is outstanding, has an outcome, or was given up: whatever is received, while the client doesn't end.
use Rattle.std.proofs.Common.{◌≡◌, ℕ, ◌+◌, Bool, true, false, cond, not, ◌&&◌, ◌||◌, eqb, List, [], ◌∷◌, ◌++◌, map, drop, filter, Option, Some, None, Result, Ok, Err, refl, sym, ap, subst, ◌∙◌}
use Rattle.std.specs.List.{list_any, find, AllByRecursion}
use Rattle.std.proofs.lemmas.Bool.{eqb-true, eq-eqb}
use Rattle.nr_header.specs.declared.fault.HeaderFault.{HeaderFault}
use Rattle.nr_header.specs.declared.fault.HeaderFault.TheVariants as faults
use Rattle.nr_header.specs.declared.header.ChunkLists.{ChunkLists}
use Rattle.nr_header.specs.declared.header.Body.{Body}
use Rattle.nr_header.specs.declared.header.Body.TheVariants.{Msg, Nomsg, ErrVers, ErrChunk}
use Rattle.nr_header.specs.declared.header.Header.{Header}
use Rattle.nr_header.specs.Reading.{header_of}
use Rattle.nr_rpc.specs.declared.head.ReplyHead.{ReplyHead}
use Rattle.nr_rpc.specs.Reading.{reply_of}
use Rattle.nr_xdr.specs.Fields.{word_at}
use Rattle.nr_wire.specs.Segment.{Segment}
use Rattle.nr_link.specs.Frames.{Frame, is_hello}
use Rattle.nr_link.specs.ReceiveState.{ReadRequest, message_completed, read_request_of}
use Rattle.nr_reduce.specs.declared.call.Outcome.{Outcome}
use Rattle.nr_reduce.specs.declared.call.Outcome.TheVariants as outcomes
use Rattle.nr_reduce.specs.declared.mark.LinkParameters.{LinkParameters}
use Rattle.nr_reduce.specs.History.{AcceptedCall, CompletedCall}
use Rattle.nr_reduce.specs.Events.RunEvent.{FrameReceived, CallSubmitted, MemoryRevoked, QueueWritten}
use Rattle.nr_reduce.specs.Plans.{lists_of, regions_needed}
use Rattle.nr_reduce.specs.Chunks.{answers_offer, reply_conveyed}
use Rattle.nr_reduce.specs.ClientState.{ClientState, OutstandingCall, WaitingCall, waiting_call, waiting_from, client_memory_at, is_sent}
use Rattle.nr_reduce.specs.declared.mark.ResumedCall.{ResumedCall}
use Rattle.nr_laws.proofs.WaitingCalls.{sent_again, first_there, others_there}
use Rattle.nr_reduce.specs.ClientMessages.{ReplyVerdict, reply_verdict, reply_by_head, reply_by_payload, by_lists, reply_by_body, by_call, answered_call, reply_by_header, reply_xid}
use Rattle.nr_reduce.specs.ClientMessages.ReplyVerdict.{EndsLink, GivesOutcome}
use Rattle.nr_reduce.specs.Client.{client_segment, client_end, client_state_after, end_of_verdict, outstanding_of, outcomes_of, revoked_call, revoked_waiting, is_revoked_waiting, with_message, with_request, with_segment, segment_message, client_message_end, with_hello, due_with_response, segment_names}
use Rattle.nr_laws.proofs.DistinctKeys.{any_append, or_left_lem, or_right_lem}
use Rattle.nr_laws.proofs.TotalsAtClient.{taken}
use Rattle.nr_laws.proofs.Basics.{some_not, each_all, each_kept}
use Rattle.nr_laws.proofs.HeaderXid.{header_xid}
use Rattle.nr_laws.proofs.NamedReplies.{stays_as_plain}

-- ---- A message that doesn't end the client gives an outcome of the call of its xid, or that call's memory was revoked

record GivenOutcome (gone : ℕ → Bool) (xid : ℕ) (v : ReplyVerdict) : Type 0 where
  outcome : Option Outcome
  is : v ≡ GivesOutcome xid outcome
  if_none : outcome ≡ None → gone xid ≡ true

-- the memory of a call is revoked only if it was given up
abbrev pub RevokedGone : (ℕ → Bool) → OutstandingCall → Type 0
RevokedGone gone o = o.is_revoked ≡ true → gone o.xid ≡ true

abbrev pub RevokedWaits : (ℕ → Bool) → WaitingCall → Type 0
RevokedWaits gone w = w.is_revoked ≡ true → gone w.xid ≡ true

given_head : (gone : ℕ → Bool) (f : Frame) (xid : ℕ) (payload : List ℕ) (r : Result ReplyHead ℕ) → end_of_verdict f (reply_by_head xid payload r) ≡ None → GivenOutcome gone xid (reply_by_head xid payload r)
given_head gone f xid payload (Err at) e = absurd cc
given_head gone f xid payload (Ok head) e = by (eqb (reply_xid head) xid) e
  where
    by : (b : Bool) → end_of_verdict f (cond b (GivesOutcome xid (Some (outcomes.Reply payload))) (EndsLink 19)) ≡ None → GivenOutcome gone xid (cond b (GivesOutcome xid (Some (outcomes.Reply payload))) (EndsLink 19))
    by true e = record { outcome = Some (outcomes.Reply payload); is = refl; if_none = λ x. absurd (some_not (outcomes.Reply payload) x) }
    by false e = absurd cc

given_payload : (gone : ℕ → Bool) (f : Frame) (xid : ℕ) (payload : Option (List ℕ)) → end_of_verdict f (reply_by_payload xid payload) ≡ None → GivenOutcome gone xid (reply_by_payload xid payload)
given_payload gone f xid None e = absurd cc
given_payload gone f xid (Some payload) e = given_head gone f xid payload (reply_of payload) e

given_lists : (gone : ℕ → Bool) (k : ClientState) (f : Frame) (o : OutstandingCall) (inline : Option (List ℕ)) (lists : ChunkLists) (b : Bool) → RevokedGone gone o → end_of_verdict f (by_lists k f.end o inline lists b) ≡ None
    → GivenOutcome gone o.xid (by_lists k f.end o inline lists b)
given_lists gone k f o inline lists false h e = absurd cc
given_lists gone k f o inline lists true h e = by o.is_revoked refl e
  where
    conveyed : Option (List ℕ)
    conveyed = reply_conveyed o.call.prog o.call.vers o.call.proc inline lists (client_memory_at k f.end)

    by : (b : Bool) → o.is_revoked ≡ b → end_of_verdict f (cond b (GivesOutcome o.xid None) (reply_by_payload o.xid conveyed)) ≡ None → GivenOutcome gone o.xid (cond b (GivesOutcome o.xid None) (reply_by_payload o.xid conveyed))
    by true is e = record { outcome = None; is = refl; if_none = λ x. h is }
    by false is e = given_payload gone f o.xid conveyed e

given_body : (gone : ℕ → Bool) (k : ClientState) (f : Frame) (message : List ℕ) (o : OutstandingCall) (body : Body) → RevokedGone gone o → end_of_verdict f (reply_by_body k f.end o message body) ≡ None → GivenOutcome gone o.xid (reply_by_body k f.end o message body)
given_body gone k f message o (Msg lists at) h e = given_lists gone k f o (Some (drop at message)) lists (answers_offer false (lists_of o.stag o.plan) lists) h e
given_body gone k f message o (Nomsg lists) h e = given_lists gone k f o None lists (answers_offer true (lists_of o.stag o.plan) lists) h e
given_body gone k f message o (ErrVers version low high) h e = record { outcome = Some (outcomes.Version low high); is = refl; if_none = λ x. absurd (some_not (outcomes.Version low high) x) }
given_body gone k f message o (ErrChunk version) h e = record { outcome = Some outcomes.Chunk; is = refl; if_none = λ x. absurd (some_not outcomes.Chunk x) }

-- what is found
record FoundCall (gone : ℕ → Bool) (xid : ℕ) (o : OutstandingCall) : Type 0 where
  own : o.xid ≡ xid
  revoked : RevokedGone gone o

found_call : (gone : ℕ → Bool) (sent : OutstandingCall → Bool) (xid : ℕ) (os : List OutstandingCall) (o : OutstandingCall) → AllByRecursion (RevokedGone gone) os → find (λ (x : OutstandingCall). eqb x.xid xid && sent x) os ≡ Some o → FoundCall gone xid o
found_call gone sent xid [] o h e = absurd cc
found_call gone sent xid (x ∷ os) o h e = by (eqb x.xid xid) (sent x) refl e (found_call gone sent xid os o h.1)
  where
    here : x ≡ o → eqb x.xid xid ≡ true → FoundCall gone xid o
    here same is = subst (FoundCall gone xid) same (record { own = eqb-true x.xid xid is; revoked = h.0 })

    by : (b c : Bool) → eqb x.xid xid ≡ b → cond (b && c) (Some x) (find (λ (y : OutstandingCall). eqb y.xid xid && sent y) os) ≡ Some o → (find (λ (y : OutstandingCall). eqb y.xid xid && sent y) os ≡ Some o → FoundCall gone xid o) → FoundCall gone xid o
    by true true is e later = here (let same : x ≡ o = cc in same) is
    by true false is e later = later e
    by false c is e later = later e

given_call : (gone : ℕ → Bool) (k : ClientState) (f : Frame) (message : List ℕ) (xid : ℕ) (body : Body) (o : Option OutstandingCall) → AllByRecursion (RevokedGone gone) k.outstanding → answered_call k xid ≡ o → end_of_verdict f (by_call k f.end message body o) ≡ None
    → GivenOutcome gone xid (by_call k f.end message body o)
given_call gone k f message xid body None h is e = absurd cc
given_call gone k f message xid body (Some o) h is e =
    let found = found_call gone (is_sent k) xid k.outstanding o h is in
    subst (λ (x : ℕ). GivenOutcome gone x (reply_by_body k f.end o message body)) found.own (given_body gone k f message o body found.revoked e)

given_header : (gone : ℕ → Bool) (k : ClientState) (f : Frame) (message : List ℕ) (r : Result Header HeaderFault) → AllByRecursion (RevokedGone gone) k.outstanding → header_of message ≡ r → end_of_verdict f (reply_by_header k f.end message r) ≡ None
    → GivenOutcome gone (word_at 0 message) (reply_by_header k f.end message r)
given_header gone k f message (Ok h) kept is e =
    subst (λ (x : ℕ). GivenOutcome gone x (by_call k f.end message h.body (answered_call k h.xid))) (header_xid message h is) (given_call gone k f message h.xid h.body (answered_call k h.xid) kept refl e)
given_header gone k f message (Err faults.Short) kept is e = absurd cc
given_header gone k f message (Err (faults.Version version)) kept is e = absurd cc
given_header gone k f message (Err (faults.Kind kind)) kept is e = absurd cc
given_header gone k f message (Err (faults.BadChunks at)) kept is e = absurd cc

given : (gone : ℕ → Bool) (k : ClientState) (f : Frame) (message : List ℕ) → AllByRecursion (RevokedGone gone) k.outstanding → end_of_verdict f (reply_verdict k f.end message) ≡ None → GivenOutcome gone (word_at 0 message) (reply_verdict k f.end message)
unfolding reply_verdict
given gone k f message kept e = given_header gone k f message (header_of message) kept refl e

-- ---- What a client accounts for

abbrev pub is_outstanding : List OutstandingCall → ℕ → Bool
is_outstanding os xid = list_any (λ (o : OutstandingCall). eqb o.xid xid) os

abbrev pub has_outcome : List CompletedCall → ℕ → Bool
has_outcome done xid = list_any (λ (c : CompletedCall). eqb c.xid xid) done

abbrev pub IsAccounted : (ℕ → Bool) → ClientState → ℕ → Type 0
IsAccounted gone k xid = (is_outstanding k.outstanding xid || (has_outcome k.outcomes xid || gone xid)) ≡ true

pub record CallsAccounted (gone : ℕ → Bool) (xids : List ℕ) (k : ClientState) : Type 0 where
  pub each : AllByRecursion (IsAccounted gone k) xids
  pub revoked : AllByRecursion (RevokedGone gone) k.outstanding
  pub waits : AllByRecursion (RevokedWaits gone) k.waiting

either : (a b c d e f : Bool) → (a ≡ true → d ≡ true) → (b ≡ true → e ≡ true) → (c ≡ true → f ≡ true) → (a || (b || c)) ≡ true → (d || (e || f)) ≡ true
either true b c d e f p q r h = or_left_lem d (e || f) (p refl)
either false true c d e f p q r h = or_right_lem d (e || f) (or_left_lem e f (q refl))
either false false c d e f p q r h = or_right_lem d (e || f) (or_right_lem e f (r h))

-- ---- A frame

differ : (n xid : ℕ) → eqb n xid ≡ true → (other : ℕ) → eqb xid other ≡ false → eqb n other ≡ false
differ n xid e other not_other = ap (λ (x : ℕ). eqb x other) (eqb-true n xid e) ∙ not_other

pub others_stay : (xid x : ℕ) (os : List OutstandingCall) → eqb x xid ≡ false → is_outstanding os x ≡ true → is_outstanding (filter (λ (o : OutstandingCall). not (eqb o.xid xid)) os) x ≡ true
others_stay xid x [] ne e = e
others_stay xid x (o ∷ os) ne e = by (eqb o.xid x) (eqb o.xid xid) refl refl e (others_stay xid x os ne)
  where
    rest : List OutstandingCall
    rest = filter (λ (y : OutstandingCall). not (eqb y.xid xid)) os

    by : (a b : Bool) → eqb o.xid x ≡ a → eqb o.xid xid ≡ b → (a || is_outstanding os x) ≡ true → (is_outstanding os x ≡ true → is_outstanding rest x ≡ true) → is_outstanding (cond (not b) (o ∷ rest) rest) x ≡ true
    by true true own same e later = absurd (let wrong : true ≡ false = sym same ∙ differ o.xid x own xid ne in cc)
    by true false own same e later = or_left_lem (eqb o.xid x) (is_outstanding rest x) own
    by false true own same e later = later e
    by false false own same e later = or_right_lem (eqb o.xid x) (is_outstanding rest x) (later e)

outcome_more : (done more : List CompletedCall) (x : ℕ) → has_outcome done x ≡ true → has_outcome (done ++ more) x ≡ true
outcome_more done more x e = any_append (λ (c : CompletedCall). eqb c.xid x) done more ∙ or_left_lem (has_outcome done x) (has_outcome more x) e

outcome_new : (done more : List CompletedCall) (x : ℕ) → has_outcome more x ≡ true → has_outcome (done ++ more) x ≡ true
outcome_new done more x e = any_append (λ (c : CompletedCall). eqb c.xid x) done more ∙ or_right_lem (has_outcome done x) (has_outcome more x) e

message_each : (gone : ℕ → Bool) (k : ClientState) (place : ℕ) (message : List ℕ) → GivenOutcome gone (word_at 0 message) (reply_verdict k place message) → (x : ℕ) → IsAccounted gone k x → IsAccounted gone (with_message k place (Some message)) x
message_each gone k place message g x h = by (eqb x (word_at 0 message)) refl
  where
    t : ClientState
    t = with_message k place (Some message)

    new : (o : Option Outcome) → g.outcome ≡ o → x ≡ word_at 0 message → IsAccounted gone t x
    new (Some outcome) is same =
        let done : outcomes_of (reply_verdict k place message) ≡ record { xid = word_at 0 message; outcome = outcome } ∷ [] = ap outcomes_of (g.is ∙ ap (λ (o : Option Outcome). GivesOutcome (word_at 0 message) o) is) in
        let here : has_outcome (outcomes_of (reply_verdict k place message)) x ≡ true =
        ap (λ (cs : List CompletedCall). has_outcome cs x) done ∙ or_left_lem (eqb (word_at 0 message) x) false (eq-eqb (word_at 0 message) x (sym same)) in
        or_right_lem (is_outstanding t.outstanding x) (has_outcome t.outcomes x || gone x)
        (or_left_lem (has_outcome t.outcomes x) (gone x) (outcome_new k.outcomes (outcomes_of (reply_verdict k place message)) x here))
    new None is same =
        or_right_lem (is_outstanding t.outstanding x) (has_outcome t.outcomes x || gone x)
        (or_right_lem (has_outcome t.outcomes x) (gone x) (ap gone same ∙ g.if_none is))

    by : (b : Bool) → eqb x (word_at 0 message) ≡ b → IsAccounted gone t x
    by true e = new g.outcome refl (eqb-true x (word_at 0 message) e)
    by false e =
        either (is_outstanding k.outstanding x) (has_outcome k.outcomes x) (gone x) (is_outstanding t.outstanding x) (has_outcome t.outcomes x) (gone x)
        (others_stay (word_at 0 message) x k.outstanding e) (outcome_more k.outcomes (outcomes_of (reply_verdict k place message)) x) (λ z. z) h

request_accounts : (gone : ℕ → Bool) (xids : List ℕ) (k : ClientState) (due : ℕ) (q : Option ReadRequest) → CallsAccounted gone xids k → CallsAccounted gone xids (with_request k due q)
request_accounts gone xids k due None h = h
request_accounts gone xids k due (Some r) h = record { each = h.each; revoked = h.revoked; waits = h.waits }

message_accounts : (gone : ℕ → Bool) (xids : List ℕ) (k : ClientState) (f : Frame) (m : Option (List ℕ)) → ((message : List ℕ) → m ≡ Some message → end_of_verdict f (reply_verdict k f.end message) ≡ None) → CallsAccounted gone xids k → CallsAccounted gone xids (with_message k f.end m)
message_accounts gone xids k f None stays h = h
message_accounts gone xids k f (Some message) stays h =
    let g = given gone k f message h.revoked (stays message refl) in
    record {
      each = each_all (IsAccounted gone k) (IsAccounted gone (with_message k f.end (Some message))) xids (message_each gone k f.end message g) h.each;
      revoked = each_kept (RevokedGone gone) (λ (o : OutstandingCall). not (eqb o.xid (word_at 0 message))) k.outstanding h.revoked;
      waits = h.waits;
    }

segment_accounts : (gone : ℕ → Bool) (xids : List ℕ) (k : ClientState) (f : Frame) (r : Result Segment ℕ) → ((message : List ℕ) → segment_message k r ≡ Some message → end_of_verdict f (reply_verdict k f.end message) ≡ None) → CallsAccounted gone xids k → CallsAccounted gone xids (with_segment k f r)
segment_accounts gone xids k f (Err reason) stays h = h
segment_accounts gone xids k f (Ok segment) stays h =
    let m = request_accounts gone xids (with_message k f.end (message_completed k.received segment)) (due_with_response k f segment) (read_request_of segment) (message_accounts gone xids k f (message_completed k.received segment) stays h) in
    record { each = m.each; revoked = m.revoked; waits = m.waits }

pub frame_accounts : (opened : LinkParameters) (gone : ℕ → Bool) (xids : List ℕ) (k : ClientState) (f : Frame) → client_end k (FrameReceived f) ≡ None → CallsAccounted gone xids k → CallsAccounted gone xids (client_state_after opened k (FrameReceived f))
unfolding client_state_after
frame_accounts opened gone xids k f e h = by (is_hello f) refl
  where
    by : (b : Bool) → is_hello f ≡ b → CallsAccounted gone xids (cond b (with_hello opened k f) (with_segment k f (client_segment k f)))
    by true is = record { each = h.each; revoked = h.revoked; waits = h.waits }
    by false is =
        let unended = taken k f is e in
        segment_accounts gone xids k f (client_segment k f)
        (λ message m. stays_as_plain k f (segment_names (client_segment k f)) message (ap (λ (o : Option (List ℕ)). client_message_end k f (segment_names (client_segment k f)) o) (sym m) ∙ unended)) h

-- ---- Other events

pub any_map : (f : OutstandingCall → OutstandingCall) (os : List OutstandingCall) (x : ℕ) → ((o : OutstandingCall) → (f o).xid ≡ o.xid) → is_outstanding (map f os) x ≡ is_outstanding os x
any_map f [] x same = refl
any_map f (o ∷ os) x same = λ i. eqb (same o i) x || any_map f os x same i

revoked_to : (gone later : ℕ → Bool) (os : List OutstandingCall) → ((x : ℕ) → gone x ≡ true → later x ≡ true) → AllByRecursion (RevokedGone gone) os → AllByRecursion (RevokedGone later) os
revoked_to gone later [] more h = tt
revoked_to gone later (o ∷ os) more h = ((λ e. more o.xid (h.0 e)), revoked_to gone later os more h.1)

revoked_map : (gone : ℕ → Bool) (f : OutstandingCall → OutstandingCall) (os : List OutstandingCall) → ((o : OutstandingCall) → RevokedGone gone o → RevokedGone gone (f o)) → AllByRecursion (RevokedGone gone) os → AllByRecursion (RevokedGone gone) (map f os)
revoked_map gone f [] kept h = tt
revoked_map gone f (o ∷ os) kept h = (kept o h.0, revoked_map gone f os kept h.1)

-- more is given up
pub accounts_gone : (gone later : ℕ → Bool) (xids : List ℕ) (k : ClientState) → ((x : ℕ) → gone x ≡ true → later x ≡ true) → CallsAccounted gone xids k → CallsAccounted later xids k
accounts_gone gone later xids k more h = record {
  each = each_all (IsAccounted gone k) (IsAccounted later k) xids (λ x. either (is_outstanding k.outstanding x) (has_outcome k.outcomes x) (gone x) (is_outstanding k.outstanding x) (has_outcome k.outcomes x) (later x) (λ z. z) (λ z. z) (more x)) h.each;
  revoked = revoked_to gone later k.outstanding more h.revoked;
  waits = each_all (RevokedWaits gone) (RevokedWaits later) k.waiting (λ w is e. more w.xid (is e)) h.waits;
}

pub written_accounts : (taken : ℕ) (opened : LinkParameters) (gone : ℕ → Bool) (xids : List ℕ) (k : ClientState) → CallsAccounted gone xids k → CallsAccounted gone xids (client_state_after opened k (QueueWritten taken))
unfolding client_state_after
written_accounts taken opened gone xids k h = record { each = h.each; revoked = h.revoked; waits = h.waits }

waits_revoked : (gone : ℕ → Bool) (xid : ℕ) → gone xid ≡ true → (ws : List WaitingCall) → AllByRecursion (RevokedWaits gone) ws → AllByRecursion (RevokedWaits gone) (map (revoked_waiting xid) ws)
waits_revoked gone xid is [] h = tt
waits_revoked gone xid is (w ∷ ws) h = (by (eqb w.xid xid) refl, waits_revoked gone xid is ws h.1)
  where
    by : (b : Bool) → eqb w.xid xid ≡ b → RevokedWaits gone (cond b (record w { is_revoked = true }) w)
    by true e = λ z. ap gone (eqb-true w.xid xid e) ∙ is
    by false e = h.0

pub revoked_accounts : (opened : LinkParameters) (gone : ℕ → Bool) (xids : List ℕ) (k : ClientState) (place xid : ℕ) → gone xid ≡ true → CallsAccounted gone xids k → CallsAccounted gone xids (client_state_after opened k (MemoryRevoked place xid))
unfolding client_state_after
revoked_accounts opened gone xids k place xid is h = record {
  each = each_all (IsAccounted gone k) (IsAccounted gone (client_state_after opened k (MemoryRevoked place xid))) xids
      (λ x h. ap (λ (b : Bool). b || (has_outcome k.outcomes x || gone x)) (any_map (revoked_call xid) k.outstanding x same) ∙ h) h.each;
  revoked = revoked_map gone (revoked_call xid) k.outstanding kept h.revoked;
  waits = waits_revoked gone xid is k.waiting h.waits;
}
  where
    same : (o : OutstandingCall) → (revoked_call xid o).xid ≡ o.xid
    same o = by (eqb o.xid xid)
      where
        by : (b : Bool) → (cond b (record o { is_revoked = true }) o).xid ≡ o.xid
        by true = refl
        by false = refl

    kept : (o : OutstandingCall) → RevokedGone gone o → RevokedGone gone (revoked_call xid o)
    kept o h = by (eqb o.xid xid) refl
      where
        by : (b : Bool) → eqb o.xid xid ≡ b → RevokedGone gone (cond b (record o { is_revoked = true }) o)
        by true e = λ z. ap gone (eqb-true o.xid xid e) ∙ is
        by false e = h

pub submit_accounts : (opened : LinkParameters) (gone : ℕ → Bool) (xids : List ℕ) (k : ClientState) (place : ℕ) (a : AcceptedCall) → CallsAccounted gone xids k → CallsAccounted gone (xids ++ a.xid ∷ []) (client_state_after opened k (CallSubmitted place a))
unfolding client_state_after
submit_accounts opened gone xids k place a h = record {
  each = push xids (each_all (IsAccounted gone k) (IsAccounted gone (client_state_after opened k (CallSubmitted place a))) xids
      (λ x. either (is_outstanding k.outstanding x) (has_outcome k.outcomes x) (gone x) (is_outstanding (k.outstanding ++ outstanding_of k a ∷ []) x) (has_outcome k.outcomes x) (gone x)
      (λ e. any_append (λ (o : OutstandingCall). eqb o.xid x) k.outstanding (outstanding_of k a ∷ []) ∙ or_left_lem (is_outstanding k.outstanding x) (is_outstanding (outstanding_of k a ∷ []) x) e) (λ z. z) (λ z. z)) h.each);
  revoked = more k.outstanding h.revoked;
  waits = others_there (RevokedWaits gone) k.waiting a.xid h.waits;
}
  where
    own : IsAccounted gone (client_state_after opened k (CallSubmitted place a)) a.xid
    own =
        or_left_lem (is_outstanding (k.outstanding ++ outstanding_of k a ∷ []) a.xid) (has_outcome k.outcomes a.xid || gone a.xid)
        (any_append (λ (o : OutstandingCall). eqb o.xid a.xid) k.outstanding (outstanding_of k a ∷ [])
        ∙ or_right_lem (is_outstanding k.outstanding a.xid) (is_outstanding (outstanding_of k a ∷ []) a.xid) (or_left_lem (eqb a.xid a.xid) false (eq-eqb a.xid a.xid refl)))

    -- a call that is sent again is revoked if it was as it waited
    revoked_again : (x : Option WaitingCall) → waiting_call k a.xid ≡ x → is_revoked_waiting x ≡ true → gone a.xid ≡ true
    revoked_again None is e = absurd cc
    revoked_again (Some w) is e = ap gone (sent_again k a w is).xid ∙ first_there (RevokedWaits gone) k.waiting a.xid w h.waits is e

    push : (xs : List ℕ) → AllByRecursion (IsAccounted gone (client_state_after opened k (CallSubmitted place a))) xs → AllByRecursion (IsAccounted gone (client_state_after opened k (CallSubmitted place a))) (xs ++ a.xid ∷ [])
    push [] h = (own, tt)
    push (x ∷ xs) h = (h.0, push xs h.1)

    more : (os : List OutstandingCall) → AllByRecursion (RevokedGone gone) os → AllByRecursion (RevokedGone gone) (os ++ outstanding_of k a ∷ [])
    more [] h = (revoked_again (waiting_call k a.xid) refl, tt)
    more (o ∷ os) h = (h.0, more os h.1)

-- none that waits from the start is revoked
pub waits_first : (gone : ℕ → Bool) (stag : ℕ) (rs : List ResumedCall) → AllByRecursion (RevokedWaits gone) (waiting_from stag rs)
waits_first gone stag [] = tt
waits_first gone stag (r ∷ rs) = ((λ e. absurd cc), waits_first gone (stag + regions_needed r.plan) rs)
