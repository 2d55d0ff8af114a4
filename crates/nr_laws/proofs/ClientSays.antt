-- What the client of a link says along its events: the message of each call that it accepted, in order, once it has the server's
-- hello.
use Rattle.std.proofs.Common.{◌≡◌, ℕ, suc, ◌+◌, ◌^◌, ◌≤◌, ◌<◌, Bool, true, false, cond, ◌||◌, not, eqb, ltb, List, [], ◌∷◌, ◌++◌, length, take, drop, map, Option, None, Some, Result, Ok, refl, sym, ap, subst, ◌∙◌, arith, ◌⊎◌, eqb-true, append_assoc, append-nil}
use Rattle.std.proofs.lemmas.List.{length-take}
use Rattle.std.proofs.lemmas.Bool.{ltb-false, or_parts}
use Rattle.nr_xdr.specs.Item.{IsBytes}
use Rattle.nr_rpc.specs.Credential.{CanWriteCred}
use Rattle.nr_wire.specs.declared.hello.Side.TheVariants.{Responder}
use Rattle.nr_wire.specs.declared.stream.Awaited.TheVariants.{Fpdu}
use Rattle.nr_wire.specs.Constants.{OPCODE_READ_REQUEST}
use Rattle.nr_wire.specs.Segment.{Segment}
use Rattle.nr_wire.specs.Segment.Segment.{Tagged, Untagged}
use Rattle.nr_wire.specs.Hello.{hello_of}
use Rattle.nr_regions.specs.declared.denied.Denied.{Denied}
use Rattle.nr_link.specs.declared.end.End.{End as Stop}
use Rattle.nr_link.specs.Frames.{Frame, is_hello}
use Rattle.nr_link.specs.Reasons.{REASON_MSN, REASON_OFFSET, REASON_FORM, REASON_REQUESTS, REASON_SHORT, REASON_LONG}
use Rattle.nr_link.specs.SegmentFaults.{Readiness, SegmentReason, segment_reason, reason_if, next_msn, next_offset, no_buffer, is_malformed, missing_fault, is_too_many, message_length_is, terminate_fault}
use Rattle.nr_link.specs.ReceiveState.{ReadRequest, read_request_in, read_request_of, message_completed, is_send}
use Rattle.nr_link.specs.Ending.{frame_end_by, end_of_fault, hello_end, missing_access}
use Rattle.nr_reduce.proofs.OwnLimits.{ClientLimits}
use Rattle.nr_reduce.specs.declared.mark.LinkParameters.{LinkParameters}
use Rattle.nr_reduce.specs.declared.outline.Plan.{Plan}
use Rattle.nr_reduce.specs.Limits.{numbers_end}
use Rattle.nr_reduce.specs.History.{AcceptedCall}
use Rattle.nr_reduce.specs.Events.{RunEvent}
use Rattle.nr_reduce.specs.Events.RunEvent.{FrameReceived, CallSubmitted, MemoryRevoked, CallExecuted, QueueWritten, ServerTold}
use Rattle.nr_reduce.specs.EndRules.{EndState, next_end_state, end_state_after}
use Rattle.nr_reduce.specs.OfferedRegions.{region_grants}
use Rattle.nr_reduce.specs.Plans.{HasWordPosition}
use Rattle.nr_reduce.specs.ClientState.{ClientState, OutstandingCall, call_payload, plan_for, client_memory_at, stags_taken}
use Rattle.nr_reduce.specs.Client.{client_segment, client_rules, client_end, client_readiness, initial_client, or_message_end, outstanding_of, revoked_call, or_other_sizes}
use Rattle.nr_reduce.specs.RunLaws.{as_submitted}
use Rattle.nr_laws.proofs.Outputs.{Output, IsShort, CallsShort, message_of_call, response_outputs}
use Rattle.nr_laws.proofs.Brought.{AreFrom}
use Rattle.nr_laws.proofs.Words.{responses_words, RangeEnds, word_below_lem, hyper_below_lem, payload_by}
use Rattle.nr_laws.proofs.Completions.{Completes}
use Rattle.nr_reduce.proofs.Touches.{AreNone, all_none, no_flaw}
use Rattle.nr_reduce.specs.SubmitAnswer.{next_sent_xid}
use Rattle.nr_reduce.specs.Asked.{IsResent}

-- ---- A call that is accepted

pub record IsGoodCall (opened : LinkParameters) (r : EndState ClientState) (a : AcceptedCall) : Type 0 where
  pub stays : r.ended ≡ None
  pub next : a.xid ≡ next_sent_xid r.state
  pub resent : IsResent r.state.has_hello r.state.next_xid r.state.waiting a.call a.form
  pub plan : Plan
  pub planned : plan_for r.state a.xid a.call a.form ≡ Ok plan
  pub xids : a.xid < numbers_end
  pub stags : r.state.stag + stags_taken r.state a.xid plan ≤ numbers_end
  pub writable : CanWriteCred a.call.cred
  pub bytes : IsBytes (call_payload a.xid a.call)
  pub form : HasWordPosition a.form
  pub limits : ClientLimits r.state

abbrev pub ClientGood : LinkParameters → EndState ClientState → RunEvent → Type 0
ClientGood opened r (FrameReceived f) = Unit {0}
ClientGood opened r (CallSubmitted p a) = IsGoodCall opened r a
ClientGood opened r (MemoryRevoked p xid) = Unit {0}
ClientGood opened r (CallExecuted e) = Unit {0}
ClientGood opened r (QueueWritten taken) = Unit {0}
ClientGood opened r (ServerTold what) = Unit {0}

-- ---- The calls that were accepted

abbrev pub accepted_in : List RunEvent → List AcceptedCall
accepted_in [] = []
accepted_in (FrameReceived f ∷ es) = accepted_in es
accepted_in (CallSubmitted p a ∷ es) = a ∷ accepted_in es
accepted_in (MemoryRevoked p xid ∷ es) = accepted_in es
accepted_in (CallExecuted e ∷ es) = accepted_in es
accepted_in (QueueWritten taken ∷ es) = accepted_in es
accepted_in (ServerTold what ∷ es) = accepted_in es

pub accepted_append : (es more : List RunEvent) → accepted_in (es ++ more) ≡ accepted_in es ++ accepted_in more
accepted_append [] more = refl
accepted_append (FrameReceived f ∷ es) more = accepted_append es more
accepted_append (CallSubmitted p a ∷ es) more = ap (λ (cs : List AcceptedCall). a ∷ cs) (accepted_append es more)
accepted_append (MemoryRevoked p xid ∷ es) more = accepted_append es more
accepted_append (CallExecuted e ∷ es) more = accepted_append es more
accepted_append (QueueWritten taken ∷ es) more = accepted_append es more
accepted_append (ServerTold what ∷ es) more = accepted_append es more

-- the calls that were accepted, as they go out: each by what was agreed on as it was accepted
abbrev pub asked_by : EndState ClientState → RunEvent → List OutstandingCall
asked_by r (FrameReceived f) = []
asked_by r (CallSubmitted p a) = outstanding_of r.state a ∷ []
asked_by r (MemoryRevoked p xid) = []
asked_by r (CallExecuted e) = []
asked_by r (QueueWritten taken) = []
asked_by r (ServerTold what) = []

abbrev pub asked_from : LinkParameters → EndState ClientState → List RunEvent → List OutstandingCall
asked_from opened r [] = []
asked_from opened r (e ∷ es) = asked_by r e ++ asked_from opened (next_end_state (client_rules opened) r e) es

abbrev pub asked : LinkParameters → List RunEvent → List OutstandingCall
asked opened es = asked_from opened (initial_client opened) es

-- the client after some events
abbrev pub client_after : LinkParameters → List RunEvent → EndState ClientState
client_after opened es = end_state_after (client_rules opened) (initial_client opened) es

from_append : (opened : LinkParameters) (r : EndState ClientState) (es more : List RunEvent) → asked_from opened r (es ++ more) ≡ asked_from opened r es ++ asked_from opened (end_state_after (client_rules opened) r es) more
from_append opened r [] more = refl
from_append opened r (e ∷ es) more =
    let next : EndState ClientState = next_end_state (client_rules opened) r e in
    ap (λ (os : List OutstandingCall). asked_by r e ++ os) (from_append opened next es more)
    ∙ sym (append_assoc (asked_by r e) (asked_from opened next es) (asked_from opened (end_state_after (client_rules opened) next es) more))

pub asked_append : (opened : LinkParameters) (es more : List RunEvent) → asked opened (es ++ more) ≡ asked opened es ++ asked_from opened (client_after opened es) more
asked_append opened es more = from_append opened (initial_client opened) es more

pub asked_submit : (opened : LinkParameters) (es : List RunEvent) (p : ℕ) (a : AcceptedCall) (k : ClientState) → k ≡ (client_after opened es).state
    → asked opened (es ++ CallSubmitted p a ∷ []) ≡ asked opened es ++ outstanding_of k a ∷ []
asked_submit opened es p a k is = asked_append opened es (CallSubmitted p a ∷ []) ∙ ap (λ (x : ClientState). asked opened es ++ outstanding_of x a ∷ []) (sym is)

asked_none : (opened : LinkParameters) (r : EndState ClientState) (es : List RunEvent) → accepted_in es ≡ [] → asked_from opened r es ≡ []
asked_none opened r [] none = refl
asked_none opened r (FrameReceived f ∷ es) none = asked_none opened (next_end_state (client_rules opened) r (FrameReceived f)) es none
asked_none opened r (CallSubmitted p a ∷ es) none = absurd cc
asked_none opened r (MemoryRevoked p xid ∷ es) none = asked_none opened (next_end_state (client_rules opened) r (MemoryRevoked p xid)) es none
asked_none opened r (CallExecuted e ∷ es) none = asked_none opened (next_end_state (client_rules opened) r (CallExecuted e)) es none
asked_none opened r (QueueWritten taken ∷ es) none = asked_none opened (next_end_state (client_rules opened) r (QueueWritten taken)) es none
asked_none opened r (ServerTold what ∷ es) none = asked_none opened (next_end_state (client_rules opened) r (ServerTold what)) es none

-- no call is accepted by these events
pub asked_quiet : (opened : LinkParameters) (es more : List RunEvent) → accepted_in more ≡ [] → asked opened (es ++ more) ≡ asked opened es
asked_quiet opened es more none =
    asked_append opened es more ∙ ap (λ (os : List OutstandingCall). asked opened es ++ os) (asked_none opened (client_after opened es) more none) ∙ append-nil (asked opened es)

from_count : (opened : LinkParameters) (r : EndState ClientState) (es : List RunEvent) → length (asked_from opened r es) ≡ length (accepted_in es)
from_count opened r [] = refl
from_count opened r (FrameReceived f ∷ es) = from_count opened (next_end_state (client_rules opened) r (FrameReceived f)) es
from_count opened r (CallSubmitted p a ∷ es) = ap (λ (n : ℕ). suc n) (from_count opened (next_end_state (client_rules opened) r (CallSubmitted p a)) es)
from_count opened r (MemoryRevoked p xid ∷ es) = from_count opened (next_end_state (client_rules opened) r (MemoryRevoked p xid)) es
from_count opened r (CallExecuted e ∷ es) = from_count opened (next_end_state (client_rules opened) r (CallExecuted e)) es
from_count opened r (QueueWritten taken ∷ es) = from_count opened (next_end_state (client_rules opened) r (QueueWritten taken)) es
from_count opened r (ServerTold what ∷ es) = from_count opened (next_end_state (client_rules opened) r (ServerTold what)) es

pub asked_count : (opened : LinkParameters) (es : List RunEvent) → length (asked opened es) ≡ length (accepted_in es)
asked_count opened es = from_count opened (initial_client opened) es

-- ---- What a client says

abbrev pub HasHello : ℕ → Bool → Type 0
HasHello place hello = ((place ≡ 0) × (hello ≡ false)) ⊎ ((0 < place) × (hello ≡ true))

pub record ClientSays (opened : LinkParameters) (es : List RunEvent) (place : ℕ) (k : ClientState) (ended : Option Stop) (outs : List Output) : Type 0 where
  pub short : CallsShort opened k.outstanding
  pub count : k.sends ≡ length (accepted_in es)
  pub greeted : ended ≡ None → HasHello place k.has_hello
  pub waits : k.has_hello ≡ false → map as_submitted k.outstanding ≡ asked opened es
  pub words : AreFrom Fpdu outs
  pub completes : Completes outs (cond k.has_hello (map (message_of_call opened) (asked opened es)) [])

abbrev pub Says : LinkParameters → List RunEvent → ℕ → EndState ClientState → List Output → Type 0
Says opened es place r outs = ClientSays opened es place r.state r.ended outs

-- ---- Calls in lists

revoked_message : (opened : LinkParameters) (xid : ℕ) (o : OutstandingCall) → message_of_call opened (revoked_call xid o) ≡ message_of_call opened o
revoked_message opened xid o = by (eqb o.xid xid)
  where
    by : (b : Bool) → message_of_call opened (cond b (record o { is_revoked = true }) o) ≡ message_of_call opened o
    by true = refl
    by false = refl

pub short_revoked : (opened : LinkParameters) (xid : ℕ) (xs : List OutstandingCall) → CallsShort opened xs → CallsShort opened (map (revoked_call xid) xs)
short_revoked opened xid [] h = tt
short_revoked opened xid (x ∷ xs) h = (subst IsShort (sym (revoked_message opened xid x)) h.0, short_revoked opened xid xs h.1)

pub submitted_messages : (opened : LinkParameters) (xs : List OutstandingCall) → map (message_of_call opened) (map as_submitted xs) ≡ map (message_of_call opened) xs
submitted_messages opened [] = refl
submitted_messages opened (x ∷ xs) = ap (λ (ms : List (List ℕ)). message_of_call opened x ∷ ms) (submitted_messages opened xs)

pub map_more : (opened : LinkParameters) (xs ys : List OutstandingCall) → map (message_of_call opened) (xs ++ ys) ≡ map (message_of_call opened) xs ++ map (message_of_call opened) ys
map_more opened [] ys = refl
map_more opened (x ∷ xs) ys = ap (λ (ms : List (List ℕ)). message_of_call opened x ∷ ms) (map_more opened xs ys)

-- ---- A Read Request that is answered

pub no_reason : {D : Type 0} (reason : ℕ) (b : Bool) → reason_if {D = D} reason b ≡ None → b ≡ false
no_reason reason true e = absurd cc
no_reason reason false e = refl

-- an untagged segment that breaks no rule is well formed
pub formed : (r : Readiness Denied) (last : Bool) (opcode w queue msn offset : ℕ) (payload : List ℕ) → segment_reason r (Untagged last opcode w queue msn offset payload) ≡ None → is_malformed opcode last payload ≡ false
unfolding segment_reason
formed r last opcode w queue msn offset payload e =
    let message : Option (List ℕ) = message_completed r.received (Untagged last opcode w queue msn offset payload) in
    let flaws : List (Option (SegmentReason Denied)) =
    reason_if REASON_MSN (not (eqb msn (next_msn r.received queue)))
    ∷ reason_if REASON_OFFSET (not (eqb offset (next_offset r.received queue)))
    ∷ no_buffer r (is_send opcode) msn
    ∷ reason_if REASON_FORM (is_malformed opcode last payload)
    ∷ missing_fault r.missing
    ∷ reason_if REASON_REQUESTS (is_too_many r opcode)
    ∷ reason_if REASON_LONG (message_length_is (ltb r.message_max) message)
    ∷ reason_if REASON_SHORT (message_length_is (λ n. ltb n 16) message)
    ∷ terminate_fault opcode payload
    ∷ [] in
    let all : AreNone flaws = all_none flaws e in
    no_reason REASON_FORM (is_malformed opcode last payload) all.1.1.1.0

request_ends : (last : Bool) (payload : List ℕ) → IsBytes payload → is_malformed OPCODE_READ_REQUEST last payload ≡ false → RangeEnds (read_request_in payload).sink_to (read_request_in payload).size
request_ends last payload bytes e =
    let a = or_parts (not last) (not (eqb (length payload) 28) || ltb (2 ^ 64) ((read_request_in payload).sink_to + (read_request_in payload).size)) e in
    let b = or_parts (not (eqb (length payload) 28)) (ltb (2 ^ 64) ((read_request_in payload).sink_to + (read_request_in payload).size)) a.1 in
    let c = ltb-false (2 ^ 64) ((read_request_in payload).sink_to + (read_request_in payload).size) b.1 in
    (hyper_below_lem 4 payload bytes, c)

-- why a frame that isn't the hello doesn't end a client: no fault of its segment
pub client_has_no_fault : (k : ClientState) (f : Frame) (segment : Segment) → is_hello f ≡ false → client_segment k f ≡ Ok segment → client_end k (FrameReceived f) ≡ None
    → segment_reason (client_readiness k (missing_access (region_grants f.end k.regions) f segment)) segment ≡ None
unfolding client_end
client_has_no_fault k f segment behind is e =
    let others : or_message_end k f (frame_end_by (client_readiness k) (region_grants f.end k.regions) f (client_segment k f)) ≡ None =
    ap (λ (b : Bool). cond b (or_other_sizes k f (hello_end (hello_of Responder f.bytes))) (or_message_end k f (frame_end_by (client_readiness k) (region_grants f.end k.regions) f (client_segment k f)))) (sym behind) ∙ e in
    let none : frame_end_by (client_readiness k) (region_grants f.end k.regions) f (client_segment k f) ≡ None = by_end (frame_end_by (client_readiness k) (region_grants f.end k.regions) f (client_segment k f)) others in
    let by_segment : end_of_fault f segment (segment_reason (client_readiness k (missing_access (region_grants f.end k.regions) f segment)) segment) ≡ None =
    ap (λ (r : Result Segment ℕ). frame_end_by (client_readiness k) (region_grants f.end k.regions) f r) (sym is) ∙ none in
    no_flaw f segment _ by_segment
  where
    by_end : (o : Option Stop) → or_message_end k f o ≡ None → o ≡ None
    by_end None e = refl
    by_end (Some end) e = absurd cc

-- the segments of a response have numbers in range
pub response_words : (k : ClientState) (place : ℕ) (segment : Segment) → IsBytes (payload_by segment) → (q : ReadRequest) → read_request_of segment ≡ Some q
    → ((last : Bool) (opcode w queue msn offset : ℕ) (payload : List ℕ) → segment ≡ Untagged last opcode w queue msn offset payload → is_malformed opcode last payload ≡ false)
    → AreFrom Fpdu (response_outputs k place (Some q))
response_words k place (Tagged last opcode stag to payload) bytes q is sound = absurd cc
response_words k place (Untagged last opcode w queue msn offset payload) bytes q is sound = by (eqb opcode OPCODE_READ_REQUEST) refl is
  where
    by : (b : Bool) → eqb opcode OPCODE_READ_REQUEST ≡ b → cond b (Some (read_request_in payload)) None ≡ Some q → AreFrom Fpdu (response_outputs k place (Some q))
    by true own e =
        let same : read_request_in payload ≡ q = (let s : Some (read_request_in payload) ≡ Some q = e in cc) in
        let ends = request_ends last payload bytes (subst (λ (n : ℕ). is_malformed n last payload ≡ false) (eqb-true opcode OPCODE_READ_REQUEST own) (sound last opcode w queue msn offset payload refl)) in
        subst (λ (x : ReadRequest). AreFrom Fpdu (response_outputs k place (Some x))) same
        (let x = read_request_in payload in
        let held : List ℕ = take x.size (drop x.to (client_memory_at k place x.stag)) in
        responses_words x.sink x.sink_to x.size held (word_below_lem 0 payload bytes) (let l = length-take x.size (drop x.to (client_memory_at k place x.stag)) in omega (arith, l)) ends)
    by false own e = absurd cc
