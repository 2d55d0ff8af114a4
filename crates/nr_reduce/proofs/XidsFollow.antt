-- Xids go by the numbers of Sends: the next one of a client in every run, and those of its outstanding calls while it keeps its law.
use Rattle.std.proofs.Common.{◌≡◌, ℕ, suc, ◌+◌, ◌<◌, Bool, true, false, cond, ◌&&◌, not, eqb, List, [], ◌∷◌, ◌++◌, length, map, Option, None, Some, Result, Ok, Err, refl, sym, ap, subst, ◌∙◌, arith, append_assoc, append-nil}
use Rattle.std.specs.List.{AllByRecursion, filter}
use Rattle.std.proofs.lemmas.Bool.{eqb-true, eq-eqb}
use Rattle.nr_wire.specs.declared.hello.Side.TheVariants.{Initiator, Responder}
use Rattle.nr_wire.specs.Segment.{Segment}
use Rattle.nr_xdr.specs.Fields.{word_at}
use Rattle.nr_link.specs.declared.end.End.{End}
use Rattle.nr_link.specs.Frames.{Frame, is_hello, frames_completed}
use Rattle.nr_link.specs.ReceiveState.{ReadRequest, message_completed, read_request_of}
use Rattle.nr_reduce.specs.declared.call.Call.{Call}
use Rattle.nr_reduce.specs.declared.call.Form.{Form}
use Rattle.nr_reduce.specs.declared.call.Submission.TheVariants as submissions
use Rattle.nr_reduce.specs.declared.mark.Mark.{Mark}
use Rattle.nr_reduce.specs.declared.mark.Mark.TheVariants as marks
use Rattle.nr_reduce.specs.declared.mark.LinkParameters.{LinkParameters}
use Rattle.nr_reduce.specs.History.{bytes_received}
use Rattle.nr_reduce.specs.AtEachMark.{AtEachMark}
use Rattle.nr_reduce.specs.Matched.{IsPrefixOf}
use Rattle.nr_reduce.specs.Events.{RunEvent, if_own, events_at, events}
use Rattle.nr_reduce.specs.Events.RunEvent.{FrameReceived, CallSubmitted, MemoryRevoked, CallExecuted, QueueWritten, ServerTold}
use Rattle.nr_reduce.specs.EndRules.{EndState, next_end_state, next_end_state_by, next_end_state_in, end_state_after}
use Rattle.nr_reduce.specs.ClientState.{OutstandingCall, WaitingCall, ClientState, first_of, others_than, waiting_from}
use Rattle.nr_reduce.specs.declared.mark.ResumedCall.{ResumedCall}
use Rattle.nr_reduce.specs.Plans.{regions_needed}
use Rattle.nr_reduce.specs.SubmitAnswer.{first_xid_or, next_sent_xid}
use Rattle.nr_reduce.specs.Client.{client_rules, client_end, client_state_after, initial_client, outstanding_of, revoked_call, revoked_waiting, xid_unless_waiting, with_message, with_request, with_segment, with_hello, due_with_response, client_segment}
use Rattle.nr_reduce.specs.Run.{client}
use Rattle.nr_reduce.specs.Asked.{AskedMark, AskedSoFar, IsAccepted}
use Rattle.nr_reduce.specs.StandingLaws.{NextXidFollows, XidsFollow, xid_after, xid_of_send}
use Rattle.nr_reduce.proofs.Steps.{client_one}
use Rattle.nr_reduce.proofs.OwnStags.{kept_after}
use Rattle.nr_reduce.proofs.Placing.{segment_next, segment_sends, segment_waiting}

-- ---- The next xid

abbrev NextFollows : LinkParameters → ClientState → Type 0
NextFollows opened k = k.next_xid + length opened.resumed ≡ opened.first_xid + k.sends + length k.waiting

segment_follows : (opened : LinkParameters) (k : ClientState) (f : Frame) (r : Result Segment ℕ) → NextFollows opened k → NextFollows opened (with_segment k f r)
segment_follows opened k f r h =
    (let next = segment_next k f r in let sends = segment_sends k f r in let waiting = ap (λ (ws : List WaitingCall). length ws) (segment_waiting k f r) in omega (arith, next, sends, waiting, h))

-- of a call that is new, or the first that waits
counted : (ws : List WaitingCall) (xid next : ℕ) → xid_unless_waiting (first_of ws xid) next + length ws ≡ next + 1 + length (others_than ws xid)
counted [] xid next = omega arith
counted (w ∷ ws) xid next = by (eqb w.xid xid)
  where
    by : (b : Bool) → xid_unless_waiting (cond b (Some w) None) next + length (w ∷ ws) ≡ next + 1 + length (cond b ws (w ∷ ws))
    by true = omega arith
    by false = omega arith

revoked_length : (xid : ℕ) (ws : List WaitingCall) → length (map (revoked_waiting xid) ws) ≡ length ws
revoked_length xid [] = refl
revoked_length xid (w ∷ ws) = ap (λ (n : ℕ). suc n) (revoked_length xid ws)

next_after : (opened : LinkParameters) (k : ClientState) (e : RunEvent) → NextFollows opened k → NextFollows opened (client_state_after opened k e)
unfolding client_state_after
next_after opened k (FrameReceived f) h = by (is_hello f)
  where
    by : (b : Bool) → NextFollows opened (cond b (with_hello opened k f) (with_segment k f (client_segment k f)))
    by true = h
    by false = segment_follows opened k f (client_segment k f) h
next_after opened k (CallSubmitted place a) h = (let c = counted k.waiting a.xid k.next_xid in omega (arith, h, c))
next_after opened k (MemoryRevoked place xid) h = (let e = revoked_length xid k.waiting in omega (arith, h, e))
next_after opened k (CallExecuted call) h = h
next_after opened k (QueueWritten taken) h = h
next_after opened k (ServerTold what) h = h

waiting_length : (stag : ℕ) (rs : List ResumedCall) → length (waiting_from stag rs) ≡ length rs
waiting_length stag [] = refl
waiting_length stag (r ∷ rs) = ap (λ (n : ℕ). suc n) (waiting_length (stag + regions_needed r.plan) rs)

next_first : (opened : LinkParameters) → NextFollows opened (initial_client opened).state
next_first opened = (let e = waiting_length opened.first_stag opened.resumed in omega (arith, e))

pub next_follows : (opened : LinkParameters) (es : List RunEvent) → NextFollows opened (end_state_after (client_rules opened) (initial_client opened) es).state
next_follows opened es = kept_after (client_rules opened) (NextFollows opened) (next_after opened) (initial_client opened) es (next_first opened)

pub next_xid_follows : NextXidFollows
unfolding client
next_xid_follows opened link run = next_follows opened (events link Initiator run)

-- ---- The xids that are sent next

abbrev pub xids_waiting : List WaitingCall → List ℕ
xids_waiting ws = map (λ (w : WaitingCall). w.xid) ws

-- Those that a client in this state sends, in order, are those of the link from the number of its next Send on.
abbrev pub ComesNext : LinkParameters → (next sends : ℕ) → List WaitingCall → Type 0
ComesNext opened next sends ws = (n : ℕ) → xid_after (xids_waiting ws) next n ≡ xid_of_send opened (sends + n)

one_more : (opened : LinkParameters) (next sends n : ℕ) (ws : List WaitingCall) → ComesNext opened next sends ws → xid_after (xids_waiting ws) next (suc n) ≡ xid_of_send opened (sends + 1 + n)
one_more opened next sends n ws h = h (suc n) ∙ ap (λ (m : ℕ). xid_of_send opened m) (let e : sends + suc n ≡ sends + 1 + n = omega arith in e)

comes_next : (opened : LinkParameters) (xid next sends : ℕ) (ws : List WaitingCall) → xid ≡ first_xid_or next ws → ComesNext opened next sends ws →
    ComesNext opened (xid_unless_waiting (first_of ws xid) next) (sends + 1) (others_than ws xid)
comes_next opened xid next sends [] own h = λ n. (let e : next + 1 + n ≡ next + suc n = omega arith in e) ∙ one_more opened next sends n [] h
comes_next opened xid next sends (w ∷ ws) own h = by (eqb w.xid xid) (eq-eqb w.xid xid (sym own))
  where
    by : (b : Bool) → b ≡ true → ComesNext opened (xid_unless_waiting (cond b (Some w) None) next) (sends + 1) (cond b ws (w ∷ ws))
    by true is = λ n. one_more opened next sends n (w ∷ ws) h
    by false is = absurd cc

pub comes_first : (opened : LinkParameters) (next sends : ℕ) (ws : List WaitingCall) → ComesNext opened next sends ws → first_xid_or next ws ≡ xid_of_send opened sends
comes_first opened next sends [] h = (let e : next ≡ next + 0 = omega arith in e) ∙ h 0 ∙ ap (λ (m : ℕ). xid_of_send opened m) (let e : sends + 0 ≡ sends = omega arith in e)
comes_first opened next sends (w ∷ ws) h = h 0 ∙ ap (λ (m : ℕ). xid_of_send opened m) (let e : sends + 0 ≡ sends = omega arith in e)

revoked_xids : (xid : ℕ) (ws : List WaitingCall) → xids_waiting (map (revoked_waiting xid) ws) ≡ xids_waiting ws
revoked_xids xid [] = refl
revoked_xids xid (w ∷ ws) = (λ i. by (eqb w.xid xid) i ∷ revoked_xids xid ws i)
  where
    by : (b : Bool) → (cond b (record w { is_revoked = true }) w).xid ≡ w.xid
    by true = refl
    by false = refl

waiting_xids : (stag : ℕ) (rs : List ResumedCall) → xids_waiting (waiting_from stag rs) ≡ map (λ (r : ResumedCall). r.xid) rs
waiting_xids stag [] = refl
waiting_xids stag (r ∷ rs) = ap (λ (xids : List ℕ). r.xid ∷ xids) (waiting_xids (stag + regions_needed r.plan) rs)

begins_next : (opened : LinkParameters) → ComesNext opened opened.first_xid 0 (waiting_from opened.first_stag opened.resumed)
unfolding xid_of_send
begins_next opened = λ n.
    ap (λ (xids : List ℕ). xid_after xids opened.first_xid n) (waiting_xids opened.first_stag opened.resumed)
    ∙ ap (λ (m : ℕ). xid_after (map (λ (r : ResumedCall). r.xid) opened.resumed) opened.first_xid m) (let e : n ≡ 0 + n = omega arith in e)

-- ---- The outstanding calls

abbrev pub Follows : LinkParameters → (sends : ℕ) → OutstandingCall → Type 0
Follows opened sends o = (o.xid ≡ xid_of_send opened o.send) × (o.send < sends)

abbrev pub AllFollow : LinkParameters → ClientState → Type 0
AllFollow opened k = AllByRecursion (λ (o : OutstandingCall). Follows opened k.sends o) k.outstanding

follow_filter : (opened : LinkParameters) (sends : ℕ) (p : OutstandingCall → Bool) (os : List OutstandingCall) → AllByRecursion (λ (o : OutstandingCall). Follows opened sends o) os → AllByRecursion (λ (o : OutstandingCall). Follows opened sends o) (filter p os)
follow_filter opened sends p [] h = tt
follow_filter opened sends p (o ∷ os) h = by (follow_filter opened sends p os h.1) (p o)
  where
    by : AllByRecursion (λ (x : OutstandingCall). Follows opened sends x) (filter p os) → (b : Bool) → AllByRecursion (λ (x : OutstandingCall). Follows opened sends x) (cond b (o ∷ filter p os) (filter p os))
    by rest true = (h.0, rest)
    by rest false = rest

follow_revoked : (opened : LinkParameters) (sends xid : ℕ) (os : List OutstandingCall) → AllByRecursion (λ (o : OutstandingCall). Follows opened sends o) os → AllByRecursion (λ (o : OutstandingCall). Follows opened sends o) (map (revoked_call xid) os)
follow_revoked opened sends xid [] h = tt
follow_revoked opened sends xid (o ∷ os) h = (by (eqb o.xid xid), follow_revoked opened sends xid os h.1)
  where
    by : (b : Bool) → Follows opened sends (cond b (record o { is_revoked = true }) o)
    by true = h.0
    by false = h.0

follow_more : (opened : LinkParameters) (sends : ℕ) (os : List OutstandingCall) (last : OutstandingCall) → AllByRecursion (λ (o : OutstandingCall). Follows opened sends o) os → last.xid ≡ xid_of_send opened last.send → last.send ≡ sends →
    AllByRecursion (λ (o : OutstandingCall). Follows opened (sends + 1) o) (os ++ last ∷ [])
follow_more opened sends [] last h xid number = ((xid, omega (arith, number)), tt)
follow_more opened sends (o ∷ os) last h xid number = ((h.0.0, (let lt = h.0.1 in omega (arith, lt))), follow_more opened sends os last h.1 xid number)

follow_segment : (opened : LinkParameters) (k : ClientState) (f : Frame) (r : Result Segment ℕ) → AllFollow opened k → AllFollow opened (with_segment k f r)
follow_segment opened k f (Err reason) h = h
follow_segment opened k f (Ok segment) h = by (message_completed k.received segment) (due_with_response k f segment) (read_request_of segment)
  where
    by : (m : Option (List ℕ)) (due : ℕ) (q : Option ReadRequest) → AllFollow opened (with_request (with_message k f.end m) due q)
    by None due None = h
    by None due (Some q) = h
    by (Some m) due None = follow_filter opened k.sends (λ o. not (eqb o.xid (word_at 0 m))) k.outstanding h
    by (Some m) due (Some q) = follow_filter opened k.sends (λ o. not (eqb o.xid (word_at 0 m))) k.outstanding h

-- a call is sent under the next xid
abbrev pub GivesNext : ClientState → RunEvent → Type 0
GivesNext k (FrameReceived f) = Unit {0}
GivesNext k (CallSubmitted place a) = a.xid ≡ next_sent_xid k
GivesNext k (MemoryRevoked place xid) = Unit {0}
GivesNext k (CallExecuted call) = Unit {0}
GivesNext k (QueueWritten taken) = Unit {0}
GivesNext k (ServerTold what) = Unit {0}

abbrev pub BothFollow : LinkParameters → ClientState → Type 0
BothFollow opened k = ComesNext opened k.next_xid k.sends k.waiting × AllFollow opened k

pub both_first : (opened : LinkParameters) → BothFollow opened (initial_client opened).state
both_first opened = (begins_next opened, tt)

segment_next_comes : (opened : LinkParameters) (k : ClientState) (f : Frame) (r : Result Segment ℕ) → ComesNext opened k.next_xid k.sends k.waiting →
    ComesNext opened (with_segment k f r).next_xid (with_segment k f r).sends (with_segment k f r).waiting
segment_next_comes opened k f r h = λ n.
    (λ i. xid_after (xids_waiting (segment_waiting k f r i)) (segment_next k f r i) n) ∙ h n ∙ sym (ap (λ (m : ℕ). xid_of_send opened (m + n)) (segment_sends k f r))

pub both_after : (opened : LinkParameters) (k : ClientState) (e : RunEvent) → GivesNext k e → BothFollow opened k → BothFollow opened (client_state_after opened k e)
unfolding client_state_after
both_after opened k (FrameReceived f) own h = by (is_hello f)
  where
    by : (b : Bool) → BothFollow opened (cond b (with_hello opened k f) (with_segment k f (client_segment k f)))
    by true = h
    by false = (segment_next_comes opened k f (client_segment k f) h.0, follow_segment opened k f (client_segment k f) h.1)
both_after opened k (CallSubmitted place a) own h =
    (comes_next opened a.xid k.next_xid k.sends k.waiting own h.0, follow_more opened k.sends k.outstanding (outstanding_of k a) h.1 (own ∙ comes_first opened k.next_xid k.sends k.waiting h.0) refl)
both_after opened k (MemoryRevoked place xid) own h = ((λ n. ap (λ (xids : List ℕ). xid_after xids k.next_xid n) (revoked_xids xid k.waiting) ∙ h.0 n), follow_revoked opened k.sends xid k.outstanding h.1)
both_after opened k (CallExecuted call) own h = h
both_after opened k (QueueWritten taken) own h = h
both_after opened k (ServerTold what) own h = h

both_next : (opened : LinkParameters) (r : EndState ClientState) (e : RunEvent) → GivesNext r.state e → BothFollow opened r.state → BothFollow opened (next_end_state (client_rules opened) r e).state
both_next opened r e own h = by_end r.state r.ended own h
  where
    by_why : (k : ClientState) (why : Option End) → GivesNext k e → BothFollow opened k → BothFollow opened (next_end_state_by (client_rules opened) k e why).state
    by_why k None next both = both_after opened k e next both
    by_why k (Some end) next both = both

    by_end : (k : ClientState) (ended : Option End) → GivesNext k e → BothFollow opened k → BothFollow opened (next_end_state_in (client_rules opened) k e ended).state
    by_end k None next both = by_why k (client_end k e) next both
    by_end k (Some end) next both = both

both_frames : (opened : LinkParameters) (r : EndState ClientState) (fs : List Frame) → BothFollow opened r.state → BothFollow opened (end_state_after (client_rules opened) r (map FrameReceived fs)).state
both_frames opened r [] h = h
both_frames opened r (f ∷ fs) h = both_frames opened (next_end_state (client_rules opened) r (FrameReceived f)) fs (both_next opened r (FrameReceived f) tt h)

-- ---- Each mark

both_one : (opened : LinkParameters) (r : EndState ClientState) (e : RunEvent) (b : Bool) → (b ≡ true → GivesNext r.state e) → BothFollow opened r.state → BothFollow opened (end_state_after (client_rules opened) r (if_own b (e ∷ []))).state
both_one opened r e true own h = both_next opened r e (own refl) h
both_one opened r e false own h = h

both_mark : (opened : LinkParameters) (link : ℕ) (before : List Mark) (mark : Mark) → BothFollow opened (client opened link before).state → AskedMark IsPrefixOf opened link before mark →
    BothFollow opened (end_state_after (client_rules opened) (client opened link before) (events_at link Initiator before mark)).state
both_mark opened link before (marks.Submit l call form (submissions.Accepted xid)) h asked =
    both_one opened (client opened link before) (CallSubmitted (length (bytes_received link Initiator before)) (record { xid = xid; call = call; form = form })) (eqb l link && true)
    (λ own. (asked (own_link (eqb l link) refl own)).next) h
  where
    own_link : (b : Bool) → eqb l link ≡ b → (b && true) ≡ true → l ≡ link
    own_link true is own = eqb-true l link is
    own_link false is own = absurd cc
both_mark opened link before (marks.Submit l call form (submissions.Refused why)) h asked = h
both_mark opened link before (marks.Submit l call form submissions.Dropped) h asked = h
both_mark opened link before (marks.Wrote l s bytes) h asked = both_one opened (client opened link before) (QueueWritten (length bytes)) _ (λ own. tt) h
both_mark opened link before (marks.Fed l s bytes) h asked = by _
  where
    by : (b : Bool) → BothFollow opened (end_state_after (client_rules opened) (client opened link before) (if_own b (map FrameReceived (frames_completed Responder (bytes_received link Initiator before) bytes)))).state
    by true = both_frames opened (client opened link before) (frames_completed Responder (bytes_received link Initiator before) bytes) h
    by false = h
both_mark opened link before (marks.Execute l xid moment payload place reply) h asked =
    both_one opened (client opened link before) (CallExecuted (record { xid = xid; moment = moment; payload = payload; place = place; reply = reply })) _ (λ own. tt) h
both_mark opened link before (marks.Done l xid outcome) h asked = h
both_mark opened link before (marks.Lost l xid) h asked = h
both_mark opened link before (marks.Forget l xid) h asked = h
both_mark opened link before (marks.Revoke l xid bytes) h asked = both_one opened (client opened link before) (MemoryRevoked (length (bytes_received link Initiator before)) xid) _ (λ own. tt) h
both_mark opened link before (marks.Drop l) h asked = h
both_mark opened link before (marks.Told l what) h asked = both_one opened (client opened link before) (ServerTold what) _ (λ own. tt) h

both_from : (opened : LinkParameters) (link : ℕ) (before run : List Mark) → BothFollow opened (client opened link before).state → AtEachMark (AskedMark IsPrefixOf opened link) before run → BothFollow opened (client opened link (before ++ run)).state
both_from opened link before [] h asked = subst (λ (r : List Mark). BothFollow opened (client opened link r).state) (sym (append-nil before)) h
both_from opened link before (mark ∷ run) h asked =
    subst (λ (r : List Mark). BothFollow opened (client opened link r).state) (append_assoc before (mark ∷ []) run)
    (both_from opened link (before ++ mark ∷ []) run
    (subst (λ (r : EndState ClientState). BothFollow opened r.state) (sym (client_one opened link before mark)) (both_mark opened link before mark h asked.0)) asked.1)

both_begin : (opened : LinkParameters) (link : ℕ) → BothFollow opened (client opened link []).state
unfolding client events
both_begin opened link = both_first opened

pub both_follow : (opened : LinkParameters) (link : ℕ) (run : List Mark) → AskedSoFar opened link run → BothFollow opened (client opened link run).state
both_follow opened link run asked = both_from opened link [] run (both_begin opened link) asked

pub xids_follow : XidsFollow
xids_follow opened link run asked = (both_follow opened link run asked).1

-- so the xid of an accepted call is the one of its Send
pub accepted_follows : (opened : LinkParameters) (link : ℕ) (before : List Mark) (call : Call) (form : Form) (xid : ℕ) → AskedSoFar opened link before → IsAccepted opened link before call form xid →
    xid ≡ xid_of_send opened (client opened link before).state.sends
accepted_follows opened link before call form xid asked h =
    let k : ClientState = (client opened link before).state in
    h.next ∙ comes_first opened k.next_xid k.sends k.waiting (both_follow opened link before asked).0
