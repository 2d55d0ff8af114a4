-- Laws of marks: places rise along a run, each call has its place in the journal, none completes twice, and xids are not given twice.
use Rattle.std.proofs.Common.{◌≡◌, ◌≢◌, ℕ, ◌+◌, ◌<◌, ◌≤◌, Bool, true, false, cond, ◌&&◌, eqb, List, [], ◌∷◌, ◌++◌, length, map, take, drop, Option, Some, None, Result, Ok, Err, refl, sym, ap, subst, ◌∙◌, arith, append_assoc, append-nil, length-append}
use Rattle.std.proofs.lemmas.List.{take_at, drop_at}
use Rattle.std.proofs.lemmas.Bool.{eqb-true, eq-eqb}
use Rattle.std.specs.Prelude.{Contains}
use Rattle.std.proofs.lemmas.Grind.{flat_map-append}
use Rattle.nr_wire.specs.declared.hello.Side.TheVariants.{Initiator, Responder}
use Rattle.nr_wire.specs.Segment.{Segment}
use Rattle.nr_reduce.specs.declared.call.Call.{Call}
use Rattle.nr_link.specs.declared.end.End.{End as Stop}
use Rattle.nr_reduce.specs.declared.call.Form.{Form}
use Rattle.nr_reduce.specs.declared.call.Outcome.{Outcome}
use Rattle.nr_reduce.specs.declared.call.Submission.TheVariants as submissions
use Rattle.nr_outside.specs.declared.moment.Moment.{Moment}
use Rattle.nr_reduce.specs.declared.mark.Mark.{Mark}
use Rattle.nr_reduce.specs.declared.mark.Mark.TheVariants as marks
use Rattle.nr_reduce.specs.declared.mark.Entry.{Entry}
use Rattle.nr_reduce.specs.declared.mark.LinkParameters.{LinkParameters}
use Rattle.nr_reduce.specs.History.{AcceptedCall, CompletedCall, completed_calls, bytes_received}
use Rattle.nr_reduce.specs.PlainJournal.{PlainServer, entries_added, journal}
use Rattle.nr_reduce.specs.AtEachMark.{AtEachMark}
use Rattle.nr_link.specs.Frames.{Frame, is_hello, frames_completed}
use Rattle.nr_link.specs.ReceiveState.{ReadRequest, message_completed, read_request_of}
use Rattle.nr_reduce.specs.Events.{RunEvent, if_own, events_at}
use Rattle.nr_reduce.specs.EndRules.{EndState, end_state_after, next_end_state, next_end_state_by, next_end_state_in}
use Rattle.nr_reduce.specs.Events.RunEvent.{FrameReceived, CallSubmitted, MemoryRevoked, CallExecuted, QueueWritten, ServerTold}
use Rattle.nr_reduce.specs.ClientState.{WaitingCall, ClientState, first_of, others_than}
use Rattle.nr_reduce.specs.SubmitAnswer.{first_xid_or, next_sent_xid}
use Rattle.nr_reduce.specs.Client.{revoked_waiting, xid_unless_waiting, client_state_after, client_end, client_rules, with_message, with_request, with_segment, with_hello, due_with_response, client_segment}
use Rattle.nr_reduce.specs.Run.{client}
use Rattle.nr_reduce.specs.Asked.{AskedMark, IsAccepted, IsResent}
use Rattle.nr_reduce.specs.Journal.{AtPlace, PlacedMark, Journaled}
use Rattle.nr_reduce.proofs.Steps.{client_one}
use Rattle.nr_reduce.proofs.Standing.{itself}

-- a fact of each mark, at one of them
pub AtEachMark_at : (P : List Mark → Mark → Type 0) (before run : List Mark) (mark : Mark) (after : List Mark) → AtEachMark P before (run ++ mark ∷ after) → P (before ++ run) mark
AtEachMark_at P before [] mark after h = subst (λ (b : List Mark). P b mark) (sym (append-nil before)) h.0
AtEachMark_at P before (m ∷ run) mark after h = subst (λ (b : List Mark). P b mark) (append_assoc before (m ∷ []) run) (AtEachMark_at P (before ++ m ∷ []) run mark after h.1)

-- ---- Places

journal_append : (plain : PlainServer) (xs ys : List Mark) → journal plain (xs ++ ys) ≡ journal plain xs ++ journal plain ys
unfolding journal
journal_append plain xs ys = flat_map-append (entries_added plain) xs ys

-- Of two calls that were executed, the later one has the place that isn't smaller.
pub places_rise : (plain : PlainServer) (J : List Entry) (run before between after : List Mark) (l m xid yid : ℕ) (moment now : Moment) (payload asked : List ℕ) (place later : ℕ) (reply answer : List ℕ) →
    run ≡ before ++ marks.Execute l xid moment payload place reply ∷ (between ++ marks.Execute m yid now asked later answer ∷ after) → Journaled plain J run → place ≤ later
places_rise plain J run before between after l m xid yid moment now payload asked place later reply answer is h =
    let first = marks.Execute l xid moment payload place reply in
    let second = marks.Execute m yid now asked later answer in
    let places : AtEachMark (PlacedMark plain) [] (before ++ first ∷ (between ++ second ∷ after)) = subst (λ (r : List Mark). AtEachMark (PlacedMark plain) [] r) is h.places in
    let one : place ≡ length (journal plain before) = AtEachMark_at (PlacedMark plain) [] before first (between ++ second ∷ after) places in
    let two : later ≡ length (journal plain (before ++ first ∷ between)) =
    AtEachMark_at (PlacedMark plain) [] (before ++ first ∷ between) second after (subst (λ (r : List Mark). AtEachMark (PlacedMark plain) [] r) (sym (append_assoc before (first ∷ between) (second ∷ after))) places) in
    let grown = ap (λ (es : List Entry). length es) (journal_append plain before (first ∷ between)) ∙ length-append (journal plain before) (journal plain (first ∷ between)) in
    omega (arith, one, two, grown)

-- A call that was answered by the plain server at its moment is answered so at its place in the one journal, and what it added stands there.
pub at_place : (plain : PlainServer) (J : List Entry) (run before after : List Mark) (l xid : ℕ) (moment : Moment) (payload : List ℕ) (place : ℕ) (reply : List ℕ) →
    run ≡ before ++ marks.Execute l xid moment payload place reply ∷ after → Journaled plain J run → plain.Replies (journal plain before) moment payload reply → AtPlace plain J moment payload place reply
unfolding journal
at_place plain J run before after l xid moment payload place reply is h replied =
    let mark = marks.Execute l xid moment payload place reply in
    let own = plain.adds moment payload reply in
    let places : AtEachMark (PlacedMark plain) [] (before ++ mark ∷ after) = subst (λ (r : List Mark). AtEachMark (PlacedMark plain) [] r) is h.places in
    let at : place ≡ length (journal plain before) = AtEachMark_at (PlacedMark plain) [] before mark after places in
    let whole : J ≡ journal plain before ++ (own ++ journal plain after) = sym h.is ∙ ap (λ (r : List Mark). journal plain r) is ∙ journal_append plain before (mark ∷ after) in
    let front : take place J ≡ journal plain before = ap (λ (es : List Entry). take place es) whole ∙ take_at (journal plain before) (own ++ journal plain after) place (sym at) in
    let behind : drop place J ≡ own ++ journal plain after = ap (λ (es : List Entry). drop place es) whole ∙ drop_at (journal plain before) (own ++ journal plain after) place (sym at) in record {
      within = omega (arith, at, ap (λ (es : List Entry). length es) whole, length-append (journal plain before) (own ++ journal plain after));
      replied = subst (λ (es : List Entry). plain.Replies es moment payload reply) (sym front) replied;
      entry = ap (λ (es : List Entry). take (length own) es) behind ∙ take_at own (journal plain after) (length own) refl;
    }

-- ---- Once

-- A call that completes didn't complete before.
pub completes_once : (Relates : List ℕ → List ℕ → Type 0) (opened : LinkParameters) (link xid : ℕ) (outcome : Outcome) (run before after : List Mark) → run ≡ before ++ marks.Done link xid outcome ∷ after
    → AtEachMark (AskedMark Relates opened link) [] run → (c : CompletedCall) → Contains (completed_calls link before) c → c.xid ≢ xid
completes_once Relates opened link xid outcome run before after is h c there =
    let asked : AtEachMark (AskedMark Relates opened link) [] (before ++ marks.Done link xid outcome ∷ after) = subst (λ (r : List Mark). AtEachMark (AskedMark Relates opened link) [] r) is h in
    (AtEachMark_at (AskedMark Relates opened link) [] before (marks.Done link xid outcome) after asked refl).awaited.first c there

-- ---- Xids: the next one never falls

by_request : (m : ClientState) (due : ℕ) (r : Option ReadRequest) → (with_request m due r).next_xid ≡ m.next_xid
by_request m due None = refl
by_request m due (Some r) = refl

by_message : (k : ClientState) (place : ℕ) (message : Option (List ℕ)) → (with_message k place message).next_xid ≡ k.next_xid
by_message k place None = refl
by_message k place (Some message) = refl

pub segment_next : (k : ClientState) (f : Frame) (r : Result Segment ℕ) → (with_segment k f r).next_xid ≡ k.next_xid
segment_next k f (Err reason) = refl
segment_next k f (Ok segment) =
    by_request (with_message k f.end (message_completed k.received segment)) (due_with_response k f segment) (read_request_of segment) ∙ by_message k f.end (message_completed k.received segment)

-- the number of Sends stays too
pub segment_sends : (k : ClientState) (f : Frame) (r : Result Segment ℕ) → (with_segment k f r).sends ≡ k.sends
segment_sends k f (Err reason) = refl
segment_sends k f (Ok segment) = by (message_completed k.received segment) (read_request_of segment)
  where
    by : (m : Option (List ℕ)) (q : Option ReadRequest) → (with_request (with_message k f.end m) (due_with_response k f segment) q).sends ≡ k.sends
    by None None = refl
    by None (Some q) = refl
    by (Some m) None = refl
    by (Some m) (Some q) = refl

-- and what waits to be sent again
pub segment_waiting : (k : ClientState) (f : Frame) (r : Result Segment ℕ) → (with_segment k f r).waiting ≡ k.waiting
segment_waiting k f (Err reason) = refl
segment_waiting k f (Ok segment) = by (message_completed k.received segment) (read_request_of segment)
  where
    by : (m : Option (List ℕ)) (q : Option ReadRequest) → (with_request (with_message k f.end m) (due_with_response k f segment) q).waiting ≡ k.waiting
    by None None = refl
    by None (Some q) = refl
    by (Some m) None = refl
    by (Some m) (Some q) = refl

by_frame : (opened : LinkParameters) (k : ClientState) (f : Frame) (b : Bool) → k.next_xid ≤ (cond b (with_hello opened k f) (with_segment k f (client_segment k f))).next_xid
by_frame opened k f true = omega arith
by_frame opened k f false = (let e = segment_next k f (client_segment k f) in omega (arith, e))

-- ---- The xid that is sent next: it rises with each call

abbrev next_sent_at : LinkParameters → ℕ → List Mark → ℕ
next_sent_at opened link run = next_sent_xid (client opened link run).state

-- the one after a call of this xid, which is the one that is sent next
abbrev pub sent_after : (xid next : ℕ) → List WaitingCall → ℕ
sent_after xid next ws = first_xid_or (xid_unless_waiting (first_of ws xid) next) (others_than ws xid)

pub submit_rises : (has_hello : Bool) (xid next : ℕ) (ws : List WaitingCall) (call : Call) (form : Form) → xid ≡ first_xid_or next ws → IsResent has_hello next ws call form → xid < sent_after xid next ws
submit_rises has_hello xid next [] call form own h = omega (arith, own)
submit_rises has_hello xid next (w ∷ ws) call form own h = by (eqb w.xid xid) (eq-eqb w.xid xid (sym own))
  where
    by : (b : Bool) → b ≡ true → xid < first_xid_or (xid_unless_waiting (cond b (Some w) None) next) (cond b ws (w ∷ ws))
    by true is = (let lt = h.rises in omega (arith, own, lt))
    by false is = absurd cc

pub revoked_first : (xid next : ℕ) (ws : List WaitingCall) → first_xid_or next (map (revoked_waiting xid) ws) ≡ first_xid_or next ws
revoked_first xid next [] = refl
revoked_first xid next (w ∷ ws) = by (eqb w.xid xid)
  where
    by : (b : Bool) → (cond b (record w { is_revoked = true }) w).xid ≡ w.xid
    by true = refl
    by false = refl

-- what an event asks, so that it rises or stays
abbrev Rises : ClientState → RunEvent → Type 0
Rises k (FrameReceived f) = Unit {0}
Rises k (CallSubmitted place a) = next_sent_xid k ≤ sent_after a.xid k.next_xid k.waiting
Rises k (MemoryRevoked place xid) = Unit {0}
Rises k (CallExecuted call) = Unit {0}
Rises k (QueueWritten taken) = Unit {0}
Rises k (ServerTold what) = Unit {0}

sent_event : (opened : LinkParameters) (k : ClientState) (event : RunEvent) → Rises k event → next_sent_xid k ≤ next_sent_xid (client_state_after opened k event)
unfolding client_state_after
sent_event opened k (FrameReceived f) h = by (is_hello f)
  where
    by : (b : Bool) → next_sent_xid k ≤ next_sent_xid (cond b (with_hello opened k f) (with_segment k f (client_segment k f)))
    by true = omega arith
    by false =
        let same : next_sent_xid (with_segment k f (client_segment k f)) ≡ next_sent_xid k = (λ i. first_xid_or (segment_next k f (client_segment k f) i) (segment_waiting k f (client_segment k f) i)) in
        omega (arith, same)
sent_event opened k (CallSubmitted place a) h = h
sent_event opened k (MemoryRevoked place xid) h = (let e = revoked_first xid k.next_xid k.waiting in omega (arith, e))
sent_event opened k (CallExecuted call) h = omega arith
sent_event opened k (QueueWritten taken) h = omega arith
sent_event opened k (ServerTold what) h = omega arith

sent_next : (opened : LinkParameters) (r : EndState ClientState) (event : RunEvent) → Rises r.state event → next_sent_xid r.state ≤ next_sent_xid (next_end_state (client_rules opened) r event).state
sent_next opened r event h = by_end r.state r.ended h
  where
    by_why : (k : ClientState) (why : Option Stop) → Rises k event → next_sent_xid k ≤ next_sent_xid (next_end_state_by (client_rules opened) k event why).state
    by_why k None h = sent_event opened k event h
    by_why k (Some end) h = omega arith

    by_end : (k : ClientState) (ended : Option Stop) → Rises k event → next_sent_xid k ≤ next_sent_xid (next_end_state_in (client_rules opened) k event ended).state
    by_end k None h = by_why k (client_end k event) h
    by_end k (Some end) h = omega arith

sent_one : (opened : LinkParameters) (r : EndState ClientState) (event : RunEvent) (b : Bool) → (b ≡ true → Rises r.state event) →
    next_sent_xid r.state ≤ next_sent_xid (end_state_after (client_rules opened) r (if_own b (event ∷ []))).state
sent_one opened r event true h = sent_next opened r event (h refl)
sent_one opened r event false h = omega arith

sent_frames : (opened : LinkParameters) (r : EndState ClientState) (fs : List Frame) → next_sent_xid r.state ≤ next_sent_xid (end_state_after (client_rules opened) r (map FrameReceived fs)).state
sent_frames opened r [] = omega arith
sent_frames opened r (f ∷ fs) =
    let one = sent_next opened r (FrameReceived f) tt in
    let rest = sent_frames opened (next_end_state (client_rules opened) r (FrameReceived f)) fs in
    omega (arith, one, rest)

own_link : (l link : ℕ) (b : Bool) → eqb l link ≡ b → (b && true) ≡ true → l ≡ link
own_link l link true is own = eqb-true l link is
own_link l link false is own = absurd cc

accepted_rises : (opened : LinkParameters) (link : ℕ) (before : List Mark) (call : Call) (form : Form) (xid : ℕ) → IsAccepted opened link before call form xid →
    xid < sent_after xid (client opened link before).state.next_xid (client opened link before).state.waiting
accepted_rises opened link before call form xid h = submit_rises (client opened link before).state.has_hello xid (client opened link before).state.next_xid (client opened link before).state.waiting call form h.next h.resent

sent_mark : (Relates : List ℕ → List ℕ → Type 0) (opened : LinkParameters) (link : ℕ) (before : List Mark) (mark : Mark) → AskedMark Relates opened link before mark →
    next_sent_at opened link before ≤ next_sent_xid (end_state_after (client_rules opened) (client opened link before) (events_at link Initiator before mark)).state
sent_mark Relates opened link before (marks.Submit l call form (submissions.Accepted xid)) asked =
    sent_one opened (client opened link before) (CallSubmitted (length (bytes_received link Initiator before)) (record { xid = xid; call = call; form = form })) (eqb l link && true)
    (λ own. (let h = asked (own_link l link (eqb l link) refl own) in let next = h.next in let rises = accepted_rises opened link before call form xid h in omega (arith, next, rises)))
sent_mark Relates opened link before (marks.Submit l call form (submissions.Refused why)) asked = omega arith
sent_mark Relates opened link before (marks.Submit l call form submissions.Dropped) asked = omega arith
sent_mark Relates opened link before (marks.Wrote l s bytes) asked = sent_one opened (client opened link before) (QueueWritten (length bytes)) _ (λ own. tt)
sent_mark Relates opened link before (marks.Fed l s bytes) asked = by _
  where
    by : (b : Bool) → next_sent_at opened link before ≤ next_sent_xid (end_state_after (client_rules opened) (client opened link before) (if_own b (map FrameReceived (frames_completed Responder (bytes_received link Initiator before) bytes)))).state
    by true = sent_frames opened (client opened link before) (frames_completed Responder (bytes_received link Initiator before) bytes)
    by false = omega arith
sent_mark Relates opened link before (marks.Execute l xid moment payload place reply) asked =
    sent_one opened (client opened link before) (CallExecuted (record { xid = xid; moment = moment; payload = payload; place = place; reply = reply })) _ (λ own. tt)
sent_mark Relates opened link before (marks.Done l xid outcome) asked = omega arith
sent_mark Relates opened link before (marks.Lost l xid) asked = omega arith
sent_mark Relates opened link before (marks.Forget l xid) asked = omega arith
sent_mark Relates opened link before (marks.Revoke l xid bytes) asked = sent_one opened (client opened link before) (MemoryRevoked (length (bytes_received link Initiator before)) xid) _ (λ own. tt)
sent_mark Relates opened link before (marks.Drop l) asked = omega arith
sent_mark Relates opened link before (marks.Told l what) asked = sent_one opened (client opened link before) (ServerTold what) _ (λ own. tt)

pub sent_rises : (Relates : List ℕ → List ℕ → Type 0) (opened : LinkParameters) (link : ℕ) (run more : List Mark) → AtEachMark (AskedMark Relates opened link) run more → next_sent_at opened link run ≤ next_sent_at opened link (run ++ more)
sent_rises Relates opened link run [] asked = (let e = ap (λ (r : List Mark). next_sent_at opened link r) (append-nil run) in omega (arith, e))
sent_rises Relates opened link run (mark ∷ more) asked =
    let one = ap (λ (r : EndState ClientState). next_sent_xid r.state) (client_one opened link run mark) in
    let own = sent_mark Relates opened link run mark asked.0 in
    let rest = sent_rises Relates opened link (run ++ mark ∷ []) more asked.1 in
    let same = ap (λ (r : List Mark). next_sent_at opened link r) (append_assoc run (mark ∷ []) more) in
    omega (arith, one, own, rest, same)

submits_one : (opened : LinkParameters) (k : ClientState) (ended : Option Stop) (place : ℕ) (a : AcceptedCall) → ended ≡ None →
    next_sent_xid (next_end_state_in (client_rules opened) k (CallSubmitted place a) ended).state ≡ sent_after a.xid k.next_xid k.waiting
unfolding client_state_after client_end
submits_one opened k None place a e = refl
submits_one opened k (Some end) place a e = absurd cc

-- after an accepted call it is larger
pub sent_after_submit : (opened : LinkParameters) (link : ℕ) (run : List Mark) (call : Call) (form : Form) (xid : ℕ) → IsAccepted opened link run call form xid →
    xid < next_sent_at opened link (run ++ marks.Submit link call form (submissions.Accepted xid) ∷ [])
sent_after_submit opened link run call form xid h =
    let a : AcceptedCall = record { xid = xid; call = call; form = form } in
    let r = client opened link run in
    let is : next_sent_at opened link (run ++ marks.Submit link call form (submissions.Accepted xid) ∷ []) ≡ sent_after xid r.state.next_xid r.state.waiting =
    ap (λ (r : EndState ClientState). next_sent_xid r.state) (client_one opened link run (marks.Submit link call form (submissions.Accepted xid)))
    ∙ ap (λ (b : Bool). next_sent_xid (end_state_after (client_rules opened) r (if_own (b && true) (CallSubmitted (length (bytes_received link Initiator run)) a ∷ []))).state) (itself link)
    ∙ submits_one opened r.state r.ended (length (bytes_received link Initiator run)) a h.stays in
    let rises = accepted_rises opened link run call form xid h in
    omega (arith, is, rises)

-- the marks from one place on to another keep the law
part_of : (P : List Mark → Mark → Type 0) (before between after : List Mark) → AtEachMark P before (between ++ after) → AtEachMark P before between
part_of P before [] after h = tt
part_of P before (mark ∷ between) after h = (h.0, part_of P (before ++ mark ∷ []) between after h.1)

pub later_of : (P : List Mark → Mark → Type 0) (start before more : List Mark) → AtEachMark P start (before ++ more) → AtEachMark P (start ++ before) more
later_of P start [] more h = subst (λ (r : List Mark). AtEachMark P r more) (sym (append-nil start)) h
later_of P start (mark ∷ before) more h = subst (λ (r : List Mark). AtEachMark P r more) (append_assoc start (mark ∷ []) before) (later_of P (start ++ mark ∷ []) before more h.1)

-- No xid is given twice on a link.
pub xids_differ : (Relates : List ℕ → List ℕ → Type 0) (opened : LinkParameters) (link : ℕ) (run before between after : List Mark) (call other : Call) (form way : Form) (xid yid : ℕ)
    → run ≡ before ++ marks.Submit link call form (submissions.Accepted xid) ∷ (between ++ marks.Submit link other way (submissions.Accepted yid) ∷ after)
    → AtEachMark (AskedMark Relates opened link) [] run → xid < yid
xids_differ Relates opened link run before between after call other form way xid yid is h =
    let first = marks.Submit link call form (submissions.Accepted xid) in
    let second = marks.Submit link other way (submissions.Accepted yid) in
    let P = AskedMark Relates opened link in
    let asked : AtEachMark P [] (before ++ first ∷ (between ++ second ∷ after)) = subst (λ (r : List Mark). AtEachMark P [] r) is h in
    let one : IsAccepted opened link before call form xid = AtEachMark_at P [] before first (between ++ second ∷ after) asked refl in
    let two : IsAccepted opened link (before ++ first ∷ between) other way yid =
    AtEachMark_at P [] (before ++ first ∷ between) second after (subst (λ (r : List Mark). AtEachMark P [] r) (sym (append_assoc before (first ∷ between) (second ∷ after))) asked) refl in
    let rest : AtEachMark P before (first ∷ (between ++ second ∷ after)) = later_of P [] before (first ∷ (between ++ second ∷ after)) asked in
    let middle : AtEachMark P (before ++ first ∷ []) between = part_of P (before ++ first ∷ []) between (second ∷ after) rest.1 in
    let larger = sent_after_submit opened link before call form xid one in
    let rises = sent_rises Relates opened link (before ++ first ∷ []) between middle in
    let same = ap (λ (r : List Mark). next_sent_at opened link r) (append_assoc before (first ∷ []) between) in
    let y = two.next in
    omega (arith, y, larger, rises, same)
