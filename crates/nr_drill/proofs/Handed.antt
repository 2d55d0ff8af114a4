-- What each function of a drill leaves of the outcomes that are due on its link: none, if none was due before, and none after bytes went down.
use Rattle.std.specs.Prelude.{not, ◌||◌, ◌&&◌, ◌-◌, slice_get, if◌then◌else◌}
use Rattle.std.specs.List.{AllByRecursion, flat_map, filter, find, list_any}
use Rattle.std.proofs.Common.{◌≡◌, ◌≢◌, ℕ, ◌+◌, ◌≤◌, ◌<◌, cond, eqb, arith, zero, suc, Bool, true, false, List, [], ◌∷◌, ◌++◌, length, map, take, drop, Option, None, Some, Result, Ok, Err, refl, sym, ap, subst, ◌∙◌, append_assoc, append-nil, eqb-true}
use Rattle.std.proofs.lemmas.Grind.{flat_map-append}
use Rattle.nr_wire.specs.declared.hello.Side.{Side}
use Rattle.nr_wire.specs.declared.hello.Side.TheVariants.{Initiator, Responder}
use Rattle.nr_wire.specs.Segment.{Segment}
use Rattle.nr_link.specs.declared.end.End.{End}
use Rattle.nr_link.specs.Frames.{Frame, frames_completed, is_hello}
use Rattle.nr_link.specs.ReceiveState.{ReadRequest, message_completed, read_request_of}
use Rattle.nr_xdr.specs.Fields.{word_at}
use Rattle.nr_reduce.specs.declared.call.Call.{Call}
use Rattle.nr_reduce.specs.declared.call.Form.{Form}
use Rattle.nr_reduce.specs.declared.call.Submission.{Submission}
use Rattle.nr_reduce.specs.declared.call.Submission.TheVariants as submissions
use Rattle.nr_reduce.specs.declared.mark.Mark.{Mark}
use Rattle.nr_reduce.specs.declared.mark.Mark.TheVariants as marks
use Rattle.nr_reduce.specs.declared.mark.Told.TheVariants.{Granted}
use Rattle.nr_reduce.specs.declared.mark.Told.TheVariants as told
use Rattle.nr_reduce.specs.declared.mark.LinkParameters.{LinkParameters}
use Rattle.nr_reduce.specs.AtEachMark.{AtEachMark}
use Rattle.nr_reduce.specs.Opening.{IsOpened}
use Rattle.nr_rpc.specs.Credential.{CanWriteCred}
use Rattle.nr_reduce.specs.History.{AcceptedCall, CompletedCall, accepted_as, accepted_at, accepted_calls, completed_at, completed_calls, bytes_received, abandons, is_abandoned}
use Rattle.nr_reduce.specs.OutcomesDue.{is_completed, outcomes_of_call, outcomes_due}
use Rattle.nr_reduce.specs.Events.{RunEvent, events, events_at, if_own}
use Rattle.nr_reduce.specs.Events.RunEvent.{FrameReceived, CallSubmitted, MemoryRevoked, CallExecuted, QueueWritten, ServerTold}
use Rattle.nr_reduce.specs.EndRules.{EndState, next_end_state, next_end_state_by, next_end_state_in, end_state_after}
use Rattle.nr_reduce.specs.ClientState.{ClientState, OutstandingCall, is_sent}
use Rattle.nr_reduce.specs.ClientMessages.{ReplyVerdict, reply_verdict}
use Rattle.nr_reduce.specs.ClientMessages.ReplyVerdict.{EndsLink, GivesOutcome}
use Rattle.nr_reduce.specs.Client.{client_rules, client_segment, client_end, client_state_after, outcomes_of, with_message, with_request, with_segment, outstanding_of, revoked_call, with_hello, due_with_response}
use Rattle.nr_reduce.specs.ServerState.{ReadyCall}
use Rattle.nr_reduce.specs.SubmitAnswer.{submit_answer_after, next_sent_xid}
use Rattle.nr_reduce.specs.Run.{client}
use Rattle.nr_reduce.specs.Asked.{AskedMark, IsAll, IsResent, revoked_bytes}
use Rattle.nr_reduce.proofs.Placing.{sent_after, submit_rises, revoked_first}
use Rattle.nr_reduce.proofs.Steps.{client_one}
use Rattle.nr_reduce.proofs.Standing.{itself, one_more}
use Rattle.nr_reduce.proofs.Waiting.{accepted_one}
use Rattle.nr_laws.proofs.LinkInvariants.{AreAtMost}
use Rattle.nr_laws.proofs.DistinctKeys.{any_append, or_left_lem, or_right_lem, below_more, below_append, below_kept}
use Rattle.nr_laws.proofs.DoneCalls.{gives_by}
use Rattle.nr_drill.specs.Drill.{link_of, Setting, Drill, Pipes, unwritten, after_output, after_all_output, settled, pipes_of, with_mark, after_submit, after_feeding, after_feeding_up, after_up, waiting_call, after_answer, after_execution, after_work, after_drop, after_raw, after_feeding_down, after_handing, after_done, after_dones, after_outcomes, after_down, answer_of_line, open_xid, after_giving_up, after_forget, after_taking_back, after_revoke, after_all_up, after_opening, after_grant, GivenReply, client_of, standing_of, reply_given, after_resends, after_call}
use Rattle.nr_drill.proofs.Lawful.{Keeps, IsNoFrame, NoFrames, if_none_lem, other_side_lem, no_length, IsGreeted, answer_asked}
use Rattle.nr_drill.proofs.Followed.{no_event, apart}
use Rattle.nr_reduce.specs.NumberedJournal.{Standing}
use Rattle.nr_reduce.specs.NumberedJournal.Standing.{Old, Kept, New}
use Rattle.nr_reduce.specs.Served.{last_frame_at}

-- ===== the xids of outcomes are below the one that is sent next

pub record XidsBelow (o : LinkParameters) (k : ClientState) : Type 0 where
  pub waiting : AreAtMost (λ (c : OutstandingCall). c.xid + 1) (next_sent_xid k) k.outstanding
  pub brought : AreAtMost (λ (c : CompletedCall). c.xid + 1) (next_sent_xid k) k.outcomes

found_below : (n : ℕ) (p : OutstandingCall → Bool) (os : List OutstandingCall) (c : OutstandingCall) → find p os ≡ Some c → AreAtMost (λ (c : OutstandingCall). c.xid + 1) n os → c.xid + 1 ≤ n
found_below n p [] c e h = absurd cc
found_below n p (x ∷ os) c e h = by (p x) e (λ more. found_below n p os c more h.1)
  where
    by : (b : Bool) → cond b (Some x) (find p os) ≡ Some c → (find p os ≡ Some c → c.xid + 1 ≤ n) → c.xid + 1 ≤ n
    by true e more = (let is : x ≡ c = cc in subst (λ (q : OutstandingCall). q.xid + 1 ≤ n) is h.0)
    by false e more = more e

given_below : (n : ℕ) (k : ClientState) (place : ℕ) (m : List ℕ) (v : ReplyVerdict) → reply_verdict k place m ≡ v → AreAtMost (λ (c : OutstandingCall). c.xid + 1) n k.outstanding →
    AreAtMost (λ (c : CompletedCall). c.xid + 1) n (outcomes_of v)
given_below n k place m (EndsLink reason) e h = tt
given_below n k place m (GivesOutcome xid None) e h = tt
given_below n k place m (GivesOutcome xid (Some outcome)) e h =
    let g = gives_by k place m xid (Some outcome) e in
    let below = found_below n (λ o. eqb o.xid g.header.xid && is_sent k o) k.outstanding g.call g.is_call h in
    let own = g.call_xid in
    (omega (arith, below, own), tt)

message_below : (o : LinkParameters) (k : ClientState) (place : ℕ) (m : Option (List ℕ)) → XidsBelow o k → XidsBelow o (with_message k place m)
message_below o k place None h = h
message_below o k place (Some m) h = record {
  waiting = below_kept (λ (c : OutstandingCall). c.xid + 1) (next_sent_xid k) (λ c. not (eqb c.xid (word_at 0 m))) k.outstanding h.waiting;
  brought = below_append (λ (c : CompletedCall). c.xid + 1) (next_sent_xid k) k.outcomes (outcomes_of (reply_verdict k place m)) h.brought (given_below (next_sent_xid k) k place m (reply_verdict k place m) refl h.waiting);
}

request_below : (o : LinkParameters) (k : ClientState) (due : ℕ) (q : Option ReadRequest) → XidsBelow o k → XidsBelow o (with_request k due q)
request_below o k due None h = h
request_below o k due (Some q) h = record { waiting = h.waiting; brought = h.brought }

segment_below : (o : LinkParameters) (k : ClientState) (f : Frame) (r : Result Segment ℕ) → XidsBelow o k → XidsBelow o (with_segment k f r)
segment_below o k f (Err reason) h = h
segment_below o k f (Ok segment) h =
    let m = request_below o (with_message k f.end (message_completed k.received segment)) (due_with_response k f segment) (read_request_of segment) (message_below o k f.end (message_completed k.received segment) h) in
    record { waiting = m.waiting; brought = m.brought }

same_xids : (n : ℕ) (f : OutstandingCall → OutstandingCall) (os : List OutstandingCall) → ((c : OutstandingCall) → (f c).xid ≡ c.xid) → AreAtMost (λ (c : OutstandingCall). c.xid + 1) n os →
    AreAtMost (λ (c : OutstandingCall). c.xid + 1) n (map f os)
same_xids n f [] same h = tt
same_xids n f (c ∷ os) same h = ((let a = h.0 in let b = same c in omega (arith, a, b)), same_xids n f os same h.1)

revoked_xid : (xid : ℕ) (c : OutstandingCall) → (revoked_call xid c).xid ≡ c.xid
revoked_xid xid c = by (eqb c.xid xid)
  where
    by : (b : Bool) → (cond b (record c { is_revoked = true }) c).xid ≡ c.xid
    by true = refl
    by false = refl

-- a call that is submitted is the one to be sent next
abbrev IsNext : LinkParameters → ClientState → RunEvent → Type 0
IsNext o k (FrameReceived f) = Unit {0}
IsNext o k (CallSubmitted place a) = (a.xid ≡ next_sent_xid k) × IsResent k.has_hello k.next_xid k.waiting a.call a.form
IsNext o k (MemoryRevoked place xid) = Unit {0}
IsNext o k (CallExecuted call) = Unit {0}
IsNext o k (QueueWritten taken) = Unit {0}
IsNext o k (ServerTold what) = Unit {0}

after_below : (o : LinkParameters) (k : ClientState) (e : RunEvent) → IsNext o k e → XidsBelow o k → XidsBelow o (client_state_after o k e)
unfolding client_state_after
after_below o k (FrameReceived f) next h = by (is_hello f)
  where
    by : (b : Bool) → XidsBelow o (cond b (with_hello o k f) (with_segment k f (client_segment k f)))
    by true = record { waiting = h.waiting; brought = h.brought }
    by false = segment_below o k f (client_segment k f) h
after_below o k (CallSubmitted place a) next h =
    let is = next.0 in
    let rises : a.xid < sent_after a.xid k.next_xid k.waiting = submit_rises k.has_hello a.xid k.next_xid k.waiting a.call a.form is next.1 in
    let more : next_sent_xid k ≤ sent_after a.xid k.next_xid k.waiting = omega (arith, is, rises) in
    record {
      waiting = below_append (λ (c : OutstandingCall). c.xid + 1) (sent_after a.xid k.next_xid k.waiting) k.outstanding (outstanding_of k a ∷ [])
          (below_more (λ (c : OutstandingCall). c.xid + 1) (next_sent_xid k) (sent_after a.xid k.next_xid k.waiting) k.outstanding more h.waiting) (omega (arith, rises), tt);
      brought = below_more (λ (c : CompletedCall). c.xid + 1) (next_sent_xid k) (sent_after a.xid k.next_xid k.waiting) k.outcomes more h.brought;
    }
after_below o k (MemoryRevoked place xid) next h =
    let same = sym (revoked_first xid k.next_xid k.waiting) in
    record {
      waiting = subst (λ (n : ℕ). AreAtMost (λ (c : OutstandingCall). c.xid + 1) n (map (revoked_call xid) k.outstanding)) same (same_xids (next_sent_xid k) (revoked_call xid) k.outstanding (revoked_xid xid) h.waiting);
      brought = subst (λ (n : ℕ). AreAtMost (λ (c : CompletedCall). c.xid + 1) n k.outcomes) same h.brought;
    }
after_below o k (CallExecuted call) next h = h
after_below o k (QueueWritten taken) next h = record { waiting = h.waiting; brought = h.brought }
after_below o k (ServerTold what) next h = h

next_below : (o : LinkParameters) (k : ClientState) (ended : Option End) (e : RunEvent) → IsNext o k e → XidsBelow o k → XidsBelow o (next_end_state_in (client_rules o) k e ended).state
next_below o k (Some end) e next h = h
next_below o k None e next h = by (client_end k e)
  where
    by : (why : Option End) → XidsBelow o (next_end_state_by (client_rules o) k e why).state
    by None = after_below o k e next h
    by (Some end) = h

abbrev AreNext : LinkParameters → EndState ClientState → List RunEvent → Type 0
AreNext o r [] = Unit {0}
AreNext o r (e ∷ es) = IsNext o r.state e × AreNext o (next_end_state (client_rules o) r e) es

all_below : (o : LinkParameters) (r : EndState ClientState) (es : List RunEvent) → AreNext o r es → XidsBelow o r.state → XidsBelow o (end_state_after (client_rules o) r es).state
all_below o r [] next h = h
all_below o r (e ∷ es) next h = all_below o (next_end_state (client_rules o) r e) es next.1 (next_below o r.state r.ended e next.0 h)

next_frames : (o : LinkParameters) (r : EndState ClientState) (fs : List Frame) → AreNext o r (map FrameReceived fs)
next_frames o r [] = tt
next_frames o r (f ∷ fs) = (tt, next_frames o (next_end_state (client_rules o) r (FrameReceived f)) fs)

next_if : (o : LinkParameters) (r : EndState ClientState) (b : Bool) (es : List RunEvent) → AreNext o r es → AreNext o r (if_own b es)
next_if o r true es h = h
next_if o r false es h = tt

next_mark : (o : LinkParameters) (link : ℕ) (run : List Mark) (mark : Mark) → AskedMark IsAll o link run mark → AreNext o (client o link run) (events_at link Initiator run mark)
next_mark o link run (marks.Submit l call form (submissions.Accepted xid)) h = by (eqb l link) refl
  where
    a : AcceptedCall
    a = record { xid = xid; call = call; form = form }

    by : (b : Bool) → eqb l link ≡ b → AreNext o (client o link run) (if_own (b && true) (CallSubmitted (length (bytes_received link Initiator run)) a ∷ []))
    by true is = (let own = h (eqb-true l link is) in ((own.next, own.resent), tt))
    by false is = tt
next_mark o link run (marks.Submit l call form (submissions.Refused why)) h = tt
next_mark o link run (marks.Submit l call form submissions.Dropped) h = tt
next_mark o link run (marks.Wrote l side bytes) h = next_if o (client o link run) _ (QueueWritten (length bytes) ∷ []) (tt, tt)
next_mark o link run (marks.Fed l side bytes) h = next_if o (client o link run) _ (map FrameReceived (frames_completed Responder (bytes_received link Initiator run) bytes)) (next_frames o (client o link run) _)
next_mark o link run (marks.Execute l xid moment payload place reply) h =
    next_if o (client o link run) _ (CallExecuted (record { xid = xid; moment = moment; payload = payload; place = place; reply = reply }) ∷ []) (tt, tt)
next_mark o link run (marks.Done l xid outcome) h = tt
next_mark o link run (marks.Lost l xid) h = tt
next_mark o link run (marks.Forget l xid) h = tt
next_mark o link run (marks.Revoke l xid bytes) h = next_if o (client o link run) _ (MemoryRevoked (length (bytes_received link Initiator run)) xid ∷ []) (tt, tt)
next_mark o link run (marks.Drop l) h = tt
next_mark o link run (marks.Told l what) h = next_if o (client o link run) _ (ServerTold what ∷ []) (tt, tt)

below_from : (o : LinkParameters) (link : ℕ) (before run : List Mark) → XidsBelow o (client o link before).state → AtEachMark (AskedMark IsAll o link) before run → XidsBelow o (client o link (before ++ run)).state
below_from o link before [] h asked = subst (λ (r : List Mark). XidsBelow o (client o link r).state) (sym (append-nil before)) h
below_from o link before (mark ∷ run) h asked =
    let next : XidsBelow o (client o link (before ++ mark ∷ [])).state =
    subst (λ (r : EndState ClientState). XidsBelow o r.state) (sym (client_one o link before mark))
    (all_below o (client o link before) (events_at link Initiator before mark) (next_mark o link before mark asked.0) h) in
    subst (λ (r : List Mark). XidsBelow o (client o link r).state) (append_assoc before (mark ∷ []) run) (below_from o link (before ++ mark ∷ []) run next asked.1)

below_first : (o : LinkParameters) (link : ℕ) → XidsBelow o (client o link []).state
unfolding client events
below_first o link = record { waiting = tt; brought = tt }

pub xids_below : (o : LinkParameters) (link : ℕ) (run : List Mark) → AtEachMark (AskedMark IsAll o link) [] run → XidsBelow o (client o link run).state
xids_below o link run asked = below_from o link [] run (below_first o link) asked

-- ===== one mark more

-- no outcome is due
abbrev pub NoneDue : LinkParameters → ℕ → List Mark → Type 0
NoneDue o link run = outcomes_due o link run ≡ []

abbrev is_kept : ℕ → List Mark → CompletedCall → Bool
is_kept link run c = not (is_abandoned link c.xid run || is_completed link c.xid run)

abbrev all_outcomes : LinkParameters → ℕ → List Mark → List CompletedCall
all_outcomes o link run = flat_map (outcomes_of_call (client o link run).state.outcomes) (accepted_calls link run)

due_is : (o : LinkParameters) (link : ℕ) (run : List Mark) → outcomes_due o link run ≡ filter (is_kept link run) (all_outcomes o link run)
unfolding outcomes_due
due_is o link run = refl

after_same : (o : LinkParameters) (k : ClientState) (e : RunEvent) → IsNoFrame e → (client_state_after o k e).outcomes ≡ k.outcomes
unfolding client_state_after
after_same o k (FrameReceived f) h = absurd h
after_same o k (CallSubmitted place a) h = refl
after_same o k (MemoryRevoked place xid) h = refl
after_same o k (CallExecuted call) h = refl
after_same o k (QueueWritten taken) h = refl
after_same o k (ServerTold what) h = refl

next_same : (o : LinkParameters) (k : ClientState) (ended : Option End) (e : RunEvent) → IsNoFrame e → (next_end_state_in (client_rules o) k e ended).state.outcomes ≡ k.outcomes
next_same o k (Some end) e h = refl
next_same o k None e h = by (client_end k e)
  where
    by : (why : Option End) → (next_end_state_by (client_rules o) k e why).state.outcomes ≡ k.outcomes
    by None = after_same o k e h
    by (Some end) = refl

all_same : (o : LinkParameters) (r : EndState ClientState) (es : List RunEvent) → NoFrames es → (end_state_after (client_rules o) r es).state.outcomes ≡ r.state.outcomes
all_same o r [] h = refl
all_same o r (e ∷ es) h = all_same o (next_end_state (client_rules o) r e) es h.1 ∙ next_same o r.state r.ended e h.0

-- the outcomes of a client stay with such a mark
outcomes_same : (o : LinkParameters) (link : ℕ) (run : List Mark) (mark : Mark) → NoFrames (events_at link Initiator run mark) → (client o link (run ++ mark ∷ [])).state.outcomes ≡ (client o link run).state.outcomes
outcomes_same o link run mark h =
    ap (λ (r : EndState ClientState). r.state.outcomes) (client_one o link run mark) ∙ all_same o (client o link run) (events_at link Initiator run mark) h

fewer : {X : Type 0} (p q : X → Bool) (xs : List X) → ((x : X) → q x ≡ true → p x ≡ true) → filter q xs ≡ filter q (filter p xs)
fewer p q [] h = refl
fewer {X = X} p q (x ∷ xs) h = by (p x) refl (q x) refl (fewer p q xs h)
  where
    by : (a : Bool) → p x ≡ a → (b : Bool) → q x ≡ b → filter q xs ≡ filter q (filter p xs) → cond b (x ∷ filter q xs) (filter q xs) ≡ filter q (cond a (x ∷ filter p xs) (filter p xs))
    by true pa true qb rest = ap (λ (ys : List X). x ∷ ys) rest ∙ ap (λ (b : Bool). cond b (x ∷ filter q (filter p xs)) (filter q (filter p xs))) (sym qb)
    by true pa false qb rest = rest ∙ ap (λ (b : Bool). cond b (x ∷ filter q (filter p xs)) (filter q (filter p xs))) (sym qb)
    by false pa true qb rest = absurd (let e = sym pa ∙ h x qb in cc)
    by false pa false qb rest = rest

kept_before : (a b c d : Bool) → not ((a || b) || (c || d)) ≡ true → not (a || c) ≡ true
kept_before true b c d e = absurd cc
kept_before false true c d e = absurd cc
kept_before false false true d e = absurd cc
kept_before false false false d e = refl

completed_one : (link : ℕ) (run : List Mark) (mark : Mark) → completed_calls link (run ++ mark ∷ []) ≡ completed_calls link run ++ completed_at link mark
unfolding completed_calls
completed_one link run mark = one_more (completed_at link) run mark

is_completed_one : (link xid : ℕ) (run : List Mark) (mark : Mark) → is_completed link xid (run ++ mark ∷ []) ≡ (is_completed link xid run || list_any (λ c. eqb c.xid xid) (completed_at link mark))
is_completed_one link xid run mark =
    ap (λ (cs : List CompletedCall). list_any (λ c. eqb c.xid xid) cs) (completed_one link run mark) ∙ any_append (λ (c : CompletedCall). eqb c.xid xid) (completed_calls link run) (completed_at link mark)

-- a call that is kept with a mark more was kept before
was_kept : (link : ℕ) (run : List Mark) (mark : Mark) (c : CompletedCall) → is_kept link (run ++ mark ∷ []) c ≡ true → is_kept link run c ≡ true
was_kept link run mark c e =
    let a = any_append (abandons link c.xid) run (mark ∷ []) in
    let b = is_completed_one link c.xid run mark in
    kept_before (is_abandoned link c.xid run) (list_any (abandons link c.xid) (mark ∷ [])) (is_completed link c.xid run) (list_any (λ (x : CompletedCall). eqb x.xid c.xid) (completed_at link mark))
    ((λ i. not (sym a i || sym b i)) ∙ e)

-- A mark that brings no outcome, and accepts no call that has one already.
pub record BringsNone (o : LinkParameters) (link : ℕ) (run : List Mark) (mark : Mark) : Type 0 where
  pub none : NoFrames (events_at link Initiator run mark)
  pub fresh : flat_map (outcomes_of_call (client o link run).state.outcomes) (accepted_at link mark) ≡ []

all_outcomes_same : (o : LinkParameters) (link : ℕ) (run : List Mark) (mark : Mark) → BringsNone o link run mark → all_outcomes o link (run ++ mark ∷ []) ≡ all_outcomes o link run
all_outcomes_same o link run mark h =
    let outs = (client o link run).state.outcomes in
    let calls = accepted_calls link run in
    (λ i. flat_map (outcomes_of_call (outcomes_same o link run mark h.none i)) (accepted_one link run mark i))
    ∙ flat_map-append (outcomes_of_call outs) calls (accepted_at link mark)
    ∙ ap (λ (cs : List CompletedCall). flat_map (outcomes_of_call outs) calls ++ cs) h.fresh ∙ append-nil (flat_map (outcomes_of_call outs) calls)

-- what is due then is what is due before and still kept
due_then : (o : LinkParameters) (link : ℕ) (run : List Mark) (mark : Mark) → BringsNone o link run mark → outcomes_due o link (run ++ mark ∷ []) ≡ filter (is_kept link (run ++ mark ∷ [])) (outcomes_due o link run)
due_then o link run mark h =
    let after = run ++ mark ∷ [] in
    due_is o link after
    ∙ ap (λ (cs : List CompletedCall). filter (is_kept link after) cs) (all_outcomes_same o link run mark h)
    ∙ fewer (is_kept link run) (is_kept link after) (all_outcomes o link run) (was_kept link run mark)
    ∙ ap (λ (cs : List CompletedCall). filter (is_kept link after) cs) (sym (due_is o link run))

none_then : (o : LinkParameters) (link : ℕ) (run : List Mark) (mark : Mark) → BringsNone o link run mark → NoneDue o link run → NoneDue o link (run ++ mark ∷ [])
none_then o link run mark h e = due_then o link run mark h ∙ ap (λ (cs : List CompletedCall). filter (is_kept link (run ++ mark ∷ [])) cs) e

-- ===== marks of other links

elsewhere_brings : (o : LinkParameters) (link : ℕ) (run : List Mark) (mark : Mark) → link_of mark ≢ link → BringsNone o link run mark
elsewhere_brings o link run mark ne = record {
  none = subst NoFrames (sym (no_event link Initiator run mark ne)) tt;
  fresh = ap (λ (cs : List AcceptedCall). flat_map (outcomes_of_call (client o link run).state.outcomes) cs) (not_accepted mark ne);
}
  where
    not_accepted : (mark : Mark) → link_of mark ≢ link → accepted_at link mark ≡ []
    not_accepted (marks.Submit l call form answer) ne = ap (λ (b : Bool). if b then accepted_as answer call form else []) (apart l link ne)
    not_accepted (marks.Wrote l s bytes) ne = refl
    not_accepted (marks.Fed l s bytes) ne = refl
    not_accepted (marks.Execute l xid moment payload place reply) ne = refl
    not_accepted (marks.Done l xid outcome) ne = refl
    not_accepted (marks.Lost l xid) ne = refl
    not_accepted (marks.Forget l xid) ne = refl
    not_accepted (marks.Revoke l xid bytes) ne = refl
    not_accepted (marks.Drop l) ne = refl
    not_accepted (marks.Told l what) ne = refl

pub none_elsewhere : (o : LinkParameters) (link other : ℕ) (old added : List Mark) → other ≢ link → AllByRecursion (λ (mark : Mark). link_of mark ≡ other) added → NoneDue o link old → NoneDue o link (old ++ added)
none_elsewhere o link other old [] ne own h = subst (NoneDue o link) (sym (append-nil old)) h
none_elsewhere o link other old (mark ∷ added) ne own h =
    subst (NoneDue o link) (append_assoc old (mark ∷ []) added)
    (none_elsewhere o link other (old ++ mark ∷ []) added ne own.1 (none_then o link old mark (elsewhere_brings o link old mark (λ same. ne (sym own.0 ∙ same))) h))

-- ===== functions of a drill, on their own link

abbrev HandsAll : Setting → ℕ → Drill → Type 0
HandsAll s link d = NoneDue (s.opened link) link d.marks

pub output_hands : (s : Setting) (link : ℕ) (side : Side) (bytes : List ℕ) (d : Drill) → HandsAll s link d → HandsAll s link (after_output link side bytes d)
output_hands s link side [] d h = h
output_hands s link side (b ∷ bytes) d h =
    none_then (s.opened link) link d.marks (marks.Wrote link side (b ∷ bytes)) (record { none = if_none_lem _ (QueueWritten (length (b ∷ bytes)) ∷ []) (tt, tt); fresh = refl }) h

pub settled_hands : (s : Setting) (link : ℕ) (d : Drill) → HandsAll s link d → HandsAll s link (settled s link d)
unfolding settled
settled_hands s link d h =
    let mid = after_all_output s link Initiator d in
    output_hands s link Responder (unwritten (s.opened link) link Responder mid.marks) mid (output_hands s link Initiator (unwritten (s.opened link) link Initiator d.marks) d h)

fed_hands : (s : Setting) (link : ℕ) (bytes : List ℕ) (rest : Pipes) (d : Drill) → HandsAll s link d → HandsAll s link (after_feeding link Responder bytes rest d)
fed_hands s link [] rest d h = h
fed_hands s link (b ∷ bytes) rest d h =
    none_then (s.opened link) link d.marks (marks.Fed link Responder (b ∷ bytes)) (record { none = other_side_lem (eqb link link) _; fresh = refl }) h

pub up_hands : (s : Setting) (link n : ℕ) (d : Drill) → HandsAll s link d → HandsAll s link (after_up s link n d)
unfolding after_up
up_hands s link n d h =
    let pipes = pipes_of link d in
    settled_hands s link (after_feeding_up link n d) (fed_hands s link (take n pipes.up) (record pipes { up = drop n pipes.up }) d h)

-- each that is handed over lowers the number of those that are due
pub length_kept : {X : Type 0} (p : X → Bool) (xs : List X) → length (filter p xs) ≤ length xs
length_kept p [] = omega arith
length_kept {X = X} p (x ∷ xs) = by (p x) (length_kept p xs)
  where
    by : (b : Bool) → length (filter p xs) ≤ length xs → length (cond b (x ∷ filter p xs) (filter p xs)) ≤ length (x ∷ xs)
    by true le = omega (arith, le)
    by false le = omega (arith, le)

fewer_behind : {X : Type 0} (p : X → Bool) (x : X) (xs : List X) → p x ≡ false → length (filter p (x ∷ xs)) ≤ length xs
fewer_behind {X = X} p x xs e = subst (λ (b : Bool). length (cond b (x ∷ filter p xs) (filter p xs)) ≤ length xs) (sym e) (length_kept p xs)

is_done_lem : (a b : Bool) → b ≡ true → not (a || b) ≡ false
is_done_lem true b e = refl
is_done_lem false b e = ap not e

not_kept : (link : ℕ) (run : List Mark) (c : CompletedCall) → is_kept link (run ++ marks.Done link c.xid c.outcome ∷ []) c ≡ false
not_kept link run c =
    let mark = marks.Done link c.xid c.outcome in
    let here : list_any (λ (x : CompletedCall). eqb x.xid c.xid) (completed_at link mark) ≡ true =
    ap (λ (b : Bool). list_any (λ (x : CompletedCall). eqb x.xid c.xid) (if b then c ∷ [] else [])) (itself link) ∙ or_left_lem (eqb c.xid c.xid) false (itself c.xid) in
    is_done_lem (is_abandoned link c.xid (run ++ mark ∷ [])) (is_completed link c.xid (run ++ mark ∷ []))
    (is_completed_one link c.xid run mark ∙ or_right_lem (is_completed link c.xid run) (list_any (λ (x : CompletedCall). eqb x.xid c.xid) (completed_at link mark)) here)

handing_hands : (s : Setting) (link n : ℕ) (due : List CompletedCall) (d : Drill) → outcomes_due (s.opened link) link d.marks ≡ due → length due ≤ suc n →
    length (outcomes_due (s.opened link) link (after_handing link (slice_get due 0) d).marks) ≤ n
handing_hands s link n [] d e le = subst (λ (cs : List CompletedCall). length cs ≤ n) (sym e) (omega arith)
handing_hands s link n (c ∷ due) d e le =
    let o = s.opened link in
    let mark = marks.Done link c.xid c.outcome in
    let after = d.marks ++ mark ∷ [] in
    let is : outcomes_due o link after ≡ filter (is_kept link after) (c ∷ due) =
    due_then o link d.marks mark (record { none = tt; fresh = refl }) ∙ ap (λ (cs : List CompletedCall). filter (is_kept link after) cs) e in
    let few = fewer_behind (is_kept link after) c due (not_kept link d.marks c) in
    subst (λ (cs : List CompletedCall). length cs ≤ n) (sym is) (omega (arith, few, le))

dones_hand : (s : Setting) (link n : ℕ) (d : Drill) → length (outcomes_due (s.opened link) link d.marks) ≤ n → HandsAll s link (after_dones s link n d)
unfolding after_done
dones_hand s link zero d le = no_length (outcomes_due (s.opened link) link d.marks) le
dones_hand s link (suc n) d le = dones_hand s link n (after_done s link d) (handing_hands s link n (outcomes_due (s.opened link) link d.marks) d refl le)

-- whatever was due before it
pub down_hands : (s : Setting) (link n : ℕ) (d : Drill) → HandsAll s link (after_down s link n d)
unfolding after_down after_outcomes
down_hands s link n d =
    let sent = after_resends s link (after_feeding_down link n d) in
    settled_hands s link (after_outcomes s link sent) (dones_hand s link (length (outcomes_due (s.opened link) link sent.marks)) sent (omega arith))

answer_hands : (s : Setting) (link : ℕ) (call : ReadyCall) (answer : Option GivenReply) (d : Drill) → HandsAll s link d → HandsAll s link (after_answer s link call answer d)
answer_hands s link call None d h = h
answer_hands s link call (Some g) d h =
    let mark = marks.Execute link call.xid g.moment call.payload g.place g.reply in
    settled_hands s link (with_mark mark d) (none_then (s.opened link) link d.marks mark (record { none = other_side_lem (eqb link link) _; fresh = refl }) h)

call_hands : (s : Setting) (link : ℕ) (call : ReadyCall) (is : Standing) (answer : Option GivenReply) (d : Drill) → HandsAll s link d → HandsAll s link (after_call s link call is answer d)
call_hands s link call (Old top) answer d h =
    let mark = marks.Told link (told.Old call.xid (last_frame_at link d.marks)) in
    settled_hands s link (with_mark mark d) (none_then (s.opened link) link d.marks mark (record { none = other_side_lem (eqb link link) _; fresh = refl }) h)
call_hands s link call (Kept place) answer d h = answer_hands s link call answer d h
call_hands s link call New answer d h = answer_hands s link call answer d h

execution_hands : (s : Setting) (link : ℕ) (call : Option ReadyCall) (d : Drill) → HandsAll s link d → HandsAll s link (after_execution s link call d)
execution_hands s link None d h = h
execution_hands s link (Some call) d h = call_hands s link call (standing_of s link d call) (reply_given s link d call) d h

pub work_hands : (s : Setting) (link : ℕ) (d : Drill) → HandsAll s link d → HandsAll s link (after_work s link d)
unfolding after_work
work_hands s link d h = execution_hands s link (waiting_call s link d.marks) d h

giving_up_hands : (s : Setting) (link : ℕ) (xid : Option ℕ) (d : Drill) → HandsAll s link d → HandsAll s link (after_giving_up link xid d)
giving_up_hands s link None d h = h
giving_up_hands s link (Some xid) d h = none_then (s.opened link) link d.marks (marks.Forget link xid) (record { none = tt; fresh = refl }) h

pub forget_hands : (s : Setting) (link number : ℕ) (d : Drill) → HandsAll s link d → HandsAll s link (after_forget s link number d)
unfolding after_forget
forget_hands s link number d h = giving_up_hands s link (open_xid s link d.marks (answer_of_line s (client_of s link) number d.marks)) d h

taking_back_hands : (s : Setting) (link : ℕ) (xid : Option ℕ) (d : Drill) → HandsAll s link d → HandsAll s link (after_taking_back s link xid d)
taking_back_hands s link None d h = h
taking_back_hands s link (Some xid) d h =
    let mark = marks.Revoke link xid (revoked_bytes (s.opened link) link d.marks xid) in
    settled_hands s link (with_mark mark d) (none_then (s.opened link) link d.marks mark (record { none = if_none_lem _ (MemoryRevoked (length (bytes_received link Initiator d.marks)) xid ∷ []) (tt, tt); fresh = refl }) h)

pub revoke_hands : (s : Setting) (link number : ℕ) (d : Drill) → HandsAll s link d → HandsAll s link (after_revoke s link number d)
unfolding after_revoke
revoke_hands s link number d h = taking_back_hands s link (open_xid s link d.marks (answer_of_line s (client_of s link) number d.marks)) d h

pub drop_hands : (s : Setting) (link : ℕ) (d : Drill) → HandsAll s link d → HandsAll s link (after_drop link d)
drop_hands s link d h = none_then (s.opened link) link d.marks (marks.Drop link) (record { none = tt; fresh = refl }) h

pub grant_hands : (s : Setting) (link credits : ℕ) (d : Drill) → HandsAll s link d → HandsAll s link (after_grant link credits d)
grant_hands s link credits d h =
    none_then (s.opened link) link d.marks (marks.Told link (Granted credits)) (record { none = other_side_lem (eqb link link) _; fresh = refl }) h

pub raw_hands : (s : Setting) (link : ℕ) (side : Side) (bytes : List ℕ) (dropped : Bool) (d : Drill) → HandsAll s link d → HandsAll s link (after_raw link side bytes dropped d)
raw_hands s link side bytes true d h = h
raw_hands s link side bytes false d h = h

pub opening_hands : (s : Setting) (link : ℕ) (d : Drill) → HandsAll s link (after_opening s link d)
unfolding after_opening
opening_hands s link d = (let two = after_all_up s link (settled s link d) in down_hands s link (length (pipes_of link two).down) two)

-- ----- a call that is accepted has no outcome

none_of_lem : (n xid : ℕ) (outs : List CompletedCall) → n ≤ xid → AreAtMost (λ (c : CompletedCall). c.xid + 1) n outs → filter (λ c. eqb c.xid xid) outs ≡ []
none_of_lem n xid [] le h = refl
none_of_lem n xid (c ∷ outs) le h = by (eqb c.xid xid) refl (none_of_lem n xid outs le h.1)
  where
    by : (b : Bool) → eqb c.xid xid ≡ b → filter (λ c. eqb c.xid xid) outs ≡ [] → cond b (c ∷ filter (λ c. eqb c.xid xid) outs) (filter (λ c. eqb c.xid xid) outs) ≡ []
    by true is rest = absurd (let a = h.0 in let b = eqb-true c.xid xid is in omega (arith, a, b, le))
    by false is rest = rest

submit_brings : (o : LinkParameters) (link : ℕ) (run : List Mark) (call : Call) (form : Form) (answer : Submission) → XidsBelow o (client o link run).state →
    AskedMark IsAll o link run (marks.Submit link call form answer) → BringsNone o link run (marks.Submit link call form answer)
submit_brings o link run call form (submissions.Accepted xid) below asked =
    let outs = (client o link run).state.outcomes in
    let a : AcceptedCall = record { xid = xid; call = call; form = form } in
    let next = (asked refl).next in
    record {
      none = if_none_lem _ (CallSubmitted (length (bytes_received link Initiator run)) a ∷ []) (tt, tt);
      fresh = ap (λ (b : Bool). flat_map (outcomes_of_call outs) (if b then a ∷ [] else [])) (itself link) ∙ append-nil (outcomes_of_call outs a)
          ∙ none_of_lem (next_sent_xid (client o link run).state) xid outs (omega (arith, next)) below.brought;
    }
submit_brings o link run call form (submissions.Refused why) below asked = record { none = tt; fresh = by (eqb link link) }
  where
    by : (b : Bool) → flat_map (outcomes_of_call (client o link run).state.outcomes) (cond {A = List AcceptedCall} b [] []) ≡ []
    by true = refl
    by false = refl
submit_brings o link run call form submissions.Dropped below asked = record { none = tt; fresh = by (eqb link link) }
  where
    by : (b : Bool) → flat_map (outcomes_of_call (client o link run).state.outcomes) (cond {A = List AcceptedCall} b [] []) ≡ []
    by true = refl
    by false = refl

pub submit_hands : (s : Setting) (link : ℕ) (call : Call) (form : Form) (d : Drill) → IsOpened (s.opened link) → IsGreeted (s.opened link) link d.marks → CanWriteCred call.cred → Keeps s link d → HandsAll s link d → HandsAll s link (after_submit s link call form d)
unfolding after_submit
submit_hands s link call form d numbers greeted writable keeps h =
    let o = s.opened link in
    let answer = submit_answer_after o link d.marks call form in
    let mark = marks.Submit link call form answer in
    settled_hands s link (with_mark mark d)
    (none_then o link d.marks mark (submit_brings o link d.marks call form answer (xids_below o link d.marks keeps.0.asked) (answer_asked o link d.marks call form answer numbers greeted keeps.2 writable keeps.0 refl)) h)

pub start_hands : (o : LinkParameters) (link : ℕ) → NoneDue o link []
unfolding outcomes_due accepted_calls
start_hands o link = refl
