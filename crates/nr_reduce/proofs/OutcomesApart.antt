-- A call that is outstanding, or waits to be sent again, has no outcome: so it wasn't completed.
use Rattle.std.proofs.Common.{◌≡◌, ◌≢◌, ℕ, zero, suc, ◌+◌, ◌<◌, Bool, true, false, cond, ◌&&◌, ◌||◌, not, eqb, List, [], ◌∷◌, ◌++◌, length, map, Option, None, Some, Result, Ok, Err, inl, inr, refl, sym, ap, subst, ◌∙◌, arith, append_assoc, append-nil, eqb-true}
use Rattle.std.specs.List.{AllByRecursion, Contains, filter, flat_map, list_any}
use Rattle.std.proofs.lemmas.Bool.{eq-eqb}
use Rattle.std.proofs.lemmas.List.Elements.{Contains-append_cases, Contains-append_left, Contains-append_right}
use Rattle.nr_wire.specs.declared.hello.Side.TheVariants.{Initiator, Responder}
use Rattle.nr_wire.specs.Segment.{Segment}
use Rattle.nr_xdr.specs.Fields.{word_at}
use Rattle.nr_link.specs.declared.end.End.{End}
use Rattle.nr_link.specs.Frames.{Frame, is_hello, frames_completed}
use Rattle.nr_link.specs.ReceiveState.{ReadRequest, message_completed, read_request_of}
use Rattle.nr_reduce.specs.declared.call.Outcome.{Outcome}
use Rattle.nr_reduce.specs.declared.call.Submission.TheVariants as submissions
use Rattle.nr_reduce.specs.declared.mark.Mark.{Mark}
use Rattle.nr_reduce.specs.declared.mark.Mark.TheVariants as marks
use Rattle.nr_reduce.specs.declared.mark.LinkParameters.{LinkParameters}
use Rattle.nr_reduce.specs.History.{CompletedCall, completed_at, completed_calls, bytes_received}
use Rattle.nr_reduce.specs.AtEachMark.{AtEachMark}
use Rattle.nr_reduce.specs.Matched.{IsPrefixOf}
use Rattle.nr_reduce.specs.Events.{RunEvent, if_own, events_at, events}
use Rattle.nr_reduce.specs.Events.RunEvent.{FrameReceived, CallSubmitted, MemoryRevoked, CallExecuted, QueueWritten, ServerTold}
use Rattle.nr_reduce.specs.EndRules.{EndState, next_end_state, next_end_state_by, next_end_state_in, end_state_after}
use Rattle.nr_reduce.specs.ClientState.{OutstandingCall, WaitingCall, ClientState}
use Rattle.nr_reduce.specs.Client.{client_rules, client_end, client_state_after, outstanding_of, outcomes_of, revoked_call, with_message, with_request, with_segment, with_hello, due_with_response, client_segment}
use Rattle.nr_reduce.specs.ClientMessages.{ReplyVerdict, reply_verdict}
use Rattle.nr_reduce.specs.ClientMessages.ReplyVerdict.{EndsLink, GivesOutcome}
use Rattle.nr_reduce.specs.Run.{client}
use Rattle.nr_reduce.specs.Asked.{AskedMark, AskedSoFar, IsCompleted}
use Rattle.nr_reduce.specs.Opening.{IsOpened}
use Rattle.nr_reduce.specs.OutcomesDue.{is_completed}
use Rattle.nr_reduce.specs.KeptCalls.{numbered_from, numbered_calls}
use Rattle.nr_reduce.specs.StandingLaws.{xid_after, xid_of_send}
use Rattle.nr_reduce.proofs.Steps.{client_one}
use Rattle.nr_reduce.proofs.Standing.{AtEachMark_more}
use Rattle.nr_reduce.proofs.Placing.{segment_sends}
use Rattle.nr_reduce.proofs.RisingXids.{xids_rise}
use Rattle.nr_reduce.proofs.XidsFollow.{AllFollow, BothFollow, ComesNext, Follows, GivesNext, both_after, both_follow, comes_first, xids_waiting}
use Rattle.nr_reduce.proofs.OutcomesStay.{outcomes_stay}
use Rattle.nr_reduce.proofs.GoingOn.{no_element, one_element}
use Rattle.nr_reduce.proofs.AnsweredXids.{verdict_of}

-- the call of an outcome was sent, and isn't outstanding
record IsPast (opened : LinkParameters) (sends : ℕ) (os : List OutstandingCall) (c : CompletedCall) : Type 0 where
  send : ℕ
  xid : c.xid ≡ xid_of_send opened send
  past : send < sends
  gone : AllByRecursion (λ (o : OutstandingCall). o.xid ≢ c.xid) os

abbrev ArePast : LinkParameters → ClientState → Type 0
ArePast opened k = AllByRecursion (λ (c : CompletedCall). IsPast opened k.sends k.outstanding c) k.outcomes

abbrev StandsApart : LinkParameters → ClientState → Type 0
StandsApart opened k = BothFollow opened k × ArePast opened k

-- ---- Lists

kept_filter : (P : OutstandingCall → Type 0) (p : OutstandingCall → Bool) (os : List OutstandingCall) → AllByRecursion P os → AllByRecursion P (filter p os)
kept_filter P p [] h = tt
kept_filter P p (o ∷ os) h = by (p o) (kept_filter P p os h.1)
  where
    by : (b : Bool) → AllByRecursion P (filter p os) → AllByRecursion P (cond b (o ∷ filter p os) (filter p os))
    by true rest = (h.0, rest)
    by false rest = rest

-- none of this xid is left
none_of_xid : (xid : ℕ) (os : List OutstandingCall) → AllByRecursion (λ (o : OutstandingCall). o.xid ≢ xid) (filter (λ o. not (eqb o.xid xid)) os)
none_of_xid xid [] = tt
none_of_xid xid (o ∷ os) = by (eqb o.xid xid) refl (none_of_xid xid os)
  where
    by : (b : Bool) → eqb o.xid xid ≡ b → AllByRecursion (λ (x : OutstandingCall). x.xid ≢ xid) (filter (λ o. not (eqb o.xid xid)) os) →
        AllByRecursion (λ (x : OutstandingCall). x.xid ≢ xid) (cond (not b) (o ∷ filter (λ o. not (eqb o.xid xid)) os) (filter (λ o. not (eqb o.xid xid)) os))
    by true e rest = rest
    by false e rest = ((λ same. absurd (let t = eq-eqb o.xid xid same in let wrong : true ≡ false = sym t ∙ e in cc)), rest)

pub all_more : {X : Type 0} (P : X → Type 0) (xs ys : List X) → AllByRecursion P xs → AllByRecursion P ys → AllByRecursion P (xs ++ ys)
all_more P [] ys h k = k
all_more P (x ∷ xs) ys h k = (h.0, all_more P xs ys h.1 k)

past_fewer : (opened : LinkParameters) (sends : ℕ) (p : OutstandingCall → Bool) (os : List OutstandingCall) (cs : List CompletedCall) → AllByRecursion (λ (c : CompletedCall). IsPast opened sends os c) cs →
    AllByRecursion (λ (c : CompletedCall). IsPast opened sends (filter p os) c) cs
past_fewer opened sends p os [] h = tt
past_fewer opened sends p os (c ∷ cs) h = (
  record { send = h.0.send; xid = h.0.xid; past = h.0.past; gone = kept_filter (λ (o : OutstandingCall). o.xid ≢ c.xid) p os h.0.gone },
  past_fewer opened sends p os cs h.1,
)

-- ---- A message

brought : (opened : LinkParameters) (k : ClientState) (place : ℕ) (message : List ℕ) → AllFollow opened k →
    AllByRecursion (λ (c : CompletedCall). IsPast opened k.sends (filter (λ o. not (eqb o.xid (word_at 0 message))) k.outstanding) c) (outcomes_of (reply_verdict k place message))
brought opened k place message follow = by (reply_verdict k place message) refl
  where
    by : (v : ReplyVerdict) → reply_verdict k place message ≡ v → AllByRecursion (λ (c : CompletedCall). IsPast opened k.sends (filter (λ o. not (eqb o.xid (word_at 0 message))) k.outstanding) c) (outcomes_of v)
    by (EndsLink reason) e = tt
    by (GivesOutcome xid None) e = tt
    by (GivesOutcome xid (Some outcome)) e =
        let v = verdict_of (λ (o : OutstandingCall). Follows opened k.sends o) k place message xid (Some outcome) follow e in (
          record {
            send = v.call.send;
            xid = sym v.own ∙ v.holds.0;
            past = v.holds.1;
            gone = subst (λ (x : ℕ). AllByRecursion (λ (o : OutstandingCall). o.xid ≢ x) (filter (λ o. not (eqb o.xid (word_at 0 message))) k.outstanding)) (sym v.first) (none_of_xid (word_at 0 message) k.outstanding);
          },
          tt,
        )

past_message : (opened : LinkParameters) (k : ClientState) (f : Frame) (m : Option (List ℕ)) (due : ℕ) (q : Option ReadRequest) → AllFollow opened k → ArePast opened k → ArePast opened (with_request (with_message k f.end m) due q)
past_message opened k f None due None follow h = h
past_message opened k f None due (Some q) follow h = h
past_message opened k f (Some m) due q follow h = by q
  where
    all : AllByRecursion (λ (c : CompletedCall). IsPast opened k.sends (filter (λ o. not (eqb o.xid (word_at 0 m))) k.outstanding) c) (k.outcomes ++ outcomes_of (reply_verdict k f.end m))
    all = all_more (λ (c : CompletedCall). IsPast opened k.sends (filter (λ o. not (eqb o.xid (word_at 0 m))) k.outstanding) c) k.outcomes (outcomes_of (reply_verdict k f.end m))
        (past_fewer opened k.sends (λ o. not (eqb o.xid (word_at 0 m))) k.outstanding k.outcomes h) (brought opened k f.end m follow)

    by : (q : Option ReadRequest) → ArePast opened (with_request (with_message k f.end (Some m)) due q)
    by None = all
    by (Some r) = all

past_segment : (opened : LinkParameters) (k : ClientState) (f : Frame) (r : Result Segment ℕ) → AllFollow opened k → ArePast opened k → ArePast opened (with_segment k f r)
past_segment opened k f (Err reason) follow h = h
past_segment opened k f (Ok segment) follow h = past_message opened k f (message_completed k.received segment) (due_with_response k f segment) (read_request_of segment) follow h

-- ---- Another event

gone_revoked : (xid not_xid : ℕ) (os : List OutstandingCall) → AllByRecursion (λ (o : OutstandingCall). o.xid ≢ not_xid) os → AllByRecursion (λ (o : OutstandingCall). o.xid ≢ not_xid) (map (revoked_call xid) os)
gone_revoked xid not_xid [] h = tt
gone_revoked xid not_xid (o ∷ os) h = (by (eqb o.xid xid), gone_revoked xid not_xid os h.1)
  where
    by : (b : Bool) → (cond b (record o { is_revoked = true }) o).xid ≢ not_xid
    by true = h.0
    by false = h.0

past_revoked : (opened : LinkParameters) (sends xid : ℕ) (os : List OutstandingCall) (cs : List CompletedCall) → AllByRecursion (λ (c : CompletedCall). IsPast opened sends os c) cs →
    AllByRecursion (λ (c : CompletedCall). IsPast opened sends (map (revoked_call xid) os) c) cs
past_revoked opened sends xid os [] h = tt
past_revoked opened sends xid os (c ∷ cs) h = (
  record { send = h.0.send; xid = h.0.xid; past = h.0.past; gone = gone_revoked xid c.xid os h.0.gone },
  past_revoked opened sends xid os cs h.1,
)

past_submitted : (opened : LinkParameters) (sends : ℕ) (os : List OutstandingCall) (last : OutstandingCall) (cs : List CompletedCall) → IsOpened opened → last.xid ≡ xid_of_send opened sends →
    AllByRecursion (λ (c : CompletedCall). IsPast opened sends os c) cs → AllByRecursion (λ (c : CompletedCall). IsPast opened (sends + 1) (os ++ last ∷ []) c) cs
past_submitted opened sends os last [] opens own h = tt
past_submitted opened sends os last (c ∷ cs) opens own h = (
  record {
    send = h.0.send;
    xid = h.0.xid;
    past = (let lt = h.0.past in omega (arith, lt));
    gone = all_more (λ (o : OutstandingCall). o.xid ≢ c.xid) os (last ∷ []) h.0.gone (
      (λ same. (
          let earlier = h.0.xid in
          let lt = xids_rise opened h.0.send sends opens h.0.past in
          absurd (omega (arith, same, own, earlier, lt)))),
      tt,
    );
  },
  past_submitted opened sends os last cs opens own h.1,
)

apart_after : (opened : LinkParameters) (k : ClientState) (e : RunEvent) → IsOpened opened → GivesNext k e → StandsApart opened k → ArePast opened (client_state_after opened k e)
unfolding client_state_after
apart_after opened k (FrameReceived f) opens own h = by (is_hello f)
  where
    by : (b : Bool) → ArePast opened (cond b (with_hello opened k f) (with_segment k f (client_segment k f)))
    by true = h.1
    by false = past_segment opened k f (client_segment k f) h.0.1 h.1
apart_after opened k (CallSubmitted place a) opens own h =
    past_submitted opened k.sends k.outstanding (outstanding_of k a) k.outcomes opens (own ∙ comes_first opened k.next_xid k.sends k.waiting h.0.0) h.1
apart_after opened k (MemoryRevoked place xid) opens own h = past_revoked opened k.sends xid k.outstanding k.outcomes h.1
apart_after opened k (CallExecuted call) opens own h = h.1
apart_after opened k (QueueWritten taken) opens own h = h.1
apart_after opened k (ServerTold what) opens own h = h.1

apart_next : (opened : LinkParameters) (r : EndState ClientState) (e : RunEvent) → IsOpened opened → GivesNext r.state e → StandsApart opened r.state → StandsApart opened (next_end_state (client_rules opened) r e).state
apart_next opened r e opens own h = by_end r.state r.ended own h
  where
    by_why : (k : ClientState) (why : Option End) → GivesNext k e → StandsApart opened k → StandsApart opened (next_end_state_by (client_rules opened) k e why).state
    by_why k None next h = (both_after opened k e next h.0, apart_after opened k e opens next h)
    by_why k (Some end) next h = h

    by_end : (k : ClientState) (ended : Option End) → GivesNext k e → StandsApart opened k → StandsApart opened (next_end_state_in (client_rules opened) k e ended).state
    by_end k None next h = by_why k (client_end k e) next h
    by_end k (Some end) next h = h

apart_frames : (opened : LinkParameters) (r : EndState ClientState) (fs : List Frame) → IsOpened opened → StandsApart opened r.state → StandsApart opened (end_state_after (client_rules opened) r (map FrameReceived fs)).state
apart_frames opened r [] opens h = h
apart_frames opened r (f ∷ fs) opens h = apart_frames opened (next_end_state (client_rules opened) r (FrameReceived f)) fs opens (apart_next opened r (FrameReceived f) opens tt h)

-- ---- Each mark

apart_one : (opened : LinkParameters) (r : EndState ClientState) (e : RunEvent) (b : Bool) → IsOpened opened → (b ≡ true → GivesNext r.state e) → StandsApart opened r.state → StandsApart opened (end_state_after (client_rules opened) r (if_own b (e ∷ []))).state
apart_one opened r e true opens own h = apart_next opened r e opens (own refl) h
apart_one opened r e false opens own h = h

apart_mark : (opened : LinkParameters) (link : ℕ) (before : List Mark) (mark : Mark) → IsOpened opened → StandsApart opened (client opened link before).state → AskedMark IsPrefixOf opened link before mark →
    StandsApart opened (end_state_after (client_rules opened) (client opened link before) (events_at link Initiator before mark)).state
apart_mark opened link before (marks.Submit l call form (submissions.Accepted xid)) opens h asked =
    apart_one opened (client opened link before) (CallSubmitted (length (bytes_received link Initiator before)) (record { xid = xid; call = call; form = form })) (eqb l link && true) opens
    (λ own. (asked (own_link (eqb l link) refl own)).next) h
  where
    own_link : (b : Bool) → eqb l link ≡ b → (b && true) ≡ true → l ≡ link
    own_link true is own = eqb-true l link is
    own_link false is own = absurd cc
apart_mark opened link before (marks.Submit l call form (submissions.Refused why)) opens h asked = h
apart_mark opened link before (marks.Submit l call form submissions.Dropped) opens h asked = h
apart_mark opened link before (marks.Wrote l s bytes) opens h asked = apart_one opened (client opened link before) (QueueWritten (length bytes)) _ opens (λ own. tt) h
apart_mark opened link before (marks.Fed l s bytes) opens h asked = by _
  where
    by : (b : Bool) → StandsApart opened (end_state_after (client_rules opened) (client opened link before) (if_own b (map FrameReceived (frames_completed Responder (bytes_received link Initiator before) bytes)))).state
    by true = apart_frames opened (client opened link before) (frames_completed Responder (bytes_received link Initiator before) bytes) opens h
    by false = h
apart_mark opened link before (marks.Execute l xid moment payload place reply) opens h asked =
    apart_one opened (client opened link before) (CallExecuted (record { xid = xid; moment = moment; payload = payload; place = place; reply = reply })) _ opens (λ own. tt) h
apart_mark opened link before (marks.Done l xid outcome) opens h asked = h
apart_mark opened link before (marks.Lost l xid) opens h asked = h
apart_mark opened link before (marks.Forget l xid) opens h asked = h
apart_mark opened link before (marks.Revoke l xid bytes) opens h asked = apart_one opened (client opened link before) (MemoryRevoked (length (bytes_received link Initiator before)) xid) _ opens (λ own. tt) h
apart_mark opened link before (marks.Drop l) opens h asked = h
apart_mark opened link before (marks.Told l what) opens h asked = apart_one opened (client opened link before) (ServerTold what) _ opens (λ own. tt) h

apart_from : (opened : LinkParameters) (link : ℕ) (before run : List Mark) → IsOpened opened → StandsApart opened (client opened link before).state → AtEachMark (AskedMark IsPrefixOf opened link) before run → StandsApart opened (client opened link (before ++ run)).state
apart_from opened link before [] opens h asked = subst (λ (r : List Mark). StandsApart opened (client opened link r).state) (sym (append-nil before)) h
apart_from opened link before (mark ∷ run) opens h asked =
    subst (λ (r : List Mark). StandsApart opened (client opened link r).state) (append_assoc before (mark ∷ []) run)
    (apart_from opened link (before ++ mark ∷ []) run opens
    (subst (λ (r : EndState ClientState). StandsApart opened r.state) (sym (client_one opened link before mark)) (apart_mark opened link before mark opens h asked.0)) asked.1)

apart_begin : (opened : LinkParameters) (link : ℕ) → StandsApart opened (client opened link []).state
unfolding client events
apart_begin opened link = (both_begins opened, tt)
  where
    both_begins : (opened : LinkParameters) → BothFollow opened (client opened link []).state
    both_begins opened = both_follow opened link [] tt

stands_apart : (opened : LinkParameters) (link : ℕ) (run : List Mark) → IsOpened opened → AskedSoFar opened link run → StandsApart opened (client opened link run).state
stands_apart opened link run opens asked = apart_from opened link [] run opens (apart_begin opened link) asked

-- ---- The calls that are outstanding or wait

-- none of these calls has this xid
abbrev HasNone : ℕ → List OutstandingCall → Type 0
HasNone xid os = AllByRecursion (λ (o : OutstandingCall). o.xid ≢ xid) os

waiting_above : (opened : LinkParameters) (next sends n at : ℕ) (ws : List WaitingCall) → IsOpened opened → ((m : ℕ) → xid_after (xids_waiting ws) next m ≡ xid_of_send opened (sends + m)) → n < sends → HasNone (xid_of_send opened n) (numbered_from at ws)
waiting_above opened next sends n at [] opens h lt = tt
waiting_above opened next sends n at (w ∷ ws) opens h lt = (
  (λ same. (
      let own = h zero in
      let rise = xids_rise opened n (sends + 0) opens (omega (arith, lt)) in
      absurd (omega (arith, same, own, rise)))),
  waiting_above opened next (sends + 1) n (at + 1) ws opens
      (λ m. h (suc m) ∙ (let more : sends + suc m ≡ sends + 1 + m = omega arith in ap (λ (k : ℕ). xid_of_send opened k) more)) (omega (arith, lt)),
)

outcome_apart : (opened : LinkParameters) (k : ClientState) (c : CompletedCall) → IsOpened opened → ComesNext opened k.next_xid k.sends k.waiting → IsPast opened k.sends k.outstanding c → HasNone c.xid (numbered_calls k)
outcome_apart opened k c opens comes past =
    all_more (λ (o : OutstandingCall). o.xid ≢ c.xid) k.outstanding (numbered_from k.sends k.waiting) past.gone
    (subst (λ (x : ℕ). HasNone x (numbered_from k.sends k.waiting)) (sym past.xid) (waiting_above opened k.next_xid k.sends past.send k.sends k.waiting opens comes past.past))

of_all : {X : Type 0} (P : X → Type 0) (xs : List X) (x : X) → AllByRecursion P xs → Contains xs x → P x
of_all P [] x h c = absurd (no_element x c)
of_all P (y ∷ ys) x h c = elim (Contains-append_cases (y ∷ []) ys x c) [
  | inl own ↦ subst P (one_element x y own) h.0
  | inr more ↦ of_all P ys x h.1 more
]

-- an outcome of the client of a run is that of no such call
pub outcomes_apart : (opened : LinkParameters) (link : ℕ) (run : List Mark) (c : CompletedCall) → IsOpened opened → AskedSoFar opened link run → Contains (client opened link run).state.outcomes c →
    AllByRecursion (λ (o : OutstandingCall). o.xid ≢ c.xid) (numbered_calls (client opened link run).state)
outcomes_apart opened link run c opens asked there =
    let k : ClientState = (client opened link run).state in
    let h = stands_apart opened link run opens asked in
    outcome_apart opened k c opens h.0.0 (of_all (λ (x : CompletedCall). IsPast opened k.sends k.outstanding x) k.outcomes c h.1 there)

-- ---- Completed calls

-- each completed call has its outcome
abbrev HasOutcomes : LinkParameters → ℕ → List Mark → List CompletedCall → Type 0
HasOutcomes opened link run cs = AllByRecursion (λ (c : CompletedCall). Contains (client opened link run).state.outcomes c) cs

outcomes_later : (opened : LinkParameters) (link : ℕ) (run more : List Mark) (cs : List CompletedCall) → HasOutcomes opened link run cs → HasOutcomes opened link (run ++ more) cs
outcomes_later opened link run more [] h = tt
outcomes_later opened link run more (c ∷ cs) h = (outcomes_stay opened link run more c h.0, outcomes_later opened link run more cs h.1)

completed_one : (link : ℕ) (run : List Mark) (mark : Mark) → completed_calls link (run ++ mark ∷ []) ≡ completed_calls link run ++ completed_at link mark
unfolding completed_calls
completed_one link [] mark = append-nil (completed_at link mark)
completed_one link (m ∷ run) mark = ap (λ (cs : List CompletedCall). completed_at link m ++ cs) (completed_one link run mark) ∙ sym (append_assoc (completed_at link m) (flat_map (completed_at link) run) (completed_at link mark))

completed_mark : (opened : LinkParameters) (link : ℕ) (before : List Mark) (mark : Mark) → AskedMark IsPrefixOf opened link before mark → HasOutcomes opened link before (completed_at link mark)
completed_mark opened link before (marks.Done l xid outcome) asked = by (eqb l link) refl
  where
    by : (b : Bool) → eqb l link ≡ b → HasOutcomes opened link before (cond b (record { xid = xid; outcome = outcome } ∷ []) [])
    by true is = ((asked (eqb-true l link is)).is_received, tt)
    by false is = tt
completed_mark opened link before (marks.Submit l call form answer) asked = tt
completed_mark opened link before (marks.Wrote l s bytes) asked = tt
completed_mark opened link before (marks.Fed l s bytes) asked = tt
completed_mark opened link before (marks.Execute l xid moment payload place reply) asked = tt
completed_mark opened link before (marks.Lost l xid) asked = tt
completed_mark opened link before (marks.Forget l xid) asked = tt
completed_mark opened link before (marks.Revoke l xid bytes) asked = tt
completed_mark opened link before (marks.Drop l) asked = tt
completed_mark opened link before (marks.Told l what) asked = tt

completed_from : (opened : LinkParameters) (link : ℕ) (before run : List Mark) → HasOutcomes opened link before (completed_calls link before) → AtEachMark (AskedMark IsPrefixOf opened link) before run →
    HasOutcomes opened link (before ++ run) (completed_calls link (before ++ run))
completed_from opened link before [] h asked = subst (λ (r : List Mark). HasOutcomes opened link r (completed_calls link r)) (sym (append-nil before)) h
completed_from opened link before (mark ∷ run) h asked =
    let now : HasOutcomes opened link before (completed_calls link before ++ completed_at link mark) =
    all_more (λ (c : CompletedCall). Contains (client opened link before).state.outcomes c) (completed_calls link before) (completed_at link mark) h (completed_mark opened link before mark asked.0) in
    let next : HasOutcomes opened link (before ++ mark ∷ []) (completed_calls link (before ++ mark ∷ [])) =
    subst (λ (cs : List CompletedCall). HasOutcomes opened link (before ++ mark ∷ []) cs) (sym (completed_one link before mark)) (outcomes_later opened link before (mark ∷ []) (completed_calls link before ++ completed_at link mark) now) in
    subst (λ (r : List Mark). HasOutcomes opened link r (completed_calls link r)) (append_assoc before (mark ∷ []) run)
    (completed_from opened link (before ++ mark ∷ []) run next asked.1)

completed_begin : (opened : LinkParameters) (link : ℕ) → HasOutcomes opened link [] (completed_calls link [])
unfolding completed_calls
completed_begin opened link = tt

-- so none that is completed is outstanding, or waits
none_completed : (xid : ℕ) (os : List CompletedCall) → AllByRecursion (λ (c : CompletedCall). xid ≢ c.xid) os → list_any (λ (c : CompletedCall). eqb c.xid xid) os ≡ false
none_completed xid [] h = refl
none_completed xid (c ∷ cs) h = by (eqb c.xid xid) refl (none_completed xid cs h.1)
  where
    by : (b : Bool) → eqb c.xid xid ≡ b → list_any (λ (x : CompletedCall). eqb x.xid xid) cs ≡ false → (b || list_any (λ (x : CompletedCall). eqb x.xid xid) cs) ≡ false
    by true e rest = absurd (h.0 (sym (eqb-true c.xid xid e)))
    by false e rest = rest

-- of outcomes of the client, none is of such a call
unanswered_by : (opened : LinkParameters) (link : ℕ) (run : List Mark) (cs : List CompletedCall) → IsOpened opened → AskedSoFar opened link run → HasOutcomes opened link run cs →
    AllByRecursion (λ (o : OutstandingCall). list_any (λ (c : CompletedCall). eqb c.xid o.xid) cs ≡ false) (numbered_calls (client opened link run).state)
unanswered_by opened link run cs opens asked done = by (numbered_calls (client opened link run).state) (λ c there. outcomes_apart opened link run c opens asked there)
  where
    apart_all : (o : OutstandingCall) (cs : List CompletedCall) → ((c : CompletedCall) → Contains (client opened link run).state.outcomes c → o.xid ≢ c.xid) → HasOutcomes opened link run cs → AllByRecursion (λ (c : CompletedCall). o.xid ≢ c.xid) cs
    apart_all o [] apart h = tt
    apart_all o (c ∷ cs) apart h = (apart c h.0, apart_all o cs apart h.1)

    by : (os : List OutstandingCall) → ((c : CompletedCall) → Contains (client opened link run).state.outcomes c → AllByRecursion (λ (o : OutstandingCall). o.xid ≢ c.xid) os) →
        AllByRecursion (λ (o : OutstandingCall). list_any (λ (c : CompletedCall). eqb c.xid o.xid) cs ≡ false) os
    by [] apart = tt
    by (o ∷ os) apart = (none_completed o.xid cs (apart_all o cs (λ c there. (apart c there).0) done), by os (λ c there. (apart c there).1))

pub calls_uncompleted : (opened : LinkParameters) (link : ℕ) (run : List Mark) → IsOpened opened → AskedSoFar opened link run →
    AllByRecursion (λ (o : OutstandingCall). is_completed link o.xid run ≡ false) (numbered_calls (client opened link run).state)
calls_uncompleted opened link run opens asked =
    unanswered_by opened link run (completed_calls link run) opens asked (completed_from opened link [] run (completed_begin opened link) asked)

-- no such call has an outcome
later_elements : {X : Type 0} (all xs : List X) (y : X) → AllByRecursion (λ (x : X). Contains all x) xs → AllByRecursion (λ (x : X). Contains (y ∷ all) x) xs
later_elements all [] y h = tt
later_elements all (x ∷ xs) y h = (Contains-append_right (y ∷ []) all x h.0, later_elements all xs y h.1)

all_elements : {X : Type 0} (xs : List X) → AllByRecursion (λ (x : X). Contains xs x) xs
all_elements [] = tt
all_elements (x ∷ xs) = (Contains-append_left (x ∷ []) xs x (0, omega arith, refl), later_elements xs xs x (all_elements xs))

pub calls_unanswered : (opened : LinkParameters) (link : ℕ) (run : List Mark) → IsOpened opened → AskedSoFar opened link run →
    AllByRecursion (λ (o : OutstandingCall). list_any (λ (c : CompletedCall). eqb c.xid o.xid) (client opened link run).state.outcomes ≡ false) (numbered_calls (client opened link run).state)
calls_unanswered opened link run opens asked = unanswered_by opened link run (client opened link run).state.outcomes opens asked (all_elements (client opened link run).state.outcomes)
