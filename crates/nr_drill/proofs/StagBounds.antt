-- A client takes at most 3 STags for a call, and at most 64 calls are sent again over another link. So it has STags left, however the lines of a script
-- are.
use Rattle.std.specs.Prelude.{◌*◌, ◌-◌, ◌&&◌, not}
use Rattle.std.specs.List.{AllByRecursion, flat_map, filter, find}
use Rattle.std.proofs.Common.{◌≡◌, ℕ, suc, ◌+◌, ◌≤◌, ◌<◌, arith, ◌⊎◌, inl, inr, cond, eqb, ltb, eqb-true, Bool, true, false, List, [], ◌∷◌, ◌++◌, length, map, Option, None, Some, Result, Ok, Err, refl, sym, ap, subst, ◌∙◌, append_assoc, append-nil, length-append}
use Rattle.std.proofs.lemmas.Bool.{eq-eqb, ltb-false}
use Rattle.nr_wire.specs.declared.hello.Side.TheVariants.{Initiator, Responder}
use Rattle.nr_wire.specs.Segment.{Segment}
use Rattle.nr_xdr.specs.Fields.{word_at}
use Rattle.nr_link.specs.declared.end.End.{End}
use Rattle.nr_link.specs.Frames.{Frame, frames_completed, is_hello}
use Rattle.nr_link.specs.ReceiveState.{ReadRequest, message_completed, read_request_of}
use Rattle.nr_reduce.specs.declared.call.Call.{Call}
use Rattle.nr_reduce.specs.declared.call.Form.{Form}
use Rattle.nr_reduce.specs.declared.call.Submission.{Submission}
use Rattle.nr_reduce.specs.declared.call.Submission.TheVariants as submissions
use Rattle.nr_reduce.specs.declared.mark.Mark.{Mark}
use Rattle.nr_reduce.specs.declared.mark.Mark.TheVariants as marks
use Rattle.nr_reduce.specs.declared.mark.LinkParameters.{LinkParameters}
use Rattle.nr_reduce.specs.declared.mark.ResumedCall.{ResumedCall}
use Rattle.nr_reduce.specs.declared.outline.Plan.{Plan}
use Rattle.nr_reduce.specs.Limits.{credits_max}
use Rattle.nr_reduce.specs.Plans.{has_segment, one_if, regions_needed}
use Rattle.nr_reduce.specs.History.{AcceptedCall, accepted_calls, is_abandoned, is_dropped, bytes_received}
use Rattle.nr_reduce.specs.AtEachMark.{AtEachMark}
use Rattle.nr_reduce.specs.Events.{RunEvent, if_own, events, events_at}
use Rattle.nr_reduce.specs.Events.RunEvent.{FrameReceived, CallSubmitted, MemoryRevoked, CallExecuted, QueueWritten, ServerTold}
use Rattle.nr_reduce.specs.EndRules.{EndState, next_end_state, next_end_state_by, next_end_state_in, end_state_after}
use Rattle.nr_reduce.specs.ClientState.{OutstandingCall, WaitingCall, ClientState, others_than, first_of, stags_unless_waiting, stags_taken, stag_after, waiting_from}
use Rattle.nr_reduce.specs.Client.{client_rules, client_segment, client_end, client_state_after, initial_client, credits_of_word, outstanding_of, revoked_call, revoked_waiting, with_message, with_request, with_segment, with_hello, due_with_response}
use Rattle.nr_reduce.specs.SubmitAnswer.{submit_answer, submit_answer_after, calls_counted, calls_to_resend}
use Rattle.nr_reduce.specs.Run.{client}
use Rattle.nr_reduce.specs.Reopening.{resumed_as, resumed_of, resumed_again, calls_kept, reopened}
use Rattle.nr_reduce.proofs.OwnStags.{kept_after}
use Rattle.nr_reduce.proofs.Placing.{segment_waiting}
use Rattle.nr_reduce.proofs.Resending.{first_to_resend}
use Rattle.nr_reduce.proofs.StagsLeft.{request_stag, message_stag}
use Rattle.nr_reduce.proofs.Standing.{itself}
use Rattle.nr_reduce.proofs.Steps.{client_one}
use Rattle.nr_laws.proofs.OwnXids.{segment_out}
use Rattle.nr_laws.specs.Grant.{IsNextToResend, AcceptedMark, AcceptsByRule}
use Rattle.nr_drill.specs.Drill.{Setting, Drill, resend_mark}
use Rattle.nr_drill.proofs.Lawful.{not_dropped, accepted_within}
use Rattle.nr_drill.proofs.Handed.{length_kept}
use Rattle.nr_drill.proofs.AddedMarks.{AddsBy, MarkRules}

-- ===== for a call

one_most : (b : Bool) → one_if b ≤ 1
one_most true = omega arith
one_most false = omega arith

pub regions_most : (p : Plan) → regions_needed p ≤ 3
unfolding regions_needed
regions_most p =
    let read = one_most (has_segment (Some p.read)) in
    let write = one_most (has_segment p.write) in
    let reply = one_most (has_segment p.reply) in
    omega (arith, read, write, reply)

pub stags_most : (stag : ℕ) (rs : List ResumedCall) → stag_after stag rs ≤ stag + 3 * length rs
stags_most stag [] = omega arith
stags_most stag (r ∷ rs) =
    let own = regions_most r.plan in
    let rest = stags_most (stag + regions_needed r.plan) rs in
    omega (arith, own, rest)

-- ===== how many calls are outstanding or wait

most_word : (n : ℕ) → credits_of_word n ≤ credits_max
most_word n = by (eqb n 0)
  where
    by_most : (b : Bool) → ltb credits_max n ≡ b → cond b credits_max n ≤ credits_max
    by_most true is = omega arith
    by_most false is = ltb-false credits_max n is

    by : (b : Bool) → cond b 1 (cond (ltb credits_max n) credits_max n) ≤ credits_max
    by true = omega arith
    by false = by_most (ltb credits_max n) refl

abbrev GrantFits : ClientState → Type 0
GrantFits k = k.grant ≤ credits_max

grant_segment : (k : ClientState) (f : Frame) (r : Result Segment ℕ) → GrantFits k → GrantFits (with_segment k f r)
grant_segment k f (Err reason) h = h
grant_segment k f (Ok segment) h = by (message_completed k.received segment) (read_request_of segment)
  where
    by : (m : Option (List ℕ)) (q : Option ReadRequest) → GrantFits (with_request (with_message k f.end m) (due_with_response k f segment) q)
    by None None = h
    by None (Some q) = h
    by (Some m) None = most_word (word_at 8 m)
    by (Some m) (Some q) = most_word (word_at 8 m)

grant_event : (o : LinkParameters) (k : ClientState) (e : RunEvent) → GrantFits k → GrantFits (client_state_after o k e)
unfolding client_state_after
grant_event o k (FrameReceived f) h = by (is_hello f)
  where
    by : (b : Bool) → GrantFits (cond b (with_hello o k f) (with_segment k f (client_segment k f)))
    by true = h
    by false = grant_segment k f (client_segment k f) h
grant_event o k (CallSubmitted place a) h = h
grant_event o k (MemoryRevoked place xid) h = h
grant_event o k (CallExecuted call) h = h
grant_event o k (QueueWritten taken) h = h
grant_event o k (ServerTold what) h = h

grant_fits : (o : LinkParameters) (link : ℕ) (run : List Mark) → GrantFits (client o link run).state
unfolding client
grant_fits o link run = kept_after (client_rules o) GrantFits (grant_event o) (initial_client o) (events link Initiator run) (omega arith)

abbrev Few : ClientState → Type 0
Few k = calls_counted k ≤ credits_max

mapped_count : {X Y : Type 0} (f : X → Y) (xs : List X) → length (map f xs) ≡ length xs
mapped_count f [] = refl
mapped_count f (x ∷ xs) = ap (λ (n : ℕ). suc n) (mapped_count f xs)

-- no event but a Submit counts more
abbrev pub NoSubmit : RunEvent → Type 0
NoSubmit (FrameReceived f) = Unit {0}
NoSubmit (CallSubmitted place a) = ⊥
NoSubmit (MemoryRevoked place xid) = Unit {0}
NoSubmit (CallExecuted call) = Unit {0}
NoSubmit (QueueWritten taken) = Unit {0}
NoSubmit (ServerTold what) = Unit {0}

few_out : (k t : ClientState) → (t.outstanding ≡ k.outstanding) ⊎ ((p : OutstandingCall → Bool) × (t.outstanding ≡ filter p k.outstanding)) → t.waiting ≡ k.waiting → calls_counted t ≤ calls_counted k
few_out k t (inl same) waits =
    let out = ap (λ (os : List OutstandingCall). length os) same in
    let wait = ap (λ (ws : List WaitingCall). length ws) waits in
    omega (arith, out, wait)
few_out k t (inr some) waits =
    let out = ap (λ (os : List OutstandingCall). length os) some.1 in
    let less = length_kept some.0 k.outstanding in
    let wait = ap (λ (ws : List WaitingCall). length ws) waits in
    omega (arith, out, less, wait)

few_event : (o : LinkParameters) (k : ClientState) (e : RunEvent) → NoSubmit e → Few k → Few (client_state_after o k e)
unfolding client_state_after
few_event o k (FrameReceived f) no_submit h = by (is_hello f)
  where
    by : (b : Bool) → Few (cond b (with_hello o k f) (with_segment k f (client_segment k f)))
    by true = h
    by false = (let less = few_out k (with_segment k f (client_segment k f)) (segment_out k f (client_segment k f)) (segment_waiting k f (client_segment k f)) in omega (arith, less, h))
few_event o k (CallSubmitted place a) no_submit h = absurd no_submit
few_event o k (MemoryRevoked place xid) no_submit h =
    let out = mapped_count (revoked_call xid) k.outstanding in
    let wait = mapped_count (revoked_waiting xid) k.waiting in
    omega (arith, out, wait, h)
few_event o k (CallExecuted call) no_submit h = h
few_event o k (QueueWritten taken) no_submit h = h
few_event o k (ServerTold what) no_submit h = h

few_next : (o : LinkParameters) (k : ClientState) (ended : Option End) (e : RunEvent) → NoSubmit e → Few k → Few (next_end_state_in (client_rules o) k e ended).state
few_next o k (Some end) e no_submit h = h
few_next o k None e no_submit h = by (client_end k e)
  where
    by : (why : Option End) → Few (next_end_state_by (client_rules o) k e why).state
    by None = few_event o k e no_submit h
    by (Some end) = h

few_all : (o : LinkParameters) (r : EndState ClientState) (es : List RunEvent) → AllByRecursion NoSubmit es → Few r.state → Few (end_state_after (client_rules o) r es).state
few_all o r [] none h = h
few_all o r (e ∷ es) none h = few_all o (next_end_state (client_rules o) r e) es none.1 (few_next o r.state r.ended e none.0 h)

-- a call that is accepted by its answer
fewer_others : (ws : List WaitingCall) (xid : ℕ) → length (others_than ws xid) ≤ length ws
fewer_others [] xid = omega arith
fewer_others (w ∷ ws) xid = by (eqb w.xid xid)
  where
    by : (b : Bool) → length (cond b ws (w ∷ ws)) ≤ length (w ∷ ws)
    by true = omega arith
    by false = omega arith

few_accepted : (o : LinkParameters) (k : ClientState) (ended : Option End) (place : ℕ) (a : AcceptedCall) → calls_counted k < credits_max → Few (next_end_state_in (client_rules o) k (CallSubmitted place a) ended).state
unfolding client_end client_state_after
few_accepted o k None place a lt =
    let out = length-append k.outstanding (outstanding_of k a ∷ []) in
    let wait = fewer_others k.waiting a.xid in
    omega (arith, out, wait, lt)
few_accepted o k (Some end) place a lt = omega (arith, lt)

-- one that is sent again
few_resent : (o : LinkParameters) (k : ClientState) (ended : Option End) (place : ℕ) (a : AcceptedCall) (w : WaitingCall) (others : List WaitingCall) → k.waiting ≡ w ∷ others → w.xid ≡ a.xid → Few k →
    Few (next_end_state_in (client_rules o) k (CallSubmitted place a) ended).state
unfolding client_end client_state_after
few_resent o k None place a w others there own h =
    let out = length-append k.outstanding (outstanding_of k a ∷ []) in
    let left : others_than k.waiting a.xid ≡ others =
    ap (λ (ws : List WaitingCall). others_than ws a.xid) there ∙ ap (λ (b : Bool). cond b others (w ∷ others)) (eq-eqb w.xid a.xid own) in
    let wait = ap (λ (ws : List WaitingCall). length ws) left in
    let was = ap (λ (ws : List WaitingCall). length ws) there in
    omega (arith, out, wait, was, h)
few_resent o k (Some end) place a w others there own h = h

abbrev FewAfter : LinkParameters → ℕ → List Mark → Type 0
FewAfter o link run = Few (client o link run).state

pub no_submit_if : (b : Bool) (es : List RunEvent) → AllByRecursion NoSubmit es → AllByRecursion NoSubmit (if_own b es)
no_submit_if true es h = h
no_submit_if false es h = tt

no_submit_frames : (fs : List Frame) → AllByRecursion NoSubmit (map FrameReceived fs)
no_submit_frames [] = tt
no_submit_frames (f ∷ fs) = (tt, no_submit_frames fs)

few_quiet : (o : LinkParameters) (link : ℕ) (run : List Mark) (mark : Mark) → AllByRecursion NoSubmit (events_at link Initiator run mark) → FewAfter o link run → FewAfter o link (run ++ mark ∷ [])
few_quiet o link run mark none h = subst (λ (r : EndState ClientState). Few r.state) (sym (client_one o link run mark)) (few_all o (client o link run) (events_at link Initiator run mark) none h)

few_mark : (o : LinkParameters) (link : ℕ) (run : List Mark) (mark : Mark) → AcceptedMark o link run mark → FewAfter o link run → FewAfter o link (run ++ mark ∷ [])
unfolding submit_answer_after submit_answer
few_mark o link run (marks.Submit l call form (submissions.Accepted xid)) rule h = by (eqb l link) refl
  where
    a : AcceptedCall
    a = record { xid = xid; call = call; form = form }

    r : EndState ClientState
    r = client o link run

    place : ℕ
    place = length (bytes_received link Initiator run)

    one : (b : Bool) → eqb l link ≡ b → client o link (run ++ marks.Submit l call form (submissions.Accepted xid) ∷ []) ≡ end_state_after (client_rules o) r (if_own (b && true) (CallSubmitted place a ∷ []))
    one b is = client_one o link run (marks.Submit l call form (submissions.Accepted xid)) ∙ ap (λ (c : Bool). end_state_after (client_rules o) r (if_own (c && true) (CallSubmitted place a ∷ []))) is

    by : (b : Bool) → eqb l link ≡ b → FewAfter o link (run ++ marks.Submit l call form (submissions.Accepted xid) ∷ [])
    by false is = subst (λ (x : EndState ClientState). Few x.state) (sym (one false is)) h
    by true is = subst (λ (x : EndState ClientState). Few x.state) (sym (one true is)) (by_rule (rule (eqb-true l link is)))
      where
        by_rule : (submit_answer_after o link run call form ≡ submissions.Accepted xid) ⊎ IsNextToResend r xid → Few (next_end_state (client_rules o) r (CallSubmitted place a)).state
        by_rule (inl answer) =
            let within = accepted_within r.state call form r.ended xid (not_dropped (is_dropped link run) (submit_answer r call form) xid answer) in
            let lt = within.1 in
            let most = grant_fits o link run in
            few_accepted o r.state r.ended place a (omega (arith, lt, most))
        by_rule (inr next) =
            let first = first_to_resend r next.call next.calls next.first in
            few_resent o r.state r.ended place a next.call first.others first.there next.own h
few_mark o link run (marks.Submit l call form (submissions.Refused why)) rule h = few_quiet o link run (marks.Submit l call form (submissions.Refused why)) tt h
few_mark o link run (marks.Submit l call form submissions.Dropped) rule h = few_quiet o link run (marks.Submit l call form submissions.Dropped) tt h
few_mark o link run (marks.Wrote l side bytes) rule h = few_quiet o link run (marks.Wrote l side bytes) (no_submit_if _ (QueueWritten (length bytes) ∷ []) (tt, tt)) h
few_mark o link run (marks.Fed l side bytes) rule h =
    few_quiet o link run (marks.Fed l side bytes) (no_submit_if _ (map FrameReceived (frames_completed Responder (bytes_received link Initiator run) bytes)) (no_submit_frames (frames_completed Responder (bytes_received link Initiator run) bytes))) h
few_mark o link run (marks.Execute l xid moment payload place reply) rule h =
    few_quiet o link run (marks.Execute l xid moment payload place reply) (no_submit_if _ (CallExecuted (record { xid = xid; moment = moment; payload = payload; place = place; reply = reply }) ∷ []) (tt, tt)) h
few_mark o link run (marks.Done l xid outcome) rule h = few_quiet o link run (marks.Done l xid outcome) tt h
few_mark o link run (marks.Lost l xid) rule h = few_quiet o link run (marks.Lost l xid) tt h
few_mark o link run (marks.Forget l xid) rule h = few_quiet o link run (marks.Forget l xid) tt h
few_mark o link run (marks.Revoke l xid bytes) rule h = few_quiet o link run (marks.Revoke l xid bytes) (no_submit_if _ (MemoryRevoked (length (bytes_received link Initiator run)) xid ∷ []) (tt, tt)) h
few_mark o link run (marks.Drop l) rule h = few_quiet o link run (marks.Drop l) tt h
few_mark o link run (marks.Told l what) rule h = few_quiet o link run (marks.Told l what) (no_submit_if _ (ServerTold what ∷ []) (tt, tt)) h

few_from : (o : LinkParameters) (link : ℕ) (before run : List Mark) → AtEachMark (AcceptedMark o link) before run → FewAfter o link before → FewAfter o link (before ++ run)
few_from o link before [] rule h = subst (FewAfter o link) (sym (append-nil before)) h
few_from o link before (mark ∷ run) rule h = subst (FewAfter o link) (append_assoc before (mark ∷ []) run) (few_from o link (before ++ mark ∷ []) run rule.1 (few_mark o link before mark rule.0 h))

waiting_count : (stag : ℕ) (rs : List ResumedCall) → length (waiting_from stag rs) ≡ length rs
waiting_count stag [] = refl
waiting_count stag (r ∷ rs) = ap (λ (n : ℕ). suc n) (waiting_count (stag + regions_needed r.plan) rs)

few_first : (o : LinkParameters) (link : ℕ) → length o.resumed ≤ credits_max → FewAfter o link []
unfolding client events
few_first o link few = (let count = waiting_count o.first_stag o.resumed in omega (arith, count, few))

pub few_calls : (o : LinkParameters) (link : ℕ) (run : List Mark) → length o.resumed ≤ credits_max → AcceptsByRule o link run → calls_counted (client o link run).state ≤ credits_max
few_calls o link run few rule = few_from o link [] run rule (few_first o link few)

-- so few are kept
again_count : (accepted : List AcceptedCall) (os : List OutstandingCall) → length (flat_map (resumed_of accepted) os) ≤ length os
again_count accepted [] = omega arith
again_count accepted (o ∷ os) =
    let one = by (find (λ (a : AcceptedCall). eqb a.xid o.xid) accepted) in
    let rest = again_count accepted os in
    let all = length-append (resumed_of accepted o) (flat_map (resumed_of accepted) os) in
    omega (arith, one, rest, all)
  where
    by : (a : Option AcceptedCall) → length (resumed_as o a) ≤ 1
    by None = omega arith
    by (Some a) = omega arith

pub few_kept : (o : LinkParameters) (link : ℕ) (run : List Mark) → length (calls_kept o link run) ≤ calls_counted (client o link run).state
unfolding calls_kept
few_kept o link run =
    let k = (client o link run).state in
    let out = flat_map (resumed_of (accepted_calls link run)) k.outstanding in
    let again = map resumed_again k.waiting in
    let kept = length_kept (λ (r : ResumedCall). not (is_abandoned link r.xid run)) (out ++ again) in
    let all = length-append out again in
    let first = again_count (accepted_calls link run) k.outstanding in
    let second = mapped_count resumed_again k.waiting in
    omega (arith, kept, all, first, second)

-- ===== STags that are taken

abbrev pub NextStag : LinkParameters → ℕ → List Mark → ℕ
NextStag o link run = (client o link run).state.stag

segment_stag : (k : ClientState) (f : Frame) (r : Result Segment ℕ) → (with_segment k f r).stag ≡ k.stag
segment_stag k f (Err reason) = refl
segment_stag k f (Ok segment) =
    request_stag (with_message k f.end (message_completed k.received segment)) (due_with_response k f segment) (read_request_of segment) ∙ message_stag k f.end (message_completed k.received segment)

stag_event : (o : LinkParameters) (k : ClientState) (e : RunEvent) → NoSubmit e → (client_state_after o k e).stag ≡ k.stag
unfolding client_state_after
stag_event o k (FrameReceived f) none = by (is_hello f)
  where
    by : (b : Bool) → (cond b (with_hello o k f) (with_segment k f (client_segment k f))).stag ≡ k.stag
    by true = refl
    by false = segment_stag k f (client_segment k f)
stag_event o k (CallSubmitted place a) none = absurd none
stag_event o k (MemoryRevoked place xid) none = refl
stag_event o k (CallExecuted call) none = refl
stag_event o k (QueueWritten taken) none = refl
stag_event o k (ServerTold what) none = refl

stag_next : (o : LinkParameters) (k : ClientState) (ended : Option End) (e : RunEvent) → NoSubmit e → (next_end_state_in (client_rules o) k e ended).state.stag ≡ k.stag
stag_next o k (Some end) e none = refl
stag_next o k None e none = by (client_end k e)
  where
    by : (why : Option End) → (next_end_state_by (client_rules o) k e why).state.stag ≡ k.stag
    by None = stag_event o k e none
    by (Some end) = refl

stag_all : (o : LinkParameters) (r : EndState ClientState) (es : List RunEvent) → AllByRecursion NoSubmit es → (end_state_after (client_rules o) r es).state.stag ≡ r.state.stag
stag_all o r [] none = refl
stag_all o r (e ∷ es) none = stag_all o (next_end_state (client_rules o) r e) es none.1 ∙ stag_next o r.state r.ended e none.0

-- a mark with which no STag is taken
abbrev pub TakesNone : LinkParameters → ℕ → List Mark → Mark → Type 0
TakesNone o link run mark = NextStag o link (run ++ mark ∷ []) ≡ NextStag o link run

pub takes_none : (o : LinkParameters) (link : ℕ) (run : List Mark) (mark : Mark) → AllByRecursion NoSubmit (events_at link Initiator run mark) → TakesNone o link run mark
takes_none o link run mark none = ap (λ (r : EndState ClientState). r.state.stag) (client_one o link run mark) ∙ stag_all o (client o link run) (events_at link Initiator run mark) none

stag_resent : (o : LinkParameters) (k : ClientState) (ended : Option End) (place : ℕ) (a : AcceptedCall) (w : WaitingCall) (others : List WaitingCall) → k.waiting ≡ w ∷ others → w.xid ≡ a.xid →
    (next_end_state_in (client_rules o) k (CallSubmitted place a) ended).state.stag ≡ k.stag
unfolding client_end client_state_after
stag_resent o k None place a w others there own =
    let plan = (outstanding_of k a).plan in
    let none : stags_taken k a.xid plan ≡ 0 =
    ap (λ (ws : List WaitingCall). stags_unless_waiting (first_of ws a.xid) plan) there ∙ ap (λ (b : Bool). stags_unless_waiting (cond b (Some w) None) plan) (eq-eqb w.xid a.xid own) in
    omega (arith, none)
stag_resent o k (Some end) place a w others there own = refl

resent_none : (o : LinkParameters) (link : ℕ) (run : List Mark) (w : WaitingCall) (rest : List WaitingCall) → calls_to_resend (client o link run) ≡ w ∷ rest → TakesNone o link run (resend_mark link w)
resent_none o link run w rest is =
    let r = client o link run in
    let first = first_to_resend r w rest is in
    let a : AcceptedCall = record { xid = w.xid; call = w.call; form = w.form } in
    let place : ℕ = length (bytes_received link Initiator run) in
    ap (λ (x : EndState ClientState). x.state.stag) (client_one o link run (resend_mark link w))
    ∙ ap (λ (b : Bool). (end_state_after (client_rules o) r (if_own (b && true) (CallSubmitted place a ∷ []))).state.stag) (itself link)
    ∙ stag_resent o r.state r.ended place a w first.others first.there refl

-- so is each that an action adds, but a Submit
pub none_taken_rules : (s : Setting) (link : ℕ) → MarkRules (TakesNone (s.opened link) link) s link
none_taken_rules s link =
    let o = s.opened link in
    record {
      quiet = record {
        wrote = λ run side bytes. takes_none o link run (marks.Wrote link side bytes) (no_submit_if _ (QueueWritten (length bytes) ∷ []) (tt, tt));
        fed = λ run side bytes. takes_none o link run (marks.Fed link side bytes)
            (no_submit_if _ (map FrameReceived (frames_completed Responder (bytes_received link Initiator run) bytes)) (no_submit_frames (frames_completed Responder (bytes_received link Initiator run) bytes)));
        done = λ run xid outcome. takes_none o link run (marks.Done link xid outcome) tt;
        resent = λ run w rest is. resent_none o link run w rest is;
      };
      executes = λ d call g next is. takes_none o link d.marks (marks.Execute link call.xid g.moment call.payload g.place g.reply)
          (no_submit_if _ (CallExecuted (record { xid = call.xid; moment = g.moment; payload = call.payload; place = g.place; reply = g.reply }) ∷ []) (tt, tt));
      told_old = λ d call top next is. takes_none o link d.marks _ (no_submit_if _ (ServerTold _ ∷ []) (tt, tt));
      forgot = λ run xid. takes_none o link run (marks.Forget link xid) tt;
      revoked = λ run xid bytes. takes_none o link run (marks.Revoke link xid bytes) (no_submit_if _ (MemoryRevoked (length (bytes_received link Initiator run)) xid ∷ []) (tt, tt));
    }

none_from : (o : LinkParameters) (link : ℕ) (before run : List Mark) → AtEachMark (TakesNone o link) before run → NextStag o link (before ++ run) ≡ NextStag o link before
none_from o link before [] h = ap (λ (all : List Mark). NextStag o link all) (append-nil before)
none_from o link before (mark ∷ run) h =
    ap (λ (all : List Mark). NextStag o link all) (sym (append_assoc before (mark ∷ []) run)) ∙ none_from o link (before ++ mark ∷ []) run h.1 ∙ h.0

pub none_added : (o : LinkParameters) (link : ℕ) (old new : Drill) → AddsBy (TakesNone o link) old new → NextStag o link new.marks ≡ NextStag o link old.marks
none_added o link old new x = ap (λ (all : List Mark). NextStag o link all) x.is ∙ none_from o link old.marks x.added x.each

-- a Submit takes at most 3
stag_submitted : (o : LinkParameters) (k : ClientState) (ended : Option End) (place : ℕ) (a : AcceptedCall) → (next_end_state_in (client_rules o) k (CallSubmitted place a) ended).state.stag ≤ k.stag + 3
unfolding client_end client_state_after
stag_submitted o k None place a = (let most = by (first_of k.waiting a.xid) in omega (arith, most))
  where
    plan : Plan
    plan = (outstanding_of k a).plan

    by : (w : Option WaitingCall) → stags_unless_waiting w plan ≤ 3
    by None = regions_most plan
    by (Some w) = omega arith
stag_submitted o k (Some end) place a = omega arith

pub submit_stags : (o : LinkParameters) (link : ℕ) (run : List Mark) (call : Call) (form : Form) (answer : Submission) → NextStag o link (run ++ marks.Submit link call form answer ∷ []) ≤ NextStag o link run + 3
submit_stags o link run call form (submissions.Accepted xid) =
    let r = client o link run in
    let a : AcceptedCall = record { xid = xid; call = call; form = form } in
    let place : ℕ = length (bytes_received link Initiator run) in
    let same : NextStag o link (run ++ marks.Submit link call form (submissions.Accepted xid) ∷ []) ≡ (next_end_state (client_rules o) r (CallSubmitted place a)).state.stag =
    ap (λ (x : EndState ClientState). x.state.stag) (client_one o link run (marks.Submit link call form (submissions.Accepted xid)))
    ∙ ap (λ (b : Bool). (end_state_after (client_rules o) r (if_own (b && true) (CallSubmitted place a ∷ []))).state.stag) (itself link) in
    let most = stag_submitted o r.state r.ended place a in
    omega (arith, same, most)
submit_stags o link run call form (submissions.Refused why) = (let same = takes_none o link run (marks.Submit link call form (submissions.Refused why)) tt in omega (arith, same))
submit_stags o link run call form submissions.Dropped = (let same = takes_none o link run (marks.Submit link call form submissions.Dropped) tt in omega (arith, same))

-- what the next link begins with
pub reopened_stags : (o : LinkParameters) (link next : ℕ) (run : List Mark) → length (calls_kept o link run) ≤ credits_max → NextStag (reopened o link run) next [] ≤ NextStag o link run + 192
unfolding reopened client events
reopened_stags o link next run few =
    let most = stags_most (client o link run).state.stag (calls_kept o link run) in
    omega (arith, most, few)

pub reopened_fits : (o : LinkParameters) (link : ℕ) (run : List Mark) → length (calls_kept o link run) ≤ credits_max → stag_after (reopened o link run).first_stag (reopened o link run).resumed ≤ NextStag o link run + 192
unfolding reopened
reopened_fits o link run few =
    let most = stags_most (client o link run).state.stag (calls_kept o link run) in
    omega (arith, most, few)
