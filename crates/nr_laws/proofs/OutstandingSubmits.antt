-- Each outstanding call of a client was submitted on its link, and so was each accepted call.
use Rattle.std.proofs.Common.{◌≡◌, ℕ, Bool, true, false, cond, ◌&&◌, not, eqb, eqb-true, List, [], ◌∷◌, ◌++◌, length, map, filter, Option, None, Some, Result, Ok, Err, refl, sym, ap, subst, ◌∙◌, append_assoc, append-nil}
use Rattle.std.specs.List.{AllByRecursion, find}
use Rattle.nr_xdr.specs.Fields.{word_at}
use Rattle.nr_wire.specs.declared.hello.Side.TheVariants.{Initiator, Responder}
use Rattle.nr_wire.specs.Segment.{Segment}
use Rattle.nr_link.specs.declared.end.End.{End as Stop}
use Rattle.nr_link.specs.Frames.{Frame, frames_completed, is_hello}
use Rattle.nr_link.specs.ReceiveState.{ReadRequest, message_completed, read_request_of}
use Rattle.nr_reduce.specs.declared.call.Call.{Call}
use Rattle.nr_reduce.specs.declared.call.Form.{Form}
use Rattle.nr_reduce.specs.declared.call.Submission.{Submission}
use Rattle.nr_reduce.specs.declared.call.Submission.TheVariants as submissions
use Rattle.nr_reduce.specs.declared.mark.Mark.{Mark}
use Rattle.nr_reduce.specs.declared.mark.Mark.TheVariants as marks
use Rattle.nr_reduce.specs.declared.mark.LinkParameters.{LinkParameters}
use Rattle.nr_reduce.specs.History.{AcceptedCall, accepted_as, accepted_at, accepted_calls, bytes_received, same_side}
use Rattle.nr_reduce.specs.Events.{RunEvent, events, events_at, if_own}
use Rattle.nr_reduce.specs.Events.RunEvent.{FrameReceived, CallSubmitted, MemoryRevoked, CallExecuted, QueueWritten, ServerTold}
use Rattle.nr_reduce.specs.EndRules.{EndState, next_end_state, next_end_state_by, next_end_state_in, end_state_after}
use Rattle.nr_reduce.specs.ClientState.{ClientState, OutstandingCall}
use Rattle.nr_reduce.specs.Client.{client_rules, client_end, client_segment, client_state_after, due_with_response, outstanding_of, revoked_call, with_hello, with_message, with_request, with_segment}
use Rattle.nr_reduce.specs.Run.{client}
use Rattle.nr_reduce.proofs.Steps.{client_one}
use Rattle.nr_laws.specs.MarkAt.{MarkAt}
use Rattle.nr_laws.proofs.Basics.{each_append, each_all, each_kept}

-- a Submit of this call under this xid
pub record HasSubmit (link : ℕ) (run : List Mark) (xid : ℕ) (call : Call) : Type 0 where
  pub form : Form
  pub before : List Mark
  pub at : MarkAt run before (marks.Submit link call form (submissions.Accepted xid))

submit_later : (link : ℕ) (run : List Mark) (mark : Mark) (xid : ℕ) (call : Call) → HasSubmit link run xid call → HasSubmit link (run ++ mark ∷ []) xid call
submit_later link run mark xid call h = record {
  form = h.form;
  before = h.before;
  at = (let at = h.at in record {
    after = at.after ++ mark ∷ [];
    is = ap (λ (r : List Mark). r ++ mark ∷ []) at.is ∙ append_assoc h.before (marks.Submit link call h.form (submissions.Accepted xid) ∷ at.after) (mark ∷ []);
  });
}

-- ---- What holds of the xid and the call of each Submit holds of each outstanding call

abbrev Calls : (ℕ → Call → Type 0) → List OutstandingCall → Type 0
Calls R os = AllByRecursion (λ (o : OutstandingCall). R o.xid o.call) os

abbrev SubmitsAre : (ℕ → Call → Type 0) → RunEvent → Type 0
SubmitsAre R (FrameReceived f) = Unit {0}
SubmitsAre R (CallSubmitted place a) = R a.xid a.call
SubmitsAre R (MemoryRevoked place xid) = Unit {0}
SubmitsAre R (CallExecuted call) = Unit {0}
SubmitsAre R (QueueWritten taken) = Unit {0}
SubmitsAre R (ServerTold what) = Unit {0}

calls_revoked : (R : ℕ → Call → Type 0) (xid : ℕ) (os : List OutstandingCall) → Calls R os → Calls R (map (revoked_call xid) os)
calls_revoked R xid [] h = tt
calls_revoked R xid (o ∷ os) h = (by (eqb o.xid xid), calls_revoked R xid os h.1)
  where
    by : (b : Bool) → R (cond b (record o { is_revoked = true }) o).xid (cond b (record o { is_revoked = true }) o).call
    by true = h.0
    by false = h.0

calls_segment : (R : ℕ → Call → Type 0) (k : ClientState) (f : Frame) (r : Result Segment ℕ) → Calls R k.outstanding → Calls R (with_segment k f r).outstanding
calls_segment R k f (Err reason) h = h
calls_segment R k f (Ok segment) h = by (message_completed k.received segment) (read_request_of segment)
  where
    left : (m : List ℕ) → Calls R (filter (λ (o : OutstandingCall). not (eqb o.xid (word_at 0 m))) k.outstanding)
    left m = each_kept (λ (o : OutstandingCall). R o.xid o.call) (λ o. not (eqb o.xid (word_at 0 m))) k.outstanding h

    by : (m : Option (List ℕ)) (q : Option ReadRequest) → Calls R (with_request (with_message k f.end m) (due_with_response k f segment) q).outstanding
    by None None = h
    by None (Some q) = h
    by (Some m) None = left m
    by (Some m) (Some q) = left m

calls_event : (R : ℕ → Call → Type 0) (opened : LinkParameters) (k : ClientState) (e : RunEvent) → SubmitsAre R e → Calls R k.outstanding → Calls R (client_state_after opened k e).outstanding
unfolding client_state_after
calls_event R opened k (FrameReceived f) own h = by (is_hello f)
  where
    by : (b : Bool) → Calls R (cond b (with_hello opened k f) (with_segment k f (client_segment k f))).outstanding
    by true = h
    by false = calls_segment R k f (client_segment k f) h
calls_event R opened k (CallSubmitted place a) own h = each_append (λ (o : OutstandingCall). R o.xid o.call) k.outstanding (outstanding_of k a ∷ []) h (own, tt)
calls_event R opened k (MemoryRevoked place xid) own h = calls_revoked R xid k.outstanding h
calls_event R opened k (CallExecuted call) own h = h
calls_event R opened k (QueueWritten taken) own h = h
calls_event R opened k (ServerTold what) own h = h

calls_next : (R : ℕ → Call → Type 0) (opened : LinkParameters) (r : EndState ClientState) (e : RunEvent) → SubmitsAre R e → Calls R r.state.outstanding → Calls R (next_end_state (client_rules opened) r e).state.outstanding
calls_next R opened r e own h = by_ended r.ended
  where
    by_why : (o : Option Stop) → Calls R (next_end_state_by (client_rules opened) r.state e o).state.outstanding
    by_why None = calls_event R opened r.state e own h
    by_why (Some end) = h

    by_ended : (o : Option Stop) → Calls R (next_end_state_in (client_rules opened) r.state e o).state.outstanding
    by_ended None = by_why (client_end r.state e)
    by_ended (Some end) = h

calls_all : (R : ℕ → Call → Type 0) (opened : LinkParameters) (r : EndState ClientState) (es : List RunEvent) → AllByRecursion (SubmitsAre R) es → Calls R r.state.outstanding → Calls R (end_state_after (client_rules opened) r es).state.outstanding
calls_all R opened r [] own h = h
calls_all R opened r (e ∷ es) own h = calls_all R opened (next_end_state (client_rules opened) r e) es own.1 (calls_next R opened r e own.0 h)

-- ---- Each mark

own_if : (R : ℕ → Call → Type 0) (b : Bool) (es : List RunEvent) → AllByRecursion (SubmitsAre R) es → AllByRecursion (SubmitsAre R) (if_own b es)
own_if R true es h = h
own_if R false es h = tt

frames_are : (R : ℕ → Call → Type 0) (fs : List Frame) → AllByRecursion (SubmitsAre R) (map FrameReceived fs)
frames_are R [] = tt
frames_are R (f ∷ fs) = (tt, frames_are R fs)

mark_are : (link : ℕ) (before : List Mark) (mark : Mark) → AllByRecursion (SubmitsAre (HasSubmit link (before ++ mark ∷ []))) (events_at link Initiator before mark)
mark_are link before (marks.Submit l call form (submissions.Accepted xid)) = by (eqb l link) refl
  where
    own : l ≡ link → HasSubmit link (before ++ marks.Submit l call form (submissions.Accepted xid) ∷ []) xid call
    own same = record { form = form; before = before; at = record { after = []; is = ap (λ (n : ℕ). before ++ marks.Submit n call form (submissions.Accepted xid) ∷ []) same } }

    by : (b : Bool) → eqb l link ≡ b → AllByRecursion (SubmitsAre (HasSubmit link (before ++ marks.Submit l call form (submissions.Accepted xid) ∷ []))) (if_own (b && true) (CallSubmitted (length (bytes_received link Initiator before)) (record { xid = xid; call = call; form = form }) ∷ []))
    by true is = (own (eqb-true l link is), tt)
    by false is = tt
mark_are link before (marks.Submit l call form (submissions.Refused why)) = tt
mark_are link before (marks.Submit l call form submissions.Dropped) = tt
mark_are link before (marks.Fed l s bytes) = own_if (HasSubmit link (before ++ marks.Fed l s bytes ∷ [])) (eqb l link && same_side s Initiator) _ (frames_are (HasSubmit link (before ++ marks.Fed l s bytes ∷ [])) (frames_completed Responder (bytes_received link Initiator before) bytes))
mark_are link before (marks.Wrote l s bytes) = own_if (HasSubmit link (before ++ marks.Wrote l s bytes ∷ [])) (eqb l link && same_side s Initiator) _ (tt, tt)
mark_are link before (marks.Execute l xid moment payload place reply) = own_if (HasSubmit link (before ++ marks.Execute l xid moment payload place reply ∷ [])) (eqb l link && false) _ (tt, tt)
mark_are link before (marks.Revoke l xid bytes) = own_if (HasSubmit link (before ++ marks.Revoke l xid bytes ∷ [])) (eqb l link && true) _ (tt, tt)
mark_are link before (marks.Done l xid outcome) = tt
mark_are link before (marks.Lost l xid) = tt
mark_are link before (marks.Forget l xid) = tt
mark_are link before (marks.Drop l) = tt
mark_are link before (marks.Told l what) = own_if (HasSubmit link (before ++ marks.Told l what ∷ [])) (eqb l link && false) _ (tt, tt)

abbrev OutSubmitted : LinkParameters → ℕ → List Mark → Type 0
OutSubmitted opened link run = Calls (HasSubmit link run) (client opened link run).state.outstanding

out_from : (opened : LinkParameters) (link : ℕ) (before run : List Mark) → OutSubmitted opened link before → OutSubmitted opened link (before ++ run)
out_from opened link before [] h = subst (OutSubmitted opened link) (sym (append-nil before)) h
out_from opened link before (mark ∷ run) h =
    let R = HasSubmit link (before ++ mark ∷ []) in
    let old : Calls R (client opened link before).state.outstanding =
    each_all (λ (o : OutstandingCall). HasSubmit link before o.xid o.call) (λ (o : OutstandingCall). R o.xid o.call) (client opened link before).state.outstanding (λ o. submit_later link before mark o.xid o.call) h in
    let one : OutSubmitted opened link (before ++ mark ∷ []) =
    subst (λ (r : EndState ClientState). Calls R r.state.outstanding) (sym (client_one opened link before mark))
    (calls_all R opened (client opened link before) (events_at link Initiator before mark) (mark_are link before mark) old) in
    subst (OutSubmitted opened link) (append_assoc before (mark ∷ []) run) (out_from opened link (before ++ mark ∷ []) run one)

pub outstanding_submitted : (opened : LinkParameters) (link : ℕ) (run : List Mark) → AllByRecursion (λ (o : OutstandingCall). HasSubmit link run o.xid o.call) (client opened link run).state.outstanding
unfolding client events
outstanding_submitted opened link run = out_from opened link [] run tt

-- ---- The accepted calls

pub record IsSubmitted (link : ℕ) (run : List Mark) (a : AcceptedCall) : Type 0 where
  pub before : List Mark
  pub at : MarkAt run before (marks.Submit link a.call a.form (submissions.Accepted a.xid))

submitted_in : (link : ℕ) (mark : Mark) (run : List Mark) (a : AcceptedCall) → IsSubmitted link run a → IsSubmitted link (mark ∷ run) a
submitted_in link mark run a h = record { before = mark ∷ h.before; at = (let at = h.at in record { after = at.after; is = ap (λ (r : List Mark). mark ∷ r) at.is }) }

accepted_here : (link : ℕ) (mark : Mark) (run : List Mark) → AllByRecursion (IsSubmitted link (mark ∷ run)) (accepted_at link mark)
accepted_here link (marks.Submit l call form answer) run = by (eqb l link) refl
  where
    by_answer : (answer : Submission) → l ≡ link → AllByRecursion (IsSubmitted link (marks.Submit l call form answer ∷ run)) (accepted_as answer call form)
    by_answer (submissions.Accepted xid) same = (record { before = []; at = record { after = run; is = ap (λ (n : ℕ). marks.Submit n call form (submissions.Accepted xid) ∷ run) same } }, tt)
    by_answer (submissions.Refused why) same = tt
    by_answer submissions.Dropped same = tt

    by : (b : Bool) → eqb l link ≡ b → AllByRecursion (IsSubmitted link (marks.Submit l call form answer ∷ run)) (cond b (accepted_as answer call form) [])
    by true is = by_answer answer (eqb-true l link is)
    by false is = tt
accepted_here link (marks.Wrote l side bytes) run = tt
accepted_here link (marks.Fed l side bytes) run = tt
accepted_here link (marks.Execute l xid moment payload place reply) run = tt
accepted_here link (marks.Done l xid outcome) run = tt
accepted_here link (marks.Lost l xid) run = tt
accepted_here link (marks.Forget l xid) run = tt
accepted_here link (marks.Revoke l xid bytes) run = tt
accepted_here link (marks.Drop l) run = tt
accepted_here link (marks.Told l what) run = tt

pub accepted_submitted : (link : ℕ) (run : List Mark) → AllByRecursion (IsSubmitted link run) (accepted_calls link run)
unfolding accepted_calls
accepted_submitted link [] = tt
accepted_submitted link (mark ∷ run) =
    each_append (IsSubmitted link (mark ∷ run)) (accepted_at link mark) (accepted_calls link run) (accepted_here link mark run)
    (each_all (IsSubmitted link run) (IsSubmitted link (mark ∷ run)) (accepted_calls link run) (submitted_in link mark run) (accepted_submitted link run))

-- the call that is found under an xid has it
pub found_each : (P : AcceptedCall → Type 0) (xid : ℕ) (calls : List AcceptedCall) (a : AcceptedCall) → AllByRecursion P calls → find (λ (x : AcceptedCall). eqb x.xid xid) calls ≡ Some a → P a × (a.xid ≡ xid)
found_each P xid [] a h e = absurd cc
found_each P xid (x ∷ calls) a h e = by (eqb x.xid xid) refl e (found_each P xid calls a h.1)
  where
    by : (b : Bool) → eqb x.xid xid ≡ b → cond b (Some x) (find (λ (x : AcceptedCall). eqb x.xid xid) calls) ≡ Some a → (find (λ (x : AcceptedCall). eqb x.xid xid) calls ≡ Some a → P a × (a.xid ≡ xid)) → P a × (a.xid ≡ xid)
    by true is e later = (let same : x ≡ a = cc in (subst P same h.0, ap (λ (y : AcceptedCall). y.xid) (sym same) ∙ eqb-true x.xid xid is))
    by false is e later = later e
