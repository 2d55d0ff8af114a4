-- Each outstanding call of a client that keeps its law is found among those that it accepted, and is planned in the form in which it was
-- submitted.
use Rattle.std.proofs.Common.{◌≡◌, ℕ, ◌+◌, ◌<◌, Bool, true, false, cond, ◌&&◌, not, eqb, List, [], ◌∷◌, ◌++◌, length, map, Option, None, Some, Result, Ok, Err, refl, sym, ap, subst, arith, append_assoc, append-nil}
use Rattle.std.specs.List.{AllByRecursion, filter, find}
use Rattle.std.proofs.lemmas.Bool.{eqb-true, eq-eqb}
use Rattle.nr_wire.specs.declared.hello.Side.TheVariants.{Initiator, Responder}
use Rattle.nr_wire.specs.Segment.{Segment}
use Rattle.nr_xdr.specs.Fields.{word_at}
use Rattle.nr_rpc.specs.Credential.{CanWriteCred}
use Rattle.nr_link.specs.declared.end.End.{End}
use Rattle.nr_link.specs.Frames.{Frame, is_hello, frames_completed}
use Rattle.nr_link.specs.ReceiveState.{ReadRequest, message_completed, read_request_of}
use Rattle.nr_reduce.specs.declared.call.Submission.TheVariants as submissions
use Rattle.nr_reduce.specs.declared.mark.Mark.{Mark}
use Rattle.nr_reduce.specs.declared.mark.Mark.TheVariants as marks
use Rattle.nr_reduce.specs.declared.mark.LinkParameters.{LinkParameters}
use Rattle.nr_reduce.specs.declared.outline.Plan.{Plan}
use Rattle.nr_reduce.specs.Plans.{TooLarge}
use Rattle.nr_reduce.specs.History.{AcceptedCall, accepted_at, accepted_calls, bytes_received}
use Rattle.nr_reduce.specs.AtEachMark.{AtEachMark}
use Rattle.nr_reduce.specs.Matched.{IsPrefixOf}
use Rattle.nr_reduce.specs.Events.{RunEvent, if_own, events_at, events}
use Rattle.nr_reduce.specs.Events.RunEvent.{FrameReceived, CallSubmitted, MemoryRevoked, CallExecuted, QueueWritten, ServerTold}
use Rattle.nr_reduce.specs.EndRules.{EndState, next_end_state, next_end_state_by, next_end_state_in, end_state_after}
use Rattle.nr_reduce.specs.ClientState.{OutstandingCall, ClientState, call_payload}
use Rattle.nr_reduce.specs.Client.{client_rules, client_end, client_state_after, outstanding_of, plan_or, revoked_call, with_message, with_request, with_segment, with_hello, due_with_response, client_segment}
use Rattle.nr_reduce.specs.Run.{client}
use Rattle.nr_reduce.specs.Asked.{IsPlannedAs, AskedMark, AskedSoFar, IsAccepted}
use Rattle.nr_reduce.specs.Opening.{IsOpened}
use Rattle.nr_reduce.specs.StandingLaws.{xid_of_send}
use Rattle.nr_reduce.proofs.Steps.{client_one}
use Rattle.nr_reduce.proofs.Standing.{AtEachMark_more}
use Rattle.nr_reduce.proofs.Waiting.{accepted_one}
use Rattle.nr_reduce.proofs.Placing.{segment_sends}
use Rattle.nr_reduce.proofs.OwnLimits.{client_limits_of, planned_as}
use Rattle.nr_reduce.proofs.RisingXids.{xids_rise}
use Rattle.nr_reduce.proofs.XidsFollow.{accepted_follows}

pub record IsFound (accepted : List AcceptedCall) (o : OutstandingCall) : Type 0 where
  pub own : AcceptedCall
  pub found : find (λ (a : AcceptedCall). eqb a.xid o.xid) accepted ≡ Some own
  pub planned : IsPlannedAs o.xid o.call own.form o.plan
  pub writable : CanWriteCred o.call.cred

abbrev pub AllFound : List AcceptedCall → List OutstandingCall → Type 0
AllFound accepted os = AllByRecursion (λ (o : OutstandingCall). IsFound accepted o) os

-- an accepted call has the xid of a Send that has a number
abbrev pub IsOfSend : LinkParameters → (sends : ℕ) → AcceptedCall → Type 0
IsOfSend opened sends a = (n : ℕ) × ((a.xid ≡ xid_of_send opened n) × (n < sends))

abbrev pub AllOfSends : LinkParameters → (sends : ℕ) → List AcceptedCall → Type 0
AllOfSends opened sends accepted = AllByRecursion (λ (a : AcceptedCall). IsOfSend opened sends a) accepted

abbrev pub HasFound : LinkParameters → List AcceptedCall → ClientState → Type 0
HasFound opened accepted k = AllFound accepted k.outstanding × AllOfSends opened k.sends accepted

-- ---- One accepted call more

find_more : (xid : ℕ) (calls bs : List AcceptedCall) (a : AcceptedCall) → find (λ (x : AcceptedCall). eqb x.xid xid) calls ≡ Some a → find (λ (x : AcceptedCall). eqb x.xid xid) (calls ++ bs) ≡ Some a
find_more xid [] bs a h = absurd cc
find_more xid (x ∷ calls) bs a h = by (eqb x.xid xid) h (find_more xid calls bs a)
  where
    by : (b : Bool) → cond b (Some x) (find (λ (y : AcceptedCall). eqb y.xid xid) calls) ≡ Some a →
        (find (λ (y : AcceptedCall). eqb y.xid xid) calls ≡ Some a → find (λ (y : AcceptedCall). eqb y.xid xid) (calls ++ bs) ≡ Some a) → cond b (Some x) (find (λ (y : AcceptedCall). eqb y.xid xid) (calls ++ bs)) ≡ Some a
    by true h later = h
    by false h later = later h

find_new : (opened : LinkParameters) (sends : ℕ) (calls : List AcceptedCall) (a : AcceptedCall) → IsOpened opened → a.xid ≡ xid_of_send opened sends → AllOfSends opened sends calls →
    find (λ (x : AcceptedCall). eqb x.xid a.xid) (calls ++ a ∷ []) ≡ Some a
find_new opened sends [] a opens own h = by (eqb a.xid a.xid) (eq-eqb a.xid a.xid refl)
  where
    by : (b : Bool) → b ≡ true → cond b (Some a) None ≡ Some a
    by true e = refl
    by false e = absurd cc
find_new opened sends (x ∷ calls) a opens own h = by (eqb x.xid a.xid) refl (find_new opened sends calls a opens own h.1)
  where
    by : (b : Bool) → eqb x.xid a.xid ≡ b → find (λ (y : AcceptedCall). eqb y.xid a.xid) (calls ++ a ∷ []) ≡ Some a → cond b (Some x) (find (λ (y : AcceptedCall). eqb y.xid a.xid) (calls ++ a ∷ [])) ≡ Some a
    by true e rest = (
        let same = eqb-true x.xid a.xid e in
        let of = h.0.1.0 in
        let lt = xids_rise opened h.0.0 sends opens h.0.1.1 in
        absurd (omega (arith, same, of, own, lt)))
    by false e rest = rest

found_more : (calls : List AcceptedCall) (a : AcceptedCall) (os : List OutstandingCall) → AllFound calls os → AllFound (calls ++ a ∷ []) os
found_more calls a [] h = tt
found_more calls a (o ∷ os) h = (
  record { own = h.0.own; found = find_more o.xid calls (a ∷ []) h.0.own h.0.found; planned = h.0.planned; writable = h.0.writable },
  found_more calls a os h.1,
)

found_last : (calls : List AcceptedCall) (os : List OutstandingCall) (last : OutstandingCall) → AllFound calls os → IsFound calls last → AllFound calls (os ++ last ∷ [])
found_last calls [] last h own = (own, tt)
found_last calls (o ∷ os) last h own = (h.0, found_last calls os last h.1 own)

sends_more : (opened : LinkParameters) (sends : ℕ) (calls : List AcceptedCall) (a : AcceptedCall) → a.xid ≡ xid_of_send opened sends → AllOfSends opened sends calls → AllOfSends opened (sends + 1) (calls ++ a ∷ [])
sends_more opened sends [] a own h = ((sends, (own, omega arith)), tt)
sends_more opened sends (x ∷ calls) a own h = ((h.0.0, (h.0.1.0, (let lt = h.0.1.1 in omega (arith, lt)))), sends_more opened sends calls a own h.1)

submitted : (opened : LinkParameters) (calls : List AcceptedCall) (k : ClientState) (place : ℕ) (a : AcceptedCall) → IsOpened opened → a.xid ≡ xid_of_send opened k.sends →
    IsPlannedAs a.xid a.call a.form (outstanding_of k a).plan → CanWriteCred a.call.cred → HasFound opened calls k → HasFound opened (calls ++ a ∷ []) (client_state_after opened k (CallSubmitted place a))
unfolding client_state_after
submitted opened calls k place a opens own planned writable h = (
  found_last (calls ++ a ∷ []) k.outstanding (outstanding_of k a) (found_more calls a k.outstanding h.0) (record { own = a; found = find_new opened k.sends calls a opens own h.1; planned = planned; writable = writable }),
  sends_more opened k.sends calls a own h.1,
)

-- ---- Another event

found_filter : (calls : List AcceptedCall) (p : OutstandingCall → Bool) (os : List OutstandingCall) → AllFound calls os → AllFound calls (filter p os)
found_filter calls p [] h = tt
found_filter calls p (o ∷ os) h = by (found_filter calls p os h.1) (p o)
  where
    by : AllFound calls (filter p os) → (b : Bool) → AllFound calls (cond b (o ∷ filter p os) (filter p os))
    by rest true = (h.0, rest)
    by rest false = rest

found_revoked : (calls : List AcceptedCall) (xid : ℕ) (os : List OutstandingCall) → AllFound calls os → AllFound calls (map (revoked_call xid) os)
found_revoked calls xid [] h = tt
found_revoked calls xid (o ∷ os) h = (by (eqb o.xid xid), found_revoked calls xid os h.1)
  where
    by : (b : Bool) → IsFound calls (cond b (record o { is_revoked = true }) o)
    by true = record { own = h.0.own; found = h.0.found; planned = h.0.planned; writable = h.0.writable }
    by false = h.0

found_segment : (calls : List AcceptedCall) (k : ClientState) (f : Frame) (r : Result Segment ℕ) → AllFound calls k.outstanding → AllFound calls (with_segment k f r).outstanding
found_segment calls k f (Err reason) h = h
found_segment calls k f (Ok segment) h = by (message_completed k.received segment) (due_with_response k f segment) (read_request_of segment)
  where
    by : (m : Option (List ℕ)) (due : ℕ) (q : Option ReadRequest) → AllFound calls (with_request (with_message k f.end m) due q).outstanding
    by None due None = h
    by None due (Some q) = h
    by (Some m) due None = found_filter calls (λ o. not (eqb o.xid (word_at 0 m))) k.outstanding h
    by (Some m) due (Some q) = found_filter calls (λ o. not (eqb o.xid (word_at 0 m))) k.outstanding h

abbrev IsNoSubmit : RunEvent → Type 0
IsNoSubmit (FrameReceived f) = Unit {0}
IsNoSubmit (CallSubmitted place a) = ⊥
IsNoSubmit (MemoryRevoked place xid) = Unit {0}
IsNoSubmit (CallExecuted call) = Unit {0}
IsNoSubmit (QueueWritten taken) = Unit {0}
IsNoSubmit (ServerTold what) = Unit {0}

found_event : (opened : LinkParameters) (calls : List AcceptedCall) (k : ClientState) (e : RunEvent) → IsNoSubmit e → HasFound opened calls k → HasFound opened calls (client_state_after opened k e)
unfolding client_state_after
found_event opened calls k (FrameReceived f) other h = by (is_hello f)
  where
    by : (b : Bool) → HasFound opened calls (cond b (with_hello opened k f) (with_segment k f (client_segment k f)))
    by true = h
    by false = (found_segment calls k f (client_segment k f) h.0, subst (λ (n : ℕ). AllOfSends opened n calls) (sym (segment_sends k f (client_segment k f))) h.1)
found_event opened calls k (CallSubmitted place a) other h = absurd other
found_event opened calls k (MemoryRevoked place xid) other h = (found_revoked calls xid k.outstanding h.0, h.1)
found_event opened calls k (CallExecuted call) other h = h
found_event opened calls k (QueueWritten taken) other h = h
found_event opened calls k (ServerTold what) other h = h

found_next : (opened : LinkParameters) (calls : List AcceptedCall) (r : EndState ClientState) (e : RunEvent) → IsNoSubmit e → HasFound opened calls r.state → HasFound opened calls (next_end_state (client_rules opened) r e).state
found_next opened calls r e other h = by_end r.state r.ended h
  where
    by_why : (k : ClientState) (why : Option End) → HasFound opened calls k → HasFound opened calls (next_end_state_by (client_rules opened) k e why).state
    by_why k None h = found_event opened calls k e other h
    by_why k (Some end) h = h

    by_end : (k : ClientState) (ended : Option End) → HasFound opened calls k → HasFound opened calls (next_end_state_in (client_rules opened) k e ended).state
    by_end k None h = by_why k (client_end k e) h
    by_end k (Some end) h = h

found_frames : (opened : LinkParameters) (calls : List AcceptedCall) (r : EndState ClientState) (fs : List Frame) → HasFound opened calls r.state → HasFound opened calls (end_state_after (client_rules opened) r (map FrameReceived fs)).state
found_frames opened calls r [] h = h
found_frames opened calls r (f ∷ fs) h = found_frames opened calls (next_end_state (client_rules opened) r (FrameReceived f)) fs (found_next opened calls r (FrameReceived f) tt h)

submitted_next : (opened : LinkParameters) (calls : List AcceptedCall) (r : EndState ClientState) (place : ℕ) (a : AcceptedCall) → r.ended ≡ None →
    HasFound opened calls (client_state_after opened r.state (CallSubmitted place a)) → HasFound opened calls (next_end_state (client_rules opened) r (CallSubmitted place a)).state
unfolding client_end
submitted_next opened calls r place a stays h = by r.state r.ended stays h
  where
    by : (k : ClientState) (ended : Option End) → ended ≡ None → HasFound opened calls (client_state_after opened k (CallSubmitted place a)) → HasFound opened calls (next_end_state_in (client_rules opened) k (CallSubmitted place a) ended).state
    by k None e h = h
    by k (Some end) e h = absurd cc

-- ---- Each mark

-- what a mark makes of it
abbrev FoundAt : LinkParameters → ℕ → List Mark → Mark → Type 0
FoundAt opened link before mark = HasFound opened (accepted_calls link before ++ accepted_at link mark) (end_state_after (client_rules opened) (client opened link before) (events_at link Initiator before mark)).state

found_same : (opened : LinkParameters) (calls : List AcceptedCall) (k : ClientState) → HasFound opened calls k → HasFound opened (calls ++ []) k
found_same opened calls k h = subst (λ (xs : List AcceptedCall). HasFound opened xs k) (sym (append-nil calls)) h

found_other : (opened : LinkParameters) (calls : List AcceptedCall) (r : EndState ClientState) (b : Bool) (e : RunEvent) → IsNoSubmit e → HasFound opened calls r.state →
    HasFound opened (calls ++ []) (end_state_after (client_rules opened) r (if_own b (e ∷ []))).state
found_other opened calls r true e other h = found_same opened calls (next_end_state (client_rules opened) r e).state (found_next opened calls r e other h)
found_other opened calls r false e other h = found_same opened calls r.state h

found_mark : (opened : LinkParameters) (link : ℕ) (before : List Mark) (mark : Mark) → IsOpened opened → AskedSoFar opened link before → AskedMark IsPrefixOf opened link before mark →
    HasFound opened (accepted_calls link before) (client opened link before).state → FoundAt opened link before mark
found_mark opened link before (marks.Submit l call form (submissions.Accepted xid)) opens so_far asked h = by (eqb l link) refl
  where
    r : EndState ClientState
    r = client opened link before

    calls : List AcceptedCall
    calls = accepted_calls link before

    a : AcceptedCall
    a = record { xid = xid; call = call; form = form }

    place : ℕ
    place = length (bytes_received link Initiator before)

    own_call : IsAccepted opened link before call form xid → HasFound opened (calls ++ a ∷ []) (next_end_state (client_rules opened) r (CallSubmitted place a)).state
    own_call is =
        let plan_is : (outstanding_of r.state a).plan ≡ is.plan = ap (λ (p : Result Plan TooLarge). plan_or (call_payload xid call) p) is.planned in
        let planned : IsPlannedAs xid call form is.plan = planned_as r.state xid call form is.plan (client_limits_of opened link before) is.next is.resent is.planned in
        submitted_next opened (calls ++ a ∷ []) r place a is.stays
        (submitted opened calls r.state place a opens (accepted_follows opened link before call form xid so_far is) (subst (λ (p : Plan). IsPlannedAs xid call form p) (sym plan_is) planned) is.writable h)

    by : (b : Bool) → eqb l link ≡ b → HasFound opened (calls ++ cond b (a ∷ []) []) (end_state_after (client_rules opened) r (if_own (b && true) (CallSubmitted place a ∷ []))).state
    by true own = own_call (asked (eqb-true l link own))
    by false own = found_same opened calls r.state h
found_mark opened link before (marks.Submit l call form (submissions.Refused why)) opens so_far asked h = by (eqb l link)
  where
    by : (b : Bool) → HasFound opened (accepted_calls link before ++ cond b [] []) (client opened link before).state
    by true = found_same opened (accepted_calls link before) (client opened link before).state h
    by false = found_same opened (accepted_calls link before) (client opened link before).state h
found_mark opened link before (marks.Submit l call form submissions.Dropped) opens so_far asked h = by (eqb l link)
  where
    by : (b : Bool) → HasFound opened (accepted_calls link before ++ cond b [] []) (client opened link before).state
    by true = found_same opened (accepted_calls link before) (client opened link before).state h
    by false = found_same opened (accepted_calls link before) (client opened link before).state h
found_mark opened link before (marks.Wrote l s bytes) opens so_far asked h = found_other opened (accepted_calls link before) (client opened link before) _ (QueueWritten (length bytes)) tt h
found_mark opened link before (marks.Fed l s bytes) opens so_far asked h = by _
  where
    by : (b : Bool) → HasFound opened (accepted_calls link before ++ []) (end_state_after (client_rules opened) (client opened link before) (if_own b (map FrameReceived (frames_completed Responder (bytes_received link Initiator before) bytes)))).state
    by true = found_same opened (accepted_calls link before) (end_state_after (client_rules opened) (client opened link before) (map FrameReceived (frames_completed Responder (bytes_received link Initiator before) bytes))).state
        (found_frames opened (accepted_calls link before) (client opened link before) (frames_completed Responder (bytes_received link Initiator before) bytes) h)
    by false = found_same opened (accepted_calls link before) (client opened link before).state h
found_mark opened link before (marks.Execute l xid moment payload place reply) opens so_far asked h =
    found_other opened (accepted_calls link before) (client opened link before) _ (CallExecuted (record { xid = xid; moment = moment; payload = payload; place = place; reply = reply })) tt h
found_mark opened link before (marks.Done l xid outcome) opens so_far asked h = found_same opened (accepted_calls link before) (client opened link before).state h
found_mark opened link before (marks.Lost l xid) opens so_far asked h = found_same opened (accepted_calls link before) (client opened link before).state h
found_mark opened link before (marks.Forget l xid) opens so_far asked h = found_same opened (accepted_calls link before) (client opened link before).state h
found_mark opened link before (marks.Revoke l xid bytes) opens so_far asked h =
    found_other opened (accepted_calls link before) (client opened link before) _ (MemoryRevoked (length (bytes_received link Initiator before)) xid) tt h
found_mark opened link before (marks.Drop l) opens so_far asked h = found_same opened (accepted_calls link before) (client opened link before).state h
found_mark opened link before (marks.Told l what) opens so_far asked h = found_other opened (accepted_calls link before) (client opened link before) _ (ServerTold what) tt h

found_from : (opened : LinkParameters) (link : ℕ) (before run : List Mark) → IsOpened opened → AskedSoFar opened link before → AtEachMark (AskedMark IsPrefixOf opened link) before run →
    HasFound opened (accepted_calls link before) (client opened link before).state → HasFound opened (accepted_calls link (before ++ run)) (client opened link (before ++ run)).state
found_from opened link before [] opens so_far asked h = subst (λ (r : List Mark). HasFound opened (accepted_calls link r) (client opened link r).state) (sym (append-nil before)) h
found_from opened link before (mark ∷ run) opens so_far asked h =
    let there = found_mark opened link before mark opens so_far asked.0 h in
    let next : HasFound opened (accepted_calls link (before ++ mark ∷ [])) (client opened link (before ++ mark ∷ [])).state =
    subst (λ (calls : List AcceptedCall). HasFound opened calls (client opened link (before ++ mark ∷ [])).state) (sym (accepted_one link before mark))
    (subst (λ (r : EndState ClientState). HasFound opened (accepted_calls link before ++ accepted_at link mark) r.state) (sym (client_one opened link before mark)) there) in
    subst (λ (r : List Mark). HasFound opened (accepted_calls link r) (client opened link r).state) (append_assoc before (mark ∷ []) run)
    (found_from opened link (before ++ mark ∷ []) run opens (AtEachMark_more (AskedMark IsPrefixOf opened link) [] before mark so_far asked.0) asked.1 next)

found_first : (opened : LinkParameters) (link : ℕ) → HasFound opened (accepted_calls link []) (client opened link []).state
unfolding client events accepted_calls
found_first opened link = (tt, tt)

pub calls_found : (opened : LinkParameters) (link : ℕ) (run : List Mark) → IsOpened opened → AskedSoFar opened link run → AllFound (accepted_calls link run) (client opened link run).state.outstanding
calls_found opened link run opens asked = (found_from opened link [] run opens tt asked (found_first opened link)).0
