-- The calls of a client are planned for lengths of Sends up to those that were agreed on last.
use Rattle.std.proofs.Common.{◌≡◌, ℕ, ◌+◌, ◌<◌, ◌≤◌, Bool, true, false, cond, not, ◌&&◌, eqb, eqb-true, List, [], ◌∷◌, ◌++◌, length, map, Option, None, Some, Result, Ok, Err, refl, sym, ap, subst, ◌∙◌, arith, append-nil, append_assoc, length-append}
use Rattle.std.specs.List.{AllByRecursion, concat, filter, find}
use Rattle.std.proofs.lemmas.Bool.{and_parts, eq-eqb}
use Rattle.std.proofs.lemmas.List.Folds.{concat-append}
use Rattle.nr_xdr.specs.Fields.{word_at}
use Rattle.nr_wire.specs.declared.hello.Side.{Side}
use Rattle.nr_wire.specs.declared.hello.Side.TheVariants.{Initiator, Responder}
use Rattle.nr_wire.specs.declared.stream.Awaited.{Awaited}
use Rattle.nr_wire.specs.declared.stream.Awaited.TheVariants.{Hello as HelloFrom, Fpdu}
use Rattle.nr_wire.specs.Hello.{hello_of}
use Rattle.nr_wire.specs.Segment.{Segment}
use Rattle.nr_wire.specs.Stream.{AreFrames, awaited_after, split}
use Rattle.nr_wire.proofs.Frames.{fields_some}
use Rattle.nr_wire.proofs.Splits.{split_Splits, split_append}
use Rattle.nr_link.specs.declared.agreement.Agreement.{Agreement}
use Rattle.nr_link.specs.declared.end.End.{End}
use Rattle.nr_link.specs.declared.end.End.TheVariants as ends
use Rattle.nr_link.specs.Agreement.{IsSendLimit}
use Rattle.nr_link.specs.Ending.{frame_end_by, hello_end}
use Rattle.nr_link.specs.Frames.{Frame, frames_completed, frames_from, is_hello}
use Rattle.nr_link.specs.Reasons.{REASON_SIZES}
use Rattle.nr_link.specs.ReceiveState.{ReadRequest, message_completed, read_request_of}
use Rattle.nr_link.proofs.Agreements.{agreements_bounded}
use Rattle.nr_link.proofs.Streams.{frames_completed_split}
use Rattle.nr_reduce.specs.declared.call.Call.{Call}
use Rattle.nr_reduce.specs.declared.call.Form.{Form}
use Rattle.nr_reduce.specs.declared.call.Submission.TheVariants as submissions
use Rattle.nr_reduce.specs.declared.mark.LinkParameters.{LinkParameters}
use Rattle.nr_reduce.specs.declared.mark.Mark.{Mark}
use Rattle.nr_reduce.specs.declared.mark.Mark.TheVariants as marks
use Rattle.nr_reduce.specs.declared.mark.ResumedCall.{ResumedCall}
use Rattle.nr_reduce.specs.declared.outline.Plan.{Plan}
use Rattle.nr_reduce.specs.Limits.{send_unit}
use Rattle.nr_reduce.specs.Plans.{TooLarge, plan_of, regions_needed}
use Rattle.nr_reduce.specs.Asked.{AskedMark, AskedSoFar, IsAccepted, IsResent}
use Rattle.nr_reduce.specs.AtEachMark.{AtEachMark}
use Rattle.nr_reduce.specs.ClientState.{ClientState, OutstandingCall, WaitingCall, call_payload, first_of, others_than, plan_for, plan_unless, waiting_from}
use Rattle.nr_reduce.specs.Client.{client_end, client_readiness, client_rules, client_segment, client_state_after, due_with_response, has_same_sizes, initial_client, or_message_end, or_other_sizes, outstanding_of, plan_or, revoked_call, revoked_waiting, with_hello, with_message, with_request, with_segment}
use Rattle.nr_reduce.specs.EndRules.{EndState, end_state_after, next_end_state, next_end_state_by, next_end_state_in}
use Rattle.nr_reduce.specs.Events.{RunEvent, events, events_at, if_own}
use Rattle.nr_reduce.specs.Events.RunEvent.{FrameReceived, CallSubmitted, MemoryRevoked, CallExecuted, QueueWritten, ServerTold}
use Rattle.nr_reduce.specs.Hellos.{agreement_with, client_agreement, client_private, private_of}
use Rattle.nr_reduce.specs.History.{AcceptedCall, accepted_at, accepted_calls, bytes_received, fed_at, same_side}
use Rattle.nr_reduce.specs.Matched.{IsPrefixOf}
use Rattle.nr_reduce.specs.OfferedRegions.{region_grants}
use Rattle.nr_reduce.specs.Opening.{AreResumed, IsOpened, IsResumed, lengths_before}
use Rattle.nr_reduce.specs.Reopening.{last_agreement, resumed_again}
use Rattle.nr_reduce.specs.Run.{client}
use Rattle.nr_reduce.specs.SubmitAnswer.{first_xid_or, next_sent_xid}
use Rattle.nr_reduce.proofs.OwnLimits.{client_limits_of}
use Rattle.nr_reduce.proofs.OwnStags.{kept_after}
use Rattle.nr_reduce.proofs.Placing.{segment_waiting, sent_after_submit, sent_rises}
use Rattle.nr_reduce.proofs.Standing.{AtEachMark_more, itself, received_one}
use Rattle.nr_reduce.proofs.Steps.{client_one}
use Rattle.nr_reduce.proofs.Unresumed.{HasOpening, has_opening, opening_after, opening_segment}
use Rattle.nr_requester.specs.Reopening.{AgreedInRange}
use Rattle.nr_requester.proofs.AllMarks.{received_same}
use Rattle.nr_requester.proofs.AnsweredRegions.{IsSilent}
use Rattle.nr_requester.proofs.AnswerSteps.{accepted_one, all_append, all_as, all_filter}

-- what was agreed on last
abbrev pub limits : ClientState → Agreement
limits k = lengths_before (last_agreement k)

abbrev pub IsWithin : Agreement → Agreement → Type 0
IsWithin a b = (a.up ≤ b.up) × (a.down ≤ b.down)

pub resumed_within : (a b : Agreement) (r : ResumedCall) → IsWithin a b → IsResumed a r → IsResumed b r
resumed_within a b r within h = record {
  planned = h.planned;
  up = (let less = h.up in let more = within.0 in omega (arith, less, more));
  down = (let less = h.down in let more = within.1 in omega (arith, less, more));
  writable = h.writable;
}

-- ---- The calls that wait

abbrev pub AllWait : Agreement → List WaitingCall → Type 0
AllWait agreed ws = AllByRecursion (λ (w : WaitingCall). IsResumed agreed (resumed_again w)) ws

wait_first : (agreed : Agreement) (first stag next : ℕ) (rs : List ResumedCall) → AreResumed agreed first rs next → AllWait agreed (waiting_from stag rs)
wait_first agreed first stag next [] h = tt
wait_first agreed first stag next (r ∷ rs) h = (h.1.0, wait_first agreed (r.xid + 1) (stag + regions_needed r.plan) next rs h.1.1)

wait_others : (agreed : Agreement) (xid : ℕ) (ws : List WaitingCall) → AllWait agreed ws → AllWait agreed (others_than ws xid)
wait_others agreed xid [] h = tt
wait_others agreed xid (w ∷ ws) h = by (eqb w.xid xid)
  where
    by : (b : Bool) → AllWait agreed (cond b ws (w ∷ ws))
    by true = h.1
    by false = h

wait_revoked : (agreed : Agreement) (xid : ℕ) (ws : List WaitingCall) → AllWait agreed ws → AllWait agreed (map (revoked_waiting xid) ws)
wait_revoked agreed xid [] h = tt
wait_revoked agreed xid (w ∷ ws) h = (by (eqb w.xid xid), wait_revoked agreed xid ws h.1)
  where
    by : (b : Bool) → IsResumed agreed (resumed_again (cond b (record w { is_revoked = true }) w))
    by true = h.0
    by false = h.0

wait_after : (opened : LinkParameters) (agreed : Agreement) (k : ClientState) (event : RunEvent) → AllWait agreed k.waiting → AllWait agreed (client_state_after opened k event).waiting
unfolding client_state_after
wait_after opened agreed k (FrameReceived f) h = by (is_hello f)
  where
    by : (b : Bool) → AllWait agreed (cond b (with_hello opened k f) (with_segment k f (client_segment k f))).waiting
    by true = h
    by false = subst (λ (ws : List WaitingCall). AllWait agreed ws) (sym (segment_waiting k f (client_segment k f))) h
wait_after opened agreed k (CallSubmitted place a) h = wait_others agreed a.xid k.waiting h
wait_after opened agreed k (MemoryRevoked place xid) h = wait_revoked agreed xid k.waiting h
wait_after opened agreed k (CallExecuted call) h = h
wait_after opened agreed k (QueueWritten taken) h = h
wait_after opened agreed k (ServerTold what) h = h

pub all_wait : (opened : LinkParameters) (link : ℕ) (run : List Mark) → IsOpened opened → AllWait (lengths_before opened.agreed) (client opened link run).state.waiting
unfolding client
all_wait opened link run opens =
    kept_after (client_rules opened) (λ (k : ClientState). AllWait (lengths_before opened.agreed) k.waiting) (λ k e. wait_after opened (lengths_before opened.agreed) k e) (initial_client opened) (events link Initiator run)
    (wait_first (lengths_before opened.agreed) 1 opened.first_stag opened.first_xid opened.resumed opens.resumed)

-- ---- The calls that are outstanding

pub record IsAgain (agreed : Agreement) (accepted : List AcceptedCall) (o : OutstandingCall) : Type 0 where
  pub own : AcceptedCall
  pub found : find (λ (a : AcceptedCall). eqb a.xid o.xid) accepted ≡ Some own
  pub resumed : IsResumed agreed (record { xid = o.xid; call = o.call; form = own.form; plan = o.plan })

abbrev pub AllAgain : Agreement → List AcceptedCall → List OutstandingCall → Type 0
AllAgain agreed accepted os = AllByRecursion (IsAgain agreed accepted) os

pub again_within : (a b : Agreement) (accepted : List AcceptedCall) (os : List OutstandingCall) → IsWithin a b → AllAgain a accepted os → AllAgain b accepted os
again_within a b accepted os within h =
    all_as os (λ (o : OutstandingCall) g. record { own = g.own; found = g.found; resumed = resumed_within a b (record { xid = o.xid; call = o.call; form = g.own.form; plan = o.plan }) within g.resumed }) h

found_more : (xid : ℕ) (calls more : List AcceptedCall) (a : AcceptedCall) → find (λ (x : AcceptedCall). eqb x.xid xid) calls ≡ Some a → find (λ (x : AcceptedCall). eqb x.xid xid) (calls ++ more) ≡ Some a
found_more xid [] more a h = absurd cc
found_more xid (x ∷ calls) more a h = by (eqb x.xid xid) h (found_more xid calls more a)
  where
    by : (b : Bool) → cond b (Some x) (find (λ (y : AcceptedCall). eqb y.xid xid) calls) ≡ Some a →
        (find (λ (y : AcceptedCall). eqb y.xid xid) calls ≡ Some a → find (λ (y : AcceptedCall). eqb y.xid xid) (calls ++ more) ≡ Some a) → cond b (Some x) (find (λ (y : AcceptedCall). eqb y.xid xid) (calls ++ more)) ≡ Some a
    by true h later = h
    by false h later = later h

pub again_more : (agreed : Agreement) (accepted more : List AcceptedCall) (os : List OutstandingCall) → AllAgain agreed accepted os → AllAgain agreed (accepted ++ more) os
again_more agreed accepted more os h = all_as os (λ (o : OutstandingCall) g. record { own = g.own; found = found_more o.xid accepted more g.own g.found; resumed = g.resumed }) h

pub again_revoked : (agreed : Agreement) (accepted : List AcceptedCall) (xid : ℕ) (os : List OutstandingCall) → AllAgain agreed accepted os → AllAgain agreed accepted (map (revoked_call xid) os)
again_revoked agreed accepted xid [] h = tt
again_revoked agreed accepted xid (o ∷ os) h = (by (eqb o.xid xid), again_revoked agreed accepted xid os h.1)
  where
    by : (b : Bool) → IsAgain agreed accepted (cond b (record o { is_revoked = true }) o)
    by true = record { own = h.0.own; found = h.0.found; resumed = h.0.resumed }
    by false = h.0

-- the xid of each accepted call is below the one that is sent next
abbrev pub AreBelow : ℕ → List AcceptedCall → Type 0
AreBelow next accepted = AllByRecursion (λ (a : AcceptedCall). a.xid < next) accepted

pub found_new : (accepted : List AcceptedCall) (a : AcceptedCall) → AreBelow a.xid accepted → find (λ (x : AcceptedCall). eqb x.xid a.xid) (accepted ++ a ∷ []) ≡ Some a
found_new [] a below = ap (λ (b : Bool). cond b (Some a) None) (eq-eqb a.xid a.xid refl)
found_new (x ∷ accepted) a below = by (eqb x.xid a.xid) refl (found_new accepted a below.1)
  where
    by : (b : Bool) → eqb x.xid a.xid ≡ b → find (λ (y : AcceptedCall). eqb y.xid a.xid) (accepted ++ a ∷ []) ≡ Some a → cond b (Some x) (find (λ (y : AcceptedCall). eqb y.xid a.xid) (accepted ++ a ∷ [])) ≡ Some a
    by true e rest = (let same = eqb-true x.xid a.xid e in let lt = below.0 in absurd (omega (arith, same, lt)))
    by false e rest = rest

below_later : (n m : ℕ) (accepted : List AcceptedCall) → n ≤ m → AreBelow n accepted → AreBelow m accepted
below_later n m accepted le h = all_as accepted (λ (a : AcceptedCall) lt. omega (arith, le, lt)) h

none_below : (n : ℕ) (b : Bool) → AreBelow n (cond b [] [])
none_below n true = tt
none_below n false = tt

-- what a mark accepts is below the xid that is sent next then
below_mark : (opened : LinkParameters) (link : ℕ) (before : List Mark) (mark : Mark) → AskedMark IsPrefixOf opened link before mark → AreBelow (next_sent_xid (client opened link (before ++ mark ∷ [])).state) (accepted_at link mark)
below_mark opened link before (marks.Submit l call form (submissions.Accepted xid)) asked = by (eqb l link) refl
  where
    submit : ℕ → Mark
    submit n = marks.Submit n call form (submissions.Accepted xid)

    by : (b : Bool) → eqb l link ≡ b → AreBelow (next_sent_xid (client opened link (before ++ submit l ∷ [])).state) (cond b (record { xid = xid; call = call; form = form } ∷ []) [])
    by true e =
        let own : l ≡ link = eqb-true l link e in
        (subst (λ (n : ℕ). xid < next_sent_xid (client opened link (before ++ submit n ∷ [])).state) (sym own) (sent_after_submit opened link before call form xid (asked own)), tt)
    by false e = tt
below_mark opened link before (marks.Submit l call form (submissions.Refused why)) asked = none_below _ (eqb l link)
below_mark opened link before (marks.Submit l call form submissions.Dropped) asked = none_below _ (eqb l link)
below_mark opened link before (marks.Wrote l s bytes) asked = tt
below_mark opened link before (marks.Fed l s bytes) asked = tt
below_mark opened link before (marks.Execute l xid moment payload place reply) asked = tt
below_mark opened link before (marks.Done l xid outcome) asked = tt
below_mark opened link before (marks.Lost l xid) asked = tt
below_mark opened link before (marks.Forget l xid) asked = tt
below_mark opened link before (marks.Revoke l xid bytes) asked = tt
below_mark opened link before (marks.Drop l) asked = tt
below_mark opened link before (marks.Told l what) asked = tt

pub below_one : (opened : LinkParameters) (link : ℕ) (before : List Mark) (mark : Mark) → AskedMark IsPrefixOf opened link before mark → AreBelow (next_sent_xid (client opened link before).state) (accepted_calls link before) →
    AreBelow (next_sent_xid (client opened link (before ++ mark ∷ [])).state) (accepted_calls link (before ++ mark ∷ []))
below_one opened link before mark asked h =
    let next : ℕ = next_sent_xid (client opened link (before ++ mark ∷ [])).state in
    let rises = sent_rises IsPrefixOf opened link before (mark ∷ []) (asked, tt) in
    subst (λ (calls : List AcceptedCall). AreBelow next calls) (sym (accepted_one link before mark))
    (all_append (λ (a : AcceptedCall). a.xid < next) (accepted_calls link before) (accepted_at link mark) (below_later _ next (accepted_calls link before) rises h) (below_mark opened link before mark asked))
