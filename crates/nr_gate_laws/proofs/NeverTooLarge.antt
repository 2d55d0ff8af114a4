-- A gateway's call isn't refused as too large: it has at most the bytes of its record, and each Send of the remote link has room for its header.
use Rattle.std.proofs.Common.{◌≡◌, ◌⊎◌, ⊎_elim, ℕ, ◌≤◌, Bool, true, false, cond, eqb, List, [], ◌∷◌, ◌++◌, length, Option, None, Some, Result, Ok, Err, sym, subst, ap, arith}
use Rattle.std.specs.Prelude.{◌-◌, nat_le, nat_lt}
use Rattle.std.specs.List.{AllByRecursion}
use Rattle.nr_xdr.specs.Item.{IsBytes}
use Rattle.nr_header.specs.Constants.{PAYLOAD_MAX}
use Rattle.nr_wire.specs.Segment.{Segment}
use Rattle.nr_wire.specs.declared.hello.Side.TheVariants.{Initiator}
use Rattle.nr_link.specs.declared.end.End.{End}
use Rattle.nr_link.specs.Frames.{Frame, is_hello}
use Rattle.nr_link.specs.ReceiveState.{ReadRequest, message_completed, read_request_of}
use Rattle.nr_link.specs.Limits.{send_unit}
use Rattle.nr_link.proofs.Agreements.{agreements_bounded}
use Rattle.nr_record.specs.RecordsState.{IsInLimit}
use Rattle.nr_reduce.specs.declared.call.Call.{Call}
use Rattle.nr_reduce.specs.declared.call.Form.TheVariants as forms
use Rattle.nr_reduce.specs.declared.call.Refused.{Refused}
use Rattle.nr_reduce.specs.declared.call.Refused.TheVariants as refusals
use Rattle.nr_reduce.specs.declared.call.Submission.{Submission}
use Rattle.nr_reduce.specs.declared.call.Submission.TheVariants as submissions
use Rattle.nr_reduce.specs.declared.mark.LinkParameters.{LinkParameters}
use Rattle.nr_reduce.specs.declared.mark.Mark.{Mark}
use Rattle.nr_reduce.specs.declared.outline.Plan.{Plan}
use Rattle.nr_reduce.specs.Client.{client_end, client_rules, client_segment, client_state_after, due_with_response, initial_client, with_hello, with_message, with_request, with_segment}
use Rattle.nr_reduce.specs.ClientState.{ClientState, WaitingCall, call_payload, first_of, plan_for, plan_unless}
use Rattle.nr_reduce.specs.EndRules.{EndState, end_state_after, next_end_state, next_end_state_by, next_end_state_in}
use Rattle.nr_reduce.specs.Events.{RunEvent, events}
use Rattle.nr_reduce.specs.Events.RunEvent.{FrameReceived, CallSubmitted, MemoryRevoked, CallExecuted, QueueWritten, ServerTold}
use Rattle.nr_reduce.specs.Hellos.{client_agreement, client_private, private_of}
use Rattle.nr_reduce.specs.Limits.{numbers_end, window}
use Rattle.nr_reduce.specs.Plans.{TooLarge, plan_in_form, plan_of, regions_needed}
use Rattle.nr_reduce.specs.Run.{client}
use Rattle.nr_reduce.specs.SubmitAnswer.{answer_by, by_plan, calls_counted, least_xid, submit_answer, unless_far, unless_far_from, unless_spent}
use Rattle.nr_turnstile.specs.declared.turnstile.Pass.{Pass}
use Rattle.nr_turnstile.specs.Passes.{seen_by}
use Rattle.nr_record_loop.specs.Connections.{Unanswered, calls as exchanged_calls, loop_at}
use Rattle.nr_shared.specs.declared.call_end.CallEnd.TheVariants as call_ends
use Rattle.nr_shared.specs.declared.entry.Entry.{Entry}
use Rattle.nr_shared.specs.declared.requester_with_sink.RequesterWithSink.{RequesterWithSink}
use Rattle.nr_shared.specs.Ending.{LossEnds}
use Rattle.nr_shared.specs.Histories.{tries_of}
use Rattle.nr_shared.specs.LinkRuns.{FitsHistory, LinkRun, links_of}
use Rattle.nr_shared.specs.Waiting.{NoAnswer, SendsNone}
use Rattle.nr_gate.specs.declared.gate_end.GateEnd.{GateEnd}
use Rattle.nr_gate.specs.declared.gate_end.GateEnd.TheVariants as ends
use Rattle.nr_gate.specs.Forwarding.{Asks}
use Rattle.nr_gate.specs.Gating.{Gates, Makes}
use Rattle.nr_gate_laws.specs.NeverTooLarge.{ConnectionsNeverEndTooLarge, LinksNeverEndTooLarge}
use Rattle.nr_gate_laws.proofs.AutoFits.{auto_fits}
use Rattle.nr_gate_laws.proofs.Forwarding.{forwarded_payload, no_longer}

-- ---- The Sends of a client have room for one unit or more, whatever its peer's hello says

abbrev HasUnit : ClientState → Type 0
HasUnit k = send_unit ≤ k.up_max

request_unit : (k : ClientState) (due : ℕ) (o : Option ReadRequest) → HasUnit k → HasUnit (with_request k due o)
request_unit k due None h = h
request_unit k due (Some q) h = h

message_unit : (k : ClientState) (place : ℕ) (o : Option (List ℕ)) → HasUnit k → HasUnit (with_message k place o)
message_unit k place None h = h
message_unit k place (Some message) h = h

segment_unit : (k : ClientState) (f : Frame) (r : Result Segment ℕ) → HasUnit k → HasUnit (with_segment k f r)
segment_unit k f (Err reason) h = h
segment_unit k f (Ok s) h =
    let message = message_completed k.received s in
    request_unit (with_message k f.end message) (due_with_response k f s) (read_request_of s) (message_unit k f.end message h)

frame_unit : (opened : LinkParameters) (k : ClientState) (f : Frame) → HasUnit k → HasUnit (client_state_after opened k (FrameReceived f))
unfolding client_state_after client_agreement
frame_unit opened k f h = by (is_hello f) where
  by : (b : Bool) → HasUnit (cond b (with_hello opened k f) (with_segment k f (client_segment k f)))
  by true = (agreements_bounded (client_private opened) (private_of f)).0.0
  by false = segment_unit k f (client_segment k f) h

event_unit : (opened : LinkParameters) (k : ClientState) (e : RunEvent) → HasUnit k → HasUnit (client_state_after opened k e)
unfolding client_state_after
event_unit opened k (FrameReceived f) h = frame_unit opened k f h
event_unit opened k (CallSubmitted place a) h = h
event_unit opened k (MemoryRevoked place xid) h = h
event_unit opened k (CallExecuted call) h = h
event_unit opened k (QueueWritten taken) h = h
event_unit opened k (ServerTold what) h = h

step_unit : (opened : LinkParameters) (k : ClientState) (e : RunEvent) (ended : Option End) → HasUnit k → HasUnit (next_end_state_in (client_rules opened) k e ended).state
step_unit opened k e (Some end) h = h
step_unit opened k e None h = by (client_end k e) where
  by : (o : Option End) → HasUnit (next_end_state_by (client_rules opened) k e o).state
  by None = event_unit opened k e h
  by (Some end) = h

all_unit : (opened : LinkParameters) (es : List RunEvent) (r : EndState ClientState) → HasUnit r.state → HasUnit (end_state_after (client_rules opened) r es).state
all_unit opened [] r h = h
all_unit opened (e ∷ es) r h = all_unit opened es (next_end_state (client_rules opened) r e) (step_unit opened r.state e r.ended h)

client_unit : (opened : LinkParameters) (link : ℕ) (run : List Mark) → HasUnit (client opened link run).state
unfolding client
client_unit opened link run = all_unit opened (events link Initiator run) (initial_client opened) (omega arith)

-- ---- So a client refuses no call of at most PAYLOAD_MAX bytes as too large, in the form Auto

abbrev IsTooLarge : Submission → Type 0
IsTooLarge (submissions.Refused (refusals.TooLarge need room)) = Unit {0}
IsTooLarge answer = ⊥

refused : (b : Bool) (why : Refused) (answer : Submission) → (IsTooLarge (submissions.Refused why) → ⊥) → (IsTooLarge answer → ⊥) → IsTooLarge (cond b (submissions.Refused why) answer) → ⊥
refused true why answer first rest h = first h
refused false why answer first rest h = rest h

-- nor for an xid that is too far above the least one
far : (k : ClientState) (answer : Submission) → (IsTooLarge answer → ⊥) → IsTooLarge (unless_far k answer) → ⊥
far k answer rest h = by (eqb k.terms.number 0) h where
  by_least : (least : Option ℕ) → IsTooLarge (unless_far_from k.next_xid least answer) → ⊥
  by_least None is = rest is
  by_least (Some oldest) is = refused (nat_le window (k.next_xid - oldest)) (refusals.Window oldest k.next_xid) answer (λ x. x) rest is

  by : (b : Bool) → IsTooLarge (cond b answer (unless_far_from k.next_xid (least_xid k.outstanding k.waiting) answer)) → ⊥
  by true is = rest is
  by false is = by_least (least_xid k.outstanding k.waiting) is

planned : (k : ClientState) (plan : Plan) → IsTooLarge (by_plan k (Ok plan)) → ⊥
planned k plan =
    let in_stags : Submission = unless_spent (numbers_end - k.stag) (regions_needed plan) (submissions.Accepted k.next_xid) in
    let in_numbers : Submission = unless_spent (numbers_end - k.next_xid) 1 in_stags in
    refused (nat_le k.grant (calls_counted k)) (refusals.NoCredit (calls_counted k) k.grant) (unless_far k in_numbers) (λ h. h)
    (far k in_numbers
    (refused (nat_lt (numbers_end - k.next_xid) 1) (refusals.Spent (numbers_end - k.next_xid) 1) in_stags (λ h. h)
    (refused (nat_lt (numbers_end - k.stag) (regions_needed plan)) (refusals.Spent (numbers_end - k.stag) (regions_needed plan)) (submissions.Accepted k.next_xid) (λ h. h) (λ h. h))))

answered : (k : ClientState) (call : Call) (ended : Option End) → HasUnit k → length (call_payload k.next_xid call) ≤ PAYLOAD_MAX → IsTooLarge (answer_by k call forms.Auto ended) → ⊥
unfolding plan_for
answered k call (Some end) room short h = h
answered k call None room short h = by (first_of k.waiting k.next_xid) h
  where
    by : (w : Option WaitingCall) → IsTooLarge (by_plan k (plan_unless w (plan_of (call_payload k.next_xid call) forms.Auto k.up_max k.down_max))) → ⊥
    by None is =
        let payload : List ℕ = call_payload k.next_xid call in
        planned k (plan_in_form payload forms.Auto k.up_max k.down_max)
        (subst (λ (r : Result Plan TooLarge). IsTooLarge (by_plan k r)) (auto_fits payload k.up_max k.down_max short room) is)
    by (Some w) is = planned k w.plan is

not_refused : (r : EndState ClientState) (call : Call) (need room : ℕ) → HasUnit r.state → length (call_payload r.state.next_xid call) ≤ PAYLOAD_MAX
    → submit_answer r call forms.Auto ≡ submissions.Refused (refusals.TooLarge need room) → ⊥
unfolding submit_answer
not_refused r call need room unit short is = answered r.state call r.ended unit short (subst IsTooLarge (sym is) tt)

-- ---- The record that ended a connection so

all_back : {A : Type 0} (P : A → Type 0) (xs ys : List A) → AllByRecursion P (xs ++ ys) → AllByRecursion P ys
all_back P [] ys all = all
all_back P (x ∷ xs) ys all = all_back P xs ys all.1

-- so is the first of the last of these
last_of : {A : Type 0} (P : A → Type 0) (all xs ys : List A) (y : A) (zs : List A) → all ≡ xs ++ ys → ys ≡ y ∷ zs → AllByRecursion P all → P y
last_of P all xs ys y zs order ys_are are = (subst (AllByRecursion P) ys_are (all_back P xs ys (subst (AllByRecursion P) order are))).0

-- no link is lost so
no_loss : (tries : Option ℕ) (need room : ℕ) (history : List Entry) → LossEnds tries (call_ends.TooLarge need room) history → ⊥
no_loss None need room history loss = loss
no_loss (Some tries) need room history loss = loss

module _ {O C : Type 0} (p q : Pass (RequesterWithSink O C) Entry) (bytes : List ℕ) (need room : ℕ) (is_bytes : IsBytes bytes) (in_limit : IsInLimit bytes) (opened : LinkParameters) (numbers : ℕ → ℕ) (marks : List Mark) where
  abbrev at_last : LinkRun
  at_last = links_of opened numbers marks 0 (seen_by q)

  short : (xid x : ℕ) (asked : Call) → Asks bytes xid asked → length (call_payload x asked) ≤ PAYLOAD_MAX
  short xid x asked asks = omega (arith, ap length (forwarded_payload xid x asked bytes asks), no_longer x bytes is_bytes, in_limit)

  not_made : FitsHistory (seen_by q) opened numbers marks → Makes p q bytes (Err (call_ends.TooLarge need room)) → ⊥
  not_made fits m = ⊎_elim
      (λ (none : SendsNone p q m.asked forms.Auto (call_ends.TooLarge need room)).
      (let c = client at_last.at.opened at_last.at.link at_last.run in
      not_refused c m.asked need room (client_unit at_last.at.opened at_last.at.link at_last.run) (short m.xid c.state.next_xid m.asked m.asks) (none.cause.1 opened numbers marks fits)))
      (λ (lost : NoAnswer p q m.asked forms.Auto (call_ends.TooLarge need room)). no_loss (tries_of lost.before) need room lost.before lost.ended)
      m.made

pub connections_never_end_too_large : {O C : Type 0} → ConnectionsNeverEndTooLarge O C
connections_never_end_too_large {O} {C} before after need room opened numbers marks g bytes fits =
    let next = g.more_is in
    let end : GateEnd = ends.Remote (call_ends.TooLarge need room) in
    let (m, (all, made)) = subst (λ (o : Option Unanswered). Gates end before.state after.state g.exchanges o) next.more_is g.serves.did in
    let is_bytes = last_of IsBytes g.records (exchanged_calls g.exchanges) g.others next.call next.later g.order next.others_are bytes in
    let in_limit = last_of IsInLimit g.records (exchanged_calls g.exchanges) g.others next.call next.later g.order next.others_are g.limit in
    not_made m after.state next.call need room is_bytes in_limit opened numbers marks fits made

pub links_never_end_too_large : {O C : Type 0} → LinksNeverEndTooLarge O C
links_never_end_too_large {O} {C} p q accepted hung_up source_faults sink_faults need room opened numbers marks g bytes fits =
    connections_never_end_too_large (loop_at accepted.left accepted.given accepted.taken g.first) (loop_at hung_up.left hung_up.given hung_up.taken g.own) need room opened numbers marks g.gated bytes fits
