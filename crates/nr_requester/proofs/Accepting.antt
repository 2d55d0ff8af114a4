-- A call is accepted: a requester stands for the marks with that Submit; and what it answers to a call is what its client answers.
use Rattle.std.proofs.Common.{◌≡◌, ◌≢◌, ℕ, ◌+◌, ◌-◌, ◌≤◌, Bool, true, false, ◌&&◌, cond, eqb, leb, ltb, List, [], ◌∷◌, ◌++◌, length, map, Option, None, Some, Result, Ok, Err, refl, sym, ap, subst, ◌∙◌, inl, inr, arith, append-nil}
use Rattle.std.proofs.lemmas.Bool.{cases_lt, eq-eqb, lt-ltb, le-ltb, lt-leb, le-leb}
use Rattle.std.proofs.lemmas.List.{length-map}
use Rattle.nr_wire.specs.declared.hello.Side.TheVariants.{Initiator, Responder}
use Rattle.nr_link.specs.declared.end.End.{End}
use Rattle.nr_link.specs.Input.{InputState, input_of, input_count, input_after}
use Rattle.nr_link.proofs.Inputs.{input_of_append, input_of_count}
use Rattle.nr_endpoint.specs.LinkState.{LinkState}
use Rattle.nr_endpoint.specs.SendQueue.{writable}
use Rattle.nr_reduce.specs.declared.call.Call.{Call}
use Rattle.nr_reduce.specs.declared.call.Form.{Form}
use Rattle.nr_reduce.specs.declared.call.Refused.TheVariants as refusals
use Rattle.nr_reduce.specs.declared.call.Submission.{Submission}
use Rattle.nr_reduce.specs.declared.call.Submission.TheVariants as submissions
use Rattle.nr_reduce.specs.declared.mark.LinkParameters.{LinkParameters}
use Rattle.nr_reduce.specs.declared.mark.Mark.{Mark}
use Rattle.nr_reduce.specs.declared.mark.Mark.TheVariants as marks
use Rattle.nr_reduce.specs.declared.outline.Plan.{Plan}
use Rattle.nr_reduce.specs.Limits.{numbers_end}
use Rattle.nr_reduce.specs.Plans.{TooLarge, regions_needed, buffers, call_message, plan_of}
use Rattle.nr_reduce.specs.History.{AcceptedCall, bytes_received}
use Rattle.nr_reduce.specs.Events.{RunEvent}
use Rattle.nr_reduce.specs.Events.RunEvent.{CallSubmitted}
use Rattle.nr_reduce.specs.EndRules.{EndState, next_end_state, end_state_after, output_for, output_for_all}
use Rattle.nr_reduce.specs.Written as reduce
use Rattle.nr_reduce.specs.ClientState.{WaitingCall, ClientState, first_of, call_payload, plan_unless, plan_for}
use Rattle.nr_reduce.specs.Client.{client_rules, client_end, client_output}
use Rattle.nr_reduce.specs.Run.{client}
use Rattle.nr_reduce.specs.Credits.{credits_granted}
use Rattle.nr_reduce.specs.SubmitAnswer.{calls_counted, submit_answer, unless_spent, unless_far_by}
use Rattle.nr_reduce.specs.KeptClient.{KeptClient, ClientKeeps, kept_submitted}
use Rattle.nr_reduce.specs.Standing.{input_events}
use Rattle.nr_reduce.specs.StandingLaws.{GoesOn, least_kept, kept_answer_by_plan, kept_answer_if}
use Rattle.nr_reduce.proofs.Standing.{client_stands}
use Rattle.nr_reduce.proofs.Submits.{kept_submits}
use Rattle.nr_reduce.proofs.Keeping.{kept_answers, kept_counts}
use Rattle.nr_reduce.proofs.Unresumed.{none_waits}
use Rattle.nr_requester.specs.RequesterState.{RequesterState, RequesterSide, StoredCall, kept_call, kept_calls, queue_of, kept_client, input_kept}
use Rattle.nr_requester.specs.Sending.{least_stored}
use Rattle.nr_requester.specs.Standing.{LinkKeeps, KeepsClient, RequesterRepresents, waiting_message}
use Rattle.nr_requester.specs.AfterCalls.{submitted, after_submit}
use Rattle.nr_requester.specs.Answers.{plan_under, answer_by_plan, answer_if, answer_of}
use Rattle.nr_requester.specs.Laws.{AnswersAsClient, AgreesAsClient, CountsAsClient, EndAsClient}
use Rattle.nr_requester.proofs.Links.{sent_is, link_submitted, queue_submitted}
use Rattle.nr_requester.proofs.KeptCalls.{kept_accepted}
use Rattle.nr_requester.proofs.Marks.{state_of, lives_as, lives, due_is, numbers, own_events, state_next}

-- the input stays if nothing is fed
pub same_input : (link : ℕ) (run : List Mark) (input : InputState) → input ≡ input_of Responder (bytes_received link Initiator run) → input ≡ input_after input []
same_input link run input is =
    let stream = bytes_received link Initiator run in
    is
    ∙ ap (λ (xs : List ℕ). input_of Responder xs) (sym (append-nil stream))
    ∙ input_of_append Responder stream []
    ∙ ap (λ (i : InputState). input_after i []) (sym is)

-- ---- What goes out with an accepted call

module _ (opened : LinkParameters) (link : ℕ) (h : RequesterSide) (run : List Mark) (call : Call) (form : Form) (plan : Plan) (s : KeepsClient opened link h run) (none : h.state.side.ended ≡ None) (is : plan_for (state_of opened link run) h.state.next_xid call form ≡ Ok plan) (unwaited : (state_of opened link run).waiting ≡ []) where
  abbrev pub k : ClientState
  k = state_of opened link run

  abbrev pub count : ℕ
  count = length (bytes_received link Initiator run)

  abbrev pub a : AcceptedCall
  a = record { xid = h.state.next_xid; call = call; form = form }

  abbrev pub mark : Mark
  mark = marks.Submit link call form (submissions.Accepted h.state.next_xid)

  abbrev pub event : RunEvent
  event = CallSubmitted count a

  stays : (client opened link run).ended ≡ None
  stays = lives opened link h run s none

  keeps : LinkKeeps opened h.state.side k
  keeps = s.side none

  due : k.due ≡ k.written + length (queue_of h.state)
  due = due_is opened link h run s stays

  stag : h.state.side.memory.next ≡ k.stag
  stag = (s.kept.keeps.memory stays).next

  -- no more Sends have left than have a number
  sent_few : h.state.sent ≤ h.state.sends
  sent_few = (let n = numbers opened link h run s in let sent = s.sent none in let left = keeps.left in omega (arith, n, sent, left))

  left_few : reduce.ends_written k.written k.send_ends ≤ k.sends
  left_few = (let sent = sent_is opened h.state.side k keeps (omega (arith, due)) in let left = keeps.left in omega (arith, sent, left))

  kept_next : ClientKeeps opened (kept_client (after_submit h call plan).state) (next_end_state (client_rules opened) (client opened link run) event) count
  kept_next =
      subst (λ (x : KeptClient). ClientKeeps opened x (next_end_state (client_rules opened) (client opened link run) event) count) (kept_accepted h call plan sent_few)
      (subst (λ (e : EndState ClientState). ClientKeeps opened (kept_submitted (kept_client h.state) call plan) (next_end_state (client_rules opened) e event) count) (sym (lives_as (client opened link run) stays))
      (kept_submits opened (kept_client h.state) k count a plan (subst (λ (e : EndState ClientState). ClientKeeps opened (kept_client h.state) e count) (lives_as (client opened link run) stays) s.kept.keeps) unwaited refl is (omega (arith, due)) left_few))

  side_is : (after_submit h call plan).state.side ≡ submitted h.state.side (call_message a.xid opened.wished k.stag plan) (buffers k.stag plan)
  side_is = λ i. submitted h.state.side (call_message a.xid (s.wished i) (stag i) plan) (buffers (stag i) plan)

  queue_next : queue_of (after_submit h call plan).state ≡ queue_of h.state ++ client_output opened k event
  queue_next = ap (λ (x : LinkState). writable x.has_hello x.send_queue) side_is ∙ queue_submitted opened h.state.side k count a plan keeps is due unwaited

  output_next : output_for (client_rules opened) (client opened link run) event ≡ client_output opened k event
  unfolding client_end
  output_next = ap (λ (e : EndState ClientState). output_for (client_rules opened) e event) (lives_as (client opened link run) stays)

  at : input_count (input_kept h) ≡ count
  at = ap input_count (s.kept.received stays) ∙ input_of_count Responder (bytes_received link Initiator run)

  events_are : input_events link Initiator (input_kept h) mark ≡ event ∷ []
  events_are = own_events link (CallSubmitted (input_count (input_kept h)) a ∷ []) ∙ ap (λ (n : ℕ). CallSubmitted n a ∷ []) at

  goes_on : GoesOn (ClientKeeps opened) (client_rules opened) link Initiator (kept_client (after_submit h call plan).state) (input_kept h) (queue_of h.state) (queue_of (after_submit h call plan).state) mark (client opened link run) count
  goes_on =
      let zero_more : count ≡ count + 0 = omega arith in
      record {
        keeps = subst (λ (n : ℕ). ClientKeeps opened (kept_client (after_submit h call plan).state) (end_state_after (client_rules opened) (client opened link run) (input_events link Initiator (input_kept h) mark)) n) zero_more
            (subst (λ (es : List RunEvent). ClientKeeps opened (kept_client (after_submit h call plan).state) (end_state_after (client_rules opened) (client opened link run) es) count) (sym events_are) kept_next);
        output = queue_next
            ∙ ap (λ (xs : List ℕ). queue_of h.state ++ xs) (sym output_next ∙ sym (append-nil (output_for (client_rules opened) (client opened link run) event)))
            ∙ ap (λ (es : List RunEvent). queue_of h.state ++ output_for_all (client_rules opened) (client opened link run) es) (sym events_are);
      }

  side_next : LinkKeeps opened (after_submit h call plan).state.side (state_of opened link (run ++ mark ∷ []))
  unfolding client_end
  side_next =
      subst (λ (x : LinkState). LinkKeeps opened x (state_of opened link (run ++ mark ∷ []))) (sym side_is)
      (subst (λ (x : ClientState). LinkKeeps opened (submitted h.state.side (call_message a.xid opened.wished k.stag plan) (buffers k.stag plan)) x)
      (sym (state_next opened link run mark event stays (own_events link (event ∷ [])) refl))
      (link_submitted opened h.state.side k count a plan keeps is due unwaited))

  pub submit_keeps : KeepsClient opened link (after_submit h call plan) (run ++ mark ∷ [])
  submit_keeps = record {
    wished = s.wished;
    resumes = s.resumes;
    kept = client_stands opened link (kept_client h.state) (kept_client (after_submit h call plan).state) (input_kept h) (input_kept (after_submit h call plan)) (queue_of h.state) (queue_of (after_submit h call plan).state) run mark s.kept goes_on
        (λ lives_on. same_input link run (input_kept h) (s.kept.received stays));
    sent = λ lives_on. s.sent none;
    side = λ lives_on. side_next;
  }

-- ---- What is answered to a call

least_same : (sent : ℕ) (calls : List StoredCall) → least_stored calls ≡ least_kept (map (kept_call sent) calls)
least_same sent [] = refl
least_same sent (c ∷ calls) = refl

-- A credit is left if fewer calls are counted than are granted. While a Send is held back none is left.
credit_same : (held n grant : ℕ) (some none : Submission) → (held ≢ 0 → grant ≤ n) → cond ((eqb held 0) && ltb n grant) some none ≡ cond (leb grant n) none some
credit_same held n grant some none taken = by (eqb held 0) refl
  where
    by : (b : Bool) → eqb held 0 ≡ b → cond (b && ltb n grant) some none ≡ cond (leb grant n) none some
    by true e = elim (cases_lt n grant) [
      | inl lt ↦ ap (λ (b : Bool). cond b some none) (lt-ltb n grant lt) ∙ sym (ap (λ (b : Bool). cond b none some) (lt-leb grant n lt))
      | inr ge ↦ ap (λ (b : Bool). cond b some none) (le-ltb n grant ge) ∙ sym (ap (λ (b : Bool). cond b none some) (le-leb grant n ge))
    ]
    by false e = sym (ap (λ (b : Bool). cond b none some) (le-leb grant n (taken (λ same. (let wrong : true ≡ false = sym (eq-eqb held 0 same) ∙ e in absurd cc)))))

-- Sends are held back only while all credits are taken
abbrev pub HeldForCredit : RequesterState → Type 0
HeldForCredit r = length r.side.send_queue.held ≢ 0 → r.grant ≤ length r.outstanding

answer_same : (r : RequesterState) (p : Result Plan TooLarge) → HeldForCredit r → answer_by_plan r p ≡ kept_answer_by_plan (kept_client r) p
answer_same r (Err large) taken = refl
answer_same r (Ok plan) taken =
    credit_same (length r.side.send_queue.held) (length r.outstanding) r.grant (unless_far_by r.side.terms.number r.next_xid (least_stored r.outstanding) answer) (submissions.Refused (refusals.NoCredit (length r.outstanding) r.grant)) taken
    ∙ (λ i. cond (leb r.grant (count i)) (submissions.Refused (refusals.NoCredit (count i) r.grant)) (unless_far_by r.side.terms.number r.next_xid (least_same r.sent r.outstanding i) answer))
  where
    answer : Submission
    answer =
        unless_spent (numbers_end - r.next_xid) 1
        (unless_spent (numbers_end - r.side.memory.next) (regions_needed plan) (submissions.Accepted r.next_xid))

    count : length r.outstanding ≡ length (kept_calls r)
    count = sym (length-map r.outstanding (kept_call r.sent))

answer_kept : (r : RequesterState) (call : Call) (form : Form) (x : Option End) → (x ≡ None → HeldForCredit r) → answer_if r call form x ≡ kept_answer_if (kept_client r) call form x
answer_kept r call form (Some end) taken = refl
answer_kept r call form None taken = answer_same r (plan_under r call form) (taken refl)

-- a requester that keeps its client answers a call as that does
pub answers_alike : (opened : LinkParameters) (link : ℕ) (h : RequesterSide) (run : List Mark) (call : Call) (form : Form) → KeepsClient opened link h run → (h.state.side.ended ≡ None → HeldForCredit h.state) →
    answer_of h.state call form ≡ submit_answer (client opened link run) call form
unfolding answer_of
answers_alike opened link h run call form s taken =
    answer_kept h.state call form h.state.side.ended taken ∙ kept_answers opened (kept_client h.state) (client opened link run) (length (bytes_received link Initiator run)) call form s.kept.keeps

-- on the first link no Send is held back
none_held : (opened : LinkParameters) (link : ℕ) (h : RequesterSide) (run : List Mark) → RequesterRepresents opened link h run → h.state.side.ended ≡ None → length h.state.side.send_queue.held ≡ 0
none_held opened link h run s lives =
    ap (λ (messages : List (List ℕ)). length messages) ((s.keeps.side lives).held ∙ ap (λ (ws : List WaitingCall). map (waiting_message opened) ws) (none_waits opened link run s.first.resumed))

pub answers_as_client : AnswersAsClient
answers_as_client opened link h run call form s = answers_alike opened link h run call form s.keeps (λ lives some. absurd (some (none_held opened link h run s lives)))

pub counts_alike : (opened : LinkParameters) (link : ℕ) (h : RequesterSide) (run : List Mark) → KeepsClient opened link h run → (length h.state.outstanding ≡ calls_counted (client opened link run).state) × (h.state.grant ≡ credits_granted opened link run)
unfolding credits_granted
counts_alike opened link h run s =
    (let c = kept_counts opened (kept_client h.state) (client opened link run) (length (bytes_received link Initiator run)) s.kept.keeps in (c.0, c.1.0))

pub counts_as_client : CountsAsClient
counts_as_client opened link h run s = counts_alike opened link h run s.keeps

pub agrees_as_client : AgreesAsClient
agrees_as_client opened link h run s = (s.keeps.kept.keeps.up, (s.keeps.kept.keeps.down, s.keeps.kept.keeps.invalidates))

pub end_as_client : EndAsClient
end_as_client opened link h run s = s.keeps.kept.keeps.ended

-- ---- An accepted call

plan_same : (opened : LinkParameters) (link : ℕ) (h : RequesterSide) (run : List Mark) (call : Call) (form : Form) → (state_of opened link run).waiting ≡ [] → KeepsClient opened link h run → plan_under h.state call form ≡ plan_for (state_of opened link run) h.state.next_xid call form
unfolding plan_for
plan_same opened link h run call form unwaited s =
    let k : ClientState = state_of opened link run in
    (λ i. plan_of (call_payload h.state.next_xid call) form (s.kept.keeps.up i) (s.kept.keeps.down i))
    ∙ sym (ap (λ (ws : List WaitingCall). plan_unless (first_of ws h.state.next_xid) (plan_of (call_payload h.state.next_xid call) form k.up_max k.down_max)) unwaited)

pub submit_client : (opened : LinkParameters) (link : ℕ) (h : RequesterSide) (run : List Mark) (call : Call) (form : Form) (plan : Plan) → h.state.side.ended ≡ None → plan_under h.state call form ≡ Ok plan → (state_of opened link run).waiting ≡ [] → KeepsClient opened link h run →
    KeepsClient opened link (after_submit h call plan) (run ++ marks.Submit link call form (submissions.Accepted h.state.next_xid) ∷ [])
submit_client opened link h run call form plan none is unwaited s = submit_keeps opened link h run call form plan s none (sym (plan_same opened link h run call form unwaited s) ∙ is) unwaited
