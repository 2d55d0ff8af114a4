-- Whether a new call may be submitted: what a requester says of it is said of the client of its marks; and then it is refused neither since
-- no credit is left nor since its xid is too far above the least one.
use Rattle.std.proofs.Common.{◌≡◌, ℕ, zero, suc, ◌+◌, ◌-◌, ◌<◌, ◌≤◌, Bool, true, false, cond, not, ◌&&◌, ◌||◌, ltb, leb, eqb, List, [], ◌∷◌, ◌++◌, length, map, take, Option, None, Some, Ok, refl, sym, ap, ◌∙◌, arith}
use Rattle.std.specs.Prelude.{is_none, is_some}
use Rattle.std.proofs.lemmas.Bool.{and_from, and_parts, le-ltb, lt-ltb, or_left, false≢true, true≢false}
use Rattle.nr_wire.specs.declared.hello.Side.TheVariants.{Initiator}
use Rattle.nr_link.specs.declared.end.End.{End}
use Rattle.nr_endpoint.specs.LinkState.{LinkState}
use Rattle.nr_reduce.specs.declared.call.Refused.{Refused}
use Rattle.nr_reduce.specs.declared.call.Refused.TheVariants as refusals
use Rattle.nr_reduce.specs.declared.call.Submission.{Submission}
use Rattle.nr_reduce.specs.declared.call.Submission.TheVariants as submissions
use Rattle.nr_reduce.specs.declared.mark.LinkParameters.{LinkParameters}
use Rattle.nr_reduce.specs.declared.mark.Mark.{Mark}
use Rattle.nr_reduce.specs.declared.outline.Plan.{Plan}
use Rattle.nr_reduce.specs.Limits.{numbers_end, window}
use Rattle.nr_reduce.specs.Plans.{regions_needed}
use Rattle.nr_reduce.specs.History.{bytes_received}
use Rattle.nr_reduce.specs.EndRules.{EndState}
use Rattle.nr_reduce.specs.ClientState.{WaitingCall, OutstandingCall, ClientState}
use Rattle.nr_reduce.specs.KeptCalls.{AreKept, numbered_from, numbered_calls}
use Rattle.nr_reduce.specs.KeptClient.{CallsKeep, ClientKeeps}
use Rattle.nr_reduce.specs.Credits.{calls_outstanding}
use Rattle.nr_reduce.specs.Run.{client}
use Rattle.nr_reduce.specs.SubmitAnswer.{calls_counted, calls_to_resend, least_xid, unless_spent, unless_far_by, unless_far_from}
use Rattle.nr_reduce.proofs.Keeping.{kept_counts}
use Rattle.nr_reduce.proofs.Unresumed.{none_resent, none_waits}
use Rattle.nr_requester.specs.RequesterState.{RequesterState, RequesterSide, StoredCall, kept_call, kept_client}
use Rattle.nr_requester.specs.Answers.{answer_by_plan}
use Rattle.nr_requester.specs.MaySubmit.{is_far_from, is_far, may_submit_by, may_submit, may_be_submitted, client_may_submit}
use Rattle.nr_requester.specs.Sending.{has_credit, least_stored, unless_refused}
use Rattle.nr_requester.specs.Standing.{KeepsClient, LinkKeeps, RequesterRepresents, waiting_message}
use Rattle.nr_requester.proofs.Accepting.{counts_as_client}

-- ---- The client of its marks

least_of_kept : (k : ClientState) (n sent : ℕ) (cs : List StoredCall) (os : List OutstandingCall) (ws : List WaitingCall) → AreKept k (map (kept_call sent) cs) (os ++ numbered_from n ws) →
    least_stored cs ≡ least_xid os ws
least_of_kept k n sent [] [] [] is = refl
least_of_kept k n sent [] [] (w ∷ ws) is = absurd is
least_of_kept k n sent [] (o ∷ os) ws is = absurd is
least_of_kept k n sent (c ∷ cs) [] [] is = absurd is
least_of_kept k n sent (c ∷ cs) [] (w ∷ ws) is = ap (λ (xid : ℕ). Some xid) is.0.xid
least_of_kept k n sent (c ∷ cs) (o ∷ os) ws is = ap (λ (xid : ℕ). Some xid) is.0.xid

-- of one that has ended only the credits are compared
by_ended : (ended : Option End) (grant counted : ℕ) (free far distant : Bool) → (ended ≡ None → may_submit_by None grant counted free far ≡ may_submit_by None grant counted true distant) →
    may_submit_by ended grant counted free far ≡ may_submit_by ended grant counted true distant
by_ended (Some end) grant counted free far distant h = refl
by_ended None grant counted free far distant h = h refl

-- without a credit it isn't asked for more
without_credit : (grant counted : ℕ) (free far distant : Bool) → grant ≤ counted → may_submit_by None grant counted free far ≡ may_submit_by None grant counted true distant
without_credit grant counted free far distant none =
    let spent : ltb counted grant ≡ false = le-ltb counted grant none in
    ap (λ (b : Bool). b && (free && not far)) spent ∙ sym (ap (λ (b : Bool). b && (true && not distant)) spent)

take_none : {A : Type 0} (n : ℕ) (x : A) (xs : List A) → take n (x ∷ xs) ≡ [] → n ≡ 0
take_none zero x xs is = refl
take_none (suc n) x xs is = absurd cc

-- While a call waits to be sent again no credit is left: before the server's hello one is granted, and then as many are sent again as can be.
full : (e : EndState ClientState) (w : WaitingCall) (ws : List WaitingCall) → e.ended ≡ None → e.state.waiting ≡ w ∷ ws → (e.state.has_hello ≡ false → e.state.grant ≡ 1) → calls_to_resend e ≡ [] →
    e.state.grant ≤ calls_counted e.state
unfolding calls_to_resend
full e w ws none some granted resent =
    let count : length e.state.waiting ≡ suc (length ws) = ap (λ (l : List WaitingCall). length l) some in
    by count e.state.has_hello refl
  where
    by : length e.state.waiting ≡ suc (length ws) → (b : Bool) → e.state.has_hello ≡ b → e.state.grant ≤ calls_counted e.state
    by count false ungreeted = (let one = granted ungreeted in omega (arith, one, count))
    by count true greeted =
        let taken : cond (is_none e.ended && e.state.has_hello) (take (e.state.grant - length e.state.outstanding) e.state.waiting) [] ≡ take (e.state.grant - length e.state.outstanding) (w ∷ ws) =
        λ i. cond (is_none (none i) && greeted i) (take (e.state.grant - length e.state.outstanding) (some i)) [] in
        let left : e.state.grant - length e.state.outstanding ≡ 0 = take_none (e.state.grant - length e.state.outstanding) w ws (sym taken ∙ resent) in
        omega (arith, left)

none_held : (opened : LinkParameters) (s : LinkState) (k : ClientState) → k.waiting ≡ [] → LinkKeeps opened s k → eqb (length s.send_queue.held) 0 ≡ true
none_held opened s k none keeps = ap (λ (held : List (List ℕ)). eqb (length held) 0) (keeps.held ∙ ap (map (waiting_message opened)) none)

-- what it says of a new call is said of the client of its marks, also on a link that was reopened, once all calls are sent again that can be
module _ (opened : LinkParameters) (link : ℕ) (h : RequesterSide) (run : List Mark) (s : KeepsClient opened link h run) (resent : calls_to_resend (client opened link run) ≡ []) where
  abbrev r : RequesterState
  r = h.state

  abbrev e : EndState ClientState
  e = client opened link run

  abbrev number : ℕ
  number = r.side.terms.number

  abbrev free : Bool
  free = eqb (length r.side.send_queue.held) 0

  keeps : ClientKeeps opened (kept_client r) e (length (bytes_received link Initiator run))
  keeps = s.kept.keeps

  counted : length r.outstanding ≡ calls_counted e.state
  counted = (kept_counts opened (kept_client r) e (length (bytes_received link Initiator run)) keeps).0

  lives : r.side.ended ≡ None → (ws : List WaitingCall) → e.state.waiting ≡ ws →
      may_submit_by None r.grant (length r.outstanding) free (is_far number r.next_xid (least_stored r.outstanding))
      ≡ may_submit_by None r.grant (length r.outstanding) true (is_far number r.next_xid (least_xid e.state.outstanding e.state.waiting))
  lives none [] unwaited =
      let calls : CallsKeep (kept_client r).calls r.next_xid e.state = keeps.calls (sym keeps.ended ∙ none) in
      let least : least_stored r.outstanding ≡ least_xid e.state.outstanding e.state.waiting = least_of_kept e.state e.state.sends r.sent r.outstanding e.state.outstanding e.state.waiting calls.kept in
      let unheld : free ≡ true = none_held opened r.side e.state unwaited (s.side none) in
      λ i. may_submit_by None r.grant (length r.outstanding) (unheld i) (is_far number r.next_xid (least i))
  lives none (w ∷ ws) some =
      let all : e.state.grant ≤ calls_counted e.state = full e w ws (sym keeps.ended ∙ none) some (s.side none).granted resent in
      let grant : r.grant ≡ e.state.grant = keeps.grant in
      without_credit r.grant (length r.outstanding) free (is_far number r.next_xid (least_stored r.outstanding)) (is_far number r.next_xid (least_xid e.state.outstanding e.state.waiting))
      (omega (arith, all, grant, counted))

  pub may_kept : may_submit h.state ≡ client_may_submit opened link run
  unfolding may_submit client_may_submit
  may_kept =
      by_ended r.side.ended r.grant (length r.outstanding) free (is_far number r.next_xid (least_stored r.outstanding)) (is_far number r.next_xid (least_xid e.state.outstanding e.state.waiting))
      (λ none. lives none e.state.waiting refl)
      ∙ (λ i. may_submit_by (keeps.ended i) (keeps.grant i) (counted i) true (is_far (keeps.opening.0 i) (keeps.xid i) (least_xid e.state.outstanding e.state.waiting)))

pub may_as_client : (opened : LinkParameters) (link : ℕ) (h : RequesterSide) (run : List Mark) → RequesterRepresents opened link h run → may_submit h.state ≡ client_may_submit opened link run
may_as_client opened link h run s = may_kept opened link h run s.keeps (none_resent opened link run s.first.resumed)

-- on a link that was not reopened no call waits, so the calls that it keeps are those that are outstanding
pub outstanding_as_client : (opened : LinkParameters) (link : ℕ) (h : RequesterSide) (run : List Mark) → RequesterRepresents opened link h run → length h.state.outstanding ≡ calls_outstanding opened link run
unfolding calls_outstanding
outstanding_as_client opened link h run s =
    let k : ClientState = (client opened link run).state in
    (counts_as_client opened link h run s).0
    ∙ ap (λ (ws : List WaitingCall). length k.outstanding + length ws) (none_waits opened link run s.first.resumed)
    ∙ none_more (length k.outstanding)
  where
    none_more : (n : ℕ) → n + 0 ≡ n
    none_more n = omega arith

-- ---- Its answers

-- what is answered once a credit is left and the xid is near enough
abbrev pub answer_by_numbers : RequesterState → Plan → Submission
answer_by_numbers r plan =
    unless_spent (numbers_end - r.next_xid) 1
    (unless_spent (numbers_end - r.side.memory.next) (regions_needed plan) (submissions.Accepted r.next_xid))

-- what holds of each answer that there can be holds of the answer
pub answer_cases : (P : Submission → Type 0) (r : RequesterState) (plan : Plan) → P (submissions.Refused (refusals.NoCredit (length r.outstanding) r.grant))
    → ((oldest : ℕ) → P (submissions.Refused (refusals.Window oldest r.next_xid))) → ((left need : ℕ) → P (submissions.Refused (refusals.Spent left need))) → P (submissions.Accepted r.next_xid)
    → P (answer_by_plan r (Ok plan))
answer_cases P r plan no_credit far spent accepted = by_credit (has_credit r) where
  unless : (left need : ℕ) (answer : Submission) → P answer → P (unless_spent left need answer)
  unless left need answer p = by (ltb left need) where
    by : (b : Bool) → P (cond b (submissions.Refused (refusals.Spent left need)) answer)
    by true = spent left need
    by false = p

  numbers : P (answer_by_numbers r plan)
  numbers =
      unless (numbers_end - r.next_xid) 1 (unless_spent (numbers_end - r.side.memory.next) (regions_needed plan) (submissions.Accepted r.next_xid))
      (unless (numbers_end - r.side.memory.next) (regions_needed plan) (submissions.Accepted r.next_xid) accepted)

  from : (least : Option ℕ) → P (unless_far_from r.next_xid least (answer_by_numbers r plan))
  from None = numbers
  from (Some oldest) = by (leb window (r.next_xid - oldest)) where
    by : (b : Bool) → P (cond b (submissions.Refused (refusals.Window oldest r.next_xid)) (answer_by_numbers r plan))
    by true = far oldest
    by false = numbers

  by_number : (b : Bool) → P (cond b (answer_by_numbers r plan) (unless_far_from r.next_xid (least_stored r.outstanding) (answer_by_numbers r plan)))
  by_number true = numbers
  by_number false = from (least_stored r.outstanding)

  by_credit : (b : Bool) → P (cond b (unless_far_by r.side.terms.number r.next_xid (least_stored r.outstanding) (answer_by_numbers r plan)) (submissions.Refused (refusals.NoCredit (length r.outstanding) r.grant)))
  by_credit true = by_number (eqb r.side.terms.number 0)
  by_credit false = no_credit

near : (number next : ℕ) (least : Option ℕ) (answer : Submission) → not (is_far number next least) ≡ true → unless_far_by number next least answer ≡ answer
near number next least answer h = by_number (eqb number 0) h where
  from : (o : Option ℕ) → not (is_far_from next o) ≡ true → unless_far_from next o answer ≡ answer
  from None g = refl
  from (Some oldest) g = by (leb window (next - oldest)) g where
    by : (b : Bool) → not b ≡ true → cond b (submissions.Refused (refusals.Window oldest next)) answer ≡ answer
    by true g = absurd cc
    by false g = refl

  by_number : (b : Bool) → not (cond b false (is_far_from next least)) ≡ true → cond b answer (unless_far_from next least answer) ≡ answer
  by_number true g = refl
  by_number false g = from least g

-- a call that may be submitted is refused neither since no credit is left nor since its xid is too far above the least one
pub answer_in_window : (r : RequesterState) (plan : Plan) → r.side.ended ≡ None → may_submit r ≡ true → answer_by_plan r (Ok plan) ≡ answer_by_numbers r plan
unfolding may_submit
answer_in_window r plan none may =
    let number : ℕ = r.side.terms.number in
    let least : Option ℕ = least_stored r.outstanding in
    let free : Bool = eqb (length r.side.send_queue.held) 0 in
    let far : Bool = is_far number r.next_xid least in
    let parts : (ltb (length r.outstanding) r.grant ≡ true) × ((free && not far) ≡ true) =
    and_parts (ltb (length r.outstanding) r.grant) (free && not far) (sym (ap (λ (ended : Option End). may_submit_by ended r.grant (length r.outstanding) free far) none) ∙ may) in
    let apart : (free ≡ true) × (not far ≡ true) = and_parts free (not far) parts.1 in
    (λ i. cond (apart.0 i && parts.0 i) (unless_far_by number r.next_xid least (answer_by_numbers r plan)) (submissions.Refused (refusals.NoCredit (length r.outstanding) r.grant)))
    ∙ near number r.next_xid least (answer_by_numbers r plan) apart.1

-- ---- What is asked of a requester

abbrev is_accepted : Submission → Bool
is_accepted (submissions.Accepted xid) = true
is_accepted answer = false

pub none_is : (why : Option Refused) (b : Bool) → is_some why ≡ not b → b ≡ is_none why
none_is None true e = refl
none_is None false e = absurd (false≢true e)
none_is (Some refused) true e = absurd (true≢false e)
none_is (Some refused) false e = refl

-- why the next xid is too far above the least one, if it is
pub far_is : (number next : ℕ) (least : Option ℕ) (why : Option Refused) → ((answer : Submission) → unless_far_by number next least answer ≡ unless_refused why answer) →
    is_none why ≡ not (is_far number next least)
far_is number next least why says = by_number (eqb number 0) (sym (accepted why) ∙ ap is_accepted (sym (says (submissions.Accepted next)))) where
  accepted : (o : Option Refused) → is_accepted (unless_refused o (submissions.Accepted next)) ≡ is_none o
  accepted None = refl
  accepted (Some refused) = refl

  from : (o : Option ℕ) → is_none why ≡ is_accepted (unless_far_from next o (submissions.Accepted next)) → is_none why ≡ not (is_far_from next o)
  from None e = e
  from (Some oldest) e = by (leb window (next - oldest)) e where
    by : (b : Bool) → is_none why ≡ is_accepted (cond b (submissions.Refused (refusals.Window oldest next)) (submissions.Accepted next)) → is_none why ≡ not b
    by true g = g
    by false g = g

  by_number : (b : Bool) → is_none why ≡ is_accepted (cond b (submissions.Accepted next) (unless_far_from next least (submissions.Accepted next))) → is_none why ≡ not (cond b false (is_far_from next least))
  by_number true e = e
  by_number false e = from least e

-- by what it finds, one after another
pub may_ended : (r : RequesterState) → length r.outstanding < r.grant → is_some r.side.ended ≡ true → may_submit r ≡ true
unfolding may_submit
may_ended r credit ended =
    let free : Bool = eqb (length r.side.send_queue.held) 0 && not (is_far r.side.terms.number r.next_xid (least_stored r.outstanding)) in
    and_from (ltb (length r.outstanding) r.grant) (is_some r.side.ended || free) (lt-ltb (length r.outstanding) r.grant credit) (or_left (is_some r.side.ended) free ended)

pub may_live : (r : RequesterState) → length r.outstanding < r.grant → is_some r.side.ended ≡ false →
    may_submit r ≡ (eqb (length r.side.send_queue.held) 0 && not (is_far r.side.terms.number r.next_xid (least_stored r.outstanding)))
unfolding may_submit
may_live r credit lives =
    let left : ltb (length r.outstanding) r.grant ≡ true = lt-ltb (length r.outstanding) r.grant credit in
    λ i. left i && (lives i || (eqb (length r.side.send_queue.held) 0 && not (is_far r.side.terms.number r.next_xid (least_stored r.outstanding))))

pub may_none : (r : RequesterState) → r.grant ≤ length r.outstanding → may_submit r ≡ false
unfolding may_submit
may_none r spent =
    ap (λ (b : Bool). b && (is_some r.side.ended || (eqb (length r.side.send_queue.held) 0 && not (is_far r.side.terms.number r.next_xid (least_stored r.outstanding)))))
    (le-ltb (length r.outstanding) r.grant spent)

-- if no call may be submitted, one is outstanding
pub blocked_waits : (r : RequesterState) → 1 ≤ r.grant → length r.side.send_queue.held ≤ length r.outstanding → may_submit r ≡ false → 0 < length r.outstanding
unfolding may_submit
blocked_waits r granted held blocked = by r.outstanding refl where
  none_far : (number next : ℕ) → not (is_far number next None) ≡ true
  none_far number next = by_number (eqb number 0) where
    by_number : (b : Bool) → not (cond b false false) ≡ true
    by_number true = refl
    by_number false = refl

  ended_or : (ended : Option End) (free far : Bool) → free ≡ true → not far ≡ true → (is_some ended || (free && not far)) ≡ true
  ended_or (Some end) free far is isnt = refl
  ended_or None free far is isnt = (λ i. is i && not far) ∙ isnt

  by : (calls : List StoredCall) → r.outstanding ≡ calls → 0 < length r.outstanding
  by [] none =
      let count : length r.outstanding ≡ 0 = ap (λ (calls : List StoredCall). length calls) none in
      let unheld : length r.side.send_queue.held ≡ 0 = omega (arith, held, count) in
      let far : Bool = is_far r.side.terms.number r.next_xid (least_stored r.outstanding) in
      let isnt : not far ≡ true = ap (λ (calls : List StoredCall). not (is_far r.side.terms.number r.next_xid (least_stored calls))) none ∙ none_far r.side.terms.number r.next_xid in
      let credit : ltb (length r.outstanding) r.grant ≡ true = lt-ltb (length r.outstanding) r.grant (omega (arith, granted, count)) in
      let may : may_submit_by r.side.ended r.grant (length r.outstanding) (eqb (length r.side.send_queue.held) 0) far ≡ true =
      and_from (ltb (length r.outstanding) r.grant) (is_some r.side.ended || ((eqb (length r.side.send_queue.held) 0) && not far)) credit
      (ended_or r.side.ended (eqb (length r.side.send_queue.held) 0) far (ap (λ (n : ℕ). eqb n 0) unheld) isnt) in
      absurd (true≢false (sym may ∙ blocked))
  by (c ∷ calls) some = (let count = ap (λ (cs : List StoredCall). length cs) some in omega (arith, count))
