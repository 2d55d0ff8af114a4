-- What a requester answers to a call that may be submitted.
use Rattle.std.proofs.Common.{◌≡◌, ◌≢◌, ℕ, ◌-◌, Bool, true, false, if◌then◌else◌, Option, Some, None, Result, Ok, Err, List, refl, sym, ap, subst}
use Rattle.std.specs.Prelude.{⊤, nat_lt}
use Rattle.nr_link.specs.declared.end.End.{End}
use Rattle.nr_link.specs.declared.end.End.TheVariants as ends
use Rattle.nr_reduce.specs.declared.call.Call.{Call}
use Rattle.nr_reduce.specs.declared.call.Form.TheVariants as forms
use Rattle.nr_reduce.specs.declared.call.Refused.{Refused}
use Rattle.nr_reduce.specs.declared.call.Refused.TheVariants as refusals
use Rattle.nr_reduce.specs.declared.call.Submission.{Submission}
use Rattle.nr_reduce.specs.declared.call.Submission.TheVariants as submissions
use Rattle.nr_reduce.specs.declared.outline.Plan.{Plan}
use Rattle.nr_reduce.specs.Limits.{numbers_end}
use Rattle.nr_reduce.specs.SubmitAnswer.{unless_spent}
use Rattle.nr_reduce.specs.Plans.{TooLarge, regions_needed}
use Rattle.nr_requester.specs.RequesterState.{RequesterSide, RequesterState}
use Rattle.nr_requester.specs.Answers.{answer_by_plan, answer_if, answer_of, plan_under}
use Rattle.nr_requester.specs.MaySubmit.{may_submit}
use Rattle.nr_requester.proofs.MaySubmit.{answer_in_window}
use Rattle.nr_shared.specs.declared.call_end.CallEnd.{CallEnd}
use Rattle.nr_shared.specs.declared.call_end.CallEnd.TheVariants as calls
use Rattle.nr_client.specs.Ending.{HasCredit, IsCause, IsEndOf, LinkCause, SinkCountAt, SourceCountAt}

-- an answer that isn't for want of a credit, nor for an xid too far above the least one, and the end in it
abbrev Credited : Submission → Type 0
Credited (submissions.Accepted xid) = ⊤
Credited (submissions.Refused why) = HasCredit why
Credited submissions.Dropped = ⊤

abbrev end_in_refused : Refused → Option End
end_in_refused (refusals.Ended end) = Some end
end_in_refused why = None

abbrev end_in : Submission → Option End
end_in (submissions.Refused why) = end_in_refused why
end_in answer = None

record Fine (end : Option End) (s : Submission) : Type 0 where
  credited : Credited s
  ended : end_in s ≡ end

unless : (P : Submission → Type 0) (b : Bool) (x y : Submission) → P x → P y → P (if b then x else y)
unless P true x y px py = px
unless P false x y px py = py

spent : (left need : ℕ) (s : Submission) → Fine None s → Fine None (unless_spent left need s)
spent left need s is_fine =
    unless (Fine None) (nat_lt left need) (submissions.Refused (refusals.Spent left need)) s (record { credited = tt; ended = refl }) is_fine

by_plan : (r : RequesterState) (p : Result Plan TooLarge) → r.side.ended ≡ None → may_submit r ≡ true → Fine None (answer_by_plan r p)
by_plan r (Err large) none may = record { credited = tt; ended = refl }
by_plan r (Ok plan) none may =
    let last = spent (numbers_end - r.side.memory.next) (regions_needed plan) (submissions.Accepted r.next_xid) (record { credited = tt; ended = refl }) in
    subst (Fine None) (sym (answer_in_window r plan none may))
    (spent (numbers_end - r.next_xid) 1 (unless_spent (numbers_end - r.side.memory.next) (regions_needed plan) (submissions.Accepted r.next_xid)) last)

by_end : (r : RequesterState) (call : Call) (end : Option End) → r.side.ended ≡ end → may_submit r ≡ true → Fine end (answer_if r call forms.Auto end)
by_end r call (Some end) is may = record { credited = tt; ended = refl }
by_end r call None is may = by_plan r (plan_under r call forms.Auto) is may

fine : (r : RequesterState) (call : Call) → may_submit r ≡ true → Fine r.side.ended (answer_of r call forms.Auto)
unfolding answer_of
fine r call may = by_end r call r.side.ended refl may

-- it may be submitted
abbrev NotMemory : Refused → Type 0
NotMemory refusals.Memory = ⊥
NotMemory why = ⊤

abbrev SaysSo : RequesterState → Call → Refused → Type 0
SaysSo r call why = why ≢ refusals.Memory → answer_of r call forms.Auto ≡ submissions.Refused why

by_answer : (r : RequesterState) (call : Call) (why : Refused) → may_submit r ≡ true → answer_of r call forms.Auto ≡ submissions.Refused why → Fine r.side.ended (submissions.Refused why)
by_answer r call why credit is = subst (Fine r.side.ended) is (fine r call credit)

pub has_credit : (r : RequesterState) (call : Call) (why : Refused) → may_submit r ≡ true → SaysSo r call why → HasCredit why
has_credit r call refusals.Memory credit says = tt
has_credit r call (refusals.Ended end) credit says = tt
has_credit r call (refusals.TooLarge need room) credit says = tt
has_credit r call (refusals.Spent left need) credit says = tt
has_credit r call (refusals.NoCredit out grant) credit says =
    (by_answer r call (refusals.NoCredit out grant) credit (says (λ same. subst NotMemory same tt))).credited
has_credit r call (refusals.Window oldest next) credit says =
    (by_answer r call (refusals.Window oldest next) credit (says (λ same. subst NotMemory same tt))).credited

-- the cause of its end
pub cause_of : (h : RequesterSide) (call : Call) (why : Refused) (end : CallEnd) (left : Option (List ℕ)) (read : ℕ) → may_submit h.state ≡ true
    → SaysSo h.state call why → IsEndOf why end → IsCause end left read h call
cause_of h call refusals.Memory end left read credit says is = subst (λ (e : CallEnd). IsCause e left read h call) (sym is) tt
cause_of h call (refusals.Ended ended) end left read credit says is =
    subst (λ (e : CallEnd). IsCause e left read h call) (sym is)
    (sym (by_answer h.state call (refusals.Ended ended) credit (says (λ same. subst NotMemory same tt))).ended)
cause_of h call (refusals.TooLarge need room) end left read credit says is =
    subst (λ (e : CallEnd). IsCause e left read h call) (sym is) (says (λ same. subst NotMemory same tt))
cause_of h call (refusals.Spent left_over need) end left read credit says is =
    subst (λ (e : CallEnd). IsCause e left read h call) (sym is) (says (λ same. subst NotMemory same tt))
cause_of h call (refusals.NoCredit out grant) end left read credit says is = absurd is
cause_of h call (refusals.Window oldest next) end left read credit says is = absurd is

-- an end of the link is an end of the call
pub link_cause : (h : RequesterSide) (call : Call) (end : CallEnd) (left : Option (List ℕ)) (read : ℕ) → LinkCause end left read h → IsCause end left read h call
link_cause h call (calls.Ended end) left read cause = cause
link_cause h call calls.LinkRead left read cause = cause
link_cause h call calls.LinkWrite left read cause = cause
link_cause h call calls.Closed left read cause = cause
link_cause h call (calls.Tries n) left read cause = absurd cause
link_cause h call calls.DialFault left read cause = absurd cause
link_cause h call (calls.Spent left_over need) left read cause = absurd cause
link_cause h call (calls.TooLarge need room) left read cause = absurd cause
link_cause h call (calls.Budget count) left read cause = cause
link_cause h call calls.Memory left read cause = absurd cause

-- ---- Ends other than out of memory

abbrev NotOut : {A : Type 0} → Result A End → Type 0
NotOut (Err ends.Memory) = ⊥
NotOut r = ⊤

abbrev end_or_memory : {A : Type 0} → Result A End → End
end_or_memory (Ok x) = ends.Memory
end_or_memory (Err end) = end

pub ok_not_out : {A : Type 0} {x : A} → Ok x ≢ Err ends.Memory
ok_not_out {A = A} {x = x} same = subst (λ (r : Result A End). NotOut r) same tt

abbrev failed : {A : Type 0} → End → Result A End
failed end = Err end

pub not_out : {A : Type 0} {end : End} → end ≢ ends.Memory → failed {A = A} end ≢ Err ends.Memory
not_out {A = A} differs same = differs (ap (λ (r : Result A End). end_or_memory r) same)

abbrev end_or : Option End → End
end_or None = ends.Memory
end_or (Some end) = end

pub not_memory : {end : End} → end ≢ ends.Memory → Some end ≢ Some ends.Memory
not_memory {end = end} differs same = differs (ap (λ (o : Option End). end_or o) same)

-- ---- No fault count rises at a refusal

pub link_refused_source : (why : Refused) (end : CallEnd) → IsEndOf why end → (count : ℕ) → SourceCountAt end count count
link_refused_source refusals.Memory end is count = subst (λ (e : CallEnd). SourceCountAt e count count) (sym is) refl
link_refused_source (refusals.Ended ended) end is count = subst (λ (e : CallEnd). SourceCountAt e count count) (sym is) refl
link_refused_source (refusals.TooLarge need room) end is count = subst (λ (e : CallEnd). SourceCountAt e count count) (sym is) refl
link_refused_source (refusals.Spent left need) end is count = subst (λ (e : CallEnd). SourceCountAt e count count) (sym is) refl
link_refused_source (refusals.NoCredit out grant) end is count = absurd is
link_refused_source (refusals.Window oldest next) end is count = absurd is

pub link_refused_sink : (why : Refused) (end : CallEnd) → IsEndOf why end → (count : ℕ) → SinkCountAt end count count
link_refused_sink refusals.Memory end is count = subst (λ (e : CallEnd). SinkCountAt e count count) (sym is) refl
link_refused_sink (refusals.Ended ended) end is count = subst (λ (e : CallEnd). SinkCountAt e count count) (sym is) refl
link_refused_sink (refusals.TooLarge need room) end is count = subst (λ (e : CallEnd). SinkCountAt e count count) (sym is) refl
link_refused_sink (refusals.Spent left need) end is count = subst (λ (e : CallEnd). SinkCountAt e count count) (sym is) refl
link_refused_sink (refusals.NoCredit out grant) end is count = absurd is
link_refused_sink (refusals.Window oldest next) end is count = absurd is
