-- The calls that a client sends again are those that an earlier link kept, under xids that rise and are below the first new one.
use Rattle.std.proofs.Common.{◌≡◌, ℕ, ◌+◌, ◌<◌, ◌≤◌, Bool, true, false, cond, not, eqb, List, [], ◌∷◌, ◌++◌, map, filter, Option, None, Some, refl, sym, ap, subst, ◌∙◌, arith, append_assoc, ◌⊎◌, inl, inr}
use Rattle.std.specs.List.{AllByRecursion, find, flat_map}
use Rattle.nr_wire.specs.declared.hello.Side.TheVariants.{Initiator}
use Rattle.nr_link.specs.declared.agreement.Agreement.{Agreement}
use Rattle.nr_link.specs.Frames.{is_hello}
use Rattle.nr_reduce.specs.declared.call.Call.{Call}
use Rattle.nr_reduce.specs.declared.call.Form.{Form}
use Rattle.nr_reduce.specs.declared.call.Submission.TheVariants as submissions
use Rattle.nr_reduce.specs.declared.mark.Mark.{Mark}
use Rattle.nr_reduce.specs.declared.mark.Mark.TheVariants as marks
use Rattle.nr_reduce.specs.declared.mark.LinkParameters.{LinkParameters}
use Rattle.nr_reduce.specs.declared.mark.ResumedCall.{ResumedCall}
use Rattle.nr_reduce.specs.History.{AcceptedCall, accepted_calls, is_abandoned}
use Rattle.nr_reduce.specs.AtEachMark.{AtEachMark}
use Rattle.nr_reduce.specs.Matched.{IsPrefixOf}
use Rattle.nr_reduce.specs.Asked.{AskedMark, AskedSoFar, IsAccepted, IsResent}
use Rattle.nr_reduce.specs.Opening.{IsOpened, AreResumed, lengths_before}
use Rattle.nr_reduce.specs.Reopening.{resumed_as, resumed_of, resumed_again, calls_kept}
use Rattle.nr_reduce.specs.Plans.{regions_needed}
use Rattle.nr_reduce.specs.Events.{RunEvent, events}
use Rattle.nr_reduce.specs.Events.RunEvent.{FrameReceived, CallSubmitted, MemoryRevoked, CallExecuted, QueueWritten, ServerTold}
use Rattle.nr_reduce.specs.ClientState.{OutstandingCall, WaitingCall, ClientState, waiting_call, waiting_from}
use Rattle.nr_reduce.specs.Client.{client_rules, client_segment, client_state_after, initial_client, with_hello, with_segment, xid_unless_waiting}
use Rattle.nr_reduce.specs.SubmitAnswer.{first_xid_or, next_sent_xid}
use Rattle.nr_reduce.specs.Run.{client}
use Rattle.nr_reduce.proofs.OwnStags.{kept_after}
use Rattle.nr_reduce.proofs.Placing.{segment_next, sent_after_submit, sent_rises, later_of}
use Rattle.nr_laws.proofs.Basics.{each_all}
use Rattle.nr_laws.proofs.OnceByXid.{at_mark}
use Rattle.nr_laws.proofs.OutstandingSubmits.{HasSubmit, IsSubmitted, outstanding_submitted, accepted_submitted, found_each}
use Rattle.nr_laws.proofs.WaitingCalls.{waits_on}

-- ---- One of the calls that are sent again, by its xid, call and form

pub record IsThis (r : ResumedCall) (xid : ℕ) (call : Call) (form : Form) : Type 0 where
  pub xid_is : r.xid ≡ xid
  pub call_is : r.call ≡ call
  pub form_is : r.form ≡ form

abbrev pub IsOneOf : List ResumedCall → ℕ → Call → Form → Type 0
IsOneOf [] xid call form = ⊥
IsOneOf (r ∷ rs) xid call form = IsThis r xid call form ⊎ IsOneOf rs xid call form

one_same : (rs : List ResumedCall) (xid yid : ℕ) (call other : Call) (form way : Form) → xid ≡ yid → call ≡ other → form ≡ way → IsOneOf rs yid other way → IsOneOf rs xid call form
one_same [] xid yid call other form way x c f one = absurd one
one_same (r ∷ rs) xid yid call other form way x c f (inl this) = inl (record { xid_is = this.xid_is ∙ sym x; call_is = this.call_is ∙ sym c; form_is = this.form_is ∙ sym f })
one_same (r ∷ rs) xid yid call other form way x c f (inr one) = inr (one_same rs xid yid call other form way x c f one)

at_end : (agreed : Agreement) (first : ℕ) (rs : List ResumedCall) (next : ℕ) → AreResumed agreed first rs next → first ≤ next
at_end agreed first [] next h = h
at_end agreed first (r ∷ rs) next h = (let a = h.0 in let rest = at_end agreed (r.xid + 1) rs next h.1.1 in omega (arith, a, rest))

one_from : (agreed : Agreement) (first : ℕ) (rs : List ResumedCall) (next xid : ℕ) (call : Call) (form : Form) → AreResumed agreed first rs next → IsOneOf rs xid call form → first ≤ xid
one_from agreed first [] next xid call form h one = absurd one
one_from agreed first (r ∷ rs) next xid call form h (inl this) = (let a = h.0 in let same = this.xid_is in omega (arith, a, same))
one_from agreed first (r ∷ rs) next xid call form h (inr one) = (let a = h.0 in let rest = one_from agreed (r.xid + 1) rs next xid call form h.1.1 one in omega (arith, a, rest))

one_below : (agreed : Agreement) (first : ℕ) (rs : List ResumedCall) (next xid : ℕ) (call : Call) (form : Form) → AreResumed agreed first rs next → IsOneOf rs xid call form → xid < next
one_below agreed first [] next xid call form h one = absurd one
one_below agreed first (r ∷ rs) next xid call form h (inl this) = (let rest = at_end agreed (r.xid + 1) rs next h.1.1 in let same = this.xid_is in omega (arith, rest, same))
one_below agreed first (r ∷ rs) next xid call form h (inr one) = one_below agreed (r.xid + 1) rs next xid call form h.1.1 one

one_each : (agreed : Agreement) (first : ℕ) (rs : List ResumedCall) (next xid : ℕ) (call other : Call) (form way : Form) → AreResumed agreed first rs next → IsOneOf rs xid call form → IsOneOf rs xid other way → (call ≡ other) × (form ≡ way)
one_each agreed first [] next xid call other form way h one two = absurd one
one_each agreed first (r ∷ rs) next xid call other form way h (inl a) (inl b) = (sym a.call_is ∙ b.call_is, sym a.form_is ∙ b.form_is)
one_each agreed first (r ∷ rs) next xid call other form way h (inl a) (inr b) = absurd (let from = one_from agreed (r.xid + 1) rs next xid other way h.1.1 b in let same = a.xid_is in omega (arith, from, same))
one_each agreed first (r ∷ rs) next xid call other form way h (inr a) (inl b) = absurd (let from = one_from agreed (r.xid + 1) rs next xid call form h.1.1 a in let same = b.xid_is in omega (arith, from, same))
one_each agreed first (r ∷ rs) next xid call other form way h (inr a) (inr b) = one_each agreed (r.xid + 1) rs next xid call other form way h.1.1 a b

-- ---- Of a link that was opened in range

pub resumed_below : (opened : LinkParameters) (xid : ℕ) (call : Call) (form : Form) → IsOpened opened → IsOneOf opened.resumed xid call form → xid < opened.first_xid
resumed_below opened xid call form o one = one_below (lengths_before opened.agreed) 1 opened.resumed opened.first_xid xid call form o.resumed one

pub resumed_each : (opened : LinkParameters) (xid : ℕ) (call other : Call) (form way : Form) → IsOpened opened → IsOneOf opened.resumed xid call form → IsOneOf opened.resumed xid other way → (call ≡ other) × (form ≡ way)
resumed_each opened xid call other form way o one two = one_each (lengths_before opened.agreed) 1 opened.resumed opened.first_xid xid call other form way o.resumed one two

-- each call that waits is one of them
waits_first : (stag : ℕ) (rs : List ResumedCall) → AllByRecursion (λ (w : WaitingCall). IsOneOf rs w.xid w.call w.form) (waiting_from stag rs)
waits_first stag [] = tt
waits_first stag (r ∷ rs) = (
  inl (record { xid_is = refl; call_is = refl; form_is = refl }),
  each_all (λ (w : WaitingCall). IsOneOf rs w.xid w.call w.form) (λ (w : WaitingCall). IsOneOf (r ∷ rs) w.xid w.call w.form) (waiting_from (stag + regions_needed r.plan) rs) (λ w one. inr one) (waits_first (stag + regions_needed r.plan) rs),
)

pub waits_resumed : (opened : LinkParameters) (link : ℕ) (run : List Mark) → AllByRecursion (λ (w : WaitingCall). IsOneOf opened.resumed w.xid w.call w.form) (client opened link run).state.waiting
waits_resumed opened link run = waits_on (λ (w : WaitingCall). IsOneOf opened.resumed w.xid w.call w.form) opened (λ w one. one) (waits_first opened.first_stag opened.resumed) link run

-- the next new xid isn't less than the first one
abbrev NextFrom : LinkParameters → ClientState → Type 0
NextFrom opened k = opened.first_xid ≤ k.next_xid

next_event : (opened : LinkParameters) (k : ClientState) (e : RunEvent) → NextFrom opened k → NextFrom opened (client_state_after opened k e)
unfolding client_state_after
next_event opened k (FrameReceived f) h = by (is_hello f)
  where
    by : (b : Bool) → NextFrom opened (cond b (with_hello opened k f) (with_segment k f (client_segment k f)))
    by true = h
    by false = (let same = segment_next k f (client_segment k f) in omega (arith, h, same))
next_event opened k (CallSubmitted place a) h = by (waiting_call k a.xid)
  where
    by : (x : Option WaitingCall) → opened.first_xid ≤ xid_unless_waiting x k.next_xid
    by None = omega (arith, h)
    by (Some w) = h
next_event opened k (MemoryRevoked place xid) h = h
next_event opened k (CallExecuted call) h = h
next_event opened k (QueueWritten taken) h = h
next_event opened k (ServerTold what) h = h

pub next_least : (opened : LinkParameters) (link : ℕ) (run : List Mark) → opened.first_xid ≤ (client opened link run).state.next_xid
unfolding client
next_least opened link run = kept_after (client_rules opened) (NextFrom opened) (next_event opened) (initial_client opened) (events link Initiator run) (omega arith)

-- ---- An accepted call is a new one, or one of those that are sent again

pub new_or_again : (opened : LinkParameters) (link : ℕ) (before : List Mark) (call : Call) (form : Form) (xid : ℕ) → IsAccepted opened link before call form xid → (opened.first_xid ≤ xid) ⊎ IsOneOf opened.resumed xid call form
new_or_again opened link before call form xid a = by k.waiting a.next a.resent (waits_resumed opened link before)
  where
    k : ClientState
    k = (client opened link before).state

    by : (ws : List WaitingCall) → xid ≡ first_xid_or k.next_xid ws → IsResent k.has_hello k.next_xid ws call form → AllByRecursion (λ (w : WaitingCall). IsOneOf opened.resumed w.xid w.call w.form) ws → (opened.first_xid ≤ xid) ⊎ IsOneOf opened.resumed xid call form
    by [] own resent h = inl (let least = next_least opened link before in omega (arith, least, own))
    by (w ∷ ws) own resent h = inr (one_same opened.resumed xid w.xid call w.call form w.form own resent.call_is resent.form_is h.0)

-- so its xid is below the next new one from then on
pub accepted_below : (opened : LinkParameters) (link : ℕ) (run before rest : List Mark) (call : Call) (form : Form) (xid : ℕ) → IsOpened opened → AskedSoFar opened link run → run ≡ before ++ marks.Submit link call form (submissions.Accepted xid) ∷ rest
    → xid < (client opened link run).state.next_xid
accepted_below opened link run before rest call form xid o asked is = by (new_or_again opened link before call form xid accepted)
  where
    submit : Mark
    submit = marks.Submit link call form (submissions.Accepted xid)

    accepted : IsAccepted opened link before call form xid
    accepted = at_mark (AskedMark IsPrefixOf opened link) run before submit rest is asked refl

    least : opened.first_xid ≤ (client opened link run).state.next_xid
    least = next_least opened link run

    rises : xid < next_sent_xid (client opened link run).state
    rises =
        let all : AtEachMark (AskedMark IsPrefixOf opened link) before (submit ∷ rest) = later_of (AskedMark IsPrefixOf opened link) [] before (submit ∷ rest) (subst (AtEachMark (AskedMark IsPrefixOf opened link) []) is asked) in
        let one = sent_after_submit opened link before call form xid accepted in
        let more = sent_rises IsPrefixOf opened link (before ++ submit ∷ []) rest all.1 in
        let same = ap (λ (r : List Mark). next_sent_xid (client opened link r).state) (append_assoc before (submit ∷ []) rest ∙ sym is) in
        omega (arith, one, more, same)

    new : (ws : List WaitingCall) → AllByRecursion (λ (w : WaitingCall). IsOneOf opened.resumed w.xid w.call w.form) ws → opened.first_xid ≤ xid → xid < first_xid_or (client opened link run).state.next_xid ws → xid < (client opened link run).state.next_xid
    new [] h first lt = lt
    new (w ∷ ws) h first lt = absurd (let below = resumed_below opened w.xid w.call w.form o h.0 in omega (arith, below, first, lt))

    by : (opened.first_xid ≤ xid) ⊎ IsOneOf opened.resumed xid call form → xid < (client opened link run).state.next_xid
    by (inl first) = new (client opened link run).state.waiting (waits_resumed opened link run) first rises
    by (inr one) = (let below = resumed_below opened xid call form o one in omega (arith, below, least))

-- ---- What the next link sends again

pub one_filter : (p : ResumedCall → Bool) (rs : List ResumedCall) (xid : ℕ) (call : Call) (form : Form) → IsOneOf (filter p rs) xid call form → IsOneOf rs xid call form
one_filter p [] xid call form one = absurd one
one_filter p (r ∷ rs) xid call form one = by (p r) one (one_filter p rs xid call form)
  where
    by : (b : Bool) → IsOneOf (cond b (r ∷ filter p rs) (filter p rs)) xid call form → (IsOneOf (filter p rs) xid call form → IsOneOf rs xid call form) → IsOneOf (r ∷ rs) xid call form
    by true (inl this) later = inl this
    by true (inr one) later = inr (later one)
    by false one later = inr (later one)

pub one_append : (rs more : List ResumedCall) (xid : ℕ) (call : Call) (form : Form) → IsOneOf (rs ++ more) xid call form → IsOneOf rs xid call form ⊎ IsOneOf more xid call form
one_append [] more xid call form one = inr one
one_append (r ∷ rs) more xid call form (inl this) = inl (inl this)
one_append (r ∷ rs) more xid call form (inr one) = by (one_append rs more xid call form one)
  where
    by : IsOneOf rs xid call form ⊎ IsOneOf more xid call form → IsOneOf (r ∷ rs) xid call form ⊎ IsOneOf more xid call form
    by (inl here) = inl (inr here)
    by (inr there) = inr there

-- a call that was outstanding: it was submitted on the old link, and so was one with its form
pub record WasOutstanding (link : ℕ) (run : List Mark) (xid : ℕ) (call : Call) (form : Form) : Type 0 where
  pub own : HasSubmit link run xid call
  pub accepted : AcceptedCall
  pub submitted : IsSubmitted link run accepted
  pub xid_is : accepted.xid ≡ xid
  pub form_is : accepted.form ≡ form

one_out : (link : ℕ) (run : List Mark) (accepted : List AcceptedCall) (os : List OutstandingCall) (xid : ℕ) (call : Call) (form : Form) → AllByRecursion (IsSubmitted link run) accepted → AllByRecursion (λ (o : OutstandingCall). HasSubmit link run o.xid o.call) os
    → IsOneOf (flat_map (resumed_of accepted) os) xid call form → WasOutstanding link run xid call form
one_out link run accepted [] xid call form given h one = absurd one
one_out link run accepted (o ∷ os) xid call form given h one = by (one_append (resumed_of accepted o) (flat_map (resumed_of accepted) os) xid call form one) (one_out link run accepted os xid call form given h.1)
  where
    here : (x : Option AcceptedCall) → find (λ (a : AcceptedCall). eqb a.xid o.xid) accepted ≡ x → IsOneOf (resumed_as o x) xid call form → WasOutstanding link run xid call form
    here None is one = absurd one
    here (Some a) is (inr one) = absurd one
    here (Some a) is (inl this) =
        let found = found_each (IsSubmitted link run) o.xid accepted a given is in
        record {
          own = subst (λ (n : ℕ). HasSubmit link run n call) this.xid_is (subst (λ (c : Call). HasSubmit link run o.xid c) this.call_is h.0);
          accepted = a;
          submitted = found.0;
          xid_is = found.1 ∙ this.xid_is;
          form_is = this.form_is;
        }

    by : IsOneOf (resumed_of accepted o) xid call form ⊎ IsOneOf (flat_map (resumed_of accepted) os) xid call form → (IsOneOf (flat_map (resumed_of accepted) os) xid call form → WasOutstanding link run xid call form) → WasOutstanding link run xid call form
    by (inl own) later = here (find (λ (a : AcceptedCall). eqb a.xid o.xid) accepted) refl own
    by (inr others) later = later others

one_waits : (rs : List ResumedCall) (ws : List WaitingCall) (xid : ℕ) (call : Call) (form : Form) → AllByRecursion (λ (w : WaitingCall). IsOneOf rs w.xid w.call w.form) ws → IsOneOf (map resumed_again ws) xid call form → IsOneOf rs xid call form
one_waits rs [] xid call form h one = absurd one
one_waits rs (w ∷ ws) xid call form h (inl this) = one_same rs xid w.xid call w.call form w.form (sym this.xid_is) (sym this.call_is) (sym this.form_is) h.0
one_waits rs (w ∷ ws) xid call form h (inr one) = one_waits rs ws xid call form h.1 one

pub kept_of : (opened : LinkParameters) (link : ℕ) (run : List Mark) (xid : ℕ) (call : Call) (form : Form) → IsOneOf (calls_kept opened link run) xid call form → WasOutstanding link run xid call form ⊎ IsOneOf opened.resumed xid call form
unfolding calls_kept
kept_of opened link run xid call form one =
    by (one_append (flat_map (resumed_of (accepted_calls link run)) k.outstanding) (map resumed_again k.waiting) xid call form
    (one_filter (λ r. not (is_abandoned link r.xid run)) (flat_map (resumed_of (accepted_calls link run)) k.outstanding ++ map resumed_again k.waiting) xid call form one))
  where
    k : ClientState
    k = (client opened link run).state

    by : IsOneOf (flat_map (resumed_of (accepted_calls link run)) k.outstanding) xid call form ⊎ IsOneOf (map resumed_again k.waiting) xid call form → WasOutstanding link run xid call form ⊎ IsOneOf opened.resumed xid call form
    by (inl out) = inl (one_out link run (accepted_calls link run) k.outstanding xid call form (accepted_submitted link run) (outstanding_submitted opened link run) out)
    by (inr waits) = inr (one_waits opened.resumed k.waiting xid call form (waits_resumed opened link run) waits)
