-- An open call of a client is one of its last link: it was accepted there, or on a link before it and kept as the client left that.
use Rattle.std.specs.Prelude.{is_none, nat_lt, ◌-◌, ◌==◌, ◌&&◌, ◌||◌, not, if◌then◌else◌, unwrap_or, Contains}
use Rattle.std.specs.List.{AllByRecursion, flat_map, list_any}
use Rattle.std.proofs.Common.{◌≡◌, ℕ, ◌+◌, ◌≤◌, ◌<◌, cond, eqb, filter, ◌⊎◌, inl, inr, arith, eqb-true, Bool, true, false, List, [], ◌∷◌, ◌++◌, length, map, Option, None, Some, refl, sym, ap, subst, ◌∙◌, append_assoc, append-nil}
use Rattle.std.proofs.lemmas.Bool.{eq-eqb}
use Rattle.std.proofs.lemmas.List.Elements.{Contains-append_cases, Contains-append_left, Contains-append_right}
use Rattle.nr_wire.specs.declared.hello.Side.TheVariants.{Initiator, Responder}
use Rattle.nr_link.specs.declared.end.End.{End}
use Rattle.nr_link.specs.Frames.{Frame, is_hello, frames_completed}
use Rattle.nr_reduce.specs.declared.call.Call.{Call}
use Rattle.nr_reduce.specs.declared.call.Form.{Form}
use Rattle.nr_reduce.specs.declared.call.Submission.{Submission}
use Rattle.nr_reduce.specs.declared.call.Submission.TheVariants as submissions
use Rattle.nr_reduce.specs.declared.mark.Mark.{Mark}
use Rattle.nr_reduce.specs.declared.mark.Mark.TheVariants as marks
use Rattle.nr_reduce.specs.declared.mark.LinkParameters.{LinkParameters}
use Rattle.nr_reduce.specs.declared.mark.ResumedCall.{ResumedCall}
use Rattle.nr_reduce.specs.Plans.{regions_needed}
use Rattle.nr_reduce.specs.History.{AcceptedCall, CompletedCall, accepted_as, accepted_at, accepted_calls, completed_at, completed_calls, abandons, is_abandoned, is_dropped, bytes_received, same_side}
use Rattle.nr_reduce.specs.OutcomesDue.{is_completed, outcomes_of_call, outcomes_due}
use Rattle.nr_reduce.specs.Events.{RunEvent, if_own, events, events_at}
use Rattle.nr_reduce.specs.Events.RunEvent.{FrameReceived, CallSubmitted, MemoryRevoked, CallExecuted, QueueWritten, ServerTold}
use Rattle.nr_reduce.specs.EndRules.{EndState, next_end_state, next_end_state_by, next_end_state_in, end_state_after}
use Rattle.nr_reduce.specs.ClientState.{WaitingCall, ClientState, others_than, waiting_from}
use Rattle.nr_reduce.specs.Client.{client_rules, client_segment, client_end, client_state_after, revoked_waiting, with_hello, with_segment}
use Rattle.nr_reduce.specs.SubmitAnswer.{first_xid_or, next_sent_xid}
use Rattle.nr_reduce.specs.Run.{client}
use Rattle.nr_reduce.specs.Asked.{IsAwaitedOrWaits, as_accepted, client_calls}
use Rattle.nr_reduce.specs.Opening.{IsOpened}
use Rattle.nr_reduce.specs.Reopening.{reopened}
use Rattle.nr_reduce.proofs.Placing.{segment_waiting}
use Rattle.nr_reduce.proofs.Standing.{itself, one_more}
use Rattle.nr_reduce.proofs.Steps.{client_one}
use Rattle.nr_reduce.proofs.Waiting.{accepted_one}
use Rattle.nr_reduce.proofs.WaitingFit.{AreFit, waiting_fit}
use Rattle.nr_laws.proofs.DistinctKeys.{any_append, or_left_lem, or_right_lem}
use Rattle.nr_laws.proofs.LinkInvariants.{AreAtMost}
use Rattle.nr_laws.proofs.LiveRegions.{passes_any}
use Rattle.nr_laws.proofs.ReopenedLinks.{no_call_is_left_over}
use Rattle.nr_drill.specs.Drill.{link_of, Setting, Drill, client_of, is_sent_again, settles, answer_at, answer_of_line, is_open, open_xid}
use Rattle.nr_drill.proofs.Lawful.{IsLawful, OpenIsAwaited, here, there, none_in, one_in, got_in, none_completed}
use Rattle.nr_drill.proofs.Handed.{NoneDue, xids_below}

-- ===== what settles a call for its client settles it on a link

neither_of : (a b : Bool) → a || b ≡ false → (a ≡ false) × (b ≡ false)
neither_of true b e = absurd cc
neither_of false b e = (refl, e)

or_false : (a b : Bool) → a ≡ false → b ≡ false → a || b ≡ false
or_false true b e f = e
or_false false b e f = f

own_call : (s : Setting) (link l x xid : ℕ) → client_of s l == client_of s link && x == xid ≡ false → eqb l link && eqb x xid ≡ false
own_call s link l x xid off = by (eqb l link) refl
  where
    by : (b : Bool) → eqb l link ≡ b → b && eqb x xid ≡ false
    by true is =
        let same : client_of s l == client_of s link ≡ true = eq-eqb (client_of s l) (client_of s link) (ap (client_of s) (eqb-true l link is)) in
        sym (ap (λ (b : Bool). b && eqb x xid) same) ∙ off
    by false is = refl

not_settled : (s : Setting) (link xid : ℕ) (mark : Mark) → settles s (client_of s link) xid mark ≡ false → (list_any (λ (c : CompletedCall). eqb c.xid xid) (completed_at link mark) ≡ false) × (abandons link xid mark ≡ false)
not_settled s link xid (marks.Done l x outcome) off = by (eqb l link) (own_call s link l x xid off)
  where
    or_nothing : (b : Bool) → b ≡ false → b || false ≡ false
    or_nothing true e = e
    or_nothing false e = refl

    by : (b : Bool) → b && eqb x xid ≡ false → (list_any (λ (c : CompletedCall). eqb c.xid xid) (cond b (record { xid = x; outcome = outcome } ∷ []) []) ≡ false) × (false ≡ false)
    by true off = (or_nothing (eqb x xid) off, refl)
    by false off = (refl, refl)
not_settled s link xid (marks.Forget l x) off = (refl, own_call s link l x xid off)
not_settled s link xid (marks.Revoke l x bytes) off = (refl, own_call s link l x xid off)
not_settled s link xid (marks.Lost l x) off = (refl, own_call s link l x xid off)
not_settled s link xid (marks.Submit l call form answer) off = (refl, refl)
not_settled s link xid (marks.Wrote l side bytes) off = (refl, refl)
not_settled s link xid (marks.Fed l side bytes) off = (refl, refl)
not_settled s link xid (marks.Execute l x moment payload place reply) off = (refl, refl)
not_settled s link xid (marks.Drop l) off = (refl, refl)
not_settled s link xid (marks.Told l what) off = (refl, refl)

any_both : {X : Type 0} (p : X → Bool) (xs ys : List X) → list_any p xs ≡ false → list_any p ys ≡ false → list_any p (xs ++ ys) ≡ false
any_both p [] ys e f = f
any_both p (x ∷ xs) ys e f = (let parts = neither_of (p x) (list_any p xs) e in or_false (p x) (list_any p (xs ++ ys)) parts.0 (any_both p xs ys parts.1 f))

pub none_settles : (s : Setting) (link xid : ℕ) (run : List Mark) → list_any (settles s (client_of s link) xid) run ≡ false → (is_completed link xid run ≡ false) × (is_abandoned link xid run ≡ false)
unfolding completed_calls
none_settles s link xid [] off = (refl, refl)
none_settles s link xid (mark ∷ run) off =
    let parts = neither_of (settles s (client_of s link) xid mark) (list_any (settles s (client_of s link) xid) run) off in
    let one = not_settled s link xid mark parts.0 in
    let rest = none_settles s link xid run parts.1 in (
      any_both (λ (c : CompletedCall). eqb c.xid xid) (completed_at link mark) (flat_map (completed_at link) run) one.0 rest.0,
      or_false (abandons link xid mark) (list_any (abandons link xid) run) one.1 rest.1,
    )

-- ===== the answers to the calls of a client

abbrev accepted_xid : Submission → ℕ → ℕ
accepted_xid (submissions.Accepted xid) other = xid
accepted_xid (submissions.Refused why) other = other
accepted_xid submissions.Dropped other = other

accepted_in : (xid : ℕ) (answer : Submission) (call : Call) (form : Form) → Contains (answer ∷ []) (submissions.Accepted xid) → (a : AcceptedCall) × Contains (accepted_as answer call form) a × (a.xid ≡ xid)
accepted_in xid answer call form h = by answer (one_in answer (submissions.Accepted xid) h)
  where
    by : (answer : Submission) → answer ≡ submissions.Accepted xid → (a : AcceptedCall) × Contains (accepted_as answer call form) a × (a.xid ≡ xid)
    by (submissions.Accepted x) is =
        let a : AcceptedCall = record { xid = x; call = call; form = form } in
        (a, here a [] a refl, ap (λ (s : Submission). accepted_xid s x) is)
    by (submissions.Refused why) is = absurd cc
    by submissions.Dropped is = absurd cc

both_of : (a b : Bool) → a && b ≡ true → (a ≡ true) × (b ≡ true)
both_of true b e = (refl, e)
both_of false b e = absurd cc

-- an accepted call of a client at a mark, which is of one of its links
record IsOfClient (s : Setting) (client xid : ℕ) (mark : Mark) : Type 0 where
  own : client_of s (link_of mark) ≡ client
  call : AcceptedCall
  is_accepted : Contains (accepted_at (link_of mark) mark) call
  xid_is : call.xid ≡ xid

of_client : (s : Setting) (client xid : ℕ) (mark : Mark) → Contains (answer_at s client mark) (submissions.Accepted xid) → IsOfClient s client xid mark
of_client s client xid (marks.Submit l call form answer) h = by (client_of s l == client && not (is_sent_again s l answer)) refl h
  where
    by : (b : Bool) → client_of s l == client && not (is_sent_again s l answer) ≡ b → Contains (cond b (answer ∷ []) []) (submissions.Accepted xid) → IsOfClient s client xid (marks.Submit l call form answer)
    by true is h =
        let a = accepted_in xid answer call form h in
        record {
          own = eqb-true (client_of s l) client (both_of (client_of s l == client) (not (is_sent_again s l answer)) is).0;
          call = a.0;
          is_accepted = subst (λ (b : Bool). Contains (cond b (accepted_as answer call form) []) a.0) (sym (itself l)) a.1;
          xid_is = a.2;
        }
    by false is h = none_in {W = IsOfClient s client xid (marks.Submit l call form answer)} (submissions.Accepted xid) h
of_client s client xid (marks.Wrote l side bytes) h = none_in {W = IsOfClient s client xid (marks.Wrote l side bytes)} (submissions.Accepted xid) h
of_client s client xid (marks.Fed l side bytes) h = none_in {W = IsOfClient s client xid (marks.Fed l side bytes)} (submissions.Accepted xid) h
of_client s client xid (marks.Execute l x moment payload place reply) h = none_in {W = IsOfClient s client xid (marks.Execute l x moment payload place reply)} (submissions.Accepted xid) h
of_client s client xid (marks.Done l x outcome) h = none_in {W = IsOfClient s client xid (marks.Done l x outcome)} (submissions.Accepted xid) h
of_client s client xid (marks.Lost l x) h = none_in {W = IsOfClient s client xid (marks.Lost l x)} (submissions.Accepted xid) h
of_client s client xid (marks.Forget l x) h = none_in {W = IsOfClient s client xid (marks.Forget l x)} (submissions.Accepted xid) h
of_client s client xid (marks.Revoke l x bytes) h = none_in {W = IsOfClient s client xid (marks.Revoke l x bytes)} (submissions.Accepted xid) h
of_client s client xid (marks.Drop l) h = none_in {W = IsOfClient s client xid (marks.Drop l)} (submissions.Accepted xid) h
of_client s client xid (marks.Told l what) h = none_in {W = IsOfClient s client xid (marks.Told l what)} (submissions.Accepted xid) h

-- ===== the calls that a link knows

-- a call under this xid is one that the client of the link was opened with, or accepted
abbrev pub HasCall : LinkParameters → ℕ → List Mark → ℕ → Type 0
HasCall o link run xid = (a : AcceptedCall) × Contains (client_calls o link run) a × (a.xid ≡ xid)

-- so is each call of a client, unless its outcome was handed over or it was given up
abbrev pub KnowsCalls : Setting → (client link : ℕ) → List Mark → Type 0
KnowsCalls s client link run =
    (xid : ℕ) → Contains (flat_map (answer_at s client) run) (submissions.Accepted xid) → list_any (settles s client xid) run ≡ false → HasCall (s.opened link) link run xid

has_more : (o : LinkParameters) (link : ℕ) (run : List Mark) (mark : Mark) (xid : ℕ) → HasCall o link run xid → HasCall o link (run ++ mark ∷ []) xid
has_more o link run mark xid h =
    let first = map as_accepted o.resumed in
    let all : client_calls o link (run ++ mark ∷ []) ≡ client_calls o link run ++ accepted_at link mark =
    ap (λ (calls : List AcceptedCall). first ++ calls) (accepted_one link run mark) ∙ sym (append_assoc first (accepted_calls link run) (accepted_at link mark)) in
    (h.0, subst (λ (calls : List AcceptedCall). Contains calls h.0) (sym all) (Contains-append_left (client_calls o link run) (accepted_at link mark) h.0 h.1), h.2)

has_new : (o : LinkParameters) (link : ℕ) (run : List Mark) (mark : Mark) (xid : ℕ) (a : AcceptedCall) → Contains (accepted_at link mark) a → a.xid ≡ xid → HasCall o link (run ++ mark ∷ []) xid
has_new o link run mark xid a is own =
    let first = map as_accepted o.resumed in
    let all : accepted_calls link (run ++ mark ∷ []) ≡ accepted_calls link run ++ accepted_at link mark = accepted_one link run mark in
    (a, Contains-append_right first (accepted_calls link (run ++ mark ∷ [])) a (subst (λ (calls : List AcceptedCall). Contains calls a) (sym all) (Contains-append_right (accepted_calls link run) (accepted_at link mark) a is)), own)

-- a mark more, of the link, or of one of another client
knows_one : (s : Setting) (client link : ℕ) (run : List Mark) (mark : Mark) → (client_of s (link_of mark) ≡ client → link_of mark ≡ link) → KnowsCalls s client link run → KnowsCalls s client link (run ++ mark ∷ [])
knows_one s client link run mark own knows xid h none = by (Contains-append_cases (flat_map (answer_at s client) run) (answer_at s client mark) (submissions.Accepted xid)
    (subst (λ (answers : List Submission). Contains answers (submissions.Accepted xid)) (one_more (answer_at s client) run mark) h))
  where
    before : list_any (settles s client xid) run ≡ false
    before = (neither_of (list_any (settles s client xid) run) (list_any (settles s client xid) (mark ∷ [])) (sym (any_append (settles s client xid) run (mark ∷ [])) ∙ none)).0

    by : Contains (flat_map (answer_at s client) run) (submissions.Accepted xid) ⊎ Contains (answer_at s client mark) (submissions.Accepted xid) → HasCall (s.opened link) link (run ++ mark ∷ []) xid
    by (inl old) = has_more (s.opened link) link run mark xid (knows xid old before)
    by (inr new) =
        let c = of_client s client xid mark new in
        let here : link_of mark ≡ link = own c.own in
        has_new (s.opened link) link run mark xid c.call (subst (λ (l : ℕ). Contains (accepted_at l mark) c.call) here c.is_accepted) c.xid_is

pub knows_more : (s : Setting) (client link acted : ℕ) (old added : List Mark) → (client_of s acted ≡ client → acted ≡ link) → AllByRecursion (λ (mark : Mark). link_of mark ≡ acted) added → KnowsCalls s client link old →
    KnowsCalls s client link (old ++ added)
knows_more s client link acted old [] own of knows = subst (KnowsCalls s client link) (sym (append-nil old)) knows
knows_more s client link acted old (mark ∷ added) own of knows =
    subst (KnowsCalls s client link) (append_assoc old (mark ∷ []) added)
    (knows_more s client link acted (old ++ mark ∷ []) added own of.1
    (knows_one s client link old mark (λ same. of.0 ∙ own (ap (client_of s) (sym of.0) ∙ same)) knows))

-- an open call is awaited
open_parts : (a b c : Bool) → not (a || b) && c ≡ true → (a ≡ false) × (b ≡ false) × (c ≡ true)
open_parts true b c e = absurd cc
open_parts false true c e = absurd cc
open_parts false false true e = (refl, refl, refl)
open_parts false false false e = absurd cc

awaited_by : (s : Setting) (link xid : ℕ) (run : List Mark) → HasCall (s.opened link) link run xid → list_any (settles s (client_of s link) xid) run ≡ false → IsAwaitedOrWaits (s.opened link) link run xid
awaited_by s link xid run a off =
    let none = none_settles s link xid run off in
    record { asked = a.0; is_asked = a.1; own = a.2; first = none_completed link xid run none.0; kept = none.1 }

pub open_is_awaited : (s : Setting) (link : ℕ) (d : Drill) → KnowsCalls s (client_of s link) link d.marks → OpenIsAwaited s link d
unfolding answer_of_line
open_is_awaited s link d knows number xid e = by (answer_of_line s (client_of s link) number d.marks) refl e
  where
    run : List Mark
    run = d.marks

    opened_xid : (x : ℕ) → Contains (flat_map (answer_at s (client_of s link)) run) (submissions.Accepted x) → is_open s link x run ≡ true → IsAwaitedOrWaits (s.opened link) link run x
    opened_xid x found is =
        let parts = open_parts (is_dropped link run) (list_any (settles s (client_of s link) x) run) (is_none (client (s.opened link) link run).ended) is in
        awaited_by s link x run (knows x found parts.1) parts.1

    by : (answer : Option Submission) → answer_of_line s (client_of s link) number run ≡ answer → open_xid s link run answer ≡ Some xid → IsAwaitedOrWaits (s.opened link) link run xid
    by (Some (submissions.Accepted x)) is e = by_open (is_open s link x run) refl e
      where
        by_open : (b : Bool) → is_open s link x run ≡ b → cond b (Some x) None ≡ Some xid → IsAwaitedOrWaits (s.opened link) link run xid
        by_open true so e =
            subst (IsAwaitedOrWaits (s.opened link) link run) (ap (λ (o : Option ℕ). unwrap_or o xid) e)
            (opened_xid x (got_in (flat_map (answer_at s (client_of s link)) run) (number - 1) (submissions.Accepted x) is) so)
        by_open false so e = absurd cc
    by (Some (submissions.Refused why)) is e = absurd cc
    by (Some submissions.Dropped) is e = absurd cc
    by None is e = absurd cc

-- ===== a call that a client was opened with waits, or was accepted

abbrev pub waits : List WaitingCall → ℕ → Bool
waits ws xid = list_any (λ (w : WaitingCall). eqb w.xid xid) ws

abbrev pub accepts : List AcceptedCall → ℕ → Bool
accepts calls xid = list_any (λ (a : AcceptedCall). eqb a.xid xid) calls

abbrev submits_xid : ℕ → RunEvent → Bool
submits_xid xid (CallSubmitted place a) = eqb a.xid xid
submits_xid xid event = false

waits_others : (ws : List WaitingCall) (x xid : ℕ) → waits ws xid ≡ true → (waits (others_than ws x) xid || eqb x xid) ≡ true
waits_others [] x xid h = absurd cc
waits_others (w ∷ ws) x xid h = by (eqb w.xid x) refl
  where
    by : (b : Bool) → eqb w.xid x ≡ b → (waits (cond b ws (w ∷ ws)) xid || eqb x xid) ≡ true
    by true is = first (eqb w.xid xid) refl h
      where
        first : (c : Bool) → eqb w.xid xid ≡ c → (c || waits ws xid) ≡ true → (waits ws xid || eqb x xid) ≡ true
        first true own h = or_right_lem (waits ws xid) (eqb x xid) (ap (λ (n : ℕ). eqb n xid) (sym (eqb-true w.xid x is)) ∙ own)
        first false own h = or_left_lem (waits ws xid) (eqb x xid) h
    by false is = or_left_lem (waits (w ∷ ws) xid) (eqb x xid) h

waits_revoked : (x : ℕ) (ws : List WaitingCall) (xid : ℕ) → waits (map (revoked_waiting x) ws) xid ≡ waits ws xid
waits_revoked x [] xid = refl
waits_revoked x (w ∷ ws) xid = λ i. eqb (same (eqb w.xid x) i) xid || waits_revoked x ws xid i
  where
    same : (b : Bool) → (cond b (record w { is_revoked = true }) w).xid ≡ w.xid
    same true = refl
    same false = refl

waits_event : (o : LinkParameters) (k : ClientState) (e : RunEvent) (xid : ℕ) → waits k.waiting xid ≡ true → (waits (client_state_after o k e).waiting xid || submits_xid xid e) ≡ true
unfolding client_state_after
waits_event o k (FrameReceived f) xid h = or_left_lem _ false (by (is_hello f))
  where
    by : (b : Bool) → waits (cond b (with_hello o k f) (with_segment k f (client_segment k f))).waiting xid ≡ true
    by true = h
    by false = ap (λ (ws : List WaitingCall). waits ws xid) (segment_waiting k f (client_segment k f)) ∙ h
waits_event o k (CallSubmitted place a) xid h = waits_others k.waiting a.xid xid h
waits_event o k (MemoryRevoked place x) xid h = or_left_lem _ false (waits_revoked x k.waiting xid ∙ h)
waits_event o k (CallExecuted call) xid h = or_left_lem _ false h
waits_event o k (QueueWritten taken) xid h = or_left_lem _ false h
waits_event o k (ServerTold what) xid h = or_left_lem _ false h

waits_next : (o : LinkParameters) (k : ClientState) (ended : Option End) (e : RunEvent) (xid : ℕ) → waits k.waiting xid ≡ true → (waits (next_end_state_in (client_rules o) k e ended).state.waiting xid || submits_xid xid e) ≡ true
waits_next o k (Some end) e xid h = or_left_lem (waits k.waiting xid) (submits_xid xid e) h
waits_next o k None e xid h = by (client_end k e)
  where
    by : (why : Option End) → (waits (next_end_state_by (client_rules o) k e why).state.waiting xid || submits_xid xid e) ≡ true
    by None = waits_event o k e xid h
    by (Some end) = or_left_lem (waits k.waiting xid) (submits_xid xid e) h

waits_all : (o : LinkParameters) (r : EndState ClientState) (es : List RunEvent) (xid : ℕ) → waits r.state.waiting xid ≡ true → (waits (end_state_after (client_rules o) r es).state.waiting xid || list_any (submits_xid xid) es) ≡ true
waits_all o r [] xid h = or_left_lem (waits r.state.waiting xid) false h
waits_all o r (e ∷ es) xid h = by (waits (next_end_state (client_rules o) r e).state.waiting xid) refl (submits_xid xid e) (waits_next o r.state r.ended e xid h) (waits_all o (next_end_state (client_rules o) r e) es xid)
  where
    next : EndState ClientState
    next = next_end_state (client_rules o) r e

    last : Bool
    last = waits (end_state_after (client_rules o) next es).state.waiting xid

    later : (a b c : Bool) → (a || c) ≡ true → (a || (b || c)) ≡ true
    later true b c e = refl
    later false true c e = refl
    later false false c e = e

    by : (a : Bool) → waits next.state.waiting xid ≡ a → (b : Bool) → (a || b) ≡ true → (waits next.state.waiting xid ≡ true → (last || list_any (submits_xid xid) es) ≡ true) → (last || (b || list_any (submits_xid xid) es)) ≡ true
    by true is b e rest = later last b (list_any (submits_xid xid) es) (rest is)
    by false is true e rest = or_right_lem last (true || list_any (submits_xid xid) es) refl
    by false is false e rest = absurd cc

-- what is submitted at a mark was accepted there
submits_frames : (xid : ℕ) (fs : List Frame) → list_any (submits_xid xid) (map FrameReceived fs) ≡ false
submits_frames xid [] = refl
submits_frames xid (f ∷ fs) = submits_frames xid fs

submits_if : (xid : ℕ) (b : Bool) (es : List RunEvent) → list_any (submits_xid xid) es ≡ false → list_any (submits_xid xid) (if_own b es) ≡ false
submits_if xid true es h = h
submits_if xid false es h = refl

submitted_accepted : (link xid : ℕ) (run : List Mark) (mark : Mark) → list_any (submits_xid xid) (events_at link Initiator run mark) ≡ accepts (accepted_at link mark) xid
submitted_accepted link xid run (marks.Submit l call form (submissions.Accepted x)) = by (eqb l link)
  where
    a : AcceptedCall
    a = record { xid = x; call = call; form = form }

    by : (b : Bool) → list_any (submits_xid xid) (if_own (b && true) (CallSubmitted (length (bytes_received link Initiator run)) a ∷ [])) ≡ accepts (cond b (a ∷ []) []) xid
    by true = refl
    by false = refl
submitted_accepted link xid run (marks.Submit l call form (submissions.Refused why)) = by (eqb l link)
  where
    by : (b : Bool) → false ≡ accepts (cond {A = List AcceptedCall} b [] []) xid
    by true = refl
    by false = refl
submitted_accepted link xid run (marks.Submit l call form submissions.Dropped) = by (eqb l link)
  where
    by : (b : Bool) → false ≡ accepts (cond {A = List AcceptedCall} b [] []) xid
    by true = refl
    by false = refl
submitted_accepted link xid run (marks.Wrote l side bytes) = submits_if xid _ (QueueWritten (length bytes) ∷ []) refl
submitted_accepted link xid run (marks.Fed l side bytes) = submits_if xid (eqb l link && same_side side Initiator) (map FrameReceived (frames_completed Responder (bytes_received link Initiator run) bytes)) (submits_frames xid (frames_completed Responder (bytes_received link Initiator run) bytes))
submitted_accepted link xid run (marks.Execute l x moment payload place reply) = submits_if xid _ (CallExecuted (record { xid = x; moment = moment; payload = payload; place = place; reply = reply }) ∷ []) refl
submitted_accepted link xid run (marks.Done l x outcome) = refl
submitted_accepted link xid run (marks.Lost l x) = refl
submitted_accepted link xid run (marks.Forget l x) = refl
submitted_accepted link xid run (marks.Revoke l x bytes) = submits_if xid _ (MemoryRevoked (length (bytes_received link Initiator run)) x ∷ []) refl
submitted_accepted link xid run (marks.Drop l) = refl
submitted_accepted link xid run (marks.Told l what) = submits_if xid _ (ServerTold what ∷ []) refl

abbrev pub IsWaitingOrAccepted : LinkParameters → ℕ → List Mark → ℕ → Type 0
IsWaitingOrAccepted o link run xid = (accepts (accepted_calls link run) xid || waits (client o link run).state.waiting xid) ≡ true

stays_one : (o : LinkParameters) (link : ℕ) (run : List Mark) (mark : Mark) (xid : ℕ) → IsWaitingOrAccepted o link run xid → IsWaitingOrAccepted o link (run ++ mark ∷ []) xid
stays_one o link run mark xid h = ap (λ (b : Bool). b || waits (client o link (run ++ mark ∷ [])).state.waiting xid) more ∙ by (accepts (accepted_calls link run) xid) refl h
  where
    new : Bool
    new = accepts (accepted_at link mark) xid

    after : Bool
    after = waits (client o link (run ++ mark ∷ [])).state.waiting xid

    more : accepts (accepted_calls link (run ++ mark ∷ [])) xid ≡ (accepts (accepted_calls link run) xid || new)
    more = ap (λ (calls : List AcceptedCall). accepts calls xid) (accepted_one link run mark) ∙ any_append (λ (a : AcceptedCall). eqb a.xid xid) (accepted_calls link run) (accepted_at link mark)

    turned : (a b : Bool) → (a || b) ≡ true → (b || a) ≡ true
    turned true true e = refl
    turned true false e = refl
    turned false true e = refl
    turned false false e = e

    by : (b : Bool) → accepts (accepted_calls link run) xid ≡ b → (b || waits (client o link run).state.waiting xid) ≡ true → ((accepts (accepted_calls link run) xid || new) || after) ≡ true
    by true is h = or_left_lem (accepts (accepted_calls link run) xid || new) after (or_left_lem (accepts (accepted_calls link run) xid) new is)
    by false is h =
        let all = waits_all o (client o link run) (events_at link Initiator run mark) xid h in
        let now : (after || new) ≡ true = (λ i. waits (client_one o link run mark i).state.waiting xid || sym (submitted_accepted link xid run mark) i) ∙ all in
        ap (λ (b : Bool). (b || new) || after) is ∙ turned after new now

stays_from : (o : LinkParameters) (link : ℕ) (before run : List Mark) (xid : ℕ) → IsWaitingOrAccepted o link before xid → IsWaitingOrAccepted o link (before ++ run) xid
stays_from o link before [] xid h = subst (λ (all : List Mark). IsWaitingOrAccepted o link all xid) (sym (append-nil before)) h
stays_from o link before (mark ∷ run) xid h =
    subst (λ (all : List Mark). IsWaitingOrAccepted o link all xid) (append_assoc before (mark ∷ []) run) (stays_from o link (before ++ mark ∷ []) run xid (stays_one o link before mark xid h))

resumed_waits : (stag : ℕ) (rs : List ResumedCall) (xid : ℕ) → accepts (map as_accepted rs) xid ≡ true → waits (waiting_from stag rs) xid ≡ true
resumed_waits stag [] xid h = absurd cc
resumed_waits stag (r ∷ rs) xid h = by (eqb r.xid xid) h (resumed_waits (stag + regions_needed r.plan) rs xid)
  where
    by : (b : Bool) → (b || accepts (map as_accepted rs) xid) ≡ true → (accepts (map as_accepted rs) xid ≡ true → waits (waiting_from (stag + regions_needed r.plan) rs) xid ≡ true) →
        (b || waits (waiting_from (stag + regions_needed r.plan) rs) xid) ≡ true
    by true h later = refl
    by false h later = later h

first_waits : (o : LinkParameters) (link xid : ℕ) → accepts (map as_accepted o.resumed) xid ≡ true → IsWaitingOrAccepted o link [] xid
unfolding client events accepted_calls
first_waits o link xid h = resumed_waits o.first_stag o.resumed xid h

-- so each call of the client waits, or was accepted
pub waits_or_accepted : (o : LinkParameters) (link : ℕ) (run : List Mark) (xid : ℕ) → HasCall o link run xid → IsWaitingOrAccepted o link run xid
waits_or_accepted o link run xid h = by (Contains-append_cases (map as_accepted o.resumed) (accepted_calls link run) h.0 h.1)
  where
    own : eqb h.0.xid xid ≡ true
    own = eq-eqb h.0.xid xid h.2

    by : Contains (map as_accepted o.resumed) h.0 ⊎ Contains (accepted_calls link run) h.0 → IsWaitingOrAccepted o link run xid
    by (inl resumed) = stays_from o link [] run xid (first_waits o link xid (passes_any (λ (a : AcceptedCall). eqb a.xid xid) (map as_accepted o.resumed) h.0 resumed own))
    by (inr accepted) =
        or_left_lem (accepts (accepted_calls link run) xid) (waits (client o link run).state.waiting xid) (passes_any (λ (a : AcceptedCall). eqb a.xid xid) (accepted_calls link run) h.0 accepted own)

-- ===== no outcome that came is left

-- a call that waits is none below the one that is sent next
waits_from : (first next : ℕ) (ws : List WaitingCall) (xid : ℕ) → AreFit first next ws → waits ws xid ≡ true → first_xid_or next ws ≤ xid
waits_from first next [] xid h e = absurd cc
waits_from first next (w ∷ ws) xid h e = by (eqb w.xid xid) refl e (waits_from first next ws xid h.1.1)
  where
    by : (b : Bool) → eqb w.xid xid ≡ b → (b || waits ws xid) ≡ true → (waits ws xid ≡ true → first_xid_or next ws ≤ xid) → w.xid ≤ xid
    by true is e later = (let same = eqb-true w.xid xid is in omega (arith, same))
    by false is e later = (let rises = h.1.0 in let rest = later e in omega (arith, rises, rest))

came_before : (n xid : ℕ) (cs : List CompletedCall) → AreAtMost (λ (c : CompletedCall). c.xid + 1) n cs → list_any (λ (c : CompletedCall). eqb c.xid xid) cs ≡ true → xid < n
came_before n xid [] h e = absurd cc
came_before n xid (c ∷ cs) h e = by (eqb c.xid xid) refl e (came_before n xid cs h.1)
  where
    by : (b : Bool) → eqb c.xid xid ≡ b → (b || list_any (λ (x : CompletedCall). eqb x.xid xid) cs) ≡ true → (list_any (λ (x : CompletedCall). eqb x.xid xid) cs ≡ true → xid < n) → xid < n
    by true is e later = (let same = eqb-true c.xid xid is in let low = h.0 in omega (arith, same, low))
    by false is e later = later e

pub found : {X : Type 0} (p : X → Bool) (xs : List X) → list_any p xs ≡ true → (x : X) × Contains xs x × (p x ≡ true)
found p [] e = absurd cc
found {X = X} p (x ∷ xs) e = by (p x) refl e (found p xs)
  where
    by : (b : Bool) → p x ≡ b → (b || list_any p xs) ≡ true → (list_any p xs ≡ true → (y : X) × Contains xs y × (p y ≡ true)) → (y : X) × Contains (x ∷ xs) y × (p y ≡ true)
    by true is e later = (x, here x xs x refl, is)
    by false is e later = (let f = later e in (f.0, there x xs f.0 f.1, f.2))

kept_in : {X : Type 0} (p : X → Bool) (xs : List X) (x : X) → Contains xs x → p x ≡ true → Contains (filter p xs) x
kept_in p [] x h is = none_in {W = Contains [] x} x h
kept_in {X = X} p (y ∷ xs) x h is = by (Contains-append_cases (y ∷ []) xs x h) (p y) refl (λ later. kept_in p xs x later is)
  where
    by : Contains (y ∷ []) x ⊎ Contains xs x → (b : Bool) → p y ≡ b → (Contains xs x → Contains (filter p xs) x) → Contains (cond b (y ∷ filter p xs) (filter p xs)) x
    by (inl first) true e rest = here y (filter p xs) x (one_in y x first)
    by (inl first) false e rest = absurd (let wrong : true ≡ false = sym is ∙ ap p (sym (one_in y x first)) ∙ e in cc)
    by (inr later) true e rest = there y (filter p xs) x (rest later)
    by (inr later) false e rest = rest later

flat_in : {X A : Type 0} (f : X → List A) (xs : List X) (x : X) (a : A) → Contains xs x → Contains (f x) a → Contains (flat_map f xs) a
flat_in f [] x a h is = none_in {W = Contains [] a} x h
flat_in {X = X} {A = A} f (y ∷ xs) x a h is = by (Contains-append_cases (y ∷ []) xs x h) (λ later. flat_in f xs x a later is)
  where
    by : Contains (y ∷ []) x ⊎ Contains xs x → (Contains xs x → Contains (flat_map f xs) a) → Contains (f y ++ flat_map f xs) a
    by (inl first) rest = Contains-append_left (f y) (flat_map f xs) a (subst (λ (z : X). Contains (f z) a) (sym (one_in y x first)) is)
    by (inr later) rest = Contains-append_right (f y) (flat_map f xs) a (rest later)

-- an accepted call whose outcome came, and wasn't handed over, has it due unless it was given up
pub some_due : (o : LinkParameters) (link : ℕ) (run : List Mark) (xid : ℕ) → accepts (accepted_calls link run) xid ≡ true → list_any (λ (c : CompletedCall). eqb c.xid xid) (client o link run).state.outcomes ≡ true →
    is_completed link xid run ≡ false → is_abandoned link xid run ≡ false → NoneDue o link run → ⊥
unfolding outcomes_due
some_due o link run xid accepted came first kept none =
    let outs = (client o link run).state.outcomes in
    let a = found (λ (x : AcceptedCall). eqb x.xid xid) (accepted_calls link run) accepted in
    let c = found (λ (x : CompletedCall). eqb x.xid xid) outs came in
    let same : eqb c.0.xid a.0.xid ≡ true = eq-eqb c.0.xid a.0.xid (eqb-true c.0.xid xid c.2 ∙ sym (eqb-true a.0.xid xid a.2)) in
    let all = flat_in (outcomes_of_call outs) (accepted_calls link run) a.0 c.0 a.1 (kept_in (λ (x : CompletedCall). eqb x.xid a.0.xid) outs c.0 c.1 same) in
    let open_still : not (is_abandoned link c.0.xid run || is_completed link c.0.xid run) ≡ true =
    ap (λ (n : ℕ). not (is_abandoned link n run || is_completed link n run)) (eqb-true c.0.xid xid c.2) ∙ (λ i. not (kept i || first i)) in
    none_in {W = ⊥} c.0 (subst (λ (cs : List CompletedCall). Contains cs c.0) none
    (kept_in (λ (x : CompletedCall). not (is_abandoned link x.xid run || is_completed link x.xid run)) (flat_map (outcomes_of_call outs) (accepted_calls link run)) c.0 all open_still))

-- ===== a client leaves its link

as_call : (rs : List ResumedCall) (r : ResumedCall) → Contains rs r → Contains (map as_accepted rs) (as_accepted r)
as_call [] r h = none_in {W = Contains [] (as_accepted r)} r h
as_call (x ∷ rs) r h = cases (Contains-append_cases (x ∷ []) rs r h) (as_call rs r)
  where
    cases : Contains (x ∷ []) r ⊎ Contains rs r → (Contains rs r → Contains (map as_accepted rs) (as_accepted r)) → Contains (as_accepted x ∷ map as_accepted rs) (as_accepted r)
    cases (inl one) later = here (as_accepted x) (map as_accepted rs) (as_accepted r) (ap as_accepted (one_in x r one))
    cases (inr more) later = there (as_accepted x) (map as_accepted rs) (as_accepted r) (later more)

-- the next link knows each call that the link knew, of those that are open
pub kept_call : (o : LinkParameters) (link next : ℕ) (run later : List Mark) (xid : ℕ) → IsOpened o → IsLawful o link run → NoneDue o link run → (client o link run).ended ≡ None →
    is_completed link xid run ≡ false → is_abandoned link xid run ≡ false → HasCall o link run xid → HasCall (reopened o link run) next later xid
kept_call o link next run later xid numbers lawful none stays first kept h =
    by outcome refl (no_call_is_left_over o link run xid stays kept (passes_any (λ (a : AcceptedCall). eqb a.xid xid) (map as_accepted o.resumed ++ accepted_calls link run) h.0 h.1 (eq-eqb h.0.xid xid h.2)))
  where
    k : ClientState
    k = (client o link run).state

    known : IsWaitingOrAccepted o link run xid
    known = waits_or_accepted o link run xid h

    outcome : Bool
    outcome = list_any (λ (c : CompletedCall). eqb c.xid xid) k.outcomes

    by_known : (b : Bool) → accepts (accepted_calls link run) xid ≡ b → (b || waits k.waiting xid) ≡ true → outcome ≡ true → ⊥
    by_known true is e came = some_due o link run xid is came first kept none
    by_known false is e came =
        let high = waits_from o.first_xid k.next_xid k.waiting xid (waiting_fit o link run numbers) e in
        let low = came_before (next_sent_xid k) xid k.outcomes (xids_below o link run lawful.asked).brought came in
        omega (arith, high, low)

    by : (b : Bool) → outcome ≡ b → (b || list_any (λ (r : ResumedCall). eqb r.xid xid) (reopened o link run).resumed) ≡ true → HasCall (reopened o link run) next later xid
    by true came e = absurd (by_known (accepts (accepted_calls link run) xid) refl known came)
    by false came e =
        let r = found (λ (x : ResumedCall). eqb x.xid xid) (reopened o link run).resumed e in
        (as_accepted r.0, Contains-append_left (map as_accepted (reopened o link run).resumed) (accepted_calls next later) (as_accepted r.0) (as_call (reopened o link run).resumed r.0 r.1), eqb-true r.0.xid xid r.2)

-- the answers and what settles calls are the same under settings that say the same of the links of the marks
abbrev pub SameOn : (s t : Setting) → List Mark → Type 0
SameOn s t run = AllByRecursion (λ (mark : Mark). t.opened (link_of mark) ≡ s.opened (link_of mark)) run

same_client : (s t : Setting) (link : ℕ) → t.opened link ≡ s.opened link → client_of t link ≡ client_of s link
same_client s t link is = ap (λ (o : LinkParameters). if o.client.number == 0 then link else o.client.number) is

same_again : (s t : Setting) (link : ℕ) (answer : Submission) → t.opened link ≡ s.opened link → is_sent_again t link answer ≡ is_sent_again s link answer
same_again s t link (submissions.Accepted xid) is = ap (λ (o : LinkParameters). nat_lt xid o.first_xid) is
same_again s t link (submissions.Refused why) is = refl
same_again s t link submissions.Dropped is = refl

same_answer : (s t : Setting) (client : ℕ) (mark : Mark) → t.opened (link_of mark) ≡ s.opened (link_of mark) → answer_at t client mark ≡ answer_at s client mark
same_answer s t client (marks.Submit l call form answer) is =
    λ i. if same_client s t l is i == client && not (same_again s t l answer is i) then answer ∷ [] else []
same_answer s t client (marks.Wrote l side bytes) is = refl
same_answer s t client (marks.Fed l side bytes) is = refl
same_answer s t client (marks.Execute l x moment payload place reply) is = refl
same_answer s t client (marks.Done l x outcome) is = refl
same_answer s t client (marks.Lost l x) is = refl
same_answer s t client (marks.Forget l x) is = refl
same_answer s t client (marks.Revoke l x bytes) is = refl
same_answer s t client (marks.Drop l) is = refl
same_answer s t client (marks.Told l what) is = refl

same_settles : (s t : Setting) (client xid : ℕ) (mark : Mark) → t.opened (link_of mark) ≡ s.opened (link_of mark) → settles t client xid mark ≡ settles s client xid mark
same_settles s t client xid (marks.Done l x outcome) is = ap (λ (c : ℕ). c == client && x == xid) (same_client s t l is)
same_settles s t client xid (marks.Forget l x) is = ap (λ (c : ℕ). c == client && x == xid) (same_client s t l is)
same_settles s t client xid (marks.Revoke l x bytes) is = ap (λ (c : ℕ). c == client && x == xid) (same_client s t l is)
same_settles s t client xid (marks.Lost l x) is = ap (λ (c : ℕ). c == client && x == xid) (same_client s t l is)
same_settles s t client xid (marks.Submit l call form answer) is = refl
same_settles s t client xid (marks.Wrote l side bytes) is = refl
same_settles s t client xid (marks.Fed l side bytes) is = refl
same_settles s t client xid (marks.Execute l x moment payload place reply) is = refl
same_settles s t client xid (marks.Drop l) is = refl
same_settles s t client xid (marks.Told l what) is = refl

pub same_answers : (s t : Setting) (client : ℕ) (run : List Mark) → SameOn s t run → flat_map (answer_at t client) run ≡ flat_map (answer_at s client) run
same_answers s t client [] is = refl
same_answers s t client (mark ∷ run) is = λ i. same_answer s t client mark is.0 i ++ same_answers s t client run is.1 i

pub same_settled : (s t : Setting) (client xid : ℕ) (run : List Mark) → SameOn s t run → list_any (settles t client xid) run ≡ list_any (settles s client xid) run
same_settled s t client xid [] is = refl
same_settled s t client xid (mark ∷ run) is = λ i. same_settles s t client xid mark is.0 i || same_settled s t client xid run is.1 i

-- a link that another setting says the same of
pub knows_same : (s t : Setting) (client link : ℕ) (run : List Mark) → SameOn s t run → t.opened link ≡ s.opened link → KnowsCalls s client link run → KnowsCalls t client link run
knows_same s t client link run is own knows xid h none =
    subst (λ (o : LinkParameters). HasCall o link run xid) (sym own)
    (knows xid (subst (λ (answers : List Submission). Contains answers (submissions.Accepted xid)) (same_answers s t client run is) h) (sym (same_settled s t client xid run is) ∙ none))

-- the next link of a client knows the client's calls
pub knows_next : (s t : Setting) (link next : ℕ) (run : List Mark) → SameOn s t run → t.opened next ≡ reopened (s.opened link) link run → IsOpened (s.opened link) → IsLawful (s.opened link) link run → NoneDue (s.opened link) link run →
    (client (s.opened link) link run).ended ≡ None → KnowsCalls s (client_of s link) link run → KnowsCalls t (client_of s link) next run
knows_next s t link next run is own numbers lawful none stays knows xid h off =
    let c = client_of s link in
    let here_off : list_any (settles s c xid) run ≡ false = sym (same_settled s t c xid run is) ∙ off in
    let settled = none_settles s link xid run here_off in
    subst (λ (o : LinkParameters). HasCall o next run xid) (sym own)
    (kept_call (s.opened link) link next run run xid numbers lawful none stays settled.0 settled.1
    (knows xid (subst (λ (answers : List Submission). Contains answers (submissions.Accepted xid)) (same_answers s t c run is) h) here_off))
