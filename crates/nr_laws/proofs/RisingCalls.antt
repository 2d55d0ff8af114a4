-- The xids of the calls that a client has rise, from its outstanding ones over those that wait to be sent again to the next new one; and a call whose
-- outcome came is neither.
use Rattle.std.proofs.Common.{◌≡◌, ◌≢◌, ℕ, ◌+◌, ◌≤◌, ◌<◌, Bool, true, false, not, cond, eqb, eqb-true, List, [], ◌∷◌, ◌++◌, map, Option, None, Some, Result, Ok, Err, refl, sym, ap, subst, ◌∙◌, arith, append_assoc, append-nil, ◌⊎◌, inl, inr}
use Rattle.std.specs.Prelude.{Contains}
use Rattle.std.specs.List.{AllByRecursion, filter, find}
use Rattle.std.proofs.lemmas.Bool.{eq-eqb}
use Rattle.std.proofs.lemmas.List.{map-append}
use Rattle.std.proofs.lemmas.List.Elements.{All-contains, All-from_recursion}
use Rattle.nr_xdr.specs.Fields.{word_at}
use Rattle.nr_wire.specs.declared.hello.Side.TheVariants.{Initiator}
use Rattle.nr_wire.specs.Segment.{Segment}
use Rattle.nr_link.specs.declared.agreement.Agreement.{Agreement}
use Rattle.nr_link.specs.declared.end.End.{End as Stop}
use Rattle.nr_link.specs.Frames.{Frame, is_hello}
use Rattle.nr_link.specs.ReceiveState.{ReadRequest, message_completed, read_request_of}
use Rattle.nr_reduce.specs.declared.call.Outcome.{Outcome}
use Rattle.nr_reduce.specs.declared.mark.LinkParameters.{LinkParameters}
use Rattle.nr_reduce.specs.declared.mark.Mark.{Mark}
use Rattle.nr_reduce.specs.declared.mark.ResumedCall.{ResumedCall}
use Rattle.nr_reduce.specs.Limits.{numbers_end}
use Rattle.nr_reduce.specs.Plans.{regions_needed}
use Rattle.nr_reduce.specs.History.{AcceptedCall, CompletedCall, accepted_calls}
use Rattle.nr_reduce.specs.Events.{RunEvent, events}
use Rattle.nr_reduce.specs.Events.RunEvent.{FrameReceived, CallSubmitted, MemoryRevoked, CallExecuted, QueueWritten, ServerTold}
use Rattle.nr_reduce.specs.EndRules.{EndState, end_state_after, next_end_state_by, next_end_state_in}
use Rattle.nr_reduce.specs.ClientState.{ClientState, OutstandingCall, WaitingCall, first_of, others_than, waiting_from}
use Rattle.nr_reduce.specs.ClientMessages.{ReplyVerdict, reply_verdict, answered_call}
use Rattle.nr_reduce.specs.ClientMessages.ReplyVerdict.{EndsLink, GivesOutcome}
use Rattle.nr_reduce.specs.Client.{client_segment, client_rules, client_end, client_state_after, due_with_response, initial_client, outcomes_of, outstanding_of, revoked_call, revoked_waiting, with_hello, with_message, with_request, with_segment, xid_unless_waiting}
use Rattle.nr_reduce.specs.Run.{client}
use Rattle.nr_reduce.specs.SubmitAnswer.{first_xid_or, next_sent_xid}
use Rattle.nr_reduce.specs.Asked.{AskedSoFar}
use Rattle.nr_reduce.specs.Opening.{IsOpened, AreResumed, lengths_before}
use Rattle.nr_reduce.proofs.Placing.{segment_next, segment_waiting, submit_rises, sent_after, revoked_first}
use Rattle.nr_reduce.proofs.Steps.{end_state_after_append}
use Rattle.nr_reduce.proofs.XidsFollow.{xids_waiting}
use Rattle.nr_laws.specs.Typed.{IsTyped}
use Rattle.nr_laws.proofs.AcceptedEvents.{accepted_events}
use Rattle.nr_laws.proofs.Basics.{each_all, each_append, each_kept}
use Rattle.nr_laws.proofs.ClientRun.{client_goes}
use Rattle.nr_laws.proofs.ClientSays.{ClientGood, IsGoodCall, accepted_in, accepted_append}
use Rattle.nr_laws.proofs.DoneCalls.{GivesBy, gives_by, verdict_xid}
use Rattle.nr_laws.proofs.EventOutputs.{GoesOn, along, later_preserve, places_after}
use Rattle.nr_laws.proofs.Following.{events_more}
use Rattle.nr_laws.proofs.OwnXids.{segment_out}

-- ---- Xids that rise, from one on to the next new one

abbrev pub IsRising : (first : ℕ) → List ℕ → (next : ℕ) → Type 0
IsRising first [] next = first ≤ next
IsRising first (x ∷ xs) next = (first ≤ x) × IsRising (x + 1) xs next

pub rising_from : (first least next : ℕ) (xs : List ℕ) → least ≤ first → IsRising first xs next → IsRising least xs next
rising_from first least next [] le h = omega (arith, le, h)
rising_from first least next (x ∷ xs) le h = ((let lt = h.0 in omega (arith, le, lt)), h.1)

-- the next new xid is above all of them
pub rising_to : (first next : ℕ) (xs : List ℕ) → IsRising first xs next → first ≤ next
rising_to first next [] h = h
rising_to first next (x ∷ xs) h = (let rest = rising_to (x + 1) next xs h.1 in let lt = h.0 in omega (arith, rest, lt))

abbrev pub xids_out : List OutstandingCall → List ℕ
xids_out os = map (λ (o : OutstandingCall). o.xid) os

rising_kept : (first next : ℕ) (p : OutstandingCall → Bool) (os : List OutstandingCall) (ys : List ℕ) → IsRising first (xids_out os ++ ys) next → IsRising first (xids_out (filter p os) ++ ys) next
rising_kept first next p [] ys h = h
rising_kept first next p (o ∷ os) ys h = by (p o) (rising_kept (o.xid + 1) next p os ys h.1)
  where
    by : (b : Bool) → IsRising (o.xid + 1) (xids_out (filter p os) ++ ys) next → IsRising first (xids_out (cond b (o ∷ filter p os) (filter p os)) ++ ys) next
    by true rest = (h.0, rest)
    by false rest = (let lt = h.0 in rising_from (o.xid + 1) first next (xids_out (filter p os) ++ ys) (omega (arith, lt)) rest)

-- a new call has the next new xid
rising_new : (first next : ℕ) (xs : List ℕ) → IsRising first xs next → IsRising first (xs ++ next ∷ []) (next + 1)
rising_new first next [] h = (h, omega arith)
rising_new first next (x ∷ xs) h = (h.0, rising_new (x + 1) next xs h.1)

xids_revoked : (xid : ℕ) (os : List OutstandingCall) → xids_out (map (revoked_call xid) os) ≡ xids_out os
xids_revoked xid [] = refl
xids_revoked xid (o ∷ os) = λ i. by (eqb o.xid xid) i ∷ xids_revoked xid os i
  where
    by : (b : Bool) → (cond b (record o { is_revoked = true }) o).xid ≡ o.xid
    by true = refl
    by false = refl

revoked_xids : (xid : ℕ) (ws : List WaitingCall) → xids_waiting (map (revoked_waiting xid) ws) ≡ xids_waiting ws
revoked_xids xid [] = refl
revoked_xids xid (w ∷ ws) = λ i. by (eqb w.xid xid) i ∷ revoked_xids xid ws i
  where
    by : (b : Bool) → (cond b (record w { is_revoked = true }) w).xid ≡ w.xid
    by true = refl
    by false = refl

abbrev pub all_xids : ClientState → List ℕ
all_xids k = xids_out k.outstanding ++ xids_waiting k.waiting

rising_first : (agreed : Agreement) (first stag next : ℕ) (rs : List ResumedCall) → AreResumed agreed first rs next → IsRising first (xids_waiting (waiting_from stag rs)) next
rising_first agreed first stag next [] h = h
rising_first agreed first stag next (r ∷ rs) h = (h.0, rising_first agreed (r.xid + 1) (stag + regions_needed r.plan) next rs h.1.1)

-- the call that is sent next is the first that waits, or a new one
rising_submit : (next xid : ℕ) (os : List OutstandingCall) (o : OutstandingCall) (ws : List WaitingCall) → o.xid ≡ xid → xid ≡ first_xid_or next ws → IsRising 1 (xids_out os ++ xids_waiting ws) next
    → IsRising 1 (xids_out (os ++ o ∷ []) ++ xids_waiting (others_than ws xid)) (xid_unless_waiting (first_of ws xid) next)
rising_submit next xid os o [] own is h =
    subst (λ (xs : List ℕ). IsRising 1 xs (next + 1)) (sym (append-nil (xids_out (os ++ o ∷ [])) ∙ map-append (λ (x : OutstandingCall). x.xid) os (o ∷ []) ∙ ap (λ (x : ℕ). xids_out os ++ x ∷ []) (own ∙ is)))
    (rising_new 1 next (xids_out os) (subst (λ (xs : List ℕ). IsRising 1 xs next) (append-nil (xids_out os)) h))
rising_submit next xid os o (w ∷ ws) own is h = by (eqb w.xid xid) (eq-eqb w.xid xid (sym is))
  where
    same : xids_out (os ++ o ∷ []) ++ xids_waiting ws ≡ xids_out os ++ w.xid ∷ xids_waiting ws
    same = ap (λ (xs : List ℕ). xs ++ xids_waiting ws) (map-append (λ (x : OutstandingCall). x.xid) os (o ∷ []))
        ∙ append_assoc (xids_out os) (o.xid ∷ []) (xids_waiting ws) ∙ ap (λ (x : ℕ). xids_out os ++ x ∷ xids_waiting ws) (own ∙ is)

    by : (b : Bool) → b ≡ true → IsRising 1 (xids_out (os ++ o ∷ []) ++ xids_waiting (cond b ws (w ∷ ws))) (xid_unless_waiting (cond b (Some w) None) next)
    by true e = subst (λ (xs : List ℕ). IsRising 1 xs next) (sym same) h
    by false e = absurd cc

-- ---- The call of an xid among those that were accepted

abbrev pub call_under : ℕ → List AcceptedCall → Option AcceptedCall
call_under xid calls = find (λ (a : AcceptedCall). eqb a.xid xid) calls

pub under_more : (xid : ℕ) (calls more : List AcceptedCall) (a : AcceptedCall) → call_under xid calls ≡ Some a → call_under xid (calls ++ more) ≡ Some a
under_more xid [] more a e = absurd cc
under_more xid (x ∷ calls) more a e = by (eqb x.xid xid) e (under_more xid calls more a)
  where
    by : (b : Bool) → cond b (Some x) (call_under xid calls) ≡ Some a → (call_under xid calls ≡ Some a → call_under xid (calls ++ more) ≡ Some a) → cond b (Some x) (call_under xid (calls ++ more)) ≡ Some a
    by true e later = e
    by false e later = later e

abbrev pub AreBelow : ℕ → List AcceptedCall → Type 0
AreBelow n calls = AllByRecursion (λ (a : AcceptedCall). a.xid < n) calls

pub under_new : (calls : List AcceptedCall) (a : AcceptedCall) → AreBelow a.xid calls → call_under a.xid (calls ++ a ∷ []) ≡ Some a
under_new [] a h = by (eqb a.xid a.xid) (eq-eqb a.xid a.xid refl)
  where
    by : (b : Bool) → b ≡ true → cond b (Some a) None ≡ Some a
    by true e = refl
    by false e = absurd cc
under_new (x ∷ calls) a h = by (eqb x.xid a.xid) refl (under_new calls a h.1)
  where
    by : (b : Bool) → eqb x.xid a.xid ≡ b → call_under a.xid (calls ++ a ∷ []) ≡ Some a → cond b (Some x) (call_under a.xid (calls ++ a ∷ [])) ≡ Some a
    by true e rest = absurd (let same = eqb-true x.xid a.xid e in let lt = h.0 in omega (arith, same, lt))
    by false e rest = rest

-- ---- Calls whose outcome came

-- an outstanding call is below the one that is sent next, and so below those that wait
rising_out : (first next : ℕ) (os : List OutstandingCall) (ws : List WaitingCall) → IsRising first (xids_out os ++ xids_waiting ws) next → AllByRecursion (λ (o : OutstandingCall). o.xid < first_xid_or next ws) os
rising_out first next [] ws h = tt
rising_out first next (o ∷ os) ws h = (by ws (front (o.xid + 1) os h.1), rising_out (o.xid + 1) next os ws h.1)
  where
    front : (n : ℕ) (xs : List OutstandingCall) → IsRising n (xids_out xs ++ xids_waiting ws) next → IsRising n (xids_waiting ws) next
    front n [] rest = rest
    front n (x ∷ xs) rest = (let le = rest.0 in rising_from (x.xid + 1) n next (xids_waiting ws) (omega (arith, le)) (front (x.xid + 1) xs rest.1))

    by : (vs : List WaitingCall) → IsRising (o.xid + 1) (xids_waiting vs) next → o.xid < first_xid_or next vs
    by [] rest = omega (arith, rest)
    by (v ∷ vs) rest = (let le = rest.0 in omega (arith, le))

-- those that wait aren't below it
rising_waits : (first next : ℕ) (ws : List WaitingCall) → IsRising first (xids_waiting ws) next → AllByRecursion (λ (w : WaitingCall). first ≤ w.xid) ws
rising_waits first next [] h = tt
rising_waits first next (w ∷ ws) h =
    (h.0, (let le = h.0 in each_all (λ (v : WaitingCall). w.xid + 1 ≤ v.xid) (λ (v : WaitingCall). first ≤ v.xid) ws (λ v more. omega (arith, le, more)) (rising_waits (w.xid + 1) next ws h.1)))

-- its xid is below the one that is sent next, and no outstanding call has it
abbrev pub IsGone : List OutstandingCall → (next : ℕ) → (xid : ℕ) → Type 0
IsGone os next xid = (xid < next) × AllByRecursion (λ (o : OutstandingCall). o.xid ≢ xid) os

abbrev AreGone : List OutstandingCall → (next : ℕ) → List CompletedCall → Type 0
AreGone os next outcomes = AllByRecursion (λ (c : CompletedCall). IsGone os next c.xid) outcomes

gone_kept : (next : ℕ) (p : OutstandingCall → Bool) (os : List OutstandingCall) (outcomes : List CompletedCall) → AreGone os next outcomes → AreGone (filter p os) next outcomes
gone_kept next p os outcomes h = each_all (λ (c : CompletedCall). IsGone os next c.xid) (λ (c : CompletedCall). IsGone (filter p os) next c.xid) outcomes (λ c g. (g.0, each_kept (λ (o : OutstandingCall). o.xid ≢ c.xid) p os g.1)) h

-- a call that is found is one of them
found_below : (next xid : ℕ) (p : OutstandingCall → Bool) (os : List OutstandingCall) (o : OutstandingCall) → AllByRecursion (λ (x : OutstandingCall). x.xid < next) os → find p os ≡ Some o → o.xid < next
found_below next xid p [] o h e = absurd cc
found_below next xid p (x ∷ os) o h e = by (p x) e (found_below next xid p os o h.1)
  where
    by : (b : Bool) → cond b (Some x) (find p os) ≡ Some o → (find p os ≡ Some o → o.xid < next) → o.xid < next
    by true is later = (let same : x ≡ o = cc in subst (λ (y : OutstandingCall). y.xid < next) same h.0)
    by false is later = later is

left_apart : (xid : ℕ) (os : List OutstandingCall) → AllByRecursion (λ (o : OutstandingCall). o.xid ≢ xid) (filter (λ o. not (eqb o.xid xid)) os)
left_apart xid [] = tt
left_apart xid (o ∷ os) = by (eqb o.xid xid) refl (left_apart xid os)
  where
    others : List OutstandingCall
    others = filter (λ x. not (eqb x.xid xid)) os

    by : (b : Bool) → eqb o.xid xid ≡ b → AllByRecursion (λ (x : OutstandingCall). x.xid ≢ xid) others → AllByRecursion (λ (x : OutstandingCall). x.xid ≢ xid) (cond (not b) (o ∷ others) others)
    by true is rest = rest
    by false is rest = ((λ same. (let wrong : true ≡ false = sym (eq-eqb o.xid xid same) ∙ is in cc)), rest)

-- the outcome that a message gives
given_gone : (k : ClientState) (place next : ℕ) (m : List ℕ) (v : ReplyVerdict) → AllByRecursion (λ (o : OutstandingCall). o.xid < next) k.outstanding → reply_verdict k place m ≡ v
    → AreGone (filter (λ o. not (eqb o.xid (word_at 0 m))) k.outstanding) next (outcomes_of v)
given_gone k place next m (EndsLink reason) below is = tt
given_gone k place next m (GivesOutcome xid None) below is = tt
given_gone k place next m (GivesOutcome xid (Some outcome)) below is =
    let own : xid ≡ word_at 0 m = verdict_xid k place m xid (Some outcome) is in
    let by : GivesBy k place m xid (Some outcome) = gives_by k place m xid (Some outcome) is in
    let lt = found_below next xid _ k.outstanding by.call below by.is_call in
    let called = by.call_xid in
    let apart = left_apart (word_at 0 m) k.outstanding in
    ((omega (arith, lt, called), subst (λ (n : ℕ). AllByRecursion (λ (o : OutstandingCall). o.xid ≢ n) (filter (λ o. not (eqb o.xid (word_at 0 m))) k.outstanding)) (sym own) apart), tt)

-- ---- Along the events of a client

pub record RisesAt (accepted : List AcceptedCall) (k : ClientState) : Type 0 where
  pub rising : IsRising 1 (all_xids k) k.next_xid
  pub fits : k.next_xid ≤ numbers_end
  pub below : AreBelow (next_sent_xid k) accepted
  pub gone : AreGone k.outstanding (next_sent_xid k) k.outcomes

rises_message : (accepted : List AcceptedCall) (k : ClientState) (place : ℕ) (o : Option (List ℕ)) → RisesAt accepted k → RisesAt accepted (with_message k place o)
rises_message accepted k place None h = h
rises_message accepted k place (Some m) h = record {
  rising = rising_kept 1 k.next_xid (λ o. not (eqb o.xid (word_at 0 m))) k.outstanding (xids_waiting k.waiting) h.rising;
  fits = h.fits;
  below = h.below;
  gone =
      each_append (λ (c : CompletedCall). IsGone (filter (λ o. not (eqb o.xid (word_at 0 m))) k.outstanding) (next_sent_xid k) c.xid) k.outcomes (outcomes_of (reply_verdict k place m))
      (gone_kept (next_sent_xid k) (λ o. not (eqb o.xid (word_at 0 m))) k.outstanding k.outcomes h.gone)
      (given_gone k place (next_sent_xid k) m (reply_verdict k place m) (rising_out 1 k.next_xid k.outstanding k.waiting h.rising) refl);
}

rises_request : (accepted : List AcceptedCall) (k : ClientState) (due : ℕ) (o : Option ReadRequest) → RisesAt accepted k → RisesAt accepted (with_request k due o)
rises_request accepted k due None h = h
rises_request accepted k due (Some r) h = record { rising = h.rising; fits = h.fits; below = h.below; gone = h.gone }

pub rises_segment : (accepted : List AcceptedCall) (k : ClientState) (f : Frame) (r : Result Segment ℕ) → RisesAt accepted k → RisesAt accepted (with_segment k f r)
rises_segment accepted k f (Err reason) h = h
rises_segment accepted k f (Ok s) h =
    let m = rises_request accepted (with_message k f.end (message_completed k.received s)) (due_with_response k f s) (read_request_of s) (rises_message accepted k f.end (message_completed k.received s) h) in
    record { rising = m.rising; fits = m.fits; below = m.below; gone = m.gone }

pub rises_hello : (opened : LinkParameters) (accepted : List AcceptedCall) (k : ClientState) (f : Frame) → RisesAt accepted k → RisesAt accepted (with_hello opened k f)
rises_hello opened accepted k f h = record { rising = h.rising; fits = h.fits; below = h.below; gone = h.gone }

pub rises_call : (opened : LinkParameters) (accepted : List AcceptedCall) (p : ℕ) (k : ClientState) (a : AcceptedCall) (ended : Option Stop) → IsGoodCall opened (record { state = k; ended = ended }) a → RisesAt accepted k
    → RisesAt (accepted ++ a ∷ []) (client_state_after opened k (CallSubmitted p a))
unfolding client_state_after
rises_call opened accepted p k a ended good h = record {
  rising = rising_submit k.next_xid a.xid k.outstanding o k.waiting refl good.next h.rising;
  fits = fits k.waiting good.next;
  below =
      each_append (λ (x : AcceptedCall). x.xid < next) accepted (a ∷ [])
      (each_all (λ (x : AcceptedCall). x.xid < next_sent_xid k) (λ (x : AcceptedCall). x.xid < next) accepted (λ x lt. (let own = good.next in omega (arith, lt, own, rises))) h.below) (rises, tt);
  gone =
      each_all (λ (c : CompletedCall). IsGone k.outstanding (next_sent_xid k) c.xid) (λ (c : CompletedCall). IsGone (k.outstanding ++ o ∷ []) next c.xid) k.outcomes
      (λ c g. (let own = good.next in let lt = g.0 in
      (omega (arith, lt, own, rises), each_append (λ (x : OutstandingCall). x.xid ≢ c.xid) k.outstanding (o ∷ []) g.1 ((λ same. omega (arith, lt, own, same)), tt)))) h.gone;
}
  where
    o : OutstandingCall
    o = outstanding_of k a

    next : ℕ
    next = sent_after a.xid k.next_xid k.waiting

    rises : a.xid < next
    rises = submit_rises k.has_hello a.xid k.next_xid k.waiting a.call a.form good.next good.resent

    fits : (ws : List WaitingCall) → a.xid ≡ first_xid_or k.next_xid ws → xid_unless_waiting (first_of ws a.xid) k.next_xid ≤ numbers_end
    fits [] own = (let room = good.xids in omega (arith, own, room))
    fits (w ∷ ws) own = by (eqb w.xid a.xid) (eq-eqb w.xid a.xid (sym own))
      where
        by : (b : Bool) → b ≡ true → xid_unless_waiting (cond b (Some w) None) k.next_xid ≤ numbers_end
        by true e = h.fits
        by false e = absurd cc

revoked_apart : (xid n : ℕ) (os : List OutstandingCall) → AllByRecursion (λ (o : OutstandingCall). o.xid ≢ n) os → AllByRecursion (λ (o : OutstandingCall). o.xid ≢ n) (map (revoked_call xid) os)
revoked_apart xid n [] h = tt
revoked_apart xid n (o ∷ os) h = (by (eqb o.xid xid), revoked_apart xid n os h.1)
  where
    by : (b : Bool) → (cond b (record o { is_revoked = true }) o).xid ≢ n
    by true = h.0
    by false = h.0

revoked_gone : (xid next : ℕ) (os : List OutstandingCall) (outcomes : List CompletedCall) → AreGone os next outcomes → AreGone (map (revoked_call xid) os) next outcomes
revoked_gone xid next os outcomes h = each_all (λ (c : CompletedCall). IsGone os next c.xid) (λ (c : CompletedCall). IsGone (map (revoked_call xid) os) next c.xid) outcomes (λ c g. (g.0, revoked_apart xid c.xid os g.1)) h

pub rises_revoked : (opened : LinkParameters) (accepted : List AcceptedCall) (p xid : ℕ) (k : ClientState) → RisesAt accepted k → RisesAt accepted (client_state_after opened k (MemoryRevoked p xid))
unfolding client_state_after
rises_revoked opened accepted p xid k h = record {
  rising = subst (λ (xs : List ℕ). IsRising 1 xs k.next_xid) (sym (λ i. xids_revoked xid k.outstanding i ++ revoked_xids xid k.waiting i)) h.rising;
  fits = h.fits;
  below = subst (λ (n : ℕ). AreBelow n accepted) (sym (revoked_first xid k.next_xid k.waiting)) h.below;
  gone = subst (λ (n : ℕ). AreGone (map (revoked_call xid) k.outstanding) n k.outcomes) (sym (revoked_first xid k.next_xid k.waiting)) (revoked_gone xid (next_sent_xid k) k.outstanding k.outcomes h.gone);
}

pub rises_written : (opened : LinkParameters) (accepted : List AcceptedCall) (taken : ℕ) (k : ClientState) → RisesAt accepted k → RisesAt accepted (client_state_after opened k (QueueWritten taken))
unfolding client_state_after
rises_written opened accepted taken k h = record { rising = h.rising; fits = h.fits; below = h.below; gone = h.gone }

pub rises_first : (opened : LinkParameters) → IsOpened opened → RisesAt [] (initial_client opened).state
rises_first opened o = record { rising = rising_first (lengths_before opened.agreed) 1 opened.first_stag opened.first_xid opened.resumed o.resumed; fits = o.xid_fits; below = tt; gone = tt }

-- the calls that were accepted by an event
rises_more : (es : List RunEvent) (e : RunEvent) (k : ClientState) → accepted_in (e ∷ []) ≡ [] → RisesAt (accepted_in es) k → RisesAt (accepted_in (es ++ e ∷ [])) k
rises_more es e k none h =
    subst (λ (calls : List AcceptedCall). RisesAt calls k) (sym (accepted_append es (e ∷ []) ∙ ap (λ (calls : List AcceptedCall). accepted_in es ++ calls) none ∙ append-nil (accepted_in es))) h

rises_frame : (opened : LinkParameters) (accepted : List AcceptedCall) (k : ClientState) (f : Frame) → RisesAt accepted k → (o : Option Stop) → RisesAt accepted (next_end_state_by (client_rules opened) k (FrameReceived f) o).state
unfolding client_state_after
rises_frame opened accepted k f h (Some end) = h
rises_frame opened accepted k f h None = by (is_hello f)
  where
    by : (b : Bool) → RisesAt accepted (cond b (with_hello opened k f) (with_segment k f (client_segment k f)))
    by true = rises_hello opened accepted k f h
    by false = rises_segment accepted k f (client_segment k f) h

rises_step : (opened : LinkParameters) (es : List RunEvent) (k : ClientState) (ended : Option Stop) (e : RunEvent) → ClientGood opened (record { state = k; ended = ended }) e → RisesAt (accepted_in es) k
    → RisesAt (accepted_in (es ++ e ∷ [])) (next_end_state_in (client_rules opened) k e ended).state
unfolding client_end client_state_after
rises_step opened es k None (FrameReceived f) good h =
    rises_more es (FrameReceived f) (next_end_state_by (client_rules opened) k (FrameReceived f) (client_end k (FrameReceived f))).state refl (rises_frame opened (accepted_in es) k f h (client_end k (FrameReceived f)))
rises_step opened es k None (CallSubmitted p a) good h =
    subst (λ (calls : List AcceptedCall). RisesAt calls (client_state_after opened k (CallSubmitted p a))) (sym (accepted_append es (CallSubmitted p a ∷ []))) (rises_call opened (accepted_in es) p k a None good h)
rises_step opened es k None (MemoryRevoked p xid) good h = rises_more es (MemoryRevoked p xid) (client_state_after opened k (MemoryRevoked p xid)) refl (rises_revoked opened (accepted_in es) p xid k h)
rises_step opened es k None (CallExecuted x) good h = rises_more es (CallExecuted x) k refl h
rises_step opened es k None (QueueWritten taken) good h = rises_more es (QueueWritten taken) (client_state_after opened k (QueueWritten taken)) refl (rises_written opened (accepted_in es) taken k h)
rises_step opened es k None (ServerTold what) good h = rises_more es (ServerTold what) k refl h
rises_step opened es k (Some end) (FrameReceived f) good h = rises_more es (FrameReceived f) k refl h
rises_step opened es k (Some end) (CallSubmitted p a) good h = absurd (let wrong = good.stays in cc)
rises_step opened es k (Some end) (MemoryRevoked p xid) good h = rises_more es (MemoryRevoked p xid) k refl h
rises_step opened es k (Some end) (CallExecuted x) good h = rises_more es (CallExecuted x) k refl h
rises_step opened es k (Some end) (QueueWritten taken) good h = rises_more es (QueueWritten taken) k refl h
rises_step opened es k (Some end) (ServerTold what) good h = rises_more es (ServerTold what) k refl h

pub rises_of : (opened : LinkParameters) (link : ℕ) (run : List Mark) → IsOpened opened → IsTyped run → AskedSoFar opened link run → RisesAt (accepted_calls link run) (client opened link run).state
unfolding client
rises_of opened link run o typed asked =
    subst (λ (calls : List AcceptedCall). RisesAt calls (client opened link run).state) (accepted_events link run)
    (along (client_rules opened) (λ k e. []) (λ end. []) (ClientGood opened) (λ es place r outs. RisesAt (accepted_in es) r.state)
    (λ es place r outs e next good h. rises_step opened es r.state r.ended e good h)
    [] 0 (initial_client opened) [] (events link Initiator run) (client_goes opened link run typed asked).goes (rises_first opened o))

-- ---- So a call whose outcome came isn't sent again

-- calls that wait aren't below the one that is sent next
pub waits_above : (accepted : List AcceptedCall) (k : ClientState) → RisesAt accepted k → AllByRecursion (λ (w : WaitingCall). next_sent_xid k ≤ w.xid) k.waiting
waits_above accepted k h = by k.waiting (back 1 k.outstanding h.rising)
  where
    back : (first : ℕ) (os : List OutstandingCall) → IsRising first (xids_out os ++ xids_waiting k.waiting) k.next_xid → (n : ℕ) × IsRising n (xids_waiting k.waiting) k.next_xid
    back first [] rest = (first, rest)
    back first (o ∷ os) rest = back (o.xid + 1) os rest.1

    by : (ws : List WaitingCall) → (n : ℕ) × IsRising n (xids_waiting ws) k.next_xid → AllByRecursion (λ (w : WaitingCall). first_xid_or k.next_xid ws ≤ w.xid) ws
    by [] rest = tt
    by (w ∷ ws) rest = (omega arith, each_all (λ (v : WaitingCall). w.xid + 1 ≤ v.xid) (λ (v : WaitingCall). w.xid ≤ v.xid) ws (λ v more. omega (arith, more)) (rising_waits (w.xid + 1) k.next_xid ws rest.1.1))

pub outcome_gone : (opened : LinkParameters) (link : ℕ) (run : List Mark) (c : CompletedCall) → IsOpened opened → IsTyped run → AskedSoFar opened link run → Contains (client opened link run).state.outcomes c
    → IsGone (client opened link run).state.outstanding (next_sent_xid (client opened link run).state) c.xid
outcome_gone opened link run c o typed asked there =
    let k : ClientState = (client opened link run).state in
    All-contains (λ (x : CompletedCall). IsGone k.outstanding (next_sent_xid k) x.xid) k.outcomes c (All-from_recursion (λ (x : CompletedCall). IsGone k.outstanding (next_sent_xid k) x.xid) k.outcomes (rises_of opened link run o typed asked).gone) there

-- ---- It stays so, whatever comes

abbrev HasGone : ℕ → ClientState → Type 0
HasGone xid k = IsGone k.outstanding (next_sent_xid k) xid

gone_segment : (xid : ℕ) (k : ClientState) (f : Frame) (r : Result Segment ℕ) → HasGone xid k → HasGone xid (with_segment k f r)
gone_segment xid k f r h = subst (λ (n : ℕ). IsGone t.outstanding n xid) (sym next) (by (segment_out k f r))
  where
    t : ClientState
    t = with_segment k f r

    next : next_sent_xid t ≡ next_sent_xid k
    next = λ i. first_xid_or (segment_next k f r i) (segment_waiting k f r i)

    by : (t.outstanding ≡ k.outstanding) ⊎ ((p : OutstandingCall → Bool) × (t.outstanding ≡ filter p k.outstanding)) → IsGone t.outstanding (next_sent_xid k) xid
    by (inl same) = subst (λ (os : List OutstandingCall). IsGone os (next_sent_xid k) xid) (sym same) h
    by (inr left) = subst (λ (os : List OutstandingCall). IsGone os (next_sent_xid k) xid) (sym left.1) (h.0, each_kept (λ (o : OutstandingCall). o.xid ≢ xid) left.0 k.outstanding h.1)

gone_frame : (opened : LinkParameters) (xid : ℕ) (k : ClientState) (f : Frame) → HasGone xid k → (o : Option Stop) → HasGone xid (next_end_state_by (client_rules opened) k (FrameReceived f) o).state
unfolding client_state_after
gone_frame opened xid k f h (Some end) = h
gone_frame opened xid k f h None = by (is_hello f)
  where
    by : (b : Bool) → HasGone xid (cond b (with_hello opened k f) (with_segment k f (client_segment k f)))
    by true = h
    by false = gone_segment xid k f (client_segment k f) h

gone_call : (opened : LinkParameters) (xid p : ℕ) (k : ClientState) (a : AcceptedCall) (ended : Option Stop) → IsGoodCall opened (record { state = k; ended = ended }) a → HasGone xid k → HasGone xid (client_state_after opened k (CallSubmitted p a))
unfolding client_state_after
gone_call opened xid p k a ended good h =
    let rises : a.xid < sent_after a.xid k.next_xid k.waiting = submit_rises k.has_hello a.xid k.next_xid k.waiting a.call a.form good.next good.resent in
    let own = good.next in
    let lt = h.0 in
    (omega (arith, lt, own, rises), each_append (λ (o : OutstandingCall). o.xid ≢ xid) k.outstanding (outstanding_of k a ∷ []) h.1 ((λ same. omega (arith, lt, own, same)), tt))

gone_revoked : (opened : LinkParameters) (xid p n : ℕ) (k : ClientState) → HasGone xid k → HasGone xid (client_state_after opened k (MemoryRevoked p n))
unfolding client_state_after
gone_revoked opened xid p n k h =
    subst (λ (m : ℕ). IsGone (map (revoked_call n) k.outstanding) m xid) (sym (revoked_first n k.next_xid k.waiting)) (h.0, revoked_apart n xid k.outstanding h.1)

gone_step : (opened : LinkParameters) (xid : ℕ) (k : ClientState) (ended : Option Stop) (e : RunEvent) → ClientGood opened (record { state = k; ended = ended }) e → HasGone xid k → HasGone xid (next_end_state_in (client_rules opened) k e ended).state
unfolding client_end client_state_after
gone_step opened xid k None (FrameReceived f) good h = gone_frame opened xid k f h (client_end k (FrameReceived f))
gone_step opened xid k None (CallSubmitted p a) good h = gone_call opened xid p k a None good h
gone_step opened xid k None (MemoryRevoked p n) good h = gone_revoked opened xid p n k h
gone_step opened xid k None (CallExecuted x) good h = h
gone_step opened xid k None (QueueWritten taken) good h = h
gone_step opened xid k None (ServerTold what) good h = h
gone_step opened xid k (Some end) e good h = h

pub gone_later : (opened : LinkParameters) (link : ℕ) (run more : List Mark) (xid : ℕ) → IsTyped (run ++ more) → AskedSoFar opened link (run ++ more) → IsGone (client opened link run).state.outstanding (next_sent_xid (client opened link run).state) xid
    → IsGone (client opened link (run ++ more)).state.outstanding (next_sent_xid (client opened link (run ++ more)).state) xid
unfolding client
gone_later opened link run more xid typed asked h =
    let rules = client_rules opened in
    let es : List RunEvent = events link Initiator run in
    let rest = events_more link Initiator run more in
    let goes = later_preserve rules (ClientGood opened) 0 (initial_client opened) es rest.0 (subst (λ (all : List RunEvent). GoesOn rules (ClientGood opened) 0 (initial_client opened) all) rest.1 (client_goes opened link (run ++ more) typed asked).goes) in
    let r : EndState ClientState = end_state_after rules (initial_client opened) es in
    let later = along rules (λ k e. []) (λ end. []) (ClientGood opened) (λ xs place s outs. HasGone xid s.state) (λ xs place s outs e next good g. gone_step opened xid s.state s.ended e good g) [] (places_after 0 es) r [] rest.0 goes h in
    subst (λ (s : EndState ClientState). HasGone xid s.state) (sym (ap (λ (all : List RunEvent). end_state_after rules (initial_client opened) all) rest.1 ∙ end_state_after_append rules (initial_client opened) es rest.0)) later
