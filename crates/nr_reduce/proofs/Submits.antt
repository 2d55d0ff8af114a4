-- What a client keeps after an access of its peer, after a write, with the server's hello, and after a call that it accepts.
use Rattle.std.proofs.Common.{◌≡◌, ℕ, ◌+◌, ◌<◌, ◌≤◌, Bool, true, false, cond, leb, ltb, List, [], ◌∷◌, ◌++◌, length, map, inl, inr, Option, None, Some, Result, Ok, refl, sym, ap, subst, ◌∙◌, arith, append-nil, length-append}
use Rattle.std.specs.List.{AllByRecursion, filter}
use Rattle.std.proofs.lemmas.Bool.{lt-leb, le-ltb, eq-eqb}
use Rattle.nr_regions.specs.RegisteredMemory.{RegisteredMemory, denial}
use Rattle.nr_regions.specs.Access.{TaggedSegment, access_of_tagged}
use Rattle.nr_regions.specs.declared.denied.Denied.{Denied}
use Rattle.nr_regions.specs.Events.{after_event, after_arrival}
use Rattle.nr_regions.specs.Events.MemoryEvent.{Arrive}
use Rattle.nr_regions.proofs.Holding.{next_after_place, none_dead_arrive}
use Rattle.nr_reduce.specs.declared.mark.LinkParameters.{LinkParameters}
use Rattle.nr_reduce.specs.declared.outline.Plan.{Plan}
use Rattle.nr_reduce.specs.History.{AcceptedCall}
use Rattle.nr_reduce.specs.Plans.{TooLarge, Buffer, buffers, regions_needed, lists_of, plan_of}
use Rattle.nr_reduce.specs.OfferedRegions.{Region}
use Rattle.nr_reduce.specs.OfferedMemory.{region_at}
use Rattle.nr_reduce.specs.Written.{ends_written}
use Rattle.nr_reduce.specs.Events.RunEvent.{CallSubmitted}
use Rattle.nr_reduce.specs.ClientState.{OutstandingCall, WaitingCall, ClientState, first_of, others_than, waiting_call, call_payload, plan_unless, plan_for, stag_unless, stags_unless_waiting, region_of}
use Rattle.nr_reduce.specs.EndRules.{live, next_end_state}
use Rattle.nr_reduce.specs.Client.{client_rules, client_end, client_state_after, outstanding_of, plan_or, with_hello, call_ends, submitted_output, submitted_ends, xid_unless_waiting, regions_unless_waiting, is_revoked_waiting}
use Rattle.nr_reduce.specs.KeptCalls.{KeptCall, IsKeptCall, AreKept, numbered_from, numbered_calls}
use Rattle.nr_reduce.specs.Hellos.{client_agreement}
use Rattle.nr_reduce.specs.KeptClient.{KeptClient, ClientKeeps, kept_greeted, CallsKeep, MemoryKeeps, HoldsFor, IsOwned, IsRegionOpen, IsAmong, AreRising, AreBelow, OpensFor, registered_all, kept_placed, sent_kept, kept_sent, kept_of, kept_submitted, kept_resent}
use Rattle.nr_reduce.specs.StandingLaws.{KeptPlaces, KeptWrites, KeptGreets, KeptResends, KeptSubmits}
use Rattle.nr_reduce.proofs.MemorySteps.{holds_access, received_one, offered_later}
use Rattle.nr_reduce.proofs.Releasing.{keeps_live}
use Rattle.nr_reduce.proofs.Numbered.{numbered_sent}
use Rattle.nr_reduce.proofs.PlansByLists.{planned_by_lists}
use Rattle.nr_reduce.proofs.LaterSends.{calls_later, submit_later}
use Rattle.nr_reduce.proofs.Registering.{Registers, register_all, buffers_numbered, buffers_count, opens_new, opens_old, own_region, at_both, or_region}

-- ---- The Sends that have left

-- the same number has left in both states
abbrev SendsStay : ClientState → ClientState → Type 0
SendsStay k k2 = ends_written k2.written k2.send_ends ≡ ends_written k.written k.send_ends

kept_stay : (k k2 : ClientState) (cs : List KeptCall) (os : List OutstandingCall) → SendsStay k k2 → AreKept k cs os → AreKept k2 cs os
kept_stay k k2 [] [] same is = tt
kept_stay k k2 [] (o ∷ os) same is = absurd is
kept_stay k k2 (c ∷ cs) [] same is = absurd is
kept_stay k k2 (c ∷ cs) (o ∷ os) same is = (
  record {
    xid = is.0.xid;
    send = is.0.send;
    sent = is.0.sent ∙ ap (ltb o.send) (sym same);
    revoked = is.0.revoked;
    call = is.0.call;
    write = is.0.write;
    reply = is.0.reply;
    planned = is.0.planned;
    given = is.0.given;
    stags = is.0.stags;
  },
  kept_stay k k2 cs os same is.1,
)

-- none that ends later than what is written has left
none_left_lem : (n : ℕ) (ends : List ℕ) → AllByRecursion (λ end. n < end) ends → ends_written n ends ≡ 0
none_left_lem n [] h = refl
none_left_lem n (end ∷ ends) h = ap (λ (b : Bool). length (cond b (end ∷ filter (λ e. leb e n) ends) (filter (λ e. leb e n) ends))) (lt-leb end n h.0) ∙ none_left_lem n ends h.1

left_append : (n : ℕ) (xs ys : List ℕ) → AllByRecursion (λ end. n < end) ys → ends_written n (xs ++ ys) ≡ ends_written n xs
left_append n [] ys h = none_left_lem n ys h
left_append n (x ∷ xs) ys h = by (leb x n) (left_append n xs ys h)
  where
    by : (b : Bool) → ends_written n (xs ++ ys) ≡ ends_written n xs → length (cond b (x ∷ filter (λ e. leb e n) (xs ++ ys)) (filter (λ e. leb e n) (xs ++ ys))) ≡ length (cond b (x ∷ filter (λ e. leb e n) xs) (filter (λ e. leb e n) xs))
    by true rest = ap (λ (m : ℕ). Rattle.std.proofs.Common.suc m) rest
    by false rest = rest

-- ---- An access

arrival_next : (m : RegisteredMemory) (s : TaggedSegment) (d : Option Denied) → (after_arrival d m s).next ≡ m.next
arrival_next m s None = next_after_place m s.stag s.to s.payload
arrival_next m s (Some denied) = refl

event_next : (m : RegisteredMemory) (s : TaggedSegment) → (after_event m (Arrive s)).next ≡ m.next
unfolding after_event
event_next m s = arrival_next m s (denial m (access_of_tagged s))

calls_same : (calls : List KeptCall) (next : ℕ) (k : ClientState) (access : TaggedSegment) → CallsKeep calls next k → CallsKeep calls next (record k { accesses_received = k.accesses_received ++ access ∷ [] })
calls_same calls next k access keeps = record {
  kept = kept_stay k (record k { accesses_received = k.accesses_received ++ access ∷ [] }) calls (numbered_calls k) refl keeps.kept;
  rising = keeps.rising;
  owned = keeps.owned;
  opens = keeps.opens;
}

pub kept_places : KeptPlaces
unfolding kept_placed
kept_places opened kept k count access keeps lt =
    let memory : MemoryKeeps kept.memory k count = keeps.memory refl in
    let after : ClientState = record k { accesses_received = k.accesses_received ++ access ∷ [] } in
    keeps_live opened (kept_placed kept access) after access.end keeps.ended keeps.xid keeps.sends keeps.grant keeps.up keeps.down keeps.invalidates keeps.opening keeps.outstanding (received_one count k.accesses_received access (omega (arith, lt)) keeps.accesses)
    (record {
      next = event_next kept.memory access ∙ memory.next;
      offered = offered_later count access.end k.regions (omega (arith, lt)) memory.offered;
      holds = holds_access k.regions k.accesses_received count kept.memory access memory.offered keeps.accesses (λ stag r there. (let low = memory.below stag r there in let next = memory.next in omega (arith, low, next))) lt memory.holds;
      none_dead = none_dead_arrive kept.memory access memory.none_dead;
      below = memory.below;
    })
    (calls_same kept.calls kept.next_xid k access (keeps.calls refl))

-- ---- A write

sent_all : (k k2 : ClientState) (sent : ℕ) (cs : List KeptCall) (os : List OutstandingCall) → ends_written k2.written k2.send_ends ≡ sent → AreKept k cs os → AreKept k2 (map (sent_kept sent) cs) os
sent_all k k2 sent [] [] e is = tt
sent_all k k2 sent [] (o ∷ os) e is = absurd is
sent_all k k2 sent (c ∷ cs) [] e is = absurd is
sent_all k k2 sent (c ∷ cs) (o ∷ os) e is = (
  record {
    xid = is.0.xid;
    send = is.0.send;
    sent = λ i. ltb (is.0.send i) (sym e i);
    revoked = is.0.revoked;
    call = is.0.call;
    write = is.0.write;
    reply = is.0.reply;
    planned = is.0.planned;
    given = is.0.given;
    stags = is.0.stags;
  },
  sent_all k k2 sent cs os e is.1,
)

above_sent : (sent n : ℕ) (cs : List KeptCall) → AllByRecursion (λ d. n < d.xid) cs → AllByRecursion (λ d. n < d.xid) (map (sent_kept sent) cs)
above_sent sent n [] h = tt
above_sent sent n (c ∷ cs) h = (h.0, above_sent sent n cs h.1)

pub rising_sent : (sent : ℕ) (cs : List KeptCall) (below : ℕ) → AreRising cs below → AreRising (map (sent_kept sent) cs) below
rising_sent sent [] below h = tt
rising_sent sent (c ∷ cs) below h = (h.0, (above_sent sent c.xid cs h.1.0, rising_sent sent cs below h.1.1))

among_sent : (sent : ℕ) (d : KeptCall) (cs : List KeptCall) → IsAmong d cs → IsAmong (sent_kept sent d) (map (sent_kept sent) cs)
among_sent sent d [] is = absurd is
among_sent sent d (c ∷ cs) (inl e) = inl (ap (sent_kept sent) e)
among_sent sent d (c ∷ cs) (inr is) = inr (among_sent sent d cs is)

pub opens_sent : (sent : ℕ) (regions : List Region) (cs : List KeptCall) → AllByRecursion (OpensFor regions) cs → AllByRecursion (OpensFor regions) (map (sent_kept sent) cs)
opens_sent sent regions [] h = tt
opens_sent sent regions (c ∷ cs) h = (h.0, opens_sent sent regions cs h.1)

pub holds_sent : (sent : ℕ) (m : RegisteredMemory) (k : ClientState) (count : ℕ) (cs : List KeptCall) → AllByRecursion (HoldsFor m k count) cs → AllByRecursion (HoldsFor m k count) (map (sent_kept sent) cs)
holds_sent sent m k count [] h = tt
holds_sent sent m k count (c ∷ cs) h = (h.0, holds_sent sent m k count cs h.1)

pub kept_writes : KeptWrites
unfolding client_end client_state_after kept_sent
kept_writes opened kept k count taken keeps =
    let calls : CallsKeep kept.calls kept.next_xid k = keeps.calls refl in
    let memory : MemoryKeeps kept.memory k count = keeps.memory refl in
    let after : ClientState = record k { written = k.written + taken } in
    let sent : ℕ = ends_written (k.written + taken) k.send_ends in
    keeps_live opened (kept_sent sent kept) after count keeps.ended keeps.xid keeps.sends keeps.grant keeps.up keeps.down keeps.invalidates keeps.opening keeps.outstanding keeps.accesses
    (record { next = memory.next; offered = memory.offered; holds = memory.holds; none_dead = memory.none_dead; below = memory.below })
    (record {
      kept = sent_all k after sent kept.calls (numbered_calls k) refl calls.kept;
      rising = rising_sent sent kept.calls kept.next_xid calls.rising;
      owned = λ stag r there is_open.
          (let owner : IsOwned kept.calls r.call stag = calls.owned stag r there is_open in
          record { call = sent_kept sent owner.call; there = among_sent sent owner.call kept.calls owner.there; xid_is = owner.xid_is; own = owner.own });
      opens = opens_sent sent k.regions kept.calls calls.opens;
    })

-- ---- The server's hello

pub kept_greets : KeptGreets
unfolding kept_greeted
kept_greets opened kept k f count keeps within =
    let later : AllByRecursion (λ end. k.written < end) (call_ends opened k.due 1 k.outstanding) = calls_later opened k.written k.due 1 k.outstanding within in
    let calls : CallsKeep kept.calls kept.next_xid k = keeps.calls refl in
    let memory : MemoryKeeps kept.memory k count = keeps.memory refl in
    keeps_live opened (kept_greeted kept (client_agreement opened f)) (with_hello opened k f) count keeps.ended keeps.xid keeps.sends keeps.grant refl refl refl keeps.opening keeps.outstanding keeps.accesses
    (record { next = memory.next; offered = memory.offered; holds = memory.holds; none_dead = memory.none_dead; below = memory.below })
    (record {
      kept = kept_stay k (with_hello opened k f) kept.calls (numbered_calls k) (left_append k.written k.send_ends (call_ends opened k.due 1 k.outstanding) later) calls.kept;
      rising = calls.rising;
      owned = calls.owned;
      opens = calls.opens;
    })

-- ---- A call that is sent again

abbrev pub resent_call : WaitingCall → AcceptedCall
resent_call w = record { xid = w.xid; call = w.call; form = w.form }

-- a client after it sent the first call that waits: no number, STag or region is new
abbrev pub after_resent : LinkParameters → ClientState → WaitingCall → List WaitingCall → ClientState
after_resent opened k w others = record k {
  sends = k.sends + 1;
  outstanding = k.outstanding ++ outstanding_of k (resent_call w) ∷ [];
  waiting = others;
  due = k.due + length (submitted_output opened k (resent_call w));
  send_ends = k.send_ends ++ submitted_ends opened k (resent_call w);
}

first_is : (k : ClientState) (w : WaitingCall) (others : List WaitingCall) → k.waiting ≡ w ∷ others → waiting_call k w.xid ≡ Some w
first_is k w others there = ap (λ (ws : List WaitingCall). first_of ws w.xid) there ∙ ap (λ (b : Bool). cond b (Some w) None) (eq-eqb w.xid w.xid refl)

others_are : (k : ClientState) (w : WaitingCall) (others : List WaitingCall) → k.waiting ≡ w ∷ others → others_than k.waiting w.xid ≡ others
others_are k w others there = ap (λ (ws : List WaitingCall). others_than ws w.xid) there ∙ ap (λ (b : Bool). cond b others (w ∷ others)) (eq-eqb w.xid w.xid refl)

pub resent_is : (opened : LinkParameters) (k : ClientState) (count : ℕ) (w : WaitingCall) (others : List WaitingCall) → k.waiting ≡ w ∷ others → client_state_after opened k (CallSubmitted count (resent_call w)) ≡ after_resent opened k w others
unfolding client_state_after
resent_is opened k count w others there =
    let is : waiting_call k w.xid ≡ Some w = first_is k w others there in
    let left : others_than k.waiting w.xid ≡ others = others_are k w others there in
    let o : OutstandingCall = outstanding_of k (resent_call w) in
    let stag : k.stag + 0 ≡ k.stag = omega arith in
    (λ i. record k {
      next_xid = xid_unless_waiting (is i) k.next_xid;
      sends = k.sends + 1;
      stag = k.stag + stags_unless_waiting (is i) o.plan;
      outstanding = k.outstanding ++ o ∷ [];
      waiting = left i;
      regions = k.regions ++ regions_unless_waiting (is i) count o;
      due = k.due + length (submitted_output opened k (resent_call w));
      send_ends = k.send_ends ++ submitted_ends opened k (resent_call w);
    })
    ∙ (λ i. record k {
      next_xid = k.next_xid;
      sends = k.sends + 1;
      stag = stag i;
      outstanding = k.outstanding ++ o ∷ [];
      waiting = others;
      regions = append-nil k.regions i;
      due = k.due + length (submitted_output opened k (resent_call w));
      send_ends = k.send_ends ++ submitted_ends opened k (resent_call w);
    })

-- its calls are the same, with the same numbers
pub resent_calls : (opened : LinkParameters) (k : ClientState) (w : WaitingCall) (others : List WaitingCall) → k.waiting ≡ w ∷ others → numbered_calls (after_resent opened k w others) ≡ numbered_calls k
unfolding plan_for
resent_calls opened k w others there =
    let is : waiting_call k w.xid ≡ Some w = first_is k w others there in
    numbered_sent k.outstanding k.sends w others (outstanding_of k (resent_call w))
    (λ i. record {
      xid = w.xid;
      send = k.sends;
      call = w.call;
      plan = plan_or (call_payload w.xid w.call) (plan_unless (is i) (plan_of (call_payload w.xid w.call) w.form k.up_max k.down_max));
      stag = stag_unless (is i) k.stag;
      is_revoked = is_revoked_waiting (is i);
    })
    ∙ ap (λ (ws : List WaitingCall). k.outstanding ++ numbered_from k.sends ws) (sym there)

resends : (opened : LinkParameters) (kept : KeptClient) (k : ClientState) (count : ℕ) (w : WaitingCall) (others : List WaitingCall) → ClientKeeps opened kept (live k) count → k.waiting ≡ w ∷ others → k.written ≤ k.due →
    ClientKeeps opened (kept_resent kept) (live (after_resent opened k w others)) count
unfolding kept_resent
resends opened kept k count w others keeps there within =
    let a : AcceptedCall = resent_call w in
    let after : ClientState = after_resent opened k w others in
    let calls : CallsKeep kept.calls kept.next_xid k = keeps.calls refl in
    let memory : MemoryKeeps kept.memory k count = keeps.memory refl in
    let same : numbered_calls after ≡ numbered_calls k = resent_calls opened k w others there in
    let left : SendsStay k after = left_append k.written k.send_ends (submitted_ends opened k a) (submit_later opened k a within) in
    keeps_live opened (kept_resent kept) after count keeps.ended keeps.xid (ap (λ (n : ℕ). n + 1) keeps.sends) keeps.grant keeps.up keeps.down keeps.invalidates keeps.opening
    (keeps.outstanding ∙ sym (ap (λ (os : List OutstandingCall). length os) same)) keeps.accesses
    (record { next = memory.next; offered = memory.offered; holds = memory.holds; none_dead = memory.none_dead; below = memory.below })
    (record {
      kept = subst (λ (os : List OutstandingCall). AreKept after kept.calls os) (sym same) (kept_stay k after kept.calls (numbered_calls k) left calls.kept);
      rising = calls.rising;
      owned = calls.owned;
      opens = calls.opens;
    })

pub kept_resends : KeptResends
unfolding client_end
kept_resends opened kept k count w others keeps there within few =
    subst (λ (x : ClientState). ClientKeeps opened (kept_resent kept) (live x) count) (sym (resent_is opened k count w others there)) (resends opened kept k count w others keeps there within)

-- ---- A call that is accepted

kept_more : (k : ClientState) (cs : List KeptCall) (os : List OutstandingCall) (c : KeptCall) (o : OutstandingCall) → AreKept k cs os → IsKeptCall k c o → AreKept k (cs ++ c ∷ []) (os ++ o ∷ [])
kept_more k [] [] c o is one = (one, tt)
kept_more k [] (x ∷ os) c o is one = absurd is
kept_more k (x ∷ cs) [] c o is one = absurd is
kept_more k (x ∷ cs) (y ∷ os) c o is one = (is.0, kept_more k cs os c o is.1 one)

below_more : (cs : List KeptCall) (next more : ℕ) → next ≤ more → AreRising cs next → AreRising cs more
below_more [] next more le is = tt
below_more (c ∷ cs) next more le is = ((let lt = is.0 in omega (arith, lt, le)), (is.1.0, below_more cs next more le is.1.1))

above_more : (n : ℕ) (cs : List KeptCall) (c : KeptCall) → AllByRecursion (λ d. n < d.xid) cs → n < c.xid → AllByRecursion (λ d. n < d.xid) (cs ++ c ∷ [])
above_more n [] c is lt = (lt, tt)
above_more n (x ∷ cs) c is lt = (is.0, above_more n cs c is.1 lt)

rising_more : (cs : List KeptCall) (c : KeptCall) (next : ℕ) → AreRising cs next → c.xid ≡ next → AreRising (cs ++ c ∷ []) (next + 1)
rising_more [] c next is e = ((let x = e in omega (arith, x)), (tt, tt))
rising_more (x ∷ cs) c next is e =
    ((let lt = is.0 in omega (arith, lt)), (above_more x.xid cs c is.1.0 (let lt = is.0 in omega (arith, lt, e)), rising_more cs c next is.1.1 e))

among_left : {X : Type 0} (x : X) (xs ys : List X) → IsAmong x xs → IsAmong x (xs ++ ys)
among_left x [] ys is = absurd is
among_left x (y ∷ xs) ys (inl e) = inl e
among_left x (y ∷ xs) ys (inr is) = inr (among_left x xs ys is)

among_last : {X : Type 0} (x : X) (xs : List X) → IsAmong x (xs ++ x ∷ [])
among_last x [] = inl refl
among_last x (y ∷ xs) = inr (among_last x xs)

opens_stags : (regions more : List Region) (xid : ℕ) (ss : List ℕ) → AllByRecursion (λ s. IsRegionOpen regions xid s) ss → AllByRecursion (λ s. IsRegionOpen (regions ++ more) xid s) ss
opens_stags regions more xid [] is = tt
opens_stags regions more xid (s ∷ ss) is = (opens_old regions more xid s is.0, opens_stags regions more xid ss is.1)

opens_more : (regions more : List Region) (cs : List KeptCall) (c : KeptCall) → AllByRecursion (OpensFor regions) cs → OpensFor (regions ++ more) c → AllByRecursion (OpensFor (regions ++ more)) (cs ++ c ∷ [])
opens_more regions more [] c is one = (one, tt)
opens_more regions more (x ∷ cs) c is one = (opens_stags regions more x.xid x.stags is.0, opens_more regions more cs c is.1 one)

-- a client to which no call waits to be sent again
abbrev unwaiting : ClientState → ClientState
unwaiting any = record any { waiting = [] }

calls_submitted : (opened : LinkParameters) (calls : List KeptCall) (next_xid : ℕ) (any : ClientState) (count : ℕ) (a : AcceptedCall) (c : KeptCall) → CallsKeep calls next_xid (unwaiting any) → AreBelow any.regions any.stag →
    SendsStay (unwaiting any) (client_state_after opened (unwaiting any) (CallSubmitted count a)) → a.xid ≡ next_xid → IsKeptCall (client_state_after opened (unwaiting any) (CallSubmitted count a)) c (outstanding_of (unwaiting any) a) →
    CallsKeep (calls ++ c ∷ []) (next_xid + 1) (client_state_after opened (unwaiting any) (CallSubmitted count a))
unfolding client_state_after
calls_submitted opened calls next_xid any count a c keeps below stay next is = record {
  kept = subst (λ (os : List OutstandingCall). AreKept after (calls ++ c ∷ []) os) (sym (append-nil (k.outstanding ++ o ∷ [])))
      (kept_more after calls k.outstanding c o (kept_stay k after calls k.outstanding stay (subst (λ (os : List OutstandingCall). AreKept k calls os) (append-nil k.outstanding) keeps.kept)) is);
  rising = rising_more calls c next_xid keeps.rising (is.xid ∙ next);
  owned = λ stag r there is_open. own stag r is_open (region_at k.regions stag) refl (sym (at_both k.regions new stag) ∙ there);
  opens = opens_more k.regions new calls c keeps.opens (subst (λ (ss : List ℕ). AllByRecursion (λ s. IsRegionOpen (k.regions ++ new) c.xid s) ss) (sym is.stags) (subst (λ (x : ℕ). AllByRecursion (λ s. IsRegionOpen (k.regions ++ new) x s) (map (λ (b : Buffer). b.stag) (buffers k.stag o.plan))) (sym is.xid) (opens_new a.xid count k.regions (buffers k.stag o.plan) k.stag below (buffers_numbered k.stag o.plan))));
}
  where
    k : ClientState
    k = unwaiting any

    after : ClientState
    after = client_state_after opened k (CallSubmitted count a)

    o : OutstandingCall
    o = outstanding_of k a

    new : List Region
    new = map (region_of a.xid count) (buffers k.stag o.plan)

    own : (stag : ℕ) (r : Region) → r.until ≡ None → (x : Option Region) → region_at k.regions stag ≡ x → or_region (region_at k.regions stag) (region_at new stag) ≡ Some r → IsOwned (calls ++ c ∷ []) r.call stag
    own stag r is_open (Some q) e h =
        let same : q ≡ r = (let s : Some q ≡ Some r = ap (λ (x : Option Region). or_region x (region_at new stag)) (sym e) ∙ h in cc) in
        let old : IsOwned calls r.call stag = keeps.owned stag r (e ∙ ap (λ (x : Region). Some x) same) is_open in
        record { call = old.call; there = among_left old.call calls (c ∷ []) old.there; xid_is = old.xid_is; own = old.own }
    own stag r is_open None e h =
        let mine = own_region a.xid count (buffers k.stag o.plan) stag r (ap (λ (x : Option Region). or_region x (region_at new stag)) (sym e) ∙ h) in
        record {
          call = c;
          there = among_last c calls;
          xid_is = is.xid ∙ sym mine.0;
          own = subst (λ (ss : List ℕ). IsAmong stag ss) (sym is.stags) mine.1;
        }

planned : (k : ClientState) (a : AcceptedCall) (plan : Plan) → plan_for k a.xid a.call a.form ≡ Ok plan → (outstanding_of k a).plan ≡ plan
planned k a plan is = ap (λ (r : Result Plan TooLarge). plan_or (call_payload a.xid a.call) r) is

plan_anew : (any : ClientState) (a : AcceptedCall) (plan : Plan) → plan_for (unwaiting any) a.xid a.call a.form ≡ Ok plan → plan_of (call_payload a.xid a.call) a.form any.up_max any.down_max ≡ Ok plan
unfolding plan_for
plan_anew any a plan is = is

submits_unwaiting : (opened : LinkParameters) (kept : KeptClient) (any : ClientState) (count : ℕ) (a : AcceptedCall) (plan : Plan) → ClientKeeps opened kept (live (unwaiting any)) count → a.xid ≡ kept.next_xid →
    plan_for (unwaiting any) a.xid a.call a.form ≡ Ok plan → any.written ≤ any.due → ends_written any.written any.send_ends ≤ any.sends →
    ClientKeeps opened (kept_submitted kept a.call plan) (next_end_state (client_rules opened) (live (unwaiting any)) (CallSubmitted count a)) count
unfolding client_end client_state_after kept_submitted
submits_unwaiting opened kept any count a plan keeps next is within few =
    let k : ClientState = unwaiting any in
    let later : AllByRecursion (λ end. k.written < end) (submitted_ends opened k a) = submit_later opened k a within in
    let calls : CallsKeep kept.calls kept.next_xid k = keeps.calls refl in
    let memory : MemoryKeeps kept.memory k count = keeps.memory refl in
    let after : ClientState = client_state_after opened k (CallSubmitted count a) in
    let o : OutstandingCall = outstanding_of k a in
    let plan_is : o.plan ≡ plan = planned k a plan is in
    let left : ends_written k.written (k.send_ends ++ submitted_ends opened k a) ≡ ends_written k.written k.send_ends = left_append k.written k.send_ends (submitted_ends opened k a) later in
    let before : Registers k.regions k.accesses_received count kept.memory k.stag = record { offered = memory.offered; holds = memory.holds; none_dead = memory.none_dead; below = memory.below; next_is = memory.next } in
    let registered : Registers (k.regions ++ map (region_of a.xid count) (buffers k.stag plan)) k.accesses_received count (registered_all kept.memory (buffers k.stag plan)) (k.stag + length (buffers k.stag plan)) =
    register_all a.xid count k.accesses_received (buffers k.stag plan) k.regions kept.memory k.stag keeps.accesses (buffers_numbered k.stag plan) before in
    let all : Registers (k.regions ++ map (region_of a.xid count) (buffers k.stag o.plan)) k.accesses_received count (registered_all kept.memory (buffers kept.memory.next plan)) (k.stag + regions_needed o.plan) =
    subst (λ (n : ℕ). Registers (k.regions ++ map (region_of a.xid count) (buffers k.stag o.plan)) k.accesses_received count (registered_all kept.memory (buffers n plan)) (k.stag + regions_needed o.plan)) (sym memory.next)
    (subst (λ (p : Plan). Registers (k.regions ++ map (region_of a.xid count) (buffers k.stag p)) k.accesses_received count (registered_all kept.memory (buffers k.stag plan)) (k.stag + regions_needed p)) (sym plan_is)
    (subst (λ (n : ℕ). Registers (k.regions ++ map (region_of a.xid count) (buffers k.stag plan)) k.accesses_received count (registered_all kept.memory (buffers k.stag plan)) (k.stag + n)) (buffers_count k.stag plan) registered)) in
    let own : IsKeptCall after (kept_of kept.next_xid kept.sends a.call plan kept.memory.next) o = record {
      xid = sym next;
      send = keeps.sends;
      sent = sym (ap (ltb k.sends) left ∙ le-ltb k.sends (ends_written k.written k.send_ends) few);
      revoked = refl;
      call = refl;
      write = λ i. (lists_of (memory.next i) (sym plan_is i)).write;
      reply = λ i. (lists_of (memory.next i) (sym plan_is i)).reply;
      planned = plan_is ∙ planned_by_lists (call_payload a.xid a.call) a.form k.up_max k.down_max kept.memory.next plan (plan_anew any a plan is);
      given = λ i. map (λ (b : Buffer). b.stag) (buffers (memory.next i) (sym plan_is i));
      stags = λ i. map (λ (b : Buffer). b.stag) (buffers (memory.next i) (sym plan_is i));
    } in
    keeps_live opened (kept_submitted kept a.call plan) after count keeps.ended (ap (λ (n : ℕ). n + 1) keeps.xid) (ap (λ (n : ℕ). n + 1) keeps.sends) keeps.grant keeps.up keeps.down keeps.invalidates keeps.opening
    (let before = keeps.outstanding in let none = length-append k.outstanding [] in let one = length-append k.outstanding (o ∷ []) in let all = length-append (k.outstanding ++ o ∷ []) [] in omega (arith, before, none, one, all)) keeps.accesses
    (record { next = all.next_is; offered = all.offered; holds = all.holds; none_dead = all.none_dead; below = all.below })
    (calls_submitted opened kept.calls kept.next_xid k count a (kept_of kept.next_xid kept.sends a.call plan kept.memory.next) calls memory.below left next own)

pub kept_submits : KeptSubmits
kept_submits opened kept k count a plan keeps none next is within few =
    let same : unwaiting k ≡ k = (λ i. record k { waiting = sym none i }) in
    subst (λ (x : ClientState). ClientKeeps opened (kept_submitted kept a.call plan) (next_end_state (client_rules opened) (live x) (CallSubmitted count a)) count) same
    (submits_unwaiting opened kept k count a plan (subst (λ (x : ClientState). ClientKeeps opened kept (live x) count) (sym same) keeps) next
    (subst (λ (x : ClientState). plan_for x a.xid a.call a.form ≡ Ok plan) (sym same) is) within few)
