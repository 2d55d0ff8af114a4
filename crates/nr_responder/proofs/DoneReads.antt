-- What the code made of the call of a read that is done is what is said of it.
use Rattle.std.proofs.Common.{◌≡◌, ◌≢◌, ℕ, zero, suc, ◌+◌, ◌-◌, ◌<◌, ◌≤◌, Bool, true, false, not, cond, eqb, ◌||◌, List, [], ◌∷◌, ◌++◌, length, take, get_or, map, Some, None, refl, sym, ap, subst, ◌∙◌, arith, append-nil, inl, inr, All}
use Rattle.std.specs.Prelude.{◌⊎◌, slice_get, find, min}
use Rattle.std.specs.List.{AllByRecursion, list_any, remove}
use Rattle.std.proofs.lemmas.Bool.{eqb-true, eq-eqb, ne_eqb}
use Rattle.std.proofs.lemmas.List.{length-map, length-take, map-append}
use Rattle.nr_link.specs.Limits.{open_reads_max}
use Rattle.nr_endpoint.specs.LinkState.{LinkState}
use Rattle.nr_endpoint.specs.Calls.{after_call}
use Rattle.nr_endpoint.specs.Calls.Call.{OutOfMemory, Stop}
use Rattle.nr_reduce.specs.ServerState.{PendingCall, PendingRead, ReadyCall, ServerState}
use Rattle.nr_reduce.specs.ServerReads.{is_read}
use Rattle.nr_reduce.specs.ServerMessages.{by_payload}
use Rattle.nr_reduce.specs.ServerMessages.CallVerdict.{Refuses, IsReady}
use Rattle.nr_responder.specs.declared.call.Pending.{Pending}
use Rattle.nr_responder.specs.declared.call.Ready.{Ready}
use Rattle.nr_responder.specs.declared.call.ReadEntry.{ReadEntry}
use Rattle.nr_responder.specs.declared.server_end.ServerEnd.{ServerEnd}
use Rattle.nr_responder.specs.Fetching.{Fetching}
use Rattle.nr_responder.specs.ResponderState.{ResponderSide}
use Rattle.nr_responder.specs.private.Handling.{IsServerOf, OrOut, out}
use Rattle.nr_responder.specs.Keeping.{IsReadyOf, OwnNumbers, OwnReady, OwnXids}
use Rattle.nr_responder.specs.Sound.{AreFetched, QueuesInvariant, around_of, HasRoom, InReceive, ServerEndInvariant, payloads_of, state_of, xids_of}
use Rattle.nr_responder.specs.Views.{call_view, read_view, sink_view}
use Rattle.nr_responder.specs.private.Reading.{opening}
use Rattle.nr_responder.specs.private.DoneReads.{IsOfCall, ReadsOn, ReadyMade}
use Rattle.nr_responder.specs.private.ReadsDone.{EndsLink, HandlesRead, Impossible, IsComplete, IsFine, MakesReady, NothingReady, ReadHandled, ReadTakes, RefusesCall, calls_without, ended_as, has_bad_chunk, read_payload, reading_on, still_open}
use Rattle.nr_responder.specs.private.ReadsDone.Impossible.{Crowded, Shared}
use Rattle.nr_responder.specs.private.ReadsDone.NothingReady.{Gone, Waits}
use Rattle.nr_responder.specs.private.ReadsDone.ReadHandled.{GoesOn, Readies, Stops, Refused}
use Rattle.nr_responder.specs.private.ReadsDone.ReadTakes.{Requests, Terminates, Answers}
use Rattle.std.specs.Prelude.{set, vec_capacity}
use Rattle.std.specs.VecDeque.{deque_capacity}
use Rattle.std.proofs.lemmas.List.{length-set}
use Rattle.std.proofs.lemmas.List.Elements.{All-set}
use Rattle.nr_reduce.specs.Holds.{chunk_error}
use Rattle.nr_responder.specs.private.ReadsDone.{reads_without, with_sent}
use Rattle.nr_responder.proofs.Answered.{get_view, same_item}
use Rattle.nr_responder.proofs.Windows.{around_set, more_outside}
use Rattle.nr_responder.proofs.Executed.{one_out_lem, without_call}

abbrev pub without : ResponderSide → List PendingRead → ResponderSide
without v reads = record { link = v.link; calls = v.calls; ready = v.ready; credits = v.credits; fetching = record { reads = reads; sinks = v.fetching.sinks; payloads = v.fetching.payloads } }

-- ---- The responder and its view

pub on_state : (before after : ServerEnd) (state : LinkState) (kept : ℕ) → ReadsOn state kept before after → after.ready.items ≡ before.ready.items →
    state_of after ≡ reading_on (state_of before) state (map call_view before.calls.items) (map read_view before.reads.items) kept [] []
on_state before after state kept h ready = λ i. record {
  link = h.link i;
  calls = map call_view (h.calls i);
  ready = (ap xids_of ready ∙ sym (append-nil (xids_of before.ready.items))) i;
  credits = h.credits i;
  fetching = record { reads = map read_view (h.reads i); sinks = h.sinks i; payloads = (ap payloads_of ready ∙ sym (append-nil (payloads_of before.ready.items))) i };
}

pub ready_state : (before after : ServerEnd) (state : LinkState) (kept xid : ℕ) (payload : List ℕ) (ready : List Ready) → ReadsOn state kept before after → ready ≡ before.ready.items ++ record { xid = xid; payload = Some payload } ∷ [] →
    record { link = after.endpoint.link; calls = map call_view after.calls.items; ready = xids_of ready; credits = after.credits; fetching = record { reads = map read_view after.reads.items; sinks = map sink_view after.sinks.items; payloads = payloads_of ready } }
    ≡ reading_on (state_of before) state (map call_view before.calls.items) (map read_view before.reads.items) kept (xid ∷ []) (Some payload ∷ [])
ready_state before after state kept xid payload ready h is = λ i. record {
  link = h.link i;
  calls = map call_view (h.calls i);
  ready = (ap xids_of is ∙ map-append (λ (q : Ready). q.xid) before.ready.items (record { xid = xid; payload = Some payload } ∷ [])) i;
  credits = h.credits i;
  fetching = record {
    reads = map read_view (h.reads i);
    sinks = h.sinks i;
    payloads = (ap payloads_of is ∙ map-append (λ (q : Ready). q.payload) before.ready.items (record { xid = xid; payload = Some payload } ∷ [])) i;
  };
}

-- ---- Nothing is ready by it

pub goes_on : (v after : ResponderSide) (r : PendingRead) (kept : ℕ) → kept ≡ still_open r v.fetching.reads → NothingReady v r v.fetching.reads → after ≡ reading_on v v.link.state v.calls v.fetching.reads kept [] [] → HandlesRead v r v.fetching.reads after
goes_on v after r kept same nothing is = inr (inl (GoesOn nothing (is ∙ ap (λ (n : ℕ). reading_on v v.link.state v.calls v.fetching.reads n [] []) same)))

pub stops_on : (v w after : ResponderSide) (r : PendingRead) (kept : ℕ) → kept ≡ still_open r v.fetching.reads → NothingReady v r v.fetching.reads → opening kept v.fetching.reads ≢ [] → w ≡ v → after ≡ out w → HandlesRead v r v.fetching.reads after
stops_on v w after r kept same nothing some w_is is =
    inr (inr (record { takes = Requests (inl nothing) (subst (λ (n : ℕ). opening n v.fetching.reads ≢ []) same some); fetching = v.fetching; sinks = refl; fewer = omega arith; is_out = is ∙ ap out w_is }))

-- ---- A call is complete by it

pub readies : (v w after : ResponderSide) (r : PendingRead) (kept at : ℕ) (c : PendingCall) (payload : List ℕ) → IsOfCall v r kept at c → has_bad_chunk v c r v.fetching.reads ≡ false → is_read v.fetching.reads c.number ≡ true →
    by_payload c (read_payload v c) ≡ IsReady (record { number = c.number; xid = c.xid; payload = payload }) → w ≡ v → ReadyMade w kept c.xid payload after → HandlesRead v r v.fetching.reads after
readies v w after r kept at c payload own fine read judged w_is made = by (subst (λ (x : ResponderSide). ReadyMade x kept c.xid payload after) w_is made)
  where
    m : MakesReady v r v.fetching.reads
    m = record { call = c; complete = record { fine = record { found = own.found; fine = fine }; read = read }; payload = payload; judged = judged }

    by : ReadyMade v kept c.xid payload after → HandlesRead v r v.fetching.reads after
    by (inl is) = inr (inl (Readies m (is ∙ ap (λ (n : ℕ). reading_on v v.link.state v.calls v.fetching.reads n (c.xid ∷ []) (Some payload ∷ [])) own.open_reads)))
    by (inr none) = inr (inr (record { takes = Requests (inr m) (subst (λ (n : ℕ). opening n v.fetching.reads ≢ []) own.open_reads none.0); fetching = v.fetching; sinks = refl; fewer = omega arith; is_out = none.1 }))

pub ends_for : (v w after : ResponderSide) (r : PendingRead) (kept at : ℕ) (c : PendingCall) (reason : ℕ) → IsOfCall v r kept at c → has_bad_chunk v c r v.fetching.reads ≡ false → is_read v.fetching.reads c.number ≡ true → 5 ≤ reason →
    by_payload c (read_payload v c) ≡ Refuses reason → w ≡ v → OrOut w (after_call w.link (Stop reason)) after → HandlesRead v r v.fetching.reads after
ends_for v w after r kept at c reason own fine read other judged w_is ended = by (subst (λ (x : ResponderSide). OrOut x (after_call x.link (Stop reason)) after) w_is ended)
  where
    e : EndsLink v r v.fetching.reads reason
    e = record { call = c; complete = record { fine = record { found = own.found; fine = fine }; read = read }; judged = judged }

    by : OrOut v (after_call v.link (Stop reason)) after → HandlesRead v r v.fetching.reads after
    by (inl is) = inr (inl (Stops reason other e v.fetching refl (omega arith) is))
    by (inr is) = inr (inr (record { takes = Terminates reason other e; fetching = v.fetching; sinks = refl; fewer = omega arith; is_out = is }))

-- ---- A call is refused by it

none_out : (n : ℕ) (calls : List PendingCall) → list_any (λ c. eqb c.number n) calls ≡ false → calls_without n calls ≡ calls
none_out n [] is = refl
none_out n (c ∷ calls) is = by (none_out n calls) (eqb c.number n) refl is
  where
    by : (list_any (λ d. eqb d.number n) calls ≡ false → calls_without n calls ≡ calls) → (b : Bool) → eqb c.number n ≡ b → (b || list_any (λ d. eqb d.number n) calls) ≡ false → cond (not (eqb c.number n)) (c ∷ calls_without n calls) (calls_without n calls) ≡ c ∷ calls
    by others true is h = absurd cc
    by others false is h = ap (λ (b : Bool). cond (not b) (c ∷ calls_without n calls) (calls_without n calls)) is ∙ ap (λ (cs : List PendingCall). c ∷ cs) (others h)

pub removed_is : (n at : ℕ) (calls : List PendingCall) (call : PendingCall) → slice_get calls at ≡ Some call → call.number ≡ n → list_any (λ c. eqb c.number n) (remove calls at) ≡ false → remove calls at ≡ calls_without n calls
removed_is n zero [] call is own none = absurd cc
removed_is n (suc at) [] call is own none = absurd cc
removed_is n zero (c ∷ calls) call is own none =
    let same : c ≡ call = cc in
    sym (ap (λ (b : Bool). cond (not b) (c ∷ calls_without n calls) (calls_without n calls)) (eq-eqb c.number n (ap (λ (d : PendingCall). d.number) same ∙ own)) ∙ none_out n calls none)
removed_is n (suc at) (c ∷ calls) call is own none = by (removed_is n at calls call is own) (eqb c.number n) refl none
  where
    by : (list_any (λ d. eqb d.number n) (remove calls at) ≡ false → remove calls at ≡ calls_without n calls) → (b : Bool) → eqb c.number n ≡ b → (b || list_any (λ d. eqb d.number n) (remove calls at)) ≡ false → c ∷ remove calls at ≡ cond (not (eqb c.number n)) (c ∷ calls_without n calls) (calls_without n calls)
    by others true is h = absurd cc
    by others false is h = ap (λ (cs : List PendingCall). c ∷ cs) (others h) ∙ sym (ap (λ (b : Bool). cond (not b) (c ∷ calls_without n calls) (calls_without n calls)) is)

-- ---- Which call it is

pub find_at : (n at : ℕ) (calls : List Pending) (d : Pending) → at < length calls → (get_or calls at d).number ≡ n → ((k : ℕ) (e : Pending) → k < at → (get_or calls k e).number ≢ n) → find (λ c. eqb c.number n) (map call_view calls) ≡ Some (call_view (get_or calls at d))
find_at n at [] d lt own first = absurd (omega (arith, lt))
find_at n zero (c ∷ calls) d lt own first = ap (λ (b : Bool). cond b (Some (call_view c)) (find (λ x. eqb x.number n) (map call_view calls))) (eq-eqb c.number n own)
find_at n (suc at) (c ∷ calls) d lt own first =
    ap (λ (b : Bool). cond b (Some (call_view c)) (find (λ x. eqb x.number n) (map call_view calls))) (ne_eqb c.number n (first zero d (omega arith)))
    ∙ find_at n at calls d (omega (arith, lt)) own (λ k e le. first (suc k) e (omega (arith, le)))

pub find_none : (n : ℕ) (calls : List Pending) → ((k : ℕ) (d : Pending) → k < length calls → (get_or calls k d).number ≢ n) → find (λ c. eqb c.number n) (map call_view calls) ≡ None
find_none n [] none = refl
find_none n (c ∷ calls) none =
    ap (λ (b : Bool). cond b (Some (call_view c)) (find (λ x. eqb x.number n) (map call_view calls))) (ne_eqb c.number n (none zero c (omega arith))) ∙ find_none n calls (λ k d lt. none (suc k) d (omega (arith, lt)))

any_found : (n : ℕ) (calls : List PendingCall) (c : PendingCall) → find (λ d. eqb d.number n) calls ≡ Some c → list_any (λ d. eqb d.number n) calls ≡ true
any_found n [] c is = absurd cc
any_found n (d ∷ calls) c is = by (any_found n calls c) (eqb d.number n) refl is
  where
    by : (find (λ x. eqb x.number n) calls ≡ Some c → list_any (λ x. eqb x.number n) calls ≡ true) → (b : Bool) → eqb d.number n ≡ b → cond b (Some d) (find (λ x. eqb x.number n) calls) ≡ Some c → (eqb d.number n || list_any (λ x. eqb x.number n) calls) ≡ true
    by rest true e h = ap (λ (b : Bool). b || list_any (λ x. eqb x.number n) calls) e
    by rest false e h = ap (λ (b : Bool). b || list_any (λ x. eqb x.number n) calls) e ∙ rest h

pub crowded : (v : ResponderSide) (r : PendingRead) (kept at : ℕ) (c : PendingCall) (after : ResponderSide) → IsOfCall v r kept at c → length v.calls ≤ length v.ready → HandlesRead v r v.fetching.reads after
crowded v r kept at c after own le = inl (Crowded (any_found r.number v.calls c own.found) le)

pub kept_open : (n : ℕ) (r : PendingRead) (rest : List PendingRead) (reads : List ReadEntry) → map read_view reads ≡ r ∷ rest → n ≡ min (length reads) open_reads_max - 1 → n ≡ still_open r rest
kept_open n r rest reads is count =
    let len : length (take open_reads_max (r ∷ rest)) ≡ min open_reads_max (length (r ∷ rest)) = length-take open_reads_max (r ∷ rest) in
    let all : length (r ∷ rest) ≡ length reads = sym (ap (λ (rs : List PendingRead). length rs) is) ∙ length-map reads read_view in
    omega (arith, len, all, count)

-- ---- No server of a run

kept_there : (x y : ℕ) (calls : List PendingCall) → y ≢ x → list_any (λ c. eqb c.xid y) calls ≡ true → list_any (λ c. eqb c.xid y) (without_call x calls) ≡ true
kept_there x y [] ne is = absurd cc
kept_there x y (c ∷ calls) ne is = by (kept_there x y calls ne) (eqb c.xid x) refl (eqb c.xid y) refl is
  where
    by : (list_any (λ d. eqb d.xid y) calls ≡ true → list_any (λ d. eqb d.xid y) (without_call x calls) ≡ true) → (a : Bool) → eqb c.xid x ≡ a → (b : Bool) → eqb c.xid y ≡ b → (b || list_any (λ d. eqb d.xid y) calls) ≡ true →
        list_any (λ d. eqb d.xid y) (cond (not (eqb c.xid x)) (c ∷ without_call x calls) (without_call x calls)) ≡ true
    by rest true is_x true is_y h = absurd (ne (sym (eqb-true c.xid y is_y) ∙ eqb-true c.xid x is_x))
    by rest true is_x false is_y h = ap (λ (a : Bool). list_any (λ d. eqb d.xid y) (cond (not a) (c ∷ without_call x calls) (without_call x calls))) is_x ∙ rest h
    by rest false is_x true is_y h = ap (λ (a : Bool). list_any (λ d. eqb d.xid y) (cond (not a) (c ∷ without_call x calls) (without_call x calls))) is_x ∙ ap (λ (b : Bool). b || list_any (λ d. eqb d.xid y) (without_call x calls)) is_y
    by rest false is_x false is_y h = ap (λ (a : Bool). list_any (λ d. eqb d.xid y) (cond (not a) (c ∷ without_call x calls) (without_call x calls))) is_x ∙ ap (λ (b : Bool). b || list_any (λ d. eqb d.xid y) (without_call x calls)) is_y ∙ rest h

none_kept : (x y : ℕ) (calls : List PendingCall) → list_any (λ c. eqb c.xid y) calls ≡ false → list_any (λ c. eqb c.xid y) (without_call x calls) ≡ false
none_kept x y [] is = refl
none_kept x y (c ∷ calls) is = by (none_kept x y calls) (eqb c.xid y) refl (not (eqb c.xid x)) is
  where
    by : (list_any (λ d. eqb d.xid y) calls ≡ false → list_any (λ d. eqb d.xid y) (without_call x calls) ≡ false) → (b : Bool) → eqb c.xid y ≡ b → (a : Bool) → (b || list_any (λ d. eqb d.xid y) calls) ≡ false → list_any (λ d. eqb d.xid y) (cond a (c ∷ without_call x calls) (without_call x calls)) ≡ false
    by rest true is a h = absurd cc
    by rest false is true h = ap (λ (b : Bool). b || list_any (λ d. eqb d.xid y) (without_call x calls)) is ∙ rest h
    by rest false is false h = rest h

own_kept : (x : ℕ) (calls : List PendingCall) → OwnXids calls → OwnXids (without_call x calls)
own_kept x [] own = tt
own_kept x (c ∷ calls) own = by (own_kept x calls own.1) (not (eqb c.xid x))
  where
    by : OwnXids (without_call x calls) → (b : Bool) → OwnXids (cond b (c ∷ without_call x calls) (without_call x calls))
    by rest true = (none_kept x c.xid calls own.0, rest)
    by rest false = rest

-- distinct calls that are ready, each pending, and a pending call that isn't
fewer_ready : (calls : List PendingCall) (ready : List ReadyCall) (x : ℕ) → OwnXids calls → OwnReady ready → AllByRecursion (λ q. (list_any (λ c. eqb c.xid q.xid) calls ≡ true) × (q.xid ≢ x)) ready → list_any (λ c. eqb c.xid x) calls ≡ true → length ready < length calls
fewer_ready [] [] x own own_ready all there = absurd cc
fewer_ready (c ∷ calls) [] x own own_ready all there = omega arith
fewer_ready calls (q ∷ ready) x own own_ready all there =
    let fewer : length (without_call q.xid calls) + 1 ≡ length calls = one_out_lem q.xid calls own all.0.0 in
    let more : length ready < length (without_call q.xid calls) =
    fewer_ready (without_call q.xid calls) ready x (own_kept q.xid calls own) own_ready.1 (others ready own_ready.0 all.1) (kept_there q.xid x calls (λ e. all.0.1 (sym e)) there) in
    omega (arith, fewer, more)
  where
    others : (ready : List ReadyCall) → list_any (λ p. eqb p.xid q.xid) ready ≡ false → AllByRecursion (λ p. (list_any (λ c. eqb c.xid p.xid) calls ≡ true) × (p.xid ≢ x)) ready →
        AllByRecursion (λ p. (list_any (λ c. eqb c.xid p.xid) (without_call q.xid calls) ≡ true) × (p.xid ≢ x)) ready
    others [] none all = tt
    others (p ∷ ready) none all = by (eqb p.xid q.xid) refl none (λ e. others ready e all.1)
      where
        by : (b : Bool) → eqb p.xid q.xid ≡ b → (b || list_any (λ o. eqb o.xid q.xid) ready) ≡ false →
            (list_any (λ o. eqb o.xid q.xid) ready ≡ false → AllByRecursion (λ o. (list_any (λ c. eqb c.xid o.xid) (without_call q.xid calls) ≡ true) × (o.xid ≢ x)) ready) →
            AllByRecursion (λ o. (list_any (λ c. eqb c.xid o.xid) (without_call q.xid calls) ≡ true) × (o.xid ≢ x)) (p ∷ ready)
        by true e h rest = absurd cc
        by false e h rest = ((kept_there q.xid p.xid calls (λ same. (let two : true ≡ false = sym (eq-eqb p.xid q.xid same) ∙ e in absurd cc)) all.0.0, all.0.1), rest h)

any_more : (a b : Bool) → b ≡ true → (a || b) ≡ true
any_more true b e = refl
any_more false b e = e

-- the xid of a call with a number, and what is read of it
record XidOf (calls : List PendingCall) (n : ℕ) : Type 0 where
  pub call : PendingCall
  pub own : call.number ≡ n
  pub there : list_any (λ c. eqb c.xid call.xid) calls ≡ true
  pub all : (x m : ℕ) → AllByRecursion (λ d. d.xid ≡ x → d.number ≡ m) calls → call.xid ≡ x → call.number ≡ m

xid_of : (n : ℕ) (calls : List PendingCall) → list_any (λ c. eqb c.number n) calls ≡ true → XidOf calls n
xid_of n [] is = absurd cc
xid_of n (c ∷ calls) is = by (xid_of n calls) (eqb c.number n) refl is
  where
    by : (list_any (λ d. eqb d.number n) calls ≡ true → XidOf calls n) → (b : Bool) → eqb c.number n ≡ b → (b || list_any (λ d. eqb d.number n) calls) ≡ true → XidOf (c ∷ calls) n
    by rest true e h = record { call = c; own = eqb-true c.number n e; there = ap (λ (b : Bool). b || list_any (λ d. eqb d.xid c.xid) calls) (eq-eqb c.xid c.xid refl); all = λ x m all. all.0 }
    by rest false e h = (let x = rest h in record { call = x.call; own = x.own; there = any_more (eqb c.xid x.call.xid) (list_any (λ d. eqb d.xid x.call.xid) calls) x.there; all = λ y m all. x.all y m all.1 })

not_ready : (k : ServerState) (c : PendingCall) (ready : List ReadyCall) → is_read k.reads c.number ≡ false → ((x m : ℕ) → AllByRecursion (λ d. d.xid ≡ x → d.number ≡ m) k.calls → c.xid ≡ x → c.number ≡ m) → AllByRecursion (IsReadyOf k.calls k.reads) ready →
    AllByRecursion (λ q. (list_any (λ d. eqb d.xid q.xid) k.calls ≡ true) × (q.xid ≢ c.xid)) ready
not_ready k c [] left all h = tt
not_ready k c (q ∷ ready) left all h = (
  (
    h.0.pending,
    λ same. (let number : c.number ≡ q.number = all q.xid q.number h.0.own (sym same) in
        absurd (let two : true ≡ false = sym h.0.read ∙ ap (is_read k.reads) (sym number) ∙ left in cc)),
  ),
  not_ready k c ready left all h.1,
)

call_there : (n at : ℕ) (calls : List PendingCall) (c : PendingCall) → slice_get calls at ≡ Some c → c.number ≡ n → list_any (λ e. eqb e.number n) calls ≡ true
call_there n zero [] c is same = absurd cc
call_there n (suc at) [] c is same = absurd cc
call_there n zero (e ∷ calls) c is same = (let first : e ≡ c = cc in ap (λ (b : Bool). b || list_any (λ x. eqb x.number n) calls) (eq-eqb e.number n (ap (λ (x : PendingCall). x.number) first ∙ same)))
call_there n (suc at) (e ∷ calls) c is same = any_more (eqb e.number n) (list_any (λ x. eqb x.number n) calls) (call_there n at calls c is same)

no_others : (n at : ℕ) (calls : List PendingCall) (c : PendingCall) → OwnNumbers calls → slice_get calls at ≡ Some c → c.number ≡ n → list_any (λ d. eqb d.number n) (remove calls at) ≡ true → ⊥
no_others n zero [] c own is same any = absurd cc
no_others n (suc at) [] c own is same any = absurd cc
no_others n zero (d ∷ calls) c own is same any =
    let first : d ≡ c = cc in
    absurd (let two : true ≡ false = sym any ∙ ap (λ (m : ℕ). list_any (λ e. eqb e.number m) calls) (sym (ap (λ (e : PendingCall). e.number) first ∙ same)) ∙ own.0 in cc)
no_others n (suc at) (d ∷ calls) c own is same any = by (no_others n at calls c own.1 is same) (eqb d.number n) refl any
  where
    by : (list_any (λ e. eqb e.number n) (remove calls at) ≡ true → ⊥) → (b : Bool) → eqb d.number n ≡ b → (b || list_any (λ e. eqb e.number n) (remove calls at)) ≡ true → ⊥
    by rest true e h = absurd (let two : true ≡ false = sym (call_there n at calls c is same) ∙ ap (λ (m : ℕ). list_any (λ x. eqb x.number m) calls) (sym (eqb-true d.number n e)) ∙ own.0 in cc)
    by rest false e h = rest h

pub impossible_none : (k : ServerState) (v : ResponderSide) (r : PendingRead) (rest : List PendingRead) → IsServerOf k v → v.fetching.reads ≡ r ∷ rest → Impossible v r → ⊥
impossible_none k v r rest server reads (Crowded any le) =
    let x = xid_of r.number k.calls (ap (λ (cs : List PendingCall). list_any (λ c. eqb c.number r.number) cs) server.calls ∙ any) in
    let left : is_read k.reads x.call.number ≡ false =
    ap (is_read k.reads) x.own ∙ ap (λ (rs : List PendingRead). is_read rs r.number) (server.reads ∙ reads) ∙ ap (λ (b : Bool). not (b || list_any (λ q. eqb q.number r.number) rest)) (eq-eqb r.number r.number refl) in
    let less = fewer_ready k.calls k.ready x.call.xid server.is_server.xids server.is_server.ready_xids (not_ready k x.call k.ready left x.all server.is_server.ready) x.there in
    absurd (let calls = ap (λ (cs : List PendingCall). length cs) server.calls in let ready : length v.ready ≡ length k.ready = ap (λ (xs : List ℕ). length xs) server.ready ∙ length-map k.ready (λ (q : ReadyCall). q.xid) in omega (arith, less, le, calls, ready))
impossible_none k v r rest server reads (Shared at c place own any) =
    no_others r.number at v.calls c (subst OwnNumbers server.calls server.is_server.numbers) place own any

-- ---- Without the read that is done

-- what is said of a responder without the read is said of it with the read
pub with_read : (v : ResponderSide) (r : PendingRead) (rest all : List PendingRead) (after : ResponderSide) → HandlesRead (without v rest) r rest after → HandlesRead (without v all) r rest after
with_read v r rest all after = by
  where
    u : ResponderSide
    u = without v rest

    w : ResponderSide
    w = without v all

    fine : (c : PendingCall) → IsFine u r rest c → IsFine w r rest c
    fine c h = record { found = h.found; fine = h.fine }

    complete : (c : PendingCall) → IsComplete u r rest c → IsComplete w r rest c
    complete c h = record { fine = fine c h.fine; read = h.read }

    nothing : NothingReady u r rest → NothingReady w r rest
    nothing (Gone is) = Gone is
    nothing (Waits c h left) = Waits c (fine c h) left

    ready : MakesReady u r rest → MakesReady w r rest
    ready m = record { call = m.call; complete = complete m.call m.complete; payload = m.payload; judged = m.judged }

    ends : (reason : ℕ) → EndsLink u r rest reason → EndsLink w r rest reason
    ends reason m = record { call = m.call; complete = complete m.call m.complete; judged = m.judged }

    refuses : RefusesCall u r rest → RefusesCall w r rest
    refuses m = record { call = m.call; found = m.found; bad = m.bad }

    either : NothingReady u r rest ⊎ MakesReady u r rest → NothingReady w r rest ⊎ MakesReady w r rest
    either (inl n) = inl (nothing n)
    either (inr m) = inr (ready m)

    takes : ReadTakes u r rest → ReadTakes w r rest
    takes (Requests h some) = Requests (either h) some
    takes (Terminates reason other h) = Terminates reason other (ends reason h)
    takes (Answers h) = Answers (refuses h)

    handled : ReadHandled u r rest after → ReadHandled w r rest after
    handled (GoesOn h is) = GoesOn (nothing h) is
    handled (Readies m is) = Readies (ready m) is
    handled (Stops reason other h fetching sinks fewer is) = Stops reason other (ends reason h) fetching sinks fewer is
    handled (Refused h is) = Refused (refuses h) is

    by : HandlesRead u r rest after → HandlesRead w r rest after
    by (inl (Crowded any le)) = inl (Crowded any le)
    by (inl (Shared at c place own any)) = inl (Shared at c place own any)
    by (inr (inl h)) = inr (inl (handled h))
    by (inr (inr h)) = inr (inr (record { takes = takes h.takes; fetching = h.fetching; sinks = h.sinks; fewer = h.fewer; is_out = h.is_out }))

-- ---- The call of a read

-- some call, if none is at hand
pub no_call : Pending
no_call = record { number = 0; xid = 0; buf = []; len = 0; stream_at = 0; inline = true; room = None; around = 0; target = None; item = None }

pub call_is : (v : ResponderSide) (r : PendingRead) (calls : List Pending) (at kept : ℕ) (d : Pending) → v.calls ≡ map call_view calls → at < length calls → (get_or calls at d).number ≡ r.number → ((k : ℕ) (e : Pending) → k < at → (get_or calls k e).number ≢ r.number) →
    kept ≡ still_open r v.fetching.reads → IsOfCall v r kept at (call_view (get_or calls at d))
call_is v r calls at kept d same lt own first open_reads = record {
  place = ap (λ (cs : List PendingCall). slice_get cs at) same ∙ get_view calls at (get_or calls at d) lt (same_item calls at (get_or calls at d) d lt);
  found = ap (λ (cs : List PendingCall). find (λ c. eqb c.number r.number) cs) same ∙ find_at r.number at calls d lt own first;
  own = own;
  open_reads = open_reads;
}

-- a call that is refused
pub refuses : (v : ResponderSide) (r : PendingRead) (kept at : ℕ) (c : PendingCall) (calls : List PendingCall) (reads : List PendingRead) (after : ResponderSide) → IsOfCall v r kept at c → has_bad_chunk v c r v.fetching.reads ≡ true → calls ≡ remove v.calls at → reads ≡ reads_without r.number kept v.fetching.reads →
    after ≡ reading_on v (with_sent v.link.state (chunk_error c.xid v.credits.word)) calls reads kept [] [] → HandlesRead v r v.fetching.reads after
refuses v r kept at c calls reads after own bad calls_are reads_are is = by (list_any (λ d. eqb d.number r.number) (remove v.calls at)) refl
  where
    by : (b : Bool) → list_any (λ d. eqb d.number r.number) (remove v.calls at) ≡ b → HandlesRead v r v.fetching.reads after
    by true e = inl (Shared at c own.place own.own e)
    by false e =
        let left : calls ≡ calls_without c.number v.calls = calls_are ∙ removed_is r.number at v.calls c own.place own.own e ∙ ap (λ (n : ℕ). calls_without n v.calls) (sym own.own) in
        let reads_left : reads ≡ reads_without c.number (still_open r v.fetching.reads) v.fetching.reads = reads_are ∙ (λ i. reads_without (sym own.own i) (own.open_reads i) v.fetching.reads) in
        inr (inl (Refused (record { call = c; found = own.found; bad = bad }) (is ∙ (λ i. reading_on v (with_sent v.link.state (chunk_error c.xid v.credits.word)) (left i) (reads_left i) (own.open_reads i) [] []))))

pub refusal_out : (v after : ResponderSide) (r : PendingRead) (kept at : ℕ) (c : PendingCall) (fetching : Fetching) → IsOfCall v r kept at c → has_bad_chunk v c r v.fetching.reads ≡ true → fetching.sinks ≡ v.fetching.sinks → length fetching.reads ≤ length v.fetching.reads →
    after ≡ ended_as v (after_call v.link OutOfMemory) fetching → HandlesRead v r v.fetching.reads after
refusal_out v after r kept at c fetching own bad sinks fewer is = inr (inr (record { takes = Answers (record { call = c; found = own.found; bad = bad }); fetching = fetching; sinks = sinks; fewer = fewer; is_out = is }))

-- ---- The room of a payload is taken out of its call

pub emptied : Pending → Pending
emptied c = record { number = c.number; xid = c.xid; buf = c.buf; len = c.len; stream_at = c.stream_at; inline = c.inline; room = None; around = c.around; target = c.target; item = c.item }

pub emptied_sound : (r : ServerEnd) (at : ℕ) (c : Pending) (calls : List Pending) → calls ≡ set r.calls.items at c → InReceive r.endpoint.link.state.receive_queue.receive_length c → HasRoom r.endpoint.outside r.sinks.items r.reads.items c → at < length r.calls.items → c.around ≡ (get_or r.calls.items at c).around → ServerEndInvariant r →
    QueuesInvariant 0 r.endpoint.link.state calls r.ready.items r.used.items (vec_capacity r.calls) (deque_capacity r.ready) (deque_capacity r.used) × AreFetched r.endpoint calls r.reads.items r.sinks.items
emptied_sound r at c calls is whole room lt same h =
    let count : length calls ≡ length r.calls.items = ap (λ (xs : List Pending). length xs) is ∙ length-set r.calls.items at c in (
      record {
        unsent_is = h.0.unsent_is;
        lent = omega (arith, h.0.lent, count);
        few = omega (arith, h.0.few, count);
        bufs = subst (λ (xs : List Pending). All (InReceive r.endpoint.link.state.receive_queue.receive_length) xs) (sym is) (All-set (InReceive r.endpoint.link.state.receive_queue.receive_length) r.calls.items at c whole h.0.bufs);
        used_bufs = h.0.used_bufs;
        calls_fit = h.0.calls_fit;
        ready_fit = h.0.ready_fit;
        used_fit = h.0.used_fit;
        limit = h.0.limit;
      },
      record { held = h.1.held; short = h.1.short; rooms = subst (λ (xs : List Pending). All (HasRoom r.endpoint.outside r.sinks.items r.reads.items) xs) (sym is) (All-set (HasRoom r.endpoint.outside r.sinks.items r.reads.items) r.calls.items at c room h.1.rooms); outside = more_outside r.endpoint (around_of r.calls.items) (around_of calls) (let sum = around_set r.calls.items at c c lt in let set_is = ap (λ (cs : List Pending). around_of cs) is in omega (arith, sum, set_is, same)) h.1.outside },
    )

-- ---- The first read

pub split_first : (reads later : List ReadEntry) (first : ReadEntry) → 0 < length reads → first ≡ get_or reads 0 first → later ≡ remove reads 0 → map read_view reads ≡ read_view first ∷ map read_view later
split_first [] later first some is left = absurd (omega (arith, some))
split_first (x ∷ reads) later first some is left = λ i. read_view (sym is i) ∷ map read_view (sym left i)

pub first_read : (v after : ResponderSide) (reads later : List ReadEntry) (first : ReadEntry) (r : PendingRead) (rest : List PendingRead) → 0 < length reads → first ≡ get_or reads 0 first → later ≡ remove reads 0 → map read_view reads ≡ r ∷ rest →
    HandlesRead (without v (map read_view later)) (read_view first) (map read_view later) after → HandlesRead (without v (map read_view reads)) r rest after
first_read v after reads later first r rest some is left reads_are h =
    let both : read_view first ∷ map read_view later ≡ r ∷ rest = sym (split_first reads later first some is left) ∙ reads_are in
    let one : read_view first ≡ r = cc in
    let others : map read_view later ≡ rest = cc in
    with_read v r rest (map read_view reads) after (subst (λ (rs : List PendingRead). HandlesRead (without v rs) r rs after) others (subst (λ (q : PendingRead). HandlesRead (without v (map read_view later)) q (map read_view later) after) one h))
