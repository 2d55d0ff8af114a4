-- A call that waits to be sent again has no answer: the requester keeps it as outstanding.
use Rattle.std.specs.Prelude.{◌||◌, is_some}
use Rattle.std.specs.List.{AllByRecursion, Contains, find, list_any}
use Rattle.std.proofs.Common.{◌≡◌, ◌≢◌, ℕ, ◌+◌, ◌≤◌, ◌<◌, arith, Bool, true, false, cond, eqb, eqb-true, List, [], ◌∷◌, ◌++◌, length, map, None, Some, suc, inl, inr, ◌⊎◌, refl, ap, sym, ◌∙◌, ⊎_elim}
use Rattle.std.proofs.lemmas.Bool.{eq-eqb}
use Rattle.std.proofs.lemmas.List.Elements.{Contains-append_cases, Contains-push_cases}
use Rattle.nr_reduce.specs.ClientState.{OutstandingCall, WaitingCall}
use Rattle.nr_reduce.specs.History.{AcceptedCall}
use Rattle.nr_reduce.specs.KeptCalls.{numbered_calls, numbered_from, KeptCall}
use Rattle.nr_reduce.specs.KeptClient.{AreRising, HasRegionsOf, IsWaiting}
use Rattle.nr_reduce.specs.Run.{client}
use Rattle.nr_reduce.specs.declared.mark.LinkParameters.{LinkParameters}
use Rattle.nr_reduce.specs.declared.mark.Mark.{Mark}
use Rattle.nr_requester.specs.OpenCalls.{found_answer, found_call}
use Rattle.nr_requester.specs.RequesterState.{RequesterSide, RequesterState, StoredCall, kept_call, kept_calls}
use Rattle.nr_laws.proofs.DistinctKeys.{or_left_lem, or_right_lem}
use Rattle.nr_world.specs.LinkStands.{StandsForClient, as_waiting, waiting_calls}

-- ---- As many different numbers as a list has items, all of them in the list, are all of it

abbrev is_in : ℕ → List ℕ → Bool
is_in n xs = list_any (λ (x : ℕ). eqb x n) xs

abbrev without : ℕ → List ℕ → List ℕ
without n [] = []
without n (x ∷ xs) = cond (eqb x n) xs (x ∷ without n xs)

abbrev Rises : List ℕ → Type 0
Rises [] = Unit {0}
Rises (x ∷ xs) = AllByRecursion (λ (y : ℕ). x < y) xs × Rises xs

abbrev AreIn : List ℕ → List ℕ → Type 0
AreIn ys xs = AllByRecursion (λ (x : ℕ). is_in x ys ≡ true) xs

false_true : false ≢ true
false_true e = absurd cc

one_less : (n : ℕ) (xs : List ℕ) → is_in n xs ≡ true → length (without n xs) + 1 ≡ length xs
one_less n [] e = absurd (false_true e)
one_less n (x ∷ xs) e = by (eqb x n) e (one_less n xs)
  where
    by : (b : Bool) → (b || is_in n xs) ≡ true → (is_in n xs ≡ true → length (without n xs) + 1 ≡ length xs) → length (cond b xs (x ∷ without n xs)) + 1 ≡ length (x ∷ xs)
    by true e rest = omega arith
    by false e rest = (let less = rest e in omega (arith, less))

in_others : (n m : ℕ) (xs : List ℕ) → m ≢ n → is_in m xs ≡ true → is_in m (without n xs) ≡ true
in_others n m [] ne e = e
in_others n m (x ∷ xs) ne e = by (eqb x n) refl (eqb x m) refl e (in_others n m xs ne)
  where
    by : (b : Bool) → eqb x n ≡ b → (c : Bool) → eqb x m ≡ c → (c || is_in m xs) ≡ true → (is_in m xs ≡ true → is_in m (without n xs) ≡ true) → is_in m (cond b xs (x ∷ without n xs)) ≡ true
    by true here true there e rest = absurd (ne (sym (eqb-true x m there) ∙ eqb-true x n here))
    by true here false there e rest = e
    by false here true there e rest = or_left_lem (eqb x m) (is_in m (without n xs)) there
    by false here false there e rest = or_right_lem (eqb x m) (is_in m (without n xs)) (rest e)

all_others : (n : ℕ) (ys xs : List ℕ) → AllByRecursion (λ (x : ℕ). x ≢ n) xs → AreIn ys xs → AreIn (without n ys) xs
all_others n ys [] ne h = tt
all_others n ys (x ∷ xs) ne h = (in_others n x ys ne.0 h.0, all_others n ys xs ne.1 h.1)

above_apart : (n : ℕ) (xs : List ℕ) → AllByRecursion (λ (x : ℕ). n < x) xs → AllByRecursion (λ (x : ℕ). x ≢ n) xs
above_apart n [] h = tt
above_apart n (x ∷ xs) h = ((λ same. (let lt = h.0 in omega (arith, lt, same))), above_apart n xs h.1)

fits : (xs ys : List ℕ) → Rises xs → AreIn ys xs → length xs ≤ length ys
fits [] ys rises h = omega arith
fits (x ∷ xs) ys rises h =
    let rest = fits xs (without x ys) rises.1 (all_others x ys xs (above_apart x xs rises.0) h.1) in
    let less = one_less x ys h.0 in
    omega (arith, rest, less)

not_in : (n : ℕ) (xs : List ℕ) → is_in n xs ≡ false → AllByRecursion (λ (x : ℕ). x ≢ n) xs
not_in n [] e = tt
not_in n (x ∷ xs) e = by (eqb x n) refl e (not_in n xs)
  where
    by : (b : Bool) → eqb x n ≡ b → (b || is_in n xs) ≡ false → (is_in n xs ≡ false → AllByRecursion (λ (y : ℕ). y ≢ n) xs) → (x ≢ n) × AllByRecursion (λ (y : ℕ). y ≢ n) xs
    by true is e rest = absurd (false_true (sym e))
    by false is e rest = ((λ same. false_true (sym is ∙ eq-eqb x n same)), rest e)

covers : (xs ys : List ℕ) (n : ℕ) → Rises xs → AreIn ys xs → length ys ≤ length xs → is_in n ys ≡ true → is_in n xs ≡ true
covers xs ys n rises h many there = by (is_in n xs) refl
  where
    by : (b : Bool) → is_in n xs ≡ b → b ≡ true
    by true e = refl
    by false e =
        let few = fits xs (without n ys) rises (all_others n ys xs (not_in n xs e) h) in
        let less = one_less n ys there in
        absurd (omega (arith, few, less, many))

-- ---- The calls of a client, and those that its requester keeps

abbrev kept_ids : List KeptCall → List ℕ
kept_ids calls = map (λ (c : KeptCall). c.xid) calls

abbrev sent_ids : List OutstandingCall → List ℕ
sent_ids calls = map (λ (o : OutstandingCall). o.xid) calls

ids_above : (n : ℕ) (calls : List KeptCall) → AllByRecursion (λ (d : KeptCall). n < d.xid) calls → AllByRecursion (λ (x : ℕ). n < x) (kept_ids calls)
ids_above n [] h = tt
ids_above n (c ∷ calls) h = (h.0, ids_above n calls h.1)

ids_rise : (calls : List KeptCall) (below : ℕ) → AreRising calls below → Rises (kept_ids calls)
ids_rise [] below h = tt
ids_rise (c ∷ calls) below h = (ids_above c.xid calls h.1.0, ids_rise calls below h.1.1)

found_in : (xid : ℕ) (calls : List OutstandingCall) (c : KeptCall) → HasRegionsOf c (find (λ (o : OutstandingCall). eqb o.xid xid) calls) → is_in xid (sent_ids calls) ≡ true
found_in xid [] c h = absurd h
found_in xid (o ∷ calls) c h = by (eqb o.xid xid) h (found_in xid calls c)
  where
    by : (b : Bool) → HasRegionsOf c (cond b (Some o) (find (λ (x : OutstandingCall). eqb x.xid xid) calls)) → (HasRegionsOf c (find (λ (x : OutstandingCall). eqb x.xid xid) calls) → is_in xid (sent_ids calls) ≡ true) → (b || is_in xid (sent_ids calls)) ≡ true
    by true h rest = refl
    by false h rest = rest h

ids_in : (numbered : List OutstandingCall) (calls : List KeptCall) → AllByRecursion (IsWaiting numbered) calls → AreIn (sent_ids numbered) (kept_ids calls)
ids_in numbered [] h = tt
ids_in numbered (c ∷ calls) h = (found_in c.xid numbered c h.0, ids_in numbered calls h.1)

ids_kept : (sent : ℕ) (calls : List StoredCall) (xid : ℕ) → is_in xid (kept_ids (map (kept_call sent) calls)) ≡ true → is_some (find (λ (c : StoredCall). eqb c.xid xid) calls) ≡ true
ids_kept sent [] xid e = e
ids_kept sent (c ∷ calls) xid e = by (eqb c.xid xid) e (ids_kept sent calls xid)
  where
    by : (b : Bool) → (b || is_in xid (kept_ids (map (kept_call sent) calls))) ≡ true → (is_in xid (kept_ids (map (kept_call sent) calls)) ≡ true → is_some (find (λ (x : StoredCall). eqb x.xid xid) calls) ≡ true) →
        is_some (cond b (Some c) (find (λ (x : StoredCall). eqb x.xid xid) calls)) ≡ true
    by true e rest = refl
    by false e rest = rest e

length_ids : {X : Type 0} (id : X → ℕ) (xs : List X) → length (map id xs) ≡ length xs
length_ids id [] = refl
length_ids id (x ∷ xs) = ap (λ (n : ℕ). suc n) (length_ids id xs)

length_calls : (sent : ℕ) (calls : List StoredCall) → length (map (kept_call sent) calls) ≡ length calls
length_calls sent [] = refl
length_calls sent (c ∷ calls) = ap (λ (n : ℕ). suc n) (length_calls sent calls)

-- ---- A call that waits is one of them

waits_numbered : (send : ℕ) (ws : List WaitingCall) (xid : ℕ) → list_any (λ (w : WaitingCall). eqb w.xid xid) ws ≡ true → is_in xid (sent_ids (numbered_from send ws)) ≡ true
waits_numbered send [] xid e = e
waits_numbered send (w ∷ ws) xid e = by (eqb w.xid xid) e (waits_numbered (send + 1) ws xid)
  where
    by : (b : Bool) → (b || list_any (λ (v : WaitingCall). eqb v.xid xid) ws) ≡ true → (list_any (λ (v : WaitingCall). eqb v.xid xid) ws ≡ true → is_in xid (sent_ids (numbered_from (send + 1) ws)) ≡ true) →
        (b || is_in xid (sent_ids (numbered_from (send + 1) ws))) ≡ true
    by true e rest = refl
    by false e rest = rest e

ids_append : (xs ys : List OutstandingCall) (xid : ℕ) → is_in xid (sent_ids ys) ≡ true → is_in xid (sent_ids (xs ++ ys)) ≡ true
ids_append [] ys xid e = e
ids_append (x ∷ xs) ys xid e = or_right_lem (eqb x.xid xid) (is_in xid (sent_ids (xs ++ ys))) (ids_append xs ys xid e)

pub waits_outstanding : (o : LinkParameters) (link : ℕ) (h : RequesterSide) (run : List Mark) (xid : ℕ) → StandsForClient o link h run → list_any (λ (w : WaitingCall). eqb w.xid xid) (client o link run).state.waiting ≡ true → is_some (found_call xid h.state) ≡ true
waits_outstanding o link h run xid (earlier, k) waits =
    let keeps = k.keeps.kept.keeps in
    let numbered : List OutstandingCall = numbered_calls (client o link run).state in
    let calls : List KeptCall = kept_calls h.state in
    let many : length (sent_ids numbered) ≤ length (kept_ids calls) =
    (let a = length_ids (λ (x : OutstandingCall). x.xid) numbered in let b = length_ids (λ (c : KeptCall). c.xid) calls in let c = length_calls h.state.sent h.state.outstanding in let e = keeps.outstanding in omega (arith, a, b, c, e)) in
    ids_kept h.state.sent h.state.outstanding xid
    (covers (kept_ids calls) (sent_ids numbered) xid (ids_rise calls h.state.next_xid keeps.rising) (ids_in numbered calls keeps.waits) many
    (ids_append (client o link run).state.outstanding (numbered_from (client o link run).state.sends (client o link run).state.waiting) xid (waits_numbered (client o link run).state.sends (client o link run).state.waiting xid waits)))

-- an outstanding call has no answer
abbrev pub CallsApart : RequesterState → Type 0
CallsApart r = (xid : ℕ) → is_some (found_call xid r) ≡ true → found_answer xid r ≡ None

contained : (ws : List WaitingCall) (w : AcceptedCall) → Contains (map as_waiting ws) w → list_any (λ (v : WaitingCall). eqb v.xid w.xid) ws ≡ true
contained [] w (at, within, is) = absurd (omega (arith, within))
contained (v ∷ ws) w c = by (λ later. contained ws w later) (Contains-append_cases (as_waiting v ∷ []) (map as_waiting ws) w c)
  where
    first : Contains (as_waiting v ∷ []) w → as_waiting v ≡ w
    first one = ⊎_elim (λ (none : Contains [] w). absurd (let within = none.1 in omega (arith, within))) (λ same. same) (Contains-push_cases [] (as_waiting v) w one)

    by : (Contains (map as_waiting ws) w → list_any (λ (x : WaitingCall). eqb x.xid w.xid) ws ≡ true) → Contains (as_waiting v ∷ []) w ⊎ Contains (map as_waiting ws) w → (eqb v.xid w.xid || list_any (λ (x : WaitingCall). eqb x.xid w.xid) ws) ≡ true
    by rest (inl one) = or_left_lem (eqb v.xid w.xid) (list_any (λ (x : WaitingCall). eqb x.xid w.xid) ws) (eq-eqb v.xid w.xid (ap (λ (a : AcceptedCall). a.xid) (first one)))
    by rest (inr later) = or_right_lem (eqb v.xid w.xid) (list_any (λ (x : WaitingCall). eqb x.xid w.xid) ws) (rest later)

pub waits_unanswered : (o : LinkParameters) (link : ℕ) (h : RequesterSide) (run : List Mark) (w : AcceptedCall) → StandsForClient o link h run → CallsApart h.state → Contains (waiting_calls o link run) w → found_answer w.xid h.state ≡ None
waits_unanswered o link h run w k apart there = apart w.xid (waits_outstanding o link h run w.xid k (contained (client o link run).state.waiting w there))
