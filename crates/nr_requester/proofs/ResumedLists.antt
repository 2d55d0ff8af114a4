-- The calls that go on, as lists.
use Rattle.std.proofs.Common.{◌≡◌, ◌≢◌, ℕ, zero, suc, ◌+◌, ◌<◌, Bool, true, false, cond, eqb, List, [], ◌∷◌, ◌++◌, length, take, drop, Option, None, Some, refl, sym, ap, ◌∙◌, arith}
use Rattle.std.specs.Prelude.{get_or}
use Rattle.std.specs.List.{AllByRecursion, find}
use Rattle.std.proofs.lemmas.Bool.{ne_eqb}
use Rattle.std.proofs.lemmas.List.{drop_more, take_more}
use Rattle.nr_reduce.specs.declared.call.Call.{Call}
use Rattle.nr_requester.specs.declared.outstanding.OutstandingCall.{OutstandingCall}
use Rattle.nr_requester.specs.RequesterState.{awaited_call}
use Rattle.nr_requester.specs.Views.{stored_view}
use Rattle.nr_requester.specs.HeldBytes.{AreRisingBy}
use Rattle.nr_requester.specs.private.Resuming.{awaited_calls, with_awaited, with_call, with_calls}

-- ---- One call more

pub awaited_append : (xs : List OutstandingCall) (c : OutstandingCall) → awaited_calls (xs ++ c ∷ []) ≡ awaited_calls xs ++ with_awaited (awaited_call (stored_view c)) []
awaited_append [] c = refl
awaited_append (x ∷ xs) c = by (awaited_call (stored_view x)) (awaited_append xs c)
  where
    by : (o : Option Call) → awaited_calls (xs ++ c ∷ []) ≡ awaited_calls xs ++ with_awaited (awaited_call (stored_view c)) [] →
        with_awaited o (awaited_calls (xs ++ c ∷ [])) ≡ with_awaited o (awaited_calls xs) ++ with_awaited (awaited_call (stored_view c)) []
    by None rest = rest
    by (Some call) rest = ap (λ (calls : List Call). call ∷ calls) rest

-- of the calls before one place more
pub awaited_more : (calls : List OutstandingCall) (i : ℕ) (c : OutstandingCall) (o : Option Call) → i < length calls → c ≡ get_or calls i c → awaited_call (stored_view c) ≡ o → awaited_calls (take (i + 1) calls) ≡ awaited_calls (take i calls) ++ with_awaited o []
awaited_more calls i c o lt is has =
    let more : take (i + 1) calls ≡ take i calls ++ c ∷ [] = take_more calls i c lt ∙ ap (λ (x : OutstandingCall). take i calls ++ x ∷ []) (sym is) in
    ap (λ (cs : List OutstandingCall). awaited_calls cs) more
    ∙ awaited_append (take i calls) c
    ∙ ap (λ (x : Option Call). awaited_calls (take i calls) ++ with_awaited x []) has

pub rest_of : (calls : List OutstandingCall) (i : ℕ) (c : OutstandingCall) → i < length calls → c ≡ get_or calls i c → drop i calls ≡ c ∷ drop (i + 1) calls
rest_of calls i c lt is = drop_more calls i c lt ∙ ap (λ (x : OutstandingCall). x ∷ drop (i + 1) calls) (sym is)

pub with_calls_append : (calls : List Call) (made : List OutstandingCall) (call : Call) (one : OutstandingCall) → length made ≡ length calls → with_calls (calls ++ call ∷ []) (made ++ one ∷ []) ≡ with_calls calls made ++ with_call call one ∷ []
with_calls_append [] [] call one e = refl
with_calls_append [] (o ∷ made) call one e = absurd (omega (arith, e))
with_calls_append (c ∷ calls) [] call one e = absurd (omega (arith, e))
with_calls_append (c ∷ calls) (o ∷ made) call one e = ap (λ (os : List OutstandingCall). with_call c o ∷ os) (with_calls_append calls made call one (omega (arith, e)))

pub with_calls_count : (calls : List Call) (made : List OutstandingCall) → length made ≡ length calls → length (with_calls calls made) ≡ length made
with_calls_count [] [] e = refl
with_calls_count [] (o ∷ made) e = absurd (omega (arith, e))
with_calls_count (c ∷ calls) [] e = absurd (omega (arith, e))
with_calls_count (c ∷ calls) (o ∷ made) e = (let rest = with_calls_count calls made (omega (arith, e)) in omega (arith, rest))

-- ---- Numbers that rise

pub rising_more : (number : OutstandingCall → ℕ) (xs : List OutstandingCall) (o : OutstandingCall) (next : ℕ) → AreRisingBy number xs next → AllByRecursion (λ (d : OutstandingCall). number d < number o) xs → number o < next → AreRisingBy number (xs ++ o ∷ []) next
rising_more number [] o next h below lt = (lt, (tt, tt))
rising_more number (x ∷ xs) o next h below lt = (h.0, (later xs h.1.0, rising_more number xs o next h.1.1 below.1 lt))
  where
    later : (cs : List OutstandingCall) → AllByRecursion (λ (d : OutstandingCall). number x < number d) cs → AllByRecursion (λ (d : OutstandingCall). number x < number d) (cs ++ o ∷ [])
    later [] g = (below.0, tt)
    later (c ∷ cs) g = (g.0, later cs g.1)

pub rising_rest : (number : OutstandingCall → ℕ) (next i : ℕ) (calls : List OutstandingCall) → AreRisingBy number calls next → AreRisingBy number (drop i calls) next
rising_rest number next zero calls h = h
rising_rest number next (suc i) [] h = h
rising_rest number next (suc i) (c ∷ calls) h = rising_rest number next i calls h.1.1

pub all_more : (P : OutstandingCall → Type 0) (xs : List OutstandingCall) (o : OutstandingCall) → AllByRecursion P xs → P o → AllByRecursion P (xs ++ o ∷ [])
all_more P [] o h one = (one, tt)
all_more P (x ∷ xs) o h one = (h.0, all_more P xs o h.1 one)

-- all of these are below each of those, with one more
pub below_more : (made cs : List OutstandingCall) (o : OutstandingCall) → AllByRecursion (λ (c : OutstandingCall). AllByRecursion (λ (d : OutstandingCall). d.xid < c.xid) made) cs → AllByRecursion (λ (c : OutstandingCall). o.xid < c.xid) cs →
    AllByRecursion (λ (c : OutstandingCall). AllByRecursion (λ (d : OutstandingCall). d.xid < c.xid) (made ++ o ∷ [])) cs
below_more made [] o h one = tt
below_more made (c ∷ cs) o h one = (all_more (λ (d : OutstandingCall). d.xid < c.xid) made o h.0 one.0, below_more made cs o h.1 one.1)

-- ---- Which xids there are

pub find_more : (xid : ℕ) (made : List OutstandingCall) (o : OutstandingCall) → o.xid ≢ xid → find (λ (c : OutstandingCall). eqb c.xid xid) made ≡ None → find (λ (c : OutstandingCall). eqb c.xid xid) (made ++ o ∷ []) ≡ None
find_more xid [] o other h = ap (λ (b : Bool). cond b (Some o) None) (ne_eqb o.xid xid other)
find_more xid (c ∷ made) o other h = by (eqb c.xid xid) (find_more xid made o other) h
  where
    by : (b : Bool) → (find (λ (c : OutstandingCall). eqb c.xid xid) made ≡ None → find (λ (c : OutstandingCall). eqb c.xid xid) (made ++ o ∷ []) ≡ None) →
        cond b (Some c) (find (λ (c : OutstandingCall). eqb c.xid xid) made) ≡ None → cond b (Some c) (find (λ (c : OutstandingCall). eqb c.xid xid) (made ++ o ∷ [])) ≡ None
    by true rest e = absurd cc
    by false rest e = rest e
