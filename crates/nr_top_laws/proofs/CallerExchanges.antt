-- What the calls of a shared requester's caller make of its view: it grows, and its own entries tell which calls were answered.
use Rattle.std.proofs.Common.{◌≡◌, ⊎_elim, ℕ, zero, suc, ◌==◌, arith, Bool, true, false, if◌then◌else◌, List, [], ◌∷◌, ◌++◌, length, length-append, append-nil, Option, None, Some, refl, sym, ap, subst, ◌∙◌, inl, inr}
use Rattle.std.proofs.lemmas.Bool.{cases_Bool}
use mathlib.Core.Option.{some, none, some-injective, some-ne-none}
use lib.ListN.{get_elem?}
use Rattle.nr_turnstile.specs.Rule.{Begins, IsIn}
use Rattle.nr_reduce.specs.declared.call.Call.{Call}
use Rattle.nr_reduce.specs.declared.call.Form.{Form}
use Rattle.nr_reduce.specs.declared.call.Form.TheVariants as forms
use Rattle.nr_reduce.specs.declared.call.Outcome.{Outcome}
use Rattle.nr_shared.specs.declared.call_end.CallEnd.{CallEnd}
use Rattle.nr_shared.specs.declared.call_end.CallEnd.TheVariants as calls
use Rattle.nr_shared.specs.declared.entry.Entry.{Entry}
use Rattle.nr_shared.specs.declared.entry.Entry.TheVariants as entries
use Rattle.nr_shared.specs.declared.entry.InitialState.{InitialState}
use Rattle.nr_shared.specs.Adding.{AreAt}
use Rattle.nr_shared.specs.Callers.{KeepsLaw}
use Rattle.nr_shared.specs.Ending.{IsCause, LinkEnded, LossEnds}
use Rattle.nr_shared.specs.Histories.{IsCallAt, initial_of, submitted_call, tries_of}
use Rattle.nr_shared.proofs.Adding.{at_one, begins_then}
use Rattle.nr_shared.proofs.Asking.{some_same}
use Rattle.nr_shared.proofs.Lists.{at_below, in_either, in_more}
use Rattle.nr_client.specs.CallerViews.{AddsTo, AnswersBy, CallerView, CompletesBy, ForgetsBy, GivesUpBy, HasCallAt, IsOpenAt, RefusesBy}
use Rattle.nr_client.proofs.CallerTickets.{IsKnown}
use Rattle.nr_service_laws.specs.Exchanges.{Exchange}
use Rattle.nr_service_laws.specs.ReplyEnds.{IsAnsweredBy}
use Rattle.nr_top_laws.specs.NumberedStatuses.{HasCause, answered_calls, exchanges_at, with_call, with_exchange}

-- ---- Own entries

later_call : (o : mathlib.Core.Option.Option Entry) (first : Outcome) (later : List Exchange) (call : Call) (outcome : Outcome) → IsAnsweredBy later call outcome → IsAnsweredBy (with_call o first later) call outcome
later_call none first later call outcome is = is
later_call (some (entries.Submit asked form xid)) first later call outcome is = inr is
later_call (some (entries.Initial initial)) first later call outcome is = is
later_call (some (entries.Wrote bytes)) first later call outcome is = is
later_call (some entries.WriteFailed) first later call outcome is = is
later_call (some (entries.Fed bytes previous)) first later call outcome is = is
later_call (some (entries.Done xid o submit)) first later call outcome is = is
later_call (some (entries.Lost xid submit)) first later call outcome is = is
later_call (some (entries.Forget xid submit)) first later call outcome is = is
later_call (some (entries.Revoke xid bytes submit)) first later call outcome is = is
later_call (some (entries.Stopped cause previous)) first later call outcome is = is
later_call (some (entries.Rejoin sink previous)) first later call outcome is = is
later_call (some (entries.OutOfMemory piece previous)) first later call outcome is = is

later_exchange : (seen : List Entry) (o : mathlib.Core.Option.Option Entry) (later : List Exchange) (call : Call) (outcome : Outcome) → IsAnsweredBy later call outcome → IsAnsweredBy (with_exchange seen o later) call outcome
later_exchange seen none later call outcome is = is
later_exchange seen (some (entries.Done xid first submit)) later call outcome is = later_call (get_elem? seen submit) first later call outcome is
later_exchange seen (some (entries.Submit asked form xid)) later call outcome is = is
later_exchange seen (some (entries.Initial initial)) later call outcome is = is
later_exchange seen (some (entries.Wrote bytes)) later call outcome is = is
later_exchange seen (some entries.WriteFailed) later call outcome is = is
later_exchange seen (some (entries.Fed bytes previous)) later call outcome is = is
later_exchange seen (some (entries.Lost xid submit)) later call outcome is = is
later_exchange seen (some (entries.Forget xid submit)) later call outcome is = is
later_exchange seen (some (entries.Revoke xid bytes submit)) later call outcome is = is
later_exchange seen (some (entries.Stopped cause previous)) later call outcome is = is
later_exchange seen (some (entries.Rejoin sink previous)) later call outcome is = is
later_exchange seen (some (entries.OutOfMemory piece previous)) later call outcome is = is

-- a Done at one of these places, which closes a Submit
answered_at : (seen : List Entry) (ks : List ℕ) (k xid number submit : ℕ) (call : Call) (form : Form) (outcome : Outcome) → IsIn k ks → get_elem? seen k ≡ some (entries.Done xid outcome submit)
    → get_elem? seen submit ≡ some (entries.Submit call form number) → IsAnsweredBy (exchanges_at seen ks) call outcome
answered_at seen [] k xid number submit call form outcome i done asked = absurd (some-ne-none k (sym i.1))
answered_at seen (j ∷ ks) k xid number submit call form outcome (zero, at) done asked =
    subst (λ (o : mathlib.Core.Option.Option Entry). IsAnsweredBy (with_exchange seen o (exchanges_at seen ks)) call outcome) (sym (ap (λ (n : ℕ). get_elem? seen n) (some-injective j k at) ∙ done))
    (subst (λ (o : mathlib.Core.Option.Option Entry). IsAnsweredBy (with_call o outcome (exchanges_at seen ks)) call outcome) (sym asked) (inl (refl, refl)))
answered_at seen (j ∷ ks) k xid number submit call form outcome (suc n, at) done asked =
    later_exchange seen (get_elem? seen j) (exchanges_at seen ks) call outcome (answered_at seen ks k xid number submit call form outcome (n, at) done asked)

-- ---- A view that grows

pub record Grows (v w : CallerView) : Type 0 where
  pub seen : Begins v.seen w.seen
  pub mine : Begins v.mine w.mine

begins_same : {A : Type 0} (xs : List A) → Begins xs xs
begins_same xs = ([], sym (append-nil xs))

pub grows_not : (v w : CallerView) → w ≡ v → Grows v w
grows_not v w same = subst (λ (x : CallerView). Grows v x) (sym same) (record { seen = begins_same v.seen; mine = begins_same v.mine })

pub grows_both : (u v w : CallerView) → Grows u v → Grows v w → Grows u w
grows_both u v w g h = record { seen = begins_then u.seen v.seen w.seen g.seen h.seen; mine = begins_then u.mine v.mine w.mine g.mine h.mine }

pub grows_by : (v w : CallerView) (es : List Entry) → AddsTo v w es → Grows v w
grows_by v w es a = record { seen = a.seen; mine = (a.places, a.mine) }

pub known_by : (v w : CallerView) (es : List Entry) → IsKnown v → AddsTo v w es → KeepsLaw w.seen → IsKnown w
known_by v w es known a law = record {
  lies = λ k i. ⊎_elim
      (λ (old : IsIn k v.mine). (let l = known.lies k old in let len = ap length a.seen.1 ∙ length-append v.seen a.seen.0 in omega (arith, l, len)))
      (λ (new : IsIn k a.places). (let (e, (one, at)) = at_one w.seen a.places es k a.at new in at_below w.seen k e at))
      (in_either v.mine a.places k (subst (IsIn k) a.mine i));
  law = law;
}

at_longer : (xs ys : List Entry) (k : ℕ) (e : Entry) → get_elem? xs k ≡ some e → get_elem? (xs ++ ys) k ≡ some e
at_longer [] ys k e at = absurd (some-ne-none e (sym at))
at_longer (x ∷ xs) ys zero e at = at
at_longer (x ∷ xs) ys (suc k) e at = at_longer xs ys k e at

entry_on : (v w : CallerView) → Grows v w → (k : ℕ) (e : Entry) → get_elem? v.seen k ≡ some e → get_elem? w.seen k ≡ some e
entry_on v w g k e at = subst (λ (l : List Entry). get_elem? l k ≡ some e) (sym g.seen.1) (at_longer v.seen g.seen.0 k e at)

own_on : (v w : CallerView) → Grows v w → (k : ℕ) → IsIn k v.mine → IsIn k w.mine
own_on v w g k i = subst (IsIn k) (sym g.mine.1) (in_more v.mine g.mine.0 k i)

in_right : (xs ys : List ℕ) (k : ℕ) → IsIn k ys → IsIn k (xs ++ ys)
in_right [] ys k i = i
in_right (x ∷ xs) ys k i = let j = in_right xs ys k i in (suc j.0, j.1)

-- the last entry that was added
last_at : (h : List Entry) (ks : List ℕ) (xs : List Entry) (e : Entry) → AreAt h ks (xs ++ e ∷ []) → (k : ℕ) × (IsIn k ks × (get_elem? h k ≡ some e))
last_at h [] [] e are = absurd are
last_at h [] (x ∷ xs) e are = absurd are
last_at h (k ∷ ks) [] e are = (k, ((0, refl), are.0))
last_at h (k ∷ ks) (x ∷ xs) e are = let (j, (i, at)) = last_at h ks xs e are.1 in (j, ((suc i.0, i.1), at))

done_added : (v w : CallerView) (xs : List Entry) (e : Entry) → AddsTo v w (xs ++ e ∷ []) → (k : ℕ) × (IsIn k w.mine × (get_elem? w.seen k ≡ some e))
done_added v w xs e a = let (k, (i, at)) = last_at w.seen a.places xs e a.at in (k, (subst (IsIn k) (sym a.mine) (in_right v.mine a.places k i), at))

-- ---- Calls that were answered

-- an entry that submits a call under an xid
is_submit : (e : Entry) (xid : ℕ) (call : Call) → submitted_call xid e ≡ Some call → (form : Form) × ((number : ℕ) × (e ≡ entries.Submit call form number))
is_submit (entries.Submit asked form number) xid call is = ⊎_elim
    (λ (yes : (number == xid) ≡ true). (form, (number, ap (λ (c : Call). entries.Submit c form number) (one_call asked call (sym (ap (λ (b : Bool). if b then Some asked else None) yes) ∙ is)))))
    (λ (no : (number == xid) ≡ false). absurd (no_call call (sym (ap (λ (b : Bool). if b then Some asked else None) no) ∙ is)))
    (cases_Bool (number == xid)) where
      one_call : (c d : Call) → Some c ≡ Some d → c ≡ d
      one_call c d same = ap (λ (o : Option Call). or_this o) same where
        or_this : Option Call → Call
        or_this (Some x) = x
        or_this None = c

      no_call : (c : Call) → None ≡ Some c → ⊥
      no_call c same = absurd cc
is_submit (entries.Initial initial) xid call is = absurd (let wrong = is in cc)
is_submit (entries.Wrote bytes) xid call is = absurd (let wrong = is in cc)
is_submit entries.WriteFailed xid call is = absurd (let wrong = is in cc)
is_submit (entries.Fed bytes previous) xid call is = absurd (let wrong = is in cc)
is_submit (entries.Done number outcome submit) xid call is = absurd (let wrong = is in cc)
is_submit (entries.Lost number submit) xid call is = absurd (let wrong = is in cc)
is_submit (entries.Forget number submit) xid call is = absurd (let wrong = is in cc)
is_submit (entries.Revoke number bytes submit) xid call is = absurd (let wrong = is in cc)
is_submit (entries.Stopped cause previous) xid call is = absurd (let wrong = is in cc)
is_submit (entries.Rejoin sink previous) xid call is = absurd (let wrong = is in cc)
is_submit (entries.OutOfMemory piece previous) xid call is = absurd (let wrong = is in cc)

pub answered_so : (v w u : CallerView) (call : Call) (outcome : Outcome) → AnswersBy v w call outcome → Grows w u → IsAnsweredBy (answered_calls u) call outcome
answered_so v w u call outcome a g =
    let last : Entry = entries.Done a.xid outcome a.at in
    let (k, (i, at)) = done_added v w (a.writes_before ++ entries.Submit call forms.Auto a.xid ∷ a.writes_after) last a.adds in
    answered_at u.seen u.mine k a.xid a.xid a.at call forms.Auto outcome (own_on w u g k i) (entry_on w u g k last at) (entry_on w u g a.at (entries.Submit call forms.Auto a.xid) a.stands)

pub completed_so : (v w u : CallerView) (xid : ℕ) (outcome : Outcome) (c : CompletesBy xid outcome v w) → Grows w u → IsAnsweredBy (answered_calls u) c.call outcome
completed_so v w u xid outcome c g =
    let last : Entry = entries.Done xid outcome c.at in
    let (k, (i, at)) = done_added v w c.writes last c.adds in
    let (e, there, is) = c.had.stands in
    let (form, (number, same)) = is_submit e xid c.call is in
    let before : get_elem? v.seen c.at ≡ some (entries.Submit c.call form number) = there ∙ ap (λ (x : Entry). some x) same in
    answered_at u.seen u.mine k xid number c.at c.call form outcome (own_on w u g k i) (entry_on w u g k last at)
    (entry_on w u g c.at (entries.Submit c.call form number) (entry_on v w (grows_by v w (c.writes ++ last ∷ []) c.adds) c.at (entries.Submit c.call form number) before))

-- ---- Causes

loss_of_call : (o : Option ℕ) (need room : ℕ) (h : List Entry) → LossEnds o (calls.TooLarge need room) h → ⊥
loss_of_call None need room h ended = ended
loss_of_call (Some tries) need room h ended = ended

cause_of_end : (end : CallEnd) (call : Call) (h : List Entry) → LinkEnded end h → IsCause end call forms.Auto h
cause_of_end (calls.Ended why) call h ended = ended
cause_of_end calls.LinkRead call h ended = ended
cause_of_end calls.LinkWrite call h ended = ended
cause_of_end calls.Closed call h ended = ended
cause_of_end (calls.Tries n) call h ended = ended
cause_of_end calls.DialFault call h ended = ended
cause_of_end (calls.Spent left_over need) call h ended = inr ended
cause_of_end (calls.TooLarge need room) call h ended = absurd (loss_of_call (tries_of h) need room h ended)
cause_of_end (calls.Budget count) call h ended = ended
cause_of_end calls.Memory call h ended = tt

-- what stands before a Forget begins with the initial state
initial_before : (h : List Entry) (xid at : ℕ) (c : InitialState) → initial_of (h ++ entries.Forget xid at ∷ []) ≡ Some c → initial_of h ≡ Some c
initial_before [] xid at c is = absurd cc
initial_before (entries.Initial initial ∷ xs) xid at c is = is
initial_before (entries.Submit call form x ∷ xs) xid at c is = absurd cc
initial_before (entries.Wrote bytes ∷ xs) xid at c is = absurd cc
initial_before (entries.Fed bytes previous ∷ xs) xid at c is = absurd cc
initial_before (entries.Done x outcome submit ∷ xs) xid at c is = absurd cc
initial_before (entries.Lost x submit ∷ xs) xid at c is = absurd cc
initial_before (entries.Forget x submit ∷ xs) xid at c is = absurd cc
initial_before (entries.Revoke x bytes submit ∷ xs) xid at c is = absurd cc
initial_before (entries.WriteFailed ∷ xs) xid at c is = absurd cc
initial_before (entries.Stopped cause previous ∷ xs) xid at c is = absurd cc
initial_before (entries.OutOfMemory piece previous ∷ xs) xid at c is = absurd cc
initial_before (entries.Rejoin sink previous ∷ xs) xid at c is = absurd cc

pub refused_cause : (v w : CallerView) (call : Call) (end : CallEnd) → RefusesBy v w call end → HasCause end w
refused_cause v w call end r = (call, (w.seen, (r.law.initial, (r.law.is_initial, (begins_same w.seen, r.cause)))))

pub gone_cause : (v w : CallerView) (call : Call) (end : CallEnd) → GivesUpBy v w call end → HasCause end w
gone_cause v w call end (inl r) = refused_cause v w call end r
gone_cause v w call end (inr f) = (
  call,
  (
    f.before,
    (
      f.law.initial,
      (
        initial_before f.before f.xid f.at f.law.initial (ap (λ (l : List Entry). initial_of l) (sym f.seen) ∙ f.law.is_initial),
        ((entries.Forget f.xid f.at ∷ [], f.seen), cause_of_end end call f.before f.ended),
      ),
    ),
  ),
)

pub forgotten_cause : (v w : CallerView) (xid : ℕ) (end : CallEnd) → ForgetsBy xid end v w → HasCause end w
forgotten_cause v w xid end f = (
  f.call,
  (
    f.before,
    (
      f.law.initial,
      (
        initial_before f.before xid f.at f.law.initial (ap (λ (l : List Entry). initial_of l) (sym f.seen) ∙ f.law.is_initial),
        ((entries.Forget xid f.at ∷ [], f.seen), cause_of_end end f.call f.before f.ended),
      ),
    ),
  ),
)

pub cause_on : (v w : CallerView) (end : CallEnd) → Grows v w → HasCause end v → HasCause end w
cause_on v w end g (call, (h, (i, (first, (begins, is))))) = (call, (h, (i, (first, (begins_then h v.seen w.seen begins g.seen, is)))))

-- ---- What each call adds

pub grows_up : (v w : CallerView) (call : Call) (end : CallEnd) → GivesUpBy v w call end → Grows v w
grows_up v w call end (inl r) = grows_by v w r.writes_before r.adds
grows_up v w call end (inr f) = grows_by v w ((f.writes_before ++ entries.Submit call forms.Auto f.xid ∷ f.writes_after) ++ entries.Forget f.xid f.at ∷ []) f.adds

pub known_up : (v w : CallerView) (call : Call) (end : CallEnd) → IsKnown v → GivesUpBy v w call end → IsKnown w
known_up v w call end known (inl r) = known_by v w r.writes_before known r.adds r.law
known_up v w call end known (inr f) = known_by v w ((f.writes_before ++ entries.Submit call forms.Auto f.xid ∷ f.writes_after) ++ entries.Forget f.xid f.at ∷ []) known f.adds f.law

-- ---- Calls that are open

pub call_on : (v w : CallerView) (xid k : ℕ) (call : Call) → Grows v w → HasCallAt v xid k call → IsOpenAt w k → HasCallAt w xid k call
call_on v w xid k call g has still = record { stands = by has.stands; open_place = still } where
  by : IsCallAt v.seen xid k call → IsCallAt w.seen xid k call
  by (e, at, is) = (e, entry_on v w g k e at, is)

-- two open calls of an xid stand at one place, and are one
pub same_place : (v : CallerView) (xid j k : ℕ) (c d : Call) → KeepsLaw v.seen → HasCallAt v xid j c → HasCallAt v xid k d → j ≡ k
same_place v xid j k c d law one two = some_same j k (sym (law.last_open xid j c one.stands one.open_place.1) ∙ law.last_open xid k d two.stands two.open_place.1)

call_at : (seen : List Entry) (xid k : ℕ) (c d : Call) → IsCallAt seen xid k c → IsCallAt seen xid k d → c ≡ d
call_at seen xid k c d (e, at, is) (f, there, so) = same (sym is ∙ (ap (submitted_call xid) (some-injective e f (sym at ∙ there)) ∙ so)) where
  or_this : Option Call → Call
  or_this (Some x) = x
  or_this None = c

  same : Some c ≡ Some d → c ≡ d
  same one = ap or_this one

pub same_call : (v : CallerView) (xid j k : ℕ) (c d : Call) → KeepsLaw v.seen → HasCallAt v xid j c → HasCallAt v xid k d → c ≡ d
same_call v xid j k c d law one two =
    call_at v.seen xid k c d (subst (λ (n : ℕ). IsCallAt v.seen xid n c) (same_place v xid j k c d law one two) one.stands) two.stands
