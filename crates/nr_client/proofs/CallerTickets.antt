-- Which calls of a shared requester's caller are open after its calls.
use Rattle.std.proofs.Common.{◌≡◌, ◌⊎◌, ⊎_elim, ℕ, zero, suc, ◌≤◌, ◌==◌, arith, Bool, true, false, if◌then◌else◌, List, [], ◌∷◌, ◌++◌, length, Option, None, Some, is_some, refl, sym, ap, subst, ◌∙◌, append_assoc, inl, inr}
use Rattle.std.proofs.lemmas.Bool.{eq-eqb, eqb-true, or_from, or_parts, cases_Bool}
use mathlib.Core.Option.{some, none, some-injective, some-ne-none}
use lib.ListN.{get_elem?}
use Rattle.atomic_table.proofs.Lists.{at_last, at_longer}
use Rattle.nr_reduce.specs.declared.call.Call.{Call}
use Rattle.nr_reduce.specs.declared.call.Form.TheVariants as forms
use Rattle.nr_reduce.specs.declared.call.Outcome.{Outcome}
use Rattle.nr_turnstile.specs.Rule.{Begins, IsIn, Lies}
use Rattle.nr_shared.specs.declared.call_end.CallEnd.{CallEnd}
use Rattle.nr_shared.specs.declared.entry.Entry.{Entry}
use Rattle.nr_shared.specs.declared.entry.Entry.TheVariants as entries
use Rattle.nr_shared.specs.Adding.{AreAt}
use Rattle.nr_shared.specs.Callers.{KeepsLaw}
use Rattle.nr_shared.specs.Draining.{AreWrites}
use Rattle.nr_shared.specs.Histories.{IsCallAt, IsUnclosed, closes_of, submitted_call}
use Rattle.nr_shared.proofs.Adding.{at_one}
use Rattle.nr_shared.proofs.Asking.{asked_just, asked_on, some_same}
use Rattle.nr_shared.proofs.Lists.{at_begin, in_either}
use Rattle.nr_client.specs.CallerViews.{AddsTo, AnswersBy, CallerView, CompletesBy, ForgetsBy, ForgetsCallBy, ForgottenBy, GivesUpBy, HasCallAt, IsOpenAt, KeepsOpenAt, KeepsOthersAt, LooksBy, RefusesBy, SubmitsBy, is_closed, is_place, open_call_of, or_later, shared_relations, submitted_in, unclosed_call, unclosed_in}
use Rattle.nr_client.specs.Relations.{ClosesTicketOver, KeepsTicketsOver, OpensTicketOver}

-- what a caller at rest knows
pub record IsKnown (v : CallerView) : Type 0 where
  pub lies : Lies v.seen v.mine
  pub law : KeepsLaw v.seen

-- ---- A place that no entry closes

not_place : (k : ℕ) (o : Option ℕ) → is_place k o ≡ false → o ≡ Some k → ⊥
not_place k None is closes = absurd cc
not_place k (Some n) is closes = let same : n ≡ k = some_same n k closes in
    absurd (let wrong : true ≡ false = sym (ap (λ (m : ℕ). m == k) same ∙ eq_self k) ∙ is in cc) where
      eq_self : (m : ℕ) → (m == m) ≡ true
      eq_self m = eq-eqb m m refl

other_place : (k : ℕ) (o : Option ℕ) → (o ≡ Some k → ⊥) → is_place k o ≡ false
other_place k None apart = refl
other_place k (Some n) apart = ⊎_elim
    (λ (same : (n == k) ≡ true). absurd (apart (ap Some (eqb-true n k same))))
    (λ (not : (n == k) ≡ false). not)
    (cases_Bool (n == k))

unclosed_by : (es : List Entry) (k : ℕ) → is_closed es k ≡ false → IsUnclosed es k
unclosed_by [] k is n e at closes = some-ne-none e (sym at)
unclosed_by (f ∷ es) k is zero e at closes = not_place k (closes_of f) (or_parts (is_place k (closes_of f)) (is_closed es k) is).0 (ap closes_of (some-injective f e at) ∙ closes)
unclosed_by (f ∷ es) k is (suc n) e at closes = unclosed_by es k (or_parts (is_place k (closes_of f)) (is_closed es k) is).1 n e at closes

unclosed_so : (es : List Entry) (k : ℕ) → IsUnclosed es k → is_closed es k ≡ false
unclosed_so [] k un = refl
unclosed_so (f ∷ es) k un = or_from (is_place k (closes_of f)) (is_closed es k) (other_place k (closes_of f) (λ closes. un 0 f refl closes)) (unclosed_so es k (λ n e at closes. un (suc n) e at closes))

-- nothing closes it in a beginning
unclosed_before : (xs ys : List Entry) (k : ℕ) → Begins xs ys → IsUnclosed ys k → IsUnclosed xs k
unclosed_before xs ys k begins un n e at closes = un n e (subst (λ (l : List Entry). get_elem? l n ≡ some e) (sym begins.1) (at_longer xs begins.0 n e at)) closes

-- ---- The open call of an xid

-- a call of the xid stands at one of these places, and nothing closes it
record StandsIn (seen : List Entry) (xid : ℕ) (places : List ℕ) (call : Call) : Type 0 where
  at : ℕ
  own : IsIn at places
  stands : IsCallAt seen xid at call
  unclosed : IsUnclosed seen at

call_in : (seen : List Entry) (xid k : ℕ) (call : Call) (o : mathlib.Core.Option.Option Entry) → get_elem? seen k ≡ o → submitted_in xid o ≡ Some call → IsCallAt seen xid k call
call_in seen xid k call (some e) at is = (e, at, is)
call_in seen xid k call none at is = absurd cc

stands_at : (seen : List Entry) (xid k : ℕ) (call : Call) → unclosed_call seen xid k ≡ Some call → IsCallAt seen xid k call × IsUnclosed seen k
stands_at seen xid k call is = by (is_closed seen k) refl is where
  by : (b : Bool) → is_closed seen k ≡ b → (if b then None else submitted_in xid (get_elem? seen k)) ≡ Some call → IsCallAt seen xid k call × IsUnclosed seen k
  by true closed found = absurd cc
  by false closed found = (call_in seen xid k call (get_elem? seen k) refl found, unclosed_by seen k closed)

found_at : (seen : List Entry) (xid k : ℕ) (call : Call) → IsCallAt seen xid k call → IsUnclosed seen k → unclosed_call seen xid k ≡ Some call
found_at seen xid k call (e, at, is) un =
    ap (λ (b : Bool). if b then None else submitted_in xid (get_elem? seen k)) (unclosed_so seen k un) ∙ (ap (λ (o : mathlib.Core.Option.Option Entry). submitted_in xid o) at ∙ is)

found_in : (seen : List Entry) (xid : ℕ) (places : List ℕ) (call : Call) → unclosed_in seen xid places ≡ Some call → StandsIn seen xid places call
found_in seen xid [] call is = absurd cc
found_in seen xid (k ∷ ks) call is = by (unclosed_call seen xid k) refl is (λ found. found_in seen xid ks call found) where
  by : (o : Option Call) → unclosed_call seen xid k ≡ o → or_later o (unclosed_in seen xid ks) ≡ Some call → (unclosed_in seen xid ks ≡ Some call → StandsIn seen xid ks call) → StandsIn seen xid (k ∷ ks) call
  by (Some c) here found among = let both = stands_at seen xid k call (here ∙ found) in record { at = k; own = (0, refl); stands = both.0; unclosed = both.1 }
  by None here found among = let later = among found in record { at = later.at; own = (suc later.own.0, later.own.1); stands = later.stands; unclosed = later.unclosed }

some_in : (seen : List Entry) (xid : ℕ) (places : List ℕ) (k : ℕ) (call : Call) → IsIn k places → IsCallAt seen xid k call → IsUnclosed seen k → is_some (unclosed_in seen xid places) ≡ true
some_in seen xid [] k call i is un = absurd (some-ne-none k (sym i.1))
some_in seen xid (j ∷ ks) k call (zero, at) is un =
    let same : j ≡ k = some-injective j k at in
    ap (λ (o : Option Call). is_some (or_later o (unclosed_in seen xid ks))) (ap (unclosed_call seen xid) same ∙ found_at seen xid k call is un)
some_in seen xid (j ∷ ks) k call (suc n, at) is un = by (unclosed_call seen xid j) (some_in seen xid ks k call (n, at) is un) where
  by : (o : Option Call) → is_some (unclosed_in seen xid ks) ≡ true → is_some (or_later o (unclosed_in seen xid ks)) ≡ true
  by (Some c) later = refl
  by None later = later

-- the call that stands at a place is one
one_call : (seen : List Entry) (xid k : ℕ) (c d : Call) → IsCallAt seen xid k c → IsCallAt seen xid k d → c ≡ d
one_call seen xid k c d (e, at, is) (f, there, so) = call_same (sym is ∙ (ap (submitted_call xid) (some-injective e f (sym at ∙ there)) ∙ so)) where
  call_same : Some c ≡ Some d → c ≡ d
  call_same same = ap (λ (o : Option Call). or_this o) same where
    or_this : Option Call → Call
    or_this (Some x) = x
    or_this None = c

-- two unclosed calls of one xid stand at one place
one_place : (h : List Entry) → KeepsLaw h → (xid j k : ℕ) (c d : Call) → IsCallAt h xid j c → IsUnclosed h j → IsCallAt h xid k d → IsUnclosed h k → j ≡ k
one_place h law xid j k c d one un two done = some_same j k (sym (law.last_open xid j c one un) ∙ law.last_open xid k d two done)

some_call : (o : Option Call) → is_some o ≡ true → (call : Call) × (o ≡ Some call)
some_call (Some call) is = (call, refl)
some_call None is = absurd cc

none_call : (o : Option Call) → ((call : Call) → o ≡ Some call → ⊥) → o ≡ None
none_call (Some call) never = absurd (never call refl)
none_call None never = refl

-- the open call of an xid stands at a place of the caller's own
pub open_at : (v : CallerView) (xid : ℕ) → is_some (open_call_of v xid) ≡ true → (k : ℕ) × ((call : Call) × HasCallAt v xid k call)
open_at v xid is =
    let (call, found) = some_call (open_call_of v xid) is in
    let s = found_in v.seen xid v.mine call found in
    (s.at, (call, record { stands = s.stands; open_place = (s.own, s.unclosed) }))

-- and such a call is the open one
open_so : (v : CallerView) (xid k : ℕ) (call : Call) → KeepsLaw v.seen → HasCallAt v xid k call → open_call_of v xid ≡ Some call
open_so v xid k call law has =
    let (c, found) = some_call (open_call_of v xid) (some_in v.seen xid v.mine k call has.open_place.0 has.stands has.open_place.1) in
    let s = found_in v.seen xid v.mine c found in
    let same : s.at ≡ k = one_place v.seen law xid s.at k c call s.stands s.unclosed has.stands has.open_place.1 in
    found ∙ ap Some (one_call v.seen xid k c call (subst (λ (n : ℕ). IsCallAt v.seen xid n c) same s.stands) has.stands)

none_open : (v : CallerView) (xid : ℕ) → ((k : ℕ) (call : Call) → HasCallAt v xid k call → ⊥) → open_call_of v xid ≡ None
none_open v xid never = none_call (open_call_of v xid) (λ call found. (let s = found_in v.seen xid v.mine call found in never s.at call (record { stands = s.stands; open_place = (s.own, s.unclosed) })))

-- the open call of an xid is one if the same calls of it are open
same_open : (v w : CallerView) (xid : ℕ) → KeepsLaw w.seen → ((k : ℕ) (call : Call) → HasCallAt v xid k call → HasCallAt w xid k call) → ((k : ℕ) (call : Call) → HasCallAt w xid k call → HasCallAt v xid k call)
    → open_call_of w xid ≡ open_call_of v xid
same_open v w xid law on back = by (open_call_of v xid) refl where
  by : (o : Option Call) → open_call_of v xid ≡ o → open_call_of w xid ≡ open_call_of v xid
  by (Some call) is = let s = found_in v.seen xid v.mine call is in open_so w xid s.at call law (on s.at call (record { stands = s.stands; open_place = (s.own, s.unclosed) })) ∙ sym is
  by None is = none_open w xid (λ k call has. (let old = back k call has in
      let some_old = some_in v.seen xid v.mine k call old.open_place.0 old.stands old.open_place.1 in
      let wrong : true ≡ false = sym some_old ∙ ap is_some is in absurd cc)) ∙ sym is

-- ---- What was added

no_call : (call : Call) → None ≡ Some call → ⊥
no_call call is = absurd cc

-- none of these entries submits a call
abbrev SubmitsNone : List Entry → Type 0
SubmitsNone es = (xid : ℕ) (e : Entry) (call : Call) → IsIn e es → submitted_call xid e ≡ Some call → ⊥

writes_none : (es : List Entry) → AreWrites es → SubmitsNone es
writes_none [] are xid e call i is = some-ne-none e (sym i.1)
writes_none (entries.Wrote bytes ∷ es) are xid e call (zero, at) is = no_call call (ap (submitted_call xid) (some-injective (entries.Wrote bytes) e at) ∙ is)
writes_none (entries.Wrote bytes ∷ es) are xid e call (suc n, at) is = writes_none es are xid e call (n, at) is
writes_none (entries.WriteFailed ∷ es) are xid e call (zero, at) is = no_call call (ap (submitted_call xid) (some-injective entries.WriteFailed e at) ∙ is)
writes_none (entries.WriteFailed ∷ es) are xid e call (suc n, at) is = writes_none es are xid e call (n, at) is
writes_none (entries.Initial initial ∷ es) are xid e call i is = absurd are
writes_none (entries.Submit c form x ∷ es) are xid e call i is = absurd are
writes_none (entries.Fed bytes previous ∷ es) are xid e call i is = absurd are
writes_none (entries.Done x outcome asked ∷ es) are xid e call i is = absurd are
writes_none (entries.Lost x asked ∷ es) are xid e call i is = absurd are
writes_none (entries.Forget x asked ∷ es) are xid e call i is = absurd are
writes_none (entries.Revoke x bytes asked ∷ es) are xid e call i is = absurd are
writes_none (entries.Stopped cause previous ∷ es) are xid e call i is = absurd are
writes_none (entries.Rejoin sink previous ∷ es) are xid e call i is = absurd are
writes_none (entries.OutOfMemory piece previous ∷ es) are xid e call i is = absurd are

none_both : (xs ys : List Entry) → SubmitsNone xs → SubmitsNone ys → SubmitsNone (xs ++ ys)
none_both xs ys one two xid e call i is = ⊎_elim (λ (j : IsIn e xs). one xid e call j is) (λ (j : IsIn e ys). two xid e call j is) (in_either xs ys e i)

none_one : (e : Entry) → ((xid : ℕ) → submitted_call xid e ≡ None) → SubmitsNone (e ∷ [])
none_one e never xid f call (zero, at) is = no_call call (sym (never xid) ∙ (ap (submitted_call xid) (some-injective e f at) ∙ is))
none_one e never xid f call (suc n, at) is = some-ne-none f (sym at)

none_added : (h : List Entry) (ks : List ℕ) (es : List Entry) → AreAt h ks es → SubmitsNone es → (xid k : ℕ) (call : Call) → IsIn k ks → IsCallAt h xid k call → ⊥
none_added h ks es are silent xid k call i (e, at, is) =
    let (f, (one, there)) = at_one h ks es k are i in
    silent xid f call one (ap (submitted_call xid) (some-injective f e (sym there ∙ at)) ∙ is)

-- of entries of which one submits a call, that stands at one place
only_place : (h : List Entry) (ks : List ℕ) (xs ys : List Entry) (s : Entry) → AreAt h ks (xs ++ s ∷ ys) → SubmitsNone xs → SubmitsNone ys
    → (m : ℕ) × ((xid k : ℕ) (call : Call) → IsIn k ks → IsCallAt h xid k call → k ≡ m)
only_place h [] [] ys s are before after = absurd are
only_place h [] (x ∷ xs) ys s are before after = absurd are
only_place h (j ∷ ks) [] ys s are before after = (j, λ xid k call i is. by xid k call i is) where
  by : (xid k : ℕ) (call : Call) → IsIn k (j ∷ ks) → IsCallAt h xid k call → k ≡ j
  by xid k call (zero, at) is = sym (some-injective j k at)
  by xid k call (suc n, at) is = absurd (none_added h ks ys are.1 after xid k call (n, at) is)
only_place h (j ∷ ks) (x ∷ xs) ys s are before after =
    let (m, later) = only_place h ks xs ys s are.1 (λ xid e call i is. before xid e call (suc i.0, i.1) is) after in
    (m, λ xid k call i is. by m later xid k call i is) where
      by : (m : ℕ) → ((xid k : ℕ) (call : Call) → IsIn k ks → IsCallAt h xid k call → k ≡ m) → (xid k : ℕ) (call : Call) → IsIn k (j ∷ ks) → IsCallAt h xid k call → k ≡ m
      by m later xid k call (zero, at) (e, there, is) = let same : x ≡ e = some-injective x e (sym are.0 ∙ (ap (λ (n : ℕ). get_elem? h n) (some-injective j k at) ∙ there)) in
          absurd (before xid x call (0, refl) (ap (submitted_call xid) same ∙ is))
      by m later xid k call (suc n, at) is = later xid k call (n, at) is

-- a call that was open is so in the longer history, if its place is open
call_on : (v w : CallerView) (xid k : ℕ) (call : Call) → Begins v.seen w.seen → HasCallAt v xid k call → IsOpenAt w k → HasCallAt w xid k call
call_on v w xid k call begins has still = record { stands = asked_on v.seen w.seen xid k call begins has.stands; open_place = still }

-- an open call was open before, or its place was added
was_open : (v w : CallerView) (es : List Entry) (xid k : ℕ) (call : Call) → Lies v.seen v.mine → (a : AddsTo v w es) → HasCallAt w xid k call → HasCallAt v xid k call ⊎ IsIn k a.places
was_open v w es xid k call lies a has = ⊎_elim
    (λ (old : IsIn k v.mine). inl (record { stands = stood old has.stands; open_place = (old, unclosed_before v.seen w.seen k a.seen has.open_place.1) }))
    (λ (new : IsIn k a.places). inr new)
    (in_either v.mine a.places k (subst (IsIn k) a.mine has.open_place.0)) where
      stood : IsIn k v.mine → IsCallAt w.seen xid k call → IsCallAt v.seen xid k call
      stood old (e, at, is) = (e, at_begin v.seen a.seen.0 k e (lies k old) (subst (λ (l : List Entry). get_elem? l k ≡ some e) a.seen.1 at), is)

-- it was, if none of the entries that were added submits a call
open_before : (v w : CallerView) (es : List Entry) → Lies v.seen v.mine → AddsTo v w es → SubmitsNone es → (xid k : ℕ) (call : Call) → HasCallAt w xid k call → HasCallAt v xid k call
open_before v w es lies a silent xid k call has = ⊎_elim
    (λ (old : HasCallAt v xid k call). old)
    (λ (new : IsIn k a.places). absurd (none_added w.seen a.places es a.at silent xid k call new has.stands))
    (was_open v w es xid k call lies a has)

-- it was, or it is the one call that they submit
open_or_new : (v w : CallerView) (xs ys : List Entry) (s : Entry) (at x : ℕ) (c : Call) → Lies v.seen v.mine → AddsTo v w (xs ++ s ∷ ys) → SubmitsNone xs → SubmitsNone ys → IsCallAt w.seen x at c → length v.seen ≤ at → IsIn at w.mine
    → (xid k : ℕ) (call : Call) → HasCallAt w xid k call → HasCallAt v xid k call ⊎ (k ≡ at)
open_or_new v w xs ys s at x c lies a before after stands new own xid k call has = ⊎_elim
    (λ (old : HasCallAt v xid k call). inl old)
    (λ (i : IsIn k a.places). inr (one.1 xid k call i has.stands ∙ sym (one.1 x at c there stands)))
    (was_open v w (xs ++ s ∷ ys) xid k call lies a has) where
      one : (m : ℕ) × ((y j : ℕ) (d : Call) → IsIn j a.places → IsCallAt w.seen y j d → j ≡ m)
      one = only_place w.seen a.places xs ys s a.at before after

      there : IsIn at a.places
      there = ⊎_elim
          (λ (old : IsIn at v.mine). (let l = lies at old in absurd (omega (arith, l, new))))
          (λ (i : IsIn at a.places). i)
          (in_either v.mine a.places at (subst (IsIn at) a.mine own))

-- a place that an entry closes isn't open
closed_there : (h before : List Entry) (e : Entry) (k : ℕ) → h ≡ before ++ e ∷ [] → closes_of e ≡ Some k → IsUnclosed h k → ⊥
closed_there h before e k is closes un = un (length before) e (subst (λ (l : List Entry). get_elem? l (length before) ≡ some e) (sym is) (at_last before e (length before) refl)) closes

-- ---- Its calls

-- a call that was made, and whose place is closed
made_and_closed : (v w : CallerView) (xs ys : List Entry) (call : Call) (xid at : ℕ) (last : Entry) (before : List Entry) → IsKnown v → KeepsLaw w.seen → AreWrites xs → AreWrites ys → ((x : ℕ) → submitted_call x last ≡ None) → closes_of last ≡ Some at
    → get_elem? w.seen at ≡ some (entries.Submit call forms.Auto xid) → AddsTo v w ((xs ++ entries.Submit call forms.Auto xid ∷ ys) ++ last ∷ []) → length v.seen ≤ at → IsIn at w.mine → KeepsOpenAt v w → w.seen ≡ before ++ last ∷ []
    → KeepsTicketsOver shared_relations v w
made_and_closed v w xs ys call xid at last before known law xs_write ys_write last_none closes stands adds new own keeps seen x =
    same_open v w x law
    (λ k c has. call_on v w x k c adds.seen has (keeps k has.open_place))
    (λ k c has. ⊎_elim
    (λ (old : HasCallAt v x k c). old)
    (λ (same : k ≡ at). absurd (closed_there w.seen before last k seen (closes ∙ ap Some (sym same)) has.open_place.1))
    (open_or_new v w xs (ys ++ last ∷ []) submit at xid call known.lies (subst (AddsTo v w) (append_assoc xs (submit ∷ ys) (last ∷ [])) adds) (writes_none xs xs_write)
    (none_both ys (last ∷ []) (writes_none ys ys_write) (none_one last last_none)) (submit, stands, asked_just xid call forms.Auto) new own x k c has)) where
      submit : Entry
      submit = entries.Submit call forms.Auto xid

pub tickets_of_answer : (v w : CallerView) (call : Call) (outcome : Outcome) → IsKnown v → AnswersBy v w call outcome → KeepsTicketsOver shared_relations v w
tickets_of_answer v w call outcome known a =
    made_and_closed v w a.writes_before a.writes_after call a.xid a.at (entries.Done a.xid outcome a.at) a.before known a.law a.are_writes_before a.are_writes_after (λ x. refl) refl a.stands a.adds a.new a.own a.keeps a.seen

tickets_of_forgotten : (v w : CallerView) (call : Call) (end : CallEnd) → IsKnown v → ForgottenBy v w call end → KeepsTicketsOver shared_relations v w
tickets_of_forgotten v w call end known a =
    made_and_closed v w a.writes_before a.writes_after call a.xid a.at (entries.Forget a.xid a.at) a.before known a.law a.are_writes_before a.are_writes_after (λ x. refl) refl a.stands a.adds a.new a.own a.keeps a.seen

-- nothing is submitted, and nothing closed
keeps_all : (v w : CallerView) (es : List Entry) → IsKnown v → KeepsLaw w.seen → AddsTo v w es → SubmitsNone es → KeepsOpenAt v w → KeepsTicketsOver shared_relations v w
keeps_all v w es known law adds silent keeps x =
    same_open v w x law (λ k c has. call_on v w x k c adds.seen has (keeps k has.open_place)) (λ k c has. open_before v w es known.lies adds silent x k c has)

pub tickets_of_refused : (v w : CallerView) (call : Call) (end : CallEnd) → IsKnown v → RefusesBy v w call end → KeepsTicketsOver shared_relations v w
tickets_of_refused v w call end known r = keeps_all v w r.writes_before known r.law r.adds (writes_none r.writes_before r.are_writes_before) r.keeps

pub tickets_of_given_up : (v w : CallerView) (call : Call) (end : CallEnd) → IsKnown v → GivesUpBy v w call end → KeepsTicketsOver shared_relations v w
tickets_of_given_up v w call end known (inl refused) = tickets_of_refused v w call end known refused
tickets_of_given_up v w call end known (inr forgotten) = tickets_of_forgotten v w call end known forgotten

pub tickets_of_look : (v w : CallerView) → IsKnown v → LooksBy v w → KeepsTicketsOver shared_relations v w
tickets_of_look v w known l = keeps_all v w [] known l.law l.adds (λ xid e call i is. some-ne-none e (sym i.1)) l.keeps

-- the call of an entry is one of its xid
one_xid : (h : List Entry) (x y k : ℕ) (c d : Call) → IsCallAt h x k c → IsCallAt h y k d → x ≡ y
one_xid h x y k c d (e, at, is) (f, there, so) = by e is (ap (submitted_call y) (some-injective e f (sym at ∙ there)) ∙ so) where
  under : (z n : ℕ) (asked call : Call) → (if n == z then Some asked else None) ≡ Some call → n ≡ z
  under z n asked call is = ⊎_elim
      (λ (same : (n == z) ≡ true). eqb-true n z same)
      (λ (not : (n == z) ≡ false). absurd (no_call call (sym (ap (λ (b : Bool). if b then Some asked else None) not) ∙ is)))
      (cases_Bool (n == z))

  by : (g : Entry) → submitted_call x g ≡ Some c → submitted_call y g ≡ Some d → x ≡ y
  by (entries.Submit asked form n) one two = sym (under x n asked c one) ∙ under y n asked d two
  by (entries.Wrote bytes) one two = absurd (no_call c one)
  by entries.WriteFailed one two = absurd (no_call c one)
  by (entries.Initial initial) one two = absurd (no_call c one)
  by (entries.Fed bytes previous) one two = absurd (no_call c one)
  by (entries.Done n outcome asked) one two = absurd (no_call c one)
  by (entries.Lost n asked) one two = absurd (no_call c one)
  by (entries.Forget n asked) one two = absurd (no_call c one)
  by (entries.Revoke n bytes asked) one two = absurd (no_call c one)
  by (entries.Stopped cause previous) one two = absurd (no_call c one)
  by (entries.Rejoin sink previous) one two = absurd (no_call c one)
  by (entries.OutOfMemory piece previous) one two = absurd (no_call c one)

pub ticket_of_submitted : (v w : CallerView) (call : Call) (xid : ℕ) → IsKnown v → SubmitsBy v w call xid → OpensTicketOver shared_relations xid call v w
ticket_of_submitted v w call xid known s =
    record {
      fresh = none_open v xid (λ k c has.
          (let still = call_on v w xid k c s.adds.seen has (s.keeps k has.open_place) in
          let same = one_place w.seen s.law xid k s.at c call still.stands still.open_place.1 stood s.opened.1 in
          let l = known.lies k has.open_place.0 in
          let new = s.new in
          omega (arith, same, l, new)));
      own = open_so w xid s.at call s.law (record { stands = stood; open_place = s.opened });
      others = λ x apart. same_open v w x s.law
          (λ k c has. call_on v w x k c s.adds.seen has (s.keeps k has.open_place))
          (λ k c has. ⊎_elim
          (λ (old : HasCallAt v x k c). old)
          (λ (same : k ≡ s.at). absurd (apart (one_xid w.seen x xid k c call has.stands (subst (λ (n : ℕ). IsCallAt w.seen xid n call) (sym same) stood))))
          (open_or_new v w s.writes_before s.writes_after (entries.Submit call forms.Auto xid) s.at xid call known.lies s.adds (writes_none s.writes_before s.are_writes_before) (writes_none s.writes_after s.are_writes_after) stood s.new s.opened.0 x k c has));
    } where
      stood : IsCallAt w.seen xid s.at call
      stood = (entries.Submit call forms.Auto xid, s.stands, asked_just xid call forms.Auto)

-- the open call of an xid is closed, and nothing is submitted
closes_one : (v w : CallerView) (es : List Entry) (xid at : ℕ) (call : Call) → IsKnown v → KeepsLaw w.seen → HasCallAt v xid at call → AddsTo v w es → SubmitsNone es → KeepsOthersAt at v w → (IsUnclosed w.seen at → ⊥) → ClosesTicketOver shared_relations xid v w
closes_one v w es xid at call known law had adds silent keeps closed = record {
  own = none_open w xid (λ k c has.
      (let old = open_before v w es known.lies adds silent xid k c has in
      let same : k ≡ at = one_place v.seen known.law xid k at c call old.stands old.open_place.1 had.stands had.open_place.1 in
      closed (subst (λ (n : ℕ). IsUnclosed w.seen n) same has.open_place.1)));
  others = λ x apart. same_open v w x law
      (λ k c has. call_on v w x k c adds.seen has (keeps k (λ same. apart (one_xid v.seen x xid k c call has.stands (subst (λ (n : ℕ). IsCallAt v.seen xid n call) (sym same) had.stands))) has.open_place))
      (λ k c has. open_before v w es known.lies adds silent x k c has);
}

pub ticket_of_completed : (v w : CallerView) (xid : ℕ) (outcome : Outcome) → IsKnown v → CompletesBy xid outcome v w → ClosesTicketOver shared_relations xid v w
ticket_of_completed v w xid outcome known c =
    let last : Entry = entries.Done xid outcome c.at in
    closes_one v w (c.writes ++ last ∷ []) xid c.at c.call known c.law c.had c.adds (none_both c.writes (last ∷ []) (writes_none c.writes c.are_writes) (none_one last (λ x. refl))) c.keeps
    (λ un. closed_there w.seen c.before last c.at c.seen refl un)

pub ticket_of_forgotten : (v w : CallerView) (xid : ℕ) (end : CallEnd) → IsKnown v → ForgetsBy xid end v w → ClosesTicketOver shared_relations xid v w
ticket_of_forgotten v w xid end known c =
    let last : Entry = entries.Forget xid c.at in
    closes_one v w (c.writes ++ last ∷ []) xid c.at c.call known c.law c.had c.adds (none_both c.writes (last ∷ []) (writes_none c.writes c.are_writes) (none_one last (λ x. refl))) c.keeps
    (λ un. closed_there w.seen c.before last c.at c.seen refl un)

pub ticket_of_dropped : (v w : CallerView) (xid : ℕ) → IsKnown v → ForgetsCallBy xid v w → ClosesTicketOver shared_relations xid v w
ticket_of_dropped v w xid known c = by_place c.adds.places c.adds.at where
  by_place : (ks : List ℕ) → AreAt w.seen ks (entries.Forget xid c.at ∷ []) → ClosesTicketOver shared_relations xid v w
  by_place [] are = absurd are
  by_place (k ∷ ks) are =
      closes_one v w (entries.Forget xid c.at ∷ []) xid c.at c.call known c.law c.had c.adds (none_one (entries.Forget xid c.at) (λ x. refl)) c.keeps (λ un. un k (entries.Forget xid c.at) are.0 refl)
