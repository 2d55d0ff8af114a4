-- A call that is new by a journal has no entry in it. So no two entries are of one call of a client with a number, whatever calls add them.
use Rattle.std.proofs.Common.{◌≡◌, ◌≢◌, ℕ, zero, suc, ◌+◌, ◌<◌, Bool, true, false, cond, ◌&&◌, eqb, leb, List, [], ◌∷◌, ◌++◌, length, map, Option, None, Some, refl, sym, ap, subst, ◌∙◌, arith, append-nil}
use Rattle.std.specs.Prelude.{slice_get}
use Rattle.std.specs.List.{AllByRecursion}
use Rattle.std.proofs.lemmas.Bool.{eq-eqb}
use Rattle.nr_reduce.specs.declared.mark.Entry.{Entry}
use Rattle.nr_reduce.specs.declared.mark.TaggedEntry.{TaggedEntry}
use Rattle.nr_reduce.specs.Limits.{window}
use Rattle.nr_reduce.specs.NumberedJournal.{HasNoEntryTwice, Standing, added_by, kept_or_new, place_from, place_of_entry, standing, standing_for, tagged, top_of}
use Rattle.nr_reduce.specs.NumberedJournal.Standing.{Old, Kept, New}

-- an entry that isn't of the call of another one
abbrev IsOther : TaggedEntry → TaggedEntry → Type 0
IsOther t u = t.client ≢ 0 → t.client ≡ u.client → t.xid ≢ u.xid

abbrev AreApart : List TaggedEntry → Type 0
AreApart [] = Unit {0}
AreApart (t ∷ T) = AllByRecursion (IsOther t) T × AreApart T

-- ---- The same by places

each_get : {X : Type 0} (P : X → Type 0) (xs : List X) (i : ℕ) (x : X) → AllByRecursion P xs → slice_get xs i ≡ Some x → P x
each_get P [] i x h e = absurd (let wrong : None ≡ Some x = e in cc)
each_get P (y ∷ xs) zero x h e = (let same : y ≡ x = cc in subst P same h.0)
each_get P (y ∷ xs) (suc i) x h e = each_get P xs i x h.1 e

each_at : {X : Type 0} (P : X → Type 0) (xs : List X) → ((i : ℕ) (x : X) → slice_get xs i ≡ Some x → P x) → AllByRecursion P xs
each_at P [] at = tt
each_at P (y ∷ xs) at = (at 0 y refl, each_at P xs (λ i x e. at (suc i) x e))

by_places : (T : List TaggedEntry) → AreApart T → HasNoEntryTwice T
by_places [] h place other t u at there some clients xids = absurd (let wrong : None ≡ Some t = at in cc)
by_places (y ∷ T) h zero zero t u at there some clients xids = refl
by_places (y ∷ T) h zero (suc other) t u at there some clients xids =
    let first : y ≡ t = cc in
    absurd (each_get (IsOther y) T other u h.0 there (λ e. some (ap (λ (x : TaggedEntry). x.client) (sym first) ∙ e)) (ap (λ (x : TaggedEntry). x.client) first ∙ clients) (ap (λ (x : TaggedEntry). x.xid) first ∙ xids))
by_places (y ∷ T) h (suc place) zero t u at there some clients xids =
    let first : y ≡ u = cc in
    let client : y.client ≡ t.client = ap (λ (x : TaggedEntry). x.client) first ∙ sym clients in
    absurd (each_get (IsOther y) T place t h.0 at (λ e. some (sym client ∙ e)) client (ap (λ (x : TaggedEntry). x.xid) first ∙ sym xids))
by_places (y ∷ T) h (suc place) (suc other) t u at there some clients xids = ap (λ (n : ℕ). suc n) (by_places T h.1 place other t u at there some clients xids)

same_before : (n m : ℕ) → suc n ≡ suc m → n ≡ m
same_before n m e = omega (arith, e)

from_places : (T : List TaggedEntry) → HasNoEntryTwice T → AreApart T
from_places [] h = tt
from_places (y ∷ T) h = (
  each_at (IsOther y) T (λ i u there some clients xids. apart_from_first i (h 0 (suc i) y u refl there some clients xids)),
  from_places T (λ place other t u at there some clients xids. same_before place other (h (suc place) (suc other) t u at there some clients xids)),
)
  where
    apart_from_first : (i : ℕ) → 0 ≡ suc i → ⊥
    apart_from_first i e = omega (arith, e)

-- ---- One entry more

each_more : {X : Type 0} (P : X → Type 0) (xs : List X) (x : X) → AllByRecursion P xs → P x → AllByRecursion P (xs ++ x ∷ [])
each_more P [] x h new = (new, tt)
each_more P (y ∷ xs) x h new = (h.0, each_more P xs x h.1 new)

apart_more : (T : List TaggedEntry) (last : TaggedEntry) → AreApart T → AllByRecursion (λ (t : TaggedEntry). IsOther t last) T → AreApart (T ++ last ∷ [])
apart_more [] last h new = (tt, tt)
apart_more (t ∷ T) last h new = (each_more (IsOther t) T last h.0 new.0, apart_more T last h.1 new.1)

none_there : (at client xid : ℕ) (T : List TaggedEntry) (last : TaggedEntry) → last.client ≡ client → last.xid ≡ xid → place_from at client xid T ≡ None → AllByRecursion (λ (t : TaggedEntry). IsOther t last) T
none_there at client xid [] last own is e = tt
none_there at client xid (t ∷ T) last own is e = by (eqb t.client client) (eqb t.xid xid) refl refl e (none_there (at + 1) client xid T last own is)
  where
    by : (a b : Bool) → eqb t.client client ≡ a → eqb t.xid xid ≡ b → cond (a && b) (Some at) (place_from (at + 1) client xid T) ≡ None
        → (place_from (at + 1) client xid T ≡ None → AllByRecursion (λ (y : TaggedEntry). IsOther y last) T) → AllByRecursion (λ (y : TaggedEntry). IsOther y last) (t ∷ T)
    by true true c x e others = absurd cc
    by true false c x e others = ((λ some same also. absurd (let wrong : true ≡ false = sym (eq-eqb t.xid xid (also ∙ is)) ∙ x in cc)), others e)
    by false b c x e others = ((λ some same also. absurd (let wrong : true ≡ false = sym (eq-eqb t.client client (same ∙ own)) ∙ c in cc)), others e)

none_numbered : (T : List TaggedEntry) (last : TaggedEntry) → last.client ≡ 0 → AllByRecursion (λ (t : TaggedEntry). IsOther t last) T
none_numbered [] last is = tt
none_numbered (t ∷ T) last is = ((λ some same also. some (same ∙ is)), none_numbered T last is)

new_none : (client xid : ℕ) (T : List TaggedEntry) → standing T client xid ≡ New → place_from 0 client xid T ≡ None
unfolding standing place_of_entry
new_none client xid T is = by (leb (xid + window) (top_of T client)) (place_from 0 client xid T) refl is
  where
    by : (b : Bool) (p : Option ℕ) → place_from 0 client xid T ≡ p → cond b (Old (top_of T client)) (kept_or_new p) ≡ New → place_from 0 client xid T ≡ None
    by true p e is = absurd cc
    by false None e is = e
    by false (Some place) e is = absurd cc

new_apart : (client xid : ℕ) (T : List TaggedEntry) (e : Entry) → standing_for T client xid ≡ New → AreApart T → AreApart (T ++ tagged client xid e ∷ [])
new_apart client xid T e is h = apart_more T (tagged client xid e) h (by (eqb client 0) is)
  where
    unnumbered : TaggedEntry
    unnumbered = record { entry = e; client = 0; xid = 0 }

    own : TaggedEntry
    own = record { entry = e; client = client; xid = xid }

    by : (b : Bool) → cond b New (standing T client xid) ≡ New → AllByRecursion (λ (t : TaggedEntry). IsOther t (cond b unnumbered own)) T
    by true is = none_numbered T unnumbered refl
    by false is = none_there 0 client xid T own refl refl (new_none client xid T is)

-- ---- What a call adds

pub none_twice : HasNoEntryTwice []
none_twice = by_places [] tt

pub none_more : (T : List TaggedEntry) → HasNoEntryTwice T → HasNoEntryTwice (T ++ [])
none_more T h = subst HasNoEntryTwice (sym (append-nil T)) h

pub added_apart : (T : List TaggedEntry) (client xid : ℕ) (es : List Entry) → length es < 2 → HasNoEntryTwice T → HasNoEntryTwice (T ++ added_by (standing_for T client xid) (map (tagged client xid) es))
added_apart T client xid es few h = by (standing_for T client xid) refl
  where
    added : (fs : List Entry) → length fs < 2 → standing_for T client xid ≡ New → HasNoEntryTwice (T ++ map (tagged client xid) fs)
    added [] lt is = none_more T h
    added (e ∷ []) lt is = by_places (T ++ tagged client xid e ∷ []) (new_apart client xid T e is (from_places T h))
    added (e ∷ f ∷ fs) lt is = absurd (omega (arith, lt))

    by : (s : Standing) → standing_for T client xid ≡ s → HasNoEntryTwice (T ++ added_by s (map (tagged client xid) es))
    by (Old top) is = none_more T h
    by (Kept place) is = none_more T h
    by New is = added es few is
