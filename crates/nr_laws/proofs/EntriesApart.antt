-- No two entries of the one journal are of one call of a client with a number: a call is executed only if it has no entry.
use Rattle.std.proofs.Common.{◌≡◌, ◌≢◌, ℕ, zero, suc, ◌+◌, ◌<◌, Bool, true, false, cond, ◌&&◌, eqb, leb, List, [], ◌∷◌, ◌++◌, length, map, Option, None, Some, refl, sym, ap, subst, ◌∙◌, arith, append-nil}
use Rattle.std.specs.Prelude.{slice_get}
use Rattle.std.specs.List.{AllByRecursion}
use Rattle.std.proofs.lemmas.Bool.{eq-eqb}
use Rattle.nr_outside.specs.declared.moment.Moment.{Moment}
use Rattle.nr_reduce.specs.declared.mark.Entry.{Entry}
use Rattle.nr_reduce.specs.declared.mark.Mark.{Mark}
use Rattle.nr_reduce.specs.declared.mark.Mark.TheVariants as marks
use Rattle.nr_reduce.specs.declared.mark.TaggedEntry.{TaggedEntry}
use Rattle.nr_reduce.specs.Limits.{window}
use Rattle.nr_reduce.specs.KeepsCalls.{AddsOneAtMost}
use Rattle.nr_reduce.specs.NumberedJournal.{Standing, standing, standing_for, top_of, place_from, place_of_entry, kept_or_new, tagged, added_by, tagged_by, tagged_from, tagged_journal}
use Rattle.nr_reduce.specs.NumberedJournal.Standing.{Old, Kept, New}
use Rattle.nr_laws.specs.OnceEach.{NoEntryTwice}
use Rattle.nr_laws.specs.PlainLinks.{server_with}
use Rattle.nr_laws.proofs.Basics.{each_append}

-- an entry that isn't of the call of another one
abbrev IsOther : TaggedEntry → TaggedEntry → Type 0
IsOther t u = t.client ≢ 0 → t.client ≡ u.client → t.xid ≢ u.xid

abbrev AreApart : List TaggedEntry → Type 0
AreApart [] = Unit {0}
AreApart (t ∷ T) = AllByRecursion (IsOther t) T × AreApart T

apart_more : (T : List TaggedEntry) (last : TaggedEntry) → AreApart T → AllByRecursion (λ (t : TaggedEntry). IsOther t last) T → AreApart (T ++ last ∷ [])
apart_more [] last h new = (tt, tt)
apart_more (t ∷ T) last h new = (each_append (IsOther t) T (last ∷ []) h.0 (new.0, tt), apart_more T last h.1 new.1)

-- ---- A new call has no entry

none_there : (at client xid : ℕ) (T : List TaggedEntry) (last : TaggedEntry) → last.client ≡ client → last.xid ≡ xid → place_from at client xid T ≡ None → AllByRecursion (λ (t : TaggedEntry). IsOther t last) T
none_there at client xid [] last own is e = tt
none_there at client xid (t ∷ T) last own is e = by (eqb t.client client) (eqb t.xid xid) refl refl e (none_there (at + 1) client xid T last own is)
  where
    by : (a b : Bool) → eqb t.client client ≡ a → eqb t.xid xid ≡ b → cond (a && b) (Some at) (place_from (at + 1) client xid T) ≡ None
        → (place_from (at + 1) client xid T ≡ None → AllByRecursion (λ (y : TaggedEntry). IsOther y last) T) → AllByRecursion (λ (y : TaggedEntry). IsOther y last) (t ∷ T)
    by true true c x e others = absurd cc
    by true false c x e others = ((λ some same also. absurd (let wrong : true ≡ false = sym (eq-eqb t.xid xid (also ∙ is)) ∙ x in cc)), others e)
    by false b c x e others = ((λ some same also. absurd (let wrong : true ≡ false = sym (eq-eqb t.client client (same ∙ own)) ∙ c in cc)), others e)

none_numbered : (T : List TaggedEntry) (last : TaggedEntry) → last.client ≡ 0 → AllByRecursion (λ (t : TaggedEntry). IsOther t last) T
none_numbered [] last is = tt
none_numbered (t ∷ T) last is = ((λ some same also. some (same ∙ is)), none_numbered T last is)

new_none : (client xid : ℕ) (T : List TaggedEntry) → standing T client xid ≡ New → place_from 0 client xid T ≡ None
unfolding standing place_of_entry
new_none client xid T is = by (leb (xid + window) (top_of T client)) (place_from 0 client xid T) refl is
  where
    by : (b : Bool) (p : Option ℕ) → place_from 0 client xid T ≡ p → cond b (Old (top_of T client)) (kept_or_new p) ≡ New → place_from 0 client xid T ≡ None
    by true p e is = absurd cc
    by false None e is = e
    by false (Some place) e is = absurd cc

new_apart : (client xid : ℕ) (T : List TaggedEntry) (e : Entry) → standing_for T client xid ≡ New → AreApart T → AreApart (T ++ tagged client xid e ∷ [])
new_apart client xid T e is h = apart_more T (tagged client xid e) h (by (eqb client 0) is)
  where
    unnumbered : TaggedEntry
    unnumbered = record { entry = e; client = 0; xid = 0 }

    own : TaggedEntry
    own = record { entry = e; client = client; xid = xid }

    by : (b : Bool) → cond b New (standing T client xid) ≡ New → AllByRecursion (λ (t : TaggedEntry). IsOther t (cond b unnumbered own)) T
    by true is = none_numbered T unnumbered refl
    by false is = none_there 0 client xid T own refl refl (new_none client xid T is)

-- ---- Each mark, and each run

none_more : (T : List TaggedEntry) → AreApart T → AreApart (T ++ [])
none_more T h = subst AreApart (sym (append-nil T)) h

step_apart : (reply_to : List Entry → Moment → List ℕ → Option (List ℕ)) (adds : Moment → List ℕ → List ℕ → List Entry) (number : ℕ → ℕ) (T : List TaggedEntry) (mark : Mark) → AddsOneAtMost adds → AreApart T → AreApart (T ++ tagged_by (server_with reply_to adds) number T mark)
step_apart reply_to adds number T (marks.Submit l call form answer) few h = none_more T h
step_apart reply_to adds number T (marks.Wrote l side bytes) few h = none_more T h
step_apart reply_to adds number T (marks.Fed l side bytes) few h = none_more T h
step_apart reply_to adds number T (marks.Execute l xid moment payload place reply) few h = by (standing_for T (number l) xid) refl
  where
    added : (es : List Entry) → length es < 2 → standing_for T (number l) xid ≡ New → AreApart (T ++ map (tagged (number l) xid) es)
    added [] lt is = none_more T h
    added (e ∷ []) lt is = new_apart (number l) xid T e is h
    added (e ∷ f ∷ es) lt is = absurd (omega (arith, lt))

    by : (s : Standing) → standing_for T (number l) xid ≡ s → AreApart (T ++ added_by s (map (tagged (number l) xid) (adds moment payload reply)))
    by (Old top) is = none_more T h
    by (Kept at) is = none_more T h
    by New is = added (adds moment payload reply) (few moment payload reply) is
step_apart reply_to adds number T (marks.Done l xid outcome) few h = none_more T h
step_apart reply_to adds number T (marks.Lost l xid) few h = none_more T h
step_apart reply_to adds number T (marks.Forget l xid) few h = none_more T h
step_apart reply_to adds number T (marks.Revoke l xid bytes) few h = none_more T h
step_apart reply_to adds number T (marks.Drop l) few h = none_more T h
step_apart reply_to adds number T (marks.Told l what) few h = none_more T h

run_apart : (reply_to : List Entry → Moment → List ℕ → Option (List ℕ)) (adds : Moment → List ℕ → List ℕ → List Entry) (number : ℕ → ℕ) (T : List TaggedEntry) (run : List Mark) → AddsOneAtMost adds → AreApart T → AreApart (tagged_from (server_with reply_to adds) number T run)
run_apart reply_to adds number T [] few h = h
run_apart reply_to adds number T (mark ∷ run) few h =
    run_apart reply_to adds number (T ++ tagged_by (server_with reply_to adds) number T mark) run few (step_apart reply_to adds number T mark few h)

-- ---- So two that are of one call stand at one place

each_get : {X : Type 0} (P : X → Type 0) (xs : List X) (i : ℕ) (x : X) → AllByRecursion P xs → slice_get xs i ≡ Some x → P x
each_get P [] i x h e = absurd (let wrong : None ≡ Some x = e in cc)
each_get P (y ∷ xs) zero x h e = (let same : y ≡ x = cc in subst P same h.0)
each_get P (y ∷ xs) (suc i) x h e = each_get P xs i x h.1 e

one_place : (T : List TaggedEntry) (place other : ℕ) (t u : TaggedEntry) → AreApart T → slice_get T place ≡ Some t → slice_get T other ≡ Some u → t.client ≢ 0 → t.client ≡ u.client → t.xid ≡ u.xid → place ≡ other
one_place [] place other t u h at there some clients xids = absurd (let wrong : None ≡ Some t = at in cc)
one_place (y ∷ T) zero zero t u h at there some clients xids = refl
one_place (y ∷ T) zero (suc other) t u h at there some clients xids =
    let first : y ≡ t = cc in
    absurd (each_get (IsOther y) T other u h.0 there (λ e. some (ap (λ (x : TaggedEntry). x.client) (sym first) ∙ e)) (ap (λ (x : TaggedEntry). x.client) first ∙ clients) (ap (λ (x : TaggedEntry). x.xid) first ∙ xids))
one_place (y ∷ T) (suc place) zero t u h at there some clients xids =
    let first : y ≡ u = cc in
    let client : y.client ≡ t.client = ap (λ (x : TaggedEntry). x.client) first ∙ sym clients in
    absurd (each_get (IsOther y) T place t h.0 at (λ e. some (sym client ∙ e)) client (ap (λ (x : TaggedEntry). x.xid) first ∙ sym xids))
one_place (y ∷ T) (suc place) (suc other) t u h at there some clients xids = ap (λ (n : ℕ). suc n) (one_place T place other t u h.1 at there some clients xids)

pub no_entry_twice : NoEntryTwice
unfolding tagged_journal
no_entry_twice reply_to adds number run few place other t u at there some clients xids =
    one_place (tagged_journal (server_with reply_to adds) number run) place other t u (run_apart reply_to adds number [] run few tt) at there some clients xids
