-- The reports of calls with one mark more, and lists.
use Rattle.std.proofs.Common.{◌≡◌, ◌≢◌, ℕ, zero, suc, ◌+◌, ◌-◌, arith, Bool, true, false, cond, eqb, eqb-true, ◌&&◌, List, [], ◌∷◌, ◌++◌, length, map, set, Option, None, Some, ◌⊎◌, inl, inr, refl, sym, ap, ◌∙◌, append-nil, append_assoc}
use Rattle.std.specs.Prelude.{slice_get, slice_set, MatchOption, fold}
use Rattle.std.specs.List.{flat_map}
use Rattle.std.proofs.lemmas.Grind.{flat_map-append}
use Rattle.std.proofs.lemmas.List.Sums.{fold-append, sum_by-cons}
use Rattle.nr_reduce.specs.declared.mark.Mark.{Mark}
use Rattle.nr_reduce.specs.History.{ExecutedCall, executed_at, executed_calls}
use Rattle.nr_drill.specs.declared.report.CallState.{CallState}
use Rattle.nr_drill.specs.declared.report.CallReport.{CallReport}
use Rattle.nr_drill.specs.Drill.{Setting}
use Rattle.nr_drill.specs.Reports.{becomes, place_if, is_open_as, number_of, last_place, reports_with, reports_from, reports_after}
use Rattle.nr_drill.specs.private.Drafts.{EndsAt, IsLatest, new_at, new_calls}

-- ===== lists

one_more : {X Y : Type 0} (f : X → List Y) (xs : List X) (x : X) → flat_map f (xs ++ x ∷ []) ≡ flat_map f xs ++ f x
one_more f xs x = flat_map-append f xs (x ∷ []) ∙ ap (λ ys. flat_map f xs ++ ys) (append-nil (f x))

-- an element of a list with one more
pub in_more : {X : Type 0} (xs : List X) (y z : X) (j : ℕ) → slice_get (xs ++ y ∷ []) j ≡ Some z → (slice_get xs j ≡ Some z) ⊎ ((j ≡ length xs) × (z ≡ y))
in_more [] y z zero e = inr (refl, sym (cc))
in_more [] y z (suc j) e = absurd cc
in_more (x ∷ xs) y z zero e = inl e
in_more (x ∷ xs) y z (suc j) e = by (in_more xs y z j e)
  where
    by : (slice_get xs j ≡ Some z) ⊎ ((j ≡ length xs) × (z ≡ y)) → (slice_get xs j ≡ Some z) ⊎ ((suc j ≡ suc (length xs)) × (z ≡ y))
    by (inl h) = inl h
    by (inr h) = inr (ap suc h.0, h.1)

pub get_last : {X : Type 0} (xs : List X) (y : X) → slice_get (xs ++ y ∷ []) (length xs) ≡ Some y
get_last [] y = refl
get_last (x ∷ xs) y = get_last xs y

get_front : {X : Type 0} (xs : List X) (y z : X) (j : ℕ) → slice_get xs j ≡ Some z → slice_get (xs ++ y ∷ []) j ≡ Some z
get_front [] y z j e = absurd cc
get_front (x ∷ xs) y z zero e = e
get_front (x ∷ xs) y z (suc j) e = get_front xs y z j e

pub in_map : {X Y : Type 0} (f : X → Y) (xs : List X) (j : ℕ) (z : Y) → slice_get (map f xs) j ≡ Some z → (x : X) × (slice_get xs j ≡ Some x) × (f x ≡ z)
in_map f [] j z e = absurd cc
in_map f (x ∷ xs) zero z e = (x, refl, cc)
in_map f (x ∷ xs) (suc j) z e = in_map f xs j z e

pub get_set_other : {X : Type 0} (xs : List X) (i j : ℕ) (y : X) → j ≢ i → slice_get (set xs i y) j ≡ slice_get xs j
get_set_other [] i j y ne = refl
get_set_other (x ∷ xs) zero zero y ne = absurd (ne refl)
get_set_other (x ∷ xs) zero (suc j) y ne = refl
get_set_other (x ∷ xs) (suc i) zero y ne = refl
get_set_other (x ∷ xs) (suc i) (suc j) y ne = get_set_other xs i j y (λ same. ne (ap suc same))

pub get_set_same : {X : Type 0} (xs : List X) (i : ℕ) (x y z : X) → slice_get xs i ≡ Some x → slice_get (set xs i y) i ≡ Some z → z ≡ y
get_set_same [] i x y z e h = absurd cc
get_set_same (x ∷ xs) zero w y z e h = cc
get_set_same (x ∷ xs) (suc i) w y z e h = get_set_same xs i w y z e h

-- f changes no element
map_kept : {X : Type 0} (f : X → X) (xs : List X) → ((j : ℕ) (x : X) → slice_get xs j ≡ Some x → f x ≡ x) → map f xs ≡ xs
map_kept f [] same = refl
map_kept f (x ∷ xs) same = (let h : f x ≡ x = same 0 x refl in let rest : map f xs ≡ xs = map_kept f xs (λ j y e. same (suc j) y e) in λ i. h i ∷ rest i)

-- f changes one element at most
map_one : {X : Type 0} (f : X → X) (xs : List X) (at : ℕ) (x : X) → slice_get xs at ≡ Some x → ((j : ℕ) (y : X) → j ≢ at → slice_get xs j ≡ Some y → f y ≡ y) → map f xs ≡ set xs at (f x)
map_one f [] at x e same = refl
map_one f (y ∷ xs) zero x e same =
    (let here : y ≡ x = cc in let rest : map f xs ≡ xs = map_kept f xs (λ j z at. same (suc j) z (λ h. absurd (omega (arith, h))) at) in λ i. f (here i) ∷ rest i)
map_one f (y ∷ xs) (suc at) x e same =
    (let here : f y ≡ y = same 0 y (λ h. absurd (omega (arith, h))) refl in
    let rest : map f xs ≡ set xs at (f x) = map_one f xs at x e (λ j z ne is. same (suc j) z (λ h. ne (omega (arith, h))) is) in λ i. here i ∷ rest i)

-- ===== the definitions, with one mark more

reports_from_one : (s : Setting) (reports : List CallReport) (before run : List Mark) (mark : Mark) → reports_from s reports before (run ++ mark ∷ []) ≡ reports_with s (before ++ run) mark (reports_from s reports before run)
reports_from_one s reports before [] mark = ap (λ (b : List Mark). reports_with s b mark reports) (sym (append-nil before))
reports_from_one s reports before (x ∷ run) mark =
    reports_from_one s (reports_with s before x reports) (before ++ x ∷ []) run mark
    ∙ ap (λ (b : List Mark). reports_with s b mark (reports_from s (reports_with s before x reports) (before ++ x ∷ []) run)) (append_assoc before (x ∷ []) run)

pub reports_one : (s : Setting) (run : List Mark) (mark : Mark) → reports_after s (run ++ mark ∷ []) ≡ reports_with s run mark (reports_after s run)
unfolding reports_after
reports_one s run mark = reports_from_one s [] [] run mark

pub new_one : (s : Setting) (client : ℕ) (run : List Mark) (mark : Mark) → new_calls s client (run ++ mark ∷ []) ≡ new_calls s client run ++ new_at s client mark
unfolding new_calls
new_one s client run mark = one_more (new_at s client) run mark

pub executed_one : (link : ℕ) (run : List Mark) (mark : Mark) → executed_calls link (run ++ mark ∷ []) ≡ executed_calls link run ++ executed_at link mark
unfolding executed_calls
executed_one link run mark = one_more (executed_at link) run mark

pub last_one : (link xid : ℕ) (run : List Mark) (mark : Mark) → last_place link xid (run ++ mark ∷ []) ≡ fold (place_if xid) (last_place link xid run) (executed_at link mark)
unfolding last_place executed_calls
last_one link xid run mark =
    ap (λ (es : List ExecutedCall). fold (place_if xid) None es) (one_more (executed_at link) run mark) ∙ fold-append (place_if xid) None (flat_map (executed_at link) run) (executed_at link mark)

-- a link that executed nothing has no place
pub none_last : (link xid : ℕ) (run : List Mark) → executed_calls link run ≡ [] → last_place link xid run ≡ None
unfolding last_place
none_last link xid run none = ap (λ (es : List ExecutedCall). fold (place_if xid) None es) none

pub back_empty : (xs ys : List ExecutedCall) → xs ++ ys ≡ [] → ys ≡ []
back_empty [] ys e = e
back_empty (x ∷ xs) ys e = absurd cc

front_empty : (xs ys : List ExecutedCall) → xs ++ ys ≡ [] → xs ≡ []
front_empty [] ys e = refl
front_empty (x ∷ xs) ys e = absurd cc

-- a link that is the latest after a mark was so before it
pub latest_before : (s : Setting) (link : ℕ) (run : List Mark) (mark : Mark) → IsLatest s link (run ++ mark ∷ []) → IsLatest s link run
latest_before s link run mark h other same lt = front_empty (executed_calls other run) (executed_at other mark) (sym (executed_one other run mark) ∙ h other same lt)

-- ===== call lines that end

becomes_or : (link xid : ℕ) (r : CallReport) → ((r.client ≡ link) × (is_open_as xid r.state ≡ true)) ⊎ ((state : CallState) → becomes link xid state r ≡ r)
becomes_or link xid r = by (eqb r.client link) (is_open_as xid r.state) refl refl
  where
    by : (a b : Bool) → eqb r.client link ≡ a → is_open_as xid r.state ≡ b → ((r.client ≡ link) × (is_open_as xid r.state ≡ true)) ⊎ ((state : CallState) → becomes link xid state r ≡ r)
    by true true p q = inl (eqb-true r.client link p, q)
    by true false p q = inr (λ state. rw (p, q) refl)
    by false b p q = inr (λ state. rw p refl)

pub becomes_client : (link xid : ℕ) (state : CallState) (r : CallReport) → (becomes link xid state r).client ≡ r.client
becomes_client link xid state r = by (eqb r.client link && is_open_as xid r.state)
  where
    by : (b : Bool) → (cond b (record r { state = state }) r).client ≡ r.client
    by true = refl
    by false = refl

-- a state that isn't open under any xid
abbrev pub IsClosed : CallState → Type 0
IsClosed state = (xid : ℕ) → is_open_as xid state ≡ false

pub becomes_open : (link xid : ℕ) (state : CallState) (r : CallReport) (other : ℕ) → IsClosed state → is_open_as other (becomes link xid state r).state ≡ true → is_open_as other r.state ≡ true
becomes_open link xid state r other closed e = by (eqb r.client link && is_open_as xid r.state) e
  where
    by : (b : Bool) → is_open_as other (cond b (record r { state = state }) r).state ≡ true → is_open_as other r.state ≡ true
    by true e = (let c : is_open_as other state ≡ false = closed other in absurd cc)
    by false e = e

pub count_becomes : (link xid : ℕ) (state : CallState) (own : ℕ) (calls : List CallReport) → number_of own (map (becomes link xid state) calls) ≡ number_of own calls
count_becomes link xid state own [] = refl
count_becomes link xid state own (r ∷ calls) =
    let f : CallReport → ℕ = λ (x : CallReport). cond (eqb x.client own) 1 0 in
    let one = sum_by-cons f (becomes link xid state r) (map (becomes link xid state) calls) in
    let two = sum_by-cons f r calls in
    let rest = count_becomes link xid state own calls in
    let same : f (becomes link xid state r) ≡ f r = ap (λ (n : ℕ). cond (eqb n own) 1 0) (becomes_client link xid state r) in
    omega (arith, one, two, rest, same)

-- of the call lines only that with this index may be open under the xid
pub ends_are : (link xid : ℕ) (state def : CallState) (calls new : List CallReport) (index : Option ℕ) → EndsAt link xid state calls new index
    → ((j : ℕ) (r : CallReport) → slice_get calls j ≡ Some r → r.client ≡ link → is_open_as xid r.state ≡ true → (index ≡ Some j) × (state ≡ def))
    → new ≡ map (becomes link xid def) calls
ends_are link xid state def calls new None e only = e ∙ sym (map_kept (becomes link xid def) calls (λ j r at. by r (only j r at) (becomes_or link xid r)))
  where
    by : (r : CallReport) → {j : ℕ} → (r.client ≡ link → is_open_as xid r.state ≡ true → (None ≡ Some j) × (state ≡ def)) → ((r.client ≡ link) × (is_open_as xid r.state ≡ true)) ⊎ ((s : CallState) → becomes link xid s r ≡ r) → becomes link xid def r ≡ r
    by r is (inl h) = absurd (let e = (is h.0 h.1).0 in cc)
    by r is (inr h) = h def
ends_are link xid state def calls new (Some at) e only = by (slice_get calls at) refl e
  where
    kept : (j : ℕ) (r : CallReport) → j ≢ at → slice_get calls j ≡ Some r → becomes link xid def r ≡ r
    kept j r ne is = or (becomes_or link xid r)
      where
        or : ((r.client ≡ link) × (is_open_as xid r.state ≡ true)) ⊎ ((s : CallState) → becomes link xid s r ≡ r) → becomes link xid def r ≡ r
        or (inl h) = absurd (ne (let e = (only j r is h.0 h.1).0 in cc))
        or (inr h) = h def

    same : (r : CallReport) → slice_get calls at ≡ Some r → becomes link xid state r ≡ becomes link xid def r
    same r is = or (becomes_or link xid r)
      where
        or : ((r.client ≡ link) × (is_open_as xid r.state ≡ true)) ⊎ ((s : CallState) → becomes link xid s r ≡ r) → becomes link xid state r ≡ becomes link xid def r
        or (inl h) = ap (λ (s : CallState). becomes link xid s r) (only at r is h.0 h.1).1
        or (inr h) = h state ∙ sym (h def)

    by : (o : Option CallReport) → slice_get calls at ≡ o → MatchOption o (new ≡ calls) (λ r. new ≡ slice_set calls at (becomes link xid state r)) → new ≡ map (becomes link xid def) calls
    by None is e = e ∙ sym (map_kept (becomes link xid def) calls (λ j r here. kept j r (λ eq. absurd (let x = ap (slice_get calls) eq in cc)) here))
    by (Some r) is e = e ∙ ap (λ (x : CallReport). slice_set calls at x) (same r is) ∙ sym (map_one (becomes link xid def) calls at r is kept)
