-- How far a run of both sides goes with the first marks of one side.
use Rattle.std.proofs.Common.{◌≡◌, ℕ, zero, suc, ◌<◌, ◌≤◌, Bool, true, false, cond, List, [], ◌∷◌, ◌++◌, length, take, refl, sym, ap, subst, ◌∙◌, arith, append_assoc, length-append}
use Rattle.std.specs.List.{filter, flat_map}
use Rattle.nr_reduce.specs.declared.mark.Mark.{Mark}
use Rattle.nr_plain.specs.History.{AllPlaced}
use Rattle.nr_plain.specs.Setup.{Setup}
use Rattle.nr_reduce.specs.declared.mark.Entry.{Entry}
use Rattle.nr_turnstile.specs.Rule.{Begins}
use Rattle.nr_pair_laws.proofs.PlacedCalls.{bound, bound_rises, served_calls}

-- ---- The first marks of a run, up to the nth that is kept

pub upto : (Mark → Bool) → ℕ → List Mark → List Mark
upto f zero run = []
upto f (suc n) [] = []
upto f (suc n) (m ∷ run) = m ∷ cond (f m) (upto f n run) (upto f (suc n) run)

longer : (m : Mark) (xs ys : List Mark) → Begins xs ys → Begins (m ∷ xs) (m ∷ ys)
longer m xs ys (more, is) = (more, ap (λ (l : List Mark). m ∷ l) is)

pub begins_run : (f : Mark → Bool) (n : ℕ) (run : List Mark) → Begins (upto f n run) run
unfolding upto
begins_run f zero run = (run, refl)
begins_run f (suc n) [] = ([], refl)
begins_run f (suc n) (m ∷ run) = longer m (cond (f m) (upto f n run) (upto f (suc n) run)) run (by (f m) (λ k. begins_run f k run))
  where
    by : (b : Bool) → ((k : ℕ) → Begins (upto f k run) run) → Begins (cond b (upto f n run) (upto f (suc n) run)) run
    by true goes = goes n
    by false goes = goes (suc n)

pub begins_upto : (f : Mark → Bool) (i j : ℕ) (run : List Mark) → i ≤ j → Begins (upto f i run) (upto f j run)
unfolding upto
begins_upto f zero j run less = (upto f j run, refl)
begins_upto f (suc i) zero run less = absurd (omega (arith, less))
begins_upto f (suc i) (suc j) [] less = ([], refl)
begins_upto f (suc i) (suc j) (m ∷ run) less =
    longer m (cond (f m) (upto f i run) (upto f (suc i) run)) (cond (f m) (upto f j run) (upto f (suc j) run)) (by (f m) (λ k l less. begins_upto f k l run less))
  where
    by : (b : Bool) → ((k l : ℕ) → k ≤ l → Begins (upto f k run) (upto f l run)) → Begins (cond b (upto f i run) (upto f (suc i) run)) (cond b (upto f j run) (upto f (suc j) run))
    by true goes = goes i j (omega (arith, less))
    by false goes = goes (suc i) (suc j) less

-- at most as many as are kept of these marks: they are the first of these
pub begins_before : (f : Mark → Bool) (n : ℕ) (before rest : List Mark) → n ≤ length (filter f before) → Begins (upto f n (before ++ rest)) before
unfolding upto
begins_before f zero before rest less = (before, refl)
begins_before f (suc n) [] rest less = absurd (omega (arith, less))
begins_before f (suc n) (m ∷ before) rest less = longer m (cond (f m) (upto f n (before ++ rest)) (upto f (suc n) (before ++ rest))) before (by (f m) less (λ k few. begins_before f k before rest few))
  where
    by : (b : Bool) → suc n ≤ length (cond b (m ∷ filter f before) (filter f before)) → ((k : ℕ) → k ≤ length (filter f before) → Begins (upto f k (before ++ rest)) before)
        → Begins (cond b (upto f n (before ++ rest)) (upto f (suc n) (before ++ rest))) before
    by true less goes = goes n (omega (arith, less))
    by false less goes = goes (suc n) less

-- more than are kept of these marks: they go on from these and the next one
pub begins_after : (f : Mark → Bool) (n : ℕ) (before : List Mark) (m : Mark) (after : List Mark) → length (filter f before) < n → Begins (before ++ m ∷ []) (upto f n (before ++ m ∷ after))
unfolding upto
begins_after f zero before m after less = absurd (omega (arith, less))
begins_after f (suc n) [] m after less = (cond (f m) (upto f n after) (upto f (suc n) after), refl)
begins_after f (suc n) (x ∷ before) m after less =
    longer x (before ++ m ∷ []) (cond (f x) (upto f n (before ++ m ∷ after)) (upto f (suc n) (before ++ m ∷ after))) (by (f x) less (λ k many. begins_after f k before m after many))
  where
    by : (b : Bool) → length (cond b (x ∷ filter f before) (filter f before)) < suc n → ((k : ℕ) → length (filter f before) < k → Begins (before ++ m ∷ []) (upto f k (before ++ m ∷ after)))
        → Begins (before ++ m ∷ []) (cond b (upto f n (before ++ m ∷ after)) (upto f (suc n) (before ++ m ∷ after)))
    by true less goes = goes n (omega (arith, less))
    by false less goes = goes (suc n) less

-- of the first marks up to the nth that is kept, n are kept
pub kept_upto : (f : Mark → Bool) (run xs ys : List Mark) → filter f run ≡ xs ++ ys → filter f (upto f (length xs) run) ≡ xs
unfolding upto
kept_upto f run [] ys is = refl
kept_upto f [] (x ∷ xs) ys is = absurd cc
kept_upto f (m ∷ run) (x ∷ xs) ys is = by (f m) refl is (kept_upto f run xs ys) (kept_upto f run (x ∷ xs) ys)
  where
    front : Bool → List Mark
    front b = cond b (upto f (length xs) run) (upto f (suc (length xs)) run)

    by : (b : Bool) → f m ≡ b → cond b (m ∷ filter f run) (filter f run) ≡ x ∷ (xs ++ ys) → (filter f run ≡ xs ++ ys → filter f (upto f (length xs) run) ≡ xs)
        → (filter f run ≡ x ∷ (xs ++ ys) → filter f (upto f (suc (length xs)) run) ≡ x ∷ xs) → cond (f m) (m ∷ filter f (front (f m))) (filter f (front (f m))) ≡ x ∷ xs
    by true same is goes stays =
        let head : m ≡ x = cc in
        let rest : filter f run ≡ xs ++ ys = cc in
        ap (λ (b : Bool). cond b (m ∷ filter f (front b)) (filter f (front b))) same ∙ ap (λ (y : Mark). y ∷ filter f (upto f (length xs) run)) head ∙ ap (λ (l : List Mark). x ∷ l) (goes rest)
    by false same is goes stays = ap (λ (b : Bool). cond b (m ∷ filter f (front b)) (filter f (front b))) same ∙ stays is

-- ---- The places of calls along a run

module _ (s : Setup) (J : List Entry) (link n : ℕ) (both : List Mark) (placed : AllPlaced s J n (served_calls link both)) where
  -- a beginning of a run, and a longer one
  pub bound_begins : (front later rest : List Mark) → both ≡ later ++ rest → Begins front later → bound s J link n both placed front ≤ bound s J link n both placed later
  bound_begins front later rest is (more, begins) =
      subst (λ (l : List Mark). bound s J link n both placed front ≤ bound s J link n both placed l) (sym begins)
      (bound_rises s J link n both placed front more rest (is ∙ ap (λ (l : List Mark). l ++ rest) begins ∙ append_assoc front more rest))

-- ---- The marks of the first entries of a list

pub marks_rise : {E : Type 0} (marks : E → List Mark) (xs : List E) (i j : ℕ) → i ≤ j → length (flat_map marks (take i xs)) ≤ length (flat_map marks (take j xs))
marks_rise marks xs zero j less = omega arith
marks_rise marks xs (suc i) zero less = absurd (omega (arith, less))
marks_rise marks [] (suc i) (suc j) less = omega arith
marks_rise marks (x ∷ xs) (suc i) (suc j) less =
    let rest = marks_rise marks xs i j (omega (arith, less)) in
    let first = length-append (marks x) (flat_map marks (take i xs)) in
    let second = length-append (marks x) (flat_map marks (take j xs)) in
    omega (arith, rest, first, second)
