-- A run up to some of the client's marks: what of it is the client's, and how such beginnings follow on one another.
use Rattle.std.proofs.Common.{◌≡◌, Bool, true, false, cond, drop, List, [], ◌∷◌, ◌++◌, refl, ap, ◌∙◌, append_assoc}
use Rattle.std.specs.List.{filter}
use Rattle.nr_reduce.specs.declared.mark.Mark.{Mark}
use Rattle.nr_laws.specs.MarkAt.{MarkAt}
use Rattle.nr_shared_laws.specs.BothSides.{up_to}

abbrev head_or : Mark → List Mark → Mark
head_or other [] = other
head_or other (m ∷ ms) = m

-- its own marks are those that were made
pub own_made : (is_own : Mark → Bool) (made run more : List Mark) → filter is_own run ≡ made ++ more → filter is_own (up_to is_own made run) ≡ made
own_made is_own [] run more e = refl
own_made is_own (k ∷ made) [] more e = absurd (let wrong : [] ≡ k ∷ (made ++ more) = e in cc)
own_made is_own (k ∷ made) (m ∷ run) more e = by (is_own m) e (own_made is_own made run more) (own_made is_own (k ∷ made) run more) where
  by : (b : Bool) → cond b (m ∷ filter is_own run) (filter is_own run) ≡ k ∷ (made ++ more) → (filter is_own run ≡ made ++ more → filter is_own (up_to is_own made run) ≡ made)
      → (filter is_own run ≡ k ∷ (made ++ more) → filter is_own (up_to is_own (k ∷ made) run) ≡ k ∷ made)
      → cond b (m ∷ filter is_own (up_to is_own (cond b made (k ∷ made)) run)) (filter is_own (up_to is_own (cond b made (k ∷ made)) run)) ≡ k ∷ made
  by true is one other = ap (λ (x : Mark). x ∷ filter is_own (up_to is_own made run)) (ap (head_or k) is) ∙ ap (λ (xs : List Mark). k ∷ xs) (one (ap (drop 1) is))
  by false is one other = other is

-- the run goes on from it
pub goes_after : (is_own : Mark → Bool) (made run : List Mark) → (after : List Mark) × (run ≡ up_to is_own made run ++ after)
goes_after is_own [] run = (run, refl)
goes_after is_own (k ∷ made) [] = ([], refl)
goes_after is_own (k ∷ made) (m ∷ run) = let rest = goes_after is_own (cond (is_own m) made (k ∷ made)) run in (rest.0, ap (λ (xs : List Mark). m ∷ xs) rest.1)

-- one up to more marks goes on from it
pub goes_further : (is_own : Mark → Bool) (made more run : List Mark) → (gap : List Mark) × (up_to is_own (made ++ more) run ≡ up_to is_own made run ++ gap)
goes_further is_own [] more run = (up_to is_own more run, refl)
goes_further is_own (k ∷ made) more [] = ([], refl)
goes_further is_own (k ∷ made) more (m ∷ run) = by (is_own m) (goes_further is_own made more run) (goes_further is_own (k ∷ made) more run) where
  by : (b : Bool) → ((gap : List Mark) × (up_to is_own (made ++ more) run ≡ up_to is_own made run ++ gap)) → ((gap : List Mark) × (up_to is_own (k ∷ (made ++ more)) run ≡ up_to is_own (k ∷ made) run ++ gap))
      → (gap : List Mark) × (m ∷ up_to is_own (cond b (made ++ more) (k ∷ (made ++ more))) run ≡ m ∷ (up_to is_own (cond b made (k ∷ made)) run ++ gap))
  by true one other = (one.0, ap (λ (xs : List Mark). m ∷ xs) one.1)
  by false one other = (other.0, ap (λ (xs : List Mark). m ∷ xs) other.1)

-- ---- A mark of one's own stands in the run too

none_last : (before : List Mark) (m : Mark) (after : List Mark) → [] ≡ before ++ m ∷ after → ⊥
none_last [] m after e = absurd (let wrong : [] ≡ m ∷ after = e in cc)
none_last (b ∷ before) m after e = absurd (let wrong : [] ≡ b ∷ (before ++ m ∷ after) = e in cc)

pub stands_in : (is_own : Mark → Bool) (run before : List Mark) (m : Mark) (after : List Mark) → filter is_own run ≡ before ++ m ∷ after → (all : List Mark) × MarkAt run all m
stands_in is_own [] before m after e = absurd (none_last before m after e)
stands_in is_own (x ∷ run) before m after e = by (is_own x) before e (λ bs later. stands_in is_own run bs m after later) where
  more : ((all : List Mark) × MarkAt run all m) → (all : List Mark) × MarkAt (x ∷ run) all m
  more got = (x ∷ got.0, record { after = got.1.after; is = ap (λ (xs : List Mark). x ∷ xs) got.1.is })

  by : (b : Bool) (bs : List Mark) → cond b (x ∷ filter is_own run) (filter is_own run) ≡ bs ++ m ∷ after → ((cs : List Mark) → filter is_own run ≡ cs ++ m ∷ after → (all : List Mark) × MarkAt run all m)
      → (all : List Mark) × MarkAt (x ∷ run) all m
  by true [] is rest = ([], record { after = run; is = ap (λ (y : Mark). y ∷ run) (ap (head_or m) is) })
  by true (y ∷ bs) is rest = more (rest bs (ap (drop 1) is))
  by false bs is rest = more (rest bs is)

-- what stands in a run up to a mark stands in the run
pub stands_before : (run before earlier : List Mark) (first m : Mark) → MarkAt run before m → MarkAt before earlier first → MarkAt run earlier first
stands_before run before earlier first m at there = record {
  after = there.after ++ m ∷ at.after;
  is = at.is ∙ (ap (λ (r : List Mark). r ++ m ∷ at.after) there.is ∙ append_assoc earlier (first ∷ there.after) (m ∷ at.after));
}
