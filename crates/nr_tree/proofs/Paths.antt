-- What every step needs: paths of one skeleton as those of another, who names a number, and sums after a change of one directory.
use Rattle.std.proofs.Common.{◌≡◌, ◌≢◌, ℕ, ◌+◌, ◌<◌, Bool, true, false, List, [], ◌∷◌, ◌++◌, Option, Some, refl, ap, sym, ◌∙◌, subst, arith, inl, inr, ◌⊎◌}
use Rattle.std.proofs.lemmas.Bool.{cases_Bool, eq-eqb, ne_eqb, both_ways}
use Rattle.nr_tree.specs.Entries.{Entry, Each}
use Rattle.nr_tree.specs.DirectoryGraph.{DirectoryGraph, sum_below, set, one_if, name_count_in, name_count, detached_count, IsPathUp, LiesBelow, IsConsistent}
use Rattle.nr_tree.proofs.Lists.{set_here_lem, set_other, sum_below_one_if, sum_below_zero, sum_below_some, count_none, count_some}

-- at a directory of one skeleton that a path may leave, the other has the same step
abbrev pub SameSteps : DirectoryGraph → Option ℕ → DirectoryGraph → Option ℕ → Type 0
SameSteps s a t b = (x : ℕ) → s.dir x ≡ true → x ≢ 1 → detached_count a x ≡ 0 → (t.dir x ≡ true) × (detached_count b x ≡ 0) × (t.parent x ≡ s.parent x)

pub IsPathUp_same : (s : DirectoryGraph) (a : Option ℕ) (t : DirectoryGraph) (b : Option ℕ) → SameSteps s a t b → (n : ℕ) (path : List ℕ) (top : ℕ) → IsPathUp s a n path top → IsPathUp t b n path top
IsPathUp_same s a t b same n [] top c = c
IsPathUp_same s a t b same n (p ∷ path) top c =
    let step : (t.dir n ≡ true) × (detached_count b n ≡ 0) × (t.parent n ≡ s.parent n) = same n c.0 c.1 c.2 in
    (step.0, c.1, step.1, step.2 ∙ c.3, IsPathUp_same s a t b same p path top c.4)

-- one path after another
pub IsPathUp_append : (s : DirectoryGraph) (a : Option ℕ) (n : ℕ) (path more : List ℕ) (mid top : ℕ) → IsPathUp s a n path mid → IsPathUp s a mid more top → IsPathUp s a n (path ++ more) top
IsPathUp_append s a n [] more mid top c d = subst (λ (x : ℕ). IsPathUp s a x more top) (sym c) d
IsPathUp_append s a n (p ∷ path) more mid top c d = (c.0, c.1, c.2, c.3, IsPathUp_append s a p path more mid top c.4 d)

abbrev pub Below : DirectoryGraph → Option ℕ → ℕ → Type 0
Below s a top = (x : ℕ) × (s.dir x ≡ true) × (x ≢ 1) × (detached_count a x ≡ 0) × (s.parent x ≡ top)

last_step : (s : DirectoryGraph) (a : Option ℕ) (n p top : ℕ) → (s.dir n ≡ true) × (n ≢ 1) × (detached_count a n ≡ 0) × (s.parent n ≡ p) → (p ≡ top) ⊎ Below s a top → Below s a top
last_step s a n p top c (inl e) = (n, c.0, c.1, c.2, c.3 ∙ e)
last_step s a n p top c (inr b) = b

-- a path of no steps, or one whose last step comes to its top
pub IsPathUp_last : (s : DirectoryGraph) (a : Option ℕ) (n : ℕ) (path : List ℕ) (top : ℕ) → IsPathUp s a n path top → (n ≡ top) ⊎ Below s a top
IsPathUp_last s a n [] top c = inl c
IsPathUp_last s a n (p ∷ path) top c = inr (last_step s a n p top (c.0, c.1, c.2, c.3) (IsPathUp_last s a p path top c.4))

pub detached_count_self : (h : ℕ) → detached_count (Some h) h ≡ 1
detached_count_self h = ap one_if (eq-eqb h h refl)

pub detached_count_other : (h n : ℕ) → (h ≡ n → ⊥) → detached_count (Some h) n ≡ 0
detached_count_other h n ne = ap one_if (ne_eqb h n ne)

pub not_detached : (h n : ℕ) → detached_count (Some h) n ≡ 0 → n ≡ h → ⊥
not_detached h n z e = omega (arith, z, ap one_if (eq-eqb h n (sym e)))

pub not_root : (s : DirectoryGraph) (h : ℕ) → IsConsistent s (Some h) → h ≡ 1 → ⊥
not_root s h sound e = omega (arith, sound.root_unnamed, ap one_if (eq-eqb h 1 e))

pub differ : (f : ℕ → Bool) (a b : ℕ) → f a ≡ true → f b ≡ false → a ≡ b → ⊥
differ f a b t n e = both_ways (f b) n (ap f (sym e) ∙ t)

-- the entries of a number below the next one
pub dir_below : (s : DirectoryGraph) (a : Option ℕ) (d : ℕ) → IsConsistent s a → s.dir d ≡ true → d < s.next
dir_below s a d sound is = (sound.numbers d (sound.dirs_live d is)).1

named_in : (s : DirectoryGraph) (a : Option ℕ) (n q : ℕ) → IsConsistent s a → name_count s n ≡ 0 → (s.dir q ≡ true) ⊎ (s.dir q ≡ false) → Each (λ e. e.number ≡ n → ⊥) (s.entries q)
named_in s a n q sound z (inl is) = count_none n (s.entries q) (sum_below_zero s.next q (λ d. name_count_in (s.entries d) n) z (dir_below s a q sound is))
named_in s a n q sound z (inr isnt) = subst (λ (es : List Entry). Each (λ e. e.number ≡ n → ⊥) es) (sym (sound.dirs_alone q isnt)) tt

-- if nothing counts as naming a number, no entry names it
pub unnamed : (s : DirectoryGraph) (a : Option ℕ) (n q : ℕ) → IsConsistent s a → name_count s n ≡ 0 → Each (λ e. e.number ≡ n → ⊥) (s.entries q)
unnamed s a n q sound z = named_in s a n q sound z (cases_Bool (s.dir q))

-- nothing names a detached directory
pub detached_unnamed : (s : DirectoryGraph) (h : ℕ) → IsConsistent s (Some h) → s.dir h ≡ true → name_count s h ≡ 0
detached_unnamed s h sound is = omega (arith, sound.once h is (not_root s h sound), detached_count_self h)

-- a directory that is not detached is an entry of its parent
pub in_parent : (s : DirectoryGraph) (a : Option ℕ) (x : ℕ) → IsConsistent s a → s.dir x ≡ true → x ≢ 1 → detached_count a x ≡ 0 → 0 < name_count_in (s.entries (s.parent x)) x
in_parent s a x sound is ne free =
    let part : (d : ℕ) × (d < s.next) × (0 < name_count_in (s.entries d) x) = sum_below_some s.next (λ d. name_count_in (s.entries d) x) (omega (arith, sound.once x is ne, free)) in
    let e : (e : Entry) × (e.number ≡ x) × (s.dir e.number ≡ true → s.parent e.number ≡ part.0) =
    count_some (λ e. s.dir e.number ≡ true → s.parent e.number ≡ part.0) x (s.entries part.0) part.2 (sound.parents part.0) in
    let at : s.parent x ≡ part.0 = ap s.parent (sym {a = e.0.number} e.1) ∙ e.2 (ap s.dir e.1 ∙ is) in
    subst (λ (d : ℕ). 0 < name_count_in (s.entries d) x) (sym at) part.2

-- the sum after a change of one directory's entries
pub name_count_set : (s : DirectoryGraph) (d : ℕ) (es : List Entry) (n : ℕ) → d < s.next
    → sum_below s.next (λ q. name_count_in (set d es s.entries q) n) + name_count_in (s.entries d) n ≡ name_count s n + name_count_in es n
name_count_set s d es n lt =
    let at : name_count_in (set d es s.entries d) n ≡ name_count_in es n = ap (λ (l : List Entry). name_count_in l n) (set_here_lem d es s.entries) in
    omega (
      arith,
      at,
      sum_below_one_if s.next d (λ q. name_count_in (s.entries q) n) (λ q. name_count_in (set d es s.entries q) n) lt
          (λ q ne. ap (λ (l : List Entry). name_count_in l n) (set_other d es s.entries q ne)),
    )

by_last : (s : DirectoryGraph) (h n : ℕ) → IsConsistent s (Some h) → s.entries h ≡ [] → (n ≡ h → ⊥) → (n ≡ h) ⊎ Below s (Some h) h → ⊥
by_last s h n sound bare ne (inl z) = ne z
by_last s h n sound bare ne (inr b) =
    let some : 0 < name_count_in (s.entries (s.parent b.0)) b.0 = in_parent s (Some h) b.0 sound b.1 b.2 b.3 in
    let nothing : 0 < name_count_in [] b.0 = subst (λ (es : List Entry). 0 < name_count_in es b.0) (ap s.entries b.4 ∙ bare) some in
    omega (arith, nothing)

-- no other directory lies below a detached one that has no entries: a path would come to it by one of them
pub none_below : (s : DirectoryGraph) (h n : ℕ) → IsConsistent s (Some h) → s.entries h ≡ [] → (n ≡ h → ⊥) → LiesBelow s (Some h) n h → ⊥
none_below s h n sound bare ne way = by_last s h n sound bare ne (IsPathUp_last s (Some h) n way.0 h way.1)
