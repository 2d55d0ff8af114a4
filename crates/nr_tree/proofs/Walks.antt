-- The walk up finds a directory if and only if a path does: no path is longer than there are numbers.
use Rattle.std.proofs.Common.{◌≡◌, ℕ, zero, suc, ◌+◌, ◌<◌, ◌≤◌, Bool, true, false, cond, eqb, not, ◌&&◌, List, [], ◌∷◌, length, None, Some, refl, ap, sym, ◌∙◌, subst, arith, inl, inr, ◌⊎◌, ◌||◌}
use Rattle.std.proofs.lemmas.Bool.{cases_Bool, both_ways, eq-eqb, ne_eqb, eqb-true, eqb-false, or_cases, and_parts, or_left, or_right, and_from, not-true, not_from_false}
use Rattle.nr_tree.specs.Entries.{Entry}
use Rattle.nr_tree.specs.DirectoryGraph.{DirectoryGraph, IsPathUp, LiesBelow, IsConnected, IsConsistent, name_count_in}
use Rattle.nr_tree.specs.Ancestors.{WalksFindAncestors}
use Rattle.nr_tree.specs.Within.{walks_to, is_within}
use Rattle.nr_tree.specs.Tree.{Tree}
use Rattle.nr_tree.specs.Sane.{IsSane, skeleton}
use Rattle.nr_tree.specs.Steps.{is_dir_at}
use Rattle.nr_tree.proofs.Paths.{in_parent, dir_below}

-- ===== as many different numbers below a bound as the bound, at most

abbrev pub On : ℕ → List ℕ → Type 0
On m [] = ⊥
On m (x ∷ xs) = (m ≡ x) ⊎ On m xs

abbrev pub Differ : List ℕ → Type 0
Differ [] = Unit {0}
Differ (x ∷ xs) = (On x xs → ⊥) × Differ xs

abbrev pub AllBelow : ℕ → List ℕ → Type 0
AllBelow n [] = Unit {0}
AllBelow n (x ∷ xs) = (x < n) × AllBelow n xs

abbrev but : ℕ → List ℕ → List ℕ
but v [] = []
but v (x ∷ xs) = cond (eqb x v) (but v xs) (x ∷ but v xs)

but_step : (b : Bool) (m x : ℕ) (rest : List ℕ) → On m (cond b rest (x ∷ rest)) → (m ≡ x) ⊎ On m rest
but_step true m x rest h = inr h
but_step false m x rest h = h

on_but : (v m : ℕ) (xs : List ℕ) → On m (but v xs) → On m xs
on_but v m [] h = h
on_but v m (x ∷ xs) h = by (but_step (eqb x v) m x (but v xs) h) (on_but v m xs) where
  by : (m ≡ x) ⊎ On m (but v xs) → (On m (but v xs) → On m xs) → (m ≡ x) ⊎ On m xs
  by (inl e) k = inl e
  by (inr o) k = inr (k o)

differ_step : (b : Bool) (x : ℕ) (rest : List ℕ) → (On x rest → ⊥) → Differ rest → Differ (cond b rest (x ∷ rest))
differ_step true x rest h d = d
differ_step false x rest h d = (h, d)

differ_but : (v : ℕ) (xs : List ℕ) → Differ xs → Differ (but v xs)
differ_but v [] d = tt
differ_but v (x ∷ xs) d = differ_step (eqb x v) x (but v xs) (λ o. d.0 (on_but v x xs o)) (differ_but v xs d.1)

below_step : (b : Bool) (n x : ℕ) (rest : List ℕ) → eqb x n ≡ b → x < suc n → AllBelow n rest → AllBelow n (cond b rest (x ∷ rest))
below_step true n x rest e lt a = a
below_step false n x rest e lt a = ((let ne : x ≡ n → ⊥ = eqb-false x n e in omega (arith, lt, ne)), a)

below_but : (n : ℕ) (xs : List ℕ) → AllBelow (suc n) xs → AllBelow n (but n xs)
below_but n [] a = tt
below_but n (x ∷ xs) a = below_step (eqb x n) n x (but n xs) refl a.0 (below_but n xs a.1)

all_step : (b : Bool) (v x : ℕ) (xs rest : List ℕ) → eqb x v ≡ b → (x ≡ v → ⊥) → length rest ≡ length xs → length (cond b rest (x ∷ rest)) ≡ suc (length xs)
all_step true v x xs rest e ne k = absurd (ne (eqb-true x v e))
all_step false v x xs rest e ne k = omega (arith, k)

-- nothing is left out if the number isn't there
but_absent : (v : ℕ) (xs : List ℕ) → (On v xs → ⊥) → length (but v xs) ≡ length xs
but_absent v [] h = refl
but_absent v (x ∷ xs) h = all_step (eqb x v) v x xs (but v xs) refl (λ e. h (inl (sym e))) (but_absent v xs (λ o. h (inr o)))

one_step : (b : Bool) (v x : ℕ) (xs rest : List ℕ) → (b ≡ true → length rest ≡ length xs) → length xs ≤ length rest + 1 → suc (length xs) ≤ length (cond b rest (x ∷ rest)) + 1
one_step true v x xs rest same k = omega (arith, same refl)
one_step false v x xs rest same k = omega (arith, k)

-- at most one is left out if all differ
but_one : (v : ℕ) (xs : List ℕ) → Differ xs → length xs ≤ length (but v xs) + 1
but_one v [] d = omega arith
but_one v (x ∷ xs) d = one_step (eqb x v) v x xs (but v xs) (λ e. but_absent v xs (λ o. d.0 (subst (λ (k : ℕ). On k xs) (sym (eqb-true x v e)) o))) (but_one v xs d.1)

none_below : (xs : List ℕ) → AllBelow 0 xs → length xs ≤ 0
none_below [] a = omega arith
none_below (x ∷ xs) a = absurd (let lt : x < 0 = a.0 in omega (arith, lt))

pub pigeonhole : (n : ℕ) (xs : List ℕ) → Differ xs → AllBelow n xs → length xs ≤ n
pigeonhole zero xs d a = none_below xs a
pigeonhole (suc n) xs d a = omega (arith, but_one n xs d, pigeonhole n (but n xs) (differ_but n xs d) (below_but n xs a))

-- ===== paths to the root

module _ (s : DirectoryGraph) where
  -- a path to another directory is no longer than the one to the root
  pub shorter : (n : ℕ) (p q : List ℕ) (top : ℕ) → IsPathUp s None n p top → IsPathUp s None n q 1 → length p ≤ length q
  shorter n [] q top c u = omega arith
  shorter n (x ∷ p) [] top c u = absurd (c.1 u)
  shorter n (x ∷ p) (y ∷ q) top c u =
      let next : IsPathUp s None x q 1 = subst (λ (k : ℕ). IsPathUp s None k q 1) (sym u.3 ∙ c.3) u.4 in
      omega (arith, shorter x p q top c.4 next)

  abbrev Tail : ℕ → ℕ → Type 0
  Tail m bound = (q : List ℕ) × (length q < bound) × IsPathUp s None m q 1

  tail_by : (m x : ℕ) (path : List ℕ) → IsPathUp s None x path 1 → (On m path → Tail m (length path)) → (m ≡ x) ⊎ On m path → Tail m (suc (length path))
  tail_by m x path c k (inl e) = (path, omega arith, subst (λ (k : ℕ). IsPathUp s None k path 1) (sym e) c)
  tail_by m x path c k (inr o) = let r : Tail m (length path) = k o in (r.0, omega (arith, r.1), r.2)

  tail_of : (n m : ℕ) (path : List ℕ) → IsPathUp s None n path 1 → On m path → Tail m (length path)
  tail_of n m [] c o = absurd o
  tail_of n m (x ∷ path) c o = tail_by m x path c.4 (tail_of x m path c.4) o

  -- no path comes to its beginning again
  not_on : (n : ℕ) (path : List ℕ) → IsPathUp s None n path 1 → On n path → ⊥
  not_on n path c o = let r : Tail n (length path) = tail_of n n path c o in omega (arith, r.1, shorter n path r.0 1 c r.2)

  differs : (n : ℕ) (path : List ℕ) → IsPathUp s None n path 1 → Differ path
  differs n [] c = tt
  differs n (x ∷ path) c = (not_on x path c.4, differs x path c.4)

  module _ (sound : IsConsistent s None) where
    each_below : (n : ℕ) (path : List ℕ) → IsPathUp s None n path 1 → (n < s.next) × AllBelow s.next path
    each_below n [] c = (let z : n ≡ 1 = c in let root : 1 < s.next = dir_below s None 1 sound sound.root in omega (arith, z, root), tt)
    each_below n (x ∷ path) c = let r : (x < s.next) × AllBelow s.next path = each_below x path c.4 in (dir_below s None n sound c.0, (r.0, r.1))

    pub short : (n : ℕ) (path : List ℕ) → IsPathUp s None n path 1 → length path < s.next
    short n path c =
        let r : (n < s.next) × AllBelow s.next path = each_below n path c in
        let few : length (n ∷ path) ≤ s.next = pigeonhole s.next (n ∷ path) (not_on n path c, differs n path c) (r.0, r.1) in omega (arith, few)

    -- a path is walked in as many steps as it has
    walked : (steps n : ℕ) (path : List ℕ) (top : ℕ) → IsPathUp s None n path top → length path ≤ steps → walks_to steps s n top ≡ true
    walked zero n [] top c le = eq-eqb n top c
    walked zero n (x ∷ path) top c le = absurd (omega (arith, le))
    walked (suc steps) n [] top c le = or_left (eqb n top) _ (eq-eqb n top c)
    walked (suc steps) n (x ∷ path) top c le =
        or_right (eqb n top) _ (and_from (not (eqb n 1)) _ (not_from_false (eqb n 1) (ne_eqb n 1 c.1))
        (ap (λ (k : ℕ). walks_to steps s k top) c.3 ∙ walked steps x path top c.4 (omega (arith, le))))

    up_of : (n : ℕ) → IsConnected s None n → LiesBelow s None n 1
    up_of n (inl p) = p
    up_of n (inr p) = absurd (let q : None ≡ Some p.0 = p.1 in cc)

    -- what isn't found by the walk doesn't lie below
    pub not_within : (n top : ℕ) → s.dir n ≡ true → is_within s n top ≡ false → LiesBelow s None n top → ⊥
    not_within n top is no_walk way =
        let up : LiesBelow s None n 1 = up_of n (sound.below n is) in
        both_ways (is_within s n top) no_walk
        (walked s.next n way.0 top way.1 (omega (arith, shorter n way.0 up.0 top way.1 up.1, short n up.0 up.1)))

    parent_by : (d x : ℕ) → 0 < name_count_in (s.entries d) x → (s.dir d ≡ true) ⊎ (s.dir d ≡ false) → s.dir d ≡ true
    parent_by d x some (inl t) = t
    parent_by d x some (inr f) = let none : 0 < name_count_in [] x = subst (λ (es : List Entry). 0 < name_count_in es x) (sound.dirs_alone d f) some in absurd (omega (arith, none))

    walk_on : (n top : ℕ) (b : Bool) → s.dir n ≡ true → (n ≡ 1 → ⊥) → LiesBelow s None (s.parent n) top → LiesBelow s None n top
    walk_on n top b is ne way = (s.parent n ∷ way.0, (is, ne, refl, refl, way.1))

    -- what the walk finds lies below
    found : (steps n top : ℕ) → s.dir n ≡ true → walks_to steps s n top ≡ true → LiesBelow s None n top
    found zero n top is w = ([], eqb-true n top w)
    found (suc steps) n top is w = by (or_cases (eqb n top) _ w) (λ ne walk. found steps (s.parent n) top (parent_by (s.parent n) n (in_parent s None n sound is ne refl) (cases_Bool (s.dir (s.parent n)))) walk) where
      by : (eqb n top ≡ true) ⊎ ((not (eqb n 1) && walks_to steps s (s.parent n) top) ≡ true)
          → ((n ≡ 1 → ⊥) → walks_to steps s (s.parent n) top ≡ true → LiesBelow s None (s.parent n) top) → LiesBelow s None n top
      by (inl e) k = ([], eqb-true n top e)
      by (inr r) k =
          let parts = and_parts (not (eqb n 1)) (walks_to steps s (s.parent n) top) r in
          let ne : n ≡ 1 → ⊥ = eqb-false n 1 (not-true (eqb n 1) parts.0) in
          walk_on n top true is ne (k ne parts.1)

    pub within : (n top : ℕ) → s.dir n ≡ true → is_within s n top ≡ true → LiesBelow s None n top
    within n top is w = found s.next n top is w

-- ===== a step of the walk

module _ (s : DirectoryGraph) (n top m : ℕ) where
  pub walk_ends : 0 < m → eqb n top ≡ true → walks_to m s n top ≡ true
  walk_ends lt at = by m lt where
    by : (k : ℕ) → 0 < k → walks_to k s n top ≡ true
    by zero lt = at
    by (suc k) lt = λ i. at i || (not (eqb n 1) && walks_to k s (s.parent n) top)

  pub walk_fails : 0 < m → eqb n top ≡ false → eqb n 1 ≡ true → walks_to m s n top ≡ false
  walk_fails lt ne root = by m lt where
    by : (k : ℕ) → 0 < k → walks_to k s n top ≡ false
    by zero lt = absurd (omega (arith, lt))
    by (suc k) lt = λ i. ne i || (not (root i) && walks_to k s (s.parent n) top)

  pub walk_goes_on : (k : ℕ) → m ≡ suc k → eqb n top ≡ false → eqb n 1 ≡ false → walks_to m s n top ≡ walks_to k s (s.parent n) top
  walk_goes_on k e ne inner = ap (λ (j : ℕ). walks_to j s n top) e ∙ (λ i. ne i || (not (inner i) && walks_to k s (s.parent n) top))

-- of a sane tree
pub within_is : (t : Tree) (d top : ℕ) → IsSane t → is_dir_at t d ≡ true → (b : Bool) → b ≡ is_within (skeleton t) d top → b ≡ true → LiesBelow (skeleton t) None d top
within_is t d top sane is b e yes_ = within (skeleton t) sane.skeleton d top is (sym e ∙ yes_)

pub not_within_is : (t : Tree) (d top : ℕ) → IsSane t → is_dir_at t d ≡ true → (b : Bool) → b ≡ is_within (skeleton t) d top → b ≡ false → LiesBelow (skeleton t) None d top → ⊥
not_within_is t d top sane is b e no_ = not_within (skeleton t) sane.skeleton d top is (sym e ∙ no_)

found_or_not : (t : Tree) (d top : ℕ) → IsSane t → is_dir_at t d ≡ true → LiesBelow (skeleton t) None d top → (b : Bool) → b ≡ is_within (skeleton t) d top → b ≡ true
found_or_not t d top sane is way true e = refl
found_or_not t d top sane is way false e = absurd (not_within_is t d top sane is false e refl way)

pub walk_finds_ancestors : WalksFindAncestors
walk_finds_ancestors t d top sane is = (within_is t d top sane is (is_within (skeleton t) d top) refl, λ way. found_or_not t d top sane is way (is_within (skeleton t) d top) refl)
