-- A new detached node keeps the skeleton sound.
use Rattle.std.proofs.Common.{◌≡◌, ◌≢◌, ℕ, zero, suc, ◌+◌, ◌<◌, ◌≤◌, Bool, true, false, cond, List, [], ◌∷◌, None, Some, refl, ap, sym, ◌∙◌, subst, arith, inl, inr, ◌⊎◌}
use Rattle.std.proofs.lemmas.Bool.{cases_eq, ne_eqb, cond-true, cond-false, false_from_ne_true}
use Rattle.nr_tree.specs.Entries.{Entry, Each, count}
use Rattle.nr_tree.specs.DirectoryGraph.{DirectoryGraph, sum_below, one_if, name_count_in, name_count, detached_count, IsConnected, IsConsistent, subdirectory_count, expected_links, node_added, links_max}
use Rattle.nr_tree.proofs.Lists.{set_here_lem, set_other, set_all, set_same, Each_map, Each_both, count_same}
use Rattle.nr_tree.proofs.Paths.{IsPathUp_same, SameSteps, detached_count_self, detached_count_other, dir_below}

count_absent : (n : ℕ) (es : List Entry) → Each (λ e. e.number ≡ n → ⊥) es → name_count_in es n ≡ 0
count_absent n [] h = refl
count_absent n (e ∷ es) h = omega (arith, ap one_if (ne_eqb e.number n h.0), count_absent n es h.1)

sum_of_none : (n : ℕ) (f : ℕ → ℕ) → ((d : ℕ) → f d ≡ 0) → sum_below n f ≡ 0
sum_of_none zero f h = refl
sum_of_none (suc n) f h = omega (arith, sum_of_none n f h, h n)

module _ (s : DirectoryGraph) (b : Bool) (p : ℕ) (sound : IsConsistent s None) where
  abbrev more : DirectoryGraph
  more = node_added s b p

  pub not_dir : s.dir s.next ≡ false
  not_dir = false_from_ne_true (s.dir s.next) (λ t. omega (arith, dir_below s None s.next sound t))

  bare : s.entries s.next ≡ []
  bare = sound.dirs_alone s.next not_dir

  same_entries : more.entries ≡ s.entries
  same_entries = set_same s.next [] s.entries bare

  -- each number that an entry names is below the next one
  old_names : (q : ℕ) → Each (λ e. e.number ≡ s.next → ⊥) (s.entries q)
  old_names q = Each_map (λ e. s.live e.number ≡ true) (λ e. e.number ≡ s.next → ⊥) (s.entries q) (λ e live z. omega (arith, z, (sound.numbers e.number live).1)) (sound.names_live q)

  same_naming : (n : ℕ) → name_count more n ≡ name_count s n
  same_naming n =
      ap (λ (f : ℕ → List Entry). sum_below (s.next + 1) (λ d. name_count_in (f d) n)) same_entries
      ∙ (let up : s.next + 1 ≡ suc s.next = omega arith in ap (λ (k : ℕ). sum_below k (λ d. name_count_in (s.entries d) n)) up)
      ∙ (let last : name_count_in (s.entries s.next) n ≡ 0 = ap (λ (es : List Entry). name_count_in es n) bare in
      let sums : name_count s n + name_count_in (s.entries s.next) n ≡ name_count s n = omega (arith, last) in sums)

  unnamed_new : name_count s s.next ≡ 0
  unnamed_new = sum_of_none s.next (λ d. name_count_in (s.entries d) s.next) (λ d. count_absent s.next (s.entries d) (old_names d))

  same_subdirectories : (n : ℕ) → subdirectory_count more n ≡ subdirectory_count s n
  same_subdirectories n =
      ap (λ (f : ℕ → List Entry). count (λ e. more.dir e.number) (f n)) same_entries
      ∙ count_same (λ e. more.dir e.number) (λ e. s.dir e.number) (s.entries n)
      (Each_map (λ e. e.number ≡ s.next → ⊥) (λ e. more.dir e.number ≡ s.dir e.number) (s.entries n) (λ e ne. set_other s.next b s.dir e.number ne) (old_names n))

  dir_old : (x : ℕ) → s.dir x ≡ true → x ≡ s.next → ⊥
  dir_old x t z = omega (arith, z, dir_below s None x sound t)

  steps : SameSteps s None more (Some s.next)
  steps x dir ne free =
      (set_other s.next b s.dir x (dir_old x dir) ∙ dir, detached_count_other s.next x (λ z. dir_old x dir (sym z)), set_other s.next p s.parent x (dir_old x dir))

  hangs_at : (n : ℕ) → more.dir n ≡ true → (n ≡ s.next) ⊎ (n ≡ s.next → ⊥) → IsConnected more (Some s.next) n
  hangs_at n t (inl z) = inr (s.next, refl, subst (λ (k : ℕ). more.dir k ≡ true) z t, ([], z))
  hangs_at n t (inr ne) = from (sound.below n (sym (set_other s.next b s.dir n ne) ∙ t)) where
    from : IsConnected s None n → IsConnected more (Some s.next) n
    from (inl w) = inl (w.0, IsPathUp_same s None more (Some s.next) steps n w.0 1 w.1)
    from (inr w) = absurd (let q : None ≡ Some w.0 = w.1 in cc)

  links_new : (c : Bool) → more.dir s.next ≡ c → b ≡ c → 1 + one_if b ≡ expected_links more (Some s.next) s.next
  links_new true t e =
      (let sums : 1 + one_if b ≡ 2 + subdirectory_count more s.next = omega (arith, ap one_if e, same_subdirectories s.next, ap (λ (es : List Entry). count (λ x. s.dir x.number) es) bare) in sums)
      ∙ sym (cond-true (more.dir s.next) (2 + subdirectory_count more s.next) (name_count more s.next + detached_count (Some s.next) s.next) t)
  links_new false t e =
      (let sums : 1 + one_if b ≡ name_count more s.next + detached_count (Some s.next) s.next = omega (arith, ap one_if e, same_naming s.next, unnamed_new, detached_count_self s.next) in sums)
      ∙ sym (cond-false (more.dir s.next) (2 + subdirectory_count more s.next) (name_count more s.next + detached_count (Some s.next) s.next) t)

  links_at : (n : ℕ) → more.live n ≡ true → (n ≡ s.next) ⊎ (n ≡ s.next → ⊥) → more.links n ≡ expected_links more (Some s.next) n
  links_at n t (inl z) =
      subst (λ (k : ℕ). more.links k ≡ expected_links more (Some s.next) k) (sym z)
      (set_here_lem s.next (1 + one_if b) s.links ∙ links_new b (set_here_lem s.next b s.dir) refl)
  links_at n t (inr ne) =
      let sums : name_count s n + 0 ≡ name_count more n + detached_count (Some s.next) n = omega (arith, same_naming n, detached_count_other s.next n (λ z. ne (sym z))) in
      let subs : 2 + subdirectory_count s n ≡ 2 + subdirectory_count more n = omega (arith, same_subdirectories n) in
      set_other s.next (1 + one_if b) s.links n ne ∙ sound.links n (sym (set_other s.next true s.live n ne) ∙ t) ∙ (λ i. cond (s.dir n) (subs i) (sums i))
      ∙ ap (λ (c : Bool). cond c (2 + subdirectory_count more n) (name_count more n + detached_count (Some s.next) n)) (sym (set_other s.next b s.dir n ne))

  one_small : (c : Bool) → 1 + one_if c ≤ links_max
  one_small true = omega arith
  one_small false = omega arith

  root_old : 1 ≡ s.next → ⊥
  root_old z = dir_old 1 sound.root z

  once_at : (n : ℕ) → more.dir n ≡ true → n ≢ 1 → (n ≡ s.next) ⊎ (n ≡ s.next → ⊥) → name_count more n + detached_count (Some s.next) n ≡ 1
  once_at n t ne (inl z) = rw (z) (omega (arith, same_naming s.next, unnamed_new, detached_count_self s.next))
  once_at n t ne (inr other) =
      omega (arith, same_naming n, sound.once n (sym (set_other s.next b s.dir n other) ∙ t) ne, detached_count_other s.next n (λ z. other (sym z)))

  numbers_at : (n : ℕ) → more.live n ≡ true → (n ≡ s.next) ⊎ (n ≡ s.next → ⊥) → (0 < n) × (n < s.next + 1)
  numbers_at n t (inl z) = let root : 1 < s.next = dir_below s None 1 sound sound.root in (omega (arith, z, root), omega (arith, z))
  numbers_at n t (inr ne) = let old : (0 < n) × (n < s.next) = sound.numbers n (sym (set_other s.next true s.live n ne) ∙ t) in (old.0, omega (arith, old.1))

  pub sound_node_added : IsConsistent more (Some s.next)
  sound_node_added = record {
    root = set_other s.next b s.dir 1 root_old ∙ sound.root;
    root_parent = set_other s.next p s.parent 1 root_old ∙ sound.root_parent;
    root_unnamed = omega (arith, same_naming 1, sound.root_unnamed, detached_count_other s.next 1 (λ z. root_old (sym z)));
    numbers = λ n t. numbers_at n t (cases_eq n s.next);
    dirs_live = λ n t. set_all (λ c. c ≡ true) s.next true s.live n (λ z. refl) (λ ne. sound.dirs_live n (sym (set_other s.next b s.dir n ne) ∙ t));
    dirs_alone = λ n f. set_all (λ es. es ≡ []) s.next [] s.entries n (λ z. refl) (λ ne. sound.dirs_alone n (sym (set_other s.next b s.dir n ne) ∙ f));
    detached_live = λ k same. let z : s.next ≡ k = cc in subst (λ (x : ℕ). more.live x ≡ true) z (set_here_lem s.next true s.live);
    names_live = λ q. subst (λ (f : ℕ → List Entry). Each (λ e. more.live e.number ≡ true) (f q)) (sym same_entries)
        (Each_both (λ e. e.number ≡ s.next → ⊥) (λ e. s.live e.number ≡ true) (λ e. more.live e.number ≡ true) (s.entries q)
        (λ e ne live. set_other s.next true s.live e.number ne ∙ live) (old_names q) (sound.names_live q));
    parents = λ q. subst (λ (f : ℕ → List Entry). Each (λ e. more.dir e.number ≡ true → more.parent e.number ≡ q) (f q)) (sym same_entries)
        (Each_both (λ e. e.number ≡ s.next → ⊥) (λ e. s.dir e.number ≡ true → s.parent e.number ≡ q) (λ e. more.dir e.number ≡ true → more.parent e.number ≡ q) (s.entries q)
        (λ e ne old dir. set_other s.next p s.parent e.number ne ∙ old (sym (set_other s.next b s.dir e.number ne) ∙ dir)) (old_names q) (sound.parents q));
    once = λ n t ne. once_at n t ne (cases_eq n s.next);
    below = λ n t. hangs_at n t (cases_eq n s.next);
    links = λ n t. links_at n t (cases_eq n s.next);
    links_limit = λ n t. set_all (λ l. l ≤ links_max) s.next (1 + one_if b) s.links n (λ z. one_small b) (λ ne. sound.links_limit n (sym (set_other s.next true s.live n ne) ∙ t));
  }
