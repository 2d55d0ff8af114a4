-- A detached file that has more links, or a node that is removed, leaves the skeleton sound.
use Rattle.std.proofs.Common.{◌≡◌, ℕ, ◌+◌, ◌-◌, ◌<◌, ◌≤◌, Bool, true, false, cond, List, [], None, Some, refl, ap, sym, ◌∙◌, subst, arith, inl, inr, ◌⊎◌}
use Rattle.std.proofs.lemmas.Bool.{cases_eq, both_ways, cond-false}
use Rattle.nr_tree.specs.Entries.{Entry, Each, count}
use Rattle.nr_tree.specs.DirectoryGraph.{DirectoryGraph, sum_below, set, name_count_in, name_count, detached_count, LiesBelow, IsConnected, IsConsistent, subdirectory_count, expected_links, link_dropped, node_removed, link_added, links_max}
use Rattle.nr_tree.proofs.Lists.{set_here_lem, set_other, set_all, set_same, Each_map, Each_both, count_same}
use Rattle.nr_tree.proofs.Paths.{IsPathUp_same, SameSteps, detached_count_self, detached_count_other, not_detached, not_root, differ, unnamed, none_below}

-- ===== one link less

module _ (s : DirectoryGraph) (h : ℕ) (sound : IsConsistent s (Some h)) (file : s.dir h ≡ false) where
  abbrev less : DirectoryGraph
  less = link_dropped s h

  hangs : (n : ℕ) → IsConnected s (Some h) n → IsConnected less None n
  hangs n (inl p) = inl (p.0, IsPathUp_same s (Some h) less None (λ x dir ne free. (dir, refl, refl)) n p.0 1 p.1)
  hangs n (inr p) = let z : h ≡ p.0 = (let q : Some h ≡ Some p.0 = p.1 in cc) in absurd (differ s.dir p.0 h p.2 file (sym z))

  links_at : (n : ℕ) → s.live n ≡ true → (n ≡ h) ⊎ (n ≡ h → ⊥) → less.links n ≡ expected_links less None n
  links_at n live (inl z) =
      let old : s.links h ≡ name_count s h + detached_count (Some h) h = sound.links h (sound.detached_live h refl) ∙ cond-false (s.dir h) _ _ file in
      let sums : s.links h - 1 ≡ name_count s h + 0 = omega (arith, old, detached_count_self h) in
      subst (λ (k : ℕ). less.links k ≡ expected_links less None k) (sym z)
      (set_here_lem h (s.links h - 1) s.links ∙ sums ∙ sym (cond-false (s.dir h) (2 + subdirectory_count less h) (name_count less h + 0) file))
  links_at n live (inr ne) =
      let unlinked : detached_count (Some h) n ≡ 0 = detached_count_other h n (λ z. ne (sym z)) in
      let sums : name_count s n + detached_count (Some h) n ≡ name_count s n + 0 = omega (arith, unlinked) in
      set_other h (s.links h - 1) s.links n ne ∙ sound.links n live ∙ ap (λ (k : ℕ). cond (s.dir n) (2 + subdirectory_count s n) k) sums

  pub sound_link_dropped : IsConsistent less None
  sound_link_dropped = record {
    root = sound.root;
    root_parent = sound.root_parent;
    root_unnamed = omega (arith, sound.root_unnamed);
    numbers = sound.numbers;
    dirs_live = sound.dirs_live;
    dirs_alone = sound.dirs_alone;
    detached_live = λ k same. absurd cc;
    names_live = sound.names_live;
    parents = sound.parents;
    once = λ n dir ne. omega (arith, sound.once n dir ne, detached_count_other h n (λ z. differ s.dir n h dir file (sym z)));
    below = λ n dir. hangs n (sound.below n dir);
    links = λ n live. links_at n live (cases_eq n h);
    links_limit = λ n live. set_all (λ l. l ≤ links_max) h (s.links h - 1) s.links n (λ z. omega (arith, sound.links_limit h (sound.detached_live h refl))) (λ ne. sound.links_limit n live);
  }

-- ===== one link more

module _ (s : DirectoryGraph) (h : ℕ) (sound : IsConsistent s None) (live : s.live h ≡ true) (file : s.dir h ≡ false) (room : s.links h < links_max) where
  abbrev more : DirectoryGraph
  more = link_added s h

  hangs_more : (n : ℕ) → IsConnected s None n → IsConnected more (Some h) n
  hangs_more n (inl p) = inl (p.0, IsPathUp_same s None more (Some h) (λ x dir ne free. (dir, detached_count_other h x (λ z. differ s.dir x h dir file (sym z)), refl)) n p.0 1 p.1)
  hangs_more n (inr p) = absurd (let q : None ≡ Some p.0 = p.1 in cc)

  links_more : (n : ℕ) → s.live n ≡ true → (n ≡ h) ⊎ (n ≡ h → ⊥) → more.links n ≡ expected_links more (Some h) n
  links_more n at (inl z) =
      let old : s.links h ≡ name_count s h + 0 = sound.links h live ∙ cond-false (s.dir h) _ _ file in
      let sums : s.links h + 1 ≡ name_count s h + detached_count (Some h) h = omega (arith, old, detached_count_self h) in
      subst (λ (k : ℕ). more.links k ≡ expected_links more (Some h) k) (sym z)
      (set_here_lem h (s.links h + 1) s.links ∙ sums ∙ sym (cond-false (s.dir h) (2 + subdirectory_count more h) (name_count more h + detached_count (Some h) h) file))
  links_more n at (inr ne) =
      let sums : name_count s n + 0 ≡ name_count s n + detached_count (Some h) n = omega (arith, detached_count_other h n (λ z. ne (sym z))) in
      set_other h (s.links h + 1) s.links n ne ∙ sound.links n at ∙ ap (λ (k : ℕ). cond (s.dir n) (2 + subdirectory_count s n) k) sums

  pub sound_link_added : IsConsistent more (Some h)
  sound_link_added = record {
    root = sound.root;
    root_parent = sound.root_parent;
    root_unnamed = omega (arith, sound.root_unnamed, detached_count_other h 1 (λ z. differ s.dir 1 h sound.root file (sym z)));
    numbers = sound.numbers;
    dirs_live = sound.dirs_live;
    dirs_alone = sound.dirs_alone;
    detached_live = λ k same. let z : h ≡ k = cc in subst (λ (x : ℕ). s.live x ≡ true) z live;
    names_live = sound.names_live;
    parents = sound.parents;
    once = λ n dir ne. omega (arith, sound.once n dir ne, detached_count_other h n (λ z. differ s.dir n h dir file (sym z)));
    below = λ n dir. hangs_more n (sound.below n dir);
    links = λ n at. links_more n at (cases_eq n h);
    links_limit = λ n at. set_all (λ l. l ≤ links_max) h (s.links h + 1) s.links n (λ z. omega (arith, room)) (λ ne. sound.links_limit n at);
  }

-- ===== the node is removed

module _ (s : DirectoryGraph) (h : ℕ) (sound : IsConsistent s (Some h)) (alone : name_count s h ≡ 0) (bare : s.entries h ≡ []) where
  abbrev gone : DirectoryGraph
  gone = node_removed s h

  same_entries : gone.entries ≡ s.entries
  same_entries = set_same h [] s.entries bare

  same_naming : (n : ℕ) → name_count gone n ≡ name_count s n
  same_naming n = ap (λ (f : ℕ → List Entry). sum_below s.next (λ d. name_count_in (f d) n)) same_entries

  none_names : (q : ℕ) → Each (λ e. e.number ≡ h → ⊥) (s.entries q)
  none_names q = unnamed s (Some h) h q sound alone

  same_subdirectories : (n : ℕ) → subdirectory_count gone n ≡ subdirectory_count s n
  same_subdirectories n =
      ap (λ (f : ℕ → List Entry). count (λ e. gone.dir e.number) (f n)) same_entries
      ∙ count_same (λ e. gone.dir e.number) (λ e. s.dir e.number) (s.entries n)
      (Each_map (λ e. e.number ≡ h → ⊥) (λ e. gone.dir e.number ≡ s.dir e.number) (s.entries n) (λ e ne. set_other h false s.dir e.number ne) (none_names n))

  -- what is live, or a directory, is another node
  lives : (f : ℕ → Bool) (n : ℕ) → set h false f n ≡ true → (n ≡ h → ⊥) × (f n ≡ true)
  lives f n t =
      let ne : n ≡ h → ⊥ = λ z. both_ways (set h false f n) (ap (set h false f) z ∙ set_here_lem h false f) t in
      (ne, sym (set_other h false f n ne) ∙ t)

  steps : SameSteps s (Some h) gone None
  steps x dir ne free =
      let other : x ≡ h → ⊥ = not_detached h x free in
      (set_other h false s.dir x other ∙ dir, refl, set_other h 0 s.parent x other)

  hangs_on : (n : ℕ) → (n ≡ h → ⊥) → IsConnected s (Some h) n → IsConnected gone None n
  hangs_on n ne (inl p) = inl (p.0, IsPathUp_same s (Some h) gone None steps n p.0 1 p.1)
  hangs_on n ne (inr p) =
      let z : h ≡ p.0 = (let q : Some h ≡ Some p.0 = p.1 in cc) in
      absurd (none_below s h n sound bare ne (subst (λ (k : ℕ). LiesBelow s (Some h) n k) (sym z) p.3))

  links_on : (n : ℕ) → (n ≡ h → ⊥) × (s.live n ≡ true) → gone.links n ≡ expected_links gone None n
  links_on n at =
      let sums : name_count s n + detached_count (Some h) n ≡ name_count gone n + 0 = omega (arith, same_naming n, detached_count_other h n (λ z. at.0 (sym z))) in
      let subs : 2 + subdirectory_count s n ≡ 2 + subdirectory_count gone n = omega (arith, same_subdirectories n) in
      set_other h 0 s.links n at.0 ∙ sound.links n at.1 ∙ (λ i. cond (s.dir n) (subs i) (sums i))
      ∙ ap (λ (b : Bool). cond b (2 + subdirectory_count gone n) (name_count gone n + 0)) (sym (set_other h false s.dir n at.0))

  pub sound_node_removed : IsConsistent gone None
  sound_node_removed = record {
    root = set_other h false s.dir 1 (λ z. not_root s h sound (sym z)) ∙ sound.root;
    root_parent = set_other h 0 s.parent 1 (λ z. not_root s h sound (sym z)) ∙ sound.root_parent;
    root_unnamed = omega (arith, same_naming 1, sound.root_unnamed);
    numbers = λ n t. sound.numbers n (lives s.live n t).1;
    dirs_live = λ n t. let at : (n ≡ h → ⊥) × (s.dir n ≡ true) = lives s.dir n t in set_other h false s.live n at.0 ∙ sound.dirs_live n at.1;
    dirs_alone = λ n f. set_all (λ es. es ≡ []) h [] s.entries n (λ z. refl) (λ ne. sound.dirs_alone n (sym (set_other h false s.dir n ne) ∙ f));
    detached_live = λ k same. absurd cc;
    names_live = λ q. subst (λ (f : ℕ → List Entry). Each (λ e. gone.live e.number ≡ true) (f q)) (sym same_entries)
        (Each_both (λ e. e.number ≡ h → ⊥) (λ e. s.live e.number ≡ true) (λ e. gone.live e.number ≡ true) (s.entries q)
        (λ e ne live. set_other h false s.live e.number ne ∙ live) (none_names q) (sound.names_live q));
    parents = λ q. subst (λ (f : ℕ → List Entry). Each (λ e. gone.dir e.number ≡ true → gone.parent e.number ≡ q) (f q)) (sym same_entries)
        (Each_both (λ e. e.number ≡ h → ⊥) (λ e. s.dir e.number ≡ true → s.parent e.number ≡ q) (λ e. gone.dir e.number ≡ true → gone.parent e.number ≡ q) (s.entries q)
        (λ e ne old dir. set_other h 0 s.parent e.number ne ∙ old (sym (set_other h false s.dir e.number ne) ∙ dir)) (none_names q) (sound.parents q));
    once = λ n t ne. let at : (n ≡ h → ⊥) × (s.dir n ≡ true) = lives s.dir n t in
        omega (arith, same_naming n, sound.once n at.1 ne, detached_count_other h n (λ z. at.0 (sym z)));
    below = λ n t. let at : (n ≡ h → ⊥) × (s.dir n ≡ true) = lives s.dir n t in hangs_on n at.0 (sound.below n at.1);
    links = λ n t. links_on n (lives s.live n t);
    links_limit = λ n t. set_all (λ l. l ≤ links_max) h 0 s.links n (λ z. omega arith) (λ ne. sound.links_limit n (lives s.live n t).1);
  }
