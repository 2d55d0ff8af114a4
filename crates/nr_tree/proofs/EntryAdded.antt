-- An entry for the detached node keeps the skeleton sound.
use Rattle.std.proofs.Common.{◌≡◌, ℕ, ◌+◌, ◌<◌, ◌≤◌, Bool, true, false, eqb, List, [], ◌∷◌, ◌++◌, None, Some, refl, ap, sym, ◌∙◌, subst, arith, inl, inr, ◌⊎◌}
use Rattle.std.proofs.lemmas.Bool.{cases_eq, cases_Bool, cond-true, cond-false}
use Rattle.nr_tree.specs.Entries.{Entry, Each, count}
use Rattle.nr_tree.specs.DirectoryGraph.{DirectoryGraph, set, one_if, name_count, detached_count, LiesBelow, IsConnected, IsConsistent, subdirectory_count, expected_links, entry_added, links_max}
use Rattle.nr_tree.proofs.Lists.{set_here_lem, set_other, set_all, Each_map, Each_both, Each_append, count_append}
use Rattle.nr_tree.proofs.Paths.{IsPathUp_same, IsPathUp_append, SameSteps, not_detached, not_root, differ, dir_below, unnamed, detached_unnamed, name_count_set}

module _ (s : DirectoryGraph) (d : ℕ) (e : Entry) (sound : IsConsistent s (Some e.number)) (is : s.dir d ≡ true)
    (room : s.dir e.number ≡ true → s.links d < links_max) (apart : s.dir e.number ≡ true → LiesBelow s (Some e.number) d e.number → ⊥) where
  abbrev put : DirectoryGraph
  put = entry_added s d e

  pub name_count_entry_added : (n : ℕ) → name_count put n ≡ name_count s n + one_if (eqb e.number n)
  name_count_entry_added n =
      omega (arith, name_count_set s d (s.entries d ++ e ∷ []) n (dir_below s (Some e.number) d sound is), count_append (λ x. eqb x.number n) (s.entries d) e)

  old_parents : (q : ℕ) → (s.dir e.number ≡ true) ⊎ (s.dir e.number ≡ false) → Each (λ x. s.dir x.number ≡ true → set e.number d s.parent x.number ≡ q) (s.entries q)
  old_parents q (inl t) =
      Each_both (λ x. x.number ≡ e.number → ⊥) (λ x. s.dir x.number ≡ true → s.parent x.number ≡ q) (λ x. s.dir x.number ≡ true → set e.number d s.parent x.number ≡ q) (s.entries q)
      (λ x ne old dir. set_other e.number d s.parent x.number ne ∙ old dir)
      (unnamed s (Some e.number) e.number q sound (detached_unnamed s e.number sound t)) (sound.parents q)
  old_parents q (inr f) =
      Each_map (λ x. s.dir x.number ≡ true → s.parent x.number ≡ q) (λ x. s.dir x.number ≡ true → set e.number d s.parent x.number ≡ q) (s.entries q)
      (λ x old dir. set_other e.number d s.parent x.number (differ s.dir x.number e.number dir f) ∙ old dir) (sound.parents q)

  same_steps : SameSteps s (Some e.number) put None
  same_steps x dir ne free = (dir, refl, set_other e.number d s.parent x (not_detached e.number x free))

  above : (h : ℕ) → Some e.number ≡ Some h → s.dir h ≡ true → LiesBelow put None h 1
  above h same dir =
      let z : e.number ≡ h = cc in
      let dir_e : s.dir e.number ≡ true = ap s.dir z ∙ dir in
      let way : LiesBelow put None d 1 = from (sound.below d is) dir_e in
      subst (λ (k : ℕ). LiesBelow put None k 1) z (d ∷ way.0, (dir_e, not_root s e.number sound, refl, set_here_lem e.number d s.parent, way.1)) where
        from : IsConnected s (Some e.number) d → s.dir e.number ≡ true → LiesBelow put None d 1
        from (inl p) t = (p.0, IsPathUp_same s (Some e.number) put None same_steps d p.0 1 p.1)
        from (inr p) t =
            let z : e.number ≡ p.0 = (let q : Some e.number ≡ Some p.0 = p.1 in cc) in
            absurd (apart t (subst (λ (k : ℕ). LiesBelow s (Some e.number) d k) (sym z) p.3))

  hangs : (n : ℕ) → IsConnected s (Some e.number) n → IsConnected put None n
  hangs n (inl p) = inl (p.0, IsPathUp_same s (Some e.number) put None same_steps n p.0 1 p.1)
  hangs n (inr p) =
      let up : LiesBelow put None p.0 1 = above p.0 p.1 p.2 in
      inl (p.3.0 ++ up.0, IsPathUp_append put None n p.3.0 up.0 p.0 1 (IsPathUp_same s (Some e.number) put None same_steps n p.3.0 p.0 p.3.1) up.1)

  links_at : (n : ℕ) → s.live n ≡ true → (s.dir n ≡ true) ⊎ (s.dir n ≡ false) → (n ≡ d) ⊎ (n ≡ d → ⊥) → put.links n ≡ expected_links put None n
  links_at n live (inl t) (inl z) =
      let old : s.links d ≡ 2 + subdirectory_count s d = sound.links d (sound.dirs_live d is) ∙ cond-true (s.dir d) _ _ is in
      let here : subdirectory_count put d ≡ subdirectory_count s d + one_if (s.dir e.number) =
      ap (λ (es : List Entry). count (λ x. s.dir x.number) es) (set_here_lem d (s.entries d ++ e ∷ []) s.entries) ∙ count_append (λ x. s.dir x.number) (s.entries d) e in
      subst (λ (k : ℕ). put.links k ≡ expected_links put None k) (sym z)
      (set_here_lem d (s.links d + one_if (s.dir e.number)) s.links ∙ (let sums : s.links d + one_if (s.dir e.number) ≡ 2 + subdirectory_count put d = omega (arith, old, here) in sums)
      ∙ sym (cond-true (s.dir d) (2 + subdirectory_count put d) (name_count put d + 0) is))
  links_at n live (inl t) (inr ne) =
      set_other d (s.links d + one_if (s.dir e.number)) s.links n ne ∙ sound.links n live ∙ cond-true (s.dir n) _ _ t
      ∙ ap (λ (es : List Entry). 2 + count (λ x. s.dir x.number) es) (sym (set_other d (s.entries d ++ e ∷ []) s.entries n ne))
      ∙ sym (cond-true (s.dir n) (2 + subdirectory_count put n) (name_count put n + 0) t)
  links_at n live (inr f) other =
      let ne : n ≡ d → ⊥ = λ z. differ s.dir d n is f (sym z) in
      set_other d (s.links d + one_if (s.dir e.number)) s.links n ne ∙ sound.links n live ∙ cond-false (s.dir n) _ _ f
      ∙ (let sums : name_count s n + detached_count (Some e.number) n ≡ name_count put n + 0 = omega (arith, name_count_entry_added n) in sums)
      ∙ sym (cond-false (s.dir n) (2 + subdirectory_count put n) (name_count put n + 0) f)

  room_for : (b : Bool) → s.dir e.number ≡ b → s.links d + one_if b ≤ links_max
  room_for true t = omega (arith, room t)
  room_for false f = omega (arith, sound.links_limit d (sound.dirs_live d is))

  pub sound_entry_added : IsConsistent put None
  sound_entry_added = record {
    root = sound.root;
    root_parent = set_other e.number d s.parent 1 (λ z. not_root s e.number sound (sym z)) ∙ sound.root_parent;
    root_unnamed = omega (arith, name_count_entry_added 1, sound.root_unnamed);
    numbers = sound.numbers;
    dirs_live = sound.dirs_live;
    dirs_alone = λ n f. set_all (λ es. es ≡ []) d (s.entries d ++ e ∷ []) s.entries n (λ z. absurd (differ s.dir d n is f (sym z))) (λ ne. sound.dirs_alone n f);
    detached_live = λ h same. absurd cc;
    names_live = λ q. set_all (Each (λ x. s.live x.number ≡ true)) d (s.entries d ++ e ∷ []) s.entries q
        (λ z. Each_append (λ x. s.live x.number ≡ true) (s.entries d) e (sound.names_live d) (sound.detached_live e.number refl)) (λ ne. sound.names_live q);
    parents = λ q. set_all (Each (λ x. s.dir x.number ≡ true → put.parent x.number ≡ q)) d (s.entries d ++ e ∷ []) s.entries q
        (λ z. subst (λ (k : ℕ). Each (λ x. s.dir x.number ≡ true → put.parent x.number ≡ k) (s.entries d ++ e ∷ [])) (sym z)
        (Each_append (λ x. s.dir x.number ≡ true → put.parent x.number ≡ d) (s.entries d) e (old_parents d (cases_Bool (s.dir e.number))) (λ dir. set_here_lem e.number d s.parent)))
        (λ ne. old_parents q (cases_Bool (s.dir e.number)));
    once = λ n dir ne. omega (arith, name_count_entry_added n, sound.once n dir ne);
    below = λ n dir. hangs n (sound.below n dir);
    links = λ n live. links_at n live (cases_Bool (s.dir n)) (cases_eq n d);
    links_limit = λ n live. set_all (λ l. l ≤ links_max) d (s.links d + one_if (s.dir e.number)) s.links n (λ z. room_for (s.dir e.number) refl) (λ ne. sound.links_limit n live);
  }
