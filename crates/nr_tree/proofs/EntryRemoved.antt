-- An entry taken out, its node then being detached, keeps the skeleton sound.
use Rattle.std.proofs.Common.{◌≡◌, ◌≢◌, ℕ, ◌+◌, ◌-◌, ◌≤◌, true, false, eqb, List, [], ◌∷◌, None, Some, refl, ap, sym, ◌∙◌, subst, arith, inl, inr, ◌⊎◌}
use Rattle.std.proofs.lemmas.Bool.{cases_eq, cases_Bool, cond-true, cond-false}
use Rattle.nr_tree.specs.Entries.{Entry, Each, count, entry_of_name, list_without}
use Rattle.nr_tree.specs.DirectoryGraph.{DirectoryGraph, one_if, name_count, detached_count, IsPathUp, IsConnected, IsConsistent, subdirectory_count, expected_links, entry_removed, links_max}
use Rattle.nr_tree.proofs.Lists.{set_here_lem, set_other, set_all, Each_list_without, Each_found, count_list_without}
use Rattle.nr_tree.proofs.Paths.{detached_count_other, differ, dir_below, name_count_set}

module _ (s : DirectoryGraph) (d : ℕ) (name : List ℕ) (e : Entry) (sound : IsConsistent s None) (found : entry_of_name name (s.entries d) ≡ Some e) where
  abbrev left : DirectoryGraph
  left = entry_removed s d name e.number

  is_dir_by : (s.dir d ≡ true) ⊎ (s.dir d ≡ false) → s.dir d ≡ true
  is_dir_by (inl t) = t
  is_dir_by (inr f) = let nothing : entry_of_name name [] ≡ Some e = subst (λ (es : List Entry). entry_of_name name es ≡ Some e) (sound.dirs_alone d f) found in absurd cc

  pub has_entries : s.dir d ≡ true
  has_entries = is_dir_by (cases_Bool (s.dir d))

  pub live_found : s.live e.number ≡ true
  live_found = Each_found (λ x. s.live x.number ≡ true) name (s.entries d) e found (sound.names_live d)

  pub name_count_entry_removed : (n : ℕ) → name_count left n + one_if (eqb e.number n) ≡ name_count s n
  name_count_entry_removed n =
      omega (arith, name_count_set s d (list_without name (s.entries d)) n (dir_below s None d sound has_entries), count_list_without (λ x. eqb x.number n) name (s.entries d) e found)

  step_up : (n p : ℕ) → (s.dir n ≡ true) × (n ≢ 1) × (s.parent n ≡ p) → (n ≡ e.number) ⊎ (n ≡ e.number → ⊥) → IsConnected left (Some e.number) p → IsConnected left (Some e.number) n
  step_up n p c (inl z) more = inr (e.number, refl, subst (λ (k : ℕ). s.dir k ≡ true) z c.0, ([], z))
  step_up n p c (inr ne) (inl way) = inl (p ∷ way.0, (c.0, c.1, detached_count_other e.number n (λ z. ne (sym z)), c.2, way.1))
  step_up n p c (inr ne) (inr way) = inr (way.0, way.1, way.2, (p ∷ way.3.0, (c.0, c.1, detached_count_other e.number n (λ z. ne (sym z)), c.2, way.3.1)))

  -- a path is cut when it passes the detached node
  cut : (n : ℕ) (path : List ℕ) → IsPathUp s None n path 1 → IsConnected left (Some e.number) n
  cut n [] c = inl ([], c)
  cut n (p ∷ path) c = step_up n p (c.0, c.1, c.3) (cases_eq n e.number) (cut p path c.4)

  hangs : (n : ℕ) → IsConnected s None n → IsConnected left (Some e.number) n
  hangs n (inl p) = cut n p.0 p.1
  hangs n (inr p) = absurd (let q : None ≡ Some p.0 = p.1 in cc)

  links_at : (n : ℕ) → s.live n ≡ true → (s.dir n ≡ true) ⊎ (s.dir n ≡ false) → (n ≡ d) ⊎ (n ≡ d → ⊥) → left.links n ≡ expected_links left (Some e.number) n
  links_at n live (inl t) (inl z) =
      let old : s.links d ≡ 2 + subdirectory_count s d = sound.links d (sound.dirs_live d has_entries) ∙ cond-true (s.dir d) _ _ has_entries in
      let here : subdirectory_count left d ≡ count (λ x. s.dir x.number) (list_without name (s.entries d)) =
      ap (λ (es : List Entry). count (λ x. s.dir x.number) es) (set_here_lem d (list_without name (s.entries d)) s.entries) in
      let sums : s.links d - one_if (s.dir e.number) ≡ 2 + subdirectory_count left d = omega (arith, old, here, count_list_without (λ x. s.dir x.number) name (s.entries d) e found) in
      subst (λ (k : ℕ). left.links k ≡ expected_links left (Some e.number) k) (sym z)
      (set_here_lem d (s.links d - one_if (s.dir e.number)) s.links ∙ sums ∙ sym (cond-true (s.dir d) (2 + subdirectory_count left d) (name_count left d + detached_count (Some e.number) d) has_entries))
  links_at n live (inl t) (inr ne) =
      set_other d (s.links d - one_if (s.dir e.number)) s.links n ne ∙ sound.links n live ∙ cond-true (s.dir n) _ _ t
      ∙ ap (λ (es : List Entry). 2 + count (λ x. s.dir x.number) es) (sym (set_other d (list_without name (s.entries d)) s.entries n ne))
      ∙ sym (cond-true (s.dir n) (2 + subdirectory_count left n) (name_count left n + detached_count (Some e.number) n) t)
  links_at n live (inr f) other =
      let ne : n ≡ d → ⊥ = λ z. differ s.dir d n has_entries f (sym z) in
      set_other d (s.links d - one_if (s.dir e.number)) s.links n ne ∙ sound.links n live ∙ cond-false (s.dir n) _ _ f
      ∙ (let sums : name_count s n + detached_count None n ≡ name_count left n + detached_count (Some e.number) n = omega (arith, name_count_entry_removed n) in sums)
      ∙ sym (cond-false (s.dir n) (2 + subdirectory_count left n) (name_count left n + detached_count (Some e.number) n) f)

  pub sound_entry_removed : IsConsistent left (Some e.number)
  sound_entry_removed = record {
    root = sound.root;
    root_parent = sound.root_parent;
    root_unnamed = omega (arith, name_count_entry_removed 1, sound.root_unnamed);
    numbers = sound.numbers;
    dirs_live = sound.dirs_live;
    dirs_alone = λ n f. set_all (λ es. es ≡ []) d (list_without name (s.entries d)) s.entries n (λ z. absurd (differ s.dir d n has_entries f (sym z))) (λ ne. sound.dirs_alone n f);
    detached_live = λ h same. let z : e.number ≡ h = cc in subst (λ (k : ℕ). s.live k ≡ true) z live_found;
    names_live = λ q. set_all (Each (λ x. s.live x.number ≡ true)) d (list_without name (s.entries d)) s.entries q
        (λ z. Each_list_without (λ x. s.live x.number ≡ true) name (s.entries d) (sound.names_live d)) (λ ne. sound.names_live q);
    parents = λ q. set_all (Each (λ x. s.dir x.number ≡ true → s.parent x.number ≡ q)) d (list_without name (s.entries d)) s.entries q
        (λ z. subst (λ (k : ℕ). Each (λ x. s.dir x.number ≡ true → s.parent x.number ≡ k) (list_without name (s.entries d))) (sym z)
        (Each_list_without (λ x. s.dir x.number ≡ true → s.parent x.number ≡ d) name (s.entries d) (sound.parents d)))
        (λ ne. sound.parents q);
    once = λ n dir ne. omega (arith, name_count_entry_removed n, sound.once n dir ne);
    below = λ n dir. hangs n (sound.below n dir);
    links = λ n live. links_at n live (cases_Bool (s.dir n)) (cases_eq n d);
    links_limit = λ n live. set_all (λ l. l ≤ links_max) d (s.links d - one_if (s.dir e.number)) s.links n (λ z. omega (arith, sound.links_limit d (sound.dirs_live d has_entries))) (λ ne. sound.links_limit n live);
  }
