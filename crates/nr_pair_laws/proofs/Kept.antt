-- Entries of a journal that don't change what a path leads to.
use Rattle.std.proofs.Common.{◌≡◌, ℕ, zero, suc, ◌+◌, ◌-◌, ◌≤◌, List, [], ◌∷◌, ◌++◌, Some, refl, ap, sym, ◌∙◌, subst, arith}
use Rattle.nr_reduce.specs.declared.mark.Entry.{Entry}
use Rattle.nr_tree.specs.Tree.{Tree}
use Rattle.nr_tree.specs.declared.node.Content.{Content}
use Rattle.nr_plain.specs.Journal.{tree_at}
use Rattle.nr_plain.specs.Setup.{Setup}
use Rattle.nr_pair_laws.specs.FilesAt.{KeepPath, KeepsPath, content_at, handle_along}
use Rattle.nr_pair_laws.proofs.Paths.{content_found}

same_path : (dir : List ℕ) (names : List (List ℕ)) (t : Tree) → KeepsPath dir names t t
same_path dir names t = record { leads = λ before after is. refl; content = refl }

then_path : (dir : List ℕ) (names : List (List ℕ)) (t u w : Tree) → KeepsPath dir names t u → KeepsPath dir names u w → KeepsPath dir names t w
then_path dir names t u w first second =
    record { leads = λ before after is. second.leads before after is ∙ first.leads before after is; content = second.content ∙ first.content }

kept_for : (s : Setup) (J : List Entry) (dir : List ℕ) (names : List (List ℕ)) (from n : ℕ) → KeepPath s J dir names from (from + n) → KeepsPath dir names (tree_at s J from) (tree_at s J (from + n))
kept_for s J dir names from zero keeps = let sum : from + 0 ≡ from = omega arith in subst (λ (k : ℕ). KeepsPath dir names (tree_at s J from) (tree_at s J k)) (sym sum) (same_path dir names (tree_at s J from))
kept_for s J dir names from (suc n) keeps =
    let sum : from + suc n ≡ suc (from + n) = omega arith in
    subst (λ (k : ℕ). KeepsPath dir names (tree_at s J from) (tree_at s J k)) (sym sum)
    (then_path dir names (tree_at s J from) (tree_at s J (from + n)) (tree_at s J (suc (from + n)))
    (kept_for s J dir names from n (λ k low high. keeps k low (omega (arith, high)))) (keeps (from + n) (omega arith) (omega arith)))

-- none of them changes it
pub kept : (s : Setup) (J : List Entry) (dir : List ℕ) (names : List (List ℕ)) (from to : ℕ) → from ≤ to → KeepPath s J dir names from to → KeepsPath dir names (tree_at s J from) (tree_at s J to)
kept s J dir names from to rises keeps =
    let sum : from + (to - from) ≡ to = omega (arith, rises) in
    subst (λ (k : ℕ). KeepsPath dir names (tree_at s J from) (tree_at s J k)) sum (kept_for s J dir names from (to - from) (λ k low high. keeps k low (omega (arith, high, sum))))

-- the file at the end of the path
pub file_kept : (dir : List ℕ) (names : List (List ℕ)) (t u : Tree) (file : List ℕ) (c : Content) → KeepsPath dir names t u → handle_along t dir names ≡ Some file → content_at t file ≡ Some c
    → (handle_along u dir names ≡ Some file) × (content_at u file ≡ Some c)
file_kept dir names t u file c keeps leads holds =
    let there : handle_along u dir names ≡ Some file = keeps.leads names [] (whole names) ∙ leads in
    (there, sym (content_found u dir names file there) ∙ keeps.content ∙ content_found t dir names file leads ∙ holds)
  where
    whole : (xs : List (List ℕ)) → xs ++ [] ≡ xs
    whole [] = refl
    whole (x ∷ xs) = ap (λ (l : List (List ℕ)). x ∷ l) (whole xs)
