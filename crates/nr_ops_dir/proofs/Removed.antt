-- What REMOVE and RMDIR come to, by what their rules found.
use Rattle.std.proofs.Common.{◌≡◌, ℕ, true, not, List, [], Option, None, Some, Result, Ok, Err, refl, sym, ap, ◌∙◌, subst}
use Rattle.std.specs.Prelude.{IfOk, MatchResult, is_none}
use Rattle.std.specs.Option.{option_map_or}
use Rattle.std.proofs.lemmas.Bool.{both_ways}
use Rattle.nr_nfs_base.specs.declared.caller.Caller.{Caller}
use Rattle.nr_nfs_base.specs.declared.time.Time.{Time}
use Rattle.nr_nfs_base.specs.declared.status.Status.{Status}
use Rattle.nr_nfs_base.specs.declared.status.Status.TheVariants.{Noent, Exist, Notdir, Isdir, Inval, Notempty}
use Rattle.nr_nfs_base.specs.declared.status_union.StatusUnion.TheVariants.{Done, Failed}
use Rattle.nr_nfs_args.specs.declared.remove.RemoveArgs.{RemoveArgs}
use Rattle.nr_nfs_args.specs.declared.remove.RmdirArgs.{RmdirArgs}
use Rattle.nr_tree.specs.declared.rules.Space.{Space}
use Rattle.nr_tree.specs.Tree.{Tree}
use Rattle.nr_tree.specs.Steps.{CanRemoveEntry, is_dir_at, entries_at}
use Rattle.nr_tree.specs.Changes.{tree_without_entry}
use Rattle.nr_tree.specs.Rules.{first, or_else, ◌⇒◌, on, after, answer, number_of_handle, is_dot, is_dot_dot, is_dot_name, space_rule}
use Rattle.nr_tree.specs.Replies.{wcc_data}
use Rattle.nr_tree.proofs.PassedRules.{AllClear, all_clear, clear, on_some}
use Rattle.nr_ops_dir.specs.Entries.{number_of_entry, has_entries, entry_rules}
use Rattle.nr_ops_dir.specs.Removal.{tree_without_name, remove_of, remove_rules, remove_tree, remove_reply, rmdir_of, rmdir_rules, rmdir_tree, rmdir_reply}
use Rattle.nr_ops_dir.specs.declared.removal.Target.{Target}
use Rattle.nr_ops_dir.specs.declared.removal.Target.TheVariants as targets
use Rattle.nr_ops_dir.proofs.CanRename.{no_entries}
use Rattle.nr_ops_dir.specs.private.Removed.{tree_after_removal, results_of_removal, dot_rules, removable_rules, removal_of, removal_rules, removal_tree, removal_reply}

-- the node that a name leads to is no directory with entries
abbrev pub IsBare : Tree → ℕ → Type 0
IsBare t n = is_dir_at t n ≡ true → entries_at t n ≡ []

bare_by : (t : Tree) (target : Target) (n : ℕ) → first (removable_rules t target n) ≡ None → IsBare t n
bare_by t targets.File n none dir = absurd (both_ways (is_dir_at t n) (clear (is_dir_at t n) Isdir (all_clear (removable_rules t targets.File n) none).0) dir)
bare_by t targets.Directory n none dir = no_entries (entries_at t n) (clear (has_entries t n) Notempty (all_clear (removable_rules t targets.Directory n) none).1.0)

pub bare : (t : Tree) (c : Caller) (space : Space) (target : Target) (h name : List ℕ) (n : ℕ) → first (removal_rules t c space target h name) ≡ None → number_of_entry t (number_of_handle h) name ≡ Some n → IsBare t n
bare t c space target h name n none found =
    let all : AllClear (removal_rules t c space target h name) = all_clear (removal_rules t c space target h name) none in
    let of : AllClear (removal_of t space target n) = on_some (number_of_entry t (number_of_handle h) name) n (removal_of t space target) found all.1.1.1 in
    bare_by t target n of.0

-- the directory and the node that were found, or the first refusal
abbrev pub IsFound : Tree → Option Status → List ℕ → List ℕ → Result (ℕ × ℕ) Status → Type 0
IsFound t refusal h name found =
    MatchResult found (λ n. (refusal ≡ None) × (n.0 ≡ number_of_handle h) × (number_of_entry t (number_of_handle h) name ≡ Some n.1)) (λ s. refusal ≡ Some s)

pub removal_allowed : (t : Tree) (refusal : Option Status) (h name : List ℕ) (found : Result (ℕ × ℕ) Status) → ((n : ℕ) → refusal ≡ None → number_of_entry t (number_of_handle h) name ≡ Some n → IsBare t n) → IsFound t refusal h name found
    → IfOk found (λ n. CanRemoveEntry t n.0 name n.1)
removal_allowed t refusal h name (Ok n) bare is = subst (λ (d : ℕ). CanRemoveEntry t d name n.1) (sym is.1) (record { entry = is.2; empty = bare n.1 is.0 is.2 })
removal_allowed t refusal h name (Err s) bare is = tt

pub removed_tree : (t : Tree) (now : Time) (refusal : Option Status) (h name : List ℕ) (found : Result (ℕ × ℕ) Status) → IsFound t refusal h name found
    → tree_after_removal t now name found ≡ after refusal t (tree_without_name t now h name)
removed_tree t now refusal h name (Ok n) is =
    ap (λ (d : ℕ). tree_without_entry t now d name n.1) is.1
    ∙ ap (λ (o : Option ℕ). option_map_or (λ m. tree_without_entry t now (number_of_handle h) name m) o t) (sym is.2)
    ∙ ap (λ (o : Option Status). after o t (tree_without_name t now h name)) (sym is.0)
removed_tree t now refusal h name (Err s) is = ap (λ (o : Option Status). after o t (tree_without_name t now h name)) (sym is)

pub removed_results : (t : Tree) (now : Time) (refusal : Option Status) (h name : List ℕ) (found : Result (ℕ × ℕ) Status) → IsFound t refusal h name found
    → results_of_removal t (tree_after_removal t now name found) h found ≡ answer refusal (λ s. Failed s (wcc_data t t h)) (Done (wcc_data t (after refusal t (tree_without_name t now h name)) h))
removed_results t now refusal h name (Ok n) is =
    ap (λ (new : Tree). Done (wcc_data t new h)) (removed_tree t now refusal h name (Ok n) is)
    ∙ ap (λ (o : Option Status). answer o (λ s. Failed s (wcc_data t t h)) (Done (wcc_data t (after refusal t (tree_without_name t now h name)) h))) (sym is.0)
removed_results t now refusal h name (Err s) is =
    ap (λ (o : Option Status). answer o (λ s. Failed s (wcc_data t t h)) (Done (wcc_data t (after refusal t (tree_without_name t now h name)) h))) (sym is)

-- ===== the rules of REMOVE and of RMDIR are those by what is taken out

one_first : (a rest : Option Status) → or_else a rest ≡ or_else (or_else a None) rest
one_first None rest = refl
one_first (Some s) rest = refl

two_first : (a b rest : Option Status) → or_else a (or_else b rest) ≡ or_else (or_else a (or_else b None)) rest
two_first None None rest = refl
two_first None (Some s) rest = refl
two_first (Some s) b rest = refl

first_on : (o : Option ℕ) (f g : ℕ → List (Option Status)) → ((n : ℕ) → first (f n) ≡ first (g n)) → first (on o f) ≡ first (on o g)
first_on None f g same = refl
first_on (Some n) f g same = same n

remove_of_is : (t : Tree) (space : Space) (n : ℕ) → first (remove_of t space n) ≡ first (removal_of t space targets.File n)
remove_of_is t space n = one_first (is_dir_at t n ⇒ Isdir) (or_else (space_rule space) None)

rmdir_of_is : (t : Tree) (space : Space) (n : ℕ) → first (rmdir_of t space n) ≡ first (removal_of t space targets.Directory n)
rmdir_of_is t space n = two_first (not (is_dir_at t n) ⇒ Notdir) (has_entries t n ⇒ Notempty) (or_else (space_rule space) None)

module _ (t : Tree) (c : Caller) (space : Space) (args : RemoveArgs) where
  remove_is : first (remove_rules t c space args) ≡ first (removal_rules t c space targets.File args.dir args.name)
  remove_is = ap (or_else (first (entry_rules t c args.dir args.name)))
      (one_first (is_dot_name args.name ⇒ Inval) (or_else (is_none (number_of_entry t (number_of_handle args.dir) args.name) ⇒ Noent) (first (on (number_of_entry t (number_of_handle args.dir) args.name) (remove_of t space))))
      ∙ ap (λ (o : Option Status). or_else (first (dot_rules targets.File args.name)) (or_else (is_none (number_of_entry t (number_of_handle args.dir) args.name) ⇒ Noent) o))
      (first_on (number_of_entry t (number_of_handle args.dir) args.name) (remove_of t space) (removal_of t space targets.File) (remove_of_is t space)))

  pub bare_file : (n : ℕ) → first (remove_rules t c space args) ≡ None → number_of_entry t (number_of_handle args.dir) args.name ≡ Some n → IsBare t n
  bare_file n none found = bare t c space targets.File args.dir args.name n (sym remove_is ∙ none) found

  module _ (now : Time) (h name : List ℕ) (same_dir : h ≡ args.dir) (same_name : name ≡ args.name) where
    pub remove_tree_is : removal_tree t c space now targets.File h name ≡ remove_tree t c space now args
    remove_tree_is = (λ i. removal_tree t c space now targets.File (same_dir i) (same_name i))
        ∙ ap (λ (o : Option Status). after o t (tree_without_name t now args.dir args.name)) (sym remove_is)

    pub remove_reply_is : removal_reply t c space now targets.File h name ≡ remove_reply t c space now args
    remove_reply_is = (λ i. removal_reply t c space now targets.File (same_dir i) (same_name i))
        ∙ ap (λ (o : Option Status). answer o (λ s. Failed s (wcc_data t t args.dir)) (Done (wcc_data t (after o t (tree_without_name t now args.dir args.name)) args.dir))) (sym remove_is)

module _ (t : Tree) (c : Caller) (space : Space) (args : RmdirArgs) where
  rmdir_is : first (rmdir_rules t c space args) ≡ first (removal_rules t c space targets.Directory args.dir args.name)
  rmdir_is = ap (or_else (first (entry_rules t c args.dir args.name)))
      (two_first (is_dot args.name ⇒ Inval) (is_dot_dot args.name ⇒ Exist) (or_else (is_none (number_of_entry t (number_of_handle args.dir) args.name) ⇒ Noent) (first (on (number_of_entry t (number_of_handle args.dir) args.name) (rmdir_of t space))))
      ∙ ap (λ (o : Option Status). or_else (first (dot_rules targets.Directory args.name)) (or_else (is_none (number_of_entry t (number_of_handle args.dir) args.name) ⇒ Noent) o))
      (first_on (number_of_entry t (number_of_handle args.dir) args.name) (rmdir_of t space) (removal_of t space targets.Directory) (rmdir_of_is t space)))

  pub bare_directory : (n : ℕ) → first (rmdir_rules t c space args) ≡ None → number_of_entry t (number_of_handle args.dir) args.name ≡ Some n → IsBare t n
  bare_directory n none found = bare t c space targets.Directory args.dir args.name n (sym rmdir_is ∙ none) found

  module _ (now : Time) (h name : List ℕ) (same_dir : h ≡ args.dir) (same_name : name ≡ args.name) where
    pub rmdir_tree_is : removal_tree t c space now targets.Directory h name ≡ rmdir_tree t c space now args
    rmdir_tree_is = (λ i. removal_tree t c space now targets.Directory (same_dir i) (same_name i))
        ∙ ap (λ (o : Option Status). after o t (tree_without_name t now args.dir args.name)) (sym rmdir_is)

    pub rmdir_reply_is : removal_reply t c space now targets.Directory h name ≡ rmdir_reply t c space now args
    rmdir_reply_is = (λ i. removal_reply t c space now targets.Directory (same_dir i) (same_name i))
        ∙ ap (λ (o : Option Status). answer o (λ s. Failed s (wcc_data t t args.dir)) (Done (wcc_data t (after o t (tree_without_name t now args.dir args.name)) args.dir))) (sym rmdir_is)
