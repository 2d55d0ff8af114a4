-- For the code: what REMOVE and RMDIR do, by the directory and the node that were found, or by the refusal.
use Rattle.std.specs.Prelude.{ℕ, not, List, [], ◌∷◌, Option, is_none, Result, Ok, Err}
use Rattle.nr_nfs_base.specs.declared.time.Time.{Time}
use Rattle.nr_nfs_base.specs.declared.caller.Caller.{Caller}
use Rattle.nr_nfs_base.specs.declared.status.Status.{Status}
use Rattle.nr_nfs_base.specs.declared.status.Status.TheVariants.{Noent, Exist, Notdir, Isdir, Inval, Notempty}
use Rattle.nr_nfs_base.specs.declared.status_union.StatusUnion.{StatusUnion}
use Rattle.nr_nfs_base.specs.declared.status_union.StatusUnion.TheVariants.{Done, Failed}
use Rattle.nr_nfs_base.specs.declared.weak_cache.WccData.{WccData}
use Rattle.nr_tree.specs.Tree.{Tree}
use Rattle.nr_tree.specs.Changes.{tree_without_entry}
use Rattle.nr_tree.specs.Steps.{is_dir_at}
use Rattle.nr_tree.specs.Rules.{first, ◌⇒◌, on, after, answer, number_of_handle, is_dot, is_dot_dot, is_dot_name, space_rule}
use Rattle.nr_tree.specs.Replies.{wcc_data}
use Rattle.nr_tree.specs.declared.rules.Space.{Space}
use Rattle.nr_ops_dir.specs.Entries.{number_of_entry, has_entries, entry_rules}
use Rattle.nr_ops_dir.specs.Removal.{tree_without_name}
use Rattle.nr_ops_dir.specs.declared.removal.Target.{Target}
use Rattle.nr_ops_dir.specs.declared.removal.Target.TheVariants as target

abbrev pub tree_after_removal : Tree → Time → List ℕ → Result (ℕ × ℕ) Status → Tree
tree_after_removal t now name (Ok n) = tree_without_entry t now n.0 name n.1
tree_after_removal t now name (Err s) = t

abbrev pub results_of_removal : Tree → Tree → List ℕ → Result (ℕ × ℕ) Status → StatusUnion WccData WccData Status
results_of_removal old new h (Ok n) = Done (wcc_data old new h)
results_of_removal old new h (Err s) = Failed s (wcc_data old new h)

-- ===== the rules of both, by what is taken out

abbrev pub dot_rules : Target → List ℕ → List (Option Status)
dot_rules target.File name = (is_dot_name name ⇒ Inval) ∷ []
dot_rules target.Directory name =
    (is_dot name ⇒ Inval) ∷
    (is_dot_dot name ⇒ Exist) ∷ []

abbrev pub removable_rules : Tree → Target → ℕ → List (Option Status)
removable_rules t target.File n = (is_dir_at t n ⇒ Isdir) ∷ []
removable_rules t target.Directory n =
    (not (is_dir_at t n) ⇒ Notdir) ∷
    (has_entries t n ⇒ Notempty) ∷ []

abbrev pub removal_of : Tree → Space → Target → ℕ → List (Option Status)
removal_of t space target n =
    first (removable_rules t target n) ∷
    space_rule space ∷ []

abbrev pub removal_rules : Tree → Caller → Space → Target → List ℕ → List ℕ → List (Option Status)
removal_rules t c space target h name =
    first (entry_rules t c h name) ∷
    first (dot_rules target name) ∷
    (is_none (number_of_entry t (number_of_handle h) name) ⇒ Noent) ∷
    on (number_of_entry t (number_of_handle h) name) (removal_of t space target)

abbrev pub removal_tree : Tree → Caller → Space → Time → Target → List ℕ → List ℕ → Tree
removal_tree t c space now target h name = after (first (removal_rules t c space target h name)) t (tree_without_name t now h name)

abbrev pub removal_reply : Tree → Caller → Space → Time → Target → List ℕ → List ℕ → StatusUnion WccData WccData Status
removal_reply t c space now target h name =
    answer (first (removal_rules t c space target h name)) (λ s. Failed s (wcc_data t t h)) (Done (wcc_data t (removal_tree t c space now target h name) h))
