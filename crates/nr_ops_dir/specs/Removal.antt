-- REMOVE and RMDIR (RFC 1813 sections 3.3.12 and 3.3.13).
use Rattle.std.specs.Prelude.{ℕ, not, List, [], ◌∷◌, Option, is_none}
use Rattle.std.specs.Option.{option_map_or}
use Rattle.nr_nfs_base.specs.declared.time.Time.{Time}
use Rattle.nr_nfs_base.specs.declared.caller.Caller.{Caller}
use Rattle.nr_nfs_base.specs.declared.status.Status.{Status}
use Rattle.nr_nfs_base.specs.declared.status.Status.TheVariants.{Noent, Exist, Notdir, Isdir, Inval, Notempty}
use Rattle.nr_nfs_base.specs.declared.status_union.StatusUnion.{StatusUnion}
use Rattle.nr_nfs_base.specs.declared.status_union.StatusUnion.TheVariants.{Done, Failed}
use Rattle.nr_nfs_base.specs.declared.weak_cache.WccData.{WccData}
use Rattle.nr_nfs_args.specs.declared.remove.RemoveArgs.{RemoveArgs}
use Rattle.nr_nfs_args.specs.declared.remove.RmdirArgs.{RmdirArgs}
use Rattle.nr_tree.specs.declared.rules.Space.{Space}
use Rattle.nr_tree.specs.Tree.{Tree}
use Rattle.nr_tree.specs.Steps.{is_dir_at}
use Rattle.nr_tree.specs.Changes.{tree_without_entry}
use Rattle.nr_tree.specs.Rules.{first, ◌⇒◌, on, after, answer, number_of_handle, is_dot, is_dot_dot, is_dot_name, space_rule}
use Rattle.nr_tree.specs.Replies.{wcc_data}
use Rattle.nr_ops_dir.specs.Entries.{number_of_entry, has_entries, entry_rules}

-- an entry taken out of the directory that a handle names
abbrev pub tree_without_name : Tree → Time → List ℕ → List ℕ → Tree
tree_without_name t now h name = option_map_or (λ n. tree_without_entry t now (number_of_handle h) name n) (number_of_entry t (number_of_handle h) name) t

-- ===== REMOVE (RFC 1813 section 3.3.12): the handle; the name; the directory's type and rights; INVAL for . and ..; NOENT; ISDIR; NOSPC

abbrev pub remove_of : Tree → Space → ℕ → List (Option Status)
remove_of t space n =
    (is_dir_at t n ⇒ Isdir) ∷
    space_rule space ∷ []

abbrev pub remove_rules : Tree → Caller → Space → RemoveArgs → List (Option Status)
remove_rules t c space args =
    first (entry_rules t c args.dir args.name) ∷
    (is_dot_name args.name ⇒ Inval) ∷
    (is_none (number_of_entry t (number_of_handle args.dir) args.name) ⇒ Noent) ∷
    on (number_of_entry t (number_of_handle args.dir) args.name) (remove_of t space)

abbrev pub remove_tree : Tree → Caller → Space → Time → RemoveArgs → Tree
remove_tree t c space now args = after (first (remove_rules t c space args)) t (tree_without_name t now args.dir args.name)

abbrev pub remove_reply : Tree → Caller → Space → Time → RemoveArgs → StatusUnion WccData WccData Status
remove_reply t c space now args =
    answer (first (remove_rules t c space args)) (λ s. Failed s (wcc_data t t args.dir)) (Done (wcc_data t (remove_tree t c space now args) args.dir))

-- ===== RMDIR (section 3.3.13): the handle; the name; the directory's type and rights; INVAL for .; EXIST for ..; NOENT; NOTDIR; NOTEMPTY; NOSPC

abbrev pub rmdir_of : Tree → Space → ℕ → List (Option Status)
rmdir_of t space n =
    (not (is_dir_at t n) ⇒ Notdir) ∷
    (has_entries t n ⇒ Notempty) ∷
    space_rule space ∷ []

abbrev pub rmdir_rules : Tree → Caller → Space → RmdirArgs → List (Option Status)
rmdir_rules t c space args =
    first (entry_rules t c args.dir args.name) ∷
    (is_dot args.name ⇒ Inval) ∷
    (is_dot_dot args.name ⇒ Exist) ∷
    (is_none (number_of_entry t (number_of_handle args.dir) args.name) ⇒ Noent) ∷
    on (number_of_entry t (number_of_handle args.dir) args.name) (rmdir_of t space)

abbrev pub rmdir_tree : Tree → Caller → Space → Time → RmdirArgs → Tree
rmdir_tree t c space now args = after (first (rmdir_rules t c space args)) t (tree_without_name t now args.dir args.name)

abbrev pub rmdir_reply : Tree → Caller → Space → Time → RmdirArgs → StatusUnion WccData WccData Status
rmdir_reply t c space now args =
    answer (first (rmdir_rules t c space args)) (λ s. Failed s (wcc_data t t args.dir)) (Done (wcc_data t (rmdir_tree t c space now args) args.dir))
