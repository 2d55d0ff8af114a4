-- RENAME (RFC 1813 section 3.3.14).
use Rattle.std.specs.Prelude.{◌≡◌, ℕ, ◌==◌, Bool, false, not, ◌&&◌, ◌||◌, if◌then◌else◌, List, [], ◌∷◌, Option, None, Some, is_none}
use Rattle.std.specs.Option.{option_map_or}
use Rattle.nr_nfs_base.specs.declared.time.Time.{Time}
use Rattle.nr_nfs_base.specs.declared.caller.Caller.{Caller}
use Rattle.nr_nfs_base.specs.declared.status.Status.{Status}
use Rattle.nr_nfs_base.specs.declared.status.Status.TheVariants.{Noent, Exist, Inval}
use Rattle.nr_nfs_base.specs.declared.status_union.StatusUnion.{StatusUnion}
use Rattle.nr_nfs_base.specs.declared.status_union.StatusUnion.TheVariants.{Done, Failed}
use Rattle.nr_nfs_args.specs.declared.remove.RenameArgs.{RenameArgs}
use Rattle.nr_nfs_res.specs.declared.remove.RenameWcc.{RenameWcc}
use Rattle.nr_tree.specs.declared.rules.Space.{Space}
use Rattle.nr_tree.specs.Tree.{Tree}
use Rattle.nr_tree.specs.Sane.{skeleton}
use Rattle.nr_tree.specs.Within.{is_within}
use Rattle.nr_tree.specs.Steps.{is_dir_at}
use Rattle.nr_tree.specs.Changes.{tree_with_new_name}
use Rattle.nr_tree.specs.Rules.{first, ◌⇒◌, on, after, answer, number_of_handle, handle_rule, name_rules, is_dot_name, space_rule}
use Rattle.nr_tree.specs.Replies.{wcc_data}
use Rattle.nr_ops_dir.specs.declared.renaming.Move.{Move}
use Rattle.nr_ops_dir.specs.Entries.{number_of_entry, has_entries, directory_rule, links_rule}

-- the target is there, and is the same node
abbrev pub is_same_node : Option ℕ → ℕ → Bool
is_same_node target n = option_map_or (λ g. g == n) target false

-- exactly one of both
abbrev pub exactly_one : Bool → Bool → Bool
exactly_one a b = (a && not b) || (not a && b)

-- a target that is not replaced: a directory if the node is none, none if it is one, or a directory with entries
abbrev pub target_rule : Tree → ℕ → Option ℕ → Option Status
target_rule t n None = None
target_rule t n (Some g) = (exactly_one (is_dir_at t n) (is_dir_at t g) || has_entries t g) ⇒ Exist

-- a directory that moves into another one is a link more there
abbrev pub move_rule : Tree → ℕ → ℕ → ℕ → Option Status
move_rule t d d_to n = if is_dir_at t n && not (d == d_to) then links_rule t d_to else None

-- nothing changes if the target is the same node
abbrev pub replacement_rule : Tree → ℕ → ℕ → ℕ → Option ℕ → Option Status
replacement_rule t d d_to n target = if is_same_node target n then None else first (target_rule t n target ∷ move_rule t d d_to n ∷ [])

-- what is asked of the node n that moves: INVAL if it is a directory and the target's directory is it or lies below it.
-- In a sane tree is_within says exactly that (the law walks_find_ancestors; the clauses below and apart of Tree::is_within)
abbrev pub rename_of : Tree → Space → RenameArgs → ℕ → List (Option Status)
rename_of t space args n =
    ((is_dir_at t n && is_within (skeleton t) (number_of_handle args.to_dir) n) ⇒ Inval) ∷
    replacement_rule t (number_of_handle args.from_dir) (number_of_handle args.to_dir) n (number_of_entry t (number_of_handle args.to_dir) args.to_name) ∷
    space_rule space ∷ []

-- what is asked of both handles, names and directories
abbrev pub both_rules : Tree → Caller → RenameArgs → List (Option Status)
both_rules t c args =
    handle_rule t args.from_dir ∷
    handle_rule t args.to_dir ∷
    first (name_rules args.from_name) ∷
    first (name_rules args.to_name) ∷
    directory_rule t c (number_of_handle args.from_dir) ∷
    directory_rule t c (number_of_handle args.to_dir) ∷ []

-- RENAME (section 3.3.14): both handles; both names; both directories' types and rights; INVAL for . and ..; NOENT;
-- INVAL for a directory into itself or below; then, if the target is another node or none: EXIST, and MLINK for a
-- directory into another directory; NOSPC
abbrev pub rename_rules : Tree → Caller → Space → RenameArgs → List (Option Status)
rename_rules t c space args =
    first (both_rules t c args) ∷
    ((is_dot_name args.from_name || is_dot_name args.to_name) ⇒ Inval) ∷
    (is_none (number_of_entry t (number_of_handle args.from_dir) args.from_name) ⇒ Noent) ∷
    on (number_of_entry t (number_of_handle args.from_dir) args.from_name) (rename_of t space args)

-- what was found of the node that moves
pub record IsMoveOf (t : Tree) (args : RenameArgs) (m : Move) : Type 0 where
  pub source : m.from ≡ number_of_handle args.from_dir
  pub target : m.to ≡ number_of_handle args.to_dir
  pub node : number_of_entry t (number_of_handle args.from_dir) args.from_name ≡ Some m.number
  pub done : m.is_done ≡ is_same_node (number_of_entry t (number_of_handle args.to_dir) args.to_name) m.number

abbrev pub tree_with_move : Tree → Time → RenameArgs → ℕ → Tree
tree_with_move t now args n =
    if is_same_node (number_of_entry t (number_of_handle args.to_dir) args.to_name) n then t
    else tree_with_new_name t now (number_of_handle args.from_dir) args.from_name (number_of_handle args.to_dir) args.to_name n

abbrev pub rename_tree : Tree → Caller → Space → Time → RenameArgs → Tree
rename_tree t c space now args =
    after (first (rename_rules t c space args)) t (option_map_or (tree_with_move t now args) (number_of_entry t (number_of_handle args.from_dir) args.from_name) t)

-- both directories before and after
abbrev pub rename_wcc : Tree → Tree → RenameArgs → RenameWcc
rename_wcc old new args = record { from_dir = wcc_data old new args.from_dir; to_dir = wcc_data old new args.to_dir }

abbrev pub rename_reply : Tree → Caller → Space → Time → RenameArgs → StatusUnion RenameWcc RenameWcc Status
rename_reply t c space now args =
    answer (first (rename_rules t c space args)) (λ s. Failed s (rename_wcc t t args)) (Done (rename_wcc t (rename_tree t c space now args) args))
