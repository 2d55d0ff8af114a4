-- LOOKUP (RFC 1813 section 3.3.3): what a name in a directory leads to. Refusals: of the handle; not a directory; no right to
-- search it; of the name; no such entry.
use Rattle.std.specs.Prelude.{ℕ, not, if◌then◌else◌, List, [], ◌∷◌, Option, Some, is_none, unwrap_or}
use Rattle.std.specs.Option.{option_map, option_and_then}
use Rattle.nr_nfs_base.specs.declared.attributes.Attributes.{Attributes}
use Rattle.nr_nfs_base.specs.declared.caller.Caller.{Caller}
use Rattle.nr_nfs_base.specs.declared.status.Status.{Status}
use Rattle.nr_nfs_base.specs.declared.status.Status.TheVariants.{Noent, Acces, Notdir}
use Rattle.nr_nfs_base.specs.declared.status_union.StatusUnion.{StatusUnion}
use Rattle.nr_nfs_base.specs.declared.status_union.StatusUnion.TheVariants.{Done, Failed}
use Rattle.nr_nfs_args.specs.declared.lookup.LookupArgs.{LookupArgs}
use Rattle.nr_nfs_res.specs.declared.lookup.LookupOk.{LookupOk}
use Rattle.nr_tree.specs.Entries.{Entry, entry_of_name}
use Rattle.nr_tree.specs.Tree.{Tree, is_dir, entries_in}
use Rattle.nr_tree.specs.Rules.{first, ◌⇒◌, on, answer, handle_of, number_of_handle, node_of_handle, handle_rule, name_rules, may, is_dot, is_dot_dot}
use Rattle.nr_tree.specs.Replies.{attributes_at, attributes_of_number}
use Rattle.nr_tree.specs.declared.node.Node.{Node}
use Rattle.nr_tree.specs.declared.rules.Right.TheVariants.{Execute}

-- `.` is the directory, `..` the one that names it, and of the root the root; another name leads to its entry's node
abbrev pub number_of_name : ℕ → List ℕ → Node → Option ℕ
number_of_name d name dir =
    if is_dot name then Some d
    else (if is_dot_dot name then Some dir.parent
    else option_map (λ (e : Entry). e.number) (entry_of_name name (entries_in dir)))

abbrev pub lookup_in : Caller → ℕ → List ℕ → Node → List (Option Status)
lookup_in c d name dir =
    (not (is_dir dir) ⇒ Notdir) ∷
    (not (may c Execute dir) ⇒ Acces) ∷
    first (name_rules name) ∷
    (is_none (number_of_name d name dir) ⇒ Noent) ∷ []

abbrev pub lookup_rules : Tree → Caller → LookupArgs → List (Option Status)
lookup_rules t c args = handle_rule t args.dir ∷ on (node_of_handle t args.dir) (lookup_in c (number_of_handle args.dir) args.name)

-- the number of the node, if no rule refuses
abbrev pub found_by : Tree → LookupArgs → Option ℕ
found_by t args = option_and_then (λ (dir : Node). number_of_name (number_of_handle args.dir) args.name dir) (node_of_handle t args.dir)

abbrev pub lookup_ok : Tree → List ℕ → ℕ → LookupOk
lookup_ok t h number = record { object = handle_of number; attributes = attributes_of_number t number; dir_attributes = attributes_at t h }

abbrev pub lookup_reply : Tree → Caller → LookupArgs → StatusUnion LookupOk (Option Attributes) Status
lookup_reply t c args = answer (first (lookup_rules t c args)) (λ s. Failed s (attributes_at t args.dir)) (Done (lookup_ok t args.dir (unwrap_or (found_by t args) 0)))
