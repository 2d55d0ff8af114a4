-- For the code: what MKDIR, SYMLINK, MKNOD and CREATE come to, by the node that was made, or by the refusal.
use Rattle.std.specs.Prelude.{◌≡◌, ℕ, ◌==◌, not, ◌&&◌, List, [], ◌∷◌, Option, Some, Result, Ok, Err}
use Rattle.nr_nfs_base.specs.declared.time.Time.{Time}
use Rattle.nr_nfs_base.specs.declared.caller.Caller.{Caller}
use Rattle.nr_nfs_base.specs.declared.status.Status.{Status}
use Rattle.nr_nfs_base.specs.declared.status.Status.TheVariants.{Perm}
use Rattle.nr_nfs_base.specs.declared.status_union.StatusUnion.{StatusUnion}
use Rattle.nr_nfs_base.specs.declared.status_union.StatusUnion.TheVariants.{Done, Failed}
use Rattle.nr_nfs_base.specs.declared.weak_cache.WccData.{WccData}
use Rattle.nr_nfs_args.specs.declared.special.MknodArgs.{MknodArgs}
use Rattle.nr_nfs_res.specs.declared.create.CreateOk.{CreateOk}
use Rattle.nr_tree.specs.declared.node.Node.{Node}
use Rattle.nr_tree.specs.declared.rules.Space.{Space}
use Rattle.nr_tree.specs.Tree.{Tree}
use Rattle.nr_tree.specs.Changes.{tree_with_node}
use Rattle.nr_tree.specs.Rules.{first, ◌⇒◌, number_of_handle, space_rule}
use Rattle.nr_tree.specs.Replies.{wcc_data}
use Rattle.nr_ops_dir.specs.Creation.{create_ok, new_name_rules, special_attributes, is_device, special_content, new_special}

abbrev pub tree_after_addition : Tree → Time → List ℕ → List ℕ → Result Node Status → Tree
tree_after_addition t now h name (Ok node) = tree_with_node t now (number_of_handle h) name node
tree_after_addition t now h name (Err s) = t

abbrev pub results_of_addition : Tree → Tree → List ℕ → List ℕ → Result Node Status → StatusUnion CreateOk WccData Status
results_of_addition old new h name (Ok node) = Done (create_ok old new h name)
results_of_addition old new h name (Err s) = Failed s (wcc_data old old h)

-- what MKNOD asks after the handle and the type
abbrev pub special_rules : Tree → Caller → Space → MknodArgs → List (Option Status)
special_rules t c space args =
    first (new_name_rules t c args.dir args.name (special_attributes args.what)) ∷
    ((is_device args.what && not (c.uid == 0)) ⇒ Perm) ∷
    space_rule space ∷ []

-- the node that MKNOD makes
abbrev pub IsSpecial : Caller → Time → MknodArgs → Node → Type 0
IsSpecial c now args n = (special_content args.what ≡ Some n.content) × (n ≡ new_special c now args n.content)
