-- LINK (RFC 1813 section 3.3.15).
use Rattle.std.specs.Prelude.{List, [], ◌∷◌, Option}
use Rattle.nr_nfs_base.specs.declared.time.Time.{Time}
use Rattle.nr_nfs_base.specs.declared.caller.Caller.{Caller}
use Rattle.nr_nfs_base.specs.declared.status.Status.{Status}
use Rattle.nr_nfs_base.specs.declared.status.Status.TheVariants.{Exist, Isdir}
use Rattle.nr_nfs_base.specs.declared.status_union.StatusUnion.{StatusUnion}
use Rattle.nr_nfs_base.specs.declared.status_union.StatusUnion.TheVariants.{Done, Failed}
use Rattle.nr_nfs_args.specs.declared.remove.LinkArgs.{LinkArgs}
use Rattle.nr_nfs_res.specs.declared.remove.LinkWcc.{LinkWcc}
use Rattle.nr_tree.specs.declared.rules.Space.{Space}
use Rattle.nr_tree.specs.Tree.{Tree}
use Rattle.nr_tree.specs.Steps.{is_dir_at}
use Rattle.nr_tree.specs.Changes.{tree_with_link}
use Rattle.nr_tree.specs.Rules.{first, ◌⇒◌, after, answer, number_of_handle, handle_rule, name_rules, space_rule}
use Rattle.nr_tree.specs.Replies.{attributes_at, wcc_data}
use Rattle.nr_ops_dir.specs.Entries.{is_taken, directory_rule, links_rule}

-- what is asked of the file, the directory and the name
abbrev pub link_place_rules : Tree → Caller → LinkArgs → List (Option Status)
link_place_rules t c args =
    handle_rule t args.file ∷
    handle_rule t args.dir ∷
    (is_dir_at t (number_of_handle args.file) ⇒ Isdir) ∷
    first (name_rules args.name) ∷
    directory_rule t c (number_of_handle args.dir) ∷ []

-- LINK (section 3.3.15): the file's handle; the directory's handle; ISDIR of the file; the name; the directory's type and rights; EXIST for a name that is there, . and ..; MLINK; NOSPC
abbrev pub link_rules : Tree → Caller → Space → LinkArgs → List (Option Status)
link_rules t c space args =
    first (link_place_rules t c args) ∷
    (is_taken t (number_of_handle args.dir) args.name ⇒ Exist) ∷
    links_rule t (number_of_handle args.file) ∷
    space_rule space ∷ []

abbrev pub link_tree : Tree → Caller → Space → Time → LinkArgs → Tree
link_tree t c space now args =
    after (first (link_rules t c space args)) t (tree_with_link t now (number_of_handle args.dir) args.name (number_of_handle args.file))

-- the attributes of the file, and the directory before and after
abbrev pub link_wcc : Tree → Tree → LinkArgs → LinkWcc
link_wcc old new args = record { attributes = attributes_at new args.file; dir_wcc = wcc_data old new args.dir }

abbrev pub link_reply : Tree → Caller → Space → Time → LinkArgs → StatusUnion LinkWcc LinkWcc Status
link_reply t c space now args =
    answer (first (link_rules t c space args)) (λ s. Failed s (link_wcc t t args)) (Done (link_wcc t (link_tree t c space now args) args))
