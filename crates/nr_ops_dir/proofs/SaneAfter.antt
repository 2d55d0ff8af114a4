-- The procedures that change a directory leave a sane tree sane.
use Rattle.std.proofs.Common.{◌≡◌, ℕ, ◌≤◌, Bool, true, List, Option, None, Some, refl}
use Rattle.std.specs.Option.{option_map_or}
use Rattle.std.proofs.lemmas.Bool.{cond_both}
use Rattle.nr_nfs_base.specs.declared.caller.Caller.{Caller}
use Rattle.nr_nfs_base.specs.declared.time.Time.{Time}
use Rattle.nr_nfs_args.specs.declared.create.CreateArgs.{CreateArgs}
use Rattle.nr_nfs_args.specs.declared.create.MkdirArgs.{MkdirArgs}
use Rattle.nr_nfs_args.specs.declared.remove.LinkArgs.{LinkArgs}
use Rattle.nr_nfs_args.specs.declared.remove.RemoveArgs.{RemoveArgs}
use Rattle.nr_nfs_args.specs.declared.remove.RenameArgs.{RenameArgs}
use Rattle.nr_nfs_args.specs.declared.remove.RmdirArgs.{RmdirArgs}
use Rattle.nr_nfs_args.specs.declared.special.MknodArgs.{MknodArgs}
use Rattle.nr_nfs_args.specs.declared.special.SymlinkArgs.{SymlinkArgs}
use Rattle.nr_tree.specs.declared.node.Content.{Content}
use Rattle.nr_tree.specs.declared.rules.Space.{Space}
use Rattle.nr_tree.specs.Tree.{Tree}
use Rattle.nr_tree.specs.Sane.{IsSane, file_size_max}
use Rattle.nr_tree.specs.Steps.{is_regular_at}
use Rattle.nr_tree.specs.Changes.{tree_with_node, tree_with_size, tree_without_entry, tree_with_link, tree_with_new_name}
use Rattle.nr_tree.specs.Rules.{first, number_of_handle}
use Rattle.nr_tree.proofs.PassedRules.{sane_after}
use Rattle.nr_tree.proofs.StepLemmas.{sane_add_node, sane_add_link, sane_remove_entry, sane_set_size}
use Rattle.nr_tree.proofs.RenameLemmas.{sane_rename}
use Rattle.nr_ops_dir.specs.declared.renaming.Move.{Move}
use Rattle.nr_ops_dir.specs.Entries.{number_of_entry}
use Rattle.nr_ops_dir.specs.Create.{create_rules, create_tree, new_file, size_to_set, tree_with_file}
use Rattle.nr_ops_dir.specs.Creation.{mkdir_rules, mkdir_tree, new_directory, symlink_rules, symlink_tree, new_link, special_content, mknod_rules, mknod_tree, new_special}
use Rattle.nr_ops_dir.specs.Links.{link_rules, link_tree}
use Rattle.nr_ops_dir.specs.Removal.{tree_without_name, remove_rules, remove_tree, rmdir_rules, rmdir_tree}
use Rattle.nr_ops_dir.specs.Renaming.{is_same_node, rename_rules, tree_with_move, rename_tree}
use Rattle.nr_ops_dir.proofs.Passed.{can_add_link}
use Rattle.nr_ops_dir.proofs.CanCreate.{can_make_file, can_set_size}
use Rattle.nr_ops_dir.proofs.CanMake.{can_make_directory, can_make_link, can_make_special}
use Rattle.nr_ops_dir.proofs.CanRename.{can_rename}
use Rattle.nr_ops_dir.proofs.Removed.{IsBare, bare_file, bare_directory}

-- ===== CREATE

size_by : (t : Tree) (now : Time) (n : ℕ) (o : Option ℕ) → IsSane t → ((size : ℕ) → o ≡ Some size → (is_regular_at t n ≡ true) × (size ≤ file_size_max))
    → IsSane (option_map_or (λ size. tree_with_size t now n size) o t)
size_by t now n None sane may = sane
size_by t now n (Some size) sane may = let ok : (is_regular_at t n ≡ true) × (size ≤ file_size_max) = may size refl in sane_set_size t now n size sane ok.0 ok.1

file_by : (t : Tree) (c : Caller) (space : Space) (now : Time) (args : CreateArgs) (o : Option ℕ) → number_of_entry t (number_of_handle args.dir) args.name ≡ o → IsSane t → first (create_rules t c space args) ≡ None
    → IsSane (tree_with_file t c now args o)
file_by t c space now args None free sane none =
    let d : ℕ = number_of_handle args.dir in
    sane_add_node t now d args.name (new_file c now d args.how) sane (can_make_file t c space now args none free)
file_by t c space now args (Some n) found sane none = size_by t now n (size_to_set args.how) sane (can_set_size t c space args n sane none found)

pub create_sane : (t : Tree) (c : Caller) (space : Space) (now : Time) (args : CreateArgs) → IsSane t → IsSane (create_tree t c space now args)
create_sane t c space now args sane =
    let o : Option ℕ = number_of_entry t (number_of_handle args.dir) args.name in
    sane_after t (tree_with_file t c now args o) (first (create_rules t c space args)) sane (λ none. file_by t c space now args o refl sane none)

-- ===== MKDIR, SYMLINK, MKNOD

pub mkdir_sane : (t : Tree) (c : Caller) (space : Space) (now : Time) (args : MkdirArgs) → IsSane t → IsSane (mkdir_tree t c space now args)
mkdir_sane t c space now args sane =
    let d : ℕ = number_of_handle args.dir in
    sane_after t (tree_with_node t now d args.name (new_directory c now args)) (first (mkdir_rules t c space args)) sane
    (λ none. sane_add_node t now d args.name (new_directory c now args) sane (can_make_directory t c space now args none))

pub symlink_sane : (t : Tree) (c : Caller) (space : Space) (now : Time) (args : SymlinkArgs) → IsSane t → IsSane (symlink_tree t c space now args)
symlink_sane t c space now args sane =
    let d : ℕ = number_of_handle args.dir in
    sane_after t (tree_with_node t now d args.name (new_link c now args)) (first (symlink_rules t c space args)) sane
    (λ none. sane_add_node t now d args.name (new_link c now args) sane (can_make_link t c space now args none))

special_by : (t : Tree) (c : Caller) (space : Space) (now : Time) (args : MknodArgs) (o : Option Content) → special_content args.what ≡ o → IsSane t → first (mknod_rules t c space args) ≡ None
    → IsSane (option_map_or (λ content. tree_with_node t now (number_of_handle args.dir) args.name (new_special c now args content)) o t)
special_by t c space now args None e sane none = sane
special_by t c space now args (Some content) e sane none =
    sane_add_node t now (number_of_handle args.dir) args.name (new_special c now args content) sane (can_make_special t c space now args content none e)

pub mknod_sane : (t : Tree) (c : Caller) (space : Space) (now : Time) (args : MknodArgs) → IsSane t → IsSane (mknod_tree t c space now args)
mknod_sane t c space now args sane =
    sane_after t (option_map_or (λ content. tree_with_node t now (number_of_handle args.dir) args.name (new_special c now args content)) (special_content args.what) t) (first (mknod_rules t c space args)) sane
    (λ none. special_by t c space now args (special_content args.what) refl sane none)

-- ===== REMOVE and RMDIR

name_by : (t : Tree) (now : Time) (h name : List ℕ) (o : Option ℕ) → number_of_entry t (number_of_handle h) name ≡ o → IsSane t → ((n : ℕ) → o ≡ Some n → IsBare t n)
    → IsSane (option_map_or (λ n. tree_without_entry t now (number_of_handle h) name n) o t)
name_by t now h name None found sane bare = sane
name_by t now h name (Some n) found sane bare = sane_remove_entry t (number_of_handle h) name n sane (record { entry = found; empty = bare n refl }) now

name_gone : (t : Tree) (now : Time) (h name : List ℕ) → IsSane t → ((n : ℕ) → number_of_entry t (number_of_handle h) name ≡ Some n → IsBare t n) → IsSane (tree_without_name t now h name)
name_gone t now h name sane bare = name_by t now h name (number_of_entry t (number_of_handle h) name) refl sane bare

pub remove_sane : (t : Tree) (c : Caller) (space : Space) (now : Time) (args : RemoveArgs) → IsSane t → IsSane (remove_tree t c space now args)
remove_sane t c space now args sane =
    sane_after t (tree_without_name t now args.dir args.name) (first (remove_rules t c space args)) sane (λ none. name_gone t now args.dir args.name sane (λ n found. bare_file t c space args n none found))

pub rmdir_sane : (t : Tree) (c : Caller) (space : Space) (now : Time) (args : RmdirArgs) → IsSane t → IsSane (rmdir_tree t c space now args)
rmdir_sane t c space now args sane =
    sane_after t (tree_without_name t now args.dir args.name) (first (rmdir_rules t c space args)) sane (λ none. name_gone t now args.dir args.name sane (λ n found. bare_directory t c space args n none found))

-- ===== RENAME

move_by : (t : Tree) (c : Caller) (space : Space) (now : Time) (args : RenameArgs) (o : Option ℕ) → number_of_entry t (number_of_handle args.from_dir) args.from_name ≡ o → IsSane t → first (rename_rules t c space args) ≡ None
    → IsSane (option_map_or (tree_with_move t now args) o t)
move_by t c space now args None found sane none = sane
move_by t c space now args (Some n) found sane none =
    let from : ℕ = number_of_handle args.from_dir in
    let to : ℕ = number_of_handle args.to_dir in
    let same : Bool = is_same_node (number_of_entry t to args.to_name) n in
    let m : Move = record { from = from; to = to; number = n; is_done = same } in
    cond_both same t (tree_with_new_name t now from args.from_name to args.to_name n) IsSane (λ done. sane)
    (λ other. sane_rename t from args.from_name to args.to_name n sane (can_rename t c space args m sane none (record { source = refl; target = refl; node = found; done = refl }) other) now)

pub rename_sane : (t : Tree) (c : Caller) (space : Space) (now : Time) (args : RenameArgs) → IsSane t → IsSane (rename_tree t c space now args)
rename_sane t c space now args sane =
    let o : Option ℕ = number_of_entry t (number_of_handle args.from_dir) args.from_name in
    sane_after t (option_map_or (tree_with_move t now args) o t) (first (rename_rules t c space args)) sane (λ none. move_by t c space now args o refl sane none)

-- ===== LINK

pub link_sane : (t : Tree) (c : Caller) (space : Space) (now : Time) (args : LinkArgs) → IsSane t → IsSane (link_tree t c space now args)
link_sane t c space now args sane =
    let d : ℕ = number_of_handle args.dir in
    let h : ℕ = number_of_handle args.file in
    sane_after t (tree_with_link t now d args.name h) (first (link_rules t c space args)) sane (λ none. sane_add_link t now d args.name h sane (can_add_link t c space args none))
