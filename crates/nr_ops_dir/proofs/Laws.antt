-- Of the procedures that change a directory: if no rule refuses, the journal has space; and the next number and each
-- next cookie rise by at most one.
use Rattle.std.proofs.Common.{◌≡◌, ℕ, ◌+◌, ◌<◌, Bool, true, false, cond, List, Option, None, Some, refl, arith}
use Rattle.std.specs.Prelude.{is_none}
use Rattle.std.specs.Option.{option_map_or}
use Rattle.nr_nfs_base.specs.declared.caller.Caller.{Caller}
use Rattle.nr_nfs_base.specs.declared.status.Status.{Status}
use Rattle.nr_nfs_base.specs.declared.status.Status.TheVariants.{Noent}
use Rattle.nr_nfs_base.specs.declared.time.Time.{Time}
use Rattle.nr_nfs_args.specs.declared.create.CreateArgs.{CreateArgs}
use Rattle.nr_nfs_args.specs.declared.create.MkdirArgs.{MkdirArgs}
use Rattle.nr_nfs_args.specs.declared.remove.LinkArgs.{LinkArgs}
use Rattle.nr_nfs_args.specs.declared.remove.RemoveArgs.{RemoveArgs}
use Rattle.nr_nfs_args.specs.declared.remove.RenameArgs.{RenameArgs}
use Rattle.nr_nfs_args.specs.declared.remove.RmdirArgs.{RmdirArgs}
use Rattle.nr_nfs_args.specs.declared.special.MknodArgs.{MknodArgs}
use Rattle.nr_nfs_args.specs.declared.special.MknodData.{MknodData}
use Rattle.nr_nfs_args.specs.declared.special.MknodData.TheVariants as data_of
use Rattle.nr_nfs_args.specs.declared.special.SymlinkArgs.{SymlinkArgs}
use Rattle.nr_tree.specs.declared.node.Content.{Content}
use Rattle.nr_tree.specs.declared.node.Content.TheVariants.{Block, Character, Socket, Fifo}
use Rattle.nr_tree.specs.declared.rules.Space.{Space}
use Rattle.nr_tree.specs.Tree.{Tree}
use Rattle.nr_tree.specs.Changes.{next_cookie_of, tree_with_node, tree_with_size, tree_without_entry, tree_with_link, tree_with_new_name}
use Rattle.nr_tree.specs.Rules.{first, on, number_of_handle, space_rule}
use Rattle.nr_tree.specs.Steps.{IsBelow}
use Rattle.nr_tree.proofs.PassedRules.{AllClear, all_clear, clear, there, on_some}
use Rattle.nr_tree.proofs.Bounds.{below_next, below_after, below_handled, below_tree_with_node, below_tree_with_size, below_tree_without_entry, below_tree_with_link, below_tree_with_new_name}
use Rattle.nr_ops_dir.specs.Entries.{number_of_entry, entry_rules}
use Rattle.nr_ops_dir.specs.Create.{create_rules, create_tree, new_file, size_to_set, tree_with_existing_file, tree_with_file}
use Rattle.nr_ops_dir.specs.Creation.{new_name_rules, mkdir_rules, mkdir_tree, new_directory, symlink_rules, symlink_tree, new_link, mknod_rules, mknod_tree, new_special, special_content}
use Rattle.nr_ops_dir.specs.Links.{link_rules, link_tree}
use Rattle.nr_ops_dir.specs.Removal.{tree_without_name, remove_of, remove_rules, remove_tree, rmdir_of, rmdir_rules, rmdir_tree}
use Rattle.nr_ops_dir.specs.Renaming.{is_same_node, rename_of, rename_rules, tree_with_move, rename_tree}

-- the rules over the entry of a name, which is there
entry_clear : (o : Option ℕ) (rules : ℕ → List (Option Status)) (P : Type 0) → is_none o ≡ false → AllClear (on o rules) → ((n : ℕ) → AllClear (rules n) → P) → P
entry_clear o rules P some all k =
    let n : (n : ℕ) × (o ≡ Some n) = there o some in
    k n.0 (on_some o n.0 rules n.1 all)

-- ===== CREATE

pub create_space : (t : Tree) (c : Caller) (space : Space) (args : CreateArgs) → first (create_rules t c space args) ≡ None → space_rule space ≡ None
create_space t c space args none = let all : AllClear (create_rules t c space args) = all_clear (create_rules t c space args) none in all.1.1.1.0

existing_by : (limit : ℕ) (t : Tree) (now : Time) (n : ℕ) (o : Option ℕ) → IsBelow limit t → IsBelow limit (option_map_or (λ size. tree_with_size t now n size) o t)
existing_by limit t now n None below = below
existing_by limit t now n (Some size) below = below_tree_with_size limit t now n size below

below_file : (limit : ℕ) (t : Tree) (c : Caller) (now : Time) (args : CreateArgs) (o : Option ℕ) → IsBelow limit t → IsBelow (limit + 1) (tree_with_file t c now args o)
below_file limit t c now args None below =
    below_tree_with_node limit t now (number_of_handle args.dir) args.name (new_file c now (number_of_handle args.dir) args.how) (omega (arith, below.next)) below
below_file limit t c now args (Some n) below = below_next limit (tree_with_existing_file t now args.how n) (existing_by limit t now n (size_to_set args.how) below)

pub create_below : (limit : ℕ) (t : Tree) (c : Caller) (space : Space) (now : Time) (args : CreateArgs) → IsBelow limit t → IsBelow (limit + 1) (create_tree t c space now args)
create_below limit t c space now args below =
    let o : Option ℕ = number_of_entry t (number_of_handle args.dir) args.name in
    below_after limit t (tree_with_file t c now args o) (first (create_rules t c space args)) below (λ none. below_file limit t c now args o below)

-- ===== MKDIR

pub mkdir_space : (t : Tree) (c : Caller) (space : Space) (args : MkdirArgs) → first (mkdir_rules t c space args) ≡ None → space_rule space ≡ None
mkdir_space t c space args none = let all : AllClear (mkdir_rules t c space args) = all_clear (mkdir_rules t c space args) none in all.1.1.0

-- the first cookie of a new directory is 1, which is below the limit since its parent was given a number
below_directory : (limit : ℕ) (t : Tree) (c : Caller) (space : Space) (now : Time) (args : MkdirArgs) → first (mkdir_rules t c space args) ≡ None → IsBelow limit t
    → IsBelow (limit + 1) (tree_with_node t now (number_of_handle args.dir) args.name (new_directory c now args))
below_directory limit t c space now args none below =
    let all : AllClear (mkdir_rules t c space args) = all_clear (mkdir_rules t c space args) none in
    let new : AllClear (new_name_rules t c args.dir args.name args.attributes) = all_clear (new_name_rules t c args.dir args.name args.attributes) all.0 in
    let entry : AllClear (entry_rules t c args.dir args.name) = all_clear (entry_rules t c args.dir args.name) new.0 in
    let two : 2 < limit = below_handled limit t args.dir entry.0 below in
    below_tree_with_node limit t now (number_of_handle args.dir) args.name (new_directory c now args) (omega (arith, two)) below

pub mkdir_below : (limit : ℕ) (t : Tree) (c : Caller) (space : Space) (now : Time) (args : MkdirArgs) → IsBelow limit t → IsBelow (limit + 1) (mkdir_tree t c space now args)
mkdir_below limit t c space now args below =
    let done : Tree = tree_with_node t now (number_of_handle args.dir) args.name (new_directory c now args) in
    below_after limit t done (first (mkdir_rules t c space args)) below (λ none. below_directory limit t c space now args none below)

-- ===== SYMLINK

pub symlink_space : (t : Tree) (c : Caller) (space : Space) (args : SymlinkArgs) → first (symlink_rules t c space args) ≡ None → space_rule space ≡ None
symlink_space t c space args none = let all : AllClear (symlink_rules t c space args) = all_clear (symlink_rules t c space args) none in all.1.1.0

pub symlink_below : (limit : ℕ) (t : Tree) (c : Caller) (space : Space) (now : Time) (args : SymlinkArgs) → IsBelow limit t → IsBelow (limit + 1) (symlink_tree t c space now args)
symlink_below limit t c space now args below =
    let done : Tree = tree_with_node t now (number_of_handle args.dir) args.name (new_link c now args) in
    below_after limit t done (first (symlink_rules t c space args)) below
    (λ none. below_tree_with_node limit t now (number_of_handle args.dir) args.name (new_link c now args) (omega (arith, below.next)) below)

-- ===== MKNOD

pub mknod_space : (t : Tree) (c : Caller) (space : Space) (args : MknodArgs) → first (mknod_rules t c space args) ≡ None → space_rule space ≡ None
mknod_space t c space args none = let all : AllClear (mknod_rules t c space args) = all_clear (mknod_rules t c space args) none in all.1.1.1.1.0

below_special : (limit : ℕ) (t : Tree) (c : Caller) (now : Time) (args : MknodArgs) (content : Content) → next_cookie_of content ≡ 0 → IsBelow limit t
    → IsBelow (limit + 1) (tree_with_node t now (number_of_handle args.dir) args.name (new_special c now args content))
below_special limit t c now args content zero below =
    below_tree_with_node limit t now (number_of_handle args.dir) args.name (new_special c now args content) (omega (arith, zero, below.next)) below

special_by : (limit : ℕ) (t : Tree) (c : Caller) (now : Time) (args : MknodArgs) (what : MknodData) → IsBelow limit t
    → IsBelow (limit + 1) (option_map_or (λ content. tree_with_node t now (number_of_handle args.dir) args.name (new_special c now args content)) (special_content what) t)
special_by limit t c now args data_of.Reg below = below_next limit t below
special_by limit t c now args data_of.Dir below = below_next limit t below
special_by limit t c now args (data_of.Blk d) below = below_special limit t c now args (Block d.device) refl below
special_by limit t c now args (data_of.Chr d) below = below_special limit t c now args (Character d.device) refl below
special_by limit t c now args data_of.Lnk below = below_next limit t below
special_by limit t c now args (data_of.Sock a) below = below_special limit t c now args Socket refl below
special_by limit t c now args (data_of.Fifo a) below = below_special limit t c now args Fifo refl below

pub mknod_below : (limit : ℕ) (t : Tree) (c : Caller) (space : Space) (now : Time) (args : MknodArgs) → IsBelow limit t → IsBelow (limit + 1) (mknod_tree t c space now args)
mknod_below limit t c space now args below =
    let done : Tree = option_map_or (λ content. tree_with_node t now (number_of_handle args.dir) args.name (new_special c now args content)) (special_content args.what) t in
    below_after limit t done (first (mknod_rules t c space args)) below (λ none. special_by limit t c now args args.what below)

-- ===== REMOVE and RMDIR

pub remove_space : (t : Tree) (c : Caller) (space : Space) (args : RemoveArgs) → first (remove_rules t c space args) ≡ None → space_rule space ≡ None
remove_space t c space args none =
    let o : Option ℕ = number_of_entry t (number_of_handle args.dir) args.name in
    let all : AllClear (remove_rules t c space args) = all_clear (remove_rules t c space args) none in
    entry_clear o (remove_of t space) (space_rule space ≡ None) (clear (is_none o) Noent all.1.1.0) all.1.1.1 (λ n of. of.1.0)

pub rmdir_space : (t : Tree) (c : Caller) (space : Space) (args : RmdirArgs) → first (rmdir_rules t c space args) ≡ None → space_rule space ≡ None
rmdir_space t c space args none =
    let o : Option ℕ = number_of_entry t (number_of_handle args.dir) args.name in
    let all : AllClear (rmdir_rules t c space args) = all_clear (rmdir_rules t c space args) none in
    entry_clear o (rmdir_of t space) (space_rule space ≡ None) (clear (is_none o) Noent all.1.1.1.0) all.1.1.1.1 (λ n of. of.1.1.0)

name_by : (limit : ℕ) (t : Tree) (now : Time) (h name : List ℕ) (o : Option ℕ) → IsBelow limit t → IsBelow limit (option_map_or (λ n. tree_without_entry t now (number_of_handle h) name n) o t)
name_by limit t now h name None below = below
name_by limit t now h name (Some n) below = below_tree_without_entry limit t now (number_of_handle h) name n below

below_name : (limit : ℕ) (t : Tree) (now : Time) (h name : List ℕ) → IsBelow limit t → IsBelow (limit + 1) (tree_without_name t now h name)
below_name limit t now h name below = below_next limit (tree_without_name t now h name) (name_by limit t now h name (number_of_entry t (number_of_handle h) name) below)

pub remove_below : (limit : ℕ) (t : Tree) (c : Caller) (space : Space) (now : Time) (args : RemoveArgs) → IsBelow limit t → IsBelow (limit + 1) (remove_tree t c space now args)
remove_below limit t c space now args below =
    below_after limit t (tree_without_name t now args.dir args.name) (first (remove_rules t c space args)) below (λ none. below_name limit t now args.dir args.name below)

pub rmdir_below : (limit : ℕ) (t : Tree) (c : Caller) (space : Space) (now : Time) (args : RmdirArgs) → IsBelow limit t → IsBelow (limit + 1) (rmdir_tree t c space now args)
rmdir_below limit t c space now args below =
    below_after limit t (tree_without_name t now args.dir args.name) (first (rmdir_rules t c space args)) below (λ none. below_name limit t now args.dir args.name below)

-- ===== RENAME

pub rename_space : (t : Tree) (c : Caller) (space : Space) (args : RenameArgs) → first (rename_rules t c space args) ≡ None → space_rule space ≡ None
rename_space t c space args none =
    let o : Option ℕ = number_of_entry t (number_of_handle args.from_dir) args.from_name in
    let all : AllClear (rename_rules t c space args) = all_clear (rename_rules t c space args) none in
    entry_clear o (rename_of t space args) (space_rule space ≡ None) (clear (is_none o) Noent all.1.1.0) all.1.1.1 (λ n of. of.1.1.0)

either : (limit : ℕ) (t u : Tree) (b : Bool) → IsBelow limit t → IsBelow limit u → IsBelow limit (cond b t u)
either limit t u true first second = first
either limit t u false first second = second

move_by : (limit : ℕ) (t : Tree) (now : Time) (args : RenameArgs) (o : Option ℕ) → IsBelow limit t → IsBelow (limit + 1) (option_map_or (tree_with_move t now args) o t)
move_by limit t now args None below = below_next limit t below
move_by limit t now args (Some n) below =
    let from : ℕ = number_of_handle args.from_dir in
    let to : ℕ = number_of_handle args.to_dir in
    either (limit + 1) t (tree_with_new_name t now from args.from_name to args.to_name n) (is_same_node (number_of_entry t to args.to_name) n) (below_next limit t below)
    (below_tree_with_new_name limit t now from args.from_name to args.to_name n below)

pub rename_below : (limit : ℕ) (t : Tree) (c : Caller) (space : Space) (now : Time) (args : RenameArgs) → IsBelow limit t → IsBelow (limit + 1) (rename_tree t c space now args)
rename_below limit t c space now args below =
    let o : Option ℕ = number_of_entry t (number_of_handle args.from_dir) args.from_name in
    below_after limit t (option_map_or (tree_with_move t now args) o t) (first (rename_rules t c space args)) below (λ none. move_by limit t now args o below)

-- ===== LINK

pub link_space : (t : Tree) (c : Caller) (space : Space) (args : LinkArgs) → first (link_rules t c space args) ≡ None → space_rule space ≡ None
link_space t c space args none = let all : AllClear (link_rules t c space args) = all_clear (link_rules t c space args) none in all.1.1.1.0

pub link_below : (limit : ℕ) (t : Tree) (c : Caller) (space : Space) (now : Time) (args : LinkArgs) → IsBelow limit t → IsBelow (limit + 1) (link_tree t c space now args)
link_below limit t c space now args below =
    let done : Tree = tree_with_link t now (number_of_handle args.dir) args.name (number_of_handle args.file) in
    below_after limit t done (first (link_rules t c space args)) below
    (λ none. below_tree_with_link limit t now (number_of_handle args.dir) args.name (number_of_handle args.file) below)
