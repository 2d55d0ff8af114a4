-- CREATE (RFC 1813 section 3.3.8).
use Rattle.std.specs.Prelude.{ℕ, ◌==◌, Bool, false, not, ◌&&◌, List, [], ◌∷◌, replicate, Option, None, Some, is_some, unwrap_or}
use Rattle.std.specs.Option.{option_map_or}
use Rattle.std.specs.FinMap.{get}
use Rattle.nr_nfs_base.specs.declared.time.Time.{Time}
use Rattle.nr_nfs_base.specs.declared.caller.Caller.{Caller}
use Rattle.nr_nfs_base.specs.declared.set_attributes.SetAttributes.{SetAttributes}
use Rattle.nr_nfs_base.specs.declared.verifier.Verifier.{Verifier}
use Rattle.nr_nfs_base.specs.declared.status.Status.{Status}
use Rattle.nr_nfs_base.specs.declared.status.Status.TheVariants.{Acces, Exist}
use Rattle.nr_nfs_base.specs.declared.status_union.StatusUnion.{StatusUnion}
use Rattle.nr_nfs_base.specs.declared.status_union.StatusUnion.TheVariants.{Done, Failed}
use Rattle.nr_nfs_base.specs.declared.weak_cache.WccData.{WccData}
use Rattle.nr_nfs_args.specs.declared.create.CreateArgs.{CreateArgs}
use Rattle.nr_nfs_args.specs.declared.create.CreateHow.{CreateHow}
use Rattle.nr_nfs_args.specs.declared.create.CreateHow.TheVariants.{Unchecked, Guarded, Exclusive}
use Rattle.nr_nfs_res.specs.declared.create.CreateOk.{CreateOk}
use Rattle.nr_tree.specs.declared.node.Node.{Node}
use Rattle.nr_tree.specs.declared.node.Content.TheVariants.{Regular}
use Rattle.nr_tree.specs.declared.rules.Right.TheVariants.{Write}
use Rattle.nr_tree.specs.declared.rules.Space.{Space}
use Rattle.nr_tree.specs.Tree.{Tree, is_regular}
use Rattle.nr_tree.specs.Changes.{tree_with_node, tree_with_size}
use Rattle.nr_tree.specs.Rules.{first, ◌⇒◌, on, after, answer, number_of_handle, is_dot_name, may, space_rule, time_rule, size_rule}
use Rattle.nr_tree.specs.Replies.{wcc_data}
use Rattle.nr_ops_dir.specs.Entries.{number_of_entry, entry_rules}
use Rattle.nr_ops_dir.specs.Creation.{owner_rule, new_node, file_mode, nothing_given, create_ok}

-- ===== a name that is free: PERM; INVAL for a time; FBIG. An exclusive CREATE gives no attributes, and its verifier is stored

abbrev pub given_attributes : CreateHow → SetAttributes
given_attributes (Unchecked a) = a
given_attributes (Guarded a) = a
given_attributes (Exclusive verifier) = nothing_given

abbrev pub given_verifier : CreateHow → Option Verifier
given_verifier (Unchecked a) = None
given_verifier (Guarded a) = None
given_verifier (Exclusive verifier) = Some verifier

abbrev pub new_file_rules : Caller → SetAttributes → List (Option Status)
new_file_rules c a =
    owner_rule c a ∷
    time_rule a ∷
    size_rule a.size ∷ []

-- a new file has zeros as bytes, none if no size is given
abbrev pub new_file : Caller → Time → ℕ → CreateHow → Node
new_file c now d how = record (new_node c now d file_mode (given_attributes how) (Regular (replicate (unwrap_or (given_attributes how).size 0) 0))) { verifier = given_verifier how }

-- ===== a name that is there: EXIST, but for an unchecked CREATE of a regular file, whose size it may set (ACCES; FBIG), and for an exclusive CREATE of a file whose stored verifier is the same

abbrev pub is_made_by : Verifier → Option Verifier → Bool
is_made_by verifier stored = option_map_or (λ (v : Verifier). v.number == verifier.number) stored false

abbrev pub existing_file_rules : Caller → CreateHow → Node → List (Option Status)
existing_file_rules c (Unchecked a) node =
    (not (is_regular node) ⇒ Exist) ∷
    ((is_some a.size && not (may c Write node)) ⇒ Acces) ∷
    size_rule a.size ∷ []
existing_file_rules c (Guarded a) node = Some Exist ∷ []
existing_file_rules c (Exclusive verifier) node = (not (is_regular node && is_made_by verifier node.verifier) ⇒ Exist) ∷ []

-- the size that a file gets that is there already
abbrev pub size_to_set : CreateHow → Option ℕ
size_to_set (Unchecked a) = a.size
size_to_set (Guarded a) = None
size_to_set (Exclusive verifier) = None

abbrev pub tree_with_existing_file : Tree → Time → CreateHow → ℕ → Tree
tree_with_existing_file t now how n = option_map_or (λ size. tree_with_size t now n size) (size_to_set how) t

-- ===== CREATE (section 3.3.8): the handle; the name; the directory's type and rights; EXIST for . and ..; as above; NOSPC

abbrev pub file_rules : Tree → Caller → CreateHow → Option ℕ → List (Option Status)
file_rules t c how None = new_file_rules c (given_attributes how)
file_rules t c how (Some n) = on (get t.nodes n) (existing_file_rules c how)

abbrev pub create_rules : Tree → Caller → Space → CreateArgs → List (Option Status)
create_rules t c space args =
    first (entry_rules t c args.dir args.name) ∷
    (is_dot_name args.name ⇒ Exist) ∷
    first (file_rules t c args.how (number_of_entry t (number_of_handle args.dir) args.name)) ∷
    space_rule space ∷ []

abbrev pub tree_with_file : Tree → Caller → Time → CreateArgs → Option ℕ → Tree
tree_with_file t c now args None = tree_with_node t now (number_of_handle args.dir) args.name (new_file c now (number_of_handle args.dir) args.how)
tree_with_file t c now args (Some n) = tree_with_existing_file t now args.how n

abbrev pub create_tree : Tree → Caller → Space → Time → CreateArgs → Tree
create_tree t c space now args =
    after (first (create_rules t c space args)) t (tree_with_file t c now args (number_of_entry t (number_of_handle args.dir) args.name))

abbrev pub create_reply : Tree → Caller → Space → Time → CreateArgs → StatusUnion CreateOk WccData Status
create_reply t c space now args =
    answer (first (create_rules t c space args)) (λ s. Failed s (wcc_data t t args.dir)) (Done (create_ok t (create_tree t c space now args) args.dir args.name))
