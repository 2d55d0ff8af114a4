-- GETATTR, SETATTR and ACCESS (RFC 1813 sections 3.3.1, 3.3.2 and 3.3.4): the refusals in their order, the tree after, the reply.
use Rattle.std.specs.Prelude.{◌≡◌, ℕ, ◌+◌, ◌≤◌, ◌%◌, ◌==◌, Bool, true, false, not, ◌&&◌, ◌||◌, if◌then◌else◌, List, [], ◌∷◌, Option, Some, IfSome, is_some, unwrap_or}
use Rattle.std.specs.Option.{option_map, option_map_or}
use Rattle.std.specs.Int.Bits.{bit_and}
use Rattle.nr_nfs_base.specs.declared.attributes.Attributes.{Attributes}
use Rattle.nr_nfs_base.specs.declared.caller.Caller.{Caller}
use Rattle.nr_nfs_base.specs.declared.set_attributes.SetAttributes.{SetAttributes}
use Rattle.nr_nfs_base.specs.declared.set_attributes.SetTime.{SetTime}
use Rattle.nr_nfs_base.specs.declared.set_attributes.SetTime.TheVariants.{Leave, ServerTime, ClientTime}
use Rattle.nr_nfs_base.specs.declared.status.Status.{Status}
use Rattle.nr_nfs_base.specs.declared.status.Status.TheVariants.{Perm, Acces, Isdir, Inval, NotSync, Serverfault}
use Rattle.nr_nfs_base.specs.declared.status_union.StatusUnion.{StatusUnion}
use Rattle.nr_nfs_base.specs.declared.status_union.StatusUnion.TheVariants.{Done, Failed}
use Rattle.nr_nfs_base.specs.declared.time.Time.{Time}
use Rattle.nr_nfs_base.specs.declared.weak_cache.WccData.{WccData}
use Rattle.nr_nfs_args.specs.declared.attributes.AccessArgs.{AccessArgs}
use Rattle.nr_nfs_args.specs.declared.attributes.GetattrArgs.{GetattrArgs}
use Rattle.nr_nfs_args.specs.declared.attributes.SetattrArgs.{SetattrArgs}
use Rattle.nr_nfs_res.specs.declared.attributes.AccessOk.{AccessOk}
use Rattle.nr_tree.specs.Changes.{tree_with_size, tree_with_metadata}
use Rattle.nr_tree.specs.Replies.{attributes_at, wcc_data}
use Rattle.nr_tree.specs.Rules.{first, ◌⇒◌, on, after, answer, handle_rule, node_of_handle, number_of_handle, may, space_rule, time_rule, size_rule, differs_if_given, mode_count, time_after}
use Rattle.nr_tree.specs.Sane.{file_size_max}
use Rattle.nr_tree.specs.Steps.{is_regular_at}
use Rattle.nr_tree.specs.Tree.{Tree, is_dir, is_regular}
use Rattle.nr_tree.specs.declared.node.Node.{Node}
use Rattle.nr_tree.specs.declared.node.Metadata.{Metadata}
use Rattle.nr_tree.specs.declared.rules.Right.TheVariants.{Read, Write, Execute}
use Rattle.nr_tree.specs.declared.rules.Space.{Space}

-- ===== GETATTR (section 3.3.1): the handle

abbrev pub getattr_rules : Tree → GetattrArgs → List (Option Status)
getattr_rules t a = handle_rule t a.object ∷ []

-- the attributes; a handle that its rule lets through names a live node, so SERVERFAULT is never answered (the clause `live` of getattr)
abbrev pub getattr_done : Option Attributes → StatusUnion Attributes (Unit {0}) Status
getattr_done attributes = option_map_or Done attributes (Failed Serverfault tt)

abbrev pub getattr_reply : Tree → GetattrArgs → StatusUnion Attributes (Unit {0}) Status
getattr_reply t a = answer (first (getattr_rules t a)) (λ s. Failed s tt) (getattr_done (attributes_at t a.object))

-- ===== SETATTR (section 3.3.2). In order: the handle; a guard unlike the change time (NOT_SYNC); another owner or group, by other than
-- uid 0 (PERM); the mode or a client's time, by neither the owner nor uid 0 (PERM); the size without the write right (ACCES); the server's
-- time, by neither the owner nor one with the write right (ACCES); the size of a directory (ISDIR), and of what else is no regular file
-- (INVAL); a client's time of 10^9 or more nanoseconds (INVAL); a size above the maximum of a file (FBIG); the space (NOSPC).

abbrev pub same_time : Time → Time → Bool
same_time a b = (a.seconds == b.seconds) && (a.nanoseconds == b.nanoseconds)

abbrev pub guard_differs : Option Time → Node → Bool
guard_differs guard node = option_map_or (λ time. not (same_time time node.metadata.ctime)) guard false

abbrev pub changes_owner : SetAttributes → Node → Bool
changes_owner a node = differs_if_given a.uid node.metadata.uid || differs_if_given a.gid node.metadata.gid

abbrev pub is_client_time : SetTime → Bool
is_client_time Leave = false
is_client_time ServerTime = false
is_client_time (ClientTime time) = true

abbrev pub is_server_time : SetTime → Bool
is_server_time Leave = false
is_server_time ServerTime = true
is_server_time (ClientTime time) = false

-- what the owner alone may set: the mode, and a time of the client's
abbrev pub needs_owner : SetAttributes → Bool
needs_owner a = is_some a.mode || (is_client_time a.atime || is_client_time a.mtime)

abbrev pub sets_server_time : SetAttributes → Bool
sets_server_time a = is_server_time a.atime || is_server_time a.mtime

-- uid 0 counts as the owner
abbrev pub is_owner : Caller → Node → Bool
is_owner c node = (c.uid == 0) || (c.uid == node.metadata.uid)

-- what the caller may not set
abbrev pub permission_rules : Caller → SetAttributes → Node → List (Option Status)
permission_rules c a node =
    ((changes_owner a node && not (c.uid == 0)) ⇒ Perm) ∷
    ((needs_owner a && not (is_owner c node)) ⇒ Perm) ∷
    ((is_some a.size && not (may c Write node)) ⇒ Acces) ∷
    ((sets_server_time a && not (is_owner c node || may c Write node)) ⇒ Acces) ∷ []

-- what nobody can set
abbrev pub value_rules : SetAttributes → Node → List (Option Status)
value_rules a node =
    ((is_some a.size && is_dir node) ⇒ Isdir) ∷
    ((is_some a.size && not (is_regular node)) ⇒ Inval) ∷
    time_rule a ∷
    size_rule a.size ∷ []

abbrev pub setattr_of : Caller → SetattrArgs → Node → List (Option Status)
setattr_of c a node =
    (guard_differs a.guard node ⇒ NotSync) ∷
    first (permission_rules c a.attributes node) ∷
    first (value_rules a.attributes node) ∷ []

abbrev pub setattr_rules : Tree → Caller → Space → SetattrArgs → List (Option Status)
setattr_rules t c space a =
    handle_rule t a.object ∷
    first (on (node_of_handle t a.object) (setattr_of c a)) ∷
    space_rule space ∷ []

-- a size may be given (for the code): the node is a regular file, and the size is at most the maximum of one
abbrev pub MayHaveSize : (is_file : Bool) → (size : ℕ) → Type 0
MayHaveSize is_file size = (is_file ≡ true) × (size ≤ file_size_max)

-- the node that a call names, by its number and its metadata; and it may have the size that the call gives it, if any
abbrev pub IsNodeToSet : Tree → SetattrArgs → (number : ℕ) → Metadata → Type 0
IsNodeToSet t a number metadata =
    (number ≡ number_of_handle a.object)
    × (option_map (λ (n : Node). n.metadata) (node_of_handle t a.object) ≡ Some metadata)
    × IfSome a.attributes.size (MayHaveSize (is_regular_at t number))

abbrev pub mode_after : Option ℕ → ℕ → ℕ
mode_after asked present = option_map_or (λ mode. mode % mode_count) asked present

-- the time of the last change of bytes, before it is set: a size that is given, also the present one, changes them now
abbrev pub mtime_of_size : Time → Option ℕ → Time → Time
mtime_of_size now size mtime = if is_some size then now else mtime

-- what is not given stays, the links stay, and the change time is now
abbrev pub metadata_after : Time → SetAttributes → Metadata → Metadata
metadata_after now a m = record {
  mode = mode_after a.mode m.mode;
  links = m.links;
  uid = unwrap_or a.uid m.uid;
  gid = unwrap_or a.gid m.gid;
  atime = time_after now m.atime a.atime;
  mtime = time_after now (mtime_of_size now a.size m.mtime) a.mtime;
  ctime = now;
}

-- a file is cut or filled up with zeros, if a size is given
abbrev pub tree_with_size_given : Tree → Time → ℕ → Option ℕ → Tree
tree_with_size_given t now n size = option_map_or (tree_with_size t now n) size t

abbrev pub tree_with_attributes : Tree → Time → ℕ → SetAttributes → Metadata → Tree
tree_with_attributes t now n a m = tree_with_metadata (tree_with_size_given t now n a.size) n (metadata_after now a m)

abbrev pub setattr_done : Tree → Time → SetattrArgs → Tree
setattr_done t now a =
    option_map_or (λ (node : Node). tree_with_attributes t now (number_of_handle a.object) a.attributes node.metadata) (node_of_handle t a.object) t

abbrev pub setattr_tree : Tree → Caller → Space → Time → SetattrArgs → Tree
setattr_tree t c space now a = after (first (setattr_rules t c space a)) t (setattr_done t now a)

abbrev pub setattr_reply : Tree → Caller → Space → Time → SetattrArgs → StatusUnion WccData WccData Status
setattr_reply t c space now a =
    answer (first (setattr_rules t c space a)) (λ s. Failed s (wcc_data t t a.object)) (Done (wcc_data t (setattr_tree t c space now a) a.object))

-- ===== ACCESS (section 3.3.4): the handle

abbrev pub access_rules : Tree → AccessArgs → List (Option Status)
access_rules t a = handle_rule t a.object ∷ []

-- ACCESS3_READ, ACCESS3_LOOKUP, ACCESS3_MODIFY, ACCESS3_EXTEND, ACCESS3_DELETE and ACCESS3_EXECUTE
abbrev pub access_read : ℕ
access_read = 1

abbrev pub access_lookup : ℕ
access_lookup = 2

abbrev pub access_modify : ℕ
access_modify = 4

abbrev pub access_extend : ℕ
access_extend = 8

abbrev pub access_delete : ℕ
access_delete = 16

abbrev pub access_execute : ℕ
access_execute = 32

abbrev pub bit_if : Bool → ℕ → ℕ
bit_if granted bit = if granted then bit else 0

-- DELETE is asked of the directory that has the entry
abbrev pub access_granted : Caller → Node → ℕ
access_granted c node =
    bit_if (may c Read node) access_read
    + bit_if (is_dir node && may c Execute node) access_lookup
    + bit_if (may c Write node) access_modify
    + bit_if (may c Write node) access_extend
    + bit_if (is_dir node && may c Write node) access_delete
    + bit_if (not (is_dir node) && may c Execute node) access_execute

-- of the bits that are asked those that are granted
abbrev pub access_done : Tree → Caller → AccessArgs → AccessOk
access_done t c a = record {
  attributes = attributes_at t a.object;
  access = bit_and a.access (option_map_or (access_granted c) (node_of_handle t a.object) 0);
}

abbrev pub access_reply : Tree → Caller → AccessArgs → StatusUnion AccessOk (Option Attributes) Status
access_reply t c a = answer (first (access_rules t a)) (λ s. Failed s (attributes_at t a.object)) (Done (access_done t c a))
