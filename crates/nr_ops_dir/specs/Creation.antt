-- MKDIR, SYMLINK and MKNOD (RFC 1813 sections 3.3.9 to 3.3.11), and what a new node is.
use Rattle.std.specs.Prelude.{ℕ, ◌+◌, ◌%◌, ◌==◌, nat_lt, Bool, true, false, not, ◌&&◌, ◌||◌, List, [], ◌∷◌, length, Option, None, Some, is_none, is_some, unwrap_or}
use Rattle.std.specs.Option.{option_map, option_map_or}
use Rattle.nr_nfs_base.specs.declared.time.Time.{Time}
use Rattle.nr_nfs_base.specs.declared.caller.Caller.{Caller}
use Rattle.nr_nfs_base.specs.declared.set_attributes.SetAttributes.{SetAttributes}
use Rattle.nr_nfs_base.specs.declared.set_attributes.SetTime.TheVariants.{Leave}
use Rattle.nr_nfs_base.specs.declared.status.Status.{Status}
use Rattle.nr_nfs_base.specs.declared.status.Status.TheVariants.{Perm, Exist, Inval, Nametoolong, Badtype}
use Rattle.nr_nfs_base.specs.declared.status_union.StatusUnion.{StatusUnion}
use Rattle.nr_nfs_base.specs.declared.status_union.StatusUnion.TheVariants.{Done, Failed}
use Rattle.nr_nfs_base.specs.declared.weak_cache.WccData.{WccData}
use Rattle.nr_nfs_args.specs.declared.create.MkdirArgs.{MkdirArgs}
use Rattle.nr_nfs_args.specs.declared.special.SymlinkArgs.{SymlinkArgs}
use Rattle.nr_nfs_args.specs.declared.special.MknodArgs.{MknodArgs}
use Rattle.nr_nfs_args.specs.declared.special.MknodData.{MknodData}
use Rattle.nr_nfs_args.specs.declared.special.MknodData.TheVariants as data_of
use Rattle.nr_nfs_res.specs.declared.create.CreateOk.{CreateOk}
use Rattle.nr_tree.specs.declared.node.Node.{Node}
use Rattle.nr_tree.specs.declared.node.Content.{Content}
use Rattle.nr_tree.specs.declared.node.Content.TheVariants.{Directory, Block, Character, Link, Socket, Fifo}
use Rattle.nr_tree.specs.declared.rules.Space.{Space}
use Rattle.nr_tree.specs.DirectoryGraph.{one_if}
use Rattle.nr_tree.specs.Tree.{Tree, is_directory}
use Rattle.nr_nfs_base.specs.Limits.{link_target_max}
use Rattle.nr_tree.specs.Changes.{tree_with_node}
use Rattle.nr_tree.specs.Rules.{first, ◌⇒◌, after, answer, number_of_handle, handle_of, handle_rule, space_rule, time_rule, differs_if_given, mode_count, time_after}
use Rattle.nr_tree.specs.Replies.{wcc_data, attributes_of_number}
use Rattle.nr_ops_dir.specs.Entries.{number_of_entry, is_taken, entry_rules, links_rule}

-- ===== a new node

-- only uid 0 gives a new node to another owner or group
abbrev pub owner_rule : Caller → SetAttributes → Option Status
owner_rule c a = (not (c.uid == 0) && (differs_if_given a.uid c.uid || differs_if_given a.gid c.gid)) ⇒ Perm

-- what is not given is the caller's, now, and this mode
abbrev pub new_node : Caller → Time → ℕ → ℕ → SetAttributes → Content → Node
new_node c now d mode a content = record {
  metadata = record {
    mode = unwrap_or a.mode mode % mode_count;
    links = 1 + one_if (is_directory content);
    uid = unwrap_or a.uid c.uid;
    gid = unwrap_or a.gid c.gid;
    atime = time_after now now a.atime;
    mtime = time_after now now a.mtime;
    ctime = now;
  };
  parent = d;
  verifier = None;
  content = content;
}

-- the modes 0644, 0755 and 0777
abbrev pub file_mode : ℕ
file_mode = 420

abbrev pub directory_mode : ℕ
directory_mode = 493

abbrev pub link_mode : ℕ
link_mode = 511

abbrev pub nothing_given : SetAttributes
nothing_given = record { mode = None; uid = None; gid = None; size = None; atime = Leave; mtime = Leave }

-- ===== the reply: the handle and the attributes of what the name leads to afterwards

abbrev pub create_ok : Tree → Tree → List ℕ → List ℕ → CreateOk
create_ok old new h name = record {
  object = option_map handle_of (number_of_entry new (number_of_handle h) name);
  attributes = option_map_or (attributes_of_number new) (number_of_entry new (number_of_handle h) name) None;
  dir_wcc = wcc_data old new h;
}

-- ===== what MKDIR, SYMLINK and MKNOD ask: the handle; the name; the directory's type and rights; EXIST for a name that is there, . and ..; INVAL for a given size; PERM; INVAL for a time

abbrev pub new_name_rules : Tree → Caller → List ℕ → List ℕ → SetAttributes → List (Option Status)
new_name_rules t c h name a =
    first (entry_rules t c h name) ∷
    (is_taken t (number_of_handle h) name ⇒ Exist) ∷
    (is_some a.size ⇒ Inval) ∷
    owner_rule c a ∷
    time_rule a ∷ []

-- ===== MKDIR (section 3.3.9): as above; MLINK of the directory; NOSPC

abbrev pub mkdir_rules : Tree → Caller → Space → MkdirArgs → List (Option Status)
mkdir_rules t c space args =
    first (new_name_rules t c args.dir args.name args.attributes) ∷
    links_rule t (number_of_handle args.dir) ∷
    space_rule space ∷ []

abbrev pub empty_directory : Content
empty_directory = Directory (record { next_cookie = 1; list = [] })

abbrev pub new_directory : Caller → Time → MkdirArgs → Node
new_directory c now args = new_node c now (number_of_handle args.dir) directory_mode args.attributes empty_directory

abbrev pub mkdir_tree : Tree → Caller → Space → Time → MkdirArgs → Tree
mkdir_tree t c space now args =
    after (first (mkdir_rules t c space args)) t (tree_with_node t now (number_of_handle args.dir) args.name (new_directory c now args))

abbrev pub mkdir_reply : Tree → Caller → Space → Time → MkdirArgs → StatusUnion CreateOk WccData Status
mkdir_reply t c space now args =
    answer (first (mkdir_rules t c space args)) (λ s. Failed s (wcc_data t t args.dir)) (Done (create_ok t (mkdir_tree t c space now args) args.dir args.name))

-- ===== SYMLINK (section 3.3.10): as above; INVAL for an empty path; NAMETOOLONG; NOSPC

abbrev pub path_rules : List ℕ → List (Option Status)
path_rules path =
    (length path == 0 ⇒ Inval) ∷
    (nat_lt link_target_max (length path) ⇒ Nametoolong) ∷ []

abbrev pub symlink_rules : Tree → Caller → Space → SymlinkArgs → List (Option Status)
symlink_rules t c space args =
    first (new_name_rules t c args.dir args.name args.attributes) ∷
    first (path_rules args.path) ∷
    space_rule space ∷ []

abbrev pub new_link : Caller → Time → SymlinkArgs → Node
new_link c now args = new_node c now (number_of_handle args.dir) link_mode args.attributes (Link args.path)

abbrev pub symlink_tree : Tree → Caller → Space → Time → SymlinkArgs → Tree
symlink_tree t c space now args =
    after (first (symlink_rules t c space args)) t (tree_with_node t now (number_of_handle args.dir) args.name (new_link c now args))

abbrev pub symlink_reply : Tree → Caller → Space → Time → SymlinkArgs → StatusUnion CreateOk WccData Status
symlink_reply t c space now args =
    answer (first (symlink_rules t c space args)) (λ s. Failed s (wcc_data t t args.dir)) (Done (create_ok t (symlink_tree t c space now args) args.dir args.name))

-- ===== MKNOD (section 3.3.11): the handle; BADTYPE; as above; PERM for a device; NOSPC

-- what MKNOD makes: devices, sockets and pipes, and no other type
abbrev pub special_content : MknodData → Option Content
special_content data_of.Reg = None
special_content data_of.Dir = None
special_content (data_of.Blk d) = Some (Block d.device)
special_content (data_of.Chr d) = Some (Character d.device)
special_content data_of.Lnk = None
special_content (data_of.Sock a) = Some Socket
special_content (data_of.Fifo a) = Some Fifo

abbrev pub special_attributes : MknodData → SetAttributes
special_attributes data_of.Reg = nothing_given
special_attributes data_of.Dir = nothing_given
special_attributes (data_of.Blk d) = d.attributes
special_attributes (data_of.Chr d) = d.attributes
special_attributes data_of.Lnk = nothing_given
special_attributes (data_of.Sock a) = a
special_attributes (data_of.Fifo a) = a

abbrev pub is_device : MknodData → Bool
is_device data_of.Reg = false
is_device data_of.Dir = false
is_device (data_of.Blk d) = true
is_device (data_of.Chr d) = true
is_device data_of.Lnk = false
is_device (data_of.Sock a) = false
is_device (data_of.Fifo a) = false

abbrev pub mknod_rules : Tree → Caller → Space → MknodArgs → List (Option Status)
mknod_rules t c space args =
    handle_rule t args.dir ∷
    (is_none (special_content args.what) ⇒ Badtype) ∷
    first (new_name_rules t c args.dir args.name (special_attributes args.what)) ∷
    ((is_device args.what && not (c.uid == 0)) ⇒ Perm) ∷
    space_rule space ∷ []

abbrev pub new_special : Caller → Time → MknodArgs → Content → Node
new_special c now args content = new_node c now (number_of_handle args.dir) file_mode (special_attributes args.what) content

abbrev pub mknod_tree : Tree → Caller → Space → Time → MknodArgs → Tree
mknod_tree t c space now args =
    after (first (mknod_rules t c space args)) t
    (option_map_or (λ content. tree_with_node t now (number_of_handle args.dir) args.name (new_special c now args content)) (special_content args.what) t)

abbrev pub mknod_reply : Tree → Caller → Space → Time → MknodArgs → StatusUnion CreateOk WccData Status
mknod_reply t c space now args =
    answer (first (mknod_rules t c space args)) (λ s. Failed s (wcc_data t t args.dir)) (Done (create_ok t (mknod_tree t c space now args) args.dir args.name))
