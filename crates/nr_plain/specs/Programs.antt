-- The results of each procedure, and the tree after it.
use Rattle.std.specs.Prelude.{ℕ, Bool, true, false, if◌then◌else◌, List, [], ◌∷◌, nat_eq}
use Rattle.std.specs.Cmp.Lexicographic.{pointwise}
use Rattle.nr_nfs_base.specs.declared.caller.Caller.{Caller}
use Rattle.nr_nfs_base.specs.declared.time.Time.{Time}
use Rattle.nr_nfs_base.specs.declared.mount_status.MountStatus.TheVariants.{Noent}
use Rattle.nr_nfs_base.specs.declared.procedure.MountProcedure.{MountProcedure}
use Rattle.nr_nfs_base.specs.declared.procedure.MountProcedure.TheVariants as mount
use Rattle.nr_nfs_base.specs.declared.procedure.NfsProcedure.{NfsProcedure}
use Rattle.nr_nfs_base.specs.declared.procedure.NfsProcedure.TheVariants as nfs
use Rattle.nr_nfs_base.specs.declared.status_union.StatusUnion.{StatusUnion}
use Rattle.nr_nfs_base.specs.declared.status_union.StatusUnion.TheVariants.{Done, Failed}
use Rattle.nr_nfs_args.specs.Arguments.{NfsArguments, MountArguments}
use Rattle.nr_nfs_res.specs.Results.{NfsResults, MountResults}
use Rattle.nr_nfs_res.specs.declared.mount.MountOk.{MountOk}
use Rattle.nr_tree.specs.Tree.{Tree}
use Rattle.nr_tree.specs.Rules.{handle_of}
use Rattle.nr_tree.specs.declared.rules.Space.{Space}
use Rattle.nr_ops_file.specs.Attributes.{getattr_reply, setattr_tree, setattr_reply, access_reply}
use Rattle.nr_ops_file.specs.Links.{readlink_reply}
use Rattle.nr_ops_file.specs.Bytes.{read_reply, write_tree, write_reply, commit_reply}
use Rattle.nr_ops_file.specs.FileSystem.{fsstat_reply, fsinfo_reply, pathconf_reply}
use Rattle.nr_ops_list.specs.Lookup.{lookup_reply}
use Rattle.nr_ops_dir.specs.Create.{create_tree, create_reply}
use Rattle.nr_ops_dir.specs.Creation.{mkdir_tree, mkdir_reply, symlink_tree, symlink_reply, mknod_tree, mknod_reply}
use Rattle.nr_ops_dir.specs.Removal.{remove_tree, remove_reply, rmdir_tree, rmdir_reply}
use Rattle.nr_ops_dir.specs.Renaming.{rename_tree, rename_reply}
use Rattle.nr_ops_dir.specs.Links.{link_tree, link_reply}
use Rattle.nr_ops_list.specs.Readdir.{readdir_reply, readdirplus_reply}

-- ===== NFS (RFC 1813 section 3.3)

abbrev pub nfs_results : Tree → Caller → Space → Time → (p : NfsProcedure) → NfsArguments p → NfsResults p
nfs_results t c space now nfs.Null a = record {}
nfs_results t c space now nfs.Getattr a = getattr_reply t a
nfs_results t c space now nfs.Setattr a = setattr_reply t c space now a
nfs_results t c space now nfs.Lookup a = lookup_reply t c a
nfs_results t c space now nfs.Access a = access_reply t c a
nfs_results t c space now nfs.Readlink a = readlink_reply t a
nfs_results t c space now nfs.Read a = read_reply t c a
nfs_results t c space now nfs.Write a = write_reply t c space now a
nfs_results t c space now nfs.Create a = create_reply t c space now a
nfs_results t c space now nfs.Mkdir a = mkdir_reply t c space now a
nfs_results t c space now nfs.Symlink a = symlink_reply t c space now a
nfs_results t c space now nfs.Mknod a = mknod_reply t c space now a
nfs_results t c space now nfs.Remove a = remove_reply t c space now a
nfs_results t c space now nfs.Rmdir a = rmdir_reply t c space now a
nfs_results t c space now nfs.Rename a = rename_reply t c space now a
nfs_results t c space now nfs.Link a = link_reply t c space now a
nfs_results t c space now nfs.Readdir a = readdir_reply t c a
nfs_results t c space now nfs.Readdirplus a = readdirplus_reply t c a
nfs_results t c space now nfs.Fsstat a = fsstat_reply t space a
nfs_results t c space now nfs.Fsinfo a = fsinfo_reply t a
nfs_results t c space now nfs.Pathconf a = pathconf_reply t a
nfs_results t c space now nfs.Commit a = commit_reply t space a

-- ten procedures change the tree
abbrev pub nfs_tree : Tree → Caller → Space → Time → (p : NfsProcedure) → NfsArguments p → Tree
nfs_tree t c space now nfs.Null a = t
nfs_tree t c space now nfs.Getattr a = t
nfs_tree t c space now nfs.Setattr a = setattr_tree t c space now a
nfs_tree t c space now nfs.Lookup a = t
nfs_tree t c space now nfs.Access a = t
nfs_tree t c space now nfs.Readlink a = t
nfs_tree t c space now nfs.Read a = t
nfs_tree t c space now nfs.Write a = write_tree t c space now a
nfs_tree t c space now nfs.Create a = create_tree t c space now a
nfs_tree t c space now nfs.Mkdir a = mkdir_tree t c space now a
nfs_tree t c space now nfs.Symlink a = symlink_tree t c space now a
nfs_tree t c space now nfs.Mknod a = mknod_tree t c space now a
nfs_tree t c space now nfs.Remove a = remove_tree t c space now a
nfs_tree t c space now nfs.Rmdir a = rmdir_tree t c space now a
nfs_tree t c space now nfs.Rename a = rename_tree t c space now a
nfs_tree t c space now nfs.Link a = link_tree t c space now a
nfs_tree t c space now nfs.Readdir a = t
nfs_tree t c space now nfs.Readdirplus a = t
nfs_tree t c space now nfs.Fsstat a = t
nfs_tree t c space now nfs.Fsinfo a = t
nfs_tree t c space now nfs.Pathconf a = t
nfs_tree t c space now nfs.Commit a = t

-- the procedures that change no tree
abbrev pub only_reads : NfsProcedure → Bool
only_reads nfs.Null = true
only_reads nfs.Getattr = true
only_reads nfs.Setattr = false
only_reads nfs.Lookup = true
only_reads nfs.Access = true
only_reads nfs.Readlink = true
only_reads nfs.Read = true
only_reads nfs.Write = false
only_reads nfs.Create = false
only_reads nfs.Mkdir = false
only_reads nfs.Symlink = false
only_reads nfs.Mknod = false
only_reads nfs.Remove = false
only_reads nfs.Rmdir = false
only_reads nfs.Rename = false
only_reads nfs.Link = false
only_reads nfs.Readdir = true
only_reads nfs.Readdirplus = true
only_reads nfs.Fsstat = true
only_reads nfs.Fsinfo = true
only_reads nfs.Pathconf = true
only_reads nfs.Commit = true

-- whether the results have status 0
abbrev pub is_done : {D F S : Type 0} → StatusUnion D F S → Bool
is_done (Done d) = true
is_done (Failed s f) = false

-- a change that succeeds is an entry of the journal, also one of no effect
abbrev pub is_change : (p : NfsProcedure) → NfsResults p → Bool
is_change nfs.Null r = false
is_change nfs.Getattr r = false
is_change nfs.Setattr r = is_done r
is_change nfs.Lookup r = false
is_change nfs.Access r = false
is_change nfs.Readlink r = false
is_change nfs.Read r = false
is_change nfs.Write r = is_done r
is_change nfs.Create r = is_done r
is_change nfs.Mkdir r = is_done r
is_change nfs.Symlink r = is_done r
is_change nfs.Mknod r = is_done r
is_change nfs.Remove r = is_done r
is_change nfs.Rmdir r = is_done r
is_change nfs.Rename r = is_done r
is_change nfs.Link r = is_done r
is_change nfs.Readdir r = false
is_change nfs.Readdirplus r = false
is_change nfs.Fsstat r = false
is_change nfs.Fsinfo r = false
is_change nfs.Pathconf r = false
is_change nfs.Commit r = false

-- ===== MOUNT (RFC 1813 section 5.2)

-- the handle of the root, and the flavors AUTH_SYS and AUTH_NONE
abbrev pub mounted : MountOk
mounted = record { handle = handle_of 1; flavors = 1 ∷ 0 ∷ [] }

-- the path of the export, byte for byte, and no other
abbrev pub mount_results : List ℕ → (p : MountProcedure) → MountArguments p → MountResults p
mount_results export mount.Null a = record {}
mount_results export mount.Mnt a = if pointwise nat_eq a.dirpath export then Done mounted else Failed Noent tt
mount_results export mount.Umnt a = record {}
mount_results export mount.Umntall a = record {}
