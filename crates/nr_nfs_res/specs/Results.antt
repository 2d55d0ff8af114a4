-- The results of each procedure: the type of their values, and its codec (RFC 1813 sections 3.3 and 5.2). Most are a status,
-- and then one part after the status 0, another after any other.
use Rattle.std.specs.Prelude.{Bool, Option, ℕ}
use Rattle.nr_nfs_base.specs.Attributes.{attributes_codec}
use Rattle.nr_nfs_base.specs.Codec.{Codec, void, optional, ◌&◌}
use Rattle.nr_nfs_base.specs.Fronts.{success}
use Rattle.nr_nfs_base.specs.MountStatus.{mount_status_number, mount_statuses}
use Rattle.nr_nfs_base.specs.StatusUnion.{status_union_codec}
use Rattle.nr_nfs_base.specs.Status.{status_number, statuses}
use Rattle.nr_nfs_base.specs.WeakCache.{wcc_data_codec}
use Rattle.nr_nfs_base.specs.declared.attributes.Attributes.{Attributes}
use Rattle.nr_nfs_base.specs.declared.mount_status.MountStatus.{MountStatus}
use Rattle.nr_nfs_base.specs.declared.fronts.Success.{Success}
use Rattle.nr_nfs_base.specs.declared.procedure.MountProcedure.{MountProcedure}
use Rattle.nr_nfs_base.specs.declared.procedure.MountProcedure.TheVariants as mount
use Rattle.nr_nfs_base.specs.declared.procedure.NfsProcedure.{NfsProcedure}
use Rattle.nr_nfs_base.specs.declared.procedure.NfsProcedure.TheVariants as nfs
use Rattle.nr_nfs_base.specs.declared.procedure.Procedure.{Procedure}
use Rattle.nr_nfs_base.specs.declared.procedure.Procedure.TheVariants.{Nfs, Mount}
use Rattle.nr_nfs_base.specs.declared.status_union.StatusUnion.{StatusUnion}
use Rattle.nr_nfs_base.specs.declared.status.Status.{Status}
use Rattle.nr_nfs_base.specs.declared.weak_cache.WccData.{WccData}
use Rattle.nr_nfs_res.specs.Attributes.{access_ok_codec}
use Rattle.nr_nfs_res.specs.Bytes.{commit_ok_codec, read_ok_codec, write_ok_codec}
use Rattle.nr_nfs_res.specs.Create.{create_ok_codec}
use Rattle.nr_nfs_res.specs.FileSystem.{fsinfo_ok_codec, fsstat_ok_codec, pathconf_ok_codec}
use Rattle.nr_nfs_res.specs.Lookup.{lookup_ok_codec, readlink_ok_codec}
use Rattle.nr_nfs_res.specs.Mount.{mount_ok_codec, umnt_res_codec, umntall_res_codec}
use Rattle.nr_nfs_res.specs.Null.{null_res_codec}
use Rattle.nr_nfs_res.specs.Readdir.{ReaddirOk, readdir_ok_codec, ReaddirplusOk, readdirplus_ok_codec}
use Rattle.nr_nfs_res.specs.Remove.{link_wcc_codec, rename_wcc_codec}
use Rattle.nr_nfs_res.specs.declared.attributes.AccessOk.{AccessOk}
use Rattle.nr_nfs_res.specs.declared.bytes.CommitOk.{CommitOk}
use Rattle.nr_nfs_res.specs.declared.bytes.ReadOk.{ReadOk}
use Rattle.nr_nfs_res.specs.declared.bytes.WriteOk.{WriteOk}
use Rattle.nr_nfs_res.specs.declared.create.CreateOk.{CreateOk}
use Rattle.nr_nfs_res.specs.declared.file_system.FsinfoOk.{FsinfoOk}
use Rattle.nr_nfs_res.specs.declared.file_system.FsstatOk.{FsstatOk}
use Rattle.nr_nfs_res.specs.declared.file_system.PathconfOk.{PathconfOk}
use Rattle.nr_nfs_res.specs.declared.lookup.LookupOk.{LookupOk}
use Rattle.nr_nfs_res.specs.declared.lookup.ReadlinkOk.{ReadlinkOk}
use Rattle.nr_nfs_res.specs.declared.mount.MountOk.{MountOk}
use Rattle.nr_nfs_res.specs.declared.mount.UmntRes.{UmntRes}
use Rattle.nr_nfs_res.specs.declared.mount.UmntallRes.{UmntallRes}
use Rattle.nr_nfs_res.specs.declared.null.NullRes.{NullRes}
use Rattle.nr_nfs_res.specs.declared.remove.LinkWcc.{LinkWcc}
use Rattle.nr_nfs_res.specs.declared.remove.RenameWcc.{RenameWcc}

-- a union over the statuses of NFS: the first codec after 0, the second after any other (RFC 1813 section 3.3)
abbrev pub nfs_result : {D F : Type 0} → Codec D → Codec F → Codec (StatusUnion D F Status)
nfs_result = status_union_codec status_number statuses

-- GETATTR (RFC 1813 section 3.3.1)
abbrev pub getattr_res_codec : Codec (StatusUnion Attributes (Unit {0}) Status)
getattr_res_codec = nfs_result attributes_codec void

-- SETATTR (RFC 1813 section 3.3.2)
abbrev pub setattr_res_codec : Codec (StatusUnion WccData WccData Status)
setattr_res_codec = nfs_result wcc_data_codec wcc_data_codec

-- LOOKUP (RFC 1813 section 3.3.3)
abbrev pub lookup_res_codec : Codec (StatusUnion LookupOk (Option Attributes) Status)
lookup_res_codec = nfs_result lookup_ok_codec (optional attributes_codec)

-- ACCESS (RFC 1813 section 3.3.4)
abbrev pub access_res_codec : Codec (StatusUnion AccessOk (Option Attributes) Status)
access_res_codec = nfs_result access_ok_codec (optional attributes_codec)

-- READLINK (RFC 1813 section 3.3.5)
abbrev pub readlink_res_codec : Codec (StatusUnion ReadlinkOk (Option Attributes) Status)
readlink_res_codec = nfs_result readlink_ok_codec (optional attributes_codec)

-- READ (RFC 1813 section 3.3.6)
abbrev pub read_res_codec : Codec (StatusUnion ReadOk (Option Attributes) Status)
read_res_codec = nfs_result read_ok_codec (optional attributes_codec)

-- WRITE (RFC 1813 section 3.3.7)
abbrev pub write_res_codec : Codec (StatusUnion WriteOk WccData Status)
write_res_codec = nfs_result write_ok_codec wcc_data_codec

-- CREATE (RFC 1813 section 3.3.8)
abbrev pub create_res_codec : Codec (StatusUnion CreateOk WccData Status)
create_res_codec = nfs_result create_ok_codec wcc_data_codec

-- MKDIR (RFC 1813 section 3.3.9)
abbrev pub mkdir_res_codec : Codec (StatusUnion CreateOk WccData Status)
mkdir_res_codec = nfs_result create_ok_codec wcc_data_codec

-- SYMLINK (RFC 1813 section 3.3.10)
abbrev pub symlink_res_codec : Codec (StatusUnion CreateOk WccData Status)
symlink_res_codec = nfs_result create_ok_codec wcc_data_codec

-- MKNOD (RFC 1813 section 3.3.11)
abbrev pub mknod_res_codec : Codec (StatusUnion CreateOk WccData Status)
mknod_res_codec = nfs_result create_ok_codec wcc_data_codec

-- REMOVE (RFC 1813 section 3.3.12)
abbrev pub remove_res_codec : Codec (StatusUnion WccData WccData Status)
remove_res_codec = nfs_result wcc_data_codec wcc_data_codec

-- RMDIR (RFC 1813 section 3.3.13)
abbrev pub rmdir_res_codec : Codec (StatusUnion WccData WccData Status)
rmdir_res_codec = nfs_result wcc_data_codec wcc_data_codec

-- RENAME (RFC 1813 section 3.3.14)
abbrev pub rename_res_codec : Codec (StatusUnion RenameWcc RenameWcc Status)
rename_res_codec = nfs_result rename_wcc_codec rename_wcc_codec

-- LINK (RFC 1813 section 3.3.15)
abbrev pub link_res_codec : Codec (StatusUnion LinkWcc LinkWcc Status)
link_res_codec = nfs_result link_wcc_codec link_wcc_codec

-- READDIR (RFC 1813 section 3.3.16)
abbrev pub readdir_res_codec : Codec (StatusUnion ReaddirOk (Option Attributes) Status)
readdir_res_codec = nfs_result readdir_ok_codec (optional attributes_codec)

-- READDIRPLUS (RFC 1813 section 3.3.17)
abbrev pub readdirplus_res_codec : Codec (StatusUnion ReaddirplusOk (Option Attributes) Status)
readdirplus_res_codec = nfs_result readdirplus_ok_codec (optional attributes_codec)

-- FSSTAT (RFC 1813 section 3.3.18)
abbrev pub fsstat_res_codec : Codec (StatusUnion FsstatOk (Option Attributes) Status)
fsstat_res_codec = nfs_result fsstat_ok_codec (optional attributes_codec)

-- FSINFO (RFC 1813 section 3.3.19)
abbrev pub fsinfo_res_codec : Codec (StatusUnion FsinfoOk (Option Attributes) Status)
fsinfo_res_codec = nfs_result fsinfo_ok_codec (optional attributes_codec)

-- PATHCONF (RFC 1813 section 3.3.20)
abbrev pub pathconf_res_codec : Codec (StatusUnion PathconfOk (Option Attributes) Status)
pathconf_res_codec = nfs_result pathconf_ok_codec (optional attributes_codec)

-- COMMIT (RFC 1813 section 3.3.21)
abbrev pub commit_res_codec : Codec (StatusUnion CommitOk WccData Status)
commit_res_codec = nfs_result commit_ok_codec wcc_data_codec

-- MNT, with the statuses of MOUNT (RFC 1813 section 5.2.1)
abbrev pub mnt_res_codec : Codec (StatusUnion MountOk (Unit {0}) MountStatus)
mnt_res_codec = status_union_codec mount_status_number mount_statuses mount_ok_codec void

-- of NFS
abbrev pub NfsResults : NfsProcedure → Type 0
NfsResults nfs.Null = NullRes
NfsResults nfs.Getattr = StatusUnion Attributes (Unit {0}) Status
NfsResults nfs.Setattr = StatusUnion WccData WccData Status
NfsResults nfs.Lookup = StatusUnion LookupOk (Option Attributes) Status
NfsResults nfs.Access = StatusUnion AccessOk (Option Attributes) Status
NfsResults nfs.Readlink = StatusUnion ReadlinkOk (Option Attributes) Status
NfsResults nfs.Read = StatusUnion ReadOk (Option Attributes) Status
NfsResults nfs.Write = StatusUnion WriteOk WccData Status
NfsResults nfs.Create = StatusUnion CreateOk WccData Status
NfsResults nfs.Mkdir = StatusUnion CreateOk WccData Status
NfsResults nfs.Symlink = StatusUnion CreateOk WccData Status
NfsResults nfs.Mknod = StatusUnion CreateOk WccData Status
NfsResults nfs.Remove = StatusUnion WccData WccData Status
NfsResults nfs.Rmdir = StatusUnion WccData WccData Status
NfsResults nfs.Rename = StatusUnion RenameWcc RenameWcc Status
NfsResults nfs.Link = StatusUnion LinkWcc LinkWcc Status
NfsResults nfs.Readdir = StatusUnion ReaddirOk (Option Attributes) Status
NfsResults nfs.Readdirplus = StatusUnion ReaddirplusOk (Option Attributes) Status
NfsResults nfs.Fsstat = StatusUnion FsstatOk (Option Attributes) Status
NfsResults nfs.Fsinfo = StatusUnion FsinfoOk (Option Attributes) Status
NfsResults nfs.Pathconf = StatusUnion PathconfOk (Option Attributes) Status
NfsResults nfs.Commit = StatusUnion CommitOk WccData Status

abbrev pub nfs_results_codec : (p : NfsProcedure) → Codec (NfsResults p)
nfs_results_codec nfs.Null = null_res_codec
nfs_results_codec nfs.Getattr = getattr_res_codec
nfs_results_codec nfs.Setattr = setattr_res_codec
nfs_results_codec nfs.Lookup = lookup_res_codec
nfs_results_codec nfs.Access = access_res_codec
nfs_results_codec nfs.Readlink = readlink_res_codec
nfs_results_codec nfs.Read = read_res_codec
nfs_results_codec nfs.Write = write_res_codec
nfs_results_codec nfs.Create = create_res_codec
nfs_results_codec nfs.Mkdir = mkdir_res_codec
nfs_results_codec nfs.Symlink = symlink_res_codec
nfs_results_codec nfs.Mknod = mknod_res_codec
nfs_results_codec nfs.Remove = remove_res_codec
nfs_results_codec nfs.Rmdir = rmdir_res_codec
nfs_results_codec nfs.Rename = rename_res_codec
nfs_results_codec nfs.Link = link_res_codec
nfs_results_codec nfs.Readdir = readdir_res_codec
nfs_results_codec nfs.Readdirplus = readdirplus_res_codec
nfs_results_codec nfs.Fsstat = fsstat_res_codec
nfs_results_codec nfs.Fsinfo = fsinfo_res_codec
nfs_results_codec nfs.Pathconf = pathconf_res_codec
nfs_results_codec nfs.Commit = commit_res_codec

-- of MOUNT
abbrev pub MountResults : MountProcedure → Type 0
MountResults mount.Null = NullRes
MountResults mount.Mnt = StatusUnion MountOk (Unit {0}) MountStatus
MountResults mount.Umnt = UmntRes
MountResults mount.Umntall = UmntallRes

abbrev pub mount_results_codec : (p : MountProcedure) → Codec (MountResults p)
mount_results_codec mount.Null = null_res_codec
mount_results_codec mount.Mnt = mnt_res_codec
mount_results_codec mount.Umnt = umnt_res_codec
mount_results_codec mount.Umntall = umntall_res_codec

-- of either program
abbrev pub Results : Procedure → Type 0
Results (Nfs p) = NfsResults p
Results (Mount p) = MountResults p

abbrev pub results_codec : (p : Procedure) → Codec (Results p)
results_codec (Nfs p) = nfs_results_codec p
results_codec (Mount p) = mount_results_codec p

-- the fields before the data of READ, and those before the path of READLINK
abbrev pub before_read_data : ReadOk → Success × (Option Attributes × (ℕ × Bool))
before_read_data v = success & v.attributes & v.count & v.eof

abbrev pub before_readlink_path : ReadlinkOk → Success × Option Attributes
before_readlink_path v = success & v.attributes
