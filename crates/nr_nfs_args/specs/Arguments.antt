-- The arguments of each procedure: the type of their values, and its codec (RFC 1813 sections 3.3 and 5.2).
use Rattle.nr_nfs_base.specs.Codec.{Codec}
use Rattle.nr_nfs_base.specs.declared.procedure.MountProcedure.{MountProcedure}
use Rattle.nr_nfs_base.specs.declared.procedure.MountProcedure.TheVariants as mount
use Rattle.nr_nfs_base.specs.declared.procedure.NfsProcedure.{NfsProcedure}
use Rattle.nr_nfs_base.specs.declared.procedure.NfsProcedure.TheVariants as nfs
use Rattle.nr_nfs_base.specs.declared.procedure.Procedure.{Procedure}
use Rattle.nr_nfs_base.specs.declared.procedure.Procedure.TheVariants.{Nfs, Mount}
use Rattle.nr_nfs_args.specs.Attributes.{access_args_codec, getattr_args_codec, setattr_args_codec}
use Rattle.nr_nfs_args.specs.Bytes.{commit_args_codec, read_args_codec, write_args_codec}
use Rattle.nr_nfs_args.specs.Create.{create_args_codec, mkdir_args_codec}
use Rattle.nr_nfs_args.specs.FileSystem.{fsinfo_args_codec, fsstat_args_codec, pathconf_args_codec}
use Rattle.nr_nfs_args.specs.Lookup.{lookup_args_codec, readlink_args_codec}
use Rattle.nr_nfs_args.specs.Mount.{mnt_args_codec, umnt_args_codec, umntall_args_codec}
use Rattle.nr_nfs_args.specs.Null.{null_args_codec}
use Rattle.nr_nfs_args.specs.Readdir.{readdir_args_codec, readdirplus_args_codec}
use Rattle.nr_nfs_args.specs.Remove.{link_args_codec, remove_args_codec, rename_args_codec, rmdir_args_codec}
use Rattle.nr_nfs_args.specs.Special.{mknod_args_codec, symlink_args_codec}
use Rattle.nr_nfs_args.specs.declared.attributes.AccessArgs.{AccessArgs}
use Rattle.nr_nfs_args.specs.declared.bytes.CommitArgs.{CommitArgs}
use Rattle.nr_nfs_args.specs.declared.create.CreateArgs.{CreateArgs}
use Rattle.nr_nfs_args.specs.declared.file_system.FsinfoArgs.{FsinfoArgs}
use Rattle.nr_nfs_args.specs.declared.file_system.FsstatArgs.{FsstatArgs}
use Rattle.nr_nfs_args.specs.declared.attributes.GetattrArgs.{GetattrArgs}
use Rattle.nr_nfs_args.specs.declared.remove.LinkArgs.{LinkArgs}
use Rattle.nr_nfs_args.specs.declared.lookup.LookupArgs.{LookupArgs}
use Rattle.nr_nfs_args.specs.declared.create.MkdirArgs.{MkdirArgs}
use Rattle.nr_nfs_args.specs.declared.special.MknodArgs.{MknodArgs}
use Rattle.nr_nfs_args.specs.declared.mount.MntArgs.{MntArgs}
use Rattle.nr_nfs_args.specs.declared.null.NullArgs.{NullArgs}
use Rattle.nr_nfs_args.specs.declared.file_system.PathconfArgs.{PathconfArgs}
use Rattle.nr_nfs_args.specs.declared.bytes.ReadArgs.{ReadArgs}
use Rattle.nr_nfs_args.specs.declared.readdir.ReaddirArgs.{ReaddirArgs}
use Rattle.nr_nfs_args.specs.declared.readdir.ReaddirplusArgs.{ReaddirplusArgs}
use Rattle.nr_nfs_args.specs.declared.lookup.ReadlinkArgs.{ReadlinkArgs}
use Rattle.nr_nfs_args.specs.declared.remove.RemoveArgs.{RemoveArgs}
use Rattle.nr_nfs_args.specs.declared.remove.RenameArgs.{RenameArgs}
use Rattle.nr_nfs_args.specs.declared.remove.RmdirArgs.{RmdirArgs}
use Rattle.nr_nfs_args.specs.declared.attributes.SetattrArgs.{SetattrArgs}
use Rattle.nr_nfs_args.specs.declared.special.SymlinkArgs.{SymlinkArgs}
use Rattle.nr_nfs_args.specs.declared.mount.UmntArgs.{UmntArgs}
use Rattle.nr_nfs_args.specs.declared.mount.UmntallArgs.{UmntallArgs}
use Rattle.nr_nfs_args.specs.declared.bytes.WriteArgs.{WriteArgs}

-- of NFS
abbrev pub NfsArguments : NfsProcedure → Type 0
NfsArguments nfs.Null = NullArgs
NfsArguments nfs.Getattr = GetattrArgs
NfsArguments nfs.Setattr = SetattrArgs
NfsArguments nfs.Lookup = LookupArgs
NfsArguments nfs.Access = AccessArgs
NfsArguments nfs.Readlink = ReadlinkArgs
NfsArguments nfs.Read = ReadArgs
NfsArguments nfs.Write = WriteArgs
NfsArguments nfs.Create = CreateArgs
NfsArguments nfs.Mkdir = MkdirArgs
NfsArguments nfs.Symlink = SymlinkArgs
NfsArguments nfs.Mknod = MknodArgs
NfsArguments nfs.Remove = RemoveArgs
NfsArguments nfs.Rmdir = RmdirArgs
NfsArguments nfs.Rename = RenameArgs
NfsArguments nfs.Link = LinkArgs
NfsArguments nfs.Readdir = ReaddirArgs
NfsArguments nfs.Readdirplus = ReaddirplusArgs
NfsArguments nfs.Fsstat = FsstatArgs
NfsArguments nfs.Fsinfo = FsinfoArgs
NfsArguments nfs.Pathconf = PathconfArgs
NfsArguments nfs.Commit = CommitArgs

abbrev pub nfs_arguments_codec : (p : NfsProcedure) → Codec (NfsArguments p)
nfs_arguments_codec nfs.Null = null_args_codec
nfs_arguments_codec nfs.Getattr = getattr_args_codec
nfs_arguments_codec nfs.Setattr = setattr_args_codec
nfs_arguments_codec nfs.Lookup = lookup_args_codec
nfs_arguments_codec nfs.Access = access_args_codec
nfs_arguments_codec nfs.Readlink = readlink_args_codec
nfs_arguments_codec nfs.Read = read_args_codec
nfs_arguments_codec nfs.Write = write_args_codec
nfs_arguments_codec nfs.Create = create_args_codec
nfs_arguments_codec nfs.Mkdir = mkdir_args_codec
nfs_arguments_codec nfs.Symlink = symlink_args_codec
nfs_arguments_codec nfs.Mknod = mknod_args_codec
nfs_arguments_codec nfs.Remove = remove_args_codec
nfs_arguments_codec nfs.Rmdir = rmdir_args_codec
nfs_arguments_codec nfs.Rename = rename_args_codec
nfs_arguments_codec nfs.Link = link_args_codec
nfs_arguments_codec nfs.Readdir = readdir_args_codec
nfs_arguments_codec nfs.Readdirplus = readdirplus_args_codec
nfs_arguments_codec nfs.Fsstat = fsstat_args_codec
nfs_arguments_codec nfs.Fsinfo = fsinfo_args_codec
nfs_arguments_codec nfs.Pathconf = pathconf_args_codec
nfs_arguments_codec nfs.Commit = commit_args_codec

-- of MOUNT
abbrev pub MountArguments : MountProcedure → Type 0
MountArguments mount.Null = NullArgs
MountArguments mount.Mnt = MntArgs
MountArguments mount.Umnt = UmntArgs
MountArguments mount.Umntall = UmntallArgs

abbrev pub mount_arguments_codec : (p : MountProcedure) → Codec (MountArguments p)
mount_arguments_codec mount.Null = null_args_codec
mount_arguments_codec mount.Mnt = mnt_args_codec
mount_arguments_codec mount.Umnt = umnt_args_codec
mount_arguments_codec mount.Umntall = umntall_args_codec

-- of either program
abbrev pub Arguments : Procedure → Type 0
Arguments (Nfs p) = NfsArguments p
Arguments (Mount p) = MountArguments p

abbrev pub arguments_codec : (p : Procedure) → Codec (Arguments p)
arguments_codec (Nfs p) = nfs_arguments_codec p
arguments_codec (Mount p) = mount_arguments_codec p
