-- The programs of NFS and MOUNT, and the procedures of their version 3 (RFC 1813). Of MOUNT, DUMP and
-- EXPORT are left out: this server does not have them.
use Rattle.std.proofs.Common.{refl}
use Rattle.std.specs.Prelude.{◌≡◌, ℕ, List, [], ◌∷◌, Option, Some, None, option_map, ◌==◌, ◌&&◌, if◌then◌else◌}
use Rattle.nr_nfs_base.specs.Codec.{value_with_number}
use Rattle.nr_nfs_base.specs.declared.procedure.MountProcedure.{MountProcedure}
use Rattle.nr_nfs_base.specs.declared.procedure.MountProcedure.TheVariants as mount
use Rattle.nr_nfs_base.specs.declared.procedure.NfsProcedure.{NfsProcedure}
use Rattle.nr_nfs_base.specs.declared.procedure.NfsProcedure.TheVariants as nfs
use Rattle.nr_nfs_base.specs.declared.procedure.Procedure.{Procedure}
use Rattle.nr_nfs_base.specs.declared.procedure.Procedure.TheVariants.{Nfs, Mount}

-- the program number of NFS, and its version (RFC 1813 section 2.2)
abbrev pub nfs_program : ℕ
nfs_program = 100003

abbrev pub nfs_version : ℕ
nfs_version = 3

-- the program number of MOUNT, and its version (RFC 1813 section 5.1.2)
abbrev pub mount_program : ℕ
mount_program = 100005

abbrev pub mount_version : ℕ
mount_version = 3

-- the numbers of the procedures of NFS (RFC 1813 section 3.3)
abbrev pub nfs_procedure_number : NfsProcedure → ℕ
nfs_procedure_number nfs.Null = 0
nfs_procedure_number nfs.Getattr = 1
nfs_procedure_number nfs.Setattr = 2
nfs_procedure_number nfs.Lookup = 3
nfs_procedure_number nfs.Access = 4
nfs_procedure_number nfs.Readlink = 5
nfs_procedure_number nfs.Read = 6
nfs_procedure_number nfs.Write = 7
nfs_procedure_number nfs.Create = 8
nfs_procedure_number nfs.Mkdir = 9
nfs_procedure_number nfs.Symlink = 10
nfs_procedure_number nfs.Mknod = 11
nfs_procedure_number nfs.Remove = 12
nfs_procedure_number nfs.Rmdir = 13
nfs_procedure_number nfs.Rename = 14
nfs_procedure_number nfs.Link = 15
nfs_procedure_number nfs.Readdir = 16
nfs_procedure_number nfs.Readdirplus = 17
nfs_procedure_number nfs.Fsstat = 18
nfs_procedure_number nfs.Fsinfo = 19
nfs_procedure_number nfs.Pathconf = 20
nfs_procedure_number nfs.Commit = 21

abbrev pub nfs_procedures : List NfsProcedure
nfs_procedures = nfs.Null ∷ nfs.Getattr ∷ nfs.Setattr ∷ nfs.Lookup ∷ nfs.Access ∷ nfs.Readlink ∷ nfs.Read ∷ nfs.Write ∷ nfs.Create ∷ nfs.Mkdir ∷ nfs.Symlink ∷ nfs.Mknod ∷ nfs.Remove ∷ nfs.Rmdir ∷ nfs.Rename ∷ nfs.Link ∷ nfs.Readdir ∷ nfs.Readdirplus ∷ nfs.Fsstat ∷ nfs.Fsinfo ∷ nfs.Pathconf ∷ nfs.Commit ∷ []

pub each_nfs_procedure : (p : NfsProcedure) → value_with_number nfs_procedure_number nfs_procedures (nfs_procedure_number p) ≡ Some p
each_nfs_procedure nfs.Null = refl
each_nfs_procedure nfs.Getattr = refl
each_nfs_procedure nfs.Setattr = refl
each_nfs_procedure nfs.Lookup = refl
each_nfs_procedure nfs.Access = refl
each_nfs_procedure nfs.Readlink = refl
each_nfs_procedure nfs.Read = refl
each_nfs_procedure nfs.Write = refl
each_nfs_procedure nfs.Create = refl
each_nfs_procedure nfs.Mkdir = refl
each_nfs_procedure nfs.Symlink = refl
each_nfs_procedure nfs.Mknod = refl
each_nfs_procedure nfs.Remove = refl
each_nfs_procedure nfs.Rmdir = refl
each_nfs_procedure nfs.Rename = refl
each_nfs_procedure nfs.Link = refl
each_nfs_procedure nfs.Readdir = refl
each_nfs_procedure nfs.Readdirplus = refl
each_nfs_procedure nfs.Fsstat = refl
each_nfs_procedure nfs.Fsinfo = refl
each_nfs_procedure nfs.Pathconf = refl
each_nfs_procedure nfs.Commit = refl

-- the numbers of the procedures of MOUNT (RFC 1813 section 5.2)
abbrev pub mount_procedure_number : MountProcedure → ℕ
mount_procedure_number mount.Null = 0
mount_procedure_number mount.Mnt = 1
mount_procedure_number mount.Umnt = 3
mount_procedure_number mount.Umntall = 4

abbrev pub mount_procedures : List MountProcedure
mount_procedures = mount.Null ∷ mount.Mnt ∷ mount.Umnt ∷ mount.Umntall ∷ []

pub each_mount_procedure : (p : MountProcedure) → value_with_number mount_procedure_number mount_procedures (mount_procedure_number p) ≡ Some p
each_mount_procedure mount.Null = refl
each_mount_procedure mount.Mnt = refl
each_mount_procedure mount.Umnt = refl
each_mount_procedure mount.Umntall = refl

-- the procedure of a call, by the numbers of its program, version and procedure
abbrev pub procedure_of : (program version procedure : ℕ) → Option Procedure
procedure_of program version procedure =
    if program == nfs_program && version == nfs_version then option_map Nfs (value_with_number nfs_procedure_number nfs_procedures procedure)
    else (if program == mount_program && version == mount_version then option_map Mount (value_with_number mount_procedure_number mount_procedures procedure)
    else None)
