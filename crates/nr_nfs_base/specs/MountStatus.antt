-- Statuses of MOUNT.
use Rattle.std.proofs.Common.{refl}
use Rattle.std.specs.Prelude.{◌≡◌, ℕ, List, [], ◌∷◌, Some, false, ◌==◌}
use Rattle.nr_nfs_base.specs.Codec.{value_with_number}
use Rattle.nr_nfs_base.specs.declared.mount_status.MountStatus.{MountStatus}
use Rattle.nr_nfs_base.specs.declared.mount_status.MountStatus.TheVariants.{Perm, Noent, Io, Acces, Notdir, Inval, Nametoolong, Notsupp, Serverfault}

-- the status of a MOUNT call that failed, and its number (RFC 1813 section 5.1.5, mountstat3)
abbrev pub mount_status_number : MountStatus → ℕ
mount_status_number Perm = 1
mount_status_number Noent = 2
mount_status_number Io = 5
mount_status_number Acces = 13
mount_status_number Notdir = 20
mount_status_number Inval = 22
mount_status_number Nametoolong = 63
mount_status_number Notsupp = 10004
mount_status_number Serverfault = 10006

abbrev pub mount_statuses : List MountStatus
mount_statuses = Perm ∷ Noent ∷ Io ∷ Acces ∷ Notdir ∷ Inval ∷ Nametoolong ∷ Notsupp ∷ Serverfault ∷ []

pub each_mount_status : (v : MountStatus) → value_with_number mount_status_number mount_statuses (mount_status_number v) ≡ Some v
each_mount_status Perm = refl
each_mount_status Noent = refl
each_mount_status Io = refl
each_mount_status Acces = refl
each_mount_status Notdir = refl
each_mount_status Inval = refl
each_mount_status Nametoolong = refl
each_mount_status Notsupp = refl
each_mount_status Serverfault = refl

pub mount_status_not_ok : (v : MountStatus) → (0 == mount_status_number v) ≡ false
mount_status_not_ok Perm = refl
mount_status_not_ok Noent = refl
mount_status_not_ok Io = refl
mount_status_not_ok Acces = refl
mount_status_not_ok Notdir = refl
mount_status_not_ok Inval = refl
mount_status_not_ok Nametoolong = refl
mount_status_not_ok Notsupp = refl
mount_status_not_ok Serverfault = refl
