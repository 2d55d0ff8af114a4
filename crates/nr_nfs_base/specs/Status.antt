-- Statuses of NFS.
use Rattle.std.proofs.Common.{refl}
use Rattle.std.specs.Prelude.{◌≡◌, ℕ, List, [], ◌∷◌, Some, false, ◌==◌}
use Rattle.nr_nfs_base.specs.Codec.{value_with_number}
use Rattle.nr_nfs_base.specs.declared.status.Status.{Status}
use Rattle.nr_nfs_base.specs.declared.status.Status.TheVariants.{Perm, Noent, Io, Nxio, Acces, Exist, Xdev, Nodev, Notdir, Isdir, Inval, Fbig, Nospc, Rofs, Mlink, Nametoolong, Notempty, Dquot, Stale, Remote, Badhandle, NotSync, BadCookie, Notsupp, Toosmall, Serverfault, Badtype, Jukebox}

-- the status of an NFS call that failed, and its number (RFC 1813 section 2.5, nfsstat3)
abbrev pub status_number : Status → ℕ
status_number Perm = 1
status_number Noent = 2
status_number Io = 5
status_number Nxio = 6
status_number Acces = 13
status_number Exist = 17
status_number Xdev = 18
status_number Nodev = 19
status_number Notdir = 20
status_number Isdir = 21
status_number Inval = 22
status_number Fbig = 27
status_number Nospc = 28
status_number Rofs = 30
status_number Mlink = 31
status_number Nametoolong = 63
status_number Notempty = 66
status_number Dquot = 69
status_number Stale = 70
status_number Remote = 71
status_number Badhandle = 10001
status_number NotSync = 10002
status_number BadCookie = 10003
status_number Notsupp = 10004
status_number Toosmall = 10005
status_number Serverfault = 10006
status_number Badtype = 10007
status_number Jukebox = 10008

abbrev pub statuses : List Status
statuses = Perm ∷ Noent ∷ Io ∷ Nxio ∷ Acces ∷ Exist ∷ Xdev ∷ Nodev ∷ Notdir ∷ Isdir ∷ Inval ∷ Fbig ∷ Nospc ∷ Rofs ∷ Mlink ∷ Nametoolong ∷ Notempty ∷ Dquot ∷ Stale ∷ Remote ∷ Badhandle ∷ NotSync ∷ BadCookie ∷ Notsupp ∷ Toosmall ∷ Serverfault ∷ Badtype ∷ Jukebox ∷ []

pub each_status : (v : Status) → value_with_number status_number statuses (status_number v) ≡ Some v
each_status Perm = refl
each_status Noent = refl
each_status Io = refl
each_status Nxio = refl
each_status Acces = refl
each_status Exist = refl
each_status Xdev = refl
each_status Nodev = refl
each_status Notdir = refl
each_status Isdir = refl
each_status Inval = refl
each_status Fbig = refl
each_status Nospc = refl
each_status Rofs = refl
each_status Mlink = refl
each_status Nametoolong = refl
each_status Notempty = refl
each_status Dquot = refl
each_status Stale = refl
each_status Remote = refl
each_status Badhandle = refl
each_status NotSync = refl
each_status BadCookie = refl
each_status Notsupp = refl
each_status Toosmall = refl
each_status Serverfault = refl
each_status Badtype = refl
each_status Jukebox = refl

pub status_not_ok : (v : Status) → (0 == status_number v) ≡ false
status_not_ok Perm = refl
status_not_ok Noent = refl
status_not_ok Io = refl
status_not_ok Nxio = refl
status_not_ok Acces = refl
status_not_ok Exist = refl
status_not_ok Xdev = refl
status_not_ok Nodev = refl
status_not_ok Notdir = refl
status_not_ok Isdir = refl
status_not_ok Inval = refl
status_not_ok Fbig = refl
status_not_ok Nospc = refl
status_not_ok Rofs = refl
status_not_ok Mlink = refl
status_not_ok Nametoolong = refl
status_not_ok Notempty = refl
status_not_ok Dquot = refl
status_not_ok Stale = refl
status_not_ok Remote = refl
status_not_ok Badhandle = refl
status_not_ok NotSync = refl
status_not_ok BadCookie = refl
status_not_ok Notsupp = refl
status_not_ok Toosmall = refl
status_not_ok Serverfault = refl
status_not_ok Badtype = refl
status_not_ok Jukebox = refl
