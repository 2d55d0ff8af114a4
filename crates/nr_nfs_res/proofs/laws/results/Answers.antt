use Rattle.nr_nfs_base.specs.Same.{same}
use Rattle.nr_nfs_res.proofs.laws.results.Goals as goal

pub returns-clause-nfs_null : goal.returns-clause-nfs_null
returns-clause-nfs_null c = same _

pub returns-clause-nfs_getattr : goal.returns-clause-nfs_getattr
returns-clause-nfs_getattr c = same _

pub returns-clause-nfs_setattr : goal.returns-clause-nfs_setattr
returns-clause-nfs_setattr c = same _

pub returns-clause-nfs_lookup : goal.returns-clause-nfs_lookup
returns-clause-nfs_lookup c = same _

pub returns-clause-nfs_access : goal.returns-clause-nfs_access
returns-clause-nfs_access c = same _

pub returns-clause-nfs_readlink : goal.returns-clause-nfs_readlink
returns-clause-nfs_readlink c = same _

pub returns-clause-nfs_read : goal.returns-clause-nfs_read
returns-clause-nfs_read c = same _

pub returns-clause-nfs_write : goal.returns-clause-nfs_write
returns-clause-nfs_write c = same _

pub returns-clause-nfs_create : goal.returns-clause-nfs_create
returns-clause-nfs_create c = same _

pub returns-clause-nfs_mkdir : goal.returns-clause-nfs_mkdir
returns-clause-nfs_mkdir c = same _

pub returns-clause-nfs_symlink : goal.returns-clause-nfs_symlink
returns-clause-nfs_symlink c = same _

pub returns-clause-nfs_mknod : goal.returns-clause-nfs_mknod
returns-clause-nfs_mknod c = same _

pub returns-clause-nfs_remove : goal.returns-clause-nfs_remove
returns-clause-nfs_remove c = same _

pub returns-clause-nfs_rmdir : goal.returns-clause-nfs_rmdir
returns-clause-nfs_rmdir c = same _

pub returns-clause-nfs_rename : goal.returns-clause-nfs_rename
returns-clause-nfs_rename c = same _

pub returns-clause-nfs_link : goal.returns-clause-nfs_link
returns-clause-nfs_link c = same _

pub returns-clause-nfs_readdir : goal.returns-clause-nfs_readdir
returns-clause-nfs_readdir c = same _

pub returns-clause-nfs_readdirplus : goal.returns-clause-nfs_readdirplus
returns-clause-nfs_readdirplus c = same _

pub returns-clause-nfs_fsstat : goal.returns-clause-nfs_fsstat
returns-clause-nfs_fsstat c = same _

pub returns-clause-nfs_fsinfo : goal.returns-clause-nfs_fsinfo
returns-clause-nfs_fsinfo c = same _

pub returns-clause-nfs_pathconf : goal.returns-clause-nfs_pathconf
returns-clause-nfs_pathconf c = same _

pub returns-clause-nfs_commit : goal.returns-clause-nfs_commit
returns-clause-nfs_commit c = same _

pub returns-clause-mount_null : goal.returns-clause-mount_null
returns-clause-mount_null c = same _

pub returns-clause-mount_mnt : goal.returns-clause-mount_mnt
returns-clause-mount_mnt c = same _

pub returns-clause-mount_umnt : goal.returns-clause-mount_umnt
returns-clause-mount_umnt c = same _

pub returns-clause-mount_umntall : goal.returns-clause-mount_umntall
returns-clause-mount_umntall c = same _
