use Rattle.nr_nfs_base.specs.Same.{same}
use Rattle.nr_nfs_base.proofs.laws.opaque_limits.Goals as goal

pub returns-clause-handle : goal.returns-clause-handle
returns-clause-handle c = same _

pub returns-clause-mount_path : goal.returns-clause-mount_path
returns-clause-mount_path c = same _

pub returns-clause-name : goal.returns-clause-name
returns-clause-name c = same _

pub returns-clause-path : goal.returns-clause-path
returns-clause-path c = same _

pub returns-clause-bytes : goal.returns-clause-bytes
returns-clause-bytes c = same _
